-- What is said of an answer of `prove`.
use Rattle.std.proofs.Common.{◌≡◌, ◌⊎◌, ◌++◌, ◌==◌, ℕ, zero, suc, Bool, true, false, List, [], ◌∷◌, get_or, Some, None, Result, Ok}
use Rattle.std.proofs.Common.{Err, IfOk, refl, sym, ap, ◌∙◌, subst, arith, inl, inr, append_assoc}
use Rattle.std.proofs.lemmas.List.{append_cancel_left}
use Rattle.std.specs.Prelude.{◌≢◌, codes}
use Rattle.std.specs.Fmt.{decimal}
use Rattle.list_views.specs.FaultWords.{joined}
use Rattle.input_steps.specs.declared.refused.Refused.{Refused}
use Rattle.input_steps.specs.declared.refused.Refused.TheVariants.{At, Memory}
use Rattle.desc_steps.specs.Answers.{AnswersAs}
use Rattle.desc_steps.specs.Headline.{AllEnd}
use Rattle.term_graph.specs.Limits.{most_nodes}
use Rattle.prove_call.specs.declared.answer.Answer.{Answer}
use Rattle.prove_call.specs.Answers as proving
use Rattle.prove_call.specs.Headline as prove
use Rattle.prove_call.specs.Lines.{yes_text}
use Rattle.prove_call.specs.Answers.{yes_with}
use Rattle.check_call.specs.declared.outcome.Outcome.{Outcome}
use Rattle.check_call.specs.Answers as check
use Rattle.check_call.specs.Lines.{accepted}
use Rattle.check_call.proofs.OneAnswer as checking
use Rattle.generate_text.specs.Descriptions.{description}
use Rattle.jterm.specs.declared.generate.Generated.{Generated}
use Rattle.jterm.specs.GenerateAnswers.{Proves, maybe_of, IsYes, IsMaybe, AnswersFiles}
use Rattle.jterm.specs.GenerateHeadline.{SaysYes, FilesEndIfYes}
use Rattle.jterm.specs.GenerateLines.{first_line, check_word, blocks_line, yes_begin}
use Rattle.jterm.specs.inner.GenerateSaid.{generated_of, HasAccepted}
use Rattle.jterm.proofs.GenerateCertifying.{Certifies, Reasons, certifies_or_reasons}

-- ---- lines

-- a line whose answer is not YES does not begin as one whose answer is
not_yes : (n : ℕ) (answer check : List ℕ) → get_or answer 0 0 ≡ 77 → SaysYes n (blocks_line n answer check) → ⊥
not_yes n answer check first says =
    let split : yes_begin n ++ says.0 ≡ codes "blocks " ++ (decimal n ++ (codes " answer YES" ++ says.0)) =
    ap (λ (bs : List ℕ). codes "blocks " ++ bs) (append_assoc (decimal n) (codes " answer YES") says.0) in
    let all : codes "blocks " ++ (decimal n ++ (codes " answer " ++ (answer ++ joined (codes " check " ∷ check ∷ codes "\n" ∷ []))))
    ≡ codes "blocks " ++ (decimal n ++ (codes " answer YES" ++ says.0)) = says.1 ∙ split in
    let behind = append_cancel_left (decimal n) _ _ (append_cancel_left (codes "blocks ") _ _ all) in
    let words : answer ++ joined (codes " check " ∷ check ∷ codes "\n" ∷ []) ≡ codes "YES" ++ says.0 = append_cancel_left
    (codes " answer ") _ _ behind in
    by answer first words
  where
    by : (bs : List ℕ) → get_or bs 0 0 ≡ 77 → bs ++ joined (codes " check " ∷ check ∷ codes "\n" ∷ []) ≡ codes "YES" ++ says.0 → ⊥
    by [] e same = omega (arith, e)
    by (b ∷ bs) e same = let f : b ≡ 89 = ap (λ (l : List ℕ). get_or l 0 0) same in omega (arith, e, f)

-- one whose answer is YES does
pub yes_says : (n : ℕ) (files : List (List ℕ)) (generated : Generated) → IsYes n files generated → SaysYes n generated.out
yes_says n files generated sure =
    let end : List ℕ = codes " check ACCEPTED\n" in
    let split : yes_begin n ++ end ≡ blocks_line n (codes "YES") (check_word true) =
    ap (λ (bs : List ℕ). codes "blocks " ++ bs) (append_assoc (decimal n) (codes " answer YES") end) in
    (end, sure.out ∙ sym split)

-- ---- what is said of an answer

certified : (answer : Answer) (files : List (List ℕ)) → Certifies description files answer → answer.status ≡ 0
certified answer files is = ap (λ (a : Answer). a.status) is.is

unproved : (answer : Answer) → Reasons answer → answer.status ≡ 1
unproved answer is = ap (λ (a : Answer). a.status) is.is

-- the certificate of an answer of status 0 is accepted
pub has_accepted : (files : List (List ℕ)) (answer : Answer) → Proves files (Ok answer) → answer.status ≡ 0 → HasAccepted answer.out files
has_accepted files answer proves none = by (certifies_or_reasons most_nodes description files answer proves)
  where
    by : Certifies description files answer ⊎ Reasons answer → HasAccepted answer.out files
    by (inl sure) = (sure.cert, (ap (λ (a : Answer). a.out) sure.is, sure.accepted))
    by (inr maybe) = absurd (let one = unproved answer maybe in omega (arith, none, one))

-- the line and the reason are those of the answer
pub answers : (n : ℕ) (files : List (List ℕ)) (answer : Answer) (result : Result Generated Refused) → Proves files (Ok answer)
    → AnswersAs (generated_of n answer (answer.status == 0)) result → AnswersFiles n files result
answers n files answer (Ok generated) proves is = subst (λ (g : Generated). IsYes n files g ⊎ IsMaybe n files g) (sym is)
    (by (certifies_or_reasons most_nodes description files answer proves))
  where
    by : Certifies description files answer ⊎ Reasons answer → IsYes n files (generated_of n answer (answer.status == 0))
        ⊎ IsMaybe n files (generated_of n answer (answer.status == 0))
    by (inl sure) = inl (record {
      cert = sure.cert;
      proved = subst (λ (a : Answer). Proves files (Ok a)) sure.is proves;
      checked = sure.accepted;
      out = ap (λ (a : Answer). blocks_line n (first_line a.out) (check_word (a.status == 0))) sure.is;
      reason = ap (λ (a : Answer). a.reason) sure.is;
    })
    by (inr maybe) = inr (record {
      text = answer.out;
      why = maybe.why;
      proved = subst (λ (a : Answer). Proves files (Ok a)) maybe.is proves;
      out = ap (λ (a : Answer). blocks_line n (first_line answer.out) (check_word (a.status == 0))) maybe.is;
      reason = ap (λ (a : Answer). a.reason) maybe.is;
    })
answers n files answer (Err (At place fault)) proves is = absurd is
answers n files answer (Err Memory) proves is = tt

-- what YES says
pub headline : (n : ℕ) (files : List (List ℕ)) (answer : Answer) (result : Result Generated Refused) → Proves files (Ok answer)
    → prove.AllEndIfYes files description (Ok answer)
    → AnswersAs (generated_of n answer (answer.status == 0)) result → FilesEndIfYes n files result
headline n files answer (Ok generated) proves ends is = λ says. by (certifies_or_reasons most_nodes description files answer proves)
    (subst (λ (g : Generated). SaysYes n g.out) is says)
  where
    by : Certifies description files answer ⊎ Reasons answer → SaysYes n (generated_of n answer (answer.status == 0)).out
        → AllEnd files description
    by (inl sure) says = ends (certified answer files sure)
    by (inr maybe) says = absurd (not_yes n (first_line answer.out) (check_word (answer.status == 0)) maybe.line says)
headline n files answer (Err refused) proves ends is = tt

-- the same where the description and what was checked are known to be these
pub files_answered : (n : ℕ) (files : List (List ℕ)) (desc : List ℕ) (answer : Answer) (is_accepted : Bool)
    (result : Result Generated Refused) → desc ≡ description
    → proving.Answers most_nodes desc files (Ok answer) → is_accepted ≡ (answer.status == 0)
    → AnswersAs (generated_of n answer is_accepted) result → AnswersFiles n files result
files_answered n files desc answer is_accepted result same proves checked said =
    answers n files answer result (subst (λ (d : List ℕ). proving.Answers most_nodes d files (Ok answer)) same proves)
    (subst (λ (b : Bool). AnswersAs (generated_of n answer b) result) checked said)

pub files_end : (n : ℕ) (files : List (List ℕ)) (desc : List ℕ) (answer : Answer) (is_accepted : Bool)
    (result : Result Generated Refused) → desc ≡ description
    → proving.Answers most_nodes desc files (Ok answer) → prove.AllEndIfYes files desc (Ok answer) → is_accepted ≡ (answer.status == 0)
    → AnswersAs (generated_of n answer is_accepted) result → FilesEndIfYes n files result
files_end n files desc answer is_accepted result same proves ends checked said =
    headline n files answer result (subst (λ (d : List ℕ). proving.Answers most_nodes d files (Ok answer)) same proves)
    (subst (λ (d : List ℕ). prove.AllEndIfYes files d (Ok answer)) same ends)
    (subst (λ (b : Bool). AnswersAs (generated_of n answer b) result) checked said)

-- ---- what a check says of an accepted certificate

-- it accepts it, or memory is wanting
pub accepts : (cert : List ℕ) (files : List (List ℕ)) (result : Result Outcome Refused)
    → check.Answers cert description files (Ok accepted) → check.Answers cert description files result → AnswersAs accepted result
accepts cert files (Ok outcome) is answer =
    let same : (let r : Result Outcome Refused = Ok outcome in r) ≡ Ok accepted =
    checking.answers_one cert description files (Ok outcome) (Ok accepted) answer is (λ e. cc) (λ e. cc) in
    cc
accepts cert files (Err (At place fault)) is answer =
    let same : (let r : Result Outcome Refused = Err (At place fault) in r) ≡ Ok accepted =
    checking.answers_one cert description files (Err (At place fault)) (Ok accepted) answer is (λ e. cc) (λ e. cc) in
    absurd (cc)
accepts cert files (Err Memory) is answer = tt

pub accepted_status : (outcome : Outcome) → AnswersAs accepted (Ok outcome) → (outcome.status == 0) ≡ true
accepted_status outcome is = ap (λ (o : Outcome). o.status == 0) is

pub accepted_refused : (refused : Refused) → AnswersAs accepted (Err refused) → AnswersAs true (Err refused)
accepted_refused (At place fault) is = is
accepted_refused Memory is = tt

-- of the bytes of the certificate in an output
pub accepts_cut : (out cert desc : List ℕ) (files : List (List ℕ)) (result : Result Outcome Refused) → HasAccepted out files
    → ((own : List ℕ) → out ≡ yes_text own → cert ≡ own) → desc ≡ description
    → check.Answers cert desc files result → AnswersAs accepted result
accepts_cut out cert desc files result has cut is answer =
    let same : cert ≡ has.0 = cut has.0 has.1.0 in
    let here : check.Answers has.0 desc files result = subst (λ (c : List ℕ). check.Answers c desc files result) same answer in
    accepts has.0 files result has.1.1 (subst (λ (d : List ℕ). check.Answers has.0 d files result) is here)

-- ---- what keeps a reason

-- a line that says MAYBE does not begin as one that says YES
pub maybe_says_not : (n : ℕ) (files : List (List ℕ)) (generated : Generated) → IsMaybe n files generated → SaysYes n generated.out → ⊥
maybe_says_not n files generated maybe says =
    let answer : Answer = maybe_of maybe.text maybe.why in
    by answer (certifies_or_reasons most_nodes description files answer maybe.proved) refl
  where
    by : (answer : Answer) → Certifies description files answer ⊎ Reasons answer → answer ≡ maybe_of maybe.text maybe.why → ⊥
    by answer (inl sure) same =
        let one : answer.status ≡ 1 = ap (λ (a : Answer). a.status) same in
        let none = certified answer files sure in
        omega (arith, one, none)
    by answer (inr reasons) same =
        let text : answer.out ≡ maybe.text = ap (λ (a : Answer). a.out) same in
        not_yes n (first_line maybe.text) (check_word false) (subst (λ (t : List ℕ). get_or (first_line t) 0 0 ≡ 77) text reasons.line)
        (subst (λ (out : List ℕ). SaysYes n out) maybe.out says)
