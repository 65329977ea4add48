-- A set that is divided, class after class, and the step that divides it.
use Rattle.std.proofs.Common.{◌≡◌, ◌∙◌, ◌+◌, ◌<◌, ◌≤◌, ◌++◌, ℕ, suc, true, false, List, [], ◌∷◌, length, length-append, take, drop}
use Rattle.std.proofs.Common.{Option, Some, slice_get, refl, sym, ap, subst, arith}
use Rattle.std.specs.List.{AllZip, filter_map}
use Rattle.std.proofs.lemmas.List.Elements.{All-from_recursion}
use Rattle.list_views.proofs.Items.{take_past}
use Rattle.descent.specs.declared.proof.ProofStep.TheVariants.{Split}
use Rattle.descent.specs.declared.rules.PathRule.{PathRule}
use Rattle.descent.specs.Components.{AreClasses}
use Rattle.descent.specs.Steps.{Given, set_of, give, parts_left, same_option}
use Rattle.descent.proofs.Walked.{gave}
use Rattle.chain_proofs.specs.Dealt.{is_dealt, Rises}
use Rattle.chain_proofs.specs.inner.Dealt.{IsSet, AreSets, HasRoom, need, owed}
use Rattle.chain_proofs.specs.inner.Sets.{AreAt, IsApart, IsStepOf, IsHanded, IsTurned, is_alone}
use Rattle.chain_proofs.specs.Sets.{AreOwn}
use Rattle.chain_proofs.specs.Unfinished.{HoldsAt}
use Rattle.chain_proofs.proofs.Charging.{charge_some, charges, drop_next, handed_owes, handed_sets, less_needed, parts_full}
use Rattle.chain_proofs.proofs.Closing.{later}
use Rattle.chain_proofs.proofs.Dividing.{as_long, divided, gives_more}
use Rattle.chain_proofs.proofs.Owning.{zip_more}
use Rattle.chain_proofs.proofs.Spending.{given_is, next_most, owed_at}

-- the parts of the first classes, with the steps that take them; what these need and the later classes is less than what the set needs
pub record IsDivided (count : ℕ) (own : List PathRule) (set : List ℕ) (classes : List (List ℕ)) (i number : ℕ) (given : Given)
    (parts : List (List ℕ)) (steps : List (Option ℕ)) (after : Given) : Type 0 where
  pub parts_are : AllZip (AreAt set) (take i classes) parts
  pub steps_are : AllZip (IsStepOf own) (take i classes) steps
  pub lengths : length parts ≡ length steps
  pub gives : give number (filter_map same_option (parts_left set parts steps)) given ≡ Some after
  pub sets : AreSets count after
  pub paid : suc (owed (suc number) after + charges own (drop i classes)) ≤ owed number given

divided_none : (count : ℕ) (rules own : List PathRule) (set : List ℕ) (classes : List (List ℕ)) (number : ℕ) (given : Given)
    → AreOwn rules set own → AreClasses own classes → IsApart own classes → set_of (slice_get given number) ≡ Some set
    → AreSets count given → IsDivided count own set classes 0 number given [] [] given
divided_none count rules own set classes number given are is apart has_set sets = record {
  parts_are = tt;
  steps_are = tt;
  lengths = refl;
  gives = refl;
  sets = sets;
  paid =
      let all = owed_at given number set (given_is (slice_get given number) set has_set) in
      let long = ap need (as_long rules set own are) in
      let less = less_needed own classes is apart in
      omega (arith, all, long, less);
}

pub divided_first : (count : ℕ) (rules own : List PathRule) (set : List ℕ) (classes : List (List ℕ)) (number : ℕ) (given : Given)
    (parts : List (List ℕ)) (steps : List (Option ℕ)) → parts ≡ [] → steps ≡ [] → AreOwn rules set own → AreClasses own classes
    → IsApart own classes → set_of (slice_get given number) ≡ Some set → AreSets count given
    → IsDivided count own set classes 0 number given parts steps given
divided_first count rules own set classes number given parts steps p s are is apart has_set sets =
    subst (λ (ps : List (List ℕ)). IsDivided count own set classes 0 number given ps steps given) (sym p)
    (subst (λ (ss : List (Option ℕ)). IsDivided count own set classes 0 number given [] ss given) (sym s)
    (divided_none count rules own set classes number given are is apart has_set sets))

pub divided_more : (count : ℕ) (rules own : List PathRule) (set : List ℕ) (classes : List (List ℕ)) (i number : ℕ)
    (given mid after : Given) (parts more_parts : List (List ℕ)) (steps more_steps : List (Option ℕ)) (class part : List ℕ)
    (step : Option ℕ) → AreOwn rules set own → IsSet count set → slice_get classes i ≡ Some class
    → IsDivided count own set classes i number given parts steps mid → AreAt set class part
    → IsHanded own set class part number mid step after → more_parts ≡ parts ++ part ∷ [] → more_steps ≡ steps ++ step ∷ []
    → IsDivided count own set classes (i + 1) number given more_parts more_steps after
divided_more count rules own set classes i number given mid after parts more_parts steps more_steps class part step are is_set e h at
    handed f g = record {
      parts_are = zip_more (AreAt set) classes parts more_parts i class part e h.parts_are at f;
      steps_are = zip_more (IsStepOf own) classes steps more_steps i class step e h.steps_are handed.step_is g;
      lengths = ap length f ∙ length-append parts (part ∷ []) ∙ ap (λ (k : ℕ). k + 1) h.lengths
          ∙ sym (ap length g ∙ length-append steps (step ∷ []));
      gives = ap (λ (ps : List (List ℕ)). give number (filter_map same_option (parts_left set ps more_steps)) given) f
          ∙ ap (λ (ss : List (Option ℕ)). give number (filter_map same_option (parts_left set (parts ++ part ∷ []) ss)) given) g
          ∙ gives_more number set parts steps part step given mid after h.lengths h.gives handed.gives;
      sets = handed_sets count own set class part number mid after step is_set h.sets handed;
      paid =
          let owes = handed_owes own set class part number mid after step is_set.rise (as_long rules set own are) at handed in
          let next = ap (charges own) (drop_next classes i class e) in
          let paid = h.paid in
          omega (arith, owes, next, paid);
    }

-- the set is still given to its step
still_given : (count : ℕ) (own : List PathRule) (set : List ℕ) (classes : List (List ℕ)) (i number : ℕ) (given mid : Given)
    (parts : List (List ℕ)) (steps : List (Option ℕ)) → set_of (slice_get given number) ≡ Some set
    → IsDivided count own set classes i number given parts steps mid → slice_get mid number ≡ Some (Some set)
still_given count own set classes i number given mid parts steps has_set h =
    (gave number (filter_map same_option (parts_left set parts steps)) given mid h.gives).kept number set
    (given_is (slice_get given number) set has_set)

pub still_later : (count : ℕ) (own : List PathRule) (set : List ℕ) (classes : List (List ℕ)) (i number next : ℕ) (given mid : Given)
    (parts : List (List ℕ)) (steps : List (Option ℕ)) → set_of (slice_get given number) ≡ Some set
    → IsDivided count own set classes i number given parts steps mid → is_dealt mid next ≡ true → number < next
still_later count own set classes i number next given mid parts steps has_set h dealt = later mid number next set dealt
    (ap set_of (still_given count own set classes i number given mid parts steps has_set h))

-- there is a step for a class that needs one
pub still_room : (count : ℕ) (own : List PathRule) (set : List ℕ) (classes : List (List ℕ)) (i number next : ℕ) (given mid : Given)
    (parts : List (List ℕ)) (steps : List (Option ℕ)) (class : List ℕ) → set_of (slice_get given number) ≡ Some set
    → IsDivided count own set classes i number given parts steps mid → is_dealt mid next ≡ true → HasRoom number given
    → slice_get classes i ≡ Some class → is_alone own class ≡ false → next < length mid
still_room count own set classes i number next given mid parts steps class has_set h dealt room e alone =
    let low = still_later count own set classes i number next given mid parts steps has_set h dealt in
    let most = next_most mid (suc number) next dealt (omega (arith, low)) in
    let long = (gave number (filter_map same_option (parts_left set parts steps)) given mid h.gives).count in
    let here = ap (charges own) (drop_next classes i class e) in
    let some = charge_some own class alone in
    let paid = h.paid in
    omega (arith, most, long, here, some, paid, room)

pub split_holds : (count : ℕ) (rules : List PathRule) (set : List ℕ) (own : List PathRule) (number i : ℕ) (given after : Given)
    (classes parts : List (List ℕ)) (steps : List (Option ℕ)) → AreOwn rules set own → Rises 0 set → AreClasses own classes
    → set_of (slice_get given number) ≡ Some set → length classes ≤ i
    → IsDivided count own set classes i number given parts steps after → HoldsAt rules number given (Split parts steps) after
split_holds count rules set own number i given after classes parts steps are rise is has_set l h = record {
  set = set;
  given_set = has_set;
  holds =
      let whole = take_past i classes l in
      divided rules set own are rise classes parts is
      (subst (λ (cs : List (List ℕ)). AllZip (AreAt set) cs parts) whole h.parts_are) steps
      (subst (λ (cs : List (List ℕ)). AllZip (IsStepOf own) cs steps) whole h.steps_are);
  gives = h.gives;
}

pub split_turns : (rules : List PathRule) (set : List ℕ) (own : List PathRule) (number i : ℕ) (given after : Given)
    (classes parts : List (List ℕ)) (steps : List (Option ℕ)) → AreOwn rules set own → Rises 0 set → AreClasses own classes
    → set_of (slice_get given number) ≡ Some set → length classes ≤ i
    → IsDivided (length rules) own set classes i number given parts steps after → IsTurned rules number given (Split parts steps) after
split_turns rules set own number i given after classes parts steps are rise is has_set l h = record {
  holds = split_holds (length rules) rules set own number i given after classes parts steps are rise is has_set l h;
  limits = sym h.lengths;
  lean = All-from_recursion (λ (part : List ℕ). 0 < length part) parts (parts_full set classes parts
      (subst (λ (cs : List (List ℕ)). AllZip (AreAt set) cs parts) (take_past i classes l) h.parts_are) is.full);
  sets = h.sets;
  paid = let paid = h.paid in omega (arith, paid);
}
