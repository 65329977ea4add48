use Rattle.generate_text.proofs.Hundred.{listing_assembles}
use Rattle.generate_text.proofs.generate_laws.laws.listings_assemble.Goals as goal

pub returns : goal.returns
returns c = listing_assembles
