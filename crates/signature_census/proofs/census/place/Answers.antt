-- The text is placed.
use Rattle.signature_census.proofs.PlacedTexts.{placed}
use Rattle.signature_census.proofs.census.place.Goals as goal

pub returns-clause-placed : goal.returns-clause-placed
returns-clause-placed c = placed c.args.text c.args.texts.now.keys c.in_ok-class.class c.insert_full.new.self.keys c.in_ok-class.ensures.index c.in_ok-class.ensures.keys
