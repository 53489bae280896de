use Rattle.quad_condition.proofs.BitLemmas.{two_bits_iff}
use Rattle.quad_condition.proofs.words.has_two_bits.Goals as goal

pub returns : goal.returns
returns c = two_bits_iff c.args.word c.requires c.ranges.word.fits
