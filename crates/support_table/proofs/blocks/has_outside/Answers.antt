use Rattle.std.proofs.Common.{ap, sym, not, ◌∙◌}
use Rattle.std.proofs.lemmas.Bool.{not-false}
use Rattle.support_table.proofs.BlockLemmas.{in_union_iff}
use Rattle.support_table.proofs.blocks.has_outside.Goals as goal

pub are_covered-requires-clause-first : goal.are_covered-requires-clause-first
are_covered-requires-clause-first c = c.words.ensures.count ∙ sym c.requires.first

pub are_covered-requires-clause-second : goal.are_covered-requires-clause-second
are_covered-requires-clause-second c = c.words-2.ensures.count ∙ sym c.requires.second

pub returns : goal.returns
returns c =
    let f = in_union_iff _ _ _ _ _ c.words.ensures c.words-2.ensures in
    (λ is_false. f.0 (c.are_covered.ensures.0 (not-false _ is_false)), λ inside. ap not (c.are_covered.ensures.1 (f.1 inside)))
