use Rattle.std.proofs.Common.{ℕ, ◌*◌, ◌/◌, ◌%◌, ◌^◌, List, set, bit_or, ap, ◌∙◌}
use Rattle.std.proofs.lemmas.Grind.{get_or_default_zero}
use Rattle.support_bits.specs.Words.{bit_of}
use Rattle.support_bits.proofs.WordLemmas.{bit_of-set_same, bit_of-set_other}
use Rattle.support_bits.proofs.bits.set_bit.Goals as goal

pub returns-clause-set : goal.returns-clause-set
returns-clause-set c =
    let i : ℕ = c.args.column in
    let words : List ℕ = c.args.words.now.items in
    ap (λ n. bit_of (set words (i / 64) (bit_or n (1 * 2 ^ (i % 64) % 2 ^ 64))) i) (c.index_mut.ensures.value ∙ get_or_default_zero words (i / 64) _ c.requires) ∙ bit_of-set_same words i c.requires

pub returns-clause-others : goal.returns-clause-others
returns-clause-others c k other =
    let i : ℕ = c.args.column in
    let words : List ℕ = c.args.words.now.items in
    ap (λ n. bit_of (set words (i / 64) (bit_or n (1 * 2 ^ (i % 64) % 2 ^ 64))) k) (c.index_mut.ensures.value ∙ get_or_default_zero words (i / 64) _ c.requires) ∙ bit_of-set_other words i k c.requires other
