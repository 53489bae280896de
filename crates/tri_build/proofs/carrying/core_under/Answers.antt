-- The bits are those of the mask of the core's image.
use Rattle.std.proofs.Common.{◌∙◌}
use Rattle.tri_build.proofs.Bits.{bits_are}
use Rattle.tri_build.proofs.carrying.core_under.Goals as goal

pub of_mask-requires-clause-some : goal.of_mask-requires-clause-some
of_mask-requires-clause-some c =
    let m = bits_are c.args.perm c.args.core c.bit_under.result c.bit_under-2.result c.bit_under-3.result c.bit_under-4.result c.bit_under.ensures.permutes c.size.ensures.core c.bit_under.ensures.value c.bit_under-2.ensures.value c.bit_under-3.ensures.value c.bit_under-4.ensures.value in
    m.some

pub of_mask-requires-clause-four_bits : goal.of_mask-requires-clause-four_bits
of_mask-requires-clause-four_bits c =
    let m = bits_are c.args.perm c.args.core c.bit_under.result c.bit_under-2.result c.bit_under-3.result c.bit_under-4.result c.bit_under.ensures.permutes c.size.ensures.core c.bit_under.ensures.value c.bit_under-2.ensures.value c.bit_under-3.ensures.value c.bit_under-4.ensures.value in
    m.four

pub returns : goal.returns
returns c =
    let m = bits_are c.args.perm c.args.core c.bit_under.result c.bit_under-2.result c.bit_under-3.result c.bit_under-4.result c.bit_under.ensures.permutes c.size.ensures.core c.bit_under.ensures.value c.bit_under-2.ensures.value c.bit_under-3.ensures.value c.bit_under-4.ensures.value in
    c.of_mask.ensures ∙ m.vertices
