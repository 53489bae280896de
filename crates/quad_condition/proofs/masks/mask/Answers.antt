use Rattle.std.proofs.Common.{◌≡◌, ℕ, ap, sym, ◌∙◌, Vec, length, arith}
use Rattle.std.specs.declared.alloc.Global.{Global}
use Rattle.std.specs.Prelude.{◌&&◌, nat_lt}
use Rattle.surface_definitions.specs.Coordinates.{columns}
use Rattle.support_bits.specs.Words.{bit_of}
use Rattle.quad_condition.specs.Marks.{is_marked}
use Rattle.quad_condition.proofs.MarkLemmas.{marks_set, marks_skip}
use Rattle.quad_condition.proofs.masks.mask.Goals.{then-is_marked, else-is_marked}
use Rattle.quad_condition.proofs.masks.mask.Goals as goal

pub loop-column-preserved : goal.loop-column-preserved
loop-column-preserved c = elim c.if-is_marked.branch [
  | then-is_marked w ↦ record {
    count = ap (λ (v : Vec ℕ Global). length v.items) w.words-is ∙ w.set_bit.ensures.count ∙ c.loop-column.invariant.count;
    bits = λ k. ap (λ (v : Vec ℕ Global). bit_of v.items k) w.words-is
        ∙ marks_set (is_marked c.args.space.coords c.args.least c.args.distance) c.loop-column.column c.loop-column.words.items _ c.loop-column.invariant.bits (sym w.if-is_marked.ensures)
        w.set_bit.ensures.set w.set_bit.ensures.others k;
  }
  | else-is_marked w ↦ record {
    count = ap (λ (v : Vec ℕ Global). length v.items) w.words-is ∙ c.loop-column.invariant.count;
    bits = λ k. ap (λ (v : Vec ℕ Global). bit_of v.items k) w.words-is
        ∙ marks_skip (is_marked c.args.space.coords c.args.least c.args.distance) c.loop-column.column c.loop-column.words.items c.loop-column.invariant.bits (sym w.if-is_marked.ensures) k;
  }
]

pub returns : goal.returns
returns c =
    let all : c.loop-column.column ≡ columns c.args.space.coords c.args.space.tets = omega arith in
    record {
      count = c.loop-column.invariant.count;
      bits = λ k. c.loop-column.invariant.bits k ∙ ap (λ n. nat_lt k n && is_marked c.args.space.coords c.args.least c.args.distance k) all;
    }
