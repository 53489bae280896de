use Rattle.std.proofs.Common.{◌*◌, ◌%◌, ◌^◌, ◌<◌, bit_or, length, subst, sym, ap, ◌∙◌, arith}
use Rattle.std.proofs.lemmas.Bool.{false≢true}
use Rattle.std.proofs.lemmas.Grind.{get_or_default_zero}
use Rattle.support_table.specs.Masks.{IsOutsideAdded}
use Rattle.support_table.proofs.OutsideLemmas.{outside_none, outside_set}
use Rattle.support_table.proofs.outside.add_outside.Goals.{then-not-contains, else-not-contains}
use Rattle.support_table.proofs.outside.add_outside.Goals as goal

pub loop-column-init : goal.loop-column-init
loop-column-init c = outside_none c.args.columns.now c.args.bit c.args.masks.now.items

pub loop-column-preserved : goal.loop-column-preserved
loop-column-preserved c =
    let columns = c.args.columns.now in
    let bit = c.args.bit in
    let n = c.loop-column.column in
    let old = c.args.masks.now.items in
    let masks = c.loop-column.masks.items in
    let h = c.loop-column.invariant in
    let inside : n < length masks = omega (arith, c.loop-column-test.true, c.columns-column-end.ensures, c.requires.columns, h.count) in
    elim c.if-not-contains.branch [
      | then-not-contains w ↦ subst (IsOutsideAdded columns bit old) (sym (ap (λ v. v.items) w.masks-is))
          (outside_set columns bit n old masks _ h inside c.requires.bit (λ has. false≢true (sym w.if-not-contains.true ∙ c.contains.ensures.1 has))
          (ap (λ m. bit_or m (1 * 2 ^ bit % 2 ^ 64)) (w.index_mut.ensures.value ∙ get_or_default_zero masks n _ inside)))
      | else-not-contains w ↦ subst (IsOutsideAdded columns bit old) (sym (ap (λ v. v.items) w.masks-is)) h
    ]
