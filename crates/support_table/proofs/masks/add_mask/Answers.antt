use Rattle.std.proofs.Common.{◌+◌, ◌*◌, ◌%◌, ◌^◌, ◌<◌, bit_or, length, subst, sym, ap, ◌∙◌, arith}
use Rattle.std.proofs.lemmas.Bool.{false≢true}
use Rattle.std.proofs.lemmas.Grind.{get_or_default_zero}
use Rattle.support_table.proofs.MaskLemmas.{IsAddedBelow, added_none, added_set, added_skip, added_all}
use Rattle.support_table.proofs.masks.add_mask.Goals.{then-contains, else-contains}
use Rattle.support_table.proofs.masks.add_mask.Goals as goal

pub loop-column-init : goal.loop-column-init
loop-column-init c = added_none c.args.columns.now c.args.bit c.args.masks.now.items

pub loop-column-preserved : goal.loop-column-preserved
loop-column-preserved c =
    let columns = c.args.columns.now in
    let bit = c.args.bit in
    let n = c.loop-column.column in
    let old = c.args.masks.now.items in
    let masks = c.loop-column.masks.items in
    let h = c.loop-column.invariant in
    let within : n < length old = omega (arith, c.loop-column-test.true, c.columns-column-end.ensures, c.requires.columns) in
    let inside : n < length masks = omega (arith, within, h.count) in
    elim c.if-contains.branch [
      | then-contains w ↦ subst (IsAddedBelow columns bit (n + 1) old) (sym (ap (λ v. v.items) w.masks-is))
          (added_set columns bit n old masks _ h within c.requires.bit (c.contains.ensures.0 w.if-contains.true)
          (ap (λ m. bit_or m (1 * 2 ^ bit % 2 ^ 64)) (w.index_mut.ensures.value ∙ get_or_default_zero masks n _ inside)))
      | else-contains w ↦ subst (IsAddedBelow columns bit (n + 1) old) (sym (ap (λ v. v.items) w.masks-is))
          (added_skip columns bit n old masks h (λ has. false≢true (sym w.if-contains.false ∙ c.contains.ensures.1 has)))
    ]

pub returns : goal.returns
returns c = added_all c.args.columns.now c.args.bit c.loop-column.column c.args.masks.now.items c.loop-column.masks.items c.loop-column.invariant (omega (arith, c.loop-column-test.false, c.columns-column-end.ensures))
