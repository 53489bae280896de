use Rattle.std.proofs.Common.{refl, subst, sym, arith}
use Rattle.std.proofs.Math.Facts.{Fits-lt-pow}
use Rattle.support_table.specs.Groups.{IsColumnOutside}
use Rattle.support_table.proofs.GroupLemmas.{column_beside}
use Rattle.support_table.proofs.groups.group_of.Goals.{then-outside-ne0, else-outside-ne0}
use Rattle.support_table.proofs.groups.group_of.Goals as goal

pub loop-k-preserved : goal.loop-k-preserved
loop-k-preserved c =
    let words = c.args.words.now in
    let outer = c.args.outer.now in
    let k = c.loop-k.k in
    elim c.if-outside-ne0.branch [
      | then-outside-ne0 w ↦ subst (IsColumnOutside words outer) (sym w.group-is) (column_beside words outer k _ _ (Fits-lt-pow (c.type_inv.outer k)) (Fits-lt-pow (c.type_inv.words k)) refl (omega (arith, w.if-outside-ne0.true)) refl)
      | else-outside-ne0 w ↦ subst (IsColumnOutside words outer) (sym w.group-is) c.loop-k.invariant
    ]
