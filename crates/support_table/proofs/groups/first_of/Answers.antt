use Rattle.std.proofs.Common.{refl, arith}
use Rattle.std.proofs.Math.Facts.{Fits-lt-pow}
use Rattle.support_table.proofs.GroupLemmas.{column_first}
use Rattle.support_table.proofs.groups.first_of.Goals as goal

pub returns-then-left-ne0 : goal.returns-then-left-ne0
returns-then-left-ne0 c =
    let k = c.loop-k.k in
    column_first c.args.words.now c.args.outer.now k _ _ (Fits-lt-pow (c.type_inv.outer k)) (Fits-lt-pow (c.type_inv.words k)) refl (omega (arith, c.if-left-ne0.true)) refl
