-- The row is empty, or is among the others.
use Rattle.std.proofs.Common.{inl, inr, refl}
use Rattle.row_reduction.proofs.EliminatingLemmas.{no_entries}
use Rattle.row_reduction.proofs.blocks.push_distinct.Goals as goal
use Rattle.row_reduction.proofs.blocks.push_distinct.Goals.{else-not-is_empty-via-then-not-is_empty+else-not-contains_up_to_sign, else-not-is_empty-via-else-not-is_empty}

pub returns-else-not-is_empty-clause-keeps : goal.returns-else-not-is_empty-clause-keeps
returns-else-not-is_empty-clause-keeps c = elim c.else-not-is_empty.branch [
  | else-not-is_empty-via-then-not-is_empty+else-not-contains_up_to_sign w ↦ inr (refl, inr (rw w.deref.ensures.value at w.contains_up_to_sign.ensures.among w.if-not-contains_up_to_sign.false))
  | else-not-is_empty-via-else-not-is_empty w ↦ inr (refl, inl (no_entries c.entries.result.now c.args.row c.is_empty.result c.entries.ensures.entries c.is_empty.ensures w.if-not-is_empty.false))
]
