-- A word of no step.
use Rattle.std.proofs.Common.{sym}
use Rattle.std.specs.Prelude.{codes}
use Rattle.move_undo.proofs.Words.{differs, no_step}
use Rattle.move_undo.proofs.reader.step_named.Goals as goal

pub returns : goal.returns
returns c = sym (no_step c.args.word.now (differs _ _ (codes "undo") c.as_slice.ensures c.if-eq.ensures) (differs _ _ (codes "redo") c.as_slice-2.ensures c.if-eq-2.ensures))
