-- A word of no kind.
use Rattle.std.proofs.Common.{sym}
use Rattle.std.specs.Prelude.{codes}
use Rattle.move_undo.proofs.Words.{differs, no_kind}
use Rattle.move_undo.proofs.reader.kind_of.Goals as goal

pub returns : goal.returns
returns c = sym (no_kind c.args.word.now (differs _ _ (codes "14") c.as_slice.ensures c.if-eq.ensures) (differs _ _ (codes "23") c.as_slice-2.ensures c.if-eq-2.ensures)
    (differs _ _ (codes "32") c.as_slice-3.ensures c.if-eq-3.ensures) (differs _ _ (codes "41") c.as_slice-4.ensures c.if-eq-4.ensures))
