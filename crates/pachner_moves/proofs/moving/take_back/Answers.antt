use Rattle.std.proofs.Common.{ap, ◌∙◌}
use Rattle.move_definitions.specs.Undos.{Undo}
use Rattle.move_laws.proofs.BackLaws.{back_by, taken_back_by}
use Rattle.pachner_moves.proofs.moving.take_back.Goals as goal

pub replace-requires : goal.replace-requires
replace-requires c = back_by c.args.table.now c.args.undo.now c.deref.result.now c.deref-2.result.now c.requires (c.deref.ensures.0 ∙ c.put_numbers-removed.ensures) (c.deref-2.ensures.0 ∙ ap (λ (u : Undo). u.rows) c.undo.view_is)

pub returns-clause-row_for_row : goal.returns-clause-row_for_row
returns-clause-row_for_row c =
    taken_back_by c.args.table.now c.args.undo.now c.deref.result.now c.deref-2.result.now c.replace.new.self (c.deref.ensures.0 ∙ c.put_numbers-removed.ensures)
    (c.deref-2.ensures.0 ∙ ap (λ (u : Undo). u.rows) c.undo.view_is) c.replace.ensures.replaced
