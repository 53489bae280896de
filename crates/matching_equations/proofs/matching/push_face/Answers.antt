use Rattle.std.proofs.Common.{◌++◌, ap, sym, ◌∙◌, append-nil}
use Rattle.table_definitions.specs.Table.{is_face_before}
use Rattle.matching_equations.proofs.Matched.{face_rows-lesser, face_rows-greater, face_rows-boundary}
use Rattle.matching_equations.proofs.matching.push_face.Goals as goal

pub returns-in_ok-push_glued-clause-rows : goal.returns-in_ok-push_glued-clause-rows
returns-in_ok-push_glued-clause-rows c =
    c.in_ok-push_glued.ensures.rows
    ∙ ap (λ r. c.args.system.now.rows ++ r) (sym (face_rows-lesser c.args.coords.system c.args.table.now c.args.system.now.columns c.args.face c.in-Some.glue c.in-Some.ensures.value (ap (is_face_before c.args.face) (sym c.other_side.ensures.value) ∙ sym c.if-is_before.ensures)))

pub returns-else-is_before-clause-rows : goal.returns-else-is_before-clause-rows
returns-else-is_before-clause-rows c =
    sym (append-nil c.args.system.now.rows)
    ∙ ap (λ r. c.args.system.now.rows ++ r) (sym (face_rows-greater c.args.coords.system c.args.table.now c.args.system.now.columns c.args.face c.in-Some.glue c.in-Some.ensures.value (ap (is_face_before c.args.face) (sym c.other_side.ensures.value) ∙ sym c.if-is_before.ensures)))

pub returns-in_default-clause-rows : goal.returns-in_default-clause-rows
returns-in_default-clause-rows c =
    sym (append-nil c.args.system.now.rows)
    ∙ ap (λ r. c.args.system.now.rows ++ r) (sym (face_rows-boundary c.args.coords.system c.args.table.now c.args.system.now.columns c.args.face c.in_default.ensures.value))
