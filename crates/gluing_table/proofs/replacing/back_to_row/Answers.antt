use Rattle.std.proofs.Common.{◌≡◌, Option, None, arith, below_more, ap, ◌∙◌}
use Rattle.std.specs.Prelude.{option_and_then}
use Rattle.table_definitions.specs.Table.{Gluing}
use Rattle.table_definitions.specs.Replacing.{inverse_if_reached}
use Rattle.gluing_table.proofs.FirstBack.{face_back, row_entry, still_nothing, first_at, first_nowhere}
use Rattle.gluing_table.proofs.replacing.back_to_row.Goals as goal

pub loop-face-preserved : goal.loop-face-preserved
loop-face-preserved c =
    below_more (λ k. face_back c.args.target (c.args.number, c.args.row.now) k ≡ None) c.loop-face.face c.loop-face.invariant
    (still_nothing c.back_to_face-back.result _
    (c.back_to_face-back.ensures ∙ ap (λ (o : Option Gluing). option_and_then (inverse_if_reached c.args.target (record { tet = c.args.number; face = c.loop-face.face })) o)
    (row_entry c.args.row.now c.loop-face.face c.index-row-face.result (omega arith)))
    c.if-is_some.ensures)

pub returns-then-is_some : goal.returns-then-is_some
returns-then-is_some c =
    first_at (face_back c.args.target (c.args.number, c.args.row.now)) 4 c.loop-face.face c.back_to_face-back.result (omega arith) c.loop-face.invariant
    (c.back_to_face-back.ensures ∙ ap (λ (o : Option Gluing). option_and_then (inverse_if_reached c.args.target (record { tet = c.args.number; face = c.loop-face.face })) o)
    (row_entry c.args.row.now c.loop-face.face c.index-row-face.result (omega arith)))
    c.if-is_some.ensures

pub returns : goal.returns
returns c = first_nowhere (face_back c.args.target (c.args.number, c.args.row.now)) 4 c.loop-face.face (omega arith) c.loop-face.invariant
