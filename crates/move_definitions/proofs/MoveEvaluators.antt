-- A slow way to compute the table that results from a move, for the examples.
use Rattle.std.proofs.Common.{◌-◌, List, length, map, Option, Some, None}
use Rattle.std.specs.Prelude.{if◌then◌else◌, option_and_then, Result, Ok, Err, slice_index}
use Rattle.table_definitions.specs.Lists.{below, first_some}
use Rattle.table_definitions.specs.Permutation.{four}
use Rattle.table_definitions.specs.Table.{Gluing, Row, Face, glue, faces, same_face}
use Rattle.table_definitions.specs.Relabelling.{face_under}
use Rattle.move_definitions.specs.declared.MoveFault.{MoveFault}
use Rattle.move_definitions.specs.Moves.{Move, Facet, kept, new_length, new_facet, label_by_label, place_after, moved_gluing, play_fault}

-- the gluing of a face y of the new table, if y replaces x
abbrev pub outer_gluing : List Row → Move → Face → Face → Option (Option Gluing)
outer_gluing rows m y x =
    option_and_then (λ (s : Gluing). if same_face (face_under s x) y then Some (option_and_then (moved_gluing rows m x s) (glue rows x)) else None) (place_after rows m x)

abbrev pub inner_gluing_at : List Row → Move → Facet → Facet → Option Gluing
inner_gluing_at rows m f g = Some (record { tet = g.tet; perm = label_by_label f g })

abbrev pub inner_gluing : List Row → Move → Face → Option Gluing
inner_gluing rows m y =
    inner_gluing_at rows m (new_facet rows m (y.tet - kept rows m)) (new_facet rows m (slice_index (new_facet rows m (y.tet - kept rows m)).labels y.face))

abbrev pub or_inner : Option (Option Gluing) → Option Gluing → Option Gluing
or_inner None g = g
or_inner (Some h) g = h

abbrev pub new_gluing : List Row → Move → Face → Option Gluing
new_gluing rows m y = or_inner (first_some (outer_gluing rows m y) (faces (length rows))) (inner_gluing rows m y)

abbrev pub moved : List Row → Move → List Row
moved rows m = map (λ t. map (λ f. new_gluing rows m (record { tet = t; face = f })) four) (below (new_length rows m))

-- the result of playing a move: the table, or the error
abbrev pub played_on : Option MoveFault → List Row → Result (List Row) MoveFault
played_on None new = Ok new
played_on (Some fault) new = Err fault

abbrev pub play_on : List Row → Move → Result (List Row) MoveFault
play_on rows m = played_on (play_fault rows m) (moved rows m)
