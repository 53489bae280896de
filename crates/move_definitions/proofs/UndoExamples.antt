-- The moves of the examples, undone.
use Rattle.std.proofs.Common.{◌≡◌, [], ◌∷◌, refl}
use Rattle.table_definitions.specs.Permutation.{four}
use Rattle.table_definitions.proofs.RelationExamples.{sphere_table}
use Rattle.table_definitions.proofs.Tables.{sphere, four_tets}
use Rattle.move_definitions.specs.Undos.{undo_of, former, CanTakeBack}
use Rattle.move_definitions.proofs.Computed.{computed}
use Rattle.move_definitions.proofs.RelationExamples.{at, moved_by_14, one_tet}

-- `14 0` on the sphere, and `41 0 3` on the table of four, which removes all rows
back : (former four_tets (undo_of sphere (at 0 four)) ≡ sphere) × (former one_tet (undo_of four_tets (at 0 (3 ∷ []))) ≡ four_tets)
unfolding computed
back = (refl, refl)

met_by_14 : CanTakeBack four_tets (undo_of sphere (at 0 four))
unfolding computed
met_by_14 = (sphere, record { table = sphere_table; moved = moved_by_14; accepted = refl }, refl)
