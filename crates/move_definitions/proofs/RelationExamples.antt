-- Examples of moves and the tables that result.
use Rattle.std.proofs.Common.{ℕ, List, [], ◌∷◌, refl}
use Rattle.table_definitions.specs.Permutation.{four}
use Rattle.table_definitions.specs.Table.{Row}
use Rattle.move_definitions.specs.Moves.{Move, IsMoved}
use Rattle.move_definitions.proofs.Computed.{computed}
use Rattle.move_definitions.proofs.MoveTests.{IsMoved-passed}
use Rattle.table_definitions.proofs.Tables.{sphere, four_tets, row, by}

-- `14 0` on the sphere results in the table of four, and `41 0 3` on that in one tetrahedron
abbrev pub at : ℕ → List ℕ → Move
at t core = record { tet = t; core = core }

pub moved_by_14 : IsMoved sphere (at 0 four) four_tets
unfolding computed
moved_by_14 = IsMoved-passed sphere (at 0 four) four_tets (record { core = refl; legal = refl; length_is = refl; fours = refl; inner = refl; outer = refl })

abbrev pub one_tet : List Row
one_tet = row (by 0 21) (by 0 9) (by 0 18) (by 0 21) ∷ []

pub moved_by_41 : IsMoved four_tets (at 0 (3 ∷ [])) one_tet
unfolding computed
moved_by_41 = IsMoved-passed four_tets (at 0 (3 ∷ [])) one_tet (record { core = refl; legal = refl; length_is = refl; fours = refl; inner = refl; outer = refl })
