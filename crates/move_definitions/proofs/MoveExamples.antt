-- Moves, computed.
use Rattle.move_definitions.proofs.Computed.{computed}
use Rattle.std.proofs.Common.{◌≡◌, ℕ, List, [], ◌∷◌, ◌++◌, Option, Some, None, Result, Ok, Err, refl}
use Rattle.std.specs.Prelude.{codes}
use Rattle.table_definitions.specs.Permutation.{four}
use Rattle.text_definitions.specs.declared.LexFault.{LexFault}
use Rattle.text_definitions.specs.Reading.{Reading, start_of, ◌>>=◌, need_line_at}
use Rattle.move_definitions.specs.declared.MoveFault.TheVariants.{Boundary, Repeated, NotMatched}
use Rattle.move_definitions.specs.Moves.{inverse_move}
use Rattle.move_definitions.specs.MoveText.{step_at, move_text, play, undo, Step}
use Rattle.move_definitions.proofs.MoveEvaluators.{play_on}
use Rattle.move_definitions.proofs.RelationExamples.{at}
use Rattle.table_definitions.proofs.Tables.{sphere, four_tets, row, free, by}

-- `14 0` on the sphere
four_tets_lem : play_on sphere (at 0 four) ≡ Ok four_tets
unfolding computed
four_tets_lem = refl

-- `41 0 3` on that table: 0:3120 0:1230 0:3012 0:3120
back : play_on four_tets (at 0 (3 ∷ [])) ≡ Ok (row (by 0 21) (by 0 9) (by 0 18) (by 0 21) ∷ [])
unfolding computed
back = refl

-- `32 0 13` on the table of four: three tetrahedra
three_tets : play_on four_tets (at 0 (1 ∷ 3 ∷ [])) ≡ Ok (
    row (by 1 21) (by 1 21) (by 1 21) (by 2 7)
    ∷ row (by 2 0) (by 0 21) (by 0 21) (by 0 21)
    ∷ row (by 1 0) (by 2 5) (by 0 7) (by 2 5) ∷ [])
unfolding computed
three_tets = refl

-- `41 0 0` on the table of four, and `23 0 0` on the sphere and on a tetrahedron without gluings
faults : (play_on four_tets (at 0 (0 ∷ [])) ≡ Err (NotMatched 1 3))
    × (play_on sphere (at 0 (1 ∷ 2 ∷ 3 ∷ [])) ≡ Err (Repeated 3))
    × (play_on (row free free free free ∷ []) (at 0 (1 ∷ 2 ∷ 3 ∷ [])) ≡ Err (Boundary 3))
unfolding computed
faults = (refl, refl, refl)

inverses : (inverse_move 1 (at 0 four) ≡ at 0 (3 ∷ [])) × (inverse_move 4 (at 0 (1 ∷ 3 ∷ [])) ≡ at 1 (1 ∷ 2 ∷ 3 ∷ [])) × (inverse_move 2 (at 0 (1 ∷ 2 ∷ 3 ∷ [])) ≡ at 0 (2 ∷ 3 ∷ [])) × (inverse_move 4 (at 0 (3 ∷ [])) ≡ at 0 four)
unfolding computed
inverses = (refl, refl, refl, refl)

-- what is written for moves
texts : (move_text (at 0 four) ≡ codes "14 0" ++ 10 ∷ []) × (move_text (at 1 (1 ∷ 2 ∷ 3 ∷ [])) ≡ codes "23 1 0" ++ 10 ∷ []) × (move_text (at 0 (1 ∷ 3 ∷ [])) ≡ codes "32 0 13" ++ 10 ∷ []) × (move_text (at 3 (2 ∷ [])) ≡ codes "41 3 2" ++ 10 ∷ [])
unfolding computed
texts = (refl, refl, refl, refl)

-- the step in the first line of a text
first_step : List ℕ → Option Step
first_step bytes = of_read (need_line_at (start_of bytes) >>= step_at)
  where
    of_read : Result (Step × Reading) LexFault → Option Step
    of_read (Ok x) = Some x.0
    of_read (Err e) = None

steps : (first_step (codes "# x" ++ 10 ∷ codes "23 1 0") ≡ Some (play (at 1 (1 ∷ 2 ∷ 3 ∷ [])))) × (first_step (codes "32 7 13 ") ≡ Some (play (at 7 (1 ∷ 3 ∷ []))))
    × (first_step (codes "41 3 02") ≡ None) × (first_step (codes " undo") ≡ Some undo) × (first_step (codes "undo 1") ≡ None) × (first_step (codes "32 7 31") ≡ None)
unfolding computed first_step
steps = (refl, refl, refl, refl, refl, refl)
