-- The generator and the descent, computed.
use Rattle.move_definitions.proofs.Computed.{computed}
use Rattle.std.proofs.Common.{◌≡◌, [], ◌∷◌, length, Some, None, refl}
use Rattle.std.specs.Prelude.{count_by, ◌==◌}
use Rattle.table_definitions.specs.Permutation.{four}
use Rattle.move_definitions.specs.Moves.{Move}
use Rattle.move_definitions.specs.Certificates.{next_state, draw, candidates, drawn, descent_move}
use Rattle.table_definitions.proofs.Tables.{sphere, table_gb, four_tets}

-- the generator from the seed 0: the first list has `14 0` alone, the second has sixteen moves 2-3 and twelve 3-2, of
-- which `32 0 13` is drawn
generator : (next_state 0 ≡ 1442695040888963407) × (next_state 1442695040888963407 ≡ 1876011003808476466) × (draw 1876011003808476466 ≡ 436792849)
unfolding computed
generator = (refl, refl, refl)

made : (candidates sphere ≡ record { tet = 0; core = four } ∷ [])
    × (length (candidates four_tets) ≡ 28) × (count_by (λ (m : Move). length m.core == 3) (candidates four_tets) ≡ 16)
    × (drawn 1876011003808476466 (candidates four_tets) ≡ Some (record { tet = 0; core = 1 ∷ 3 ∷ [] }))
    × (descent_move four_tets ≡ Some (record { tet = 0; core = 3 ∷ [] })) × (descent_move table_gb ≡ None)
unfolding computed
made = (refl, refl, refl, refl, refl, refl)
