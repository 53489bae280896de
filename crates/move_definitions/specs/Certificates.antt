-- The standard sphere, certificates, the descent to it, and the generator that makes tables from it.
use Rattle.std.specs.Prelude.{◌≡◌, ℕ, ◌+◌, ◌*◌, ◌/◌, ◌%◌, ◌^◌, Bool, List, [], ◌∷◌, ◌++◌, length, map, filter, find, Option, Some, None, is_none, ◌⊎◌}
use Rattle.std.specs.Option.{option_or}
use Rattle.std.specs.List.{slice_index_or}
use Rattle.table_definitions.specs.Lists.{below, pairs_of}
use Rattle.table_definitions.specs.Permutation.{four, others}
use Rattle.table_definitions.specs.Table.{Gluing, Row}
use Rattle.table_definitions.specs.Places.{edge_ends}
use Rattle.table_definitions.specs.Relabelling.{AreIsomorphic}
use Rattle.move_definitions.specs.Moves.{Move, play_fault, Plays, PlaysAll}

-- the standard sphere, 0:1023 0:1023 0:1230 0:3012
abbrev pub to_itself : List ℕ → Option Gluing
to_itself p = Some (record { tet = 0; perm = p })

abbrev pub standard_sphere : List Row
standard_sphere = (to_itself (1 ∷ 0 ∷ 2 ∷ 3 ∷ []) ∷ to_itself (1 ∷ 0 ∷ 2 ∷ 3 ∷ []) ∷ to_itself (1 ∷ 2 ∷ 3 ∷ 0 ∷ []) ∷ to_itself (3 ∷ 0 ∷ 1 ∷ 2 ∷ []) ∷ []) ∷ []

abbrev pub IsStandard : List Row → Type 0
IsStandard rows = AreIsomorphic rows standard_sphere

-- the moves carry the table to one isomorphic to the standard sphere
abbrev pub IsCertificate : List Row → List Move → Type 0
IsCertificate rows moves = (last : List Row) × PlaysAll rows moves last × IsStandard last

-- the moves of a tetrahedron with these cores
abbrev pub moves_at : ℕ → List (List ℕ) → List Move
moves_at t cores = map (λ core. record { tet = t; core = core }) cores

-- the moves of n tetrahedra with these cores, by tetrahedron and then by core
abbrev pub moves_with : List (List ℕ) → ℕ → List Move
moves_with cores n = map (λ p. record { tet = p.0; core = p.1 }) (pairs_of (below n) cores)

-- the moves 4-1, 3-2, 2-3 and 1-4, each kind in the order of its texts
abbrev pub four_one_moves : ℕ → List Move
four_one_moves n = moves_with (map (λ v. v ∷ []) four) n

abbrev pub three_two_moves : ℕ → List Move
three_two_moves n = moves_with edge_ends n

abbrev pub two_three_moves : ℕ → List Move
two_three_moves n = moves_with (map others four) n

abbrev pub one_four_moves : ℕ → List Move
one_four_moves n = moves_with (four ∷ []) n

abbrev pub is_accepted : List Row → Move → Bool
is_accepted rows m = is_none (play_fault rows m)

-- the move of a descent: the first accepted 4-1, else the first accepted 3-2
unfoldable pub descent_move : List Row → Option Move
descent_move rows = option_or (find (is_accepted rows) (four_one_moves (length rows))) (find (is_accepted rows) (three_two_moves (length rows)))

-- while a table is not standard, the descent plays its move; it ends at a table that is standard or has none
abbrev pub IsDescent : List Row → List Move → List Row → Type 0
IsDescent rows [] last = (rows ≡ last) × (IsStandard rows ⊎ (descent_move rows ≡ None))
IsDescent rows (m ∷ ms) last = (IsStandard rows → ⊥) × (descent_move rows ≡ Some m) × ((next : List Row) × Plays rows m next × IsDescent next ms last)

-- the next state of the generator, and what is drawn from a state
abbrev pub next_state : ℕ → ℕ
next_state x = (x * 6364136223846793005 + 1442695040888963407) % 2 ^ 64

abbrev pub draw : ℕ → ℕ
draw x = x / 2 ^ 32

abbrev pub or_these : List Move → List Move → List Move
or_these [] rest = rest
or_these (m ∷ ms) rest = m ∷ ms

-- the moves from which one is drawn: the accepted 2-3 and 3-2 moves, or the accepted 1-4 moves if there are none
unfoldable pub candidates : List Row → List Move
candidates rows =
    or_these (filter (is_accepted rows) (two_three_moves (length rows) ++ three_two_moves (length rows))) (filter (is_accepted rows) (one_four_moves (length rows)))

-- the move drawn in a state
abbrev pub drawn : ℕ → List Move → Option Move
drawn x [] = None
drawn x (m ∷ ms) = Some (slice_index_or (m ∷ ms) (draw x % length (m ∷ ms)) m)

-- at most `most` moves are made, from a state before the first one, and lead from the first table to the last
abbrev pub IsMaking : ℕ → ℕ → List Row → List Move → List Row → Type 0
IsMaking most x rows [] last = (rows ≡ last) × ((most ≡ 0) ⊎ (candidates rows ≡ []))
IsMaking most x rows (m ∷ ms) last =
    (rest : ℕ) × (most ≡ rest + 1) × (drawn (next_state x) (candidates rows) ≡ Some m) × ((next : List Row) × Plays rows m next × IsMaking rest (next_state x) next ms last)
