-- A making has as many moves as requested while the number of tetrahedra allows it.
use Rattle.std.specs.Prelude.{◌≡◌, ◌≢◌, ℕ, ◌+◌, ◌*◌, ◌<◌, ◌≤◌, List, [], length, None, ◌⊎◌}
use Rattle.table_definitions.specs.Permutation.{four}
use Rattle.table_definitions.specs.Table.{max_tets, Row}
use Rattle.move_definitions.specs.Moves.{Move, play_fault, PlaysAll}
use Rattle.move_definitions.specs.Certificates.{candidates, IsMaking}
use Rattle.certificate_definitions.specs.Makings.{IsMade}

-- while three tetrahedra more are within the limit, the move 1-4 is accepted at each tetrahedron
abbrev pub OneFoursAreAccepted : Type 0
OneFoursAreAccepted = (rows : List Row) (t : ℕ) → t < length rows → length rows + 3 ≤ max_tets → play_fault rows (record { tet = t; core = four }) ≡ None

-- so there is a move to draw
abbrev pub CandidatesAreThere : Type 0
CandidatesAreThere = (rows : List Row) → 0 < length rows → length rows + 3 ≤ max_tets → candidates rows ≢ []

-- each move adds at most three tetrahedra
abbrev pub PlaysAddAtMostThree : Type 0
PlaysAddAtMostThree = (rows : List Row) (moves : List Move) (last : List Row) → 0 < length rows → PlaysAll rows moves last → (0 < length last) × (length last ≤ length rows + 3 * length moves)

-- a making has as many moves as requested, or ends with a table to which three tetrahedra cannot be added within the
-- limit
abbrev pub MakingsEndAtLimit : Type 0
MakingsEndAtLimit = (most state : ℕ) (rows : List Row) (moves : List Move) (last : List Row) → 0 < length rows → IsMaking most state rows moves last →
    (length moves ≡ most) ⊎ (max_tets < length last + 3)

-- it has as many where three tetrahedra for each move are within the limit
abbrev pub MakingsHaveMost : Type 0
MakingsHaveMost = (most state : ℕ) (rows : List Row) (moves : List Move) (last : List Row) → 0 < length rows → length rows + 3 * most ≤ max_tets →
    IsMaking most state rows moves last → length moves ≡ most

-- the certificate of a table that is made from at most 333 moves has exactly as many moves, and such a table is there
abbrev pub CertificatesHaveMost : Type 0
CertificatesHaveMost = (seed most : ℕ) (table : List Row) (certificate : List Move) → most ≤ 333 → IsMade seed most table certificate → length certificate ≡ most

abbrev pub TablesAreMadeWithMost : Type 0
TablesAreMadeWithMost = (seed most : ℕ) → most ≤ 333 → (table : List Row) × (certificate : List Move) × IsMade seed most table certificate × (length certificate ≡ most)
