-- Sums and lists of pieces, column by column.
use Rattle.std.proofs.Common.{◌≡◌, ℕ, ◌+◌, List, [], ◌∷◌, ◌++◌, map, flat_map, ap, ◌∙◌}
use Rattle.std.proofs.lemmas.List.{map-append, append-nil}
use Rattle.std.proofs.lemmas.Grind.{flat_map-append}
use Rattle.table_definitions.specs.Lists.{below}
use Rattle.table_definitions.proofs.ListFacts.{below_next}
use Rattle.surface_laws.proofs.PieceNumbers.{piece_at, of_column}

pub piece_next : (c n : ℕ) → map (piece_at c) (below (n + 1)) ≡ map (piece_at c) (below n) ++ piece_at c n ∷ []
piece_next c n = ap (map (piece_at c)) (below_next n) ∙ map-append (piece_at c) (below n) (n ∷ [])

pub column_next : (xs : List ℕ) (n : ℕ) → flat_map (of_column xs) (below (n + 1)) ≡ flat_map (of_column xs) (below n) ++ of_column xs n
column_next xs n =
    ap (flat_map (of_column xs)) (below_next n) ∙ flat_map-append (of_column xs) (below n) (n ∷ [])
    ∙ ap (λ ps. flat_map (of_column xs) (below n) ++ ps) (append-nil (of_column xs n))
