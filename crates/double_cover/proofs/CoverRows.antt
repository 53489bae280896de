-- The rows of the cover, made one after another.
use Rattle.std.proofs.Common.{◌≡◌, ℕ, ◌*◌, ◌<◌, List, [], ◌∷◌, length, map, Option, option_map, slice_index_or, ap, ◌∙◌, None}
use Rattle.std.proofs.lemmas.List.Elements.{All-get_or}
use Rattle.table_definitions.specs.Lists.{below}
use Rattle.table_definitions.specs.Table.{Gluing, Row, IsTable, glue}
use Rattle.table_definitions.proofs.ListFacts.{four_made}
use Rattle.cover_definitions.specs.Cover.{over, sheet, lifted, cover_row, cover, face_below}
use Rattle.cover_laws.proofs.Sheets.{over_below}

-- the gluing of a face of the cover
abbrev pub glued_over : List Row → ℕ → ℕ → Option Gluing
glued_over rows u f = option_map (lifted (length rows) (sheet (length rows) u)) (glue rows (face_below (length rows) (record { tet = u; face = f })))

-- four faces make a row
pub row_is : (rows : List Row) (u : ℕ) (a b c d : Option Gluing) → IsTable rows → u < 2 * length rows
    → a ≡ glued_over rows u 0 → b ≡ glued_over rows u 1 → c ≡ glued_over rows u 2 → d ≡ glued_over rows u 3 → a ∷ b ∷ c ∷ d ∷ [] ≡ cover_row rows u
unfolding cover_row
row_is rows u a b c d table l ea eb ec ed =
    (λ i. ea i ∷ eb i ∷ ec i ∷ ed i ∷ [])
    ∙ four_made (option_map (lifted (length rows) (sheet (length rows) u))) None (slice_index_or rows (over (length rows) u) [])
    (All-get_or (λ (row : Row). length row ≡ 4) rows (over (length rows) u) [] (over_below (length rows) u l) table.four_faces)

-- the rows of all tetrahedra are the cover
pub all_rows : (rows new : List Row) (t : ℕ) → t ≡ 2 * length rows → new ≡ map (cover_row rows) (below t) → new ≡ cover rows
unfolding cover
all_rows rows new t e is = is ∙ ap (λ k. map (cover_row rows) (below k)) e
