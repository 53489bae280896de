-- What `cover` is to answer: the orientable double cover of a table.
use Rattle.std.specs.Prelude.{◌≡◌, ◌↔◌, ℕ, ◌*◌, Bool, List, ◌++◌, length, IsTrue, MatchOption, codes, decimal}
use Rattle.table_definitions.specs.Table.{Row}
use Rattle.table_definitions.specs.TableText.{table_text}
use Rattle.table_definitions.specs.Places.{IsConnected}
use Rattle.cover_definitions.specs.Cover.{over, sheet, cover, cover_fault}
use Rattle.text_definitions.specs.Written.{line}
use Rattle.outcome_definitions.specs.declared.Status.TheVariants.{Refused}
use Rattle.outcome_definitions.specs.Outcomes.{Outcome}
use Rattle.outcome_definitions.specs.Information.{reported, classes_text}
use Rattle.outcome_definitions.specs.Canonical.{done}

-- a tetrahedron of the cover of n tetrahedra: the one below it, and its sheet
abbrev pub sheet_line : ℕ → ℕ → List ℕ
sheet_line n u = line (codes "# tet " ++ decimal u ++ codes " over " ++ decimal (over n u) ++ codes " sheet " ++ decimal (sheet n u))

-- the cover as a table, with its projection and whether it is connected as comments
abbrev pub cover_text : List Row → Bool → List ℕ
cover_text rows connected = table_text (cover rows) ++ classes_text (sheet_line (length rows)) (2 * length rows) ++ reported (codes "# connected ") connected

unfoldable pub large_cover_line : List ℕ
large_cover_line = line (codes "refused: cover too-many")

abbrev pub large_cover_outcome : Outcome
large_cover_outcome = record { status = Refused; text = large_cover_line }

-- the answer is the cover
abbrev pub IsCoverAnswered : List Row → Outcome → Type 0
IsCoverAnswered rows o = (connected : Bool) × (IsTrue connected ↔ IsConnected (cover rows)) × (o ≡ done (cover_text rows connected))

-- the answer of `cover` to a table: its cover, or that this would have too many tetrahedra
abbrev pub IsCoverAnswer : List Row → Outcome → Type 0
IsCoverAnswer rows o = MatchOption (cover_fault rows) (IsCoverAnswered rows o) (λ _. o ≡ large_cover_outcome)
