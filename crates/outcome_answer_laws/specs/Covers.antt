-- What `cover` answers: the orientation cover of a table.
use Rattle.std.specs.Prelude.{◌≡◌, ◌↔◌, ◌⊎◌, ◌*◌, ◌<◌, ◌≤◌, ℕ, Bool, List, length, option_map, IsTrue}
use Rattle.table_definitions.specs.Table.{max_tets, Row, Face, IsTable, glue}
use Rattle.table_definitions.specs.Places.{is_closed, IsConnected}
use Rattle.skeleton_definitions.specs.Orientation.{IsOrientable}
use Rattle.cover_definitions.specs.Cover.{over, sheet, above, lifted, cover, face_below, exchange}
use Rattle.cover_laws.specs.Laws.{CarriesCover}
use Rattle.text_document_definitions.specs.Documents.{table_document}
use Rattle.command_definitions.specs.declared.Request.TheVariants.{Cover}
use Rattle.outcome_definitions.specs.Outcomes.{Outcome}
use Rattle.outcome_definitions.specs.Canonical.{done}
use Rattle.outcome_definitions.specs.Covers.{cover_text, large_cover_outcome}
use Rattle.outcome_answer_laws.specs.Requests.{Means}

-- of 2 n tetrahedra two lie over each of n, on either sheet
abbrev pub TwoLieOver : ℕ → Type 0
TwoLieOver n = (t u : ℕ) → t < n → u < 2 * n → (over n u ≡ t) ↔ ((u ≡ above n t 0) ⊎ (u ≡ above n t 1))

-- an orientable table of twice the length, closed if and only if the other is: each face is glued over the face below
-- it, to the sheet across that gluing, or is a boundary face as that is; the deck transformation carries it to itself
pub record IsOrientationCover (rows new : List Row) : Type 0 where
  pub table : IsTable new
  pub twice : length new ≡ 2 * length rows
  pub two_over : TwoLieOver (length rows)
  pub lies_over : (x : Face) → x.tet < 2 * length rows → glue new x ≡ option_map (lifted (length rows) (sheet (length rows) x.tet)) (glue rows (face_below (length rows) x))
  pub orientable : IsOrientable new
  pub closed : IsTrue (is_closed new) ↔ IsTrue (is_closed rows)
  pub exchanged : CarriesCover rows (exchange (length rows)) new

-- the answer is the cover, and whether it is connected: over a connected table it is if and only if that is not
-- orientable
pub record IsCoverOutcome (rows : List Row) (o : Outcome) : Type 0 where
  pub is_cover : IsOrientationCover rows (cover rows)
  pub connected : Bool
  pub outcome : o ≡ done (cover_text rows connected)
  pub is_connected : IsTrue connected ↔ IsConnected (cover rows)
  pub orientation : IsConnected rows → 0 < length rows → IsTrue connected ↔ (¬ IsOrientable rows)

-- the answer is the cover, or a refusal if and only if it has more tetrahedra than the limit
pub record IsCovering (rows : List Row) (o : Outcome) : Type 0 where
  pub too_many : (o ≡ large_cover_outcome) ↔ (max_tets < 2 * length rows)
  pub reported : 2 * length rows ≤ max_tets → IsCoverOutcome rows o

abbrev pub CoversAreAnswered : Type 0
CoversAreAnswered = Means Cover table_document IsCovering
