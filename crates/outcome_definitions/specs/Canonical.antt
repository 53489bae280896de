-- The answers of `sig`, `same` and `group`: signatures, a relabelling from one table to another, and the classes of
-- tables.
use Rattle.std.specs.Prelude.{◌≡◌, ℕ, ◌<◌, ◌⊎◌, List, ◌++◌, length, slice_index, codes, decimal}
use Rattle.table_definitions.specs.Permutation.{digits_of}
use Rattle.table_definitions.specs.Table.{Gluing, Row}
use Rattle.table_definitions.specs.Places.{IsConnected, IsLeastUnreached}
use Rattle.table_definitions.specs.Relabelling.{Relabelling, AreIsomorphic, relabelled_place}
use Rattle.signature_definitions.specs.Spelling.{IsSignature}
use Rattle.signature_definitions.specs.Labellings.{IsLeastRelabelling}
use Rattle.signature_definitions.specs.Census.{table_in, signature_in, IsCensus}
use Rattle.text_definitions.specs.Written.{line}
use Rattle.outcome_definitions.specs.declared.Status.TheVariants.{Done, Refused}
use Rattle.outcome_definitions.specs.Outcomes.{Outcome}
use Rattle.outcome_definitions.specs.Information.{classes_text}

abbrev pub done : List ℕ → Outcome
done text = record { status = Done; text = text }

-- no chain of gluings joins this tetrahedron, the least such, to the first one of table k, which is counted from 0
unfoldable pub not_connected_line : ℕ → ℕ → List ℕ
not_connected_line k tet = line (codes "refused: not-connected " ++ decimal k ++ codes " " ++ decimal tet)

abbrev pub not_connected_outcome : ℕ → ℕ → Outcome
not_connected_outcome k tet = record { status = Refused; text = not_connected_line k tet }

-- table k is disconnected, and the answer says so
abbrev pub IsNotConnected : ℕ → List Row → Outcome → Type 0
IsNotConnected k rows o = (tet : ℕ) × IsLeastUnreached rows tet × (o ≡ not_connected_outcome k tet)

-- the answer is the signature of a connected table
pub record IsSigned (rows : List Row) (o : Outcome) : Type 0 where
  pub connected : IsConnected rows
  pub text : List ℕ
  pub signature : IsSignature rows text
  pub reported : o ≡ done (line text)

-- the answer of `sig` to a table
abbrev pub IsSignatureAnswer : List Row → Outcome → Type 0
IsSignatureAnswer rows o = IsSigned rows o ⊎ IsNotConnected 0 rows o

-- a tetrahedron of the first table, its number in the second, and the images of its vertices
abbrev pub image_line : ℕ → Gluing → List ℕ
image_line tet s = line (decimal tet ++ codes " " ++ decimal s.tet ++ codes " " ++ digits_of s.perm)

abbrev pub relabelling_text : Relabelling → List ℕ
relabelling_text by = line (codes "same") ++ classes_text (λ tet. image_line tet (relabelled_place by tet)) (length by.images)

unfoldable pub different_text : List ℕ
different_text = line (codes "different")

abbrev pub different_outcome : Outcome
different_outcome = done different_text

-- the answer is the least relabelling that carries the first table to the second, or that there is none
abbrev pub IsCompared : List Row → List Row → Outcome → Type 0
IsCompared first second o = ((by : Relabelling) × IsLeastRelabelling first second by × (o ≡ done (relabelling_text by)))
    ⊎ ((AreIsomorphic first second → ⊥) × (o ≡ different_outcome))

-- the answer of `same` to two tables: the first, and then the second, is to be connected
abbrev pub IsSameAnswer : List Row × List Row → Outcome → Type 0
IsSameAnswer pair o =
    IsNotConnected 0 pair.0 o ⊎ (IsConnected pair.0 × IsNotConnected 1 pair.1 o) ⊎ (IsConnected pair.0 × IsConnected pair.1 × IsCompared pair.0 pair.1 o)

-- the class of table k
abbrev pub class_line : ℕ → ℕ → List ℕ
class_line k class = line (codes "table " ++ decimal k ++ codes " class " ++ decimal class)

-- the signature of a class
abbrev pub class_signature_line : ℕ → List ℕ → List ℕ
class_signature_line class text = line (codes "class " ++ decimal class ++ codes " " ++ text)

abbrev pub census_text : List ℕ → List (List ℕ) → List ℕ
census_text classes signatures =
    classes_text (λ k. class_line k (slice_index classes k)) (length classes)
    ++ classes_text (λ c. class_signature_line c (signature_in signatures c)) (length signatures)

-- the answer is the classes of connected tables
pub record IsGrouped (tables : List (List Row)) (o : Outcome) : Type 0 where
  pub connected : (k : ℕ) → k < length tables → IsConnected (table_in tables k)
  pub classes : List ℕ
  pub signatures : List (List ℕ)
  pub census : IsCensus tables classes signatures
  pub reported : o ≡ done (census_text classes signatures)

-- the answer names the first table that is disconnected
pub record IsFirstNotConnected (tables : List (List Row)) (o : Outcome) : Type 0 where
  pub table : ℕ
  pub in_range : table < length tables
  pub before : (k : ℕ) → k < table → IsConnected (table_in tables k)
  pub reported : IsNotConnected table (table_in tables table) o

-- the answer of `group` to tables
abbrev pub IsGroupAnswer : List (List Row) → Outcome → Type 0
IsGroupAnswer tables o = IsGrouped tables o ⊎ IsFirstNotConnected tables o
