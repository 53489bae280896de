-- The answer of a run that lists rays or surfaces: the list, or the first step at which a number exceeds the limit.
use Rattle.std.specs.Prelude.{◌≡◌, ℕ, ◌-◌, ◌≤◌, List, ◌++◌, length, codes, decimal, ◌⊎◌, slice_index, All}
use Rattle.cone_definitions.specs.Rows.{Row as EquationRow}
use Rattle.cone_definitions.specs.Elimination.{Named}
use Rattle.cone_definitions.specs.Listings.{Enumeration, IsListed, ExceedsLimit, without_pairs}
use Rattle.cone_definitions.specs.declared.Order.{Order}
use Rattle.cone_definitions.specs.declared.LargeKind.TheVariants.{Value, Pair}
use Rattle.cone_text_definitions.specs.ConeText.{Cone as ConeText, system_of}
use Rattle.cone_text_definitions.specs.VectorText.{entries_text, list_text}
use Rattle.table_definitions.specs.Table.{Row}
use Rattle.surface_definitions.specs.declared.Coords.{Coords}
use Rattle.surface_definitions.specs.QuadEquations.{AreEquations}
use Rattle.surface_definitions.specs.TableSurfaces.{table_enumeration}
use Rattle.text_definitions.specs.Written.{line}
use Rattle.outcome_definitions.specs.declared.Status.TheVariants.{Done, Large}
use Rattle.outcome_definitions.specs.Outcomes.{Outcome}

-- no entry of the vectors is above this
abbrev pub AreUpTo : ℕ → List (List ℕ) → Type 0
AreUpTo most list = All (λ (x : List ℕ). All (λ entry. entry ≤ most) x) list

-- the number of vectors, and a line for each
abbrev pub listing : List ℕ → List (List ℕ) → List ℕ
listing name list = line (codes "# " ++ name ++ codes " " ++ decimal (length list)) ++ list_text list

abbrev pub list_outcome : List ℕ → List (List ℕ) → Outcome
list_outcome name list = record { status = Done; text = listing name list }

-- what is named, a ray or a pair of rays
abbrev pub kind_text : Named → List ℕ
kind_text (Value x) = codes " value" ++ entries_text x
kind_text (Pair u w) = codes " pair" ++ entries_text u ++ codes " and" ++ entries_text w

-- the step, counted from 0, its row's number, and what is named there
abbrev pub large_outcome : List ℕ → Named → Outcome
large_outcome taken kind = record {
  status = Large;
  text = line (codes "refused: large step " ++ decimal (length taken - 1) ++ codes " row " ++ decimal (slice_index taken (length taken - 1)) ++ kind_text kind);
}

-- the answer names the first step of an enumeration of which a number exceeds the limit
abbrev pub IsLargeAnswered : Enumeration → Outcome → Type 0
IsLargeAnswered e o = (taken : List ℕ) × (kind : Named) × ExceedsLimit e taken kind × (o ≡ large_outcome taken kind)

-- the answer of an enumeration whose vectors go by this name
abbrev pub IsEnumerationAnswer : List ℕ → Enumeration → Outcome → Type 0
IsEnumerationAnswer name e o = ((taken : List ℕ) × (list : List (List ℕ)) × IsListed e taken list × (o ≡ list_outcome name list)) ⊎ IsLargeAnswered e o

-- the rays of a cone in text
abbrev pub ray_enumeration : Order → ℕ → ConeText → Enumeration
ray_enumeration order limit cone = without_pairs (system_of cone) order limit

-- the answer to a table: its vertex surfaces, under the equations of the table
abbrev pub IsSurfacesAnswer : Coords → Order → ℕ → List Row → Outcome → Type 0
IsSurfacesAnswer coords order limit rows o =
    (equations : List EquationRow) × AreEquations coords rows equations × IsEnumerationAnswer (codes "surfaces") (table_enumeration coords order limit rows equations) o
