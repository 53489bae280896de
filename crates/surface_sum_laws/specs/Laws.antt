-- The admissible solutions of the equations of a table as sums of listed vertex surfaces (Haken 1961; Jaco and Oertel
-- 1984; Burton 2009).
use Rattle.std.specs.Prelude.{◌≡◌, ◌≢◌, ℕ, ◌*◌, ◌≤◌, ◌↔◌, List, length, map, slice_index}
use Rattle.std.specs.List.{All, AllPairs, Contains}
use Rattle.cone_definitions.specs.Rows.{Row as EquationRow, IsSolution}
use Rattle.cone_definitions.specs.Surfaces.{IsAdmissible, IsAdmissibleUnion, IsSurfaceList}
use Rattle.cone_definitions.specs.Vectors.{IsNonzero, IsInside}
use Rattle.table_definitions.specs.Lists.{below}
use Rattle.table_definitions.specs.Table.{Row, IsTable}
use Rattle.surface_definitions.specs.Coordinates.{columns, clash_list}
use Rattle.surface_definitions.specs.QuadEquations.{AreEquations}
use Rattle.surface_definitions.specs.declared.Coords.{Coords}
use Rattle.sum_definitions.specs.Adding.{sum_at}
use Rattle.sum_definitions.specs.Sums.{Term}
use Rattle.sum_laws.specs.Laws.{IsMultipleOfRay}

-- the equations of a table in these coordinates, and the list of its vertex surfaces
pub record IsListOfTable (rows : List Row) (coords : Coords) (equations : List EquationRow) (surfaces : List (List ℕ)) : Type 0 where
  pub table : IsTable rows
  pub are_equations : AreEquations coords rows equations
  pub is_list : IsSurfaceList (columns coords (length rows)) equations (clash_list coords (length rows)) surfaces

-- x is an admissible solution of the equations of the table
pub record IsAdmissibleSolution (rows : List Row) (coords : Coords) (equations : List EquationRow) (x : List ℕ) : Type 0 where
  pub solution : IsSolution (columns coords (length rows)) equations x
  pub admissible : IsAdmissible (clash_list coords (length rows)) x

-- any two of the terms are compatible: the union of their supports holds no clashing pair
abbrev pub AreCompatible : List Row → Coords → List Term → Type 0
AreCompatible rows coords terms = AllPairs (λ (term other : Term). IsAdmissibleUnion (clash_list coords (length rows)) term.vector other.vector) terms

-- each vector of the terms is in the list
abbrev pub AreListed : List (List ℕ) → List Term → Type 0
AreListed surfaces terms = All (λ (term : Term). Contains surfaces term.vector) terms

-- each vector of the terms is counted at least once
abbrev pub AreCounted : List Term → Type 0
AreCounted terms = All (λ (term : Term). 1 ≤ term.count) terms

-- x, times a positive number, is the sum of the terms: different listed vectors, each counted at least once
pub record IsSumOfListed (surfaces : List (List ℕ)) (x : List ℕ) (times : ℕ) (terms : List Term) : Type 0 where
  pub some : 1 ≤ times
  pub equal : (column : ℕ) → times * slice_index x column ≡ sum_at terms column
  pub counted : AreCounted terms
  pub listed : AreListed surfaces terms
  pub different : AllPairs (λ (term other : Term). term.vector ≢ other.vector) terms

-- a positive multiple of x is a sum of pairwise compatible listed vectors
abbrev pub IsCompatibleSum : List Row → Coords → List (List ℕ) → List ℕ → Type 0
IsCompatibleSum rows coords surfaces x = (times : ℕ) × (terms : List Term) × IsSumOfListed surfaces x times terms × AreCompatible rows coords terms

-- Theorem: a vector of the width of the table is an admissible solution iff a positive multiple of it is a sum of
-- pairwise compatible listed vectors
abbrev pub SolutionsAreSums : Type 0
SolutionsAreSums =
    (rows : List Row) (coords : Coords) (equations : List EquationRow) (surfaces : List (List ℕ)) (x : List ℕ) → IsListOfTable rows coords equations surfaces
    → length x ≡ columns coords (length rows) → IsAdmissibleSolution rows coords equations x ↔ IsCompatibleSum rows coords surfaces x

-- Theorem: if a positive multiple of x is a sum of listed vectors, each counted at least once, the supports of the
-- terms lie in that of x
abbrev pub SupportsAreInside : Type 0
SupportsAreInside =
    (surfaces : List (List ℕ)) (x : List ℕ) (times : ℕ) (terms : List Term) → IsSumOfListed surfaces x times terms → All (λ (term : Term). IsInside term.vector x) terms

-- the sum of the terms, as a vector of the given width
abbrev pub sum_vector : ℕ → List Term → List ℕ
sum_vector width terms = map (sum_at terms) (below width)

-- Theorem: each sum of listed surfaces is a solution
abbrev pub SumsAreSolutions : Type 0
SumsAreSolutions =
    (rows : List Row) (coords : Coords) (equations : List EquationRow) (surfaces : List (List ℕ)) (terms : List Term) → IsListOfTable rows coords equations surfaces
    → AreListed surfaces terms → IsSolution (columns coords (length rows)) equations (sum_vector (columns coords (length rows)) terms)

-- Theorem: the sum of listed surfaces, each counted at least once, is admissible iff they are pairwise compatible
abbrev pub SumsOfCompatibleAreAdmissible : Type 0
SumsOfCompatibleAreAdmissible =
    (rows : List Row) (coords : Coords) (equations : List EquationRow) (surfaces : List (List ℕ)) (terms : List Term) → IsListOfTable rows coords equations surfaces
    → AreListed surfaces terms → AreCounted terms
    → IsAdmissible (clash_list coords (length rows)) (sum_vector (columns coords (length rows)) terms) ↔ AreCompatible rows coords terms

-- Theorem: a sum of different listed surfaces has one term iff x is a positive multiple of a listed one
abbrev pub OneTermIsMultiple : Type 0
OneTermIsMultiple =
    (rows : List Row) (coords : Coords) (equations : List EquationRow) (surfaces : List (List ℕ)) (x : List ℕ) (times : ℕ) (terms : List Term) → IsListOfTable rows coords equations surfaces
    → length x ≡ columns coords (length rows) → IsSumOfListed surfaces x times terms → (length terms ≡ 1) ↔ IsMultipleOfRay surfaces x

-- Theorem: a nonzero vector that is no positive multiple of a listed surface has at least two terms
abbrev pub OthersHaveTwoTerms : Type 0
OthersHaveTwoTerms =
    (rows : List Row) (coords : Coords) (equations : List EquationRow) (surfaces : List (List ℕ)) (x : List ℕ) (times : ℕ) (terms : List Term) → IsListOfTable rows coords equations surfaces
    → length x ≡ columns coords (length rows) → IsNonzero x → ¬ IsMultipleOfRay surfaces x → IsSumOfListed surfaces x times terms → 2 ≤ length terms

-- Theorem: for each table and its equations there is a list of the vertex surfaces
abbrev pub ListsExist : Type 0
ListsExist =
    (rows : List Row) (coords : Coords) (equations : List EquationRow) → IsTable rows → AreEquations coords rows equations
    → (surfaces : List (List ℕ)) × IsListOfTable rows coords equations surfaces
