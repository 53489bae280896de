-- Laws over vectors in text, verdicts and equations.
use Rattle.std.specs.Prelude.{◌≡◌, ℕ, ◌<◌, List, [], Ok, All, ◌↔◌}
use Rattle.text_definitions.specs.Reading.{Reading}
use Rattle.cone_text_definitions.specs.VectorText.{vector_at}
use Rattle.surface_definitions.specs.Grammar.{IsVectorLine}
use Rattle.cone_definitions.specs.Rows.{Row as EquationRow, IsZeroAt, IsSolution}
use Rattle.cone_definitions.specs.Surfaces.{IsAdmissible}
use Rattle.cone_definitions.specs.Elimination.{HasPartsWithin}
use Rattle.surface_definitions.specs.Verdict.{verdict, solution}
use Rattle.surface_definitions.specs.Equations.{Equation, row_of, Holds}
use Rattle.std.specs.List.{AllByRecursion}

-- the vector of the current line is read, and the line is used up
pub record ReadsVector (c : Reading) (xs : List ℕ) : Type 0 where
  pub left : Reading
  pub read : vector_at c ≡ Ok (xs, left)
  pub later : left.later ≡ c.later
  pub at_end : left.current.tokens ≡ []

-- Theorem: a line is read as a vector if and only if it spells one
abbrev pub VectorLinesAreRead : Type 0
VectorLinesAreRead = (c : Reading) (xs : List ℕ) → ReadsVector c xs ↔ IsVectorLine c.current xs

-- the verdict is `solution` exactly at the admissible solutions of which no part exceeds max
pub record IsAcceptedVector (max n : ℕ) (rows : List EquationRow) (pairs : List (ℕ × ℕ)) (xs : List ℕ) : Type 0 where
  pub solves : IsSolution n rows xs
  pub admissible : IsAdmissible pairs xs
  pub within : All (λ row. HasPartsWithin max row xs) rows

abbrev pub VerdictsAreRight : Type 0
VerdictsAreRight =
    (max n : ℕ) (rows : List EquationRow) (pairs : List (ℕ × ℕ)) (xs : List ℕ) → (verdict max n rows pairs xs ≡ solution) ↔ IsAcceptedVector max n rows pairs xs

-- Theorem: the row of an equation is 0 at a vector if and only if both sides have the same sum
abbrev pub RowsMeanEquations : Type 0
RowsMeanEquations =
    (e : Equation) (xs : List ℕ) (n : ℕ) → AllByRecursion (λ c. c < n) e.left → AllByRecursion (λ c. c < n) e.right → IsZeroAt (row_of n e) xs ↔ Holds e xs
