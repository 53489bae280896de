-- The vertex surfaces of one tetrahedron without gluings, and a sum of them.
use Rattle.std.specs.Prelude.{List, [], ◌∷◌, None}
use Rattle.cone_definitions.specs.Enumeration.{unit_vectors}
use Rattle.cone_definitions.specs.Vectors.{unit}
use Rattle.table_definitions.specs.Table.{Row}
use Rattle.surface_definitions.specs.declared.Coords.TheVariants.{Standard}
use Rattle.sum_definitions.specs.Sums.{Term}
use Rattle.sum_laws.specs.WorkedSums.{term}
use Rattle.surface_sum_laws.specs.Laws.{IsListOfTable, IsAdmissibleSolution, IsSumOfListed, AreCompatible}
use Rattle.surface_sum_laws.specs.Parts.{IsListOfPart}

abbrev pub alone : List Row
alone = (None ∷ None ∷ None ∷ None ∷ []) ∷ []

-- there are no equations, and each disc type is a vertex surface
abbrev pub AloneHasList : Type 0
AloneHasList = IsListOfTable alone Standard [] (unit_vectors 7)

-- one triangle around vertex 0, one around vertex 1 and two quads 01/23
abbrev pub three_discs : List Term
three_discs =
    term 1 (1 ∷ 0 ∷ 0 ∷ 0 ∷ 0 ∷ 0 ∷ 0 ∷ []) ∷ term 1 (0 ∷ 1 ∷ 0 ∷ 0 ∷ 0 ∷ 0 ∷ 0 ∷ [])
    ∷ term 2 (0 ∷ 0 ∷ 0 ∷ 0 ∷ 1 ∷ 0 ∷ 0 ∷ []) ∷ []

-- their sum, which is an admissible solution
pub record AloneIsSum : Type 0 where
  pub solution : IsAdmissibleSolution alone Standard [] (1 ∷ 1 ∷ 0 ∷ 0 ∷ 2 ∷ 0 ∷ 0 ∷ [])
  pub sum : IsSumOfListed (unit_vectors 7) (1 ∷ 1 ∷ 0 ∷ 0 ∷ 2 ∷ 0 ∷ 0 ∷ []) 1 three_discs
  pub compatible : AreCompatible alone Standard three_discs

-- the part in which the quads 02/13 and 03/12 are 0: the list has the triangles and the quad 01/23
abbrev pub AloneHasPart : Type 0
AloneHasPart = IsListOfPart Standard 1 [] ((0, 0) ∷ []) (unit 7 4 ∷ unit 7 3 ∷ unit 7 2 ∷ unit 7 1 ∷ unit 7 0 ∷ [])
