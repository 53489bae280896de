-- What keeps the solutions of a list of rows, and what the solutions keep.
use Rattle.std.specs.Prelude.{ℕ, ℤ, pos, negsuc, List, [], ◌∷◌, ◌++◌, ◌↔◌, Contains}
use Rattle.std.specs.List.Sorted.{IsPermutation}
use Rattle.cone_definitions.specs.Rows.{Row, IsExtreme}
use Rattle.cone_definitions.specs.Surfaces.{Clash, IsVertexSurface, IsSurfaceList}
use Rattle.cone_row_laws.specs.Solutions.{HaveSameZeros, HaveSameSolutions}
use Rattle.cone_row_laws.specs.Operations.{IsSumWith, negated}

-- rows that are 0 at the same vectors have the same solutions
abbrev pub SameZerosSuffice : Type 0
SameZerosSuffice = (columns : ℕ) (rows others : List Row) → HaveSameZeros rows others → HaveSameSolutions columns rows others

-- it is an equivalence
abbrev pub SameSolutionsAreReflexive : Type 0
SameSolutionsAreReflexive = (columns : ℕ) (rows : List Row) → HaveSameSolutions columns rows rows

abbrev pub SameSolutionsAreSymmetric : Type 0
SameSolutionsAreSymmetric = (columns : ℕ) (rows others : List Row) → HaveSameSolutions columns rows others → HaveSameSolutions columns others rows

abbrev pub SameSolutionsAreTransitive : Type 0
SameSolutionsAreTransitive = (columns : ℕ) (rows middle others : List Row) →
    HaveSameSolutions columns rows middle → HaveSameSolutions columns middle others → HaveSameSolutions columns rows others

-- a row gives way to itself plus a multiple of another row of the list
abbrev pub MultiplesAreAdded : Type 0
MultiplesAreAdded = (columns : ℕ) (front back : List Row) (row other sum : Row) (factor : ℤ) → Contains (front ++ back) other → IsSumWith row factor other sum →
    HaveSameSolutions columns (front ++ row ∷ back) (front ++ sum ∷ back)

-- the row plus another, and less it, by their terms
abbrev pub AppendedIsSum : Type 0
AppendedIsSum = (row other : Row) → IsSumWith row (pos 1) other (row ++ other)

abbrev pub AppendedIsDifference : Type 0
AppendedIsDifference = (row other : Row) → IsSumWith row (negsuc 0) other (row ++ negated other)

-- all signs of a row are turned
abbrev pub SignsAreNegated : Type 0
SignsAreNegated = (columns : ℕ) (front back : List Row) (row : Row) → HaveSameSolutions columns (front ++ row ∷ back) (front ++ negated row ∷ back)

-- rows are taken in another order
abbrev pub OrderIsChanged : Type 0
OrderIsChanged = (columns : ℕ) (rows others : List Row) → IsPermutation rows others → HaveSameSolutions columns rows others

-- Theorem: a row without terms may be dropped, and so may a row that occurs again in the list, or whose negative does
abbrev pub EmptyRowsAreDropped : Type 0
EmptyRowsAreDropped = (columns : ℕ) (front back : List Row) → HaveSameSolutions columns (front ++ [] ∷ back) (front ++ back)

abbrev pub EqualRowsAreDropped : Type 0
EqualRowsAreDropped = (columns : ℕ) (front back : List Row) (row : Row) → Contains (front ++ back) row →
    HaveSameSolutions columns (front ++ row ∷ back) (front ++ back)

abbrev pub NegatedRowsAreDropped : Type 0
NegatedRowsAreDropped = (columns : ℕ) (front back : List Row) (row : Row) → Contains (front ++ back) (negated row) →
    HaveSameSolutions columns (front ++ row ∷ back) (front ++ back)

-- the same solutions: the same are extreme, the same are vertex surfaces, and the surface list is the same
abbrev pub ExtremeOnesAgree : Type 0
ExtremeOnesAgree = (columns : ℕ) (rows others : List Row) (x : List ℕ) → HaveSameSolutions columns rows others →
    IsExtreme columns rows x ↔ IsExtreme columns others x

abbrev pub VertexSurfacesAgree : Type 0
VertexSurfacesAgree = (columns : ℕ) (rows others : List Row) (pairs : List Clash) (x : List ℕ) → HaveSameSolutions columns rows others →
    IsVertexSurface columns rows pairs x ↔ IsVertexSurface columns others pairs x

abbrev pub SurfaceListsAgree : Type 0
SurfaceListsAgree = (columns : ℕ) (rows others : List Row) (pairs : List Clash) (surfaces : List (List ℕ)) → HaveSameSolutions columns rows others →
    IsSurfaceList columns rows pairs surfaces ↔ IsSurfaceList columns others pairs surfaces
