-- Lists of rows with the same solutions, and rows that are sums of others.
use Rattle.std.specs.Prelude.{◌≡◌, ℕ, ◌+◌, ◌++◌, List}
use Rattle.std.specs.List.{All}
use Rattle.cone_definitions.specs.Rows.{Row, plus_part, minus_part, IsZeroAt, IsSolution}
use Rattle.cone_definitions.specs.Surfaces.{Clash, IsSurfaceList}
use Rattle.cone_row_laws.specs.Solutions.{HaveSameSolutions}

-- rows with the same solutions have the same surface list
abbrev pub OneListOfSolutions : Type 0
OneListOfSolutions = (columns : ℕ) (rows others : List Row) (pairs : List Clash) (surfaces : List (List ℕ)) → HaveSameSolutions columns rows others →
    IsSurfaceList columns rows pairs surfaces → IsSurfaceList columns others pairs surfaces

-- a row is redundant where it is 0 at each solution
abbrev pub IsRedundant : ℕ → List Row → Row → Type 0
IsRedundant columns rows row = (x : List ℕ) → IsSolution columns rows x → IsZeroAt row x

-- Theorem: redundant rows, put before the others, change no solution
abbrev pub RedundantRowsAreFree : Type 0
RedundantRowsAreFree = (columns : ℕ) (rows further : List Row) → All (IsRedundant columns rows) further → HaveSameSolutions columns (further ++ rows) rows

-- a row's value is the sum of those of two others, at each vector; or the difference
abbrev pub IsSumOfRows : Row → Row → Row → Type 0
IsSumOfRows row one other = (x : List ℕ) → plus_part row x + (minus_part one x + minus_part other x) ≡ minus_part row x + (plus_part one x + plus_part other x)

abbrev pub IsDifferenceOfRows : Row → Row → Row → Type 0
IsDifferenceOfRows row one other = (x : List ℕ) → plus_part row x + (minus_part one x + plus_part other x) ≡ minus_part row x + (plus_part one x + minus_part other x)

-- sums and differences of redundant rows are redundant
abbrev pub SumsAreRedundant : Type 0
SumsAreRedundant = (columns : ℕ) (rows : List Row) (row one other : Row) → IsSumOfRows row one other → IsRedundant columns rows one → IsRedundant columns rows other → IsRedundant columns rows row

abbrev pub DifferencesAreRedundant : Type 0
DifferencesAreRedundant = (columns : ℕ) (rows : List Row) (row one other : Row) → IsDifferenceOfRows row one other → IsRedundant columns rows one → IsRedundant columns rows other → IsRedundant columns rows row
