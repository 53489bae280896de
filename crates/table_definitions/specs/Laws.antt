-- Laws over permutations, tables, their text and chains.
use Rattle.std.specs.Prelude.{◌≡◌, ℕ, ◌<◌, List, [], length, Some, None, Ok, All, ◌↔◌, ◌++◌}
use Rattle.table_definitions.specs.Permutation.{IsPermutationOfFour, image, preimage, identity, inverse, compose}
use Rattle.table_definitions.specs.Table.{Gluing, Row, Face, glue, IsTable, table_fault}
use Rattle.text_definitions.specs.Reading.{Reading}
use Rattle.table_definitions.specs.TableText.{tri_table_at}
use Rattle.text_definitions.specs.Text.{Line}
use Rattle.table_definitions.specs.Grammar.{AreTriLines}
use Rattle.table_definitions.specs.Places.{Place, IsPlace, IsJoined, backwards}
use Rattle.table_definitions.specs.Replacing.{Replacement, replaced}
use Rattle.table_definitions.specs.Replaceable.{CanReplace}

-- Theorem: permutations are closed under inverse and composition, and the inverse is one on both sides
abbrev pub InversesPermute : Type 0
InversesPermute = (p : List ℕ) → IsPermutationOfFour p → IsPermutationOfFour (inverse p)

abbrev pub CompositesPermute : Type 0
CompositesPermute = (p q : List ℕ) → IsPermutationOfFour p → IsPermutationOfFour q → IsPermutationOfFour (compose p q)

abbrev pub InversesLeadBack : Type 0
InversesLeadBack = (p : List ℕ) → IsPermutationOfFour p → (compose p (inverse p) ≡ identity) × (compose (inverse p) p ≡ identity)

-- Theorem: images are below 4, and the vertex with a given image is found
abbrev pub ImagesAreFound : Type 0
ImagesAreFound = (p : List ℕ) (v : ℕ) → IsPermutationOfFour p → v < 4 → (image p v < 4) × (preimage p (image p v) ≡ v) × (image p (preimage p v) ≡ v)

-- Theorem: rows of four permutations are a table if and only if no error is found
abbrev pub FaultsDecideTables : Type 0
FaultsDecideTables =
    (rows : List Row) → All (λ (row : Row). length row ≡ 4) rows → ((x : Face) (g : Gluing) → glue rows x ≡ Some g → IsPermutationOfFour g.perm)
    → (table_fault rows ≡ None) ↔ IsTable rows

-- a table of which rows can be replaced stays one
abbrev pub ReplacingKeepsTables : Type 0
ReplacingKeepsTables = (rows : List Row) (r : Replacement) → CanReplace rows r → IsTable rows → IsTable (replaced rows r)

-- a table is read in the form `tri` from the next lines, the rest of the lines is left, and the last line is used up
pub record ReadsTriTable (c : Reading) (rows : List Row) (rest : List Line) : Type 0 where
  pub left : Reading
  pub read : tri_table_at c ≡ Ok (rows, left)
  pub later : left.later ≡ rest
  pub at_end : left.current.tokens ≡ []

-- Theorem: lines are read as a table if and only if they spell one
abbrev pub TriTablesAreRead : Type 0
TriTablesAreRead =
    (c : Reading) (rows : List Row) (rest : List Line) → ReadsTriTable c rows rest ↔ ((lines : List Line) × (c.later ≡ lines ++ rest) × AreTriLines lines rows)

-- Theorem: each place is joined to itself; chains can be concatenated and, in a table, reversed
pub record ChainsMakeClasses : Type 0 where
  pub itself : (rows : List Row) (p : Place) → IsJoined rows p p
  pub further : (rows : List Row) (p q r : Place) → IsJoined rows p q → IsJoined rows q r → IsJoined rows p r
  pub back : (rows : List Row) (p q : Place) → IsTable rows → IsPlace p → IsJoined rows p q → IsPlace q × IsJoined rows q p
  pub backwards_too : (rows : List Row) (p q : Place) → IsJoined rows p q → IsJoined rows (backwards p) (backwards q)
