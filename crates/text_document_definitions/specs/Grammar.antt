-- The form of a document: a table and then lines of one form.
use Rattle.std.specs.Prelude.{◌≡◌, List, [], ◌∷◌, ◌++◌}
use Rattle.std.specs.List.{AllZip}
use Rattle.table_definitions.specs.Table.{Row}
use Rattle.text_definitions.specs.Text.{Line}
use Rattle.signature_definitions.specs.Grammar.{AreTableLines}

-- a table and then lines of one form, each with its value
abbrev pub AreTableAndLines : {A : Type 0} → (Line → A → Type 0) → List Line → List Row → List A → Type 0
AreTableAndLines form lines rows values = (table : List Line) × (rest : List Line) × (lines ≡ table ++ rest) × AreTableLines table rows × AllZip form rest values

-- two tables, one after the other
abbrev pub AreTwoTables : List Line → List Row → List Row → Type 0
AreTwoTables lines first second = (front : List Line) × (back : List Line) × (lines ≡ front ++ back) × AreTableLines front first × AreTableLines back second

-- any number of tables, one after the other
abbrev pub AreTables : List Line → List (List Row) → Type 0
AreTables lines [] = lines ≡ []
AreTables lines (rows ∷ tables) = (front : List Line) × (back : List Line) × (lines ≡ front ++ back) × AreTableLines front rows × AreTables back tables
