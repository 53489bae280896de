-- Properties of a prefix of a table's text that glues or spells soundly.
use Rattle.std.specs.Prelude.{◌≡◌, ℕ, List, [], ◌∷◌, ◌++◌, length, map, ◌⊎◌, codes}
use Rattle.std.specs.List.{AllZip}
use Rattle.table_definitions.specs.Table.{max_tets, Row}
use Rattle.table_definitions.specs.Grammar.{IsDecimalUpTo, IsEntry}
use Rattle.signature_definitions.specs.Spelling.{Spells}
use Rattle.text_definitions.specs.declared.Place.{Place}
use Rattle.text_definitions.specs.Text.{Line}
use Rattle.text_document_definitions.specs.Grammar.{AreTables}
use Rattle.text_document_definitions.specs.Symbols.{Symbol, shown, line_end, input_end, symbols_of, plain}
use Rattle.text_partial_laws.specs.Partial.{IsPartialTable}

-- the entries of rows, four to a line; the last line may be cut off
abbrev pub ShowRows : List Row → List Symbol → Type 0
ShowRows [] ss = ss ≡ []
ShowRows (row ∷ rows) ss =
    (words : List (List ℕ)) × AllZip IsEntry words row × (((rows ≡ []) × (ss ≡ map shown words)) ⊎ ((length row ≡ 4) × ((more : List Symbol) × (ss ≡ map shown words ++ line_end ∷ more) × ShowRows rows more)))

-- a line `tri N` and rows that glue soundly so far, or a line `sig TEXT` whose text spells a table, each up to anywhere
pub data IsSound : List Symbol → Type 0 where
  nothing : IsSound []
  tri_word : IsSound (shown (codes "tri") ∷ [])
  tri_number : (w : List ℕ) (n : ℕ) → IsDecimalUpTo max_tets w n → IsSound (shown (codes "tri") ∷ shown w ∷ [])
  tri_rows : (w : List ℕ) (n : ℕ) (rows : List Row) (ss : List Symbol) → IsDecimalUpTo max_tets w n → IsPartialTable n rows → ShowRows rows ss → IsSound (shown (codes "tri") ∷ shown w ∷ line_end ∷ ss)
  sig_word : IsSound (shown (codes "sig") ∷ [])
  sig_text : (text : List ℕ) (rows : List Row) → Spells text rows → IsSound (shown (codes "sig") ∷ shown text ∷ [])
  sig_line : (text : List ℕ) (rows : List Row) → Spells text rows → IsSound (shown (codes "sig") ∷ shown text ∷ line_end ∷ [])

-- the lines of tables, and then what is sound so far
pub record IsSoundAfter (tables : List (List Row)) (ss : List Symbol) : Type 0 where
  pub lines : List Line
  pub are_tables : AreTables lines tables
  pub end : Place
  pub front : List Symbol
  pub front_shown : plain (symbols_of end lines) ≡ front ++ input_end ∷ []
  pub rest : List Symbol
  pub split : ss ≡ front ++ rest
  pub sound : IsSound rest

-- the same of at most one table before, and of any number
abbrev pub IsSoundOfTwo : List Symbol → Type 0
IsSoundOfTwo ss = IsSound ss ⊎ ((rows : List Row) × IsSoundAfter (rows ∷ []) ss)

abbrev pub IsSoundOfMany : List Symbol → Type 0
IsSoundOfMany ss = (tables : List (List Row)) × IsSoundAfter tables ss
