-- The text of documents with tables: what their lines look like, whatever the rows glue and whatever a signature
-- spells.
use Rattle.std.specs.Prelude.{◌≡◌, ℕ, zero, suc, List, [], ◌∷◌, ◌++◌, length, ◌⊎◌, codes}
use Rattle.std.specs.List.{AllByRecursion}
use Rattle.text_definitions.specs.Text.{Line}
use Rattle.table_definitions.specs.Table.{Row, max_tets}
use Rattle.table_definitions.specs.Grammar.{AreWords, IsDecimalUpTo, IsRowLine}
use Rattle.surface_definitions.specs.Grammar.{IsVectorLine}
use Rattle.move_definitions.specs.Moves.{Move}
use Rattle.move_definitions.specs.MoveText.{Step}
use Rattle.move_definitions.specs.Grammar.{IsMoveLine, IsStepLine}

-- a line of four entries, whatever they glue
abbrev pub IsRowText : Line → Type 0
IsRowText line = (row : Row) × IsRowLine line row

-- a line `tri N`, with N at most what a table may have, and N lines of entries
abbrev pub AreTriText : List Line → Type 0
AreTriText [] = ⊥
AreTriText (line ∷ lines) = (n : List ℕ) × AreWords line.tokens (codes "tri" ∷ n ∷ []) × IsDecimalUpTo max_tets n (length lines) × AllByRecursion IsRowText lines

-- one line `sig TEXT`, whatever the text
abbrev pub AreSigText : List Line → Type 0
AreSigText [] = ⊥
AreSigText (line ∷ []) = (text : List ℕ) × AreWords line.tokens (codes "sig" ∷ text ∷ [])
AreSigText (line ∷ next ∷ lines) = ⊥

-- the text of a table in either form
abbrev pub AreTableText : List Line → Type 0
AreTableText lines = AreTriText lines ⊎ AreSigText lines

-- the text of a table, and then lines of one form
abbrev pub AreTextAndLines : (Line → Type 0) → List Line → Type 0
AreTextAndLines form lines = (table : List Line) × (rest : List Line) × (lines ≡ table ++ rest) × AreTableText table × AllByRecursion form rest

-- a vector line, a step line and a move line, whatever they say
abbrev pub IsVectorText : Line → Type 0
IsVectorText line = (vector : List ℕ) × IsVectorLine line vector

abbrev pub IsStepText : Line → Type 0
IsStepText line = (step : Step) × IsStepLine line step

abbrev pub IsMoveText : Line → Type 0
IsMoveText line = (move : Move) × IsMoveLine line move

-- the text of a table and vectors, steps, or moves; of a table and one vector
abbrev pub AreTableAndVectorsText : List Line → Type 0
AreTableAndVectorsText lines = AreTextAndLines IsVectorText lines

abbrev pub AreTableAndStepsText : List Line → Type 0
AreTableAndStepsText lines = AreTextAndLines IsStepText lines

abbrev pub AreTableAndMovesText : List Line → Type 0
AreTableAndMovesText lines = AreTextAndLines IsMoveText lines

abbrev pub AreTableAndVectorText : List Line → Type 0
AreTableAndVectorText lines = (table : List Line) × (line : Line) × (lines ≡ table ++ line ∷ []) × AreTableText table × IsVectorText line

-- the text of two tables, one after the other
abbrev pub AreTwoTablesText : List Line → Type 0
AreTwoTablesText lines = (front : List Line) × (back : List Line) × (lines ≡ front ++ back) × AreTableText front × AreTableText back

-- the text of the given number of tables, one after another
abbrev pub AreManyTablesText : ℕ → List Line → Type 0
AreManyTablesText zero lines = lines ≡ []
AreManyTablesText (suc n) lines = (front : List Line) × (back : List Line) × (lines ≡ front ++ back) × AreTableText front × AreManyTablesText n back

-- the text of any number of tables
abbrev pub AreTablesText : List Line → Type 0
AreTablesText lines = (n : ℕ) × AreManyTablesText n lines
