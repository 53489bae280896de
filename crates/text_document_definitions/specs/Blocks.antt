-- Sums in text: blocks of a vector line, a line `times S T`, and T lines `term K` with entries.
use Rattle.std.specs.Prelude.{◌≡◌, ℕ, zero, suc, List, [], ◌∷◌, ◌++◌, length, map, Result, Ok, codes, decimal}
use Rattle.std.specs.List.{AllZip, flat_map}
use Rattle.text_definitions.specs.Text.{Line}
use Rattle.text_definitions.specs.Written.{limit, spaced}
use Rattle.text_definitions.specs.declared.LexFault.{LexFault}
use Rattle.text_definitions.specs.Reading.{Reading, ◌>>=◌, start_of, begun, need_line_at, end_line_at, exactly_at, number_at, numbers_at}
use Rattle.table_definitions.specs.Table.{Row}
use Rattle.table_definitions.specs.Grammar.{AreWords, IsDecimalUpTo}
use Rattle.cone_text_definitions.specs.VectorText.{vector_at, vector_text}
use Rattle.surface_definitions.specs.Grammar.{IsVectorLine}
use Rattle.sum_definitions.specs.Sums.{Term}
use Rattle.signature_definitions.specs.declared.InputFault.{InputFault}
use Rattle.signature_definitions.specs.Grammar.{AreTableLines}
use Rattle.text_document_definitions.specs.Documents.{worded, next_table_at}
use Rattle.text_document_definitions.specs.TextForms.{AreTableText}

-- a vector, how many times it is taken, and the terms that are to add up to it then
pub record Block : Type 0 where
  pub vector : List ℕ
  pub times : ℕ
  pub terms : List Term

-- the greatest number of terms
abbrev pub most_terms : ℕ
most_terms = 10000

-- a line `term K` with entries
unfoldable pub term_at : Reading → Result (Term × Reading) LexFault
term_at c = do
  line ← need_line_at c
  named ← exactly_at (codes "term") line
  count ← number_at limit named
  entries ← numbers_at limit count.1
  Ok (record { count = count.0; vector = entries.0 }, entries.1)

-- a reader of the given number of terms
unfoldable pub terms_at : ℕ → Reading → Result (List Term × Reading) LexFault
terms_at zero c = Ok ([], c)
terms_at (suc n) c = do
  first ← term_at c
  others ← terms_at n first.1
  Ok (first.0 ∷ others.0, others.1)

-- a line `times S T` and T terms
unfoldable pub times_at : Reading → Result ((ℕ × List Term) × Reading) LexFault
times_at c = do
  line ← need_line_at c
  named ← exactly_at (codes "times") line
  times ← number_at limit named
  many ← number_at most_terms times.1
  end ← end_line_at many.1
  terms ← terms_at many.0 end
  Ok ((times.0, terms.0), terms.1)

-- a block, from the current line on, of which no word was taken yet
unfoldable pub block_at : Reading → Result (Block × Reading) LexFault
block_at c = do
  vector ← vector_at c
  sum ← times_at vector.1
  Ok (record { vector = vector.0; times = sum.0.0; terms = sum.0.1 }, sum.1)

-- no block if no line is left, and otherwise a block and the blocks after it
abbrev pub blocks_on : List Line → Reading → (Reading → Result (List Block × Reading) LexFault) → Result (List Block × Reading) LexFault
blocks_on [] c more = Ok ([], c)
blocks_on (l ∷ ls) c more = do
  first ← block_at (begun l ls c)
  others ← more first.1
  Ok (first.0 ∷ others.0, others.1)

-- blocks to the end of the input, at most one for each line that is left
unfoldable pub blocks_from : List Line → Reading → Result (List Block × Reading) LexFault
blocks_from [] c = Ok ([], c)
blocks_from (l ∷ most) c = blocks_on c.later c (λ d. blocks_from most d)

-- a table and blocks
unfoldable pub blocks_document : List ℕ → Result (List Row × List Block) InputFault
blocks_document bytes = do
  table ← next_table_at (start_of bytes)
  blocks ← worded (blocks_from table.1.later table.1)
  Ok (table.0, blocks.0)

-- a line `term K`, K and the entries decimals up to the greatest number
pub record IsTermLine (line : Line) (term : Term) : Type 0 where
  pub k : List ℕ
  pub ws : List (List ℕ)
  pub are_words : AreWords line.tokens (codes "term" ∷ k ∷ ws)
  pub count : IsDecimalUpTo limit k term.count
  pub entries : AllZip (IsDecimalUpTo limit) ws term.vector

-- a line `times S T`
pub record IsTimesLine (line : Line) (times many : ℕ) : Type 0 where
  pub s : List ℕ
  pub t : List ℕ
  pub are_words : AreWords line.tokens (codes "times" ∷ s ∷ t ∷ [])
  pub number : IsDecimalUpTo limit s times
  pub counted : IsDecimalUpTo most_terms t many

-- a vector line, a line `times S T`, and T lines of a term each
abbrev pub AreBlockLines : List Line → Block → Type 0
AreBlockLines [] block = ⊥
AreBlockLines (vector ∷ []) block = ⊥
AreBlockLines (vector ∷ times ∷ lines) block = IsVectorLine vector block.vector × IsTimesLine times block.times (length block.terms) × AllZip IsTermLine lines block.terms

-- any number of blocks, one after the other
abbrev pub AreBlocks : List Line → List Block → Type 0
AreBlocks lines [] = lines ≡ []
AreBlocks lines (block ∷ blocks) = (front : List Line) × (back : List Line) × (lines ≡ front ++ back) × AreBlockLines front block × AreBlocks back blocks

-- a table and then blocks
abbrev pub AreTableAndBlocks : List Line → List Row → List Block → Type 0
AreTableAndBlocks lines rows blocks = (table : List Line) × (rest : List Line) × (lines ≡ table ++ rest) × AreTableLines table rows × AreBlocks rest blocks

-- the text of a table, whatever it glues or spells, and then blocks, whatever they say
abbrev pub AreTableAndBlocksText : List Line → Type 0
AreTableAndBlocksText lines = (table : List Line) × (rest : List Line) × (lines ≡ table ++ rest) × AreTableText table × ((blocks : List Block) × AreBlocks rest blocks)

-- what is written for a term, for a line `times S T`, and for a block
abbrev pub term_text : Term → List ℕ
term_text term = spaced (codes "term" ∷ decimal term.count ∷ map decimal term.vector)

abbrev pub times_text : ℕ → ℕ → List ℕ
times_text times many = spaced (codes "times" ∷ decimal times ∷ decimal many ∷ [])

abbrev pub block_text : Block → List ℕ
block_text block = vector_text block.vector ++ times_text block.times (length block.terms) ++ flat_map term_text block.terms

abbrev pub blocks_text : List Block → List ℕ
blocks_text blocks = flat_map block_text blocks
