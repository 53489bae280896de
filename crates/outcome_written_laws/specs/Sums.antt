-- The laws of sums that are written: what `decompose` answers is read again by `addup`, and accepted, unless a part of
-- an equation at a listed surface exceeds the limit.
use Rattle.std.specs.Prelude.{◌≡◌, ◌↔◌, ◌⊎◌, ℕ, ◌≤◌, List, Ok}
use Rattle.std.specs.List.{All, AllZip}
use Rattle.text_definitions.specs.Written.{limit}
use Rattle.cone_definitions.specs.Rows.{Row as EquationRow}
use Rattle.cone_definitions.specs.Elimination.{HasPartsWithin}
use Rattle.cone_definitions.specs.Listings.{IsListed}
use Rattle.cone_definitions.specs.declared.Order.TheVariants.{Given}
use Rattle.table_definitions.specs.Table.{Row, IsTable}
use Rattle.surface_definitions.specs.declared.Coords.{Coords}
use Rattle.surface_definitions.specs.declared.VectorFault.TheVariants.{Large}
use Rattle.surface_definitions.specs.QuadEquations.{AreEquations}
use Rattle.surface_definitions.specs.TableSurfaces.{table_enumeration}
use Rattle.surface_vector_definitions.specs.Answers.{IsFit}
use Rattle.sum_definitions.specs.Sums.{Term}
use Rattle.text_document_definitions.specs.Documents.{vectors_document}
use Rattle.text_document_definitions.specs.Blocks.{Block, blocks_document}
use Rattle.outcome_definitions.specs.declared.SumRefusal.TheVariants.{UnfitTerm}
use Rattle.outcome_definitions.specs.declared.Status.TheVariants.{Done}
use Rattle.outcome_definitions.specs.Outcomes.{Outcome, IsReadOutcome}
use Rattle.outcome_definitions.specs.Sums.{IsFirst, IsSummed, IsDecomposeAnswer, IsAddupAnswer, sum_refusal_outcome, accepted_outcome, sums_text}
use Rattle.outcome_written_laws.specs.Surfaces.{IsFirstLarge}

-- the vectors are admissible solutions, and each block is the sum of its vector by the list of vertex surfaces
pub record AreSumsOf (coords : Coords) (most : ℕ) (rows : List Row) (equations : List EquationRow) (vectors : List (List ℕ)) (blocks : List Block) : Type 0 where
  pub of_table : AreEquations coords rows equations
  pub fit : All (IsFit coords rows equations) vectors
  pub taken : List ℕ
  pub list : List (List ℕ)
  pub listed : IsListed (table_enumeration coords Given most rows equations) taken list
  pub sums : AllZip (λ x block. IsSummed most list x (Ok block)) vectors blocks

-- Theorem: unless it refuses, the answer of `decompose` is the table, followed by such blocks
pub record AreAnsweredAsSums (coords : Coords) (most : ℕ) (rows : List Row) (vectors : List (List ℕ)) (text : List ℕ) : Type 0 where
  pub equations : List EquationRow
  pub blocks : List Block
  pub sums : AreSumsOf coords most rows equations vectors blocks
  pub text_is : text ≡ sums_text rows blocks

abbrev pub DecompositionsAreAnswered : Type 0
DecompositionsAreAnswered =
    (coords : Coords) (most : ℕ) (rows : List Row) (vectors : List (List ℕ)) (o : Outcome) → IsDecomposeAnswer coords most (rows, vectors) o → o.status ≡ Done
    → AreAnsweredAsSums coords most rows vectors o.text

-- this text is read as the table and the blocks: the same vectors, how often they are taken, and the terms
abbrev pub WrittenSumsAreRead : Type 0
WrittenSumsAreRead =
    (coords : Coords) (most : ℕ) (rows : List Row) (equations : List EquationRow) (vectors : List (List ℕ)) (blocks : List Block) → IsTable rows → most ≤ limit
    → AreSumsOf coords most rows equations vectors blocks → blocks_document (sums_text rows blocks) ≡ Ok (rows, blocks)

-- no part of an equation exceeds the limit at the term, and at none of the block's terms
abbrev pub IsSmallTerm : List EquationRow → Term → Type 0
IsSmallTerm equations term = All (λ equation. HasPartsWithin limit equation term.vector) equations

abbrev pub IsSmallBlock : List EquationRow → Block → Type 0
IsSmallBlock equations block = All (IsSmallTerm equations) block.terms

-- the first equation of which a part exceeds the limit at the term; the first such term of a block; the first such
-- block
abbrev pub IsLargeTerm : List EquationRow → ℕ → Term → Type 0
IsLargeTerm equations row term = IsFirstLarge equations term.vector row

abbrev pub IsLargeBlock : List EquationRow → ℕ × ℕ → Block → Type 0
IsLargeBlock equations at block = IsFirst (IsSmallTerm equations) (IsLargeTerm equations at.1) block.terms at.0

abbrev pub AreLarge : List EquationRow → List Block → ℕ → ℕ × ℕ → Type 0
AreLarge equations blocks v at = IsFirst (IsSmallBlock equations) (IsLargeBlock equations at) blocks v

-- the blocks are accepted, if no part exceeds the limit at any term; otherwise the answer names the first block, term
-- and equation at which one does
abbrev pub IsAcceptedUnlessLarge : List EquationRow → List Block → Outcome → Type 0
IsAcceptedUnlessLarge equations blocks o = (All (IsSmallBlock equations) blocks × (o ≡ accepted_outcome))
    ⊎ ((v : ℕ) × (at : ℕ × ℕ) × AreLarge equations blocks v at × (o ≡ sum_refusal_outcome v (UnfitTerm at.0 (Large at.1))))

-- this is the one answer of `addup`
abbrev pub SumsAreAcceptedUnlessLarge : Type 0
SumsAreAcceptedUnlessLarge =
    (coords : Coords) (most : ℕ) (rows : List Row) (equations : List EquationRow) (vectors : List (List ℕ)) (blocks : List Block) → most ≤ limit
    → AreSumsOf coords most rows equations vectors blocks → (o : Outcome) → IsAddupAnswer coords (rows, blocks) o ↔ IsAcceptedUnlessLarge equations blocks o

-- where each vector is itself a sum of surfaces, taken once, it is accepted
abbrev pub WholeSumsAreAccepted : Type 0
WholeSumsAreAccepted =
    (coords : Coords) (most : ℕ) (rows : List Row) (equations : List EquationRow) (vectors : List (List ℕ)) (blocks : List Block) → most ≤ limit
    → AreSumsOf coords most rows equations vectors blocks → All (λ (block : Block). block.times ≡ 1) blocks → (o : Outcome) → IsAddupAnswer coords (rows, blocks) o ↔ (o ≡ accepted_outcome)

-- the bytes were read as a table and vectors; the text is read as the table and blocks that are the sums of these
-- vectors, and `addup` accepts it, unless a part exceeds the limit
pub record IsReadAgain (coords : Coords) (most : ℕ) (bytes text : List ℕ) : Type 0 where
  pub rows : List Row
  pub vectors : List (List ℕ)
  pub document : vectors_document bytes ≡ Ok (rows, vectors)
  pub equations : List EquationRow
  pub blocks : List Block
  pub sums : AreSumsOf coords most rows equations vectors blocks
  pub read : blocks_document text ≡ Ok (rows, blocks)
  pub answered : (o : Outcome) → IsReadOutcome (blocks_document text) (IsAddupAnswer coords) o ↔ IsAcceptedUnlessLarge equations blocks o

abbrev pub DecomposedAreReadAgain : Type 0
DecomposedAreReadAgain =
    (coords : Coords) (most : ℕ) (bytes : List ℕ) (o : Outcome) → most ≤ limit → IsReadOutcome (vectors_document bytes) (IsDecomposeAnswer coords most) o → o.status ≡ Done
    → IsReadAgain coords most bytes o.text
