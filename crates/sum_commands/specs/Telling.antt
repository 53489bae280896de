-- The results for the vectors of a document as sums, one after another.
use Rattle.std.specs.Prelude.{◌≡◌, ℕ, ◌≤◌, List, ◌++◌, Vec, Result, Ok, Err, slice_index}
use Rattle.std.specs.declared.alloc.Global.{Global}
use Rattle.std.specs.List.{All, AllZip}
use Rattle.out_of_memory.specs.declared.Failure.{Failure}
use Rattle.out_of_memory.specs.declared.Failure.TheVariants.{NoMemory, Fault}
use Rattle.text_definitions.specs.Written.{limit}
use Rattle.cone_definitions.specs.Systems.{System}
use Rattle.table_definitions.specs.Table.{Row}
use Rattle.sum_definitions.specs.Sums.{HasRays, IsLargeStep}
use Rattle.sum_definitions.specs.declared.LargeTurn.{LargeTurn}
use Rattle.text_document_definitions.specs.Blocks.{Block, block_text}
use Rattle.outcome_definitions.specs.Outcomes.{Outcome}
use Rattle.outcome_definitions.specs.Sums.{IsFirstRefused, IsSummed, AreAnswered, sums_text, sums_outcome}
use Rattle.sum_commands.specs.declared.checks.FirstFault.{FirstFault}

-- no entry of the vectors exceeds the greatest number of a document
abbrev pub AreInRange : List (List ℕ) → Type 0
AreInRange vectors = All (λ x. (column : ℕ) → slice_index x column ≤ limit) vectors

-- the list has the rays of each vector
abbrev pub HaveRays : System → List (List ℕ) → List (List ℕ) → Type 0
HaveRays system list vectors = All (HasRays system.columns system.rows list) vectors

-- the block of a vector is appended, or its sum exceeds the limit
abbrev pub AppendsBlock : ℕ → List (List ℕ) → List ℕ → List ℕ → List ℕ → Result (Unit {0}) (Failure LargeTurn) → Type 0
AppendsBlock most list x before now (Ok done) = (block : Block) × IsSummed most list x (Ok block) × (now ≡ before ++ block_text block)
AppendsBlock most list x before now (Err (Fault large)) = IsLargeStep most list x large.turn large.column
AppendsBlock most list x before now (Err NoMemory) = Unit {0}

-- text is the table and the blocks of these vectors
pub record AreSummedIn (most : ℕ) (list : List (List ℕ)) (rows : List Row) (vectors : List (List ℕ)) (text : List ℕ) : Type 0 where
  pub reported : List Block
  pub sums : AllZip (λ x block. IsSummed most list x (Ok block)) vectors reported
  pub lines : text ≡ sums_text rows reported

-- the table and the blocks of all vectors, or the first whose sum exceeds the limit
abbrev pub WritesBlocks : ℕ → List (List ℕ) → List Row → List (List ℕ) → Result (Vec ℕ Global) (Failure (FirstFault LargeTurn)) → Type 0
WritesBlocks most list rows vectors (Ok text) = AreSummedIn most list rows vectors text.items
WritesBlocks most list rows vectors (Err (Fault first)) = IsFirstRefused (IsSummed most list) vectors first.number first.fault
WritesBlocks most list rows vectors (Err NoMemory) = Unit {0}

-- the outcome of the vectors, by the list of vertex surfaces
abbrev pub IsBlocksOutcome : ℕ → List (List ℕ) → List Row → List (List ℕ) → Outcome → Type 0
IsBlocksOutcome most list rows vectors o = (reported : Result (List Block) (ℕ × LargeTurn)) × AreAnswered (IsSummed most list) vectors reported × (o ≡ sums_outcome rows reported)
