-- What `decompose` and `addup` are to answer: each vector as a sum of listed surfaces, or whether given sums are such.
use Rattle.std.specs.Prelude.{◌≡◌, ◌⊎◌, ℕ, List, ◌∷◌, ◌++◌, length, Some, None, Result, Ok, Err, codes, decimal}
use Rattle.std.specs.List.{All, AllZip}
use Rattle.text_definitions.specs.Written.{limit, line}
use Rattle.cone_definitions.specs.Rows.{Row as EquationRow}
use Rattle.cone_definitions.specs.Listings.{Enumeration, IsListed}
use Rattle.cone_definitions.specs.declared.Order.TheVariants.{Given}
use Rattle.table_definitions.specs.Table.{Row}
use Rattle.table_definitions.specs.TableText.{table_text}
use Rattle.surface_definitions.specs.declared.Coords.{Coords}
use Rattle.surface_definitions.specs.declared.VectorFault.{VectorFault}
use Rattle.surface_definitions.specs.declared.VectorFault.TheVariants as faults
use Rattle.surface_definitions.specs.QuadEquations.{AreEquations}
use Rattle.surface_definitions.specs.TableSurfaces.{table_enumeration}
use Rattle.surface_definitions.specs.Verdict.{Verdict, verdict_text}
use Rattle.surface_vector_definitions.specs.Answers.{verdict_in, IsFit, IsUnfit}
use Rattle.sum_definitions.specs.Sums.{Term, IsSum, IsLargeStep}
use Rattle.sum_definitions.specs.declared.LargeTurn.{LargeTurn}
use Rattle.sum_definitions.specs.Adding.{add_fault}
use Rattle.sum_definitions.specs.declared.AddFault.TheVariants.{ZeroTimes, Large, NotEqual}
use Rattle.text_document_definitions.specs.Blocks.{Block, blocks_text}
use Rattle.outcome_definitions.specs.declared.SumRefusal.{SumRefusal}
use Rattle.outcome_definitions.specs.declared.SumRefusal.TheVariants.{Unfit, UnfitTerm, LargeTimes, NoSum}
use Rattle.outcome_definitions.specs.declared.Status.{Status}
use Rattle.outcome_definitions.specs.declared.Status.TheVariants as statuses
use Rattle.outcome_definitions.specs.Lines.{accepted_text}
use Rattle.outcome_definitions.specs.Outcomes.{Outcome}
use Rattle.outcome_definitions.specs.Enumerations.{IsLargeAnswered}

-- the item of this number is the first of a list that fails
pub record IsFirst {A : Type 0} (Passes Fails : A → Type 0) (list : List A) (number : ℕ) : Type 0 where
  pub before : List A
  pub value : A
  pub after : List A
  pub occurs : list ≡ before ++ value ∷ after
  pub number_is : number ≡ length before
  pub passed : All Passes before
  pub fails : Fails value

-- number v of a list is the first that is refused, and this is why
abbrev pub IsFirstRefused : {A B E : Type 0} → (A → Result B E → Type 0) → List A → ℕ → E → Type 0
IsFirstRefused {A} {B} IsResult list v refusal = IsFirst (λ x. (answer : B) × IsResult x (Ok answer)) (λ x. IsResult x (Err refusal)) list v

-- the answer for a list: the result of each element, or the index of the first that is refused, with the reason
abbrev pub AreAnswered : {A B E : Type 0} → (A → Result B E → Type 0) → List A → Result (List B) (ℕ × E) → Type 0
AreAnswered IsResult list (Ok answers) = AllZip (λ x answer. IsResult x (Ok answer)) list answers
AreAnswered IsResult list (Err refusal) = IsFirstRefused IsResult list refusal.0 refusal.1

-- a number is too large, or the vector does not allow what is asked
abbrev pub unfit_status : VectorFault → Status
unfit_status (faults.Length n) = statuses.Refused
unfit_status (faults.Large i) = statuses.Large
unfit_status (faults.NotSolution i) = statuses.Refused
unfit_status (faults.Clash a b) = statuses.Refused

abbrev pub sum_refusal_status : SumRefusal → Status
sum_refusal_status (Unfit fault) = unfit_status fault
sum_refusal_status (UnfitTerm i fault) = unfit_status fault
sum_refusal_status (LargeTimes turn column) = statuses.Large
sum_refusal_status (NoSum ZeroTimes) = statuses.Refused
sum_refusal_status (NoSum (Large column)) = statuses.Large
sum_refusal_status (NoSum (NotEqual column)) = statuses.Refused

-- why a vector is refused, as the end of a line
abbrev pub sum_refusal_text : SumRefusal → List ℕ
sum_refusal_text (Unfit fault) = verdict_text (Err fault)
sum_refusal_text (UnfitTerm i fault) = codes "term " ++ decimal i ++ codes " " ++ verdict_text (Err fault)
sum_refusal_text (LargeTimes turn column) = line (codes "large-times " ++ decimal turn ++ codes " " ++ decimal column)
sum_refusal_text (NoSum ZeroTimes) = line (codes "zero-times")
sum_refusal_text (NoSum (Large column)) = line (codes "large-equation " ++ decimal column)
sum_refusal_text (NoSum (NotEqual column)) = line (codes "not-equal " ++ decimal column)

-- the line for the vector of this number
unfoldable pub sum_refusal_line : ℕ → SumRefusal → List ℕ
sum_refusal_line v refusal = codes "refused: vector " ++ decimal v ++ codes " " ++ sum_refusal_text refusal

abbrev pub sum_refusal_outcome : ℕ → SumRefusal → Outcome
sum_refusal_outcome v refusal = record { status = sum_refusal_status refusal; text = sum_refusal_line v refusal }

-- the verdict on a vector, by the equations of a table
abbrev pub IsVerdict : Coords → List Row → List EquationRow → List ℕ → Verdict → Type 0
IsVerdict coords rows equations x checked = verdict_in coords rows equations x ≡ checked

-- the sum of a vector, or the first step at which a multiple of an entry exceeds the limit, and the first such column
abbrev pub IsSummed : ℕ → List (List ℕ) → List ℕ → Result Block LargeTurn → Type 0
IsSummed most list x (Ok block) = (block.vector ≡ x) × IsSum most list x block.times block.terms
IsSummed most list x (Err large) = IsLargeStep most list x large.turn large.column

-- a table, followed by blocks
abbrev pub sums_text : List Row → List Block → List ℕ
sums_text rows blocks = table_text rows ++ blocks_text blocks

-- the table and a block for each vector, or the first whose sum gets too large
abbrev pub sums_outcome : List Row → Result (List Block) (ℕ × LargeTurn) → Outcome
sums_outcome rows (Ok blocks) = record { status = statuses.Done; text = sums_text rows blocks }
sums_outcome rows (Err large) = sum_refusal_outcome large.0 (LargeTimes large.1.turn large.1.column)

-- the vertex surfaces are listed, and the answer is the vectors as sums of them
pub record AreSums (most : ℕ) (e : Enumeration) (rows : List Row) (vectors : List (List ℕ)) (o : Outcome) : Type 0 where
  pub taken : List ℕ
  pub list : List (List ℕ)
  pub listed : IsListed e taken list
  pub reported : Result (List Block) (ℕ × LargeTurn)
  pub sums : AreAnswered (IsSummed most list) vectors reported
  pub outcome : o ≡ sums_outcome rows reported

-- vectors that pass the check are answered as sums of the vertex surfaces, unless a number of the enumeration exceeds
-- the limit
abbrev pub IsDecomposed : ℕ → Enumeration → List Row → List (List ℕ) → Result (List (Unit {0})) (ℕ × VectorFault) → Outcome → Type 0
IsDecomposed most e rows vectors (Ok passed) o = AreSums most e rows vectors o ⊎ IsLargeAnswered e o
IsDecomposed most e rows vectors (Err unfit) o = o ≡ sum_refusal_outcome unfit.0 (Unfit unfit.1)

-- the answer of `decompose` to a table and vectors: the check of each vector comes first
pub record IsDecomposeAnswer (coords : Coords) (most : ℕ) (d : List Row × List (List ℕ)) (o : Outcome) : Type 0 where
  pub equations : List EquationRow
  pub of_table : AreEquations coords d.0 equations
  pub checked : Result (List (Unit {0})) (ℕ × VectorFault)
  pub verdicts : AreAnswered (IsVerdict coords d.0 equations) d.1 checked
  pub reported : IsDecomposed most (table_enumeration coords Given most d.0 equations) d.0 d.1 checked o

-- the verdict on a term
abbrev pub IsTermVerdict : Coords → List Row → List EquationRow → Term → Verdict → Type 0
IsTermVerdict coords rows equations term checked = IsVerdict coords rows equations term.vector checked

-- the vector and the terms of a block are admissible solutions
pub record AreFit (coords : Coords) (rows : List Row) (equations : List EquationRow) (block : Block) : Type 0 where
  pub vector : IsFit coords rows equations block.vector
  pub terms : All (λ (term : Term). IsFit coords rows equations term.vector) block.terms

-- a block is accepted if its vector and its terms are admissible solutions and the terms add up; otherwise this is its
-- first error
abbrev pub IsAddedUp : Coords → List Row → List EquationRow → Block → Result (Unit {0}) SumRefusal → Type 0
IsAddedUp coords rows equations block (Ok accepted) = AreFit coords rows equations block × (add_fault limit block.vector block.times block.terms ≡ None)
IsAddedUp coords rows equations block (Err (Unfit fault)) = IsUnfit coords rows equations block.vector fault
IsAddedUp coords rows equations block (Err (UnfitTerm i fault)) = IsFit coords rows equations block.vector × IsFirstRefused (IsTermVerdict coords rows equations) block.terms i fault
IsAddedUp coords rows equations block (Err (NoSum fault)) = AreFit coords rows equations block × (add_fault limit block.vector block.times block.terms ≡ Some fault)
IsAddedUp coords rows equations block (Err (LargeTimes turn column)) = ⊥

abbrev pub accepted_outcome : Outcome
accepted_outcome = record { status = statuses.Done; text = accepted_text }

-- all blocks are accepted, or the answer names the first that is not
abbrev pub addup_outcome : Result (List (Unit {0})) (ℕ × SumRefusal) → Outcome
addup_outcome (Ok accepted) = accepted_outcome
addup_outcome (Err refusal) = sum_refusal_outcome refusal.0 refusal.1

-- the answer of `addup` to a table and blocks
pub record IsAddupAnswer (coords : Coords) (d : List Row × List Block) (o : Outcome) : Type 0 where
  pub equations : List EquationRow
  pub of_table : AreEquations coords d.0 equations
  pub reported : Result (List (Unit {0})) (ℕ × SumRefusal)
  pub added : AreAnswered (IsAddedUp coords d.0 equations) d.1 reported
  pub outcome : o ≡ addup_outcome reported
