-- The results for the vectors of a document, one after another.
use Rattle.std.specs.Prelude.{◌≡◌, ℕ, List, ◌++◌, Vec, Result, Ok, Err}
use Rattle.std.specs.declared.alloc.Global.{Global}
use Rattle.std.specs.List.{AllZip, flat_map}
use Rattle.out_of_memory.specs.declared.Failure.{Failure}
use Rattle.out_of_memory.specs.Failures.{IfFault}
use Rattle.cone_definitions.specs.Rows.{Row as EquationRow}
use Rattle.skeleton_definitions.specs.Skeleton.{Skeleton}
use Rattle.surface_vector_definitions.specs.declared.Refusal.{Refusal}
use Rattle.surface_vector_definitions.specs.Answers.{IsLifted, IsFirstRefused}
use Rattle.vector_commands.specs.declared.refusals.FirstRefusal.{FirstRefusal}

-- each vector of a list has a result, and text is the lines of the results
pub record AreAnsweredIn {A : Type 0} (IsResult : List ℕ → Result A Refusal → Type 0) (line : A → List ℕ) (vectors : List (List ℕ)) (text : List ℕ) : Type 0 where
  pub answers : List A
  pub reported : AllZip (λ xs a. IsResult xs (Ok a)) vectors answers
  pub lines : text ≡ flat_map line answers

-- the lines of the result for a vector are appended, or it is refused; nothing is stated for out of memory
abbrev pub AppendsAnswer : {A : Type 0} → (List ℕ → Result A Refusal → Type 0) → (A → List ℕ) → List ℕ → List ℕ → List ℕ → Result (Unit {0}) (Failure Refusal) → Type 0
AppendsAnswer {A} IsResult line xs before now (Ok done) = (a : A) × IsResult xs (Ok a) × (now ≡ before ++ line a)
AppendsAnswer IsResult line xs before now (Err e) = IfFault e (λ refusal. IsResult xs (Err refusal))

-- the lines of the results for all vectors, or the first vector that is refused
abbrev pub WritesAnswers : {A : Type 0} → (List ℕ → Result A Refusal → Type 0) → (A → List ℕ) → List (List ℕ) → Result (Vec ℕ Global) (Failure FirstRefusal) → Type 0
WritesAnswers IsResult line vectors (Ok text) = AreAnsweredIn IsResult line vectors text.items
WritesAnswers IsResult line vectors (Err e) = IfFault e (λ first. IsFirstRefused IsResult vectors first.vector first.refusal)

-- a quad vector is lifted, or refused; nothing is stated for out of memory
abbrev pub IsLiftResult : Skeleton → List EquationRow → List ℕ → Result (Vec ℕ Global) (Failure Refusal) → Type 0
IsLiftResult s equations xs (Ok lift) = IsLifted s equations xs (Ok lift.items)
IsLiftResult s equations xs (Err e) = IfFault e (λ refusal. IsLifted s equations xs (Err refusal))
