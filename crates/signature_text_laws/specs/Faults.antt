-- What the calls on signatures answer.
use Rattle.std.specs.Prelude.{◌≢◌, ℕ, List, Result}
use Rattle.table_definitions.specs.Table.{Row}
use Rattle.signature_definitions.specs.declared.SigFault.{SigFault}
use Rattle.signature_definitions.specs.declared.SigFault.TheVariants.{NoMemory}
use Rattle.signature_definitions.specs.Spelling.{Spells}
use Rattle.text_definitions.specs.Reading as texts

-- the error is that memory ran out, or the one that the definition gives
abbrev pub Fails : {A : Type 0} → SigFault → Result A SigFault → Type 0
Fails e read = texts.Fails NoMemory e read

-- the answer, as view sees it, is what the definition gives
abbrev pub Reads : {X A : Type 0} → (X → A) → Result X SigFault → Result A SigFault → Type 0
Reads view r read = texts.Reads NoMemory view r read

-- the same of a call that leaves x
abbrev pub Leaves : {X A : Type 0} → A → Result X SigFault → Result A SigFault → Type 0
Leaves x r read = Reads (λ u. x) r read

-- a text that is refused for another reason than memory spells no table
abbrev pub SpellsNothing : List ℕ → SigFault → Type 0
SpellsNothing text e = e ≢ NoMemory → (rows : List Row) → Spells text rows → ⊥
