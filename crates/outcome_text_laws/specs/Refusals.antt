-- The line of a refused vector determines the vector and the reason.
use Rattle.std.specs.Prelude.{◌≡◌, ℕ, ◌<◌, ◌^◌, ⊤}
use Rattle.surface_definitions.specs.declared.VectorFault.TheVariants as faults
use Rattle.surface_vector_definitions.specs.declared.Refusal.{Refusal}
use Rattle.surface_vector_definitions.specs.declared.Refusal.TheVariants.{Unfit, LargeSum, TooManyPieces, LargeLift, NoLift}
use Rattle.surface_vector_definitions.specs.Texts.{refusal_line, invalid_edge_line}

-- a number of at most 64 digits
abbrev pub IsShortNumber : ℕ → Type 0
IsShortNumber n = n < 10 ^ 64

-- the numbers of a reason have at most 64 digits
abbrev pub IsShortRefusal : Refusal → Type 0
IsShortRefusal (Unfit (faults.Length n)) = IsShortNumber n
IsShortRefusal (Unfit (faults.Large i)) = IsShortNumber i
IsShortRefusal (Unfit (faults.NotSolution i)) = IsShortNumber i
IsShortRefusal (Unfit (faults.Clash a b)) = IsShortNumber a × IsShortNumber b
IsShortRefusal (LargeSum sum) = ⊤
IsShortRefusal (TooManyPieces n) = IsShortNumber n
IsShortRefusal LargeLift = ⊤
IsShortRefusal (NoLift c) = IsShortNumber c

-- Theorem: refusals of vectors with the same line refuse the vector with the same number, for the same reason
abbrev pub RefusalTextsDetermine : Type 0
RefusalTextsDetermine = (v w : ℕ) (f g : Refusal) → IsShortNumber v → IsShortNumber w → IsShortRefusal f → IsShortRefusal g → refusal_line v f ≡ refusal_line w g → (v ≡ w) × (f ≡ g)

-- Theorem: refusals for an invalid edge with the same line name the same edge class
abbrev pub InvalidEdgeTextsDetermine : Type 0
InvalidEdgeTextsDetermine = (b c : ℕ) → IsShortNumber b → IsShortNumber c → invalid_edge_line b ≡ invalid_edge_line c → b ≡ c
