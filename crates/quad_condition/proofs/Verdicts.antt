-- The verdict, by the results of the calls on a system of rows.
use Rattle.std.proofs.Common.{◌≡◌, ◌≢◌, ℕ, ℤ, List, length, Option, sym}
use Rattle.std.specs.List.{All, find}
use Rattle.std.specs.Prelude.{Err}
use Rattle.cone_definitions.specs.HoldingRows.{HoldsWithin}
use Rattle.surface_definitions.specs.Verdict.{both_nonzero, clash_verdict, verdict}
use Rattle.surface_definitions.specs.declared.VectorFault.TheVariants.{Length}
use Rattle.cone_arithmetic.specs.Faults.{SolutionFails}
use Rattle.cone_arithmetic.specs.declared.system.SolutionFault.{SolutionFault}
use Rattle.cone_arithmetic.specs.declared.system.SolutionFault.TheVariants.{Passed, NotZero}
use Rattle.quad_condition.specs.Faults.{fault_of}
use Rattle.surface_definitions.proofs.FirstFaults.{length_told, large_told, failure_told, clash_told}

abbrev pub SparseRow : Type 0
SparseRow = List (ℕ × ℤ)

pub length_answer : (max n : ℕ) (rows : List SparseRow) (pairs : List (ℕ × ℕ)) (x : List ℕ) → length x ≢ n → Err (Length (length x)) ≡ verdict max n rows pairs x
length_answer max n rows pairs x ne = sym (length_told max n rows pairs x ne)

pub row_answer : (max n : ℕ) (rows : List SparseRow) (pairs : List (ℕ × ℕ)) (x : List ℕ) (fault : SolutionFault) → length x ≡ n → SolutionFails max rows x fault → Err (fault_of fault) ≡ verdict max n rows pairs x
row_answer max n rows pairs x (Passed i) e h = sym (large_told max n rows pairs x i e h.in_range h.earlier h.exceeded)
row_answer max n rows pairs x (NotZero i) e h =
    sym (failure_told max n rows pairs x i e h.in_range h.earlier h.within h.not_zero)

pub clash_answer : (max n : ℕ) (rows : List SparseRow) (pairs : List (ℕ × ℕ)) (x : List ℕ) (found : Option (ℕ × ℕ)) → length x ≡ n → All (HoldsWithin max x) rows → found ≡ find (both_nonzero x) pairs
    → clash_verdict found ≡ verdict max n rows pairs x
clash_answer max n rows pairs x found e met f = sym (clash_told max n rows pairs x found e met f)
