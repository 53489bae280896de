-- The verdict, by the first equation that does not hold.
use Rattle.std.proofs.Common.{◌≡◌, ◌≢◌, ℕ, zero, suc, ◌+◌, ◌<◌, true, false, List, [], ◌∷◌, length, get_or, Option, Some, None, inl, inr, refl, sym, ap, ◌∙◌, subst, arith, add-zero}
use Rattle.std.specs.List.{All, find}
use Rattle.std.specs.Prelude.{◌==◌, ◌||◌, ◌↔◌, nat_lt, if◌then◌else◌, Result, Ok, Err, IsOk}
use Rattle.std.proofs.lemmas.Bool.{eq-eqb, ne_eqb, le-ltb, lt-ltb, or_from, or_right}
use Rattle.cone_definitions.specs.Rows.{Row as EquationRow, plus_part, minus_part, IsZeroAt}
use Rattle.cone_definitions.specs.Elimination.{HasLargePart, HasPartsWithin}
use Rattle.cone_definitions.specs.HoldingRows.{HoldsWithin, HoldWithinBefore}
use Rattle.surface_definitions.specs.declared.VectorFault.{VectorFault}
use Rattle.surface_definitions.specs.declared.VectorFault.TheVariants.{Length, Large, NotSolution}
use Rattle.surface_definitions.specs.Verdict.{Verdict, solution, both_nonzero, row_fault, rows_verdict, or_else, clash_verdict, verdict}
use Rattle.surface_definitions.specs.Laws.{IsAcceptedVector}
use Rattle.surface_definitions.proofs.VerdictLaws.{accepted_by, accepted-verdict, fault_by, none-row_fault}

fault_met : (max i : ℕ) (row : EquationRow) (x : List ℕ) → HoldsWithin max x row → row_fault max i row x ≡ None
fault_met max i row x met = none-row_fault max i row x met.zero met.within

fault_large : (max i : ℕ) (row : EquationRow) (x : List ℕ) → HasLargePart max row x → row_fault max i row x ≡ Some (Large i)
fault_large max i row x h = ap (λ l. fault_by i l (plus_part row x == minus_part row x)) (test h)
  where
    test : HasLargePart max row x → (nat_lt max (plus_part row x) || nat_lt max (minus_part row x)) ≡ true
    test (inl p) = ap (λ b. b || nat_lt max (minus_part row x)) (lt-ltb max (plus_part row x) p)
    test (inr m) = or_right (nat_lt max (plus_part row x)) (nat_lt max (minus_part row x)) (lt-ltb max (minus_part row x) m)

fault_fails : (max i : ℕ) (row : EquationRow) (x : List ℕ) → HasPartsWithin max row x → (IsZeroAt row x → ⊥) → row_fault max i row x ≡ Some (NotSolution i)
fault_fails max i row x within not_zero =
    let l : (nat_lt max (plus_part row x) || nat_lt max (minus_part row x)) ≡ false =
    or_from (nat_lt max (plus_part row x)) (nat_lt max (minus_part row x)) (le-ltb max (plus_part row x) within.0) (le-ltb max (minus_part row x) within.1) in
    let e : (plus_part row x == minus_part row x) ≡ false = ne_eqb (plus_part row x) (minus_part row x) not_zero in
    λ k. fault_by i (l k) (e k)

-- the verdict at the first row that does not hold
first_fault : (max k : ℕ) (rows : List EquationRow) (x : List ℕ) (v : Verdict) (w : VectorFault) (i : ℕ) → i < length rows → HoldWithinBefore max rows x i → row_fault max (k + i) (get_or rows i []) x ≡ Some w
    → rows_verdict max k rows x v ≡ Err w
first_fault max k [] x v w i l met f = absurd (omega arith)
first_fault max k (row ∷ rows) x v w zero l met f =
    ap (λ o. or_else o (rows_verdict max (k + 1) rows x v)) (ap (λ n. row_fault max n row x) (sym (add-zero k)) ∙ f)
first_fault max k (row ∷ rows) x v w (suc i) l met f =
    let e : (k + 1) + i ≡ k + suc i = omega arith in
    ap (λ o. or_else o (rows_verdict max (k + 1) rows x v)) (fault_met max k row x (met 0 (omega arith)))
    ∙ first_fault max (k + 1) rows x v w i (omega arith) (λ j h. met (suc j) (omega arith)) (ap (λ n. row_fault max n (get_or rows i []) x) e ∙ f)

no_fault : (max k : ℕ) (rows : List EquationRow) (x : List ℕ) (v : Verdict) → All (HoldsWithin max x) rows → rows_verdict max k rows x v ≡ v
no_fault max k [] x v met = refl
no_fault max k (row ∷ rows) x v met =
    ap (λ o. or_else o (rows_verdict max (k + 1) rows x v)) (fault_met max k row x (met 0 row (omega arith))) ∙ no_fault max (k + 1) rows x v (λ j d h. met (suc j) d (omega arith))

at_width : (max n : ℕ) (rows : List EquationRow) (pairs : List (ℕ × ℕ)) (x : List ℕ) → length x ≡ n → verdict max n rows pairs x ≡ rows_verdict max 0 rows x (clash_verdict (find (both_nonzero x) pairs))
unfolding verdict
at_width max n rows pairs x e =
    ap (λ b. if b then rows_verdict max 0 rows x (clash_verdict (find (both_nonzero x) pairs)) else Err (Length (length x))) (eq-eqb (length x) n e)

pub length_told : (max n : ℕ) (rows : List EquationRow) (pairs : List (ℕ × ℕ)) (x : List ℕ) → length x ≢ n → verdict max n rows pairs x ≡ Err (Length (length x))
unfolding verdict
length_told max n rows pairs x ne =
    ap (λ b. (if b then rows_verdict max 0 rows x (clash_verdict (find (both_nonzero x) pairs)) else Err (Length (length x)))) (ne_eqb (length x) n ne)

module _ (max n : ℕ) (rows : List EquationRow) (pairs : List (ℕ × ℕ)) (x : List ℕ) where
  fault_told : (i : ℕ) (w : VectorFault) → length x ≡ n → i < length rows → HoldWithinBefore max rows x i → row_fault max i (get_or rows i []) x ≡ Some w → verdict max n rows pairs x ≡ Err w
  fault_told i w e l met f = at_width max n rows pairs x e
      ∙ first_fault max 0 rows x (clash_verdict (find (both_nonzero x) pairs)) w i l met (let z : 0 + i ≡ i = omega arith in ap (λ j. row_fault max j (get_or rows i []) x) z ∙ f)

  pub large_told : (i : ℕ) → length x ≡ n → i < length rows → HoldWithinBefore max rows x i → HasLargePart max (get_or rows i []) x → verdict max n rows pairs x ≡ Err (Large i)
  large_told i e l met large = fault_told i (Large i) e l met (fault_large max i (get_or rows i []) x large)

  pub failure_told : (i : ℕ) → length x ≡ n → i < length rows → HoldWithinBefore max rows x i → HasPartsWithin max (get_or rows i []) x → ¬ IsZeroAt (get_or rows i []) x → verdict max n rows pairs x ≡ Err (NotSolution i)
  failure_told i e l met within not_zero = fault_told i (NotSolution i) e l met (fault_fails max i (get_or rows i []) x within not_zero)

  pub clash_told : (found : Option (ℕ × ℕ)) → length x ≡ n → All (HoldsWithin max x) rows → found ≡ find (both_nonzero x) pairs → verdict max n rows pairs x ≡ clash_verdict found
  clash_told found e met f = at_width max n rows pairs x e ∙ no_fault max 0 rows x (clash_verdict (find (both_nonzero x) pairs)) met ∙ sym (ap clash_verdict f)

-- exactly the admissible solutions of which no part exceeds the limit are accepted
ok_solution : (v : Verdict) → IsOk v → v ≡ solution
ok_solution (Ok u) h = refl
ok_solution (Err fault) h = absurd cc

pub accepts_by : (max n : ℕ) (rows : List EquationRow) (pairs : List (ℕ × ℕ)) (x : List ℕ) (result : Result (Unit {0}) VectorFault) → result ≡ verdict max n rows pairs x
    → IsOk result ↔ IsAcceptedVector max n rows pairs x
accepts_by max n rows pairs x result e = (
  (λ h. accepted_by max n rows pairs x (ok_solution (verdict max n rows pairs x) (subst IsOk e h))),
  (λ a. subst IsOk (sym (e ∙ accepted-verdict max n rows pairs x a)) refl),
)
