-- The verdict is `solution` exactly at the admissible solutions of which no part exceeds the maximum.
use Rattle.std.proofs.Common.{◌≡◌, ℕ, zero, suc, ◌+◌, ◌<◌, ◌≤◌, Bool, true, false, cond, List, [], ◌∷◌, length, Option, Some, None, Err, ◌⊎◌, inl, inr, refl, ap, ◌∙◌, arith, ⊎_elim}
use Rattle.std.specs.Prelude.{◌==◌, nat_lt, ◌||◌, if◌then◌else◌, All, find, slice_index}
use Rattle.std.proofs.lemmas.Bool.{eqb-true, eq-eqb, ltb-false, le-ltb, or_parts, or_from, and_cases, and_left, and_right}
use Rattle.cone_definitions.specs.Rows.{Row as EquationRow, plus_part, minus_part, IsZeroAt}
use Rattle.cone_definitions.specs.Elimination.{HasPartsWithin}
use Rattle.surface_definitions.specs.Verdict.{both_nonzero, Verdict, solution, row_fault, or_else, rows_verdict, clash_verdict, verdict}
use Rattle.surface_definitions.specs.declared.VectorFault.{VectorFault}
use Rattle.surface_definitions.specs.declared.VectorFault.TheVariants.{Length, Large, NotSolution}
use Rattle.surface_definitions.specs.Laws.{IsAcceptedVector}

-- nothing is wrong at a row if and only if it is 0 and no part is large
fault_test : (max i : ℕ) (row : EquationRow) (xs : List ℕ) (l e : Bool) → (if l then Some (Large i) else (if e then None else Some (NotSolution i))) ≡ None → (l ≡ false) × (e ≡ true)
fault_test max i row xs true e h = absurd cc
fault_test max i row xs false true h = (refl, refl)
fault_test max i row xs false false h = absurd cc

row_fault-none : (max i : ℕ) (row : EquationRow) (xs : List ℕ) → row_fault max i row xs ≡ None → IsZeroAt row xs × HasPartsWithin max row xs
row_fault-none max i row xs h =
    let t : ((nat_lt max (plus_part row xs) || nat_lt max (minus_part row xs)) ≡ false) × ((plus_part row xs == minus_part row xs) ≡ true) =
    fault_test max i row xs (nat_lt max (plus_part row xs) || nat_lt max (minus_part row xs)) (plus_part row xs == minus_part row xs) h in
    let parts : (nat_lt max (plus_part row xs) ≡ false) × (nat_lt max (minus_part row xs) ≡ false) = or_parts (nat_lt max (plus_part row xs)) (nat_lt max (minus_part row xs)) t.0 in
    (eqb-true (plus_part row xs) (minus_part row xs) t.1, (ltb-false max (plus_part row xs) parts.0, ltb-false max (minus_part row xs) parts.1))

abbrev pub fault_by : ℕ → Bool → Bool → Option VectorFault
fault_by i l e = if l then Some (Large i) else (if e then None else Some (NotSolution i))

pub none-row_fault : (max i : ℕ) (row : EquationRow) (xs : List ℕ) → IsZeroAt row xs → HasPartsWithin max row xs → row_fault max i row xs ≡ None
none-row_fault max i row xs z p =
    let l : (nat_lt max (plus_part row xs) || nat_lt max (minus_part row xs)) ≡ false = or_from (nat_lt max (plus_part row xs)) (nat_lt max (minus_part row xs)) (le-ltb max (plus_part row xs) p.0) (le-ltb max (minus_part row xs) p.1) in
    let e : (plus_part row xs == minus_part row xs) ≡ true = eq-eqb (plus_part row xs) (minus_part row xs) z in
    λ k. fault_by i (l k) (e k)

-- a row's fault is no solution
no_solution : (max i : ℕ) (row : EquationRow) (xs : List ℕ) (l e : Bool) (v : Verdict) → or_else (fault_by i l e) v ≡ solution → (fault_by i l e ≡ None) × (v ≡ solution)
no_solution max i row xs true e v h = absurd cc
no_solution max i row xs false true v h = (refl, h)
no_solution max i row xs false false v h = absurd cc

-- the verdict over the rows is `solution` if and only if nothing is wrong at any row and the rest of the verdict is
-- `solution`
rows_solve : (max i : ℕ) (rows : List EquationRow) (xs : List ℕ) (v : Verdict) → rows_verdict max i rows xs v ≡ solution
    → All (λ (row : EquationRow). IsZeroAt row xs) rows × All (λ (row : EquationRow). HasPartsWithin max row xs) rows × (v ≡ solution)
rows_solve max i [] xs v h = ((λ k d l. absurd (omega arith)), (λ k d l. absurd (omega arith)), h)
rows_solve max i (row ∷ rows) xs v h =
    let parts : (row_fault max i row xs ≡ None) × (rows_verdict max (i + 1) rows xs v ≡ solution) =
    no_solution max i row xs (nat_lt max (plus_part row xs) || nat_lt max (minus_part row xs)) (plus_part row xs == minus_part row xs) (rows_verdict max (i + 1) rows xs v) h in
    let here : IsZeroAt row xs × HasPartsWithin max row xs = row_fault-none max i row xs parts.0 in
    let more : All (λ (r : EquationRow). IsZeroAt r xs) rows × All (λ (row : EquationRow). HasPartsWithin max row xs) rows × (v ≡ solution) = rows_solve max (i + 1) rows xs v parts.1 in
    (all_with (λ (r : EquationRow). IsZeroAt r xs) row rows here.0 more.0, all_with (λ (row : EquationRow). HasPartsWithin max row xs) row rows here.1 more.1, more.2)
  where
    all_with : (P : EquationRow → Type 0) (r : EquationRow) (rs : List EquationRow) → P r → All P rs → All P (r ∷ rs)
    all_with P r rs p ps zero d l = p
    all_with P r rs p ps (suc k) d l = ps k d (omega arith)

solve_rows : (max i : ℕ) (rows : List EquationRow) (xs : List ℕ) (v : Verdict) → All (λ (row : EquationRow). IsZeroAt row xs) rows → All (λ (row : EquationRow). HasPartsWithin max row xs) rows → rows_verdict max i rows xs v ≡ v
solve_rows max i [] xs v z p = refl
solve_rows max i (row ∷ rows) xs v z p =
    let first : 0 < length (row ∷ rows) = omega arith in
    ap (λ (o : Option VectorFault). or_else o (rows_verdict max (i + 1) rows xs v)) (none-row_fault max i row xs (z 0 row first) (p 0 row first))
    ∙ solve_rows max (i + 1) rows xs v (λ k d l. z (suc k) d (omega arith)) (λ k d l. p (suc k) d (omega arith))

-- no pair is found if and only if one column of each is 0
abbrev one_zero : List ℕ → ℕ × ℕ → Type 0
one_zero xs p = (slice_index xs p.0 ≡ 0) ⊎ (slice_index xs p.1 ≡ 0)

zero_of : (n : ℕ) → nat_lt 0 n ≡ false → n ≡ 0
zero_of n h = let low : n ≤ 0 = ltb-false 0 n h in omega arith

not_both : (xs : List ℕ) (p : ℕ × ℕ) → both_nonzero xs p ≡ false → one_zero xs p
not_both xs p h =
    ⊎_elim (λ a. inl (zero_of (slice_index xs p.0) a)) (λ b. inr (zero_of (slice_index xs p.1) b)) (and_cases (nat_lt 0 (slice_index xs p.0)) (nat_lt 0 (slice_index xs p.1)) h)

both_not : (xs : List ℕ) (p : ℕ × ℕ) → one_zero xs p → both_nonzero xs p ≡ false
both_not xs p (inl z) = and_left (nat_lt 0 (slice_index xs p.0)) (nat_lt 0 (slice_index xs p.1)) (ap (λ n. nat_lt 0 n) z)
both_not xs p (inr z) = and_right (nat_lt 0 (slice_index xs p.0)) (nat_lt 0 (slice_index xs p.1)) (ap (λ n. nat_lt 0 n) z)

abbrev verdict_if : Bool → ℕ × ℕ → Option (ℕ × ℕ) → Verdict
verdict_if b p o = clash_verdict (cond b (Some p) o)

clash_test : (b : Bool) (p : ℕ × ℕ) (o : Option (ℕ × ℕ)) → verdict_if b p o ≡ solution → (b ≡ false) × (clash_verdict o ≡ solution)
clash_test true p o h = absurd cc
clash_test false p o h = (refl, h)

pairs_pass : (xs : List ℕ) (pairs : List (ℕ × ℕ)) → clash_verdict (find (both_nonzero xs) pairs) ≡ solution → All (one_zero xs) pairs
pairs_pass xs [] h k d l = absurd (omega arith)
pairs_pass xs (p ∷ ps) h zero d l = not_both xs p (clash_test (both_nonzero xs p) p (find (both_nonzero xs) ps) h).0
pairs_pass xs (p ∷ ps) h (suc k) d l = pairs_pass xs ps (clash_test (both_nonzero xs p) p (find (both_nonzero xs) ps) h).1 k d (omega arith)

pass_pairs : (xs : List ℕ) (pairs : List (ℕ × ℕ)) → All (one_zero xs) pairs → clash_verdict (find (both_nonzero xs) pairs) ≡ solution
pass_pairs xs [] a = refl
pass_pairs xs (p ∷ ps) a =
    let first : 0 < length (p ∷ ps) = omega arith in
    ap (λ (b : Bool). verdict_if b p (find (both_nonzero xs) ps)) (both_not xs p (a 0 p first)) ∙ pass_pairs xs ps (λ k d l. a (suc k) d (omega arith))

-- the length is checked first
length_test : (b : Bool) (v : Verdict) (n : ℕ) → (if b then v else Err (Length n)) ≡ solution → (b ≡ true) × (v ≡ solution)
length_test true v n h = (refl, h)
length_test false v n h = absurd cc

pub accepted_by : (max n : ℕ) (rows : List EquationRow) (pairs : List (ℕ × ℕ)) (xs : List ℕ) → verdict max n rows pairs xs ≡ solution → IsAcceptedVector max n rows pairs xs
unfolding verdict
accepted_by max n rows pairs xs h =
    let l : ((length xs == n) ≡ true) × (rows_verdict max 0 rows xs (clash_verdict (find (both_nonzero xs) pairs)) ≡ solution) =
    length_test (length xs == n) (rows_verdict max 0 rows xs (clash_verdict (find (both_nonzero xs) pairs))) (length xs) h in
    let r : All (λ (row : EquationRow). IsZeroAt row xs) rows × All (λ (row : EquationRow). HasPartsWithin max row xs) rows × (clash_verdict (find (both_nonzero xs) pairs) ≡ solution) =
    rows_solve max 0 rows xs (clash_verdict (find (both_nonzero xs) pairs)) l.1 in
    record {
      solves = record { width = eqb-true (length xs) n l.0; zero = r.0 };
      admissible = pairs_pass xs pairs r.2;
      within = r.1;
    }

pub accepted-verdict : (max n : ℕ) (rows : List EquationRow) (pairs : List (ℕ × ℕ)) (xs : List ℕ) → IsAcceptedVector max n rows pairs xs → verdict max n rows pairs xs ≡ solution
unfolding verdict
accepted-verdict max n rows pairs xs a =
    ap (λ (b : Bool). if b then rows_verdict max 0 rows xs (clash_verdict (find (both_nonzero xs) pairs)) else Err (Length (length xs))) (eq-eqb (length xs) n a.solves.width)
    ∙ solve_rows max 0 rows xs (clash_verdict (find (both_nonzero xs) pairs)) a.solves.zero a.within
    ∙ pass_pairs xs pairs a.admissible
