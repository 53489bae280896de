-- The quads of the tetrahedra of distinct vertices add up to at most four times the sum of all quads.
use Rattle.std.proofs.Common.{◌≡◌, ℕ, zero, suc, ◌+◌, ◌*◌, ◌/◌, ◌<◌, ◌≤◌, ⊎_elim, List, [], ◌∷◌, length, take, inl, inr, refl, sym, ap, subst, arith}
use Rattle.std.specs.Prelude.{sum, sum_by, slice_index}
use Rattle.std.proofs.lemmas.List.{take_all}
use Rattle.std.proofs.lemmas.List.Sums.{sum_by-cons}
use Rattle.table_definitions.specs.Lists.{below}
use Rattle.table_definitions.proofs.TableLaws.{Among}
use Rattle.table_definitions.proofs.DistinctLists.{AreApart, IsWithout, taken_out}
use Rattle.surface_laws.proofs.ThreeSums.{three_of, three_more}
use Rattle.surface_laws.proofs.Counting.{last_term}

-- the quads of the tetrahedron of vertex i
abbrev pub beside : List ℕ → ℕ → ℕ
beside xs i = three_of xs (i / 4)

pub one_of_three : (xs : List ℕ) (t k : ℕ) → k < 3 → slice_index xs (3 * t + k) ≤ three_of xs t
one_of_three xs t zero l = let e : slice_index xs (3 * t + 0) ≡ slice_index xs (3 * t) = ap (slice_index xs) (omega arith) in omega arith
one_of_three xs t (suc zero) l = omega arith
one_of_three xs t (suc (suc zero)) l = omega arith
one_of_three xs t (suc (suc (suc k))) l = absurd (omega arith)

-- distinct items of a list have at most the sum of the list
pub apart_sum : {A : Type 0} (f : A → ℕ) (xs ys : List A) → AreApart xs → ((x : A) → Among x xs → Among x ys) → sum_by f xs ≤ sum_by f ys
apart_sum f [] ys separate inside = let z : sum_by f [] ≡ 0 = refl in omega arith
apart_sum {A} f (x ∷ xs) ys separate inside =
    let r = taken_out x ys (inside x (inl refl)) in
    let w : IsWithout x ys r.0 = r.1 in
    let more : sum_by f xs ≤ sum_by f r.0 = apart_sum f xs r.0 separate.1 (λ z a. ⊎_elim (λ q. absurd (separate.0 (subst (λ (u : A). Among u xs) q a))) (λ g. g) (w.others z (inside z (inr a)))) in
    omega (arith, sum_by-cons f x xs, w.sums f)

beside_is : (xs : List ℕ) (t i : ℕ) → i / 4 ≡ t → beside xs i ≡ three_of xs t
beside_is xs t i e = ap (three_of xs) e

four-more : (xs : List ℕ) (t : ℕ) → sum_by (beside xs) (below (4 * (t + 1))) ≡ sum_by (beside xs) (below (4 * t)) + 4 * three_of xs t
four-more xs t =
    let e : 4 * (t + 1) ≡ suc (suc (suc (suc (4 * t)))) = omega arith in
    let whole : sum_by (beside xs) (below (4 * (t + 1))) ≡ sum_by (beside xs) (below (suc (suc (suc (suc (4 * t)))))) = ap (λ n. sum_by (beside xs) (below n)) e in
    omega (
      arith,
      whole,
      last_term (beside xs) (4 * t),
      last_term (beside xs) (suc (4 * t)),
      last_term (beside xs) (suc (suc (4 * t))),
      last_term (beside xs) (suc (suc (suc (4 * t)))),
      beside_is xs t (4 * t) (omega arith),
      beside_is xs t (suc (4 * t)) (omega arith),
      beside_is xs t (suc (suc (4 * t))) (omega arith),
      beside_is xs t (suc (suc (suc (4 * t)))) (omega arith),
    )

before : (xs : List ℕ) (t : ℕ) → 3 * t ≤ length xs → sum_by (beside xs) (below (4 * t)) ≡ 4 * sum (take (3 * t) xs)
before xs zero l = refl
before xs (suc t) l =
    let e : suc t ≡ t + 1 = omega arith in
    subst (λ n. sum_by (beside xs) (below (4 * n)) ≡ 4 * sum (take (3 * n) xs)) (sym e)
    (let more : sum_by (beside xs) (below (4 * t)) ≡ 4 * sum (take (3 * t) xs) = before xs t (omega arith) in omega (arith, four-more xs t, three_more xs t (omega arith)))

pub all_beside : (xs : List ℕ) (n : ℕ) → length xs ≡ 3 * n → sum_by (beside xs) (below (4 * n)) ≡ 4 * sum xs
all_beside xs n w =
    let all : sum (take (3 * n) xs) ≡ sum xs = ap (λ (ys : List ℕ). sum ys) (take_all (3 * n) xs (omega arith)) in
    omega (arith, before xs n (omega arith), all)
