-- Pairs of a facet and a label of it, by numbers below 25.
use Rattle.std.proofs.Common.{◌≡◌, ◌≢◌, ℕ, ◌+◌, ◌*◌, ◌/◌, ◌%◌, ◌<◌, ◌≤◌, Bool, true, ◌∙◌, arith}
use Rattle.std.specs.Prelude.{◌==◌, ◌&&◌, not, nat_lt}
use Rattle.std.proofs.lemmas.Bool.{and_parts, and_from, ltb-true, ltb-false, lt-ltb, le-ltb, ne_eqb, eqb-false, not-true, not_from_false}

-- pairs of a facet and a label of it, by numbers below 25
unfoldable pub old_pair : (size : ℕ) (at_class : ℕ → Bool) (pair : ℕ) → Bool
old_pair s x k = not (nat_lt (k / 5) s) && (not (k % 5 == k / 5) && x (k % 5))

unfoldable pub new_pair : (size : ℕ) (at_class : ℕ → Bool) (pair : ℕ) → Bool
new_pair s x k = nat_lt (k / 5) s && (not (k % 5 == k / 5) && x (k % 5))

pub record IsPair (x : ℕ → Bool) (k : ℕ) : Type 0 where
  pub facet : k / 5 < 5
  pub label : k % 5 < 5
  pub off : k % 5 ≢ k / 5
  pub at : x (k % 5) ≡ true

pub old_pair_is : (s : ℕ) (x : ℕ → Bool) (k : ℕ) → k < 25 → old_pair s x k ≡ true → (s ≤ k / 5) × IsPair x k
unfolding old_pair
old_pair_is s x k l h =
    let p = and_parts (not (nat_lt (k / 5) s)) (not (k % 5 == k / 5) && x (k % 5)) h in
    let q = and_parts (not (k % 5 == k / 5)) (x (k % 5)) p.1 in
    (ltb-false (k / 5) s (not-true (nat_lt (k / 5) s) p.0), record { facet = omega arith; label = omega arith; off = eqb-false (k % 5) (k / 5) (not-true (k % 5 == k / 5) q.0); at = q.1 })

pub new_pair_is : (s : ℕ) (x : ℕ → Bool) (k : ℕ) → k < 25 → new_pair s x k ≡ true → (k / 5 < s) × IsPair x k
unfolding new_pair
new_pair_is s x k l h =
    let p = and_parts (nat_lt (k / 5) s) (not (k % 5 == k / 5) && x (k % 5)) h in
    let q = and_parts (not (k % 5 == k / 5)) (x (k % 5)) p.1 in
    (ltb-true (k / 5) s p.0, record { facet = omega arith; label = omega arith; off = eqb-false (k % 5) (k / 5) (not-true (k % 5 == k / 5) q.0); at = q.1 })

pub parts_of_pair : (i l : ℕ) → l < 5 → ((5 * i + l) / 5 ≡ i) × ((5 * i + l) % 5 ≡ l)
parts_of_pair i l ll = (omega arith, omega arith)

pub is_old_pair : (s : ℕ) (x : ℕ → Bool) (i l : ℕ) → l < 5 → s ≤ i → l ≢ i → x l ≡ true → old_pair s x (5 * i + l) ≡ true
unfolding old_pair
is_old_pair s x i l ll low ne at =
    let e = parts_of_pair i l ll in
    (λ j. not (nat_lt (e.0 j) s) && (not (e.1 j == e.0 j) && x (e.1 j)))
    ∙ and_from (not (nat_lt i s)) (not (l == i) && x l) (not_from_false (nat_lt i s) (le-ltb i s low)) (and_from (not (l == i)) (x l) (not_from_false (l == i) (ne_eqb l i ne)) at)

pub is_new_pair : (s : ℕ) (x : ℕ → Bool) (j l : ℕ) → l < 5 → j < s → l ≢ j → x l ≡ true → new_pair s x (5 * j + l) ≡ true
unfolding new_pair
is_new_pair s x j l ll less ne at =
    let e = parts_of_pair j l ll in
    (λ i. nat_lt (e.0 i) s && (not (e.1 i == e.0 i) && x (e.1 i)))
    ∙ and_from (nat_lt j s) (not (l == j) && x l) (lt-ltb j s less) (and_from (not (l == j)) (x l) (not_from_false (l == j) (ne_eqb l j ne)) at)
