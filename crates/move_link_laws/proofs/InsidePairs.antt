-- Pairs of labels whose edge lies inside the star, before or after the move.
use Rattle.std.proofs.Common.{◌≡◌, ◌≢◌, ℕ, ◌+◌, ◌*◌, ◌/◌, ◌%◌, ◌<◌, ◌≤◌, Bool, true, List, [], ◌∷◌, map, inl, inr, refl, sym, ◌∙◌, arith}
use Rattle.std.specs.Prelude.{◌==◌, ◌&&◌, ◌||◌, not, nat_lt}
use Rattle.std.specs.List.{list_all}
use Rattle.std.proofs.lemmas.Bool.{cases_lt, and_parts, and_from, ne_eqb, eqb-false, not-true, not_from_false, le-ltb, or_right, or_left, lt-ltb}
use Rattle.std.proofs.lemmas.List.Elements.{Contains-get_or}
use Rattle.std.proofs.lemmas.List.Sums.{list_all-from_AllPass}
use Rattle.table_definitions.specs.Lists.{has, below}
use Rattle.table_definitions.proofs.ListFacts.{list_all-below}
use Rattle.table_definitions.proofs.Listed.{below-among, among_contains}
use Rattle.move_link_laws.proofs.LabelPairs.{parts_of_pair}

-- two different labels, the first at the vertex class, that include all labels of the core; or all other labels
unfoldable pub inside_old : (size : ℕ) (at_class : ℕ → Bool) → ℕ → Bool
inside_old s x k = not (k / 5 == k % 5) && (list_all (has (k / 5 ∷ k % 5 ∷ [])) (below s) && x (k / 5))

unfoldable pub inside_new : (size : ℕ) (at_class : ℕ → Bool) → ℕ → Bool
inside_new s x k = not (k / 5 == k % 5) && (list_all (λ i. nat_lt i s || has (k / 5 ∷ k % 5 ∷ []) i) (below 5) && x (k / 5))

each_below : (p : ℕ → Bool) (n : ℕ) → ((i : ℕ) → i < n → p i ≡ true) → list_all p (below n) ≡ true
each_below p n all = list_all-from_AllPass p (below n) (λ k d l. all _ (below-among _ n (among_contains _ (below n) (Contains-get_or (below n) k d l))))

pub record IsInside (x : ℕ → Bool) (k : ℕ) : Type 0 where
  pub first : k / 5 < 5
  pub second : k % 5 < 5
  pub separate : k / 5 ≢ k % 5
  pub at : x (k / 5) ≡ true

module _ (s : ℕ) (x : ℕ → Bool) where
  pub inside_old_is : (k : ℕ) → k < 25 → inside_old s x k ≡ true → ((j : ℕ) → j < s → has (k / 5 ∷ k % 5 ∷ []) j ≡ true) × IsInside x k
  unfolding inside_old
  inside_old_is k l h =
      let p = and_parts (not (k / 5 == k % 5)) (list_all (has (k / 5 ∷ k % 5 ∷ [])) (below s) && x (k / 5)) h in
      let q = and_parts (list_all (has (k / 5 ∷ k % 5 ∷ [])) (below s)) (x (k / 5)) p.1 in
      (list_all-below (has (k / 5 ∷ k % 5 ∷ [])) s q.0, record { first = omega arith; second = omega arith; separate = eqb-false (k / 5) (k % 5) (not-true (k / 5 == k % 5) p.0); at = q.1 })

  pub is_inside_old : (a b : ℕ) → b < 5 → a ≢ b → ((j : ℕ) → j < s → has (a ∷ b ∷ []) j ≡ true) → x a ≡ true → inside_old s x (5 * a + b) ≡ true
  unfolding inside_old
  is_inside_old a b lb ne all at =
      let e = parts_of_pair a b lb in
      (λ i. not (e.0 i == e.1 i) && (list_all (has (e.0 i ∷ e.1 i ∷ [])) (below s) && x (e.0 i)))
      ∙ and_from (not (a == b)) (list_all (has (a ∷ b ∷ [])) (below s) && x a) (not_from_false (a == b) (ne_eqb a b ne)) (and_from (list_all (has (a ∷ b ∷ [])) (below s)) (x a) (each_below (has (a ∷ b ∷ [])) s all) at)

  pub inside_new_is : (k : ℕ) → k < 25 → inside_new s x k ≡ true → ((i : ℕ) → s ≤ i → i < 5 → has (k / 5 ∷ k % 5 ∷ []) i ≡ true) × IsInside x k
  unfolding inside_new
  inside_new_is k l h =
      let p = and_parts (not (k / 5 == k % 5)) (list_all (λ i. nat_lt i s || has (k / 5 ∷ k % 5 ∷ []) i) (below 5) && x (k / 5)) h in
      let q = and_parts (list_all (λ i. nat_lt i s || has (k / 5 ∷ k % 5 ∷ []) i) (below 5)) (x (k / 5)) p.1 in (
        (λ i low high. at_least i low (list_all-below (λ i. nat_lt i s || has (k / 5 ∷ k % 5 ∷ []) i) 5 q.0 i high)),
        record { first = omega arith; second = omega arith; separate = eqb-false (k / 5) (k % 5) (not-true (k / 5 == k % 5) p.0); at = q.1 },
      )
    where
      at_least : (i : ℕ) → s ≤ i → (nat_lt i s || has (k / 5 ∷ k % 5 ∷ []) i) ≡ true → has (k / 5 ∷ k % 5 ∷ []) i ≡ true
      at_least i low e = (λ j. sym (le-ltb i s low) j || has (k / 5 ∷ k % 5 ∷ []) i) ∙ e

  pub is_inside_new : (a b : ℕ) → b < 5 → a ≢ b → ((i : ℕ) → s ≤ i → i < 5 → has (a ∷ b ∷ []) i ≡ true) → x a ≡ true → inside_new s x (5 * a + b) ≡ true
  unfolding inside_new
  is_inside_new a b lb ne all at =
      let e = parts_of_pair a b lb in
      (λ i. not (e.0 i == e.1 i) && (list_all (λ k. nat_lt k s || has (e.0 i ∷ e.1 i ∷ []) k) (below 5) && x (e.0 i)))
      ∙ and_from (not (a == b)) (list_all (λ i. nat_lt i s || has (a ∷ b ∷ []) i) (below 5) && x a) (not_from_false (a == b) (ne_eqb a b ne))
      (and_from (list_all (λ i. nat_lt i s || has (a ∷ b ∷ []) i) (below 5)) (x a) (each_below (λ i. nat_lt i s || has (a ∷ b ∷ []) i) 5 each) at)
    where
      each : (i : ℕ) → i < 5 → (nat_lt i s || has (a ∷ b ∷ []) i) ≡ true
      each i l = elim (cases_lt i s) [
        | inl less ↦ or_left (nat_lt i s) (has (a ∷ b ∷ []) i) (lt-ltb i s less)
        | inr more ↦ or_right (nat_lt i s) (has (a ∷ b ∷ []) i) (all i more l)
      ]

-- a list of two items is the image of a list of two items
pub two_under : (g : ℕ → ℕ) (ls : List ℕ) (v w : ℕ) → v ∷ w ∷ [] ≡ map g ls → (a : ℕ) × (b : ℕ) × (ls ≡ a ∷ b ∷ []) × (g a ≡ v) × (g b ≡ w)
two_under g [] v w e = absurd cc
two_under g (a ∷ []) v w e = absurd (let z : w ∷ [] ≡ [] = cc in cc)
two_under g (a ∷ b ∷ []) v w e = (a, b, refl, cc, cc)
two_under g (a ∷ b ∷ d ∷ ls) v w e = absurd (let z : [] ≡ g d ∷ map g ls = cc in cc)

pub same_two : (k l : ℕ) → k / 5 ∷ k % 5 ∷ [] ≡ l / 5 ∷ l % 5 ∷ [] → k ≡ l
same_two k l e = let a : k / 5 ≡ l / 5 = cc in let b : k % 5 ≡ l % 5 = cc in omega arith
