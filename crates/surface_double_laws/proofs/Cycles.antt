-- Truth values and cycles of a permutation of the numbers below n.
use Rattle.std.proofs.Common.{◌≡◌, ◌≢◌, ℕ, ◌<◌, ◌≤◌, Bool, true, false, List, [], ◌∷◌, length, map, ◌⊎◌, inl, inr, refl, sym, ap, ◌∙◌, subst, arith}
use Rattle.std.specs.Prelude.{◌==◌, sum_by}
use Rattle.std.proofs.lemmas.Bool.{cases_lt, eqb-true, eq-eqb}
use Rattle.std.proofs.lemmas.List.{length-map}
use Rattle.std.proofs.lemmas.List.FromFn.{length-range_with_len}
use Rattle.std.proofs.lemmas.List.Sums.{sum_by-cons}
use Rattle.basic_lemmas.proofs.Truths.{one_if}
use Rattle.table_definitions.specs.Lists.{below}
use Rattle.table_definitions.proofs.DistinctLists.{map_apart, apart_below, apart_short}
use Rattle.table_definitions.proofs.Listed.{below-among, map-among}
use Rattle.table_definitions.proofs.TableLaws.{Among, Among-below}
use Rattle.surface_quad_laws.proofs.Rearranged.{moved_sum}
use Rattle.surface_quad_lift_laws.proofs.Growing.{one_left}
use Rattle.surface_double_laws.specs.Maps.{IsPermutationBelow, AreCycles}

same_ones : (a b : Bool) → one_if a ≡ one_if b → a ≡ b
same_ones true true e = refl
same_ones true false e = absurd (omega arith)
same_ones false true e = absurd (omega arith)
same_ones false false e = refl

sums_at_most : (u v : ℕ → ℕ) (xs : List ℕ) → ((x : ℕ) → Among x xs → u x ≤ v x) → sum_by u xs ≤ sum_by v xs
sums_at_most u v [] h = omega arith
sums_at_most u v (x ∷ xs) h =
    let more = sums_at_most u v xs (λ y a. h y (inr a)) in
    let here = h x (inl refl) in
    omega (arith, sum_by-cons u x xs, sum_by-cons v x xs)

-- terms that are at most others with the same sum are equal to them
equal_terms : (u v : ℕ → ℕ) (xs : List ℕ) → ((x : ℕ) → Among x xs → u x ≤ v x) → sum_by u xs ≡ sum_by v xs → (x : ℕ) → Among x xs → u x ≡ v x
equal_terms u v [] h e x a = absurd a
equal_terms u v (x ∷ xs) h e y a =
    let more = sums_at_most u v xs (λ y a. h y (inr a)) in
    let here = h x (inl refl) in
    let p = sum_by-cons u x xs in
    let q = sum_by-cons v x xs in
    elim a [
      | inl same ↦ ap u same ∙ (let z : u x ≡ v x = omega arith in z) ∙ sym (ap v same)
      | inr later ↦ equal_terms u v xs (λ y a. h y (inr a)) (omega arith) y later
    ]

module _ (n : ℕ) (f : ℕ → ℕ) (p : IsPermutationBelow n f) where
  pub moved : (u : ℕ → ℕ) → sum_by (λ d. u (f d)) (below n) ≡ sum_by u (below n)
  moved u = moved_sum u f (below n) (apart_below n) (λ d a. Among-below (f d) n (p.within d (below-among d n a))) (λ d e a b. p.injective d e (below-among d n a) (below-among e n b))

  -- a truth value that is not lost at any number is not won at any
  pub not_lost : (h : ℕ → Bool) → ((d : ℕ) → d < n → h d ≡ true → h (f d) ≡ true) → (d : ℕ) → d < n → h (f d) ≡ h d
  not_lost h on d l = sym (same_ones (h d) (h (f d)) (equal_terms (λ d. one_if (h d)) (λ d. one_if (h (f d))) (below n) (λ d a. at_most (h d) (h (f d)) (on d (below-among d n a))) (sym (moved (λ d. one_if (h d)))) d (Among-below d n l)))
    where
      at_most : (a b : Bool) → (a ≡ true → b ≡ true) → one_if a ≤ one_if b
      at_most true true g = omega arith
      at_most false b g = omega arith
      at_most true false g = absurd (let z : false ≡ true = g refl in cc)

  -- a truth value that does not change at any number but one does not change there
  pub one_change : (h : ℕ → Bool) (a : ℕ) → a < n → ((d : ℕ) → d < n → d ≢ a → h (f d) ≡ h d) → h (f a) ≡ h a
  one_change h a l same = same_ones (h (f a)) (h a) (one_left (λ d. one_if (h (f d))) (λ d. one_if (h d)) a (below n) (apart_below n) (Among-below a n l) (λ d m ne. ap one_if (same d (below-among d n m) ne)) (moved (λ d. one_if (h d))))

-- the number of cycles does not depend on how they are numbered
limited : (n : ℕ) (f cycle other : ℕ → ℕ) (count number : ℕ) → AreCycles n f cycle count → AreCycles n f other number → count ≤ number
limited n f cycle other count number c o =
    let long : length (map at (below count)) ≡ count = length-map (below count) at ∙ length-range_with_len 0 count in
    let wide : length (below number) ≡ number = length-range_with_len 0 number in
    let short = apart_short (map at (below count)) (below number) (map_apart at (below count) (apart_below count) (λ i j a b e. separate i j (below-among i count a) (below-among j count b) e))
    (λ x a. let m = map-among at x (below count) a in subst (λ z. Among z (below number)) (sym m.2) (Among-below (at m.0) number (low m.0 (below-among m.0 count m.1)))) in
    omega arith
  where
    member : (i : ℕ) → i < count → ℕ
    member i l = (c.none_empty i l).0

    at_if : (i : ℕ) → (i < count) ⊎ (count ≤ i) → ℕ
    at_if i (inl l) = other (c.none_empty i l).0
    at_if i (inr l) = 0

    at : ℕ → ℕ
    at i = at_if i (cases_lt i count)

    low_if : (i : ℕ) → i < count → (s : (i < count) ⊎ (count ≤ i)) → at_if i s < number
    low_if i l (inl m) = o.in_range (c.none_empty i m).0 (c.none_empty i m).1
    low_if i l (inr m) = absurd (omega arith)

    low : (i : ℕ) → i < count → at i < number
    low i l = low_if i l (cases_lt i count)

    apart_if : (i j : ℕ) → i < count → j < count → (s : (i < count) ⊎ (count ≤ i)) (t : (j < count) ⊎ (count ≤ j)) → at_if i s ≡ at_if j t → i ≡ j
    apart_if i j l m (inr s) t e = absurd (omega arith)
    apart_if i j l m (inl s) (inr t) e = absurd (omega arith)
    apart_if i j l m (inl s) (inl t) e =
        let x = c.none_empty i s in
        let y = c.none_empty j t in
        let same : (cycle x.0 == i) ≡ (cycle y.0 == i) = o.joined (λ d. cycle d == i) (λ d ld. ap (λ z. z == i) (c.kept d ld)) x.0 y.0 x.1 y.1 e in
        let at_j : cycle y.0 ≡ i = eqb-true (cycle y.0) i (sym same ∙ eq-eqb (cycle x.0) i x.2) in
        sym at_j ∙ y.2

    separate : (i j : ℕ) → i < count → j < count → at i ≡ at j → i ≡ j
    separate i j l m e = apart_if i j l m (cases_lt i count) (cases_lt j count) e

pub one_count : (n : ℕ) (f cycle other : ℕ → ℕ) (count number : ℕ) → AreCycles n f cycle count → AreCycles n f other number → count ≡ number
one_count n f cycle other count number c o = let a = limited n f cycle other count number c o in let b = limited n f other cycle number count o c in omega arith

-- the cycles of a permutation that agrees with f below n
pub same_cycles : (n : ℕ) (f g cycle : ℕ → ℕ) (count : ℕ) → ((d : ℕ) → d < n → g d ≡ f d) → AreCycles n f cycle count → AreCycles n g cycle count
same_cycles n f g cycle count e c = record {
  in_range = c.in_range;
  none_empty = c.none_empty;
  kept = λ d l. ap cycle (e d l) ∙ c.kept d l;
  joined = λ h same. c.joined h (λ d l. ap h (sym (e d l)) ∙ same d l);
}
