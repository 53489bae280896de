-- The parity of the number of points, edges and faces of an oriented map: edge by edge, from turning around points to
-- going around faces, the number of cycles changes by one.
use Rattle.std.proofs.Common.{◌≡◌, ◌≢◌, ℕ, zero, suc, ◌+◌, ◌*◌, ◌%◌, ◌<◌, ◌≤◌, Bool, cond, ◌⊎◌, inl, inr, refl, sym, ap, ◌∙◌, arith}
use Rattle.std.specs.Prelude.{◌||◌, nat_lt, sum_by}
use Rattle.std.proofs.lemmas.Bool.{cases_lt, cases_order, lt-ltb, le-ltb}
use Rattle.basic_lemmas.proofs.Truths.{one_if}
use Rattle.table_definitions.specs.Lists.{below}
use Rattle.surface_laws.proofs.Counting.{last_term}
use Rattle.surface_double_laws.specs.Maps.{IsPermutationBelow, AreCycles, IsOrientedMap}
use Rattle.surface_double_laws.proofs.Cycles.{moved, one_count, same_cycles}
use Rattle.surface_double_laws.proofs.Merging.{IsExchange, exchanged_back, merged_cycles}
use Rattle.surface_double_laws.proofs.Splitting.{split, split_cycles}

-- cycles of g, one more or one fewer than `count`
record HasOneMoreOrFewer (n : ℕ) (g : ℕ → ℕ) (count : ℕ) : Type 0 where
  cycle : ℕ → ℕ
  number : ℕ
  are : AreCycles n g cycle number
  odd : (number + count) % 2 ≡ 1

exchanged : (n : ℕ) (f g : ℕ → ℕ) → IsPermutationBelow n f → IsPermutationBelow n g → (a b : ℕ) → IsExchange n f g a b → (cycle : ℕ → ℕ) (count : ℕ) → AreCycles n f cycle count → HasOneMoreOrFewer n g count
exchanged n f g p q a b x cycle count c = elim (cases_order (cycle a) (cycle b)) [
  | inl e ↦ record { cycle = split n f p a b x.la g q x cycle count c e; number = count + 1; are = split_cycles n f p a b x.la g q x cycle count c e; odd = omega arith }
  | inr (inl less) ↦ (let m = merged_cycles n f g p a b x cycle count c less in record { cycle = m.0; number = m.1; are = m.2; odd = let z = m.3 in omega arith })
  | inr (inr more) ↦ (let m = merged_cycles n f g p b a (exchanged_back n f g a b x) cycle count c more in record { cycle = m.0; number = m.1; are = m.2; odd = let z = m.3 in omega arith })
]

module _ (n : ℕ) (back turn next : ℕ → ℕ) (m : IsOrientedMap n back turn next) where
  abbrev reversed_if : Bool → ℕ → ℕ
  reversed_if s d = cond s (back d) d

  -- the darts of each edge of which one dart is less than k are exchanged
  backwards : ℕ → ℕ → ℕ
  backwards k d = reversed_if (nat_lt d k || nat_lt (back d) k) d

  is_negated : (k d : ℕ) → (d < k) ⊎ (back d < k) → backwards k d ≡ back d
  unfolding backwards
  is_negated k d (inl l) = ap (λ s. reversed_if (s || nat_lt (back d) k) d) (lt-ltb d k l)
  is_negated k d (inr l) = elim (cases_lt d k) [
    | inl x ↦ ap (λ s. reversed_if (s || nat_lt (back d) k) d) (lt-ltb d k x)
    | inr x ↦ ap (λ s. reversed_if (s || nat_lt (back d) k) d) (le-ltb d k x) ∙ ap (λ s. reversed_if s d) (lt-ltb (back d) k l)
  ]

  is_still : (k d : ℕ) → k ≤ d → k ≤ back d → backwards k d ≡ d
  unfolding backwards
  is_still k d l x = ap (λ s. reversed_if (s || nat_lt (back d) k) d) (le-ltb d k l) ∙ ap (λ s. reversed_if s d) (le-ltb (back d) k x)

  either : (k d : ℕ) → ((d < k) ⊎ (back d < k)) ⊎ ((k ≤ d) × (k ≤ back d))
  either k d = elim (cases_lt d k) [
    | inl l ↦ inl (inl l)
    | inr l ↦ elim (cases_lt (back d) k) [ inl x ↦ inl (inr x) | inr x ↦ inr (l, x) ]
  ]

  turned_below : (k d : ℕ) → d < n → backwards k d < n
  turned_below k d l = elim (either k d) [
    | inl x ↦ (let e = is_negated k d x in let b = m.back_within d l in omega arith)
    | inr x ↦ (let e = is_still k d x.0 x.1 in omega arith)
  ]

  turned_twice : (k d : ℕ) → d < n → backwards k (backwards k d) ≡ d
  turned_twice k d l = elim (either k d) [
    | inl x ↦ ap (backwards k) (is_negated k d x) ∙ is_negated k (back d) (swapped x) ∙ m.back_twice d l
    | inr x ↦ ap (backwards k) (is_still k d x.0 x.1) ∙ is_still k d x.0 x.1
  ]
    where
      swapped : (d < k) ⊎ (back d < k) → (back d < k) ⊎ (back (back d) < k)
      swapped (inl y) = inr (let e = m.back_twice d l in omega arith)
      swapped (inr y) = inl y

  part : ℕ → ℕ → ℕ
  part k d = turn (backwards k d)

  part_permutes : (k : ℕ) → IsPermutationBelow n (part k)
  unfolding part
  part_permutes k = record {
    within = λ d l. (m.turns).within (backwards k d) (turned_below k d l);
    injective = λ d e ld le q. sym (turned_twice k d ld) ∙ ap (backwards k) ((m.turns).injective (backwards k d) (backwards k e) (turned_below k d ld) (turned_below k e le) q) ∙ turned_twice k e le;
  }

  more : (k d : ℕ) → (d < k) ⊎ (back d < k) → (d < suc k) ⊎ (back d < suc k)
  more k d (inl l) = inl (omega arith)
  more k d (inr l) = inr (omega arith)

  -- the second dart of an edge changes nothing
  same_part : (k : ℕ) → k < n → back k < k → (d : ℕ) → d < n → part (suc k) d ≡ part k d
  unfolding part
  same_part k lk low d l = elim (either k d) [
    | inl x ↦ ap turn (is_negated (suc k) d (more k d x) ∙ sym (is_negated k d x))
    | inr x ↦ (let one = x.0 in
        let two = x.1 in
        let not_k : d ≢ k = λ e. let z = ap back e in absurd (omega arith) in
        let not_back : back d ≢ k = λ e. let z : back (back d) ≡ back k = ap back e in let y = m.back_twice d l in absurd (omega arith) in
        ap turn (is_still (suc k) d (omega arith) (omega arith) ∙ sym (is_still k d x.0 x.1)))
  ]

  -- the first one exchanges two numbers
  one_exchange : (k : ℕ) → k < n → k < back k → IsExchange n (part k) (part (suc k)) k (back k)
  unfolding part
  one_exchange k lk low =
      let twice = m.back_twice k lk in
      record {
        la = lk;
        lb = m.back_within k lk;
        separate = λ e. absurd (omega arith);
        at_a = ap turn (is_negated (suc k) k (inl (omega arith)) ∙ sym (is_still k (back k) (omega arith) (omega arith)));
        at_b = ap turn (is_negated (suc k) (back k) (inr (omega arith)) ∙ twice ∙ sym (is_still k k (omega arith) (omega arith)));
        others = λ d l na nb. elim (either k d) [
          | inl x ↦ ap turn (is_negated (suc k) d (more k d x) ∙ sym (is_negated k d x))
          | inr x ↦ (let one = x.0 in
              let two = x.1 in
              let not_back : back d ≢ k = λ e. nb (sym (m.back_twice d l) ∙ ap back e) in
              ap turn (is_still (suc k) d (omega arith) (omega arith) ∙ sym (is_still k d x.0 x.1)))
        ];
      }

  -- whether a dart is the first of its edge
  first : ℕ → ℕ
  first d = one_if (nat_lt d (back d))

  first_is : (d : ℕ) → d < back d → first d ≡ 1
  unfolding first
  first_is d l = ap one_if (lt-ltb d (back d) l)

  second_is : (d : ℕ) → back d < d → first d ≡ 0
  unfolding first
  second_is d l = ap one_if (le-ltb d (back d) (omega arith))

  one_of_both : (d : ℕ) → d < n → first d + first (back d) ≡ 1
  one_of_both d l =
      let twice = m.back_twice d l in
      elim (cases_order d (back d)) [
        | inl e ↦ absurd (m.back_differs d l (sym e))
        | inr (inl less) ↦ (let a = first_is d less in let b = second_is (back d) (omega arith) in omega arith)
        | inr (inr less) ↦ (let a = second_is d less in let b = first_is (back d) (omega arith) in omega arith)
      ]

  both_sums : (k : ℕ) → k ≤ n → sum_by first (below k) + sum_by (λ d. first (back d)) (below k) ≡ k
  both_sums zero l = refl
  both_sums (suc k) l =
      let a = last_term first k in
      let b = last_term (λ d. first (back d)) k in
      let c = both_sums k (omega arith) in
      let d = one_of_both k (omega arith) in
      omega arith

  back_permutes : IsPermutationBelow n back
  back_permutes = record { within = m.back_within; injective = λ d e ld le q. sym (m.back_twice d ld) ∙ ap back q ∙ m.back_twice e le }

  half_first : 2 * sum_by first (below n) ≡ n
  half_first =
      let a : sum_by (λ d. first (back d)) (below n) ≡ sum_by first (below n) = moved n back back_permutes first in
      let b = both_sums n (omega arith) in
      omega arith

  module _ (point : ℕ → ℕ) (points : ℕ) (c : AreCycles n turn point points) where
    record HasParity (k : ℕ) : Type 0 where
      cycle : ℕ → ℕ
      count : ℕ
      are : AreCycles n (part k) cycle count
      even : (count + points + sum_by first (below k)) % 2 ≡ 0

    parity : (k : ℕ) → k ≤ n → HasParity k
    unfolding part
    parity zero l = record { cycle = point; count = points; are = same_cycles n turn (part 0) point points (λ d l. ap turn (is_still 0 d (omega arith) (omega arith))) c; even = omega arith }
    parity (suc k) l =
        let lk : k < n = omega arith in
        let h : HasParity k = parity k (omega arith) in
        let even = h.even in
        let last = last_term first k in
        elim (cases_order k (back k)) [
          | inl e ↦ absurd (m.back_differs k lk (sym e))
          | inr (inl less) ↦ (let x = exchanged n (part k) (part (suc k)) (part_permutes k) (part_permutes (suc k)) k (back k) (one_exchange k lk less) h.cycle h.count h.are in
              let odd = x.odd in
              let one = first_is k less in
              record { cycle = x.cycle; count = x.number; are = x.are; even = omega arith })
          | inr (inr less) ↦ (let none = second_is k less in
              record { cycle = h.cycle; count = h.count; are = same_cycles n (part k) (part (suc k)) h.cycle h.count (same_part k lk less) h.are; even = omega arith })
        ]

    even_map : (face : ℕ → ℕ) (faces edges : ℕ) → AreCycles n next face faces → n ≡ 2 * edges → (points + edges + faces) % 2 ≡ 0
    unfolding part
    even_map face faces edges f size =
        let h : HasParity n = parity n (omega arith) in
        let even = h.even in
        let half = half_first in
        let all : AreCycles n next h.cycle h.count = same_cycles n (part n) next h.cycle h.count (λ d l. m.next_is d l ∙ ap turn (sym (is_negated n d (inl l)))) h.are in
        let same = one_count n next face h.cycle faces h.count f all in
        omega arith

pub oriented_even : (n : ℕ) (back turn next point face : ℕ → ℕ) (points edges faces : ℕ) → IsOrientedMap n back turn next → AreCycles n turn point points → AreCycles n next face faces
    → n ≡ 2 * edges → (points + edges + faces) % 2 ≡ 0
oriented_even n back turn next point face points edges faces m p f size = even_map n back turn next m point points p face faces edges f size
