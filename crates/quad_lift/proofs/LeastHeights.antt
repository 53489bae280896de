-- The least height of each class, vertex by vertex.
use Rattle.std.proofs.Common.{◌≡◌, ℕ, ◌+◌, ◌*◌, ◌<◌, ◌≤◌, ◌⊎◌, length, List, set, sym, ap, ◌∙◌, subst, arith, inl, inr}
use Rattle.std.specs.Prelude.{slice_index}
use Rattle.std.proofs.lemmas.Bool.{cases_lt, cases_eq}
use Rattle.std.proofs.lemmas.List.{get_or-set_same, get_or-set_other, length-set}
use Rattle.skeleton_definitions.specs.Skeleton.{Skeleton, IsSkeleton}
use Rattle.quad_lift.specs.Agreements.{IsLeastHeight, AreLeastHeights}

-- the greatest height, 2^128 - 1
abbrev pub most : ℕ
most = 340282366920938463463374607431768211455

-- a vertex before n with this height
pub record IsReached (s : Skeleton) (heights : List ℕ) (n c low : ℕ) : Type 0 where
  pub member : ℕ
  pub within : member < n
  pub in_class : slice_index s.vertices.classes member ≡ c
  pub reached : slice_index heights member ≡ low

-- the least heights of the vertices before n, and the greatest number for a class that has none
pub record AreLowsBefore (s : Skeleton) (heights : List ℕ) (n : ℕ) (lows : List ℕ) : Type 0 where
  pub one_each : length lows ≡ s.vertices.count
  pub least : (i : ℕ) → i < n → slice_index lows (slice_index s.vertices.classes i) ≤ slice_index heights i
  pub got : (c : ℕ) → c < s.vertices.count → (slice_index lows c ≡ most) ⊎ IsReached s heights n c (slice_index lows c)

module _ (s : Skeleton) (heights : List ℕ) where
  abbrev class_of : ℕ → ℕ
  class_of i = slice_index s.vertices.classes i

  pub lows_start : (lows : List ℕ) → length lows ≡ s.vertices.count → ((c : ℕ) → c < s.vertices.count → slice_index lows c ≡ most) → AreLowsBefore s heights 0 lows
  lows_start lows size all = record { one_each = size; least = λ i l. absurd (omega arith); got = λ c l. inl (all c l) }

  later : (n c low : ℕ) → IsReached s heights n c low → IsReached s heights (n + 1) c low
  later n c low r = record { member = r.member; within = (let l = r.within in omega arith); in_class = r.in_class; reached = r.reached }

  -- the height of vertex n is at least the least height so far
  pub lows_stay : (n : ℕ) (lows : List ℕ) → AreLowsBefore s heights n lows → slice_index lows (class_of n) ≤ slice_index heights n → AreLowsBefore s heights (n + 1) lows
  lows_stay n lows b l = record {
    one_each = b.one_each;
    least = λ i m. elim (cases_lt i n) [
      | inl less ↦ b.least i less
      | inr same ↦ (let e : n ≡ i = omega arith in subst (λ j. slice_index lows (class_of j) ≤ slice_index heights j) e l)
    ];
    got = λ c m. elim (b.got c m) [ inl none ↦ inl none | inr r ↦ inr (later n c (slice_index lows c) r) ];
  }

  -- the height of vertex n is smaller
  pub lows_fall : (n : ℕ) (lows : List ℕ) → AreLowsBefore s heights n lows → class_of n < s.vertices.count → slice_index heights n < slice_index lows (class_of n)
      → AreLowsBefore s heights (n + 1) (set lows (class_of n) (slice_index heights n))
  lows_fall n lows b inside l = record {
    one_each = length-set lows (class_of n) (slice_index heights n) ∙ b.one_each;
    least = λ i m. elim (cases_eq (class_of i) (class_of n)) [
      | inl e ↦ (let here : slice_index (set lows (class_of n) (slice_index heights n)) (class_of i) ≡ slice_index heights n = ap (slice_index (set lows (class_of n) (slice_index heights n))) e ∙ at_class in
          elim (cases_lt i n) [
            | inl less ↦ (let old : slice_index lows (class_of i) ≤ slice_index heights i = b.least i less in let same : slice_index lows (class_of i) ≡ slice_index lows (class_of n) = ap (slice_index lows) e in omega arith)
            | inr same ↦ (let is : slice_index heights n ≡ slice_index heights i = ap (slice_index heights) (omega arith) in omega arith)
          ])
      | inr off ↦ (let there : slice_index (set lows (class_of n) (slice_index heights n)) (class_of i) ≡ slice_index lows (class_of i) = get_or-set_other lows (class_of n) (class_of i) (slice_index heights n) 0 off in
          elim (cases_lt i n) [
            | inl less ↦ (let old : slice_index lows (class_of i) ≤ slice_index heights i = b.least i less in omega arith)
            | inr same ↦ absurd (off (ap class_of (omega arith)))
          ])
    ];
    got = λ c m. elim (cases_eq c (class_of n)) [
      | inl e ↦ inr (record { member = n; within = omega arith; in_class = sym e; reached = sym (ap (slice_index (set lows (class_of n) (slice_index heights n))) e ∙ at_class) })
      | inr off ↦ subst (λ low. (low ≡ most) ⊎ IsReached s heights (n + 1) c low) (sym (get_or-set_other lows (class_of n) c (slice_index heights n) 0 off))
          (elim (b.got c m) [ inl none ↦ inl none | inr r ↦ inr (later n c (slice_index lows c) r) ])
    ];
  }
    where
      at_class : slice_index (set lows (class_of n) (slice_index heights n)) (class_of n) ≡ slice_index heights n
      at_class = get_or-set_same lows (class_of n) (slice_index heights n) 0 (omega (arith, b.one_each))

  pub lows_all : (k : IsSkeleton s) (n : ℕ) (lows : List ℕ) → n ≡ 4 * length s.rows → ((i : ℕ) → i < 4 * length s.rows → slice_index heights i ≤ most) → AreLowsBefore s heights n lows → AreLeastHeights s heights lows
  lows_all k n lows e fits b = record { one_each = b.one_each; each = each }
    where
      least : (c i : ℕ) → i < 4 * length s.rows → class_of i ≡ c → slice_index lows c ≤ slice_index heights i
      least c i l is = subst (λ d. slice_index lows d ≤ slice_index heights i) is (b.least i (omega (arith, e)))

      each : (c : ℕ) → c < s.vertices.count → IsLeastHeight s heights c (slice_index lows c)
      each c l = elim (b.got c l) [
        | inr r ↦ record { member = r.member; within = (let m = r.within in omega (arith, e)); in_class = r.in_class; reached = r.reached; least = least c }
        | inl none ↦ (let i : (i : ℕ) × (i < 4 * length s.rows) × (class_of i ≡ c) = (k.vertices).none_empty c l in
            let low : slice_index lows c ≤ slice_index heights i.0 = least c i.0 i.1 i.2 in
            let high : slice_index heights i.0 ≤ most = fits i.0 i.1 in
            record { member = i.0; within = i.1; in_class = i.2; reached = omega arith; least = least c })
      ]
