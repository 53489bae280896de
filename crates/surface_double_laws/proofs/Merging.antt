-- Two cycles become one if the numbers to which a member of each is carried are exchanged.
use Rattle.std.proofs.Common.{◌≡◌, ◌≢◌, ℕ, ◌-◌, ◌+◌, ◌<◌, Bool, true, cond, ◌⊎◌, inl, inr, refl, sym, ap, ◌∙◌, arith}
use Rattle.std.specs.Prelude.{◌==◌, nat_lt}
use Rattle.std.proofs.lemmas.Bool.{cases_eq, cases_lt, cases_order, eq-eqb, ne_eqb, lt-ltb, le-ltb}
use Rattle.surface_double_laws.specs.Maps.{IsPermutationBelow, AreCycles}
use Rattle.surface_double_laws.proofs.Cycles.{one_change}

-- a and b are carried where the other one was
pub record IsExchange (n : ℕ) (f g : ℕ → ℕ) (a b : ℕ) : Type 0 where
  pub la : a < n
  pub lb : b < n
  pub separate : a ≢ b
  pub at_a : g a ≡ f b
  pub at_b : g b ≡ f a
  pub others : (d : ℕ) → d < n → d ≢ a → d ≢ b → g d ≡ f d

pub exchanged_back : (n : ℕ) (f g : ℕ → ℕ) (a b : ℕ) → IsExchange n f g a b → IsExchange n f g b a
exchanged_back n f g a b x = record { la = x.lb; lb = x.la; separate = (λ e. x.separate (sym e)); at_a = x.at_b; at_b = x.at_a; others = (λ d l nb na. x.others d l na nb) }

-- the number of a cycle once cycle high has become a part of cycle low
merged_by : ℕ → ℕ → ℕ → ℕ
merged_by low high i = cond (i == high) low (cond (nat_lt high i) (i - 1) i)

module _ (low high : ℕ) (less : low < high) where
  merged_high : merged_by low high high ≡ low
  unfolding merged_by
  merged_high = ap (λ b. cond b low (cond (nat_lt high high) (high - 1) high)) (eq-eqb high high refl)

  merged_below : (i : ℕ) → i < high → merged_by low high i ≡ i
  unfolding merged_by
  merged_below i l =
      ap (λ b. cond b low (cond (nat_lt high i) (i - 1) i)) (ne_eqb i high (λ e. absurd (omega arith)))
      ∙ ap (λ b. cond b (i - 1) i) (le-ltb high i (omega arith))

  merged_above : (i : ℕ) → high < i → merged_by low high i ≡ i - 1
  unfolding merged_by
  merged_above i l =
      ap (λ b. cond b low (cond (nat_lt high i) (i - 1) i)) (ne_eqb i high (λ e. absurd (omega arith)))
      ∙ ap (λ b. cond b (i - 1) i) (lt-ltb high i l)

  merged_low : merged_by low high low ≡ low
  merged_low = merged_below low less

  merged_in_range : (i count : ℕ) → i < count → high < count → merged_by low high i < count - 1
  merged_in_range i count l m = elim (cases_order i high) [
    | inl e ↦ (let z = ap (merged_by low high) e ∙ merged_high in omega arith)
    | inr (inl below) ↦ (let z = merged_below i below in omega arith)
    | inr (inr above) ↦ (let z = merged_above i above in omega arith)
  ]

  -- numbers that become equal were equal, or are the two
  abbrev AreMerged : ℕ → ℕ → Type 0
  AreMerged i j = (i ≡ j) ⊎ (((i ≡ low) × (j ≡ high)) ⊎ ((i ≡ high) × (j ≡ low)))

  merged_apart : (i j : ℕ) → merged_by low high i ≡ merged_by low high j → AreMerged i j
  merged_apart i j e = elim (cases_order i high) [
    | inl p ↦ elim (cases_order j high) [
      | inl q ↦ inl (p ∙ sym q)
      | inr (inl q) ↦ (let z = ap (merged_by low high) p ∙ merged_high in let y = merged_below j q in inr (inr (p, omega arith)))
      | inr (inr q) ↦ (let z = ap (merged_by low high) p ∙ merged_high in let y = merged_above j q in absurd (omega arith))
    ]
    | inr (inl p) ↦ elim (cases_order j high) [
      | inl q ↦ (let z = ap (merged_by low high) q ∙ merged_high in let y = merged_below i p in inr (inl (omega arith, q)))
      | inr (inl q) ↦ (let z = merged_below i p in let y = merged_below j q in inl (omega arith))
      | inr (inr q) ↦ (let z = merged_below i p in let y = merged_above j q in absurd (omega arith))
    ]
    | inr (inr p) ↦ elim (cases_order j high) [
      | inl q ↦ (let z = ap (merged_by low high) q ∙ merged_high in let y = merged_above i p in absurd (omega arith))
      | inr (inl q) ↦ (let z = merged_above i p in let y = merged_below j q in absurd (omega arith))
      | inr (inr q) ↦ (let z = merged_above i p in let y = merged_above j q in inl (omega arith))
    ]
  ]

module _ (n : ℕ) (f g : ℕ → ℕ) (p : IsPermutationBelow n f) (a b : ℕ) (x : IsExchange n f g a b) (cycle : ℕ → ℕ) (count : ℕ) (c : AreCycles n f cycle count) (less : cycle a < cycle b) where
  abbrev low : ℕ
  low = cycle a

  abbrev high : ℕ
  high = cycle b

  abbrev merged : ℕ → ℕ
  merged d = merged_by (cycle a) (cycle b) (cycle d)

  module _ (h : ℕ → Bool) (same : (d : ℕ) → d < n → h (g d) ≡ h d) where
    abbrev part_if : Bool → Bool → Bool
    part_if s t = cond s t true

    -- the truth value in the cycle of a, and true elsewhere
    part : ℕ → Bool
    part d = part_if (cycle d == cycle a) (h d)

    part_in : (d : ℕ) → cycle d ≡ cycle a → part d ≡ h d
    unfolding part
    part_in d e = ap (λ s. part_if s (h d)) (eq-eqb (cycle d) (cycle a) e)

    part_out : (d : ℕ) → cycle d ≢ cycle a → part d ≡ true
    unfolding part
    part_out d ne = ap (λ s. part_if s (h d)) (ne_eqb (cycle d) (cycle a) ne)

    part_kept : (d : ℕ) → d < n → d ≢ a → part (f d) ≡ part d
    part_kept d l na = elim (cases_eq (cycle d) (cycle a)) [
      | inl e ↦ (let nb : d ≢ b = λ q. let z = ap cycle q in absurd (omega arith) in
          part_in (f d) (c.kept d l ∙ e) ∙ ap h (sym (x.others d l na nb)) ∙ same d l ∙ sym (part_in d e))
      | inr ne ↦ part_out (f d) (λ e. ne (sym (c.kept d l) ∙ e)) ∙ sym (part_out d ne)
    ]

    both : h a ≡ h b
    both =
        sym (part_in a refl) ∙ sym (one_change n f p part a x.la part_kept) ∙ part_in (f a) (c.kept a x.la) ∙ ap h (sym x.at_b) ∙ same b x.lb

    before : (d : ℕ) → d < n → h (f d) ≡ h d
    before d l = elim (cases_eq d a) [
      | inl e ↦ ap (λ z. h (f z)) e ∙ ap h (sym x.at_b) ∙ same b x.lb ∙ sym both ∙ ap h (sym e)
      | inr na ↦ elim (cases_eq d b) [
        | inl e ↦ ap (λ z. h (f z)) e ∙ ap h (sym x.at_a) ∙ same a x.la ∙ both ∙ ap h (sym e)
        | inr nb ↦ ap h (sym (x.others d l na nb)) ∙ same d l
      ]
    ]

    joined : (d e : ℕ) → d < n → e < n → merged d ≡ merged e → h d ≡ h e
    joined d e ld le q = elim (merged_apart (cycle a) (cycle b) less (cycle d) (cycle e) q) [
      | inl r ↦ c.joined h before d e ld le r
      | inr (inl r) ↦ c.joined h before d a ld x.la r.0 ∙ both ∙ sym (c.joined h before e b le x.lb r.1)
      | inr (inr r) ↦ c.joined h before d b ld x.lb r.0 ∙ sym both ∙ sym (c.joined h before e a le x.la r.1)
    ]

  kept : (d : ℕ) → d < n → merged (g d) ≡ merged d
  kept d l = elim (cases_eq d a) [
    | inl e ↦ ap (λ z. merged (g z)) e ∙ ap merged x.at_a ∙ ap (merged_by low high) (c.kept b x.lb) ∙ merged_high low high less ∙ sym (merged_low low high less) ∙ ap merged (sym e)
    | inr na ↦ elim (cases_eq d b) [
      | inl e ↦ ap (λ z. merged (g z)) e ∙ ap merged x.at_b ∙ ap (merged_by low high) (c.kept a x.la) ∙ merged_low low high less ∙ sym (merged_high low high less) ∙ ap merged (sym e)
      | inr nb ↦ ap merged (x.others d l na nb) ∙ ap (merged_by low high) (c.kept d l)
    ]
  ]

  none_empty : (i : ℕ) → i < count - 1 → (d : ℕ) × (d < n) × (merged d ≡ i)
  none_empty i l = elim (cases_lt i high) [
    | inl m ↦ (let d = c.none_empty i (omega arith) in (d.0, d.1, ap (merged_by low high) d.2 ∙ merged_below low high less i m))
    | inr m ↦ (let d = c.none_empty (i + 1) (omega arith) in (d.0, d.1, ap (merged_by low high) d.2 ∙ merged_above low high less (i + 1) (omega arith) ∙ (let z : i + 1 - 1 ≡ i = omega arith in z)))
  ]

  pub merged_cycles : (other : ℕ → ℕ) × (number : ℕ) × AreCycles n g other number × (number + 1 ≡ count)
  merged_cycles =
      let lb : cycle b < count = c.in_range b x.lb in (
        merged,
        count - 1,
        record {
          in_range = λ d l. merged_in_range low high less (cycle d) count (c.in_range d l) lb;
          none_empty = none_empty;
          kept = kept;
          joined = joined;
        },
        omega arith,
      )
