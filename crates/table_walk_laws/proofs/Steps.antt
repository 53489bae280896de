-- The number that a walk reaches after a number of steps.
use Rattle.std.proofs.Common.{◌≡◌, ℕ, zero, suc, ◌+◌, ◌-◌, ◌<◌, inl, inr, Option, Some, None, refl, sym, ap, ◌∙◌, arith}
use Rattle.std.specs.Prelude.{option_and_then}
use Rattle.std.proofs.lemmas.Bool.{cases_order}
use Rattle.basic_lemmas.proofs.Options.{none_or_some}
use Rattle.table_walk_laws.specs.Walks.{after, Reaches, IsInjectiveBelow, IsUndoneBy, IsSource}

module _ (step : ℕ → Option ℕ) where
  -- the step before
  pub after_before : (start k y : ℕ) → after step start (suc k) ≡ Some y → (x : ℕ) × (after step start k ≡ Some x) × (step x ≡ Some y)
  after_before start k y e = elim (none_or_some (after step start k)) [
    | inl none ↦ absurd (let c : None ≡ Some y = sym (ap (option_and_then step) none) ∙ e in cc)
    | inr found ↦ (found.0, found.1, sym (ap (option_and_then step) found.1) ∙ e)
  ]

  -- the first step, and then the others
  pub after_first : (x y k : ℕ) → step x ≡ Some y → after step x (suc k) ≡ after step y k
  after_first x y zero e = e
  after_first x y (suc k) e = ap (option_and_then step) (after_first x y k e)

  pub after_both : (start i j x : ℕ) → after step start i ≡ Some x → after step start (j + i) ≡ after step x j
  after_both start i zero x e = let z : zero + i ≡ i = omega arith in ap (after step start) z ∙ e
  after_both start i (suc j) x e = let z : suc j + i ≡ suc (j + i) = omega arith in
      ap (after step start) z ∙ ap (option_and_then step) (after_both start i j x e)

  pub after_none : (start i j : ℕ) → after step start i ≡ None → after step start (j + i) ≡ None
  after_none start i zero e = let z : zero + i ≡ i = omega arith in ap (after step start) z ∙ e
  after_none start i (suc j) e = let z : suc j + i ≡ suc (j + i) = omega arith in
      ap (after step start) z ∙ ap (option_and_then step) (after_none start i j e)

  -- after its end a walk reaches no number
  pub after_end : (start i j x : ℕ) → after step start i ≡ Some x → step x ≡ None → i < j → after step start j ≡ None
  after_end start i j x e stops less = let z : j ≡ (j - suc i) + suc i = omega arith in
      ap (after step start) z ∙ after_none start (suc i) (j - suc i) (ap (option_and_then step) e ∙ stops)

  -- a walk has one end
  pub one_end_lem : (start x y : ℕ) → Reaches step start x → Reaches step start y → step x ≡ None → step y ≡ None → x ≡ y
  one_end_lem start x y p q ex ey = elim (cases_order p.0 q.0) [
    | inl e ↦ let f : after step start p.0 ≡ Some y = ap (after step start) e ∙ q.1 in let g : Some x ≡ Some y = sym p.1 ∙ f in cc
    | inr (inl less) ↦ absurd (let f : None ≡ Some y = sym (after_end start p.0 q.0 x p.1 ex less) ∙ q.1 in cc)
    | inr (inr more) ↦ absurd (let f : None ≡ Some x = sym (after_end start q.0 p.0 y q.1 ey more) ∙ p.1 in cc)
  ]

  module _ (n : ℕ) (h : IsInjectiveBelow n step) where
    pub after_below : (start k x : ℕ) → start < n → after step start k ≡ Some x → x < n
    after_below start zero x l e = let s : start ≡ x = cc in omega arith
    after_below start (suc k) x l e = let b = after_before start k x e in
        h.within b.0 x (after_below start k b.0 l b.1) b.2

    -- if the walks from two sources meet, the sources are equal, and so are the numbers of steps
    pub meet : (a b i j x : ℕ) → IsSource n step a → IsSource n step b → after step a i ≡ Some x → after step b j ≡ Some x → (a ≡ b) × (i ≡ j)
    meet a b zero zero x p q e f = let s : a ≡ b = cc in (s, refl)
    meet a b zero (suc j) x p q e f = let c = after_before b j x f in
        absurd (p.none_before c.0 (after_below b j c.0 q.below c.1) (c.2 ∙ sym e))
    meet a b (suc i) zero x p q e f = let c = after_before a i x e in
        absurd (q.none_before c.0 (after_below a i c.0 p.below c.1) (c.2 ∙ sym f))
    meet a b (suc i) (suc j) x p q e f = let c = after_before a i x e in let d = after_before b j x f in
        let s : c.0 ≡ d.0 = h.injective c.0 d.0 x (after_below a i c.0 p.below c.1) (after_below b j d.0 q.below d.1) c.2 d.2 in
        let m = meet a b i j c.0 p q c.1 (d.1 ∙ ap Some (sym s)) in (m.0, ap suc m.1)

pub walk_back_lem : (step back : ℕ → Option ℕ) → IsUndoneBy step back → (start k x : ℕ) → after step start k ≡ Some x → after back x k ≡ Some start
walk_back_lem step back undone start zero x e = sym e
walk_back_lem step back undone start (suc k) x e = let b = after_before step start k x e in
    after_first back x b.0 k (undone b.0 x b.2) ∙ walk_back_lem step back undone start k b.0 b.1

pub undone_is_injective : (n : ℕ) (step back : ℕ → Option ℕ) → IsUndoneBy step back → ((x y : ℕ) → x < n → step x ≡ Some y → y < n) → IsInjectiveBelow n step
undone_is_injective n step back undone within = record {
  within = within;
  injective = λ x y z _ _ p q. let a : back z ≡ Some x = undone x z p in let b : back z ≡ Some y = undone y z q in cc;
}
