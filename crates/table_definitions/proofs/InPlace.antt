-- The replacement of one number by another.
use Rattle.std.proofs.Common.{◌≡◌, ℕ, Bool, ◌⊎◌, inl, inr, sym, ap, ◌∙◌}
use Rattle.std.specs.Prelude.{◌≢◌, if◌then◌else◌}
use Rattle.std.proofs.lemmas.Bool.{cases_eq, eq-eqb, ne_eqb}
use Rattle.table_definitions.specs.Lists.{substitute}

pub in_place-same : (a b l : ℕ) → l ≡ a → substitute a b l ≡ b
in_place-same a b l e = ap (λ (t : Bool). if t then b else l) (eq-eqb l a e)

pub in_place-other : (a b l : ℕ) → l ≢ a → substitute a b l ≡ l
in_place-other a b l d = ap (λ (t : Bool). if t then b else l) (ne_eqb l a d)

pub in_place-back : (a b l : ℕ) → l ≢ a → substitute a b (substitute b a l) ≡ l
in_place-back a b l other = by_case (cases_eq l b)
  where
    by_case : (l ≡ b) ⊎ (l ≡ b → ⊥) → substitute a b (substitute b a l) ≡ l
    by_case (inl e) = in_place-same a b (substitute b a l) (in_place-same b a l e) ∙ sym e
    by_case (inr d) = ap (substitute a b) (in_place-other b a l d) ∙ in_place-other a b l other
