-- A column is free if the set of columns that clash with it is empty.
use Rattle.std.proofs.Common.{◌≡◌, ◌≢◌, ℕ, ◌<◌, ◌⊎◌, ◌↔◌, inl, inr, Bool, true, false, IsTrue, List, [], Contains, length, get_or, refl, subst, sym, ap, ◌∙◌}
use Rattle.std.specs.Prelude.{not}
use Rattle.std.proofs.lemmas.Bool.{false≢true}
use Rattle.std.proofs.lemmas.List.{get_or_default}
use Rattle.std.proofs.lemmas.List.Elements.{All-contains}
use Rattle.cone_definitions.specs.Surfaces.{Clash}
use Rattle.support_bits.specs.Columns.{Meets}
use Rattle.ray_steps.specs.Clashes.{IsFree}
use Rattle.ray_steps.specs.Partners.{IsClashSetOf, AreClashSets}

module _ (columns : ℕ) (pairs : List Clash) (column : ℕ) (partner : List Bool) (h : IsClashSetOf columns pairs column partner) where
  pub free_of_none : (Meets partner partner → ⊥) → IsFree pairs column
  free_of_none none k d within = let one = get_or pairs k d in (
    λ e. none (met one.1 (inr (k, within, get_or_default pairs k (column, one.1) d within ∙ ap (λ a. (a, one.1)) e))),
    λ e. none (met one.0 (inl (k, within, get_or_default pairs k (one.0, column) d within ∙ ap (λ b. (one.0, b)) e))),
  )
    where
      met : (other : ℕ) → Contains pairs (other, column) ⊎ Contains pairs (column, other) → Meets partner partner
      met other c = let has = (h.each other).1 c in (other, has, has)

  pub none_of_free : IsFree pairs column → Meets partner partner → ⊥
  none_of_free free met = elim ((h.each met.0).0 met.1) [
    | inl c ↦ (All-contains (λ (pair : Clash). (pair.0 ≢ column) × (pair.1 ≢ column)) pairs (met.0, column) free c).1 refl
    | inr c ↦ (All-contains (λ (pair : Clash). (pair.0 ≢ column) × (pair.1 ≢ column)) pairs (column, met.0) free c).0 refl
  ]

  pub free_iff : (result : Bool) → IsTrue result ↔ Meets partner partner → IsTrue (not result) ↔ IsFree pairs column
  free_iff true is = (λ never. absurd (false≢true never), λ free. absurd (none_of_free free (is.0 refl)))
  free_iff false is = (λ yes. free_of_none (λ met. false≢true (is.1 met)), λ free. refl)

pub free_at : (columns : ℕ) (pairs others : List Clash) (partners : List (List Bool)) (column : ℕ) (partner : List Bool) (result : Bool) → AreClashSets columns pairs partners →
    column < length partners → pairs ≡ others → partner ≡ get_or partners column partner → IsTrue result ↔ Meets partner partner → IsTrue (not result) ↔ IsFree others column
free_at columns pairs others partners column partner result h within same is meets = subst (λ ps. IsTrue (not result) ↔ IsFree ps column) same
    (free_iff columns pairs column partner (subst (IsClashSetOf columns pairs column) (get_or_default partners column [] partner within ∙ sym is) (h.each column within)) result meets)
