-- Searches through lists by tests.
use Rattle.std.proofs.Common.{◌≡◌, ℕ, Bool, true, false, not, List, ◌⊎◌, inl, inr, refl, sym, ◌∙◌}
use Rattle.std.specs.Prelude.{◌&&◌}
use Rattle.std.specs.List.{list_any}
use Rattle.table_definitions.specs.Lists.{has}
use Rattle.table_definitions.proofs.TableLaws.{Among}
use Rattle.table_definitions.proofs.Listed.{among_has}
use Rattle.surface_laws.proofs.LinkingLemmas.{test_any}
use Rattle.surface_quad_laws.proofs.InnerEdges.{any_nowhere}

-- some item of a list passes a test, or none does
pub search_list : {A : Type 0} (t : A → Bool) (xs : List A) → ((x : A) × Among x xs × (t x ≡ true)) ⊎ ((x : A) → Among x xs → t x ≡ false)
search_list {A} t xs = go (list_any t xs) refl
  where
    go : (b : Bool) → list_any t xs ≡ b → ((x : A) × Among x xs × (t x ≡ true)) ⊎ ((x : A) → Among x xs → t x ≡ false)
    go true e = inl (test_any t xs e)
    go false e = inr (λ x a. any_nowhere t xs x e a)

pub has_not : (ns : List ℕ) (m : ℕ) → has ns m ≡ false → Among m ns → ⊥
has_not ns m e a = let w : false ≡ true = sym e ∙ among_has ns m a in absurd cc

-- a failed test of two conditions, one of which is known
pub fails_second : (a b : Bool) → (not a && b) ≡ false → b ≡ true → a ≡ true
fails_second true b h e = refl
fails_second false b h e = absurd (let w : true ≡ false = sym e ∙ h in cc)
