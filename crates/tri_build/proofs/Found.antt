-- The facet with a given tetrahedron, if a list has one.
use Rattle.std.proofs.Common.{◌≡◌, ℕ, Bool, true, false, cond, List, [], ◌∷◌, map, Option, Some, None, refl, sym, ap, ◌∙◌, subst}
use Rattle.std.specs.Prelude.{◌==◌, ◌||◌, find}
use Rattle.std.proofs.lemmas.Bool.{eqb-true}
use Rattle.table_definitions.specs.Lists.{has}
use Rattle.table_definitions.specs.Relabelling.{Relabelling}
use Rattle.move_definitions.specs.Moves.{Facet}
use Rattle.tri_build.specs.Steps.{PlayedMove}
use Rattle.tri_build.specs.Standing.{Back, HasImageBy, HasImageAt}

abbrev pub find_at : ℕ → List Facet → Option Facet
find_at t fs = find (λ (f : Facet). f.tet == t) fs

pub none_has : (fs : List Facet) (t : ℕ) → find_at t fs ≡ None → has (map (λ (f : Facet). f.tet) fs) t ≡ false
none_has [] t e = refl
none_has (f ∷ fs) t e = by_test (f.tet == t) e (λ q. none_has fs t q)
  where
    by_test : (b : Bool) → cond b (Some f) (find_at t fs) ≡ None → (find_at t fs ≡ None → has (map (λ (g : Facet). g.tet) fs) t ≡ false) → (b || has (map (λ (g : Facet). g.tet) fs) t) ≡ false
    by_test true q later = absurd cc
    by_test false q later = later q

pub found_tet : (fs : List Facet) (t : ℕ) (f : Facet) → find_at t fs ≡ Some f → f.tet ≡ t
found_tet [] t f e = absurd cc
found_tet (g ∷ fs) t f e = by_test (g.tet == t) refl e (λ q. found_tet fs t f q)
  where
    by_test : (b : Bool) → (g.tet == t) ≡ b → cond b (Some g) (find_at t fs) ≡ Some f → (find_at t fs ≡ Some f → f.tet ≡ t) → f.tet ≡ t
    by_test true h q later =
        let same : f ≡ g = cc in
        ap (λ (x : Facet). x.tet) same ∙ eqb-true g.tet t h
    by_test false h q later = later q

-- the condition on the image of a tetrahedron, by the facet that was found for it
pub as_found : (step : PlayedMove) (back : Back) (on : Relabelling) (t : ℕ) (facets : List Facet) (found : Option Facet) → facets ≡ step.facets → found ≡ find_at t facets → HasImageAt step back on t → HasImageBy step back on t found
as_found step back on t facets found same e h = subst (HasImageBy step back on t) (sym (e ∙ ap (find_at t) same)) h
