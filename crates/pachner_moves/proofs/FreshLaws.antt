-- The map of the vertices of a facet to those of a new one.
use Rattle.std.proofs.Common.{◌≡◌, ℕ, ◌<◌, ◌≤◌, List, length, get_or, sym, ap, ◌∙◌, subst, arith, inl, inr}
use Rattle.std.specs.Prelude.{◌⊎◌, ◌≢◌, ◌-◌, ◌+◌}
use Rattle.std.proofs.lemmas.Bool.{cases_eq}
use Rattle.table_definitions.specs.Lists.{substitute}
use Rattle.table_definitions.specs.Permutation.{image, IsPermutationOfFour}
use Rattle.table_definitions.specs.Table.{Row}
use Rattle.table_definitions.proofs.InPlace.{in_place-same, in_place-other}
use Rattle.move_definitions.specs.Moves.{Move, Facet, vertex_of, new_facet, label_by_label}
use Rattle.move_laws.specs.Facets.{IsFacet, IsOldFacet, AreOldFacets}
use Rattle.move_laws.proofs.LabelLaws.{permutes_from, by_permutes, length_by, vertex_by}
use Rattle.move_laws.proofs.FacetLaws.{new_is_facet}

-- the replacement of a label by itself
in_own_place : (a b l : ℕ) → a ≡ b → substitute a b l ≡ l
in_own_place a b l same = by_case (cases_eq l a)
  where
    by_case : (l ≡ a) ⊎ (l ≢ a) → substitute a b l ≡ l
    by_case (inl e) = in_place-same a b l e ∙ sym same ∙ sym e
    by_case (inr d) = in_place-other a b l d

-- two facets that lack the same label
same_permutes : (f g : Facet) → IsFacet f → IsFacet g → f.missing ≡ g.missing → IsPermutationOfFour (label_by_label f g)
same_permutes f g F G same =
    permutes_from (label_by_label f g) (λ w. vertex_of f (image g.labels w)) (length_by f g F)
    (λ w l. F.vertex_below (image g.labels w) (G.label_below w l) (other w l))
    (λ w l. vertex_by f g (image g.labels w) F (G.label_below w l) (other w l)
    ∙ ap (vertex_of g) (in_own_place g.missing f.missing (image g.labels w) (sym same)) ∙ G.vertex_back w l)
  where
    other : (w : ℕ) → w < 4 → image g.labels w ≢ f.missing
    other w l e = G.label_other w l (e ∙ same)

-- the map of a facet to each new one permutes the vertices
pub puts_permute : (rows : List Row) (m : Move) (f : Facet) (label : ℕ) → IsFacet f → label < 5 → IsPermutationOfFour (label_by_label f (new_facet rows m label))
puts_permute rows m f label F l = by_case (cases_eq f.missing label)
  where
    by_case : (f.missing ≡ label) ⊎ (f.missing ≢ label) → IsPermutationOfFour (label_by_label f (new_facet rows m label))
    by_case (inl e) = same_permutes f (new_facet rows m label) F (new_is_facet rows m label l) e
    by_case (inr d) = by_permutes f (new_facet rows m label) F (new_is_facet rows m label l) d

-- the old facet that lacks a label, by its index in the list
pub old_at : (rows : List Row) (m : Move) (facets : List Facet) (label size : ℕ) (d : Facet) → AreOldFacets rows m facets → size ≡ length m.core → size ≤ label → label < 5 → IsOldFacet rows m label (get_or facets (label - size) d)
old_at rows m facets label size d old es low high =
    let count = old.count in
    let at : length m.core + (label - size) ≡ label = omega arith in
    subst (λ k. IsOldFacet rows m k (get_or facets (label - size) d)) at (old.each (label - size) d (omega arith))
