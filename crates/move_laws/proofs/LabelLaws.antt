-- Facets by their labels, and the maps of vertices that keep labels.
use Rattle.std.proofs.Common.{◌≡◌, ℕ, ◌<◌, true, List, length, get_or, refl, sym, ap, ◌∙◌, arith, inl, inr}
use Rattle.std.specs.Prelude.{◌⊎◌, ◌==◌, ◌&&◌, ◌≢◌}
use Rattle.std.proofs.lemmas.Bool.{eq-eqb, cases_eq, ne_eqb}
use Rattle.std.proofs.lemmas.List.{get_or-map, length-map}
use Rattle.std.proofs.lemmas.List.Folds.{list_any_at}
use Rattle.std.proofs.lemmas.List.Sums.{position_or_len_is}
use Rattle.table_definitions.specs.Lists.{has, substitute}
use Rattle.table_definitions.specs.Permutation.{image, preimage, inverse, IsPermutationOfFour}
use Rattle.table_definitions.proofs.InPlace.{in_place-same, in_place-other, in_place-back}
use Rattle.table_definitions.proofs.Permutations.{is_permutation-four, same_images, image-inverse, preimage_at, inverse_permutes}
use Rattle.move_definitions.specs.Moves.{Facet, vertex_of, label_by_label}
use Rattle.move_laws.specs.Facets.{IsFacet}

-- the preimage of a number is the first place where it occurs
pub comes_first : (xs : List ℕ) (w l : ℕ) → w < length xs → get_or xs w 0 ≡ l → ((v : ℕ) → v < w → get_or xs v 0 ≢ l) → preimage xs l ≡ w
unfolding preimage
comes_first xs w l b e before = position_or_len_is (λ v. v == l) xs w 0 (omega arith) (λ k m. ne_eqb (get_or xs k 0) l (before k m)) (λ _. eq-eqb _ l e)

-- labels with an inverse are those of a facet
pub facet_from : (f : Facet) (back : ℕ → ℕ) → f.missing < 5 → length f.labels ≡ 4
    → ((v : ℕ) → v < 4 → image f.labels v < 5)
    → ((v : ℕ) → v < 4 → image f.labels v ≢ f.missing)
    → ((v : ℕ) → v < 4 → back (image f.labels v) ≡ v)
    → ((l : ℕ) → l < 5 → l ≢ f.missing → back l < 4)
    → ((l : ℕ) → l < 5 → l ≢ f.missing → image f.labels (back l) ≡ l) → IsFacet f
facet_from f back limited long small other there inside here = record {
  missing_below = limited;
  four_labels = long;
  label_below = small;
  label_other = other;
  vertex_back = vertex_is;
  vertex_below = λ l b d. (let e = place l b d in let i = inside l b d in omega arith);
  label_back = λ l b d. ap (λ v. image f.labels v) (place l b d) ∙ here l b d;
}
  where
    vertex_is : (v : ℕ) → v < 4 → preimage f.labels (image f.labels v) ≡ v
    vertex_is v l = comes_first f.labels v (image f.labels v) (omega arith) refl (λ u m e. absurd (let a = there u (omega arith) in let b = there v l in let c : back (image f.labels u) ≡ back (image f.labels v) = ap back e in omega arith))

    place : (l : ℕ) → l < 5 → l ≢ f.missing → preimage f.labels l ≡ back l
    place l b d = ap (preimage f.labels) (sym (here l b d)) ∙ vertex_is (back l) (inside l b d)

-- the label that a label is mapped to, where the labels a and b are missing on the two sides, is below 5
pub goes_below : (a b l : ℕ) → a < 5 → l < 5 → substitute b a l < 5
goes_below a b l la ll = by_case (cases_eq l b)
  where
    by_case : (l ≡ b) ⊎ (l ≢ b) → substitute b a l < 5
    by_case (inl e) = let q = in_place-same b a l e in omega arith
    by_case (inr d) = let q = in_place-other b a l d in omega arith

pub goes_other : (a b l : ℕ) → a ≢ b → substitute b a l ≢ b
goes_other a b l separate s = by_case (cases_eq l b)
  where
    by_case : (l ≡ b) ⊎ (l ≢ b) → ⊥
    by_case (inl e) = separate (sym (in_place-same b a l e) ∙ s)
    by_case (inr d) = d (sym (in_place-other b a l d) ∙ s)

-- a list of length 4 in which each of the four numbers occurs is a permutation
pub permutes_from : (p : List ℕ) (back : ℕ → ℕ) → length p ≡ 4 → ((w : ℕ) → w < 4 → back w < 4) → ((w : ℕ) → w < 4 → image p (back w) ≡ w) → IsPermutationOfFour p
permutes_from p back long inside here = is_permutation-four p long ∙ all (at 0 (omega arith)) (at 1 (omega arith)) (at 2 (omega arith)) (at 3 (omega arith))
  where
    at : (w : ℕ) → w < 4 → has p w ≡ true
    at w l = let i = inside w l in list_any_at (λ m. m == w) p (back w) 0 (omega arith) (eq-eqb (get_or p (back w) 0) w (here w l))

    all : has p 0 ≡ true → has p 1 ≡ true → has p 2 ≡ true → has p 3 ≡ true → (has p 0 && has p 1 && has p 2 && has p 3) ≡ true
    all a b c d = rw (a, b, c, d) refl

-- label by label
pub image_by : (f g : Facet) (v : ℕ) → IsFacet f → v < 4 → image (label_by_label f g) v ≡ vertex_of g (substitute g.missing f.missing (image f.labels v))
image_by f g v F l = get_or-map (λ l. vertex_of g (substitute g.missing f.missing l)) f.labels v 0 0 (let e = F.four_labels in omega arith)

pub length_by : (f g : Facet) → IsFacet f → length (label_by_label f g) ≡ 4
length_by f g F = length-map f.labels (λ l. vertex_of g (substitute g.missing f.missing l)) ∙ F.four_labels

pub vertex_by : (f g : Facet) (l : ℕ) → IsFacet f → l < 5 → l ≢ f.missing → image (label_by_label f g) (vertex_of f l) ≡ vertex_of g (substitute g.missing f.missing l)
vertex_by f g l F b d = image_by f g (vertex_of f l) F (F.vertex_below l b d) ∙ ap (λ k. vertex_of g (substitute g.missing f.missing k)) (F.label_back l b d)

-- the vertex of f that is mapped to the vertex w of g
abbrev from_vertex : Facet → Facet → ℕ → ℕ
from_vertex f g w = vertex_of f (substitute f.missing g.missing (image g.labels w))

from_below : (f g : Facet) (w : ℕ) → IsFacet f → IsFacet g → f.missing ≢ g.missing → w < 4 → from_vertex f g w < 4
from_below f g w F G separate l =
    F.vertex_below (substitute f.missing g.missing (image g.labels w)) (goes_below g.missing f.missing (image g.labels w) G.missing_below (G.label_below w l))
    (goes_other g.missing f.missing (image g.labels w) (λ e. separate (sym e)))

to_vertex : (f g : Facet) (w : ℕ) → IsFacet f → IsFacet g → f.missing ≢ g.missing → w < 4 → image (label_by_label f g) (from_vertex f g w) ≡ w
to_vertex f g w F G separate l =
    let label : ℕ = substitute f.missing g.missing (image g.labels w) in
    let small : label < 5 = goes_below g.missing f.missing (image g.labels w) G.missing_below (G.label_below w l) in
    let other : label ≢ f.missing = goes_other g.missing f.missing (image g.labels w) (λ e. separate (sym e)) in
    vertex_by f g label F small other ∙ ap (vertex_of g) (in_place-back g.missing f.missing (image g.labels w) (G.label_other w l)) ∙ G.vertex_back w l

pub by_permutes : (f g : Facet) → IsFacet f → IsFacet g → f.missing ≢ g.missing → IsPermutationOfFour (label_by_label f g)
by_permutes f g F G separate = permutes_from (label_by_label f g) (from_vertex f g) (length_by f g F) (λ w l. from_below f g w F G separate l) (λ w l. to_vertex f g w F G separate l)

pub by_back : (f g : Facet) → IsFacet f → IsFacet g → f.missing ≢ g.missing → inverse (label_by_label f g) ≡ label_by_label g f
by_back f g F G separate =
    let p = by_permutes f g F G separate in
    same_images (inverse (label_by_label f g)) (label_by_label g f) (inverse_permutes (label_by_label f g) p) (by_permutes g f G F (λ e. separate (sym e)))
    (λ w l. image-inverse (label_by_label f g) w l ∙ preimage_at (label_by_label f g) p w (from_vertex f g w) (from_below f g w F G separate l) (to_vertex f g w F G separate l) ∙ sym (image_by g f w G l))

-- a permutation that keeps labels is the map label by label
pub by_is : (f g : Facet) (p : List ℕ) → IsFacet f → IsFacet g → f.missing ≢ g.missing → IsPermutationOfFour p → ((v : ℕ) → v < 4 → image p v < 4)
    → ((v : ℕ) → v < 4 → image g.labels (image p v) ≡ substitute g.missing f.missing (image f.labels v)) → p ≡ label_by_label f g
by_is f g p F G separate permutes small labels =
    same_images p (label_by_label f g) permutes (by_permutes f g F G separate) (λ v l. sym (G.vertex_back (image p v) (small v l)) ∙ ap (vertex_of g) (labels v l) ∙ sym (image_by f g v F l))
