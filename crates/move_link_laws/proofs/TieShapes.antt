-- A place with an image lies in a retained tetrahedron, or in an old facet, and its image in a new one has the same
-- labels.
use Rattle.std.proofs.Common.{◌≡◌, ◌≢◌, ℕ, ◌+◌, ◌<◌, false, List, [], ◌∷◌, length, map, ◌⊎◌, inl, inr, refl, sym, ap, ◌∙◌, arith}
use Rattle.std.specs.List.{AllByRecursion}
use Rattle.table_definitions.specs.Lists.{has, substitute, rank_without}
use Rattle.table_definitions.specs.Permutation.{image, preimage, identity}
use Rattle.table_definitions.specs.Table.{Gluing, Row, Face, IsTable}
use Rattle.table_definitions.specs.Places.{Place, IsPlace, carried}
use Rattle.table_definitions.specs.Relabelling.{face_under}
use Rattle.table_definitions.proofs.Faces.{face_at}
use Rattle.table_definitions.proofs.Permutations.{image-identity}
use Rattle.table_definitions.proofs.InPlace.{in_place-other}
use Rattle.table_definitions.proofs.Ranks.{stays}
use Rattle.move_definitions.specs.Moves.{Move, Facet, IsMoved, vertex_of, kept, new_facet, old_tets, kept_place_after, facet_place_after, facet_gluing}
use Rattle.move_definitions.proofs.StandIns.{facet_image_after-new, image_after-kept}
use Rattle.move_laws.proofs.Labels.{AreLabels, ascending, HasVertex, vertex_at, length-labels, image-map}
use Rattle.move_laws.proofs.Covered.{image_after-old}
use Rattle.move_laws.proofs.Shapes.{IsFacetFace, shape}
use Rattle.move_laws.proofs.SecondStand.{crossing}
use Rattle.move_link_laws.proofs.Labelled.{head_off, tail_off, in_facet, Below5, has-vertices, has-labels, labels_below, labels_off, vertices_below, vertices_again, labels_again}
use Rattle.move_link_laws.proofs.Ties.{fine, IsOld, is_old, small_label, Ties, KeptTie, FacetTie}

-- the images of vertices
map_identity : (vs : List ℕ) → AllByRecursion (λ v. v < 4) vs → map (image identity) vs ≡ vs
map_identity [] small = refl
map_identity (v ∷ vs) small = λ j. image-identity v small.0 j ∷ map_identity vs small.1 j

module _ (old : List Row) (m : Move) (new : List Row) (table : IsTable old) (h : IsMoved old m new) where
  abbrev new_at : ℕ → Facet
  new_at j = new_facet old m j

  -- the images of the vertices of an old facet in a new one
  facet_carries : (f : Facet) (i j : ℕ) (vs : List ℕ) → AreLabels i f.labels → AllByRecursion (λ v. v < 4) vs → has (map (image f.labels) vs) j ≡ false
      → map (image (facet_gluing old m f j).perm) vs ≡ map (vertex_of (new_at j)) (map (image f.labels) vs)
  facet_carries f i j [] hf small off = refl
  facet_carries f i j (v ∷ vs) hf small off =
      let long : v < length f.labels = (let n = length-labels i f.labels hf in let s : v < 4 = small.0 in omega arith) in
      let one : image (facet_gluing old m f j).perm v ≡ vertex_of (new_at j) (image f.labels v) =
      image-map (λ l. preimage (ascending j) (substitute j f.missing l)) f.labels v long
      ∙ ap (preimage (ascending j)) (in_place-other j f.missing (image f.labels v) (head_off (image f.labels v) (map (image f.labels) vs) j off)) in
      λ k. one k ∷ facet_carries f i j vs hf small.1 (tail_off (image f.labels v) (map (image f.labels) vs) j off) k

  -- which of the two it is, and by which permutation
  pub tie_shape_by : (p q : Place) (t : Ties old m new table h p q) → (KeptTie old m new table h p q × (t.by.perm ≡ identity)) ⊎ ((a : FacetTie old m new table h p q) × (t.by.perm ≡ crossing a.i a.j a.f.labels))
  tie_shape_by p q t = elim (shape old m table (fine old m new table h) h.core (face_at p.tet t.face) t.by t.tet t.low t.occurs) [
    | inl k ↦ inl (
      record {
        stays = k.stays;
        tet = t.tet;
        is = t.is ∙ ap (λ (g : Gluing). carried g p) k.by ∙ (λ j. record { tet = rank_without (old_tets old m) p.tet; vertices = map_identity p.vertices t.place j });
      },
      ap (λ (g : Gluing). g.perm) k.by,
    )
    | inr f ↦ inr (facet_shape f, ap (λ (g : Gluing). g.perm) f.by ∙ ap (λ k. crossing k f.j f.facet_of.labels) f.facet_is.missing)
  ]
    where
      facet_shape : IsFacetFace old m (face_at p.tet t.face) (face_under t.by (face_at p.tet t.face)) t.by → FacetTie old m new table h p q
      facet_shape f = record {
        i = f.i;
        j = f.j;
        f = f.facet_of;
        ls = ls;
        old_is = is_old old m new table h f.i f.facet_of f.low f.high f.found;
        less = f.less;
        small = labels_below f.i f.facet_of.labels hf p.vertices t.place;
        off_i = labels_off f.i f.facet_of.labels hf p.vertices t.place;
        off_j = off_j;
        from = λ k. record { tet = sym tets k; vertices = sym (vertices_again f.i f.facet_of.labels hf p.vertices t.place) k };
        to = t.is ∙ ap (λ (g : Gluing). carried g p) f.by ∙ (λ k. record { tet = kept old m + f.j; vertices = facet_carries f.facet_of f.i f.j p.vertices hf t.place off_j k });
      }
        where
          hf : AreLabels f.i f.facet_of.labels
          hf = f.facet_is.labels

          ls : List ℕ
          ls = map (image f.facet_of.labels) p.vertices

          tets : f.facet_of.tet ≡ p.tet
          tets = ap (λ (y : Face). y.tet) f.old_is

          faces : preimage f.facet_of.labels f.j ≡ t.face
          faces = ap (λ (y : Face). y.face) f.old_is

          j_is : image f.facet_of.labels t.face ≡ f.j
          j_is = ap (image f.facet_of.labels) (sym faces) ∙ (vertex_at f.i f.facet_of.labels hf f.j (small_label old m new table h f.j f.less) (λ e. (let a = f.low in let b = f.less in absurd (omega arith)))).label

          off_j : has (map (image f.facet_of.labels) p.vertices) f.j ≡ false
          off_j = ap (has (map (image f.facet_of.labels) p.vertices)) (sym j_is) ∙ has-labels f.i f.facet_of.labels hf p.vertices t.face t.place t.low ∙ t.off

  pub tie_shape : (p q : Place) → Ties old m new table h p q → KeptTie old m new table h p q ⊎ FacetTie old m new table h p q
  tie_shape p q t = elim (tie_shape_by p q t) [ inl k ↦ inl k.0 | inr a ↦ inr a.0 ]

  -- in each of the two cases a place has an image
  pub kept_tie : (p : Place) → has (old_tets old m) p.tet ≡ false → p.tet < length old → IsPlace p → (f : ℕ) → f < 4 → has p.vertices f ≡ false → Ties old m new table h p (record { tet = rank_without (old_tets old m) p.tet; vertices = p.vertices })
  kept_tie p stays lt place f lf off = record {
    face = f;
    by = kept_place_after old m p.tet;
    tet = lt;
    place = place;
    low = lf;
    off = off;
    occurs = image_after-kept old m (face_at p.tet f) stays;
    is = λ j. record { tet = rank_without (old_tets old m) p.tet; vertices = sym (map_identity p.vertices place) j };
  }

  pub facet_tie : (i j : ℕ) (f : Facet) (ls : List ℕ) → IsOld old m new table h i f → j < length m.core → Below5 ls → has ls i ≡ false → has ls j ≡ false → Ties old m new table h (in_facet f ls) (in_facet (new_at j) ls)
  facet_tie i j f ls a less small oi oj = record {
    face = vertex_of f j;
    by = facet_gluing old m f j;
    tet = a.is.in_range;
    place = vertices_below i f.labels a.is.labels ls small oi;
    low = at.small;
    off = has-vertices i f.labels a.is.labels ls j small oi (small_label old m new table h j less) ne ∙ oj;
    occurs = image_after-old old m i f (vertex_of f j) (fine old m new table h) h.core a.low a.high a.found ∙ ap (facet_place_after old m f) at.label ∙ facet_image_after-new old m f j less;
    is = λ k. record { tet = kept old m + j; vertices = sym (facet_carries f i j (map (vertex_of f) ls) a.is.labels (vertices_below i f.labels a.is.labels ls small oi) (ap (λ (xs : List ℕ). has xs j) again ∙ oj) ∙ ap (map (vertex_of (new_at j))) again) k };
  }
    where
      ne : j ≢ i
      ne e = (let l = a.low in absurd (omega arith))

      at : HasVertex f.labels j
      at = vertex_at i f.labels a.is.labels j (small_label old m new table h j less) ne

      again : map (image f.labels) (map (vertex_of f) ls) ≡ ls
      again = labels_again i f.labels a.is.labels ls small oi

  pub facet_tie_by : (i j : ℕ) (f : Facet) (ls : List ℕ) (a : IsOld old m new table h i f) (less : j < length m.core) (small : Below5 ls) (oi : has ls i ≡ false) (oj : has ls j ≡ false)
      → (facet_tie i j f ls a less small oi oj).by.perm ≡ crossing i j f.labels
  unfolding facet_tie
  facet_tie_by i j f ls a less small oi oj = ap (λ k. crossing k j f.labels) a.is.missing
