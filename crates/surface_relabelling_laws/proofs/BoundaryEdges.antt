-- An edge lies in a boundary face if its image does.
use Rattle.std.proofs.Common.{◌≡◌, ℕ, ◌*◌, ◌/◌, ◌%◌, ◌<◌, true, false, List, [], ◌∷◌, length, Option, Some, None, ◌⊎◌, inl, inr, refl, sym, ap, ◌∙◌, subst, arith}
use Rattle.std.specs.Prelude.{◌==◌, ◌&&◌, not, is_none, option_map, slice_index}
use Rattle.std.proofs.lemmas.Bool.{and_parts, and_from, not-true, eq-eqb, eqb-true, false_from_ne_true, false≢true}
use Rattle.table_definitions.specs.Classes.{IsNumbering}
use Rattle.table_definitions.specs.Lists.{below, has}
use Rattle.table_definitions.specs.Permutation.{IsPermutationOfFour, four, image, preimage}
use Rattle.table_definitions.specs.Table.{Gluing, Row, glue, IsTable}
use Rattle.table_definitions.specs.Places.{ends, edge_number, is_boundary, lies_in_boundary, is_boundary_edge, SameEdge}
use Rattle.table_definitions.specs.Relabelling.{Relabelling, IsRelabelling, Carries, relabelled_place, gluing_under}
use Rattle.table_definitions.proofs.Faces.{face_at}
use Rattle.table_definitions.proofs.Listed.{among_has, has_among, below-among}
use Rattle.table_definitions.proofs.Permutations.{image-preimage, preimage_below}
use Rattle.table_definitions.proofs.TableLaws.{Among, Among-below, Among-four, four-among}
use Rattle.skeleton_class_laws.proofs.Cases.{low, high, ends-edge_number}
use Rattle.surface_laws.proofs.LinkingLemmas.{any_test, test_any}
use Rattle.surface_relabelling_laws.proofs.Edges.{perm_of, image_edge, ends_of, edge_tet, perm_is, image_ends, image_edge_below, edges_back, from_edge}

none_before : (f : Gluing → Gluing) (o : Option Gluing) → is_none (option_map f o) ≡ true → is_none o ≡ true
none_before f None e = refl
none_before f (Some g) e = absurd (let w : false ≡ true = e in cc)

module _ (old : List Row) (new : List Row) (table : IsTable old) (table' : IsTable new) (by : Relabelling) (is : IsRelabelling (length old) by) (carries : Carries by old new) where
  -- a face at the image of an edge is the image of one at the edge
  lies_at : (i : ℕ) → i < 6 * length old → (f : ℕ) → f < 4 → has (ends (image_edge by i % 6)) f ≡ false → is_boundary new (face_at (image_edge by i / 6) f) ≡ true → lies_in_boundary old i ≡ true
  lies_at i l f lf off free =
      let p : List ℕ = perm_of by i in
      let h : IsPermutationOfFour (perm_of by i) = perm_is old new table table' by is carries i l in
      let x : ℕ = preimage p f in
      let lx : preimage (perm_of by i) f < 4 = preimage_below p h f lf in
      let there : image p (preimage p f) ≡ f = image-preimage p h f lf in
      let e = image_ends old new table table' by is carries i l in
      let a = ends_of i in
      let n = ends-edge_number (image p (low (i % 6))) (image p (high (i % 6))) e.lower e.higher e.separate in
      let place : image_edge by i % 6 ≡ edge_number (image p (low (i % 6))) (image p (high (i % 6))) = (let s = n.0 in omega arith) in
      let tet : image_edge by i / 6 ≡ slice_index by.images (i / 6) = (let s = n.0 in omega arith) in
      let out : has (ends (edge_number (image p (low (i % 6))) (image p (high (i % 6))))) f ≡ false = ap (λ m. has (ends m) f) (sym place) ∙ off in
      let not_end : has (ends (i % 6)) (preimage p f) ≡ false = false_from_ne_true (has (ends (i % 6)) x) (λ t.
      (let m : Among x (low (i % 6) ∷ high (i % 6) ∷ []) = subst (Among x) a.two (has_among (ends (i % 6)) x t) in
      false≢true (sym out ∙ among_has (ends (edge_number (image p (low (i % 6))) (image p (high (i % 6))))) f
      (in_ends f (image p (low (i % 6))) (image p (high (i % 6))) (edge_number (image p (low (i % 6))) (image p (high (i % 6)))) n.1
      (elim m [ inl q ↦ inl (sym there ∙ ap (image p) q) | inr r ↦ elim r [ inl q ↦ inr (sym there ∙ ap (image p) q) | inr none ↦ absurd none ] ]))))) in
      let none : is_none (glue old (face_at (i / 6) (preimage p f))) ≡ true =
      none_before (λ g. gluing_under (relabelled_place by (i / 6)) (relabelled_place by g.tet) g) (glue old (face_at (i / 6) x))
      (ap is_none (sym (carries.glued (face_at (i / 6) x) (edge_tet old new table table' by is carries i l) lx)) ∙ (λ k. is_none (glue new (face_at (sym tet k) (there k)))) ∙ free) in
      any_test (λ f. not (has (ends (i % 6)) f) && is_boundary old (face_at (i / 6) f)) x four (Among-four x lx)
      (and_from (not (has (ends (i % 6)) x)) (is_boundary old (face_at (i / 6) x)) (ap not not_end) none)
    where
      in_ends : (f u v e : ℕ) → (ends e ≡ u ∷ v ∷ []) ⊎ (ends e ≡ v ∷ u ∷ []) → (f ≡ u) ⊎ (f ≡ v) → Among f (ends e)
      in_ends f u v e (inl s) (inl q) = subst (Among f) (sym s) (inl q)
      in_ends f u v e (inl s) (inr q) = subst (Among f) (sym s) (inr (inl q))
      in_ends f u v e (inr s) (inl q) = subst (Among f) (sym s) (inr (inl q))
      in_ends f u v e (inr s) (inr q) = subst (Among f) (sym s) (inl q)

  lies_back : (i : ℕ) → i < 6 * length old → lies_in_boundary new (image_edge by i) ≡ true → lies_in_boundary old i ≡ true
  lies_back i l t =
      let f = test_any (λ f. not (has (ends (image_edge by i % 6)) f) && is_boundary new (face_at (image_edge by i / 6) f)) four t in
      let p = and_parts (not (has (ends (image_edge by i % 6)) f.0)) (is_boundary new (face_at (image_edge by i / 6) f.0)) f.2 in
      lies_at i l f.0 (four-among f.0 f.1) (not-true (has (ends (image_edge by i % 6)) f.0) p.0) p.1

  module _ (es : List ℕ) (count : ℕ) (numbered : IsNumbering (6 * length old) (SameEdge old) es count) (es' : List ℕ) (count' : ℕ) (numbered' : IsNumbering (6 * length new) (SameEdge new) es' count') where
    -- the image of an internal edge class is one
    pub stays_internal : (i : ℕ) → i < 6 * length old → is_boundary_edge old es (slice_index es i) ≡ false → is_boundary_edge new es' (slice_index es' (image_edge by i)) ≡ false
    stays_internal i l inner = false_from_ne_true (is_boundary_edge new es' (slice_index es' (image_edge by i))) (λ t.
        (let m = test_any (λ j. (slice_index es' j == slice_index es' (image_edge by i)) && lies_in_boundary new j) (below (length es')) t in
        let lm : m.0 < 6 * length new = subst (λ n. m.0 < n) numbered'.one_each (below-among m.0 (length es') m.1) in
        let p = and_parts (slice_index es' m.0 == slice_index es' (image_edge by i)) (lies_in_boundary new m.0) m.2 in
        let f = from_edge old new table table' by is carries m.0 lm in
        let classes : slice_index es' (image_edge by f.0) ≡ slice_index es' (image_edge by i) = ap (slice_index es') f.2 ∙ eqb-true (slice_index es' m.0) (slice_index es' (image_edge by i)) p.0 in
        let same : SameEdge old f.0 i = edges_back old new table table' by is carries f.0 i f.1 l
        ((numbered'.together (image_edge by f.0) (image_edge by i) (image_edge_below old new table table' by is carries f.0 f.1) (image_edge_below old new table table' by is carries i l)).0 classes) in
        let here : slice_index es f.0 ≡ slice_index es i = (numbered.together f.0 i f.1 l).1 same in
        let lies : lies_in_boundary old f.0 ≡ true = lies_back f.0 f.1 (ap (lies_in_boundary new) f.2 ∙ p.1) in
        false≢true (sym inner ∙ any_test (λ j. (slice_index es j == slice_index es i) && lies_in_boundary old j) f.0 (below (length es))
        (Among-below f.0 (length es) (subst (λ n. f.0 < n) (sym numbered.one_each) f.1)) (and_from (slice_index es f.0 == slice_index es i) (lies_in_boundary old f.0) (eq-eqb (slice_index es f.0) (slice_index es i) here) lies))))
