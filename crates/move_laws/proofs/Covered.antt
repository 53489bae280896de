-- Each face of the table that results from a move replaces a face of the old table, or lies between new facets.
use Rattle.std.proofs.Common.{◌≡◌, ℕ, ◌+◌, ◌-◌, ◌<◌, ◌≤◌, false, List, length, Some, sym, ap, ◌∙◌, subst, arith, inl, inr, refl}
use Rattle.std.specs.Prelude.{◌⊎◌, ◌≢◌}
use Rattle.std.proofs.lemmas.Bool.{cases_lt}
use Rattle.table_definitions.specs.Lists.{has, substitute, rank_without}
use Rattle.table_definitions.specs.Permutation.{image, preimage}
use Rattle.table_definitions.specs.Table.{Gluing, Row, Face, IsTable}
use Rattle.table_definitions.specs.Relabelling.{face_under}
use Rattle.table_definitions.proofs.Permutations.{image-identity}
use Rattle.table_definitions.proofs.InPlace.{in_place-same}
use Rattle.table_definitions.proofs.Faces.{face_at}
use Rattle.move_definitions.specs.Moves.{Move, IsCore, Facet, opposite, facet, old_labels, old_tets, new_length, new_facet, label_by_label, facet_place_after, kept_place_after, place_after_of, place_after, kept, facet_gluing}
use Rattle.move_definitions.proofs.CoreTests.{core_size}
use Rattle.move_definitions.proofs.StandIns.{facet_image_after-new, image_after-kept}
use Rattle.move_laws.proofs.Labels.{ascending, new_labels, HasLabel, label_at, HasVertex, vertex_at, length-labels, image-map}
use Rattle.move_laws.proofs.ListedFacets.{is_found, comes_from, stays-count}
use Rattle.move_laws.proofs.Legal.{IsFacet, facet_is, HasNoFault, old_facet, old_label, facets_apart, old_tets_distinct, length-old_tets, old_tets_below}

-- the replacement of an old facet at a face
pub image_after-old : (rows : List Row) (m : Move) (i : ℕ) (f : Facet) (v : ℕ) → HasNoFault rows m → IsCore m.core → length m.core ≤ i → i < 5 → facet rows m i ≡ Some f
    → place_after rows m (face_at f.tet v) ≡ facet_place_after rows m f (image f.labels v)
image_after-old rows m i f v h c low high e =
    ap (place_after_of rows m (face_at f.tet v)) (is_found (facet rows m) (old_labels m) i f (facets_apart rows m h c) (old_label (length m.core) i (core_size m.core c).1 low high) e)

-- at least as many tetrahedra remain as are retained, and the old table has all that are removed
pub kept-count : (rows : List Row) (m : Move) → IsTable rows → HasNoFault rows m → IsCore m.core → 5 - length m.core ≤ length rows
kept-count rows m table h c =
    omega (arith, length-old_tets rows m h c, stays-count (old_tets rows m) (length rows) (old_tets_distinct rows m h c) (old_tets_below rows m table h c))

-- the face y of the new table replaces the face `old` of the old table
pub record StandsForOld (rows : List Row) (m : Move) (y : Face) : Type 0 where
  pub old : Face
  pub by : Gluing
  pub tet : old.tet < length rows
  pub face : old.face < 4
  pub occurs : place_after rows m old ≡ Some by
  pub is : face_under by old ≡ y

-- the face y of the new table lies between the new facets j and l
pub record IsInner (rows : List Row) (m : Move) (y : Face) : Type 0 where
  pub j : ℕ
  pub l : ℕ
  pub j_small : j < length m.core
  pub l_small : l < length m.core
  pub separate : j ≢ l
  pub is : opposite (new_facet rows m j) l ≡ y

-- the vertex of old facet i with label j is mapped to the vertex of the new facet j with label i
pub crossed : (rows : List Row) (m : Move) (i j : ℕ) (f : Facet) → IsFacet rows i f → j < 5 → j ≢ i → image (label_by_label f (new_facet rows m j)) (preimage f.labels j) ≡ preimage (ascending j) i
crossed rows m i j f is l separate =
    let at : HasVertex f.labels j = vertex_at i f.labels is.labels j l separate in
    image-map (λ l. preimage (ascending j) (substitute j f.missing l)) f.labels (preimage f.labels j) (rw (length-labels i f.labels is.labels) at.small)
    ∙ ap (λ l. preimage (ascending j) (substitute j f.missing l)) at.label
    ∙ ap (preimage (ascending j)) (in_place-same j f.missing j refl ∙ is.missing)

-- a face of a new facet opposite an old label
pub facet_covered : (rows : List Row) (m : Move) (i j : ℕ) → IsTable rows → HasNoFault rows m → IsCore m.core → length m.core ≤ i → i < 5 → j < length m.core → StandsForOld rows m (face_at (kept rows m + j) (preimage (ascending j) i))
facet_covered rows m i j table h c low high less =
    let o : (f : Facet) × (facet rows m i ≡ Some f) = old_facet rows m i h c low high in
    let f : Facet = o.0 in
    let is : IsFacet rows i f = facet_is rows m i f table c h.in_range high o.1 in
    let size : length m.core < 5 = (core_size m.core c).1 in
    let small : j < 5 = omega arith in
    let separate : j ≢ i = λ e. absurd (omega arith) in
    let at : HasVertex f.labels j = vertex_at i f.labels is.labels j small separate in
    record {
      old = face_at f.tet (preimage f.labels j);
      by = facet_gluing rows m f j;
      tet = is.in_range;
      face = at.small;
      occurs = image_after-old rows m i f (preimage f.labels j) h c low high o.1 ∙ ap (facet_place_after rows m f) at.label ∙ facet_image_after-new rows m f j less;
      is = ap (face_at (kept rows m + j)) (crossed rows m i j f is small separate);
    }

-- a face of a retained tetrahedron
pub kept_covered : (rows : List Row) (m : Move) (y : Face) → IsTable rows → HasNoFault rows m → IsCore m.core → y.tet < kept rows m → y.face < 4 → StandsForOld rows m y
kept_covered rows m y table h c lt lf = from (comes_from (old_tets rows m) (length rows) y.tet (old_tets_distinct rows m h c) (old_tets_below rows m table h c) limited)
  where
    limited : y.tet + length (old_tets rows m) < length rows
    limited = let size : length m.core < 5 = (core_size m.core c).1 in let k : 5 - length m.core ≤ length rows = kept-count rows m table h c in omega (arith, length-old_tets rows m h c)

    from : (t : ℕ) × (t < length rows) × (has (old_tets rows m) t ≡ false) × (rank_without (old_tets rows m) t ≡ y.tet) → StandsForOld rows m y
    from (t, l, stays, is) = record {
      old = face_at t y.face;
      by = kept_place_after rows m t;
      tet = l;
      face = lf;
      occurs = image_after-kept rows m (face_at t y.face) stays;
      is = ap (λ v. face_at (rank_without (old_tets rows m) t) v) (image-identity y.face lf) ∙ ap (λ u. face_at u y.face) is;
    }

-- each face of the new table replaces an old face, or lies between new facets
pub covered : (rows : List Row) (m : Move) (y : Face) → IsTable rows → HasNoFault rows m → IsCore m.core → y.tet < new_length rows m → y.face < 4 → StandsForOld rows m y ⊎ IsInner rows m y
covered rows m y table h c lt lf = by_tet (cases_lt y.tet (kept rows m))
  where
    size : length m.core < 5
    size = (core_size m.core c).1

    by_facet : (j : ℕ) → j < length m.core → kept rows m + j ≡ y.tet → StandsForOld rows m y ⊎ IsInner rows m y
    by_facet j less at =
        let l : ℕ = image (ascending j) y.face in
        let here : HasLabel j (ascending j) y.face = label_at j (ascending j) (new_labels j (let most : length m.core < 5 = size in omega arith)) y.face lf in
        let is : face_at (kept rows m + j) (preimage (ascending j) l) ≡ y = ap (face_at (kept rows m + j)) here.vertex ∙ ap (λ u. face_at u y.face) at in
        by_label l here.small here.present is (cases_lt l (length m.core))
      where
        by_label : (l : ℕ) → l < 5 → l ≢ j → face_at (kept rows m + j) (preimage (ascending j) l) ≡ y → (l < length m.core) ⊎ (length m.core ≤ l) → StandsForOld rows m y ⊎ IsInner rows m y
        by_label l small separate is (inl new) = inr (record { j = j; l = l; j_small = less; l_small = new; separate = λ e. separate (sym e); is = is })
        by_label l small separate is (inr old) = inl (subst (λ (z : Face). StandsForOld rows m z) is (facet_covered rows m l j table h c old small less))

    by_tet : (y.tet < kept rows m) ⊎ (kept rows m ≤ y.tet) → StandsForOld rows m y ⊎ IsInner rows m y
    by_tet (inl low) = inl (kept_covered rows m y table h c low lf)
    by_tet (inr high) = by_facet (y.tet - kept rows m) (omega arith) (omega arith)
