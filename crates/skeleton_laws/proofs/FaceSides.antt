-- If there is no boundary face, each face class has two faces.
use Rattle.std.proofs.Common.{◌≡◌, ℕ, ◌+◌, ◌*◌, ◌<◌, true, List, length, Some, ◌⊎◌, inl, inr, refl, sym, ap, ◌∙◌, subst, arith}
use Rattle.std.specs.Prelude.{slice_index}
use Rattle.std.proofs.lemmas.List.FromFn.{length-range_with_len}
use Rattle.table_definitions.specs.Lists.{below}
use Rattle.table_definitions.specs.Table.{Gluing, Row, Face, glue, other_side, face_number, same_face, IsTable}
use Rattle.table_definitions.specs.Classes.{IsNumbering, least}
use Rattle.table_definitions.specs.Places.{face_of, SameFace}
use Rattle.table_definitions.proofs.ClassLaws.{least_class}
use Rattle.table_definitions.proofs.DistinctLists.{apart_below}
use Rattle.table_definitions.proofs.Faces.{same_face-itself, number-face_of, face_of-number}
use Rattle.table_definitions.proofs.Listed.{below-among}
use Rattle.table_definitions.proofs.TableLaws.{Among, Among-below}
use Rattle.surface_laws.proofs.Glued.{IsGlued, glued_is}
use Rattle.skeleton_laws.proofs.Matchings.{related_same, both, length-both, first_kind, second_kind, is_first_kind, is_second_kind, both_apart}

module _ (rows : List Row) (table : IsTable rows) (fs : List ℕ) (f : ℕ) (faces : IsNumbering (4 * length rows) (SameFace rows) fs f) (all : (x : Face) → x.tet < length rows → x.face < 4 → (g : Gluing) × (glue rows x ≡ Some g)) where
  start_face : (c : ℕ) → c < f → (least fs c < 4 * length rows) × (slice_index fs (least fs c) ≡ c)
  start_face c l = least_class (4 * length rows) (SameFace rows) fs f faces c l

  abbrev FaceSide : ℕ → ℕ ⊎ ℕ → Type 0
  FaceSide k (inl c) = least fs c ≡ k
  FaceSide k (inr c) = (g : Gluing) × (glue rows (face_of (least fs c)) ≡ Some g) × (other_side (face_of (least fs c)) g ≡ face_of k)

  same_number : (k l : ℕ) → face_of k ≡ face_of l → k ≡ l
  same_number k l e = sym (number-face_of k) ∙ ap (λ (x : Face). face_number x) e ∙ number-face_of l

  face_forth : (k : ℕ) → Among k (below (4 * length rows)) → (y : ℕ ⊎ ℕ) × Among y (both (below f) (below f)) × FaceSide k y
  face_forth k a =
      let lk = below-among k (4 * length rows) a in
      let c : ℕ = slice_index fs k in
      let lc : slice_index fs k < f = faces.in_range k lk in
      let same : SameFace rows (least fs c) k = (faces.together (least fs c) k (start_face c lc).0 lk).0 (start_face c lc).1 in
      go c lc same
    where
      go : (c : ℕ) → c < f → SameFace rows (least fs c) k → (y : ℕ ⊎ ℕ) × Among y (both (below f) (below f)) × FaceSide k y
      go c lc (inl e) = (inl c, first_kind (below f) (below f) c (Among-below c f lc), e)
      go c lc (inr g) = (inr c, second_kind (below f) (below f) c (Among-below c f lc), g)

  other_number : (c : ℕ) → c < f → (k : ℕ) × (k < 4 * length rows) × FaceSide k (inr c)
  other_number c l =
      let s = (start_face c l).0 in
      let x : Face = face_of (least fs c) in
      let g = all x (omega arith) (omega arith) in
      let i : IsGlued rows x g.0 = glued_is rows x g.0 table g.1 in
      (face_number (other_side x g.0), (let a = i.other_tet in let b = i.other_face in omega arith), (g.0, g.1, sym (face_of-number (other_side x g.0) i.other_face)))

  face_back : (y : ℕ ⊎ ℕ) → Among y (both (below f) (below f)) → (k : ℕ) × Among k (below (4 * length rows)) × FaceSide k y
  face_back (inl c) a = let l = below-among c f (is_first_kind (below f) (below f) c a) in (least fs c, Among-below (least fs c) (4 * length rows) (start_face c l).0, refl)
  face_back (inr c) a = let l = below-among c f (is_second_kind (below f) (below f) c a) in let k = other_number c l in (k.0, Among-below k.0 (4 * length rows) k.1, k.2)

  face_once : (k l : ℕ) (y : ℕ ⊎ ℕ) → FaceSide k y → FaceSide l y → k ≡ l
  face_once k l (inl c) r s = sym r ∙ s
  face_once k l (inr c) r s =
      let z : Some r.0 ≡ Some s.0 = sym r.1 ∙ s.1 in
      let same : r.0 ≡ s.0 = cc in
      same_number k l (sym r.2 ∙ ap (other_side (face_of (least fs c))) same ∙ s.2)

  -- the class of a side
  face_class : (k c : ℕ) → k < 4 * length rows → c < f → FaceSide k (inr c) → slice_index fs k ≡ c
  face_class k c lk l r = sym ((faces.together (least fs c) k (start_face c l).0 lk).1 (inr r)) ∙ (start_face c l).1

  first_class : (k c : ℕ) → c < f → least fs c ≡ k → slice_index fs k ≡ c
  first_class k c l r = ap (slice_index fs) (sym r) ∙ (start_face c l).1

  not_both_sides : (k c c' : ℕ) → k < 4 * length rows → c < f → c' < f → FaceSide k (inl c) → FaceSide k (inr c') → ⊥
  not_both_sides k c c' lk l l' r s =
      let same : c ≡ c' = sym (first_class k c l r) ∙ face_class k c' lk l' s in
      let x : Face = face_of (least fs c') in
      let here : other_side (face_of (least fs c')) s.0 ≡ face_of (least fs c') = s.2 ∙ ap face_of (sym r ∙ ap (least fs) same) in
      let t : same_face (other_side x s.0) x ≡ true = ap (λ (y : Face). same_face y x) here ∙ same_face-itself x in
      let separate = table.separate x s.0 s.1 in
      cc

  face_once' : (k : ℕ) (y y' : ℕ ⊎ ℕ) → k < 4 * length rows → Among y (both (below f) (below f)) → Among y' (both (below f) (below f)) → FaceSide k y → FaceSide k y' → y ≡ y'
  face_once' k (inl c) (inl c') lk a b r s = ap (λ z. inl z) (sym (first_class k c (below-among c f (is_first_kind (below f) (below f) c a)) r) ∙ first_class k c' (below-among c' f (is_first_kind (below f) (below f) c' b)) s)
  face_once' k (inl c) (inr c') lk a b r s = absurd (not_both_sides k c c' lk (below-among c f (is_first_kind (below f) (below f) c a)) (below-among c' f (is_second_kind (below f) (below f) c' b)) r s)
  face_once' k (inr c) (inl c') lk a b r s = absurd (not_both_sides k c' c lk (below-among c' f (is_first_kind (below f) (below f) c' b)) (below-among c f (is_second_kind (below f) (below f) c a)) s r)
  face_once' k (inr c) (inr c') lk a b r s = ap (λ z. inr z) (sym (face_class k c lk (below-among c f (is_second_kind (below f) (below f) c a)) r) ∙ face_class k c' lk (below-among c' f (is_second_kind (below f) (below f) c' b)) s)

  -- the number of a side is in range
  side_below : (k : ℕ) (y : ℕ ⊎ ℕ) → Among y (both (below f) (below f)) → FaceSide k y → k < 4 * length rows
  side_below k (inl c) a r = subst (λ z. z < 4 * length rows) r (start_face c (below-among c f (is_first_kind (below f) (below f) c a))).0
  side_below k (inr c) a r =
      let o = other_number c (below-among c f (is_second_kind (below f) (below f) c a)) in
      subst (λ z. z < 4 * length rows) (face_once o.0 k (inr c) o.2 r) o.1

  pub two_sides : 4 * length rows ≡ f + f
  two_sides =
      sym (length-range_with_len 0 (4 * length rows))
      ∙ related_same FaceSide (below (4 * length rows)) (both (below f) (below f)) (apart_below (4 * length rows)) (both_apart (below f) (below f) (apart_below f) (apart_below f)) face_forth face_back (λ k l y a b r s. face_once k l y r s)
      (λ k y y' a b r s. face_once' k y y' (side_below k y a r) a b r s)
      ∙ length-both (below f) (below f) ∙ (λ i. length-range_with_len 0 f i + length-range_with_len 0 f i)
