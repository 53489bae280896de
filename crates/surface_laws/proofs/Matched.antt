-- If the matching equations hold at the smaller face of each glued pair, they hold across each gluing, read from either
-- side.
use Rattle.std.proofs.Common.{◌≡◌, ℕ, ◌<◌, Bool, true, false, not, List, length, Option, Some, None, ◌⊎◌, inl, inr, IsTrue, Contains, sym, ap, ◌∙◌}
use Rattle.std.specs.Prelude.{◌==◌, ◌&&◌, nat_lt, if◌then◌else◌, sum_by, slice_index}
use Rattle.std.proofs.lemmas.Bool.{cases_order, lt-ltb, eq-eqb, and_from, or_left, or_right}
use Rattle.table_definitions.specs.Permutation.{IsPermutationOfFour, image, inverse, others}
use Rattle.table_definitions.specs.Table.{Gluing, Row, Face, glue, other_side, inverse_gluing, same_face, is_face_before, faces, IsTable}
use Rattle.table_definitions.proofs.TableLaws.{Among, Among-faces}
use Rattle.table_definitions.proofs.PermutationLaws.{image_below, image-of_inverse}
use Rattle.surface_definitions.specs.Coordinates.{arc_columns}
use Rattle.surface_definitions.specs.declared.Coords.{Coords}
use Rattle.surface_definitions.specs.Equations.{Holds, smaller_side, glued_pairs, matching}
use Rattle.surface_laws.proofs.Chains.{kept_or_gone}
use Rattle.surface_laws.proofs.Glued.{IsGlued, glued_is}
use Rattle.table_definitions.proofs.Listed.{Among-filter_map, filter_map-among, Among-others, contains_among}

-- of two different faces one is before the other
pub before_or_after : (x y : Face) → IsTrue (not (same_face y x)) → (is_face_before x y ≡ true) ⊎ (is_face_before y x ≡ true)
before_or_after x y separate = elim (cases_order x.tet y.tet) [
  | inl e ↦ elim (cases_order x.face y.face) [
    | inl f ↦ absurd (kept_or_gone (same_face y x) separate (and_from (y.tet == x.tet) (y.face == x.face) (eq-eqb y.tet x.tet (sym e)) (eq-eqb y.face x.face (sym f))))
    | inr (inl less) ↦ inl (or_right (nat_lt x.tet y.tet) ((x.tet == y.tet) && nat_lt x.face y.face) (and_from (x.tet == y.tet) (nat_lt x.face y.face) (eq-eqb x.tet y.tet e) (lt-ltb x.face y.face less)))
    | inr (inr more) ↦ inr (or_right (nat_lt y.tet x.tet) ((y.tet == x.tet) && nat_lt y.face x.face) (and_from (y.tet == x.tet) (nat_lt y.face x.face) (eq-eqb y.tet x.tet (sym e)) (lt-ltb y.face x.face more)))
  ]
  | inr (inl less) ↦ inl (or_left (nat_lt x.tet y.tet) ((x.tet == y.tet) && nat_lt x.face y.face) (lt-ltb x.tet y.tet less))
  | inr (inr more) ↦ inr (or_left (nat_lt y.tet x.tet) ((y.tet == x.tet) && nat_lt y.face x.face) (lt-ltb y.tet x.tet more))
]

-- the glued pairs are the glued faces that are before the faces to which they are glued
pub among_pairs : (rows : List Row) (x : Face) (g : Gluing) → IsTable rows → glue rows x ≡ Some g → is_face_before x (other_side x g) ≡ true → Among {A = Face × Gluing} (x, g) (glued_pairs rows)
unfolding glued_pairs
among_pairs rows x g table e before =
    let a : IsGlued rows x g = glued_is rows x g table e in
    Among-filter_map {B = Face × Gluing} (λ (y : Face). smaller_side y (glue rows y)) x (x, g) (faces (length rows)) (Among-faces x (length rows) a.tet a.face)
    (ap (smaller_side x) e ∙ ap (λ b. let p : Option (Face × Gluing) = if b then Some (x, g) else None in p) before)

lesser_is : (x : Face) (o : Option Gluing) (y : Face × Gluing) → smaller_side x o ≡ Some y → (x ≡ y.0) × (o ≡ Some y.1)
lesser_is x None y e = absurd cc
lesser_is x (Some g) y e = go (is_face_before x (other_side x g)) e
  where
    one : Face × Gluing
    one = (x, g)

    go : (b : Bool) → (let p : Option (Face × Gluing) = if b then Some (x, g) else None in p) ≡ Some y → (x ≡ y.0) × (Some g ≡ Some y.1)
    go true f = let s : one ≡ y = cc in (ap (λ (q : Face × Gluing). q.0) s, ap (λ (q : Face × Gluing). Some q.1) s)
    go false f = absurd cc

pub pair_glued : (rows : List Row) (y : Face × Gluing) → Among y (glued_pairs rows) → glue rows y.0 ≡ Some y.1
unfolding glued_pairs
pair_glued rows y h =
    let m : (x : Face) × Among x (faces (length rows)) × (smaller_side x (glue rows x) ≡ Some y) = filter_map-among (λ (x : Face). smaller_side x (glue rows x)) y (faces (length rows)) h in
    let s : (m.0 ≡ y.0) × (glue rows m.0 ≡ Some y.1) = lesser_is m.0 (glue rows m.0) y m.2 in
    sym (ap (glue rows) s.0) ∙ s.1

module _ (rows : List Row) (coords : Coords) (ys : List ℕ) (table : IsTable rows) (Chosen : ℕ → ℕ → Type 0) where
  -- if a vertex of a face is chosen, its image across the face's gluing is
  abbrev pub IsChosenAcross : Type 0
  IsChosenAcross = (x : Face) (g : Gluing) (v : ℕ) → glue rows x ≡ Some g → v < 4 → (v ≡ x.face → ⊥) → Chosen x.tet v → Chosen g.tet (image g.perm v)

  abbrev pub HoldAtPairs : Type 0
  HoldAtPairs = (y : Face × Gluing) (v : ℕ) → Contains (glued_pairs rows) y → Contains (others (y.0).face) v → Chosen (y.0).tet v → Holds (matching coords y.0 y.1 v) ys

  -- the equation of the inverse gluing is the same with its sides exchanged
  pub mirrored : (x : Face) (g : Gluing) (v : ℕ) → IsPermutationOfFour g.perm → x.face < 4 → v < 4
      → Holds (matching coords (other_side x g) (inverse_gluing x g) (image g.perm v)) ys → Holds (matching coords x g v) ys
  mirrored x g v p lx lv h =
      let back : arc_columns coords x.tet (image (inverse g.perm) (image g.perm x.face)) (image (inverse g.perm) (image g.perm v)) ≡ arc_columns coords x.tet x.face v =
      (λ i. arc_columns coords x.tet (image-of_inverse g.perm x.face p lx i) (image-of_inverse g.perm v p lv i)) in
      sym (h ∙ ap (sum_by (slice_index ys)) back)

  pub matched : IsChosenAcross → HoldAtPairs → (x : Face) (g : Gluing) (v : ℕ) → glue rows x ≡ Some g → v < 4 → (v ≡ x.face → ⊥) → Chosen x.tet v → Holds (matching coords x g v) ys
  matched across pairs x g v e lv off c = elim (before_or_after x (other_side x g) (table.separate x g e)) [
    | inl before ↦ pairs (x, g) v (contains_among {A = Face × Gluing} (x, g) (glued_pairs rows) (among_pairs rows x g table e before)) (contains_among v (others x.face) (Among-others x.face v lv off)) c
    | inr after ↦ (let a : IsGlued rows x g = glued_is rows x g table e in
        let y : Face = other_side x g in
        let w : ℕ = image g.perm v in
        let lw : w < 4 = image_below g.perm v a.permutes lv in
        let off_too : w ≡ y.face → ⊥ = λ s. off (sym (image-of_inverse g.perm v a.permutes lv) ∙ ap (image (inverse g.perm)) s ∙ image-of_inverse g.perm x.face a.permutes a.face) in
        let before : is_face_before y (other_side y (inverse_gluing x g)) ≡ true = ap (is_face_before y) a.returns ∙ after in
        mirrored x g v a.permutes a.face lv
        (pairs (y, inverse_gluing x g) w (contains_among {A = Face × Gluing} (y, inverse_gluing x g) (glued_pairs rows) (among_pairs rows y (inverse_gluing x g) table a.back before)) (contains_among w (others y.face) (Among-others y.face w lw off_too)) (across x g v e lv off c)))
  ]
