-- Each arc of a piece has a slot: by the type of the piece, the vertex around which it has an arc of the face is this
-- one.
use Rattle.std.proofs.Common.{◌≡◌, ℕ, zero, suc, ◌+◌, ◌-◌, ◌*◌, ◌%◌, ◌<◌, ◌≤◌, Bool, true, false, not, List, filter, inl, inr, refl, sym, ap, ◌∙◌, subst, arith}
use Rattle.std.specs.Prelude.{◌==◌, ◌&&◌, ◌||◌, nat_lt, if◌then◌else◌}
use Rattle.std.specs.List.{AllByRecursion}
use Rattle.std.proofs.lemmas.Bool.{eqb-true, ltb-true, and_parts, or_cases}
use Rattle.std.proofs.Math.Nat.{add_assoc}
use Rattle.table_definitions.specs.Table.{Gluing, Row}
use Rattle.table_definitions.proofs.Listed.{all_mapped, filter-among}
use Rattle.basic_lemmas.proofs.Numbers.{not_equal}
use Rattle.surface_definitions.specs.Coordinates.{has_octagons, triangles_each, before_octagons, octagons_each, columns_each, tri_column, quad_column, oct_column, keeping, octagon_types, octagon_arcs}
use Rattle.surface_definitions.specs.declared.Coords.{Coords}
use Rattle.surface_definitions.proofs.ColumnCounts.{few_octagons, few_columns, index_below, index_of_index}
use Rattle.surface_definitions.specs.Pieces.{NormalDisc, Arc, disc_of, is_triangle_arc, triangles_around, further_column, further_piece, keeps_by_zero, type_in, Meets}
use Rattle.surface_laws.specs.MatchingLaws.{HasTriangles}
use Rattle.surface_laws.specs.PieceLaws.{IsSurface, first_nonzero}
use Rattle.surface_laws.proofs.ColumnKinds.{first_is, octagon_type, four_triangles, triangle_place}
use Rattle.surface_laws.proofs.Turns.{by_two, keeping_below}
use Rattle.surface_pieces.specs.Slots.{slots_each, slot_vertex}
use Rattle.surface_pieces.proofs.MetArcs.{a_face}

-- a disc whose column has this index among those of its tetrahedron has a slot for an arc around vertex v of face f
pub record HasPlaceSlot (most place f v : ℕ) : Type 0 where
  pub slot : ℕ
  pub in_range : slot < most
  pub face : slot % 4 ≡ f
  pub vertex : slot_vertex place slot ≡ v

abbrev pub HasSlot : Coords → ℕ → ℕ → NormalDisc → Type 0
HasSlot coords f v p = HasPlaceSlot (slots_each coords) (p.column % columns_each coords) f v

pub slots_few : (coords : Coords) → slots_each coords ≤ 8
slots_few coords = go (has_octagons coords)
  where
    go : (b : Bool) → (if b then 8 else 4) ≤ 8
    go true = omega arith
    go false = omega arith

some_slots : (coords : Coords) → 4 ≤ slots_each coords
some_slots coords = go (has_octagons coords)
  where
    go : (b : Bool) → 4 ≤ (if b then 8 else 4)
    go true = omega arith
    go false = omega arith

eight_slots : (coords : Coords) (k : ℕ) → k < octagons_each coords → slots_each coords ≡ 8
eight_slots coords k = go (has_octagons coords)
  where
    go : (b : Bool) → k < (if b then 3 else 0) → ◌≡◌ {A = ℕ} (if b then 8 else 4) 8
    go true l = refl
    go false l = absurd (omega arith)

pub place_low : (coords : Coords) (c : ℕ) → c % columns_each coords < 10
place_low coords c = let below = index_below coords c in let limited = few_columns coords in omega (arith, below, limited)

-- the arcs of a triangle
tri_fits : ℕ → ℕ → Bool
tri_fits v f = slot_vertex v f == v

-- those of a quad
quad_fits : ℕ → ℕ → Bool
quad_fits v f = (v == f) || (slot_vertex (4 + keeping v f) f == v)

-- those of an octagon of type k
oct_slot : ℕ → ℕ → ℕ → ℕ
oct_slot k v f = if (k + 1) % 3 == keeping v f then f else 4 + f

oct_fits : ℕ → ℕ → ℕ → Bool
oct_fits k v f = (v == f) || ((k == keeping v f) || ((slot_vertex (7 + k) (oct_slot k v f) == v) && ((oct_slot k v f % 4 == f) && nat_lt (oct_slot k v f) 8)))

module _ (f v : ℕ) (lf : f < 4) (lv : v < 4) (off : v ≡ f → ⊥) where
  one_slot : (most place : ℕ) → 4 ≤ most → slot_vertex place f ≡ v → HasPlaceSlot most place f v
  one_slot most place l e = record { slot = f; in_range = omega arith; face = omega arith; vertex = e }

  triangle_vertex : slot_vertex v f ≡ v
  unfolding tri_fits
  triangle_vertex = eqb-true (slot_vertex v f) v (by_two tri_fits 4 4 refl v f lv lf)

  quad_vertex : slot_vertex (4 + keeping v f) f ≡ v
  unfolding quad_fits
  quad_vertex = elim (or_cases (v == f) (slot_vertex (4 + keeping v f) f == v) (by_two quad_fits 4 4 refl v f lv lf)) [
    | inl same ↦ absurd (off (eqb-true v f same))
    | inr is ↦ eqb-true (slot_vertex (4 + keeping v f) f) v is
  ]

  oct_by_test : (k : ℕ) → (k ≡ keeping v f → ⊥) → oct_fits k v f ≡ true → HasPlaceSlot 8 (7 + k) f v
  unfolding oct_fits
  oct_by_test k other t = elim (or_cases (v == f) ((k == keeping v f) || ((slot_vertex (7 + k) (oct_slot k v f) == v) && ((oct_slot k v f % 4 == f) && nat_lt (oct_slot k v f) 8))) t) [
    | inl same ↦ absurd (off (eqb-true v f same))
    | inr more ↦ elim (or_cases (k == keeping v f) ((slot_vertex (7 + k) (oct_slot k v f) == v) && ((oct_slot k v f % 4 == f) && nat_lt (oct_slot k v f) 8)) more) [
      | inl same ↦ absurd (other (eqb-true k (keeping v f) same))
      | inr is ↦ (let a : ((slot_vertex (7 + k) (oct_slot k v f) == v) ≡ true) × (((oct_slot k v f % 4 == f) && nat_lt (oct_slot k v f) 8) ≡ true) = and_parts (slot_vertex (7 + k) (oct_slot k v f) == v) ((oct_slot k v f % 4 == f) && nat_lt (oct_slot k v f) 8) is in
          let b : ((oct_slot k v f % 4 == f) ≡ true) × (nat_lt (oct_slot k v f) 8 ≡ true) = and_parts (oct_slot k v f % 4 == f) (nat_lt (oct_slot k v f) 8) a.1 in
          record { slot = oct_slot k v f; in_range = ltb-true (oct_slot k v f) 8 b.1; face = eqb-true (oct_slot k v f % 4) f b.0; vertex = eqb-true (slot_vertex (7 + k) (oct_slot k v f)) v a.0 })
    ]
  ]

  octagon_place : (k : ℕ) → k < 3 → (k ≡ keeping v f → ⊥) → HasPlaceSlot 8 (7 + k) f v
  unfolding oct_fits oct_slot
  octagon_place zero l other = oct_by_test 0 other (by_two (oct_fits 0) 4 4 refl v f lv lf)
  octagon_place (suc zero) l other = oct_by_test 1 other (by_two (oct_fits 1) 4 4 refl v f lv lf)
  octagon_place (suc (suc zero)) l other = oct_by_test 2 other (by_two (oct_fits 2) 4 4 refl v f lv lf)
  octagon_place (suc (suc (suc k))) l other = absurd (omega arith)

  at_place : (most place c : ℕ) → c ≡ place → HasPlaceSlot most place f v → HasPlaceSlot most c f v
  at_place most place c e h = subst (λ k. HasPlaceSlot most k f v) (sym e) h

  octagon_at : (coords : Coords) → HasTriangles coords → (t k : ℕ) → k < octagons_each coords → (k ≡ keeping v f → ⊥)
      → HasPlaceSlot (slots_each coords) (oct_column coords t k % columns_each coords) f v
  octagon_at coords h t k l other =
      let all : triangles_each coords ≡ 4 = four_triangles coords h in
      let low : k < 3 = let limited = few_octagons coords in omega (arith, l, limited) in
      let at : oct_column coords t k % columns_each coords ≡ before_octagons coords + k =
      ap (λ c. c % columns_each coords) (add_assoc (columns_each coords * t) (before_octagons coords) k) ∙ index_of_index coords t (before_octagons coords + k) (omega (arith, l)) in
      let seven : before_octagons coords + k ≡ 7 + k = omega (arith, all) in
      subst (λ m. HasPlaceSlot m (oct_column coords t k % columns_each coords) f v) (sym (eight_slots coords k l))
      (at_place 8 (7 + k) (oct_column coords t k % columns_each coords) (at ∙ seven) (octagon_place k low other))

  octagons_at : (coords : Coords) → HasTriangles coords → (t : ℕ) → AllByRecursion (λ c. HasPlaceSlot (slots_each coords) (c % columns_each coords) f v) (octagon_arcs coords t f v)
  octagons_at coords h t =
      all_mapped (λ c. HasPlaceSlot (slots_each coords) (c % columns_each coords) f v) (oct_column coords t) (filter (λ k. not (k == keeping v f)) (octagon_types coords)) (λ k a.
      let m = filter-among (λ k. not (k == keeping v f)) k (octagon_types coords) a in
      octagon_at coords h t k (octagon_type coords k m.0) (not_equal k (keeping v f) m.1))

  -- the column of the triangle
  triangle_slot : (coords : Coords) → HasTriangles coords → (t : ℕ) → HasPlaceSlot (slots_each coords) (tri_column coords t v % columns_each coords) f v
  triangle_slot coords h t =
      at_place (slots_each coords) v (tri_column coords t v % columns_each coords) (index_of_index coords t v (triangle_place coords v h lv))
      (one_slot (slots_each coords) v (some_slots coords) triangle_vertex)

  -- the column after those of triangles
  further_slot : (coords : Coords) → HasTriangles coords → (xs : List ℕ) (t : ℕ) → HasPlaceSlot (slots_each coords) (first_nonzero xs (octagon_arcs coords t f v) (quad_column coords t (keeping v f)) % columns_each coords) f v
  further_slot coords h xs t =
      let k : ℕ = keeping v f in
      let l : k < 3 = keeping_below v f lv lf off in
      let all : triangles_each coords ≡ 4 = four_triangles coords h in
      let at : quad_column coords t k % columns_each coords ≡ triangles_each coords + k =
      ap (λ c. c % columns_each coords) (add_assoc (columns_each coords * t) (triangles_each coords) k) ∙ index_of_index coords t (triangles_each coords + k) (omega (arith, l)) in
      let four : triangles_each coords + k ≡ 4 + k = omega (arith, all) in
      first_is (λ c. HasPlaceSlot (slots_each coords) (c % columns_each coords) f v) xs (octagon_arcs coords t f v) (quad_column coords t k)
      (at_place (slots_each coords) (4 + k) (quad_column coords t k % columns_each coords) (at ∙ four) (one_slot (slots_each coords) (4 + k) (some_slots coords) quad_vertex))
      (octagons_at coords h t)

-- an arc that meets another has a slot of its piece
pub slot_of_arc : (rows : List Row) (coords : Coords) (xs : List ℕ) → IsSurface rows coords xs → (p : NormalDisc) (a : Arc) (g : Gluing) → Meets rows coords xs a g → disc_of coords xs a ≡ p → HasSlot coords a.face a.vertex p
slot_of_arc rows coords xs s p a g m e = subst (HasSlot coords a.face a.vertex) e (by_test (is_triangle_arc coords xs a))
  where
    lf : a.face < 4
    lf = a_face rows coords xs s a g m

    by_test : (b : Bool) → HasSlot coords a.face a.vertex (if b then record { column = tri_column coords a.tet a.vertex; number = a.place }
        else further_piece xs (further_column coords xs a) (a.place - triangles_around coords xs a) (keeps_by_zero (type_in coords (further_column coords xs a)) a.vertex))
    by_test true = triangle_slot a.face a.vertex lf m.is_vertex m.off_vertex coords s.triangles a.tet
    by_test false = further_slot a.face a.vertex lf m.is_vertex m.off_vertex coords s.triangles xs a.tet
