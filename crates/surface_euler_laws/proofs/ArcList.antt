-- All arcs of the surface, two that meet counted once, by number.
use Rattle.std.proofs.Common.{◌≡◌, ◌≢◌, ℕ, ◌<◌, Bool, true, false, List, length, map, flat_map, filter, Option, Some, None, ◌⊎◌, inl, inr, refl, sym, ap, ◌∙◌, subst}
use Rattle.std.specs.Prelude.{◌==◌, ◌||◌}
use Rattle.std.specs.List.{slice_index_or}
use Rattle.std.proofs.lemmas.Bool.{cases_Bool, ne_eqb, or_from}
use Rattle.std.proofs.lemmas.List.{length-map, get_or_default}
use Rattle.std.proofs.lemmas.List.Concat.{length-flat_map}
use Rattle.std.proofs.lemmas.List.Elements.{Contains-get_or}
use Rattle.std.proofs.lemmas.List.FromFn.{length-range_with_len}
use Rattle.table_definitions.specs.Lists.{below}
use Rattle.table_definitions.specs.Permutation.{image, others}
use Rattle.table_definitions.specs.Table.{Gluing, Row, Face, glue, other_side, inverse_gluing, is_face_before, faces}
use Rattle.table_definitions.specs.Places.{IsJoined}
use Rattle.table_definitions.proofs.ChainLaws.{across_by, joined_step}
use Rattle.table_definitions.proofs.Listed.{contains_among, among_contains, Among-filter, filter-among, Among-flat_map, flat_map-among, map-among, below-among, Among-others, faces-among}
use Rattle.table_definitions.proofs.PermutationLaws.{image_below, images_apart}
use Rattle.table_definitions.proofs.TableLaws.{Among, Among-map, Among-below, Among-faces}
use Rattle.skeleton_definitions.specs.Links.{is_first_side}
use Rattle.surface_definitions.specs.Characteristic.{arcs_in, arcs}
use Rattle.surface_definitions.specs.declared.Coords.{Coords}
use Rattle.surface_definitions.specs.Pieces.{Arc, arcs_around, arc_across, Meets}
use Rattle.surface_laws.specs.PieceLaws.{IsSurface, face_of_arc}
use Rattle.surface_laws.proofs.Counting.{sum_by_same}
use Rattle.surface_laws.proofs.Glued.{IsGlued, glued_is}
use Rattle.surface_laws.proofs.Matched.{before_or_after}
use Rattle.surface_laws.proofs.MeetingArcs.{arc_at, meets_back}
use Rattle.surface_laws.proofs.Solved.{other_is}
use Rattle.skeleton_class_laws.specs.Crossings.{pair}
use Rattle.surface_euler_laws.proofs.Four.{Four}

module _ (rows : List Row) (coords : Coords) (xs : List ℕ) (s : IsSurface rows coords xs) where
  -- an arc of the surface
  pub record IsArc (a : Arc) : Type 0 where
    pub in_range : a.tet < length rows
    pub face : a.face < 4
    pub is_vertex : a.vertex < 4
    pub off : a.vertex ≢ a.face
    pub there : a.place < arcs_around coords xs a.tet a.face a.vertex

  pub meets_is : (a : Arc) (g : Gluing) → Meets rows coords xs a g → IsArc a
  meets_is a g m = record { in_range = m.in_range; face = (glued_is rows (face_of_arc a) g s.table m.glued).face; is_vertex = m.is_vertex; off = m.off_vertex; there = m.there }

  pub is_meeting : (a : Arc) (g : Gluing) → IsArc a → glue rows (face_of_arc a) ≡ Some g → Meets rows coords xs a g
  is_meeting a g h e = record { in_range = h.in_range; is_vertex = h.is_vertex; off_vertex = h.off; there = h.there; glued = e }

  pub across_is_arc : (a : Arc) (g : Gluing) → IsArc a → glue rows (face_of_arc a) ≡ Some g → IsArc (arc_across g a)
  across_is_arc a g h e =
      let m = (meets_back rows coords xs s a g (is_meeting a g h e)).meets in
      meets_is (arc_across g a) (inverse_gluing (face_of_arc a) g) m

  pub across_back : (a : Arc) (g : Gluing) → IsArc a → glue rows (face_of_arc a) ≡ Some g → arc_across (inverse_gluing (face_of_arc a) g) (arc_across g a) ≡ a
  across_back a g h e = (meets_back rows coords xs s a g (is_meeting a g h e)).same

  pub glued_back : (a : Arc) (g : Gluing) → IsArc a → glue rows (face_of_arc a) ≡ Some g → glue rows (face_of_arc (arc_across g a)) ≡ Some (inverse_gluing (face_of_arc a) g)
  glued_back a g h e = (glued_is rows (face_of_arc a) g s.table e).back

  -- four vertices, and an edge, across a gluing
  pub four_across : (x : Face) (g : Gluing) (v f u w : ℕ) → glue rows x ≡ Some g → Four v f u w → Four (image g.perm v) (image g.perm f) (image g.perm u) (image g.perm w)
  four_across x g v f u w e a =
      let p = (glued_is rows x g s.table e).permutes in
      record {
        lv = image_below g.perm v p a.lv;
        lu = image_below g.perm f p a.lu;
        lf = image_below g.perm u p a.lf;
        lw = image_below g.perm w p a.lw;
        vu = images_apart g.perm v f p a.lv a.lu a.vu;
        vf = images_apart g.perm v u p a.lv a.lf a.vf;
        vw = images_apart g.perm v w p a.lv a.lw a.vw;
        uf = images_apart g.perm f u p a.lu a.lf a.uf;
        uw = images_apart g.perm f w p a.lu a.lw a.uw;
        fw = images_apart g.perm u w p a.lf a.lw a.fw;
      }

  pub edge_across : (t f : ℕ) (g : Gluing) (v u : ℕ) → glue rows (record { tet = t; face = f }) ≡ Some g → v ≢ f → u ≢ f → IsJoined rows (pair t v u) (pair g.tet (image g.perm v) (image g.perm u))
  edge_across t f g v u e nv nu =
      joined_step rows (pair t v u) f (pair g.tet (image g.perm v) (image g.perm u))
      (across_by rows (pair t v u) f g e (or_from (v == f) ((u == f) || false) (ne_eqb v f nv) (or_from (u == f) false (ne_eqb u f nu) refl)))

  abbrev round : Face → ℕ → List Arc
  round x v = map (arc_at x.tet x.face v) (below (arcs_around coords xs x.tet x.face v))

  abbrev of_face : Face → List Arc
  of_face x = flat_map (round x) (others x.face)

  abbrev is_first : Face → Bool
  is_first x = is_first_side x (glue rows x)

  pub arc_list : List Arc
  arc_list = flat_map of_face (filter is_first (faces (length rows)))

  pub length-arc_list : length arc_list ≡ arcs rows coords xs
  unfolding arc_list
  length-arc_list =
      length-flat_map of_face (filter is_first (faces (length rows)))
      ∙ sum_by_same (λ x. length (of_face x)) (arcs_in coords xs) (filter is_first (faces (length rows))) (λ x a. length-flat_map (round x) (others x.face)
      ∙ sum_by_same (λ v. length (round x v)) (arcs_around coords xs x.tet x.face) (others x.face) (λ v b. length-map (below (arcs_around coords xs x.tet x.face v)) (arc_at x.tet x.face v) ∙ length-range_with_len 0 (arcs_around coords xs x.tet x.face v)))

  among_arcs : (a : Arc) → IsArc a → is_first (face_of_arc a) ≡ true → Among a arc_list
  unfolding arc_list
  among_arcs a h first =
      Among-flat_map of_face (face_of_arc a) a (filter is_first (faces (length rows)))
      (Among-filter is_first (face_of_arc a) (faces (length rows)) (Among-faces (face_of_arc a) (length rows) h.in_range h.face) first)
      (Among-flat_map (round (face_of_arc a)) a.vertex a (others a.face) (Among-others a.face a.vertex h.is_vertex h.off)
      (Among-map (arc_at a.tet a.face a.vertex) a.place (below (arcs_around coords xs a.tet a.face a.vertex)) (Among-below a.place (arcs_around coords xs a.tet a.face a.vertex) h.there)))

  arcs_among : (a : Arc) → Among a arc_list → IsArc a
  unfolding arc_list
  arcs_among a m =
      let x = flat_map-among of_face a (filter is_first (faces (length rows))) m in
      let f = faces-among x.0 (length rows) (filter-among is_first x.0 (faces (length rows)) x.1).0 in
      let v = flat_map-among (round x.0) a (others (x.0).face) x.2 in
      let o = other_is (x.0).face v.0 v.1 in
      let j = map-among (arc_at (x.0).tet (x.0).face v.0) a (below (arcs_around coords xs (x.0).tet (x.0).face v.0)) v.2 in
      let l = below-among j.0 (arcs_around coords xs (x.0).tet (x.0).face v.0) j.1 in
      moved (arc_at (x.0).tet (x.0).face v.0 j.0) a j.2 (record { in_range = f.0; face = f.1; is_vertex = o.0; off = o.1; there = l })
    where
      moved : (b a : Arc) → a ≡ b → IsArc b → IsArc a
      moved b a e h = subst IsArc (sym e) h

  pub arc_of : ℕ → Arc
  arc_of a = slice_index_or arc_list a (arc_at 0 0 0 0)

  pub arc_of_is : (a : ℕ) → a < length arc_list → IsArc (arc_of a)
  unfolding arc_of
  arc_of_is a l = arcs_among (slice_index_or arc_list a (arc_at 0 0 0 0)) (among_contains (slice_index_or arc_list a (arc_at 0 0 0 0)) arc_list (Contains-get_or arc_list a (arc_at 0 0 0 0) l))

  -- each arc has a number, or the one that it meets has it
  pub record HasNumber (b : Arc) : Type 0 where
    pub a : ℕ
    pub inside : a < length arc_list
    pub is : (arc_of a ≡ b) ⊎ ((g : Gluing) × (glue rows (face_of_arc b) ≡ Some g) × (arc_of a ≡ arc_across g b))

  listed : (b : Arc) → Among b arc_list → (a : ℕ) × (a < length arc_list) × (arc_of a ≡ b)
  unfolding arc_of
  listed b m = let c = contains_among b arc_list m in (c.0, c.1, get_or_default arc_list c.0 (arc_at 0 0 0 0) b c.1 ∙ c.2)

  pub number_of : (b : Arc) → IsArc b → HasNumber b
  number_of b h = by_test (cases_Bool (is_first (face_of_arc b))) (glue rows (face_of_arc b)) refl
    where
      by_test : (is_first (face_of_arc b) ≡ true) ⊎ (is_first (face_of_arc b) ≡ false) → (o : Option Gluing) → glue rows (face_of_arc b) ≡ o → HasNumber b
      by_test (inl e) o q = let m = listed b (among_arcs b h e) in record { a = m.0; inside = m.1; is = inl m.2 }
      by_test (inr e) None q = absurd (let both : true ≡ false = sym (ap (is_first_side (face_of_arc b)) q) ∙ e in cc)
      by_test (inr e) (Some g) q =
          let x : Face = face_of_arc b in
          let y : Face = other_side x g in
          let i : IsGlued rows (face_of_arc b) g = glued_is rows (face_of_arc b) g s.table q in
          let later : is_face_before (face_of_arc b) (other_side (face_of_arc b) g) ≡ false = sym (ap (is_first_side (face_of_arc b)) q) ∙ e in
          elim (before_or_after x y ((s.table).separate x g q)) [
            | inl t ↦ absurd (let both : true ≡ false = sym t ∙ later in cc)
            | inr t ↦ (let first : is_first (face_of_arc (arc_across g b)) ≡ true = ap (is_first_side y) i.back ∙ ap (is_face_before y) i.returns ∙ t in
                let m = listed (arc_across g b) (among_arcs (arc_across g b) (across_is_arc b g h q) first) in
                record { a = m.0; inside = m.1; is = inr (g, q, m.2) })
          ]
