-- The vertices of the link of the core of a 4-1 move, and its sides: it is a sphere by its numbers.
use Rattle.std.proofs.Common.{◌≡◌, ◌≢◌, ℕ, ◌+◌, ◌*◌, ◌/◌, ◌%◌, ◌<◌, ◌≤◌, Bool, true, List, [], ◌∷◌, length, Some, None, inl, inr, refl, sym, ap, ◌∙◌, subst, arith}
use Rattle.std.specs.Prelude.{◌||◌, slice_index, count_by}
use Rattle.std.proofs.lemmas.Bool.{cases_eq, eq-eqb, ne_eqb}
use Rattle.table_definitions.specs.Lists.{has, below, times_in}
use Rattle.table_definitions.specs.Permutation.{image}
use Rattle.table_definitions.specs.Table.{Row, glue, IsTable}
use Rattle.table_definitions.specs.Classes.{IsNumbering}
use Rattle.table_definitions.specs.Places.{Place, vertex, SameVertex}
use Rattle.table_definitions.proofs.Faces.{face_at}
use Rattle.table_definitions.proofs.TableLaws.{Among}
use Rattle.skeleton_definitions.specs.Links.{directed, SameDirected, link_vertices, link_edges, is_closed_link}
use Rattle.move_definitions.specs.Moves.{Move, Facet, IsMoved, opposite, vertex_of}
use Rattle.move_laws.proofs.Labels.{HasLabel, label_at, HasVertex}
use Rattle.move_laws.proofs.Labels as Labels
use Rattle.move_laws.proofs.Matched.{AreGlued, old_glued}
use Rattle.skeleton_laws.proofs.Matchings.{related_same, length-passing, passing_apart, passing}
use Rattle.move_link_laws.proofs.Labelled.{in_facet, Below5, head_off}
use Rattle.skeleton_laws.proofs.Sides.{side_face, is_side, free_side}
use Rattle.skeleton_laws.proofs.SideParts.{IsSideAt, side_is}
use Rattle.skeleton_laws.proofs.Halves.{free_is, frees}
use Rattle.skeleton_laws.proofs.TwiceEdges.{closed_told, twice_edges, free_count}
use Rattle.move_link_laws.proofs.Ties.{fine, IsOld}
use Rattle.move_link_laws.proofs.TiesOnce.{same_old_place}
use Rattle.move_link_laws.proofs.Buried.{IsFree, free_of_two, Buried, tied_or_buried}
use Rattle.move_link_laws.proofs.BuriedChains.{buried_along, buried_joined, buried_once}
use Rattle.skeleton_laws.proofs.Spots.{IsSpot, vertex_spot, vertex_number_again, class_of}
use Rattle.move_link_laws.proofs.TiedSpots.{tie_not_buried}
use Rattle.move_link_laws.proofs.StarLabels.{off_one}
use Rattle.skeleton_laws.proofs.Arrows.{IsArrow, arrow_place, directed_arrow, tail_of}
use Rattle.move_link_laws.proofs.TiedArrows.{tie_tails}
use Rattle.skeleton_laws.proofs.LinkCorners.{tail_spot, is_corner_number, corner_is, same_corner, length-corners, corners, found}
use Rattle.move_link_laws.proofs.InsidePairs.{two_under}
use Rattle.move_link_laws.proofs.Lone.{nonzero, others, four_others, other_is, is_other, in_class, of_class, at_label, zero_off, zero_in, buried_at, spot_of, four_triangles}

-- if no number passes, the count is 0
pub none_passing : (p : ℕ → Bool) (n : ℕ) → ((i : ℕ) → Among i (passing p n) → ⊥) → count_by p (below n) ≡ 0
none_passing p n none = sym (length-passing p n) ∙ empty (passing p n) none
  where
    empty : (xs : List ℕ) → ((i : ℕ) → Among i xs → ⊥) → length xs ≡ 0
    empty [] h = refl
    empty (x ∷ xs) h = absurd (h x (inl refl))

module _ (old : List Row) (m : Move) (new : List Row) (table : IsTable old) (h : IsMoved old m new) where
  abbrev Old : ℕ → Facet → Type 0
  Old i f = IsOld old m new table h i f

  abbrev In : List ℕ → Place → Type 0
  In ls p = Buried old m new table h ls p

  module _ (vs : List ℕ) (n : ℕ) (numbered : IsNumbering (4 * length old) (SameVertex old) vs n) (p0 : Place) (spot0 : IsSpot (length old) p0) (b0 : In (0 ∷ []) p0) (one : length m.core ≡ 1) where
    -- a vertex of the link for each other label
    module _ (ds : List ℕ) (d : ℕ) (arrows : IsNumbering (12 * length old) (SameDirected old) ds d) where
      abbrev Corner : ℕ → ℕ → Type 0
      Corner i k = In (0 ∷ k ∷ []) (directed i)

      abbrev all_corners : List ℕ
      all_corners = corners old vs n numbered (class_of vs p0) ds d arrows

      corner_labels : (i : ℕ) → i < 12 * length old → class_of vs (tail_of (directed i)) ≡ class_of vs p0 → (k : ℕ) × (1 ≤ k) × (k < 5) × In (0 ∷ k ∷ []) (directed i)
      corner_labels i l e = elim (tied_or_buried old m new table h (directed i) ar.below (arrow_place (length old) (directed i) ar) (subst (λ (r : Place). IsFree r.vertices) (sym ar.is) (free_of_two ar.v ar.w))) [
        | inl t ↦ absurd (tie_not_buried old m new table h (0 ∷ []) (tail_of (directed i)) (tail_of t.0) (tie_tails old m new table h (directed i) t.0 ar t.1) tail_in)
        | inr t ↦ go t.0 t.1
      ]
        where
          ar : IsArrow (length old) (directed i)
          ar = directed_arrow (length old) i l

          tail_in : In (0 ∷ []) (tail_of (directed i))
          tail_in = of_class old m new table h vs n numbered p0 spot0 b0 one (tail_of (directed i)) (tail_spot (length old) (directed i) ar) e

          go : (ls : List ℕ) → In ls (directed i) → (k : ℕ) × (1 ≤ k) × (k < 5) × In (0 ∷ k ∷ []) (directed i)
          go ls z =
              let w = two_under (vertex_of z.f) ls ar.v ar.w (ap (λ (r : Place). r.vertices) (sym ar.is ∙ z.from)) in
              let small = subst Below5 w.2 z.small in
              let off : w.0 ≢ z.i = head_off w.0 (w.1 ∷ []) z.i (ap (λ (ks : List ℕ). has ks z.i) (sym w.2) ∙ z.off) in
              let tail : tail_of (directed i) ≡ in_facet z.f (w.0 ∷ []) = ap tail_of ar.is ∙ (λ j. record { tet = (z.from j).tet; vertices = sym w.3 j ∷ [] }) in
              let same = (same_old_place old m new table h z.i tail_in.i z.f tail_in.f (w.0 ∷ []) (0 ∷ []) z.old_is tail_in.old_is (small.0, tt) (omega arith, tt) (off_one w.0 z.i off) tail_in.off (sym tail ∙ tail_in.from)).2 in
              let first : w.0 ≡ 0 = cc in
              let ne : w.0 ≢ w.1 = (λ q. ar.separate (sym w.3 ∙ ap (vertex_of z.f) q ∙ w.4)) in
              let high : w.1 < 5 = small.1.0 in
              (w.1, (let g : w.1 ≢ 0 = (λ q. ne (first ∙ sym q)) in omega arith), high, subst (λ (ks : List ℕ). In ks (directed i)) (w.2 ∙ ap (λ a. a ∷ w.1 ∷ []) first) z)

      four_corners : link_vertices vs ds (class_of vs p0) ≡ 4
      four_corners =
          sym (length-corners old vs n numbered (class_of vs p0) ds d arrows)
          ∙ related_same Corner all_corners others (passing_apart (is_corner_number old vs n numbered (class_of vs p0) ds d arrows) (12 * length old)) (passing_apart nonzero 5) forth back once once'
          ∙ four_others
        where
          forth : (i : ℕ) → Among i all_corners → (k : ℕ) × Among k others × Corner i k
          forth i a =
              let q = corner_is old vs n numbered (class_of vs p0) ds d arrows i a in
              let z = corner_labels i q.below q.here in
              (z.0, is_other z.0 z.1 z.2, z.3)

          from : (k i : ℕ) → 1 ≤ k → k < 5 → 1 ≤ i → i < 5 → k ≢ i → (j : ℕ) × Among j all_corners × Corner j k
          from k i low high low' high' ne =
              let f = at_label old m new table h vs n numbered p0 spot0 b0 one i low' high' in
              let p : Place = in_facet f.0 (0 ∷ k ∷ []) in
              let va : HasVertex f.0.labels 0 = Labels.vertex_at i f.0.labels f.1.is.labels 0 (omega arith) (zero_off old m new table h vs n numbered p0 spot0 b0 one i low') in
              let vb : HasVertex f.0.labels k = Labels.vertex_at i f.0.labels f.1.is.labels k high ne in
              let ar : IsArrow (length old) (in_facet f.0 (0 ∷ k ∷ [])) = record {
                v = vertex_of f.0 0;
                w = vertex_of f.0 k;
                is = refl;
                below = f.1.is.in_range;
                low_v = va.small;
                low_w = vb.small;
                separate = λ e. (let q : 0 ≡ k = sym va.label ∙ ap (image f.0.labels) e ∙ vb.label in zero_off old m new table h vs n numbered p0 spot0 b0 one k low q);
              } in
              let b : In (0 ∷ k ∷ []) (in_facet f.0 (0 ∷ k ∷ [])) = record {
                i = i;
                f = f.0;
                old_is = f.1;
                small = (omega arith, (high, tt));
                off = (λ z. ne_eqb 0 i (zero_off old m new table h vs n numbered p0 spot0 b0 one i low') z || off_one k i ne z);
                all = zero_in old m new table h vs n numbered p0 spot0 b0 one (k ∷ []);
                from = refl;
              } in
              let g = found old vs n numbered (class_of vs p0) ds d arrows p ar (in_class old m new table h vs n numbered p0 spot0 b0 one (in_facet f.0 (0 ∷ [])) (spot_of old m new table h vs n numbered p0 spot0 b0 one i f.0 low' f.1) (buried_at old m new table h vs n numbered p0 spot0 b0 one i f.0 low' f.1)) in
              (g.i, g.among, buried_along old m new table h (0 ∷ k ∷ []) p (directed g.i) b g.joined)

          back : (k : ℕ) → Among k others → (i : ℕ) × Among i all_corners × Corner i k
          back k a = let r = other_is k a in elim (cases_eq k 1) [
            | inl e ↦ from k 2 r.0 r.1 (omega arith) (omega arith) (λ q. absurd (omega arith))
            | inr ne ↦ from k 1 r.0 r.1 (omega arith) (omega arith) ne
          ]

          once : (i j k : ℕ) → Among i all_corners → Among j all_corners → Corner i k → Corner j k → i ≡ j
          once i j k a b r s = same_corner old vs n numbered (class_of vs p0) ds d arrows i j (corner_is old vs n numbered (class_of vs p0) ds d arrows i a) (corner_is old vs n numbered (class_of vs p0) ds d arrows j b)
              (buried_joined old m new table h (0 ∷ k ∷ []) (directed i) (directed j) r s)

          once' : (i k l : ℕ) → Among k others → Among l others → Corner i k → Corner i l → k ≡ l
          once' i k l a b r s = let e = buried_once old m new table h (0 ∷ k ∷ []) (0 ∷ l ∷ []) (directed i) r s in cc

      -- no side lies in a boundary face
      none_free : free_count old table vs n numbered (class_of vs p0) ≡ 0
      none_free = none_passing (free_side old vs (class_of vs p0)) (4 * (4 * length old)) never
        where
          never : (k : ℕ) → Among k (frees old table vs n numbered (class_of vs p0)) → ⊥
          never k a = let z : None ≡ Some glued.by = sym f.2 ∙ ap (glue old) (sym face) ∙ glued.glued in cc
            where
              f : (k < 4 * (4 * length old)) × (is_side vs (class_of vs p0) k ≡ true) × (glue old (side_face k) ≡ None)
              f = free_is old table vs n numbered (class_of vs p0) k a

              side : IsSideAt vs (class_of vs p0) k
              side = side_is vs (class_of vs p0) k f.1

              s : IsSpot (length old) (vertex (k / 4))
              s = vertex_spot (length old) (k / 4) (let l = f.0 in omega arith)

              b : In (0 ∷ []) (vertex (k / 4))
              b = of_class old m new table h vs n numbered p0 spot0 b0 one (vertex (k / 4)) s (ap (slice_index vs) (vertex_number_again (k / 4)) ∙ side.at)

              lf : k % 4 < 4
              lf = omega arith

              label : HasLabel b.i b.f.labels (k % 4)
              label = label_at b.i b.f.labels b.old_is.is.labels (k % 4) lf

              v_is : k / 4 % 4 ≡ vertex_of b.f 0
              v_is = let e : k / 4 % 4 ∷ [] ≡ vertex_of b.f 0 ∷ [] = ap (λ (r : Place). r.vertices) b.from in cc

              low : 1 ≤ image b.f.labels (k % 4)
              low =
                  let ne : image b.f.labels (k % 4) ≢ 0 = (λ e. side.off (v_is ∙ ap (vertex_of b.f) (sym e) ∙ label.vertex)) in
                  omega arith

              g : (g : Facet) × Old (image b.f.labels (k % 4)) g
              g = at_label old m new table h vs n numbered p0 spot0 b0 one (image b.f.labels (k % 4)) low label.small

              glued : AreGlued old b.i (image b.f.labels (k % 4)) b.f g.0
              glued = old_glued old m b.i (image b.f.labels (k % 4)) b.f g.0 table (fine old m new table h) h.core b.old_is.low b.old_is.high g.1.low g.1.high (λ e. label.present (sym e)) b.old_is.found g.1.found

              face : opposite b.f (image b.f.labels (k % 4)) ≡ side_face k
              face = λ i. face_at ((sym b.from i).tet) (label.vertex i)

      pub lone_sphere : (is_closed_link old vs (class_of vs p0) ≡ true) × (link_vertices vs ds (class_of vs p0) + times_in vs (class_of vs p0) ≡ link_edges old vs (class_of vs p0) + 2)
      lone_sphere = (
        closed_told old table vs n numbered (class_of vs p0) ∙ eq-eqb (free_count old table vs n numbered (class_of vs p0)) 0 none_free,
        (let e : 2 * link_edges old vs (class_of vs p0) ≡ 3 * times_in vs (class_of vs p0) + free_count old table vs n numbered (class_of vs p0) = twice_edges old table vs n numbered (class_of vs p0) in
            let f = none_free in let v = four_corners in let t = four_triangles old m new table h vs n numbered p0 spot0 b0 one in omega arith),
      )
