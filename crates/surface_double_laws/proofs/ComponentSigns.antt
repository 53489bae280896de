-- Signs of the pieces of an orientable component are signs of the pieces of its vector.
use Rattle.std.proofs.Common.{◌≡◌, ℕ, ◌+◌, ◌-◌, ◌<◌, ◌≤◌, Bool, true, false, not, cond, List, length, ◌⊎◌, inl, inr, refl, sym, ap, ◌∙◌, arith}
use Rattle.std.specs.Prelude.{◌==◌, ◌||◌, slice_index, sum_by, if◌then◌else◌}
use Rattle.std.specs.List.{slice_index_or}
use Rattle.std.proofs.lemmas.Bool.{cases_lt, lt-ltb, le-ltb}
use Rattle.basic_lemmas.proofs.Truths.{one_if}
use Rattle.table_definitions.specs.Lists.{below}
use Rattle.table_definitions.specs.Permutation.{image, is_odd}
use Rattle.table_definitions.specs.Table.{Gluing, inverse_gluing}
use Rattle.table_definitions.proofs.Listed.{below-among}
use Rattle.table_definitions.proofs.PermutationLaws.{image_below, images_apart}
use Rattle.skeleton_definitions.specs.Skeleton.{Skeleton}
use Rattle.surface_definitions.specs.Coordinates.{tri_column, quad_column, keeping, octagon_arcs}
use Rattle.surface_definitions.specs.declared.Coords.{Coords}
use Rattle.surface_definitions.specs.Pieces.{NormalDisc, discs_of, disc_number, Arc, arcs_around, arc_across, disc_of, type_in, keeps_by_zero, looks_positive, keeps_sides, Meets, AreComponents, component_vector}
use Rattle.surface_laws.specs.PieceLaws.{IsSurface, face_of_arc, first_nonzero}
use Rattle.surface_laws.proofs.ArcPieces.{arcs_are, triangle_piece, component_arcs}
use Rattle.surface_laws.proofs.ComponentCounts.{belongs}
use Rattle.surface_laws.proofs.ComponentSurfaces.{piece_there, one_component}
use Rattle.surface_laws.proofs.Counting.{sum_by_same, below_sum}
use Rattle.surface_laws.proofs.Glued.{IsGlued, glued_is}
use Rattle.surface_laws.proofs.MeetingArcs.{arc_at, meets_back}
use Rattle.surface_laws.proofs.PieceNumbers.{piece_at, no_piece, IsFound, piece_found, listed_piece}
use Rattle.surface_euler_laws.proofs.ComponentsConnected.{own, inside, entry, of_triangles, moved, in_range, IsMoved, moved_from, of_component}
use Rattle.surface_euler_laws.proofs.Ranks.{first_part, select, first_same}
use Rattle.surface_double_laws.proofs.Darts.{AreOriented}

one_or_none : (b : Bool) → (one_if b ≡ 0) ⊎ (one_if b ≡ 1)
one_or_none true = inr refl
one_or_none false = inl refl

-- the signs of a component
abbrev pub HasOrientedSigns : Skeleton → Coords → List ℕ → List ℕ → ℕ → (ℕ → Bool) → Type 0
HasOrientedSigns s coords xs components i sign =
    (a : Arc) (g : Gluing) → Meets s.rows coords xs a g → slice_index components (disc_number xs (disc_of coords xs a)) ≡ i
    → sign (disc_number xs (disc_of coords xs (arc_across g a)))
    ≡ (if (if is_odd g.perm then keeps_sides coords xs a g else not (keeps_sides coords xs a g)) then sign (disc_number xs (disc_of coords xs a)) else not (sign (disc_number xs (disc_of coords xs a))))

module _ (s : Skeleton) (coords : Coords) (xs components : List ℕ) (count : ℕ) (numbered : AreComponents s.rows coords xs components count) (w : IsSurface s.rows coords xs) (i : ℕ) where
  abbrev ys : List ℕ
  ys = component_vector xs components i

  abbrev n : ℕ
  n = length s.rows

  abbrev bel : NormalDisc → ℕ
  bel p = belongs xs components i p

  -- how many pieces of the component are before a piece in its column
  abbrev number_in : ℕ → ℕ → ℕ
  number_in c j = sum_by (λ a. bel (piece_at c a)) (below j)

  abbrev moved_to : NormalDisc → NormalDisc
  moved_to p = piece_at p.column (number_in p.column p.number)

  abbrev rank : ℕ → ℕ → ℕ → ℕ → ℕ
  rank t f v j = sum_by (λ a. bel (disc_of coords xs (arc_at t f v a))) (below j)

  surface : IsSurface s.rows coords ys
  surface = own s coords xs components count numbered w i

  same_number : (c a b : ℕ) → bel (piece_at c a) ≡ 1 → bel (piece_at c b) ≡ 1 → number_in c a ≡ number_in c b → a ≡ b
  same_number c a b x y e = elim (cases_lt a b) [
    | inl l ↦ absurd (let m = first_part (λ z. bel (piece_at c z)) a b l in omega arith)
    | inr h ↦ elim (cases_lt b a) [
      | inl l ↦ absurd (let m = first_part (λ z. bel (piece_at c z)) b a l in omega arith)
      | inr g ↦ omega arith
    ]
  ]

  -- two pieces of the component that are one piece of its vector are one piece
  one_moved : (p q : NormalDisc) → bel p ≡ 1 → bel q ≡ 1 → moved_to p ≡ moved_to q → p ≡ q
  one_moved p q x y e =
      let column : p.column ≡ q.column = ap (λ (z : NormalDisc). z.column) e in
      let number : p.number ≡ q.number = same_number q.column p.number q.number (sym (λ k. bel (piece_at (column k) p.number)) ∙ x) y (sym (λ k. number_in (column k) p.number) ∙ ap (λ (z : NormalDisc). z.number) e) in
      λ k. piece_at (column k) (number k)

  module _ (sign : ℕ → Bool) where
    sign_if : (x : ℕ) → (x < length (discs_of ys)) ⊎ (length (discs_of ys) ≤ x) → Bool
    sign_if x (inl l) = sign (disc_number xs (moved_from s coords xs components count numbered w i (slice_index_or (discs_of ys) x no_piece) (listed_piece ys x no_piece l)).from)
    sign_if x (inr h) = false

    -- the sign of a piece of the component's vector
    pub own_sign : ℕ → Bool
    own_sign x = sign_if x (cases_lt x (length (discs_of ys)))

    own_sign_is : (x : ℕ) (q : NormalDisc) → x < length (discs_of ys) → bel q ≡ 1 → moved_to q ≡ slice_index_or (discs_of ys) x no_piece → own_sign x ≡ sign (disc_number xs q)
    unfolding own_sign sign_if
    own_sign_is x q low one e = go (cases_lt x (length (discs_of ys)))
      where
        go : (c : (x < length (discs_of ys)) ⊎ (length (discs_of ys) ≤ x)) → sign_if x c ≡ sign (disc_number xs q)
        go (inl l) =
            let m : IsMoved s coords xs components count numbered w i (slice_index_or (discs_of ys) x no_piece) = moved_from s coords xs components count numbered w i (slice_index_or (discs_of ys) x no_piece) (listed_piece ys x no_piece l) in
            ap (λ p. sign (disc_number xs p)) (one_moved m.from q m.mine one (m.is ∙ sym e))
        go (inr h) = absurd (omega arith)

  module _ (t f v : ℕ) (lt : t < n) (lf : f < 4) (lv : v < 4) (off : v ≡ f → ⊥) where
    abbrev tris : List ℕ → ℕ
    tris zs = slice_index zs (tri_column coords t v)

    abbrev col : List ℕ → ℕ
    col zs = first_nonzero zs (octagon_arcs coords t f v) (quad_column coords t (keeping v f))

    abbrev either : List ℕ → Bool → Bool
    either zs b = b || keeps_by_zero (type_in coords (col zs)) v

    -- the piece of an arc looks at the vertex as it does in the component's vector
    side_moved : (k : ℕ) → k < arcs_around coords xs t f v → bel (disc_of coords xs (arc_at t f v k)) ≡ 1 → looks_positive coords ys (arc_at t f v (rank t f v k)) ≡ looks_positive coords xs (arc_at t f v k)
    side_moved k l one = elim (cases_lt k (tris xs)) [
      | inl low ↦ (let there : bel (piece_at (tri_column coords t v) k) ≡ 1 = by_triangle k low one in
          let part = first_part (λ a. bel (piece_at (tri_column coords t v) a)) k (tris xs) low in
          let e = entry s coords xs components count numbered w i (tri_column coords t v) in
          let of = of_triangles s coords xs components count numbered w i t f v lt lf lv off k (omega arith) in
          let lr : rank t f v k < tris ys = omega arith in
          ap (either ys) (lt-ltb (rank t f v k) (tris ys) lr) ∙ sym (ap (either xs) (lt-ltb k (tris xs) low)))
      | inr high ↦ (let e = entry s coords xs components count numbered w i (tri_column coords t v) in
          let of : rank t f v (tris xs) ≡ sum_by (λ a. bel (piece_at (tri_column coords t v) a)) (below (tris xs)) = of_triangles s coords xs components count numbered w i t f v lt lf lv off (tris xs) (omega arith) in
          let split : rank t f v (tris xs + (k - tris xs)) ≡ rank t f v (tris xs) + sum_by (λ a. bel (disc_of coords xs (arc_at t f v (tris xs + a)))) (below (k - tris xs)) = below_sum (λ a. bel (disc_of coords xs (arc_at t f v a))) (tris xs) (k - tris xs) in
          let again : tris xs + (k - tris xs) ≡ k = omega arith in
          let same_rank : rank t f v (tris xs + (k - tris xs)) ≡ rank t f v k = ap (rank t f v) again in
          let more : tris ys ≤ rank t f v k = omega arith in
          let inside_ys = in_range s coords xs components count numbered w i t f v lt lf lv off k l one in
          let all : arcs_around coords ys t f v ≡ slice_index ys (tri_column coords t v) + slice_index ys (col xs) = arcs_are coords n xs w.triangles w.admissible t f v lt lf lv off ys (inside s coords xs components count numbered w i) in
          let same : col ys ≡ col xs = first_same xs ys (inside s coords xs components count numbered w i) (octagon_arcs coords t f v) (quad_column coords t (keeping v f)) (omega arith) in
          ap (either ys) (le-ltb (rank t f v k) (tris ys) more) ∙ ap (λ c. keeps_by_zero (type_in coords c) v) same ∙ sym (ap (either xs) (le-ltb k (tris xs) high)))
    ]
      where
        by_triangle : (k : ℕ) → k < tris xs → bel (disc_of coords xs (arc_at t f v k)) ≡ 1 → bel (piece_at (tri_column coords t v) k) ≡ 1
        by_triangle k low one = ap bel (sym (triangle_piece coords n xs w.triangles w.admissible t f v lt lf lv off k low)) ∙ one

    -- each arc of the component's vector is one of the component's
    pub arc_from : (p : ℕ) → p < arcs_around coords ys t f v → (k : ℕ) × (k < arcs_around coords xs t f v) × (bel (disc_of coords xs (arc_at t f v k)) ≡ 1) × (rank t f v k ≡ p)
    arc_from p l =
        let all = component_arcs coords n xs w.triangles w.admissible t f v lt lf lv off components numbered.one_each i in
        select (λ a. bel (disc_of coords xs (arc_at t f v a))) (λ a. one_or_none (slice_index components (disc_number xs (disc_of coords xs (arc_at t f v a))) == i)) (arcs_around coords xs t f v) p (omega arith)

  abbrev turned_by : Bool → Bool → Bool → Bool
  turned_by o c x = if (if o then c else not c) then x else not x

  pub own_signs : (sign : ℕ → Bool) → HasOrientedSigns s coords xs components i sign → AreOriented s.rows coords ys (own_sign sign)
  own_signs sign signs a g m =
      let x : IsGlued s.rows (face_of_arc a) g = glued_is s.rows (face_of_arc a) g w.table m.glued in
      let f : ℕ = image g.perm a.face in
      let v : ℕ = image g.perm a.vertex in
      let lv : image g.perm a.vertex < 4 = image_below g.perm a.vertex x.permutes m.is_vertex in
      let off : image g.perm a.vertex ≡ image g.perm a.face → ⊥ = images_apart g.perm a.vertex a.face x.permutes m.is_vertex x.face m.off_vertex in
      let k = arc_from a.tet a.face a.vertex m.in_range x.face m.is_vertex m.off_vertex a.place m.there in
      let b : Arc = arc_at a.tet a.face a.vertex k.0 in
      let meets : Meets s.rows coords xs b g = record { in_range = m.in_range; is_vertex = m.is_vertex; off_vertex = m.off_vertex; there = k.1; glued = m.glued } in
      let back = meets_back s.rows coords xs w b g meets in
      let across : bel (disc_of coords xs (arc_across g b)) ≡ 1 = sym (ap (λ c. cond (c == i) 1 0) (one_component s.rows coords xs w components count numbered b g meets)) ∙ k.2 in
      let ranks : rank a.tet a.face a.vertex k.0 ≡ rank g.tet f v k.0 =
      sum_by_same (λ z. bel (disc_of coords xs (arc_at a.tet a.face a.vertex z))) (λ z. bel (disc_of coords xs (arc_at g.tet f v z))) (below k.0)
      (λ z h. let lz : z < k.0 = below-among z k.0 h in
      let up : k.0 < arcs_around coords xs a.tet a.face a.vertex = k.1 in
      ap (λ c. cond (c == i) 1 0) (one_component s.rows coords xs w components count numbered (arc_at a.tet a.face a.vertex z) g (record { in_range = m.in_range; is_vertex = m.is_vertex; off_vertex = m.off_vertex; there = omega arith; glued = m.glued }))) in
      let place : a.place ≡ rank g.tet f v k.0 = sym k.3 ∙ ranks in
      let here : disc_of coords ys a ≡ moved_to (disc_of coords xs b) =
      ap (λ z. disc_of coords ys (arc_at a.tet a.face a.vertex z)) (sym k.3) ∙ moved s coords xs components count numbered w i a.tet a.face a.vertex m.in_range x.face m.is_vertex m.off_vertex k.0 k.1 k.2 in
      let there : disc_of coords ys (arc_across g a) ≡ moved_to (disc_of coords xs (arc_across g b)) =
      ap (λ z. disc_of coords ys (arc_at g.tet f v z)) place ∙ moved s coords xs components count numbered w i g.tet f v x.other_tet x.other_face lv off k.0 (back.meets).there across in
      let side_here : looks_positive coords ys a ≡ looks_positive coords xs b =
      ap (λ z. looks_positive coords ys (arc_at a.tet a.face a.vertex z)) (sym k.3) ∙ side_moved a.tet a.face a.vertex m.in_range x.face m.is_vertex m.off_vertex k.0 k.1 k.2 in
      let side_there : looks_positive coords ys (arc_across g a) ≡ looks_positive coords xs (arc_across g b) =
      ap (λ z. looks_positive coords ys (arc_at g.tet f v z)) place ∙ side_moved g.tet f v x.other_tet x.other_face lv off k.0 (back.meets).there across in
      let keeps : keeps_sides coords ys a g ≡ keeps_sides coords xs b g = λ z. if side_here z then side_there z else not (side_there z) in
      let one : IsFound ys (disc_of coords ys a) = piece_found ys (disc_of coords ys a) (piece_there s.rows coords ys surface a g m) in
      let own_back = meets_back s.rows coords ys surface a g m in
      let two : IsFound ys (disc_of coords ys (arc_across g a)) = piece_found ys (disc_of coords ys (arc_across g a)) (piece_there s.rows coords ys surface (arc_across g a) (inverse_gluing (face_of_arc a) g) own_back.meets) in
      let sign_here : own_sign sign (disc_number ys (disc_of coords ys a)) ≡ sign (disc_number xs (disc_of coords xs b)) =
      own_sign_is sign (disc_number ys (disc_of coords ys a)) (disc_of coords xs b) one.in_range k.2 (sym here ∙ sym one.there) in
      let sign_there : own_sign sign (disc_number ys (disc_of coords ys (arc_across g a))) ≡ sign (disc_number xs (disc_of coords xs (arc_across g b))) =
      own_sign_is sign (disc_number ys (disc_of coords ys (arc_across g a))) (disc_of coords xs (arc_across g b)) two.in_range across (sym there ∙ sym two.there) in
      sign_there ∙ signs b g meets (of_component s coords xs components count numbered w i (disc_of coords xs b) k.2) ∙ sym (λ z. turned_by (is_odd g.perm) (keeps z) (sign_here z))
