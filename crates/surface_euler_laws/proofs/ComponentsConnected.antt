-- The vector of a component is a connected surface: its pieces and arcs are those of the component, each numbered by
-- how many are before it.
use Rattle.std.proofs.Common.{◌≡◌, ℕ, ◌+◌, ◌-◌, ◌<◌, ◌≤◌, Bool, true, false, cond, List, [], ◌∷◌, length, ◌⊎◌, inl, inr, refl, sym, ap, ◌∙◌, subst, subst₂, arith}
use Rattle.std.specs.Prelude.{◌==◌, sum_by, slice_index}
use Rattle.std.specs.List.{slice_index_or}
use Rattle.std.proofs.lemmas.Bool.{cases_lt, eqb-true}
use Rattle.cone_definitions.proofs.Entries.{nonzero_before}
use Rattle.table_definitions.specs.Lists.{below}
use Rattle.table_definitions.specs.Permutation.{image}
use Rattle.table_definitions.proofs.Listed.{below-among}
use Rattle.table_definitions.proofs.PermutationLaws.{image_below, images_apart}
use Rattle.skeleton_definitions.specs.Skeleton.{Skeleton}
use Rattle.surface_definitions.specs.Coordinates.{tri_column, quad_column, keeping, octagon_arcs}
use Rattle.surface_definitions.specs.declared.Coords.{Coords}
use Rattle.surface_definitions.specs.Pieces.{NormalDisc, discs_of, disc_number, Arc, arcs_around, arc_across, disc_of, type_in, keeps_by_zero, Meets, ArcsLead, SamePiece, AreComponents, component_vector}
use Rattle.surface_laws.specs.PieceLaws.{IsSurface, IsPieceOf, HasComponents, face_of_arc, first_nonzero}
use Rattle.surface_laws.proofs.ArcPieces.{from_end, from_end_below, arcs_are, triangle_piece, behind_piece, component_arcs}
use Rattle.surface_laws.proofs.ComponentCounts.{belongs, component_count, component_width, component_inside}
use Rattle.surface_laws.proofs.ComponentsFound.{components_found}
use Rattle.surface_laws.proofs.ComponentSurfaces.{one_component, component_surface}
use Rattle.surface_laws.proofs.Counting.{sum_by_same, below_sum}
use Rattle.surface_laws.proofs.Glued.{IsGlued, glued_is}
use Rattle.surface_laws.proofs.MeetingArcs.{arc_at, meets_back}
use Rattle.surface_laws.proofs.PieceNumbers.{piece_at, no_piece, IsFound, piece_found, listed_piece}
use Rattle.surface_efficiency_laws.specs.Laws.{IsConnectedSurface}
use Rattle.surface_efficiency_laws.proofs.Connected.{component_nonzero}
use Rattle.basic_lemmas.proofs.Truths.{one_if}
use Rattle.surface_euler_laws.proofs.Ranks.{first_part, select, from_either, first_same}

module _ (s : Skeleton) (coords : Coords) (xs components : List ℕ) (count : ℕ) (numbered : AreComponents s.rows coords xs components count) (w : IsSurface s.rows coords xs) (i : ℕ) where
  abbrev ys : List ℕ
  ys = component_vector xs components i

  abbrev n : ℕ
  n = length s.rows

  abbrev bel : NormalDisc → ℕ
  bel p = belongs xs components i p

  pub own : IsSurface s.rows coords ys
  own = component_surface s.rows coords xs w components count numbered i

  pub inside : (c : ℕ) → slice_index xs c ≡ 0 → slice_index ys c ≡ 0
  inside c z = component_inside xs components numbered.one_each i c z

  pub entry : (c : ℕ) → slice_index ys c ≡ sum_by (λ a. bel (piece_at c a)) (below (slice_index xs c))
  entry c = component_count xs components numbered.one_each i c

  -- the piece in the component's vector
  abbrev moved_piece : NormalDisc → NormalDisc
  moved_piece p = piece_at p.column (sum_by (λ a. bel (piece_at p.column a)) (below p.number))

  abbrev rank : ℕ → ℕ → ℕ → ℕ → ℕ
  rank t f v j = sum_by (λ a. bel (disc_of coords xs (arc_at t f v a))) (below j)

  module _ (t f v : ℕ) (lt : t < n) (lf : f < 4) (lv : v < 4) (off : v ≡ f → ⊥) where
    abbrev tri : ℕ
    tri = tri_column coords t v

    abbrev col : ℕ
    col = first_nonzero xs (octagon_arcs coords t f v) (quad_column coords t (keeping v f))

    abbrev b : Bool
    b = keeps_by_zero (type_in coords col) v

    pub of_triangles : (k : ℕ) → k ≤ slice_index xs tri → rank t f v k ≡ sum_by (λ a. bel (piece_at tri a)) (below k)
    of_triangles k l = sum_by_same (λ a. bel (disc_of coords xs (arc_at t f v a))) (λ a. bel (piece_at tri a)) (below k)
        (λ a m. let la : a < k = below-among a k m in ap bel (triangle_piece coords n xs w.triangles w.admissible t f v lt lf lv off a (omega arith)))

    pub moved : (k : ℕ) → k < arcs_around coords xs t f v → bel (disc_of coords xs (arc_at t f v k)) ≡ 1 → disc_of coords ys (arc_at t f v (rank t f v k)) ≡ moved_piece (disc_of coords xs (arc_at t f v k))
    moved k l one = elim (cases_lt k (slice_index xs tri)) [
      | inl low ↦ (let is : disc_of coords xs (arc_at t f v k) ≡ piece_at tri k = triangle_piece coords n xs w.triangles w.admissible t f v lt lf lv off k low in
          let there : bel (piece_at tri k) ≡ 1 = sym (ap bel is) ∙ one in
          let part = first_part (λ a. bel (piece_at tri a)) k (slice_index xs tri) low in
          let e = entry tri in
          let lr : sum_by (λ a. bel (piece_at tri a)) (below k) < slice_index ys tri = omega arith in
          ap (λ j. disc_of coords ys (arc_at t f v j)) (of_triangles k (omega arith))
          ∙ triangle_piece coords n ys own.triangles own.admissible t f v lt lf lv off (sum_by (λ a. bel (piece_at tri a)) (below k)) lr ∙ sym (ap moved_piece is))
      | inr high ↦ behind (k - slice_index xs tri) (omega arith)
    ]
      where
        all : arcs_around coords xs t f v ≡ slice_index xs tri + slice_index xs col
        all = arcs_are coords n xs w.triangles w.admissible t f v lt lf lv off xs (λ c z. z)

        behind : (j : ℕ) → slice_index xs tri + j ≡ k → disc_of coords ys (arc_at t f v (rank t f v k)) ≡ moved_piece (disc_of coords xs (arc_at t f v k))
        behind j e =
            let m : ℕ = slice_index xs tri in
            let lj : j < slice_index xs col = omega (arith, all) in
            let is : disc_of coords xs (arc_at t f v k) ≡ piece_at col (from_end (slice_index xs col) b j) =
            ap (λ z. disc_of coords xs (arc_at t f v z)) (sym e) ∙ behind_piece coords n xs w.triangles w.admissible t f v lt lf lv off j in
            let there : bel (piece_at col (from_end (slice_index xs col) b j)) ≡ 1 = sym (ap bel is) ∙ one in
            let further : ℕ = sum_by (λ a. bel (piece_at col (from_end (slice_index xs col) b a))) (below j) in
            let split : rank t f v (m + j) ≡ rank t f v m + sum_by (λ a. bel (disc_of coords xs (arc_at t f v (m + a)))) (below j) = below_sum (λ a. bel (disc_of coords xs (arc_at t f v a))) m j in
            let first : rank t f v m ≡ slice_index ys tri = of_triangles m (omega arith) ∙ sym (entry tri) in
            let rest : sum_by (λ a. bel (disc_of coords xs (arc_at t f v (m + a)))) (below j) ≡ further =
            sum_by_same (λ a. bel (disc_of coords xs (arc_at t f v (m + a)))) (λ a. bel (piece_at col (from_end (slice_index xs col) b a))) (below j)
            (λ a h. ap bel (behind_piece coords n xs w.triangles w.admissible t f v lt lf lv off a)) in
            let place : rank t f v k ≡ slice_index ys tri + further = ap (rank t f v) (sym e) ∙ split ∙ (λ z. first z + rest z) in
            let number : from_end (slice_index ys col) b further ≡ sum_by (λ a. bel (piece_at col a)) (below (from_end (slice_index xs col) b j)) =
            ap (λ z. from_end z b further) (entry col) ∙ from_either (λ a. bel (piece_at col a)) (slice_index xs col) j b lj there in
            let some : 0 < slice_index ys col = (let fit = first_part (λ a. bel (piece_at col a)) (from_end (slice_index xs col) b j) (slice_index xs col) (from_end_below (slice_index xs col) b j lj) in omega (arith, entry col)) in
            let same : first_nonzero ys (octagon_arcs coords t f v) (quad_column coords t (keeping v f)) ≡ col = first_same xs ys inside (octagon_arcs coords t f v) (quad_column coords t (keeping v f)) some in
            ap (λ z. disc_of coords ys (arc_at t f v z)) place
            ∙ behind_piece coords n ys own.triangles own.admissible t f v lt lf lv off further
            ∙ ap (λ c. piece_at c (from_end (slice_index ys c) (keeps_by_zero (type_in coords c) v) further)) same
            ∙ ap (piece_at col) number ∙ sym (ap moved_piece is)

    pub in_range : (k : ℕ) → k < arcs_around coords xs t f v → bel (disc_of coords xs (arc_at t f v k)) ≡ 1 → rank t f v k < arcs_around coords ys t f v
    in_range k l one =
        let e = component_arcs coords n xs w.triangles w.admissible t f v lt lf lv off components numbered.one_each i in
        let part = first_part (λ a. bel (disc_of coords xs (arc_at t f v a))) k (arcs_around coords xs t f v) l in
        omega arith

  -- chains of arcs, in the component's vector
  moved_chain : (p q : NormalDisc) (arcs : List Arc) → bel p ≡ 1 → ArcsLead s.rows coords xs p arcs q → (more : List Arc) × ArcsLead s.rows coords ys (moved_piece p) more (moved_piece q)
  moved_chain p q [] one e = ([], ap moved_piece e)
  moved_chain p q (a ∷ arcs) one (g, m, e, more) =
      let x : IsGlued s.rows (face_of_arc a) g = glued_is s.rows (face_of_arc a) g w.table m.glued in
      let f : ℕ = image g.perm a.face in
      let v : ℕ = image g.perm a.vertex in
      let lv : image g.perm a.vertex < 4 = image_below g.perm a.vertex x.permutes m.is_vertex in
      let off : image g.perm a.vertex ≡ image g.perm a.face → ⊥ = images_apart g.perm a.vertex a.face x.permutes m.is_vertex x.face m.off_vertex in
      let mine : bel (disc_of coords xs a) ≡ 1 = ap bel e ∙ one in
      let across : bel (disc_of coords xs a) ≡ bel (disc_of coords xs (arc_across g a)) = ap (λ c. cond (c == i) 1 0) (one_component s.rows coords xs w components count numbered a g m) in
      let back = meets_back s.rows coords xs w a g m in
      let there : bel (disc_of coords xs (arc_across g a)) ≡ 1 = sym across ∙ mine in
      let ranks : rank a.tet a.face a.vertex a.place ≡ rank g.tet f v a.place =
      sum_by_same (λ k. bel (disc_of coords xs (arc_at a.tet a.face a.vertex k))) (λ k. bel (disc_of coords xs (arc_at g.tet f v k))) (below a.place)
      (λ k h. let lk : k < a.place = below-among k a.place h in
      let up : a.place < arcs_around coords xs a.tet a.face a.vertex = m.there in
      ap (λ c. cond (c == i) 1 0) (one_component s.rows coords xs w components count numbered (arc_at a.tet a.face a.vertex k) g (record { in_range = m.in_range; is_vertex = m.is_vertex; off_vertex = m.off_vertex; there = omega arith; glued = m.glued }))) in
      let c : Arc = arc_at a.tet a.face a.vertex (rank a.tet a.face a.vertex a.place) in
      let meets : Meets s.rows coords ys (arc_at a.tet a.face a.vertex (rank a.tet a.face a.vertex a.place)) g =
      record { in_range = m.in_range; is_vertex = m.is_vertex; off_vertex = m.off_vertex; there = in_range a.tet a.face a.vertex m.in_range x.face m.is_vertex m.off_vertex a.place m.there mine; glued = m.glued } in
      let next : disc_of coords ys (arc_across g (arc_at a.tet a.face a.vertex (rank a.tet a.face a.vertex a.place))) ≡ moved_piece (disc_of coords xs (arc_across g a)) =
      ap (λ z. disc_of coords ys (arc_at g.tet f v z)) ranks ∙ moved g.tet f v x.other_tet x.other_face lv off a.place (back.meets).there there in
      let rest = moved_chain (disc_of coords xs (arc_across g a)) q arcs there more in
      (c ∷ rest.0, (g, meets, moved a.tet a.face a.vertex m.in_range x.face m.is_vertex m.off_vertex a.place m.there mine ∙ ap moved_piece e, subst (λ z. ArcsLead s.rows coords ys z rest.0 (moved_piece q)) (sym next) rest.1))

  -- each piece of the component's vector is one of the component
  pub record IsMoved (p : NormalDisc) : Type 0 where
    pub from : NormalDisc
    pub is_piece : IsPieceOf xs from
    pub mine : belongs xs components i from ≡ 1
    pub is : moved_piece from ≡ p

  pub moved_from : (p : NormalDisc) → IsPieceOf ys p → IsMoved p
  moved_from p h =
      let c : ℕ = p.column in
      let l : p.number < sum_by (λ a. bel (piece_at p.column a)) (below (slice_index xs p.column)) = let e = entry p.column in let z = h.number in omega arith in
      let j = select (λ a. bel (piece_at p.column a)) (λ a. zero_or_one (slice_index components (disc_number xs (piece_at p.column a)) == i)) (slice_index xs p.column) p.number l in
      let lc : p.column < length xs = let z = h.column in let e = component_width xs components numbered.one_each i in omega arith in
      record { from = piece_at p.column j.0; is_piece = record { column = lc; number = j.1 }; mine = j.2; is = ap (piece_at p.column) j.3 }
    where
      zero_or_one : (b : Bool) → (one_if b ≡ 0) ⊎ (one_if b ≡ 1)
      zero_or_one true = inr refl
      zero_or_one false = inl refl

  pub of_component : (p : NormalDisc) → bel p ≡ 1 → slice_index components (disc_number xs p) ≡ i
  of_component p one = eqb-true (slice_index components (disc_number xs p)) i (go (slice_index components (disc_number xs p) == i) one)
    where
      go : (b : Bool) → one_if b ≡ 1 → b ≡ true
      go true e = refl
      go false e = absurd (omega arith)

  all_joined : (x y : ℕ) → x < length (discs_of ys) → y < length (discs_of ys) → SamePiece s.rows coords ys x y
  all_joined x y lx ly =
      let p : IsMoved (slice_index_or (discs_of ys) x no_piece) = moved_from (slice_index_or (discs_of ys) x no_piece) (listed_piece ys x no_piece lx) in
      let q : IsMoved (slice_index_or (discs_of ys) y no_piece) = moved_from (slice_index_or (discs_of ys) y no_piece) (listed_piece ys y no_piece ly) in
      let f : IsFound xs p.from = piece_found xs p.from p.is_piece in
      let g : IsFound xs q.from = piece_found xs q.from q.is_piece in
      let c = (numbered.together (disc_number xs p.from) (disc_number xs q.from) f.in_range g.in_range).0 (of_component p.from p.mine ∙ sym (of_component q.from q.mine)) in
      let lead : ArcsLead s.rows coords xs p.from c.0 q.from = subst₂ (λ a b. ArcsLead s.rows coords xs a c.0 b) f.there g.there c.1 in
      let m = moved_chain p.from q.from c.0 p.mine lead in
      (m.0, subst₂ (λ a b. ArcsLead s.rows coords ys a m.0 b) p.is q.is m.1)

  pub component_connected : i < count → IsConnectedSurface s coords (component_vector xs components i)
  component_connected l =
      let f : HasComponents s.rows coords ys = components_found s.rows coords ys own in
      record { surface = own; components = f.components; one = subst (AreComponents s.rows coords ys f.components) (one_alone f) f.are }
    where
      one_alone : (f : HasComponents s.rows coords ys) → f.count ≡ 1
      one_alone f =
          let some = component_nonzero s coords xs components count numbered i l in
          let p : IsFound ys (piece_at some.0 0) = piece_found ys (piece_at some.0 0) (let z = some.1 in record { column = nonzero_before ys (length ys) some.0 refl z; number = omega arith }) in
          let low : slice_index f.components (disc_number ys (piece_at some.0 0)) < f.count = (f.are).in_range (disc_number ys (piece_at some.0 0)) p.in_range in
          elim (cases_lt 1 f.count) [
            | inr most ↦ omega arith
            | inl more ↦ absurd (
                let a = (f.are).none_empty 0 (omega arith) in
                let b = (f.are).none_empty 1 more in
                let same : slice_index f.components a.0 ≡ slice_index f.components b.0 = ((f.are).together a.0 b.0 a.1 b.1).1 (all_joined a.0 b.0 a.1 b.1) in
                let zero_there : slice_index f.components a.0 ≡ 0 = a.2 in
                let one_there : slice_index f.components b.0 ≡ 1 = b.2 in
                omega arith)
          ]
