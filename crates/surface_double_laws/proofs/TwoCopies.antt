-- The double of a connected two-sided surface has two components, one on either side, and each is a copy of the
-- surface.
use Rattle.std.proofs.Common.{◌≡◌, ◌≢◌, ℕ, zero, suc, ◌+◌, ◌*◌, ◌/◌, ◌%◌, ◌<◌, Bool, true, false, not, cond, List, [], ◌∷◌, ◌⊎◌, inl, inr, refl, sym, ap, ◌∙◌, subst, subst₂, arith}
use Rattle.std.specs.Prelude.{◌==◌, slice_index, sum_by, if◌then◌else◌}
use Rattle.std.specs.List.{slice_index_or}
use Rattle.std.proofs.lemmas.Bool.{cases_lt, cases_eq, eq-eqb, ne_eqb}
use Rattle.basic_lemmas.proofs.Truths.{not_itself}
use Rattle.cone_definitions.specs.Vectors.{multiple}
use Rattle.cone_definitions.proofs.Entries.{length-multiple, entry-multiple, same_vectors}
use Rattle.table_definitions.specs.Lists.{below}
use Rattle.table_definitions.specs.Permutation.{image}
use Rattle.table_definitions.specs.Table.{Gluing, Row}
use Rattle.table_definitions.proofs.Listed.{below-among}
use Rattle.table_definitions.proofs.PermutationLaws.{image_below, images_apart}
use Rattle.skeleton_definitions.specs.Skeleton.{Skeleton}
use Rattle.skeleton_laws.proofs.Sums.{sum_blocks}
use Rattle.surface_definitions.specs.declared.Coords.{Coords}
use Rattle.surface_definitions.specs.Pieces.{NormalDisc, discs_of, disc_number, Arc, arcs_around, arc_across, disc_of, Meets, ArcsLead, AreComponents, component_vector, looks_positive, keeps_sides, IsTwoSided}
use Rattle.surface_laws.specs.PieceLaws.{IsSurface, IsPieceOf, HasComponents, MeetsBack, face_of_arc, reversed_if}
use Rattle.surface_laws.proofs.ComponentCounts.{belongs, component_count, component_width}
use Rattle.surface_laws.proofs.ComponentsFound.{components_found}
use Rattle.surface_laws.proofs.ArcPieces.{in_width}
use Rattle.surface_laws.proofs.Counting.{sum_by_same, last_term}
use Rattle.surface_laws.proofs.SignedSteps.{arc_found}
use Rattle.surface_laws.proofs.Glued.{IsGlued, glued_is}
use Rattle.surface_laws.proofs.MeetingArcs.{arc_at, meets_back}
use Rattle.surface_laws.proofs.PieceNumbers.{piece_at, no_piece, IsFound, piece_found, listed_piece, number-piece}
use Rattle.surface_efficiency_laws.specs.Laws.{IsConnectedSurface}
use Rattle.surface_double_laws.specs.Laws.{AreTwoCopies}
use Rattle.surface_double_laws.proofs.Doubles.{lift, double_surface, arcs_twice, lifted}
use Rattle.surface_double_laws.proofs.DoublePieces.{turned_low, lift_piece, IsLifted, lifted_from, class_along, first, start}

-- the truth value of one of two parallel discs: the given one, or the other
abbrev of_parallel : ℕ → Bool → Bool
of_parallel k x = if k == 0 then x else not x

of_parallel_turned : (b : Bool) (k : ℕ) (x y : Bool) → k < 2 → y ≡ (if b then x else not x) → of_parallel (reversed_if b k) y ≡ of_parallel k x
of_parallel_turned true k x y l e = ap (of_parallel k) e
of_parallel_turned false zero x y l e = ap not e ∙ twice x
  where
    twice : (x : Bool) → not (not x) ≡ x
    twice true = refl
    twice false = refl
of_parallel_turned false (suc zero) x y l e = e
of_parallel_turned false (suc (suc k)) x y l e = absurd (omega arith)

module _ (rows : List Row) (coords : Coords) (xs : List ℕ) (w : IsSurface rows coords xs) (components : List ℕ) (one : AreComponents rows coords xs components 1) (sides : IsTwoSided rows coords xs components 0) where
  abbrev ys : List ℕ
  ys = multiple 2 xs

  sign : NormalDisc → Bool
  sign p = sides.0 (disc_number xs p)

  -- the side on which a disc of the double lies
  side : NormalDisc → Bool
  side q = of_parallel (q.number % 2) (sign (piece_at q.column (q.number / 2)))

  side_lift : (p : NormalDisc) (k : ℕ) → k < 2 → side (lift p k) ≡ of_parallel k (sign p)
  unfolding side
  side_lift p k l =
      let a : (2 * p.number + k) % 2 ≡ k = omega arith in
      let b : (2 * p.number + k) / 2 ≡ p.number = omega arith in
      λ i. of_parallel (a i) (sign (piece_at p.column (b i)))

  -- arcs that meet are on one side
  side_kept : (a : Arc) (g : Gluing) → Meets rows coords (multiple 2 xs) a g → side (disc_of coords (multiple 2 xs) (arc_across g a)) ≡ side (disc_of coords (multiple 2 xs) a)
  unfolding sign
  side_kept a g m =
      let x : IsGlued rows (face_of_arc a) g = glued_is rows (face_of_arc a) g w.table m.glued in
      let j : ℕ = a.place / 2 in
      let i : ℕ = a.place % 2 in
      let li : a.place % 2 < 2 = omega arith in
      let e : 2 * (a.place / 2) + a.place % 2 ≡ a.place = omega arith in
      let many = arcs_twice rows coords xs w a.tet a.face a.vertex in
      let place : a.place < arcs_around coords (multiple 2 xs) a.tet a.face a.vertex = m.there in
      let b : Arc = arc_at a.tet a.face a.vertex (a.place / 2) in
      let meets : Meets rows coords xs (arc_at a.tet a.face a.vertex (a.place / 2)) g = record { in_range = m.in_range; is_vertex = m.is_vertex; off_vertex = m.off_vertex; there = omega arith; glued = m.glued } in
      let back : MeetsBack rows coords xs (arc_at a.tet a.face a.vertex (a.place / 2)) g = meets_back rows coords xs w (arc_at a.tet a.face a.vertex (a.place / 2)) g meets in
      let f : ℕ = image g.perm a.face in
      let v : ℕ = image g.perm a.vertex in
      let p : Bool = looks_positive coords xs (arc_at a.tet a.face a.vertex (a.place / 2)) in
      let q : Bool = looks_positive coords xs (arc_across g (arc_at a.tet a.face a.vertex (a.place / 2))) in
      let k : ℕ = reversed_if p i in
      let here : disc_of coords ys a ≡ lift (disc_of coords xs b) (reversed_if p i) =
      ap (λ z. disc_of coords ys (arc_at a.tet a.face a.vertex z)) (sym e) ∙ lifted rows coords xs w a.tet a.face a.vertex m.in_range x.face m.is_vertex m.off_vertex j i meets.there li in
      let there : disc_of coords ys (arc_across g a) ≡ lift (disc_of coords xs (arc_across g b)) (reversed_if q i) =
      ap (λ z. disc_of coords ys (arc_at g.tet f v z)) (sym e)
      ∙ lifted rows coords xs w g.tet f v x.other_tet x.other_face (image_below g.perm a.vertex x.permutes m.is_vertex) (images_apart g.perm a.vertex a.face x.permutes m.is_vertex x.face m.off_vertex) j i (back.meets).there li in
      let low : slice_index components (disc_number xs (disc_of coords xs b)) ≡ 0 = of_first (arc_at a.tet a.face a.vertex (a.place / 2)) g meets in
      let turn : reversed_if q i ≡ reversed_if (keeps_sides coords xs b g) (reversed_if p i) = again p q i li in
      ap side there ∙ side_lift (disc_of coords xs (arc_across g b)) (reversed_if q i) (turned_low q i li)
      ∙ ap (λ z. of_parallel z (sign (disc_of coords xs (arc_across g b)))) turn
      ∙ of_parallel_turned (keeps_sides coords xs b g) (reversed_if p i) (sign (disc_of coords xs b)) (sign (disc_of coords xs (arc_across g b))) (turned_low p i li) (sides.1 b g meets low)
      ∙ sym (ap side here ∙ side_lift (disc_of coords xs b) (reversed_if p i) (turned_low p i li))
    where
      of_first : (b : Arc) (g : Gluing) → Meets rows coords xs b g → slice_index components (disc_number xs (disc_of coords xs b)) ≡ 0
      of_first b g m =
          let f : IsFound xs (disc_of coords xs b) = arc_found rows coords xs w b g m in
          let l : slice_index components (disc_number xs (disc_of coords xs b)) < 1 = one.in_range (disc_number xs (disc_of coords xs b)) f.in_range in
          omega arith

      again : (p q : Bool) (i : ℕ) → i < 2 → reversed_if q i ≡ reversed_if (if p then q else not q) (reversed_if p i)
      again true q i l = refl
      again false true i l = omega arith
      again false false i l = refl

  side_along : (p q : NormalDisc) (arcs : List Arc) → ArcsLead rows coords (multiple 2 xs) p arcs q → side q ≡ side p
  side_along p q [] e = ap side (sym e)
  side_along p q (a ∷ arcs) (g, m, e, more) = side_along (disc_of coords (multiple 2 xs) (arc_across g a)) q arcs more ∙ side_kept a g m ∙ ap side e

  module _ (classes : List ℕ) (count : ℕ) (are : AreComponents rows coords (multiple 2 xs) classes count) where
    abbrev class : NormalDisc → ℕ
    class p = slice_index classes (disc_number (multiple 2 xs) p)

    abbrev start_disc : NormalDisc
    start_disc = first rows coords xs w components one classes count are

    start_piece : IsPieceOf xs start_disc
    start_piece = start rows coords xs w components one classes count are

    -- parallel discs are in different components
    separate : (p : NormalDisc) → IsPieceOf xs p → class (lift p 0) ≢ class (lift p 1)
    separate p h e =
        let a : IsFound ys (lift p 0) = piece_found ys (lift p 0) (lift_piece rows coords xs w p 0 (omega arith) h) in
        let b : IsFound ys (lift p 1) = piece_found ys (lift p 1) (lift_piece rows coords xs w p 1 (omega arith) h) in
        let c = (are.together (disc_number ys (lift p 0)) (disc_number ys (lift p 1)) a.in_range b.in_range).0 e in
        let lead : ArcsLead rows coords (multiple 2 xs) (lift p 0) c.0 (lift p 1) = subst₂ (λ x y. ArcsLead rows coords ys x c.0 y) a.there b.there c.1 in
        not_itself (sign p) (sym (side_lift p 0 (omega arith)) ∙ sym (side_along (lift p 0) (lift p 1) c.0 lead) ∙ side_lift p 1 (omega arith))

    low : (p : NormalDisc) (k : ℕ) → k < 2 → IsPieceOf xs p → class (lift p k) < count
    low p k l h = are.in_range (disc_number ys (lift p k)) (piece_found ys (lift p k) (lift_piece rows coords xs w p k l h)).in_range

    -- each disc is in the component of one of the first two
    one_of_two : (q : NormalDisc) → IsPieceOf (multiple 2 xs) q → (class q ≡ class (lift start_disc 0)) ⊎ (class q ≡ class (lift start_disc 1))
    one_of_two q h =
        let r : IsLifted rows coords xs w q = lifted_from rows coords xs w q h in
        elim (class_along rows coords xs w components one classes count are r.from start_disc r.side r.low r.piece start_piece) [
          | inl e ↦ inl (ap (λ z. class z) (sym r.is) ∙ e)
          | inr e ↦ inr (ap (λ z. class z) (sym r.is) ∙ e)
        ]

    -- a class by its first member
    member : (c : ℕ) → c < count → (c ≡ class (lift start_disc 0)) ⊎ (c ≡ class (lift start_disc 1))
    member c l =
        let a = are.none_empty c l in
        let e : class (slice_index_or (discs_of ys) a.0 no_piece) ≡ c = ap (slice_index classes) (number-piece ys a.0 no_piece a.1) ∙ a.2 in
        elim (one_of_two (slice_index_or (discs_of ys) a.0 no_piece) (listed_piece ys a.0 no_piece a.1)) [ inl z ↦ inl (sym e ∙ z) | inr z ↦ inr (sym e ∙ z) ]

    two : count ≡ 2
    two =
        let a = low start_disc 0 (omega arith) start_piece in
        let b = low start_disc 1 (omega arith) start_piece in
        let ne = separate start_disc start_piece in
        elim (cases_lt 2 count) [
          | inr most ↦ omega arith
          | inl more ↦ absurd (three (member 0 (omega arith)) (member 1 (omega arith)) (member 2 more))
        ]
      where
        three : (0 ≡ class (lift start_disc 0)) ⊎ (0 ≡ class (lift start_disc 1)) → (1 ≡ class (lift start_disc 0)) ⊎ (1 ≡ class (lift start_disc 1)) → (2 ≡ class (lift start_disc 0)) ⊎ (2 ≡ class (lift start_disc 1)) → ⊥
        three (inl a) (inl b) c = omega arith
        three (inr a) (inr b) c = omega arith
        three (inl a) (inr b) (inl c) = omega arith
        three (inl a) (inr b) (inr c) = omega arith
        three (inr a) (inl b) (inl c) = omega arith
        three (inr a) (inl b) (inr c) = omega arith

    -- of two parallel discs one is in either component
    one_each : (p : NormalDisc) (i : ℕ) → IsPieceOf xs p → i < 2 → belongs (multiple 2 xs) classes i (lift p 0) + belongs (multiple 2 xs) classes i (lift p 1) ≡ 1
    one_each p i h l =
        let a = low p 0 (omega arith) h in
        let b = low p 1 (omega arith) h in
        let n = two in
        let ne = separate p h in
        elim (cases_eq (class (lift p 0)) i) [
          | inl e ↦ (let other : class (lift p 1) ≢ i = λ z. ne (e ∙ sym z) in λ t. chosen (eq-eqb (class (lift p 0)) i e t) + chosen (ne_eqb (class (lift p 1)) i other t))
          | inr e ↦ (let other : class (lift p 1) ≡ i = omega arith in λ t. chosen (ne_eqb (class (lift p 0)) i e t) + chosen (eq-eqb (class (lift p 1)) i other t))
        ]
      where
        chosen : Bool → ℕ
        chosen b = cond b 1 0

    column_is : (i c : ℕ) → i < 2 → slice_index (component_vector (multiple 2 xs) classes i) c ≡ slice_index xs c
    column_is i c l =
        let e : slice_index ys c ≡ 2 * slice_index xs c = entry-multiple 2 xs c in
        component_count ys classes are.one_each i c
        ∙ ap (λ m. sum_by (λ j. belongs ys classes i (piece_at c j)) (below m)) e
        ∙ sum_blocks (λ j. belongs ys classes i (piece_at c j)) 2 (slice_index xs c)
        ∙ sum_by_same (λ t. sum_by (λ j. belongs ys classes i (piece_at c (2 * t + j))) (below 2)) (λ t. 1) (below (slice_index xs c))
        (λ t a. let lt : t < slice_index xs c = below-among t (slice_index xs c) a in
        let h : IsPieceOf xs (piece_at c t) = record { column = in_width xs c t lt; number = lt } in
        let z = one_each (piece_at c t) i h l in
        omega arith)
        ∙ ones (slice_index xs c)
      where
        ones : (m : ℕ) → sum_by (λ (t : ℕ). 1) (below m) ≡ m
        ones zero = refl
        ones (suc m) = let a = last_term (λ (t : ℕ). 1) m in let b = ones m in omega arith

    vector_is : (i : ℕ) → i < 2 → component_vector (multiple 2 xs) classes i ≡ xs
    vector_is i l = same_vectors (component_vector ys classes i) xs (component_width ys classes are.one_each i ∙ length-multiple 2 xs) (λ c. column_is i c l)

pub two_copies : (s : Skeleton) (coords : Coords) (xs : List ℕ) (c : IsConnectedSurface s coords xs) → IsTwoSided s.rows coords xs c.components 0 → AreTwoCopies s coords xs
two_copies s coords xs c sides =
    let f : HasComponents s.rows coords (multiple 2 xs) = components_found s.rows coords (multiple 2 xs) (double_surface s.rows coords xs c.surface) in
    record {
      components = f.components;
      are = subst (AreComponents s.rows coords (multiple 2 xs) f.components) (two s.rows coords xs c.surface c.components c.one sides f.components f.count f.are) f.are;
      each = λ i l. vector_is s.rows coords xs c.surface c.components c.one sides f.components f.count f.are i l;
    }
