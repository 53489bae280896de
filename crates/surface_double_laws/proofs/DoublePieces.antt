-- The double of a connected surface is connected unless the surface has two sides: chains of arcs lift to the double,
-- where they change from one of two parallel discs to the other if sides are exchanged.
use Rattle.std.proofs.Common.{◌≡◌, ◌≢◌, ℕ, ◌+◌, ◌*◌, ◌/◌, ◌%◌, ◌<◌, Bool, true, false, not, List, [], ◌∷◌, length, ◌⊎◌, inl, inr, refl, sym, ap, ◌∙◌, subst, subst₂, arith}
use Rattle.std.specs.Prelude.{◌==◌, slice_index, if◌then◌else◌}
use Rattle.std.specs.List.{slice_index_or}
use Rattle.std.proofs.lemmas.Bool.{cases_lt, cases_eq}
use Rattle.basic_lemmas.proofs.Numbers.{equals_one_of_two}
use Rattle.cone_definitions.specs.Vectors.{multiple}
use Rattle.cone_definitions.proofs.Entries.{length-multiple, entry-multiple}
use Rattle.table_definitions.specs.Permutation.{image}
use Rattle.table_definitions.specs.Table.{Gluing, Row, inverse_gluing}
use Rattle.table_definitions.proofs.PermutationLaws.{image_below, images_apart}
use Rattle.skeleton_definitions.specs.Skeleton.{Skeleton}
use Rattle.surface_definitions.specs.declared.Coords.{Coords}
use Rattle.surface_definitions.specs.Pieces.{NormalDisc, discs_of, disc_number, Arc, arcs_around, arc_across, disc_of, Meets, ArcsLead, AreComponents, looks_positive, keeps_sides, IsTwoSided}
use Rattle.surface_laws.specs.PieceLaws.{IsSurface, IsPieceOf, HasComponents, MeetsBack, face_of_arc, reversed_if}
use Rattle.surface_laws.proofs.ArcPieces.{from_end_twice}
use Rattle.surface_laws.proofs.ComponentsFound.{components_found}
use Rattle.surface_laws.proofs.ComponentSurfaces.{piece_there}
use Rattle.surface_laws.proofs.Glued.{IsGlued, glued_is}
use Rattle.surface_laws.proofs.MeetingArcs.{arc_at, meets_back}
use Rattle.surface_laws.proofs.PieceNumbers.{piece_at, no_piece, IsFound, piece_found, listed_piece, number-piece}
use Rattle.surface_efficiency_laws.specs.Laws.{IsConnectedSurface}
use Rattle.surface_double_laws.proofs.Doubles.{lift, double_surface, arcs_twice, lifted}

pub turned_low : (b : Bool) (k : ℕ) → k < 2 → reversed_if b k < 2
turned_low true k l = l
turned_low false k l = omega arith

-- a truth value, or its opposite
abbrev same_if : Bool → Bool → Bool
same_if x b = if b then x else not x

-- two changes of side, one at each end of a crossing, are a change if sides are exchanged
pub turned_both : (a b : Bool) (k : ℕ) → k < 2 → reversed_if b (reversed_if a k) ≡ reversed_if (if a then b else not b) k
turned_both true true k l = refl
turned_both true false k l = refl
turned_both false true k l = refl
turned_both false false k l = omega arith

module _ (rows : List Row) (coords : Coords) (xs : List ℕ) (w : IsSurface rows coords xs) where
  abbrev ys : List ℕ
  ys = multiple 2 xs

  own : IsSurface rows coords (multiple 2 xs)
  own = double_surface rows coords xs w

  -- the disc parallel to that of an arc, across the arc's gluing
  record IsCrossing (a : Arc) (g : Gluing) (k : ℕ) : Type 0 where
    arc : Arc
    meets : Meets rows coords (multiple 2 xs) arc g
    here : disc_of coords (multiple 2 xs) arc ≡ lift (disc_of coords xs a) k
    there : disc_of coords (multiple 2 xs) (arc_across g arc) ≡ lift (disc_of coords xs (arc_across g a)) (reversed_if (keeps_sides coords xs a g) k)

  crossing : (a : Arc) (g : Gluing) (k : ℕ) → k < 2 → Meets rows coords xs a g → IsCrossing a g k
  crossing a g k l m =
      let x : IsGlued rows (face_of_arc a) g = glued_is rows (face_of_arc a) g w.table m.glued in
      let back : MeetsBack rows coords xs a g = meets_back rows coords xs w a g m in
      let f : ℕ = image g.perm a.face in
      let v : ℕ = image g.perm a.vertex in
      let p : Bool = looks_positive coords xs a in
      let q : Bool = looks_positive coords xs (arc_across g a) in
      let i : ℕ = reversed_if (looks_positive coords xs a) k in
      let li : reversed_if (looks_positive coords xs a) k < 2 = turned_low (looks_positive coords xs a) k l in
      let place : a.place < arcs_around coords xs a.tet a.face a.vertex = m.there in
      let many = arcs_twice rows coords xs w a.tet a.face a.vertex in
      record {
        arc = arc_at a.tet a.face a.vertex (2 * a.place + i);
        meets = record { in_range = m.in_range; is_vertex = m.is_vertex; off_vertex = m.off_vertex; there = omega arith; glued = m.glued };
        here = lifted rows coords xs w a.tet a.face a.vertex m.in_range x.face m.is_vertex m.off_vertex a.place i m.there li ∙ ap (lift (disc_of coords xs a)) (from_end_twice 2 p k l);
        there = lifted rows coords xs w g.tet f v x.other_tet x.other_face (image_below g.perm a.vertex x.permutes m.is_vertex) (images_apart g.perm a.vertex a.face x.permutes m.is_vertex x.face m.off_vertex) a.place i (back.meets).there li
            ∙ ap (lift (disc_of coords xs (arc_across g a))) (turned_both p q k l);
      }

  -- a chain of arcs, from either of the two discs parallel to its first
  record HasLiftedChain (p q : NormalDisc) (k : ℕ) : Type 0 where
    end : ℕ
    low : end < 2
    arcs : List Arc
    leads : ArcsLead rows coords (multiple 2 xs) (lift p k) arcs (lift q end)

  lifted_chain : (p q : NormalDisc) (arcs : List Arc) (k : ℕ) → k < 2 → ArcsLead rows coords xs p arcs q → HasLiftedChain p q k
  lifted_chain p q [] k l e = record { end = k; low = l; arcs = []; leads = ap (λ z. lift z k) e }
  lifted_chain p q (a ∷ arcs) k l (g, m, e, more) =
      let c : IsCrossing a g k = crossing a g k l m in
      let r : HasLiftedChain (disc_of coords xs (arc_across g a)) q (reversed_if (keeps_sides coords xs a g) k) =
      lifted_chain (disc_of coords xs (arc_across g a)) q arcs (reversed_if (keeps_sides coords xs a g) k) (turned_low (keeps_sides coords xs a g) k l) more in
      record {
        end = r.end;
        low = r.low;
        arcs = c.arc ∷ r.arcs;
        leads = (g, c.meets, c.here ∙ ap (λ z. lift z k) e, subst (λ z. ArcsLead rows coords (multiple 2 xs) z r.arcs (lift q r.end)) (sym c.there) r.leads);
      }

  -- the discs parallel to a disc are discs of the double, and each of these is one of them
  pub lift_piece : (p : NormalDisc) (k : ℕ) → k < 2 → IsPieceOf xs p → IsPieceOf (multiple 2 xs) (lift p k)
  lift_piece p k l h =
      let e : slice_index (multiple 2 xs) p.column ≡ 2 * slice_index xs p.column = entry-multiple 2 xs p.column in
      let a : p.number < slice_index xs p.column = h.number in
      let b : p.column < length xs = h.column in
      let c : length (multiple 2 xs) ≡ length xs = length-multiple 2 xs in
      record { column = omega arith; number = omega arith }

  pub record IsLifted (q : NormalDisc) : Type 0 where
    pub from : NormalDisc
    pub piece : IsPieceOf xs from
    pub side : ℕ
    pub low : side < 2
    pub is : lift from side ≡ q

  pub lifted_from : (q : NormalDisc) → IsPieceOf (multiple 2 xs) q → IsLifted q
  lifted_from q h =
      let e : slice_index (multiple 2 xs) q.column ≡ 2 * slice_index xs q.column = entry-multiple 2 xs q.column in
      let a : q.number < slice_index (multiple 2 xs) q.column = h.number in
      let b : q.column < length (multiple 2 xs) = h.column in
      let c : length (multiple 2 xs) ≡ length xs = length-multiple 2 xs in
      record {
        from = piece_at q.column (q.number / 2);
        piece = record { column = omega arith; number = omega arith };
        side = q.number % 2;
        low = omega arith;
        is = ap (piece_at q.column) (let z : 2 * (q.number / 2) + q.number % 2 ≡ q.number = omega arith in z);
      }

  module _ (components : List ℕ) (one : AreComponents rows coords xs components 1) (classes : List ℕ) (count : ℕ) (are : AreComponents rows coords (multiple 2 xs) classes count) where
    abbrev pub class_of : NormalDisc → ℕ
    class_of p = slice_index classes (disc_number (multiple 2 xs) p)

    joined_class : (p q : NormalDisc) (arcs : List Arc) → IsPieceOf (multiple 2 xs) p → IsPieceOf (multiple 2 xs) q → ArcsLead rows coords (multiple 2 xs) p arcs q → class_of p ≡ class_of q
    joined_class p q arcs hp hq c =
        let f : IsFound ys p = piece_found ys p hp in
        let g : IsFound ys q = piece_found ys q hq in
        (are.together (disc_number ys p) (disc_number ys q) f.in_range g.in_range).1 (arcs, subst₂ (λ a b. ArcsLead rows coords ys a arcs b) (sym f.there) (sym g.there) c)

    -- any two discs of the surface are joined
    chain_between : (p q : NormalDisc) → IsPieceOf xs p → IsPieceOf xs q → (arcs : List Arc) × ArcsLead rows coords xs p arcs q
    chain_between p q hp hq =
        let f : IsFound xs p = piece_found xs p hp in
        let g : IsFound xs q = piece_found xs q hq in
        let a : slice_index components (disc_number xs p) < 1 = one.in_range (disc_number xs p) f.in_range in
        let b : slice_index components (disc_number xs q) < 1 = one.in_range (disc_number xs q) g.in_range in
        let c = (one.together (disc_number xs p) (disc_number xs q) f.in_range g.in_range).0 (omega arith) in
        (c.0, subst₂ (λ a b. ArcsLead rows coords xs a c.0 b) f.there g.there c.1)

    -- the disc on either side of p is in the component of a disc parallel to q
    pub class_along : (p q : NormalDisc) (k : ℕ) → k < 2 → IsPieceOf xs p → IsPieceOf xs q → (class_of (lift p k) ≡ class_of (lift q 0)) ⊎ (class_of (lift p k) ≡ class_of (lift q 1))
    class_along p q k l hp hq =
        let c = chain_between p q hp hq in
        let r : HasLiftedChain p q k = lifted_chain p q c.0 k l c.1 in
        let e : class_of (lift p k) ≡ class_of (lift q r.end) = joined_class (lift p k) (lift q r.end) r.arcs (lift_piece p k l hp) (lift_piece q r.end r.low hq) r.leads in
        let low = r.low in
        elim (cases_eq r.end 0) [
          | inl z ↦ inl (e ∙ ap (λ j. class_of (lift q j)) z)
          | inr nz ↦ inr (e ∙ ap (λ j. class_of (lift q j)) (let z : r.end ≡ 1 = omega arith in z))
        ]

    pub start : IsPieceOf xs (slice_index_or (discs_of xs) (one.none_empty 0 (omega arith)).0 no_piece)
    start = listed_piece xs (one.none_empty 0 (omega arith)).0 no_piece (one.none_empty 0 (omega arith)).1

    abbrev pub first : NormalDisc
    first = slice_index_or (discs_of xs) (one.none_empty 0 (omega arith)).0 no_piece

    -- if the two discs parallel to one disc are in one component, all are
    all_one : class_of (lift first 0) ≡ class_of (lift first 1) → (q : NormalDisc) → IsPieceOf (multiple 2 xs) q → class_of q ≡ class_of (lift first 0)
    all_one e q h =
        let r : IsLifted q = lifted_from q h in
        ap class_of (sym r.is) ∙ elim (class_along r.from first r.side r.low r.piece start) [ inl a ↦ a | inr a ↦ a ∙ sym e ]

    one_alone : class_of (lift first 0) ≡ class_of (lift first 1) → count ≡ 1
    one_alone e =
        let f : IsFound ys (lift first 0) = piece_found ys (lift first 0) (lift_piece first 0 (omega arith) start) in
        let low : class_of (lift first 0) < count = are.in_range (disc_number ys (lift first 0)) f.in_range in
        elim (cases_lt 1 count) [
          | inr most ↦ omega arith
          | inl more ↦ absurd (
              let a = are.none_empty 0 (omega arith) in
              let b = are.none_empty 1 more in
              let p : slice_index classes a.0 ≡ class_of (lift first 0) = ap (slice_index classes) (sym (number-piece ys a.0 no_piece a.1)) ∙ all_one e (slice_index_or (discs_of ys) a.0 no_piece) (listed_piece ys a.0 no_piece a.1) in
              let q : slice_index classes b.0 ≡ class_of (lift first 0) = ap (slice_index classes) (sym (number-piece ys b.0 no_piece b.1)) ∙ all_one e (slice_index_or (discs_of ys) b.0 no_piece) (listed_piece ys b.0 no_piece b.1) in
              let zero_there : slice_index classes a.0 ≡ 0 = a.2 in
              let one_there : slice_index classes b.0 ≡ 1 = b.2 in
              omega arith)
        ]

    -- if they are in two components, these are the sides of the surface
    module _ (two : class_of (lift first 0) ≢ class_of (lift first 1)) where
      separate : (p : NormalDisc) → IsPieceOf xs p → class_of (lift p 0) ≢ class_of (lift p 1)
      separate p h e = two (at 0 (omega arith) ∙ sym (at 1 (omega arith)))
        where
          at : (k : ℕ) → k < 2 → class_of (lift first k) ≡ class_of (lift p 0)
          at k l = elim (class_along first p k l start h) [ inl a ↦ a | inr a ↦ a ∙ sym e ]

      of_number : ℕ → NormalDisc
      of_number i = slice_index_or (discs_of xs) i no_piece

      sign : ℕ → Bool
      sign i = class_of (lift (slice_index_or (discs_of xs) i no_piece) 0) == class_of (lift first 0)

      sign_at : (p : NormalDisc) → IsPieceOf xs p → sign (disc_number xs p) ≡ (class_of (lift p 0) == class_of (lift first 0))
      unfolding sign
      sign_at p h = ap (λ z. class_of (lift z 0) == class_of (lift first 0)) (piece_found xs p h).there

      across : (a : Arc) (g : Gluing) → Meets rows coords xs a g → (b : Bool) → keeps_sides coords xs a g ≡ b
          → (class_of (lift (disc_of coords xs (arc_across g a)) 0) == class_of (lift first 0))
          ≡ (if keeps_sides coords xs a g then class_of (lift (disc_of coords xs a) 0) == class_of (lift first 0) else not (class_of (lift (disc_of coords xs a) 0) == class_of (lift first 0)))
      across a g m b t = go b t
        where
          p : NormalDisc
          p = disc_of coords xs a

          q : NormalDisc
          q = disc_of coords xs (arc_across g a)

          hp : IsPieceOf xs (disc_of coords xs a)
          hp = piece_there rows coords xs w a g m

          hq : IsPieceOf xs (disc_of coords xs (arc_across g a))
          hq = piece_there rows coords xs w (arc_across g a) (inverse_gluing (face_of_arc a) g) (meets_back rows coords xs w a g m).meets

          one_step : (k : ℕ) → k < 2 → class_of (lift (disc_of coords xs a) k) ≡ class_of (lift (disc_of coords xs (arc_across g a)) (reversed_if (keeps_sides coords xs a g) k))
          one_step k l =
              let c : IsCrossing a g k = crossing a g k l m in
              joined_class (lift (disc_of coords xs a) k) (lift (disc_of coords xs (arc_across g a)) (reversed_if (keeps_sides coords xs a g) k)) (c.arc ∷ [])
              (lift_piece (disc_of coords xs a) k l hp) (lift_piece (disc_of coords xs (arc_across g a)) (reversed_if (keeps_sides coords xs a g) k) (turned_low (keeps_sides coords xs a g) k l) hq)
              (g, c.meets, c.here, c.there)

          go : (b : Bool) → keeps_sides coords xs a g ≡ b → (class_of (lift (disc_of coords xs (arc_across g a)) 0) == class_of (lift first 0)) ≡ same_if (class_of (lift (disc_of coords xs a) 0) == class_of (lift first 0)) (keeps_sides coords xs a g)
          go true t =
              let same : class_of (lift (disc_of coords xs a) 0) ≡ class_of (lift (disc_of coords xs (arc_across g a)) 0) = one_step 0 (omega arith) ∙ ap (λ b. class_of (lift (disc_of coords xs (arc_across g a)) (reversed_if b 0))) t in
              ap (λ c. c == class_of (lift first 0)) (sym same) ∙ sym (ap (same_if (class_of (lift (disc_of coords xs a) 0) == class_of (lift first 0))) t)
          go false t =
              let same : class_of (lift (disc_of coords xs a) 1) ≡ class_of (lift (disc_of coords xs (arc_across g a)) 0) = one_step 1 (omega arith) ∙ ap (λ b. class_of (lift (disc_of coords xs (arc_across g a)) (reversed_if b 1))) t in
              ap (λ c. c == class_of (lift first 0)) (sym same)
              ∙ equals_one_of_two (class_of (lift (disc_of coords xs a) 0)) (class_of (lift (disc_of coords xs a) 1)) (class_of (lift first 0)) (separate (disc_of coords xs a) hp) (class_along first (disc_of coords xs a) 0 (omega arith) start hp)
              ∙ sym (ap (same_if (class_of (lift (disc_of coords xs a) 0) == class_of (lift first 0))) t)

      pub two_sided : IsTwoSided rows coords xs components 0
      two_sided = (
        sign,
        λ a g m e.
            let hp : IsPieceOf xs (disc_of coords xs a) = piece_there rows coords xs w a g m in
            let hq : IsPieceOf xs (disc_of coords xs (arc_across g a)) = piece_there rows coords xs w (arc_across g a) (inverse_gluing (face_of_arc a) g) (meets_back rows coords xs w a g m).meets in
            sign_at (disc_of coords xs (arc_across g a)) hq ∙ across a g m (keeps_sides coords xs a g) refl
            ∙ sym (ap (λ b. if keeps_sides coords xs a g then b else not b) (sign_at (disc_of coords xs a) hp)),
      )

pub double_connected : (s : Skeleton) (coords : Coords) (xs : List ℕ) (c : IsConnectedSurface s coords xs) → ¬ IsTwoSided s.rows coords xs c.components 0
    → IsConnectedSurface s coords (multiple 2 xs)
double_connected s coords xs c one_sided =
    let w : IsSurface s.rows coords xs = c.surface in
    let d : IsSurface s.rows coords (multiple 2 xs) = double_surface s.rows coords xs c.surface in
    let f : HasComponents s.rows coords (multiple 2 xs) = components_found s.rows coords (multiple 2 xs) d in
    elim (cases_eq (class_of s.rows coords xs c.surface c.components c.one f.components f.count f.are (lift (first s.rows coords xs c.surface c.components c.one f.components f.count f.are) 0))
    (class_of s.rows coords xs c.surface c.components c.one f.components f.count f.are (lift (first s.rows coords xs c.surface c.components c.one f.components f.count f.are) 1))) [
      | inl same ↦ record { surface = d; components = f.components; one = subst (AreComponents s.rows coords (multiple 2 xs) f.components) (one_alone s.rows coords xs c.surface c.components c.one f.components f.count f.are same) f.are }
      | inr two ↦ absurd (one_sided (two_sided s.rows coords xs c.surface c.components c.one f.components f.count f.are two))
    ]
