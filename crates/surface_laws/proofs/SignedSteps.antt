-- Pieces with signs are joined by arcs: signs of a component exist if and only if no piece is joined to itself with the
-- other sign.
use Rattle.std.proofs.Common.{◌≡◌, ℕ, zero, suc, ◌+◌, ◌*◌, ◌/◌, ◌%◌, ◌<◌, Bool, true, false, not, List, [], ◌∷◌, length, Contains, ◌⊎◌, inl, inr, refl, sym, ap, ◌∙◌, arith}
use Rattle.std.specs.Prelude.{◌==◌, if◌then◌else◌, slice_index}
use Rattle.std.specs.List.{slice_index_or}
use Rattle.basic_lemmas.proofs.Numbers.{equals_one_of_two}
use Rattle.basic_lemmas.proofs.Truths.{not_itself, agree_if}
use Rattle.table_walk_laws.specs.Joined.{LeadsBy, IsJoined, IsSymmetric, HasNeighboursBelow}
use Rattle.table_definitions.specs.Classes.{IsNumbering}
use Rattle.table_definitions.specs.Permutation.{is_odd, inverse}
use Rattle.table_definitions.specs.Table.{Gluing, Row, inverse_gluing}
use Rattle.table_definitions.proofs.Permutations.{is_odd-inverse}
use Rattle.skeleton_definitions.proofs.Signs.{says, says_behind}
use Rattle.surface_definitions.specs.declared.Coords.{Coords}
use Rattle.surface_definitions.specs.Pieces.{NormalDisc, Arc, arc_across, disc_of, discs_of, disc_number, Meets, ArcsLead, SamePiece, AreComponents, HasSigns, looks_positive, keeps_sides}
use Rattle.surface_laws.specs.PieceLaws.{IsSurface, face_of_arc, MeetsBack, IsFreePiece, reversed_if}
use Rattle.surface_laws.proofs.MeetingArcs.{meets_back}
use Rattle.surface_laws.proofs.PieceNumbers.{no_piece, IsFound, piece_found, number-piece}
use Rattle.surface_laws.proofs.ComponentSurfaces.{piece_there, one_component}

turned_low : (b : Bool) (k : ℕ) → k < 2 → reversed_if b k < 2
turned_low true k l = l
turned_low false k l = omega arith

turned_twice : (b : Bool) (k : ℕ) → k < 2 → reversed_if b (reversed_if b k) ≡ k
turned_twice true k l = refl
turned_twice false k l = omega arith

-- an arc joins a piece with a sign to a piece with a sign
pub record SignedStep (rows : List Row) (coords : Coords) (xs : List ℕ) (stays : Arc → Gluing → Bool) (k l : ℕ) : Type 0 where
  pub arc : Arc
  pub gluing : Gluing
  pub meets : Meets rows coords xs arc gluing
  pub one : disc_number xs (disc_of coords xs arc) ≡ k / 2
  pub other : 2 * disc_number xs (disc_of coords xs (arc_across gluing arc)) + reversed_if (stays arc gluing) (k % 2) ≡ l

module _ (rows : List Row) (coords : Coords) (xs : List ℕ) (s : IsSurface rows coords xs) where
  -- whether a gluing keeps sides does not depend on the side from which it is read
  pub sides_back : (a : Arc) (g : Gluing) → Meets rows coords xs a g → keeps_sides coords xs (arc_across g a) (inverse_gluing (face_of_arc a) g) ≡ keeps_sides coords xs a g
  sides_back a g m =
      let b : MeetsBack rows coords xs a g = meets_back rows coords xs s a g m in
      ap (λ (c : Arc). if looks_positive coords xs (arc_across g a) then looks_positive coords xs c else not (looks_positive coords xs c)) b.same
      ∙ agree_if (looks_positive coords xs a) (looks_positive coords xs (arc_across g a))

  -- whether a gluing keeps the orientation
  abbrev pub stays_oriented : Arc → Gluing → Bool
  stays_oriented a g = if is_odd g.perm then keeps_sides coords xs a g else not (keeps_sides coords xs a g)

  pub orientation_back : (a : Arc) (g : Gluing) → Meets rows coords xs a g → stays_oriented (arc_across g a) (inverse_gluing (face_of_arc a) g) ≡ stays_oriented a g
  orientation_back a g m =
      let odd : is_odd (inverse g.perm) ≡ is_odd g.perm = is_odd-inverse g.perm ((s.table).permutes (face_of_arc a) g m.glued) in
      (λ i. if odd i then sides_back a g m i else not (sides_back a g m i))

  -- the piece of an arc that meets another is one of the vector's
  pub arc_found : (a : Arc) (g : Gluing) → Meets rows coords xs a g → IsFound xs (disc_of coords xs a)
  arc_found a g m = piece_found xs (disc_of coords xs a) (piece_there rows coords xs s a g m)

  module _ (stays : Arc → Gluing → Bool) (stays_back : (a : Arc) (g : Gluing) → Meets rows coords xs a g → stays (arc_across g a) (inverse_gluing (face_of_arc a) g) ≡ stays a g)
      (signed : ℕ → List ℕ) (step_of : (k l : ℕ) → Contains (signed k) l → SignedStep rows coords xs stays k l) (of_step : (k l : ℕ) → SignedStep rows coords xs stays k l → Contains (signed k) l) where
    abbrev n : ℕ
    n = length (discs_of xs)

    abbrev piece : Arc → ℕ
    piece a = disc_number xs (disc_of coords xs a)

    parts : (q k l : ℕ) → k < 2 → 2 * q + k ≡ l → (l / 2 ≡ q) × (l % 2 ≡ k)
    parts q k l h e = (omega arith, omega arith)

    pub steps_below : HasNeighboursBelow (2 * n) signed
    steps_below k l h c =
        let p : SignedStep rows coords xs stays k l = step_of k l c in
        let b : MeetsBack rows coords xs p.arc p.gluing = meets_back rows coords xs s p.arc p.gluing p.meets in
        let f : piece (arc_across p.gluing p.arc) < n = (arc_found (arc_across p.gluing p.arc) (inverse_gluing (face_of_arc p.arc) p.gluing) b.meets).in_range in
        let low : k % 2 < 2 = omega arith in
        let t : reversed_if (stays p.arc p.gluing) (k % 2) < 2 = turned_low (stays p.arc p.gluing) (k % 2) low in
        let e : 2 * piece (arc_across p.gluing p.arc) + reversed_if (stays p.arc p.gluing) (k % 2) ≡ l = p.other in
        omega arith

    pub steps_back : IsSymmetric signed
    steps_back k l c =
        let p : SignedStep rows coords xs stays k l = step_of k l c in
        let b : MeetsBack rows coords xs p.arc p.gluing = meets_back rows coords xs s p.arc p.gluing p.meets in
        let low : k % 2 < 2 = omega arith in
        let q : ℕ = piece (arc_across p.gluing p.arc) in
        let r : (l / 2 ≡ q) × (l % 2 ≡ reversed_if (stays p.arc p.gluing) (k % 2)) = parts q (reversed_if (stays p.arc p.gluing) (k % 2)) l (turned_low (stays p.arc p.gluing) (k % 2) low) p.other in
        let back : piece (arc_across (inverse_gluing (face_of_arc p.arc) p.gluing) (arc_across p.gluing p.arc)) ≡ k / 2 = ap (λ (a : Arc). piece a) b.same ∙ p.one in
        let sign : reversed_if (stays (arc_across p.gluing p.arc) (inverse_gluing (face_of_arc p.arc) p.gluing)) (l % 2) ≡ k % 2 =
        (λ i. reversed_if (stays_back p.arc p.gluing p.meets i) (r.1 i)) ∙ turned_twice (stays p.arc p.gluing) (k % 2) low in
        let whole : 2 * (k / 2) + k % 2 ≡ k = omega arith in
        of_step l k (record { arc = arc_across p.gluing p.arc; gluing = inverse_gluing (face_of_arc p.arc) p.gluing; meets = b.meets; one = sym r.0; other = (λ i. 2 * back i + sign i) ∙ whole })

    module _ (classes : List ℕ) (number : ℕ) (numbered : IsNumbering (2 * n) (IsJoined signed) classes number) where
      abbrev class_of : ℕ → ℕ
      class_of k = slice_index classes k

      -- an arc joins a piece with a sign to the next piece
      class_across : (a : Arc) (g : Gluing) → Meets rows coords xs a g → (k : ℕ) → k < 2 → class_of (2 * piece a + k) ≡ class_of (2 * piece (arc_across g a) + reversed_if (stays a g) k)
      class_across a g m k l =
          let b : MeetsBack rows coords xs a g = meets_back rows coords xs s a g m in
          let p : ℕ = 2 * piece a + k in
          let q : ℕ = 2 * piece (arc_across g a) + reversed_if (stays a g) k in
          let t : reversed_if (stays a g) k < 2 = turned_low (stays a g) k l in
          let fa : piece a < n = (arc_found a g m).in_range in
          let fb : piece (arc_across g a) < n = (arc_found (arc_across g a) (inverse_gluing (face_of_arc a) g) b.meets).in_range in
          let lp : p < 2 * n = omega arith in
          let lq : q < 2 * n = omega arith in
          let r : (p / 2 ≡ piece a) × (p % 2 ≡ k) = parts (piece a) k p l refl in
          let step : Contains (signed p) q = of_step p q (record { arc = a; gluing = g; meets = m; one = sym r.0; other = ap (λ i. 2 * piece (arc_across g a) + reversed_if (stays a g) i) r.1 }) in
          (numbered.together p q lp lq).1 (q ∷ [], (step, refl))

      -- along a chain of arcs, the class of the first piece with a sign is that of the last piece with one of the two
      -- signs
      class_along : (arcs : List Arc) (p q : NormalDisc) (k : ℕ) → k < 2 → ArcsLead rows coords xs p arcs q
          → (class_of (2 * disc_number xs p + k) ≡ class_of (2 * disc_number xs q + 0)) ⊎ (class_of (2 * disc_number xs p + k) ≡ class_of (2 * disc_number xs q + 1))
      class_along [] p q zero l e = inl (ap (λ (u : NormalDisc). class_of (2 * disc_number xs u + 0)) e)
      class_along [] p q (suc zero) l e = inr (ap (λ (u : NormalDisc). class_of (2 * disc_number xs u + 1)) e)
      class_along [] p q (suc (suc k)) l e = absurd (omega arith)
      class_along (a ∷ arcs) p q k l (g, m, e, h) =
          let next : NormalDisc = disc_of coords xs (arc_across g a) in
          let here : class_of (2 * disc_number xs p + k) ≡ class_of (2 * disc_number xs next + reversed_if (stays a g) k) = ap (λ (u : NormalDisc). class_of (2 * disc_number xs u + k)) (sym e) ∙ class_across a g m k l in
          elim (class_along arcs next q (reversed_if (stays a g) k) (turned_low (stays a g) k l) h) [ inl f ↦ inl (here ∙ f) | inr f ↦ inr (here ∙ f) ]

      module _ (components : List ℕ) (count : ℕ) (are : AreComponents rows coords xs components count) (i : ℕ) where
        -- if there are signs, no piece is joined to itself with the other sign
        abbrev value : (ℕ → Bool) → ℕ → Bool
        value sign k = says (k % 2) (sign (k / 2))

        same_value : (signs : HasSigns rows coords xs components i stays) (path : List ℕ) (k l : ℕ) → slice_index components (k / 2) ≡ i → LeadsBy (λ a b. Contains (signed a) b) k path l → value signs.0 l ≡ value signs.0 k
        same_value signs [] k l c e = ap (value signs.0) (sym e)
        same_value signs (j ∷ path) k l c h =
            let p : SignedStep rows coords xs stays k j = step_of k j h.0 in
            let q : ℕ = piece (arc_across p.gluing p.arc) in
            let low : k % 2 < 2 = omega arith in
            let r : (j / 2 ≡ q) × (j % 2 ≡ reversed_if (stays p.arc p.gluing) (k % 2)) = parts q (reversed_if (stays p.arc p.gluing) (k % 2)) j (turned_low (stays p.arc p.gluing) (k % 2) low) p.other in
            let in_one : slice_index components (piece p.arc) ≡ i = ap (slice_index components) p.one ∙ c in
            let in_other : slice_index components (j / 2) ≡ i = ap (slice_index components) r.0 ∙ sym (one_component rows coords xs s components count are p.arc p.gluing p.meets) ∙ in_one in
            let here : value signs.0 j ≡ value signs.0 k =
            (λ t. says (r.1 t) (signs.0 (r.0 t)))
            ∙ says_behind (stays p.arc p.gluing) (k % 2) (signs.0 (piece p.arc)) (signs.0 q) low (signs.1 p.arc p.gluing p.meets in_one) ∙ ap (λ u. says (k % 2) (signs.0 u)) p.one in
            same_value signs path j l in_other h.1 ∙ here

        pub free_by_signs : HasSigns rows coords xs components i stays → (p : ℕ) → p < n → IsFreePiece classes components i p
        free_by_signs signs p lp e same =
            let zero_sign : 2 * p + 0 ≡ 2 * p = omega arith in
            let j : IsJoined signed (2 * p + 0) (2 * p + 1) = (numbered.together (2 * p + 0) (2 * p + 1) (omega arith) (omega arith)).0 (ap class_of zero_sign ∙ same) in
            let z : (2 * p + 0) / 2 ≡ p = omega arith in
            let o : (2 * p + 1) / 2 ≡ p = omega arith in
            let zm : (2 * p + 0) % 2 ≡ 0 = omega arith in
            let om : (2 * p + 1) % 2 ≡ 1 = omega arith in
            let v : value signs.0 (2 * p + 1) ≡ value signs.0 (2 * p + 0) = same_value signs j.0 (2 * p + 0) (2 * p + 1) (ap (slice_index components) z ∙ e) j.1 in
            let first : value signs.0 (2 * p + 0) ≡ signs.0 p = (λ t. says (zm t) (signs.0 (z t))) in
            let second : value signs.0 (2 * p + 1) ≡ not (signs.0 p) = (λ t. says (om t) (signs.0 (o t))) in
            not_itself (signs.0 p) (sym first ∙ sym v ∙ second)

        -- if no piece is joined to itself with the other sign there are signs: whether the class is that of the first
        -- piece
        pub signs_by_free : i < count → ((p : ℕ) → p < n → IsFreePiece classes components i p) → HasSigns rows coords xs components i stays
        signs_by_free li free = ((λ p. class_of (2 * p + 0) == class_of (2 * start.0 + 0)), λ a g m e. at a g m e (stays a g) refl)
          where
            start : (p : ℕ) × (p < n) × (slice_index components p ≡ i)
            start = are.none_empty i li

            from_start : (p : ℕ) → p < n → slice_index components p ≡ i → (class_of (2 * start.0 + 0) ≡ class_of (2 * p + 0)) ⊎ (class_of (2 * start.0 + 0) ≡ class_of (2 * p + 1))
            from_start p lp e =
                let joined : SamePiece rows coords xs start.0 p = (are.together start.0 p start.1 lp).0 (start.2 ∙ sym e) in
                let f : disc_number xs (slice_index_or (discs_of xs) start.0 no_piece) ≡ start.0 = number-piece xs start.0 no_piece start.1 in
                let h : disc_number xs (slice_index_or (discs_of xs) p no_piece) ≡ p = number-piece xs p no_piece lp in
                elim (class_along joined.0 (slice_index_or (discs_of xs) start.0 no_piece) (slice_index_or (discs_of xs) p no_piece) 0 (omega arith) joined.1) [
                  | inl c ↦ inl (ap (λ u. class_of (2 * u + 0)) (sym f) ∙ c ∙ ap (λ u. class_of (2 * u + 0)) h)
                  | inr c ↦ inr (ap (λ u. class_of (2 * u + 0)) (sym f) ∙ c ∙ ap (λ u. class_of (2 * u + 1)) h)
                ]

            at : (a : Arc) (g : Gluing) → Meets rows coords xs a g → slice_index components (piece a) ≡ i → (b : Bool) → stays a g ≡ b
                → (class_of (2 * piece (arc_across g a) + 0) == class_of (2 * start.0 + 0))
                ≡ (if stays a g then class_of (2 * piece a + 0) == class_of (2 * start.0 + 0) else not (class_of (2 * piece a + 0) == class_of (2 * start.0 + 0)))
            at a g m e true t =
                let same : class_of (2 * piece a + 0) ≡ class_of (2 * piece (arc_across g a) + 0) = class_across a g m 0 (omega arith) ∙ ap (λ b. class_of (2 * piece (arc_across g a) + reversed_if b 0)) t in
                ap (λ c. c == class_of (2 * start.0 + 0)) (sym same)
                ∙ sym (ap (λ b. if b then class_of (2 * piece a + 0) == class_of (2 * start.0 + 0) else not (class_of (2 * piece a + 0) == class_of (2 * start.0 + 0))) t)
            at a g m e false t =
                let la : piece a < n = (arc_found a g m).in_range in
                let zero_sign : 2 * piece a + 0 ≡ 2 * piece a = omega arith in
                let same : class_of (2 * piece a + 1) ≡ class_of (2 * piece (arc_across g a) + 0) = class_across a g m 1 (omega arith) ∙ ap (λ b. class_of (2 * piece (arc_across g a) + reversed_if b 1)) t in
                ap (λ c. c == class_of (2 * start.0 + 0)) (sym same)
                ∙ equals_one_of_two (class_of (2 * piece a + 0)) (class_of (2 * piece a + 1)) (class_of (2 * start.0 + 0)) (λ f. free (piece a) la e (sym (ap class_of zero_sign) ∙ f)) (from_start (piece a) la e)
                ∙ sym (ap (λ b. if b then class_of (2 * piece a + 0) == class_of (2 * start.0 + 0) else not (class_of (2 * piece a + 0) == class_of (2 * start.0 + 0))) t)
