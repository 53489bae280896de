-- A component and its image are both two-sided or neither is, and both orientable or neither is.
use Rattle.std.proofs.Common.{◌≡◌, ℕ, ◌/◌, ◌%◌, Bool, true, false, not, List, [], length, refl, sym, ap, ◌∙◌, subst}
use Rattle.std.specs.Prelude.{slice_index, if◌then◌else◌}
use Rattle.std.specs.List.{slice_index_or}
use mathlib.Core.Bool.{beq}
use Rattle.cone_definitions.specs.Surfaces.{IsAdmissible}
use Rattle.table_definitions.specs.Permutation.{is_odd, inverse, compose}
use Rattle.table_definitions.specs.Table.{Gluing, Row}
use Rattle.table_definitions.specs.Relabelling.{Relabelling, IsRelabelling, Carries}
use Rattle.table_definitions.proofs.Carried.{perm_permutes}
use Rattle.table_definitions.proofs.Faces.{face_at}
use Rattle.table_definitions.proofs.Permutations.{is_odd-compose, is_odd-inverse, compose_permutes, inverse_permutes}
use Rattle.table_definitions.proofs.TableLaws.{glued_face}
use Rattle.surface_definitions.specs.Coordinates.{columns_each, clash_list}
use Rattle.surface_definitions.specs.declared.Coords.{Coords}
use Rattle.surface_definitions.specs.Pieces.{NormalDisc, Arc, arc_across, disc_of, discs_of, disc_number, Meets, looks_positive, keeps_sides, HasSigns, IsTwoSided, IsOrientableComponent}
use Rattle.surface_laws.specs.PieceLaws.{IsSurface, IsPieceOf}
use Rattle.surface_laws.proofs.ArcPieces.{arc_piece, arc_in}
use Rattle.surface_laws.proofs.MeetingArcs.{meets_back}
use Rattle.surface_laws.proofs.PieceNumbers.{no_piece, piece_found, IsFound}
use Rattle.surface_relabelling_laws.proofs.Columns.{IsCarried}
use Rattle.surface_relabelling_laws.proofs.Discs.{stays, disc_under, arc_under, looks_image}
use Rattle.surface_relabelling_laws.proofs.Chains.{disc_at, glued_to, meets_image, across_image, disc_across}

-- ---- tests of signs

as_beq : (b s : Bool) → (if b then s else not s) ≡ beq b s
as_beq true true = refl
as_beq true false = refl
as_beq false true = refl
as_beq false false = refl

-- signs that are turned where the twists say so
turned_signs : (test w x sign sign' : Bool) → sign' ≡ beq (beq test (beq w x)) sign → beq sign' x ≡ beq test (beq sign w)
turned_signs test w x sign sign' e = ap (λ b. beq b x) e ∙ all test w x sign
  where
    all : (test w x sign : Bool) → beq (beq (beq test (beq w x)) sign) x ≡ beq test (beq sign w)
    all true true true true = refl
    all true true true false = refl
    all true true false true = refl
    all true true false false = refl
    all true false true true = refl
    all true false true false = refl
    all true false false true = refl
    all true false false false = refl
    all false true true true = refl
    all false true true false = refl
    all false true false true = refl
    all false true false false = refl
    all false false true true = refl
    all false false true false = refl
    all false false false true = refl
    all false false false false = refl

-- both sides looked at, under twists
both_looks : (a b w x : Bool) → beq (beq a w) (beq b x) ≡ beq (beq a b) (beq w x)
both_looks true true true true = refl
both_looks true true true false = refl
both_looks true true false true = refl
both_looks true true false false = refl
both_looks true false true true = refl
both_looks true false true false = refl
both_looks true false false true = refl
both_looks true false false false = refl
both_looks false true true true = refl
both_looks false true true false = refl
both_looks false true false true = refl
both_looks false true false false = refl
both_looks false false true true = refl
both_looks false false true false = refl
both_looks false false false true = refl
both_looks false false false false = refl

beq_comm : (a b : Bool) → beq a b ≡ beq b a
beq_comm true true = refl
beq_comm true false = refl
beq_comm false true = refl
beq_comm false false = refl

module _ (rows : List Row) (new : List Row) (by : Relabelling) (is : IsRelabelling (length rows) by) (carries : Carries by rows new) (coords : Coords)
    (xs ys : List ℕ) (carried : IsCarried coords (length rows) by xs ys) (s : IsSurface rows coords xs) (s' : IsSurface new coords ys)
    (components components' : List ℕ) (component component' : ℕ)
    (same_component : (d : NormalDisc) → IsPieceOf xs d → slice_index components (disc_number xs d) ≡ component → slice_index components' (disc_number ys (disc_under coords by xs d)) ≡ component') where
  abbrev image_of : Gluing → Arc → Gluing
  image_of g a = glued_to rows new by is carries coords xs ys carried s s' a g

  piece : (a : Arc) (g : Gluing) → Meets rows coords xs a g → IsPieceOf xs (disc_of coords xs a)
  piece a g m = arc_piece coords (length rows) xs s.triangles s.admissible a.tet a.face a.vertex m.in_range (glued_face rows (face_at a.tet a.face) g s.table.four_faces m.glued) m.is_vertex m.off_vertex a.place m.there

  -- signs of the image give signs of the surface, if the tests differ by the twists of both discs
  signs_back : (twist : NormalDisc → Bool) (test test' : Arc → Gluing → Bool)
      → ((a : Arc) (g : Gluing) → Meets rows coords xs a g → test' (arc_under by a) (image_of g a) ≡ beq (test a g) (beq (twist (disc_of coords xs a)) (twist (disc_of coords xs (arc_across g a)))))
      → HasSigns new coords ys components' component' test' → HasSigns rows coords xs components component test
  signs_back twist test test' same (sign', h) = (sign, agrees)
    where
      disc : ℕ → NormalDisc
      disc i = slice_index_or (discs_of xs) i no_piece

      sign : ℕ → Bool
      sign i = beq (sign' (disc_number ys (disc_under coords by xs (disc i)))) (twist (disc i))

      sign_at : (d e : NormalDisc) → IsPieceOf xs d → disc_under coords by xs d ≡ e → sign (disc_number xs d) ≡ beq (sign' (disc_number ys e)) (twist d)
      sign_at d e h q =
          let f : IsFound xs d = piece_found xs d h in
          ap (λ (z : NormalDisc). beq (sign' (disc_number ys (disc_under coords by xs z))) (twist z)) f.there ∙ ap (λ (z : NormalDisc). beq (sign' (disc_number ys z)) (twist d)) q

      agrees : (a : Arc) (g : Gluing) → Meets rows coords xs a g → slice_index components (disc_number xs (disc_of coords xs a)) ≡ component
          → sign (disc_number xs (disc_of coords xs (arc_across g a))) ≡ (if test a g then sign (disc_number xs (disc_of coords xs a)) else not (sign (disc_number xs (disc_of coords xs a))))
      agrees a g m of_component =
          let b = meets_back rows coords xs s a g m in
          let m' = meets_image rows new by is carries coords xs ys carried s s' a g m in
          let d' : NormalDisc = disc_of coords ys (arc_under by a) in
          let x' : NormalDisc = disc_of coords ys (arc_across (image_of g a) (arc_under by a)) in
          let there' : slice_index components' (disc_number ys (disc_of coords ys (arc_under by a))) ≡ component' =
          ap (λ (d : NormalDisc). slice_index components' (disc_number ys d)) (disc_at rows new by is carries coords xs ys carried s s' a g m) ∙ same_component (disc_of coords xs a) (piece a g m) of_component in
          let step = h (arc_under by a) (image_of g a) m' there' ∙ as_beq (test' (arc_under by a) (image_of g a)) (sign' (disc_number ys d')) in
          let here : sign (disc_number xs (disc_of coords xs a)) ≡ beq (sign' (disc_number ys d')) (twist (disc_of coords xs a)) =
          sign_at (disc_of coords xs a) d' (piece a g m) (sym (disc_at rows new by is carries coords xs ys carried s s' a g m)) in
          let there : sign (disc_number xs (disc_of coords xs (arc_across g a))) ≡ beq (sign' (disc_number ys x')) (twist (disc_of coords xs (arc_across g a))) =
          sign_at (disc_of coords xs (arc_across g a)) x' (piece (arc_across g a) _ b.meets) (sym (disc_across rows new by is carries coords xs ys carried s s' a g m)) in
          there
          ∙ turned_signs (test a g) (twist (disc_of coords xs a)) (twist (disc_of coords xs (arc_across g a))) (sign' (disc_number ys d')) (sign' (disc_number ys x')) (step ∙ ap (λ t. beq t (sign' (disc_number ys d'))) (same a g m))
          ∙ ap (beq (test a g)) (sym here) ∙ sym (as_beq (test a g) (sign (disc_number xs (disc_of coords xs a))))

  -- whether the image of a disc has its positive side where the disc has it
  abbrev side_stays : NormalDisc → Bool
  side_stays d = stays coords (slice_index_or by.perms (d.column / columns_each coords) []) (d.column % columns_each coords)

  looks : (a : Arc) (g : Gluing) → Meets rows coords xs a g → looks_positive coords ys (arc_under by a) ≡ beq (looks_positive coords xs a) (side_stays (disc_of coords xs a))
  looks a g m = looks_image coords s.triangles (length rows) by is xs ys carried s.admissible (subst (λ n. IsAdmissible (clash_list coords n) ys) carries.same_length s'.admissible)
      a.tet a.face a.vertex m.in_range (glued_face rows (face_at a.tet a.face) g s.table.four_faces m.glued) m.is_vertex m.off_vertex a.place m.there

  sides_same : (a : Arc) (g : Gluing) → Meets rows coords xs a g
      → keeps_sides coords ys (arc_under by a) (image_of g a) ≡ beq (keeps_sides coords xs a g) (beq (side_stays (disc_of coords xs a)) (side_stays (disc_of coords xs (arc_across g a))))
  sides_same a g m =
      let b = meets_back rows coords xs s a g m in
      as_beq (looks_positive coords ys (arc_under by a)) (looks_positive coords ys (arc_across (image_of g a) (arc_under by a)))
      ∙ (λ k. beq (looks a g m k) (looks_positive coords ys (across_image rows new by is carries coords xs ys carried s s' a g m k)))
      ∙ (λ k. beq (beq (looks_positive coords xs a) (side_stays (disc_of coords xs a))) (looks (arc_across g a) _ b.meets k))
      ∙ both_looks (looks_positive coords xs a) (looks_positive coords xs (arc_across g a)) (side_stays (disc_of coords xs a)) (side_stays (disc_of coords xs (arc_across g a)))
      ∙ (λ k. beq (sym (as_beq (looks_positive coords xs a) (looks_positive coords xs (arc_across g a))) k) (beq (side_stays (disc_of coords xs a)) (side_stays (disc_of coords xs (arc_across g a)))))

  pub two_sided_back : IsTwoSided new coords ys components' component' → IsTwoSided rows coords xs components component
  two_sided_back = signs_back side_stays (keeps_sides coords xs) (keeps_sides coords ys) sides_same

  -- the parity of a gluing and of its image
  odd_test : (r g s : Bool) → not (beq r (not (beq g s))) ≡ beq g (beq s r)
  odd_test true true true = refl
  odd_test true true false = refl
  odd_test true false true = refl
  odd_test true false false = refl
  odd_test false true true = refl
  odd_test false true false = refl
  odd_test false false true = refl
  odd_test false false false = refl

  odd_image : (a : Arc) (g : Gluing) → Meets rows coords xs a g → is_odd (image_of g a).perm ≡ beq (is_odd g.perm) (beq (is_odd (slice_index_or by.perms a.tet [])) (is_odd (slice_index_or by.perms g.tet [])))
  odd_image a g m =
      let p : List ℕ = slice_index_or by.perms a.tet [] in
      let r : List ℕ = slice_index_or by.perms g.tet [] in
      let hp = perm_permutes (length rows) by is a.tet m.in_range in
      let hr = perm_permutes (length rows) by is g.tet (s.table.in_range (face_at a.tet a.face) g m.glued) in
      let hg = s.table.permutes (face_at a.tet a.face) g m.glued in
      is_odd-compose r (compose g.perm (inverse p)) hr (compose_permutes g.perm (inverse p) hg (inverse_permutes p hp))
      ∙ ap (λ b. not (beq (is_odd r) b)) (is_odd-compose g.perm (inverse p) hg (inverse_permutes p hp) ∙ ap (λ b. not (beq (is_odd g.perm) b)) (is_odd-inverse p hp))
      ∙ odd_test (is_odd r) (is_odd g.perm) (is_odd p)

  -- whether the image of a disc has its side where the disc has it, and the tetrahedron is relabelled by an odd
  -- permutation, or neither
  abbrev orientation_stays : NormalDisc → Bool
  orientation_stays d = beq (side_stays d) (is_odd (slice_index_or by.perms (d.column / columns_each coords) []))

  tet_of : (a : Arc) (g : Gluing) → Meets rows coords xs a g → (disc_of coords xs a).column / columns_each coords ≡ a.tet
  tet_of a g m = arc_in coords (length rows) xs s.triangles s.admissible a.tet a.face a.vertex a.place m.in_range (glued_face rows (face_at a.tet a.face) g s.table.four_faces m.glued) m.is_vertex m.off_vertex

  four_tests : (g o q k w x : Bool) → beq (beq g (beq o q)) (beq k (beq w x)) ≡ beq (beq g k) (beq (beq w o) (beq x q))
  four_tests g o q k w x = both_looks g k (beq o q) (beq w x) ∙ ap (beq (beq g k)) (beq_comm (beq o q) (beq w x) ∙ sym (both_looks w x o q))

  orientation_same : (a : Arc) (g : Gluing) → Meets rows coords xs a g
      → (if is_odd (image_of g a).perm then keeps_sides coords ys (arc_under by a) (image_of g a) else not (keeps_sides coords ys (arc_under by a) (image_of g a)))
      ≡ beq (if is_odd g.perm then keeps_sides coords xs a g else not (keeps_sides coords xs a g)) (beq (orientation_stays (disc_of coords xs a)) (orientation_stays (disc_of coords xs (arc_across g a))))
  orientation_same a g m =
      let b = meets_back rows coords xs s a g m in
      let o : Bool = is_odd (slice_index_or by.perms a.tet []) in
      let q : Bool = is_odd (slice_index_or by.perms g.tet []) in
      let w : Bool = side_stays (disc_of coords xs a) in
      let x : Bool = side_stays (disc_of coords xs (arc_across g a)) in
      as_beq (is_odd (image_of g a).perm) (keeps_sides coords ys (arc_under by a) (image_of g a))
      ∙ (λ k. beq (odd_image a g m k) (sides_same a g m k))
      ∙ four_tests (is_odd g.perm) o q (keeps_sides coords xs a g) w x
      ∙ (λ k. beq (sym (as_beq (is_odd g.perm) (keeps_sides coords xs a g)) k)
      (beq (beq w (is_odd (slice_index_or by.perms (sym (tet_of a g m) k) []))) (beq x (is_odd (slice_index_or by.perms (sym (tet_of (arc_across g a) _ b.meets) k) [])))))

  pub orientable_back : IsOrientableComponent new coords ys components' component' → IsOrientableComponent rows coords xs components component
  orientable_back = signs_back orientation_stays (λ a g. if is_odd g.perm then keeps_sides coords xs a g else not (keeps_sides coords xs a g))
      (λ a g. if is_odd g.perm then keeps_sides coords ys a g else not (keeps_sides coords ys a g)) orientation_same
