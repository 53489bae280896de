-- Arcs that meet, and the pieces that they join.
use Rattle.std.proofs.Common.{◌≡◌, ℕ, ◌/◌, ◌<◌, Bool, true, false, not, List, length, Option, Some, None, refl, sym, ap, ◌∙◌, subst, arith}
use Rattle.std.specs.Prelude.{sum, if◌then◌else◌}
use mathlib.Core.Bool.{beq}
use Rattle.table_definitions.specs.Permutation.{is_odd}
use Rattle.table_definitions.specs.Table.{Gluing, Row, glue, inverse_gluing}
use Rattle.surface_definitions.specs.Coordinates.{columns_each}
use Rattle.surface_definitions.specs.declared.Coords.{Coords}
use Rattle.surface_definitions.specs.Pieces.{NormalDisc, Arc, arc_across, disc_of, disc_number, looks_positive, keeps_sides, Meets}
use Rattle.surface_laws.specs.PieceLaws.{IsSurface, face_of_arc, MeetsBack, IsPieceOf}
use Rattle.surface_laws.proofs.ArcPieces.{arc_in}
use Rattle.surface_laws.proofs.Glued.{glued_is}
use Rattle.surface_laws.proofs.MeetingArcs.{meets_back}
use Rattle.surface_laws.proofs.ComponentSurfaces.{piece_there}
use Rattle.surface_laws.proofs.PieceNumbers.{piece_found}
use Rattle.surface_laws.proofs.Offsets.{piece_numbers}
use Rattle.surface_pieces.specs.Across.{Across}
use Rattle.surface_pieces.specs.Arcs.{IsArcOf, IsOnlyArcOf, HasNoArc}
use Rattle.surface_pieces.specs.Meetings.{IsMeetingAt, HasNoMeeting}
use Rattle.surface_pieces.specs.Joinings.{IsJoinedAt}

module _ (rows : List Row) (coords : Coords) (xs : List ℕ) (s : IsSurface rows coords xs) where
  pub a_face : (a : Arc) (g : Gluing) → Meets rows coords xs a g → a.face < 4
  a_face a g m = (glued_is rows (face_of_arc a) g s.table m.glued).face

  -- an arc that meets another is an arc of its piece
  pub meets_of : (p : NormalDisc) (f v : ℕ) (a : Arc) (g : Gluing) → Meets rows coords xs a g → a.face ≡ f → a.vertex ≡ v → disc_of coords xs a ≡ p → IsArcOf coords xs p f v a
  meets_of p f v a g m ef ev e =
      let t : (disc_of coords xs a).column / columns_each coords ≡ a.tet = arc_in coords (length rows) xs s.triangles s.admissible a.tet a.face a.vertex a.place m.in_range (a_face a g m) m.is_vertex m.off_vertex in
      record { tet = sym t ∙ ap (λ (q : NormalDisc). q.column / columns_each coords) e; face = ef; vertex = ev; there = m.there; piece = e }

  pub none_meets : (p : NormalDisc) (f v : ℕ) → HasNoArc coords xs p f v → HasNoMeeting rows coords xs p f v
  none_meets p f v none c h m ef ev e = none c (meets_of p f v c h m ef ev e)

  some_same : (g h : Gluing) (o : Option Gluing) → o ≡ Some g → o ≡ Some h → h ≡ g
  some_same g h o e f = let q : Some g ≡ Some h = sym e ∙ f in cc

  none_some : (h : Gluing) (o : Option Gluing) → o ≡ None → o ≡ Some h → ⊥
  none_some h o e f = let q : None ≡ Some h = sym e ∙ f in absurd cc

  pub free_meets : (p : NormalDisc) (f v : ℕ) (a : Arc) → IsOnlyArcOf coords xs p f v a → glue rows (face_of_arc a) ≡ None → HasNoMeeting rows coords xs p f v
  free_meets p f v a one free c h m ef ev e =
      let same : c ≡ a = one.1 c (meets_of p f v c h m ef ev e) in
      none_some h (glue rows (face_of_arc c)) (ap (λ (b : Arc). glue rows (face_of_arc b)) same ∙ free) m.glued

  pub one_meets : (p : NormalDisc) (f v : ℕ) (a b : Arc) (g : Gluing) (odd : Bool) → IsOnlyArcOf coords xs p f v a → a.tet < length rows → v < 4 → (v ≡ f → ⊥)
      → glue rows (face_of_arc a) ≡ Some g → b ≡ arc_across g a → odd ≡ is_odd g.perm → IsMeetingAt rows coords xs p f v a b odd
  one_meets p f v a b g odd one l lv off glued eb eo =
      let i : IsArcOf coords xs p f v a = one.0 in
      let m : Meets rows coords xs a g = record { in_range = l; is_vertex = subst (λ u. u < 4) (sym i.vertex) lv; off_vertex = λ e. off (sym i.vertex ∙ e ∙ i.face); there = i.there; glued = glued } in
      let back : MeetsBack rows coords xs a g = meets_back rows coords xs s a g m in
      record {
        gluing = g;
        meets = m;
        one = i.piece;
        other = eb;
        parity = eo;
        face = i.face;
        vertex = i.vertex;
        in_range = l;
        other_in_range = subst (λ (c : Arc). c.tet < length rows) (sym eb) (back.meets).in_range;
        other_piece = subst (λ (c : Arc). IsPieceOf xs (disc_of coords xs c)) (sym eb) (piece_there rows coords xs s (arc_across g a) (inverse_gluing (face_of_arc a) g) back.meets);
        only = λ c h n ef ev e.
            let same : c ≡ a = one.1 c (meets_of p f v c h n ef ev e) in
            (same, some_same g h (glue rows (face_of_arc a)) glued (ap (λ (d : Arc). glue rows (face_of_arc d)) (sym same) ∙ n.glued));
      }

pub number_low : (xs : List ℕ) (p : NormalDisc) → IsPieceOf xs p → disc_number xs p < sum xs
number_low xs p h = omega (arith, (piece_found xs p h).in_range, (piece_numbers xs).count)

beq_is : (x y : Bool) → beq x y ≡ (if x then y else not y)
beq_is true true = refl
beq_is true false = refl
beq_is false true = refl
beq_is false false = refl

pub joined_is : (rows : List Row) (coords : Coords) (xs : List ℕ) (p : NormalDisc) (g w f v : ℕ) (a b : Arc) (odd la lb : Bool) (j : Across) → f ≡ g → v ≡ w → IsMeetingAt rows coords xs p f v a b odd
    → la ≡ looks_positive coords xs a → lb ≡ looks_positive coords xs b → j.piece ≡ disc_number xs (disc_of coords xs b)
    → j.keeps_sides ≡ beq la lb → j.keeps_orientation ≡ beq odd (beq la lb) → IsJoinedAt rows coords xs p g w j
joined_is rows coords xs p g w f v a b odd la lb j ef ev m ea eb en es eo = record {
  arc = a;
  gluing = m.gluing;
  meets = m.meets;
  one = m.one;
  only = λ c h n df dv e. m.only c h n (df ∙ sym ef) (dv ∙ sym ev) e;
  piece = en ∙ ap (λ (c : Arc). disc_number xs (disc_of coords xs c)) m.other;
  sides = es ∙ sides;
  orientation = eo ∙ beq_is odd (beq la lb) ∙ (λ i. if m.parity i then sides i else not (sides i));
}
  where
    sides : beq la lb ≡ keeps_sides coords xs a m.gluing
    sides = beq_is la lb ∙ (λ i. if ea i then eb i else not (eb i)) ∙ ap (λ (c : Arc). if looks_positive coords xs a then looks_positive coords xs c else not (looks_positive coords xs c)) m.other
