-- Signs of the pieces of a closed oriented surface give each arc of a piece a direction. The next arc of the piece
-- begins where the arc ends, and the arc across a gluing has the opposite direction.
use Rattle.std.proofs.Common.{◌≡◌, ℕ, Bool, true, false, not, cond, List, Some, inl, inr, refl, sym, ap, ◌∙◌}
use Rattle.std.specs.Prelude.{if◌then◌else◌}
use mathlib.Core.Bool.{beq}
use Rattle.basic_lemmas.proofs.Truths.{not_itself}
use Rattle.table_definitions.specs.Permutation.{image, is_odd}
use Rattle.table_definitions.specs.Table.{Gluing, Row, glue}
use Rattle.table_definitions.proofs.Permutations.{bool_equal}
use Rattle.surface_definitions.specs.declared.Coords.{Coords}
use Rattle.surface_definitions.specs.Pieces.{Arc, arc_across, disc_of, disc_number, looks_positive, keeps_sides, Meets}
use Rattle.surface_laws.specs.PieceLaws.{IsSurface, face_of_arc}
use Rattle.surface_laws.proofs.Glued.{IsGlued, glued_is}
use Rattle.surface_euler_laws.proofs.Four.{Four, last_two, third, fourth, rest_four, one_of_rest}
use Rattle.surface_euler_laws.proofs.ArcList.{IsArc, is_meeting, across_is_arc, four_across}
use Rattle.surface_double_laws.proofs.Words.{odd, odd_ends, odd_across}

-- a truth value, or its opposite
abbrev pub same_if : Bool → Bool → Bool
same_if x b = if b then x else not x

abbrev pub turned_on : Bool → Bool → Bool
turned_on d x = if d then x else not x

-- how the direction changes across a gluing, by whether it is odd, and by the sides and signs on both sides of it
changes : (d l m x : Bool) → same_if (turned_on (turned_on d (turned_on l m)) x) m ≡ turned_on d (same_if x l)
changes true true true true = refl
changes true true true false = refl
changes true true false true = refl
changes true true false false = refl
changes true false true true = refl
changes true false true false = refl
changes true false false true = refl
changes true false false false = refl
changes false true true true = refl
changes false true true false = refl
changes false true false true = refl
changes false true false false = refl
changes false false true true = refl
changes false false true false = refl
changes false false false true = refl
changes false false false false = refl

opposed : (d x : Bool) → not (if d then not x else x) ≡ turned_on d x
opposed true true = refl
opposed true false = refl
opposed false true = refl
opposed false false = refl

other_truth : (a b : Bool) → beq a b ≡ false → not a ≡ b
other_truth true true e = cc
other_truth true false e = refl
other_truth false true e = refl
other_truth false false e = cc

pub side_not : (x b c : Bool) → c ≡ not b → same_if x c ≡ not (same_if x b)
side_not true true true e = cc
side_not true true false e = refl
side_not true false true e = refl
side_not true false false e = cc
side_not false true true e = cc
side_not false true false e = refl
side_not false false true e = refl
side_not false false false e = cc

abbrev pub AreOriented : (rows : List Row) (coords : Coords) (xs : List ℕ) → (ℕ → Bool) → Type 0
AreOriented rows coords xs sign =
    (a : Arc) (g : Gluing) → Meets rows coords xs a g → sign (disc_number xs (disc_of coords xs (arc_across g a)))
    ≡ (if (if is_odd g.perm then keeps_sides coords xs a g else not (keeps_sides coords xs a g)) then sign (disc_number xs (disc_of coords xs a)) else not (sign (disc_number xs (disc_of coords xs a))))

module _ (rows : List Row) (coords : Coords) (xs : List ℕ) (s : IsSurface rows coords xs) (sign : ℕ → Bool) (signs : AreOriented rows coords xs sign) where
  abbrev pub OnSurface : Arc → Type 0
  OnSurface b = IsArc rows coords xs s b

  -- the sign of the piece as it is seen from the vertex of the arc
  abbrev pub sense : Arc → Bool
  sense b = same_if (sign (disc_number xs (disc_of coords xs b))) (looks_positive coords xs b)

  -- the arc is directed from the edge to u to the edge to w
  pub record IsDart (b : Arc) (u w : ℕ) : Type 0 where
    pub on : IsArc rows coords xs s b
    pub four : Four b.vertex b.face u w
    pub sensed : odd b.vertex b.face u w ≡ sense b

  abbrev test : Arc → Bool
  test b = beq (odd b.vertex b.face (third b.vertex b.face) (fourth b.vertex b.face)) (sense b)

  abbrev pick : Bool → ℕ → ℕ → ℕ
  pick t a c = cond t a c

  pub first : Arc → ℕ
  first b = pick (test b) (third b.vertex b.face) (fourth b.vertex b.face)

  pub last : Arc → ℕ
  last b = pick (test b) (fourth b.vertex b.face) (third b.vertex b.face)

  pub dart_of : (b : Arc) → OnSurface b → IsDart b (first b) (last b)
  unfolding first last
  dart_of b x = go (test b) refl
    where
      r : Four b.vertex b.face (third b.vertex b.face) (fourth b.vertex b.face)
      r = rest_four b.vertex b.face x.is_vertex x.face x.off

      go : (t : Bool) → test b ≡ t → IsDart b (pick t (third b.vertex b.face) (fourth b.vertex b.face)) (pick t (fourth b.vertex b.face) (third b.vertex b.face))
      go true e = record { on = x; four = r; sensed = bool_equal (odd b.vertex b.face (third b.vertex b.face) (fourth b.vertex b.face)) (sense b) e }
      go false e = record {
        on = x;
        four = last_two b.vertex b.face (third b.vertex b.face) (fourth b.vertex b.face) r;
        sensed = odd_ends b.vertex b.face (third b.vertex b.face) (fourth b.vertex b.face) r ∙ other_truth (odd b.vertex b.face (third b.vertex b.face) (fourth b.vertex b.face)) (sense b) e;
      }

  -- there is one direction
  pub one_dart : (b : Arc) (u w u' w' : ℕ) → IsDart b u w → IsDart b u' w' → (u ≡ u') × (w ≡ w')
  one_dart b u w u' w' d e =
      let a = d.four in
      let c = e.four in
      elim (one_of_rest b.vertex b.face u w u' a c.lf (λ q. c.vf (sym q)) (λ q. c.uf (sym q))) [
        | inl p ↦ elim (one_of_rest b.vertex b.face u w w' a c.lw (λ q. c.vw (sym q)) (λ q. c.uw (sym q))) [
          | inl q ↦ absurd (c.fw (p ∙ sym q))
          | inr q ↦ (sym p, sym q)
        ]
        | inr p ↦ elim (one_of_rest b.vertex b.face u w w' a c.lw (λ q. c.vw (sym q)) (λ q. c.uw (sym q))) [
          | inl q ↦ absurd (not_itself (odd b.vertex b.face u w)
              (d.sensed ∙ sym e.sensed ∙ (λ i. odd b.vertex b.face (p i) (q i)) ∙ odd_ends b.vertex b.face u w a))
          | inr q ↦ absurd (c.fw (p ∙ sym q))
        ]
      ]

  -- ---- across a gluing

  sense_across : (b : Arc) (g : Gluing) → Meets rows coords xs b g → sense (arc_across g b) ≡ turned_on (is_odd g.perm) (sense b)
  sense_across b g m =
      ap (λ x. same_if x (looks_positive coords xs (arc_across g b))) (signs b g m)
      ∙ changes (is_odd g.perm) (looks_positive coords xs b) (looks_positive coords xs (arc_across g b)) (sign (disc_number xs (disc_of coords xs b)))

  pub dart_across : (b : Arc) (g : Gluing) (u w : ℕ) → IsDart b u w → glue rows (face_of_arc b) ≡ Some g → IsDart (arc_across g b) (image g.perm w) (image g.perm u)
  dart_across b g u w d e =
      let i : IsGlued rows (face_of_arc b) g = glued_is rows (face_of_arc b) g s.table e in
      let a : Four (image g.perm b.vertex) (image g.perm b.face) (image g.perm u) (image g.perm w) = four_across rows coords xs s (face_of_arc b) g b.vertex b.face u w e d.four in
      record {
        on = across_is_arc rows coords xs s b g d.on e;
        four = last_two (image g.perm b.vertex) (image g.perm b.face) (image g.perm u) (image g.perm w) a;
        sensed = odd_ends (image g.perm b.vertex) (image g.perm b.face) (image g.perm u) (image g.perm w) a
            ∙ ap not (odd_across g.perm b.vertex b.face u w i.permutes d.four)
            ∙ opposed (is_odd g.perm) (odd b.vertex b.face u w)
            ∙ ap (turned_on (is_odd g.perm)) d.sensed ∙ sym (sense_across b g (is_meeting rows coords xs s b g d.on e));
      }
