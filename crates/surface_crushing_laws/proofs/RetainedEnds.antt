-- Where a crush chain ends in a closed table, and with which sign in an oriented one.
use mathlib.Core.Bool.{beq}
use Rattle.std.proofs.Common.{◌≡◌, ◌≢◌, ℕ, zero, suc, ◌<◌, Bool, true, false, List, length, Option, Some, None, refl, sym, ap, ◌∙◌, subst}
use Rattle.std.specs.Prelude.{◌==◌, ◌||◌, not}
use Rattle.basic_lemmas.proofs.Numbers.{given_apart}
use Rattle.table_definitions.specs.Permutation.{IsPermutationOfFour, image, compose, inversions, is_odd}
use Rattle.table_definitions.specs.Table.{Gluing, Row, Face, glue, IsTable}
use Rattle.table_definitions.proofs.Permutations.{image_below, compose_permutes, is_odd-compose}
use Rattle.table_definitions.proofs.Faces.{face_at, gluing_to}
use Rattle.move_laws.proofs.Parities.{behind}
use Rattle.surface_definitions.specs.Crushing.{is_removed, partner_in, exchange, passed, ChainEnds}
use Rattle.surface_laws.proofs.Glued.{glued_is}
use Rattle.surface_laws.proofs.Turns.{by_two, IsTurned, turned_at, exchange_is}

-- the sign across a gluing, an odd transposition and a further gluing
two_behind : (h g a : Bool) → behind h (behind g a) ≡ behind (not (beq h (not (beq true g)))) a
two_behind true true true = refl
two_behind true true false = refl
two_behind true false true = refl
two_behind true false false = refl
two_behind false true true = refl
two_behind false true false = refl
two_behind false false true = refl
two_behind false false false = refl

exchange_test : ℕ → ℕ → Bool
exchange_test v w = (v == w) || is_odd (exchange v w)

exchange_odd : (v w : ℕ) → v < 4 → w < 4 → v ≢ w → is_odd (exchange v w) ≡ true
exchange_odd v w lv lw d = given_apart v w (is_odd (exchange v w)) (unfold exchange_test in by_two exchange_test 4 4 (unfold exchange_test is_odd inversions in refl) v w lv lw) d

module _ (rows : List Row) (xs : List ℕ) (table : IsTable rows) (x : Face) (lx : x.face < 4) where
  -- the gluing by which a chain has come
  record Reached (g : Gluing) : Type 0 where
    tet : g.tet < length rows
    permutes : IsPermutationOfFour g.perm

  first_reached : (g : Gluing) → glue rows x ≡ Some g → Reached g
  first_reached g e = let a = glued_is rows x g table e in record { tet = a.other_tet; permutes = a.permutes }

  abbrev at : Gluing → ℕ
  at g = image g.perm x.face

  abbrev next_face : Gluing → Face
  next_face g = face_at g.tet (partner_in xs g.tet (at g))

  abbrev further : Gluing → Gluing → Gluing
  further g h = gluing_to h.tet (compose h.perm (compose (exchange (at g) (partner_in xs g.tet (at g))) g.perm))

  turning : (g : Gluing) → Reached g → is_removed xs g.tet ≡ true → IsTurned xs g.tet (at g)
  turning g r gone = turned_at xs g.tet (at g) gone (image_below g.perm r.permutes x.face lx)

  backwards : (g : Gluing) → Reached g → is_removed xs g.tet ≡ true → IsPermutationOfFour (compose (exchange (at g) (partner_in xs g.tet (at g))) g.perm)
  backwards g r gone = compose_permutes (exchange (at g) (partner_in xs g.tet (at g))) g.perm (exchange_is (at g) (partner_in xs g.tet (at g)) (image_below g.perm r.permutes x.face lx) (turning g r gone).below).permutes r.permutes

  further_reached : (g h : Gluing) → Reached g → is_removed xs g.tet ≡ true → glue rows (next_face g) ≡ Some h → Reached (further g h)
  further_reached g h r gone e =
      let a = glued_is rows (next_face g) h table e in
      record { tet = a.other_tet; permutes = compose_permutes h.perm (compose (exchange (at g) (partner_in xs g.tet (at g))) g.perm) a.permutes (backwards g r gone) }

  passed_none : (g : Gluing) → glue rows (next_face g) ≡ None → passed rows xs x g ≡ None
  passed_none g e = rw e refl

  passed_some : (g h : Gluing) → glue rows (next_face g) ≡ Some h → passed rows xs x g ≡ Some (further g h)
  passed_some g h e = rw e refl

  none_ends : (n : ℕ) (e : Gluing) → ChainEnds rows xs x n None (Some e) → ⊥
  none_ends zero e h = cc
  none_ends (suc n) e h = h

  -- in a closed table a chain ends at a kept face
  module _ (all : (y : Face) → y.tet < length rows → y.face < 4 → (g : Gluing) × (glue rows y ≡ Some g)) where
    ends_somewhere : (n : ℕ) (g : Gluing) (end : Option Gluing) → Reached g → ChainEnds rows xs x n (Some g) end → (e : Gluing) × (end ≡ Some e)
    ends_somewhere zero g end r c = (g, c.1)
    ends_somewhere (suc n) g end r c =
        let h = all (next_face g) r.tet (turning g r c.0).below in
        ends_somewhere n (further g h.0) end (further_reached g h.0 r c.0 h.1) (subst (λ (o : Option Gluing). ChainEnds rows xs x n o end) (passed_some g h.0 h.1) c.1)

    pub chain_somewhere : (n : ℕ) (end : Option Gluing) → x.tet < length rows → ChainEnds rows xs x n (glue rows x) end → (e : Gluing) × (end ≡ Some e)
    chain_somewhere n end lt c =
        let g = all x lt lx in
        ends_somewhere n g.0 end (first_reached g.0 g.1) (subst (λ (o : Option Gluing). ChainEnds rows xs x n o end) g.1 c)

  -- the sign across a chain
  module _ (sign : ℕ → Bool) (agree : (y : Face) (g : Gluing) → glue rows y ≡ Some g → sign g.tet ≡ behind (is_odd g.perm) (sign y.tet)) where
    abbrev Signed : Gluing → Type 0
    Signed g = sign g.tet ≡ behind (is_odd g.perm) (sign x.tet)

    further_signed : (g h : Gluing) → Reached g → is_removed xs g.tet ≡ true → glue rows (next_face g) ≡ Some h → Signed g → Signed (further g h)
    further_signed g h r gone e s =
        let t = turning g r gone in
        let v : ℕ = at g in
        let w : ℕ = partner_in xs g.tet (at g) in
        let lv : v < 4 = image_below g.perm r.permutes x.face lx in
        let ex : is_odd (exchange v w) ≡ true = exchange_odd v w lv t.below (λ d. t.other (sym d)) in
        let inner : is_odd (compose (exchange v w) g.perm) ≡ not (beq true (is_odd g.perm)) = is_odd-compose (exchange v w) g.perm (exchange_is v w lv t.below).permutes r.permutes ∙ ap (λ b. not (beq b (is_odd g.perm))) ex in
        let whole : is_odd (compose h.perm (compose (exchange v w) g.perm)) ≡ not (beq (is_odd h.perm) (not (beq true (is_odd g.perm)))) =
        is_odd-compose h.perm (compose (exchange v w) g.perm) (glued_is rows (next_face g) h table e).permutes (backwards g r gone) ∙ ap (λ b. not (beq (is_odd h.perm) b)) inner in
        agree (next_face g) h e ∙ ap (behind (is_odd h.perm)) s ∙ two_behind (is_odd h.perm) (is_odd g.perm) (sign x.tet) ∙ ap (λ b. behind b (sign x.tet)) (sym whole)

    ends_signed : (n : ℕ) (g e : Gluing) → Reached g → Signed g → ChainEnds rows xs x n (Some g) (Some e) → Signed e
    ends_signed zero g e r s c = let same : e ≡ g = (let k : Some e ≡ Some g = c.1 in cc) in subst Signed (sym same) s
    ends_signed (suc n) g e r s c = onward (glue rows (next_face g)) refl (λ g' r' s' c'. ends_signed n g' e r' s' c')
      where
        onward : (o : Option Gluing) → glue rows (next_face g) ≡ o → ((g' : Gluing) → Reached g' → Signed g' → ChainEnds rows xs x n (Some g') (Some e) → Signed e) → Signed e
        onward None f rest = absurd (none_ends n e (subst (λ (o : Option Gluing). ChainEnds rows xs x n o (Some e)) (passed_none g f) c.1))
        onward (Some h) f rest = rest (further g h) (further_reached g h r c.0 f) (further_signed g h r c.0 f s) (subst (λ (o : Option Gluing). ChainEnds rows xs x n o (Some e)) (passed_some g h f) c.1)

    pub chain_signed : (n : ℕ) (e : Gluing) → ChainEnds rows xs x n (glue rows x) (Some e) → Signed e
    chain_signed n e c = start (glue rows x) refl c
      where
        start : (o : Option Gluing) → glue rows x ≡ o → ChainEnds rows xs x n o (Some e) → Signed e
        start None f h = absurd (none_ends n e h)
        start (Some g) f h = ends_signed n g e (first_reached g f) (agree x g f) h
