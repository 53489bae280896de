-- A crush chain that is followed: its further tetrahedra, and where it ends.
use Rattle.std.proofs.Common.{◌≡◌, ℕ, zero, suc, ◌*◌, ◌<◌, ◌≤◌, Bool, true, false, not, List, length, Option, Some, None, option_map, IsTrue, refl, sym, ap, ◌∙◌, subst, subst₂, arith}
use Rattle.std.specs.Prelude.{if◌then◌else◌}
use Rattle.std.specs.List.{position_or_len}
use Rattle.surface_definitions.specs.Coordinates.{three}
use Rattle.table_definitions.specs.Permutation.{image, compose}
use Rattle.std.proofs.lemmas.Bool.{false≢true}
use Rattle.table_definitions.specs.Table.{Gluing, Row, Face, glue, IsTable}
use Rattle.surface_definitions.specs.Crushing.{has_quad, is_removed, partner_in, exchange, passed, ChainEnds, CrushesTo}
use Rattle.surface_laws.specs.CrushingLaws.{IsKeptFace}
use Rattle.surface_laws.proofs.Chains.{HasChain, has_chain, one_end}

-- how many further tetrahedra that are taken out a chain passes, counted up to fuel
pub ahead : ℕ → List Row → List ℕ → Face → Option Gluing → ℕ
ahead zero rows xs x o = 0
ahead (suc fuel) rows xs x None = 0
ahead (suc fuel) rows xs x (Some g) = if is_removed xs g.tet then suc (ahead fuel rows xs x (passed rows xs x g)) else 0

ahead_is : (rows : List Row) (xs : List ℕ) (x : Face) (fuel n : ℕ) (o end : Option Gluing) → n ≤ fuel → ChainEnds rows xs x n o end → ahead fuel rows xs x o ≡ n
unfolding ahead
ahead_is rows xs x zero zero o end l h = refl
ahead_is rows xs x zero (suc n) o end l h = absurd (omega arith)
ahead_is rows xs x (suc fuel) zero None end l h = refl
ahead_is rows xs x (suc fuel) zero (Some g) end l h = stays (is_removed xs g.tet) h.0
  where
    stays : (b : Bool) → IsTrue (not b) → (if b then suc (ahead fuel rows xs x (passed rows xs x g)) else 0) ≡ 0
    stays true k = absurd (false≢true k)
    stays false k = refl
ahead_is rows xs x (suc fuel) (suc n) None end l h = absurd h
ahead_is rows xs x (suc fuel) (suc n) (Some g) end l h =
    ap (λ b. if b then suc (ahead fuel rows xs x (passed rows xs x g)) else 0) h.0 ∙ ap suc (ahead_is rows xs x fuel n (passed rows xs x g) end (omega arith) h.1)

-- the chain from x that has come by o has an end, and this is the end of each chain from x
pub record IsFollowed (rows : List Row) (xs : List ℕ) (x : Face) (o : Option Gluing) : Type 0 where
  pub end : Option Gluing
  pub left : ℕ
  pub limited : left < 4 * length rows
  pub ends : ChainEnds rows xs x left o end
  pub there : CrushesTo rows xs x end
  pub only : (other : Option Gluing) → CrushesTo rows xs x other → other ≡ end
  pub in_range : (g : Gluing) → o ≡ Some g → g.tet < length rows

-- the number of further tetrahedra
abbrev pub left_of : List Row → List ℕ → Face → Option Gluing → ℕ
left_of rows xs x o = ahead (4 * length rows) rows xs x o

left_is : (rows : List Row) (xs : List ℕ) (x : Face) (o : Option Gluing) (f : IsFollowed rows xs x o) → left_of rows xs x o ≡ f.left
left_is rows xs x o f = ahead_is rows xs x (4 * length rows) f.left o f.end (let l = f.limited in omega arith) f.ends

pub follow_starts : (rows : List Row) (xs : List ℕ) (x : Face) → IsTable rows → IsKeptFace rows xs x → IsFollowed rows xs x (glue rows x)
follow_starts rows xs x table k =
    let c : HasChain rows xs table x = has_chain rows xs table x k in
    record {
      end = c.end;
      left = c.count;
      limited = c.limited;
      ends = c.ends;
      there = (c.count, c.ends);
      only = λ other d. one_end rows xs x d.0 c.count (glue rows x) other c.end d.1 c.ends;
      in_range = λ g e. table.in_range x g e;
    }

-- a step through a tetrahedron that is taken out
pub record IsStep (rows : List Row) (xs : List ℕ) (x : Face) (g : Gluing) : Type 0 where
  pub next : IsFollowed rows xs x (passed rows xs x g)
  pub fewer : left_of rows xs x (passed rows xs x g) < left_of rows xs x (Some g)

in_range_on : (rows : List Row) (xs : List ℕ) (x : Face) (g h : Gluing) → IsTable rows → passed rows xs x g ≡ Some h → h.tet < length rows
in_range_on rows xs x g h table e = go (glue rows z) refl e
  where
    v : ℕ
    v = image g.perm x.face

    z : Face
    z = record { tet = g.tet; face = partner_in xs g.tet v }

    go : (o : Option Gluing) → glue rows z ≡ o → option_map (λ (k : Gluing). record { tet = k.tet; perm = compose k.perm (compose (exchange v z.face) g.perm) }) o ≡ Some h → h.tet < length rows
    go None is f = absurd cc
    go (Some k) is f =
        let through : Gluing = record { tet = k.tet; perm = compose k.perm (compose (exchange v z.face) g.perm) } in
        let same : through ≡ h = cc in
        subst (λ (q : Gluing). q.tet < length rows) same (table.in_range z k is)

pub follow_steps : (rows : List Row) (xs : List ℕ) (x : Face) (g : Gluing) → IsTable rows → IsFollowed rows xs x (Some g) → is_removed xs g.tet ≡ true → IsStep rows xs x g
follow_steps rows xs x g table f gone = go f.left refl f.ends
  where
    go : (n : ℕ) → f.left ≡ n → ChainEnds rows xs x n (Some g) f.end → IsStep rows xs x g
    go zero e h = absurd (false≢true (subst (λ b. IsTrue (not b)) gone h.0))
    go (suc n) e h =
        let next : IsFollowed rows xs x (passed rows xs x g) = record {
          end = f.end;
          left = n;
          limited = (let l = f.limited in omega arith);
          ends = h.1;
          there = f.there;
          only = f.only;
          in_range = λ k. in_range_on rows xs x g k table;
        } in
        record { next = next; fewer = omega (arith, e, left_is rows xs x (Some g) f, left_is rows xs x (passed rows xs x g) next) }

-- a chain that has reached a tetrahedron that stays, or a boundary face, is at its end
pub ends_kept : (rows : List Row) (xs : List ℕ) (x : Face) (g : Gluing) (f : IsFollowed rows xs x (Some g)) → is_removed xs g.tet ≡ false → f.end ≡ Some g
ends_kept rows xs x g f kept = go f.left f.ends
  where
    go : (n : ℕ) → ChainEnds rows xs x n (Some g) f.end → f.end ≡ Some g
    go zero h = h.1
    go (suc n) h = absurd (false≢true (sym kept ∙ h.0))

pub ends_free : (rows : List Row) (xs : List ℕ) (x : Face) (f : IsFollowed rows xs x None) → f.end ≡ None
ends_free rows xs x f = go f.left f.ends
  where
    go : (n : ℕ) → ChainEnds rows xs x n None f.end → f.end ≡ None
    go zero h = h
    go (suc n) h = absurd h

-- if so, what it has reached is the only end
pub only_end : (rows : List Row) (xs : List ℕ) (x : Face) (o end : Option Gluing) (f : IsFollowed rows xs x o) → f.end ≡ end → (other : Option Gluing) → CrushesTo rows xs x other → other ≡ end
only_end rows xs x o end f e other c = f.only other c ∙ e

pub only_kept : (rows : List Row) (xs : List ℕ) (x : Face) (o : Option Gluing) (v g : Gluing) → IsFollowed rows xs x o → o ≡ Some g → v ≡ g → is_removed xs v.tet ≡ false
    → (other : Option Gluing) → CrushesTo rows xs x other → other ≡ Some g
only_kept rows xs x o v g f is same kept =
    let at : IsFollowed rows xs x (Some g) = subst (IsFollowed rows xs x) is f in
    only_end rows xs x (Some g) (Some g) at (ends_kept rows xs x g at (ap (λ (q : Gluing). is_removed xs q.tet) (sym same) ∙ kept))

pub only_free : (rows : List Row) (xs : List ℕ) (x : Face) (o : Option Gluing) → IsFollowed rows xs x o → o ≡ None → (other : Option Gluing) → CrushesTo rows xs x other → other ≡ None
only_free rows xs x o f is = let at : IsFollowed rows xs x None = subst (IsFollowed rows xs x) is f in only_end rows xs x None None at (ends_free rows xs x at)

-- one pass of the loop continues from o to p
pub record IsTurn (rows : List Row) (xs : List ℕ) (x : Face) (o p : Option Gluing) : Type 0 where
  pub next : IsFollowed rows xs x p
  pub fewer : left_of rows xs x p < left_of rows xs x o

-- a pass at a tetrahedron with quads of type k: v is the gluing g as it is read
pub turns : (rows : List Row) (xs : List ℕ) (x : Face) (o p : Option Gluing) (v g : Gluing) (k : ℕ) → IsTable rows → IsFollowed rows xs x o → o ≡ Some g → v ≡ g
    → is_removed xs v.tet ≡ true → k ≡ position_or_len (has_quad xs v.tet) three → ((ys : List ℕ) → k ≡ position_or_len (has_quad ys g.tet) three → p ≡ passed rows ys x g) → IsTurn rows xs x o p
turns rows xs x o p v g k table f is same gone first pass =
    let at : IsFollowed rows xs x (Some g) = subst (IsFollowed rows xs x) is f in
    let s : IsStep rows xs x g = follow_steps rows xs x g table at (ap (λ (q : Gluing). is_removed xs q.tet) (sym same) ∙ gone) in
    let e : p ≡ passed rows xs x g = pass xs (first ∙ ap (λ (q : Gluing). position_or_len (has_quad xs q.tet) three) same) in
    record {
      next = subst (IsFollowed rows xs x) (sym e) s.next;
      fewer = subst₂ (λ (a b : Option Gluing). left_of rows xs x a < left_of rows xs x b) (sym e) (sym is) s.fewer;
    }
