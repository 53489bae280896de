-- Directed edges, by two vertices: their numbers, and their first vertices.
use Rattle.std.proofs.Common.{◌≡◌, ◌≢◌, ℕ, ◌+◌, ◌*◌, ◌/◌, ◌%◌, ◌<◌, false, List, [], ◌∷◌, Some, refl, sym, ap, ◌∙◌, subst, subst₂, arith}
use Rattle.std.specs.Prelude.{◌==◌, ◌||◌, slice_index}
use Rattle.std.proofs.lemmas.Bool.{or_parts, or_from}
use Rattle.table_definitions.specs.Lists.{has}
use Rattle.table_definitions.specs.Permutation.{image}
use Rattle.table_definitions.specs.Table.{Row}
use Rattle.table_definitions.specs.Places.{Place, IsPlace, carried, across, IsJoined}
use Rattle.table_definitions.proofs.ChainLaws.{Steps, steps_across, across_by, joined_refl, joined_step, joined_trans, kept_along}
use Rattle.skeleton_definitions.specs.Links.{directed}
use Rattle.skeleton_class_laws.specs.Crossings.{pair, pair_number, direction_at}
use Rattle.skeleton_class_laws.proofs.Cases.{head, head_below, apart_head, pair_number-parts}
use Rattle.skeleton_class_laws.proofs.DirectionTies.{pair_is, directed_pair}
use Rattle.surface_laws.proofs.Vertices.{one_vertex}

-- two different vertices
pub record IsArrow (n : ℕ) (p : Place) : Type 0 where
  pub v : ℕ
  pub w : ℕ
  pub is : p ≡ pair p.tet v w
  pub below : p.tet < n
  pub low_v : v < 4
  pub low_w : w < 4
  pub separate : v ≢ w

pub arrow_number : (n : ℕ) (p : Place) (a : IsArrow n p) → direction_at p ≡ 12 * p.tet + pair_number a.v a.w
arrow_number n p a = ap (λ (r : Place). direction_at r) a.is

pub arrow_below : (n : ℕ) (p : Place) → IsArrow n p → direction_at p < 12 * n
arrow_below n p a = let e = arrow_number n p a in let s = (pair_number-parts a.v a.w a.low_v a.low_w a.separate).0 in let l = a.below in omega arith

pub arrow_again : (n : ℕ) (p : Place) → IsArrow n p → directed (direction_at p) ≡ p
arrow_again n p a = ap directed (arrow_number n p a) ∙ pair_is p.tet a.v a.w a.low_v a.low_w a.separate ∙ sym a.is

pub arrow_place : (n : ℕ) (p : Place) → IsArrow n p → IsPlace p
arrow_place n p a = subst IsPlace (sym a.is) (a.low_v, (a.low_w, tt))

pub directed_arrow : (n i : ℕ) → i < 12 * n → IsArrow n (directed i)
directed_arrow n i l =
    let r : i % 12 < 12 = omega arith in
    record { v = (i % 12) / 3; w = head (i % 12); is = directed_pair i; below = omega arith; low_v = omega arith; low_w = head_below (i % 12) r; separate = apart_head (i % 12) r }

-- the vertex at which a directed edge begins
abbrev pub tail_of : Place → Place
tail_of p = one_vertex p.tet (slice_index p.vertices 0)

record FromPair (rows : List Row) (p q : Place) : Type 0 where
  v : ℕ
  w : ℕ
  is : q ≡ pair q.tet v w
  joined : IsJoined rows (tail_of p) (tail_of q)

tail_step : (rows : List Row) (p q : Place) (f : ℕ) (r : Place) → FromPair rows p q → across rows q f ≡ Some r → FromPair rows p r
tail_step rows p q f r a e =
    let s : Steps rows q f r = steps_across rows q f r e in
    let both : ((a.v == f) || ((a.w == f) || false)) ≡ false = ap (λ (x : Place). has x.vertices f) (sym a.is) ∙ s.off in
    let off : has (a.v ∷ []) f ≡ false = or_from (a.v == f) false (or_parts (a.v == f) ((a.w == f) || false) both).0 refl in
    let step : across rows (one_vertex q.tet a.v) f ≡ Some (carried s.gluing (one_vertex q.tet a.v)) = across_by rows (one_vertex q.tet a.v) f s.gluing s.glued off in
    let lands : r ≡ pair s.gluing.tet (image s.gluing.perm a.v) (image s.gluing.perm a.w) = s.lands ∙ ap (carried s.gluing) a.is in
    let here : tail_of q ≡ one_vertex q.tet a.v = ap tail_of a.is in
    let there : tail_of r ≡ carried s.gluing (one_vertex q.tet a.v) = ap tail_of lands in
    record {
      v = image s.gluing.perm a.v;
      w = image s.gluing.perm a.w;
      is = lands ∙ (λ i. pair ((sym lands i).tet) (image s.gluing.perm a.v) (image s.gluing.perm a.w));
      joined = joined_trans rows (tail_of p) (tail_of q) (tail_of r) a.joined
          (subst₂ (IsJoined rows) (sym here) (sym there) (joined_step rows (one_vertex q.tet a.v) f (carried s.gluing (one_vertex q.tet a.v)) step));
    }

-- joined directed edges begin at joined vertices
pub tails_joined : (rows : List Row) (n : ℕ) (p q : Place) → IsArrow n p → IsJoined rows p q → IsJoined rows (tail_of p) (tail_of q)
tails_joined rows n p q a j = (kept_along rows (FromPair rows p) (tail_step rows p) j.0 p q (record { v = a.v; w = a.w; is = a.is; joined = joined_refl rows (tail_of p) }) j.1).joined
