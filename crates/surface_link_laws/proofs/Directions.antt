-- The directions of an edge: each directed edge of its class is joined to one of the two, or the other.
use Rattle.std.proofs.Common.{◌≡◌, ℕ, ◌*◌, ◌/◌, ◌%◌, ◌<◌, List, [], ◌∷◌, ◌⊎◌, inl, inr, sym, ap, subst₂, arith}
use Rattle.std.specs.Prelude.{slice_index}
use Rattle.table_definitions.specs.Permutation.{others}
use Rattle.table_definitions.specs.Places.{edge, ends, edge_number, backwards, IsJoined, SameEdge}
use Rattle.table_definitions.specs.Table.{Row}
use Rattle.table_definitions.proofs.ChainLaws.{joined_turned}
use Rattle.skeleton_definitions.specs.Links.{directed}
use Rattle.surface_quad_laws.proofs.InnerEdges.{HasEdge, has_edge, edge_at}
use Rattle.surface_quad_lift_laws.proofs.Ends.{head_below}
use Rattle.skeleton_class_laws.specs.Crossings.{pair}
use Rattle.skeleton_class_laws.proofs.EdgeTies.{edge_by_ends}

-- the tetrahedron, tail and head of directed edge i
abbrev pub tail : ℕ → ℕ
tail i = (i % 12) / 3

abbrev pub head : ℕ → ℕ
head i = slice_index (others (tail i)) (i % 3)

-- the edge of directed edge i, by number
abbrev pub edge_of : ℕ → ℕ
edge_of i = edge_at (i / 12) (tail i) (head i)

pub tail_below : (i : ℕ) → tail i < 4
tail_below i = omega arith

pub has_edge_of : (i : ℕ) → HasEdge (tail i) (head i)
has_edge_of i =
    let r : i % 3 < 3 = omega arith in
    let h = head_below (tail i) (i % 3) (tail_below i) r in
    has_edge (tail i) (head i) (tail_below i) h.0 h.1

pub edge_of_below : (i n : ℕ) → i < 12 * n → edge_of i < 6 * n
edge_of_below i n l = let small = (has_edge_of i).small in let lt : i / 12 < n = omega arith in omega arith

-- the edge is the directed one, or that in the other direction
one_of_two : (i : ℕ) → (edge (edge_of i) ≡ directed i) ⊎ (edge (edge_of i) ≡ backwards (directed i))
one_of_two i = by_ends h.ends_are
  where
    h : HasEdge (tail i) (head i)
    h = has_edge_of i

    by_ends : (ends (edge_number (tail i) (head i)) ≡ tail i ∷ head i ∷ []) ⊎ (ends (edge_number (tail i) (head i)) ≡ head i ∷ tail i ∷ []) → (edge (edge_of i) ≡ directed i) ⊎ (edge (edge_of i) ≡ backwards (directed i))
    by_ends (inl e) = inl (edge_by_ends (i / 12) (tail i) (head i) (tail i) (head i) h.small e)
    by_ends (inr e) = inr (edge_by_ends (i / 12) (tail i) (head i) (head i) (tail i) h.small e)

module _ (rows : List Row) (i j t a b : ℕ) (is : edge j ≡ pair t a b) where
  -- joined to the edge in one direction or the other
  abbrev EitherWay : Type 0
  EitherWay = IsJoined rows (directed i) (pair t a b) ⊎ IsJoined rows (directed i) (pair t b a)

  is_negated : backwards (edge j) ≡ pair t b a
  is_negated = ap backwards is

  pub same_either_way : EitherWay → SameEdge rows (edge_of i) j
  same_either_way w = go (one_of_two i) w
    where
      go : (edge (edge_of i) ≡ directed i) ⊎ (edge (edge_of i) ≡ backwards (directed i)) → EitherWay → SameEdge rows (edge_of i) j
      go (inl e) (inl w) = inl (subst₂ (IsJoined rows) (sym e) (sym is) w)
      go (inl e) (inr w) = inr (subst₂ (IsJoined rows) (sym e) (sym is_negated) w)
      go (inr e) (inl w) = inr (subst₂ (IsJoined rows) (sym e) (sym is_negated) (joined_turned rows (directed i) (pair t a b) w))
      go (inr e) (inr w) = inl (subst₂ (IsJoined rows) (sym e) (sym is) (joined_turned rows (directed i) (pair t b a) w))

  pub either_way : SameEdge rows (edge_of i) j → EitherWay
  either_way h = go (one_of_two i) h
    where
      go : (edge (edge_of i) ≡ directed i) ⊎ (edge (edge_of i) ≡ backwards (directed i)) → SameEdge rows (edge_of i) j → EitherWay
      go (inl e) (inl w) = inl (subst₂ (IsJoined rows) e is w)
      go (inl e) (inr w) = inr (subst₂ (IsJoined rows) e is_negated w)
      go (inr e) (inl w) = inr (joined_turned rows (backwards (directed i)) (pair t a b) (subst₂ (IsJoined rows) e is w))
      go (inr e) (inr w) = inl (joined_turned rows (backwards (directed i)) (pair t b a) (subst₂ (IsJoined rows) e is_negated w))
