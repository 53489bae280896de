-- The edge class of a directed edge.
use Rattle.std.proofs.Common.{◌≡◌, ℕ, ◌*◌, ◌<◌, ◌+◌, List, length, get_or, ◌⊎◌, inl, inr, sym, ◌∙◌, subst, arith}
use Rattle.std.specs.Prelude.{slice_index}
use Rattle.std.specs.List.{AllPairs}
use Rattle.table_definitions.specs.Table.{Row, IsTable}
use Rattle.table_definitions.specs.Classes.{IsNumbering, least}
use Rattle.table_definitions.specs.Places.{Place, IsPlace, edge, edge_number, backwards, IsJoined, SameEdge, IsInvalidEdge}
use Rattle.table_definitions.proofs.ChainLaws.{joined_turned, joined_sym, joined_trans}
use Rattle.table_definitions.proofs.DistinctLists.{AreApart, apart_from}
use Rattle.skeleton_class_laws.specs.Crossings.{pair}
use Rattle.skeleton_class_laws.proofs.EdgeTies.{pair_either, turned_twice}
use Rattle.skeleton_laws.proofs.EdgeEnds.{edge_below}
use Rattle.skeleton_laws.proofs.Arrows.{IsArrow}
use Rattle.table_definitions.proofs.ClassLaws.{least_class}

-- p is joined to edge i in one direction or the other
abbrev pub EitherWay : List Row → Place → ℕ → Type 0
EitherWay rows p i = IsJoined rows p (edge i) ⊎ IsJoined rows p (backwards (edge i))

pub apart_from_ascending : (xs : List ℕ) → AllPairs ◌<◌ xs → AreApart xs
apart_from_ascending xs up = apart_from 0 xs (λ i j l m e. (let a : get_or xs i 0 < get_or xs j 0 = up i j 0 l m in absurd (omega arith)))

-- the class of a directed edge
module _ (rows : List Row) (table : IsTable rows) (es : List ℕ) (e : ℕ) (edges : IsNumbering (6 * length rows) (SameEdge rows) es e) where
  pub start_is : (c : ℕ) → c < e → (least es c < 6 * length rows) × (slice_index es (least es c) ≡ c)
  start_is c l = least_class (6 * length rows) (SameEdge rows) es e edges c l

  pub record ClassOf (p : Place) : Type 0 where
    pub c : ℕ
    pub below : c < e
    pub way : EitherWay rows p (least es c)

  pub class_of_arrow : (p : Place) → IsArrow (length rows) p → ClassOf p
  class_of_arrow p a = record { c = c; below = lc; way = go (pair_either p.tet a.v a.w a.low_v a.low_w a.separate) same }
    where
      j : ℕ
      j = 6 * p.tet + edge_number a.v a.w

      lj : j < 6 * length rows
      lj = edge_below p.tet a.v a.w (length rows) a.low_v a.low_w a.separate a.below

      c : ℕ
      c = slice_index es j

      lc : c < e
      lc = edges.in_range j lj

      same : SameEdge rows j (least es c)
      same = (edges.together j (least es c) lj (start_is c lc).0).0 (sym (start_is c lc).1)

      from : (q r : Place) → pair p.tet a.v a.w ≡ q → IsJoined rows q r → IsJoined rows p r
      from q r f g = subst (λ (x : Place). IsJoined rows x r) (sym (a.is ∙ f)) g

      go : (pair p.tet a.v a.w ≡ edge j) ⊎ (pair p.tet a.v a.w ≡ backwards (edge j)) → SameEdge rows j (least es c) → EitherWay rows p (least es c)
      go (inl f) (inl g) = inl (from (edge j) (edge (least es c)) f g)
      go (inl f) (inr g) = inr (from (edge j) (backwards (edge (least es c))) f g)
      go (inr f) (inl g) = inr (from (backwards (edge j)) (backwards (edge (least es c))) f (joined_turned rows (edge j) (edge (least es c)) g))
      go (inr f) (inr g) = inl (from (backwards (edge j)) (edge (least es c)) f (subst (λ (q : Place). IsJoined rows (backwards (edge j)) q) (turned_twice (least es c)) (joined_turned rows (edge j) (backwards (edge (least es c))) g)))

  -- a directed edge that is joined to its own reverse is of an invalid class
  pub invalid_class : (p : Place) → IsPlace p → (backwards (backwards p) ≡ p) → (i : ℕ) → EitherWay rows p i → IsJoined rows p (backwards p) → IsInvalidEdge rows i
  invalid_class p place twice i (inl w) j = joined_trans rows (edge i) p (backwards (edge i)) (joined_sym rows p (edge i) table place w) (joined_trans rows p (backwards p) (backwards (edge i)) j (joined_turned rows p (edge i) w))
  invalid_class p place twice i (inr w) j =
      let back : IsJoined rows (backwards p) (edge i) = subst (λ (q : Place). IsJoined rows (backwards p) q) (turned_twice i) (joined_turned rows p (backwards (edge i)) w) in
      let whole : IsJoined rows (backwards (edge i)) (edge i) = joined_trans rows (backwards (edge i)) p (edge i) (joined_sym rows p (backwards (edge i)) table place w) (joined_trans rows p (backwards p) (edge i) j back) in
      subst (λ (q : Place). IsJoined rows q (backwards (edge i))) (turned_twice i) (joined_turned rows (backwards (edge i)) (edge i) whole)

  -- directed edges that are joined to one edge are joined, in one direction or the other
  pub both_ways : (p q : Place) → IsPlace q → (backwards (backwards q) ≡ q) → (i : ℕ) → EitherWay rows p i → EitherWay rows q i → IsJoined rows p q ⊎ IsJoined rows p (backwards q)
  both_ways p q place twice i (inl a) (inl b) = inl (joined_trans rows p (edge i) q a (joined_sym rows q (edge i) table place b))
  both_ways p q place twice i (inr a) (inr b) = inl (joined_trans rows p (backwards (edge i)) q a (joined_sym rows q (backwards (edge i)) table place b))
  both_ways p q place twice i (inl a) (inr b) =
      let c : IsJoined rows (backwards (backwards (edge i))) (backwards q) = joined_turned rows (backwards (edge i)) q (joined_sym rows q (backwards (edge i)) table place b) in
      inr (joined_trans rows p (edge i) (backwards q) a (subst (λ (x : Place). IsJoined rows x (backwards q)) (turned_twice i) c))
  both_ways p q place twice i (inr a) (inl b) = inr (joined_trans rows p (backwards (edge i)) (backwards q) a (joined_turned rows (edge i) q (joined_sym rows q (edge i) table place b)))
