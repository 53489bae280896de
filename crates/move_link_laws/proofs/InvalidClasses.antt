-- The invalid edge classes of both tables correspond one to one.
use Rattle.std.proofs.Common.{◌≡◌, ℕ, ◌*◌, ◌/◌, ◌<◌, List, length, inl, inr, sym, ap, ◌∙◌, subst, subst₂, arith}
use Rattle.table_definitions.specs.Table.{Row}
use Rattle.table_definitions.specs.Classes.{least}
use Rattle.table_definitions.specs.Places.{Place, IsPlace, edge, backwards, IsJoined, SameEdge, IsInvalidEdge}
use Rattle.table_definitions.proofs.ChainLaws.{joined_refl, joined_turned, joined_sym, joined_trans}
use Rattle.table_definitions.proofs.Listed.{among_contains, contains_among}
use Rattle.skeleton_definitions.specs.Skeleton.{Skeleton, IsSkeleton}
use Rattle.move_definitions.specs.Moves.{Move, IsMoved}
use Rattle.skeleton_class_laws.specs.Crossings.{pair}
use Rattle.skeleton_class_laws.proofs.EdgeTies.{turned_twice}
use Rattle.move_link_laws.specs.Valid.{AreInvalidClasses, MovesKeepInvalid}
use Rattle.skeleton_laws.proofs.Matchings.{related_same}
use Rattle.move_link_laws.proofs.Ties.{Ties}
use Rattle.move_link_laws.proofs.JoinedBack.{joined_over, joined_under, tie_follows}
use Rattle.move_link_laws.proofs.Joined.{tie_place}
use Rattle.move_link_laws.proofs.Buried.{free_of_two, tied_or_buried, new_tied_or_buried}
use Rattle.skeleton_laws.proofs.EdgeEnds.{EdgeAt, edge_ends_at}
use Rattle.move_link_laws.proofs.Valid.{tie_turned, buried_forward, new_buried_forward}
use Rattle.skeleton_laws.proofs.Arrows.{IsArrow}
use Rattle.move_link_laws.proofs.TiedArrows.{tie_arrow, pulled_arrow}
use Rattle.move_link_laws.proofs.ArrowClasses.{EitherWay, apart_from_ascending, start_is, class_of_arrow, invalid_class, both_ways}

module _ (s : Skeleton) (m : Move) (s' : Skeleton) (k : IsSkeleton s) (k' : IsSkeleton s') (h : IsMoved s.rows m s'.rows) where
  abbrev Tie : Place → Place → Type 0
  Tie p q = Ties s.rows m s'.rows k.table h p q

  abbrev Corresponds : ℕ → ℕ → Type 0
  Corresponds c d = (q : Place) × Tie (edge (least s.edges.classes c)) q × EitherWay s'.rows q (least s'.edges.classes d)

  edge_arrow : (rows : List Row) (i : ℕ) → i < 6 * length rows → IsArrow (length rows) (edge i)
  edge_arrow rows i l = let e : EdgeAt i = edge_ends_at i in let t : e.t ≡ i / 6 = e.tet in record { v = e.a; w = e.b; is = e.is ∙ (λ z. pair (sym e.is z).tet e.a e.b); below = omega arith; low_v = e.low_a; low_w = e.low_b; separate = e.separate }

  twice : (n : ℕ) (p : Place) → IsArrow n p → backwards (backwards p) ≡ p
  twice n p a = ap (λ (q : Place). backwards (backwards q)) a.is ∙ sym a.is

  place_of : (n : ℕ) (p : Place) → IsArrow n p → IsPlace p
  place_of n p a = subst IsPlace (sym a.is) (a.low_v, (a.low_w, tt))

  below : (c : ℕ) → c < s.edges.count → least s.edges.classes c < 6 * length s.rows
  below c l = (start_is s.rows k.table s.edges.classes s.edges.count k.edges c l).0

  below' : (c : ℕ) → c < s'.edges.count → least s'.edges.classes c < 6 * length s'.rows
  below' c l = (start_is s'.rows k'.table s'.edges.classes s'.edges.count k'.edges c l).0

  -- the reverse of an image is the image of the reverse
  turned_tie : (p q : Place) → IsArrow (length s.rows) p → Tie p q → Tie (backwards p) (backwards q)
  turned_tie p q a t = subst (λ (r : Place). Tie r (backwards q)) (ap backwards (sym a.is)) (tie_turned s.rows m s'.rows k.table h p.tet a.v a.w q (subst (λ (r : Place). Tie r q) a.is t))

  forth : (c : ℕ) → c < s.edges.count → IsInvalidEdge s.rows (least s.edges.classes c) → (d : ℕ) × (d < s'.edges.count) × IsInvalidEdge s'.rows (least s'.edges.classes d) × Corresponds c d
  forth c l invalid = elim (tied_or_buried s.rows m s'.rows k.table h (pair p.tet a.v a.w) a.below (a.low_v, (a.low_w, tt)) (free_of_two a.v a.w)) [
    | inl t ↦ tied t.0 (subst (λ (r : Place). Tie r t.0) (sym a.is) t.1)
    | inr b ↦ absurd (a.separate (buried_forward s.rows m s'.rows k.table h b.0 p.tet a.v a.w b.1 (subst₂ (IsJoined s.rows) a.is (ap backwards a.is) invalid)))
  ]
    where
      p : Place
      p = edge (least s.edges.classes c)

      a : IsArrow (length s.rows) p
      a = edge_arrow s.rows (least s.edges.classes c) (below c l)

      tied : (q : Place) → Tie p q → (d : ℕ) × (d < s'.edges.count) × IsInvalidEdge s'.rows (least s'.edges.classes d) × Corresponds c d
      tied q t =
          let b : IsArrow (length s'.rows) q = tie_arrow s.rows m s'.rows k.table h p q a t in
          let d = class_of_arrow s'.rows k'.table s'.edges.classes s'.edges.count k'.edges q b in
          let there : IsJoined s'.rows q (backwards q) = joined_over s.rows m s'.rows k.table h p (backwards p) q (backwards q) t (turned_tie p q a t) invalid in
          (d.c, d.below, invalid_class s'.rows k'.table s'.edges.classes s'.edges.count k'.edges q (place_of (length s'.rows) q b) (twice (length s'.rows) q b) (least s'.edges.classes d.c) d.way there, (q, t, d.way))

  back : (d : ℕ) → d < s'.edges.count → IsInvalidEdge s'.rows (least s'.edges.classes d) → (c : ℕ) × (c < s.edges.count) × IsInvalidEdge s.rows (least s.edges.classes c) × Corresponds c d
  back d l invalid = elim (new_tied_or_buried s.rows m s'.rows k.table h (pair q.tet b.v b.w) b.below (b.low_v, (b.low_w, tt)) (free_of_two b.v b.w)) [
    | inl t ↦ tied t.0 (subst (λ (r : Place). Tie t.0 r) (sym b.is) t.1)
    | inr z ↦ absurd (b.separate (new_buried_forward s.rows m s'.rows k.table h z.0 q.tet b.v b.w z.1 (subst₂ (IsJoined s'.rows) b.is (ap backwards b.is) invalid)))
  ]
    where
      q : Place
      q = edge (least s'.edges.classes d)

      b : IsArrow (length s'.rows) q
      b = edge_arrow s'.rows (least s'.edges.classes d) (below' d l)

      tied : (p : Place) → Tie p q → (c : ℕ) × (c < s.edges.count) × IsInvalidEdge s.rows (least s.edges.classes c) × Corresponds c d
      tied p t =
          let a : IsArrow (length s.rows) p = pulled_arrow s.rows m s'.rows k.table h p q b t in
          let c = class_of_arrow s.rows k.table s.edges.classes s.edges.count k.edges p a in
          let here : IsJoined s.rows p (backwards p) = joined_under s.rows m s'.rows k.table h p (backwards p) q (backwards q) t (turned_tie p q a t) invalid in
          let bad = invalid_class s.rows k.table s.edges.classes s.edges.count k.edges p (place_of (length s.rows) p a) (twice (length s.rows) p a) (least s.edges.classes c.c) c.way here in
          (c.c, c.below, bad, reach c.c c.below p t a c.way)
        where
          reach : (c : ℕ) (lc : c < s.edges.count) (p : Place) → Tie p q → IsArrow (length s.rows) p → EitherWay s.rows p (least s.edges.classes c) → Corresponds c d
          reach c lc p t a (inl w) =
              let z = tie_follows s.rows m s'.rows k.table h p (edge (least s.edges.classes c)) q t w in
              let j : IsJoined s'.rows q z.0 = joined_over s.rows m s'.rows k.table h p (edge (least s.edges.classes c)) q z.0 t z.1 w in
              (z.0, z.1, inl (joined_sym s'.rows q z.0 k'.table (place_of (length s'.rows) q b) j))
          reach c lc p t a (inr w) =
              let ta = turned_tie p q a t in
              let w' : IsJoined s.rows (backwards p) (edge (least s.edges.classes c)) = subst (λ (x : Place). IsJoined s.rows (backwards p) x) (turned_twice (least s.edges.classes c)) (joined_turned s.rows p (backwards (edge (least s.edges.classes c))) w) in
              let z = tie_follows s.rows m s'.rows k.table h (backwards p) (edge (least s.edges.classes c)) (backwards q) ta w' in
              let j : IsJoined s'.rows (backwards q) z.0 = joined_over s.rows m s'.rows k.table h (backwards p) (edge (least s.edges.classes c)) (backwards q) z.0 ta z.1 w' in
              (z.0, z.1, inr (joined_sym s'.rows (backwards q) z.0 k'.table (tie_place s.rows m s'.rows k.table h (backwards p) (backwards q) ta) j))

  -- different classes of one table correspond to different classes of the other
  once : (c c' d : ℕ) → c < s.edges.count → c' < s.edges.count → Corresponds c d → Corresponds c' d → c ≡ c'
  once c c' d l l' (q, t, w) (r, u, v) =
      let a = edge_arrow s.rows (least s.edges.classes c) (below c l) in
      let a' = edge_arrow s.rows (least s.edges.classes c') (below c' l') in
      let b' = tie_arrow s.rows m s'.rows k.table h (edge (least s.edges.classes c')) r a' u in
      let same : SameEdge s.rows (least s.edges.classes c) (least s.edges.classes c') =
      elim (both_ways s'.rows k'.table s'.edges.classes s'.edges.count k'.edges q r (place_of (length s'.rows) r b') (twice (length s'.rows) r b') (least s'.edges.classes d) w v) [
        | inl j ↦ inl (joined_under s.rows m s'.rows k.table h (edge (least s.edges.classes c)) (edge (least s.edges.classes c')) q r t u j)
        | inr j ↦ inr (joined_under s.rows m s'.rows k.table h (edge (least s.edges.classes c)) (backwards (edge (least s.edges.classes c'))) q (backwards r) t (turned_tie (edge (least s.edges.classes c')) r a' u) j)
      ] in
      sym (start_is s.rows k.table s.edges.classes s.edges.count k.edges c l).1 ∙ (k.edges.together (least s.edges.classes c) (least s.edges.classes c') (below c l) (below c' l')).1 same ∙ (start_is s.rows k.table s.edges.classes s.edges.count k.edges c' l').1

  once' : (c d d' : ℕ) → d < s'.edges.count → d' < s'.edges.count → Corresponds c d → Corresponds c d' → d ≡ d'
  once' c d d' l l' (q, t, w) (r, u, v) =
      let j : IsJoined s'.rows q r = joined_over s.rows m s'.rows k.table h (edge (least s.edges.classes c)) (edge (least s.edges.classes c)) q r t u (joined_refl s.rows (edge (least s.edges.classes c))) in
      let lead : EitherWay s'.rows q (least s'.edges.classes d') = elim v [ inl g ↦ inl (joined_trans s'.rows q r (edge (least s'.edges.classes d')) j g) | inr g ↦ inr (joined_trans s'.rows q r (backwards (edge (least s'.edges.classes d'))) j g) ] in
      let same : SameEdge s'.rows (least s'.edges.classes d) (least s'.edges.classes d') = meet w lead in
      sym (start_is s'.rows k'.table s'.edges.classes s'.edges.count k'.edges d l).1 ∙ (k'.edges.together (least s'.edges.classes d) (least s'.edges.classes d') (below' d l) (below' d' l')).1 same ∙ (start_is s'.rows k'.table s'.edges.classes s'.edges.count k'.edges d' l').1
    where
      place_q : IsPlace q
      place_q = tie_place s.rows m s'.rows k.table h (edge (least s.edges.classes c)) q t

      meet : EitherWay s'.rows q (least s'.edges.classes d) → EitherWay s'.rows q (least s'.edges.classes d') → SameEdge s'.rows (least s'.edges.classes d) (least s'.edges.classes d')
      meet (inl a) (inl b) = inl (joined_trans s'.rows (edge (least s'.edges.classes d)) q (edge (least s'.edges.classes d')) (joined_sym s'.rows q (edge (least s'.edges.classes d)) k'.table place_q a) b)
      meet (inl a) (inr b) = inr (joined_trans s'.rows (edge (least s'.edges.classes d)) q (backwards (edge (least s'.edges.classes d'))) (joined_sym s'.rows q (edge (least s'.edges.classes d)) k'.table place_q a) b)
      meet (inr a) (inl b) =
          let z : IsJoined s'.rows (backwards (edge (least s'.edges.classes d))) (edge (least s'.edges.classes d')) = joined_trans s'.rows (backwards (edge (least s'.edges.classes d))) q (edge (least s'.edges.classes d')) (joined_sym s'.rows q (backwards (edge (least s'.edges.classes d))) k'.table place_q a) b in
          inr (subst (λ (x : Place). IsJoined s'.rows x (backwards (edge (least s'.edges.classes d')))) (turned_twice (least s'.edges.classes d)) (joined_turned s'.rows (backwards (edge (least s'.edges.classes d))) (edge (least s'.edges.classes d')) z))
      meet (inr a) (inr b) =
          let z : IsJoined s'.rows (backwards (edge (least s'.edges.classes d))) (backwards (edge (least s'.edges.classes d'))) = joined_trans s'.rows (backwards (edge (least s'.edges.classes d))) q (backwards (edge (least s'.edges.classes d'))) (joined_sym s'.rows q (backwards (edge (least s'.edges.classes d))) k'.table place_q a) b in
          inl (subst₂ (IsJoined s'.rows) (turned_twice (least s'.edges.classes d)) (turned_twice (least s'.edges.classes d')) (joined_turned s'.rows (backwards (edge (least s'.edges.classes d))) (backwards (edge (least s'.edges.classes d'))) z))

  pub same_number : (before after : List ℕ) → AreInvalidClasses s before → AreInvalidClasses s' after → length before ≡ length after
  same_number before after b a = related_same Corresponds before after (apart_from_ascending before b.ascending) (apart_from_ascending after a.ascending)
      (λ c i. (let z = (b.each c).0 (contains_among c before i) in let f = forth c z.0 z.1 in (f.0, among_contains f.0 after ((a.each f.0).1 (f.1, f.2)), f.3)))
      (λ d i. (let z = (a.each d).0 (contains_among d after i) in let f = back d z.0 z.1 in (f.0, among_contains f.0 before ((b.each f.0).1 (f.1, f.2)), f.3)))
      (λ c c' d i j r t. once c c' d ((b.each c).0 (contains_among c before i)).0 ((b.each c').0 (contains_among c' before j)).0 r t)
      (λ c d d' i j r t. once' c d d' ((a.each d).0 (contains_among d after i)).0 ((a.each d').0 (contains_among d' after j)).0 r t)

pub moves_keep_invalid_lem : MovesKeepInvalid
moves_keep_invalid_lem s m s' before after k k' h b a = same_number s m s' k k' h before after b a
