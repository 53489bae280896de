-- The vertex classes that a move leaves and those that its inverse leaves correspond.
use Rattle.std.proofs.Common.{◌≡◌, ◌↔◌, ℕ, ◌*◌, ◌%◌, ◌<◌, ◌≤◌, List, length, ◌⊎◌, inl, inr, false, refl, sym, ap, ◌∙◌, subst, arith}
use Rattle.std.specs.Prelude.{slice_index}
use Rattle.std.proofs.lemmas.Bool.{cases_lt}
use Rattle.table_definitions.specs.Lists.{has, rank_without}
use Rattle.table_definitions.specs.Places.{Place, vertex}
use Rattle.skeleton_definitions.specs.Links.{kind_of}
use Rattle.skeleton_definitions.specs.Skeleton.{Skeleton, IsSkeleton}
use Rattle.skeleton_definitions.specs.declared.Link.{Link}
use Rattle.move_definitions.specs.Moves.{Move, IsMoved, old_tets, inverse_move}
use Rattle.surface_quad_lift_laws.specs.Laws.{HasLink}
use Rattle.move_link_laws.specs.BoundaryCurves.{HasBoundaryCurves}
use Rattle.move_link_laws.specs.Links.{IsTakenAway, IsLeft, AreAlike, MovesKeepLinks}
use Rattle.move_link_laws.proofs.Ties.{Ties}
use Rattle.move_link_laws.proofs.TieShapes.{kept_tie}
use Rattle.move_link_laws.proofs.Buried.{Buried, tied_or_buried, new_tied_or_buried}
use Rattle.skeleton_laws.proofs.Spots.{class_of, IsSpot, vertex_spot, vertex_number_again, spot_below}
use Rattle.surface_laws.proofs.Vertices.{one_vertex}
use Rattle.move_link_laws.proofs.TiedSpots.{tie_spot, spot_of_tie, Match, class_over, class_under}
use Rattle.move_link_laws.proofs.Spheres.{free_of_one}
use Rattle.move_link_laws.proofs.Euler.{same_link}
use Rattle.move_link_laws.proofs.SignsAgree.{signs_forth}
use Rattle.move_link_laws.proofs.SignsAgreeBack.{signs_back}
use Rattle.move_link_laws.proofs.ArcsCarried.{curves_same}
use Rattle.move_link_laws.proofs.Correspond.{taken_from, not_taken, put_from, not_put}
use Rattle.basic_lemmas.proofs.Truths.{same_truth}

module _ (s : Skeleton) (m : Move) (s' : Skeleton) (k : IsSkeleton s) (k' : IsSkeleton s') (h : IsMoved s.rows m s'.rows) where
  abbrev Tie : Place → Place → Type 0
  Tie p q = Ties s.rows m s'.rows k.table h p q

  abbrev In : List ℕ → Place → Type 0
  In ls p = Buried s.rows m s'.rows k.table h ls p

  abbrev Matching : ℕ → ℕ → Type 0
  Matching c c' = Match s.rows m s'.rows k.table h s.vertices.classes s.vertices.count k.vertices s'.vertices.classes s'.vertices.count k'.vertices c c'

  -- the class that corresponds to c
  target : (i : ℕ) → ((q : Place) × Tie (vertex i) q) ⊎ ((ls : List ℕ) × In ls (vertex i)) → ℕ
  target i (inl t) = class_of s'.vertices.classes t.0
  target i (inr b) = 0

  decided : (i : ℕ) → i < 4 * length s.rows → ((q : Place) × Tie (vertex i) q) ⊎ ((ls : List ℕ) × In ls (vertex i))
  decided i l = let v = vertex_spot (length s.rows) i l in let low : i % 4 < 4 = omega arith in tied_or_buried s.rows m s'.rows k.table h (vertex i) v.below (low, tt) (free_of_one (i % 4))

  to_by : (c : ℕ) → (c < s.vertices.count) ⊎ (s.vertices.count ≤ c) → ℕ
  to_by c (inl l) = let i = k.vertices.none_empty c l in target i.0 (decided i.0 i.1)
  to_by c (inr m') = 0

  to_of : ℕ → ℕ
  to_of c = to_by c (cases_lt c s.vertices.count)

  match_of : (c : ℕ) → IsLeft s m c → Matching c (to_of c)
  unfolding to_of
  match_of c (lc, left) = by_count (cases_lt c s.vertices.count)
    where
      by_target : (i : ℕ) (l : i < 4 * length s.rows) → slice_index s.vertices.classes i ≡ c → (d : ((q : Place) × Tie (vertex i) q) ⊎ ((ls : List ℕ) × In ls (vertex i))) → Matching c (target i d)
      by_target i l e (inl t) = unfold target in record { p = vertex i; q = t.0; spot_is = vertex_spot (length s.rows) i l; tie = t.1; here = ap (slice_index s.vertices.classes) (vertex_number_again i) ∙ e; there = refl }
      by_target i l e (inr b) = absurd (left (subst (IsTakenAway s m) (ap (slice_index s.vertices.classes) (vertex_number_again i) ∙ e) (taken_from s m s' k k' h (vertex i) b.0 (vertex_spot (length s.rows) i l) b.1)))

      by_count : (d : (c < s.vertices.count) ⊎ (s.vertices.count ≤ c)) → Matching c (to_by c d)
      by_count (inl l) = unfold to_by in (let i = k.vertices.none_empty c l in by_target i.0 i.1 i.2 (decided i.0 i.1))
      by_count (inr m') = absurd (omega arith)

  over : (c c' : ℕ) (t : Matching c c') (p q : Place) → IsSpot (length s.rows) p → Tie p q → class_of s.vertices.classes p ≡ c → class_of s'.vertices.classes q ≡ c'
  over c c' t p q sp z e = class_over s.rows m s'.rows k.table h s.vertices.classes s.vertices.count k.vertices s'.vertices.classes s'.vertices.count k'.vertices c c' t p q sp z e

  under : (c c' : ℕ) (t : Matching c c') (p q : Place) → IsSpot (length s.rows) p → Tie p q → class_of s'.vertices.classes q ≡ c' → class_of s.vertices.classes p ≡ c
  under c c' t p q sp z e = class_under s.rows m s'.rows k.table h s.vertices.classes s.vertices.count k.vertices s'.vertices.classes s'.vertices.count k'.vertices c c' t p q sp z e

  left_of : (c : ℕ) → IsLeft s m c → IsLeft s' (inverse_move (length s.rows) m) (to_of c)
  left_of c l =
      let t = match_of c l in
      (subst (λ z. z < s'.vertices.count) t.there (k'.vertices.in_range _ (spot_below (length s'.rows) t.q (tie_spot s.rows m s'.rows k.table h t.p t.q t.spot_is t.tie))), not_put s m s' k k' h c (to_of c) t)

  once_of : (c d : ℕ) → IsLeft s m c → IsLeft s m d → to_of c ≡ to_of d → c ≡ d
  once_of c d l l' e =
      let t = match_of c l in
      let u = match_of d l' in
      sym (under c (to_of c) t u.p u.q u.spot_is u.tie (u.there ∙ sym e)) ∙ u.here

  onto_of : (c' : ℕ) → IsLeft s' (inverse_move (length s.rows) m) c' → (c : ℕ) × IsLeft s m c × (to_of c ≡ c')
  onto_of c' (lc, left) = elim (new_tied_or_buried s.rows m s'.rows k.table h (vertex j.0) v.below (low, tt) (free_of_one (j.0 % 4))) [
    | inl t ↦ tied t.0 t.1
    | inr b ↦ absurd (left (subst (IsTakenAway s' (inverse_move (length s.rows) m)) at (put_from s m s' k k' h (vertex j.0) b.0 v b.1)))
  ]
    where
      j : (j : ℕ) × (j < 4 * length s'.rows) × (slice_index s'.vertices.classes j ≡ c')
      j = k'.vertices.none_empty c' lc

      v : IsSpot (length s'.rows) (vertex j.0)
      v = vertex_spot (length s'.rows) j.0 j.1

      low : j.0 % 4 < 4
      low = omega arith

      at : class_of s'.vertices.classes (vertex j.0) ≡ c'
      at = ap (slice_index s'.vertices.classes) (vertex_number_again j.0) ∙ j.2

      tied : (p : Place) → Tie p (vertex j.0) → (c : ℕ) × IsLeft s m c × (to_of c ≡ c')
      tied p t =
          let sp : IsSpot (length s.rows) p = spot_of_tie s.rows m s'.rows k.table h p (vertex j.0) v t in
          let match : Matching (class_of s.vertices.classes p) c' = record { p = p; q = vertex j.0; spot_is = sp; tie = t; here = refl; there = at } in
          let l : IsLeft s m (class_of s.vertices.classes p) = (k.vertices.in_range _ (spot_below (length s.rows) p sp), not_taken s m s' k k' h (class_of s.vertices.classes p) c' match) in
          (class_of s.vertices.classes p, l, sym (over (class_of s.vertices.classes p) (to_of (class_of s.vertices.classes p)) (match_of (class_of s.vertices.classes p) l) p (vertex j.0) sp t refl) ∙ at)

  -- a vertex of a tetrahedron that is retained
  stays_of : (t v : ℕ) → t < length s.rows → has (old_tets s.rows m) t ≡ false → v < 4 → to_of (class_of s.vertices.classes (one_vertex t v)) ≡ class_of s'.vertices.classes (one_vertex (rank_without (old_tets s.rows m) t) v)
  stays_of t v lt there low =
      let q : Place = one_vertex (rank_without (old_tets s.rows m) t) v in
      let sp : IsSpot (length s.rows) (one_vertex t v) = record { v = v; is = refl; below = lt; low = low } in
      let f = free_of_one v in
      let z : Tie (one_vertex t v) q = kept_tie s.rows m s'.rows k.table h (one_vertex t v) there lt (low, tt) f.0 f.1 f.2 in
      let c = class_of s.vertices.classes (one_vertex t v) in
      let match : Matching c (class_of s'.vertices.classes q) = record { p = one_vertex t v; q = q; spot_is = sp; tie = z; here = refl; there = refl } in
      let l : IsLeft s m c = (k.vertices.in_range _ (spot_below (length s.rows) (one_vertex t v) sp), not_taken s m s' k k' h c (class_of s'.vertices.classes q) match) in
      sym (over c (to_of c) (match_of c l) (one_vertex t v) q sp z refl)

  alike_of : (c : ℕ) (one other : Link) → IsLeft s m c → HasLink s c one → HasLink s' (to_of c) other → AreAlike one other
  alike_of c one other l a b =
      let t = match_of c l in
      let same = same_link s.rows m s'.rows k.table k'.table h s.vertices.classes s.vertices.count k.vertices s'.vertices.classes s'.vertices.count k'.vertices c (to_of c) t
      a.directions a.count a.numbered b.directions b.count b.numbered one other a.is_link b.is_link in
      let orientable : one.orientable ≡ other.orientable = same_truth one.orientable other.orientable
      (λ z. let o = a.is_link.orientable.0 z in b.is_link.orientable.1 (signs_forth s.rows m s'.rows k.table k'.table h s.vertices.classes s.vertices.count k.vertices s'.vertices.classes s'.vertices.count k'.vertices c (to_of c) t o.0 o.2))
      (λ z. let o = b.is_link.orientable.0 z in a.is_link.orientable.1 (signs_back s.rows m s'.rows k.table k'.table h s.vertices.classes s.vertices.count k.vertices s'.vertices.classes s'.vertices.count k'.vertices c (to_of c) t o.0 o.2)) in
      record {
        euler = same.0;
        closed = same.1;
        orientable = orientable;
        kind = a.is_link.kind ∙ (λ i. kind_of (same.1 i) (same.0 i) (orientable i)) ∙ sym b.is_link.kind;
      }

  curves_of : (c n : ℕ) → IsLeft s m c → HasBoundaryCurves s c n ↔ HasBoundaryCurves s' (to_of c) n
  curves_of c n l = curves_same s m s' k k' h c (to_of c) (match_of c l) n

pub moves_keep_links_lem : MovesKeepLinks
moves_keep_links_lem s m s' k k' h = record {
  to = to_of s m s' k k' h;
  left = left_of s m s' k k' h;
  once = once_of s m s' k k' h;
  onto = onto_of s m s' k k' h;
  stays = stays_of s m s' k k' h;
  alike = alike_of s m s' k k' h;
  curves = curves_of s m s' k k' h;
}
