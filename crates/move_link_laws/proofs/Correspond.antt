-- The vertex class that a move removes, and the one that it adds: no vertex of the former has an image, and none of the
-- latter is one.
use Rattle.std.proofs.Common.{◌≡◌, ℕ, ◌+◌, ◌-◌, ◌<◌, ◌≤◌, true, false, List, [], ◌∷◌, length, map, drop, inl, inr, refl, sym, ap, ◌∙◌, subst, arith}
use Rattle.std.specs.Prelude.{◌||◌, slice_index}
use Rattle.std.proofs.lemmas.Bool.{cases_lt, eq-eqb}
use Rattle.table_definitions.specs.Lists.{has}
use Rattle.table_definitions.specs.Permutation.{four, preimage}
use Rattle.table_definitions.specs.Table.{Row}
use Rattle.table_definitions.specs.Places.{Place}
use Rattle.skeleton_definitions.specs.Links.{vertex_number}
use Rattle.skeleton_definitions.specs.Skeleton.{Skeleton, IsSkeleton}
use Rattle.move_definitions.specs.Moves.{Move, IsMoved, vertex_of, kept, inverse_move}
use Rattle.move_link_laws.specs.Links.{IsTakenAway}
use Rattle.move_link_laws.proofs.Ties.{limited, some, new_at, Ties}
use Rattle.move_link_laws.proofs.Buried.{Buried, NewBuried}
use Rattle.move_link_laws.proofs.BuriedChains.{buried_joined, new_buried_joined}
use Rattle.skeleton_laws.proofs.Spots.{class_of, IsSpot, one_class}
use Rattle.surface_laws.proofs.Vertices.{one_vertex}
use Rattle.move_link_laws.proofs.TiedSpots.{tie_not_buried, tie_not_new_buried, Match, all_tied, all_tied_new}
use Rattle.move_link_laws.proofs.Lone.{lone_core, one_has}
use Rattle.move_link_laws.proofs.TakenAway.{core_buried, core_is_spot}

core_of_back : (s : ℕ) → length (drop (s - 1) four) ≡ 1 → s < 5 → 0 < s → s ≡ 4
core_of_back s e limited some = elim (cases_lt s 4) [
  | inr more ↦ omega arith
  | inl less ↦ absurd (elim (cases_lt s 2) [
    | inl a ↦ (let z : s ≡ 1 = omega arith in let w : length (drop (1 - 1) four) ≡ 1 = subst (λ k. length (drop (k - 1) four) ≡ 1) z e in let f : length (drop (1 - 1) four) ≡ 4 = refl in omega arith)
    | inr a ↦ elim (cases_lt s 3) [
      | inl b ↦ (let z : s ≡ 2 = omega arith in let w : length (drop (2 - 1) four) ≡ 1 = subst (λ k. length (drop (k - 1) four) ≡ 1) z e in let f : length (drop (2 - 1) four) ≡ 3 = refl in omega arith)
      | inr b ↦ (let z : s ≡ 3 = omega arith in let w : length (drop (3 - 1) four) ≡ 1 = subst (λ k. length (drop (k - 1) four) ≡ 1) z e in let f : length (drop (3 - 1) four) ≡ 2 = refl in omega arith)
    ]
  ])
]

module _ (s : Skeleton) (m : Move) (s' : Skeleton) (k : IsSkeleton s) (k' : IsSkeleton s') (h : IsMoved s.rows m s'.rows) where
  abbrev old : List Row
  old = s.rows

  abbrev new : List Row
  new = s'.rows

  abbrev Tie : Place → Place → Type 0
  Tie p q = Ties s.rows m s'.rows k.table h p q

  abbrev In : List ℕ → Place → Type 0
  In ls p = Buried s.rows m s'.rows k.table h ls p

  abbrev New : List ℕ → Place → Type 0
  New ls q = NewBuried s.rows m s'.rows k.table h ls q

  abbrev vs : List ℕ
  vs = s.vertices.classes

  abbrev vs' : List ℕ
  vs' = s'.vertices.classes

  abbrev back : Move
  back = inverse_move (length s.rows) m

  abbrev Matching : ℕ → ℕ → Type 0
  Matching c c' = Match s.rows m s'.rows k.table h s.vertices.classes s.vertices.count k.vertices s'.vertices.classes s'.vertices.count k'.vertices c c'

  -- a vertex without an image is the core, of the class that is removed
  pub taken_from : (p : Place) (ls : List ℕ) → IsSpot (length s.rows) p → In ls p → IsTakenAway s m (class_of s.vertices.classes p)
  taken_from p ls sp b =
      let l = lone_core s.rows m s'.rows k.table h (length s.rows) p ls sp b in
      let b0 : In (0 ∷ []) p = subst (λ (ks : List ℕ). In ks p) l.1 b in (
        l.0,
        (one_class s.rows s.vertices.classes s.vertices.count k.vertices (one_vertex m.tet (slice_index m.core 0)) p (core_is_spot s.rows m s'.rows k.table h l.0) sp).1
            (buried_joined s.rows m s'.rows k.table h (0 ∷ []) (one_vertex m.tet (slice_index m.core 0)) p (core_buried s.rows m s'.rows k.table h l.0) b0),
      )

  -- no vertex of such a class has an image
  pub not_taken : (c c' : ℕ) → Matching c c' → IsTakenAway s m c → ⊥
  not_taken c c' t (one, at) =
      let z = all_tied s.rows m s'.rows k.table h s.vertices.classes s.vertices.count k.vertices s'.vertices.classes s'.vertices.count k'.vertices c c' t (one_vertex m.tet (slice_index m.core 0)) (core_is_spot s.rows m s'.rows k.table h one) at in
      tie_not_buried s.rows m s'.rows k.table h (0 ∷ []) (one_vertex m.tet (slice_index m.core 0)) z.0 z.1 (core_buried s.rows m s'.rows k.table h one)

  -- the vertex that is added
  added_buried : length m.core ≡ 4 → New (4 ∷ []) (one_vertex (kept s.rows m) 3)
  unfolding preimage
  added_buried e = record {
    j = 0;
    less = omega arith;
    small = (omega arith, tt);
    off = refl;
    all = λ i low high. (let q : 4 ≡ i = omega arith in (λ z. eq-eqb 4 i q z || false));
    to = λ i. one_vertex (tets i) 3;
  }
    where
      tets : kept s.rows m ≡ kept s.rows m + 0
      tets = omega arith

  added_spot : length m.core ≡ 4 → IsSpot (length s'.rows) (one_vertex (kept s.rows m) 3)
  added_spot e = record { v = 3; is = refl; below = (let l = h.length_is in omega arith); low = omega arith }

  back_taken : (c : ℕ) → IsTakenAway s' (inverse_move (length s.rows) m) c → (length m.core ≡ 4) × (class_of s'.vertices.classes (one_vertex (kept s.rows m) 3) ≡ c)
  back_taken c (one, at) =
      let e : length m.core ≡ 4 = core_of_back (length m.core) one (limited s.rows m s'.rows k.table h) (some s.rows m s'.rows k.table h) in
      let core : slice_index (drop (length m.core - 1) four) 0 ≡ 3 = ap (λ z. slice_index (drop (z - 1) four) 0) e in
      (e, (λ i. slice_index s'.vertices.classes (vertex_number (kept s.rows m) (sym core i))) ∙ at)

  taken_back : (c : ℕ) → length m.core ≡ 4 → class_of s'.vertices.classes (one_vertex (kept s.rows m) 3) ≡ c → IsTakenAway s' (inverse_move (length s.rows) m) c
  taken_back c e at =
      let core : slice_index (drop (length m.core - 1) four) 0 ≡ 3 = ap (λ z. slice_index (drop (z - 1) four) 0) e in
      (ap (λ z. length (drop (z - 1) four)) e, (λ i. slice_index s'.vertices.classes (vertex_number (kept s.rows m) (core i))) ∙ at)

  lone_added : (n : ℕ) (q : Place) (ls : List ℕ) → IsSpot n q → New ls q → (length m.core ≡ 4) × (ls ≡ 4 ∷ [])
  lone_added n q ls sq b = alone ls (ap (λ (r : Place). r.vertices) (sym sq.is ∙ b.to)) b.all
    where
      small : length m.core < 5
      small = limited s.rows m s'.rows k.table h

      alone : (ls : List ℕ) → sq.v ∷ [] ≡ map (vertex_of (new_at s.rows m s'.rows k.table h b.j)) ls → ((i : ℕ) → length m.core ≤ i → i < 5 → has ls i ≡ true) → (length m.core ≡ 4) × (ls ≡ 4 ∷ [])
      alone [] e all = absurd cc
      alone (l ∷ []) e all =
          let z : l ≡ 4 = one_has l 4 (all 4 (let a = small in omega arith) (omega arith)) in (
            elim (cases_lt (length m.core) 4) [
              | inl less ↦ absurd (let o : l ≡ 3 = one_has l 3 (all 3 (omega arith) (omega arith)) in omega arith)
              | inr more ↦ (let a = small in omega arith)
            ],
            ap (λ x. x ∷ []) z,
          )
      alone (l ∷ x ∷ xs) e all = absurd (let z : [] ≡ vertex_of (new_at s.rows m s'.rows k.table h b.j) x ∷ map (vertex_of (new_at s.rows m s'.rows k.table h b.j)) xs = cc in cc)

  pub put_from : (q : Place) (ls : List ℕ) → IsSpot (length s'.rows) q → New ls q → IsTakenAway s' (inverse_move (length s.rows) m) (class_of s'.vertices.classes q)
  put_from q ls sq b =
      let l = lone_added (length s'.rows) q ls sq b in
      let b0 : New (4 ∷ []) q = subst (λ (ks : List ℕ). New ks q) l.1 b in
      taken_back (class_of s'.vertices.classes q) l.0 ((one_class s'.rows s'.vertices.classes s'.vertices.count k'.vertices (one_vertex (kept s.rows m) 3) q (added_spot l.0) sq).1
      (new_buried_joined s.rows m s'.rows k.table h (4 ∷ []) (one_vertex (kept s.rows m) 3) q (added_buried l.0) b0))

  pub not_put : (c c' : ℕ) → Matching c c' → IsTakenAway s' (inverse_move (length s.rows) m) c' → ⊥
  not_put c c' t taken =
      let e = back_taken c' taken in
      let z = all_tied_new s.rows m s'.rows k.table h s.vertices.classes s.vertices.count k.vertices s'.vertices.classes s'.vertices.count k'.vertices c c' t (one_vertex (kept s.rows m) 3) (added_spot e.0) e.1 in
      tie_not_new_buried s.rows m s'.rows k.table h (4 ∷ []) z.0 (one_vertex (kept s.rows m) 3) z.1 (added_buried e.0)
