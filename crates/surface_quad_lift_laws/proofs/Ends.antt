-- The ends of sides are the vertices of the link: classes of directed edges, each by its least member.
use Rattle.std.proofs.Common.{◌≡◌, ◌≢◌, ℕ, ◌+◌, ◌*◌, ◌/◌, ◌%◌, ◌<◌, Bool, false, not, List, [], ◌∷◌, length, filter, Some, refl, sym, ap, ◌∙◌, subst, subst₂, arith, Option, None}
use Rattle.std.specs.Prelude.{◌==◌, ◌&&◌, ◌||◌, nat_lt, slice_index}
use Rattle.std.specs.List.{list_all}
use Rattle.std.proofs.lemmas.Bool.{eqb-true, eq-eqb, eqb-false, ne_eqb, ltb-true, and_parts, and_from, or_parts, not-true}
use Rattle.table_definitions.specs.Lists.{below, has}
use Rattle.table_definitions.specs.Classes.{IsNumbering, least, is_least}
use Rattle.table_definitions.specs.Permutation.{image, others}
use Rattle.table_definitions.specs.Table.{Gluing, Face, glue}
use Rattle.table_definitions.specs.Places.{Place, across, carried, IsJoined}
use Rattle.table_definitions.proofs.ChainLaws.{Steps, steps_across, across_by, kept_along, joined_step, joined_refl}
use Rattle.table_definitions.proofs.ClassLaws.{IsLeastOf, least_of}
use Rattle.table_definitions.proofs.ListFacts.{list_all-below}
use Rattle.table_definitions.proofs.Listed.{Among-filter, filter-among, below-among}
use Rattle.table_definitions.proofs.PermutationLaws.{image_below}
use Rattle.table_definitions.proofs.TableLaws.{Among, Among-below}
use Rattle.skeleton_definitions.specs.Corners.{Corner, left_through}
use Rattle.skeleton_definitions.specs.Links.{directed, SameDirected, vertex_number}
use Rattle.skeleton_definitions.specs.Skeleton.{Skeleton, IsSkeleton}
use Rattle.surface_laws.proofs.Vertices.{class_across}
use Rattle.surface_quad_laws.proofs.Rounds.{HasFourVertices}
use Rattle.skeleton_class_laws.proofs.Rounds.{where_led}
use Rattle.surface_quad_lift_laws.proofs.Flags.{IsVertexClass, IsFlag, mate, turn, mate_behind}
use Rattle.skeleton_class_laws.specs.Crossings.{pair, pair_number}
use Rattle.skeleton_class_laws.proofs.Cases.{pair_number-parts}
use Rattle.skeleton_class_laws.proofs.DirectionTies.{pair_is}

-- the number of a directed edge
abbrev pub direction_number : ℕ → ℕ → ℕ → ℕ
direction_number t a b = 12 * t + pair_number a b

pub direction_below : (n t a b : ℕ) → t < n → a < 4 → b < 4 → a ≢ b → direction_number t a b < 12 * n
direction_below n t a b lt la lb ne = let p = (pair_number-parts a b la lb ne).0 in omega arith

-- the head of a directed edge
head_test : ℕ → ℕ → Bool
head_test a r = nat_lt (slice_index (others a) r) 4 && not (a == slice_index (others a) r)

pub head_below : (a r : ℕ) → a < 4 → r < 3 → (slice_index (others a) r < 4) × (a ≢ slice_index (others a) r)
unfolding head_test
head_below a r la lr =
    let p = and_parts (nat_lt (slice_index (others a) r) 4) (not (a == slice_index (others a) r)) (list_all-below (head_test a) 3 (list_all-below (λ x. list_all (head_test x) (below 3)) 4 refl a la) r lr) in
    (ltb-true (slice_index (others a) r) 4 p.0, eqb-false a (slice_index (others a) r) (not-true (a == slice_index (others a) r) p.1))

module _ (s : Skeleton) (k : IsSkeleton s) (c : ℕ) where
  -- a directed edge that begins at a vertex of class c
  pub record IsAtClass (p : Place) : Type 0 where
    pub v : ℕ
    pub w : ℕ
    pub is : p.vertices ≡ v ∷ w ∷ []
    pub below_four : v < 4
    pub chosen : slice_index s.vertices.classes (vertex_number p.tet v) ≡ c

  class_step : (p : Place) (f : ℕ) (q : Place) → IsAtClass p → across s.rows p f ≡ Some q → IsAtClass q
  class_step p f q h e =
      let x : Steps s.rows p f q = steps_across s.rows p f q e in
      let g : Gluing = x.gluing in
      let at : Face = record { tet = p.tet; face = f } in
      let off : h.v ≢ f = eqb-false h.v f (or_parts (h.v == f) ((h.w == f) || false) (ap (λ (vs : List ℕ). has vs f) (sym h.is) ∙ x.off)).0 in
      let to : IsAtClass (record { tet = g.tet; vertices = image g.perm h.v ∷ image g.perm h.w ∷ [] }) = record {
        v = image g.perm h.v;
        w = image g.perm h.w;
        is = refl;
        below_four = image_below g.perm h.v (k.table.permutes at g x.glued) h.below_four;
        chosen = sym (class_across s.rows k.table s.vertices.classes s.vertices.count k.vertices at g h.v x.glued h.below_four off) ∙ h.chosen;
      } in
      let same : record { tet = g.tet; vertices = image g.perm h.v ∷ image g.perm h.w ∷ [] } ≡ q = (λ i. carried g (record { tet = p.tet; vertices = sym h.is i })) ∙ sym x.lands in
      subst IsAtClass same to

  pub joined_class : (p q : Place) → IsJoined s.rows p q → IsAtClass p → IsAtClass q
  joined_class p q j h = kept_along s.rows IsAtClass class_step j.0 p q h j.1

  pub two_at_class : (t a b : ℕ) → IsAtClass (pair t a b) → (a < 4) × (slice_index s.vertices.classes (vertex_number t a) ≡ c)
  two_at_class t a b h =
      let e : h.v ≡ a = ap (λ (vs : List ℕ). slice_index vs 0) (sym h.is) in
      (subst (λ v. v < 4) e h.below_four, subst (λ v. slice_index s.vertices.classes (vertex_number t v) ≡ c) e h.chosen)

module _ (s : Skeleton) (c : ℕ) (z : IsVertexClass s c) (directions : List ℕ) (count : ℕ) (numbered : IsNumbering (12 * length s.rows) (SameDirected s.rows) directions count) where
  abbrev n : ℕ
  n = length s.rows

  abbrev pub end_at : ℕ → ℕ → ℕ → ℕ
  end_at t a b = least directions (slice_index directions (direction_number t a b))

  -- the end of a flag, and the other end of its side
  abbrev pub end_of : Corner → ℕ
  end_of k = end_at k.tet k.a k.b

  abbrev pub other_end : Corner → ℕ
  other_end k = end_of (turn k)

  -- joined directed edges have the same end
  pub joined_ends : (t a b t' a' b' : ℕ) → t < n → a < 4 → b < 4 → a ≢ b → t' < n → a' < 4 → b' < 4 → a' ≢ b' → IsJoined s.rows (pair t a b) (pair t' a' b') → end_at t a b ≡ end_at t' a' b'
  joined_ends t a b t' a' b' lt la lb ne lt' la' lb' ne' j =
      ap (least directions) ((numbered.together (direction_number t a b) (direction_number t' a' b') (direction_below n t a b lt la lb ne) (direction_below n t' a' b' lt' la' lb' ne')).1
      (subst₂ (IsJoined s.rows) (sym (pair_is t a b la lb ne)) (sym (pair_is t' a' b' la' lb' ne')) j))

  pub end_mate : (k : Corner) → IsFlag s c z k → IsFlag s c z (mate s.rows k) → end_of (mate s.rows k) ≡ end_of k
  end_mate k h m = go (glue s.rows (left_through k)) refl
    where
      glued : (g : Gluing) → glue s.rows (left_through k) ≡ Some g → end_of (mate s.rows k) ≡ end_of k
      glued g e =
          let f : HasFourVertices n k = h.four in
          let ha : (k.a == k.c) ≡ false = ne_eqb k.a k.c f.ac in
          let hb : (k.b == k.c) ≡ false = ne_eqb k.b k.c f.bc in
          let j : IsJoined s.rows (pair k.tet k.a k.b) (carried g (pair k.tet k.a k.b)) = joined_step s.rows (pair k.tet k.a k.b) k.c (carried g (pair k.tet k.a k.b)) (across_by s.rows (pair k.tet k.a k.b) k.c g e (rw (ha, hb) refl)) in
          let l : Corner = mate s.rows k in
          let same : carried g (pair k.tet k.a k.b) ≡ pair l.tet l.a l.b = ap (λ o. let m : Corner = where_led mate_behind k o in pair m.tet m.a m.b) (sym e) in
          let q : HasFourVertices n l = m.four in
          sym (joined_ends k.tet k.a k.b l.tet l.a l.b f.tet f.a f.b f.ab q.tet q.a q.b q.ab (subst (IsJoined s.rows (pair k.tet k.a k.b)) same j))

      go : (o : Option Gluing) → glue s.rows (left_through k) ≡ o → end_of (mate s.rows k) ≡ end_of k
      go None e = ap end_of (ap (where_led mate_behind k) e)
      go (Some g) e = glued g e

  -- the vertices of the link
  abbrev is_link_vertex : ℕ → Bool
  is_link_vertex i = is_least directions i && (slice_index s.vertices.classes (vertex_number (i / 12) ((i % 12) / 3)) == c)

  abbrev pub link_vertex_list : List ℕ
  link_vertex_list = filter is_link_vertex (below (length directions))

  pub end_listed : (k : Corner) → IsFlag s c z k → Among (end_of k) link_vertex_list
  end_listed k h =
      let f : HasFourVertices n k = h.four in
      let d : ℕ = direction_number k.tet k.a k.b in
      let ld : d < 12 * n = direction_below n k.tet k.a k.b f.tet f.a f.b f.ab in
      let i : ℕ = end_of k in
      let l : IsLeastOf (12 * n) (SameDirected s.rows) directions d i = least_of (12 * n) (SameDirected s.rows) directions count numbered d ld in
      let li : i < length directions = omega (arith, l.below, numbered.one_each) in
      let at : IsAtClass s (z.skeleton) c (directed i) = joined_class s (z.skeleton) c (directed d) (directed i) l.same
      (subst (IsAtClass s (z.skeleton) c) (sym (pair_is k.tet k.a k.b f.a f.b f.ab)) (record { v = k.a; w = k.b; is = refl; below_four = f.a; chosen = h.chosen })) in
      Among-filter is_link_vertex i (below (length directions)) (Among-below i (length directions) li)
      (and_from (is_least directions i) (slice_index s.vertices.classes (vertex_number (i / 12) ((i % 12) / 3)) == c) l.least_is
      (eq-eqb (slice_index s.vertices.classes (vertex_number (i / 12) ((i % 12) / 3))) c (two_at_class s (z.skeleton) c (i / 12) ((i % 12) / 3) (slice_index (others ((i % 12) / 3)) (i % 3)) at).1))

  -- each of them is the end of a directed edge at the class
  pub record IsEnd (i : ℕ) : Type 0 where
    pub tet : ℕ
    pub a : ℕ
    pub b : ℕ
    pub small : tet < n
    pub la : a < 4
    pub lb : b < 4
    pub ne : a ≢ b
    pub chosen : slice_index s.vertices.classes (vertex_number tet a) ≡ c
    pub is : end_at tet a b ≡ i

  pub listed_end : (i : ℕ) → Among i link_vertex_list → IsEnd i
  listed_end i h =
      let m = filter-among is_link_vertex i (below (length directions)) h in
      let t = and_parts (is_least directions i) (slice_index s.vertices.classes (vertex_number (i / 12) ((i % 12) / 3)) == c) m.1 in
      let li : i < 12 * n = let l = below-among i (length directions) m.0 in let e = numbered.one_each in omega arith in
      let la : (i % 12) / 3 < 4 = omega arith in
      let lr : i % 3 < 3 = omega arith in
      let hd = head_below ((i % 12) / 3) (i % 3) la lr in
      let lt : i / 12 < n = omega arith in
      let b : ℕ = slice_index (others ((i % 12) / 3)) (i % 3) in
      let d : ℕ = direction_number (i / 12) ((i % 12) / 3) b in
      let joined : SameDirected s.rows d i = subst (λ p. IsJoined s.rows p (directed i)) (sym (pair_is (i / 12) ((i % 12) / 3) b la hd.0 hd.1)) (joined_refl s.rows (directed i)) in
      record {
        tet = i / 12;
        a = (i % 12) / 3;
        b = b;
        small = lt;
        la = la;
        lb = hd.0;
        ne = hd.1;
        chosen = eqb-true (slice_index s.vertices.classes (vertex_number (i / 12) ((i % 12) / 3))) c t.1;
        is = ap (least directions) ((numbered.together d i (direction_below n (i / 12) ((i % 12) / 3) b lt la hd.0 hd.1) li).1 joined) ∙ eqb-true (least directions (slice_index directions i)) i t.0;
      }
