-- If a link has at most as many edges as the two trees and the boundary faces account for, each of its edges is crossed
-- by a tree or lies in a boundary face.
use Rattle.surface_quad_lift_laws.proofs.FreeSides.{free_sides, IsFreeSide, listed_free, free_apart}
use Rattle.std.proofs.Common.{◌≡◌, ℕ, ◌+◌, ◌*◌, ◌/◌, ◌%◌, ◌≤◌, Bool, true, false, cond, List, [], ◌∷◌, ◌++◌, length, map, filter, ◌⊎◌, inl, inr, refl, sym, ap, ◌∙◌, subst, arith, Option, None, Some}
use Rattle.std.specs.Prelude.{◌==◌, ◌&&◌, if◌then◌else◌, sum_by, slice_index}
use Rattle.std.proofs.lemmas.List.{length-map, length-append}
use Rattle.std.proofs.lemmas.List.Sums.{length-filter}
use Rattle.table_definitions.specs.Classes.{IsNumbering, members, is_least}
use Rattle.table_definitions.specs.Lists.{below, times_in}
use Rattle.table_definitions.specs.Permutation.{others}
use Rattle.table_definitions.specs.Table.{Face, glue, other_side, is_face_before, Gluing}
use Rattle.table_definitions.proofs.Listed.{Among-filter, map-among, appended-among}
use Rattle.table_definitions.proofs.TableLaws.{Among, Among-map}
use Rattle.table_definitions.proofs.Faces.{face_at}
use Rattle.skeleton_definitions.specs.Corners.{Corner, left_through}
use Rattle.skeleton_definitions.specs.Links.{SameDirected, vertex_number, is_first_side, link_edges, link_vertices}
use Rattle.skeleton_definitions.specs.Skeleton.{Skeleton}
use Rattle.surface_laws.proofs.Counting.{sum_by_same, sum_by-map, sum_by-flat_map, over_places}
use Rattle.surface_laws.proofs.Glued.{IsGlued, glued_is}
use Rattle.surface_laws.proofs.Matched.{before_or_after}
use Rattle.table_definitions.proofs.DistinctLists.{AreApart, apart_filter, apart_below, apart_append, apart_short}
use Rattle.surface_quad_lift_laws.proofs.Colours.{IsFree, ends_seen, AreJoined}
use Rattle.surface_quad_lift_laws.proofs.DualTree.{beyond, triangles_seen, IsHung}
use Rattle.surface_quad_lift_laws.proofs.Ends.{end_of, other_end, link_vertex_list}
use Rattle.skeleton_class_laws.proofs.Rounds.{where_led}
use Rattle.surface_quad_lift_laws.proofs.Flags.{IsVertexClass, IsFlag, mate, mate_in, mate_back, mate-turn, side, side_parts, triangle_of, turn, mate_behind}
use Rattle.surface_quad_lift_laws.proofs.Growing.{Covers, apart_covers, new_seen, old_seen, length-seen, fits, new_old, not_root}
use Rattle.surface_quad_lift_laws.proofs.OneSides.{IsOneSide, has_sides, same_side, one_of_ends, four_flags}
use Rattle.surface_quad_lift_laws.proofs.SideLists.{flag_of, flags_at, side_flags, flag_listed}

module _ (s : Skeleton) (c : ℕ) (z : IsVertexClass s c) where
  first_side : Corner → Bool
  first_side k = is_first_side (left_through k) (glue s.rows (left_through k))

  -- one number for each edge
  first_sides : List ℕ
  first_sides = map side (filter first_side (side_flags s c z))

  length-first_sides : length first_sides ≡ link_edges s.rows s.vertices.classes c
  unfolding first_sides first_side
  length-first_sides =
      length-map (filter first_side (side_flags s c z)) side ∙ length-filter first_side (side_flags s c z)
      ∙ sum_by-flat_map (λ (k : Corner). cond (first_side k) 1 0) (flags_at s c z) (members s.vertices.classes c)
      ∙ sum_by_same (λ i. sum_by (λ (k : Corner). cond (first_side k) 1 0) (flags_at s c z i)) (λ i. sum_by (λ (x : Face). cond (is_first_side x (glue s.rows x)) 1 0) (map (λ f. face_at (i / 4) f) (others (i % 4)))) (members s.vertices.classes c)
      (λ i a. sum_by-map (λ (k : Corner). cond (first_side k) 1 0) (flag_of (i / 4) (i % 4)) (others (i % 4)) ∙ sym (sum_by-map (λ (x : Face). cond (is_first_side x (glue s.rows x)) 1 0) (λ f. face_at (i / 4) f) (others (i % 4))))
      ∙ sym (sum_by-flat_map (λ (x : Face). cond (is_first_side x (glue s.rows x)) 1 0) (λ i. map (λ f. face_at (i / 4) f) (others (i % 4))) (members s.vertices.classes c))

  -- the number of a flag's edge
  number_if : Bool → ℕ → ℕ → ℕ
  number_if b x y = if b then x else y

  edge_by : Corner → ℕ
  edge_by k = number_if (first_side k) (side k) (side (mate s.rows k))

  edge_true : (k : Corner) → first_side k ≡ true → edge_by k ≡ side k
  unfolding edge_by number_if
  edge_true k e = ap (λ b. number_if b (side k) (side (mate s.rows k))) e

  edge_false : (k : Corner) → first_side k ≡ false → edge_by k ≡ side (mate s.rows k)
  unfolding edge_by number_if
  edge_false k e = ap (λ b. number_if b (side k) (side (mate s.rows k))) e

  first_listed : (k : Corner) → IsFlag s c z k → first_side k ≡ true → Among (side k) first_sides
  unfolding first_sides first_side
  first_listed k h e = Among-map side (flag_of k.tet k.a k.c) (filter first_side (side_flags s c z)) (Among-filter first_side (flag_of k.tet k.a k.c) (side_flags s c z) (flag_listed s c z k h) e)

  other_first : (k : Corner) → IsFlag s c z k → first_side k ≡ false → first_side (mate s.rows k) ≡ true
  unfolding first_side
  other_first k h e = go (glue s.rows (left_through k)) refl
    where
      across_it : (g : Gluing) → glue s.rows (left_through k) ≡ Some g → is_first_side (left_through (mate s.rows k)) (glue s.rows (left_through (mate s.rows k))) ≡ true
      across_it g q =
          let x : Face = left_through k in
          let i : IsGlued s.rows x g = glued_is s.rows x g (z.skeleton).table q in
          let there : left_through (mate s.rows k) ≡ other_side x g = ap (λ o. left_through (where_led mate_behind k o)) q in
          let after : is_face_before x (other_side x g) ≡ false = ap (is_first_side x) (sym q) ∙ e in
          ap (λ y. is_first_side y (glue s.rows y)) there ∙ ap (is_first_side (other_side x g)) i.back ∙ ap (is_face_before (other_side x g)) i.returns
          ∙ elim (before_or_after x (other_side x g) ((z.skeleton).table.separate x g q)) [
            | inl b ↦ absurd (let o : false ≡ true = sym after ∙ b in cc)
            | inr b ↦ b
          ]

      go : (o : Option Gluing) → glue s.rows (left_through k) ≡ o → is_first_side (left_through (mate s.rows k)) (glue s.rows (left_through (mate s.rows k))) ≡ true
      go None q = absurd (let w : true ≡ false = ap (is_first_side (left_through k)) (sym q) ∙ e in cc)
      go (Some g) q = across_it g q

  -- a boundary side is its own edge
  edge_free : (k : Corner) → glue s.rows (left_through k) ≡ None → edge_by k ≡ side k
  unfolding first_side
  edge_free k e = edge_true k (ap (is_first_side (left_through k)) e)

  free_alone : (k m : Corner) → IsFlag s c z k → IsFlag s c z m → glue s.rows (left_through k) ≡ None → IsOneSide s k m → (k ≡ m) ⊎ (k ≡ turn m)
  free_alone k m h g free o = elim (four_flags s c z k m h g o) [
    | inl q ↦ q
    | inr (inl q) ↦ inl (q ∙ home (ap (λ l. glue s.rows (left_through l)) (sym q) ∙ free))
    | inr (inr q) ↦ inr (q ∙ ap turn (home (ap (λ l. glue s.rows (left_through l)) (sym q) ∙ free)))
  ]
    where
      home : glue s.rows (left_through (mate s.rows m)) ≡ None → mate s.rows m ≡ m
      home e = sym (ap (where_led mate_behind (mate s.rows m)) e) ∙ mate_back s c z m g

  edge_listed : (k : Corner) → IsFlag s c z k → Among (edge_by k) first_sides
  edge_listed k h = go (first_side k) refl
    where
      go : (b : Bool) → first_side k ≡ b → Among (edge_by k) first_sides
      go true e = subst (λ i. Among i first_sides) (sym (edge_true k e)) (first_listed k h e)
      go false e = subst (λ i. Among i first_sides) (sym (edge_false k e)) (first_listed (mate s.rows k) (mate_in s c z k h) (other_first k h e))

  -- the mates of two flags of one side are flags of one side
  side_mate : (k m : Corner) → IsFlag s c z k → IsFlag s c z m → side k ≡ side m → side (mate s.rows k) ≡ side (mate s.rows m)
  side_mate k m h g e = elim (same_side s c z k m h g e) [
    | inl q ↦ ap (λ l. side (mate s.rows l)) q
    | inr q ↦ ap (λ l. side (mate s.rows l)) q ∙ ap side (mate-turn s.rows m)
  ]

  back_side : (k m : Corner) → IsFlag s c z k → IsFlag s c z m → side (mate s.rows k) ≡ side m → side k ≡ side (mate s.rows m)
  back_side k m h g e = ap side (sym (mate_back s c z k h)) ∙ side_mate (mate s.rows k) m (mate_in s c z k h) g e

  edge_same : (k m : Corner) → IsFlag s c z k → IsFlag s c z m → edge_by k ≡ edge_by m → IsOneSide s k m
  edge_same k m h g e = go (first_side k) (first_side m) refl refl
    where
      go : (a b : Bool) → first_side k ≡ a → first_side m ≡ b → IsOneSide s k m
      go true true p q = inl (sym (edge_true k p) ∙ e ∙ edge_true m q)
      go true false p q = inr (sym (edge_true k p) ∙ e ∙ edge_false m q)
      go false true p q = inr (back_side k m h g (sym (edge_false k p) ∙ e ∙ edge_true m q))
      go false false p q = inl (back_side k (mate s.rows m) h (mate_in s c z m g) (sym (edge_false k p) ∙ e ∙ edge_false m q) ∙ ap side (mate_back s c z m g))

  module _ (directions : List ℕ) (count : ℕ) (numbered : IsNumbering (12 * length s.rows) (SameDirected s.rows) directions count) where
    abbrev end : Corner → ℕ
    end k = end_of s c z directions count numbered k

    abbrev other : Corner → ℕ
    other k = other_end s c z directions count numbered k

    length-ends : length (link_vertex_list s c z directions count numbered) ≡ link_vertices s.vertices.classes directions c
    length-ends = length-filter (λ i. is_least directions i && (slice_index s.vertices.classes (vertex_number (i / 12) ((i % 12) / 3)) == c)) (below (length directions))

    length-members : length (members s.vertices.classes c) ≡ times_in s.vertices.classes c
    length-members = length-filter (λ i. slice_index s.vertices.classes i == c) (below (length s.vertices.classes))
        ∙ over_places (λ m. cond (m == c) 1 0) (λ i. cond (slice_index s.vertices.classes i == c) 1 0) 0 s.vertices.classes (λ i l. refl)

    apart_tree : (root : ℕ) (ks : List Corner) → IsHung s c z root ks → AreApart (map edge_by ks)
    apart_tree root [] g = tt
    apart_tree root (k ∷ ks) g = ((λ a. let m = map-among edge_by (edge_by k) ks a in twice m.0 m.1 m.2), apart_tree root ks g.3)
      where
        twice : (m : Corner) → Among m ks → edge_by k ≡ edge_by m → ⊥
        twice m a e = elim (edge_same k m g.0 (fits triangle_of (beyond s) (IsFlag s c z) (root ∷ []) ks m g.3 a) e) [
          | inl q ↦ (let p = side_parts s c z k m g.0 (fits triangle_of (beyond s) (IsFlag s c z) (root ∷ []) ks m g.3 a) q in
              g.1 (subst (λ i. Among i (triangles_seen s c z root ks)) (λ i. vertex_number (sym p.0 i) (sym p.1 i)) (new_seen triangle_of (beyond s) (IsFlag s c z) (root ∷ []) ks m a)))
          | inr q ↦ (let p = side_parts s c z k (mate s.rows m) g.0 (mate_in s c z m (fits triangle_of (beyond s) (IsFlag s c z) (root ∷ []) ks m g.3 a)) q in
              g.1 (subst (λ i. Among i (triangles_seen s c z root ks)) (λ i. vertex_number (sym p.0 i) (sym p.1 i)) (old_seen triangle_of (beyond s) (IsFlag s c z) (root ∷ []) ks m g.3 a)))
        ]

    module _ (ds : List Corner) where
      abbrev Free : Corner → Type 0
      Free k = IsFree s c z directions count numbered ds k

      apart_joined : (firsts : List ℕ) (ks : List Corner) → AreJoined s c z directions count numbered ds firsts ks → AreApart (map edge_by ks)
      apart_joined firsts [] g = tt
      apart_joined firsts (k ∷ ks) g = ((λ a. let m = map-among edge_by (edge_by k) ks a in twice m.0 m.1 m.2), apart_joined firsts ks g.3)
        where
          twice : (m : Corner) → Among m ks → edge_by k ≡ edge_by m → ⊥
          twice m a e =
              let f : IsFlag s c z m = (fits end other Free firsts ks m g.3 a).0 in
              elim (one_of_ends s c z directions count numbered k m (g.0).0 f (edge_same k m (g.0).0 f e)) [
                | inl q ↦ g.1 (subst (λ i. Among i (ends_seen s c z directions count numbered ds firsts ks)) (sym q) (new_seen end other Free firsts ks m a))
                | inr q ↦ g.1 (subst (λ i. Among i (ends_seen s c z directions count numbered ds firsts ks)) (sym q) (old_seen end other Free firsts ks m g.3 a))
              ]

      module _ (root : ℕ) (firsts : List ℕ) (hung : IsHung s c z root ds) (covers : Covers triangle_of (beyond s) (IsFlag s c z) (root ∷ []) (members s.vertices.classes c) ds)
          (gs : List Corner) (joined : AreJoined s c z directions count numbered ds firsts gs) (all : Covers end other Free firsts (link_vertex_list s c z directions count numbered) gs)
          (free_ends : (k : Corner) → IsFlag s c z k → glue s.rows (left_through k) ≡ None → Among (end k) firsts)
          (numbers : link_edges s.rows s.vertices.classes c + 1 + length firsts ≤ link_vertices s.vertices.classes directions c + times_in s.vertices.classes c + length (free_sides s c z)) where
        edges_of_trees : List ℕ
        edges_of_trees = map edge_by ds ++ map edge_by gs

        every_edge : List ℕ
        every_edge = edges_of_trees ++ free_sides s c z

        enough : length first_sides ≤ length every_edge
        unfolding every_edge edges_of_trees
        enough =
            let a : length (members s.vertices.classes c) ≤ length (triangles_seen s c z root ds) = apart_short (members s.vertices.classes c) (triangles_seen s c z root ds)
            (apart_filter (λ i. slice_index s.vertices.classes i == c) (below (length s.vertices.classes)) (apart_below (length s.vertices.classes))) covers in
            let b : length (link_vertex_list s c z directions count numbered) ≤ length (ends_seen s c z directions count numbered ds firsts gs) =
            apart_short (link_vertex_list s c z directions count numbered) (ends_seen s c z directions count numbered ds firsts gs)
            (apart_filter (λ i. is_least directions i && (slice_index s.vertices.classes (vertex_number (i / 12) ((i % 12) / 3)) == c)) (below (length directions)) (apart_below (length directions))) all in
            let la : length (triangles_seen s c z root ds) ≡ length ds + 1 = length-seen triangle_of (beyond s) (IsFlag s c z) (root ∷ []) ds in
            let lb : length (ends_seen s c z directions count numbered ds firsts gs) ≡ length gs + length firsts = length-seen end other Free firsts gs in
            let part : length (map edge_by ds ++ map edge_by gs) ≡ length ds + length gs = length-append (map edge_by ds) (map edge_by gs) ∙ (λ i. length-map ds edge_by i + length-map gs edge_by i) in
            let whole : length ((map edge_by ds ++ map edge_by gs) ++ free_sides s c z) ≡ length (map edge_by ds ++ map edge_by gs) + length (free_sides s c z) = length-append (map edge_by ds ++ map edge_by gs) (free_sides s c z) in
            let le : length first_sides ≡ link_edges s.rows s.vertices.classes c = length-first_sides in
            let lv : length (link_vertex_list s c z directions count numbered) ≡ link_vertices s.vertices.classes directions c = length-ends in
            let lm : length (members s.vertices.classes c) ≡ times_in s.vertices.classes c = length-members in
            omega arith

        in_tree : (m : Corner) → Among m ds → IsFlag s c z m
        in_tree m a = fits triangle_of (beyond s) (IsFlag s c z) (root ∷ []) ds m hung a

        in_joined : (m : Corner) → Among m gs → Free m
        in_joined m a = fits end other Free firsts gs m joined a

        never_both : (x : ℕ) → Among x (map edge_by ds) → Among x (map edge_by gs) → ⊥
        never_both x a b =
            let m = map-among edge_by x ds a in
            let k = map-among edge_by x gs b in
            let f : Free k.0 = in_joined k.0 k.1 in
            let o : IsOneSide s k.0 m.0 = edge_same k.0 m.0 f.0 (in_tree m.0 m.1) (sym k.2 ∙ m.2) in
            absurd (let w : false ≡ true = sym f.1 ∙ has_sides s ds k.0 m.0 m.1 o in cc)

        -- no boundary side belongs to a tree
        never_free : (x : ℕ) → Among x edges_of_trees → Among x (free_sides s c z) → ⊥
        unfolding edges_of_trees
        never_free x a b = elim (appended-among x (map edge_by ds) (map edge_by gs) a) [
          | inl d ↦ (let m = map-among edge_by x ds d in
              let g : IsFlag s c z m.0 = in_tree m.0 m.1 in
              let o = free_alone f.k m.0 f.flag g f.free (edge_same f.k m.0 f.flag g (edge_free f.k f.free ∙ f.is ∙ m.2)) in
              new_old triangle_of (beyond s) (IsFlag s c z) (root ∷ []) ds m.0 hung m.1 (sym (ap (λ o. triangle_of (where_led mate_behind m.0 o)) (by_pair m.0 o))))
          | inr d ↦ (let m = map-among edge_by x gs d in
              let g : IsFlag s c z m.0 = (in_joined m.0 m.1).0 in
              let o = free_alone f.k m.0 f.flag g f.free (edge_same f.k m.0 f.flag g (edge_free f.k f.free ∙ f.is ∙ m.2)) in
              not_root end other Free firsts gs m.0 joined m.1 (free_ends m.0 g (by_pair m.0 o)))
        ]
          where
            f : IsFreeSide s c z x
            f = listed_free s c z x b

            by_pair : (m : Corner) → ((listed_free s c z x b).k ≡ m) ⊎ ((listed_free s c z x b).k ≡ turn m) → glue s.rows (left_through m) ≡ None
            by_pair m (inl q) = ap (λ l. glue s.rows (left_through l)) (sym q) ∙ (listed_free s c z x b).free
            by_pair m (inr q) = ap (λ l. glue s.rows (left_through l)) (sym q) ∙ (listed_free s c z x b).free

        within : (x : ℕ) → Among x every_edge → Among x first_sides
        unfolding every_edge edges_of_trees
        within x a = elim (appended-among x (map edge_by ds ++ map edge_by gs) (free_sides s c z) a) [
          | inl t ↦ elim (appended-among x (map edge_by ds) (map edge_by gs) t) [
            | inl b ↦ (let m = map-among edge_by x ds b in subst (λ i. Among i first_sides) (sym m.2) (edge_listed m.0 (in_tree m.0 m.1)))
            | inr b ↦ (let m = map-among edge_by x gs b in subst (λ i. Among i first_sides) (sym m.2) (edge_listed m.0 (in_joined m.0 m.1).0))
          ]
          | inr b ↦ (let f = listed_free s c z x b in subst (λ i. Among i first_sides) (edge_free f.k f.free ∙ f.is) (edge_listed f.k f.flag))
        ]

        edges_apart : AreApart every_edge
        unfolding every_edge edges_of_trees
        edges_apart = apart_append (map edge_by ds ++ map edge_by gs) (free_sides s c z) (apart_append (map edge_by ds) (map edge_by gs) (apart_tree root ds hung) (apart_joined firsts gs joined) never_both)
            (free_apart s c z) never_free

        -- each edge is crossed by one of the trees, or lies in a boundary face
        pub covered : (k : Corner) → IsFlag s c z k → ((m : Corner) × Among m ds × IsOneSide s k m) ⊎ (((m : Corner) × Among m gs × IsOneSide s k m) ⊎ ((m : Corner) × IsFlag s c z m × (glue s.rows (left_through m) ≡ None) × IsOneSide s k m))
        unfolding every_edge edges_of_trees
        covered k h =
            elim (appended-among (edge_by k) (map edge_by ds ++ map edge_by gs) (free_sides s c z) (apart_covers every_edge first_sides edges_apart within enough (edge_by k) (edge_listed k h))) [
              | inl t ↦ elim (appended-among (edge_by k) (map edge_by ds) (map edge_by gs) t) [
                | inl b ↦ (let m = map-among edge_by (edge_by k) ds b in inl (m.0, m.1, edge_same k m.0 h (in_tree m.0 m.1) m.2))
                | inr b ↦ (let m = map-among edge_by (edge_by k) gs b in inr (inl (m.0, m.1, edge_same k m.0 h (in_joined m.0 m.1).0 m.2)))
              ]
              | inr b ↦ (let f = listed_free s c z (edge_by k) b in inr (inr (f.k, f.flag, f.free, edge_same k f.k h f.flag (sym (edge_free f.k f.free ∙ f.is)))))
            ]
