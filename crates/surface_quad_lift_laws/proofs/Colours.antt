-- The ends of sides that cross no tree of triangles are joined. If some ends had been seen and others not, the
-- triangles with both kinds of ends would contain a cycle of the tree.
use Rattle.std.proofs.Common.{◌≡◌, ℕ, ◌*◌, ◌<◌, Bool, true, false, not, List, [], ◌∷◌, length, ◌⊎◌, inl, inr, refl, sym, ap, ◌∙◌, subst, arith, suc}
use Rattle.std.specs.Prelude.{◌&&◌, slice_index}
use Rattle.std.specs.Cmp.{both_ways}
use Rattle.std.proofs.lemmas.Bool.{cases_eq, and_parts, not-true}
use Rattle.table_definitions.specs.Classes.{IsNumbering, members}
use Rattle.table_definitions.specs.Lists.{has}
use Rattle.table_definitions.proofs.TableLaws.{Among}
use Rattle.table_definitions.proofs.Listed.{has_among, among_has}
use Rattle.skeleton_definitions.specs.Corners.{Corner}
use Rattle.skeleton_definitions.specs.Links.{SameDirected, vertex_number}
use Rattle.skeleton_definitions.specs.Skeleton.{Skeleton}
use Rattle.surface_quad_laws.proofs.InnerEdges.{and_none}
use Rattle.table_definitions.proofs.DistinctLists.{AreApart}
use Rattle.surface_quad_laws.proofs.Rounds.{HasFourVertices}
use Rattle.surface_quad_lift_laws.proofs.DualTree.{beyond, triangles_seen, IsHung, all_over_class}
use Rattle.surface_quad_lift_laws.proofs.Ends.{end_of, other_end, link_vertex_list, end_listed, IsEnd, listed_end}
use Rattle.surface_quad_lift_laws.proofs.Flags.{IsVertexClass, IsFlag, mate, mate_in, turn_in, flip_in, side, side_parts, triangle_of, turn, flip}
use Rattle.surface_quad_lift_laws.proofs.Growing.{only_one, seen, Grown, Extends, Covers, grow, old_seen, new_once, not_root, seen_is, fits, root_seen}
use Rattle.surface_quad_lift_laws.proofs.OneSides.{IsOneSide, sides_of, sides_has, third_is, four_flags, end_same, other_same}
use Rattle.surface_quad_lift_laws.proofs.Searches.{search_list, has_not, fails_second}
use Rattle.surface_quad_lift_laws.proofs.SideLists.{every_flag, flag_everywhere, everywhere_flag, member_listed, flag_to, flag_to_in}

module _ (s : Skeleton) (c : ℕ) (z : IsVertexClass s c) (directions : List ℕ) (count : ℕ) (numbered : IsNumbering (12 * length s.rows) (SameDirected s.rows) directions count) where
  abbrev n : ℕ
  n = length s.rows

  abbrev class_of : ℕ → ℕ
  class_of i = slice_index s.vertices.classes i

  abbrev end : Corner → ℕ
  end k = end_of s c z directions count numbered k

  abbrev other : Corner → ℕ
  other k = other_end s c z directions count numbered k

  module _ (ds : List Corner) where
    -- a flag whose side crosses no side of the tree
    abbrev pub crosses : Corner → Bool
    crosses k = has (sides_of s ds) (side k)

    abbrev pub IsFree : Corner → Type 0
    IsFree k = IsFlag s c z k × (crosses k ≡ false)

    abbrev pub ends_seen : List ℕ → List Corner → List ℕ
    ends_seen firsts gs = seen end other IsFree firsts gs

    abbrev pub AreJoined : List ℕ → List Corner → Type 0
    AreJoined firsts gs = Grown end other IsFree firsts gs

    module _ (root : ℕ) (low : root < 4 * n) (at_class : class_of root ≡ c) (hung : IsHung s c z root ds) (covers : Covers triangle_of (beyond s) (IsFlag s c z) (root ∷ []) (members s.vertices.classes c) ds)
        (start : Corner) (start_flag : IsFlag s c z start) (at_root : triangle_of start ≡ root)
        (firsts : List ℕ) (start_in : Among (end start) firsts) (firsts_in : (x : ℕ) → Among x firsts → Among x (link_vertex_list s c z directions count numbered)) (firsts_apart : AreApart firsts) where
      module _ (gs : List Corner) (joined : AreJoined firsts gs) where
        abbrev colour : Corner → Bool
        colour k = has (ends_seen firsts gs) (end k)

        test : Corner → Bool
        test k = not (crosses k) && (not (colour k) && colour (turn k))

        abbrev IsPure : ℕ → Type 0
        IsPure i = (k : Corner) → IsFlag s c z k → triangle_of k ≡ i → colour k ≡ colour (turn k)

        colour_mate : (k : Corner) → IsFlag s c z k → colour (mate s.rows k) ≡ colour k
        colour_mate k h = ap (has (ends_seen firsts gs)) (end_same s c z directions count numbered k h)

        colour_other : (k : Corner) → IsFlag s c z k → colour (turn (mate s.rows k)) ≡ colour (turn k)
        colour_other k h = ap (has (ends_seen firsts gs)) (other_same s c z directions count numbered k h)

        -- both ends of an edge have one colour, for each flag of the edge
        unmixed_edge : (l m : Corner) → IsFlag s c z l → IsFlag s c z m → IsOneSide s l m → colour m ≡ colour (turn m) → colour l ≡ colour (turn l)
        unmixed_edge l m h g o e = elim (four_flags s c z l m h g o) [
          | inl (inl q) ↦ subst (λ (k : Corner). colour k ≡ colour (turn k)) (sym q) e
          | inl (inr q) ↦ subst (λ (k : Corner). colour k ≡ colour (turn k)) (sym q) (sym e)
          | inr (inl q) ↦ subst (λ (k : Corner). colour k ≡ colour (turn k)) (sym q) (colour_mate m g ∙ e ∙ sym (colour_other m g))
          | inr (inr q) ↦ subst (λ (k : Corner). colour k ≡ colour (turn k)) (sym q) (colour_other m g ∙ sym e ∙ sym (colour_mate m g))
        ]

        module _ (none : (k : Corner) → Among k (every_flag s c z) → test k ≡ false) where
          carried : (k : Corner) → IsFlag s c z k → crosses k ≡ false → colour (turn k) ≡ true → colour k ≡ true
          unfolding test
          carried k h free e = fails_second (colour k) (colour (turn k)) (and_none (not (crosses k)) (not (colour k) && colour (turn k)) (none k (flag_everywhere s c z k h)) (ap not free)) e

          free_unmixed : (k : Corner) → IsFlag s c z k → crosses k ≡ false → colour k ≡ colour (turn k)
          free_unmixed k h free = both_ways (colour k) (colour (turn k)) (carried (turn k) (turn_in s c z k h) free) (carried k h free)

          -- a triangle of the tree, if the ends of each triangle that was added later have one colour
          module _ (k : Corner) (older : List Corner) (new : Among (triangle_of k) (triangles_seen s c z root older) → ⊥) (on_older : Among (beyond s k) (triangles_seen s c z root older)) (hung_older : IsHung s c z root older)
              (there : Among k ds) (rest : (m : Corner) → Among m ds → Among m (k ∷ older) ⊎ IsPure (triangle_of m)) where
            by_tree : (l m : Corner) → IsFlag s c z l → triangle_of l ≡ triangle_of k → (l.c ≡ k.c → ⊥) → Among m ds → IsOneSide s l m → colour l ≡ colour (turn l)
            by_tree l m h t off a (inl e) =
                let g : IsFlag s c z m = fits triangle_of (beyond s) (IsFlag s c z) (root ∷ []) ds m hung a in
                let p = side_parts s c z l m h g e in
                let one : m ≡ k = new_once triangle_of (beyond s) (IsFlag s c z) (root ∷ []) ds m k hung a there ((λ i. vertex_number (sym p.0 i) (sym p.1 i)) ∙ t) in
                absurd (off (p.2 ∙ ap (λ (m : Corner). m.c) one))
            by_tree l m h t off a (inr e) =
                let g : IsFlag s c z m = fits triangle_of (beyond s) (IsFlag s c z) (root ∷ []) ds m hung a in
                let p = side_parts s c z l (mate s.rows m) h (mate_in s c z m g) e in
                let over : beyond s m ≡ triangle_of k = (λ i. vertex_number (sym p.0 i) (sym p.1 i)) ∙ t in
                elim (rest m a) [
                  | inl (inl q) ↦ absurd (new (subst (λ i. Among i (triangles_seen s c z root older)) (sym (ap (beyond s) q) ∙ over) on_older))
                  | inl (inr b) ↦ absurd (new (subst (λ i. Among i (triangles_seen s c z root older)) over (old_seen triangle_of (beyond s) (IsFlag s c z) (root ∷ []) older m hung_older b)))
                  | inr pure ↦ unmixed_edge l m h g (inr e) (pure m g refl)
                ]

            off_side : (l : Corner) → IsFlag s c z l → triangle_of l ≡ triangle_of k → (l.c ≡ k.c → ⊥) → colour l ≡ colour (turn l)
            off_side l h t off = by_test (crosses l) refl
              where
                by_test : (b : Bool) → crosses l ≡ b → colour l ≡ colour (turn l)
                by_test false e = free_unmixed l h e
                by_test true e = let m = sides_has s ds l e in by_tree l m.0 h t off m.1 m.2

            pure_here : IsPure (triangle_of k)
            pure_here l h t = elim (cases_eq l.c k.c) [
              | inl e ↦ (let f = h.four in
                  off_side (flip l) (flip_in s c z l h) t (λ q. f.cd (e ∙ sym q)) ∙ sym (off_side (flip (turn l)) (flip_in s c z (turn l) (turn_in s c z l h)) t (λ q. f.bc (q ∙ sym e))))
              | inr off ↦ off_side l h t off
            ]

          all_pure : (older : List Corner) → IsHung s c z root older → ((m : Corner) → Among m older → Among m ds) → ((m : Corner) → Among m ds → Among m older ⊎ IsPure (triangle_of m)) → (m : Corner) → Among m ds → IsPure (triangle_of m)
          all_pure [] g inside rest m a = elim (rest m a) [ inl h ↦ absurd h | inr p ↦ p ]
          all_pure (k ∷ older) g inside rest m a = all_pure older g.3 (λ m a. inside m (inr a)) (λ m a. elim (rest m a) [
            | inl (inl q) ↦ inr (subst (λ (l : Corner). IsPure (triangle_of l)) (sym q) (pure_here k older g.1 g.2 g.3 (inside k (inl refl)) rest))
            | inl (inr b) ↦ inl b
            | inr p ↦ inr p
          ]) m a

          tree_pure : (m : Corner) → Among m ds → IsPure (triangle_of m)
          tree_pure = all_pure ds hung (λ m a. a) (λ m a. inl a)

          root_pure : IsPure root
          root_pure l h t = by_test (crosses l) refl
            where
              by_side : (m : Corner) → Among m ds → IsOneSide s l m → colour l ≡ colour (turn l)
              by_side m a (inl e) =
                  let p = side_parts s c z l m h (fits triangle_of (beyond s) (IsFlag s c z) (root ∷ []) ds m hung a) e in
                  absurd (not_root triangle_of (beyond s) (IsFlag s c z) (root ∷ []) ds m hung a (inl ((λ i. vertex_number (sym p.0 i) (sym p.1 i)) ∙ t)))
              by_side m a (inr e) = let g : IsFlag s c z m = fits triangle_of (beyond s) (IsFlag s c z) (root ∷ []) ds m hung a in unmixed_edge l m h g (inr e) (tree_pure m a m g refl)

              by_test : (b : Bool) → crosses l ≡ b → colour l ≡ colour (turn l)
              by_test false e = free_unmixed l h e
              by_test true e = let m = sides_has s ds l e in by_side m.0 m.1 m.2

          unmixed : (k : Corner) → IsFlag s c z k → colour k ≡ colour (turn k)
          unmixed k h =
              let f = h.four in
              let li : triangle_of k < 4 * n = let a = f.a in let t = f.tet in omega arith in
              elim (seen_is triangle_of (beyond s) (IsFlag s c z) (root ∷ []) ds (triangle_of k) (covers (triangle_of k) (member_listed s c z (triangle_of k) li h.chosen))) [
                | inl e ↦ root_pure k h (only_one (triangle_of k) root e)
                | inr m ↦ tree_pure m.0 m.1 k h m.2
              ]

          -- if so, all flags of a triangle have one colour
          triangle_colour : (l m : Corner) → IsFlag s c z l → IsFlag s c z m → triangle_of l ≡ triangle_of m → colour m ≡ true → colour l ≡ true
          triangle_colour l m h g t e = elim (cases_eq l.b m.b) [
            | inl q ↦ at m.b q ∙ e
            | inr off ↦ elim (cases_eq l.b m.d) [
              | inl q ↦ at m.d q ∙ sym (unmixed m g) ∙ e
              | inr far ↦ (let third : l.b ≡ m.c = third_is m.a m.b m.c m.d l.b x.a x.b x.c x.d y.b x.ab x.ac x.ad x.bc x.bd x.cd (λ q. y.ab (parts.1 ∙ q)) (λ q. off (sym q)) far in
                  at m.c third ∙ sym (unmixed (flip m) (flip_in s c z m g)) ∙ e)
            ]
          ]
            where
              x : HasFourVertices n m
              x = g.four

              y : HasFourVertices n l
              y = h.four

              parts : (l.tet ≡ m.tet) × (l.a ≡ m.a)
              parts = let la = y.a in let lb = x.a in let p : l.tet ≡ m.tet = omega arith in let q : l.a ≡ m.a = omega arith in (p, q)

              at : (b : ℕ) → l.b ≡ b → colour l ≡ colour (record { tet = m.tet; a = m.a; b = b; c = 0; d = 0 })
              at b q = λ i. colour (record { tet = parts.0 i; a = parts.1 i; b = q i; c = 0; d = 0 })

          all_coloured : (k : Corner) → IsFlag s c z k → colour k ≡ true
          all_coloured k h =
              let f = h.four in
              let li : triangle_of k < 4 * n = let a = f.a in let t = f.tet in omega arith in
              all_over_class s c z (λ i. (k : Corner) → IsFlag s c z k → triangle_of k ≡ i → colour k ≡ true)
              (λ m g all l w t. triangle_colour l (mate s.rows m) w (mate_in s c z m g) t (colour_mate m g ∙ all m g refl))
              root (triangle_of k) low li at_class h.chosen
              (λ l w t. triangle_colour l start w start_flag (t ∙ sym at_root) (among_has (ends_seen firsts gs) (end start) (root_seen end other IsFree firsts gs (end start) start_in)))
              k h refl

          all_ends : Covers end other IsFree firsts (link_vertex_list s c z directions count numbered) gs
          all_ends x a =
              let e : IsEnd s c z directions count numbered x = listed_end s c z directions count numbered x a in
              let k : Corner = flag_to s c z e.tet e.a e.b in
              has_among (ends_seen firsts gs) x (ap (has (ends_seen firsts gs)) (sym e.is) ∙ all_coloured k (flag_to_in s c z e.tet e.a e.b e.small e.la e.lb e.ne e.chosen))

        one_more : Covers end other IsFree firsts (link_vertex_list s c z directions count numbered) gs ⊎ Extends end other IsFree firsts gs
        unfolding test
        one_more = elim (search_list test (every_flag s c z)) [
          | inl f ↦ (let p = and_parts (not (crosses f.0)) (not (colour f.0) && colour (turn f.0)) f.2 in
              let q = and_parts (not (colour f.0)) (colour (turn f.0)) p.1 in
              inr (record {
                k = f.0;
                fit = (everywhere_flag s c z f.0 f.1, not-true (crosses f.0) p.0);
                unseen = has_not (ends_seen firsts gs) (end f.0) (not-true (colour f.0) q.0);
                joined = has_among (ends_seen firsts gs) (other f.0) q.1;
              }))
          | inr none ↦ inl (all_ends none)
        ]

      -- all ends are joined to one of the first by sides that cross no side of the tree
      pub all_joined : (gs : List Corner) × AreJoined firsts gs × Covers end other IsFree firsts (link_vertex_list s c z directions count numbered) gs
      all_joined = grow end other IsFree firsts (link_vertex_list s c z directions count numbered) (λ k h. end_listed s c z directions count numbered k h.0) firsts_in firsts_apart
          one_more (suc (length (link_vertex_list s c z directions count numbered))) [] tt (omega arith)
