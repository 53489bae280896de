-- The triangles of a vertex class form a tree, in which each is joined to an earlier one by a side; heights are spread
-- along it.
use Rattle.std.proofs.Common.{◌≡◌, ◌≢◌, ℕ, ◌+◌, ◌-◌, ◌*◌, ◌/◌, ◌%◌, ◌<◌, ◌≤◌, Bool, false, not, List, [], ◌∷◌, length, Some, ◌⊎◌, inl, inr, refl, sym, ap, ◌∙◌, subst, arith, suc}
use Rattle.std.specs.Prelude.{◌==◌, ◌&&◌, if◌then◌else◌, sum_by, slice_index}
use Rattle.std.proofs.lemmas.Bool.{eq-eqb, ne_eqb, and_parts, not-true}
use Rattle.std.proofs.lemmas.List.Sums.{sum_by-cons}
use Rattle.table_definitions.specs.Lists.{has}
use Rattle.table_definitions.specs.Classes.{members}
use Rattle.table_definitions.specs.Permutation.{image}
use Rattle.table_definitions.specs.Places.{Place, across, vertex, SameVertex}
use Rattle.table_definitions.proofs.ChainLaws.{kept_along}
use Rattle.table_definitions.proofs.TableLaws.{Among}
use Rattle.table_definitions.proofs.Listed.{has_among, among_has}
use Rattle.table_definitions.proofs.Faces.{face_at}
use Rattle.skeleton_definitions.specs.Corners.{Corner}
use Rattle.skeleton_definitions.specs.Links.{vertex_number}
use Rattle.skeleton_definitions.specs.Skeleton.{Skeleton}
use Rattle.surface_definitions.specs.Coordinates.{quad_column, keeping}
use Rattle.surface_definitions.specs.declared.Coords.TheVariants.{Quad}
use Rattle.surface_laws.proofs.Glued.{IsGlued, glued_is}
use Rattle.surface_laws.proofs.Vertices.{one_vertex, number-vertex, IsCrossed, crossed_is}
use Rattle.skeleton_class_laws.proofs.Rounds.{where_led}
use Rattle.surface_quad_lift_laws.proofs.Flags.{IsVertexClass, IsFlag, mate, mate-turn, mate_in, mate_back, triangle_of, mate_behind}
use Rattle.surface_quad_lift_laws.proofs.Growing.{only_one, seen, Grown, Extends, Covers, grow, new_seen, old_seen}
use Rattle.surface_quad_lift_laws.proofs.Searches.{search_list, has_not, fails_second}
use Rattle.surface_quad_lift_laws.proofs.SideLists.{flag_of, flag_in, flag_is, side_flags, flag_listed, listed_flag, listed_member, member_listed}

-- the triangle on the other side of a flag's
abbrev pub beyond : Skeleton → Corner → ℕ
beyond s k = triangle_of (mate s.rows k)

-- the quads that keep the vertex on the side of a flag's face
abbrev pub quads : List ℕ → Corner → ℕ
quads xs k = slice_index xs (quad_column Quad k.tet (keeping k.a k.c))

-- the equation of the heights holds at the side of a flag
abbrev pub IsLevel : Skeleton → List ℕ → (ℕ → ℕ) → Corner → Type 0
IsLevel s xs h k = h (triangle_of k) + quads xs k ≡ h (beyond s k) + quads xs (mate s.rows k)

-- a tree of triangles with a root, the last one first, each joined by the side of a flag
abbrev pub triangles_seen : (s : Skeleton) (c : ℕ) → IsVertexClass s c → ℕ → List Corner → List ℕ
triangles_seen s c z root ds = seen triangle_of (beyond s) (IsFlag s c z) (root ∷ []) ds

abbrev pub IsHung : (s : Skeleton) (c : ℕ) → IsVertexClass s c → ℕ → List Corner → Type 0
IsHung s c z root ds = Grown triangle_of (beyond s) (IsFlag s c z) (root ∷ []) ds

module _ (s : Skeleton) (c : ℕ) (z : IsVertexClass s c) where
  abbrev n : ℕ
  n = length s.rows

  abbrev class_of : ℕ → ℕ
  class_of i = slice_index s.vertices.classes i

  pub beyond_of : (k : Corner) → IsFlag s c z k → beyond s (flag_of k.tet k.a k.c) ≡ beyond s k
  beyond_of k h = elim (flag_is s c z k h) [
    | inl e ↦ ap (beyond s) (sym e)
    | inr e ↦ ap triangle_of (sym (mate-turn s.rows (flag_of k.tet k.a k.c))) ∙ ap (beyond s) (sym e)
  ]

  -- what is preserved across each side holds of all triangles of the class, if it holds of one
  module _ (P : ℕ → Type 0) (carried_over : (k : Corner) → IsFlag s c z k → P (triangle_of k) → P (beyond s k)) where
    record IsSo (p : Place) : Type 0 where
      v : ℕ
      is : p.vertices ≡ v ∷ []
      small : v < 4
      chosen : class_of (vertex_number p.tet v) ≡ c
      holds : P (vertex_number p.tet v)

    so_across : (p : Place) (f : ℕ) (q : Place) → IsSo p → across s.rows p f ≡ Some q → IsSo q
    so_across p f q h e =
        let w : IsCrossed s.rows p.tet h.v f q = crossed_is s.rows p.tet h.v f q (ap (λ (vs : List ℕ). across s.rows (record { tet = p.tet; vertices = vs }) f) (sym h.is) ∙ e) in
        let i : IsGlued s.rows (face_at p.tet f) w.g = glued_is s.rows (face_at p.tet f) w.g (z.skeleton).table w.glued in
        let k : Corner = flag_of p.tet h.v f in
        let flag : IsFlag s c z k = flag_in s c z p.tet h.v f i.tet h.small i.face w.off h.chosen in
        let there : IsFlag s c z (mate s.rows k) = mate_in s c z k flag in
        let is_mate : mate s.rows k ≡ mate_behind k w.g = ap (where_led mate_behind k) w.glued in
        let to : IsSo (one_vertex w.g.tet (image w.g.perm h.v)) = record {
          v = image w.g.perm h.v;
          is = refl;
          small = subst (λ (l : Corner). l.a < 4) is_mate (there.four).a;
          chosen = subst (λ (l : Corner). class_of (triangle_of l) ≡ c) is_mate there.chosen;
          holds = subst (λ (l : Corner). P (triangle_of l)) is_mate (carried_over k flag h.holds);
        } in
        subst IsSo w.is to

    pub all_over_class : (i j : ℕ) → i < 4 * n → j < 4 * n → class_of i ≡ c → class_of j ≡ c → P i → P j
    all_over_class i j li lj ci cj h =
        let joined : SameVertex s.rows i j = ((z.skeleton).vertices.together i j li lj).0 (ci ∙ sym cj) in
        let start : IsSo (vertex i) = record {
          v = i % 4;
          is = refl;
          small = omega arith;
          chosen = ap class_of (number-vertex i) ∙ ci;
          holds = subst P (sym (number-vertex i)) h;
        } in
        let end : IsSo (vertex j) = kept_along s.rows IsSo so_across joined.0 (vertex i) (vertex j) start joined.1 in
        let v : end.v ≡ j % 4 = sym (ap (λ (vs : List ℕ). slice_index vs 0) end.is) in
        subst P (ap (vertex_number (j / 4)) v ∙ number-vertex j) end.holds

  module _ (root : ℕ) (low : root < 4 * n) (at_class : class_of root ≡ c) where
    one_more : (ds : List Corner) → IsHung s c z root ds → Covers triangle_of (beyond s) (IsFlag s c z) (root ∷ []) (members s.vertices.classes c) ds ⊎ Extends triangle_of (beyond s) (IsFlag s c z) (root ∷ []) ds
    one_more ds g = elim (search_list test (side_flags s c z)) [
      | inl f ↦ (let p = and_parts (not (has (triangles_seen s c z root ds) (triangle_of f.0))) (has (triangles_seen s c z root ds) (beyond s f.0)) f.2 in
          inr (record {
            k = f.0;
            fit = listed_flag s c z f.0 f.1;
            unseen = has_not (triangles_seen s c z root ds) (triangle_of f.0) (not-true (has (triangles_seen s c z root ds) (triangle_of f.0)) p.0);
            joined = has_among (triangles_seen s c z root ds) (beyond s f.0) p.1;
          }))
      | inr none ↦ inl (λ x h. let m = listed_member s c z x h in all_over_class (λ i. Among i (triangles_seen s c z root ds)) (closed none) root x low m.0 at_class m.1 (root_in ds))
    ]
      where
        test : Corner → Bool
        test k = not (has (triangles_seen s c z root ds) (triangle_of k)) && has (triangles_seen s c z root ds) (beyond s k)

        root_in : (ds : List Corner) → Among root (triangles_seen s c z root ds)
        root_in [] = inl refl
        root_in (k ∷ ks) = inr (root_in ks)

        closed : ((k : Corner) → Among k (side_flags s c z) → test k ≡ false) → (k : Corner) → IsFlag s c z k → Among (triangle_of k) (triangles_seen s c z root ds) → Among (beyond s k) (triangles_seen s c z root ds)
        closed none k h a =
            let m : Corner = mate s.rows k in
            let flag : IsFlag s c z m = mate_in s c z k h in
            let back : beyond s (flag_of m.tet m.a m.c) ≡ triangle_of k = beyond_of m flag ∙ ap triangle_of (mate_back s c z k h) in
            has_among (triangles_seen s c z root ds) (beyond s k)
            (fails_second (has (triangles_seen s c z root ds) (triangle_of m)) (has (triangles_seen s c z root ds) (beyond s (flag_of m.tet m.a m.c))) (none (flag_of m.tet m.a m.c) (flag_listed s c z m flag))
            (ap (has (triangles_seen s c z root ds)) back ∙ among_has (triangles_seen s c z root ds) (triangle_of k) a))

    pub hung : (ds : List Corner) × IsHung s c z root ds × Covers triangle_of (beyond s) (IsFlag s c z) (root ∷ []) (members s.vertices.classes c) ds
    hung = grow triangle_of (beyond s) (IsFlag s c z) (root ∷ []) (members s.vertices.classes c) (λ k h. let f = h.four in member_listed s c z (triangle_of k) (let a = f.a in let t = f.tet in omega arith) h.chosen)
        (λ x a. subst (λ u. Among u (members s.vertices.classes c)) (sym (only_one x root a)) (member_listed s c z root low at_class)) ((λ a. a), tt) one_more (suc (length (members s.vertices.classes c))) [] tt (omega arith)

    height_if : Bool → ℕ → ℕ → ℕ
    height_if b x y = if b then x else y

    pub height : List ℕ → ℕ → List Corner → ℕ → ℕ
    height xs top [] i = top
    height xs top (k ∷ ks) i = height_if (i == triangle_of k) ((height xs top ks (beyond s k) + quads xs (mate s.rows k)) - quads xs k) (height xs top ks i)

    height-new : (xs : List ℕ) (top : ℕ) (k : Corner) (ks : List Corner) → height xs top (k ∷ ks) (triangle_of k) ≡ (height xs top ks (beyond s k) + quads xs (mate s.rows k)) - quads xs k
    unfolding height height_if
    height-new xs top k ks = ap (λ b. height_if b ((height xs top ks (beyond s k) + quads xs (mate s.rows k)) - quads xs k) (height xs top ks (triangle_of k))) (eq-eqb (triangle_of k) (triangle_of k) refl)

    height-old : (xs : List ℕ) (top : ℕ) (k : Corner) (ks : List Corner) (i : ℕ) → i ≢ triangle_of k → height xs top (k ∷ ks) i ≡ height xs top ks i
    unfolding height height_if
    height-old xs top k ks i off = ap (λ b. height_if b ((height xs top ks (beyond s k) + quads xs (mate s.rows k)) - quads xs k) (height xs top ks i)) (ne_eqb i (triangle_of k) off)

    risen_new : (m q r t a b v : ℕ) → t ≡ q + a → m ≤ a + b → v ≡ (b + r) - q → m ≤ t + v
    risen_new m q r t a b v e f g = omega arith

    level_new : (m q r t a b v : ℕ) → t ≡ q + a → t ≤ m → m ≤ a + b → v ≡ (b + r) - q → v + q ≡ b + r
    level_new m q r t a b v e u f g = omega arith

    level_old : (x x' y y' q r : ℕ) → x ≡ x' → y ≡ y' → x' + q ≡ y' + r → x + q ≡ y + r
    level_old x x' y y' q r e f g = omega arith

    module _ (xs : List ℕ) (top : ℕ) where
      high_and_level : (ks : List Corner) → IsHung s c z root ks → sum_by (quads xs) ks ≤ top
          → ((i : ℕ) → Among i (triangles_seen s c z root ks) → top ≤ sum_by (quads xs) ks + height xs top ks i) × ((m : Corner) → Among m ks → IsLevel s xs (height xs top ks) m)
      unfolding height
      high_and_level [] g l = ((λ i a. omega arith), (λ m a. absurd a))
      high_and_level (k ∷ ks) g l =
          let sum_is : sum_by (quads xs) (k ∷ ks) ≡ quads xs k + sum_by (quads xs) ks = sum_by-cons (quads xs) k ks in
          let before = high_and_level ks g.3 (omega arith) in
          let at_old : top ≤ sum_by (quads xs) ks + height xs top ks (beyond s k) = before.0 (beyond s k) g.2 in
          let off : (i : ℕ) → Among i (triangles_seen s c z root ks) → i ≢ triangle_of k = λ i a e. g.1 (subst (λ u. Among u (triangles_seen s c z root ks)) e a) in
          let new : height xs top (k ∷ ks) (triangle_of k) ≡ (height xs top ks (beyond s k) + quads xs (mate s.rows k)) - quads xs k = height-new xs top k ks in
          let old : (i : ℕ) → Among i (triangles_seen s c z root ks) → height xs top (k ∷ ks) i ≡ height xs top ks i = λ i a. height-old xs top k ks i (off i a) in (
            (λ i a. high i a sum_is before.0 at_old new old),
            (λ m a. level m a sum_is before.1 at_old new old),
          )
        where
          high : (i : ℕ) → Among i (triangles_seen s c z root (k ∷ ks)) → sum_by (quads xs) (k ∷ ks) ≡ quads xs k + sum_by (quads xs) ks
              → ((i : ℕ) → Among i (triangles_seen s c z root ks) → top ≤ sum_by (quads xs) ks + height xs top ks i) → top ≤ sum_by (quads xs) ks + height xs top ks (beyond s k)
              → height xs top (k ∷ ks) (triangle_of k) ≡ (height xs top ks (beyond s k) + quads xs (mate s.rows k)) - quads xs k
              → ((i : ℕ) → Among i (triangles_seen s c z root ks) → height xs top (k ∷ ks) i ≡ height xs top ks i) → top ≤ sum_by (quads xs) (k ∷ ks) + height xs top (k ∷ ks) i
          high i (inl e) sum_is before at_old new old =
              subst (λ u. top ≤ sum_by (quads xs) (k ∷ ks) + height xs top (k ∷ ks) u) (sym e)
              (risen_new top (quads xs k) (quads xs (mate s.rows k)) (sum_by (quads xs) (k ∷ ks)) (sum_by (quads xs) ks) (height xs top ks (beyond s k)) (height xs top (k ∷ ks) (triangle_of k)) sum_is at_old new)
          high i (inr a) sum_is before at_old new old = let b : top ≤ sum_by (quads xs) ks + height xs top ks i = before i a in let e : height xs top (k ∷ ks) i ≡ height xs top ks i = old i a in omega arith

          level : (m : Corner) → Among m (k ∷ ks) → sum_by (quads xs) (k ∷ ks) ≡ quads xs k + sum_by (quads xs) ks
              → ((m : Corner) → Among m ks → IsLevel s xs (height xs top ks) m) → top ≤ sum_by (quads xs) ks + height xs top ks (beyond s k)
              → height xs top (k ∷ ks) (triangle_of k) ≡ (height xs top ks (beyond s k) + quads xs (mate s.rows k)) - quads xs k
              → ((i : ℕ) → Among i (triangles_seen s c z root ks) → height xs top (k ∷ ks) i ≡ height xs top ks i) → IsLevel s xs (height xs top (k ∷ ks)) m
          level m (inl e) sum_is before at_old new old =
              subst (IsLevel s xs (height xs top (k ∷ ks))) (sym e)
              (level_new top (quads xs k) (quads xs (mate s.rows k)) (sum_by (quads xs) (k ∷ ks)) (sum_by (quads xs) ks) (height xs top ks (beyond s k)) (height xs top (k ∷ ks) (triangle_of k)) sum_is l at_old new
              ∙ ap (λ u. u + quads xs (mate s.rows k)) (sym (old (beyond s k) g.2)))
          level m (inr a) sum_is before at_old new old =
              level_old (height xs top (k ∷ ks) (triangle_of m)) (height xs top ks (triangle_of m)) (height xs top (k ∷ ks) (beyond s m)) (height xs top ks (beyond s m)) (quads xs m) (quads xs (mate s.rows m))
              (old (triangle_of m) (new_seen triangle_of (beyond s) (IsFlag s c z) (root ∷ []) ks m a)) (old (beyond s m) (old_seen triangle_of (beyond s) (IsFlag s c z) (root ∷ []) ks m g.3 a)) (before m a)

    pub tree_level : (xs : List ℕ) (ds : List Corner) → IsHung s c z root ds → (m : Corner) → Among m ds → IsLevel s xs (height xs (sum_by (quads xs) ds) ds) m
    tree_level xs ds g m a = (high_and_level xs (sum_by (quads xs) ds) ds g (omega arith)).1 m a
