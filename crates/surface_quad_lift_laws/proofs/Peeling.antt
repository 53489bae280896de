-- Heights that satisfy the equations at the sides of the tree of triangles satisfy them at all sides: the ends are
-- removed from their tree one by one, the last end first.
use Rattle.table_definitions.specs.Table.{glue}
use Rattle.std.proofs.Common.{◌≡◌, ◌≢◌, ℕ, ◌+◌, ◌*◌, List, [], ◌∷◌, length, ◌⊎◌, inl, inr, refl, sym, ap, ◌∙◌, subst, None}
use Rattle.std.specs.Prelude.{sum_by}
use Rattle.cone_definitions.specs.Rows.{Row as EquationRow, IsSolution}
use Rattle.table_definitions.specs.Classes.{IsNumbering}
use Rattle.table_definitions.proofs.TableLaws.{Among}
use Rattle.skeleton_definitions.specs.Corners.{Corner, left_through}
use Rattle.skeleton_definitions.specs.Links.{SameDirected}
use Rattle.skeleton_definitions.specs.Skeleton.{Skeleton}
use Rattle.surface_definitions.specs.Coordinates.{columns}
use Rattle.surface_definitions.specs.declared.Coords.TheVariants.{Quad}
use Rattle.surface_definitions.specs.QuadEquations.{AreQuadEquations}
use Rattle.surface_laws.specs.LiftLaws.{AreHeights}
use Rattle.surface_laws.proofs.Counting.{sum_by_same}
use Rattle.surface_laws.proofs.Glued.{IsGlued, glued_is}
use Rattle.surface_laws.proofs.Sums.{sum_by_plus}
use Rattle.surface_quad_laws.proofs.Rearranged.{moved_sum}
use Rattle.surface_quad_laws.proofs.Rounds.{next_once}
use Rattle.surface_quad_lift_laws.proofs.Colours.{IsFree, ends_seen, AreJoined}
use Rattle.surface_quad_lift_laws.proofs.Cycles.{IsCycle}
use Rattle.surface_quad_lift_laws.proofs.DualTree.{beyond, quads, IsLevel}
use Rattle.surface_quad_lift_laws.proofs.EdgeCycles.{HasCycle, cycle_of}
use Rattle.surface_quad_lift_laws.proofs.Ends.{end_of, other_end}
use Rattle.surface_quad_lift_laws.proofs.Flags.{IsVertexClass, IsFlag, mate, mate-next, mate_in, mate_back, triangle_of, turn, flip, mate_behind}
use Rattle.surface_quad_lift_laws.proofs.Growing.{one_left, new_seen, old_seen, fits, root_seen}
use Rattle.surface_quad_lift_laws.proofs.OneSides.{IsOneSide, four_flags, level_mate, level_one_side, one_of_ends, other_same}
use Rattle.surface_quad_lift_laws.proofs.SideLists.{flag_of, flag_in}
use Rattle.skeleton_class_laws.proofs.Rounds.{next, where_led}

module _ (s : Skeleton) (c : ℕ) (z : IsVertexClass s c) (directions : List ℕ) (count : ℕ) (numbered : IsNumbering (12 * length s.rows) (SameDirected s.rows) directions count)
    (quad_rows : List EquationRow) (equations : AreQuadEquations s.rows quad_rows) (xs : List ℕ) (solution : IsSolution (columns Quad (length s.rows)) quad_rows xs) (h : ℕ → ℕ) where
  abbrev n : ℕ
  n = length s.rows

  abbrev end : Corner → ℕ
  end k = end_of s c z directions count numbered k

  abbrev other : Corner → ℕ
  other k = other_end s c z directions count numbered k

  abbrev Level : Corner → Type 0
  Level k = IsLevel s xs h k

  -- the two sides of the equation at a flag
  abbrev here : Corner → ℕ
  here k = h (triangle_of k) + quads xs k

  abbrev there : Corner → ℕ
  there k = h (beyond s k) + quads xs (mate s.rows k)

  -- around a cycle both sides have the same sum
  cycle_sums : (ks : List Corner) → IsCycle s.rows xs ks → sum_by here ks ≡ sum_by there ks
  cycle_sums ks w =
      sum_by_plus (λ k. h (triangle_of k)) (quads xs) here (λ k. refl) ks
      ∙ ap (λ m. sum_by (λ k. h (triangle_of k)) ks + m) w.sums
      ∙ sym (sum_by_plus (λ k. h (triangle_of k)) (λ k. quads xs (flip k)) (λ k. h (triangle_of k) + quads xs (flip k)) (λ k. refl) ks)
      ∙ sym (moved_sum (λ k. h (triangle_of k) + quads xs (flip k)) (next s.rows) ks w.separate w.closed (λ k l a b e. next_once s.rows (z.skeleton).table k l (w.four k a) (w.on k a) (w.four l b) (w.on l b) e))
      ∙ sum_by_same (λ k. h (triangle_of (next s.rows k)) + quads xs (flip (next s.rows k))) there ks (λ k a. ap (λ (l : Corner). h (triangle_of l) + quads xs l) (sym (mate-next s.rows k (w.on k a))))

  -- if the equation holds at all other flags of a cycle, it holds at the remaining one
  last_level : (ks : List Corner) → IsCycle s.rows xs ks → (k : Corner) → Among k ks → ((l : Corner) → Among l ks → l ≢ k → Level l) → Level k
  last_level ks w k a others = one_left here there k ks w.separate a others (cycle_sums ks w)

  -- the equation holds at a boundary side
  free_level : (m : Corner) → glue s.rows (left_through m) ≡ None → Level m
  free_level m e = ap (λ o. let l : Corner = where_led mate_behind m o in h (triangle_of l) + quads xs l) (sym e)

  -- no cycle contains both a flag and its mate
  never_mate : (ks : List Corner) → IsCycle s.rows xs ks → (k : Corner) → Among k ks → Among (mate s.rows k) ks → ⊥
  never_mate ks w k a b = w.forward (next s.rows k) (w.closed k a) (subst (λ (u : Corner). Among u ks) (mate-next s.rows k (w.on k a)) b)

  module _ (ds : List Corner) (tree : (m : Corner) → Among m ds → IsFlag s c z m × Level m) (firsts : List ℕ) (free_ends : (k : Corner) → IsFlag s c z k → glue s.rows (left_through k) ≡ None → Among (end k) firsts)
      (gs : List Corner) (joined : AreJoined s c z directions count numbered ds firsts gs)
      (covered : (k : Corner) → IsFlag s c z k → ((m : Corner) × Among m ds × IsOneSide s k m) ⊎ (((m : Corner) × Among m gs × IsOneSide s k m) ⊎ ((m : Corner) × IsFlag s c z m × (glue s.rows (left_through m) ≡ None) × IsOneSide s k m))) where
    abbrev Free : Corner → Type 0
    Free k = IsFree s c z directions count numbered ds k

    flag_in_tree : (m : Corner) → Among m gs → IsFlag s c z m
    flag_in_tree m a = (fits end other Free firsts gs m joined a).0

    module _ (k : Corner) (older : List Corner) (flag : IsFlag s c z k) (new : Among (end k) (ends_seen s c z directions count numbered ds firsts older) → ⊥)
        (old : Among (other k) (ends_seen s c z directions count numbered ds firsts older)) (joined_older : AreJoined s c z directions count numbered ds firsts older)
        (rest : (m : Corner) → Among m gs → Among m (k ∷ older) ⊎ Level m) where
      -- the equation holds at each other flag of the cycle
      at_other : (ks : List Corner) → IsCycle s.rows xs ks → (one : Corner) → Among one ks → (one ≡ k) ⊎ (one ≡ mate s.rows k) → (l : Corner) → Among l ks → IsFlag s c z l → end l ≡ end k → l ≢ one → Level l
      at_other ks w one in_cycle which l a f e off = by_edge (covered l f)
        where
          seen_twice : (i : ℕ) → Among i (ends_seen s c z directions count numbered ds firsts older) → i ≡ end k → ⊥
          seen_twice i b q = new (subst (λ i. Among i (ends_seen s c z directions count numbered ds firsts older)) q b)

          -- the flag itself, or its mate
          by_self : (one ≡ k) ⊎ (one ≡ mate s.rows k) → ((l ≡ k) ⊎ (l ≡ turn k)) ⊎ ((l ≡ mate s.rows k) ⊎ (l ≡ turn (mate s.rows k))) → Level l
          by_self (inl p) (inl (inl q)) = absurd (off (q ∙ sym p))
          by_self (inr p) (inl (inl q)) =
              let home : l ≡ mate s.rows one = q ∙ sym (mate_back s c z k flag) ∙ ap (mate s.rows) (sym p) in
              absurd (never_mate ks w one in_cycle (subst (λ (u : Corner). Among u ks) home a))
          by_self which (inl (inr q)) = absurd (seen_twice (other k) old (ap end (sym q) ∙ e))
          by_self (inl p) (inr (inl q)) = absurd (never_mate ks w one in_cycle (subst (λ (u : Corner). Among u ks) (q ∙ ap (mate s.rows) (sym p)) a))
          by_self (inr p) (inr (inl q)) = absurd (off (q ∙ sym p))
          by_self which (inr (inr q)) = absurd (seen_twice (other k) old (sym (other_same s c z directions count numbered k flag) ∙ ap end (sym q) ∙ e))

          by_edge : ((m : Corner) × Among m ds × IsOneSide s l m) ⊎ (((m : Corner) × Among m gs × IsOneSide s l m) ⊎ ((m : Corner) × IsFlag s c z m × (glue s.rows (left_through m) ≡ None) × IsOneSide s l m)) → Level l
          by_edge (inl m) = let t = tree m.0 m.1 in level_one_side s c z xs h l m.0 f t.0 m.2 t.1
          by_edge (inr (inr m)) = level_one_side s c z xs h l m.0 f m.1 m.3 (free_level m.0 m.2)
          by_edge (inr (inl m)) = elim (rest m.0 m.1) [
            | inl (inl q) ↦ by_self which (four_flags s c z l k f flag (subst (IsOneSide s l) q m.2))
            | inl (inr b) ↦ elim (one_of_ends s c z directions count numbered l m.0 f (flag_in_tree m.0 m.1) m.2) [
              | inl q ↦ absurd (seen_twice (end m.0) (new_seen end other Free firsts older m.0 b) (sym q ∙ e))
              | inr q ↦ absurd (seen_twice (other m.0) (old_seen end other Free firsts older m.0 joined_older b) (sym q ∙ e))
            ]
            | inr level ↦ level_one_side s c z xs h l m.0 f (flag_in_tree m.0 m.1) m.2 level
          ]

      level_here : Level k
      level_here =
          let y : HasCycle s c z directions count numbered xs k = cycle_of s c z directions count numbered quad_rows equations xs solution k flag
          (λ m g e q. new (root_seen end other Free firsts older (end k) (subst (λ i. Among i firsts) q (free_ends m g e)))) in
          elim y.holds [
            | inl a ↦ last_level y.ks y.cycle k a (λ l b off. at_other y.ks y.cycle k a (inl refl) l b (y.flags l b) (y.ends_are l b) off)
            | inr a ↦ (let m : Corner = mate s.rows k in
                let over : Level m = last_level y.ks y.cycle m a (λ l b off. at_other y.ks y.cycle m a (inr refl) l b (y.flags l b) (y.ends_are l b) off) in
                subst Level (mate_back s c z k flag) (level_mate s c z xs h m (mate_in s c z k flag) over))
          ]

    peeled : (older : List Corner) → AreJoined s c z directions count numbered ds firsts older → ((m : Corner) → Among m gs → Among m older ⊎ Level m) → (m : Corner) → Among m gs → Level m
    peeled [] g rest m a = elim (rest m a) [ inl b ↦ absurd b | inr level ↦ level ]
    peeled (k ∷ older) g rest m a = peeled older g.3 (λ m a. elim (rest m a) [
      | inl (inl q) ↦ inr (subst Level (sym q) (level_here k older (g.0).0 g.1 g.2 g.3 rest))
      | inl (inr b) ↦ inl b
      | inr level ↦ inr level
    ]) m a

    all_level : (k : Corner) → IsFlag s c z k → Level k
    all_level k f = elim (covered k f) [
      | inl m ↦ (let t = tree m.0 m.1 in level_one_side s c z xs h k m.0 f t.0 m.2 t.1)
      | inr (inr m) ↦ level_one_side s c z xs h k m.0 f m.1 m.3 (free_level m.0 m.2)
      | inr (inl m) ↦ level_one_side s c z xs h k m.0 f (flag_in_tree m.0 m.1) m.2 (peeled gs joined (λ m a. inl a) m.0 m.1)
    ]

    pub all_heights : AreHeights s xs c h
    all_heights x g v e lv off ch =
        let i : IsGlued s.rows x g = glued_is s.rows x g (z.skeleton).table e in
        let k : Corner = flag_of x.tet v x.face in
        all_level k (flag_in s c z x.tet v x.face i.tet lv i.face off ch) ∙ ap (λ o. let m : Corner = where_led mate_behind k o in h (triangle_of m) + quads xs m) e
