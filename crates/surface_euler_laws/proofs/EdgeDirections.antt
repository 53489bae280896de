-- Each edge runs along the least edge of its class, or against it, and not both; this is the same across each gluing,
-- and is reversed if the edge is read from its other end.
use Rattle.std.proofs.Common.{◌≡◌, ◌≢◌, ℕ, ◌+◌, ◌*◌, ◌<◌, Bool, true, false, not, List, length, ◌⊎◌, inl, inr, refl, sym, ap, ◌∙◌, subst, subst₂, arith}
use Rattle.std.specs.Prelude.{slice_index}
use Rattle.std.proofs.lemmas.Bool.{cases_lt, cases_eq}
use Rattle.table_definitions.specs.Classes.{least}
use Rattle.table_definitions.specs.Places.{Place, edge, edge_number, backwards, IsJoined, SameEdge}
use Rattle.table_definitions.specs.Table.{Row}
use Rattle.table_definitions.proofs.ChainLaws.{joined_trans, joined_sym, joined_turned}
use Rattle.table_definitions.proofs.ClassLaws.{IsLeastOf, least_of}
use Rattle.skeleton_definitions.specs.Skeleton.{Skeleton, IsSkeleton, IsValidClass}
use Rattle.skeleton_class_laws.specs.Crossings.{pair}
use Rattle.skeleton_class_laws.proofs.Cases.{edge_number-backwards, ends-edge_number}
use Rattle.skeleton_class_laws.proofs.EdgeTies.{pair_either, turned_twice}

-- two edges that are joined are of one class
is_same : (rows : List Row) (p q : Place) (i j : ℕ) → (p ≡ edge i) ⊎ (p ≡ backwards (edge i)) → (q ≡ edge j) ⊎ (q ≡ backwards (edge j)) → IsJoined rows p q → SameEdge rows i j
is_same rows p q i j (inl a) (inl b) h = inl (subst₂ (IsJoined rows) a b h)
is_same rows p q i j (inl a) (inr b) h = inr (subst₂ (IsJoined rows) a b h)
is_same rows p q i j (inr a) (inl b) h = inr (subst (λ (x : Place). IsJoined rows x (backwards (edge j))) (turned_twice i) (joined_turned rows (backwards (edge i)) (edge j) (subst₂ (IsJoined rows) a b h)))
is_same rows p q i j (inr a) (inr b) h = inl (subst₂ (IsJoined rows) (turned_twice i) (turned_twice j) (joined_turned rows (backwards (edge i)) (backwards (edge j)) (subst₂ (IsJoined rows) a b h)))

module _ (s : Skeleton) (k : IsSkeleton s) (valid : (c : ℕ) → c < s.edges.count → IsValidClass s c) where
  abbrev n : ℕ
  n = length s.rows

  -- the edge from v to u of tetrahedron t
  pub record IsEdge (t v u : ℕ) : Type 0 where
    pub lt : t < n
    pub lv : v < 4
    pub lu : u < 4
    pub ne : v ≢ u

  pub back_edge : (t v u : ℕ) → IsEdge t v u → IsEdge t u v
  back_edge t v u e = record { lt = e.lt; lv = e.lu; lu = e.lv; ne = (λ q. e.ne (sym q)) }

  decide_edge : (t v u : ℕ) → IsEdge t v u ⊎ (IsEdge t v u → ⊥)
  decide_edge t v u = elim (cases_lt t n) [
    | inr h ↦ inr (λ e. let l = e.lt in omega arith)
    | inl lt ↦ elim (cases_lt v 4) [
      | inr h ↦ inr (λ e. let l = e.lv in omega arith)
      | inl lv ↦ elim (cases_lt u 4) [
        | inr h ↦ inr (λ e. let l = e.lu in omega arith)
        | inl lu ↦ elim (cases_eq v u) [
          | inl h ↦ inr (λ e. e.ne h)
          | inr ne ↦ inl (record { lt = lt; lv = lv; lu = lu; ne = ne })
        ]
      ]
    ]
  ]

  abbrev pub number : ℕ → ℕ → ℕ → ℕ
  number t v u = 6 * t + edge_number v u

  unfoldable pub class : ℕ → ℕ → ℕ → ℕ
  class t v u = slice_index s.edges.classes (6 * t + edge_number v u)

  -- the least edge of its class
  unfoldable pub start : ℕ → ℕ → ℕ → ℕ
  start t v u = least s.edges.classes (class t v u)

  number_below : (t v u : ℕ) → IsEdge t v u → number t v u < 6 * n
  number_below t v u e = let m = ends-edge_number v u e.lv e.lu e.ne in let small : edge_number v u < 6 = m.0 in let lt = e.lt in omega arith

  pub class_below : (t v u : ℕ) → IsEdge t v u → class t v u < s.edges.count
  unfolding class
  class_below t v u e = (k.edges).in_range (number t v u) (number_below t v u e)

  -- it runs along that edge, or against it
  EitherWay : ℕ → ℕ → ℕ → Type 0
  EitherWay t v u = IsJoined s.rows (pair t v u) (edge (start t v u)) ⊎ IsJoined s.rows (pair t v u) (backwards (edge (start t v u)))

  runs_either : (t v u : ℕ) → IsEdge t v u → EitherWay t v u
  unfolding EitherWay start class
  runs_either t v u e =
      let least_is : IsLeastOf (6 * n) (SameEdge s.rows) s.edges.classes (number t v u) (least s.edges.classes (slice_index s.edges.classes (number t v u))) =
      least_of (6 * n) (SameEdge s.rows) s.edges.classes s.edges.count k.edges (number t v u) (number_below t v u e) in
      go (pair_either t v u e.lv e.lu e.ne) least_is.same
    where
      go : (pair t v u ≡ edge (number t v u)) ⊎ (pair t v u ≡ backwards (edge (number t v u)))
          → SameEdge s.rows (number t v u) (least s.edges.classes (slice_index s.edges.classes (number t v u)))
          → IsJoined s.rows (pair t v u) (edge (least s.edges.classes (slice_index s.edges.classes (number t v u)))) ⊎ IsJoined s.rows (pair t v u) (backwards (edge (least s.edges.classes (slice_index s.edges.classes (number t v u)))))
      go (inl a) (inl h) = inl (subst (λ p. IsJoined s.rows p (edge (least s.edges.classes (slice_index s.edges.classes (number t v u))))) (sym a) h)
      go (inl a) (inr h) = inr (subst (λ p. IsJoined s.rows p (backwards (edge (least s.edges.classes (slice_index s.edges.classes (number t v u)))))) (sym a) h)
      go (inr a) (inl h) = inr (subst (λ p. IsJoined s.rows p (backwards (edge (least s.edges.classes (slice_index s.edges.classes (number t v u)))))) (sym a) (joined_turned s.rows (edge (number t v u)) (edge (least s.edges.classes (slice_index s.edges.classes (number t v u)))) h))
      go (inr a) (inr h) = inl (subst₂ (IsJoined s.rows) (sym a) (turned_twice (least s.edges.classes (slice_index s.edges.classes (number t v u)))) (joined_turned s.rows (edge (number t v u)) (backwards (edge (least s.edges.classes (slice_index s.edges.classes (number t v u))))) h))

  is_left : {A B : Type 0} → A ⊎ B → Bool
  is_left (inl a) = true
  is_left (inr b) = false

  runs_if : (t v u : ℕ) → IsEdge t v u ⊎ (IsEdge t v u → ⊥) → Bool
  unfolding EitherWay
  runs_if t v u (inl e) = is_left (runs_either t v u e)
  runs_if t v u (inr e) = false

  -- whether it runs along the least edge of its class
  pub runs : ℕ → ℕ → ℕ → Bool
  runs t v u = runs_if t v u (decide_edge t v u)

  abbrev AlongOrAgainst : ℕ → ℕ → ℕ → Bool → Type 0
  AlongOrAgainst t v u b = ((b ≡ true) × IsJoined s.rows (pair t v u) (edge (start t v u))) ⊎ ((b ≡ false) × IsJoined s.rows (pair t v u) (backwards (edge (start t v u))))

  pub runs_is : (t v u : ℕ) → IsEdge t v u → AlongOrAgainst t v u (runs t v u)
  unfolding runs runs_if EitherWay is_left
  runs_is t v u e = by_decision (decide_edge t v u)
    where
      by_way : (h : EitherWay t v u) → AlongOrAgainst t v u (is_left h)
      by_way (inl h) = inl (refl, h)
      by_way (inr h) = inr (refl, h)

      by_decision : (d : IsEdge t v u ⊎ (IsEdge t v u → ⊥)) → AlongOrAgainst t v u (runs_if t v u d)
      by_decision (inl d) = by_way (runs_either t v u d)
      by_decision (inr d) = absurd (d e)

  -- no edge does both
  not_both : (t v u l : ℕ) → IsEdge t v u → l ≡ start t v u → IsJoined s.rows (pair t v u) (edge l) → IsJoined s.rows (pair t v u) (backwards (edge l)) → ⊥
  unfolding start
  not_both t v u l e q a b =
      valid (class t v u) (class_below t v u e)
      (subst (λ x. IsJoined s.rows (edge x) (backwards (edge x))) q (joined_trans s.rows (edge l) (pair t v u) (backwards (edge l)) (joined_sym s.rows (pair t v u) (edge l) k.table (e.lv, (e.lu, tt)) a) b))

  module _ (t v u t' v' u' : ℕ) (e : IsEdge t v u) (e' : IsEdge t' v' u') (h : IsJoined s.rows (pair t v u) (pair t' v' u')) where
    pub one_class : class t v u ≡ class t' v' u'
    unfolding class
    one_class =
        ((k.edges).together (number t v u) (number t' v' u') (number_below t v u e) (number_below t' v' u' e')).1
        (is_same s.rows (pair t v u) (pair t' v' u') (number t v u) (number t' v' u') (pair_either t v u e.lv e.lu e.ne) (pair_either t' v' u' e'.lv e'.lu e'.ne) h)

    one_start : start t v u ≡ start t' v' u'
    unfolding start
    one_start = ap (least s.edges.classes) one_class

    pub one_run : runs t v u ≡ runs t' v' u'
    one_run = go (runs_is t v u e) (runs_is t' v' u' e')
      where
        go : AlongOrAgainst t v u (runs t v u) → AlongOrAgainst t' v' u' (runs t' v' u') → runs t v u ≡ runs t' v' u'
        go (inl (a, x)) (inl (b, y)) = a ∙ sym b
        go (inr (a, x)) (inr (b, y)) = a ∙ sym b
        go (inl (a, x)) (inr (b, y)) = absurd (not_both t v u (start t v u) e refl x (subst (λ l. IsJoined s.rows (pair t v u) (backwards (edge l))) (sym one_start) (joined_trans s.rows (pair t v u) (pair t' v' u') (backwards (edge (start t' v' u'))) h y)))
        go (inr (a, x)) (inl (b, y)) = absurd (not_both t v u (start t v u) e refl (subst (λ l. IsJoined s.rows (pair t v u) (edge l)) (sym one_start) (joined_trans s.rows (pair t v u) (pair t' v' u') (edge (start t' v' u')) h y)) x)

  module _ (t v u : ℕ) (e : IsEdge t v u) where
    pub back_class : class t u v ≡ class t v u
    unfolding class
    back_class = ap (λ j. slice_index s.edges.classes (6 * t + j)) (edge_number-backwards v u e.lv e.lu)

    back_start : start t u v ≡ start t v u
    unfolding start
    back_start = ap (least s.edges.classes) back_class

    pub back_run : runs t u v ≡ not (runs t v u)
    back_run = go (runs_is t v u e) (runs_is t u v (back_edge t v u e))
      where
        go : AlongOrAgainst t v u (runs t v u) → AlongOrAgainst t u v (runs t u v) → runs t u v ≡ not (runs t v u)
        go (inl (a, x)) (inr (b, y)) = b ∙ sym (ap not a)
        go (inr (a, x)) (inl (b, y)) = b ∙ sym (ap not a)
        go (inl (a, x)) (inl (b, y)) = absurd (not_both t v u (start t v u) e refl x
            (subst (λ l. IsJoined s.rows (pair t v u) (backwards (edge l))) back_start (joined_turned s.rows (pair t u v) (edge (start t u v)) y)))
        go (inr (a, x)) (inr (b, y)) = absurd (not_both t v u (start t v u) e refl
            (subst (IsJoined s.rows (pair t v u)) (turned_twice (start t u v) ∙ ap edge back_start) (joined_turned s.rows (pair t u v) (backwards (edge (start t u v))) y)) x)

  -- two edges of one class that both run along its least edge, or both against it, are joined
  pub same_run : (t v u t' v' u' : ℕ) → IsEdge t v u → IsEdge t' v' u' → class t v u ≡ class t' v' u' → runs t v u ≡ runs t' v' u' → IsJoined s.rows (pair t v u) (pair t' v' u')
  unfolding start
  same_run t v u t' v' u' e e' c r = go (runs_is t v u e) (runs_is t' v' u' e')
    where
      begun : start t' v' u' ≡ start t v u
      begun = ap (least s.edges.classes) (sym c)

      back : (q : Place) → IsJoined s.rows (pair t' v' u') q → IsJoined s.rows q (pair t' v' u')
      back q h = joined_sym s.rows (pair t' v' u') q k.table (e'.lv, (e'.lu, tt)) h

      go : AlongOrAgainst t v u (runs t v u) → AlongOrAgainst t' v' u' (runs t' v' u') → IsJoined s.rows (pair t v u) (pair t' v' u')
      go (inl (a, x)) (inl (b, y)) = joined_trans s.rows (pair t v u) (edge (start t v u)) (pair t' v' u') x (back (edge (start t v u)) (subst (λ l. IsJoined s.rows (pair t' v' u') (edge l)) begun y))
      go (inr (a, x)) (inr (b, y)) = joined_trans s.rows (pair t v u) (backwards (edge (start t v u))) (pair t' v' u') x (back (backwards (edge (start t v u))) (subst (λ l. IsJoined s.rows (pair t' v' u') (backwards (edge l))) begun y))
      go (inl (a, x)) (inr (b, y)) = absurd (let z : true ≡ false = sym a ∙ r ∙ b in cc)
      go (inr (a, x)) (inl (b, y)) = absurd (let z : true ≡ false = sym b ∙ sym r ∙ a in cc)
