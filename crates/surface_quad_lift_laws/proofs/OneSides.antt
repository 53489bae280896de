-- Flags of one edge of the link.
use Rattle.std.proofs.Common.{◌≡◌, ◌≢◌, ℕ, ◌+◌, ◌*◌, ◌<◌, true, List, ◌++◌, length, map, ◌⊎◌, inl, inr, sym, ap, ◌∙◌, subst}
use Rattle.table_definitions.specs.Classes.{IsNumbering}
use Rattle.table_definitions.specs.Lists.{has}
use Rattle.table_definitions.proofs.Listed.{appended-among, map-among, has_among, among_has}
use Rattle.table_definitions.proofs.TableLaws.{Among, Among-map, Among-left, Among-right}
use Rattle.skeleton_definitions.specs.Corners.{Corner}
use Rattle.skeleton_definitions.specs.Links.{SameDirected}
use Rattle.skeleton_definitions.specs.Skeleton.{Skeleton}
use Rattle.surface_quad_lift_laws.proofs.DualTree.{quads, IsLevel}
use Rattle.surface_quad_lift_laws.proofs.Ends.{end_of, other_end, end_mate}
use Rattle.surface_quad_lift_laws.proofs.Flags.{IsVertexClass, IsFlag, mate, mate-turn, mate_in, mate_back, turn_in, side, side_parts, triangle_of, turn}
use Rattle.surface_quad_lift_laws.proofs.SideLists.{flag_of, flag_is, pair_is}

-- two flags of one edge, from either side and at either end
abbrev pub IsOneSide : Skeleton → Corner → Corner → Type 0
IsOneSide s k m = (side k ≡ side m) ⊎ (side k ≡ side (mate s.rows m))

-- the sides of some flags, from either side
abbrev pub sides_of : Skeleton → List Corner → List ℕ
sides_of s ds = map side ds ++ map (λ m. side (mate s.rows m)) ds

pub sides_has : (s : Skeleton) (ds : List Corner) (k : Corner) → has (sides_of s ds) (side k) ≡ true → (m : Corner) × Among m ds × IsOneSide s k m
sides_has s ds k e = elim (appended-among (side k) (map side ds) (map (λ m. side (mate s.rows m)) ds) (has_among (sides_of s ds) (side k) e)) [
  | inl a ↦ (let m = map-among side (side k) ds a in (m.0, m.1, inl m.2))
  | inr a ↦ (let m = map-among (λ m. side (mate s.rows m)) (side k) ds a in (m.0, m.1, inr m.2))
]

pub has_sides : (s : Skeleton) (ds : List Corner) (k m : Corner) → Among m ds → IsOneSide s k m → has (sides_of s ds) (side k) ≡ true
has_sides s ds k m a (inl e) = among_has (sides_of s ds) (side k) (Among-left (side k) (map side ds) (map (λ m. side (mate s.rows m)) ds) (subst (λ i. Among i (map side ds)) (sym e) (Among-map side m ds a)))
has_sides s ds k m a (inr e) = among_has (sides_of s ds) (side k)
    (Among-right (side k) (map side ds) (map (λ m. side (mate s.rows m)) ds) (subst (λ i. Among i (map (λ m. side (mate s.rows m)) ds)) (sym e) (Among-map (λ m. side (mate s.rows m)) m ds a)))

-- of four different vertices the third is determined by the others
pub third_is : (a b c d x : ℕ) → a < 4 → b < 4 → c < 4 → d < 4 → x < 4 → a ≢ b → a ≢ c → a ≢ d → b ≢ c → b ≢ d → c ≢ d → a ≢ x → b ≢ x → x ≢ d → x ≡ c
third_is a b c d x la lb lc ld lx ab ac ad bc bd cd ax bx xd = by_both (pair_is a b c d la lb lc ld ab ac ad bc bd cd) (pair_is a b x d la lb lx ld ab ax ad bx bd xd)
  where
    by_both : {r t : ℕ} → ((c ≡ r) × (d ≡ t)) ⊎ ((c ≡ t) × (d ≡ r)) → ((x ≡ r) × (d ≡ t)) ⊎ ((x ≡ t) × (d ≡ r)) → x ≡ c
    by_both (inl e) (inl f) = f.0 ∙ sym e.0
    by_both (inl e) (inr f) = absurd (cd (e.0 ∙ sym f.1))
    by_both (inr e) (inl f) = absurd (cd (e.0 ∙ sym f.1))
    by_both (inr e) (inr f) = f.0 ∙ sym e.0

module _ (s : Skeleton) (c : ℕ) (z : IsVertexClass s c) where
  pub same_side : (k m : Corner) → IsFlag s c z k → IsFlag s c z m → side k ≡ side m → (k ≡ m) ⊎ (k ≡ turn m)
  same_side k m h g e = by_both (flag_is s c z k h) (flag_is s c z m g)
    where
      same : flag_of k.tet k.a k.c ≡ flag_of m.tet m.a m.c
      same = let p = side_parts s c z k m h g e in λ i. flag_of (p.0 i) (p.1 i) (p.2 i)

      by_both : (k ≡ flag_of k.tet k.a k.c) ⊎ (k ≡ turn (flag_of k.tet k.a k.c)) → (m ≡ flag_of m.tet m.a m.c) ⊎ (m ≡ turn (flag_of m.tet m.a m.c)) → (k ≡ m) ⊎ (k ≡ turn m)
      by_both (inl p) (inl q) = inl (p ∙ same ∙ sym q)
      by_both (inl p) (inr q) = inr (p ∙ same ∙ ap turn (sym q))
      by_both (inr p) (inl q) = inr (p ∙ ap turn same ∙ ap turn (sym q))
      by_both (inr p) (inr q) = inl (p ∙ ap turn same ∙ sym q)

  -- one edge has four flags
  pub four_flags : (k m : Corner) → IsFlag s c z k → IsFlag s c z m → IsOneSide s k m → ((k ≡ m) ⊎ (k ≡ turn m)) ⊎ ((k ≡ mate s.rows m) ⊎ (k ≡ turn (mate s.rows m)))
  four_flags k m h g (inl e) = inl (same_side k m h g e)
  four_flags k m h g (inr e) = inr (same_side k (mate s.rows m) h (mate_in s c z m g) e)

  -- the equation of the heights at an edge holds at each of its flags, or at none
  level_turn : (xs : List ℕ) (h : ℕ → ℕ) (m : Corner) → IsLevel s xs h m → IsLevel s xs h (turn m)
  level_turn xs h m e = e ∙ ap (λ (l : Corner). h (triangle_of l) + quads xs l) (sym (mate-turn s.rows m))

  pub level_mate : (xs : List ℕ) (h : ℕ → ℕ) (m : Corner) → IsFlag s c z m → IsLevel s xs h m → IsLevel s xs h (mate s.rows m)
  level_mate xs h m g e = sym e ∙ ap (λ (l : Corner). h (triangle_of l) + quads xs l) (sym (mate_back s c z m g))

  pub level_one_side : (xs : List ℕ) (h : ℕ → ℕ) (k m : Corner) → IsFlag s c z k → IsFlag s c z m → IsOneSide s k m → IsLevel s xs h m → IsLevel s xs h k
  level_one_side xs h k m f g o e = elim (four_flags k m f g o) [
    | inl (inl q) ↦ subst (IsLevel s xs h) (sym q) e
    | inl (inr q) ↦ subst (IsLevel s xs h) (sym q) (level_turn xs h m e)
    | inr (inl q) ↦ subst (IsLevel s xs h) (sym q) (level_mate xs h m g e)
    | inr (inr q) ↦ subst (IsLevel s xs h) (sym q) (level_turn xs h (mate s.rows m) (level_mate xs h m g e))
  ]

  module _ (directions : List ℕ) (count : ℕ) (numbered : IsNumbering (12 * length s.rows) (SameDirected s.rows) directions count) where
    abbrev end : Corner → ℕ
    end k = end_of s c z directions count numbered k

    abbrev other : Corner → ℕ
    other k = other_end s c z directions count numbered k

    pub end_same : (m : Corner) → IsFlag s c z m → end (mate s.rows m) ≡ end m
    end_same m g = end_mate s c z directions count numbered m g (mate_in s c z m g)

    pub other_same : (m : Corner) → IsFlag s c z m → other (mate s.rows m) ≡ other m
    other_same m g = ap end (sym (mate-turn s.rows m)) ∙ end_same (turn m) (turn_in s c z m g)

    pub one_of_ends : (k m : Corner) → IsFlag s c z k → IsFlag s c z m → IsOneSide s k m → (end k ≡ end m) ⊎ (end k ≡ other m)
    one_of_ends k m f g o = elim (four_flags k m f g o) [
      | inl (inl q) ↦ inl (ap end q)
      | inl (inr q) ↦ inr (ap end q)
      | inr (inl q) ↦ inl (ap end q ∙ end_same m g)
      | inr (inr q) ↦ inr (ap end q ∙ other_same m g)
    ]
