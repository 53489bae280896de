-- Canonical solutions are the lifts of their quads, lifts are canonical, and vertex links are not.
use Rattle.std.proofs.Common.{◌≡◌, ◌≢◌, ℕ, ◌*◌, ◌/◌, ◌%◌, ◌<◌, ◌⊎◌, inl, inr, List, length, slice_index, refl, sym, ap, ◌∙◌, arith}
use Rattle.std.proofs.lemmas.Bool.{cases_eq}
use Rattle.cone_definitions.specs.Vectors.{IsInside}
use Rattle.cone_definitions.proofs.Below.{all_or_one}
use Rattle.table_definitions.specs.Permutation.{others}
use Rattle.table_definitions.proofs.Listed.{among_contains}
use Rattle.skeleton_definitions.specs.Skeleton.{Skeleton, IsSkeleton}
use Rattle.surface_definitions.specs.declared.Coords.{Coords}
use Rattle.surface_definitions.specs.declared.Coords.TheVariants.{Standard}
use Rattle.surface_definitions.specs.Equations.{glued_pairs}
use Rattle.surface_definitions.specs.Coordinates.{tri_column}
use Rattle.surface_laws.specs.LiftLaws.{IsLiftOf}
use Rattle.surface_laws.specs.MatchingLaws.{HasTriangles}
use Rattle.surface_laws.proofs.Matched.{pair_glued}
use Rattle.surface_laws.proofs.Solved.{solved, other_is}
use Rattle.surface_laws.proofs.Vertices.{number-vertex}
use Rattle.surface_quad_laws.specs.LinkLaws.{link_of, IsVertexLink, IsCanonical}
use Rattle.surface_quad_laws.proofs.VertexLinks.{link-one}
use Rattle.surface_quad_laws.specs.SolutionLaws.{IsStandardSolution, quads_of}

module _ (s : Skeleton) (k : IsSkeleton s) where
  pub canonical_lift : (ys : List ℕ) → IsStandardSolution s ys → IsCanonical s Standard ys → IsLiftOf s (quads_of s ys) ys
  canonical_lift ys solution canonical = record {
    width = solution.width;
    each = λ c lc. record {
      quads_are = refl;
      holds = λ y v cy cv at. let o = other_is (y.0).face v (among_contains v (others (y.0).face) cv) in
          solved s.rows Standard ys k.table tt solution y.0 y.1 v (pair_glued s.rows y (among_contains y (glued_pairs s.rows) cy)) o.0 o.1;
      least = (let m = canonical c lc in (m.0, (let l : m.0 < 4 * length s.rows = m.1 in omega (arith, (k.vertices).one_each)), m.2, m.3));
    };
  }

  pub lift_canonical : (xs ys : List ℕ) → IsLiftOf s xs ys → IsCanonical s Standard ys
  lift_canonical xs ys l c lc = let m = (l.each c lc).least in (m.0, (let i : m.0 < length s.vertices.classes = m.1 in omega (arith, (k.vertices).one_each)), m.2, m.3)

-- a vector inside a canonical one is canonical
pub inside_canonical : (s : Skeleton) (coords : Coords) (v x : List ℕ) → IsInside v x → IsCanonical s coords x → IsCanonical s coords v
inside_canonical s coords v x inside h c l = let m = h c l in (m.0, m.1, m.2, inside _ m.3)

-- the link of a class has a triangle at each of its members
pub no_link_is_canonical : (s : Skeleton) (coords : Coords) (xs : List ℕ) → HasTriangles coords → IsVertexLink s coords xs → IsCanonical s coords xs → ⊥
no_link_is_canonical s coords xs h link canonical =
    let c : ℕ = link.0 in
    let m = canonical c link.1 in
    let lt : m.0 / 4 < length s.rows = let l : m.0 < 4 * length s.rows = m.1 in omega arith in
    let lv : m.0 % 4 < 4 = omega arith in
    let one : slice_index (link_of s coords c) (tri_column coords (m.0 / 4) (m.0 % 4)) ≡ 1 =
    link-one (length s.rows) s.vertices.classes c coords (m.0 / 4) (m.0 % 4) h lt lv (ap (slice_index s.vertices.classes) (number-vertex m.0) ∙ m.2) in
    let none : slice_index (link_of s coords c) (tri_column coords (m.0 / 4) (m.0 % 4)) ≡ 0 = ap (λ (ys : List ℕ). slice_index ys (tri_column coords (m.0 / 4) (m.0 % 4))) (sym link.2) ∙ m.3 in
    omega arith

-- a vector that is not canonical has a triangle at each member of some class
module _ (s : Skeleton) (coords : Coords) (xs : List ℕ) where
  abbrev triangle : ℕ → ℕ
  triangle i = slice_index xs (tri_column coords (i / 4) (i % 4))

  abbrev IsIn : ℕ → ℕ → Type 0
  IsIn c i = slice_index s.vertices.classes i ≡ c

  abbrev HasGap : ℕ → Type 0
  HasGap c = (i : ℕ) × (i < 4 * length s.rows) × IsIn c i × (triangle i ≡ 0)

  abbrev pub IsFullAt : ℕ → Type 0
  IsFullAt c = (i : ℕ) → i < 4 * length s.rows → slice_index s.vertices.classes i ≡ c → slice_index xs (tri_column coords (i / 4) (i % 4)) ≢ 0

  at_member : (c i : ℕ) → (IsIn c i → triangle i ≢ 0) ⊎ (IsIn c i × (triangle i ≡ 0))
  at_member c i = elim (cases_eq (slice_index s.vertices.classes i) c) [
    | inr off ↦ inl (λ e. absurd (off e))
    | inl e ↦ elim (cases_eq (triangle i) 0) [ inl z ↦ inr (e, z) | inr some ↦ inl (λ _. some) ]
  ]

  gap_or_full : (c : ℕ) → HasGap c ⊎ IsFullAt c
  gap_or_full c = elim (all_or_one (λ i. IsIn c i → triangle i ≢ 0) (λ i. IsIn c i × (triangle i ≡ 0)) (at_member c) (4 * length s.rows)) [
    | inl all ↦ inr all
    | inr low ↦ inl (low.0, low.1, low.2.0, low.2.1)
  ]

  pub canonical_or_full : IsCanonical s coords xs ⊎ ((c : ℕ) × (c < s.vertices.count) × IsFullAt c)
  canonical_or_full = all_or_one HasGap IsFullAt gap_or_full s.vertices.count
