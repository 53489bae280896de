-- Each standard vertex surface is of exactly one kind: a vertex link, the lift of a quad vertex surface, or a surface
-- whose quads are on no extreme ray of the quad equations (Burton 2009).
use Rattle.std.specs.Prelude.{◌≡◌, ℕ, ◌+◌, ◌≤◌, ◌↔◌, ◌⊎◌, Bool, not, List, length, filter}
use Rattle.std.specs.List.{All, Contains, list_any}
use Rattle.cone_definitions.specs.Rows.{Row as EquationRow, IsExtreme}
use Rattle.cone_definitions.specs.Vectors.{multiple}
use Rattle.table_definitions.specs.Lists.{same_list}
use Rattle.skeleton_definitions.specs.Skeleton.{Skeleton, IsSkeleton}
use Rattle.skeleton_definitions.specs.declared.Link.{Link}
use Rattle.surface_definitions.specs.Characteristic.{is_linking}
use Rattle.surface_definitions.specs.Coordinates.{columns}
use Rattle.surface_definitions.specs.declared.Coords.TheVariants.{Standard, Quad}
use Rattle.surface_definitions.specs.QuadEquations.{AreEquations}
use Rattle.surface_laws.specs.LiftLaws.{IsLiftOf}
use Rattle.sum_definitions.specs.Sums.{Term}
use Rattle.sum_laws.specs.Laws.{IsSumOfRays}
use Rattle.surface_quad_laws.specs.LinkLaws.{IsVertexLink}
use Rattle.surface_quad_laws.specs.SolutionLaws.{quads_of}
use Rattle.surface_quad_lift_laws.specs.Laws.{HasSphereAndDiscLinks}
use Rattle.surface_agreement_laws.specs.VertexSurfaces.{IsVertexSurfaceBy, IsSurfaceListBy, IsVertexSurfaceOf, IsSurfaceListOf}
use Rattle.surface_agreement_laws.specs.Laws.{IsLiftOfItsQuads}

-- the vector is on an extreme ray: a positive multiple of it is a positive multiple of an extreme solution
pub record IsOnExtremeRay (columns : ℕ) (rows : List EquationRow) (xs : List ℕ) : Type 0 where
  pub ray : List ℕ
  pub extreme : IsExtreme columns rows ray
  pub times : ℕ
  pub some_times : 1 ≤ times
  pub count : ℕ
  pub some_count : 1 ≤ count
  pub same : multiple times xs ≡ multiple count ray

-- the vector is the lift of a quad vertex surface
abbrev pub IsLiftOfVertexSurface : Skeleton → List EquationRow → List ℕ → Type 0
IsLiftOfVertexSurface s quad_rows ys = (xs : List ℕ) × IsVertexSurfaceBy s Quad quad_rows xs × IsLiftOf s xs ys

-- Theorem: a standard vertex surface is the lift of a quad vertex surface if and only if its quads are one
abbrev pub LiftsHaveVertexQuads : Type 0
LiftsHaveVertexQuads =
    (s : Skeleton) (quad_rows : List EquationRow) (ys : List ℕ) → IsSkeleton s → AreEquations Quad s.rows quad_rows → IsVertexSurfaceOf s Standard ys
    → IsLiftOfVertexSurface s quad_rows ys ↔ IsVertexSurfaceBy s Quad quad_rows (quads_of s ys)

-- Theorem: and if and only if its quads are on an extreme ray
abbrev pub LiftsHaveExtremeQuads : Type 0
LiftsHaveExtremeQuads =
    (s : Skeleton) (quad_rows : List EquationRow) (ys : List ℕ) → IsSkeleton s → AreEquations Quad s.rows quad_rows → IsVertexSurfaceOf s Standard ys
    → IsLiftOfVertexSurface s quad_rows ys ↔ IsOnExtremeRay (columns Quad (length s.rows)) quad_rows (quads_of s ys)

-- exactly one of three propositions holds
pub record IsExactlyOne (A B C : Type 0) : Type 0 where
  pub one : A ⊎ B ⊎ C
  pub not_first_and_second : ¬ (A × B)
  pub not_first_and_third : ¬ (A × C)
  pub not_second_and_third : ¬ (B × C)

-- the vector is the lift of a vector of the list
abbrev pub IsListedLift : Skeleton → List (List ℕ) → List ℕ → Type 0
IsListedLift s quads ys = (xs : List ℕ) × Contains quads xs × IsLiftOf s xs ys

-- the vector is the lift of its quads, which are on no extreme ray; a multiple of them is a sum of two or more
-- different vectors of the list
pub record HasQuadsOfMore (s : Skeleton) (quad_rows : List EquationRow) (quads : List (List ℕ)) (ys : List ℕ) : Type 0 where
  pub of_quads : IsLiftOfItsQuads s quad_rows ys
  pub no_ray : ¬ IsOnExtremeRay (columns Quad (length s.rows)) quad_rows (quads_of s ys)
  pub limit : ℕ
  pub times : ℕ
  pub terms : List Term
  pub sum : IsSumOfRays quads limit (quads_of s ys) times terms
  pub more : 2 ≤ length terms

-- Theorem: each surface of the standard list is a vertex link, or the lift of a surface of the quad list, or has quads
-- on no extreme ray; exactly one of these
abbrev pub ListedAreOfOneKind : Type 0
ListedAreOfOneKind =
    (s : Skeleton) (quad_rows : List EquationRow) (quads standard : List (List ℕ)) → IsSkeleton s → AreEquations Quad s.rows quad_rows
    → IsSurfaceListBy s Quad quad_rows quads → IsSurfaceListOf s Standard standard
    → All (λ ys. IsExactlyOne (IsVertexLink s Standard ys) (IsListedLift s quads ys) (HasQuadsOfMore s quad_rows quads ys)) standard

-- whether the list contains the vector
abbrev pub has_vector : List (List ℕ) → List ℕ → Bool
has_vector list xs = list_any (same_list xs) list

-- the surfaces of the standard list that have quads, and not those of a surface of the quad list
abbrev pub with_other_quads : Skeleton → List (List ℕ) → List (List ℕ) → List (List ℕ)
with_other_quads s quads standard = filter (λ ys. not (has_vector quads (quads_of s ys))) (filter (λ ys. not (is_linking Standard ys)) standard)

-- Theorem: a surface of the standard list has such quads if and only if they are on no extreme ray
abbrev pub OtherQuadsAreOnNoRay : Type 0
OtherQuadsAreOnNoRay =
    (s : Skeleton) (quad_rows : List EquationRow) (quads standard : List (List ℕ)) (ys : List ℕ) → IsSkeleton s → AreEquations Quad s.rows quad_rows
    → IsSurfaceListBy s Quad quad_rows quads → IsSurfaceListOf s Standard standard → Contains (with_other_quads s quads standard) ys ↔ (Contains standard ys × HasQuadsOfMore s quad_rows quads ys)

-- Theorem: if all links are spheres or discs, these, the quad list and the vertices together are as many as the
-- surfaces of the standard list
abbrev pub StandardListIsCounted : Type 0
StandardListIsCounted =
    (s : Skeleton) (links : List Link) (quad_rows : List EquationRow) (quads standard : List (List ℕ)) → IsSkeleton s → HasSphereAndDiscLinks s links → AreEquations Quad s.rows quad_rows
    → IsSurfaceListBy s Quad quad_rows quads → IsSurfaceListOf s Standard standard → length quads + s.vertices.count + length (with_other_quads s quads standard) ≡ length standard
