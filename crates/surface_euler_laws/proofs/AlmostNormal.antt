-- If a 0-efficient table has an octagonal almost normal sphere, one is listed: a listed surface with octagons whose
-- Euler characteristic is at least twice their number has one octagon, and Euler characteristic 2.
use Rattle.std.proofs.Common.{◌↔◌, ℕ, ◌*◌, pos, ◌≤ℤ◌, List, None, Contains, sym, subst₂, arith}
use Rattle.std.proofs.lemmas.Int.{ints}
use Rattle.skeleton_definitions.specs.Skeleton.{Skeleton, IsSkeleton, IsFirstInvalid}
use Rattle.surface_definitions.specs.declared.Coords.TheVariants.{Octagon}
use Rattle.surface_agreement_laws.specs.VertexSurfaces.{IsSurfaceListOf}
use Rattle.surface_efficiency_laws.specs.Laws.{IsZeroEfficient}
use Rattle.surface_efficiency_laws.specs.Octagons.{PositiveWithoutOctagonsAreLinks, HasOctagonalSphereNumbers}
use Rattle.surface_efficiency_laws.proofs.Octagons.{octagon_sphere_is_listed}
use Rattle.surface_efficiency_laws.proofs.StandardEfficiency.{none_where_efficient}
use Rattle.surface_euler_laws.specs.Laws.{IsOctagonalAlmostNormalSphere}
use Rattle.surface_euler_laws.proofs.AtMostTwo.{twice_are_spheres}

module _ (s : Skeleton) (k : IsSkeleton s) (valid : IsFirstInvalid s None) where
  has_twice : (xs : List ℕ) → IsOctagonalAlmostNormalSphere s xs → HasOctagonalSphereNumbers s xs
  has_twice xs h = record { some = omega (arith, h.one_octagon); twice = subst₂ (λ o z. pos (2 * o) ≤ℤ z) (sym h.one_octagon) (sym h.two) two }
    where
      two : pos (2 * 1) ≤ℤ pos 2
      two = omega (arith, ints)

  module _ (surfaces : List (List ℕ)) (list : IsSurfaceListOf s Octagon surfaces) (efficient : IsZeroEfficient s) where
    none : PositiveWithoutOctagonsAreLinks s surfaces
    none = (none_where_efficient s k surfaces list).1 efficient

    pub almost_normal_listed : ((xs : List ℕ) × IsOctagonalAlmostNormalSphere s xs) ↔ ((v : List ℕ) × Contains surfaces v × IsOctagonalAlmostNormalSphere s v)
    almost_normal_listed = (to, (λ h. (h.0, h.2)))
      where
        to : ((xs : List ℕ) × IsOctagonalAlmostNormalSphere s xs) → (v : List ℕ) × Contains surfaces v × IsOctagonalAlmostNormalSphere s v
        to (xs, h) =
            let found = (octagon_sphere_is_listed s surfaces list none k).0 (xs, h.connected, has_twice xs h) in
            let numbers = twice_are_spheres s found.0 k valid found.2 found.3 in
            (found.0, found.1, record { connected = found.2; one_octagon = numbers.0; two = numbers.1 })
