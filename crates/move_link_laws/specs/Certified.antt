-- A table with a certificate is a closed 3-manifold's by its numbers, as the standard sphere is.
use Rattle.std.specs.Prelude.{◌≡◌, ℕ, ◌<◌, pos, true, List}
use Rattle.table_definitions.specs.Table.{Row, IsTable}
use Rattle.skeleton_definitions.specs.Skeleton.{Skeleton, IsSkeleton}
use Rattle.skeleton_definitions.specs.declared.Link.{Link}
use Rattle.skeleton_definitions.specs.declared.LinkKind.TheVariants.{Sphere}
use Rattle.move_definitions.specs.Moves.{Move}
use Rattle.move_definitions.specs.Certificates.{IsCertificate}
use Rattle.outcome_definitions.specs.Information.{characteristic}
use Rattle.surface_quad_lift_laws.specs.Laws.{HasLink}
use Rattle.table_definitions.specs.Places.{HasValidEdges}

-- all its edges are valid
abbrev pub CertifiedHaveValidEdges : Type 0
CertifiedHaveValidEdges = (rows : List Row) (moves : List Move) → IsTable rows → IsCertificate rows moves → HasValidEdges rows

-- a link is a sphere by its numbers: closed, orientable, with Euler characteristic 2
pub record IsSphere (link : Link) : Type 0 where
  pub closed : link.closed ≡ true
  pub euler : link.euler ≡ pos 2
  pub orientable : link.orientable ≡ true
  pub kind : link.kind ≡ Sphere

-- the link of each vertex class is a sphere
abbrev pub CertifiedHaveSphereLinks : Type 0
CertifiedHaveSphereLinks =
    (s : Skeleton) (moves : List Move) (c : ℕ) (link : Link) → IsSkeleton s → IsCertificate s.rows moves → c < s.vertices.count → HasLink s c link → IsSphere link

-- vertices less edges plus faces less tetrahedra are 0
abbrev pub CertifiedHaveCharacteristicZero : Type 0
CertifiedHaveCharacteristicZero = (s : Skeleton) (moves : List Move) → IsSkeleton s → IsCertificate s.rows moves → characteristic s ≡ pos 0
