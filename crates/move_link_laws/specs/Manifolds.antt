-- A table with a certificate has the numbers of a closed 3-manifold, and `check` accepts no other table.
use Rattle.std.specs.Prelude.{◌≡◌, ℕ, ◌<◌, pos, List, Ok, IsTrue}
use Rattle.table_definitions.specs.Table.{Row, IsTable}
use Rattle.table_definitions.specs.Places.{IsConnected, HasValidEdges, is_closed}
use Rattle.skeleton_definitions.specs.Skeleton.{Skeleton, IsSkeleton}
use Rattle.skeleton_definitions.specs.Orientation.{IsOrientable}
use Rattle.skeleton_definitions.specs.declared.Link.{Link}
use Rattle.move_definitions.specs.Moves.{Move}
use Rattle.move_definitions.specs.Certificates.{IsCertificate}
use Rattle.text_document_definitions.specs.Documents.{moves_document}
use Rattle.command_definitions.specs.declared.Request.TheVariants.{Check}
use Rattle.outcome_definitions.specs.declared.Status.TheVariants.{Done}
use Rattle.outcome_definitions.specs.Information.{characteristic}
use Rattle.outcome_definitions.specs.Outcomes.{Outcome}
use Rattle.outcome_answer_laws.specs.Requests.{IsOutcomeTo}
use Rattle.surface_quad_lift_laws.specs.Laws.{HasLink}
use Rattle.move_link_laws.specs.Certified.{IsSphere}

-- the numbers of a connected, closed and orientable 3-manifold: no edge is invalid, each vertex link is a sphere, and
-- the Euler characteristic is 0
pub record HasManifoldNumbers (rows : List Row) : Type 0 where
  pub connected : IsConnected rows
  pub closed : IsTrue (is_closed rows)
  pub orientable : IsOrientable rows
  pub valid : HasValidEdges rows
  pub links : (s : Skeleton) (c : ℕ) (link : Link) → IsSkeleton s → s.rows ≡ rows → c < s.vertices.count → HasLink s c link → IsSphere link
  pub euler : (s : Skeleton) → IsSkeleton s → s.rows ≡ rows → characteristic s ≡ pos 0

abbrev pub CertifiedHaveManifoldNumbers : Type 0
CertifiedHaveManifoldNumbers = (rows : List Row) (moves : List Move) → IsTable rows → IsCertificate rows moves → HasManifoldNumbers rows

-- where the outcome of `check` is done, the table has these numbers
abbrev pub AcceptedHaveManifoldNumbers : Type 0
AcceptedHaveManifoldNumbers =
    (words : List (List ℕ)) (bytes : List ℕ) (o : Outcome) (rows : List Row) (moves : List Move) → IsOutcomeTo Check words bytes o → moves_document bytes ≡ Ok (rows, moves) → o.status ≡ Done
    → HasManifoldNumbers rows
