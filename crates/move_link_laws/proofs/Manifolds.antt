-- A table with a certificate has the numbers of a closed manifold, and so has each table that `check` accepts.
use Rattle.std.proofs.Common.{◌≡◌, List, sym, subst}
use Rattle.table_definitions.specs.Table.{Row, IsTable}
use Rattle.skeleton_definitions.specs.Skeleton.{Skeleton}
use Rattle.move_definitions.specs.Moves.{Move}
use Rattle.move_definitions.specs.Certificates.{IsCertificate}
use Rattle.outcome_answer_laws.proofs.Checks.{done_where_certified}
use Rattle.outcome_laws.proofs.Certified.{table_with_moves}
use Rattle.move_laws.proofs.Certified.{certified_are_closed, certified_are_orientable}
use Rattle.move_link_laws.specs.Manifolds.{HasManifoldNumbers, CertifiedHaveManifoldNumbers, AcceptedHaveManifoldNumbers}
use Rattle.move_link_laws.proofs.Certified.{certified_valid_lem, certified_spheres_lem}
use Rattle.move_link_laws.proofs.Characteristic.{certified_zero}
use Rattle.move_link_laws.proofs.Connected.{certified_connected}

module _ (rows : List Row) (moves : List Move) (table : IsTable rows) (c : IsCertificate rows moves) where
  certificate_of : (s : Skeleton) → s.rows ≡ rows → IsCertificate s.rows moves
  certificate_of s e = subst (λ (r : List Row). IsCertificate r moves) (sym e) c

  manifold_numbers : HasManifoldNumbers rows
  manifold_numbers = record {
    connected = certified_connected rows moves c;
    closed = certified_are_closed rows moves table c;
    orientable = certified_are_orientable rows moves table c;
    valid = certified_valid_lem rows moves table c;
    links = λ s i link k e l has. certified_spheres_lem s moves i link k (certificate_of s e) l has;
    euler = λ s k e. certified_zero s moves k (certificate_of s e);
  }

pub certified_numbers : CertifiedHaveManifoldNumbers
certified_numbers rows moves table c = manifold_numbers rows moves table c

pub accepted_numbers : AcceptedHaveManifoldNumbers
accepted_numbers words bytes o rows moves asked read done =
    certified_numbers rows moves (table_with_moves bytes (rows, moves) read) ((done_where_certified words bytes o rows moves asked read).0 done)
