-- The lemmas are the laws.
use Rattle.move_link_laws.proofs.Certified.{certified_valid_lem, certified_spheres_lem}
use Rattle.move_link_laws.proofs.Characteristic.{certified_zero}
use Rattle.move_link_laws.proofs.certified_manifolds.Goals as goal

pub returns : goal.returns
returns c = record { valid = certified_valid_lem; links = certified_spheres_lem; characteristic = certified_zero }
