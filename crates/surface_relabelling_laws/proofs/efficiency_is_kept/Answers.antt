-- Tables with the same signature are isomorphic.
use Rattle.std.proofs.Common.{refl}
use Rattle.surface_definitions.specs.declared.Coords.TheVariants.{Standard}
use Rattle.signature_laws.proofs.Uniqueness.{tells_tables}
use Rattle.surface_relabelling_laws.proofs.Efficiency.{efficient_both}
use Rattle.surface_relabelling_laws.proofs.efficiency_is_kept.Goals as goal

pub returns : goal.returns
returns c = record {
  isomorphic = λ s other coords k k' h isomorphic. efficient_both s other coords k k' h isomorphic;
  signature = λ s other text k k' a b. efficient_both s other Standard k k' tt ((tells_tables s.rows other.rows text text k.table k'.table a b).0 refl);
}
