-- Tables with the same signature are isomorphic.
use Rattle.std.proofs.Common.{refl}
use Rattle.component_laws.proofs.Signatures.{component_signatures_tell}
use Rattle.signature_laws.proofs.Uniqueness.{tells_tables}
use Rattle.surface_relabelling_laws.proofs.AllCoordinates.{as_many_isomorphic}
use Rattle.surface_relabelling_laws.proofs.lists_are_as_long.Goals as goal

pub returns : goal.returns
returns c = record {
  isomorphic = λ coords rows new equations others list listed table isomorphic e f one other. as_many_isomorphic coords rows new equations others list listed table isomorphic e f one other;
  signature = λ coords first second text equations others list listed table table' a b e f one other.
      as_many_isomorphic coords first second equations others list listed table ((tells_tables first second text text table table' a b).0 refl) e f one other;
  components = λ coords first second text equations others list listed table table' a b e f one other.
      as_many_isomorphic coords first second equations others list listed table ((component_signatures_tell first second text text table table' a b).0 refl) e f one other;
  enumerations = λ coords rows new equations others order another limit bound taken used list listed table isomorphic e f one other.
      as_many_isomorphic coords rows new equations others list listed table isomorphic e f one.surfaces other.surfaces;
}
