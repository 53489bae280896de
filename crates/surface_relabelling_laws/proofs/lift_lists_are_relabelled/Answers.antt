-- Tables with the same signature are isomorphic.
use Rattle.std.proofs.Common.{refl}
use Rattle.signature_laws.proofs.Uniqueness.{tells_tables}
use Rattle.surface_relabelling_laws.proofs.LiftLists.{lift_lists, lift_characteristics, both_lift}
use Rattle.surface_relabelling_laws.proofs.lift_lists_are_relabelled.Goals as goal

pub returns : goal.returns
returns c = record {
  lists = lift_lists;
  isomorphic = lift_characteristics;
  signature = λ s other text equations others quads lifts listed lifted a b h g.
      lift_characteristics s other equations others quads lifts listed lifted ((tells_tables s.rows other.rows text text (h.is_skeleton).table (g.is_skeleton).table a b).0 refl) h g;
  exist = both_lift;
}
