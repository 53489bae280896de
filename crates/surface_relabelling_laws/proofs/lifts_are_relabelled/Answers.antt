-- The lemmas are the laws.
use Rattle.surface_relabelling_laws.proofs.LiftsRelabelled.{lift_relabelled, lifted_euler}
use Rattle.surface_relabelling_laws.proofs.lifts_are_relabelled.Goals as goal

pub returns : goal.returns
returns c = record {
  lifts = λ s other by xs lift k k' relabels w l. lift_relabelled s other k k' by relabels.0 relabels.1 xs lift w l;
  characteristics = λ s other by xs lift lifted k k' relabels w ok l m. lifted_euler s other k k' by relabels.0 relabels.1 xs lift lifted w ok l m;
}
