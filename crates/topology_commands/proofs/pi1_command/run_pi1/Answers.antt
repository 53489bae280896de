-- The reason why there is no group.
use Rattle.std.proofs.Common.{refl}
use Rattle.std.proofs.lemmas.Result.{IfOk-weaker}
use Rattle.topology_commands.proofs.Telling.{fault_of, not_connected_answer, invalid_answer}
use Rattle.topology_commands.proofs.pi1_command.run_pi1.Goals as goal

pub returns-in-Err-Fault-NotConnected : goal.returns-in-Err-Fault-NotConnected
returns-in-Err-Fault-NotConnected c = IfOk-weaker c.not_connected_outcome.result _ _
    (λ o t. not_connected_answer c.args.skeleton.now.rows c.args.skeleton.now c.in-Err-Fault-NotConnected.field-0-0 c.in-Err-Fault-NotConnected.tet o refl c.requires c.in-Err-Fault-NotConnected.field-0-0-is
    (fault_of c.args.skeleton.now c.in-Err-Fault-NotConnected.field-0 c.in-Err-Fault-NotConnected.field-0-0 c.in-Err-Fault-NotConnected.field-0-is c.in-Err-Fault-NotConnected.ensures.fault) t)
    c.not_connected_outcome.ensures

pub returns-in-Err-Fault-InvalidEdge : goal.returns-in-Err-Fault-InvalidEdge
returns-in-Err-Fault-InvalidEdge c = IfOk-weaker c.invalid_edge_outcome.result _ _
    (λ o t. invalid_answer c.args.skeleton.now.rows c.args.skeleton.now c.in-Err-Fault-InvalidEdge.field-0-0 c.in-Err-Fault-InvalidEdge.class o refl c.requires c.in-Err-Fault-InvalidEdge.field-0-0-is
    (fault_of c.args.skeleton.now c.in-Err-Fault-InvalidEdge.field-0 c.in-Err-Fault-InvalidEdge.field-0-0 c.in-Err-Fault-InvalidEdge.field-0-is c.in-Err-Fault-InvalidEdge.ensures.fault) t)
    c.invalid_edge_outcome.ensures
