use Rattle.command_definitions.proofs.Accepted.{accepted_in_range}
use Rattle.command_definitions.proofs.accepted_requests.Goals as goal

pub returns : goal.returns
returns c = accepted_in_range
