-- The lemmas are the claims.
use Rattle.std.proofs.Common.{refl}
use Rattle.cone_laws.proofs.Worked.{worked_pair, worked_no_pair, worked_meeting}
use Rattle.cone_laws.proofs.small_unions.Goals as goal

pub returns : goal.returns
returns c = record { pair = worked_pair; none = worked_no_pair; cuts = (refl, refl, refl); meeting = worked_meeting }
