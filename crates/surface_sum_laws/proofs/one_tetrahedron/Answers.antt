-- The lemmas are the claims.
use Rattle.surface_sum_laws.proofs.Worked.{alone_list, alone_sum, alone_part}
use Rattle.surface_sum_laws.proofs.one_tetrahedron.Goals as goal

pub returns : goal.returns
returns c = record { list = alone_list; sum = alone_sum; part = alone_part }
