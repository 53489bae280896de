-- The lemmas are the laws.
use Rattle.cone_row_laws.proofs.Agreement.{extreme_kept, surface_kept, list_kept}
use Rattle.cone_row_laws.proofs.surface_lists_agree.Goals as goal

pub returns : goal.returns
returns c = record { extreme = extreme_kept; surfaces = surface_kept; lists = list_kept }
