-- The pairs of a table are of two columns, so there is a list.
use Rattle.cone_definitions.proofs.Existence.{surface_list_exists_lem}
use Rattle.surface_definitions.proofs.ClashPairs.{clashes_apart}
use Rattle.surface_sum_laws.proofs.lists_exist.Goals as goal

pub returns : goal.returns
returns c rows coords equations table are = let list = surface_list_exists_lem _ equations _ (clashes_apart coords _) in
    (list.0, record { table = table; are_equations = are; is_list = list.1 })
