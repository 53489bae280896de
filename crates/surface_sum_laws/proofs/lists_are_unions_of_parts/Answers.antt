-- The lemmas are the laws.
use Rattle.surface_sum_laws.proofs.Parts.{in_parts, union_of_parts, parts_have_lists, choices_counted, common_surfaces}
use Rattle.surface_sum_laws.proofs.lists_are_unions_of_parts.Goals as goal

pub returns : goal.returns
returns c = record { surfaces = in_parts; lists = union_of_parts; exist = parts_have_lists; count = choices_counted; common = common_surfaces }
