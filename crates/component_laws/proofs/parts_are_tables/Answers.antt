-- The lemmas are the laws.
use Rattle.component_laws.proofs.Members.{part_is_table}
use Rattle.component_laws.proofs.Alone.{part_is_connected, one_list_of_parts}
use Rattle.component_laws.proofs.Existing.{some_parts}
use Rattle.component_laws.proofs.parts_are_tables.Goals as goal

pub returns : goal.returns
returns c = record {
  tables = λ rows part table h. (part_is_table rows table part h, part_is_connected rows table part h);
  some = some_parts;
  one = λ rows parts others table a b. one_list_of_parts rows table parts others a b;
}
