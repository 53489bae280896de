-- The lemmas are the laws.
use Rattle.table_walk_laws.proofs.SearchLemmas.{new_start_is_apart}
use Rattle.table_walk_laws.proofs.Members.{members_start, members_grow, members_are_component}
use Rattle.table_walk_laws.proofs.components.Goals as goal

pub returns : goal.returns
returns c = record {
  new_start = new_start_is_apart;
  members_start = members_start;
  members_grow = members_grow;
  members = members_are_component;
}
