-- The lemmas are the laws.
use Rattle.table_walk_laws.proofs.Joins.{reached_is_joined, joins_like_equals, links_like_equals}
use Rattle.table_walk_laws.proofs.joined_numbers.Goals as goal

pub returns : goal.returns
returns c = record { reached = reached_is_joined; joined = joins_like_equals; linked = links_like_equals }
