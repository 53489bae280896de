-- The lemmas are the laws.
use Rattle.table_walk_laws.proofs.SearchLemmas.{closed_holds_joined, search_begins, none_is_closed, turn_starts, turn_starts_before, turn_marks, turn_passes, turn_ends, search_ends, has_few_turns}
use Rattle.table_walk_laws.proofs.searches.Goals as goal

pub returns : goal.returns
returns c = record {
  closed = closed_holds_joined;
  begins = search_begins;
  none_is_closed = none_is_closed;
  turn_starts = turn_starts;
  turn_starts_before = turn_starts_before;
  turn_marks = turn_marks;
  turn_passes = turn_passes;
  turn_ends = turn_ends;
  ends = search_ends;
  bounded_steps = has_few_turns;
}
