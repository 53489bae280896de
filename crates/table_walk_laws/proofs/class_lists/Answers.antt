-- The lemmas are the laws.
use Rattle.table_walk_laws.proofs.ClassLemmas.{classes_start, classes_pass, classes_grow, classes_end}
use Rattle.table_walk_laws.proofs.class_lists.Goals as goal

pub returns : goal.returns
returns c = record {
  start = classes_start;
  pass = λ neighbours i count marked classes h. classes_pass neighbours i count marked classes h;
  grow = λ neighbours i count before marked members classes after turn h c num. classes_grow neighbours i count before classes h marked members after turn c num;
  end = classes_end;
}
