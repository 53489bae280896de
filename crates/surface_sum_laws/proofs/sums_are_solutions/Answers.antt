-- Sums of solutions are solutions; the terms lie inside their sum.
use Rattle.std.proofs.Common.{sym, ◌∙◌}
use Rattle.surface_sum_laws.proofs.Solutions.{entry-sum_vector, sum_vector_solves, listed_solve, term_zero}
use Rattle.surface_sum_laws.proofs.Compatible.{united_admissible, inside_united}
use Rattle.surface_sum_laws.proofs.sums_are_solutions.Goals as goal

pub returns : goal.returns
returns c = record {
  solve = λ rows coords equations surfaces terms h listed. sum_vector_solves _ equations terms (listed_solve _ equations _ surfaces h.is_list terms listed);
  admissible = λ rows coords equations surfaces terms h listed counted.
      let entry = entry-sum_vector _ equations terms (listed_solve _ equations _ surfaces h.is_list terms listed) in (
        inside_united _ terms _ (λ i d l j z. term_zero terms counted j (sym (entry j) ∙ z) i d l),
        λ united. united_admissible _ equations _ surfaces h.is_list terms listed united _ (λ j z. entry j ∙ z),
      );
}
