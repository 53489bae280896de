-- The sum that exists by sum_laws is one of different listed surfaces. They lie inside the solution, so they are
-- compatible.
use Rattle.std.proofs.Common.{ℕ, List, slice_index, slice_index_or, subst, ◌∙◌}
use Rattle.cone_definitions.specs.Vectors.{IsBefore}
use Rattle.cone_definitions.proofs.Combined.{factor_zero}
use Rattle.cone_definitions.proofs.Lexicographic.{before_irreflexive}
use Rattle.sum_definitions.specs.Sums.{Term}
use Rattle.sum_laws.specs.Laws.{IsSumOfRays}
use Rattle.sum_laws.proofs.SomeSum.{some_sum}
use Rattle.sum_laws.proofs.Surfaces.{surfaces_are_rays_lem}
use Rattle.surface_sum_laws.specs.Laws.{IsSumOfListed}
use Rattle.surface_sum_laws.proofs.Solutions.{sum_solves, listed_solve, supports_inside}
use Rattle.surface_sum_laws.proofs.Compatible.{united_admissible, inside_united}
use Rattle.surface_sum_laws.proofs.solutions_are_sums.Goals as goal

of_rays : (surfaces : List (List ℕ)) (limit : ℕ) (x : List ℕ) (times : ℕ) (terms : List Term) → IsSumOfRays surfaces limit x times terms → IsSumOfListed surfaces x times terms
of_rays surfaces limit x times terms sum = record {
  some = (sum.adds_up).some;
  equal = (sum.adds_up).equal;
  counted = sum.counts;
  listed = sum.listed;
  different = λ i j d less l e. before_irreflexive (slice_index_or terms j d).vector (subst (λ v. IsBefore v (slice_index_or terms j d).vector) e (sum.ascending i j d less l));
}

pub returns : goal.returns
returns c = record {
  both = λ rows coords equations surfaces x h width. (
    λ s. let some = some_sum _ equations surfaces x (surfaces_are_rays_lem _ equations _ surfaces x h.is_list s.solution s.admissible) in
        let sum = of_rays surfaces some.0 x some.1 some.2 some.3 in
        (some.1, some.2, sum, inside_united _ some.2 x (supports_inside surfaces x some.1 some.2 sum) s.admissible),
    λ s. record {
      solution = sum_solves _ equations s.1 (listed_solve _ equations _ surfaces h.is_list s.1 s.2.listed) x s.0 s.2.some width s.2.equal;
      admissible = united_admissible _ equations _ surfaces h.is_list s.1 s.2.listed s.3 x (λ j z. factor_zero s.0 (slice_index x j) s.2.some (s.2.equal j ∙ z));
    },
  );
  inside = supports_inside;
}
