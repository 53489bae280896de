-- The outcome for bytes in memory.
use Rattle.std.proofs.Common.{ℕ, List, subst}
use Rattle.outcome_definitions.specs.Answers.{IsOutcome}
use Rattle.workbench.proofs.steady.run_steadily.Goals as goal

pub returns-clause-outcome : goal.returns-clause-outcome
returns-clause-outcome c = λ answered.
    let reported = c.run.ensures.outcome answered in
    (reported.0, subst (λ (bytes : List ℕ). IsOutcome c.args.words.now bytes reported.0) c.new-source.ensures reported.1, reported.2)
