-- What is returned if there is an outcome.
use Rattle.std.proofs.Common.{ℕ, ◌<◌, List, arith, subst}
use Rattle.outcome_definitions.specs.Answers.{IsOutcome}
use Rattle.trinorm_c.specs.Calls.{words_of}
use Rattle.trinorm_c.proofs.Handing.{handed_on}
use Rattle.trinorm_c.proofs.trinorm_answer.Goals as goal

pub returns-in-Ok-outcome_between : goal.returns-in-Ok-outcome_between
returns-in-Ok-outcome_between c =
    let of : IsOutcome (words_of c.args.words.now) c.args.input.now c.in-Ok-outcome_between.outcome =
    subst (λ (bs : List ℕ). IsOutcome (words_of bs) c.args.input.now c.in-Ok-outcome_between.outcome) c.in-Ok.ensures.cases.0 c.in-Ok-outcome_between.ensures.outcome in
    let reported = handed_on of c.in-Ok-outcome_between.ensures.answered c.copy_out.ensures in
    let below : c.copy_out.result < 8 = reported.below in
    record {
      statuses = reported.statuses;
      answered = reported.answered;
      longer = reported.longer;
      not_text = (λ nine. absurd (omega arith), λ no. absurd (no c.in-Ok.ensures.cases.1));
      no_answer = λ exceeded. absurd (omega arith);
      rest = c.copy_out.ensures.rest;
      untouched = reported.untouched;
    }
