-- Each case of the end of a run.
use Rattle.std.proofs.Common.{refl}
use Rattle.workbench.proofs.Endings.{all_within, spent_run, usage_delivered, idle_of, refused_by, response_delivered}
use Rattle.workbench.proofs.dispatch.run_request.Goals as goal

pub returns-in-Ok-outcome_of_source : goal.returns-in-Ok-outcome_of_source
returns-in-Ok-outcome_of_source g c =
    response_delivered c.args.words.now _ _ (g.S.Source.left c.args.source.now) _ _ _ _ _ _ _ _ _ c.in-Ok.request c.in-Ok.ensures.answers c.outcome_of_source.ensures.untouched
    _ c.in-Ok-outcome_of_source.ensures.response c.write_outcome.result c.write_outcome.ensures

pub returns-in-Err : goal.returns-in-Err
returns-in-Err g c =
    spent_run c.args.words.now _ _ (g.S.Source.left c.args.source.now) _ _ _ _ _ _ _ _ _ (λ e. absurd (let accepted = c.in-Ok.ensures.answers in cc))
    (idle_of c.args.words.now _ _ c.in-Ok.request c.in-Ok.ensures.answers c.outcome_of_source.ensures.untouched)
    c.in-Err.ensures.no_memory.calm c.in-Err.ensures.no_memory.within refl refl

pub returns-in-Err-Usage : goal.returns-in-Err-Usage
returns-in-Err-Usage g c =
    usage_delivered c.args.words.now _ _ (g.S.Source.left c.args.source.now) _ _ _ _ _ _ _ _ _ (refused_by c.in-Err-Usage.field-0 _ c.in-Err-Usage.field-0-is c.in-Err-Usage.ensures.answers)
    refl (λ small. refl) _ c.usage.ensures c.write_outcome-in-Err-Usage-2.result c.write_outcome-in-Err-Usage-2.ensures

pub returns-in-Err-NoMemory : goal.returns-in-Err-NoMemory
returns-in-Err-NoMemory g c =
    spent_run c.args.words.now _ _ (g.S.Source.left c.args.source.now) _ _ _ _ _ _ _ _ _ (λ e. refl) (λ request e nothing. refl) (λ small. refl) (all_within _) refl refl
