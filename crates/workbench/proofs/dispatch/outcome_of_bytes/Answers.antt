-- The whole source was read.
use Rattle.std.proofs.Common.{ℕ, List, inr, subst}
use Rattle.text_io.specs.declared.transfer.ReadEnd.TheVariants.{Failed}
use Rattle.outcome_definitions.specs.Answers.{IsAnswerTo}
use Rattle.std.proofs.lemmas.Result.{IfOk-weaker}
use Rattle.workbench.proofs.Responses.{no_error, calm_of, read_well}
use Rattle.workbench.proofs.dispatch.outcome_of_bytes.Goals as goal

pub returns-in-Ok-clause-response : goal.returns-in-Ok-clause-response
returns-in-Ok-clause-response g c = IfOk-weaker c.outcome_of_request.result _ _ (λ o h. inr (read_well c.args.request o c.in-Ok.bytes.items c.requires.reads
    (subst (λ (bytes : List ℕ). IsAnswerTo c.args.request bytes o) c.deref.ensures.value h) c.in-Ok.ensures.within
    (g.S.Source.left c.args.source.now) (g.S.Source.left c.read_all.new.source) (g.S.Source.faults c.args.source.now) (g.S.Source.faults c.read_all.new.source) c.in-Ok.ensures.all c.in-Ok.ensures.end
    (calm_of (g.S.Source.faults c.args.source.now) (g.S.Source.faults c.read_all.new.source) (λ small less. no_error c.in-Ok.bytes Failed ((c.in-Ok.ensures.failed small).1 less)) c.in-Ok.ensures.later)))
    c.outcome_of_request.ensures.answer
