use Rattle.signature_laws.proofs.Agreeing.{one_walk}
use Rattle.canonical_labelling.proofs.matches.matching.Goals as goal

pub returns-then-not-equals-clause-none : goal.returns-then-not-equals-clause-none
returns-then-not-equals-clause-none c = λ by w.
    let same =
    one_walk c.args.traversal.now.table.now c.in_ok-walked.walked.table c.args.target.now c.in_ok-walked.walked.relabelling by c.args.traversal.now.is_table c.args.traversal.now.start c.args.traversal.now.in_range c.in_ok-walked.ensures w in
    let equal = c.equals.ensures.1 same.1 in
    let separate = c.if-not-equals.true in
    cc
