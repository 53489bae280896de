use Rattle.std.proofs.Common.{◌≡◌, sym, ◌∙◌}
use Rattle.canonical_labelling.specs.Counts.{boundary_count}
use Rattle.canonical_labelling.proofs.CountLemmas.{same_count}
use Rattle.canonical_labelling.proofs.matches.same_of_connected.Goals as goal

pub returns-then-boundary_count-clause-none : goal.returns-then-boundary_count-clause-none
returns-then-boundary_count-clause-none c = λ (by, bijection, carries).
    let same : boundary_count c.args.first.now ≡ boundary_count c.args.second.now = same_count c.args.first.now c.args.second.now by (bijection, carries) in
    c.if-boundary_count.true (c.boundary_count.ensures ∙ same ∙ sym c.boundary_count-2.ensures)
