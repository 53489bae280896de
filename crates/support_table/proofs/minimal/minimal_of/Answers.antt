use Rattle.std.proofs.Common.{ℕ, List, Bool, subst, sym}
use Rattle.std.proofs.lemmas.Result.{IfOk-weaker}
use Rattle.support_table.specs.Candidates.{AreCandidates}
use Rattle.support_table.specs.Residuals.{AreMinimalOf}
use Rattle.support_table.proofs.OtherLemmas.{none_selected}
use Rattle.support_table.proofs.minimal.minimal_of.Goals as goal

pub returns-then-not-has_selected : goal.returns-then-not-has_selected
returns-then-not-has_selected c =
    let ray = c.args.ray in
    let selected = c.args.selected.now in
    subst (AreMinimalOf ray.rays.now.supports ray.support.now ray.joined.now ray.own ray.most selected) (sym c.new.ensures.items)
    (none_selected ray.rays.now.supports ray.support.now ray.joined.now ray.own ray.most c.args.list.now c.requires.candidates selected (c.has_selected.ensures c.if-not-has_selected.true))

pub returns : goal.returns
returns c =
    let ray = c.args.ray in
    let supports = ray.rays.now.supports in
    let outer = ray.support.now in
    let selected = c.args.selected.now in
    let list = c.args.list.now in
    IfOk-weaker c.minimal_by_pairs.result (λ places. (joined : List Bool) (own most : ℕ) → AreCandidates supports outer joined own most list → AreMinimalOf supports outer joined own most selected places.items)
    (λ places. AreMinimalOf supports outer ray.joined.now ray.own ray.most selected places.items)
    (λ places h. h ray.joined.now ray.own ray.most c.requires.candidates) c.minimal_by_pairs.ensures
