use Rattle.std.proofs.Common.{◌<◌, length, arith, sym, ◌∙◌}
use Rattle.skeleton.specs.Parts.{is_open_at}
use Rattle.skeleton.proofs.MarkLemmas.{open_somewhere, closed_everywhere, closed_more, some_face}
use Rattle.skeleton.proofs.boundary.is_closed.Goals as goal

pub loop-tet-preserved : goal.loop-tet-preserved
loop-tet-preserved c = closed_more c.args.table.now c.loop-tet.tet c.loop-tet.invariant (sym c.is_open.ensures ∙ c.if-is_open.false)

pub returns-then-is_open : goal.returns-then-is_open
returns-then-is_open c =
    let s = some_face (is_open_at c.args.table.now c.loop-tet.tet) (sym c.is_open.ensures ∙ c.if-is_open.true) in
    let inside : c.loop-tet.tet < length c.args.table.now = omega (arith, c.len-tet-end.ensures) in
    open_somewhere c.args.table.now c.loop-tet.tet s.0 inside s.1 s.2

pub returns : goal.returns
returns c = closed_everywhere c.args.table.now (λ t f l m. c.loop-tet.invariant t f (omega (arith, c.len-tet-end.ensures)) m)
