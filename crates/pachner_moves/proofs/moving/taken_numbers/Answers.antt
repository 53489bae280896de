use Rattle.std.proofs.Common.{◌<◌, length, map, ◌∙◌, sym, arith}
use Rattle.table_definitions.specs.Lists.{has}
use Rattle.move_definitions.specs.Moves.{Facet}
use Rattle.pachner_moves.proofs.CodeLaws.{one_taken, none_taken, few_taken}
use Rattle.pachner_moves.proofs.moving.taken_numbers.Goals as goal
use Rattle.pachner_moves.proofs.moving.taken_numbers.Goals.{then-is_of_facet, else-is_of_facet}

pub push-requires : goal.push-requires
push-requires c =
    let limited : length c.loop-tet.numbers.items < 4 =
    few_taken c.args.taken.table.now c.args.taken.m.now c.args.taken.facets.now c.loop-tet.numbers.items c.loop-tet.tet c.args.taken.old c.loop-tet.invariant (omega (arith, c.loop-tet-test.true, c.len-tet-end.ensures.value))
    (sym c.is_of_facet.ensures ∙ c.if-is_of_facet.true) in
    omega arith

pub loop-tet-preserved : goal.loop-tet-preserved
loop-tet-preserved c = elim c.if-is_of_facet.branch [
  | then-is_of_facet w ↦ rw w.numbers-is (one_taken (has (map (λ (f : Facet). f.tet) c.args.taken.facets.now)) c.loop-tet.numbers.items w.push.new.self.items c.loop-tet.tet c.loop-tet.invariant (sym c.is_of_facet.ensures ∙ w.if-is_of_facet.true) w.push.ensures.items)
  | else-is_of_facet w ↦ rw w.numbers-is (none_taken (has (map (λ (f : Facet). f.tet) c.args.taken.facets.now)) c.loop-tet.numbers.items c.loop-tet.tet c.loop-tet.invariant (sym c.is_of_facet.ensures ∙ w.if-is_of_facet.false))
]
