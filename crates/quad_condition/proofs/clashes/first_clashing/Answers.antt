use Rattle.std.proofs.Common.{◌≡◌, ◌<◌, ap, sym, ◌∙◌, arith}
use Rattle.std.specs.List.{find}
use Rattle.surface_definitions.specs.Coordinates.{columns}
use Rattle.surface_definitions.specs.Verdict.{both_nonzero}
use Rattle.quad_condition.proofs.Pairs.{partners_before, partners_start, partners_whole, found_none, found_zero, found_one, found_no_first}
use Rattle.quad_condition.proofs.clashes.first_clashing.Goals.{else-x-second-ne0-via-then-x-second-ne0+else-do_clash, else-x-second-ne0-via-else-x-second-ne0}
use Rattle.quad_condition.proofs.clashes.first_clashing.Goals as goal

pub returns-then-x-first-eq0 : goal.returns-then-x-first-eq0
returns-then-x-first-eq0 c = sym (found_no_first c.args.x.now c.args.space.coords c.args.space.tets c.args.first c.if-x-first-eq0.true)

pub loop-second-init : goal.loop-second-init
loop-second-init c = ap (find (both_nonzero c.args.x.now)) (partners_start c.args.space.coords c.args.first)

pub returns-then-do_clash : goal.returns-then-do_clash
returns-then-do_clash c =
    let less : c.args.first < c.loop-second.second = omega arith in
    let low : c.loop-second.second < c.partners_end-second-end.result = c.loop-second-test.true in
    let within : c.loop-second.second < columns c.args.space.coords c.args.space.tets = omega (arith, c.partners_end-second-end.ensures.within) in
    sym (found_one c.args.x.now c.args.space.coords c.args.space.tets c.args.first c.loop-second.second c.loop-second.invariant less within c.if-x-first-eq0.false c.if-x-second-ne0.true (sym c.if-do_clash.ensures))

pub loop-second-preserved : goal.loop-second-preserved
loop-second-preserved c = elim c.else-x-second-ne0.branch [
  | else-x-second-ne0-via-then-x-second-ne0+else-do_clash w ↦ found_none c.args.x.now c.args.space.coords c.args.first c.loop-second.second c.loop-second.invariant (sym w.if-do_clash.ensures)
  | else-x-second-ne0-via-else-x-second-ne0 w ↦ found_zero c.args.x.now c.args.space.coords c.args.first c.loop-second.second c.loop-second.invariant w.if-x-second-ne0.false
]

pub returns : goal.returns
returns c =
    let all : c.loop-second.second ≡ c.partners_end-second-end.result = omega arith in
    sym (ap (find (both_nonzero c.args.x.now)) (sym (partners_whole c.args.space.coords c.args.space.tets c.args.first _ c.partners_end-second-end.ensures.within c.partners_end-second-end.ensures.beyond)
    ∙ ap (partners_before c.args.space.coords c.args.first) (sym all)) ∙ c.loop-second.invariant)
