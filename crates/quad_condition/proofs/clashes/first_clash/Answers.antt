use Rattle.std.proofs.Common.{◌≡◌, ◌<◌, arith}
use Rattle.surface_definitions.specs.Coordinates.{columns}
use Rattle.quad_condition.proofs.Pairs.{found_pair, found_no_pair, passed_column}
use Rattle.quad_condition.proofs.clashes.first_clash.Goals as goal

pub returns-in-Some : goal.returns-in-Some
returns-in-Some c =
    let within : c.loop-first.first < columns c.args.coords c.args.tets = omega arith in
    found_pair c.args.x.now c.args.coords c.args.tets c.loop-first.first c.in-Some.second c.loop-first.invariant c.in-Some.ensures within

pub loop-first-preserved : goal.loop-first-preserved
loop-first-preserved c = passed_column c.args.x.now c.args.coords c.args.tets c.loop-first.first c.loop-first.invariant c.in_default.ensures

pub returns : goal.returns
returns c =
    let all : c.loop-first.first ≡ columns c.args.coords c.args.tets = omega arith in
    found_no_pair c.args.x.now c.args.coords c.args.tets c.loop-first.first c.loop-first.invariant all
