use Rattle.std.proofs.Common.{◌≡◌, ◌*◌, ◌<◌, length, arith}
use Rattle.std.proofs.lemmas.Result.{err_from_is_err_and}
use Rattle.signature_codec.specs.Views.{walk_view}
use Rattle.signature_text_laws.proofs.WalkLaws.{takes_on, walk_begins, walk_ordered, walk_types, walk_gluings}
use Rattle.signature_codec.proofs.Stops.{stops_at}
use Rattle.signature_codec.proofs.walk.walk_of.Goals as goal

pub loop-place-init : goal.loop-place-init
loop-place-init c = rw (c.new.ensures.items, c.new-2.ensures.items) (walk_begins c.args.table.now)

pub returns-in_err-take_face-clause-stops : goal.returns-in_err-take_face-clause-stops
returns-in_err-take_face-clause-stops c =
    let p = err_from_is_err_and c.from_residual.result c.from_residual.ensures.1 in
    let inside : c.loop-place.place < 4 * length c.args.table.now = omega (arith, c.len-place-end.ensures.value) in
    rw (p.1, p.2) (stops_at (Unit {0}) c.args.table.now c.loop-place.place (walk_view c.loop-place.walk) (walk_view c.take_face.new.walk) c.in_err-take_face.field-0.0 inside c.loop-place.invariant c.in_err-take_face.ensures.takes)

pub loop-place-preserved : goal.loop-place-preserved
loop-place-preserved c =
    let inside : c.loop-place.place < 4 * length c.args.table.now = omega (arith, c.len-place-end.ensures.value) in
    takes_on c.args.table.now c.loop-place.place (walk_view c.loop-place.walk) (walk_view c.take_face.new.walk) c.len-place-end.ensures.is_table inside c.loop-place.invariant c.in_ok-take_face.ensures.takes

pub returns-clause-whole : goal.returns-clause-whole
returns-clause-whole c =
    let end : c.loop-place.place ≡ 4 * length c.args.table.now = omega (arith, c.len-place-end.ensures.value) in
    record {
      ordered = walk_ordered c.args.table.now c.loop-place.place (walk_view c.loop-place.walk) end c.loop-place.invariant;
      types = walk_types c.args.table.now c.loop-place.place (walk_view c.loop-place.walk) end c.loop-place.invariant;
      gluings = walk_gluings c.args.table.now c.loop-place.place (walk_view c.loop-place.walk) end c.loop-place.invariant;
    }
