-- No column of quads or octagons has pieces, or one has.
use Rattle.std.proofs.Common.{◌≡◌, ◌<◌, true, refl, sym, arith, below_more}
use Rattle.std.specs.Prelude.{slice_index}
use Rattle.std.proofs.lemmas.Bool.{false_from_ne_true}
use Rattle.surface_definitions.specs.Coordinates.{is_quad_or_octagon}
use Rattle.surface_definitions.specs.Characteristic.{is_linking}
use Rattle.surface_laws.proofs.LinkingLemmas.{linking}
use Rattle.surface_properties.proofs.properties.is_linking.Goals as goal

pub loop-column-preserved : goal.loop-column-preserved
loop-column-preserved c =
    below_more (λ k. is_quad_or_octagon c.args.coords k ≡ true → slice_index c.args.x.now k ≡ 0) c.loop-column.column c.loop-column.invariant (c.if-is_quad_or_octagon_entry.ensures.none refl)

pub returns : goal.returns
returns c = sym ((linking c.args.coords c.args.x.now).1 (λ k l q. c.loop-column.invariant k (omega (arith, c.loop-column-test.false)) q))

pub returns-then-is_quad_or_octagon_entry : goal.returns-then-is_quad_or_octagon_entry
returns-then-is_quad_or_octagon_entry c = sym (false_from_ne_true (is_linking c.args.coords c.args.x.now) (λ e.
    let some : (is_quad_or_octagon c.args.coords c.loop-column.column ≡ true) × (0 < slice_index c.args.x.now c.loop-column.column) = c.if-is_quad_or_octagon_entry.ensures.some refl in
    let none : slice_index c.args.x.now c.loop-column.column ≡ 0 = (linking c.args.coords c.args.x.now).0 e c.loop-column.column c.loop-column-test.true some.0 in
    let more : 0 < slice_index c.args.x.now c.loop-column.column = some.1 in
    omega arith))
