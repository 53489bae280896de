-- No boundary face has an arc, or one has.
use Rattle.std.proofs.Common.{◌≡◌, ◌<◌, None, refl, sym, ap, ◌∙◌, arith, below_more}
use Rattle.std.proofs.lemmas.Bool.{false_from_ne_true}
use Rattle.table_definitions.specs.Table.{glue}
use Rattle.table_definitions.specs.Places.{face_of}
use Rattle.surface_definitions.specs.Characteristic.{arcs_in, meets_boundary}
use Rattle.surface_laws.specs.CharacteristicLaws.{HasBoundaryArc}
use Rattle.surface_laws.proofs.Chains.{number, face_of-number}
use Rattle.surface_laws.proofs.LinkingLemmas.{boundary}
use Rattle.surface_properties.proofs.vectors.DiscVector.meets_boundary.Goals as goal

pub loop-place-preserved : goal.loop-place-preserved
loop-place-preserved c =
    below_more (λ i. glue c.args.self.now.table.now (face_of i) ≡ None → arcs_in c.args.self.now.coords.system c.args.self.now.entries.now (face_of i) ≡ 0) c.loop-place.place c.loop-place.invariant (c.if-has_free_arcs.ensures.none refl)

pub returns : goal.returns
returns c = sym (false_from_ne_true (meets_boundary c.args.self.now.table.now c.args.self.now.coords.system c.args.self.now.entries.now) (λ e.
    let b : HasBoundaryArc c.args.self.now.table.now c.args.self.now.coords.system c.args.self.now.entries.now = (boundary c.args.self.now.table.now c.args.self.now.coords.system c.args.self.now.entries.now).0 e in
    let at : face_of (number b.face) ≡ b.face = face_of-number b.face b.one_of_four in
    let inside : number b.face < c.loop-place.place = omega (arith, b.tet, b.one_of_four, c.loop-place-test.false, c.len-place-end.ensures.value) in
    let none : arcs_in c.args.self.now.coords.system c.args.self.now.entries.now (face_of (number b.face)) ≡ 0 = c.loop-place.invariant (number b.face) inside (ap (glue c.args.self.now.table.now) at ∙ b.free) in
    let zero_there : arcs_in c.args.self.now.coords.system c.args.self.now.entries.now b.face ≡ 0 = ap (arcs_in c.args.self.now.coords.system c.args.self.now.entries.now) (sym at) ∙ none in
    omega (arith, b.some)))

pub returns-then-has_free_arcs : goal.returns-then-has_free_arcs
returns-then-has_free_arcs c = sym ((boundary c.args.self.now.table.now c.args.self.now.coords.system c.args.self.now.entries.now).1 (record {
  face = face_of c.loop-place.place;
  tet = omega (arith, c.loop-place-test.true, c.len-place-end.ensures.value);
  one_of_four = omega arith;
  free = (c.if-has_free_arcs.ensures.some refl).0;
  some = (c.if-has_free_arcs.ensures.some refl).1;
}))
