-- One more generator, by the least face of its class.
use Rattle.std.proofs.Common.{◌≡◌, ℕ, ◌*◌, ◌/◌, ◌<◌, List, length, take_all, ap, sym, subst, subst₂, arith, ◌∙◌}
use Rattle.std.specs.Prelude.{slice_index, IsSome}
use Rattle.std.specs.List.{AllZip}
use Rattle.std.proofs.lemmas.List.{get_or_default}
use Rattle.table_definitions.specs.Table.{Row, Face, glue}
use Rattle.table_definitions.specs.Places.{face_of}
use Rattle.presentation_definitions.specs.Presentations.{AreGenerators, IsTurning, IsTurningFace}
use Rattle.presentation_laws.proofs.Firsts.{generator_at, generator_glued}
use Rattle.edge_group.specs.Generators.{Generators}
use Rattle.edge_group.specs.Turns.{IsTreeWith}
use Rattle.edge_group.proofs.Relating.{zip_taken}
use Rattle.edge_group.proofs.generators.Generators.turning.Goals as goal

pub index-requires : goal.index-requires
index-requires c =
    let g = generator_at c.self.inside.skeleton.now c.deref-class-items.result.now c.loop-class.class-index (subst (AreGenerators c.self.inside.skeleton.now) (sym c.deref-class-items.ensures.value) c.self.invariant.generators) c.loop-class-test.true in
    omega (arith, g.0, c.self.invariant.firsts.one_each, c.self.inside.firsts.ok.0)

pub invariant_of-turns-clause-in_range : goal.invariant_of-turns-clause-in_range
invariant_of-turns-clause-in_range c =
    let g = generator_at c.self.inside.skeleton.now c.deref-class-items.result.now c.loop-class.class-index (subst (AreGenerators c.self.inside.skeleton.now) (sym c.deref-class-items.ensures.value) c.self.invariant.generators) c.loop-class-test.true in
    let class = slice_index c.deref-class-items.result.now c.loop-class.class-index in
    let inside : class < length c.self.inside.firsts.items = subst (λ n. class < n) (sym c.self.invariant.firsts.one_each) g.0 in
    let read : slice_index c.self.inside.firsts.items class ≡ c.index.result.now = get_or_default c.self.inside.firsts.items class 0 c.index.result.now inside ∙ sym c.index.ensures in
    let l : slice_index c.self.inside.firsts.items (slice_index c.deref-class-items.result.now c.loop-class.class-index) < 4 * length c.self.inside.skeleton.now.rows = c.self.invariant.firsts.in_range _ g.0 in
    let e : c.face_of.result.tet ≡ c.index.result.now / 4 = ap (λ (x : Face). x.tet) c.face_of.ensures.value in
    let r : length c.table-table.result.now ≡ length c.self.inside.skeleton.now.rows = ap length c.table-table.ensures.rows in omega arith

pub turns-requires : goal.turns-requires
turns-requires c =
    subst (λ (rows : List Row). IsTreeWith rows c.args.tree.now.faces.items c.args.tree.now.distances.items) (sym (c.table-table.ensures.rows ∙ ap (λ (g : Generators). g.skeleton.rows) c.self.view_is)) c.requires

pub invariant_of-turns-clause-glued : goal.invariant_of-turns-clause-glued
invariant_of-turns-clause-glued c =
    let g = generator_at c.self.inside.skeleton.now c.deref-class-items.result.now c.loop-class.class-index (subst (AreGenerators c.self.inside.skeleton.now) (sym c.deref-class-items.ensures.value) c.self.invariant.generators) c.loop-class-test.true in
    let class = slice_index c.deref-class-items.result.now c.loop-class.class-index in
    let inside : class < length c.self.inside.firsts.items = subst (λ n. class < n) (sym c.self.invariant.firsts.one_each) g.0 in
    let read : slice_index c.self.inside.firsts.items class ≡ c.index.result.now = get_or_default c.self.inside.firsts.items class 0 c.index.result.now inside ∙ sym c.index.ensures in
    subst₂ (λ (rows : List Row) (x : Face). IsSome (glue rows x)) (sym c.table-table.ensures.rows) (sym (c.face_of.ensures.value ∙ ap face_of (sym read ∙ c.self.invariant.firsts.least_member _ g.0)))
    (generator_glued c.self.inside.skeleton.now c.self.invariant.skeleton _ g.0 g.1.0)

pub loop-class-preserved : goal.loop-class-preserved
loop-class-preserved c =
    let g = generator_at c.self.inside.skeleton.now c.deref-class-items.result.now c.loop-class.class-index (subst (AreGenerators c.self.inside.skeleton.now) (sym c.deref-class-items.ensures.value) c.self.invariant.generators) c.loop-class-test.true in
    let class = slice_index c.deref-class-items.result.now c.loop-class.class-index in
    let inside : class < length c.self.inside.firsts.items = subst (λ n. class < n) (sym c.self.invariant.firsts.one_each) g.0 in
    let read : slice_index c.self.inside.firsts.items class ≡ c.index.result.now = get_or_default c.self.inside.firsts.items class 0 c.index.result.now inside ∙ sym c.index.ensures in
    zip_taken (IsTurning c.self.inside.skeleton.now) c.deref-class-items.result.now c.loop-class.class-index c.loop-class.turning.items c.push.new.self.items c.turns.result c.loop-class-test.true c.in_ok-push.ensures.items
    (subst₂ (λ (rows : List Row) (x : Face). IsTurningFace rows x c.turns.result) c.table-table.ensures.rows (c.face_of.ensures.value ∙ ap face_of (sym read ∙ c.self.invariant.firsts.least_member _ g.0)) c.turns.ensures)
    c.loop-class.invariant

pub returns : goal.returns
returns c =
    subst (λ (g : Generators). AllZip (IsTurning g.skeleton) g.classes c.loop-class.turning.items) c.self.view_is
    (subst (λ (xs : List ℕ). AllZip (IsTurning c.self.inside.skeleton.now) xs c.loop-class.turning.items)
    (take_all c.loop-class.class-index c.deref-class-items.result.now (omega arith) ∙ c.deref-class-items.ensures.value) c.loop-class.invariant)
