use Rattle.std.proofs.Common.{ℕ, subst, sym, Vec, List, not}
use Rattle.std.specs.Prelude.{IsTrue, ◌↔◌}
use Rattle.std.specs.declared.alloc.Global.{Global}
use Rattle.std.proofs.lemmas.Bool.{false≢true}
use Rattle.surface_definitions.specs.Coordinates.{clash_list}
use Rattle.ray_steps.specs.Clashes.{IsClashFree}
use Rattle.quad_condition.specs.Bits.{HasTwo}
use Rattle.quad_condition.specs.Marks.{Masked, HasPairAtDistance}
use Rattle.quad_condition.proofs.MarkLemmas.{decides_two, decides_near}
use Rattle.quad_condition.proofs.masks.Masks.allows.Goals as goal

pub returns-then-not-has_pair_at_distance : goal.returns-then-not-has_pair_at_distance
returns-then-not-has_pair_at_distance c =
    let a : List ℕ = c.words-first.result.now in
    let b : List ℕ = c.words-second.result.now in
    subst (λ (m : Masked). IsTrue (not c.has_two.result) ↔ IsClashFree (clash_list m.coords m.tets) c.args.a.now c.args.b.now) c.self.view_is
    (decides_two c.self.inside.coords c.self.inside.tets c.self.inside.near.items c.self.inside.octagons.items c.args.a.now c.args.b.now a b c.has_two.result
    c.self.invariant c.words-first.ensures c.words-second.ensures
    (λ h. false≢true (c.if-not-has_pair_at_distance.ensures.1 (subst (λ (v : List (Vec ℕ Global)). HasPairAtDistance v a b) (sym c.deref.ensures.value) h)))
    (subst (λ (mask : List ℕ). IsTrue c.has_two.result ↔ HasTwo mask a b) c.deref-then-not-has_pair_at_distance.ensures.value c.has_two.ensures))

pub returns-else-not-has_pair_at_distance : goal.returns-else-not-has_pair_at_distance
returns-else-not-has_pair_at_distance c =
    let a : List ℕ = c.words-first.result.now in
    let b : List ℕ = c.words-second.result.now in
    subst (λ (m : Masked). IsTrue (not c.has_pair_at_distance.result) ↔ IsClashFree (clash_list m.coords m.tets) c.args.a.now c.args.b.now) c.self.view_is
    (decides_near c.self.inside.coords c.self.inside.tets c.self.inside.near.items c.self.inside.octagons.items c.args.a.now c.args.b.now a b c.has_pair_at_distance.result
    c.self.invariant c.words-first.ensures c.words-second.ensures c.if-not-has_pair_at_distance.false
    (subst (λ (v : List (Vec ℕ Global)). IsTrue c.has_pair_at_distance.result ↔ HasPairAtDistance v a b) c.deref.ensures.value c.has_pair_at_distance.ensures))
