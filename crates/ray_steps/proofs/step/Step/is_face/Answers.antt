-- If a ray has a single column, the clash test decides; else a third ray inside the union, or the clash test, rules a
-- pair out.
use Rattle.std.proofs.Common.{subst, sym, ap, ◌∙◌, arith}
use Rattle.std.specs.Prelude.{IsTrue}
use Rattle.std.proofs.lemmas.Bool.{false≢true}
use Rattle.cone_definitions.specs.Vectors.{ray_at}
use Rattle.cone_definitions.specs.Surfaces.{IsAdmissibleUnion}
use Rattle.support_bits.specs.Columns.{support_of}
use Rattle.support_table.specs.Joins.{AreClashingColumns}
use Rattle.ray_steps.specs.Rays.{rays_of}
use Rattle.ray_steps.specs.Signs.{IsAdjacentPair}
use Rattle.ray_steps.proofs.RayLemmas.{length-rays_of, ray_read, ray_width}
use Rattle.ray_steps.proofs.SingleLemmas.{single_of_two}
use Rattle.ray_steps.proofs.RivalLemmas.{support_read, clash_read, width_read, count_of_rivals, not_face_third, face_from_rivals}
use Rattle.ray_steps.specs.Steps.{StepData}
use Rattle.ray_steps.proofs.ViewLemmas.{place_of_rays}
use Rattle.ray_steps.proofs.step.Step.is_face.Goals as goal

pub invariant_of-pair : goal.invariant_of-pair
invariant_of-pair g c =
    let ray_list = c.self.inside.ray_list.items in
    let columns = c.self.inside.clashes.now.columns in
    let i = c.args.i in
    let j = c.args.j in
    let same = ap (λ (d : StepData). d.rays) c.self.view_is in
    let i_in = place_of_rays ray_list c.args.self.now.rays i same c.requires.search.in_range in
    let j_in = place_of_rays ray_list c.args.self.now.rays j same c.requires.second in
    let a = c.index-u.result.now in
    let b = c.index-w.result.now in
    let listed = c.in_ok-compatible_list.ensures.compatible_list in
    let wide = listed.table.width ∙ sym (ap (λ (d : StepData). d.columns) c.self.view_is) in
    record {
      count = count_of_rivals _ _ _ _ listed.table;
      first = width_read a _ columns _ (ray_read ray_list i a i_in c.index-u.ensures) (ray_width ray_list i columns i_in c.self.invariant.rays.widths) wide;
      second = width_read b _ columns _ (ray_read ray_list j b j_in c.index-w.ensures) (ray_width ray_list j columns j_in c.self.invariant.rays.widths) wide;
    }

pub returns-then-has_single-clause-face : goal.returns-then-has_single-clause-face
returns-then-has_single-clause-face g c =
    let ray_list = c.self.inside.ray_list.items in
    let pairs = c.self.inside.clashes.now.pairs in
    let i = c.args.i in
    let j = c.args.j in
    let same = ap (λ (d : StepData). d.rays) c.self.view_is in
    let i_in = place_of_rays ray_list c.args.self.now.rays i same c.requires.search.in_range in
    let j_in = place_of_rays ray_list c.args.self.now.rays j same c.requires.second in
    let a = c.index-u.result.now in
    let b = c.index-w.result.now in
    let u = ray_read ray_list i a i_in c.index-u.ensures in
    let w = ray_read ray_list j b j_in c.index-w.ensures in
    let read = clash_read pairs a b _ _ u w in
    let single = single_of_two (ray_at (rays_of ray_list) i) (ray_at (rays_of ray_list) j) a.support b.support (support_read a _ u) (support_read b _ w) (c.has_single.ensures.0 c.if-has_single.true) in
    let n = length-rays_of ray_list in
    subst (λ (d : StepData). (IsTrue c.allows.result → IsAdjacentPair d.pairs d.rays i j) × (IsAdjacentPair d.pairs d.rays i j → IsTrue c.allows.result)) c.self.view_is (
      (λ h. c.self.invariant.rays.singles i j (omega (arith, i_in)) (omega (arith, j_in)) single (read.0 (c.allows.ensures.0 h))),
      (λ face. c.allows.ensures.1 (read.1 face.no_clash)),
    )

pub returns-in-Some-clause-face : goal.returns-in-Some-clause-face
returns-in-Some-clause-face g c =
    let d = c.args.self.now in
    let ray_list = c.self.inside.ray_list.items in
    let i = c.args.i in
    let j = c.args.j in
    let same = ap (λ (d : StepData). d.rays) c.self.view_is in
    let a = c.index-u.result.now in
    let b = c.index-w.result.now in
    let u = ap (λ rays. ray_at rays i) (sym same) ∙ ray_read ray_list i a (place_of_rays ray_list d.rays i same c.requires.search.in_range) c.index-u.ensures in
    let w = ap (λ rays. ray_at rays j) (sym same) ∙ ray_read ray_list j b (place_of_rays ray_list d.rays j same c.requires.second) c.index-w.ensures in
    let found = c.in-Some.ensures.some in
    let joined = subst (AreClashingColumns d.pairs (support_of (ray_at d.rays i))) (sym c.in_ok-compatible_list.ensures.joined) c.requires.search.joined in (
      λ h. absurd (false≢true h),
      λ face. absurd (not_face_third d.pairs d.rays i j d.columns c.in-Some.m c.in_ok-compatible_list.compatible_list a.support b.support
          (record { joined = joined; listed = c.in_ok-compatible_list.ensures.compatible_list }) (support_read a _ u) (support_read b _ w) found.0 found.1 face),
    )

pub returns-in-None-clause-face : goal.returns-in-None-clause-face
returns-in-None-clause-face g c =
    let d = c.args.self.now in
    let ray_list = c.self.inside.ray_list.items in
    let i = c.args.i in
    let j = c.args.j in
    let same = ap (λ (d : StepData). d.rays) c.self.view_is in
    let clashing = ap (λ (d : StepData). d.pairs) c.self.view_is in
    let a = c.index-u.result.now in
    let b = c.index-w.result.now in
    let u = ap (λ rays. ray_at rays i) (sym same) ∙ ray_read ray_list i a (place_of_rays ray_list d.rays i same c.requires.search.in_range) c.index-u.ensures in
    let w = ap (λ rays. ray_at rays j) (sym same) ∙ ray_read ray_list j b (place_of_rays ray_list d.rays j same c.requires.second) c.index-w.ensures in
    let read = clash_read c.self.inside.clashes.now.pairs a b _ _ u w in
    let joined = subst (AreClashingColumns d.pairs (support_of (ray_at d.rays i))) (sym c.in_ok-compatible_list.ensures.joined) c.requires.search.joined in (
      λ h. face_from_rivals d.pairs d.rays i j d.columns c.in_ok-compatible_list.compatible_list a.support b.support
          (record { joined = joined; listed = c.in_ok-compatible_list.ensures.compatible_list }) (support_read a _ u) (support_read b _ w) c.in-None.ensures.none
          (subst (λ pairs. IsAdmissibleUnion pairs (ray_at d.rays i) (ray_at d.rays j)) clashing (read.0 (c.allows-in-None.ensures.0 h))),
      λ face. c.allows-in-None.ensures.1 (read.1 (subst (λ pairs. IsAdmissibleUnion pairs (ray_at d.rays i) (ray_at d.rays j)) (sym clashing) face.no_clash)),
    )
