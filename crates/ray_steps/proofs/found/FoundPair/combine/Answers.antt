use Rattle.std.proofs.Common.{◌≡◌, ◌+◌, ◌<◌, length, subst, subst₂, sym, ◌∙◌, ap}
use Rattle.std.proofs.lemmas.Bool.{false≢true}
use Rattle.std.proofs.lemmas.List.{get_or_default}
use Rattle.std.proofs.lemmas.List.Elements.{All-push}
use Rattle.std.proofs.lemmas.Result.{err_from_is_err_and}
use Rattle.cone_definitions.specs.Vectors.{ray_at}
use Rattle.cone_arithmetic.specs.Combinations.{IsReducedBy}
use Rattle.ray_steps.specs.declared.signs.Sign.TheVariants.{Zero}
use Rattle.ray_steps.specs.Faults.{IfLarge}
use Rattle.ray_steps.specs.Rays.{rays_of, AreOfWidth}
use Rattle.ray_steps.specs.Signs.{IsMadeUpTo}
use Rattle.ray_steps.specs.Steps.{StepData, AreMadeTo, IsAdjacentIfAdmissible, IsFirstLargeOf}
use Rattle.ray_steps.proofs.LargeLemmas.{first_large, reduced_width}
use Rattle.ray_steps.proofs.RayLemmas.{ray_read, ray_width, rays_of-push}
use Rattle.ray_steps.proofs.CombinationLemmas.{made_skip, made_push}
use Rattle.ray_steps.proofs.PairLemmas.{the_pair, no_pair}
use Rattle.ray_steps.proofs.RivalLemmas.{clash_read}
use Rattle.ray_steps.proofs.ViewLemmas.{place_of_rays}
use Rattle.ray_steps.proofs.found.FoundPair.combine.Goals as goal
use Rattle.ray_steps.proofs.found.FoundPair.combine.Goals.{then-allows+in_ok-kept+in_ok-push, else-allows}

pub returns-in_default : goal.returns-in_default
returns-in_default g c =
    let s = c.step.inside in
    let signs = s.signs.items in
    let i = c.args.self.now.i in
    let j = c.args.self.now.j in
    let made = c.args.made.now.items in
    let i_in = place_of_rays s.ray_list.items c.args.self.now.step.now.rays i (ap (λ (d : StepData). d.rays) c.step.view_is) c.args.self.now.first in
    let within = subst (λ n. i < n) (sym c.step.invariant.count) i_in in
    let before = subst (λ (d : StepData). AreMadeTo d i j made) (sym c.step.view_is) c.requires.made in
    record {
      ok = subst (λ (d : StepData). AreMadeTo d i (j + 1) made) c.step.view_is (record {
        so_far = made_skip s.limit.number s.clashes.now.pairs (rays_of s.ray_list.items) signs i j (rays_of made) before.so_far
            (λ p. c.in_default.not-Positive p.at_u (c.index.ensures ∙ get_or_default signs i c.index.result.now Zero within ∙ p.positive));
        widths = before.widths;
      });
      err = tt;
    }

pub returns-in_default-index : goal.returns-in_default-index
returns-in_default-index g c =
    let s = c.step.inside in
    let signs = s.signs.items in
    let i = c.args.self.now.i in
    let j = c.args.self.now.j in
    let made = c.args.made.now.items in
    let j_in = place_of_rays s.ray_list.items c.args.self.now.step.now.rays j (ap (λ (d : StepData). d.rays) c.step.view_is) c.args.self.now.second in
    let within = subst (λ n. j < n) (sym c.step.invariant.count) j_in in
    let before = subst (λ (d : StepData). AreMadeTo d i j made) (sym c.step.view_is) c.requires.made in
    record {
      ok = subst (λ (d : StepData). AreMadeTo d i (j + 1) made) c.step.view_is (record {
        so_far = made_skip s.limit.number s.clashes.now.pairs (rays_of s.ray_list.items) signs i j (rays_of made) before.so_far
            (λ p. c.in_default-index.not-Negative p.at_w (c.index-2.ensures ∙ get_or_default signs j c.index-2.result.now Zero within ∙ p.negative));
        widths = before.widths;
      });
      err = tt;
    }

pub returns-in_err-kept-clause-err : goal.returns-in_err-kept-clause-err
returns-in_err-kept-clause-err g c =
    let s = c.step.inside in
    let ray_list = s.ray_list.items in
    let rays = rays_of ray_list in
    let signs = s.signs.items in
    let pairs = s.clashes.now.pairs in
    let facts = c.step.invariant in
    let i = c.args.self.now.i in
    let j = c.args.self.now.j in
    let made = c.args.made.now.items in
    let a = c.index-u.result.now in
    let b = c.index-w.result.now in
    let same = ap (λ (d : StepData). d.rays) c.step.view_is in
    let i_in = place_of_rays ray_list c.args.self.now.step.now.rays i same c.args.self.now.first in
    let j_in = place_of_rays ray_list c.args.self.now.step.now.rays j same c.args.self.now.second in
    let i_signed = subst (λ n. i < n) (sym facts.count) i_in in
    let j_signed = subst (λ n. j < n) (sym facts.count) j_in in
    let u = ray_read ray_list i a i_in c.index-u.ensures in
    let w = ray_read ray_list j b j_in c.index-w.ensures in
    let before = subst (λ (d : StepData). AreMadeTo d i j made) (sym c.step.view_is) c.requires.made in
    let face = (subst (λ (d : StepData). IsAdjacentIfAdmissible d i j) (sym c.step.view_is) c.requires.face) ((clash_read pairs a b (ray_at rays i) (ray_at rays j) u w).0 (c.allows.ensures.0 c.if-allows.true)) in
    let p = err_from_is_err_and c.from_residual.result c.from_residual.ensures.1 in
    rw (p.1, p.2) (subst (λ (d : StepData). IfLarge (IsFirstLargeOf d) c.in_err-kept.field-0.0) c.step.view_is
    (first_large s.limit.number pairs rays signs i j (rays_of made) before.so_far
    (the_pair pairs ray_list signs i j c.in-Positive.at_u c.in-Negative.at_w facts.count i_in j_signed
    (sym (c.index.ensures ∙ get_or_default signs i c.index.result.now Zero i_signed) ∙ c.in-Positive.is)
    (sym (c.index-2.ensures ∙ get_or_default signs j c.index-2.result.now Zero j_signed) ∙ c.in-Negative.is) face)
    a.ray b.ray u w c.in_err-kept.field-0.0 c.in_err-kept.ensures.err))

pub returns-clause-ok : goal.returns-clause-ok
returns-clause-ok g c =
    let s = c.step.inside in
    let ray_list = s.ray_list.items in
    let rays = rays_of ray_list in
    let signs = s.signs.items in
    let pairs = s.clashes.now.pairs in
    let columns = s.clashes.now.columns in
    let facts = c.step.invariant in
    let i = c.args.self.now.i in
    let j = c.args.self.now.j in
    let made = c.args.made.now.items in
    let a = c.index-u.result.now in
    let b = c.index-w.result.now in
    let same = ap (λ (d : StepData). d.rays) c.step.view_is in
    let i_in = place_of_rays ray_list c.args.self.now.step.now.rays i same c.args.self.now.first in
    let j_in = place_of_rays ray_list c.args.self.now.step.now.rays j same c.args.self.now.second in
    let i_signed = subst (λ n. i < n) (sym facts.count) i_in in
    let j_signed = subst (λ n. j < n) (sym facts.count) j_in in
    let u = ray_read ray_list i a i_in c.index-u.ensures in
    let w = ray_read ray_list j b j_in c.index-w.ensures in
    let read = clash_read pairs a b (ray_at rays i) (ray_at rays j) u w in
    let before = subst (λ (d : StepData). AreMadeTo d i j made) (sym c.step.view_is) c.requires.made in
    subst (λ (d : StepData). AreMadeTo d i (j + 1) c.if-allows.made.items) c.step.view_is (elim c.if-allows.branch [
      | then-allows+in_ok-kept+in_ok-push w' ↦
          let kept = w'.in_ok-kept.kept in
          let face = (subst (λ (d : StepData). IsAdjacentIfAdmissible d i j) (sym c.step.view_is) c.requires.face) (read.0 (c.allows.ensures.0 w'.if-allows.true)) in
          let p = the_pair pairs ray_list signs i j c.in-Positive.at_u c.in-Negative.at_w facts.count i_in j_signed
          (sym (c.index.ensures ∙ get_or_default signs i c.index.result.now Zero i_signed) ∙ c.in-Positive.is)
          (sym (c.index-2.ensures ∙ get_or_default signs j c.index-2.result.now Zero j_signed) ∙ c.in-Negative.is) face in
          let e = ap (λ v. v.items) w'.made-is ∙ w'.in_ok-push.ensures.items in
          let reduced = subst₂ (λ x y. IsReducedBy s.limit.number c.in-Positive.at_u c.in-Negative.at_w x y kept.ray) (sym u) (sym w) w'.in_ok-kept.ensures.ok in
          record {
            so_far = subst (IsMadeUpTo s.limit.number pairs rays signs i (j + 1)) (sym (ap rays_of e ∙ rays_of-push made kept))
                (made_push s.limit.number pairs rays signs i j (rays_of made) kept.ray before.so_far p reduced);
            widths = subst (AreOfWidth columns) (sym e)
                (All-push (λ kept. length kept.ray ≡ columns) made kept before.widths
                (reduced_width s.limit.number c.in-Positive.at_u c.in-Negative.at_w (ray_at rays i) (ray_at rays j) kept.ray reduced
                (ray_width ray_list i columns i_in facts.rays.widths ∙ sym (ray_width ray_list j columns j_in facts.rays.widths))
                ∙ ray_width ray_list j columns j_in facts.rays.widths));
          }
      | else-allows w' ↦
          let e = ap (λ v. v.items) w'.made-is in
          record {
            so_far = subst (λ xs. IsMadeUpTo s.limit.number pairs rays signs i (j + 1) (rays_of xs)) (sym e)
                (made_skip s.limit.number pairs rays signs i j (rays_of made) before.so_far
                (no_pair pairs rays signs i j (λ face. false≢true (sym w'.if-allows.false ∙ c.allows.ensures.1 (read.1 face.no_clash)))));
            widths = subst (AreOfWidth columns) (sym e) before.widths;
          }
    ])
