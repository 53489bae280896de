use Rattle.std.proofs.Common.{◌≡◌, length, get_or, subst, sym, ap, ◌∙◌, refl, arith, rules}
use Rattle.std.proofs.lemmas.List.{take_all}
use Rattle.ray_steps.specs.Rays.{rays_of}
use Rattle.ray_steps.specs.Signs.{IsMadeUpTo, IsNextFrom}
use Rattle.ray_steps.specs.Appended.{AppendsIfZero}
use Rattle.ray_steps.specs.declared.signs.Sign.TheVariants.{Zero}
use Rattle.ray_steps.proofs.RayLemmas.{length-rays_of, ray_at-rays_of, ray_width}
use Rattle.ray_steps.proofs.ZeroLemmas.{next_none, next_one, widths_one, popped}
use Rattle.ray_steps.proofs.zeros.keep_zeros.Goals as goal

pub loop-kept-init : goal.loop-kept-init
loop-kept-init c = record {
  left = sym (take_all (length c.args.ray_list.items) c.args.ray_list.items (omega arith));
  limited = omega arith;
  keeps = λ limit pairs made.
      let n = length-rays_of c.args.ray_list.items in
      subst (λ m. IsNextFrom limit pairs (rays_of c.args.ray_list.items) c.args.signs.now m (rays_of c.args.next.now.items)) n
      (next_none limit pairs (rays_of c.args.ray_list.items) c.args.signs.now (rays_of c.args.next.now.items)
      (subst (λ m. IsMadeUpTo limit pairs (rays_of c.args.ray_list.items) c.args.signs.now m 0 (rays_of c.args.next.now.items)) (sym n) made));
  widths = λ columns own others. others;
}

pub loop-kept-preserved : goal.loop-kept-preserved
loop-kept-preserved c =
    let xs = c.args.ray_list.items in
    let signs = c.args.signs.now in
    let kept = c.in-Some.kept in
    let p = popped xs c.loop-kept.ray_list.items c.pop.new.self.items kept c.loop-kept.invariant.left c.loop-kept.invariant.limited c.in-Some.ensures.items in
    let m = length c.pop.new.self.items in
    let n = length-rays_of xs in
    let read = ray_at-rays_of xs m kept p.limited ∙ ap (λ k. k.ray) p.at in
    let appends = subst (λ k. AppendsIfZero (get_or signs k Zero) kept c.loop-kept.next.items c.keep_if_zero.new.next.items) (let e : c.len.result ≡ m = search rules in e) c.in_ok-keep_if_zero.ensures.ok in
    record {
      left = p.left;
      limited = omega (arith, p.limited);
      keeps = λ limit pairs made.
          next_one limit pairs (rays_of xs) signs m (get_or signs m Zero) kept c.loop-kept.next.items c.keep_if_zero.new.next.items
          (omega (arith, p.limited)) refl (sym read) appends
          (subst (λ k. IsNextFrom limit pairs (rays_of xs) signs k (rays_of c.loop-kept.next.items)) p.count (c.loop-kept.invariant.keeps limit pairs made));
      widths = λ columns own others.
          widths_one columns (get_or signs m Zero) kept c.loop-kept.next.items c.keep_if_zero.new.next.items appends
          (ap length (sym read) ∙ ray_width xs m columns p.limited own) (c.loop-kept.invariant.widths columns own others);
    }

pub returns-clause-keeps : goal.returns-clause-keeps
returns-clause-keeps c limit pairs made =
    let a = c.in_default.ensures.variant in
    let b = c.in_default.ensures.len in
    subst (λ k. IsNextFrom limit pairs (rays_of c.args.ray_list.items) c.args.signs.now k (rays_of c.loop-kept.next.items)) (let e : length c.loop-kept.ray_list.items ≡ 0 = search rules in e)
    (c.loop-kept.invariant.keeps limit pairs made)
