use Rattle.std.proofs.Common.{◌≡◌, length, get_or, subst, sym, ap, ◌∙◌, refl, arith, rules}
use Rattle.std.proofs.lemmas.List.{take_all}
use Rattle.cone_arithmetic.specs.declared.numbers.TheConstants.{MAX_ENTRY}
use Rattle.ray_steps.specs.Rays.{rays_of}
use Rattle.ray_steps.specs.Signs.{IsMadeUpTo}
use Rattle.ray_steps.specs.declared.signs.Sign.TheVariants.{Zero}
use Rattle.ray_steps.proofs.RayLemmas.{length-rays_of, ray_at-rays_of}
use Rattle.ray_steps.proofs.ZeroLemmas.{popped}
use Rattle.lazy_columns.specs.Raised.{HasRoom, AppendsRaised, IsRaisedFrom}
use Rattle.lazy_columns.proofs.RaisedLists.{raised_none, raised_one}
use Rattle.lazy_columns.proofs.raising.raise_all.Goals as goal

pub loop-kept-init : goal.loop-kept-init
loop-kept-init c = record {
  left = sym (take_all (length c.args.ray_list.items) c.args.ray_list.items (omega arith));
  limited = omega arith;
  keeps = λ pairs made.
      let n = length-rays_of c.args.ray_list.items in
      subst (λ m. IsRaisedFrom MAX_ENTRY pairs (rays_of c.args.ray_list.items) c.args.signs.now c.args.column m (rays_of c.args.next.now.items)) n
      (raised_none MAX_ENTRY pairs (rays_of c.args.ray_list.items) c.args.signs.now c.args.column (rays_of c.args.next.now.items)
      (subst (λ m. IsMadeUpTo MAX_ENTRY pairs (rays_of c.args.ray_list.items) c.args.signs.now m 0 (rays_of c.args.next.now.items)) (sym n) made));
}

pub loop-kept-preserved : goal.loop-kept-preserved
loop-kept-preserved c =
    let xs = c.args.ray_list.items in
    let signs = c.args.signs.now in
    let kept = c.in-Some.kept in
    let p = popped xs c.loop-kept.ray_list.items c.pop.new.self.items kept c.loop-kept.invariant.left c.loop-kept.invariant.limited c.in-Some.ensures.items in
    let m = length c.pop.new.self.items in
    let n = length-rays_of xs in
    let read = ray_at-rays_of xs m kept p.limited ∙ ap (λ k. k.ray) p.at in
    let appends = subst (λ k. AppendsRaised c.args.column (get_or signs k Zero) kept c.loop-kept.next.items c.raise.new.next.items) (let e : c.len.result ≡ m = search rules in e) c.in_ok-raise.ensures in
    record {
      left = p.left;
      limited = omega (arith, p.limited);
      keeps = λ pairs made.
          raised_one MAX_ENTRY pairs (rays_of xs) signs c.args.column m (get_or signs m Zero) kept c.loop-kept.next.items c.raise.new.next.items
          (omega (arith, p.limited)) refl (sym read) (subst (HasRoom c.args.column) p.at (c.requires.room m kept p.limited)) (c.requires.bounded m Zero (omega (arith, p.limited, c.requires.count))) appends
          (subst (λ k. IsRaisedFrom MAX_ENTRY pairs (rays_of xs) signs c.args.column k (rays_of c.loop-kept.next.items)) p.count (c.loop-kept.invariant.keeps pairs made));
    }

pub returns : goal.returns
returns c pairs made =
    let a = c.in_default.ensures.variant in
    let b = c.in_default.ensures.len in
    subst (λ k. IsRaisedFrom MAX_ENTRY pairs (rays_of c.args.ray_list.items) c.args.signs.now c.args.column k (rays_of c.loop-kept.next.items)) (let e : length c.loop-kept.ray_list.items ≡ 0 = search rules in e)
    (c.loop-kept.invariant.keeps pairs made)
