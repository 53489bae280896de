-- One more ray, and at the end none is left.
use Rattle.std.proofs.Common.{◌≡◌, ℕ, ◌++◌, ◌∷◌, [], List, length, sym, ap, ◌∙◌, append_assoc, append-nil, arith}
use Rattle.std.specs.Vec.Iter.{into_iter_items}
use Rattle.std.proofs.lemmas.List.{nil_from_length}
use Rattle.ray_steps.specs.declared.rays.RayWithSupport.{RayWithSupport}
use Rattle.ray_steps.specs.Rays.{rays_of}
use Rattle.ray_steps.proofs.RayLemmas.{rays_of-push}
use Rattle.ray_steps.proofs.lists.without_supports.Goals as goal

one_more : (so_far : List RayWithSupport) (kept : RayWithSupport) (rays made : List (List ℕ)) → made ≡ rays ++ kept.ray ∷ [] → rays ≡ rays_of so_far → made ≡ rays_of (so_far ++ kept ∷ [])
one_more so_far kept rays made pushed are = pushed ∙ ap (λ xs. xs ++ kept.ray ∷ []) are ∙ sym (rays_of-push so_far kept)

pub loop-kept-preserved : goal.loop-kept-preserved
loop-kept-preserved c =
    let at = c.loop-kept in
    let kept = c.in-Some.kept in
    let steps : into_iter_items at.kept-iterator ≡ kept ∷ into_iter_items c.next.new.self = c.in-Some.ensures.steps.0 in
    record {
      made = one_more at.yielded kept at.rays.items c.push.new.self.items c.in_ok-push.ensures.items at.invariant.made;
      in_order = append_assoc at.yielded (kept ∷ []) _ ∙ rw (← steps) at.invariant.in_order;
      count = let was = at.invariant.count in let gone = c.in-Some.ensures.steps.1 in let short = ap length steps in omega arith;
    }

pub returns : goal.returns
returns c =
    let at = c.loop-kept in
    let none = c.in-None.ensures.steps in
    let empty : into_iter_items at.kept-iterator ≡ [] = nil_from_length _ (sym at.invariant.count ∙ none.0) in
    let all = sym (append-nil at.yielded) ∙ rw empty at at.invariant.in_order ∙ c.into_iter-kept-iterator.ensures.into_iter_gives.0 in
    at.invariant.made ∙ ap rays_of all
