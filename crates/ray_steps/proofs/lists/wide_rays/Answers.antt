-- One more ray, and at the end none is left.
use Rattle.std.proofs.Common.{◌≡◌, ℕ, ◌++◌, ◌∷◌, [], List, length, sym, ap, ap₂, ◌∙◌, append_assoc, append-nil, arith}
use Rattle.std.specs.Vec.Iter.{into_iter_items}
use Rattle.std.proofs.lemmas.List.{nil_from_length}
use Rattle.ray_steps.proofs.lists.wide_rays.Goals as goal

one_more : (so_far rays made : List (List ℕ)) (packed ray : List ℕ) → made ≡ rays ++ ray ∷ [] → rays ≡ so_far → ray ≡ packed → made ≡ so_far ++ packed ∷ []
one_more so_far rays made packed ray pushed are is = pushed ∙ ap₂ (λ xs x. xs ++ x ∷ []) are is

pub loop-packed-preserved : goal.loop-packed-preserved
loop-packed-preserved c =
    let at = c.loop-packed in
    let packed = c.in-Some.packed in
    let steps : into_iter_items at.packed-iterator ≡ packed ∷ into_iter_items c.next.new.self = c.in-Some.ensures.steps.0 in
    record {
      made = one_more at.yielded at.rays.items c.push.new.self.items packed c.in_ok-ray.ray c.in_ok-push.ensures.items at.invariant.made c.in_ok-ray.ensures;
      in_order = append_assoc at.yielded (packed ∷ []) _ ∙ rw (← steps) at.invariant.in_order;
      count = let was = at.invariant.count in let gone = c.in-Some.ensures.steps.1 in let short = ap length steps in omega arith;
    }

pub returns : goal.returns
returns c =
    let at = c.loop-packed in
    let none = c.in-None.ensures.steps in
    let empty : into_iter_items at.packed-iterator ≡ [] = nil_from_length _ (sym at.invariant.count ∙ none.0) in
    let all = sym (append-nil at.yielded) ∙ rw empty at at.invariant.in_order ∙ c.into_iter-packed-iterator.ensures.into_iter_gives.0 in
    at.invariant.made ∙ all
