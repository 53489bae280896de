use Rattle.std.proofs.Common.{◌≡◌, ℕ, zero, suc, [], ◌∷◌, arith}
use Rattle.ray_steps.specs.Clashes.{AreClashes}
use Rattle.worked_cones.proofs.double_description_calls.surfaces_are.Goals as goal

quads_clash : (columns : ℕ) → columns ≡ 7 → AreClashes columns ((4, 5) ∷ (4, 6) ∷ (5, 6) ∷ [])
quads_clash columns seven zero d less = (omega arith, omega arith, λ same. omega arith)
quads_clash columns seven (suc zero) d less = (omega arith, omega arith, λ same. omega arith)
quads_clash columns seven (suc (suc zero)) d less = (omega arith, omega arith, λ same. omega arith)
quads_clash columns seven (suc (suc (suc k))) d less = absurd (omega arith)

pub new-permit-requires-clause-decides : goal.new-permit-requires-clause-decides
new-permit-requires-clause-decides g c = record {
  callable = λ a b one other. (let p : _ ≡ 7 = other in omega arith, quads_clash _ one);
  decides = λ a b answer one other may. rw c.in_ok-from_slice.ensures.items may;
}
