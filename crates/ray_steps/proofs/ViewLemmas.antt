-- Properties of a step, from its value and from its fields.
use Rattle.std.proofs.Common.{◌≡◌, ℕ, ◌<◌, List, length, subst, sym, ap, ◌∙◌}
use Rattle.cone_definitions.specs.Rows.{Row}
use Rattle.ray_steps.specs.declared.rays.RayWithSupport.{RayWithSupport}
use Rattle.ray_steps.specs.declared.rays.StepFault.{StepFault}
use Rattle.ray_steps.specs.Faults.{IfLarge, IsFirstLargeSum}
use Rattle.ray_steps.specs.Rays.{rays_of}
use Rattle.ray_steps.specs.declared.negatives.Negatives.{Negatives}
use Rattle.ray_steps.specs.Negatives.{AreNegatives}
use Rattle.ray_steps.specs.Signs.{IsNextFrom}
use Rattle.ray_steps.proofs.RayLemmas.{length-rays_of}
use Rattle.ray_steps.specs.Clashes.{ClashData}
use Rattle.ray_steps.specs.Steps.{StepData, IsStepOf, IsFirstLargeOf}

pub place_of_rays : (ray_list : List RayWithSupport) (rays : List (List ℕ)) (i : ℕ) → rays_of ray_list ≡ rays → i < length rays → i < length ray_list
place_of_rays ray_list rays i same less = subst (λ n. i < n) (ap length (sym same) ∙ length-rays_of ray_list) less

pub place_in_rays : (ray_list : List RayWithSupport) (rays : List (List ℕ)) (i : ℕ) → rays_of ray_list ≡ rays → i < length ray_list → i < length rays
place_in_rays ray_list rays i same less = subst (λ n. i < n) (sym (length-rays_of ray_list) ∙ ap length same) less

-- the negative rays of a step
pub negatives_read : (a d : StepData) → a ≡ d → (negatives : Negatives) → AreNegatives d.rays d.signs d.columns negatives → AreNegatives a.rays a.signs a.columns negatives
negatives_read a d same negatives h = subst (λ (s : StepData). AreNegatives s.rays s.signs s.columns negatives) (sym same) h

-- the list after a step by a row from some rays
pub next_of_step : (limit : ℕ) (clashes : ClashData) (row : Row) (rays : List (List ℕ)) (step : StepData) (next : List (List ℕ)) → IsStepOf limit clashes row rays step →
    IsNextFrom step.limit step.pairs step.rays step.signs 0 next → IsNextFrom limit clashes.pairs rays step.signs 0 next
next_of_step limit clashes row rays step next h from =
    subst (λ n. IsNextFrom n clashes.pairs rays step.signs 0 next) h.limit_is
    (subst (λ ps. IsNextFrom step.limit ps rays step.signs 0 next) h.pairs
    (subst (λ rs. IsNextFrom step.limit step.pairs rs step.signs 0 next) h.rays_are from))

-- the refusal of a step
pub large_of_step : (limit : ℕ) (clashes : ClashData) (row : Row) (rays : List (List ℕ)) (step : StepData) (fault : StepFault) → IsStepOf limit clashes row rays step →
    IfLarge (IsFirstLargeOf step) fault → IfLarge (IsFirstLargeSum limit clashes.pairs rays step.signs) fault
large_of_step limit clashes row rays step fault h large =
    subst (λ n. IfLarge (IsFirstLargeSum n clashes.pairs rays step.signs) fault) h.limit_is
    (subst (λ ps. IfLarge (IsFirstLargeSum step.limit ps rays step.signs) fault) h.pairs
    (subst (λ rs. IfLarge (IsFirstLargeSum step.limit step.pairs rs step.signs) fault) h.rays_are large))
