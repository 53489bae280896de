-- The step of a negated row, and rays that are 0 in a column.
use Rattle.std.proofs.Common.{◌≡◌, ℕ, ◌<◌, List, length, get_or, slice_index, subst, sym, ap, ◌∙◌}
use Rattle.std.specs.List.{All}
use Rattle.cone_definitions.specs.Rows.{Row}
use Rattle.cone_definitions.specs.Vectors.{ray_at}
use Rattle.cone_row_laws.specs.Operations.{negated}
use Rattle.ray_steps.specs.declared.rays.RayWithSupport.{RayWithSupport}
use Rattle.ray_steps.specs.Clashes.{ClashData}
use Rattle.ray_steps.specs.Rays.{rays_of}
use Rattle.ray_steps.specs.Steps.{StepData, IsStepOf, negated_step}
use Rattle.ray_steps.proofs.RayLemmas.{length-rays_of, ray_at-rays_of}
use Rattle.ray_steps.proofs.TurnedLemmas.{signs-negated}
use Rattle.lazy_columns.specs.Raised.{HasRoom}

pub turned_step_of : (limit : ℕ) (clashes : ClashData) (row : Row) (rays : List (List ℕ)) (step after : StepData) → IsStepOf limit clashes row rays step → after ≡ negated_step step →
    IsStepOf limit clashes (negated row) rays after
turned_step_of limit clashes row rays step after h is = subst (IsStepOf limit clashes (negated row) rays) (sym is) (record {
  columns = h.columns;
  pairs = h.pairs;
  rays_are = h.rays_are;
  limit_is = h.limit_is;
  signed = signs-negated limit rays step.signs row h.signed;
})

-- equal rays are 0 in the same column
pub room_of_rays : (column : ℕ) (ray_list others : List RayWithSupport) → rays_of ray_list ≡ rays_of others → All (HasRoom column) others → All (HasRoom column) ray_list
room_of_rays column ray_list others same h k d less =
    let within : k < length others = subst (λ n. k < n) (sym (length-rays_of ray_list) ∙ ap length same ∙ length-rays_of others) less in
    let is : (get_or ray_list k d).ray ≡ (get_or others k d).ray = sym (ray_at-rays_of ray_list k d less) ∙ ap (λ rays. ray_at rays k) same ∙ ray_at-rays_of others k d within in
    let room = h k d within in
    record {
      in_range = subst (λ x. column < length x) (sym is) room.in_range;
      gone = subst (λ x. slice_index x column ≡ 0) (sym is) room.gone;
    }
