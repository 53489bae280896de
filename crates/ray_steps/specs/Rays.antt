-- Rays with their supports, and the rays alone.
use Rattle.std.specs.Prelude.{◌≡◌, ℕ, List, map, length}
use Rattle.std.specs.List.{All}
use Rattle.ray_steps.specs.declared.rays.RayWithSupport.{RayWithSupport}

-- the rays without their supports
abbrev pub rays_of : List RayWithSupport → List (List ℕ)
rays_of ray_list = map (λ kept. kept.ray) ray_list

-- each ray has columns entries
abbrev pub AreOfWidth : ℕ → List RayWithSupport → Type 0
AreOfWidth columns ray_list = All (λ kept. length kept.ray ≡ columns) ray_list
