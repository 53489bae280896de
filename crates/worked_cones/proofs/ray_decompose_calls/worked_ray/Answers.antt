-- The entries were compared.
use Rattle.std.proofs.Common.{◌≡◌, Bool, true, false, refl, sym, ◌∙◌}
use Rattle.std.specs.Prelude.{not}
use Rattle.std.specs.Cmp.Lexicographic.{same_text}
use Rattle.worked_cones.proofs.ray_decompose_calls.worked_ray.Goals as goal

unnot : (b : Bool) → false ≡ not b → true ≡ b
unnot true e = refl
unnot false e = sym e

pub returns : goal.returns
returns c = sym c.entries.ensures.entries ∙ same_text c.entries.result.now c.args.entries.now (unnot _ (sym c.if-ne.false ∙ c.ne.ensures))
