-- Steps from corner to corner cross glued faces.
use Rattle.std.proofs.Common.{◌≡◌, List, Option, Some, None, refl}
use Rattle.std.specs.Prelude.{option_map}
use Rattle.table_definitions.specs.Table.{Gluing, Row, glue}
use Rattle.skeleton_definitions.specs.Corners.{Corner, corner_across, step, left_through}

-- the face through which the walk leaves a corner is glued
pub record LeadsOn (rows : List Row) (k : Corner) : Type 0 where
  pub g : Gluing
  pub glued : glue rows (left_through k) ≡ Some g

-- a step crosses a glued face
pub record IsStep (rows : List Row) (k l : Corner) : Type 0 where
  pub on : LeadsOn rows k
  pub is : corner_across k on.g ≡ l

pub step_is : (rows : List Row) (k l : Corner) → step rows k ≡ Some l → IsStep rows k l
step_is rows k l e = by_glue (glue rows (left_through k)) refl e
  where
    by_glue : (o : Option Gluing) → glue rows (left_through k) ≡ o → option_map (corner_across k) o ≡ Some l → IsStep rows k l
    by_glue None h f = absurd cc
    by_glue (Some g) h f = record { on = record { g = g; glued = h }; is = (let same : corner_across k g ≡ l = cc in same) }
