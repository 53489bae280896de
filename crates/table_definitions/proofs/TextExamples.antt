-- Tokens, and the text of a table, computed.
use Rattle.table_definitions.proofs.Computed.{computed}
use Rattle.std.proofs.Common.{◌≡◌, ℕ, List, [], ◌∷◌, ◌++◌, Option, Some, refl}
use Rattle.std.specs.Prelude.{codes}
use Rattle.table_definitions.specs.Table.{Gluing, Row}
use Rattle.table_definitions.specs.TableText.{table_text}

glued : ℕ → List ℕ → Option Gluing
glued t p = Some (record { tet = t; perm = p })

-- the table `bkaagj`
sphere : List Row
sphere = (glued 0 (1 ∷ 0 ∷ 2 ∷ 3 ∷ []) ∷ glued 0 (1 ∷ 0 ∷ 2 ∷ 3 ∷ []) ∷ glued 0 (1 ∷ 2 ∷ 3 ∷ 0 ∷ []) ∷ glued 0 (3 ∷ 0 ∷ 1 ∷ 2 ∷ []) ∷ []) ∷ []

unfoldable pub sphere_text : List ℕ
sphere_text = codes "tri 1" ++ 10 ∷ codes "0:1023 0:1023 0:1230 0:3012" ++ 10 ∷ []

written : table_text sphere ≡ sphere_text
unfolding computed sphere glued sphere_text
written = refl
