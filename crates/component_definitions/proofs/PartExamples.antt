-- Parts and component signatures, computed.
use Rattle.std.proofs.Common.{◌≡◌, List, [], ◌∷◌, map, refl, true}
use Rattle.std.specs.Prelude.{codes}
use Rattle.table_definitions.specs.Lists.{is_list_before}
use Rattle.table_definitions.specs.Table.{Row}
use Rattle.table_definitions.proofs.Tables.{by, free, row, sphere, figure_eight}
use Rattle.skeleton_definitions.proofs.Computed.{computed}
use Rattle.signature_definitions.proofs.Computed.{computed as signature_computed}
use Rattle.signature_definitions.specs.Spelling.{spelling}
use Rattle.component_definitions.specs.Parts.{Part}
use Rattle.component_definitions.specs.ComponentSignature.{component_text}
use Rattle.component_definitions.proofs.Evaluators.{parts_of}

abbrev alone : Row
alone = row free free free free

-- `- - - -` and the standard sphere: 1:1023 1:1023 1:1230 1:3012
abbrev ball_and_sphere : List Row
ball_and_sphere = alone ∷ row (by 1 6) (by 1 6) (by 1 9) (by 1 18) ∷ []

-- the figure eight in tetrahedra 0 and 2, and a ball between them
abbrev mixed : List Row
mixed = row (by 2 0) (by 2 8) (by 2 7) (by 2 19) ∷ alone ∷ row (by 0 0) (by 0 11) (by 0 12) (by 0 7) ∷ []

parts : (parts_of [] ≡ [])
    × (parts_of (alone ∷ alone ∷ []) ≡ record { rows = alone ∷ []; numbers = 0 ∷ [] } ∷ record { rows = alone ∷ []; numbers = 1 ∷ [] } ∷ [])
    × (parts_of ball_and_sphere ≡ record { rows = alone ∷ []; numbers = 0 ∷ [] } ∷ record { rows = sphere; numbers = 1 ∷ [] } ∷ [])
    × (parts_of mixed ≡ record { rows = figure_eight; numbers = 0 ∷ 2 ∷ [] } ∷ record { rows = alone ∷ []; numbers = 1 ∷ [] } ∷ [])
unfolding computed
parts = (refl, refl, refl, refl)

-- the texts of the parts, joined
texts : (component_text [] ≡ codes "a")
    × (component_text (map (λ (part : Part). spelling part.rows) (parts_of (alone ∷ alone ∷ []))) ≡ codes "baa.baa")
    × (component_text (map (λ (part : Part). spelling part.rows) (parts_of sphere)) ≡ codes "bkaagj")
unfolding computed signature_computed
texts = (refl, refl, refl)

-- in ascending order they are baa.cPcbbbiht
in_order : (map (λ (part : Part). spelling part.rows) (parts_of mixed) ≡ codes "cPcbbbiht" ∷ codes "baa" ∷ [])
    × (is_list_before (codes "baa") (codes "cPcbbbiht") ≡ true)
    × (component_text (codes "baa" ∷ codes "cPcbbbiht" ∷ []) ≡ codes "baa.cPcbbbiht")
unfolding computed signature_computed
in_order = (refl, refl, refl)
