-- The Euler characteristics of the components of a surface.
use Rattle.std.specs.Prelude.{◌≡◌, ℕ, ℤ, pos, ◌+ℤ◌, List, [], ◌∷◌, map}
use Rattle.std.specs.List.{AllZip}
use Rattle.skeleton_definitions.specs.Skeleton.{Skeleton}
use Rattle.surface_definitions.specs.declared.Coords.{Coords}
use Rattle.surface_vector_definitions.specs.Components.{Component, AreListedComponents}
use Rattle.surface_vector_definitions.specs.Properties.{AreProperties}
use Rattle.surface_vector_definitions.specs.declared.Properties.{Properties}

abbrev pub integer_sum : List ℤ → ℤ
integer_sum [] = pos 0
integer_sum (z ∷ zs) = z +ℤ integer_sum zs

-- the properties of each component
abbrev pub ArePropertiesOfEach : Skeleton → Coords → List Component → List Properties → Type 0
ArePropertiesOfEach s coords listed parts = AllZip (λ (c : Component) (p : Properties). AreProperties s coords c.vector p) listed parts

-- the Euler characteristics of the components add up to that of the vector
abbrev pub ComponentCharacteristicsAddUp : Type 0
ComponentCharacteristicsAddUp =
    (s : Skeleton) (coords : Coords) (xs : List ℕ) (listed : List Component) (whole : Properties) (parts : List Properties)
    → AreListedComponents s.rows coords xs listed → AreProperties s coords xs whole → ArePropertiesOfEach s coords listed parts
    → integer_sum (map (λ (p : Properties). p.euler) parts) ≡ whole.euler
