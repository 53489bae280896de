-- The product of the weights of columns of which no two clash.
use Rattle.std.specs.Prelude.{ℕ, ◌*◌, ◌^◌, ◌<◌, ◌≤◌, ◌≢◌, List, All, Contains, slice_index, if◌then◌else◌}
use Rattle.cone_definitions.specs.Surfaces.{IsAdmissible}
use Rattle.surface_definitions.specs.Coordinates.{has_octagons, columns, clash_list}
use Rattle.surface_definitions.specs.declared.Coords.{Coords}
use Rattle.surface_equation_laws.specs.Entries.{IsOnce}
use Rattle.surface_equation_laws.specs.Weights.{weight_product}

-- the list contains no clashing pair of n tetrahedra
abbrev pub HaveNoClash : Coords → ℕ → List ℕ → Type 0
HaveNoClash coords n cs = (pair : ℕ × ℕ) → Contains (clash_list coords n) pair → Contains cs pair.0 → Contains cs pair.1 → ⊥

-- 4 for each tetrahedron, and with octagons 2 once
abbrev pub product_bound : Coords → ℕ → ℕ
product_bound coords n = if has_octagons coords then 2 * 4 ^ n else 4 ^ n

abbrev pub ProductsAreSmall : Type 0
ProductsAreSmall =
    (coords : Coords) (n : ℕ) (cs : List ℕ) → All (λ c. c < columns coords n) cs → IsOnce cs → HaveNoClash coords n cs
    → weight_product coords cs ≤ product_bound coords n

-- columns at which an admissible vector is nonzero do not clash
abbrev pub SupportsHaveNoClash : Type 0
SupportsHaveNoClash =
    (coords : Coords) (n : ℕ) (x cs : List ℕ) → IsAdmissible (clash_list coords n) x → ((c : ℕ) → Contains cs c → slice_index x c ≢ 0) → HaveNoClash coords n cs
