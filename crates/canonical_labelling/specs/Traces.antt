-- Walks that are compared with the table to which they might lead.
use Rattle.std.specs.Prelude.{◌≡◌, ℕ, ◌<◌, List, length, Bool, true}
use Rattle.table_definitions.specs.Permutation.{IsPermutationOfFour}
use Rattle.table_definitions.specs.Table.{Gluing, Row}
use Rattle.table_definitions.specs.Relabelling.{Relabelling, IsRelabelling, relabelled_place, gluing_under}
use Rattle.signature_definitions.specs.Labellings.{Start, Relabels, IsWalked}
use Rattle.signature_laws.specs.Orders.{start_at, Numbers}

-- each start of the order begins at one of n tetrahedra
abbrev pub AreBelow : ℕ → List Start → Type 0
AreBelow n order = (i : ℕ) → i < length order → (start_at order i).tet < n

-- the order has a start at tetrahedron t
abbrev pub IsVisited : List Start → ℕ → Type 0
IsVisited order t = (i : ℕ) × (i < length order) × ((start_at order i).tet ≡ t)

-- a relabelling of n tetrahedra maps each start of the order to its index, and a gluing of the tetrahedron of from to
-- `expected`
pub record Becomes (n : ℕ) (order : List Start) (from : Start) (g expected : Gluing) (by : Relabelling) : Type 0 where
  pub in_range : g.tet < n
  pub from_permutes : IsPermutationOfFour from.perm
  pub permutes : IsPermutationOfFour g.perm
  pub bijection : IsRelabelling n by
  pub numbers : Numbers order by
  pub becomes : gluing_under (record { tet = 0; perm = from.perm }) (relabelled_place by g.tet) g ≡ expected

-- each relabelling that maps the gluing to `expected` agrees, and maps each start of the new order to its index
abbrev pub AgreesGlued : ℕ → List Start → List Start → Start → Gluing → Gluing → Bool → Type 0
AgreesGlued n order after from g expected agrees = (by : Relabelling) → Becomes n order from g expected by → (agrees ≡ true) × Numbers after by

-- each relabelling that carries the rows to the target, and maps each start of the order to its index, agrees, and maps
-- the new order so too
abbrev pub Agrees : List Row → List Row → List Start → List Start → Bool → Type 0
Agrees rows target order after agrees = (by : Relabelling) → Relabels rows target by → Numbers order by → (agrees ≡ true) × Numbers after by

-- no traversal of the table from the start results in the target
abbrev pub LeadsElsewhere : List Row → Start → List Row → Type 0
LeadsElsewhere rows start target = (by : Relabelling) → IsWalked rows start by target → ⊥
