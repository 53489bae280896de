-- The parts of a text that are numbers one after the other.
use Rattle.std.specs.Prelude.{ℕ, List, map}
use Rattle.table_definitions.specs.Permutation.{index}
use Rattle.table_definitions.specs.Table.{Gluing}
use Rattle.signature_definitions.specs.Spelling.{character, in_values, joined}

abbrev pub number_text : ℕ → ℕ → List ℕ
number_text w v = map character (in_values w v)

-- the tetrahedra across gluings
abbrev pub destinations_text : ℕ → List Gluing → List ℕ
destinations_text w gs = map character (joined (map (λ (g : Gluing). in_values w g.tet) gs))

-- the places of the permutations of gluings
abbrev pub indices_text : List Gluing → List ℕ
indices_text gs = map character (map (λ (g : Gluing). index g.perm) gs)
