-- Vectors as code holds them, and as the definitions see them.
use Rattle.std.specs.Prelude.{ℕ, List, map, Vec}
use Rattle.std.specs.declared.alloc.Global.{Global}

-- the entries of each vector
abbrev pub all_entries : List (Vec ℕ Global) → List (List ℕ)
all_entries vectors = map (λ (v : Vec ℕ Global). v.items) vectors
