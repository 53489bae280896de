-- Vectors that were read, as the definitions see them.
use Rattle.std.specs.Prelude.{ℕ, List, Vec}
use Rattle.std.specs.declared.alloc.Global.{Global}
pub use Rattle.surface_vector_definitions.specs.Entries.{all_entries}

abbrev pub entries_of : Vec (Vec ℕ Global) Global → List (List ℕ)
entries_of vectors = all_entries vectors.items
