-- The stored texts.
use Rattle.std.specs.Prelude.{ℕ, List, map, Vec}
use Rattle.std.specs.declared.alloc.Global.{Global}

-- the bytes of each text
abbrev pub texts_of : List (Vec ℕ Global) → List (List ℕ)
texts_of texts = map (λ (text : Vec ℕ Global). text.items) texts
