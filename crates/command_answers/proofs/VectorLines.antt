-- Vectors, line by line.
use Rattle.std.proofs.Common.{◌≡◌, ℕ, List, [], ◌∷◌, ◌++◌, Result, Vec, map}
use Rattle.std.specs.declared.alloc.Global.{Global}
use Rattle.std.proofs.lemmas.List.{map-append}
use Rattle.cone_text_definitions.specs.VectorText.{vector_at}
use Rattle.text_definitions.specs.declared.LexFault.{LexFault}
use Rattle.text_definitions.specs.Reading.{Reading}
use Rattle.text_document_definitions.specs.Documents.{each_line_from}
use Rattle.text_document_definitions.proofs.EachLine.{with_fronts}

-- a further vector
pub entries_push : (before now : List (Vec ℕ Global)) (v : Vec ℕ Global) (d : Reading) (whole : Result (List (List ℕ) × Reading) LexFault)
    → now ≡ before ++ v ∷ []
    → with_fronts (map (λ (w : Vec ℕ Global). w.items) before ++ v.items ∷ []) (each_line_from vector_at d.later d) ≡ whole
    → with_fronts (map (λ (w : Vec ℕ Global). w.items) now) (each_line_from vector_at d.later d) ≡ whole
entries_push before now v d whole same h =
    rw same (rw (map-append (λ (w : Vec ℕ Global). w.items) before (v ∷ [])) h)
