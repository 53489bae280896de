-- The line of a vector, piece by piece.
use Rattle.std.proofs.Common.{◌≡◌, ℕ, List, [], ◌∷◌, ◌++◌, ap, sym, ◌∙◌, append_assoc, append-nil}
use Rattle.std.specs.Prelude.{map, decimal}
use Rattle.text_definitions.specs.Written.{spaced}
use Rattle.cone_text_definitions.specs.VectorText.{entries_text}

pub spaced_entries : (w x : List ℕ) → spaced (w ∷ map decimal x) ≡ (w ++ entries_text x) ++ 10 ∷ []
spaced_entries w [] = ap (λ (v : List ℕ). v ++ 10 ∷ []) (sym (append-nil w))
spaced_entries w (entry ∷ x) = ap (λ (v : List ℕ). w ++ 32 ∷ v) (spaced_entries (decimal entry) x) ∙ sym (append_assoc w (32 ∷ (decimal entry ++ entries_text x)) (10 ∷ []))
