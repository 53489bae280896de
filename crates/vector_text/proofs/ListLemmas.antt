-- A vector's line, piece by piece.
use Rattle.std.proofs.Common.{◌≡◌, ℕ, List, [], ◌∷◌, ◌++◌, ap, sym, ◌∙◌, append_assoc}
use Rattle.std.specs.Prelude.{codes}
use Rattle.cone_text_definitions.specs.VectorText.{vector_text, entries_text}
use Rattle.cone_text_definitions.proofs.VectorLines.{spaced_entries}

-- the word, the entries and the line's end are the line
pub vector_line : (old named entries : List ℕ) (x : List ℕ) → named ≡ old ++ codes "vec" → entries ≡ named ++ entries_text x →
    entries ++ 10 ∷ [] ≡ old ++ vector_text x
vector_line old named entries x named_is entries_are =
    ap (λ v. v ++ 10 ∷ []) (entries_are ∙ ap (λ v. v ++ entries_text x) named_is ∙ append_assoc old (codes "vec") (entries_text x)) ∙
    append_assoc old (codes "vec" ++ entries_text x) (10 ∷ []) ∙ ap (λ v. old ++ v) (sym (spaced_entries (codes "vec") x))
