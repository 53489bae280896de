-- Lines that are written in several pieces.
use Rattle.std.proofs.Common.{◌≡◌, ℕ, List, [], ◌∷◌, ◌++◌, sym, ap, ◌∙◌, append_assoc}
use Rattle.std.specs.Prelude.{decimal, codes}
use Rattle.cone_text_definitions.specs.VectorText.{entries_text}
use Rattle.cone_text_definitions.proofs.VectorLines.{spaced_entries}
use Rattle.sum_definitions.specs.Sums.{Term}
use Rattle.text_document_definitions.specs.Blocks.{term_text}

-- three pieces, or five, after a text
pub three_pieces : (t a b c : List ℕ) → ((t ++ a) ++ b) ++ c ≡ t ++ ((a ++ b) ++ c)
three_pieces t a b c = ap (λ (s : List ℕ). s ++ c) (append_assoc t a b) ∙ append_assoc t (a ++ b) c

pub five_pieces : (t a b c d e : List ℕ) → ((((t ++ a) ++ b) ++ c) ++ d) ++ e ≡ t ++ ((((a ++ b) ++ c) ++ d) ++ e)
five_pieces t a b c d e =
    ap (λ (s : List ℕ). (s ++ d) ++ e) (three_pieces t a b c) ∙ three_pieces t ((a ++ b) ++ c) d e

-- the line of a term
pub term_line : (term : Term) → term_text term ≡ codes "term " ++ ((decimal term.count ++ entries_text term.vector) ++ 10 ∷ [])
term_line term = ap (λ (v : List ℕ). codes "term " ++ v) (spaced_entries (decimal term.count) term.vector)

pub term_appended : (old : List ℕ) (term : Term) → (((old ++ codes "term ") ++ decimal term.count) ++ entries_text term.vector) ++ 10 ∷ [] ≡ old ++ term_text term
term_appended old term =
    ap (λ (s : List ℕ). s ++ 10 ∷ []) (three_pieces old (codes "term ") (decimal term.count) (entries_text term.vector))
    ∙ append_assoc old ((codes "term " ++ decimal term.count) ++ entries_text term.vector) (10 ∷ [])
    ∙ ap (λ (s : List ℕ). old ++ s) (sym (term_line term))
