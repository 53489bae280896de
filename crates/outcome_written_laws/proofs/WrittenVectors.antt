-- The text of a list of vectors has one line for each vector.
use Rattle.std.proofs.Common.{◌≡◌, ℕ, ◌+◌, ◌^◌, ◌<◌, ◌≤◌, List, [], ◌∷◌, ◌++◌, map, refl, sym, ap, ◌∙◌, subst, arith, append-nil}
use Rattle.std.specs.Prelude.{codes, decimal}
use Rattle.std.specs.List.{All, AllZip, AllByRecursion}
use Rattle.std.proofs.lemmas.List.Elements.{recursion_from_All}
use Rattle.text_definitions.specs.Text.{Line, pieces, line_of, lines_from, lines_of}
use Rattle.text_definitions.specs.Written.{limit}
use Rattle.table_definitions.specs.Grammar.{IsDecimalUpTo}
use Rattle.cone_text_definitions.specs.VectorText.{vector_text, list_text}
use Rattle.surface_definitions.specs.Grammar.{IsVectorLine}
use Rattle.outcome_definitions.specs.Enumerations.{AreUpTo}
use Rattle.text_definitions.proofs.Decimals.{decimal_value-decimal}
use Rattle.table_definitions.proofs.WrittenWords.{IsText, behind_spaces, decimal_is_text}
use Rattle.table_definitions.proofs.WrittenLines.{written_line, line_words, BeginsWith, each_line}

-- the entries of a vector
abbrev pub AreEntries : List ℕ → Type 0
AreEntries x = AllByRecursion (λ entry. entry ≤ limit) x

pub entry_small : (entry : ℕ) → entry ≤ limit → entry < 10 ^ 64
entry_small entry l = omega arith

pub entries_are_texts : (x : List ℕ) → AreEntries x → AllByRecursion IsText (map decimal x)
entries_are_texts [] h = tt
entries_are_texts (entry ∷ x) h = (decimal_is_text entry (entry_small entry h.0), entries_are_texts x h.1)

pub entries_are_numbers : (x : List ℕ) → AreEntries x → AllZip (IsDecimalUpTo limit) (map decimal x) x
entries_are_numbers [] h = tt
entries_are_numbers (entry ∷ x) h = (record { value = decimal_value-decimal entry (entry_small entry h.0); up_to = h.0 }, entries_are_numbers x h.1)

vec_is_text : IsText (codes "vec")
vec_is_text = record { bytes = refl; some = omega arith }

-- the text of a vector is one line, which spells the vector
pub vector_line : (n : ℕ) (x : List ℕ) (rest : List ℕ) → AreEntries x
    → (line : Line) × (lines_from n (pieces (vector_text x ++ rest)) ≡ line ∷ lines_from (n + 1) (pieces rest)) × IsVectorLine line x
vector_line n x rest h =
    let texts : AllByRecursion IsText (map decimal x) = entries_are_texts x h in (
      line_of n (codes "vec" ++ behind_spaces (map decimal x)),
      written_line n (codes "vec") (map decimal x) rest vec_is_text texts refl,
      record { ws = map decimal x; are_words = line_words n (codes "vec") (map decimal x) vec_is_text texts; entries = entries_are_numbers x h },
    )

within_limit : (list : List (List ℕ)) → AllByRecursion (λ (x : List ℕ). All (λ entry. entry ≤ limit) x) list → AllByRecursion AreEntries list
within_limit [] h = tt
within_limit (x ∷ list) h = (recursion_from_All (λ entry. entry ≤ limit) x h.0, within_limit list h.1)

-- the lines of a list begin with a line for each vector
pub vector_lines : (n : ℕ) (list : List (List ℕ)) (rest : List ℕ) → AreUpTo limit list → BeginsWith IsVectorLine n (list_text list ++ rest) list rest
vector_lines n list rest h =
    each_line IsVectorLine vector_text AreEntries vector_line n list rest (within_limit list (recursion_from_All (λ (x : List ℕ). All (λ entry. entry ≤ limit) x) list h))

-- the lines from line n on are those of the vectors
pub only_vectors : (n : ℕ) (list : List (List ℕ)) → AreUpTo limit list → AllZip IsVectorLine (lines_from n (pieces (list_text list))) list
unfolding lines_from
only_vectors n list h =
    let b : BeginsWith IsVectorLine n (list_text list ++ []) list [] = vector_lines n list [] h in
    let all : lines_from n (pieces (list_text list)) ≡ b.lines =
    ap (λ (bytes : List ℕ). lines_from n (pieces bytes)) (sym (append-nil (list_text list))) ∙ b.split ∙ append-nil b.lines in
    subst (λ (ls : List Line). AllZip IsVectorLine ls list) (sym all) b.are

pub written_vectors : (list : List (List ℕ)) → AreUpTo limit list → AllZip IsVectorLine (lines_of (list_text list)) list
written_vectors list h = only_vectors 1 list h
