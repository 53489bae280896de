-- What is written for a move is one line, which is that move.
use Rattle.std.proofs.Common.{◌≡◌, ℕ, ◌+◌, ◌^◌, ◌<◌, Bool, true, false, List, [], ◌∷◌, ◌++◌, length, refl, sym, ap, ◌∙◌, subst, arith, append-nil}
use Rattle.std.specs.Prelude.{◌&&◌, nat_lt, filter, decimal}
use Rattle.std.specs.List.{AllByRecursion}
use Rattle.std.proofs.lemmas.Bool.{and_from, and_parts, ltb-true}
use Rattle.std.proofs.lemmas.Bool.Decides.{nat_tests}
use Rattle.text_definitions.specs.Text.{Line, is_word_byte, is_skipped, pieces, line_of, lines_from, lines_of}
use Rattle.text_definitions.proofs.Decimals.{decimal_value-decimal}
use Rattle.table_definitions.specs.Lists.{same_list, has}
use Rattle.table_definitions.specs.Permutation.{four}
use Rattle.table_definitions.proofs.WrittenWords.{IsText, behind_spaces, decimal_is_text}
use Rattle.table_definitions.proofs.WrittenLines.{written_line, line_words}
use Rattle.table_definitions.proofs.ListFacts.{same_list-true}
use Rattle.move_definitions.specs.Moves.{Move, IsCore}
use Rattle.move_definitions.specs.MoveText.{core_words, move_text}
use Rattle.move_definitions.specs.Grammar.{IsCoreText, one_four, two_three, three_two, four_one, IsMoveLine}
use Rattle.move_definitions.specs.TextLaws.{WrittenMovesAreRead}
use Rattle.move_definitions.proofs.CoreTests.{subset}

-- the words of a core are digits
vertex_byte : (v : ℕ) → v < 4 → is_word_byte (48 + v) ≡ true
vertex_byte v l = grind (arith, nat_tests)

record AreWritten (kind : List ℕ) (words : List (List ℕ)) : Type 0 where
  text : IsText kind
  kept : is_skipped kind ≡ false
  texts : AllByRecursion IsText words

written : (kind : List ℕ) (words : List (List ℕ)) (core : List ℕ) → IsCoreText kind words core → AreWritten kind words
written _ _ _ one_four = record { text = record { bytes = refl; some = omega arith }; kept = refl; texts = tt }
written _ _ _ (two_three f l) = record { text = record { bytes = refl; some = omega arith }; kept = refl; texts = (record { bytes = and_from (is_word_byte (48 + f)) true (vertex_byte f l) refl; some = omega arith }, tt) }
written _ _ _ (three_two a b l m) = record {
  text = record { bytes = refl; some = omega arith };
  kept = refl;
  texts = (record { bytes = and_from (is_word_byte (48 + a)) (is_word_byte (48 + b) && true) (vertex_byte a (omega arith)) (and_from (is_word_byte (48 + b)) true (vertex_byte b m) refl); some = omega arith }, tt);
}
written _ _ _ (four_one v l) = record { text = record { bytes = refl; some = omega arith }; kept = refl; texts = (record { bytes = and_from (is_word_byte (48 + v)) true (vertex_byte v l) refl; some = omega arith }, tt) }

-- the words that are written for a core spell it
abbrev IsSpelled : List ℕ → Type 0
IsSpelled core = IsCoreText (core_words (length core) core).0 (core_words (length core) core).1 core

subset_spelled : (a b c d : Bool) → 0 < length (subset a b c d) → IsSpelled (subset a b c d)
subset_spelled false false false false l = absurd (omega arith)
subset_spelled true false false false l = four_one 0 (omega arith)
subset_spelled false true false false l = four_one 1 (omega arith)
subset_spelled false false true false l = four_one 2 (omega arith)
subset_spelled false false false true l = four_one 3 (omega arith)
subset_spelled true true false false l = three_two 0 1 (omega arith) (omega arith)
subset_spelled true false true false l = three_two 0 2 (omega arith) (omega arith)
subset_spelled true false false true l = three_two 0 3 (omega arith) (omega arith)
subset_spelled false true true false l = three_two 1 2 (omega arith) (omega arith)
subset_spelled false true false true l = three_two 1 3 (omega arith) (omega arith)
subset_spelled false false true true l = three_two 2 3 (omega arith) (omega arith)
subset_spelled false true true true l = two_three 0 (omega arith)
subset_spelled true false true true l = two_three 1 (omega arith)
subset_spelled true true false true l = two_three 2 (omega arith)
subset_spelled true true true false l = two_three 3 (omega arith)
subset_spelled true true true true l = one_four

core_spelled : (core : List ℕ) → IsCore core → IsSpelled core
core_spelled core h =
    let parts : (nat_lt 0 (length core) ≡ true) × (same_list (filter (has core) four) core ≡ true) = and_parts (nat_lt 0 (length core)) (same_list (filter (has core) four) core) h in
    let same : subset (has core 0) (has core 1) (has core 2) (has core 3) ≡ core = same_list-true (filter (has core) four) core parts.1 in
    let some : 0 < length (subset (has core 0) (has core 1) (has core 2) (has core 3)) = subst (λ (vs : List ℕ). 0 < length vs) (sym same) (ltb-true 0 (length core) parts.0) in
    subst (λ (vs : List ℕ). IsSpelled vs) same (subset_spelled (has core 0) (has core 1) (has core 2) (has core 3) some)

-- what is written for a move is one line, which is the move
pub move_line : (n : ℕ) (m : Move) (rest : List ℕ) → m.tet < 2 ^ 32 → IsCore m.core → (line : Line) × (lines_from n (pieces (move_text m ++ rest)) ≡ line ∷ lines_from (n + 1) (pieces rest)) × IsMoveLine line m
unfolding move_text
move_line n m rest low h =
    let kind : List ℕ = (core_words (length m.core) m.core).0 in
    let core : List (List ℕ) = (core_words (length m.core) m.core).1 in
    let text : IsCoreText kind core m.core = core_spelled m.core h in
    let words : AreWritten kind core = written kind core m.core text in
    let all : AllByRecursion IsText (decimal m.tet ∷ core) = (decimal_is_text m.tet (omega arith), words.texts) in (
      line_of n (kind ++ behind_spaces (decimal m.tet ∷ core)),
      written_line n kind (decimal m.tet ∷ core) rest words.text all words.kept,
      record {
        kind = kind;
        tet = decimal m.tet;
        core = core;
        are_words = line_words n kind (decimal m.tet ∷ core) words.text all;
        number = record { value = decimal_value-decimal m.tet (omega arith); up_to = omega arith };
        core_text = text;
      },
    )

pub written_read : WrittenMovesAreRead
unfolding lines_from
written_read m low h =
    let one : (line : Line) × (lines_from 1 (pieces (move_text m ++ [])) ≡ line ∷ lines_from 2 (pieces [])) × IsMoveLine line m = move_line 1 m [] low h in
    (one.0, ap (λ (bytes : List ℕ). lines_of bytes) (sym (append-nil (move_text m))) ∙ one.1, one.2)
