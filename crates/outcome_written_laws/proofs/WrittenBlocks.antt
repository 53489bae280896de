-- The text of blocks of sums has the lines of the blocks.
use Rattle.std.proofs.Common.{◌≡◌, ℕ, ◌+◌, ◌^◌, ◌<◌, ◌≤◌, List, [], ◌∷◌, ◌++◌, length, map, refl, ap, ◌∙◌, arith, append_assoc}
use Rattle.std.specs.Prelude.{codes, decimal}
use Rattle.std.specs.List.{AllByRecursion, flat_map}
use Rattle.text_definitions.specs.Text.{Line, pieces, line_of, lines_from}
use Rattle.text_definitions.specs.Written.{limit}
use Rattle.cone_text_definitions.specs.VectorText.{vector_text}
use Rattle.sum_definitions.specs.Sums.{Term}
use Rattle.text_document_definitions.specs.Blocks.{Block, most_terms, IsTermLine, IsTimesLine, AreBlockLines, AreBlocks, term_text, times_text, block_text, blocks_text}
use Rattle.text_definitions.proofs.Decimals.{decimal_value-decimal}
use Rattle.table_definitions.proofs.WrittenWords.{IsText, behind_spaces, decimal_is_text}
use Rattle.table_definitions.proofs.WrittenLines.{written_line, line_words, BeginsWith, each_line}
use Rattle.outcome_written_laws.proofs.WrittenVectors.{AreEntries, entry_small, entries_are_texts, entries_are_numbers, vector_line}

-- terms and blocks that can be written
pub record FitsTerm (term : Term) : Type 0 where
  pub count : term.count ≤ limit
  pub entries : AreEntries term.vector

pub record FitsBlock (block : Block) : Type 0 where
  pub entries : AreEntries block.vector
  pub times : block.times ≤ limit
  pub limited : length block.terms ≤ most_terms
  pub terms : AllByRecursion FitsTerm block.terms

term_is_text : IsText (codes "term")
term_is_text = record { bytes = refl; some = omega arith }

times_is_text : IsText (codes "times")
times_is_text = record { bytes = refl; some = omega arith }

-- the text is one line, which has this form
abbrev BeginsLine : (Line → Type 0) → ℕ → List ℕ → List ℕ → Type 0
BeginsLine form n text rest = (line : Line) × (lines_from n (pieces (text ++ rest)) ≡ line ∷ lines_from (n + 1) (pieces rest)) × form line

term_line : (n : ℕ) (term : Term) (rest : List ℕ) → FitsTerm term
    → (line : Line) × (lines_from n (pieces (term_text term ++ rest)) ≡ line ∷ lines_from (n + 1) (pieces rest)) × IsTermLine line term
term_line n term rest h =
    let count : term.count < 10 ^ 64 = entry_small term.count h.count in
    let words : List (List ℕ) = decimal term.count ∷ map decimal term.vector in
    let texts : AllByRecursion IsText words = (decimal_is_text term.count count, entries_are_texts term.vector h.entries) in (
      line_of n (codes "term" ++ behind_spaces words),
      written_line n (codes "term") words rest term_is_text texts refl,
      record {
        k = decimal term.count;
        ws = map decimal term.vector;
        are_words = line_words n (codes "term") words term_is_text texts;
        count = record { value = decimal_value-decimal term.count count; up_to = h.count };
        entries = entries_are_numbers term.vector h.entries;
      },
    )

times_line : (n times many : ℕ) (rest : List ℕ) → times ≤ limit → many ≤ most_terms → BeginsLine (λ line. IsTimesLine line times many) n (times_text times many) rest
times_line n times many rest t m =
    let limited : many < 10 ^ 64 = omega arith in
    let words : List (List ℕ) = decimal times ∷ decimal many ∷ [] in
    let texts : AllByRecursion IsText words = (decimal_is_text times (entry_small times t), (decimal_is_text many limited, tt)) in (
      line_of n (codes "times" ++ behind_spaces words),
      written_line n (codes "times") words rest times_is_text texts refl,
      record {
        s = decimal times;
        t = decimal many;
        are_words = line_words n (codes "times") words times_is_text texts;
        number = record { value = decimal_value-decimal times (entry_small times t); up_to = t };
        counted = record { value = decimal_value-decimal many limited; up_to = m };
      },
    )

-- the lines of a block, and how many there are
record BeginsWithBlock (n : ℕ) (block : Block) (rest : List ℕ) : Type 0 where
  lines : List Line
  next : ℕ
  split : lines_from n (pieces (block_text block ++ rest)) ≡ lines ++ lines_from next (pieces rest)
  are : AreBlockLines lines block

block_lines : (n : ℕ) (block : Block) (rest : List ℕ) → FitsBlock block → BeginsWithBlock n block rest
block_lines n block rest h =
    let terms : List ℕ = flat_map term_text block.terms in
    let times : List ℕ = times_text block.times (length block.terms) in
    let first = vector_line n block.vector (times ++ (terms ++ rest)) h.entries in
    let second = times_line (n + 1) block.times (length block.terms) (terms ++ rest) h.times h.limited in
    let others : BeginsWith IsTermLine (n + 1 + 1) (terms ++ rest) block.terms rest = each_line IsTermLine term_text FitsTerm term_line (n + 1 + 1) block.terms rest h.terms in
    record {
      lines = first.0 ∷ second.0 ∷ others.lines;
      next = n + 1 + 1 + length block.terms;
      split = ap (λ (bytes : List ℕ). lines_from n (pieces bytes)) (append_assoc (vector_text block.vector ++ times) terms rest ∙ append_assoc (vector_text block.vector) times (terms ++ rest))
          ∙ first.1 ∙ ap (λ (ls : List Line). first.0 ∷ ls) (second.1 ∙ ap (λ (ls : List Line). second.0 ∷ ls) others.split);
      are = (first.2, second.2, others.are);
    }

-- the lines from line n on are those of the blocks
pub only_blocks : (n : ℕ) (blocks : List Block) → AllByRecursion FitsBlock blocks → AreBlocks (lines_from n (pieces (blocks_text blocks))) blocks
unfolding lines_from
only_blocks n [] h = refl
only_blocks n (block ∷ blocks) h =
    let b : BeginsWithBlock n block (blocks_text blocks) = block_lines n block (blocks_text blocks) h.0 in
    (b.lines, lines_from b.next (pieces (blocks_text blocks)), b.split, b.are, only_blocks b.next blocks h.1)
