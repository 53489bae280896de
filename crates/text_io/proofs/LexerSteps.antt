-- What the fields of a lexer represent, before and after each step.
use Rattle.std.proofs.Common.{◌≡◌, ◌≢◌, ℕ, ◌+◌, List, [], length, sym, ap, ◌∙◌, Ok, Err}
use Rattle.text_definitions.specs.declared.LexKind.TheVariants.{BadByte, MissingWord, ExtraWord}
use Rattle.text_definitions.specs.Text.{tokens_from, lines_from, pieces}
use Rattle.text_definitions.specs.Reading.{Reading, word_at, word_from, end_line_at, end_from, fault_at}
use Rattle.std.specs.Borrow.{Bor}
use Rattle.text_io.specs.declared.front.Front.TheVariants.{End, Stray, Word}
use Rattle.text_io.specs.declared.lexer.Lexer.TheInside.{Inside}
use Rattle.text_io.specs.Front.{IsFront}
use Rattle.text_io.specs.Lexer.{left_to_read}

-- no word is left on the line
pub word_at-ended : (c : Reading) → c.current.tokens ≡ [] → word_at c ≡ Err (fault_at c c.current.end MissingWord)
unfolding word_at
word_at-ended c none = ap (λ ts. word_from ts c) none

module _ (a : Inside) (at : ℕ) where
  pub end_line-end : IsFront a.column a.line.now at End → end_line_at (left_to_read a) ≡ Ok (left_to_read a)
  unfolding end_line_at
  end_line-end h = ap (λ ts. end_from ts (left_to_read a)) h.0

  pub end_line-stray : IsFront a.column a.line.now at Stray → end_line_at (left_to_read a) ≡ Err (fault_at (left_to_read a) at BadByte)
  unfolding end_line_at
  end_line-stray h = ap (λ ts. end_from ts (left_to_read a)) h.0.1

  pub end_line-word : (w after : Bor (List ℕ)) → IsFront a.column a.line.now at (Word w after) → end_line_at (left_to_read a) ≡ Err (fault_at (left_to_read a) at ExtraWord)
  unfolding end_line_at
  end_line-word w after h = ap (λ ts. end_from ts (left_to_read a)) h.0

  pub ended : IsFront a.column a.line.now at End → (left_to_read a).current.tokens ≡ []
  ended h = h.0

  pub left-stray : IsFront a.column a.line.now at Stray → (left_to_read a).current.tokens ≢ []
  left-stray h = λ none. let f = h.0.1 in cc

  pub left-word : (w after : Bor (List ℕ)) → IsFront a.column a.line.now at (Word w after) → (left_to_read a).current.tokens ≢ []
  left-word w after h = λ none. let f = h.0 in cc

  pub word-stray : IsFront a.column a.line.now at Stray → word_at (left_to_read a) ≡ Err (fault_at (left_to_read a) at BadByte)
  unfolding word_at
  word-stray h = ap (λ ts. word_from ts (left_to_read a)) h.0.1

  pub word-word : (w after : Bor (List ℕ)) → IsFront a.column a.line.now at (Word w after) →
      word_at (left_to_read a) ≡ Ok (w.now, left_to_read (record a { line = after; column = at + length w.now; taken = record { line = a.number; column = at } }))
  unfolding word_at
  word-word w after h =
      ap (λ ts. word_from ts (left_to_read a)) h.0
      ∙ ap (λ k. Ok (
        w.now,
        record {
          current = record { number = a.number; tokens = tokens_from (at + length w.now) after.now; end = k };
          later = lines_from (a.number + 1) (pieces a.later.now);
          input_end = a.end;
          taken = record { line = a.number; column = at };
        },
      ))
      (sym h.1)
