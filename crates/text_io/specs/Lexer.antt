-- What a lexer's fields represent.
use Rattle.std.specs.Prelude.{◌+◌, ◌≤◌, length}
use Rattle.text_definitions.specs.Text.{max_text, tokens_from, lines_from, pieces}
use Rattle.text_definitions.specs.Reading.{Reading}
use Rattle.text_io.specs.declared.lexer.Lexer.TheInside.{Inside}

-- what is left to read
abbrev pub left_to_read : Inside → Reading
left_to_read a = record {
  current = record { number = a.number; tokens = tokens_from a.column a.line.now; end = a.column + length a.line.now };
  later = lines_from (a.number + 1) (pieces a.later.now);
  input_end = a.end;
  taken = a.taken;
}

-- no number of a line or column exceeds its type
pub record Fits (a : Inside) : Type 0 where
  pub lines : a.number + length a.later.now ≤ max_text
  pub columns : a.column + length a.line.now ≤ max_text + 1
