-- The first line of an input.
use Rattle.std.specs.Prelude.{◌≡◌, ℕ, ◌+◌, ◌≤◌, List, ◌∷◌, length}
use Rattle.text_definitions.specs.Text.{pieces, line_of, lines_from}
use Rattle.text_io.specs.declared.lines.FoundLine.{FoundLine}

-- the line is the first one in bytes, which line n precedes
abbrev pub IsFirstLine : ℕ → List ℕ → FoundLine → Type 0
IsFirstLine n bytes found =
    (lines_from (n + 1) (pieces bytes) ≡ line_of found.number found.line.now ∷ lines_from (found.number + 1) (pieces found.later.now))
    × (found.number + length found.later.now ≤ n + length bytes)
    × (length found.line.now ≤ length bytes)
