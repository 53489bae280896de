-- The text of moves has one line for each move.
use Rattle.std.proofs.Common.{◌≡◌, ℕ, List, [], ◌++◌, sym, ap, ◌∙◌, subst, append-nil}
use Rattle.std.specs.List.{AllZip, AllByRecursion, flat_map}
use Rattle.text_definitions.specs.Text.{Line, pieces, lines_from}
use Rattle.table_definitions.proofs.WrittenLines.{BeginsWith, each_line}
use Rattle.move_definitions.specs.Moves.{Move}
use Rattle.move_definitions.specs.MoveText.{move_text}
use Rattle.move_definitions.specs.Grammar.{IsMoveLine}
use Rattle.move_definitions.proofs.WrittenLaws.{move_line}
use Rattle.outcome_written_laws.specs.Moves.{IsWritable}

-- the lines from line n on are those of the moves
pub only_moves : (n : ℕ) (moves : List Move) → AllByRecursion IsWritable moves → AllZip IsMoveLine (lines_from n (pieces (flat_map move_text moves))) moves
unfolding lines_from
only_moves n moves h =
    let b : BeginsWith IsMoveLine n (flat_map move_text moves ++ []) moves [] = each_line IsMoveLine move_text IsWritable (λ n m rest h. move_line n m rest h.0 h.1) n moves [] h in
    let all : lines_from n (pieces (flat_map move_text moves)) ≡ b.lines =
    ap (λ (bytes : List ℕ). lines_from n (pieces bytes)) (sym (append-nil (flat_map move_text moves))) ∙ b.split ∙ append-nil b.lines in
    subst (λ (ls : List Line). AllZip IsMoveLine ls moves) (sym all) b.are
