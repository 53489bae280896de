-- The pieces of the line follow one another.
use Rattle.std.proofs.Common.{ℕ, List, [], ◌∷◌, ◌++◌, ap, ◌∙◌}
use Rattle.std.specs.Prelude.{codes, decimal}
use Rattle.sum_commands.proofs.Lines.{five_pieces}
use Rattle.sum_commands.proofs.refusals.append_large_times.Goals as goal

pub returns : goal.returns
returns c =
    c.in_ok-append-3.ensures.ok
    ∙ ap (λ (t : List ℕ). t ++ 10 ∷ []) (c.in_ok-append_decimal-2.ensures.ok
    ∙ ap (λ (t : List ℕ). t ++ decimal c.args.column) (c.in_ok-append-2.ensures.ok
    ∙ ap (λ (t : List ℕ). t ++ codes " ") (c.in_ok-append_decimal.ensures.ok ∙ ap (λ (t : List ℕ). t ++ decimal c.args.turn) c.in_ok-append.ensures.ok)))
    ∙ five_pieces c.args.out.now.items (codes "large-times ") (decimal c.args.turn) (codes " ") (decimal c.args.column) (10 ∷ [])
