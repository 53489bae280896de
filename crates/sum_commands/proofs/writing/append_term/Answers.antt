-- The pieces of the line follow one another.
use Rattle.std.proofs.Common.{ℕ, List, [], ◌∷◌, ◌++◌, ap, ◌∙◌}
use Rattle.std.specs.Prelude.{decimal}
use Rattle.cone_text_definitions.specs.VectorText.{entries_text}
use Rattle.sum_commands.proofs.Lines.{term_appended}
use Rattle.sum_commands.proofs.writing.append_term.Goals as goal

pub returns : goal.returns
returns c =
    c.in_ok-append-2.ensures.ok
    ∙ ap (λ (t : List ℕ). t ++ 10 ∷ []) (c.in_ok-write_entries.ensures.ok
    ∙ ap (λ (t : List ℕ). t ++ entries_text c.args.term.now.vector) (c.in_ok-append_decimal.ensures.ok ∙ ap (λ (t : List ℕ). t ++ decimal c.args.term.now.count) c.in_ok-append.ensures.ok))
    ∙ term_appended c.args.out.now.items c.args.term.now
