-- The word, the entries and the line's end are the line.
use Rattle.std.proofs.Common.{◌∙◌}
use Rattle.vector_text.specs.ViewEntries.{view_numbers}
use Rattle.vector_text.proofs.ListLemmas.{vector_line}
use Rattle.vector_text.proofs.text.push_line.Goals as goal

pub returns : goal.returns
returns c =
    c.in_ok-append-2.ensures.ok ∙ vector_line c.args.text.now.items c.append.new.out.items c.push_entries.new.text.items (view_numbers c.args.x) c.in_ok-append.ensures.ok c.in_ok-push_entries.ensures
