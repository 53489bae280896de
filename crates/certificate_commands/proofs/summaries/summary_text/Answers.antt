-- The lines, one after another.
use Rattle.std.proofs.Common.{ap, ◌∙◌}
use Rattle.outcome_definitions.specs.Makings.{Numbers}
use Rattle.certificate_commands.proofs.Summed.{summary_lines}
use Rattle.certificate_commands.proofs.summaries.summary_text.Goals as goal

pub returns : goal.returns
returns c = (
  c.greatest_entry.result,
  c.greatest_entry.ensures,
  summary_lines c.args.numbers c.args.list.now c.greatest_entry.result c.new-text.result.items c.append_number_line.new.text.items c.append_number_line-2.new.text.items c.append_number_line-3.new.text.items c.append_number_line-4.new.text.items c.append_number_line-5.new.text.items
      c.append_number_line-6.new.text.items c.append_number_line-7.new.text.items c.from.result c.from-moves.result c.from-2.result c.from-3.result (c.from.ensures ∙ ap (λ (n : Numbers). n.seed) c.numbers.view_is) (c.from-moves.ensures ∙ ap (λ (n : Numbers). n.moves) c.numbers.view_is)
      (c.from-2.ensures ∙ ap (λ (n : Numbers). n.tetrahedra) c.numbers.view_is) (c.from-3.ensures ∙ c.linking_count.ensures) c.new-text.ensures.items c.in_ok-append_number_line.ensures c.in_ok-append_number_line-2.ensures c.in_ok-append_number_line-3.ensures c.in_ok-append_number_line-4.ensures
      c.in_ok-append_number_line-5.ensures c.in_ok-append_number_line-6.ensures c.in_ok-append_number_line-7.ensures,
)
