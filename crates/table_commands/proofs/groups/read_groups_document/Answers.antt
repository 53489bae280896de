-- An input has at most one more line than bytes.
use Rattle.std.proofs.Common.{length, ap, arith}
use Rattle.text_definitions.specs.Reading.{Reading}
use Rattle.text_definitions.proofs.LineCount.{few_lines}
use Rattle.table_commands.proofs.groups.read_groups_document.Goals as goal

pub read_groups-requires : goal.read_groups-requires
read_groups-requires c = record {
  limited = omega (arith, few_lines c.args.bytes.now, ap (λ (r : Reading). length r.later) c.new-lexer.ensures);
}
