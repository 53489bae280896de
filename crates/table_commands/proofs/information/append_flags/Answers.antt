-- One line after the other.
use Rattle.std.proofs.Common.{◌∙◌}
use Rattle.table_commands.proofs.ClassLines.{flags_written}
use Rattle.table_commands.proofs.information.append_flags.Goals as goal

pub returns : goal.returns
returns c =
    flags_written c.args.text.now.items c.append_number_line.new.text.items c.append_flag.new.text.items c.append_flag-2.new.text.items c.append_flag-3.new.text.items c.from.result _
    c.args.connected c.args.orientable c.is_closed.result _ c.in_ok-append_number_line.ensures c.in_ok-append_flag.ensures c.in_ok-append_flag-2.ensures c.in_ok-append_flag-3.ensures
    (c.from.ensures ∙ c.tetrahedra.ensures) c.is_closed.ensures
