-- The line of the check is that of the verdict.
use Rattle.std.proofs.Common.{◌≡◌, ◌++◌, List, ℕ, subst}
use Rattle.std.specs.Prelude.{OnOk}
use Rattle.enumeration_commands.proofs.VerdictLines.{checked_line}
use Rattle.enumeration_commands.proofs.verify_command.append_verdict.Goals as goal

pub returns : goal.returns
returns c =
    subst (λ (line : List ℕ). OnOk c.append_checked.result (c.append_checked.new.out.items ≡ c.args.out.now.items ++ line))
    (checked_line c.check_vector-checked.result c.args.coords _ _ _ _ _ c.args.vector.now c.check_vector-checked.ensures.verdict c.requires c.len.ensures.value)
    c.append_checked.ensures
