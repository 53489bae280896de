-- The entries of the document are in range, and the reported error is that of the input.
use Rattle.std.proofs.Common.{ℕ, List, Vec, sym, subst}
use Rattle.std.specs.declared.alloc.Global.{Global}
use Rattle.command_answers.specs.Reads.{all_entries}
use Rattle.sum_commands.specs.Telling.{AreInRange}
use Rattle.sum_commands.proofs.Decomposed.{document_in_range}
use Rattle.sum_commands.proofs.decompose_command.decompose.Goals as goal

pub run_decompose-requires : goal.run_decompose-requires
run_decompose-requires c = record {
  entries = subst (λ (vs : List (Vec ℕ Global)). AreInRange (all_entries vs)) (sym c.deref.ensures.value) (document_in_range _ _ _ c.in-Ok.ensures);
}
