-- One more line.
use Rattle.std.proofs.Common.{◌≡◌, ◌+◌, ◌-◌, ℕ, false, ap, ap₂, ◌∙◌, arith}
use Rattle.std.specs.Prelude.{slice_index}
use Rattle.std.specs.List.{slice_index_or}
use Rattle.outcome_definitions.specs.Presented.{generator_line, generator_text}
use Rattle.outcome_definitions.proofs.ClassTexts.{lines_begin, lines_more}
use Rattle.topology_commands.proofs.presentation.append_generators.Goals as goal

pub loop-before-init : goal.loop-before-init
loop-before-init c = lines_begin _ _

one_less : (n : ℕ) → n + 1 - 1 ≡ n
one_less n = omega arith

pub loop-before-preserved : goal.loop-before-preserved
loop-before-preserved c =
    lines_more (generator_text c.args.group.now.presentation) c.loop-before.before c.args.text.now.items c.loop-before.text.items c.append_generator.new.text.items
    (generator_line c.loop-before.before c.face_of.result c.turns.result) c.in_ok-append_generator.ensures c.loop-before.invariant
    (ap₂ (generator_line c.loop-before.before)
    (c.face_of.ensures ∙ ap (slice_index c.args.group.now.presentation.generators) (one_less c.loop-before.before))
    (c.turns.ensures ∙ ap (λ k. slice_index_or c.args.group.now.presentation.turning k false) (one_less c.loop-before.before)))
