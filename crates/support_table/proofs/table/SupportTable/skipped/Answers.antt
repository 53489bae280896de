use Rattle.std.proofs.Common.{◌+◌, ◌/◌, ap, sym, ◌∙◌}
use Rattle.std.proofs.lemmas.Bool.{true≢false}
use Rattle.support_table.proofs.BlockLemmas.{passes}
use Rattle.support_table.proofs.table.SupportTable.skipped.Goals as goal

pub has_outside-requires-clause-first : goal.has_outside-requires-clause-first
has_outside-requires-clause-first c = c.in-Some.ensures.padded.count ∙ ap (λ n. (n + 63) / 64) (sym c.requires.first)

pub has_outside-requires-clause-second : goal.has_outside-requires-clause-second
has_outside-requires-clause-second c = c.in-Some.ensures.padded.count ∙ ap (λ n. (n + 63) / 64) (sym c.requires.second)

pub has_outside-requires-in-Some-group_at-clause-first : goal.has_outside-requires-in-Some-group_at-clause-first
has_outside-requires-in-Some-group_at-clause-first c = c.in-Some-group_at.ensures.padded.count ∙ ap (λ n. (n + 63) / 64) (sym c.requires.first)

pub has_outside-requires-in-Some-group_at-clause-second : goal.has_outside-requires-in-Some-group_at-clause-second
has_outside-requires-in-Some-group_at-clause-second c = c.in-Some-group_at.ensures.padded.count ∙ ap (λ n. (n + 63) / 64) (sym c.requires.second)

pub returns-then-has_outside : goal.returns-then-has_outside
returns-then-has_outside c = passes _ _ _ _ _ _ c.in-Some-group_at.ensures (λ inside. true≢false (sym c.if-has_outside.true ∙ c.has_outside-in-Some-group_at.ensures.1 inside))

pub returns-else-has_outside : goal.returns-else-has_outside
returns-else-has_outside c = passes _ _ _ _ _ _ c.in-Some.ensures (λ inside. true≢false (sym c.if-not-has_outside.false ∙ c.has_outside.ensures.1 inside))

pub returns-in_default-group_at : goal.returns-in_default-group_at
returns-in_default-group_at c = passes _ _ _ _ _ _ c.in-Some.ensures (λ inside. true≢false (sym c.if-not-has_outside.false ∙ c.has_outside.ensures.1 inside))
