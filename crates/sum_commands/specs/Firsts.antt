-- The result of a check of a list: each item is accepted, or the first that is refused.
use Rattle.std.specs.Prelude.{List, Result, Ok, Err}
use Rattle.std.specs.List.{All}
use Rattle.outcome_definitions.specs.Sums.{IsFirstRefused}
use Rattle.sum_commands.specs.declared.checks.FirstFault.{FirstFault}

abbrev pub AreAllAnswered : {A E : Type 0} → (A → Result (Unit {0}) E → Type 0) → List A → Result (Unit {0}) (FirstFault E) → Type 0
AreAllAnswered IsResult list (Ok passed) = All (λ x. IsResult x (Ok tt)) list
AreAllAnswered IsResult list (Err first) = IsFirstRefused IsResult list first.number first.fault
