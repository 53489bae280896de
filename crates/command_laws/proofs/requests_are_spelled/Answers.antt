-- Each option is one word, and each value that is read is in range.
use Rattle.command_laws.proofs.Asking.{words_for, in_range}
use Rattle.command_laws.proofs.requests_are_spelled.Goals as goal

pub returns : goal.returns
returns c = λ r. (in_range r, λ held. words_for r held.0 held.1)
