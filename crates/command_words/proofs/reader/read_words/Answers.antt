-- What an accepted request holds is in range.
use Rattle.std.proofs.Common.{rules}
use Rattle.command_definitions.proofs.Accepted.{accepted_in_range}
use Rattle.command_words.proofs.reader.read_words.Goals as goal

pub returns-clause-answers : goal.returns-clause-answers
returns-clause-answers c = search rules

pub returns-clause-in_range : goal.returns-clause-in_range
returns-clause-in_range c = accepted_in_range c.args.words.now _ (returns-clause-answers c)
