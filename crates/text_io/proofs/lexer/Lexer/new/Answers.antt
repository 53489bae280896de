use Rattle.std.proofs.Common.{refl}
use Rattle.text_definitions.specs.Text.{tokens_from}
use Rattle.text_io.proofs.lexer.Lexer.new.Goals as goal

pub returns : goal.returns
unfolding tokens_from
returns c = rw c.end_place.ensures refl
