use Rattle.text_definitions.specs.Text.{end_of}
use Rattle.text_io.proofs.lines.end_place.Goals as goal

pub returns : goal.returns
unfolding end_of
returns c = cc
