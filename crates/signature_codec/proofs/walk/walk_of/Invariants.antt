use Rattle.signature_text_laws.specs.Walks.{IsWalkTo}
use Rattle.signature_codec.specs.Views.{walk_view}
use Rattle.signature_codec.proofs.walk.walk_of.Given as goal

abbrev pub invariant-loop-place : goal.invariant-loop-place
invariant-loop-place l = IsWalkTo l.table l.place (walk_view l.walk)
