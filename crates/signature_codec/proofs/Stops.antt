-- A traversal that stops names the first face that is not in order.
use Rattle.std.proofs.Common.{ℕ, ◌*◌, ◌<◌, List, length, Some, sym, ap, ◌∙◌}
use Rattle.std.specs.Prelude.{Err}
use Rattle.table_definitions.specs.Table.{Row}
use Rattle.table_definitions.specs.Places.{face_of}
use Rattle.signature_text_laws.specs.Walks.{Walking, take_face, IsWalkTo}
use Rattle.signature_codec.specs.Views.{TakesFace, StopsAt}
use Rattle.signature_codec.specs.declared.walk.NotOrdered.{NotOrdered}
use Rattle.out_of_memory.specs.declared.Failure.{Failure}
use Rattle.out_of_memory.specs.declared.Failure.TheVariants.{NoMemory, Fault}
use Rattle.signature_text_laws.proofs.WalkLaws.{takes_off, first_unordered-at}

pub stops_at : (X : Type 0) (rows : List Row) (k : ℕ) (w new : Walking) (e : Failure NotOrdered) → k < 4 * length rows → IsWalkTo rows k w → TakesFace {X = X} new (face_of k) (Err e) (take_face rows (face_of k) w) → StopsAt rows e
stops_at X rows k w new NoMemory l h taken = tt
stops_at X rows k w new (Fault f) l h taken = first_unordered-at rows k w l h (takes_off rows k w l h taken.0) ∙ ap Some (sym taken.1)
