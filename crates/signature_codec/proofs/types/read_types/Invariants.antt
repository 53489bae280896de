use Rattle.std.proofs.Common.{◌≤◌, ◌*◌, length}
use Rattle.signature_definitions.specs.SignatureText as signatures
use Rattle.signature_codec.specs.Views.{types_view}
use Rattle.signature_text_laws.specs.Parts.{types_begun}
use Rattle.signature_text_laws.proofs.ReadLaws.{ReadsOn}
use Rattle.signature_codec.proofs.types.read_types.Given as goal

abbrev pub invariant-loop-types : goal.invariant-loop-types
invariant-loop-types l =
    (l.next ≤ length l.text)
    × ReadsOn l.text l.head.count l.next (types_view l.types) (signatures.types_from (4 * l.head.count) l.text l.head.count l.head.next (types_begun l.head.count))

abbrev pub decreases-loop-types : goal.decreases-loop-types
decreases-loop-types l = l.types.left
