use Rattle.std.proofs.Common.{◌≡◌, ◌≤◌, ◌+◌, ◌*◌, ◌-◌, length}
use Rattle.signature_definitions.specs.SignatureText as signatures
use Rattle.signature_codec.specs.Views.{fault_of_segment}
use Rattle.signature_text_laws.proofs.ReadLaws.{fronted}
use Rattle.signature_codec.proofs.numbers.numbers_in.Given as goal

abbrev pub invariant-loop-i : goal.invariant-loop-i
invariant-loop-i l =
    (l.at + l.numbers.width * l.i ≤ length l.text)
    × (fronted l.read.items (signatures.numbers_in (l.numbers.many - l.i) l.text l.numbers.width l.numbers.bound (fault_of_segment l.numbers.segment) (l.at + l.numbers.width * l.i))
    ≡ signatures.numbers_in l.numbers.many l.text l.numbers.width l.numbers.bound (fault_of_segment l.numbers.segment) l.at)
