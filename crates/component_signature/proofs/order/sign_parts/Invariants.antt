-- The signatures of the components so far.
use Rattle.component_signature.specs.Entries.{entries_of}
use Rattle.component_signature.proofs.Signing.{AreSignedUpTo}
use Rattle.component_signature.proofs.order.sign_parts.Given as goal

abbrev pub invariant-loop-number : goal.invariant-loop-number
invariant-loop-number l = AreSignedUpTo l.parts l.number (entries_of l.signed.items)
