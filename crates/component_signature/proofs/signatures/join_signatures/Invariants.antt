-- The signatures so far are joined.
use Rattle.std.proofs.Common.{◌≡◌, take}
use Rattle.component_definitions.specs.ComponentSignature.{component_text}
use Rattle.component_signature.specs.Entries.{entries_of}
use Rattle.component_laws.specs.Ordered.{texts_of}
use Rattle.component_signature.proofs.signatures.join_signatures.Given as goal

abbrev pub invariant-loop-place : goal.invariant-loop-place
invariant-loop-place l = l.text.items ≡ component_text (texts_of (entries_of (take l.place l.signed)))
