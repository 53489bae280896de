-- The signatures of the components in order, joined.
use Rattle.std.proofs.Common.{List, ap, ◌∙◌}
use Rattle.component_definitions.specs.ComponentSignature.{component_text}
use Rattle.component_signature.specs.declared.order.PartSignature.{PartSignature}
use Rattle.component_signature.specs.Entries.{entries_of}
use Rattle.component_laws.specs.Ordered.{texts_of}
use Rattle.component_laws.proofs.OrderLemmas.{signs}
use Rattle.component_signature.proofs.signatures.component_signature.Goals as goal

pub returns : goal.returns
returns c =
    signs c.in_ok-ordered.ordered.parts.items (entries_of c.in_ok-ordered.ordered.signed.items) c.in_ok-ordered.ensures.order c.args.table.now c.in_ok-text.text.items c.in_ok-ordered.ensures.parts
    (c.in_ok-text.ensures ∙ ap (λ (signed : List PartSignature). component_text (texts_of (entries_of signed))) c.deref.ensures.value)
