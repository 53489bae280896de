use Rattle.signature_laws.proofs.Least.{never_unordered}
use Rattle.signature_codec.specs.Views.{named_face}
use Rattle.canonical_labelling.proofs.signatures.text_of.Goals as goal

pub unreachable-requires : goal.unreachable-requires
unreachable-requires c =
    never_unordered c.args.table.now (named_face c.in-Err-Fault.field-0-0) c.requires (rw c.in-Err-Fault.field-0-is at c.in-Err-Fault.ensures.stops)
