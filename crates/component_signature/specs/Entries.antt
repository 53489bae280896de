-- The stored signatures of components, as the definitions see them.
use Rattle.std.specs.Prelude.{List, map}
use Rattle.component_laws.specs.Ordered.{Entry}
use Rattle.component_signature.specs.declared.order.PartSignature.{PartSignature}

abbrev pub entry_of : PartSignature → Entry
entry_of s = record { text = s.signature.items; number = s.part }

abbrev pub entries_of : List PartSignature → List Entry
entries_of signed = map entry_of signed
