-- The components are connected, and their signatures are sorted.
use Rattle.std.proofs.Common.{List, All, subst, sym}
use Rattle.table_definitions.specs.Places.{IsConnected}
use Rattle.component_definitions.specs.Parts.{Part}
use Rattle.component_signature.specs.Entries.{entries_of}
use Rattle.component_laws.specs.Ordered.{AreSigned}
use Rattle.component_signature.proofs.Signing.{put_in_order, all_connected}
use Rattle.component_signature.proofs.order.in_order.Goals as goal

pub sign_parts-requires : goal.sign_parts-requires
sign_parts-requires c =
    subst (λ (ps : List Part). All (λ (part : Part). IsConnected part.rows) ps) (sym c.deref.ensures.value)
    (all_connected c.args.table.now c.in_ok-parts.parts.items c.in_ok-parts.ensures.is_table c.in_ok-parts.ensures.parts)

pub returns-clause-order : goal.returns-clause-order
returns-clause-order c =
    put_in_order c.in_ok-parts.parts.items c.in_ok-signed.signed.items c.sort_unstable.new.self.items
    (subst (λ (ps : List Part). AreSigned ps (entries_of c.in_ok-signed.signed.items)) c.deref.ensures.value c.in_ok-signed.ensures) c.sort_unstable.ensures.permutation c.sort_unstable.ensures.sorted
