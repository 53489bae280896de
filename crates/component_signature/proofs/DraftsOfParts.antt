-- If the components of two tables have equal signatures in order, the relabelling that is written is returned.
use Rattle.std.proofs.Common.{◌≡◌, List, length, subst, sym, refl}
use Rattle.table_definitions.specs.Table.{Row, IsTable}
use Rattle.table_definitions.specs.Relabelling.{Relabelling, IsRelabelling}
use Rattle.signature_definitions.specs.Labellings.{Relabels}
use Rattle.component_definitions.specs.Parts.{Part, AreParts}
use Rattle.component_definitions.specs.SameParts.{IsSameParts}
use Rattle.component_laws.specs.Ordered.{texts_of, numbers_of, AreInOrder}
use Rattle.component_laws.specs.Drafts.{AreMatched, AreWritten}
use Rattle.component_laws.proofs.SameParts.{same_parts_carry}
use Rattle.component_laws.proofs.DraftLemmas.{is_relabelling, is_same_parts}
use Rattle.component_signature.specs.declared.order.PartSignature.{PartSignature}
use Rattle.component_signature.specs.Entries.{entries_of}
use Rattle.component_signature.proofs.PlaceLemmas.{entries_count}

module _ (first second : List Row) (P Q : List Part) (S T : List PartSignature) (tf : IsTable first) (ts : IsTable second) (p : AreParts first P) (q : AreParts second Q) (o : AreInOrder P (entries_of S)) (o' : AreInOrder Q (entries_of T))
    (same : texts_of (entries_of S) ≡ texts_of (entries_of T)) where
  abbrev matched : AreMatched (length first) P (entries_of S) Q (entries_of T)
  matched = record { first = first; second = second; first_table = tf; second_table = ts; size = refl; are_parts = p; in_order = o; are_others = q; others_in_order = o'; same = same }

  module _ (by : Relabelling) (images : length by.images ≡ length first) (perms : length by.perms ≡ length first) (w : AreWritten P (numbers_of (entries_of S)) Q (numbers_of (entries_of T)) (length S) by) where
    all_written : AreWritten P (numbers_of (entries_of S)) Q (numbers_of (entries_of T)) (length (entries_of S)) by
    all_written = subst (λ i. AreWritten P (numbers_of (entries_of S)) Q (numbers_of (entries_of T)) i by) (sym (entries_count S)) w

    pub relabelling_of : IsRelabelling (length first) by
    relabelling_of = is_relabelling (length first) P (entries_of S) Q (entries_of T) matched by images perms all_written

    pub told_of : IsSameParts first second by
    told_of = is_same_parts (length first) P (entries_of S) Q (entries_of T) matched by images perms all_written

    pub relabels_of : Relabels first second by
    relabels_of = (relabelling_of, same_parts_carry first second by tf ts told_of)
