-- The components at the indices so far are written.
use Rattle.std.proofs.Common.{◌≡◌, length}
use Rattle.component_signature.specs.Entries.{entries_of}
use Rattle.component_laws.specs.Ordered.{numbers_of}
use Rattle.component_laws.specs.Drafts.{AreWritten}
use Rattle.component_signature.proofs.matches.draft_of_parts.Given as goal

abbrev pub invariant-loop-place : goal.invariant-loop-place
invariant-loop-place l = record {
  written : AreWritten l.first.parts.items (numbers_of (entries_of l.first.signed.items)) l.second.parts.items (numbers_of (entries_of l.second.signed.items)) l.place l.draft;
  images : length l.draft.images ≡ l.fn.tets;
  perms : length l.draft.perms ≡ l.fn.tets;
}
