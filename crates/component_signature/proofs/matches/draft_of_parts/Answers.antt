-- One more index.
use Rattle.std.proofs.Common.{ℕ, subst, sym, ◌∙◌, arith}
use Rattle.component_signature.specs.Entries.{entries_of}
use Rattle.component_laws.specs.Drafts.{AreMatched}
use Rattle.component_signature.proofs.matches.draft_of_parts.Goals as goal

pub loop-place-init : goal.loop-place-init
loop-place-init c = record { written = λ k l. absurd (omega arith); images = c.in_ok-draft.ensures.images; perms = c.in_ok-draft.ensures.perms }

pub write_place-requires-clause-matched : goal.write_place-requires-clause-matched
write_place-requires-clause-matched c =
    subst (λ (n : ℕ). AreMatched n c.args.first.now.parts.items (entries_of c.args.first.now.signed.items) c.args.second.now.parts.items (entries_of c.args.second.now.signed.items)) (sym c.loop-place.invariant.images) c.requires

pub write_place-requires-clause-perms : goal.write_place-requires-clause-perms
write_place-requires-clause-perms c = c.loop-place.invariant.perms ∙ sym c.loop-place.invariant.images

pub write_place-requires-clause-written : goal.write_place-requires-clause-written
write_place-requires-clause-written c = c.loop-place.invariant.written

pub loop-place-preserved : goal.loop-place-preserved
loop-place-preserved c = record {
  written = c.in_ok-write_place.ensures.written;
  images = c.in_ok-write_place.ensures.images ∙ c.loop-place.invariant.images;
  perms = c.in_ok-write_place.ensures.perms ∙ c.loop-place.invariant.perms;
}

pub returns-clause-written : goal.returns-clause-written
returns-clause-written c k l = c.loop-place.invariant.written k (omega (arith, l, c.loop-place-test.false, c.len-place-end.ensures, c.args.first.now.signed.ok))

pub returns-clause-images : goal.returns-clause-images
returns-clause-images c = c.loop-place.invariant.images

pub returns-clause-perms : goal.returns-clause-perms
returns-clause-perms c = c.loop-place.invariant.perms
