use Rattle.std.proofs.Common.{◌*◌, ◌<◌, ℕ, length, sym, ap, ◌∙◌, subst}
use Rattle.table_definitions.proofs.Carried.{length-images}
use Rattle.signature_definitions.specs.Labellings.{Start, IsWalked, IsLeastRelabelling}
use Rattle.signature_laws.specs.Between.{between}
use Rattle.signature_laws.specs.Starts.{IsNoMatch, IsFirstMatch}
use Rattle.signature_laws.proofs.Matching.{no_relabelling, first_match_is_least, from_none, from_some}
use Rattle.canonical_labelling.proofs.matches.relabelling_of_connected.Goals as goal

pub returns-in_default-clause-none : goal.returns-in_default-clause-none
returns-in_default-clause-none c =
    let w = subst (λ (s : Start). IsWalked c.args.first.table.now s c.in_ok-walked.walked.relabelling c.in_ok-walked.walked.table) c.numbered_start.ensures c.in_ok-walked.ensures in
    no_relabelling c.args.first.table.now c.args.second.table.now c.in_ok-walked.walked.table c.in_ok-walked.walked.relabelling c.args.first.is_table c.args.second.is_table c.requires.some c.requires.equal w
    (from_none c.in_ok-back.field-0 ((i : ℕ) → i < 24 * length c.args.second.table.now → IsNoMatch c.args.second.table.now c.in_ok-walked.walked.table i) c.in_default.is c.in_ok-back.ensures.none)

pub returns-clause-found : goal.returns-clause-found
returns-clause-found c =
    let w = subst (λ (s : Start). IsWalked c.args.first.table.now s c.in_ok-walked.walked.relabelling c.in_ok-walked.walked.table) c.numbered_start.ensures c.in_ok-walked.ensures in
    let least =
    first_match_is_least c.args.first.table.now c.args.second.table.now c.in_ok-walked.walked.table c.in_ok-walked.walked.relabelling c.args.first.is_table c.args.second.is_table c.requires.some c.requires.equal w c.in-Some.back
    (from_some c.in_ok-back.field-0 c.in-Some.back (IsFirstMatch c.args.second.table.now c.in_ok-walked.walked.table) c.in-Some.is c.in_ok-back.ensures.found) in
    let long = length-images (length c.args.first.table.now) c.in_ok-walked.walked.relabelling w.relabels.0 in
    subst (IsLeastRelabelling c.args.first.table.now c.args.second.table.now) (sym (c.in_ok-by.ensures ∙ ap (λ m. between m c.in_ok-walked.walked.relabelling c.in-Some.back) long)) least
