-- The components at the index are those of the orders, and so they are isomorphic.
use Rattle.std.proofs.Common.{◌≡◌, ◌<◌, ◌≤◌, ℕ, All, Contains, length, subst, subst₂, sym, ◌∙◌, arith}
use Rattle.basic_lemmas.proofs.Members.{Ascends}
use Rattle.table_definitions.specs.Places.{IsConnected}
use Rattle.table_definitions.specs.Relabelling.{AreIsomorphic, relabelled_place}
use Rattle.signature_definitions.specs.Labellings.{IsLeastRelabelling}
use Rattle.component_definitions.specs.Parts.{Part, IsPart}
use Rattle.component_definitions.specs.SameParts.{GoesBy}
use Rattle.component_signature.specs.Entries.{entries_of}
use Rattle.component_laws.proofs.MatchLemmas.{part_in, is_part, is_connected, relabelled_at}
use Rattle.component_signature.proofs.PlaceLemmas.{in_entries, in_others, number_in, part_here, tets_below, bounded_tets, one_image_each, images_there, written_more}
use Rattle.component_signature.proofs.matches.write_place.Goals as goal

pub index-part-requires : goal.index-part-requires
index-part-requires c =
    let l : c.index.result.now.part < length c.args.first.now.parts.items = number_in c.args.first.now.parts.items c.args.first.now.signed.items c.requires.matched.in_order c.args.place c.index.result.now c.requires.in_range c.index.ensures in
    omega (arith, l, c.args.first.now.parts.ok)

pub index-other-requires : goal.index-other-requires
index-other-requires c =
    let l : c.index-2.result.now.part < length c.args.second.now.parts.items = number_in c.args.second.now.parts.items c.args.second.now.signed.items c.requires.matched.others_in_order c.args.place c.index-2.result.now
    (in_others _ _ _ _ _ c.requires.matched c.args.place c.requires.in_range) c.index-2.ensures in
    omega (arith, l, c.args.second.now.parts.ok)

pub relabelling_of_connected-requires-clause-connected : goal.relabelling_of_connected-requires-clause-connected
relabelling_of_connected-requires-clause-connected c =
    let m = c.requires.matched in
    let e : c.index-part.result.now ≡ part_in c.args.first.now.parts.items (entries_of c.args.first.now.signed.items) c.args.place =
    part_here c.args.first.now.parts.items c.args.first.now.signed.items m.in_order c.args.place c.index.result.now c.requires.in_range c.index.ensures c.index-part.result.now c.index-part.ensures in
    subst (λ (p : Part). IsConnected p.rows) (sym (c.part.view_is ∙ e)) (is_connected m.first _ _ m.first_table m.are_parts m.in_order c.args.place (in_entries c.args.first.now.signed.items c.args.place c.requires.in_range))

pub relabelling_of_connected-requires-clause-second_connected : goal.relabelling_of_connected-requires-clause-second_connected
relabelling_of_connected-requires-clause-second_connected c =
    let m = c.requires.matched in
    let l = in_others _ _ _ _ _ m c.args.place c.requires.in_range in
    let e : c.index-other.result.now ≡ part_in c.args.second.now.parts.items (entries_of c.args.second.now.signed.items) c.args.place =
    part_here c.args.second.now.parts.items c.args.second.now.signed.items m.others_in_order c.args.place c.index-2.result.now l c.index-2.ensures c.index-other.result.now c.index-other.ensures in
    subst (λ (p : Part). IsConnected p.rows) (sym (c.other.view_is ∙ e)) (is_connected m.second _ _ m.second_table m.are_others m.others_in_order c.args.place (in_entries c.args.second.now.signed.items c.args.place l))

pub relabelling_of_connected-requires-clause-relabelled : goal.relabelling_of_connected-requires-clause-relabelled
relabelling_of_connected-requires-clause-relabelled c =
    let m = c.requires.matched in
    let l = in_others _ _ _ _ _ m c.args.place c.requires.in_range in
    let e : c.index-part.result.now ≡ part_in c.args.first.now.parts.items (entries_of c.args.first.now.signed.items) c.args.place =
    part_here c.args.first.now.parts.items c.args.first.now.signed.items m.in_order c.args.place c.index.result.now c.requires.in_range c.index.ensures c.index-part.result.now c.index-part.ensures in
    let f : c.index-other.result.now ≡ part_in c.args.second.now.parts.items (entries_of c.args.second.now.signed.items) c.args.place =
    part_here c.args.second.now.parts.items c.args.second.now.signed.items m.others_in_order c.args.place c.index-2.result.now l c.index-2.ensures c.index-other.result.now c.index-other.ensures in
    subst₂ (λ (p q : Part). AreIsomorphic p.rows q.rows) (sym (c.part.view_is ∙ e)) (sym (c.other.view_is ∙ f))
    (relabelled_at _ _ _ _ _ m c.args.place (in_entries c.args.first.now.signed.items c.args.place c.requires.in_range))

pub write_part-requires-clause-tets : goal.write_part-requires-clause-tets
write_part-requires-clause-tets c =
    let m = c.requires.matched in
    let e : c.index-part.result.now ≡ part_in c.args.first.now.parts.items (entries_of c.args.first.now.signed.items) c.args.place =
    part_here c.args.first.now.parts.items c.args.first.now.signed.items m.in_order c.args.place c.index.result.now c.requires.in_range c.index.ensures c.index-part.result.now c.index-part.ensures in
    subst (λ (p : Part). All (λ t. t < length c.args.draft.now.images) p.numbers) (sym e)
    (tets_below m.first m.first_table _ (is_part m.first _ _ m.first_table m.are_parts m.in_order c.args.place (in_entries c.args.first.now.signed.items c.args.place c.requires.in_range)) _ m.size)

pub write_part-requires-clause-ascending : goal.write_part-requires-clause-ascending
write_part-requires-clause-ascending c =
    let m = c.requires.matched in
    let e : c.index-part.result.now ≡ part_in c.args.first.now.parts.items (entries_of c.args.first.now.signed.items) c.args.place =
    part_here c.args.first.now.parts.items c.args.first.now.signed.items m.in_order c.args.place c.index.result.now c.requires.in_range c.index.ensures c.index-part.result.now c.index-part.ensures in
    subst (λ (p : Part). Ascends p.numbers) (sym e) (is_part m.first _ _ m.first_table m.are_parts m.in_order c.args.place (in_entries c.args.first.now.signed.items c.args.place c.requires.in_range)).ascending

pub write_part-requires-clause-limited : goal.write_part-requires-clause-limited
write_part-requires-clause-limited c =
    let m = c.requires.matched in
    let e : c.index-part.result.now ≡ part_in c.args.first.now.parts.items (entries_of c.args.first.now.signed.items) c.args.place =
    part_here c.args.first.now.parts.items c.args.first.now.signed.items m.in_order c.args.place c.index.result.now c.requires.in_range c.index.ensures c.index-part.result.now c.index-part.ensures in
    let limited : length c.index-part.result.now.numbers ≤ 1000 = subst (λ (p : Part). length p.numbers ≤ 1000) (sym e)
    (bounded_tets m.first m.first_table _ (is_part m.first _ _ m.first_table m.are_parts m.in_order c.args.place (in_entries c.args.first.now.signed.items c.args.place c.requires.in_range))) in
    omega arith

pub write_part-requires-clause-one_each : goal.write_part-requires-clause-one_each
write_part-requires-clause-one_each c =
    let m = c.requires.matched in
    let e : c.index-part.result.now ≡ part_in c.args.first.now.parts.items (entries_of c.args.first.now.signed.items) c.args.place =
    part_here c.args.first.now.parts.items c.args.first.now.signed.items m.in_order c.args.place c.index.result.now c.requires.in_range c.index.ensures c.index-part.result.now c.index-part.ensures in
    let least : IsLeastRelabelling c.index-part.result.now.rows c.index-other.result.now.rows c.in_ok-by.by =
    subst₂ (λ (p q : Part). IsLeastRelabelling p.rows q.rows c.in_ok-by.by) c.part.view_is c.other.view_is c.in_ok-by.ensures in
    one_image_each m.first m.first_table c.index-part.result.now
    (subst (λ (p : Part). IsPart m.first p) (sym e) (is_part m.first _ _ m.first_table m.are_parts m.in_order c.args.place (in_entries c.args.first.now.signed.items c.args.place c.requires.in_range))) _ _ least

pub write_part-requires-clause-there : goal.write_part-requires-clause-there
write_part-requires-clause-there c =
    let m = c.requires.matched in
    let l = in_others _ _ _ _ _ m c.args.place c.requires.in_range in
    let e : c.index-part.result.now ≡ part_in c.args.first.now.parts.items (entries_of c.args.first.now.signed.items) c.args.place =
    part_here c.args.first.now.parts.items c.args.first.now.signed.items m.in_order c.args.place c.index.result.now c.requires.in_range c.index.ensures c.index-part.result.now c.index-part.ensures in
    let f : c.index-other.result.now ≡ part_in c.args.second.now.parts.items (entries_of c.args.second.now.signed.items) c.args.place =
    part_here c.args.second.now.parts.items c.args.second.now.signed.items m.others_in_order c.args.place c.index-2.result.now l c.index-2.ensures c.index-other.result.now c.index-other.ensures in
    let least : IsLeastRelabelling c.index-part.result.now.rows c.index-other.result.now.rows c.in_ok-by.by =
    subst₂ (λ (p q : Part). IsLeastRelabelling p.rows q.rows c.in_ok-by.by) c.part.view_is c.other.view_is c.in_ok-by.ensures in
    images_there m.first m.first_table c.index-part.result.now
    (subst (λ (p : Part). IsPart m.first p) (sym e) (is_part m.first _ _ m.first_table m.are_parts m.in_order c.args.place (in_entries c.args.first.now.signed.items c.args.place c.requires.in_range)))
    m.second m.second_table c.index-other.result.now
    (subst (λ (p : Part). IsPart m.second p) (sym f) (is_part m.second _ _ m.second_table m.are_others m.others_in_order c.args.place (in_entries c.args.second.now.signed.items c.args.place l))) _ least

pub returns-clause-written : goal.returns-clause-written
returns-clause-written c =
    let m = c.requires.matched in
    let l = in_others _ _ _ _ _ m c.args.place c.requires.in_range in
    let e : c.index-part.result.now ≡ part_in c.args.first.now.parts.items (entries_of c.args.first.now.signed.items) c.args.place =
    part_here c.args.first.now.parts.items c.args.first.now.signed.items m.in_order c.args.place c.index.result.now c.requires.in_range c.index.ensures c.index-part.result.now c.index-part.ensures in
    let f : c.index-other.result.now ≡ part_in c.args.second.now.parts.items (entries_of c.args.second.now.signed.items) c.args.place =
    part_here c.args.second.now.parts.items c.args.second.now.signed.items m.others_in_order c.args.place c.index-2.result.now l c.index-2.ensures c.index-other.result.now c.index-other.ensures in
    written_more _ _ _ _ _ m c.args.place c.args.draft.now c.write_part.new.draft c.in_ok-by.by (in_entries c.args.first.now.signed.items c.args.place c.requires.in_range)
    (subst₂ (λ (p q : Part). IsLeastRelabelling p.rows q.rows c.in_ok-by.by) (c.part.view_is ∙ e) (c.other.view_is ∙ f) c.in_ok-by.ensures)
    (subst₂ (λ (p q : Part). GoesBy c.write_part.new.draft p q c.in_ok-by.by) e f c.write_part.ensures.goes)
    (subst (λ (p : Part). (t : ℕ) → (Contains p.numbers t → ⊥) → relabelled_place c.write_part.new.draft t ≡ relabelled_place c.args.draft.now t) e c.write_part.ensures.others)
    c.requires.written
