use Rattle.std.proofs.Common.{◌<◌, ◌≤◌, List, ◌∙◌, subst, sym}
use Rattle.std.specs.Prelude.{Result}
use Rattle.std.proofs.lemmas.Result.{err_from_is_err_and}
use Rattle.table_definitions.specs.Table.{Row}
use Rattle.signature_definitions.specs.declared.SigFault.{SigFault}
use Rattle.signature_definitions.specs.SignatureText as signatures
use Rattle.signature_text_laws.specs.Faults.{Fails, Reads}
use Rattle.signature_codec.specs.Views.{head_view, types_view, parts_view}
use Rattle.signature_text_laws.specs.Slots.{IsSlots, slots_begun}
use Rattle.signature_text_laws.proofs.ReadLaws.{fails_on}
use Rattle.signature_text_laws.proofs.JoinedTables.{joined_table}
use Rattle.signature_text_laws.proofs.TypeLaws.{parts_fit, behind_head, signature_table-head, signature_table-types, signature_table-parts, signature_table-joined}
use Rattle.signature_text_laws.proofs.ReadTables.{spelled_on_ok}
use Rattle.signature_text_laws.proofs.SpelledTables.{refused_on_err}
use Rattle.signature_codec.proofs.reading.read_signature.Goals as goal

pub returns-in_err-head-clause-reads : goal.returns-in_err-head-clause-reads
returns-in_err-head-clause-reads c =
    let p = err_from_is_err_and c.from_residual.result c.from_residual.ensures.1 in
    let e = c.in_err-head.field-0.0 in
    let P : Result (List Row) SigFault → Type 0 = λ q. Fails e q in
    rw (p.1, p.2) (subst P (sym (signature_table-head c.args.text.now)) (fails_on e _ (behind_head c.args.text.now) c.in_err-head.ensures.reads))

pub returns-in_err-types-clause-reads : goal.returns-in_err-types-clause-reads
returns-in_err-types-clause-reads c =
    let p = err_from_is_err_and c.from_residual-in_err-types.result c.from_residual-in_err-types.ensures.1 in
    let e = c.in_err-types.field-0.0 in
    let h = head_view c.in_ok-head.head in
    let P : Result (List Row) SigFault → Type 0 = λ q. Fails e q in
    rw (p.1, p.2) (subst P (sym (signature_table-types c.args.text.now h c.in_ok-head.ensures.reads)) (fails_on e _ (λ s. signatures.after_types c.args.text.now h s.0 s.1) c.in_err-types.ensures.reads))

pub returns-in_err-parts-clause-reads : goal.returns-in_err-parts-clause-reads
returns-in_err-parts-clause-reads c =
    let p = err_from_is_err_and c.from_residual-in_err-parts.result c.from_residual-in_err-parts.ensures.1 in
    let e = c.in_err-parts.field-0.0 in
    let h = head_view c.in_ok-head.head in
    let P : Result (List Row) SigFault → Type 0 = λ q. Fails e q in
    rw (p.1, p.2) (subst P (signature_table-parts c.args.text.now h (types_view c.in_ok-types.types.types) c.in_ok-types.types.next c.in_ok-head.ensures.reads c.in_ok-types.ensures.reads)
    (fails_on e _ (signatures.table_of c.in_ok-head.head.count) c.in_err-parts.ensures.reads))

pub join-requires : goal.join-requires
join-requires c =
    let h = head_view c.in_ok-head.head in
    let fit = parts_fit c.args.text.now h (types_view c.in_ok-types.types.types) c.in_ok-types.types.next (parts_view c.in_ok-parts.parts) c.in_ok-head.head.limited c.in_ok-types.ensures.reads c.in_ok-parts.ensures.reads in
    rw c.in_ok-parts.ensures.count fit

pub returns-in_err-rows-clause-reads : goal.returns-in_err-rows-clause-reads
returns-in_err-rows-clause-reads c =
    let p = err_from_is_err_and c.from_residual-in_err-rows.result c.from_residual-in_err-rows.ensures.1 in
    let e = c.in_err-rows.field-0.0 in
    let h = head_view c.in_ok-head.head in
    let P : Result (List Row) SigFault → Type 0 = λ q. Fails e q in
    rw (p.1, p.2) (subst P (signature_table-joined c.args.text.now h (types_view c.in_ok-types.types.types) c.in_ok-types.types.next (parts_view c.in_ok-parts.parts) c.in_ok-parts.parts.count
    c.in_ok-head.ensures.reads c.in_ok-types.ensures.reads c.in_ok-parts.ensures.reads c.in_ok-parts.ensures.count) c.in_err-rows.ensures)

pub table_of-requires : goal.table_of-requires
table_of-requires c =
    let h = head_view c.in_ok-head.head in
    let n = c.in_ok-parts.parts.count in
    let fit = parts_fit c.args.text.now h (types_view c.in_ok-types.types.types) c.in_ok-types.types.next (parts_view c.in_ok-parts.parts) c.in_ok-head.head.limited c.in_ok-types.ensures.reads c.in_ok-parts.ensures.reads in
    let fits : 0 < n → IsSlots n (slots_begun n (parts_view c.in_ok-parts.parts)) = rw c.in_ok-parts.ensures.count fit in
    let limited : n ≤ 1000 = rw c.in_ok-parts.ensures.count c.in_ok-head.head.limited in
    joined_table n (parts_view c.in_ok-parts.parts) c.in_ok-rows.rows.items limited fits c.in_ok-rows.ensures

pub returns-clause-reads : goal.returns-clause-reads
returns-clause-reads c =
    let h = head_view c.in_ok-head.head in
    let P : Result (List Row) SigFault → Type 0 = λ q. Reads (λ t. t) c.table_of.result q in
    let spelled = signature_table-joined c.args.text.now h (types_view c.in_ok-types.types.types) c.in_ok-types.types.next (parts_view c.in_ok-parts.parts) c.in_ok-parts.parts.count
    c.in_ok-head.ensures.reads c.in_ok-types.ensures.reads c.in_ok-parts.ensures.reads c.in_ok-parts.ensures.count in
    subst P (sym c.in_ok-rows.ensures ∙ spelled) c.table_of.ensures

pub returns-clause-spelled : goal.returns-clause-spelled
returns-clause-spelled c = spelled_on_ok c.table_of.result c.args.text.now (returns-clause-reads c)

pub returns-in_err-head-clause-refused : goal.returns-in_err-head-clause-refused
returns-in_err-head-clause-refused c = refused_on_err c.from_residual.result c.args.text.now (returns-in_err-head-clause-reads c)

pub returns-in_err-types-clause-refused : goal.returns-in_err-types-clause-refused
returns-in_err-types-clause-refused c = refused_on_err c.from_residual-in_err-types.result c.args.text.now (returns-in_err-types-clause-reads c)

pub returns-in_err-parts-clause-refused : goal.returns-in_err-parts-clause-refused
returns-in_err-parts-clause-refused c = refused_on_err c.from_residual-in_err-parts.result c.args.text.now (returns-in_err-parts-clause-reads c)

pub returns-in_err-rows-clause-refused : goal.returns-in_err-rows-clause-refused
returns-in_err-rows-clause-refused c = refused_on_err c.from_residual-in_err-rows.result c.args.text.now (returns-in_err-rows-clause-reads c)

pub returns-clause-refused : goal.returns-clause-refused
returns-clause-refused c = refused_on_err c.table_of.result c.args.text.now (returns-clause-reads c)
