use Rattle.std.proofs.Common.{◌*◌, List, Option, ◌∙◌, sym, subst, ap}
use Rattle.std.specs.Prelude.{Result, Ok}
use Rattle.std.proofs.lemmas.Result.{err_from_is_err_and}
use Rattle.table_definitions.specs.Table.{Row, Gluing}
use Rattle.signature_definitions.specs.declared.SigFault.{SigFault}
use Rattle.signature_text_laws.specs.Faults.{Fails}
use Rattle.signature_codec.specs.Views.{parts_view, slots_view}
use Rattle.signature_text_laws.specs.Slots.{slot_rows, slot_faces, slots_begun}
use Rattle.signature_text_laws.proofs.ReadLaws.{fails_on, next_ok}
use Rattle.signature_text_laws.proofs.Simulation.{slots_join}
use Rattle.signature_codec.proofs.FacesJoined.{joined_none}
use Rattle.signature_codec.proofs.joined.join.Goals as goal

pub returns-then-parts-eq0 : goal.returns-then-parts-eq0
returns-then-parts-eq0 c = sym (joined_none c.args.parts.now.count (parts_view c.args.parts.now) c.if-parts-eq0.true) ∙ ap Ok (sym c.new.ensures.items)

pub returns-in_err-join_faces : goal.returns-in_err-join_faces
returns-in_err-join_faces c =
    let p = err_from_is_err_and c.from_residual-in_err-join_faces.result c.from_residual-in_err-join_faces.ensures.1 in
    let e = c.in_err-join_faces.field-0.0 in
    let n = c.args.parts.now.count in
    let P : Result (List Row) SigFault → Type 0 = λ q. Fails e q in
    let Q : List (Option (Option Gluing)) → Type 0 = λ read_faces. Fails e (slot_faces (4 * n) 0 (record { read_faces = read_faces; seen = 1; parts = parts_view c.args.parts.now })) in
    rw (p.1, p.2) (subst P (slots_join n (parts_view c.args.parts.now) c.requires) (fails_on e (slot_faces (4 * n) 0 (slots_begun n (parts_view c.args.parts.now))) (λ s. Ok (slot_rows n s.read_faces)) (subst Q c.in_ok-read_faces.ensures.unmet c.in_err-join_faces.ensures)))

pub returns : goal.returns
returns c =
    let n = c.args.parts.now.count in
    let begun = ap (λ (read_faces : List (Option (Option Gluing))). slot_faces (4 * n) 0 (record { read_faces = read_faces; seen = 1; parts = parts_view c.args.parts.now })) c.in_ok-read_faces.ensures.unmet in
    let a = slots_join n (parts_view c.args.parts.now) c.requires in
    let b = next_ok (slot_faces (4 * n) 0 (slots_begun n (parts_view c.args.parts.now))) (slots_view c.join_faces.new.self) (λ s. Ok (slot_rows n s.read_faces)) (sym begun ∙ c.in_ok-join_faces.ensures) in
    let r = c.in_ok-rows.ensures in
    let v = c.deref.ensures.value in
    sym a ∙ b ∙ ap (λ read_faces. Ok (slot_rows n read_faces)) (sym v) ∙ ap Ok (sym r)
