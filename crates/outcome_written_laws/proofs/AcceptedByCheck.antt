-- The one outcome of `check` for the text of a certificate is that it is accepted, if the text is short enough for an
-- input.
use Rattle.std.proofs.Common.{◌≡◌, ◌≤◌, ℕ, ◌+◌, ◌*◌, Bool, true, false, List, length, Option, sym, ap, subst, arith}
use Rattle.std.specs.Prelude.{◌↔◌}
use Rattle.std.specs.Bool.{MatchBool}
use Rattle.table_definitions.specs.Table.{max_tets, Row, IsTable}
use Rattle.move_definitions.specs.Moves.{Move}
use Rattle.move_definitions.specs.Certificates.{standard_sphere, IsCertificate}
use Rattle.certificate_definitions.specs.Makings.{IsMade}
use Rattle.certificate_laws.proofs.Descents.{descents_end_lem, descents_certify_lem}
use Rattle.certificate_laws.proofs.Made.{made_are_certified_lem, made_table, ways_back_lead_lem}
use Rattle.certificate_laws.proofs.Sphere.{sphere_table}
use Rattle.certificate_laws.proofs.Makings.{making_short}
use Rattle.text_document_definitions.specs.Documents.{moves_document}
use Rattle.command_definitions.specs.declared.Request.{Request}
use Rattle.command_definitions.specs.declared.Request.TheVariants.{Check, Make}
use Rattle.command_definitions.specs.Requests.{most_moves}
use Rattle.command_definitions.proofs.Accepted.{accepted_in_range}
use Rattle.outcome_definitions.specs.Answers.{IsOutcomeOf, IsAnswerTo, is_too_long, most_bytes}
use Rattle.outcome_definitions.specs.Outcomes.{Outcome, too_long_outcome, IsReadOutcome}
use Rattle.outcome_definitions.specs.Canonical.{done}
use Rattle.outcome_definitions.specs.Lines.{accepted_text}
use Rattle.outcome_definitions.specs.Certificates.{table_then_moves, IsCheckAnswer}
use Rattle.outcome_definitions.specs.Makings.{IsMakeAnswer}
use Rattle.outcome_answer_laws.proofs.Asked.{within, not_long}
use Rattle.outcome_written_laws.specs.Certificates.{IsAcceptedByCheck, CheckAcceptsCertificates, CheckAcceptsDescents, CheckAcceptsMade}
use Rattle.outcome_written_laws.proofs.Accepted.{certificates_accepted}
use Rattle.outcome_written_laws.proofs.Lengths.{written_moves_short}

answered : (b : Bool) (A : Type 0) (o : Outcome) → b ≡ false → A → MatchBool b (o ≡ too_long_outcome) A
answered true A o e h = absurd (let z : true ≡ false = e in cc)
answered false A o e h = h

accepted_by_check : (text : List ℕ) → length text ≤ most_bytes → ((o : Outcome) → IsReadOutcome (moves_document text) IsCheckAnswer o ↔ (o ≡ done accepted_text)) → IsAcceptedByCheck text
accepted_by_check text short read words o asked = (
  λ h. (read o).0 (within (is_too_long Check text) (IsAnswerTo Check text o) o (not_long Check text short) (subst (λ (r : Option Request). IsOutcomeOf r text o) asked h)),
  λ e. subst (λ (r : Option Request). IsOutcomeOf r text o) (sym asked) (answered (is_too_long Check text) (IsAnswerTo Check text o) o (not_long Check text short) ((read o).1 e)),
)

pub check_accepts_certificates : CheckAcceptsCertificates
check_accepts_certificates rows moves table c short = accepted_by_check (table_then_moves rows moves) short (certificates_accepted rows moves table c)

-- the text of at most `max_tets` moves is within the limit of an input
short_by : (rows : List Row) (moves : List Move) → IsTable rows → IsCertificate rows moves → length moves ≤ max_tets → length (table_then_moves rows moves) ≤ most_bytes
short_by rows moves table c limited =
    let n : length rows ≤ max_tets = table.limited in
    let s : length (table_then_moves rows moves) ≤ 9 + 37 * length rows + 28 * length moves = written_moves_short rows moves c.0 table c.1 in
    omega arith

pub check_accepts_descents : CheckAcceptsDescents
check_accepts_descents rows d table h r =
    let c : IsCertificate rows d.moves = descents_certify_lem rows d.moves d.table table h.descent (h.reached.0 r) in
    let ends : length d.table + length d.moves ≤ length rows = descents_end_lem rows d.moves d.table table h.descent in
    let n : length rows ≤ max_tets = table.limited in
    check_accepts_certificates rows d.moves table c (short_by rows d.moves table c (omega arith))

made_short : (seed most : ℕ) (rows : List Row) (certificate : List Move) → most ≤ most_moves → IsMade seed most rows certificate → length certificate ≤ max_tets
made_short seed most rows certificate limited (moves, making, (end, by, back)) =
    let same : length certificate ≡ length moves = (ways_back_lead_lem standard_sphere moves rows certificate end by sphere_table back).3 in
    let m : length moves ≤ most = making_short most seed standard_sphere moves rows making in
    omega arith

pub check_accepts_made : CheckAcceptsMade
check_accepts_made words bytes o seed most asked outcome =
    let h : IsMakeAnswer seed most o = subst (λ (r : Option Request). IsOutcomeOf r bytes o) asked outcome in
    let limited : most ≤ most_moves = accepted_in_range words (Make seed most) asked in
    let table : IsTable h.table = made_table seed most h.table h.certificate h.made in
    let c : IsCertificate h.table h.certificate = made_are_certified_lem seed most h.table h.certificate h.made in
    let is : o.text ≡ table_then_moves h.table h.certificate = ap (λ (p : Outcome). p.text) h.outcome in
    subst IsAcceptedByCheck (sym is) (check_accepts_certificates h.table h.certificate table c (short_by h.table h.certificate table c (made_short seed most h.table h.certificate limited h.made)))
