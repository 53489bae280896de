-- A table in either form is read from the remaining lines if and only if they begin with one; the first error of its
-- text.
use Rattle.std.proofs.Common.{◌≡◌, List, ◌++◌, Result, Ok, Err, refl, subst}
use Rattle.std.specs.Prelude.{⊤}
use Rattle.text_definitions.specs.declared.LexFault.{LexFault}
use Rattle.text_definitions.specs.Text.{Line}
use Rattle.text_definitions.specs.Reading.{Reading}
use Rattle.table_definitions.specs.Table.{Row}
use Rattle.signature_definitions.specs.declared.InputFault.{InputFault}
use Rattle.text_document_definitions.specs.Documents.{next_table_at}
use Rattle.text_document_definitions.specs.TextForms.{AreTableText}
use Rattle.text_document_laws.specs.TableLaws.{ReadsTable, AnyTablesAreRead, BeginWithTableText, AnyTableFaultsComeFirst}
use Rattle.text_document_laws.proofs.Local.{shows}
use Rattle.text_document_laws.proofs.LocalTables.{in_text}
use Rattle.text_document_laws.proofs.Tables.{TableLines, table_read, TableFound, table_found}
use Rattle.text_document_laws.proofs.TextReaders.{Read, next_text, left_only, Copies, copy_next_table}
use Rattle.text_document_laws.proofs.TextWays.{opens_next_text}
use Rattle.text_document_laws.proofs.TextGrammar.{text_blocks}
use Rattle.text_document_laws.proofs.TextEnds.{Any, nothing}
use Rattle.text_document_laws.proofs.FirstFaults.{left_first}

lines_of_read : (c : Reading) (rows : List Row) (rest : List Line) (r : ReadsTable c rows rest) (t : TableLines c rows r.left) → c.later ≡ t.lines ++ rest
lines_of_read c rows rest r t = subst (λ (ls : List Line). c.later ≡ t.lines ++ ls) r.later t.split

pub any_tables_read : AnyTablesAreRead
any_tables_read c rows rest = (
  λ r. (let t : TableLines c rows r.left = table_read c rows r.left r.read in (t.lines, lines_of_read c rows rest r t, t.table_lines)),
  λ h. (let t : TableFound c rows rest = table_found c rows h.0 rest h.1 h.2 in record { left = t.left; read = t.read; later = t.later; at_end = t.at_end }),
)

complete : (c : Reading) → BeginWithTableText c.later → (y : ⊤ × Reading) × (next_text c ≡ Ok y)
complete c h = (let t : (d : Reading) × (next_text c ≡ Ok (tt, d)) × (d.later ≡ h.1) = text_blocks.complete c tt h.0 h.1 h.2 h.3 in ((tt, t.0), t.1))

sound : (o : Reading) (u : ⊤) (next : Reading) → next_text o ≡ Ok (u, next) → Any u (shows next) → BeginWithTableText o.later
sound o u next e a = (let t : (lines : List Line) × (o.later ≡ lines ++ next.later) × AreTableText lines = text_blocks.sound o u next e in (t.0, next.later, t.1, t.2))

refused_too : (r : Result (List Row × Reading) InputFault) (s : Read) (f : LexFault) → Copies in_text left_only r s → r ≡ Err (in_text f) → s ≡ Err f
refused_too (Ok x) s f c e = absurd cc
refused_too (Err g) s f c e = (let same : g ≡ in_text f = cc in c f same)

pub any_table_faults_stand_first : AnyTableFaultsComeFirst
any_table_faults_stand_first c f none e =
    left_first next_text Any BeginWithTableText complete sound c none f.place (opens_next_text.well Any nothing refl (λ u. tt) c f (refused_too (next_table_at c) (next_text c) f (copy_next_table c) e))
