-- A table with vectors, and with one vector: the first error of their text, and of what follows a table that was read.
use Rattle.std.proofs.Common.{◌≡◌, ℕ, List, [], ◌∷◌, ◌++◌, Result, Ok, refl, sym, ap, ◌∙◌, subst}
use Rattle.std.specs.Prelude.{⊤, codes}
use Rattle.std.specs.List.{AllZip}
use Rattle.text_definitions.specs.declared.LexFault.{LexFault}
use Rattle.text_definitions.specs.Text.{word, Line}
use Rattle.text_definitions.specs.Reading.{Reading, ◌>>=◌, begun, start_of, need_line_at}
use Rattle.text_definitions.proofs.Readers.{bind_ok}
use Rattle.table_definitions.specs.Table.{Row}
use Rattle.table_definitions.proofs.LineLaws.{BeginsLine}
use Rattle.cone_text_definitions.specs.VectorText.{vector_at}
use Rattle.surface_definitions.specs.Grammar.{IsVectorLine}
use Rattle.signature_definitions.specs.declared.InputFault.{InputFault}
use Rattle.signature_definitions.specs.Grammar.{AreTableLines}
use Rattle.text_document_definitions.specs.Grammar.{AreTableAndLines}
use Rattle.text_document_definitions.specs.Documents.{worded, next_table_at, vectors_document, vector_document}
use Rattle.text_document_definitions.specs.TextForms.{AreTableText, IsVectorText, AreTableAndVectorsText, AreTableAndVectorText}
use Rattle.text_document_laws.specs.FormLaws.{FaultsComeFirst}
use Rattle.text_document_laws.specs.FaultLaws.{SomeTableAndVector, VectorsFaultsLeaveFirst, VectorFaultsLeaveFirst}
use Rattle.text_document_laws.proofs.Tables.{table_read}
use Rattle.text_document_laws.proofs.Documents.{reads_vectors, end_at}
use Rattle.text_document_laws.proofs.Local.{shows, moved}
use Rattle.text_document_laws.proofs.LocalWords.{as_is}
use Rattle.text_document_laws.proofs.LocalLines.{goes_line}
use Rattle.text_document_laws.proofs.LocalTables.{in_text}
use Rattle.text_document_laws.proofs.Ways.{Sat, Then, Alike, alike_goes, Well, WellOpen, well_goes, well_open, well_behind, from_sat}
use Rattle.text_document_laws.proofs.WordWays.{free_line, well_line}
use Rattle.text_document_laws.proofs.BlockWays.{ends_vector}
use Rattle.text_document_laws.proofs.Chains.{SatBehind, in_next_line}
use Rattle.text_document_laws.proofs.TextReaders.{Read, next_text, left_only, shown_only, copy_alone, copy_same, copy_worded, FaultsAs, faults_bind, copy_next_table}
use Rattle.text_document_laws.proofs.TextWays.{opens_next_text}
use Rattle.text_document_laws.proofs.TextGrammar.{text_blocks, begins, next_found}
use Rattle.text_document_laws.proofs.TextEnds.{closing, Any, closing_none, none_closing, alike_closing, well_closing, alike_chained, nothing}
use Rattle.text_document_laws.proofs.FirstFaults.{left_first, comes_first}
use Rattle.text_document_laws.proofs.BehindTables.{first_behind}
use Rattle.text_document_laws.proofs.HaveText.{one_line}
use Rattle.text_document_laws.proofs.FirstTables.{closing_faults, from_closing}
use Rattle.text_document_laws.proofs.FirstLines.{lines_faults_stand_first, lines_faults_leave_first}
use Rattle.text_document_laws.proofs.Given.{Numbers}

pub vectors_faults_stand_first : FaultsComeFirst vectors_document AreTableAndVectorsText
vectors_faults_stand_first bytes f e = lines_faults_stand_first vector_at IsVectorLine reads_vectors ends_vector.goes ends_vector.well bytes f e

pub vectors_faults_leave_first : VectorsFaultsLeaveFirst
vectors_faults_leave_first bytes rows d f table e = lines_faults_leave_first vector_at IsVectorLine reads_vectors ends_vector.goes ends_vector.well bytes rows d f table e

-- one vector, after which no line may follow
abbrev last_vector : Reading → Read
last_vector c = vector_at c >>= λ (v : Numbers). closing v.1

abbrev vector_line : Reading → Read
vector_line c = moved need_line_at c >>= λ (u : ⊤ × Reading). last_vector u.1

abbrev read : Reading → Read
read c = next_text c >>= λ (u : ⊤ × Reading). vector_line u.1

alike_last : Alike last_vector
alike_last = alike_chained vector_at (λ v. closing) (alike_goes vector_at ends_vector.goes) (λ v. alike_closing)

alike_line : Alike vector_line
alike_line = alike_chained (moved need_line_at) (λ u. last_vector) (alike_goes (moved need_line_at) goes_line) (λ u. alike_last)

well_last : (c : Reading) → Well as_is last_vector Any c
well_last c = well_goes as_is vector_at (λ v. closing) Any (λ v. alike_closing) c (ends_vector.goes c) (ends_vector.well (Then (λ v. closing) Any) nothing refl (λ v. from_closing) c) (λ v d e. well_closing d)

-- the line `vec`
empty_vector : Reading
empty_vector = record nothing { current = record { number = 0; tokens = word 0 (codes "vec") ∷ []; end = 0 } }

empty_line : IsVectorLine empty_vector.current []
unfolding empty_vector
empty_line = record { ws = []; are_words = (refl, tt); entries = tt }

empty_later : empty_vector.later ≡ []
unfolding empty_vector
empty_later = refl

sat_last : Sat last_vector Any
sat_last =
    let v : (d : Reading) × (vector_at empty_vector ≡ Ok ([], d)) × (d.later ≡ empty_vector.later) = reads_vectors.complete empty_vector [] empty_line in
    record {
      start = empty_vector;
      value = tt;
      next = v.0;
      reads = ap (λ (r : Result Numbers LexFault). r >>= λ (x : Numbers). closing x.1) v.1 ∙ closing_none v.0 (v.2 ∙ empty_later);
      aim = tt;
    }

sat_line : SatBehind vector_line Any
sat_line = in_next_line last_vector Any sat_last

well_vector_behind : (c : Reading) → WellOpen as_is vector_line Any c
well_vector_behind c =
    well_behind as_is (moved need_line_at) (λ u. last_vector) Any (λ u. alike_last) c (free_line c) (well_line (Then (λ u. last_vector) Any) c sat_last.start (from_sat last_vector Any sat_last)) (λ u d e. well_last d)

well_read : (c : Reading) → WellOpen as_is read Any c
well_read c =
    well_open as_is next_text (λ u. vector_line) Any (λ u. alike_line) c (opens_next_text.goes c) (opens_next_text.well (Then (λ u. vector_line) Any) sat_line.0.start sat_line.1 (λ u. from_sat vector_line Any sat_line.0) c)
    (λ u d e. well_vector_behind d)

abbrev Given : (Reading → Read) → Reading → Type 0
Given reader c = (y : ⊤ × Reading) × (reader c ≡ Ok y)

last_given : (c : Reading) → c.later ≡ [] → IsVectorText c.current → Given last_vector c
last_given c none (xs, h) =
    let v : (d : Reading) × (vector_at c ≡ Ok (xs, d)) × (d.later ≡ c.later) = reads_vectors.complete c xs h in
    ((tt, v.0), ap (λ (r : Result Numbers LexFault). r >>= λ (x : Numbers). closing x.1) v.1 ∙ closing_none v.0 (v.2 ∙ none))

-- the one line of a vector
abbrev OneVector : List Line → Type 0
OneVector lines = (line : Line) × (lines ≡ line ∷ []) × IsVectorText line

vector_complete : (c : Reading) → OneVector c.later → Given vector_line c
vector_complete c h =
    let v : Given last_vector (begun h.0 [] c) = last_given (begun h.0 [] c) refl h.2 in
    (v.0, ap (λ (r : Read). r >>= λ (u : ⊤ × Reading). last_vector u.1) (next_found c h.0 [] h.1) ∙ v.1)

complete : (c : Reading) → AreTableAndVectorText c.later → Given read c
complete c h =
    let t : (d : Reading) × (next_text c ≡ Ok (tt, d)) × (d.later ≡ h.1 ∷ []) = text_blocks.complete c tt h.0 (h.1 ∷ []) h.2 h.3 in
    let v : Given vector_line t.0 = vector_complete t.0 (h.1, t.2, h.4) in
    (v.0, ap (λ (r : Read). r >>= λ (u : ⊤ × Reading). vector_line u.1) t.1 ∙ v.1)

last_taken : (b : Reading) (u : ⊤) (next : Reading) → last_vector b ≡ Ok (u, next) → (b.later ≡ []) × IsVectorText b.current
last_taken b u next e =
    let p : (v : Numbers) × (vector_at b ≡ Ok v) × (closing v.1 ≡ Ok (u, next)) = bind_ok (vector_at b) (λ (v : Numbers). closing v.1) (u, next) e in
    let s : IsVectorLine b.current (p.0).0 × ((p.0).1.later ≡ b.later) = reads_vectors.sound b (p.0).0 (p.0).1 p.1 in
    (sym s.1 ∙ (none_closing (p.0).1 u next p.2).0, ((p.0).0, s.0))

line_taken : (c b : Reading) → BeginsLine c b → (b.later ≡ []) × IsVectorText b.current → OneVector c.later
line_taken c b l v = (
  l.line,
  l.lines ∙ ap (λ (ls : List Line). l.line ∷ ls) (ap (λ (q : Reading). q.later) (sym l.left) ∙ v.0),
  subst (λ (q : Reading). IsVectorText q.current) l.left v.1,
)

vector_sound : (o : Reading) (u : ⊤) (next : Reading) → vector_line o ≡ Ok (u, next) → Any u (shows next) → OneVector o.later
vector_sound o u next e a =
    let q : (x : ⊤ × Reading) × (moved need_line_at o ≡ Ok x) × (last_vector x.1 ≡ Ok (u, next)) = bind_ok (moved need_line_at o) (λ (x : ⊤ × Reading). last_vector x.1) (u, next) e in
    line_taken o (q.0).1 (begins o (q.0).0 (q.0).1 q.1) (last_taken (q.0).1 u next q.2)

sound : (o : Reading) (u : ⊤) (next : Reading) → read o ≡ Ok (u, next) → Any u (shows next) → AreTableAndVectorText o.later
sound o u next e a =
    let p : (x : ⊤ × Reading) × (next_text o ≡ Ok x) × (vector_line x.1 ≡ Ok (u, next)) = bind_ok (next_text o) (λ (x : ⊤ × Reading). vector_line x.1) (u, next) e in
    let t : (lines : List Line) × (o.later ≡ lines ++ (p.0).1.later) × AreTableText lines = text_blocks.sound o (p.0).0 (p.0).1 p.1 in
    let v : OneVector (p.0).1.later = vector_sound (p.0).1 u next p.2 a in
    (t.0, v.0, t.1 ∙ ap (λ (ls : List Line). t.0 ++ ls) v.1, t.2, v.2)

abbrev line_on : List Row → Reading → Result (List Row × List ℕ) InputFault
line_on rows line = worded (vector_at line) >>= λ (v : Numbers). end_at v.1 >>= λ (last : Reading). Ok (rows, v.0)

abbrev vector_on : List Row → Reading → Result (List Row × List ℕ) InputFault
vector_on rows d = worded (need_line_at d) >>= λ (line : Reading). line_on rows line

behind_faults : (rows : List Row) (d : Reading) → FaultsAs in_text (vector_on rows d) (vector_line d)
behind_faults rows d =
    faults_bind in_text shown_only (worded (need_line_at d)) (moved need_line_at d) (λ (line : Reading). line_on rows line) (λ (u : ⊤ × Reading). last_vector u.1)
    (copy_worded shown_only (need_line_at d) (moved need_line_at d) (copy_alone (need_line_at d)))
    (λ line q. faults_bind in_text (λ (v : Numbers). v) (worded (vector_at line)) (vector_at line) (λ (v : Numbers). end_at v.1 >>= λ (last : Reading). Ok (rows, v.0)) (λ (v : Numbers). closing v.1)
    (copy_worded (λ (v : Numbers). v) (vector_at line) (vector_at line) (copy_same (vector_at line))) (λ v s. closing_faults (rows, v.0) v.1))

pub vector_faults_stand_first : FaultsComeFirst vector_document AreTableAndVectorText
unfolding vector_document
vector_faults_stand_first bytes f e =
    let c : Reading = start_of bytes in
    comes_first read Any AreTableAndVectorText complete sound bytes f.place
    (well_read c f
    (faults_bind in_text left_only (next_table_at c) (next_text c) (λ (t : List Row × Reading). vector_on t.0 t.1) (λ (u : ⊤ × Reading). vector_line u.1) (copy_next_table c) (λ t p. behind_faults t.0 t.1) f e))

-- after a table that was read
put : (table rest : List Line) (rows : List Row) → AreTableLines table rows → OneVector rest → SomeTableAndVector (table ++ rest)
put table rest rows t h =
    let vector : IsVectorText h.0 = h.2 in
    (rows, vector.0, (table, rest, refl, t, subst (λ (ls : List Line). AllZip IsVectorLine ls (vector.0 ∷ [])) (sym h.1) (vector.1, tt)))

taken : (lines : List Line) → SomeTableAndVector lines → (rows : List Row) × (table : List Line) × (rest : List Line) × (lines ≡ table ++ rest) × AreTableLines table rows × OneVector rest
taken lines h = (let t : AreTableAndLines IsVectorLine lines h.0 (h.1 ∷ []) = h.2 in (h.0, t.0, t.1, t.2, t.3, one_line t.1 h.1 t.4))

pub vector_faults_leave_first : VectorFaultsLeaveFirst
unfolding vector_document
vector_faults_leave_first bytes rows d f table e =
    first_behind OneVector SomeTableAndVector put taken (start_of bytes) rows d f.place table
    (left_first vector_line Any OneVector vector_complete vector_sound d (table_read (start_of bytes) rows d table).at_end f.place
    (well_vector_behind d f (behind_faults rows d f (sym (ap (λ (r : Result (List Row × Reading) InputFault). r >>= λ (t : List Row × Reading). vector_on t.0 t.1) table) ∙ e))))
