-- One table, two tables, and any number of tables: the first error of their text.
use Rattle.std.proofs.Common.{◌≡◌, ℕ, zero, suc, List, [], ◌∷◌, ◌++◌, Result, Ok, Err, inl, inr, refl, sym, ap, ◌∙◌, subst}
use Rattle.std.specs.Prelude.{⊤}
use Rattle.std.proofs.lemmas.List.{append-nil}
use Rattle.text_definitions.specs.declared.LexKind.TheVariants.{BadByte, ExtraWord}
use Rattle.text_definitions.specs.declared.LexFault.{LexFault}
use Rattle.text_definitions.specs.Text.{Token, word, stray, Line, lines_of}
use Rattle.text_definitions.specs.Reading.{Reading, ◌>>=◌, begun, fault_at, start_of, end_from, end_line_at}
use Rattle.text_definitions.proofs.Readers.{bind_ok}
use Rattle.table_definitions.specs.Table.{Row}
use Rattle.signature_definitions.specs.declared.InputFault.{InputFault}
use Rattle.signature_definitions.specs.SignatureText.{any_table_at}
use Rattle.text_document_definitions.specs.Documents.{worded, no_line_from, next_table_at, tables_on, tables_from, table_document, two_tables_document, tables_document}
use Rattle.text_document_definitions.specs.Symbols.{Symbol}
use Rattle.text_document_definitions.specs.TextForms.{AreTableText, AreTwoTablesText, AreManyTablesText, AreTablesText}
use Rattle.text_document_laws.specs.FormLaws.{FaultsComeFirst}
use Rattle.text_document_laws.proofs.Documents.{end_at}
use Rattle.text_document_laws.proofs.Local.{shows}
use Rattle.text_document_laws.proofs.LocalWords.{as_is}
use Rattle.text_document_laws.proofs.LocalLines.{none_stop, by_lines}
use Rattle.text_document_laws.proofs.LocalTables.{in_text}
use Rattle.text_document_laws.proofs.Ways.{From, Then, Alike, alike_goes, Well, WellOpen, well_open, from_sat}
use Rattle.text_document_laws.proofs.Chains.{SatBehind, behind_both}
use Rattle.text_document_laws.proofs.TextReaders.{Read, text_at, next_text, left_only, Copies, copy_bind, copy_then, FaultsAs, faults_bind, copy_table, copy_next_table}
use Rattle.text_document_laws.proofs.TextWays.{ends_text, opens_next_text}
use Rattle.text_document_laws.proofs.TextGrammar.{text_taken, text_given, text_blocks}
use Rattle.text_document_laws.proofs.TextEnds.{first_fault, refused_line, closing, Any, closing_none, none_closing, alike_closing, well_closing, alike_chained, AtEnd, nothing, each_from, well_each, each_sound, each_complete}
use Rattle.text_document_laws.proofs.FirstFaults.{comes_first}
use Rattle.text_document_laws.proofs.Given.{Tables}

-- no line may follow
abbrev ended : {X : Type 0} → X → List Token → Reading → Result X InputFault
ended x ts b = worded (end_from ts b) >>= λ (last : Reading). Ok x

end_faults : {X : Type 0} (x : X) (ts : List Token) (b : Reading) → FaultsAs {Y = ⊤ × Reading} in_text (ended x ts b) (Err (first_fault ts b))
end_faults x [] b f e = absurd cc
end_faults {X} x (stray column ∷ ts) b f e = (let same : fault_at b column BadByte ≡ f = cc in ap (λ (g : LexFault). Err g) same)
end_faults {X} x (word column w ∷ ts) b f e = (let same : fault_at b column ExtraWord ≡ f = cc in ap (λ (g : LexFault). Err g) same)

pub closing_faults : {X : Type 0} (x : X) (d : Reading) → FaultsAs in_text (end_at d >>= λ (last : Reading). Ok x) (closing d)
unfolding end_line_at
closing_faults {X} x d = by_lines_left d.later
  where
    by_lines_left : (ls : List Line) → FaultsAs in_text (worded (no_line_from ls d) >>= λ (last : Reading). Ok x) (by_lines none_stop refused_line ls d)
    by_lines_left [] f e = absurd cc
    by_lines_left (l ∷ ls) f e = end_faults x l.tokens (begun l ls d) f e

-- the text of a table, after which no line may follow
abbrev pub one_text : Reading → Read
one_text c = next_text c >>= λ (u : ⊤ × Reading). closing u.1

pub one_complete : (c : Reading) → AreTableText c.later → (y : ⊤ × Reading) × (one_text c ≡ Ok y)
one_complete c h =
    let t : (d : Reading) × (next_text c ≡ Ok (tt, d)) × (d.later ≡ []) = text_blocks.complete c tt c.later [] (sym (append-nil c.later)) h in
    ((tt, t.0), ap (λ (r : Read). r >>= λ (u : ⊤ × Reading). closing u.1) t.1 ∙ closing_none t.0 t.2)

pub one_sound : (o : Reading) (u : ⊤) (next : Reading) → one_text o ≡ Ok (u, next) → Any u (shows next) → AreTableText o.later
one_sound o u next e a =
    let b : (x : ⊤ × Reading) × (next_text o ≡ Ok x) × (closing x.1 ≡ Ok (u, next)) = bind_ok (next_text o) (λ (x : ⊤ × Reading). closing x.1) (u, next) e in
    let t : (lines : List Line) × (o.later ≡ lines ++ (b.0).1.later) × AreTableText lines = text_blocks.sound o (b.0).0 (b.0).1 b.1 in
    let whole : o.later ≡ t.0 = t.1 ∙ ap (λ (ls : List Line). t.0 ++ ls) (none_closing (b.0).1 u next b.2).0 ∙ append-nil t.0 in
    subst AreTableText (sym whole) t.2

pub from_closing : From closing Any (shows nothing)
from_closing = record { start = nothing; there = refl; value = tt; next = nothing; reads = refl; aim = tt }

pub alike_one : Alike one_text
alike_one = alike_chained next_text (λ u. closing) (alike_goes next_text opens_next_text.goes) (λ u. alike_closing)

pub well_one : (c : Reading) → WellOpen as_is one_text Any c
well_one c = well_open as_is next_text (λ u. closing) Any (λ u. alike_closing) c (opens_next_text.goes c) (opens_next_text.well (Then (λ u. closing) Any) nothing refl (λ u. from_closing) c) (λ u d e. well_closing d)

pub one_faults : {X : Type 0} (x : X) (c : Reading) → FaultsAs {X = X × List Row} in_text (next_table_at c >>= λ (s : List Row × Reading). end_at s.1 >>= λ (last : Reading). Ok (x, s.0)) (one_text c)
one_faults {X} x c =
    faults_bind in_text left_only (next_table_at c) (next_text c) (λ (s : List Row × Reading). end_at s.1 >>= λ (last : Reading). Ok (x, s.0)) (λ (u : ⊤ × Reading). closing u.1) (copy_next_table c)
    (λ s q. closing_faults (x, s.0) s.1)

pub table_faults_stand_first : FaultsComeFirst table_document AreTableText
unfolding table_document
table_faults_stand_first bytes f e =
    comes_first one_text Any AreTableText one_complete one_sound bytes f.place
    (well_one (start_of bytes) f
    (faults_bind in_text left_only (next_table_at (start_of bytes)) (next_text (start_of bytes)) (λ (t : List Row × Reading). end_at t.1 >>= λ (last : Reading). Ok t.0) (λ (u : ⊤ × Reading). closing u.1)
    (copy_next_table (start_of bytes)) (λ t p. closing_faults t.0 t.1) f e))

-- the text of two tables
abbrev two_texts : Reading → Read
two_texts c = next_text c >>= λ (u : ⊤ × Reading). one_text u.1

two_complete : (c : Reading) → AreTwoTablesText c.later → (y : ⊤ × Reading) × (two_texts c ≡ Ok y)
two_complete c h =
    let t : (d : Reading) × (next_text c ≡ Ok (tt, d)) × (d.later ≡ h.1) = text_blocks.complete c tt h.0 h.1 h.2 h.3 in
    let o : (y : ⊤ × Reading) × (one_text t.0 ≡ Ok y) = one_complete t.0 (subst AreTableText (sym t.2) h.4) in
    (o.0, ap (λ (r : Read). r >>= λ (u : ⊤ × Reading). one_text u.1) t.1 ∙ o.1)

two_sound : (o : Reading) (u : ⊤) (next : Reading) → two_texts o ≡ Ok (u, next) → Any u (shows next) → AreTwoTablesText o.later
two_sound o u next e a =
    let b : (x : ⊤ × Reading) × (next_text o ≡ Ok x) × (one_text x.1 ≡ Ok (u, next)) = bind_ok (next_text o) (λ (x : ⊤ × Reading). one_text x.1) (u, next) e in
    let t : (lines : List Line) × (o.later ≡ lines ++ (b.0).1.later) × AreTableText lines = text_blocks.sound o (b.0).0 (b.0).1 b.1 in
    (t.0, (b.0).1.later, t.1, t.2, one_sound (b.0).1 u next b.2 a)

sat_one : SatBehind one_text Any
sat_one = behind_both next_text (λ u. closing) Any (λ u. alike_closing) (opens_next_text.sat (Then (λ u. closing) Any) nothing refl (λ u. from_closing))

well_two : (c : Reading) → WellOpen as_is two_texts Any c
well_two c =
    well_open as_is next_text (λ u. one_text) Any (λ u. alike_one) c (opens_next_text.goes c) (opens_next_text.well (Then (λ u. one_text) Any) sat_one.0.start sat_one.1 (λ u. from_sat one_text Any sat_one.0) c) (λ u d e. well_one d)

pub two_tables_faults_stand_first : FaultsComeFirst two_tables_document AreTwoTablesText
unfolding two_tables_document
two_tables_faults_stand_first bytes f e =
    comes_first two_texts Any AreTwoTablesText two_complete two_sound bytes f.place
    (well_two (start_of bytes) f
    (faults_bind in_text left_only (next_table_at (start_of bytes)) (next_text (start_of bytes))
    (λ (t : List Row × Reading). next_table_at t.1 >>= λ (s : List Row × Reading). end_at s.1 >>= λ (last : Reading). Ok (t.0, s.0)) (λ (u : ⊤ × Reading). one_text u.1) (copy_next_table (start_of bytes))
    (λ t p. one_faults t.0 t.1) f e))

-- the text of any number of tables
pub copy_tables : (most : List Line) (c : Reading) → Copies in_text left_only (tables_from most c) (each_from text_at most c)
unfolding tables_from each_from
copy_tables [] c = refl
copy_tables (m ∷ most) c = by_lines_left c.later (copy_tables most)
  where
    by_lines_left : (ls : List Line) → ((d : Reading) → Copies in_text left_only (tables_from most d) (each_from text_at most d))
        → Copies in_text left_only (tables_on ls c (λ d. tables_from most d)) (by_lines none_stop (λ b. text_at b >>= λ (x : ⊤ × Reading). each_from text_at most x.1) ls c)
    by_lines_left [] others = refl
    by_lines_left (l ∷ ls) others =
        copy_bind in_text left_only left_only (any_table_at (begun l ls c)) (text_at (begun l ls c)) (λ (t : List Row × Reading). tables_from most t.1 >>= λ (ts : Tables). Ok (t.0 ∷ ts.0, ts.1)) (λ (x : ⊤ × Reading). each_from text_at most x.1)
        (copy_table (begun l ls c)) (λ t. copy_then in_text left_only left_only (tables_from most t.1) (each_from text_at most t.1) (λ (ts : Tables). Ok (t.0 ∷ ts.0, ts.1)) (others t.1) (λ ts. refl))

one_table : (b : Reading) (u : ⊤) (d : Reading) → text_at b ≡ Ok (u, d) → AreTablesText d.later → AreTablesText (b.current ∷ b.later)
one_table b u d e h =
    let t : (lines : List Line) × (b.later ≡ lines ++ d.later) × AreTableText (b.current ∷ lines) = text_taken b u d e in
    (suc h.0, (b.current ∷ t.0, d.later, ap (λ (ls : List Line). b.current ∷ ls) t.1, t.2, h.1))

abbrev NextTable : Reading → Type 0
NextTable b = (x : ⊤) × (d : Reading) × (text_at b ≡ Ok (x, d)) × AreTablesText d.later

first_table : (b : Reading) (n : ℕ) (front back : List Line) → b.current ∷ b.later ≡ front ++ back → AreTableText front → AreManyTablesText n back → NextTable b
first_table b n [] back split (inl h) more = absurd h
first_table b n [] back split (inr h) more = absurd h
first_table b n (l ∷ front) back split h more =
    let head : b.current ≡ l = cc in
    let tail : b.later ≡ front ++ back = cc in
    let t = text_given b front back tail (subst (λ (k : Line). AreTableText (k ∷ front)) (sym head) h) in
    (tt, t.0, t.1, (n, subst (λ (ls : List Line). AreManyTablesText n ls) (sym t.2) more))

pub next_table : (b : Reading) → AreTablesText (b.current ∷ b.later) → NextTable b
next_table b (zero, h) = absurd cc
next_table b (suc n, h) = first_table b n h.0 h.1 h.2 h.3 h.4

pub well_line_text : (Aim : ⊤ → List Symbol → Type 0) (k : Reading) → k.current.tokens ≡ [] → ((x : ⊤) → Aim x (shows k)) → (c : Reading) → Well as_is text_at Aim c
well_line_text Aim k none a c = ends_text.well Aim k none a c

pub many_sound : (most : List Line) (o : Reading) (u : ⊤) (next : Reading) → each_from text_at most o ≡ Ok (u, next) → AtEnd u (shows next) → AreTablesText o.later
many_sound most o u next e a = each_sound text_at AreTablesText (0, refl) one_table most o u next e (a next refl)

pub tables_faults_stand_first : FaultsComeFirst tables_document AreTablesText
unfolding tables_document
tables_faults_stand_first bytes f e =
    let most : List Line = lines_of bytes in
    comes_first (each_from text_at most) AtEnd AreTablesText (each_complete text_at AreTablesText next_table most) (many_sound most) bytes f.place
    (well_each text_at ends_text.goes well_line_text most (start_of bytes) f
    (copied (tables_from most (start_of bytes)) (each_from text_at most (start_of bytes)) (copy_tables most (start_of bytes)) e))
  where
    copied : (r : Result Tables InputFault) (s : Read) → Copies in_text left_only r s → ◌≡◌ {A = Result (List (List Row)) InputFault} (r >>= λ (ts : Tables). Ok ts.0) (Err (in_text f)) → s ≡ Err f
    copied (Ok x) s c e = absurd cc
    copied (Err g) s c e = (let same : g ≡ in_text f = cc in c f same)
