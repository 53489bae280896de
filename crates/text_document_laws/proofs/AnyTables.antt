-- Any number of tables are read if and only if their lines are those of the tables.
use Rattle.std.proofs.Common.{◌≡◌, ◌≤◌, ◌+◌, ℕ, List, [], ◌∷◌, ◌++◌, length, Result, Ok, refl, sym, ap, ◌∙◌, subst, arith, inl, inr}
use Rattle.std.specs.Prelude.{◌↔◌}
use Rattle.std.proofs.lemmas.List.{length-append}
use Rattle.text_definitions.specs.Text.{Line, lines_of}
use Rattle.text_definitions.specs.Reading.{Reading, ◌>>=◌, begun, need_line_at, start_of}
use Rattle.text_definitions.proofs.Readers.{bind_ok}
use Rattle.table_definitions.specs.Table.{Row}
use Rattle.signature_definitions.specs.declared.InputFault.{InputFault}
use Rattle.signature_definitions.specs.SignatureText.{any_table_at}
use Rattle.signature_definitions.specs.Grammar.{AreTableLines}
use Rattle.text_document_definitions.specs.Documents.{next_table_at, tables_on, tables_from, tables_document}
use Rattle.text_document_definitions.specs.Grammar.{AreTables}
use Rattle.table_definitions.proofs.ReadingLaws.{ok_parts}
use Rattle.table_definitions.proofs.LineLaws.{line_found}
use Rattle.text_document_laws.proofs.Tables.{worded_with, table_blocks}
use Rattle.text_document_laws.proofs.Given.{Table, Tables}
use Rattle.basic_lemmas.proofs.Lists.{no_items}

-- reading a table from the next lines is reading one after the next line is begun
pub next_of_begun : (c : Reading) (l : Line) (ls : List Line) → c.later ≡ l ∷ ls → next_table_at c ≡ any_table_at (begun l ls c)
unfolding next_table_at
next_of_begun c l ls e = ap (λ (r : Result Reading InputFault). r >>= any_table_at) (worded_with (need_line_at c) (begun l ls c) (line_found c l ls e))

-- the tables are those of all remaining lines, if at least that many lines are counted
abbrev AreTo : Reading → List (List Row) → Type 0
AreTo c tables = AreTables c.later tables

abbrev others_of : List Line → Table → Result Tables InputFault
others_of most t = tables_from most t.1 >>= λ (ts : Tables). Ok (t.0 ∷ ts.0, ts.1)

first_joined : (c : Reading) (rows : List Row) (next : Reading) (tables : List (List Row)) → ((lines : List Line) × (c.later ≡ lines ++ next.later) × AreTableLines lines rows) → AreTo next tables → AreTo c (rows ∷ tables)
first_joined c rows next tables b h = (b.0, next.later, b.1, b.2, h)

not_none : (lines rest : List Line) (rows : List Row) → AreTableLines lines rows → length rest + 1 ≤ length (lines ++ rest)
not_none [] rest rows (inl h) = absurd h
not_none [] rest rows (inr h) = absurd h
not_none (l ∷ lines) rest rows h = let e : length (lines ++ rest) ≡ length lines + length rest = length-append lines rest in omega (arith, e)

fewer : (c : Reading) (rows : List Row) (next : Reading) → ((lines : List Line) × (c.later ≡ lines ++ next.later) × AreTableLines lines rows) → length next.later + 1 ≤ length c.later
fewer c rows next b = subst (λ (ls : List Line). length next.later + 1 ≤ length ls) (sym b.1) (not_none b.0 next.later rows b.2)

read_on : (most ls : List Line) (l : Line) (c : Reading) (tables : List (List Row)) (d : Reading) → c.later ≡ l ∷ ls
    → ((next : Reading) (ts : List (List Row)) (last : Reading) → length next.later + 1 ≤ length c.later → tables_from most next ≡ Ok (ts, last) → AreTo next ts)
    → (any_table_at (begun l ls c) >>= others_of most) ≡ Ok (tables, d) → AreTo c tables
read_on most ls l c tables d split again e =
    let first : (t : Table) × (any_table_at (begun l ls c) ≡ Ok t) × (others_of most t ≡ Ok (tables, d)) = bind_ok (any_table_at (begun l ls c)) (others_of most) (tables, d) e in
    let others : (ts : Tables) × (tables_from most (first.0).1 ≡ Ok ts) × (◌≡◌ {A = Result Tables InputFault} (Ok ((first.0).0 ∷ ts.0, ts.1)) (Ok (tables, d))) =
    bind_ok (tables_from most (first.0).1) (λ (ts : Tables). Ok ((first.0).0 ∷ ts.0, ts.1)) (tables, d) first.2 in
    let parts : ((first.0).0 ∷ (others.0).0 ≡ tables) × ((others.0).1 ≡ d) = ok_parts ((first.0).0 ∷ (others.0).0, (others.0).1) (tables, d) others.2 in
    let block : (lines : List Line) × (c.later ≡ lines ++ (first.0).1.later) × AreTableLines lines (first.0).0 = table_blocks.sound c (first.0).0 (first.0).1 (next_of_begun c l ls split ∙ first.1) in
    subst (λ (ts : List (List Row)). AreTo c ts) parts.0
    (first_joined c (first.0).0 (first.0).1 (others.0).0 block (again (first.0).1 (others.0).0 (others.0).1 (fewer c (first.0).0 (first.0).1 block) others.1))

none_read : (c : Reading) (tables : List (List Row)) (d : Reading) → c.later ≡ [] → ◌≡◌ {A = Result Tables InputFault} (Ok ([], c)) (Ok (tables, d)) → AreTo c tables
none_read c tables d none e = let parts : ([] ≡ tables) × (c ≡ d) = ok_parts {A = List (List Row)} ([], c) (tables, d) e in subst (λ (ts : List (List Row)). AreTo c ts) parts.0 none

tables_from_read : (most : List Line) (c : Reading) (tables : List (List Row)) (d : Reading) → length c.later ≤ length most → tables_from most c ≡ Ok (tables, d) → AreTo c tables
unfolding tables_from
tables_from_read [] c tables d limited e = none_read c tables d (no_items c.later limited) e
tables_from_read (m ∷ most) c tables d limited e = by_lines c.later refl (λ next ts last less f. tables_from_read most next ts last (omega arith) f) e
  where
    by_lines : (ls : List Line) → c.later ≡ ls → ((next : Reading) (ts : List (List Row)) (last : Reading) → length next.later + 1 ≤ length c.later → tables_from most next ≡ Ok (ts, last) → AreTo next ts)
        → tables_on ls c (λ x. tables_from most x) ≡ Ok (tables, d) → AreTo c tables
    by_lines [] split again e = none_read c tables d split e
    by_lines (l ∷ ls) split again e = read_on most ls l c tables d split again e

-- tables to the end of the input are read
abbrev AreTablesRead : List Line → Reading → List (List Row) → Type 0
AreTablesRead most c tables = (d : Reading) × (tables_from most c ≡ Ok (tables, d))

found_none : (most : List Line) (c : Reading) → c.later ≡ [] → AreTablesRead most c []
unfolding tables_from
found_none [] c none = (c, refl)
found_none (m ∷ most) c none = (c, ap (λ (ls : List Line). tables_on ls c (λ x. tables_from most x)) none)

found_on : (m : Line) (most ls : List Line) (l : Line) (c next : Reading) (rows : List Row) (ts : List (List Row)) → c.later ≡ l ∷ ls → next_table_at c ≡ Ok (rows, next) → AreTablesRead most next ts → AreTablesRead (m ∷ most) c (rows ∷ ts)
unfolding tables_from
found_on m most ls l c next rows ts split e more = (
  more.0,
  ap (λ (ms : List Line). tables_on ms c (λ x. tables_from most x)) split
      ∙ ap (λ (r : Result Table InputFault). r >>= others_of most) (sym (next_of_begun c l ls split) ∙ e)
      ∙ ap (λ (r : Result Tables InputFault). r >>= λ (us : Tables). Ok (rows ∷ us.0, us.1)) more.1,
)

found_next : (m : Line) (most front back : List Line) (c next : Reading) (rows : List Row) (ts : List (List Row)) → AreTableLines front rows → c.later ≡ front ++ back → next_table_at c ≡ Ok (rows, next) → AreTablesRead most next ts → AreTablesRead (m ∷ most) c (rows ∷ ts)
found_next m most [] back c next rows ts (inl h) split e more = absurd h
found_next m most [] back c next rows ts (inr h) split e more = absurd h
found_next m most (l ∷ front) back c next rows ts h split e more = found_on m most (front ++ back) l c next rows ts split e more

tables_from_found : (most : List Line) (c : Reading) (tables : List (List Row)) → length c.later ≤ length most → AreTo c tables → AreTablesRead most c tables
tables_from_found most c [] limited h = found_none most c h
tables_from_found [] c (rows ∷ ts) limited h =
    let some : length h.1 + 1 ≤ length (h.0 ++ h.1) = not_none h.0 h.1 rows h.3 in
    let same : length c.later ≡ length (h.0 ++ h.1) = ap (λ (ls : List Line). length ls) h.2 in
    absurd (omega (arith, some, same))
tables_from_found (m ∷ most) c (rows ∷ ts) limited h =
    let block : (d : Reading) × (next_table_at c ≡ Ok (rows, d)) × (d.later ≡ h.1) = table_blocks.complete c rows h.0 h.1 h.2 h.3 in
    let some : length h.1 + 1 ≤ length (h.0 ++ h.1) = not_none h.0 h.1 rows h.3 in
    let same : length c.later ≡ length (h.0 ++ h.1) = ap (λ (ls : List Line). length ls) h.2 in
    let left : length (block.0).later ≡ length h.1 = ap (λ (ls : List Line). length ls) block.2 in
    let fits : length (block.0).later ≤ length most = omega (arith, some, same, left, limited) in
    found_next m most h.0 h.1 c block.0 rows ts h.3 h.2 block.1 (tables_from_found most block.0 ts fits (subst (λ (ls : List Line). AreTables ls ts) (sym block.2) h.4))

pub tables_read : (bytes : List ℕ) (tables : List (List Row)) → (tables_document bytes ≡ Ok tables) ↔ AreTables (lines_of bytes) tables
unfolding tables_document
tables_read bytes tables = (
  λ e. (
      let first : (ts : Tables) × (tables_from (lines_of bytes) (start_of bytes) ≡ Ok ts) × (◌≡◌ {A = Result (List (List Row)) InputFault} (Ok ts.0) (Ok tables)) =
      bind_ok (tables_from (lines_of bytes) (start_of bytes)) (λ (ts : Tables). Ok ts.0) tables e in
      let same : (first.0).0 ≡ tables = cc in
      subst (λ (ts : List (List Row)). AreTables (lines_of bytes) ts) same (tables_from_read (lines_of bytes) (start_of bytes) (first.0).0 (first.0).1 (omega arith) first.1)
      ),
  λ h. (let found : AreTablesRead (lines_of bytes) (start_of bytes) tables = tables_from_found (lines_of bytes) (start_of bytes) tables (omega arith) h in ap (λ (r : Result Tables InputFault). r >>= λ (ts : Tables). Ok ts.0) found.1),
)
