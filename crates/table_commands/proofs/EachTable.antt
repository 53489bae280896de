-- Reading tables to the end of the input, table by table.
use Rattle.std.proofs.Common.{◌≡◌, ◌+◌, ◌≤◌, List, [], ◌∷◌, ◌++◌, Result, Ok, Err, length, refl, sym, ap, ◌∙◌, arith, append_assoc, append-nil}
use Rattle.table_definitions.specs.Table.{Row}
use Rattle.table_definitions.proofs.LineLaws.{BeginsLine, line_begun}
use Rattle.text_definitions.specs.Text.{Line}
use Rattle.text_definitions.specs.Reading.{Reading, ◌>>=◌, begun, need_line_at, Fails}
use Rattle.signature_definitions.specs.declared.InputFault.{InputFault}
use Rattle.signature_definitions.specs.declared.InputFault.TheVariants.{NoMemory}
use Rattle.signature_definitions.specs.SignatureText.{any_table_at}
use Rattle.signature_text_laws.proofs.AnyTables.{any_table_read}
use Rattle.text_document_definitions.specs.Documents.{tables_on, tables_from}

-- the result of reading tables
abbrev pub ReadTables : Type 0
ReadTables = Result (List (List Row) × Reading) InputFault

-- the tables so far, followed by those of a result
abbrev pub with_tables : List (List Row) → ReadTables → ReadTables
with_tables front read = read >>= λ (others : List (List Row) × Reading). Ok (front ++ others.0, others.1)

-- a table before the others
abbrev first_and : List Row → ReadTables → ReadTables
first_and rows read = read >>= λ (others : List (List Row) × Reading). Ok (rows ∷ others.0, others.1)

with_tables-first : (front : List (List Row)) (rows : List Row) (r : ReadTables) → with_tables (front ++ rows ∷ []) r ≡ with_tables front (first_and rows r)
with_tables-first front rows (Ok y) = ap (λ (ts : List (List Row)). Ok (ts, y.1)) (append_assoc front (rows ∷ []) y.0)
with_tables-first front rows (Err e) = refl

-- a table, followed by those that this reader finds
abbrev table_then : (Reading → ReadTables) → Result (List Row × Reading) InputFault → ReadTables
table_then more read = read >>= λ (first : List Row × Reading). first_and first.0 (more first.1)

same_then : (more other : Reading → ReadTables) (read : Result (List Row × Reading) InputFault) →
    ((x : List Row × Reading) → read ≡ Ok x → more x.1 ≡ other x.1) → table_then more read ≡ table_then other read
same_then more other (Ok x) h = ap (first_and x.0) (h x refl)
same_then more other (Err e) h = refl

fewer_left : (l : Line) (ls most : List Line) (c : Reading) (x : List Row × Reading) → any_table_at (begun l ls c) ≡ Ok x → length (l ∷ ls) ≤ length most + 1 → length x.1.later ≤ length most
fewer_left l ls most c x e h = let f = (any_table_read (begun l ls c) x.0 x.1 e).fewer in omega arith

-- the bound on the number of tables has no effect if it is at least the number of lines
any_most : (most many : List Line) (c : Reading) → length c.later ≤ length most → length c.later ≤ length many → tables_from most c ≡ tables_from many c
unfolding tables_from
any_most [] [] c h k = refl
any_most [] (m ∷ many) c h k = from_none c.later refl
  where
    from_none : (ls : List Line) → c.later ≡ ls → Ok ([], c) ≡ tables_on ls c (λ d. tables_from many d)
    from_none [] same = refl
    from_none (l ∷ ls) same = absurd (omega (arith, ap length same))
any_most (m ∷ most) [] c h k = from_none c.later refl
  where
    from_none : (ls : List Line) → c.later ≡ ls → tables_on ls c (λ d. tables_from most d) ≡ Ok ([], c)
    from_none [] same = refl
    from_none (l ∷ ls) same = absurd (omega (arith, ap length same))
any_most (m ∷ most) (n ∷ many) c h k = from_lines c.later refl (λ x f g. any_most most many x.1 f g)
  where
    from_lines : (ls : List Line) → c.later ≡ ls → ((x : List Row × Reading) → length x.1.later ≤ length most → length x.1.later ≤ length many → tables_from most x.1 ≡ tables_from many x.1)
        → tables_on ls c (λ d. tables_from most d) ≡ tables_on ls c (λ d. tables_from many d)
    from_lines [] same next = refl
    from_lines (l ∷ ls) same next = same_then (tables_from most) (tables_from many) (any_table_at (begun l ls c))
        (λ x e. next x (fewer_left l ls most c x e (omega (arith, ap length same))) (fewer_left l ls many c x e (omega (arith, ap length same))))

-- the table of the first line that is left, followed by those of the other lines
first_line : (c : Reading) (l : Line) (ls : List Line) → c.later ≡ l ∷ ls → tables_from c.later c ≡ table_then (λ d. tables_from ls d) (any_table_at (begun l ls c))
unfolding tables_from
first_line c l ls same = ap (λ (us : List Line). tables_from us c) same ∙ ap (λ (us : List Line). tables_on us c (λ d. tables_from ls d)) same

pub table_taken : (front : List (List Row)) (c d : Reading) (x : List Row × Reading) → need_line_at c ≡ Ok d → any_table_at d ≡ Ok x
    → with_tables (front ++ x.0 ∷ []) (tables_from x.1.later x.1) ≡ with_tables front (tables_from c.later c)
table_taken front c d x e f =
    let n : BeginsLine c d = line_begun c d e in
    let read : any_table_at (begun n.line n.rest c) ≡ Ok x = rw (sym n.left) f in
    let fewer = fewer_left n.line n.rest n.rest c x read (omega arith) in
    with_tables-first front x.0 (tables_from x.1.later x.1)
    ∙ ap (λ (r : ReadTables). with_tables front (first_and x.0 r)) (any_most x.1.later n.rest x.1 (omega arith) fewer)
    ∙ ap (λ (r : Result (List Row × Reading) InputFault). with_tables front (table_then (λ d. tables_from n.rest d) r)) (sym read)
    ∙ ap (with_tables front) (sym (first_line c n.line n.rest n.lines))

pub tables_fewer : (c d : Reading) (x : List Row × Reading) → need_line_at c ≡ Ok d → any_table_at d ≡ Ok x → length x.1.later + 1 ≤ length c.later
tables_fewer c d x e f =
    let n : BeginsLine c d = line_begun c d e in
    let less = (any_table_read d x.0 x.1 f).fewer in
    let there : n.rest ≡ d.later = ap (λ (r : Reading). r.later) (sym n.left) in
    omega (arith, ap length there, ap length n.lines)

pub table_faulty : (front : List (List Row)) (c d : Reading) (fault : InputFault) → need_line_at c ≡ Ok d → any_table_at d ≡ Err fault
    → with_tables front (tables_from c.later c) ≡ Err fault
table_faulty front c d fault e f =
    let n : BeginsLine c d = line_begun c d e in
    let read : any_table_at (begun n.line n.rest c) ≡ Err fault = rw (sym n.left) f in
    ap (with_tables front) (first_line c n.line n.rest n.lines) ∙ ap (λ (r : Result (List Row × Reading) InputFault). with_tables front (table_then (λ d. tables_from n.rest d) r)) read

pub tables_ended : (front : List (List Row)) (c : Reading) → c.later ≡ [] → with_tables front (tables_from c.later c) ≡ Ok (front, c)
unfolding tables_from
tables_ended front c same = ap (λ (us : List Line). with_tables front (tables_from us c)) same ∙ ap (λ (ts : List (List Row)). Ok (ts, c)) (append-nil front)

-- an error of a table is an error of all tables
pub table_fails : (front : List (List Row)) (c d : Reading) (fault : InputFault) (whole : ReadTables) → need_line_at c ≡ Ok d → Fails NoMemory fault (any_table_at d)
    → with_tables front (tables_from c.later c) ≡ whole → Fails NoMemory fault whole
table_fails front c d fault whole e fails same = λ other. sym same ∙ table_faulty front c d fault e (fails other)
