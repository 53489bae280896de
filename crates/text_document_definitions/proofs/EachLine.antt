-- Reading lines of one form to the end of the input, line by line.
use Rattle.std.proofs.Common.{◌≡◌, ◌<◌, List, [], ◌∷◌, ◌++◌, Result, Ok, Err, length, refl, sym, ap, ◌∙◌, arith, append_assoc, append-nil}
use Rattle.text_definitions.specs.Text.{Line}
use Rattle.text_definitions.specs.declared.LexFault.{LexFault}
use Rattle.text_definitions.specs.Reading.{Reading, ◌>>=◌, begun, line_from, need_line_at, Fails}
use Rattle.text_document_definitions.specs.Documents.{each_line_from}
use Rattle.table_definitions.specs.declared.TextFault.{TextFault}
use Rattle.table_definitions.specs.declared.TextFault.TheVariants.{NoMemory, Lex}
use Rattle.table_definitions.specs.TableText.{lexed}

-- the values so far, before those of a reading
abbrev pub with_fronts : {A : Type 0} → List A → Result (List A × Reading) LexFault → Result (List A × Reading) LexFault
with_fronts {A} front read = read >>= λ (others : List A × Reading). Ok (front ++ others.0, others.1)

-- a value before those of the later lines
abbrev pub with_first : {A : Type 0} → A → Result (List A × Reading) LexFault → Result (List A × Reading) LexFault
with_first {A} x read = read >>= λ (others : List A × Reading). Ok (x ∷ others.0, others.1)

with_fronts-first : {A : Type 0} (front : List A) (x : A) (r : Result (List A × Reading) LexFault) → with_fronts (front ++ x ∷ []) r ≡ with_fronts front (with_first x r)
with_fronts-first {A} front x (Ok y) = ap (λ (zs : List A). Ok (zs, y.1)) (append_assoc front (x ∷ []) y.0)
with_fronts-first front x (Err e) = refl

-- a fault of a line is a fault of the text
pub fault_lexed : {A : Type 0} (r : Result A LexFault) (f : LexFault) → r ≡ Err f → lexed r ≡ Err (Lex f)
fault_lexed {A} r f same = ap (λ (q : Result A LexFault). lexed q) same

module _ {A : Type 0} (form : Reading → Result (A × Reading) LexFault) where
  -- the values of a line and of the later lines
  abbrev line_then : List Line → Result (A × Reading) LexFault → Result (List A × Reading) LexFault
  line_then ls read = read >>= λ (first : A × Reading). with_first first.0 (each_line_from form ls first.1)

  -- the first of the lines that are left, and the lines after it
  first_line : (c : Reading) (l : Line) (ls : List Line) → c.later ≡ l ∷ ls → each_line_from form c.later c ≡ line_then ls (form (begun l ls c))
  unfolding each_line_from
  first_line c l ls same = ap (λ (us : List Line). each_line_from form us c) same

  -- a further line is begun
  next_begun : (c d : Reading) → need_line_at c ≡ Ok d → (l : Line) × (ls : List Line) × (c.later ≡ l ∷ ls) × (begun l ls c ≡ d)
  unfolding need_line_at
  next_begun c d e = from_lines c.later refl e
    where
      from_lines : (ls : List Line) → c.later ≡ ls → line_from ls c ≡ Ok d → (l : Line) × (rest : List Line) × (c.later ≡ l ∷ rest) × (begun l rest c ≡ d)
      from_lines [] same e = cc
      from_lines (l ∷ ls) same e = (l, ls, same, (let x : Ok (begun l ls c) ≡ Ok d = e in cc))

  pub line_taken : (front : List A) (c d : Reading) (x : A × Reading) → need_line_at c ≡ Ok d → form d ≡ Ok x → x.1.later ≡ d.later
      → with_fronts (front ++ x.0 ∷ []) (each_line_from form x.1.later x.1) ≡ with_fronts front (each_line_from form c.later c)
  line_taken front c d x e f keeps =
      let n = next_begun c d e in
      let read : form (begun n.0 n.1 c) ≡ Ok x = rw n.3 f in
      let rest : n.1 ≡ x.1.later = ap (λ (r : Reading). r.later) n.3 ∙ sym keeps in
      with_fronts-first front x.0 (each_line_from form x.1.later x.1)
      ∙ ap (λ (us : List Line). with_fronts front (with_first x.0 (each_line_from form us x.1))) (sym rest)
      ∙ ap (λ (r : Result (A × Reading) LexFault). with_fronts front (line_then n.1 r)) (sym read)
      ∙ ap (with_fronts front) (sym (first_line c n.0 n.1 n.2))

  pub line_faulty : (front : List A) (c d : Reading) (fault : LexFault) → need_line_at c ≡ Ok d → form d ≡ Err fault
      → with_fronts front (each_line_from form c.later c) ≡ Err fault
  line_faulty front c d fault e f =
      let n = next_begun c d e in
      let read : form (begun n.0 n.1 c) ≡ Err fault = rw n.3 f in
      ap (with_fronts front) (first_line c n.0 n.1 n.2) ∙ ap (λ (r : Result (A × Reading) LexFault). with_fronts front (line_then n.1 r)) read

  pub lines_ended : (front : List A) (c : Reading) → c.later ≡ [] → with_fronts front (each_line_from form c.later c) ≡ Ok (front, c)
  unfolding each_line_from
  lines_ended front c same = ap (λ (us : List Line). with_fronts front (each_line_from form us c)) same ∙ ap (λ (zs : List A). Ok (zs, c)) (append-nil front)

  pub lines_fewer : (c d : Reading) (x : A × Reading) → need_line_at c ≡ Ok d → x.1.later ≡ d.later → length x.1.later < length c.later
  lines_fewer c d x e keeps =
      let n = next_begun c d e in
      let rest : n.1 ≡ x.1.later = ap (λ (r : Reading). r.later) n.3 ∙ sym keeps in
      omega (arith, ap length rest, ap length n.2)

  -- a fault of a line is one of the lines
  pub line_fails : (front : List A) (c d : Reading) (fault : TextFault) (whole : Result (List A × Reading) LexFault) → need_line_at c ≡ Ok d → Fails NoMemory fault (lexed (form d))
      → with_fronts front (each_line_from form c.later c) ≡ whole → Fails NoMemory fault (lexed whole)
  line_fails front c d fault whole e fails same = λ other. moved (form d) refl (fails other)
    where
      moved : (read : Result (A × Reading) LexFault) → form d ≡ read → lexed read ≡ Err fault → lexed whole ≡ Err fault
      moved (Ok x) is h = absurd cc
      moved (Err found) is h =
          let wrapped : Lex found ≡ fault = cc in
          fault_lexed whole found (sym same ∙ line_faulty front c d found e is) ∙ ap (λ (f : TextFault). Err f) wrapped
