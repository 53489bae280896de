-- The symbols that the lines of a table begin with are sound.
use Rattle.std.proofs.Common.{◌≡◌, ℕ, zero, suc, ◌+◌, ◌<◌, ◌≤◌, List, [], ◌∷◌, ◌++◌, length, map, get_or, Option, None, ◌⊎◌, inl, inr, refl, sym, ap, ◌∙◌, subst, arith}
use Rattle.std.specs.Prelude.{codes, true}
use Rattle.std.specs.List.{AllZip}
use Rattle.std.proofs.lemmas.List.{append-nil, length-append}
use Rattle.std.proofs.lemmas.List.Elements.{All-from_get_or}
use Rattle.text_definitions.specs.declared.Place.{Place}
use Rattle.text_definitions.specs.Text.{Token, word, stray, Line}
use Rattle.table_definitions.specs.Table.{Row, Face, glue, max_tets, IsTable}
use Rattle.table_definitions.specs.Grammar.{AreWords, IsDecimalUpTo, IsEntry, IsRowLine}
use Rattle.text_document_definitions.specs.Symbols.{Symbol, shown, line_end, input_end, Placed, line_symbols, symbols_of, plain}
use Rattle.text_document_laws.specs.FaultLaws.{SomeTable}
use Rattle.text_partial_laws.specs.Partial.{is_given, Completes}
use Rattle.text_partial_laws.specs.Sound.{ShowRows, IsSound, nothing, tri_word, tri_number, tri_rows, sig_word, sig_text, sig_line}
use Rattle.text_partial_laws.proofs.Completed.{given_face, given_tet, partial_of_table}
use Rattle.text_partial_laws.proofs.Shown.{Begin}

-- the symbols of a line of words
words_shown : (n : ℕ) (tokens : List Token) (end : ℕ) (ws : List (List ℕ)) (others : List Placed) → AreWords tokens ws → plain (line_symbols n tokens end others) ≡ map shown ws ++ line_end ∷ plain others
unfolding line_symbols
words_shown n [] end [] others a = refl
words_shown n [] end (w ∷ ws) others a = absurd a
words_shown n (t ∷ tokens) end [] others a = absurd a
words_shown n (word column v ∷ tokens) end (w ∷ ws) others a = ap (λ (u : List ℕ). shown u ∷ plain (line_symbols n tokens end others)) a.0 ∙ ap (λ (ss : List Symbol). shown w ∷ ss) (words_shown n tokens end ws others a.1)
words_shown n (stray column ∷ tokens) end (w ∷ ws) others a = absurd a.0

line_shown : (end : Place) (l : Line) (ls : List Line) (ws : List (List ℕ)) → AreWords l.tokens ws → plain (symbols_of end (l ∷ ls)) ≡ map shown ws ++ line_end ∷ plain (symbols_of end ls)
unfolding symbols_of
line_shown end l ls ws a = words_shown l.number l.tokens l.end ws (symbols_of end ls) a

end_shown : (end : Place) → plain (symbols_of end []) ≡ input_end ∷ []
unfolding symbols_of
end_shown end = refl

heads : (x y : Symbol) (xs ys : List Symbol) → x ∷ xs ≡ y ∷ ys → (x ≡ y) × (xs ≡ ys)
heads x y xs ys e = (cc, cc)

no_symbol : (xs : List Symbol) (symbol : Symbol) (more : List Symbol) → [] ≡ xs ++ symbol ∷ more → ⊥
no_symbol [] symbol more e = absurd cc
no_symbol (x ∷ xs) symbol more e = absurd cc

-- there is no symbol before the only one
before_last : (x : Symbol) (ss : List Symbol) (symbol : Symbol) (more : List Symbol) → x ∷ [] ≡ ss ++ symbol ∷ more → ss ≡ []
before_last x [] symbol more e = refl
before_last x (s ∷ ss) symbol more e = absurd (no_symbol ss symbol more (heads x s [] (ss ++ symbol ∷ more) e).1)

-- the symbols end within a row, or those of other lines follow
record CutOff (row : Row) (ss : List Symbol) : Type 0 where
  part : Row
  rest : Row
  words : List (List ℕ)
  entries : AllZip IsEntry words part
  is : ss ≡ map shown words
  split : row ≡ part ++ rest

abbrev Followed : List (List ℕ) → List Symbol → List Symbol → List Symbol → Type 0
Followed ws others ss back = (next : List Symbol) × (ss ≡ map shown ws ++ line_end ∷ next) × (others ≡ next ++ back)

one_more : (w : List ℕ) (e : Option _) (row : Row) (s : Symbol) (ss : List Symbol) → IsEntry w e → shown w ≡ s → CutOff row ss → CutOff (e ∷ row) (s ∷ ss)
one_more w e row s ss z same c =
    record { part = e ∷ c.part; rest = c.rest; words = w ∷ c.words; entries = (z, c.entries); is = ap (λ (x : Symbol). x ∷ ss) (sym same) ∙ ap (λ (xs : List Symbol). shown w ∷ xs) c.is; split = ap (λ (xs : Row). e ∷ xs) c.split }

in_row : (ws : List (List ℕ)) (row : Row) → AllZip IsEntry ws row → (others ss : List Symbol) (symbol : Symbol) (more : List Symbol) → map shown ws ++ line_end ∷ others ≡ ss ++ symbol ∷ more
    → CutOff row ss ⊎ Followed ws others ss (symbol ∷ more)
in_row ws row z others [] symbol more e = inl (record { part = []; rest = row; words = []; entries = tt; is = refl; split = refl })
in_row [] [] z others (s ∷ ss) symbol more e = (let parts : (line_end ≡ s) × (others ≡ ss ++ symbol ∷ more) = heads line_end s others (ss ++ symbol ∷ more) e in inr (ss, ap (λ (x : Symbol). x ∷ ss) (sym parts.0), parts.1))
in_row [] (x ∷ row) z others (s ∷ ss) symbol more e = absurd z
in_row (w ∷ ws) [] z others (s ∷ ss) symbol more e = absurd z
in_row (w ∷ ws) (x ∷ row) z others (s ∷ ss) symbol more e = by_case (in_row ws row z.1 others ss symbol more parts.1)
  where
    parts : (shown w ≡ s) × (map shown ws ++ line_end ∷ others ≡ ss ++ symbol ∷ more)
    parts = heads (shown w) s (map shown ws ++ line_end ∷ others) (ss ++ symbol ∷ more) e

    by_case : CutOff row ss ⊎ Followed ws others ss (symbol ∷ more) → CutOff (x ∷ row) (s ∷ ss) ⊎ Followed (w ∷ ws) others (s ∷ ss) (symbol ∷ more)
    by_case (inl c) = inl (one_more w x row s ss z.0 parts.0 c)
    by_case (inr f) = inr (f.0, ap (λ (y : Symbol). y ∷ ss) (sym parts.0) ∙ ap (λ (xs : List Symbol). shown w ∷ xs) f.1, f.2)

-- the first entries of rows that the symbols show
record Given (rows : List Row) (ss : List Symbol) : Type 0 where
  given : List Row
  shows : ShowRows given ss
  begin : Begin given rows

rows_given : (end : Place) (ls : List Line) (rows : List Row) → AllZip IsRowLine ls rows → (ss : List Symbol) (symbol : Symbol) (more : List Symbol) → plain (symbols_of end ls) ≡ ss ++ symbol ∷ more → Given rows ss
rows_given end [] [] z ss symbol more e = record { given = []; shows = before_last input_end ss symbol more (sym (end_shown end) ∙ e); begin = tt }
rows_given end [] (row ∷ rows) z ss symbol more e = absurd z
rows_given end (l ∷ ls) [] z ss symbol more e = absurd z
rows_given end (l ∷ ls) (row ∷ rows) z ss symbol more e =
    by_case (in_row h.ws row h.entries (plain (symbols_of end ls)) ss symbol more (sym (line_shown end l ls h.ws h.are_words) ∙ e)) (λ next split. rows_given end ls rows z.1 next symbol more split)
  where
    h : IsRowLine l row
    h = z.0

    by_case : CutOff row ss ⊎ Followed h.ws (plain (symbols_of end ls)) ss (symbol ∷ more) → ((next : List Symbol) → plain (symbols_of end ls) ≡ next ++ symbol ∷ more → Given rows next) → Given (row ∷ rows) ss
    by_case (inl c) others = record { given = c.part ∷ []; shows = (c.words, c.entries, inl (refl, c.is)); begin = ((c.rest, c.split), tt) }
    by_case (inr f) others =
        let g : Given rows f.0 = others f.0 f.2 in
        record { given = row ∷ g.given; shows = (h.ws, h.entries, inr (h.four_faces, (f.0, f.1, g.shows))); begin = (([], sym (append-nil row)), g.begin) }

-- a table completes the first entries of its rows
at_front : (xs ys : Row) (f : ℕ) → f < length xs → get_or (xs ++ ys) f None ≡ get_or xs f None
at_front [] ys f l = absurd (omega arith)
at_front (x ∷ xs) ys zero l = refl
at_front (x ∷ xs) ys (suc f) l = at_front xs ys f (omega arith)

few_given : (given rows : List Row) → Begin given rows → length given ≤ length rows
few_given [] rows b = omega arith
few_given (row ∷ given) [] b = absurd b
few_given (row ∷ given) (whole ∷ rows) b = (let limited : length given ≤ length rows = few_given given rows b.1 in omega (arith, limited))

row_given : (given rows : List Row) → Begin given rows → (t : ℕ) → t < length given → (more : Row) × (get_or rows t [] ≡ get_or given t [] ++ more)
row_given [] rows b t l = absurd (omega arith)
row_given (row ∷ given) [] b t l = absurd b
row_given (row ∷ given) (whole ∷ rows) b zero l = b.0
row_given (row ∷ given) (whole ∷ rows) b (suc t) l = row_given given rows b.1 t (omega arith)

completed_by : (given rows : List Row) → Begin given rows → IsTable rows → Completes (length rows) given rows
completed_by given rows b table = record { is_table = table; count = refl; many = few_given given rows b; four_faces = All-from_get_or (λ (row : Row). length row ≤ 4) given [] at_most; agrees = agrees }
  where
    at_most : (t : ℕ) → t < length given → length (get_or given t []) ≤ 4
    at_most t l =
        let limited : length given ≤ length rows = few_given given rows b in
        let r : (more : Row) × (get_or rows t [] ≡ get_or given t [] ++ more) = row_given given rows b t l in
        let four_long : length (get_or rows t []) ≡ 4 = table.four_faces t [] (omega (arith, l, limited)) in
        let whole : length (get_or rows t []) ≡ length (get_or given t [] ++ r.0) = ap length r.1 in
        let parts : length (get_or given t [] ++ r.0) ≡ length (get_or given t []) + length r.0 = length-append (get_or given t []) r.0 in
        omega (arith, four_long, whole, parts)

    agrees : (x : Face) → is_given given x ≡ true → glue rows x ≡ glue given x
    agrees x g =
        let r : (more : Row) × (get_or rows x.tet [] ≡ get_or given x.tet [] ++ more) = row_given given rows b x.tet (given_tet given x g) in
        ap (λ (row : Row). get_or row x.face None) r.1 ∙ at_front (get_or given x.tet []) r.0 x.face (given_face given x g)

-- the symbols of the first line
same_three : (a b c s t u : Symbol) (ss : List Symbol) → a ≡ s → b ≡ t → c ≡ u → IsSound (a ∷ b ∷ c ∷ ss) → IsSound (s ∷ t ∷ u ∷ ss)
same_three a b c s t u ss e f g sound = subst (λ (x : Symbol). IsSound (x ∷ t ∷ u ∷ ss)) e (subst (λ (x : Symbol). IsSound (a ∷ x ∷ u ∷ ss)) f (subst (λ (x : Symbol). IsSound (a ∷ b ∷ x ∷ ss)) g sound))

same_two : (a b s t : Symbol) → a ≡ s → b ≡ t → IsSound (a ∷ b ∷ []) → IsSound (s ∷ t ∷ [])
same_two a b s t e f sound = subst (λ (x : Symbol). IsSound (x ∷ t ∷ [])) e (subst (λ (x : Symbol). IsSound (a ∷ x ∷ [])) f sound)

-- three symbols, and others after them
module _ (a b : Symbol) (others : List Symbol) (one : IsSound (a ∷ [])) (two : IsSound (a ∷ b ∷ [])) (symbol : Symbol) (more : List Symbol) (three : (next : List Symbol) → others ≡ next ++ symbol ∷ more → IsSound (a ∷ b ∷ line_end ∷ next)) where
  by_symbols : (ss : List Symbol) → a ∷ b ∷ line_end ∷ others ≡ ss ++ symbol ∷ more → IsSound ss
  by_symbols [] e = nothing
  by_symbols (s ∷ []) e = subst (λ (x : Symbol). IsSound (x ∷ [])) (heads a s (b ∷ line_end ∷ others) (symbol ∷ more) e).0 one
  by_symbols (s ∷ t ∷ []) e =
      let p : (a ≡ s) × (b ∷ line_end ∷ others ≡ t ∷ (symbol ∷ more)) = heads a s (b ∷ line_end ∷ others) (t ∷ (symbol ∷ more)) e in
      same_two a b s t p.0 (heads b t (line_end ∷ others) (symbol ∷ more) p.1).0 two
  by_symbols (s ∷ t ∷ u ∷ ss) e =
      let p : (a ≡ s) × (b ∷ line_end ∷ others ≡ t ∷ u ∷ (ss ++ symbol ∷ more)) = heads a s (b ∷ line_end ∷ others) (t ∷ u ∷ (ss ++ symbol ∷ more)) e in
      let q : (b ≡ t) × (line_end ∷ others ≡ u ∷ (ss ++ symbol ∷ more)) = heads b t (line_end ∷ others) (u ∷ (ss ++ symbol ∷ more)) p.1 in
      let r : (line_end ≡ u) × (others ≡ ss ++ symbol ∷ more) = heads line_end u others (ss ++ symbol ∷ more) q.1 in
      same_three a b line_end s t u ss p.0 q.0 r.0 (three ss r.1)

pub shown_is_sound : (end : Place) (ss : List Symbol) (lines : List Line) (symbol : Symbol) (more : List Symbol) → plain (symbols_of end lines) ≡ ss ++ symbol ∷ more → SomeTable lines → IsSound ss
shown_is_sound end ss [] symbol more e (rows, inl h) = absurd h
shown_is_sound end ss [] symbol more e (rows, inr h) = absurd h
shown_is_sound end ss (l ∷ lines) symbol more e (rows, inl (w, a, value, z, table)) =
    let number : IsDecimalUpTo max_tets w (length rows) = record { value = value; up_to = table.limited } in
    by_symbols (shown (codes "tri")) (shown w) (plain (symbols_of end lines)) tri_word (tri_number w (length rows) number) symbol more
    (λ next split. (let g : Given rows next = rows_given end lines rows z next symbol more split in
    tri_rows w (length rows) g.given next number (partial_of_table (length rows) g.given rows (completed_by g.given rows g.begin table)) g.shows))
    ss (sym (line_shown end l lines (codes "tri" ∷ w ∷ []) a) ∙ e)
shown_is_sound end ss (l ∷ []) symbol more e (rows, inr (text, a, spells)) =
    by_symbols (shown (codes "sig")) (shown text) (plain (symbols_of end [])) sig_word (sig_text text rows spells) symbol more
    (λ next split. subst (λ (xs : List Symbol). IsSound (shown (codes "sig") ∷ shown text ∷ line_end ∷ xs)) (sym (before_last input_end next symbol more (sym (end_shown end) ∙ split))) (sig_line text rows spells))
    ss (sym (line_shown end l [] (codes "sig" ∷ text ∷ []) a) ∙ e)
shown_is_sound end ss (l ∷ m ∷ lines) symbol more e (rows, inr h) = absurd h
