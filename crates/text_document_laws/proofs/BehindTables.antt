-- The input after a table that was read: if it first leaves its grammar at a place, all lines first leave there the
-- grammar of a table and what may follow it.
use Rattle.std.proofs.Common.{◌≡◌, ◌≢◌, ◌+◌, suc, List, [], ◌∷◌, ◌++◌, length, Ok, inl, inr, refl, sym, ap, ◌∙◌, arith}
use Rattle.std.proofs.lemmas.List.{append_assoc, length-append}
use Rattle.text_definitions.specs.declared.Place.{Place}
use Rattle.text_definitions.specs.Text.{Line}
use Rattle.text_definitions.specs.Reading.{Reading, begun}
use Rattle.table_definitions.specs.Table.{Row}
use Rattle.table_definitions.proofs.ReadingLaws.{ok_parts}
use Rattle.signature_definitions.specs.SignatureText.{any_table_at}
use Rattle.signature_definitions.specs.Grammar.{AreTableLines}
use Rattle.text_document_definitions.specs.Documents.{next_table_at}
use Rattle.text_document_definitions.specs.Symbols.{Symbol, Placed, symbols_of, plain, FirstLeavesAt}
use Rattle.text_document_laws.proofs.AnyTables.{next_of_begun}
use Rattle.text_document_laws.proofs.Tables.{TableLines, table_read, TableFound, table_found}
use Rattle.text_document_laws.proofs.Local.{left_symbols, shows, plain-append, regrouped, AlwaysSteps}
use Rattle.text_document_laws.proofs.LocalLines.{rest_of_line, rest_here, line_split, behind_line}
use Rattle.text_document_laws.proofs.LocalTables.{goes_any_table}
use Rattle.text_document_laws.proofs.WordWays.{opens_rest}
use Rattle.text_document_laws.proofs.Leaving.{begun_symbols}
use Rattle.text_document_laws.proofs.LeavingCones.{same_symbols}
use Rattle.text_document_laws.proofs.FirstFaults.{with_lines}

-- if two lists with the same end are equal, so are the parts before it
longer : {A : Type 0} (y : A) (ys zs : List A) → zs ≢ y ∷ (ys ++ zs)
longer y ys zs e =
    let same : length zs ≡ suc (length (ys ++ zs)) = ap (λ (xs : List _). length xs) e in
    let parts : length (ys ++ zs) ≡ length ys + length zs = length-append ys zs in
    absurd (omega (arith, same, parts))

pub cancelled : {A : Type 0} (xs ys zs : List A) → xs ++ zs ≡ ys ++ zs → xs ≡ ys
cancelled [] [] zs e = refl
cancelled [] (y ∷ ys) zs e = absurd (longer y ys zs e)
cancelled (x ∷ xs) [] zs e = absurd (longer x xs zs (sym e))
cancelled (x ∷ xs) (y ∷ ys) zs e =
    let head : x ≡ y = cc in
    let tail : xs ++ zs ≡ ys ++ zs = cc in
    λ i. head i ∷ cancelled xs ys zs tail i

left_split : (c : Reading) → left_symbols c ≡ rest_here c ++ symbols_of c.input_end c.later
left_split c = line_split c.current.number c.current.tokens c.current.end (symbols_of c.input_end c.later)

-- the symbols of lines, without those of the lines after them
unfoldable pub lines_front : List Line → List Placed
lines_front [] = []
lines_front (l ∷ ls) = rest_of_line l.number l.tokens l.end ++ lines_front ls

pub lines_split : (p : Place) (ts ls : List Line) → symbols_of p (ts ++ ls) ≡ lines_front ts ++ symbols_of p ls
unfolding lines_front symbols_of
lines_split p [] ls = refl
lines_split p (t ∷ ts) ls =
    line_split t.number t.tokens t.end (symbols_of p (ts ++ ls)) ∙ ap (λ (ss : List Placed). rest_of_line t.number t.tokens t.end ++ ss) (lines_split p ts ls)
    ∙ sym (append_assoc (rest_of_line t.number t.tokens t.end) (lines_front ts) (symbols_of p ls))

shown_split : (xs ys : List Placed) (p : Place) (d : Reading) → xs ++ symbols_of p d.later ≡ ys ++ left_symbols d → plain xs ≡ plain (ys ++ rest_here d)
shown_split xs ys p d e =
    cancelled (plain xs) (plain (ys ++ rest_here d)) (plain (symbols_of p d.later))
    (sym (plain-append xs (symbols_of p d.later)) ∙ ap plain (e ∙ ap (λ (ss : List Placed). ys ++ ss) (left_split d) ∙ sym (append_assoc ys (rest_here d) (symbols_of d.input_end d.later)))
    ∙ plain-append (ys ++ rest_here d) (symbols_of d.input_end d.later) ∙ ap (λ (ss : List Symbol). plain (ys ++ rest_here d) ++ ss) (same_symbols d.input_end p d.later))

-- a table has at least one line
table_begins : (lines rest : List Line) (rows : List Row) → AreTableLines lines rows → (l : Line) × (ls : List Line) × (lines ++ rest ≡ l ∷ ls)
table_begins [] rest rows (inl h) = absurd h
table_begins [] rest rows (inr h) = absurd h
table_begins (l ∷ lines) rest rows h = (l, lines ++ rest, refl)

pub first_line : (c : Reading) (rows : List Row) (d : Reading) → next_table_at c ≡ Ok (rows, d) → (l : Line) × (ls : List Line) × (c.later ≡ l ∷ ls)
first_line c rows d e =
    let t : TableLines c rows d = table_read c rows d e in
    let b : (l : Line) × (ls : List Line) × (t.lines ++ d.later ≡ l ∷ ls) = table_begins t.lines d.later rows t.table_lines in
    (b.0, b.1, t.split ∙ b.2)

-- a table is read from c, and leaves d
module _ (c : Reading) (rows : List Row) (d : Reading) (l : Line) (ls : List Line) (g : AlwaysSteps any_table_at (begun l ls c) rows d) where
  -- the symbols of the table's lines
  abbrev table_front : List Placed
  table_front = g.front ++ rest_here d

  -- reading a table from the same symbols, whatever follows, leaves what follows
  shown_behind : (o : Reading) (t : List Row) (n : Reading) (ss : List Symbol) → next_table_at o ≡ Ok (t, n) → plain (symbols_of o.input_end o.later) ≡ plain table_front ++ ss → plain (symbols_of n.input_end n.later) ≡ ss
  shown_behind o t n ss e shown =
      let f : (k : Line) × (ks : List Line) × (o.later ≡ k ∷ ks) = first_line o t n e in
      let b : Reading = begun f.0 f.1 o in
      let there : shows b ≡ plain table_front ++ ss = ap plain (sym (begun_symbols o f.0 f.1) ∙ ap (λ (ks : List Line). symbols_of o.input_end ks) (sym f.2)) ∙ shown in
      let r : (next : Reading) × (any_table_at b ≡ Ok (rows, next)) × (shows next ≡ plain (rest_here d) ++ ss) =
      g.same b (plain (rest_here d) ++ ss) (regrouped g.front (rest_here d) ss b there) (opens_rest d ss) in
      let parts : (rows ≡ t) × (r.0 ≡ n) = ok_parts (rows, r.0) (t, n) (sym r.1 ∙ sym (next_of_begun o f.0 f.1 f.2) ∙ e) in
      behind_line d n ss (ap shows (sym parts.1) ∙ r.2)

module _ (InRest Whole : List Line → Type 0) (put : (table rest : List Line) (rows : List Row) → AreTableLines table rows → InRest rest → Whole (table ++ rest))
    (taken : (lines : List Line) → Whole lines → (rows : List Row) × (table : List Line) × (rest : List Line) × (lines ≡ table ++ rest) × AreTableLines table rows × InRest rest) where
  split_plain : (xs ys : List Placed) (ss : List Symbol) → plain (xs ++ ys) ++ ss ≡ plain xs ++ (plain ys ++ ss)
  split_plain xs ys ss = ap (λ (ts : List Symbol). ts ++ ss) (plain-append xs ys) ∙ append_assoc (plain xs) (plain ys) ss

  first_at : (c : Reading) (rows : List Row) (d : Reading) (p : Place) (l : Line) (ls : List Line) → c.later ≡ l ∷ ls → TableLines c rows d → AlwaysSteps any_table_at (begun l ls c) rows d → FirstLeavesAt InRest d.input_end d.later p
      → FirstLeavesAt Whole c.input_end c.later p
  first_at c rows d p l ls split t g h =
      let front : List Placed = g.front ++ rest_here d in
      let before : List Placed = h.leaves.before in
      let whole : symbols_of c.input_end c.later ≡ g.front ++ left_symbols d = ap (λ (ks : List Line). symbols_of c.input_end ks) split ∙ begun_symbols c l ls ∙ g.split in
      let shown : plain (lines_front t.lines) ≡ plain front =
      shown_split (lines_front t.lines) g.front c.input_end d (sym (lines_split c.input_end t.lines d.later) ∙ ap (λ (ks : List Line). symbols_of c.input_end ks) (sym t.split) ∙ whole) in
      record {
        leaves = record {
          before = front ++ before;
          symbol = h.leaves.symbol;
          after = h.leaves.after;
          occurs =
              whole ∙ ap (λ (ss : List Placed). g.front ++ ss) (left_split d ∙ ap (λ (ss : List Placed). rest_here d ++ ss) h.leaves.occurs)
              ∙ sym (append_assoc g.front (rest_here d) (before ++ (p, h.leaves.symbol) ∷ h.leaves.after)) ∙ sym (append_assoc front before ((p, h.leaves.symbol) ∷ h.leaves.after));
          no_way_on =
              λ others more e w. (let u = taken others w in
              let f : TableFound (with_lines c others) u.0 u.2 = table_found (with_lines c others) u.0 u.1 u.2 u.3 u.4 in
              let left : plain (symbols_of f.left.input_end f.left.later) ≡ plain before ++ h.leaves.symbol ∷ more =
              shown_behind c rows d l ls g (with_lines c others) u.0 f.left (plain before ++ h.leaves.symbol ∷ more) f.read (e ∙ split_plain front before (h.leaves.symbol ∷ more)) in
              h.leaves.no_way_on u.2 more (same_symbols d.input_end f.left.input_end u.2 ∙ ap (λ (ks : List Line). plain (symbols_of f.left.input_end ks)) (sym f.later) ∙ left) u.5);
        };
        others = t.lines ++ h.others;
        more = h.more;
        shown_before =
            ap plain (lines_split c.input_end t.lines h.others) ∙ plain-append (lines_front t.lines) (symbols_of c.input_end h.others)
            ∙ ap (λ (ss : List Symbol). ss ++ plain (symbols_of c.input_end h.others)) shown
            ∙ ap (λ (ss : List Symbol). plain front ++ ss) (same_symbols c.input_end d.input_end h.others ∙ h.shown_before) ∙ sym (split_plain front before h.more);
        way_on = put t.lines h.others rows t.table_lines h.way_on;
      }

  pub first_behind : (c : Reading) (rows : List Row) (d : Reading) (p : Place) → next_table_at c ≡ Ok (rows, d) → FirstLeavesAt InRest d.input_end d.later p → FirstLeavesAt Whole c.input_end c.later p
  first_behind c rows d p e h =
      let f : (l : Line) × (ls : List Line) × (c.later ≡ l ∷ ls) = first_line c rows d e in
      first_at c rows d p f.0 f.1 f.2 (table_read c rows d e) (goes_any_table (begun f.0 f.1 c) rows d (sym (next_of_begun c f.0 f.1 f.2) ∙ e)) h
