-- Readers to the end of an input: no line remains, and blocks of lines one after another.
use Rattle.std.proofs.Common.{◌≡◌, ◌≢◌, List, [], ◌∷◌, ◌++◌, Some, Result, Ok, Err, refl, sym, ap, ◌∙◌, subst}
use Rattle.std.specs.Prelude.{⊤}
use Rattle.std.proofs.lemmas.List.{append_assoc}
use Rattle.text_definitions.specs.declared.Place.{Place}
use Rattle.text_definitions.specs.declared.LexKind.TheVariants.{BadByte, ExtraWord}
use Rattle.text_definitions.specs.declared.LexFault.{LexFault}
use Rattle.text_definitions.specs.Text.{Token, word, stray, Line}
use Rattle.text_definitions.specs.Reading.{Reading, ◌>>=◌, begun, fault_at}
use Rattle.text_definitions.proofs.Readers.{bind_ok}
use Rattle.text_document_definitions.specs.Symbols.{Symbol, shown, strange, line_end, input_end, Placed, line_symbols, symbols_of, plain}
use Rattle.table_definitions.proofs.ReadingLaws.{ok_parts, with_tokens}
use Rattle.text_document_laws.proofs.Local.{left_symbols, shows, opening, plain-append, StopsAt, Goes}
use Rattle.text_document_laws.proofs.LocalWords.{as_is}
use Rattle.text_document_laws.proofs.LocalLines.{none_stop, by_lines, by_line, in_line, rest_here, split_line, further, Further, no_input_end, behind_line as behind_rest}
use Rattle.text_document_laws.proofs.Ways.{From, Way, Alike, alike_goes, Well, WellOpen, well_goes}
use Rattle.text_document_laws.proofs.WordWays.{opens_rest}
use Rattle.text_document_laws.proofs.ConeWays.{of_lines}
use Rattle.text_document_laws.proofs.LeavingCones.{no_lines, cut, cut_shows}
use Rattle.text_document_laws.proofs.TextReaders.{Read}

-- no line may follow: if one does, the error is at its first symbol
abbrev pub first_fault : List Token → Reading → LexFault
first_fault [] c = fault_at c c.current.end ExtraWord
first_fault (stray column ∷ ts) c = fault_at c column BadByte
first_fault (word column w ∷ ts) c = fault_at c column ExtraWord

abbrev pub refused_line : Reading → Read
refused_line b = Err (first_fault b.current.tokens b)

abbrev pub closing : Reading → Read
closing c = by_line none_stop refused_line c

abbrev pub Any : ⊤ → List Symbol → Type 0
Any u ss = ⊤

-- if no line remains of c, none remains of a reading with the same symbols
pub none_later : (c o : Reading) → c.later ≡ [] → shows o ≡ shows c → o.later ≡ []
none_later c o none same = no_lines o.input_end o.later (behind_rest c o (input_end ∷ []) (same ∙ ap (λ (ls : List Line). shows (record c { later = ls })) none ∙ cut_shows c))

pub closing_none : (c : Reading) → c.later ≡ [] → closing c ≡ Ok (tt, c)
closing_none c none = ap (λ (ls : List Line). by_lines none_stop refused_line ls c) none

pub none_closing : (c : Reading) (u : ⊤) (d : Reading) → closing c ≡ Ok (u, d) → (c.later ≡ []) × (c ≡ d)
none_closing c u d e = by_lines_left c.later refl e
  where
    by_lines_left : (ls : List Line) → c.later ≡ ls → by_lines none_stop refused_line ls c ≡ Ok (u, d) → (c.later ≡ []) × (c ≡ d)
    by_lines_left [] split e = (split, (ok_parts (tt, c) (u, d) e).1)
    by_lines_left (l ∷ ls) split e = absurd cc

pub alike_closing : Alike closing
alike_closing c o x d e same =
    let n : (c.later ≡ []) × (c ≡ d) = none_closing c x d e in
    (o, closing_none o (none_later c o n.0 same), same ∙ ap (λ (r : Reading). shows r) n.1)

-- the first symbol of the line
first_symbol : (ts : List Token) (b : Reading) → (symbol : Symbol) × (after : List Placed) × (left_symbols (with_tokens ts b) ≡ ((first_fault ts b).place, symbol) ∷ after) × (symbol ≢ input_end)
unfolding line_symbols
first_symbol [] b = (line_end, symbols_of b.input_end b.later, refl, λ e. absurd cc)
first_symbol (stray column ∷ ts) b = (strange, left_symbols (with_tokens ts b), refl, λ e. absurd cc)
first_symbol (word column w ∷ ts) b = (shown w, left_symbols (with_tokens ts b), refl, λ e. absurd cc)

abbrev OpenAt : {E : Type 0} → (Reading → Result (⊤ × Reading) E) → (⊤ → List Symbol → Type 0) → Reading → Place → Type 0
OpenAt read Aim c p = (h : StopsAt read c p) × (w : Way read h.front Aim) × (opening (shows w.other) ≡ opening (shows c))

some_further : (symbol : Symbol) (more : List Symbol) → symbol ≢ input_end → opening (symbol ∷ more) ≢ Some input_end
some_further symbol more n e = (let same : symbol ≡ input_end = cc in n same)

closed_further : (other : Reading) (more : List Symbol) → Further other more → (x : ⊤ × Reading) → closing other ≢ Ok x
closed_further other more f x e = (let err : by_lines none_stop refused_line (f.line ∷ f.rest) other ≡ Ok x = sym (ap (λ (ls : List Line). by_lines none_stop refused_line ls other) f.lines) ∙ e in absurd cc)

closed_at : (c : Reading) (l : Line) (ls : List Line) → c.later ≡ l ∷ ls → OpenAt closing Any c (first_fault l.tokens (begun l ls c)).place
closed_at c l ls split =
    let s = first_symbol l.tokens (begun l ls c) in (
      record {
        front = rest_here c;
        symbol = s.0;
        after = s.1;
        split = split_line c l ls split ∙ ap (λ (ss : List Placed). rest_here c ++ ss) s.2;
        same = λ other more e x q. closed_further other (s.0 ∷ more) (further c other (s.0 ∷ more) e (some_further s.0 more s.3)) x q;
      },
      record { other = cut c; more = input_end ∷ []; there = cut_shows c; value = tt; next = cut c; reads = refl; aim = tt },
      ap opening (cut_shows c) ∙ opens_rest c (input_end ∷ []),
    )

pub well_closing : (c : Reading) → WellOpen as_is closing Any c
well_closing c f e = by_lines_left c.later refl e
  where
    by_lines_left : (ls : List Line) → c.later ≡ ls → by_lines none_stop refused_line ls c ≡ Err f → OpenAt closing Any c f.place
    by_lines_left [] split e = absurd cc
    by_lines_left (l ∷ ls) split e = (let same : first_fault l.tokens (begun l ls c) ≡ f = cc in subst (λ (g : LexFault). OpenAt closing Any c g.place) same (closed_at c l ls split))

-- readers whose results depend only on the symbols, one after another
pub alike_chained : {A B E : Type 0} (first : Reading → Result (A × Reading) E) (second : A → Reading → Result (B × Reading) E) → Alike first → ((x : A) → Alike (second x)) → Alike (λ c. first c >>= λ (x : A × Reading). second x.0 x.1)
alike_chained {A} {B} {E} first second a b c o y d e same =
    let p : (x : A × Reading) × (first c ≡ Ok x) × (second x.0 x.1 ≡ Ok (y, d)) = bind_ok (first c) (λ (x : A × Reading). second x.0 x.1) (y, d) e in
    let n : (next : Reading) × (first o ≡ Ok ((p.0).0, next)) × (shows next ≡ shows (p.0).1) = a c o (p.0).0 (p.0).1 p.1 same in
    let m : (next : Reading) × (second (p.0).0 n.0 ≡ Ok (y, next)) × (shows next ≡ shows d) = b (p.0).0 (p.0).1 n.0 y d p.2 n.2 in
    (m.0, ap (λ (r : Result (A × Reading) E). r >>= λ (x : A × Reading). second x.0 x.1) n.1 ∙ m.1, m.2)

-- no line remains
abbrev pub AtEnd : ⊤ → List Symbol → Type 0
AtEnd u ss = (r : Reading) → shows r ≡ ss → r.later ≡ []

abbrev pub nothing : Reading
nothing = of_lines []

-- blocks to the end of the input, at most one for each counted line
module _ {A : Type 0} (line : Reading → Result (A × Reading) LexFault) where
  unfoldable pub each_from : List Line → Reading → Read
  each_from [] c = Ok (tt, c)
  each_from (m ∷ most) c = by_lines none_stop (λ b. line b >>= λ (x : A × Reading). each_from most x.1) c.later c

  abbrev pub go_each : List Line → Reading → Read
  go_each most b = line b >>= λ (x : A × Reading). each_from most x.1

  pub each_none : (most : List Line) (c : Reading) → c.later ≡ [] → each_from most c ≡ Ok (tt, c)
  unfolding each_from
  each_none [] c none = refl
  each_none (m ∷ most) c none = ap (λ (ls : List Line). by_lines none_stop (go_each most) ls c) none

  pub each_more : (m : Line) (most : List Line) (c : Reading) (l : Line) (ls : List Line) → c.later ≡ l ∷ ls → each_from (m ∷ most) c ≡ go_each most (begun l ls c)
  unfolding each_from
  each_more m most c l ls split = ap (λ (ks : List Line). by_lines none_stop (go_each most) ks c) split

  same_left : (c o : Reading) (x : ⊤) (d : Reading) (most : List Line) → c.later ≡ [] → each_from most c ≡ Ok (x, d) → shows o ≡ shows c → (next : Reading) × (each_from most o ≡ Ok (x, next)) × (shows next ≡ shows d)
  same_left c o x d most none e same =
      let parts : (tt ≡ x) × (c ≡ d) = ok_parts (tt, c) (x, d) (sym (each_none most c none) ∙ e) in
      (o, each_none most o (none_later c o none same), same ∙ ap (λ (r : Reading). shows r) parts.1)

  same_more : (c o : Reading) (x : ⊤) (d : Reading) (m : Line) (most : List Line) (l : Line) (ls : List Line) → c.later ≡ l ∷ ls → Alike (go_each most) → each_from (m ∷ most) c ≡ Ok (x, d) → shows o ≡ shows c
      → (next : Reading) × (each_from (m ∷ most) o ≡ Ok (x, next)) × (shows next ≡ shows d)
  same_more c o x d m most l ls split alike e same =
      let b : Reading = begun l ls c in
      let there : shows c ≡ plain (rest_here c) ++ shows b = ap plain (split_line c l ls split) ∙ plain-append (rest_here c) (left_symbols b) in
      let f : Further o (shows b) = further c o (shows b) (same ∙ there) (no_input_end l.number l.tokens l.end (symbols_of c.input_end ls)) in
      let n : (next : Reading) × (go_each most (begun f.line f.rest o) ≡ Ok (x, next)) × (shows next ≡ shows d) = alike b (begun f.line f.rest o) x d (sym (each_more m most c l ls split) ∙ e) f.there in
      (n.0, each_more m most o f.line f.rest f.lines ∙ n.1, n.2)

  module _ (goes : (c : Reading) → Goes line c) where
    pub alike_each_from : (most : List Line) → Alike (each_from most)
    unfolding each_from
    alike_each_from [] c o x d e same = (let parts : (tt ≡ x) × (c ≡ d) = ok_parts (tt, c) (x, d) e in (o, ap (λ (u : ⊤). Ok (u, o)) parts.0, same ∙ ap (λ (r : Reading). shows r) parts.1))
    alike_each_from (m ∷ most) c o x d e same = by_lines_left c.later refl (alike_each_from most)
      where
        by_lines_left : (ls : List Line) → c.later ≡ ls → Alike (each_from most) → (next : Reading) × (each_from (m ∷ most) o ≡ Ok (x, next)) × (shows next ≡ shows d)
        by_lines_left [] split others = same_left c o x d (m ∷ most) split e same
        by_lines_left (l ∷ ls) split others = same_more c o x d m most l ls split (alike_chained line (λ y. each_from most) (alike_goes line goes) (λ y. others)) e same

    abbrev ThenEach : List Line → A → List Symbol → Type 0
    ThenEach most x ss = From (each_from most) AtEnd ss

    pub from_nothing : (most : List Line) → From (each_from most) AtEnd (shows nothing)
    from_nothing most = record { start = nothing; there = refl; value = tt; next = nothing; reads = each_none most nothing refl; aim = λ r same. none_later nothing r refl same }

    -- an error in this line, and a continuation of what comes before it
    in_next : (m : Line) (most : List Line) (c : Reading) (l : Line) (ls : List Line) (p : Place) → c.later ≡ l ∷ ls → (h : StopsAt (go_each most) (begun l ls c) p) × Way (go_each most) h.front AtEnd → OpenAt (each_from (m ∷ most)) AtEnd c p
    unfolding each_from
    in_next m most c l ls p split u =
        let w : Way (go_each most) u.0.front AtEnd = u.1 in
        let o : Reading = record w.other { current = c.current; later = w.other.current ∷ w.other.later } in
        let there : shows o ≡ plain (rest_here c) ++ shows w.other = ap plain (split_line o w.other.current w.other.later refl) ∙ plain-append (rest_here c) (left_symbols w.other) in (
          in_line none_stop (go_each most) c l ls p split u.0,
          record {
            other = o;
            more = w.more;
            there =
                there ∙ ap (λ (ss : List Symbol). plain (rest_here c) ++ ss) w.there ∙ sym (append_assoc (plain (rest_here c)) (plain u.0.front) w.more)
                ∙ ap (λ (ss : List Symbol). ss ++ w.more) (sym (plain-append (rest_here c) u.0.front));
            value = w.value;
            next = w.next;
            reads = w.reads;
            aim = w.aim;
          },
          ap opening there ∙ opens_rest c (shows w.other),
        )

    module _ (well : (Aim : A → List Symbol → Type 0) (k : Reading) → k.current.tokens ≡ [] → ((x : A) → Aim x (shows k)) → (c : Reading) → Well as_is line Aim c) where
      pub well_each : (most : List Line) (c : Reading) → WellOpen as_is (each_from most) AtEnd c
      unfolding each_from
      well_each [] c f e = absurd cc
      well_each (m ∷ most) c f e = by_lines_left c.later refl (well_each most) e
        where
          by_lines_left : (ls : List Line) → c.later ≡ ls → ((d : Reading) → WellOpen as_is (each_from most) AtEnd d) → by_lines none_stop (go_each most) ls c ≡ Err f → OpenAt (each_from (m ∷ most)) AtEnd c f.place
          by_lines_left [] split others e = absurd cc
          by_lines_left (l ∷ ls) split others e =
              in_next m most c l ls f.place split
              (well_goes as_is line (λ x. each_from most) AtEnd (λ x. alike_each_from most) (begun l ls c) (goes (begun l ls c))
              (well (ThenEach most) nothing refl (λ x. from_nothing most) (begun l ls c)) (λ x d q. others d) f e)

  -- if what is read is blocks one after another, all remaining lines are; and such lines are read
  module _ (Many : List Line → Type 0) where
    pub each_sound : Many [] → ((b : Reading) (x : A) (d : Reading) → line b ≡ Ok (x, d) → Many d.later → Many (b.current ∷ b.later)) → (most : List Line) (c : Reading) (u : ⊤) (d : Reading) → each_from most c ≡ Ok (u, d) → d.later ≡ [] → Many c.later
    unfolding each_from
    each_sound none more [] c u d e end = (let parts : (tt ≡ u) × (c ≡ d) = ok_parts (tt, c) (u, d) e in subst (λ (ls : List Line). Many ls) (sym (ap (λ (r : Reading). r.later) parts.1 ∙ end)) none)
    each_sound none more (m ∷ most) c u d e end = by_lines_left c.later (λ b q. each_sound none more most b u d q end) e
      where
        by_lines_left : (ls : List Line) → ((b : Reading) → each_from most b ≡ Ok (u, d) → Many b.later) → by_lines none_stop (go_each most) ls c ≡ Ok (u, d) → Many ls
        by_lines_left [] others e = none
        by_lines_left (l ∷ ls) others e =
            let p : (x : A × Reading) × (line (begun l ls c) ≡ Ok x) × (each_from most x.1 ≡ Ok (u, d)) = bind_ok (line (begun l ls c)) (λ (x : A × Reading). each_from most x.1) (u, d) e in
            more (begun l ls c) (p.0).0 (p.0).1 p.1 (others (p.0).1 p.2)

    pub each_complete : ((b : Reading) → Many (b.current ∷ b.later) → (x : A) × (d : Reading) × (line b ≡ Ok (x, d)) × Many d.later) → (most : List Line) (c : Reading) → Many c.later → (y : ⊤ × Reading) × (each_from most c ≡ Ok y)
    unfolding each_from
    each_complete one [] c h = ((tt, c), refl)
    each_complete one (m ∷ most) c h = by_lines_left c.later (each_complete one most) h
      where
        by_lines_left : (ls : List Line) → ((b : Reading) → Many b.later → (y : ⊤ × Reading) × (each_from most b ≡ Ok y)) → Many ls → (y : ⊤ × Reading) × (by_lines none_stop (go_each most) ls c ≡ Ok y)
        by_lines_left [] others h = ((tt, c), refl)
        by_lines_left (l ∷ ls) others h =
            let b : (x : A) × (d : Reading) × (line (begun l ls c) ≡ Ok (x, d)) × Many d.later = one (begun l ls c) h in
            let y : (y : ⊤ × Reading) × (each_from most b.1 ≡ Ok y) = others b.1 b.3 in
            (y.0, ap (λ (r : Result (A × Reading) LexFault). r >>= λ (x : A × Reading). each_from most x.1) b.2 ∙ y.1)
