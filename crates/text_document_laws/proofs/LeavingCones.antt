-- If a cone is refused, its lines leave the grammar at the place of the error, and at none before.
use Rattle.std.proofs.Common.{◌≡◌, ℕ, List, [], ◌∷◌, ◌++◌, Result, Ok, Err, ◌⊎◌, inl, inr, refl, sym, ap, ◌∙◌, subst}
use Rattle.std.specs.Prelude.{⊤}
use Rattle.std.proofs.lemmas.List.{append-nil, append_assoc}
use Rattle.text_definitions.specs.declared.Place.{Place}
use Rattle.text_definitions.specs.declared.LexFault.{LexFault}
use Rattle.text_definitions.specs.Text.{Token, word, stray, Line, lines_of, end_of}
use Rattle.text_definitions.specs.Reading.{Reading, ◌>>=◌, begun, start_of, end_line_at}
use Rattle.cone_text_definitions.specs.ConeText.{Cone, cone_at}
use Rattle.text_document_definitions.specs.ConeGrammar.{AreConeLines}
use Rattle.text_document_definitions.specs.Documents.{no_line_at, no_line_from, cone_document}
use Rattle.text_document_definitions.specs.Symbols.{Symbol, line_end, input_end, Placed, token_symbol, line_symbols, symbols_of, plain, LeavesAt, FirstLeavesAt}
use Rattle.text_document_laws.specs.FaultLaws.{ConeFaultsLeave, SomeCone}
use Rattle.text_document_laws.proofs.ConeReading.{ConeRead, cone_read}
use Rattle.text_document_laws.proofs.Cones.{closed_cone, cone_on, cone_document_found}
use Rattle.text_document_laws.proofs.Local.{shows, opening, plain-append, AlwaysSteps, StopsAt, bind_err, stops_early, stops_late, alone, alone_bind, moved}
use Rattle.text_document_laws.proofs.LocalWords.{StopsHere, stops_end_here}
use Rattle.text_document_laws.proofs.LocalLines.{by_lines, in_line, rest_here, line_split, behind_line as behind_rest, no_input_end, none_stop}
use Rattle.text_document_laws.proofs.Leaving.{StopsBehind, behind_end, behind_line, start_with, leaves, no_line_alone}
use Rattle.text_document_laws.proofs.LeavingDocuments.{no_line, no_line_ends, cone_by_line}
use Rattle.text_document_laws.proofs.Ways.{Way, graft}
use Rattle.text_document_laws.proofs.WordWays.{opens_rest}
use Rattle.text_document_laws.proofs.ConeWays.{last_symbols, IsLast, ends_cone, sat_cone, well_cone}

-- the symbols alone do not depend on the place where the input ends
pub same_line : (n : ℕ) (ts : List Token) (end : ℕ) (xs ys : List Placed) → plain xs ≡ plain ys → plain (line_symbols n ts end xs) ≡ plain (line_symbols n ts end ys)
unfolding line_symbols
same_line n [] end xs ys e = ap (λ (ss : List Symbol). line_end ∷ ss) e
same_line n (t ∷ ts) end xs ys e = ap (λ (ss : List Symbol). (token_symbol n t).1 ∷ ss) (same_line n ts end xs ys e)

pub same_symbols : (p q : Place) (ls : List Line) → plain (symbols_of p ls) ≡ plain (symbols_of q ls)
unfolding symbols_of
same_symbols p q [] = refl
same_symbols p q (l ∷ ls) = same_line l.number l.tokens l.end (symbols_of p ls) (symbols_of q ls) (same_symbols p q ls)

opened : (o : Reading) → plain (symbols_of o.input_end (o.current ∷ o.later)) ≡ shows o
unfolding symbols_of
opened o = refl

pub as_lines : (end : Place) (o : Reading) → plain (symbols_of end (o.current ∷ o.later)) ≡ shows o
as_lines end o = same_symbols end o.input_end (o.current ∷ o.later) ∙ opened o

-- if only the end of the input remains, no line does
pub no_lines : (p : Place) (ls : List Line) → plain (symbols_of p ls) ≡ input_end ∷ [] → ls ≡ []
unfolding symbols_of
no_lines p [] e = refl
no_lines p (l ∷ ls) e = absurd (no_input_end l.number l.tokens l.end (symbols_of p ls) (ap opening e))

pub none_behind : (ts : List Token) (n end : ℕ) (p : Place) (ls : List Line) → plain (line_symbols n ts end (symbols_of p ls)) ≡ last_symbols → ls ≡ []
unfolding line_symbols
none_behind [] n end p ls e = (let tail : plain (symbols_of p ls) ≡ input_end ∷ [] = cc in no_lines p ls tail)
none_behind (word column w ∷ ts) n end p ls e = absurd cc
none_behind (stray column ∷ ts) n end p ls e = absurd cc

-- lines that a cone was read from are those of the cone if nothing remains
whole_cone : (o : Reading) (cone : Cone) (d : Reading) → ConeRead o cone d → d.later ≡ [] → AreConeLines (o.current ∷ o.later) cone
whole_cone o cone d r none =
    let same : o.later ≡ r.lines = r.split ∙ ap (λ (ls : List Line). r.lines ++ ls) none ∙ append-nil r.lines in
    subst (λ (ls : List Line). AreConeLines (o.current ∷ ls) cone) (sym same) r.cone_lines

some_cone : (o : Reading) (cone : Cone) (d : Reading) → cone_at o ≡ Ok (cone, d) → d.later ≡ [] → SomeCone (o.current ∷ o.later)
some_cone o cone d e none = (cone, whole_cone o cone d (cone_read o cone d e) none)

doc_found : (bytes : List ℕ) (others : List Line) → SomeCone others → (x : Cone) × (by_lines no_line cone_on others (start_with bytes others) ≡ Ok x)
doc_found bytes others g = (g.0, cone_by_line (start_with bytes others) ∙ cone_document_found (start_with bytes others) g.0 g.1)

-- the lines leave the grammar of cones where the reader fails
abbrev left_at : (bytes : List ℕ) (p : Place) → StopsBehind (λ c. by_lines no_line cone_on c.later c) (start_of bytes) p → LeavesAt SomeCone (end_of bytes) (lines_of bytes) p
left_at bytes p h = leaves (λ c. by_lines no_line cone_on c.later c) SomeCone bytes p h (doc_found bytes)

abbrev First : List ℕ → Place → Type 0
First bytes p = FirstLeavesAt SomeCone (end_of bytes) (lines_of bytes) p

-- the input has no line
first_of_none : (bytes : List ℕ) (p : Place) → lines_of bytes ≡ [] → p ≡ end_of bytes → First bytes p
first_of_none bytes p split there = record {
  leaves = left_at bytes p (behind_end no_line cone_on (start_of bytes) p split there (λ d x q. absurd cc));
  others = sat_cone.start.current ∷ sat_cone.start.later;
  more = plain (symbols_of (end_of bytes) (sat_cone.start.current ∷ sat_cone.start.later));
  shown_before = refl;
  way_on =
      some_cone sat_cone.start sat_cone.value sat_cone.next sat_cone.reads
      (none_behind sat_cone.next.current.tokens sat_cone.next.current.number sat_cone.next.current.end sat_cone.next.input_end sat_cone.next.later sat_cone.aim);
}

-- the error is in the cone
first_of_cone : (bytes : List ℕ) (l : Line) (ls : List Line) (p : Place) → lines_of bytes ≡ l ∷ ls → (h : StopsAt cone_at (begun l ls (start_of bytes)) p) × Way cone_at h.front IsLast → First bytes p
first_of_cone bytes l ls p split u =
    let c : Reading = start_of bytes in
    let w : Way cone_at u.0.front IsLast = u.1 in
    record {
      leaves = left_at bytes p (behind_line no_line cone_on c l ls p split (stops_early cone_at closed_cone (begun l ls c) p u.0));
      others = w.other.current ∷ w.other.later;
      more = w.more;
      shown_before = as_lines (end_of bytes) w.other ∙ w.there;
      way_on = some_cone w.other w.value w.next w.reads (none_behind w.next.current.tokens w.next.current.number w.next.current.end w.next.input_end w.next.later w.aim);
    }

-- a line follows the cone
abbrev StopsPast : {X : Type 0} → (Reading → Result X LexFault) → Reading → Place → Type 0
StopsPast read d p = (h : StopsAt read d p) × (h.front ≡ rest_here d)

past_in : (ls : List Line) (d : Reading) → d.later ≡ ls → (f : LexFault) → no_line_from ls d ≡ Err f → StopsPast (λ c. by_lines none_stop (moved end_line_at) c.later c) d f.place
past_in [] d split f e = absurd cc
past_in (l ∷ ls) d split f e =
    let h : StopsHere (moved end_line_at) (begun l ls d) f.place = stops_end_here l.tokens (begun l ls d) f (ap alone e) in
    (in_line none_stop (moved end_line_at) d l ls f.place split h.0, ap (λ (fr : List Placed). rest_here d ++ fr) h.1 ∙ append-nil (rest_here d))

past_cone : (cone : Cone) (d : Reading) (f : LexFault) → no_line_at d ≡ Err f → StopsPast (closed_cone cone) d f.place
past_cone cone d f e =
    let alone_past : StopsPast (λ c. alone (no_line_at c)) d f.place =
    subst (λ (q : Reading → Result (⊤ × Reading) LexFault). StopsPast q d f.place) (λ i c. no_line_alone c i) (past_in d.later d refl f e) in
    let closed : StopsPast (λ c. alone (no_line_at c) >>= λ (u : ⊤ × Reading). Ok cone) d f.place = (stops_early (λ c. alone (no_line_at c)) (λ u c. Ok cone) d f.place alone_past.0, alone_past.1) in
    subst (λ (q : Reading → Result Cone LexFault). StopsPast q d f.place) (λ i c. alone_bind (no_line_at c) (λ last. Ok cone) i) closed

abbrev pub cut : Reading → Reading
cut d = record d { later = [] }

pub cut_shows : (d : Reading) → shows (cut d) ≡ plain (rest_here d) ++ input_end ∷ []
unfolding symbols_of
cut_shows d = ap plain (line_split d.current.number d.current.tokens d.current.end ((d.input_end, input_end) ∷ [])) ∙ plain-append (rest_here d) ((d.input_end, input_end) ∷ [])

first_past_cone : (bytes : List ℕ) (l : Line) (ls : List Line) (p : Place) (cone : Cone) (d : Reading) → lines_of bytes ≡ l ∷ ls → AlwaysSteps cone_at (begun l ls (start_of bytes)) cone d → StopsPast (closed_cone cone) d p → First bytes p
first_past_cone bytes l ls p cone d split g h =
    let c : Reading = start_of bytes in
    let gr : (o : Reading) × (shows o ≡ plain g.front ++ shows (cut d)) = graft (begun l ls c) g.front d g.split (cut d) in
    let opens : opening (shows (cut d)) ≡ opening (shows d) = ap opening (cut_shows d) ∙ opens_rest d (input_end ∷ []) in
    let n : (next : Reading) × (cone_at gr.0 ≡ Ok (cone, next)) × (shows next ≡ shows (cut d)) = g.same gr.0 (shows (cut d)) gr.1 opens in
    let none : n.0.later ≡ [] = no_lines n.0.input_end n.0.later (behind_rest d n.0 (input_end ∷ []) (n.2 ∙ cut_shows d)) in
    record {
      leaves = left_at bytes p (behind_line no_line cone_on c l ls p split (stops_late cone_at closed_cone (begun l ls c) cone d p g h.0));
      others = gr.0.current ∷ gr.0.later;
      more = input_end ∷ [];
      shown_before =
          as_lines (end_of bytes) gr.0 ∙ gr.1 ∙ ap (λ (ss : List Symbol). plain g.front ++ ss) (cut_shows d ∙ ap (λ (fr : List Placed). plain fr ++ input_end ∷ []) (sym h.1))
          ∙ sym (append_assoc (plain g.front) (plain h.0.front) (input_end ∷ [])) ∙ ap (λ (ss : List Symbol). ss ++ input_end ∷ []) (sym (plain-append g.front h.0.front));
      way_on = some_cone gr.0 cone n.0 n.1 none;
    }

no_end : (cone : Cone) (r : Result Reading LexFault) (f : LexFault) → ◌≡◌ {A = Result Cone LexFault} (r >>= λ (last : Reading). Ok cone) (Err f) → r ≡ Err f
no_end cone (Ok d) f e = absurd cc
no_end cone (Err g) f e = (let same : g ≡ f = cc in cc)

first_in : (bytes : List ℕ) (ls : List Line) → lines_of bytes ≡ ls → (f : LexFault) → by_lines no_line cone_on ls (start_of bytes) ≡ Err f → First bytes f.place
first_in bytes [] split f e = first_of_none bytes f.place split (no_line_ends {X = Cone} (start_of bytes) f e).0
first_in bytes (l ∷ ls) split f e = by_case (bind_err (cone_at b) (λ (x : Cone × Reading). closed_cone x.0 x.1) f e)
  where
    b : Reading
    b = begun l ls (start_of bytes)

    by_case : (cone_at b ≡ Err f) ⊎ ((y : Cone × Reading) × (cone_at b ≡ Ok y) × (closed_cone y.0 y.1 ≡ Err f)) → First bytes f.place
    by_case (inl p) = first_of_cone bytes l ls f.place split (well_cone b f p)
    by_case (inr (y, p, q)) = first_past_cone bytes l ls f.place y.0 y.1 split (ends_cone.goes b y.0 y.1 p) (past_cone y.0 y.1 f (no_end y.0 (no_line_at y.1) f q))

pub cone_faults_leave : ConeFaultsLeave
unfolding cone_document
cone_faults_leave bytes f e = first_in bytes (lines_of bytes) refl f (cone_by_line (start_of bytes) ∙ e)
