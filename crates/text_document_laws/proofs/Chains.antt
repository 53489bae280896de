-- Readers that are written out as a chain of calls: if one fails, it has seen no more than what comes before the error
-- and the symbol there, and what comes before it can be continued. There is a law for each call of a chain.
use Rattle.std.proofs.Common.{◌≡◌, ℕ, List, [], Result, Ok, Err, refl, ap, ◌∙◌, subst}
use Rattle.std.specs.Prelude.{⊤, codes}
use Rattle.text_definitions.specs.Written.{limit}
use Rattle.text_definitions.specs.declared.LexKind.{LexKind}
use Rattle.text_definitions.specs.declared.LexFault.{LexFault}
use Rattle.text_definitions.specs.Reading.{Reading, ◌>>=◌, need_line_at, end_line_at, number_at, numbers_at, exactly_at}
use Rattle.text_definitions.proofs.Readers.{numbers_at-end}
use Rattle.table_definitions.proofs.LineLaws.{line_found}
use Rattle.text_document_definitions.specs.Symbols.{Symbol}
use Rattle.text_document_laws.proofs.Local.{shows, Goes, goes_chained, goes_pure, alone, alone_bind, moved}
use Rattle.text_document_laws.proofs.LocalWords.{as_is, word_with, goes_word, goes_end}
use Rattle.text_document_laws.proofs.LocalLines.{goes_line}
use Rattle.text_document_laws.proofs.LocalForms.{exact_test, exact_word, exactly, plain_test, number_word, goes_numbers}
use Rattle.text_document_laws.proofs.Ways.{Sat, Then, Well, WellOpen, Alike, alike_goes, line_before, again_from, sat_both, well_free, well_goes, well_open, well_behind, from_sat, sat_mapped, well_mapped, well_open_mapped}
use Rattle.text_document_laws.proofs.WordWays.{free_word, sat_word, well_word, sat_end, well_end, free_line, well_line, naught_passes}
use Rattle.text_document_laws.proofs.VectorWays.{well_numbers_in}

abbrev pub Reader : Type 0 → Type 0
Reader A = Reading → Result (A × Reading) LexFault

abbrev pub Aims : Type 0 → Type 1
Aims A = A → List Symbol → Type 0

-- a reading at the end of a line that `r` reads so that Aim holds
abbrev pub SatBehind : {A : Type 0} → Reader A → Aims A → Type 0
SatBehind r Aim = (s : Sat r Aim) × (s.start.current.tokens ≡ [])

-- readers of the rest of a line, and readers from the end of a line on
pub record Ends {A : Type 0} (r : Reader A) : Type 1 where
  pub goes : (c : Reading) → Goes r c
  pub sat : (Aim : Aims A) (k : Reading) → k.current.tokens ≡ [] → ((x : A) → Aim x (shows k)) → Sat r Aim
  pub well : (Aim : Aims A) (k : Reading) → k.current.tokens ≡ [] → ((x : A) → Aim x (shows k)) → (c : Reading) → Well as_is r Aim c

pub record Opens {A : Type 0} (r : Reader A) : Type 1 where
  pub goes : (c : Reading) → Goes r c
  pub sat : (Aim : Aims A) (k : Reading) → k.current.tokens ≡ [] → ((x : A) → Aim x (shows k)) → SatBehind r Aim
  pub well : (Aim : Aims A) (k : Reading) → k.current.tokens ≡ [] → ((x : A) → Aim x (shows k)) → (c : Reading) → WellOpen as_is r Aim c

-- a word that passes a test, and a reader of what follows it
module _ {A B : Type 0} (test : List ℕ → Result A LexKind) (w : List ℕ) (x : A) (passes : test w ≡ Ok x) (s : A → Reader B) (g : (y : A) → Ends (s y)) where
  alike : (y : A) → Alike (s y)
  alike y = alike_goes (s y) (g y).goes

  sat_first : (Aim : Aims B) (k : Reading) → k.current.tokens ≡ [] → ((y : B) → Aim y (shows k)) → Sat (word_with test) (Then s Aim)
  sat_first Aim k none a = (let t = (g x).sat Aim k none a in sat_word test w x passes (Then s Aim) t.start (from_sat (s x) Aim t))

  pub ends_word : Ends (λ c. word_with test c >>= λ (y : A × Reading). s y.0 y.1)
  ends_word = record {
    goes = λ c. goes_chained (word_with test) s c (goes_word test c) (λ y d e. (g y).goes d);
    sat = λ Aim k none a. sat_both as_is (word_with test) s Aim alike (sat_first Aim k none a);
    well = λ Aim k none a c. well_free as_is (word_with test) s Aim alike c (free_word test c) (well_word test (Then s Aim) c (sat_first Aim k none a)) (λ y d e. (g y).well Aim k none a d);
  }

-- as `ends_word`, for a reader that equals a reader of a word with a test
pub ends_tested : {A B : Type 0} (test : List ℕ → Result A LexKind) (r : Reader A) → ((c : Reading) → word_with test c ≡ r c) → (w : List ℕ) (x : A) → test w ≡ Ok x → (s : A → Reader B) → ((y : A) → Ends (s y)) → Ends (λ c. r c >>= λ (y : A × Reading). s y.0 y.1)
ends_tested {A} {B} test r same w x passes s g = subst (λ (q : Reader B). Ends q) (λ i c. same c i >>= λ (y : A × Reading). s y.0 y.1) (ends_word test w x passes s g)

pub ends_named : {A : Type 0} (w : List ℕ) (r : Reader A) → exact_test w w ≡ Ok tt → Ends r → Ends (λ c. exactly_at w c >>= r)
ends_named {A} w r passes g = subst (λ (q : Reader A). Ends q) (λ i c. alone_bind (exactly_at w c) r i) (ends_tested (exact_test w) (exactly w) (exact_word w) w tt passes (λ u. r) (λ u. g))

-- a number, and a reader of what follows it; 0 is such a number
pub ends_number : {A : Type 0} (max : ℕ) (s : ℕ → Reader A) → ((n : ℕ) → Ends (s n)) → Ends (λ c. number_at max c >>= λ (n : ℕ × Reading). s n.0 n.1)
ends_number max s g = ends_tested (plain_test max) (number_at max) (number_word max) (codes "0") 0 (naught_passes max) s g

pub ends_numbers : Ends (numbers_at limit)
ends_numbers = record {
  goes = goes_numbers limit;
  sat = λ Aim k none a. record { start = k; value = []; next = k; reads = numbers_at-end limit k none; aim = a [] };
  well = λ Aim k none a c. well_numbers_in k none c.current.tokens c refl Aim a;
}

-- the end of a line; the next line
pub ends_ending : Ends (moved end_line_at)
ends_ending = record { goes = goes_end; sat = λ Aim k none a. sat_end Aim k none (a tt); well = λ Aim k none a c. well_end Aim c (sat_end Aim k none (a tt)) }

pub ends_lines : {A : Type 0} (r : Reader A) → Opens r → Ends (λ c. moved end_line_at c >>= λ (u : ⊤ × Reading). r u.1)
ends_lines {A} r g =
    let end : (Aim : Aims A) (k : Reading) → k.current.tokens ≡ [] → ((x : A) → Aim x (shows k)) → Sat (moved end_line_at) (Then (λ u. r) Aim) =
    λ Aim k none a. (let t = g.sat Aim k none a in sat_end (Then (λ u. r) Aim) t.0.start t.1 (from_sat r Aim t.0)) in
    record {
      goes = λ c. goes_chained (moved end_line_at) (λ u. r) c (goes_end c) (λ u d e. g.goes d);
      sat = λ Aim k none a. sat_both as_is (moved end_line_at) (λ u. r) Aim (λ u. alike_goes r g.goes) (end Aim k none a);
      well = λ Aim k none a c. well_goes as_is (moved end_line_at) (λ u. r) Aim (λ u. alike_goes r g.goes) c (goes_end c) (well_end (Then (λ u. r) Aim) c (end Aim k none a)) (λ u d e. g.well Aim k none a d);
    }

pub ends_line : {A : Type 0} (r : Reader A) → Opens r → Ends (λ c. end_line_at c >>= r)
ends_line {A} r g = subst (λ (q : Reader A). Ends q) (λ i c. alone_bind (end_line_at c) r i) (ends_lines r g)

-- a reading of the line, from the end of an empty line before it
pub in_next_line : {A : Type 0} (r : Reader A) (Aim : Aims A) → Sat r Aim → SatBehind (λ c. moved need_line_at c >>= λ (u : ⊤ × Reading). r u.1) Aim
unfolding line_before
in_next_line r Aim s = (
  record { start = line_before s.start; value = s.value; next = s.next; reads = ap (λ (q : Result Reading LexFault). alone q >>= λ (u : ⊤ × Reading). r u.1) (line_found (line_before s.start) s.start.current s.start.later refl) ∙ s.reads; aim = s.aim },
  refl,
)

pub opens_next : {A : Type 0} (r : Reader A) → Ends r → Opens (λ c. moved need_line_at c >>= λ (u : ⊤ × Reading). r u.1)
opens_next r g = record {
  goes = λ c. goes_chained (moved need_line_at) (λ u. r) c (goes_line c) (λ u d e. g.goes d);
  sat = λ Aim k none a. in_next_line r Aim (g.sat Aim k none a);
  well = λ Aim k none a c. (let s = g.sat Aim k none a in
      well_behind as_is (moved need_line_at) (λ u. r) Aim (λ u. alike_goes r g.goes) c (free_line c) (well_line (Then (λ u. r) Aim) c s.start (from_sat r Aim s)) (λ u d e. g.well Aim k none a d));
}

pub opens_line : {A : Type 0} (r : Reader A) → Ends r → Opens (λ c. need_line_at c >>= r)
opens_line {A} r g = subst (λ (q : Reader A). Opens q) (λ i c. alone_bind (need_line_at c) r i) (opens_next r g)

-- a reader of nothing, with a given value; a function of what a reader returns
pub opens_pure : {A : Type 0} (x : A) → Opens (λ c. Ok (x, c))
opens_pure x = record { goes = goes_pure x; sat = λ Aim k none a. (record { start = k; value = x; next = k; reads = refl; aim = a x }, none); well = λ Aim k none a c f e. absurd cc }

abbrev pub made : {A B : Type 0} → (A → B) → Reader A → Reader B
made {A} g r c = r c >>= λ (y : A × Reading). Ok (g y.0, y.1)

module _ {A B : Type 0} (make : A → B) (r : Reader A) where
  pub ends_made : Ends r → Ends (made make r)
  ends_made f = record {
    goes = λ c. goes_chained r (λ x d. Ok (make x, d)) c (f.goes c) (λ x d e. goes_pure (make x) d);
    sat = λ Aim k none a. sat_mapped r make Aim (f.sat (λ x ss. Aim (make x) ss) k none (λ x. a (make x)));
    well = λ Aim k none a c. well_mapped r make Aim c (f.well (λ x ss. Aim (make x) ss) k none (λ x. a (make x)) c);
  }

  pub opens_made : Opens r → Opens (made make r)
  opens_made f = record {
    goes = λ c. goes_chained r (λ x d. Ok (make x, d)) c (f.goes c) (λ x d e. goes_pure (make x) d);
    sat = λ Aim k none a. (let s = f.sat (λ x ss. Aim (make x) ss) k none (λ x. a (make x)) in
        (record { start = s.0.start; value = make s.0.value; next = s.0.next; reads = ap (λ (q : Result (A × Reading) LexFault). q >>= λ (y : A × Reading). Ok (make y.0, y.1)) s.0.reads; aim = s.0.aim }, s.1));
    well = λ Aim k none a c. well_open_mapped r make Aim c (f.well (λ x ss. Aim (make x) ss) k none (λ x. a (make x)) c);
  }

-- readers one after another, however they are bracketed
pub bind_bind : {A B C E : Type 0} (r : Result A E) (f : A → Result B E) (g : B → Result C E) → ((r >>= f) >>= g) ≡ (r >>= λ (x : A). f x >>= g)
bind_bind (Ok x) f g = refl
bind_bind (Err e) f g = refl

pub behind_both : {A B : Type 0} (first : Reader A) (second : A → Reader B) (Aim : Aims B) → ((x : A) → Alike (second x)) → SatBehind first (Then second Aim) → SatBehind (λ c. first c >>= λ (x : A × Reading). second x.0 x.1) Aim
behind_both {A} first second Aim alike s =
    let n = again_from (second s.0.value) Aim (alike s.0.value) (shows s.0.next) s.0.aim s.0.next refl in
    (record { start = s.0.start; value = n.0; next = n.1; reads = ap (λ (q : Result (A × Reading) LexFault). q >>= λ (x : A × Reading). second x.0 x.1) s.0.reads ∙ n.2; aim = n.3 }, s.1)

-- one reader after another, the second on further lines
abbrev pub join : {A B C : Type 0} → (A → B → C) → Reader A → Reader B → Reader C
join {A} make r s c = r c >>= λ (x : A × Reading). made (make x.0) s x.1

module _ {A B C : Type 0} (make : A → B → C) (r : Reader A) (s : Reader B) (g : Opens s) where
  abbrev second : A → Reader C
  second x d = made (make x) s d

  alike_second : (x : A) → Alike (second x)
  alike_second x = alike_goes (second x) (opens_made (make x) s g).goes

  -- from the end of a line on, whatever the first reader returned
  between : (Aim : Aims C) (k : Reading) → k.current.tokens ≡ [] → ((z : C) → Aim z (shows k)) → (b : Reading) × (b.current.tokens ≡ []) × ((x : A) → Then second Aim x (shows b))
  between Aim k none a =
      let t = g.sat (λ y ss. (x : A) → Aim (make x y) ss) k none (λ y x. a (make x y)) in
      (t.0.start, t.1, λ x. record { start = t.0.start; there = refl; value = make x t.0.value; next = t.0.next; reads = ap (λ (q : Result (B × Reading) LexFault). q >>= λ (y : B × Reading). Ok (make x y.0, y.1)) t.0.reads; aim = t.0.aim x })

  goes_join : ((c : Reading) → Goes r c) → (c : Reading) → Goes (join make r s) c
  goes_join f c = goes_chained r second c (f c) (λ x d p. (opens_made (make x) s g).goes d)

  pub ends_join : Ends r → Ends (join make r s)
  ends_join f = record {
    goes = goes_join f.goes;
    sat = λ Aim k none a. (let b = between Aim k none a in sat_both as_is r second Aim alike_second (f.sat (Then second Aim) b.0 b.1 b.2));
    well = λ Aim k none a c. (let b = between Aim k none a in
        well_goes as_is r second Aim alike_second c (f.goes c) (f.well (Then second Aim) b.0 b.1 b.2 c) (λ x d p. (opens_made (make x) s g).well Aim k none a d));
  }

  pub opens_join : Opens r → Opens (join make r s)
  opens_join f = record {
    goes = goes_join f.goes;
    sat = λ Aim k none a. (let b = between Aim k none a in behind_both r second Aim alike_second (f.sat (Then second Aim) b.0 b.1 b.2));
    well = λ Aim k none a c. (let b = between Aim k none a in
        well_open as_is r second Aim alike_second c (f.goes c) (f.well (Then second Aim) b.0 b.1 b.2 c) (λ x d p. (opens_made (make x) s g).well Aim k none a d));
  }

whole : {A : Type 0} (r : Result (A × Reading) LexFault) → (r >>= λ (y : A × Reading). Ok (y.0, y.1)) ≡ r
whole (Ok y) = refl
whole (Err e) = refl

pub opens_both : {A B : Type 0} (r : Reader A) (s : Reader B) → Opens s → Opens r → Opens (λ c. r c >>= λ (x : A × Reading). s x.1)
opens_both {A} {B} r s g f = subst (λ (q : Reader B). Opens q) (λ i c. r c >>= λ (x : A × Reading). whole (s x.1) i) (opens_join (λ x y. y) r s g f)
