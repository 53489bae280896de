-- Numbers to the end of a line: what comes before an error can be continued to such numbers.
use Rattle.std.proofs.Common.{◌≡◌, ◌≢◌, ℕ, List, [], ◌∷◌, Result, Ok, Err, refl, sym, ap, ◌∙◌, subst}
use Rattle.text_definitions.specs.declared.Place.{Place}
use Rattle.text_definitions.specs.declared.LexFault.{LexFault}
use Rattle.text_definitions.specs.Text.{Token}
use Rattle.text_definitions.specs.Written.{limit}
use Rattle.text_definitions.specs.Reading.{Reading, ◌>>=◌, word_at, number_at, numbers_from, numbers_at}
use Rattle.text_document_definitions.specs.Symbols.{Symbol, Placed}
use Rattle.table_definitions.proofs.ReadingLaws.{with_tokens}
use Rattle.text_document_laws.proofs.Local.{shows, StopsAt, Goes, goes_chained, goes_pure}
use Rattle.text_document_laws.proofs.LocalWords.{as_is}
use Rattle.text_document_laws.proofs.LocalLines.{by_end, by_ends, end_stop}
use Rattle.text_document_laws.proofs.LocalForms.{goes_numbers, others_with, one_more, numbers_stepped, tokens_after}
use Rattle.text_document_laws.proofs.Ways.{From, alike_each, Way, Well, well_free, well_mapped}
use Rattle.text_document_laws.proofs.WordWays.{free_number, well_number}
use Rattle.text_document_laws.proofs.Given.{Numbers}

-- no number is read at the end of a line
no_number : (c : Reading) → c.current.tokens ≡ [] → (y : Numbers) → one_more limit c ≢ Ok y
unfolding number_at word_at
no_number c none y e = (let here : one_more limit (with_tokens [] c) ≡ Ok y = sym (ap (λ (ts : List Token). one_more limit (with_tokens ts c)) none) ∙ e in absurd cc)

one_more_reads : (o : Reading) (y : Numbers) → one_more limit o ≡ Ok y → numbers_at limit o ≡ Ok y
one_more_reads o y e = sym (numbers_stepped limit o) ∙ by_tokens o.current.tokens refl
  where
    by_tokens : (ts : List Token) → o.current.tokens ≡ ts → by_ends [] (one_more limit) ts o ≡ Ok y
    by_tokens [] none = absurd (no_number o none y e)
    by_tokens (t ∷ ts) split = e

no_numbers : (k : Reading) → k.current.tokens ≡ [] → numbers_at limit k ≡ Ok ([], k)
unfolding numbers_from
no_numbers k none = ap (λ (ts : List Token). numbers_from limit ts k) none

goes_others : (n : ℕ) (c : Reading) → Goes (others_with limit n) c
goes_others n c = goes_chained (numbers_at limit) (λ xs d. Ok (n ∷ xs, d)) c (goes_numbers limit c) (λ xs last q. goes_pure (n ∷ xs) last)

module _ (k : Reading) (none : k.current.tokens ≡ []) where
  from_numbers : (n : ℕ) (Aim : List ℕ → List Symbol → Type 0) → Aim (n ∷ []) (shows k) → From (others_with limit n) Aim (shows k)
  from_numbers n Aim a = record { start = k; there = refl; value = n ∷ []; next = k; reads = ap (λ (r : Result Numbers LexFault). r >>= λ (xs : Numbers). Ok (n ∷ xs.0, xs.1)) (no_numbers k none); aim = a }

  numbers_way : (Aim : List ℕ → List Symbol → Type 0) (front : List Placed) → Way (one_more limit) front Aim → Way (numbers_at limit) front Aim
  numbers_way Aim front w = record { other = w.other; more = w.more; there = w.there; value = w.value; next = w.next; reads = one_more_reads w.other (w.value, w.next) w.reads; aim = w.aim }

  abbrev Stopped : (List ℕ → List Symbol → Type 0) → Reading → Place → (Reading → Result Numbers LexFault) → Type 0
  Stopped Aim c p read = (h : StopsAt read c p) × Way (numbers_at limit) h.front Aim

  well_stepped : (Aim : List ℕ → List Symbol → Type 0) (c : Reading) (t : Token) (ts : List Token) → c.current.tokens ≡ t ∷ ts → Well as_is (one_more limit) Aim c → Well as_is (numbers_at limit) Aim c
  well_stepped Aim c t ts split w f e =
      let here : one_more limit c ≡ Err f = ap (λ (us : List Token). by_ends [] (one_more limit) us c) (sym split) ∙ numbers_stepped limit c ∙ e in
      let u = w f here in
      let made : Stopped Aim c f.place (by_end [] (one_more limit)) = (end_stop [] (one_more limit) c t ts f.place split u.0, numbers_way Aim u.0.front u.1) in
      subst (λ (q : Reading → Result Numbers LexFault). Stopped Aim c f.place q) (λ i d. numbers_stepped limit d i) made

  pub well_numbers_in : (ts : List Token) (c : Reading) → c.current.tokens ≡ ts → (Aim : List ℕ → List Symbol → Type 0) → ((xs : List ℕ) → Aim xs (shows k)) → Well as_is (numbers_at limit) Aim c
  well_numbers_in [] c empty Aim a = λ f e. (let both : ◌≡◌ {A = Result Numbers LexFault} (Ok ([], c)) (Err f) = sym (no_numbers c empty) ∙ e in absurd cc)
  well_numbers_in (u ∷ us) c first Aim a =
      well_stepped Aim c u us first
      (well_free as_is (number_at limit) (others_with limit) Aim (alike_each (others_with limit) goes_others) c (free_number limit c) (well_number limit (λ n ss. From (others_with limit n) Aim ss) c k (from_numbers 0 Aim (a (0 ∷ []))))
      (λ n d e. well_mapped (numbers_at limit) (λ xs. n ∷ xs) Aim d (well_numbers_in us d (sym (tokens_after limit c u us n d first e)) (λ xs. Aim (n ∷ xs)) (λ xs. a (n ∷ xs)))))
