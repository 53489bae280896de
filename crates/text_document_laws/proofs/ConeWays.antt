-- Cones: what comes before an error can be continued to a cone.
use Rattle.std.proofs.Common.{◌≡◌, ℕ, zero, suc, ℤ, pos, List, [], ◌∷◌, Ok, refl, sym, ap, ◌∙◌, subst}
use Rattle.std.specs.Prelude.{replicate, codes}
use Rattle.text_definitions.specs.declared.Place.{Place}
use Rattle.text_definitions.specs.Text.{Token, Line}
use Rattle.text_definitions.specs.Reading.{Reading, ◌>>=◌, signed_at}
use Rattle.cone_text_definitions.specs.ConeText.{Cone, coefficients_at, cone_row_at, cone_rows_at, rows_of_cone_at, cone_at}
use Rattle.text_document_definitions.specs.Symbols.{Symbol, line_end, input_end, line_symbols, symbols_of, plain}
use Rattle.text_document_laws.proofs.Local.{shows}
use Rattle.text_document_laws.proofs.LocalWords.{as_is}
use Rattle.text_document_laws.proofs.LocalForms.{number_test, signed_test, signed_word, exact_test}
use Rattle.text_document_laws.proofs.Ways.{Sat, Well}
use Rattle.text_document_laws.proofs.Chains.{Reader, Ends, Opens, made, bind_bind, ends_tested, ends_named, ends_number, ends_line, opens_line, opens_pure, opens_made, opens_join}
use Rattle.text_document_laws.proofs.ConeSteps.{closed_row, row_on}
use Rattle.text_document_laws.proofs.Given.{Row}

naught_signed : signed_test 1000000 (codes "0") ≡ Ok (pos 0)
unfolding signed_test number_test
naught_signed = refl

-- n coefficients, and a reader of what follows them
module _ {B : Type 0} where
  abbrev pub behind : ℕ → (List ℤ → Reader B) → Reader B
  behind n more c = coefficients_at n c >>= λ (r : Row). more r.0 r.1

  abbrev pub behind_first : ℕ → (List ℤ → Reader B) → ℤ → Reader B
  behind_first n more z c = behind n (λ r. more (z ∷ r)) c

  pub one_first : (n : ℕ) (more : List ℤ → Reader B) (c : Reading) → (signed_at 1000000 c >>= λ (z : ℤ × Reading). behind_first n more z.0 z.1) ≡ behind (suc n) more c
  unfolding coefficients_at
  one_first n more c =
      ap (λ (h : ℤ → Reader B). signed_at 1000000 c >>= λ (z : ℤ × Reading). h z.0 z.1) (λ i z d. sym (bind_bind (coefficients_at n d) (λ (r : Row). Ok (z ∷ r.0, r.1)) (λ (r : Row). more r.0 r.1)) i)
      ∙ sym (bind_bind (signed_at 1000000 c) (λ (z : ℤ × Reading). coefficients_at n z.1 >>= λ (r : Row). Ok (z.0 ∷ r.0, r.1)) (λ (r : Row). more r.0 r.1))

  ends_coefficients : (n : ℕ) (more : List ℤ → Reader B) → ((r : List ℤ) → Ends (more r)) → Ends (behind n more)
  unfolding coefficients_at
  ends_coefficients zero more g = g []
  ends_coefficients (suc n) more g =
      subst (λ (r : Reader B). Ends r) (λ i c. one_first n more c i)
      (ends_tested (signed_test 1000000) (signed_at 1000000) (signed_word 1000000) (codes "0") (pos 0) naught_signed (behind_first n more) (λ z. ends_coefficients n (λ r. more (z ∷ r)) (λ r. g (z ∷ r))))

opens_row : (columns : ℕ) → Opens (cone_row_at columns)
unfolding cone_row_at
opens_row columns = opens_line (row_on columns) (ends_coefficients columns closed_row (λ r. ends_line (λ end. Ok (r, end)) (opens_pure r)))

opens_rows : (n columns : ℕ) → Opens (cone_rows_at n columns)
unfolding cone_rows_at
opens_rows zero columns = opens_pure []
opens_rows (suc n) columns = opens_join (λ r rs. r ∷ rs) (cone_row_at columns) (cone_rows_at n columns) (opens_rows n columns) (opens_row columns)

opens_cone_rows : (columns n : ℕ) → Opens (rows_of_cone_at columns n)
opens_cone_rows zero n = opens_pure (replicate n [])
opens_cone_rows (suc columns) n = opens_rows n (suc columns)

abbrev pub cone_of : ℕ → List (List ℤ) → Cone
cone_of columns rows = record { columns = columns; rows = rows }

pub ends_cone : Ends cone_at
unfolding cone_at exact_test
ends_cone =
    ends_named (codes "cone") _ refl (ends_number 10000 _ (λ columns. ends_number 10000 _ (λ n. ends_line (made (cone_of columns) (rows_of_cone_at columns n)) (opens_made (cone_of columns) (rows_of_cone_at columns n) (opens_cone_rows columns n)))))

-- nothing remains
abbrev pub last_symbols : List Symbol
last_symbols = line_end ∷ input_end ∷ []

at_nothing : (n end : ℕ) (p : Place) → plain (line_symbols n [] end (symbols_of p [])) ≡ last_symbols
unfolding line_symbols symbols_of
at_nothing n end p = refl

pub at_last : (k : Reading) → k.current.tokens ≡ [] → k.later ≡ [] → shows k ≡ last_symbols
at_last k none empty = by_parts k.current.tokens k.later none empty
  where
    by_parts : (ts : List Token) (ls : List Line) → ts ≡ [] → ls ≡ [] → plain (line_symbols k.current.number ts k.current.end (symbols_of k.input_end ls)) ≡ last_symbols
    by_parts ts ls p q = ap (λ (us : List Token). plain (line_symbols k.current.number us k.current.end (symbols_of k.input_end ls))) p
        ∙ ap (λ (ms : List Line). plain (line_symbols k.current.number [] k.current.end (symbols_of k.input_end ms))) q ∙ at_nothing k.current.number k.current.end k.input_end

-- a reading of the given lines, before the first of them
abbrev pub of_lines : List Line → Reading
of_lines ls = record { current = record { number = 0; tokens = []; end = 0 }; later = ls; input_end = record { line = 0; column = 0 }; taken = record { line = 0; column = 0 } }

-- nothing remains after the cone
abbrev pub IsLast : Cone → List Symbol → Type 0
IsLast cone ss = ss ≡ last_symbols

abbrev none : Reading
none = of_lines []

pub sat_cone : Sat cone_at IsLast
sat_cone = ends_cone.sat IsLast none refl (λ cone. at_last none refl refl)

pub well_cone : (c : Reading) → Well as_is cone_at IsLast c
well_cone c = ends_cone.well IsLast none refl (λ cone. at_last none refl refl) c
