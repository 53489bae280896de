-- Signed decimals are read if and only if they are in the grammar.
use Rattle.std.proofs.Common.{◌≡◌, ℕ, ℤ, Bool, true, false, List, [], ◌∷◌, Some, None, Result, Ok, inl, inr, refl, sym, ap, ◌∙◌, subst}
use Rattle.std.specs.Prelude.{◌==◌, nat_lt, length, if◌then◌else◌}
use Rattle.std.specs.Char.{is_ascii_digit}
use Rattle.std.specs.List.{list_all}
use Rattle.std.proofs.lemmas.Bool.{and_right, eqb-true}
use Rattle.text_definitions.specs.Text.{Token, word, decimal_value, digits_value}
use Rattle.text_definitions.specs.declared.LexFault.{LexFault}
use Rattle.text_definitions.specs.Reading.{Reading, ◌>>=◌, word_at, number_up_to, signed_at, magnitude, is_negative, with_sign}
use Rattle.text_definitions.proofs.Readers.{bind_ok}
use Rattle.table_definitions.specs.Grammar.{IsDecimalUpTo, IsSigned}
use Rattle.table_definitions.proofs.ReadingLaws.{ok_parts, with_tokens, behind, TakesWord, word_taken, number_taken, number_found}

-- a word and its magnitude
signed_with : (max : ℕ) (w : List ℕ) (n : ℕ) → IsDecimalUpTo max (magnitude w) n → IsSigned max w (with_sign (is_negative w) n)
signed_with max [] n h = ([], n, h, inl (refl, refl))
signed_with max (b ∷ w) n h = by_test (b == 45) refl h
  where
    by_test : (t : Bool) → (b == 45) ≡ t → IsDecimalUpTo max (if t then w else b ∷ w) n → IsSigned max (b ∷ w) (with_sign t n)
    by_test true e h = (w, n, h, inr (ap (λ (x : ℕ). x ∷ w) (eqb-true b 45 e), refl))
    by_test false e h = (b ∷ w, n, h, inl (refl, refl))

-- a decimal does not begin with a sign
unsigned : (v : List ℕ) (n : ℕ) → decimal_value v ≡ Some n → is_negative v ≡ false
unsigned [] n e = absurd cc
unsigned (b ∷ v) n e = by_test (b == 45) refl
  where
    dashed : decimal_value (45 ∷ v) ≡ None
    dashed = ap (λ (t : Bool). if t then Some (digits_value (45 ∷ v)) else None) (and_right (nat_lt 0 (length (45 ∷ v))) (list_all is_ascii_digit (45 ∷ v)) refl)

    by_test : (t : Bool) → (b == 45) ≡ t → t ≡ false
    by_test false t = refl
    by_test true t = let none : decimal_value (b ∷ v) ≡ None = ap (λ (x : ℕ). decimal_value (x ∷ v)) (eqb-true b 45 t) ∙ dashed in absurd cc

magnitude_of : (v : List ℕ) → is_negative v ≡ false → magnitude v ≡ v
magnitude_of [] e = refl
magnitude_of (b ∷ v) e = ap (λ (t : Bool). if t then v else b ∷ v) e

-- a signed decimal that was read, and what remains
pub record TakesSigned (max : ℕ) (ts : List Token) (c : Reading) (z : ℤ) (d : Reading) : Type 0 where
  pub w : List ℕ
  pub word : TakesWord ts c w d
  pub signed : IsSigned max w z

pub signed_read : (max : ℕ) (ts : List Token) (c : Reading) (z : ℤ) (d : Reading) → signed_at max (with_tokens ts c) ≡ Ok (z, d) → TakesSigned max ts c z d
unfolding signed_at
signed_read max ts c z d e =
    let first : (x : List ℕ × Reading) × (word_at (with_tokens ts c) ≡ Ok x)
    × ((number_up_to max (decimal_value (magnitude x.0)) x.1 >>= λ (n : ℕ × Reading). Ok (with_sign (is_negative x.0) n.0, n.1)) ≡ Ok (z, d)) =
    bind_ok (word_at (with_tokens ts c)) (λ (x : List ℕ × Reading). number_up_to max (decimal_value (magnitude x.0)) x.1 >>= λ (n : ℕ × Reading). Ok (with_sign (is_negative x.0) n.0, n.1)) (z, d) e in
    let second : (n : ℕ × Reading) × (number_up_to max (decimal_value (magnitude (first.0).0)) (first.0).1 ≡ Ok n) × (◌≡◌ {A = Result (ℤ × Reading) LexFault} (Ok (with_sign (is_negative (first.0).0) n.0, n.1)) (Ok (z, d))) =
    bind_ok (number_up_to max (decimal_value (magnitude (first.0).0)) (first.0).1) (λ (n : ℕ × Reading). Ok (with_sign (is_negative (first.0).0) n.0, n.1)) (z, d) first.2 in
    let taken : IsDecimalUpTo max (magnitude (first.0).0) (second.0).0 × ((second.0).1 ≡ (first.0).1) =
    number_taken max (magnitude (first.0).0) (decimal_value (magnitude (first.0).0)) (first.0).1 (second.0).0 (second.0).1 refl second.1 in
    let parts : (with_sign (is_negative (first.0).0) (second.0).0 ≡ z) × ((second.0).1 ≡ d) = ok_parts (with_sign (is_negative (first.0).0) (second.0).0, (second.0).1) (z, d) second.2 in
    let w : TakesWord ts c (first.0).0 (first.0).1 = word_taken ts c (first.0).0 (first.0).1 first.1 in
    record {
      w = (first.0).0;
      word = record { column = w.column; rest = w.rest; tokens = w.tokens; left = sym parts.1 ∙ taken.1 ∙ w.left };
      signed = subst (λ (y : ℤ). IsSigned max (first.0).0 y) parts.0 (signed_with max (first.0).0 (second.0).0 taken.0);
    }

-- the result of reading a word that is a signed decimal
abbrev given_signed : ℕ → List ℕ → Reading → Result (ℤ × Reading) LexFault
given_signed max w c = number_up_to max (decimal_value (magnitude w)) c >>= λ (n : ℕ × Reading). Ok (with_sign (is_negative w) n.0, n.1)

given_with : (max : ℕ) (w v : List ℕ) (n : ℕ) (b : Bool) (c : Reading) → magnitude w ≡ v → is_negative w ≡ b → IsDecimalUpTo max v n → given_signed max w c ≡ Ok (with_sign b n, c)
given_with max w v n b c m s h =
    ap (λ (u : List ℕ). number_up_to max (decimal_value u) c >>= λ (n : ℕ × Reading). Ok (with_sign (is_negative w) n.0, n.1)) m
    ∙ ap (λ (r : Result (ℕ × Reading) LexFault). r >>= λ (n : ℕ × Reading). Ok (with_sign (is_negative w) n.0, n.1)) (number_found max v n c h)
    ∙ ap (λ (t : Bool). Ok (with_sign t n, c)) s

given_found : (max : ℕ) (w : List ℕ) (z : ℤ) (c : Reading) → IsSigned max w z → given_signed max w c ≡ Ok (z, c)
given_found max w z c (v, n, h, inl (same, value)) =
    let none : is_negative v ≡ false = unsigned v n h.value in
    ap (λ (u : List ℕ). given_signed max u c) same ∙ given_with max v v n false c (magnitude_of v none) none h ∙ ap (λ (y : ℤ). Ok (y, c)) (sym value)
given_found max w z c (v, n, h, inr (same, value)) =
    ap (λ (u : List ℕ). given_signed max u c) same ∙ given_with max (45 ∷ v) v n true c refl refl h ∙ ap (λ (y : ℤ). Ok (y, c)) (sym value)

pub signed_found : (max : ℕ) (column : ℕ) (w : List ℕ) (z : ℤ) (ts : List Token) (c : Reading) → IsSigned max w z → signed_at max (with_tokens (word column w ∷ ts) c) ≡ Ok (z, with_tokens ts (behind column c))
unfolding signed_at word_at
signed_found max column w z ts c h = given_found max w z (with_tokens ts (behind column c)) h
