-- A decimal that is written is a word of digits, and has its value.
use Rattle.std.proofs.Common.{◌*◌, None, ◌≡◌, ℕ, zero, suc, ◌+◌, ◌-◌, ◌/◌, ◌%◌, ◌^◌, ◌<◌, Bool, true, false, List, [], ◌∷◌, length, Some, refl, sym, ap, ◌∙◌, arith}
use Rattle.std.specs.Prelude.{fold, ◌&&◌, ◌==◌, not, nat_lt, decimal, if◌then◌else◌}
use Rattle.std.specs.Char.{is_ascii_digit}
use Rattle.std.specs.Str.{all_ascii_digits}
use Rattle.std.specs.Fmt.{digits, digits_onto, digit_glyph}
use Rattle.std.specs.List.{list_all}
use Rattle.std.proofs.lemmas.Bool.{cond-true, and_from, lt-ltb}
use Rattle.std.proofs.lemmas.Fmt.{decimal_is_IsNumeral_wide}
use Rattle.std.specs.Str.Parse.{IsNumeral, digits_value as value_by_radix}
use Rattle.std.proofs.lemmas.Str.Parse.{IsNumeralModel, numerals_by_fold, tells_all_ascii_digits}
use Rattle.text_definitions.specs.Text.{digits_value, is_decimal, decimal_value, is_line_feed}

-- the two tests of digits are equal, and so are the two values
same_test : (ds : List ℕ) → all_ascii_digits ds ≡ list_all is_ascii_digit ds
same_test [] = refl
same_test (d ∷ ds) = ap (λ b. is_ascii_digit d && b) (same_test ds)

abbrev value_after : ℕ → List ℕ → ℕ
value_after n ds = fold (λ m d. 10 * m + (d - 48)) n ds

numerals : IsNumeralModel (λ ds. all_ascii_digits ds ≡ true) digits_value
numerals = numerals_by_fold (λ ds. all_ascii_digits ds ≡ true) tells_all_ascii_digits value_after (record { empty = λ n. refl; more = λ n c cs r. ap (λ k. value_after (k + (c - 48)) cs) (omega arith) })

-- digits, at least one
pub record AreDigits (w : List ℕ) : Type 0 where
  pub digits : list_all is_ascii_digit w ≡ true
  pub some : 0 < length w

pub decimal_digits : (n : ℕ) → n < 10 ^ 64 → AreDigits (decimal n)
decimal_digits n l =
    let parts : IsNumeral 10 (decimal n) × (value_by_radix 10 (decimal n) ≡ n) = decimal_is_IsNumeral_wide n l in
    record { digits = sym (same_test (decimal n)) ∙ numerals.from (decimal n) parts.0.1; some = parts.0.0 }

-- a decimal that is written has its value
pub decimal_value-decimal : (n : ℕ) → n < 10 ^ 64 → decimal_value (decimal n) ≡ Some n
decimal_value-decimal n l =
    let d : AreDigits (decimal n) = decimal_digits n l in
    let parts : IsNumeral 10 (decimal n) × (value_by_radix 10 (decimal n) ≡ n) = decimal_is_IsNumeral_wide n l in
    cond-true (is_decimal (decimal n)) (Some (digits_value (decimal n))) None (and_from (nat_lt 0 (length (decimal n))) (list_all is_ascii_digit (decimal n)) (lt-ltb 0 (length (decimal n)) d.some) d.digits) ∙ ap (λ k. Some k) (numerals.same (decimal n) parts.0.1 ∙ parts.1)

-- no byte is a line feed
abbrev pub has_no_feed : List ℕ → Bool
has_no_feed bytes = list_all (λ b. not (is_line_feed b)) bytes

-- no byte that is written for a number is a line feed
glyph_no_feed : (d : ℕ) → not (is_line_feed (digit_glyph false d)) ≡ true
glyph_no_feed d = grind arith

no_feed_onto : (k n : ℕ) (acc : List ℕ) → has_no_feed acc ≡ true → has_no_feed (digits_onto k 10 false n acc) ≡ true
no_feed_onto zero n acc h = h
no_feed_onto (suc k) n acc h =
    let more : has_no_feed (digit_glyph false (n % 10) ∷ acc) ≡ true =
    and_from (not (is_line_feed (digit_glyph false (n % 10)))) (has_no_feed acc) (glyph_no_feed (n % 10)) h in
    by_last (n / 10 == 0) more (no_feed_onto k (n / 10) (digit_glyph false (n % 10) ∷ acc) more)
  where
    by_last : (b : Bool) → has_no_feed (digit_glyph false (n % 10) ∷ acc) ≡ true → has_no_feed (digits_onto k 10 false (n / 10) (digit_glyph false (n % 10) ∷ acc)) ≡ true
        → has_no_feed (if b then digit_glyph false (n % 10) ∷ acc else digits_onto k 10 false (n / 10) (digit_glyph false (n % 10) ∷ acc)) ≡ true
    by_last true here further = here
    by_last false here further = further

pub decimal_no_feed : (n : ℕ) → has_no_feed (decimal n) ≡ true
unfolding digits
decimal_no_feed n = no_feed_onto 64 n [] refl
