-- The decimal of a number is a value of an option.
use Rattle.std.proofs.Common.{◌≡◌, ◌∙◌, ◌^◌, ℕ, ◌<◌, ◌≤◌, true, refl, ap, subst, length, Some, None, cond, arith}
use Rattle.std.specs.Prelude.{decimal, nat_lt, nat_le}
use Rattle.std.specs.Char.{is_ascii_digit}
use Rattle.std.specs.List.{list_all}
use Rattle.std.specs.Option.{option_and_then}
use Rattle.std.proofs.lemmas.Bool.{and_from, lt-ltb, le-ltb, le-leb, ltb-true}
use Rattle.std.proofs.lemmas.Fmt.{length-decimal-le_wide}
use Rattle.text_definitions.specs.Text.{digits_value, is_decimal}
use Rattle.text_definitions.specs.Written.{limit}
use Rattle.text_definitions.proofs.Decimals.{AreDigits, decimal_digits, decimal_value-decimal}
use Rattle.command_definitions.specs.Values.{decimal_up_to, is_short_decimal, limit_named, positive}

below : (n max most : ℕ) → n ≤ max → max < most → n < most
below n max most limited less = omega arith

module _ (n : ℕ) (short : n < 10 ^ 45) (wide : n < 10 ^ 64) where
  decimal_is : is_decimal (decimal n) ≡ true
  decimal_is =
      let d : AreDigits (decimal n) = decimal_digits n wide in
      and_from (nat_lt 0 (length (decimal n))) (list_all is_ascii_digit (decimal n)) (lt-ltb 0 (length (decimal n)) d.some) d.digits

  value_is : digits_value (decimal n) ≡ n
  value_is =
      let read : cond true (Some (digits_value (decimal n))) None ≡ Some n =
      subst (λ b. cond b (Some (digits_value (decimal n))) None ≡ Some n) decimal_is (decimal_value-decimal n wide) in
      let same : Some (digits_value (decimal n)) ≡ Some n = read in
      cc

  short_is : is_short_decimal (decimal n) ≡ true
  short_is = and_from (is_decimal (decimal n)) (nat_le (length (decimal n)) 45) decimal_is
      (le-leb (length (decimal n)) 45 (length-decimal-le_wide 45 n (ltb-true 0 45 refl) short wide))

  read_up_to : (max : ℕ) → n ≤ max → decimal_up_to max (decimal n) ≡ Some n
  read_up_to max limited =
      ap (λ b. cond b (cond (nat_lt max (digits_value (decimal n))) None (Some (digits_value (decimal n)))) None) short_is
      ∙ ap (λ k. cond (nat_lt max k) None (Some k)) value_is
      ∙ ap (λ b. cond b None (Some n)) (le-ltb max n limited)

pub decimal_read : (max n : ℕ) → nat_lt max (10 ^ 45) ≡ true → n ≤ max → decimal_up_to max (decimal n) ≡ Some n
decimal_read max n less limited =
    let short : n < 10 ^ 45 = below n max (10 ^ 45) limited (ltb-true max (10 ^ 45) less) in
    read_up_to n short (below n (10 ^ 45) (10 ^ 64) (at_most n (10 ^ 45) short) (ltb-true (10 ^ 45) (10 ^ 64) refl)) max limited
  where
    at_most : (a b : ℕ) → a < b → a ≤ b
    at_most a b h = omega arith

pub limit_read : (n : ℕ) → 1 ≤ n → n ≤ limit → limit_named (decimal n) ≡ Some n
limit_read n some limited =
    ap (option_and_then positive) (decimal_read limit n refl limited) ∙ ap (λ b. cond b (Some n) None) (lt-ltb 0 n (let more : 0 < n = omega arith in more))
