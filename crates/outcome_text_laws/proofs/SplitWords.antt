-- A text of words determines the words: each ends at the first byte that is none of words.
use Rattle.std.proofs.Common.{◌≡◌, ℕ, zero, suc, ◌/◌, ◌%◌, ◌^◌, ◌<◌, Bool, true, false, List, [], ◌∷◌, ◌++◌, length, get_or, Some, refl, sym, ap, ap₂, ◌∙◌, arith, append_assoc}
use Rattle.std.specs.Prelude.{ℤ, pos, negsuc, decimal, ◌==◌, if◌then◌else◌}
use Rattle.std.specs.Fmt.{signed_decimal, digits, digits_onto, digit_glyph}
use Rattle.std.specs.List.{AllByRecursion, list_all}
use Rattle.std.proofs.lemmas.Bool.{and_parts, and_from}
use Rattle.std.proofs.lemmas.Bool.Decides.{nat_tests}
use Rattle.std.specs.Char.{is_ascii_digit}
use Rattle.text_definitions.specs.Text.{is_word_byte, decimal_value}
use Rattle.text_definitions.specs.Written.{spaced}
use Rattle.text_definitions.proofs.Decimals.{AreDigits, decimal_digits, decimal_value-decimal}

-- bytes of words alone
abbrev pub IsPlain : List ℕ → Type 0
IsPlain w = list_all is_word_byte w ≡ true

-- two words and the bytes after them, neither of which is one of words
pub record AreSplit (w v : List ℕ) (d e : ℕ) (r s : List ℕ) : Type 0 where
  pub words : w ≡ v
  pub ends : d ≡ e
  pub rests : r ≡ s

differ : (b d : ℕ) → b ≡ d → is_word_byte b ≡ true → is_word_byte d ≡ false → ⊥
differ b d e t f = (let z : true ≡ false = sym t ∙ ap (λ x. is_word_byte x) e ∙ f in absurd cc)

pub split_word : (w v : List ℕ) (d e : ℕ) (r s : List ℕ) → IsPlain w → IsPlain v → is_word_byte d ≡ false → is_word_byte e ≡ false → w ++ d ∷ r ≡ v ++ e ∷ s → AreSplit w v d e r s
split_word [] [] d e r s h k p q same = record { words = refl; ends = (let z : d ≡ e = cc in z); rests = (let z : r ≡ s = cc in z) }
split_word [] (c ∷ v) d e r s h k p q same =
    let parts : (is_word_byte c ≡ true) × (list_all is_word_byte v ≡ true) = and_parts (is_word_byte c) (list_all is_word_byte v) k in
    let z : c ≡ d = cc in
    absurd (differ c d z parts.0 p)
split_word (b ∷ w) [] d e r s h k p q same =
    let parts : (is_word_byte b ≡ true) × (list_all is_word_byte w ≡ true) = and_parts (is_word_byte b) (list_all is_word_byte w) h in
    let z : b ≡ e = cc in
    absurd (differ b e z parts.0 q)
split_word (b ∷ w) (c ∷ v) d e r s h k p q same =
    let first : (is_word_byte b ≡ true) × (list_all is_word_byte w ≡ true) = and_parts (is_word_byte b) (list_all is_word_byte w) h in
    let other : (is_word_byte c ≡ true) × (list_all is_word_byte v ≡ true) = and_parts (is_word_byte c) (list_all is_word_byte v) k in
    let heads : b ≡ c = cc in
    let tails : w ++ d ∷ r ≡ v ++ e ∷ s = cc in
    let more : AreSplit w v d e r s = split_word w v d e r s first.1 other.1 p q tails in
    record { words = ap₂ (λ (x : ℕ) (xs : List ℕ). x ∷ xs) heads more.words; ends = more.ends; rests = more.rests }

-- two lines of words and what is after them
abbrev pub AreLinesSplit : List (List ℕ) → List (List ℕ) → List ℕ → List ℕ → Type 0
AreLinesSplit ws vs r s = (ws ≡ vs) × (r ≡ s)

separate : (a b : ℕ) → a < b → a ≡ b → ⊥
separate a b l e = omega arith

pub split_line : (w : List ℕ) (ws : List (List ℕ)) (v : List ℕ) (vs : List (List ℕ)) (r s : List ℕ) → IsPlain w → AllByRecursion IsPlain ws → IsPlain v → AllByRecursion IsPlain vs
    → spaced (w ∷ ws) ++ r ≡ spaced (v ∷ vs) ++ s → AreLinesSplit (w ∷ ws) (v ∷ vs) r s
split_line w [] v [] r s h hs k ks same =
    let p : AreSplit w v 10 10 r s = split_word w v 10 10 r s h k refl refl (sym (append_assoc w (10 ∷ []) r) ∙ same ∙ append_assoc v (10 ∷ []) s) in
    (ap (λ (x : List ℕ). x ∷ []) p.words, p.rests)
split_line w [] v (y ∷ ys) r s h hs k ks same =
    let p : AreSplit w v 10 32 r (spaced (y ∷ ys) ++ s) = split_word w v 10 32 r (spaced (y ∷ ys) ++ s) h k refl refl (sym (append_assoc w (10 ∷ []) r) ∙ same ∙ append_assoc v (32 ∷ spaced (y ∷ ys)) s) in
    absurd (separate 10 32 (omega arith) p.ends)
split_line w (x ∷ xs) v [] r s h hs k ks same =
    let p : AreSplit w v 32 10 (spaced (x ∷ xs) ++ r) s = split_word w v 32 10 (spaced (x ∷ xs) ++ r) s h k refl refl (sym (append_assoc w (32 ∷ spaced (x ∷ xs)) r) ∙ same ∙ append_assoc v (10 ∷ []) s) in
    absurd (separate 10 32 (omega arith) (sym p.ends))
split_line w (x ∷ xs) v (y ∷ ys) r s h hs k ks same =
    let p : AreSplit w v 32 32 (spaced (x ∷ xs) ++ r) (spaced (y ∷ ys) ++ s) =
    split_word w v 32 32 (spaced (x ∷ xs) ++ r) (spaced (y ∷ ys) ++ s) h k refl refl (sym (append_assoc w (32 ∷ spaced (x ∷ xs)) r) ∙ same ∙ append_assoc v (32 ∷ spaced (y ∷ ys)) s) in
    let more : AreLinesSplit (x ∷ xs) (y ∷ ys) r s = split_line x xs y ys r s hs.0 hs.1 ks.0 ks.1 p.rests in
    (ap₂ (λ (z : List ℕ) (zs : List (List ℕ)). z ∷ zs) p.words more.0, more.1)

pub never_empty : (b : ℕ) (w : List ℕ) (ws : List (List ℕ)) (r : List ℕ) → [] ≡ spaced ((b ∷ w) ∷ ws) ++ r → ⊥
never_empty b w [] r e = (let z : 0 ≡ suc (length ((w ++ 10 ∷ []) ++ r)) = ap (λ (xs : List ℕ). length xs) e in omega arith)
never_empty b w (x ∷ xs) r e = (let z : 0 ≡ suc (length ((w ++ (32 ∷ spaced (x ∷ xs))) ++ r)) = ap (λ (xs : List ℕ). length xs) e in omega arith)

pub first_byte : (b : ℕ) (w : List ℕ) (ws : List (List ℕ)) (r : List ℕ) → get_or (spaced ((b ∷ w) ∷ ws) ++ r) 0 0 ≡ b
first_byte b w [] r = refl
first_byte b w (x ∷ xs) r = refl

-- ---- what words spell

-- each byte that is written for a number is one of words
glyph_is_plain : (d : ℕ) → d < 10 → is_word_byte (digit_glyph false d) ≡ true
glyph_is_plain d l = grind (arith, nat_tests)

plain_onto : (k n : ℕ) (acc : List ℕ) → IsPlain acc → IsPlain (digits_onto k 10 false n acc)
plain_onto zero n acc h = h
plain_onto (suc k) n acc h =
    let more : IsPlain (digit_glyph false (n % 10) ∷ acc) = and_from (is_word_byte (digit_glyph false (n % 10))) (list_all is_word_byte acc) (glyph_is_plain (n % 10) (omega arith)) h in
    by_last (n / 10 == 0) more (plain_onto k (n / 10) (digit_glyph false (n % 10) ∷ acc) more)
  where
    by_last : (b : Bool) → IsPlain (digit_glyph false (n % 10) ∷ acc) → IsPlain (digits_onto k 10 false (n / 10) (digit_glyph false (n % 10) ∷ acc))
        → IsPlain (if b then digit_glyph false (n % 10) ∷ acc else digits_onto k 10 false (n / 10) (digit_glyph false (n % 10) ∷ acc))
    by_last true here further = here
    by_last false here further = further

pub number_is_plain : (n : ℕ) → IsPlain (decimal n)
unfolding digits
number_is_plain n = plain_onto 64 n [] refl

pub signed_is_plain : (z : ℤ) → IsPlain (signed_decimal z)
signed_is_plain (pos n) = number_is_plain n
signed_is_plain (negsuc n) = number_is_plain (suc n)

some_value : (m n : ℕ) → Some m ≡ Some n → m ≡ n
some_value m n e = cc

pub same_number : (m n : ℕ) → m < 10 ^ 64 → n < 10 ^ 64 → decimal m ≡ decimal n → m ≡ n
same_number m n p q e = some_value m n (sym (decimal_value-decimal m p) ∙ ap (λ (w : List ℕ). decimal_value w) e ∙ decimal_value-decimal n q)

-- a decimal begins with no minus
digit_first : (w x : List ℕ) → AreDigits w → w ≡ 45 ∷ x → ⊥
digit_first [] x d e = (let some : 0 < length {A = ℕ} [] = d.some in omega arith)
digit_first (b ∷ w) x d e =
    let parts : (is_ascii_digit b ≡ true) × (list_all is_ascii_digit w ≡ true) = and_parts (is_ascii_digit b) (list_all is_ascii_digit w) d.digits in
    let z : b ≡ 45 = cc in
    (let y : true ≡ false = sym parts.0 ∙ ap (λ x. is_ascii_digit x) z in absurd cc)

-- integers of at most 64 digits
abbrev pub IsShortInteger : ℤ → Type 0
IsShortInteger (pos n) = n < 10 ^ 64
IsShortInteger (negsuc n) = suc n < 10 ^ 64

pub same_integer : (y z : ℤ) → IsShortInteger y → IsShortInteger z → signed_decimal y ≡ signed_decimal z → y ≡ z
same_integer (pos m) (pos n) p q e = ap (λ (k : ℕ). pos k) (same_number m n p q e)
same_integer (pos m) (negsuc n) p q e = absurd (digit_first (decimal m) (decimal (suc n)) (decimal_digits m p) e)
same_integer (negsuc m) (pos n) p q e = absurd (digit_first (decimal n) (decimal (suc m)) (decimal_digits n q) (sym e))
same_integer (negsuc m) (negsuc n) p q e =
    let words : decimal (suc m) ≡ decimal (suc n) = cc in
    let same : suc m ≡ suc n = same_number (suc m) (suc n) p q words in
    ap (λ (k : ℕ). negsuc k) (omega arith)
