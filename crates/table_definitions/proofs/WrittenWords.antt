-- The tokens of words with a space between each two are these words.
use Rattle.std.proofs.Common.{◌≡◌, ℕ, suc, ◌+◌, ◌^◌, ◌<◌, Bool, true, false, List, [], ◌∷◌, ◌++◌, length, refl, sym, ap, ap₂, ◌∙◌, subst, arith, append_assoc, append-nil}
use Rattle.std.specs.Prelude.{◌||◌, ◌==◌, decimal}
use Rattle.std.specs.Char.{is_ascii_digit}
use Rattle.std.specs.List.{AllByRecursion, list_all, prefix_len}
use Rattle.std.proofs.Math.Seq.{take-append_seam, drop-append_seam}
use Rattle.std.proofs.lemmas.List.Folds.{list_all-append}
use Rattle.std.proofs.lemmas.Bool.{cond-true, cond-false, and_from, and_parts}
use Rattle.std.proofs.lemmas.Bool.Decides.{nat_tests}
use Rattle.text_definitions.specs.Text.{Token, word, is_blank, is_word_byte, is_line_feed, is_skipped, without_cr, tokens_from}
use Rattle.text_definitions.specs.Written.{spaced}
use Rattle.text_definitions.proofs.Decimals.{AreDigits, decimal_digits}
use Rattle.text_definitions.proofs.Tokens.{tokens_from-word, word_byte-not_blank}
use Rattle.table_definitions.specs.Grammar.{AreWords}

-- bytes of words, at least one
pub record IsText (w : List ℕ) : Type 0 where
  pub bytes : list_all is_word_byte w ≡ true
  pub some : 0 < length w

-- the words of a list, each after a space
abbrev pub behind_spaces : List (List ℕ) → List ℕ
behind_spaces [] = []
behind_spaces (w ∷ ws) = 32 ∷ (w ++ behind_spaces ws)

pub spaced-joined : (w : List ℕ) (ws : List (List ℕ)) → spaced (w ∷ ws) ≡ (w ++ behind_spaces ws) ++ 10 ∷ []
spaced-joined w [] = ap (λ (xs : List ℕ). xs ++ 10 ∷ []) (sym (append-nil w))
spaced-joined w (x ∷ ws) =
    ap (λ (xs : List ℕ). w ++ (32 ∷ xs)) (spaced-joined x ws) ∙ sym (append_assoc w (32 ∷ (x ++ behind_spaces ws)) (10 ∷ []))

-- a run of bytes of words at the beginning is a word
run-prefix : (w rest : List ℕ) → list_all is_word_byte w ≡ true → prefix_len is_word_byte rest ≡ 0 → prefix_len is_word_byte (w ++ rest) ≡ length w
run-prefix [] rest d e = e
run-prefix (b ∷ bs) rest d e =
    let parts : (is_word_byte b ≡ true) × (list_all is_word_byte bs ≡ true) = and_parts (is_word_byte b) (list_all is_word_byte bs) d in
    let more : prefix_len is_word_byte (bs ++ rest) ≡ length bs = run-prefix bs rest parts.1 e in
    let next : 1 + prefix_len is_word_byte (bs ++ rest) ≡ suc (length bs) = omega arith in
    cond-true (is_word_byte b) (1 + prefix_len is_word_byte (bs ++ rest)) 0 parts.0 ∙ next

word_then : (c : ℕ) (w rest : List ℕ) → IsText w → prefix_len is_word_byte rest ≡ 0 → tokens_from c (w ++ rest) ≡ word c w ∷ tokens_from (c + length w) rest
word_then c [] rest t e = absurd (let s = t.some in omega arith)
word_then c (b ∷ bs) rest t e =
    let parts : (is_word_byte b ≡ true) × (list_all is_word_byte bs ≡ true) = and_parts (is_word_byte b) (list_all is_word_byte bs) t.bytes in
    tokens_from-word c b (bs ++ rest) (length (b ∷ bs)) (sym (run-prefix (b ∷ bs) rest t.bytes e)) parts.0
    ∙ ap₂ (λ (v u : List ℕ). word c v ∷ tokens_from (c + length (b ∷ bs)) u) (take-append_seam (b ∷ bs) rest) (drop-append_seam (b ∷ bs) rest)

no_prefix : (ws : List (List ℕ)) → prefix_len is_word_byte (behind_spaces ws) ≡ 0
no_prefix [] = refl
no_prefix (w ∷ ws) = refl

pub joined_words : (c : ℕ) (w : List ℕ) (ws : List (List ℕ)) → IsText w → AllByRecursion IsText ws → AreWords (tokens_from c (w ++ behind_spaces ws)) (w ∷ ws)
unfolding tokens_from
joined_words c w [] t ts = subst (λ (tokens : List Token). AreWords tokens (w ∷ [])) (sym (word_then c w [] t refl)) (refl, tt)
joined_words c w (x ∷ ws) t ts =
    let more : AreWords (tokens_from (c + length w + 1) (x ++ behind_spaces ws)) (x ∷ ws) = joined_words (c + length w + 1) x ws ts.0 ts.1 in
    subst (λ (tokens : List Token). AreWords tokens (w ∷ x ∷ ws)) (sym (word_then c w (behind_spaces (x ∷ ws)) t (no_prefix (x ∷ ws)))) (refl, more)

-- bytes of words and spaces
abbrev pub is_inner : ℕ → Bool
is_inner b = is_word_byte b || (b == 32)

inner_word : (w : List ℕ) → list_all is_word_byte w ≡ true → list_all is_inner w ≡ true
inner_word [] d = refl
inner_word (b ∷ bs) d =
    let parts : (is_word_byte b ≡ true) × (list_all is_word_byte bs ≡ true) = and_parts (is_word_byte b) (list_all is_word_byte bs) d in
    and_from (is_inner b) (list_all is_inner bs) (ap (λ t. t || (b == 32)) parts.0) (inner_word bs parts.1)

pub inner_words : (w : List ℕ) (ws : List (List ℕ)) → IsText w → AllByRecursion IsText ws → list_all is_inner (w ++ behind_spaces ws) ≡ true
inner_words w [] t ts = list_all-append is_inner w [] ∙ and_from (list_all is_inner w) true (inner_word w t.bytes) refl
inner_words w (x ∷ ws) t ts =
    list_all-append is_inner w (behind_spaces (x ∷ ws)) ∙ and_from (list_all is_inner w) (list_all is_inner (behind_spaces (x ∷ ws))) (inner_word w t.bytes) (inner_words x ws ts.0 ts.1)

pub inner_byte : (b : ℕ) → is_inner b ≡ true → (is_line_feed b ≡ false) × ((b == 13) ≡ false)
inner_byte b i = (grind (arith, nat_tests), grind (arith, nat_tests))

-- bytes of words and spaces do not end with a CR
pub inner_kept : (xs : List ℕ) → list_all is_inner xs ≡ true → without_cr xs ≡ xs
inner_kept [] h = refl
inner_kept (b ∷ []) h =
    let parts : (is_inner b ≡ true) × (true ≡ true) = and_parts (is_inner b) true h in
    cond-false (b == 13) _ _ (inner_byte b parts.0).1
inner_kept (b ∷ c ∷ bs) h =
    let parts : (is_inner b ≡ true) × (list_all is_inner (c ∷ bs) ≡ true) = and_parts (is_inner b) (list_all is_inner (c ∷ bs)) h in
    ap (λ (xs : List ℕ). b ∷ xs) (inner_kept (c ∷ bs) parts.1)

pub skipped_by_word : (w rest : List ℕ) → IsText w → is_skipped (w ++ rest) ≡ is_skipped w
skipped_by_word [] rest t = absurd (let s = t.some in omega arith)
skipped_by_word (b ∷ bs) rest t =
    let parts : (is_word_byte b ≡ true) × (list_all is_word_byte bs ≡ true) = and_parts (is_word_byte b) (list_all is_word_byte bs) t.bytes in
    let unspaced : is_blank b ≡ false = word_byte-not_blank b parts.0 in
    cond-false (is_blank b) (is_skipped (bs ++ rest)) (b == 35) unspaced ∙ sym (cond-false (is_blank b) (is_skipped bs) (b == 35) unspaced)

-- digits are a word
digit_byte : (b : ℕ) → is_ascii_digit b ≡ true → (is_word_byte b ≡ true) × (is_blank b ≡ false) × ((b == 35) ≡ false)
digit_byte b d = (grind (arith, nat_tests), grind (arith, nat_tests), grind (arith, nat_tests))

pub digits_bytes : (w : List ℕ) → list_all is_ascii_digit w ≡ true → list_all is_word_byte w ≡ true
digits_bytes [] d = refl
digits_bytes (b ∷ bs) d =
    let parts : (is_ascii_digit b ≡ true) × (list_all is_ascii_digit bs ≡ true) = and_parts (is_ascii_digit b) (list_all is_ascii_digit bs) d in
    and_from (is_word_byte b) (list_all is_word_byte bs) (digit_byte b parts.0).0 (digits_bytes bs parts.1)

-- digits begin no comment
pub digits_kept : (w : List ℕ) → AreDigits w → is_skipped w ≡ false
digits_kept [] d = absurd (let s = d.some in omega arith)
digits_kept (b ∷ bs) d =
    let parts : (is_ascii_digit b ≡ true) × (list_all is_ascii_digit bs ≡ true) = and_parts (is_ascii_digit b) (list_all is_ascii_digit bs) d.digits in
    let byte : (is_word_byte b ≡ true) × (is_blank b ≡ false) × ((b == 35) ≡ false) = digit_byte b parts.0 in
    cond-false (is_blank b) (is_skipped bs) (b == 35) byte.1 ∙ byte.2

pub decimal_is_text : (n : ℕ) → n < 10 ^ 64 → IsText (decimal n)
decimal_is_text n l =
    let d : AreDigits (decimal n) = decimal_digits n l in
    record { bytes = digits_bytes (decimal n) d.digits; some = d.some }
