-- The first byte after spaces and tabs.
use Rattle.std.proofs.Common.{◌≡◌, ◌==◌, ℕ, ◌+◌, ◌-◌, ◌<◌, ◌≤◌, true, false, cond, List, [], ◌∷◌, length, take, drop, get_or, refl, sym, ap, ◌∙◌, ⊎_elim, arith}
use Rattle.std.specs.List.{prefix_len}
use Rattle.std.proofs.lemmas.Bool.{cond-true, cond-false, cases_Bool}
use Rattle.std.specs.Borrow.{Bor}
use Rattle.std.proofs.lemmas.List.{length-take, length-take-le, length-drop}
use Rattle.std.proofs.lemmas.List.Sums.{prefix_len-le-length}
use Rattle.text_definitions.specs.Text.{word, is_blank, is_word_byte, is_skipped, tokens_from}
use Rattle.text_definitions.proofs.Tokens.{tokens_from-blank, tokens_from-stray, tokens_from-word}
use Rattle.text_io.specs.Front.{drop_blanks, IsFront}
use Rattle.text_io.specs.declared.front.Front.TheVariants.{End, Stray, Word}

-- the rest after the blanks is at most as long as the bytes
length-drop_blanks : (bs rest : List ℕ) → rest ≡ drop_blanks bs → length rest ≤ length bs
length-drop_blanks [] rest e = rw e (omega arith)
length-drop_blanks (b ∷ bs) rest e =
    ⊎_elim
    (λ blank. omega (arith, length-drop_blanks bs rest (e ∙ cond-true (is_blank b) _ _ blank)))
    (λ unspaced. rw (e ∙ cond-false (is_blank b) _ _ unspaced) (omega arith))
    (cases_Bool (is_blank b))

-- spaces and tabs do not change the tokens
tokens_from-drop_blanks : (c : ℕ) (bs rest : List ℕ) → rest ≡ drop_blanks bs → tokens_from c bs ≡ tokens_from (c + (length bs - length rest)) rest
tokens_from-drop_blanks c [] rest e = rw e (ap (λ k. tokens_from k []) (omega arith))
tokens_from-drop_blanks c (b ∷ bs) rest e =
    ⊎_elim
    (λ blank.
    let within : rest ≡ drop_blanks bs = e ∙ cond-true (is_blank b) _ _ blank in
    let shorter : length rest ≤ length bs = length-drop_blanks bs rest within in
    tokens_from-blank c b bs blank ∙ tokens_from-drop_blanks (c + 1) bs rest within ∙ ap (λ k. tokens_from k rest) (omega arith))
    (λ unspaced.
    let whole : rest ≡ b ∷ bs = e ∙ cond-false (is_blank b) _ _ unspaced in
    rw whole (ap (λ k. tokens_from k (b ∷ bs)) (omega arith)))
    (cases_Bool (is_blank b))

-- the rest does not begin with a space or tab
unspaced_front : (bs : List ℕ) (b : ℕ) (more : List ℕ) → b ∷ more ≡ drop_blanks bs → is_blank b ≡ false
unspaced_front [] b more e = cc
unspaced_front (x ∷ bs) b more e =
    ⊎_elim
    (λ blank. unspaced_front bs b more (e ∙ cond-true (is_blank x) _ _ blank))
    (λ unspaced. let same : b ∷ more ≡ x ∷ bs = e ∙ cond-false (is_blank x) _ _ unspaced in let at : b ≡ x = cc in rw at unspaced)
    (cases_Bool (is_blank x))

-- without bytes there are no tokens
no_tokens : (c : ℕ) → tokens_from c [] ≡ []
unfolding tokens_from
no_tokens c = refl

-- no bytes are left
pub front_end : (c : ℕ) (bs rest : List ℕ) → rest ≡ drop_blanks bs → length rest ≡ 0 → IsFront c bs (c + (length bs - length rest)) End
front_end c bs [] e none = (tokens_from-drop_blanks c bs [] e ∙ no_tokens _, omega arith)
front_end c bs (b ∷ more) e none = absurd (omega arith)

no_word_byte : (b : ℕ) (more : List ℕ) → prefix_len is_word_byte (b ∷ more) ≡ 0 → is_word_byte b ≡ false
no_word_byte b more e = elim (is_word_byte b) as (λ v. cond v (1 + prefix_len is_word_byte more) 0 ≡ 0 → v ≡ false) [ true ↦ λ f. absurd (omega arith) | false ↦ λ f. refl ] e

-- a byte that does not occur in words
pub front_stray : (c : ℕ) (bs rest : List ℕ) → rest ≡ drop_blanks bs → 0 < length rest → prefix_len is_word_byte rest ≡ 0 → IsFront c bs (c + (length bs - length rest)) Stray
front_stray c bs [] e some no_word = absurd (omega arith)
front_stray c bs (b ∷ more) e some no_word = (
  (
    tokens_from (c + (length bs - length (b ∷ more)) + 1) more,
    tokens_from-drop_blanks c bs (b ∷ more) e ∙ tokens_from-stray _ b more (unspaced_front bs b more e) (no_word_byte b more no_word),
  ),
  omega (arith, length-drop_blanks bs (b ∷ more) e),
)

word_byte_first : (b : ℕ) (more : List ℕ) → 0 < prefix_len is_word_byte (b ∷ more) → is_word_byte b ≡ true
word_byte_first b more h = elim (is_word_byte b) as (λ v. 0 < cond v (1 + prefix_len is_word_byte more) 0 → v ≡ true) [ true ↦ λ f. refl | false ↦ λ f. absurd (omega arith) ] h

-- a word and what follows it
pub front_word : (c : ℕ) (bs rest : List ℕ) (w after : Bor (List ℕ)) (n : ℕ) → rest ≡ drop_blanks bs → n ≡ prefix_len is_word_byte rest →
    w.now ≡ take n rest → after.now ≡ drop n rest → 0 < length w.now → IsFront c bs (c + (length bs - length rest)) (Word w after)
front_word c bs [] w after n e count front back some = absurd (omega (arith, length-take {A = ℕ} n [], ap length front))
front_word c bs (b ∷ more) w after n e count front back some =
    let within : n ≤ length (b ∷ more) = rw count (prefix_len-le-length is_word_byte (b ∷ more)) in
    let long : length w.now ≡ n = ap length front ∙ length-take-le n (b ∷ more) within in
    let rest_long : length after.now ≡ length (b ∷ more) - n = ap length back ∙ length-drop n (b ∷ more) in
    let first : is_word_byte b ≡ true = word_byte_first b more (omega arith) in (
      tokens_from-drop_blanks c bs (b ∷ more) e ∙ tokens_from-word _ b more n count first
          ∙ ap (λ xs. word (c + (length bs - length (b ∷ more))) xs ∷ tokens_from (c + (length bs - length (b ∷ more)) + n) (drop n (b ∷ more))) (sym front)
          ∙ ap (λ xs. word (c + (length bs - length (b ∷ more))) w.now ∷ tokens_from (c + (length bs - length (b ∷ more)) + n) xs) (sym back)
          ∙ ap (λ k. word (c + (length bs - length (b ∷ more))) w.now ∷ tokens_from (c + (length bs - length (b ∷ more)) + k) after.now) (sym long),
      omega (arith, length-drop_blanks bs (b ∷ more) e),
    )

-- a line of spaces and tabs alone is skipped
pub is_skipped-blank : (bs rest : List ℕ) → rest ≡ drop_blanks bs → length rest ≡ 0 → is_skipped bs ≡ true
is_skipped-blank [] rest e none = refl
is_skipped-blank (b ∷ bs) rest e none =
    ⊎_elim
    (λ blank. cond-true (is_blank b) _ _ blank ∙ is_skipped-blank bs rest (e ∙ cond-true (is_blank b) _ _ blank) none)
    (λ unspaced. absurd (omega (arith, ap length (e ∙ cond-false (is_blank b) _ _ unspaced))))
    (cases_Bool (is_blank b))

-- a line with another byte is skipped if and only if its first byte after spaces and tabs is `#`
pub is_skipped-first : (bs rest : List ℕ) → rest ≡ drop_blanks bs → 0 < length rest → is_skipped bs ≡ (get_or rest 0 0 == 35)
is_skipped-first [] rest e some = absurd (omega (arith, ap length e))
is_skipped-first (b ∷ bs) rest e some =
    ⊎_elim
    (λ blank. cond-true (is_blank b) _ _ blank ∙ is_skipped-first bs rest (e ∙ cond-true (is_blank b) _ _ blank) some)
    (λ unspaced. cond-false (is_blank b) _ _ unspaced ∙ ap (λ xs. get_or xs 0 0 == 35) (sym (e ∙ cond-false (is_blank b) _ _ unspaced)))
    (cases_Bool (is_blank b))
