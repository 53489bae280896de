-- Numbers and words that are expected: their readers see no more than they read and the next symbol.
use Rattle.std.proofs.Common.{◌≡◌, ℕ, ℤ, Bool, true, false, List, [], ◌∷◌, Option, Some, None, Result, Ok, Err, refl, sym, ap, ◌∙◌}
use Rattle.std.specs.Prelude.{⊤, nat_lt, if◌then◌else◌}
use Rattle.text_definitions.specs.declared.LexKind.{LexKind}
use Rattle.text_definitions.specs.declared.LexKind.TheVariants.{BadWord, NumberTooWide}
use Rattle.text_definitions.specs.declared.LexFault.{LexFault}
use Rattle.text_definitions.specs.Text.{Token, word, decimal_value}
use Rattle.text_definitions.specs.Reading.{Reading, ◌>>=◌, word_at, number_up_to, number_at, signed_at, magnitude, is_negative, with_sign, exactly_at, same_word, numbers_from, numbers_at, word_fault}
use Rattle.table_definitions.proofs.ReadingLaws.{TakesNumber, number_read}
use Rattle.text_document_laws.proofs.Local.{Goes, goes_chained, goes_pure, alone, moved, of_same}
use Rattle.text_document_laws.proofs.LocalWords.{tested, word_with, goes_word}
use Rattle.text_document_laws.proofs.LocalLines.{by_end, by_ends, goes_by_end}
use Rattle.text_document_laws.proofs.Given.{Numbers}

-- f of a number up to max
unfoldable pub number_test : {A : Type 0} → (ℕ → A) → ℕ → Option ℕ → Result A LexKind
number_test f max None = Err BadWord
number_test f max (Some n) = if nat_lt max n then Err NumberTooWide else Ok (f n)

number_tested : {A : Type 0} (g : ℕ → A) (max : ℕ) (o : Option ℕ) (c : Reading) → tested (number_test g max o) c ≡ number_up_to max o c >>= λ (n : ℕ × Reading). Ok (g n.0, n.1)
unfolding number_test
number_tested g max None c = refl
number_tested {A} g max (Some n) c = by_test (nat_lt max n)
  where
    by_test : (b : Bool) → tested (if b then Err NumberTooWide else Ok (g n)) c
        ≡ if◌then◌else◌ {A = Result (ℕ × Reading) LexFault} b (Err (word_fault c NumberTooWide)) (Ok (n, c)) >>= λ (m : ℕ × Reading). Ok (g m.0, m.1)
    by_test true = refl
    by_test false = refl

any_word : {A : Type 0} (r : Result (List ℕ × Reading) LexFault) (f g : List ℕ × Reading → Result (A × Reading) LexFault) → ((w : List ℕ × Reading) → f w ≡ g w) → r >>= f ≡ r >>= g
any_word (Ok w) f g e = e w
any_word (Err h) f g e = refl

unwrapped : {A E : Type 0} (r : Result (A × Reading) E) → (r >>= λ (n : A × Reading). Ok (n.0, n.1)) ≡ r
unwrapped (Ok n) = refl
unwrapped (Err e) = refl

-- a word that is a number up to a limit
abbrev pub plain_test : ℕ → List ℕ → Result ℕ LexKind
plain_test max w = number_test (λ n. n) max (decimal_value w)

pub number_word : (max : ℕ) (c : Reading) → word_with (plain_test max) c ≡ number_at max c
unfolding number_at
number_word max c =
    any_word (word_at c) (λ (w : List ℕ × Reading). tested (number_test (λ n. n) max (decimal_value w.0)) w.1) (λ (w : List ℕ × Reading). number_up_to max (decimal_value w.0) w.1)
    (λ w. number_tested (λ n. n) max (decimal_value w.0) w.1 ∙ unwrapped (number_up_to max (decimal_value w.0) w.1))

pub goes_number : (max : ℕ) (c : Reading) → Goes (number_at max) c
goes_number max c = of_same (λ q. Goes q c) (word_with (plain_test max)) (number_at max) (number_word max) (goes_word (plain_test max) c)

unfoldable pub signed_test : ℕ → List ℕ → Result ℤ LexKind
signed_test max w = number_test (λ n. with_sign (is_negative w) n) max (decimal_value (magnitude w))

pub signed_word : (max : ℕ) (c : Reading) → word_with (signed_test max) c ≡ signed_at max c
unfolding signed_at signed_test
signed_word max c =
    any_word (word_at c) (λ (w : List ℕ × Reading). tested (signed_test max w.0) w.1)
    (λ (w : List ℕ × Reading). number_up_to max (decimal_value (magnitude w.0)) w.1 >>= λ (n : ℕ × Reading). Ok (with_sign (is_negative w.0) n.0, n.1))
    (λ w. number_tested (λ n. with_sign (is_negative w.0) n) max (decimal_value (magnitude w.0)) w.1)

-- an expected word
unfoldable pub exact_test : List ℕ → List ℕ → Result ⊤ LexKind
exact_test expected w = if same_word w expected then Ok tt else Err BadWord

abbrev pub exactly : List ℕ → Reading → Result (⊤ × Reading) LexFault
exactly expected c = moved (exactly_at expected) c

pub exact_word : (expected : List ℕ) (c : Reading) → word_with (exact_test expected) c ≡ exactly expected c
unfolding exactly_at exact_test
exact_word expected c = by_word (word_at c)
  where
    by_test : (w : List ℕ × Reading) (b : Bool) → tested (if◌then◌else◌ {A = Result ⊤ LexKind} b (Ok tt) (Err BadWord)) w.1 ≡ alone (if◌then◌else◌ {A = Result Reading LexFault} b (Ok w.1) (Err (word_fault w.1 BadWord)))
    by_test w true = refl
    by_test w false = refl

    by_word : (r : Result (List ℕ × Reading) LexFault) → (r >>= λ (w : List ℕ × Reading). tested (exact_test expected w.0) w.1)
        ≡ alone (r >>= λ (w : List ℕ × Reading). if same_word w.0 expected then Ok w.1 else Err (word_fault w.1 BadWord))
    by_word (Ok w) = by_test w (same_word w.0 expected)
    by_word (Err f) = refl

-- numbers to the end of a line
abbrev pub others_with : ℕ → ℕ → Reading → Result Numbers LexFault
others_with max n c = numbers_at max c >>= λ (xs : Numbers). Ok (n ∷ xs.0, xs.1)

abbrev pub one_more : ℕ → Reading → Result Numbers LexFault
one_more max c = number_at max c >>= λ (n : ℕ × Reading). others_with max n.0 n.1

pub tokens_after : (max : ℕ) (c : Reading) (t : Token) (ts : List Token) (n : ℕ) (d : Reading) → c.current.tokens ≡ t ∷ ts → number_at max c ≡ Ok (n, d) → ts ≡ d.current.tokens
tokens_after max c t ts n d split e = from_word (number_read max c.current.tokens c n d e)
  where
    from_word : TakesNumber max c.current.tokens c n d → ts ≡ d.current.tokens
    from_word h =
        let cons : t ∷ ts ≡ word h.word.column h.w ∷ h.word.rest = sym split ∙ h.word.tokens in
        let same : ts ≡ h.word.rest = cc in
        same ∙ ap (λ (r : Reading). r.current.tokens) (sym h.word.left)

bind_like : {A B : Type 0} (r : Result A LexFault) (f g : A → Result B LexFault) → ((x : A) → r ≡ Ok x → f x ≡ g x) → r >>= f ≡ r >>= g
bind_like (Ok x) f g e = e x refl
bind_like (Err h) f g e = refl

pub numbers_stepped : (max : ℕ) (c : Reading) → by_end [] (one_more max) c ≡ numbers_at max c
unfolding numbers_from
numbers_stepped max c = by_tokens c.current.tokens refl
  where
    by_tokens : (ts : List Token) → c.current.tokens ≡ ts → by_ends [] (one_more max) ts c ≡ numbers_from max ts c
    by_tokens [] e = refl
    by_tokens (t ∷ ts) e =
        bind_like (number_at max c) (λ (n : ℕ × Reading). others_with max n.0 n.1) (λ (n : ℕ × Reading). numbers_from max ts n.1 >>= λ (xs : Numbers). Ok (n.0 ∷ xs.0, xs.1))
        (λ n p. ap (λ (us : List Token). numbers_from max us n.1 >>= λ (xs : Numbers). Ok (n.0 ∷ xs.0, xs.1)) (sym (tokens_after max c t ts n.0 n.1 e p)))

module _ (max : ℕ) where
  goes_numbers_in : (ts : List Token) (c : Reading) → c.current.tokens ≡ ts → Goes (numbers_at max) c
  goes_numbers_in [] c none =
      of_same (λ q. Goes q c) (by_end [] (one_more max)) (numbers_at max) (numbers_stepped max) (goes_by_end [] (one_more max) c (λ t ts split. (let e : [] ≡ t ∷ ts = sym none ∙ split in absurd cc)))
  goes_numbers_in (u ∷ us) c first =
      of_same (λ q. Goes q c) (by_end [] (one_more max)) (numbers_at max) (numbers_stepped max)
      (goes_by_end [] (one_more max) c (λ t ts split. goes_chained (number_at max) (others_with max) c (goes_number max c)
      (λ n d e. goes_chained (numbers_at max) (λ xs d'. Ok (n ∷ xs, d')) d (goes_numbers_in us d (sym (tokens_after max c u us n d first e))) (λ xs last q. goes_pure (n ∷ xs) last))))

  pub goes_numbers : (c : Reading) → Goes (numbers_at max) c
  goes_numbers c = goes_numbers_in c.current.tokens c refl
