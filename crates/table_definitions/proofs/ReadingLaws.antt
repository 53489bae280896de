-- Words and numbers are read if and only if they are in the grammar.
use Rattle.std.proofs.Common.{◌≡◌, ℕ, ◌≤◌, Bool, true, false, List, [], ◌∷◌, Option, Some, None, Result, Ok, Err, refl, sym, ap, ◌∙◌, subst, eqb}
use Rattle.std.specs.Prelude.{nat_lt, if◌then◌else◌}
use Rattle.std.specs.List.{AllZip}
use Rattle.std.proofs.lemmas.Bool.{and_from, and_parts, eq-eqb, eqb-true, false≢true, le-ltb, ltb-false}
use Rattle.text_definitions.specs.Text.{Token, word, stray, decimal_value}
use Rattle.text_definitions.specs.declared.LexKind.TheVariants.{NumberTooWide, BadWord}
use Rattle.text_definitions.specs.declared.LexFault.{LexFault}
use Rattle.text_definitions.specs.Reading.{same_word, Reading, ◌>>=◌, column_at, word_at, number_at, number_up_to, exactly_at, numbers_from, word_fault}
use Rattle.text_definitions.proofs.Readers.{bind_ok}
use Rattle.table_definitions.specs.Grammar.{IsWord, AreWords, IsDecimalUpTo}

-- words are equal if and only if they pass the test
same_word-true : (xs ys : List ℕ) → same_word xs ys ≡ true → xs ≡ ys
same_word-true [] [] e = refl
same_word-true [] (y ∷ ys) e = absurd (false≢true e)
same_word-true (x ∷ xs) [] e = absurd (false≢true e)
same_word-true (x ∷ xs) (y ∷ ys) e =
    let parts : (eqb x y ≡ true) × (same_word xs ys ≡ true) = and_parts (eqb x y) (same_word xs ys) e in
    λ i. eqb-true x y parts.0 i ∷ same_word-true xs ys parts.1 i

same_word_refl : (xs : List ℕ) → same_word xs xs ≡ true
same_word_refl [] = refl
same_word_refl (x ∷ xs) = and_from (eqb x x) (same_word xs xs) (eq-eqb x x refl) (same_word_refl xs)

same_word_from : (xs ys : List ℕ) → xs ≡ ys → same_word xs ys ≡ true
same_word_from xs ys e = subst (λ (zs : List ℕ). same_word xs zs ≡ true) e (same_word_refl xs)

-- equal results have equal parts
pub ok_parts : {A B E : Type 0} (x y : A × B) → (let r : Result (A × B) E = Ok x in r ≡ Ok y) → (x.0 ≡ y.0) × (x.1 ≡ y.1)
ok_parts {A} {B} x y e = let p : x ≡ y = cc in ((λ i. (p i).0), (λ i. (p i).1))

-- the reading with these remaining tokens in the current line
abbrev pub with_tokens : List Token → Reading → Reading
with_tokens ts c = record c { current = record c.current { tokens = ts } }

-- what remains after the token in a column
abbrev pub behind : ℕ → Reading → Reading
behind column c = record c { taken = column_at c column }

-- a word that was read, and what remains
pub record TakesWord (ts : List Token) (c : Reading) (w : List ℕ) (d : Reading) : Type 0 where
  pub column : ℕ
  pub rest : List Token
  pub tokens : ts ≡ word column w ∷ rest
  pub left : d ≡ with_tokens rest (behind column c)

pub word_taken : (ts : List Token) (c : Reading) (w : List ℕ) (d : Reading) → word_at (with_tokens ts c) ≡ Ok (w, d) → TakesWord ts c w d
unfolding word_at
word_taken [] c w d e = absurd cc
word_taken (stray column ∷ ts) c w d e = absurd cc
word_taken (word column v ∷ ts) c w d e =
    let parts : (v ≡ w) × (with_tokens ts (behind column c) ≡ d) = ok_parts (v, with_tokens ts (behind column c)) (w, d) e in
    record { column = column; rest = ts; tokens = ap (λ (u : List ℕ). word column u ∷ ts) parts.0; left = sym parts.1 }

-- a number that was read
pub number_taken : (max : ℕ) (w : List ℕ) (o : Option ℕ) (c : Reading) (n : ℕ) (d : Reading) → decimal_value w ≡ o → number_up_to max o c ≡ Ok (n, d) → IsDecimalUpTo max w n × (d ≡ c)
number_taken max w None c n d v e = absurd cc
number_taken max w (Some m) c n d v e = by_test (nat_lt max m) refl e
  where
    by_test : (b : Bool) → nat_lt max m ≡ b → if◌then◌else◌ {A = Result (ℕ × Reading) LexFault} b (Err (word_fault c NumberTooWide)) (Ok (m, c)) ≡ Ok (n, d) → IsDecimalUpTo max w n × (d ≡ c)
    by_test true t e = absurd cc
    by_test false t e =
        let parts : (m ≡ n) × (c ≡ d) = ok_parts (m, c) (n, d) e in
        (record { value = v ∙ ap (λ k. Some k) parts.0; up_to = subst (λ k. k ≤ max) parts.0 (ltb-false max m t) }, sym parts.1)

-- a number that was read, and what remains
pub record TakesNumber (max : ℕ) (ts : List Token) (c : Reading) (n : ℕ) (d : Reading) : Type 0 where
  pub w : List ℕ
  pub word : TakesWord ts c w d
  pub number : IsDecimalUpTo max w n

pub number_read : (max : ℕ) (ts : List Token) (c : Reading) (n : ℕ) (d : Reading) → number_at max (with_tokens ts c) ≡ Ok (n, d) → TakesNumber max ts c n d
unfolding number_at word_at
number_read max ts c n d e =
    let first : (x : List ℕ × Reading) × (word_at (with_tokens ts c) ≡ Ok x) × (number_up_to max (decimal_value x.0) x.1 ≡ Ok (n, d)) =
    bind_ok (word_at (with_tokens ts c)) (λ (x : List ℕ × Reading). number_up_to max (decimal_value x.0) x.1) (n, d) e in
    let taken : IsDecimalUpTo max (first.0).0 n × (d ≡ (first.0).1) = number_taken max (first.0).0 (decimal_value (first.0).0) (first.0).1 n d refl first.2 in
    let w : TakesWord ts c (first.0).0 (first.0).1 = word_taken ts c (first.0).0 (first.0).1 first.1 in
    record {
      w = (first.0).0;
      word = record { column = w.column; rest = w.rest; tokens = w.tokens; left = taken.1 ∙ w.left };
      number = taken.0;
    }

-- numbers that were read to the end of the line
pub record TakesNumbers (max : ℕ) (ts : List Token) (c : Reading) (xs : List ℕ) (d : Reading) : Type 0 where
  pub ws : List (List ℕ)
  pub are_words : AreWords ts ws
  pub numbers : AllZip (IsDecimalUpTo max) ws xs
  pub later : d.later ≡ c.later
  pub at_end : d.current.tokens ≡ []

numbers_cons : (max : ℕ) (t : Token) (ts : List Token) (c : Reading) (n : ℕ) (xs : List ℕ) (c' d : Reading) → TakesNumber max (t ∷ ts) c n c'
    → ((c'' : Reading) → c' ≡ with_tokens ts c'' → TakesNumbers max ts c'' xs d) → TakesNumbers max (t ∷ ts) c (n ∷ xs) d
numbers_cons max t ts c n xs c' d first more =
    let heads : t ≡ word first.word.column first.w = cc in
    let tails : ts ≡ first.word.rest = cc in
    let rest : TakesNumbers max ts (behind first.word.column c) xs d =
    more (behind first.word.column c) (first.word.left ∙ ap (λ (us : List Token). with_tokens us (behind first.word.column c)) (sym tails)) in
    record {
      ws = first.w ∷ rest.ws;
      are_words = (subst (λ (u : Token). IsWord u first.w) (sym heads) refl, rest.are_words);
      numbers = (first.number, rest.numbers);
      later = rest.later;
      at_end = rest.at_end;
    }

pub numbers_read : (max : ℕ) (ts : List Token) (c : Reading) (xs : List ℕ) (d : Reading) → numbers_from max ts (with_tokens ts c) ≡ Ok (xs, d) → TakesNumbers max ts c xs d
unfolding numbers_from
numbers_read max [] c xs d e =
    let parts : ([] ≡ xs) × (with_tokens [] c ≡ d) = ok_parts ([], with_tokens [] c) (xs, d) e in
    record {
      ws = [];
      are_words = tt;
      numbers = subst (λ (ys : List ℕ). AllZip (IsDecimalUpTo max) [] ys) parts.0 tt;
      later = ap (λ (r : Reading). r.later) (sym parts.1);
      at_end = ap (λ (r : Reading). r.current.tokens) (sym parts.1);
    }
numbers_read max (t ∷ ts) c xs d e =
    let first : (x : ℕ × Reading) × (number_at max (with_tokens (t ∷ ts) c) ≡ Ok x) × ((numbers_from max ts x.1 >>= λ (y : List ℕ × Reading). Ok (x.0 ∷ y.0, y.1)) ≡ Ok (xs, d)) =
    bind_ok (number_at max (with_tokens (t ∷ ts) c)) (λ (x : ℕ × Reading). numbers_from max ts x.1 >>= λ (y : List ℕ × Reading). Ok (x.0 ∷ y.0, y.1)) (xs, d) e in
    let others : (y : List ℕ × Reading) × (numbers_from max ts (first.0).1 ≡ Ok y) × (◌≡◌ {A = Result (List ℕ × Reading) LexFault} (Ok ((first.0).0 ∷ y.0, y.1)) (Ok (xs, d))) =
    bind_ok (numbers_from max ts (first.0).1) (λ (y : List ℕ × Reading). Ok ((first.0).0 ∷ y.0, y.1)) (xs, d) first.2 in
    let parts : ((first.0).0 ∷ (others.0).0 ≡ xs) × ((others.0).1 ≡ d) = ok_parts ((first.0).0 ∷ (others.0).0, (others.0).1) (xs, d) others.2 in
    let made : TakesNumbers max (t ∷ ts) c ((first.0).0 ∷ (others.0).0) (others.0).1 =
    numbers_cons max t ts c (first.0).0 (others.0).0 (first.0).1 (others.0).1 (number_read max (t ∷ ts) c (first.0).0 (first.0).1 first.1)
    (λ c'' same. numbers_read max ts c'' (others.0).0 (others.0).1 (subst (λ (r : Reading). numbers_from max ts r ≡ Ok ((others.0).0, (others.0).1)) same others.1)) in
    subst (λ (ys : List ℕ). TakesNumbers max (t ∷ ts) c ys d) parts.0 (subst (λ (r : Reading). TakesNumbers max (t ∷ ts) c ((first.0).0 ∷ (others.0).0) r) parts.1 made)

-- an expected word that was read
exactly_taken : (w expected : List ℕ) (c d : Reading) → (if same_word w expected then Ok c else Err (word_fault c BadWord)) ≡ Ok d → (w ≡ expected) × (c ≡ d)
exactly_taken w expected c d e = by_test (same_word w expected) refl e
  where
    by_test : (b : Bool) → same_word w expected ≡ b → if◌then◌else◌ {A = Result Reading LexFault} b (Ok c) (Err (word_fault c BadWord)) ≡ Ok d → (w ≡ expected) × (c ≡ d)
    by_test true t e = (same_word-true w expected t, cc)
    by_test false t e = absurd cc

pub exactly_read : (expected : List ℕ) (ts : List Token) (c d : Reading) → exactly_at expected (with_tokens ts c) ≡ Ok d → TakesWord ts c expected d
unfolding exactly_at word_at
exactly_read expected ts c d e =
    let first : (x : List ℕ × Reading) × (word_at (with_tokens ts c) ≡ Ok x) × ((if same_word x.0 expected then Ok x.1 else Err (word_fault x.1 BadWord)) ≡ Ok d) =
    bind_ok (word_at (with_tokens ts c)) (λ (x : List ℕ × Reading). if same_word x.0 expected then Ok x.1 else Err (word_fault x.1 BadWord)) d e in
    let taken : ((first.0).0 ≡ expected) × ((first.0).1 ≡ d) = exactly_taken (first.0).0 expected (first.0).1 d first.2 in
    let w : TakesWord ts c (first.0).0 (first.0).1 = word_taken ts c (first.0).0 (first.0).1 first.1 in
    record { column = w.column; rest = w.rest; tokens = w.tokens ∙ ap (λ (u : List ℕ). word w.column u ∷ w.rest) taken.0; left = sym taken.1 ∙ w.left }

-- a number in the grammar is read
pub number_found : (max : ℕ) (w : List ℕ) (n : ℕ) (c : Reading) → IsDecimalUpTo max w n → number_up_to max (decimal_value w) c ≡ Ok (n, c)
number_found max w n c h = ap (λ (o : Option ℕ). number_up_to max o c) h.value ∙ in_range
  where
    in_range : number_up_to max (Some n) c ≡ Ok (n, c)
    in_range = ap (λ (b : Bool). if◌then◌else◌ {A = Result (ℕ × Reading) LexFault} b (Err (word_fault c NumberTooWide)) (Ok (n, c))) (le-ltb max n h.up_to)

-- numbers in the grammar are read, up to the end of the line
pub record FindsNumbers (max : ℕ) (ts : List Token) (c : Reading) (xs : List ℕ) : Type 0 where
  pub left : Reading
  pub read : numbers_from max ts (with_tokens ts c) ≡ Ok (xs, left)
  pub later : left.later ≡ c.later
  pub at_end : left.current.tokens ≡ []

pub one_number : (max : ℕ) (column : ℕ) (w : List ℕ) (n : ℕ) (ts : List Token) (c : Reading) → IsDecimalUpTo max w n
    → number_at max (with_tokens (word column w ∷ ts) c) ≡ Ok (n, with_tokens ts (behind column c))
unfolding number_at word_at
one_number max column w n ts c h = number_found max w n (with_tokens ts (behind column c)) h

numbers_more : (max : ℕ) (column : ℕ) (w : List ℕ) (n : ℕ) (ts : List Token) (xs : List ℕ) (c : Reading) → IsDecimalUpTo max w n
    → FindsNumbers max ts (behind column c) xs → FindsNumbers max (word column w ∷ ts) c (n ∷ xs)
unfolding numbers_from
numbers_more max column w n ts xs c h more = record {
  left = more.left;
  read =
      ap (λ (r : Result (ℕ × Reading) LexFault). r >>= λ (x : ℕ × Reading). numbers_from max ts x.1 >>= λ (y : List ℕ × Reading). Ok (x.0 ∷ y.0, y.1)) (one_number max column w n ts c h)
      ∙ ap (λ (r : Result (List ℕ × Reading) LexFault). r >>= λ (y : List ℕ × Reading). Ok (n ∷ y.0, y.1)) more.read;
  later = more.later;
  at_end = more.at_end;
}

pub numbers_found : (max : ℕ) (ts : List Token) (ws : List (List ℕ)) (xs : List ℕ) (c : Reading) → AreWords ts ws → AllZip (IsDecimalUpTo max) ws xs → FindsNumbers max ts c xs
unfolding numbers_from
numbers_found max [] [] [] c a z = record { left = with_tokens [] c; read = refl; later = refl; at_end = refl }
numbers_found max [] [] (x ∷ xs) c a z = absurd z
numbers_found max [] (w ∷ ws) xs c a z = absurd a
numbers_found max (t ∷ ts) [] xs c a z = absurd a
numbers_found max (word column v ∷ ts) (w ∷ ws) [] c a z = absurd z
numbers_found max (word column v ∷ ts) (w ∷ ws) (x ∷ xs) c a z =
    numbers_more max column v x ts xs c (subst (λ (u : List ℕ). IsDecimalUpTo max u x) (sym a.0) z.0) (numbers_found max ts ws xs (behind column c) a.1 z.1)
numbers_found max (stray column ∷ ts) (w ∷ ws) xs c a z = absurd a.0

pub exactly_found : (column : ℕ) (v expected : List ℕ) (ts : List Token) (c : Reading) → v ≡ expected → exactly_at expected (with_tokens (word column v ∷ ts) c) ≡ Ok (with_tokens ts (behind column c))
unfolding exactly_at word_at
exactly_found column v expected ts c e =
    ap (λ (b : Bool). if◌then◌else◌ {A = Result Reading LexFault} b (Ok (with_tokens ts (behind column c))) (Err (word_fault (with_tokens ts (behind column c)) BadWord))) (same_word_from v expected e)
