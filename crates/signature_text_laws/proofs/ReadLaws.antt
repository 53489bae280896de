-- Steps of readers: errors are kept, and what is read first comes first.
use Rattle.std.proofs.Common.{◌≡◌, ℕ, zero, suc, ◌+◌, ◌-◌, ◌*◌, ◌^◌, ◌<◌, ◌≤◌, true, false, List, [], ◌∷◌, ◌++◌, refl, sym, ap, ◌∙◌, subst, arith, append_assoc, append-nil}
use Rattle.std.specs.Prelude.{Result, Ok, Err, nat_le, ◌==◌}
use Rattle.std.proofs.Math.Nat.{pow-succ'}
use Rattle.basic_lemmas.proofs.Truths.{if_false}
use Rattle.basic_lemmas.proofs.Numbers.{not_zero}
use Rattle.text_definitions.specs.Reading.{◌>>=◌}
use Rattle.signature_definitions.specs.SignatureText as signatures
use Rattle.signature_definitions.specs.SignatureText.{value_at, number_in, numbers_in, character_types, types_from}
use Rattle.signature_definitions.specs.declared.SigFault.{SigFault}
use Rattle.signature_text_laws.specs.Faults.{Fails}

-- xs before what is read; an error is kept
abbrev pub fronted : {A : Type 0} → List A → Result (List A) SigFault → Result (List A) SigFault
fronted xs (Ok ys) = Ok (xs ++ ys)
fronted xs (Err e) = Err e

-- an error is kept if further steps follow
pub fails_on : {A B : Type 0} (e : SigFault) (r : Result A SigFault) (f : A → Result B SigFault) → Fails e r → Fails e (r >>= f)
fails_on {A} e r f h = λ other. ap (λ (q : Result A SigFault). q >>= f) (h other)

pub fails_fronted : {A : Type 0} (e : SigFault) (xs : List A) (r : Result (List A) SigFault) → Fails e r → Fails e (fronted xs r)
fails_fronted e xs r h = λ other. ap (fronted xs) (h other)

fronted-fronted : {A : Type 0} (xs ys : List A) (r : Result (List A) SigFault) → fronted (xs ++ ys) r ≡ fronted xs (fronted ys r)
fronted-fronted xs ys (Ok zs) = ap Ok append_assoc_at
  where
    append_assoc_at : (xs ++ ys) ++ zs ≡ xs ++ (ys ++ zs)
    append_assoc_at = append_assoc xs ys zs
fronted-fronted xs ys (Err e) = refl

front-step : (v at : ℕ) (r : Result (List (ℕ × ℕ)) SigFault) → (r >>= (λ others. Ok ((v, at) ∷ others))) ≡ fronted ((v, at) ∷ []) r
front-step v at (Ok ys) = refl
front-step v at (Err e) = refl

-- the first of the numbers
pub numbers_in-first : (j k : ℕ) (text : List ℕ) (w bound : ℕ) (fault : ℕ → SigFault) (at v : ℕ) → j ≡ suc k → number_in text w at ≡ Ok v → v < bound
    → numbers_in j text w bound fault at ≡ fronted ((v, at) ∷ []) (numbers_in k text w bound fault (at + w))
unfolding numbers_in
numbers_in-first j k text w bound fault at v e read l = let t : nat_le bound v ≡ false = grind arith in rw (e, read, t) (front-step v at (numbers_in k text w bound fault (at + w)))

-- a further number is read
pub numbers_in-more : (j k : ℕ) (text : List ℕ) (w bound : ℕ) (fault : ℕ → SigFault) (at next v : ℕ) (xs : List (ℕ × ℕ)) → j ≡ suc k → next ≡ at + w → number_in text w at ≡ Ok v → v < bound
    → fronted (xs ++ (v, at) ∷ []) (numbers_in k text w bound fault next) ≡ fronted xs (numbers_in j text w bound fault at)
numbers_in-more j k text w bound fault at next v xs e there read l =
    ap (λ m. fronted (xs ++ (v, at) ∷ []) (numbers_in k text w bound fault m)) there
    ∙ fronted-fronted xs ((v, at) ∷ []) (numbers_in k text w bound fault (at + w)) ∙ ap (fronted xs) (sym (numbers_in-first j k text w bound fault at v e read l))

pub numbers_in-none : (text : List ℕ) (w bound : ℕ) (fault : ℕ → SigFault) (at : ℕ) → numbers_in 0 text w bound fault at ≡ Ok []
unfolding numbers_in
numbers_in-none text w bound fault at = refl

pub numbers_in-end : (j : ℕ) (text : List ℕ) (w bound : ℕ) (fault : ℕ → SigFault) (at : ℕ) (xs : List (ℕ × ℕ)) → j ≡ 0 → fronted xs (numbers_in j text w bound fault at) ≡ Ok xs
numbers_in-end j text w bound fault at xs e = ap (λ m. fronted xs (numbers_in m text w bound fault at)) e ∙ ap (fronted xs) (numbers_in-none text w bound fault at) ∙ ap Ok (append-nil xs)

-- the first number is none, or too great
pub numbers_in-unread : (j k : ℕ) (text : List ℕ) (w bound : ℕ) (fault : ℕ → SigFault) (at : ℕ) (e : SigFault) → j ≡ suc k → Fails e (number_in text w at)
    → Fails e (numbers_in j text w bound fault at)
unfolding numbers_in
numbers_in-unread j k text w bound fault at e same h = rw same (fails_on e (number_in text w at) _ h)

pub numbers_in-great : (j k : ℕ) (text : List ℕ) (w bound : ℕ) (fault : ℕ → SigFault) (at v : ℕ) → j ≡ suc k → number_in text w at ≡ Ok v → bound ≤ v
    → numbers_in j text w bound fault at ≡ Err (fault at)
unfolding numbers_in
numbers_in-great j k text w bound fault at v e read l = let t : nat_le bound v ≡ true = grind arith in rw (e, read, t) refl

-- a number of one more character
pub number_in-low : (w : ℕ) (text : List ℕ) (at : ℕ) (e : SigFault) → (w ≡ 0 → ⊥) → Fails e (value_at text at) → Fails e (number_in text w at)
number_in-low zero text at e some h = absurd (some refl)
number_in-low (suc w) text at e some h = fails_on e (value_at text at) _ h

pub number_in-high : (w : ℕ) (text : List ℕ) (at v : ℕ) (e : SigFault) → (w ≡ 0 → ⊥) → value_at text at ≡ Ok v → Fails e (number_in text (w - 1) (at + 1)) → Fails e (number_in text w at)
number_in-high zero text at v e some low h = absurd (some refl)
number_in-high (suc w) text at v e some low h =
    let same : suc w - 1 ≡ w = omega arith in
    let P : ℕ → Type 0 = λ k. Fails e (number_in text k (at + 1)) in
    rw low (fails_on e (number_in text w (at + 1)) _ (subst P same h))

pub number_in-both : (w : ℕ) (text : List ℕ) (at v high : ℕ) → (w ≡ 0 → ⊥) → value_at text at ≡ Ok v → number_in text (w - 1) (at + 1) ≡ Ok high → number_in text w at ≡ Ok (v + 64 * high)
number_in-both zero text at v high some low h = absurd (some refl)
number_in-both (suc w) text at v high some low h =
    let same : suc w - 1 ≡ w = omega arith in
    let P : ℕ → Type 0 = λ k. number_in text k (at + 1) ≡ Ok high in
    rw (low, subst P same h) refl

pub wider : (w v high : ℕ) → (w ≡ 0 → ⊥) → v < 64 → high < 64 ^ (w - 1) → v + 64 * high < 64 ^ w
wider zero v high some l h = absurd (some refl)
wider (suc w) v high some l h =
    let same : suc w - 1 ≡ w = omega arith in
    let P : ℕ → Type 0 = λ k. high < 64 ^ k in
    let h' : high < 64 ^ w = subst P same h in
    let e : 64 ^ suc w ≡ 64 * 64 ^ w = pow-succ' 64 w in
    omega arith

-- at most three values
pub narrow : (w high : ℕ) → w ≤ 3 → high < 64 ^ (w - 1) → high < 4096
narrow zero high l h = omega arith
narrow (suc zero) high l h = omega arith
narrow (suc (suc zero)) high l h = omega arith
narrow (suc (suc (suc zero))) high l h = omega arith
narrow (suc (suc (suc (suc w)))) high l h = absurd (omega arith)

-- reading the remaining types, with enough steps for them, results in `target`
abbrev pub ReadsOn : List ℕ → ℕ → ℕ → signatures.Types → Result (signatures.Types × ℕ) SigFault → Type 0
ReadsOn text n at s target = (m : ℕ) × (s.left ≤ m) × (types_from m text n at s ≡ target)

is_none : (n : ℕ) → n ≤ 0 → (n == 0) ≡ true
is_none n h = grind arith

pub next_ok : {A B : Type 0} (r : Result A SigFault) (x : A) (f : A → Result B SigFault) → r ≡ Ok x → (r >>= f) ≡ f x
next_ok {A} r x f h = ap (λ (q : Result A SigFault). q >>= f) h

-- the types of a character, and then the types after it
abbrev pub behind_character : List ℕ → ℕ → ℕ → ℕ → signatures.Types → ℕ → Result (signatures.Types × ℕ) SigFault
behind_character text n at m s v = character_types n at v s >>= (λ t. types_from m text n (at + 1) t)

pub types_from-some : (m : ℕ) (text : List ℕ) (n at : ℕ) (s : signatures.Types) → 0 < s.left → types_from (suc m) text n at s ≡ (value_at text at >>= behind_character text n at m s)
unfolding types_from
types_from-some m text n at s some = if_false (s.left == 0) (Ok (s, at)) (value_at text at >>= behind_character text n at m s) (not_zero s.left some)

pub types_from-none : (m : ℕ) (text : List ℕ) (n at : ℕ) (s : signatures.Types) → s.left ≤ 0 → types_from m text n at s ≡ Ok (s, at)
unfolding types_from
types_from-none zero text n at s none = refl
types_from-none (suc m) text n at s none = rw (is_none s.left none) refl

pub reads_on-more : (text : List ℕ) (n at : ℕ) (s t : signatures.Types) (target : Result (signatures.Types × ℕ) SigFault) (v : ℕ) → 0 < s.left → value_at text at ≡ Ok v
    → character_types n at v s ≡ Ok t → t.left ≤ s.left - 1 → ReadsOn text n at s target → ReadsOn text n (at + 1) t target
reads_on-more text n at s t target v some read taken less (zero, l, h) = absurd (omega arith)
reads_on-more text n at s t target v some read taken less (suc m, l, h) = (
  m,
  omega arith,
  sym (next_ok (character_types n at v s) t (λ t. types_from m text n (at + 1) t) taken)
      ∙ sym (next_ok (value_at text at) v (behind_character text n at m s) read)
      ∙ sym (types_from-some m text n at s some) ∙ h,
)

pub reads_on-done : (text : List ℕ) (n at : ℕ) (s : signatures.Types) (target : Result (signatures.Types × ℕ) SigFault) → s.left ≤ 0 → ReadsOn text n at s target → target ≡ Ok (s, at)
reads_on-done text n at s target none (m, l, h) = sym h ∙ types_from-none m text n at s none

pub reads_on-unread : (text : List ℕ) (n at : ℕ) (s : signatures.Types) (target : Result (signatures.Types × ℕ) SigFault) (e : SigFault) → 0 < s.left → Fails e (value_at text at)
    → ReadsOn text n at s target → Fails e target
reads_on-unread text n at s target e some h (zero, l, r) = absurd (omega arith)
reads_on-unread text n at s target e some h (suc m, l, r) =
    let P : Result (signatures.Types × ℕ) SigFault → Type 0 = λ q. Fails e q in
    subst P (sym (types_from-some m text n at s some) ∙ r) (fails_on e (value_at text at) (behind_character text n at m s) h)

pub reads_on-wrong : (text : List ℕ) (n at : ℕ) (s : signatures.Types) (target : Result (signatures.Types × ℕ) SigFault) (v : ℕ) (e : SigFault) → 0 < s.left → value_at text at ≡ Ok v
    → Fails e (character_types n at v s) → ReadsOn text n at s target → Fails e target
reads_on-wrong text n at s target v e some read h (zero, l, r) = absurd (omega arith)
reads_on-wrong text n at s target v e some read h (suc m, l, r) =
    let P : Result (signatures.Types × ℕ) SigFault → Type 0 = λ q. Fails e q in
    subst P (sym (next_ok (value_at text at) v (behind_character text n at m s) read) ∙ sym (types_from-some m text n at s some) ∙ r)
    (fails_on e (character_types n at v s) (λ t. types_from m text n (at + 1) t) h)
