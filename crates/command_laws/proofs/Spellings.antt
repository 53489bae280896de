-- A word that names an option is read as it is spelled.
use Rattle.std.proofs.Common.{◌≡◌, ◌==◌, ◌+◌, ◌||◌, ◌&&◌, ℕ, Bool, true, false, not, suc, refl, sym, ap, ◌∙◌, subst, [], ◌∷◌, ◌++◌, take, drop, Option, Some, None, cond, codes, true≢false, arith, append_assoc}
use Rattle.std.specs.List.{list_any, before_first, after_first, position_or_len}
use Rattle.std.proofs.lemmas.Bool.{eqb-true, or_right, or_parts, not-true}
use Rattle.basic_lemmas.proofs.Options.{some≢none}
use Rattle.command_definitions.specs.Options.{is_equals_sign, name_and_value, option_word}
use Rattle.command_laws.proofs.Lookups.{Text}

abbrev has_sign : Text → Bool
has_sign xs = list_any is_equals_sign xs

abbrev front : Text → Text
front xs = before_first is_equals_sign xs

abbrev behind : Text → Text
behind xs = after_first is_equals_sign xs

abbrev place : Text → ℕ
place xs = position_or_len is_equals_sign xs

one_more : (n : ℕ) → 1 + n ≡ suc n
one_more n = omega arith

two_more : (n : ℕ) → (1 + n) + 1 ≡ suc (n + 1)
two_more n = omega arith

front_now : (x : ℕ) (xs : Text) → (x == 61) ≡ true → front (x ∷ xs) ≡ []
front_now x xs e = ap (λ b. take (cond (not b) (1 + place xs) 0) (x ∷ xs)) e

behind_now : (x : ℕ) (xs : Text) → (x == 61) ≡ true → behind (x ∷ xs) ≡ xs
behind_now x xs e = ap (λ b. drop (cond (not b) (1 + place xs) 0 + 1) (x ∷ xs)) e

front_on : (x : ℕ) (xs : Text) → (x == 61) ≡ false → front (x ∷ xs) ≡ x ∷ front xs
front_on x xs e = ap (λ b. take (cond (not b) (1 + place xs) 0) (x ∷ xs)) e ∙ ap (λ n. take n (x ∷ xs)) (one_more (place xs))

behind_on : (x : ℕ) (xs : Text) → (x == 61) ≡ false → behind (x ∷ xs) ≡ behind xs
behind_on x xs e = ap (λ b. drop (cond (not b) (1 + place xs) 0 + 1) (x ∷ xs)) e ∙ ap (λ n. drop n (x ∷ xs)) (two_more (place xs))

-- a text is what comes before its first equals sign, the sign, and what comes after it
pub parted : (xs : Text) → has_sign xs ≡ true → xs ≡ front xs ++ (61 ∷ behind xs)
parted [] e = absurd (true≢false (sym e))
parted (x ∷ xs) e = go (x == 61) refl e (parted xs)
  where
    go : (b : Bool) → (x == 61) ≡ b → (b || has_sign xs) ≡ true → (has_sign xs ≡ true → xs ≡ front xs ++ (61 ∷ behind xs)) → x ∷ xs ≡ front (x ∷ xs) ++ (61 ∷ behind (x ∷ xs))
    go true t e h =
        sym (ap (λ (f : Text). f ++ (61 ∷ behind (x ∷ xs))) (front_now x xs t) ∙ ap (λ (b : Text). 61 ∷ b) (behind_now x xs t) ∙ ap (λ y. y ∷ xs) (sym (eqb-true x 61 t)))
    go false t e h =
        ap (λ (ys : Text). x ∷ ys) (h e)
        ∙ sym (ap (λ (f : Text). f ++ (61 ∷ behind (x ∷ xs))) (front_on x xs t) ∙ ap (λ (b : Text). x ∷ (front xs ++ (61 ∷ b))) (behind_on x xs t))

pub whole_front : (xs : Text) → has_sign xs ≡ false → front xs ≡ xs
whole_front [] e = refl
whole_front (x ∷ xs) e =
    let parts = or_parts (x == 61) (has_sign xs) e in front_on x xs parts.0 ∙ ap (λ (ys : Text). x ∷ ys) (whole_front xs parts.1)

front_of : (xs ys : Text) → has_sign xs ≡ false → front (xs ++ (61 ∷ ys)) ≡ xs
front_of [] ys e = front_now 61 ys refl
front_of (x ∷ xs) ys e =
    let parts = or_parts (x == 61) (has_sign xs) e in front_on x (xs ++ (61 ∷ ys)) parts.0 ∙ ap (λ (zs : Text). x ∷ zs) (front_of xs ys parts.1)

behind_of : (xs ys : Text) → has_sign xs ≡ false → behind (xs ++ (61 ∷ ys)) ≡ ys
behind_of [] ys e = behind_now 61 ys refl
behind_of (x ∷ xs) ys e =
    let parts = or_parts (x == 61) (has_sign xs) e in behind_on x (xs ++ (61 ∷ ys)) parts.0 ∙ behind_of xs ys parts.1

sign_of : (xs ys : Text) → has_sign (xs ++ (61 ∷ ys)) ≡ true
sign_of [] ys = refl
sign_of (x ∷ xs) ys = or_right (x == 61) (has_sign (xs ++ (61 ∷ ys))) (sign_of xs ys)

-- ---- words as they are spelled

-- a name that can be spelled: it has no equals sign, and is not empty
abbrev pub is_plain : Text → Bool
is_plain [] = false
is_plain (c ∷ cs) = not (has_sign (c ∷ cs))

pub name_read : (name : Text) → is_plain name ≡ true → option_word (codes "--" ++ name) ≡ Some (name, None)
name_read [] e = absurd (true≢false (sym e))
name_read (c ∷ cs) e =
    let none : has_sign (c ∷ cs) ≡ false = not-true _ e in
    λ i. Some (whole_front (c ∷ cs) none i, ap (λ b. cond b (Some (behind (c ∷ cs))) None) none i)

-- a word `--name=value` begins with two hyphens and continues with the name, the equals sign and the value
glued : (name value : Text) → codes "--" ++ name ++ codes "=" ++ value ≡ 45 ∷ 45 ∷ (name ++ (61 ∷ value))
glued name value = ap (λ (xs : Text). 45 ∷ 45 ∷ xs) (append_assoc name (codes "=") value)

pub value_read : (name value : Text) → is_plain name ≡ true → option_word (codes "--" ++ name ++ codes "=" ++ value) ≡ Some (name, Some value)
value_read [] value e = absurd (true≢false (sym e))
value_read (c ∷ cs) value e =
    let none : has_sign (c ∷ cs) ≡ false = not-true _ e in
    let xs : Text = c ∷ (cs ++ (61 ∷ value)) in
    let some : cond (has_sign xs) (Some (behind xs)) None ≡ Some value =
    ap (λ b. cond b (Some (behind xs)) None) (sign_of (c ∷ cs) value) ∙ ap (λ (v : Text). Some v) (behind_of (c ∷ cs) value none) in
    ap option_word (glued (c ∷ cs) value) ∙ (λ i. Some (front_of (c ∷ cs) value none i, some i))

-- the spelling of a word that is read as an option
abbrev pub IsWordOf : Text → Option Text → Text → Type 0
IsWordOf name None w = w ≡ codes "--" ++ name
IsWordOf name (Some value) w = w ≡ codes "--" ++ name ++ codes "=" ++ value

by_sign : (xs : Text) (b : Bool) → has_sign xs ≡ b → IsWordOf (front xs) (cond b (Some (behind xs)) None) (45 ∷ 45 ∷ xs)
by_sign xs true e = ap (λ (ys : Text). 45 ∷ 45 ∷ ys) (parted xs e) ∙ sym (glued (front xs) (behind xs))
by_sign xs false e = ap (λ (ys : Text). 45 ∷ 45 ∷ ys) (sym (whole_front xs e))

pub word_spelled : (w name : Text) (v : Option Text) → option_word w ≡ Some (name, v) → IsWordOf name v w
word_spelled [] name v e = absurd (some≢none _ (sym e))
word_spelled (a ∷ []) name v e = absurd (some≢none _ (sym e))
word_spelled (a ∷ b ∷ []) name v e = absurd (some≢none _ (sym e))
word_spelled (a ∷ b ∷ c ∷ rest) name v e = go (a == 45) (b == 45) refl refl e
  where
    read : name_and_value (c ∷ rest) ≡ (name, v) → IsWordOf name v (45 ∷ 45 ∷ c ∷ rest)
    read same =
        subst (λ (p : Text × Option Text). IsWordOf p.0 p.1 (45 ∷ 45 ∷ c ∷ rest)) same (by_sign (c ∷ rest) (has_sign (c ∷ rest)) refl)

    go : (p q : Bool) → (a == 45) ≡ p → (b == 45) ≡ q → cond (p && q) (Some (name_and_value (c ∷ rest))) None ≡ Some (name, v) → IsWordOf name v (a ∷ b ∷ c ∷ rest)
    go true true f g e =
        let same : name_and_value (c ∷ rest) ≡ (name, v) = cc in
        subst (λ x. IsWordOf name v (x ∷ b ∷ c ∷ rest)) (sym (eqb-true a 45 f)) (subst (λ y. IsWordOf name v (45 ∷ y ∷ c ∷ rest)) (sym (eqb-true b 45 g)) (read same))
    go true false f g e = absurd (some≢none _ (sym e))
    go false q f g e = absurd (some≢none _ (sym e))
