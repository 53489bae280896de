-- Words of characters.
use Rattle.std.proofs.Common.{◌≡◌, ◌∙◌, ◌<◌, ◌==◌, ℕ, Bool, true, false, refl, sym, ap, List, [], ◌∷◌, Some, true≢false, arith}
use Rattle.std.specs.Prelude.{slice_get, encode_utf8_all}
use Rattle.std.specs.Str.{IsUtf8, chars}
use Rattle.std.proofs.lemmas.Str.{encodes-chars, IsUtf8-drop, IsCharBoundary-after_ascii}
use Rattle.std.proofs.lemmas.Bool.{eqb-true}
use Rattle.clap.specs.Lexer.{short_of}
use Rattle.clap.specs.Walk.{Text}
use Rattle.basic_lemmas.proofs.Options.{some≢none}
use Rattle.command_words.proofs.WordSteps.{IsSpelled}

is_nil : Text → Bool
is_nil [] = true
is_nil (b ∷ bs) = false

-- characters that spell something begin with one
first_char : (b : ℕ) (bs : Text) (cs : List ℕ) → encode_utf8_all cs ≡ b ∷ bs → (x : ℕ) × (slice_get cs 0 ≡ Some x)
unfolding is_nil
first_char b bs [] e = absurd (true≢false (ap is_nil e))
first_char b bs (c ∷ cs) e = (c, refl)

-- what follows the hyphen
behind : (b c : ℕ) (rest flags : Text) → short_of (b ∷ c ∷ rest) ≡ Some flags → (b ≡ 45) × (flags ≡ c ∷ rest)
behind b c rest flags e = go (b == 45) (c == 45) refl refl
  where
    go : (p q : Bool) → (b == 45) ≡ p → (c == 45) ≡ q → (b ≡ 45) × (flags ≡ c ∷ rest)
    go true true f g = absurd (some≢none flags (sym (rw (f, g) at e)))
    go true false f g = (eqb-true b 45 f, (let same : Some (c ∷ rest) ≡ Some flags = rw (f, g) at e in let back : c ∷ rest ≡ flags = cc in sym back))
    go false q f g = absurd (some≢none flags (sym (rw f at e)))

pub spelled : (w : Text) → IsUtf8 w → IsSpelled w
spelled [] u flags e = absurd (some≢none flags (sym e))
spelled (b ∷ []) u flags e = go (b == 45) refl
  where
    go : (p : Bool) → (b == 45) ≡ p → (x : ℕ) × (slice_get (chars flags) 0 ≡ Some x)
    go true f = absurd (some≢none flags (sym (rw f at e)))
    go false f = absurd (some≢none flags (sym (rw f at e)))
spelled (b ∷ c ∷ rest) u flags e =
    let at = behind b c rest flags e in
    let small : b < 128 = omega (arith, at.0) in
    let utf8 : IsUtf8 (c ∷ rest) = IsUtf8-drop (b ∷ c ∷ rest) 1 u (IsCharBoundary-after_ascii (b ∷ c ∷ rest) 0 u (omega arith) small) in
    let first = first_char c rest (chars (c ∷ rest)) (encodes-chars (c ∷ rest) utf8) in
    (first.0, ap (λ fs. slice_get (chars fs) 0) at.1 ∙ first.1)
