-- The beginning of a word, in the definitions and in the parser.
use Rattle.std.proofs.Common.{◌≡◌, ◌==◌, Bool, true, false, refl, sym, [], ◌∷◌, Option, Some, None, true≢false}
use Rattle.std.specs.Str.{bytes_eq}
use Rattle.clap.specs.Lexer.{long_of, short_of}
use Rattle.clap.specs.Walk.{Text}
use Rattle.command_definitions.specs.Options.{is_hyphened, option_word}
use Rattle.basic_lemmas.proofs.Options.{some≢none}
use Rattle.command_words.specs.Texts.{dashes}

pub option_word-long : (x : Text) → bytes_eq x dashes ≡ false → option_word x ≡ long_of x
option_word-long [] e = refl
option_word-long (a ∷ []) e = go (a == 45) refl
  where
    go : (p : Bool) → (a == 45) ≡ p → None ≡ long_of (a ∷ [])
    go true f = rw f refl
    go false f = rw f refl
option_word-long (a ∷ b ∷ []) e = go (a == 45) (b == 45) refl refl
  where
    go : (p q : Bool) → (a == 45) ≡ p → (b == 45) ≡ q → None ≡ long_of (a ∷ b ∷ [])
    go true true f g = absurd (true≢false (rw (f, g) at e))
    go true false f g = rw (f, g) refl
    go false q f g = rw f refl
option_word-long (a ∷ b ∷ c ∷ rest) e = go (a == 45) (b == 45) refl refl
  where
    go : (p q : Bool) → (a == 45) ≡ p → (b == 45) ≡ q → option_word (a ∷ b ∷ c ∷ rest) ≡ long_of (a ∷ b ∷ c ∷ rest)
    go true true f g = rw (f, g) refl
    go true false f g = rw (f, g) refl
    go false q f g = rw f refl

pub hyphened-long : (x : Text) (l : Text × Option Text) → long_of x ≡ Some l → is_hyphened x ≡ true
hyphened-long [] l e = absurd (some≢none l (sym e))
hyphened-long (a ∷ []) l e = go (a == 45) refl
  where
    go : (p : Bool) → (a == 45) ≡ p → false ≡ true
    go true f = absurd (some≢none l (sym (rw f at e)))
    go false f = absurd (some≢none l (sym (rw f at e)))
hyphened-long (a ∷ b ∷ rest) l e = go (a == 45) refl
  where
    go : (p : Bool) → (a == 45) ≡ p → (a == 45) ≡ true
    go true f = f
    go false f = absurd (some≢none l (sym (rw f at e)))

pub hyphened-short : (x f : Text) → short_of x ≡ Some f → is_hyphened x ≡ true
hyphened-short [] l e = absurd (some≢none l (sym e))
hyphened-short (a ∷ []) l e = go (a == 45) refl
  where
    go : (p : Bool) → (a == 45) ≡ p → false ≡ true
    go true f = absurd (some≢none l (sym (rw f at e)))
    go false f = absurd (some≢none l (sym (rw f at e)))
hyphened-short (a ∷ b ∷ rest) l e = go (a == 45) refl
  where
    go : (p : Bool) → (a == 45) ≡ p → (a == 45) ≡ true
    go true f = f
    go false f = absurd (some≢none l (sym (rw f at e)))

pub hyphened-plain : (x : Text) → bytes_eq x dashes ≡ false → long_of x ≡ None → short_of x ≡ None → is_hyphened x ≡ false
hyphened-plain [] e h k = refl
hyphened-plain (a ∷ []) e h k = refl
hyphened-plain (a ∷ b ∷ []) e h k = go (a == 45) (b == 45) refl refl
  where
    go : (p q : Bool) → (a == 45) ≡ p → (b == 45) ≡ q → (a == 45) ≡ false
    go true true f g = absurd (true≢false (rw (f, g) at e))
    go true false f g = absurd (some≢none (b ∷ []) (rw (f, g) at k))
    go false q f g = f
hyphened-plain (a ∷ b ∷ c ∷ rest) e h k = go (a == 45) (b == 45) refl refl
  where
    go : (p q : Bool) → (a == 45) ≡ p → (b == 45) ≡ q → (a == 45) ≡ false
    go true true f g = absurd (some≢none _ (rw (f, g) at h))
    go true false f g = absurd (some≢none (b ∷ c ∷ rest) (rw (f, g) at k))
    go false q f g = f
