-- Lists of words, with one more word.
use Rattle.std.proofs.Common.{◌≡◌, ◌∙◌, ◌+◌, ◌||◌, ℕ, Bool, true, false, zero, suc, refl, sym, ap, List, [], ◌∷◌, ◌++◌, take, Some, true≢false, arith}
use Rattle.std.specs.Prelude.{slice_get}
use Rattle.std.specs.Str.{IsUtf8, bytes_eq}
use Rattle.std.specs.List.{list_any}
use Rattle.std.specs.Borrow.{Bor}
use Rattle.clap.specs.Walk.{Text, texts}
use Rattle.clap.proofs.WalkLemmas.{list_any-map}
use Rattle.basic_lemmas.proofs.Options.{some≢none}
use Rattle.command_words.specs.Texts.{AreTexts, dashes, has_dashes}
use Rattle.command_words.proofs.OptionWalk.{AreWords}
use Rattle.command_words.proofs.Spelled.{spelled}

module _ {X : Type 0} where
  after_suc : (xs : List X) (i : ℕ) (x : X) → slice_get xs i ≡ Some x → take i xs ++ x ∷ [] ≡ take (suc i) xs
  after_suc [] i x e = absurd (some≢none x (sym e))
  after_suc (y ∷ ys) zero x e = (let same : y ≡ x = (let z : Some y ≡ Some x = e in cc) in ap (λ w. w ∷ []) (sym same))
  after_suc (y ∷ ys) (suc i) x e = ap (λ ws. y ∷ ws) (after_suc ys i x e)

  pub one_more : (xs : List X) (i : ℕ) (x : X) → slice_get xs i ≡ Some x → take i xs ++ x ∷ [] ≡ take (i + 1) xs
  one_more xs i x e = (let next : suc i ≡ i + 1 = omega arith in after_suc xs i x e ∙ ap (λ k. take k xs) next)

pub texts_push : (ws : List Text) (w : Text) → AreTexts ws → IsUtf8 w → AreTexts (ws ++ w ∷ [])
texts_push [] w a u = (u, tt)
texts_push (x ∷ xs) w a u = (a.0, texts_push xs w a.1 u)

-- texts of which none is `--`
pub are_words : (ws : List Text) → has_dashes ws ≡ false → AreTexts ws → AreWords ws
are_words [] e a = tt
are_words (w ∷ ws) e a = go (bytes_eq w dashes) refl e (are_words ws)
  where
    go : (b : Bool) → bytes_eq w dashes ≡ b → (b || has_dashes ws) ≡ false → (has_dashes ws ≡ false → AreTexts ws → AreWords ws) → AreWords (w ∷ ws)
    go true t e h = absurd (true≢false e)
    go false t e h = (t, spelled w a.0, h e a.1)

pub dashes-texts : (ts : List (Bor Text)) → list_any (λ w. bytes_eq w.now dashes) ts ≡ has_dashes (texts ts)
dashes-texts ts = list_any-map (λ w. bytes_eq w dashes) (λ (s : Bor Text). s.now) ts
