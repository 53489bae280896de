-- The text of eight digits.
use Rattle.std.proofs.Common.{◌≡◌, ℕ, ◌+◌, ◌<◌, List, [], ◌∷◌, ◌++◌, length, get_or, refl, arith, ap, ◌∙◌}
use Rattle.std.specs.List.{All}
use Rattle.std.proofs.lemmas.Fmt.{decimal_digit}
use Rattle.cone_text_definitions.specs.VectorText.{entries_text}

-- the digits, each after a space
digits_text_of : (a b c d e f g h : ℕ) → a < 10 → b < 10 → c < 10 → d < 10 → e < 10 → f < 10 → g < 10 → h < 10 →
    entries_text (a ∷ b ∷ c ∷ d ∷ e ∷ f ∷ g ∷ h ∷ []) ≡
    32 ∷ (48 + a) ∷ 32 ∷ (48 + b) ∷ 32 ∷ (48 + c) ∷ 32 ∷ (48 + d) ∷ 32 ∷ (48 + e) ∷ 32 ∷ (48 + f) ∷ 32 ∷ (48 + g) ∷ 32 ∷ (48 + h) ∷ []
digits_text_of a b c d e f g h p q r s t u v w =
    (λ i. (32 ∷ decimal_digit a p i) ++ ((32 ∷ decimal_digit b q i) ++ ((32 ∷ decimal_digit c r i) ++ ((32 ∷ decimal_digit d s i) ++
    ((32 ∷ decimal_digit e t i) ++ ((32 ∷ decimal_digit f u i) ++ ((32 ∷ decimal_digit g v i) ++ ((32 ∷ decimal_digit h w i) ++ []))))))))

-- a list of eight numbers
eight : (x : List ℕ) → length x ≡ 8 →
    x ≡ get_or x 0 0 ∷ get_or x 1 0 ∷ get_or x 2 0 ∷ get_or x 3 0 ∷ get_or x 4 0 ∷ get_or x 5 0 ∷ get_or x 6 0 ∷ get_or x 7 0 ∷ []
eight [] l = absurd (omega arith)
eight (a ∷ []) l = absurd (omega arith)
eight (a ∷ b ∷ []) l = absurd (omega arith)
eight (a ∷ b ∷ c ∷ []) l = absurd (omega arith)
eight (a ∷ b ∷ c ∷ d ∷ []) l = absurd (omega arith)
eight (a ∷ b ∷ c ∷ d ∷ e ∷ []) l = absurd (omega arith)
eight (a ∷ b ∷ c ∷ d ∷ e ∷ f ∷ []) l = absurd (omega arith)
eight (a ∷ b ∷ c ∷ d ∷ e ∷ f ∷ g ∷ []) l = absurd (omega arith)
eight (a ∷ b ∷ c ∷ d ∷ e ∷ f ∷ g ∷ h ∷ []) l = refl
eight (a ∷ b ∷ c ∷ d ∷ e ∷ f ∷ g ∷ h ∷ i ∷ r) l = absurd (omega arith)

-- the text of a list of eight digits
pub digits_text : (x : List ℕ) → length x ≡ 8 → All (λ digit. digit < 10) x →
    entries_text x ≡ 32 ∷ (48 + get_or x 0 0) ∷ 32 ∷ (48 + get_or x 1 0) ∷ 32 ∷ (48 + get_or x 2 0) ∷ 32 ∷ (48 + get_or x 3 0) ∷
    32 ∷ (48 + get_or x 4 0) ∷ 32 ∷ (48 + get_or x 5 0) ∷ 32 ∷ (48 + get_or x 6 0) ∷ 32 ∷ (48 + get_or x 7 0) ∷ []
digits_text x l digits =
    ap entries_text (eight x l) ∙
    digits_text_of _ _ _ _ _ _ _ _ (digits 0 0 (omega (arith, l))) (digits 1 0 (omega (arith, l))) (digits 2 0 (omega (arith, l))) (digits 3 0 (omega (arith, l)))
    (digits 4 0 (omega (arith, l))) (digits 5 0 (omega (arith, l))) (digits 6 0 (omega (arith, l))) (digits 7 0 (omega (arith, l)))
