-- The texts of classes, one more at a time.
use Rattle.std.proofs.Common.{◌≡◌, ℕ, ◌+◌, List, ◌++◌, sym, ap, ◌∙◌, add-one, append_assoc, append-nil}
use Rattle.outcome_definitions.specs.Information.{classes_text}

pub lines_begin : (text : ℕ → List ℕ) (front : List ℕ) → front ≡ front ++ classes_text text 0
unfolding classes_text
lines_begin text front = sym (append-nil front)

one_more : (text : ℕ → List ℕ) (n : ℕ) → classes_text text (n + 1) ≡ classes_text text n ++ text n
unfolding classes_text
one_more text n = ap (classes_text text) (add-one n)

pub lines_more : (text : ℕ → List ℕ) (n : ℕ) (front before now line : List ℕ) → now ≡ before ++ line → before ≡ front ++ classes_text text n → line ≡ text n
    → now ≡ front ++ classes_text text (n + 1)
lines_more text n front before now line grown so_far same =
    grown ∙ ap (λ (b : List ℕ). b ++ line) so_far ∙ ap (λ (l : List ℕ). (front ++ classes_text text n) ++ l) same
    ∙ append_assoc front (classes_text text n) (text n) ∙ ap (λ (r : List ℕ). front ++ r) (sym (one_more text n))
