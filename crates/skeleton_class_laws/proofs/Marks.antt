-- Tests of the numbers below one more, and counts that begin.
use Rattle.std.proofs.Common.{◌≡◌, ℕ, zero, suc, ◌+◌, Bool, List, [], ◌∷◌, replicate, refl, ap, ◌∙◌}
use Rattle.std.specs.Prelude.{◌||◌, slice_index}
use Rattle.std.specs.List.{list_any}
use Rattle.std.proofs.Math.Bool.{or-false}
use Rattle.std.proofs.lemmas.List.Folds.{list_any-append}
use Rattle.table_definitions.specs.Lists.{below}
use Rattle.table_definitions.proofs.ListFacts.{below_next}

pub any_more : (p : ℕ → Bool) (i : ℕ) → list_any p (below (i + 1)) ≡ (list_any p (below i) || p i)
any_more p i = ap (list_any p) (below_next i) ∙ list_any-append p (below i) (i ∷ []) ∙ ap (λ b. list_any p (below i) || b) (or-false (p i))

pub all_zero : (degrees : List ℕ) (n : ℕ) → degrees ≡ replicate n 0 → (c : ℕ) → slice_index degrees c ≡ 0
all_zero degrees n e c = ap (λ (xs : List ℕ). slice_index xs c) e ∙ zeros n c
  where
    zeros : (n c : ℕ) → slice_index (replicate n 0) c ≡ 0
    zeros zero c = refl
    zeros (suc n) zero = refl
    zeros (suc n) (suc c) = zeros n c
