-- Lists in which one mark is set, and lists with a number appended.
use Rattle.std.proofs.Common.{◌≡◌, ℕ, ◌<◌, Bool, true, false, List, [], ◌∷◌, ◌++◌, length, get_or, refl, ap, ◌∙◌}
use Rattle.std.specs.Prelude.{◌==◌, ◌||◌, ◌≢◌}
use Rattle.std.specs.List.{slice_set}
use Rattle.std.proofs.lemmas.List.{get_or-set_same, get_or-set_other}
use Rattle.std.proofs.lemmas.List.Folds.{list_any-append}
use Rattle.table_definitions.specs.Lists.{has}

pub mark_same : (marks : List Bool) (j : ℕ) → j < length marks → get_or (slice_set marks j true) j false ≡ true
mark_same marks j l = get_or-set_same marks j true false l

pub mark_other : (marks : List Bool) (j i : ℕ) → i ≢ j → get_or (slice_set marks j true) i false ≡ get_or marks i false
mark_other marks j i d = get_or-set_other marks j i true false d

pub or-false : (b : Bool) → (b || false) ≡ b
or-false true = refl
or-false false = refl

pub has_push : (xs : List ℕ) (x i : ℕ) → has (xs ++ x ∷ []) i ≡ (has xs i || (x == i))
has_push xs x i = list_any-append (λ m. m == i) xs (x ∷ []) ∙ ap (λ b. has xs i || b) (or-false (x == i))
