-- The order of two lists from an index on.
use Rattle.std.proofs.Common.{◌≡◌, ℕ, zero, suc, ◌≤◌, List, [], ◌∷◌, length, drop, ◌∙◌, arith, inl, inr}
use Rattle.std.specs.Prelude.{◌⊎◌, nat_lt}
use Rattle.std.proofs.lemmas.Bool.{lt-ltb, le-ltb}
use Rattle.table_definitions.specs.Lists.{is_list_before}

-- if one of two lists has ended, the longer one is greater
pub ended_from : (i : ℕ) (xs ys : List ℕ) → i ≤ length xs → i ≤ length ys → (length xs ≤ i) ⊎ (length ys ≤ i) → nat_lt (length xs) (length ys) ≡ is_list_before (drop i xs) (drop i ys)
ended_from zero [] [] l m e = le-ltb 0 0 (omega arith)
ended_from zero [] (y ∷ ys) l m e = lt-ltb 0 (length (y ∷ ys)) (omega arith)
ended_from zero (x ∷ xs) [] l m e = le-ltb (length (x ∷ xs)) 0 (omega arith)
ended_from zero (x ∷ xs) (y ∷ ys) l m (inl e) = absurd (omega (arith, e))
ended_from zero (x ∷ xs) (y ∷ ys) l m (inr e) = absurd (omega (arith, e))
ended_from (suc i) [] ys l m e = absurd (omega arith)
ended_from (suc i) (x ∷ xs) [] l m e = absurd (omega arith)
ended_from (suc i) (x ∷ xs) (y ∷ ys) l m e =
    less (length xs) (length ys) ∙ ended_from i xs ys (omega arith) (omega arith) (elim e [ inl a ↦ inl (omega arith) | inr b ↦ inr (omega arith) ])
  where
    less : (a b : ℕ) → nat_lt (suc a) (suc b) ≡ nat_lt a b
    less a b = grind arith
