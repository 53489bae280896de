-- Laws of the functions on lists.
use Rattle.std.proofs.Common.{◌≡◌, ℕ, true, List, [], ◌∷◌, refl, subst, false, arith}
use Rattle.std.proofs.lemmas.Bool.{eq-eqb, le-ltb}
use Rattle.table_definitions.specs.Lists.{same_list, is_list_before}
use Rattle.table_definitions.proofs.ListFacts.{same_list-refl}

-- equal lists pass the test
pub same_list_from : (xs ys : List ℕ) → xs ≡ ys → same_list xs ys ≡ true
same_list_from xs ys e = let P : List ℕ → Type 0 = λ zs. same_list xs zs ≡ true in subst P e (same_list-refl xs)

pub not_before_itself : (xs : List ℕ) → is_list_before xs xs ≡ false
not_before_itself [] = refl
not_before_itself (x ∷ xs) = rw (le-ltb x x (omega arith), eq-eqb x x refl) (not_before_itself xs)
