-- Words on lists that several subjects share.
use Rattle.std.specs.Prelude.{ℕ, Bool, true, false, ◌||◌, ◌&&◌, List, [], ◌∷◌, Option, None, map, ◌==◌, nat_lt, count_by, ◌-◌, if◌then◌else◌}
use Rattle.std.specs.Option.{option_or}
use Rattle.std.specs.List.{range_with_len, list_any, flat_map}

-- the numbers below n, ascending
abbrev pub below : ℕ → List ℕ
below n = range_with_len 0 n

-- whether the list contains n
abbrev pub has : List ℕ → ℕ → Bool
has ns n = list_any (λ m. m == n) ns

-- the number of occurrences of n in the list
abbrev pub times_in : List ℕ → ℕ → ℕ
times_in ns n = count_by (λ m. m == n) ns

-- whether two lists of numbers are equal
abbrev pub same_list : List ℕ → List ℕ → Bool
same_list [] [] = true
same_list [] (y ∷ ys) = false
same_list (x ∷ xs) [] = false
same_list (x ∷ xs) (y ∷ ys) = (x == y) && same_list xs ys

-- whether the first list comes before the second in lexicographic order, a prefix first
abbrev pub is_list_before : List ℕ → List ℕ → Bool
is_list_before [] [] = false
is_list_before [] (y ∷ ys) = true
is_list_before (x ∷ xs) [] = false
is_list_before (x ∷ xs) (y ∷ ys) = nat_lt x y || ((x == y) && is_list_before xs ys)

-- what f gives first of the items, in their order
abbrev pub first_some : {A B : Type 0} → (A → Option B) → List A → Option B
first_some f [] = None
first_some f (x ∷ xs) = option_or (f x) (first_some f xs)

-- all pairs of an item of the one list and an item of the other, the first item first
abbrev pub pairs_of : {A B : Type 0} → List A → List B → List (A × B)
pairs_of {A} {B} xs ys = flat_map (λ (x : A). map (λ (y : B). (x, y)) ys) xs

-- b if the number is a, and otherwise the number itself
abbrev pub substitute : ℕ → ℕ → ℕ → ℕ
substitute a b l = if l == a then b else l

-- the new number of a retained thing after those with these numbers are removed
abbrev pub rank_without : List ℕ → ℕ → ℕ
rank_without gone t = t - count_by (λ u. nat_lt u t) gone
