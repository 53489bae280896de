-- Permutations of the four numbers 0 to 3, each as the list of its images.
use Rattle.std.specs.Prelude.{ℕ, ◌+◌, ◌%◌, Bool, ◌&&◌, List, [], ◌∷◌, length, map, ◌==◌, nat_lt, slice_index, IsTrue, count_by, not, filter}
use Rattle.std.specs.List.{list_all, position_or_len}
use Rattle.table_definitions.specs.Lists.{has, is_list_before}

-- the numbers of the vertices of a tetrahedron, and of its faces
abbrev pub four : List ℕ
four = 0 ∷ 1 ∷ 2 ∷ 3 ∷ []

-- whether a list has four entries and contains each of 0 to 3
unfoldable pub is_permutation : List ℕ → Bool
is_permutation p = (length p == 4) && list_all (has p) four

abbrev pub IsPermutationOfFour : List ℕ → Type 0
IsPermutationOfFour p = IsTrue (is_permutation p)

-- the image of v
abbrev pub image : List ℕ → ℕ → ℕ
image p v = slice_index p v

-- the preimage of w
unfoldable pub preimage : List ℕ → ℕ → ℕ
preimage p w = position_or_len (λ v. v == w) p

-- the identity permutation
abbrev pub identity : List ℕ
identity = four

-- the inverse
unfoldable pub inverse : List ℕ → List ℕ
inverse p = map (preimage p) four

-- first `first`, and then p
unfoldable pub compose : List ℕ → List ℕ → List ℕ
compose p first = map (image p) first

-- the number of places i < j with a greater number at i
unfoldable pub inversions : List ℕ → ℕ
inversions [] = 0
inversions (x ∷ xs) = count_by (λ y. nat_lt y x) xs + inversions xs

-- whether the number of inversions is odd
unfoldable pub is_odd : List ℕ → Bool
is_odd p = (inversions p % 2) == 1

-- the 24 permutations in lexicographic order
abbrev pub words : List (List ℕ)
words =
    (0 ∷ 1 ∷ 2 ∷ 3 ∷ []) ∷ (0 ∷ 1 ∷ 3 ∷ 2 ∷ []) ∷ (0 ∷ 2 ∷ 1 ∷ 3 ∷ []) ∷ (0 ∷ 2 ∷ 3 ∷ 1 ∷ []) ∷ (0 ∷ 3 ∷ 1 ∷ 2 ∷ []) ∷ (0 ∷ 3 ∷ 2 ∷ 1 ∷ []) ∷
    (1 ∷ 0 ∷ 2 ∷ 3 ∷ []) ∷ (1 ∷ 0 ∷ 3 ∷ 2 ∷ []) ∷ (1 ∷ 2 ∷ 0 ∷ 3 ∷ []) ∷ (1 ∷ 2 ∷ 3 ∷ 0 ∷ []) ∷ (1 ∷ 3 ∷ 0 ∷ 2 ∷ []) ∷ (1 ∷ 3 ∷ 2 ∷ 0 ∷ []) ∷
    (2 ∷ 0 ∷ 1 ∷ 3 ∷ []) ∷ (2 ∷ 0 ∷ 3 ∷ 1 ∷ []) ∷ (2 ∷ 1 ∷ 0 ∷ 3 ∷ []) ∷ (2 ∷ 1 ∷ 3 ∷ 0 ∷ []) ∷ (2 ∷ 3 ∷ 0 ∷ 1 ∷ []) ∷ (2 ∷ 3 ∷ 1 ∷ 0 ∷ []) ∷
    (3 ∷ 0 ∷ 1 ∷ 2 ∷ []) ∷ (3 ∷ 0 ∷ 2 ∷ 1 ∷ []) ∷ (3 ∷ 1 ∷ 0 ∷ 2 ∷ []) ∷ (3 ∷ 1 ∷ 2 ∷ 0 ∷ []) ∷ (3 ∷ 2 ∷ 0 ∷ 1 ∷ []) ∷ (3 ∷ 2 ∷ 1 ∷ 0 ∷ []) ∷ []

-- the number of permutations before p in lexicographic order
unfoldable pub index : List ℕ → ℕ
index p = count_by (λ q. is_list_before q p) words

-- the four digits of p, as bytes
abbrev pub digits_of : List ℕ → List ℕ
digits_of p = map (λ v. 48 + v) p

-- the vertices other than f
abbrev pub others : ℕ → List ℕ
others f = filter (λ v. not (v == f)) four
