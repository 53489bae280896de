-- Classes of things that are numbered from 0: a list gives the class of each, and classes are numbered by their least
-- members.
use Rattle.std.specs.Prelude.{◌≡◌, ℕ, ◌<◌, Bool, ◌==◌, ◌↔◌, List, length, filter, slice_index}
use Rattle.std.specs.List.{position_or_len}
use Rattle.table_definitions.specs.Lists.{times_in, below}

-- `classes` gives the class of each of n things; two are in one class if and only if `Same` relates them; there are
-- `count` classes
pub record IsNumbering (n : ℕ) (Same : ℕ → ℕ → Type 0) (classes : List ℕ) (count : ℕ) : Type 0 where
  pub one_each : length classes ≡ n
  pub in_range : (i : ℕ) → i < n → slice_index classes i < count
  pub together : (i j : ℕ) → i < n → j < n → (slice_index classes i ≡ slice_index classes j) ↔ Same i j
  -- each smaller number is the class of an earlier thing
  pub ascending : (i c : ℕ) → i < n → c < slice_index classes i → (j : ℕ) × (j < i) × (slice_index classes j ≡ c)
  pub none_empty : (c : ℕ) → c < count → (i : ℕ) × (i < n) × (slice_index classes i ≡ c)

-- the least member of a class
abbrev pub least : List ℕ → ℕ → ℕ
least classes c = position_or_len (λ d. d == c) classes

-- whether something is the least member of its class
abbrev pub is_least : List ℕ → ℕ → Bool
is_least classes i = least classes (slice_index classes i) == i

-- the number of members of a class
abbrev pub degree : List ℕ → ℕ → ℕ
degree classes c = times_in classes c

-- the members of a class, ascending
abbrev pub members : List ℕ → ℕ → List ℕ
members classes c = filter (λ i. slice_index classes i == c) (below (length classes))
