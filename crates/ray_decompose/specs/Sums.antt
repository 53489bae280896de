-- The steps of a sum, and the terms of a test.
use Rattle.std.specs.Prelude.{◌≡◌, ℕ, ◌*◌, ◌<◌, ◌≤◌, List, map, length, slice_index}
use Rattle.sum_definitions.specs.Sums.{Term}
use Rattle.ray_decompose.specs.declared.adding.Given.{Given}

-- the first column at which times times the entry of x exceeds the limit
pub record IsFirstLarge (limit : ℕ) (x : List ℕ) (times column : ℕ) : Type 0 where
  pub large : limit < times * slice_index x column
  pub first : (earlier : ℕ) → earlier < column → times * slice_index x earlier ≤ limit

-- a term of a test as a term of a sum
abbrev pub term_of : Given → Term
term_of given = record { count = given.count; vector = given.entries.items }

abbrev pub terms_of : List Given → List Term
terms_of givens = map term_of givens

-- the term has columns columns
abbrev pub HasWidth : ℕ → Given → Type 0
HasWidth columns given = length given.entries.items ≡ columns
