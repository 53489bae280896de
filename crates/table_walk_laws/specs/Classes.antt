-- Classes: numbers, the same for joined numbers alone.
use Rattle.std.specs.Prelude.{◌≡◌, ℕ, ◌<◌, ◌↔◌, List, length, Bool, slice_index, Contains}
use Rattle.table_walk_laws.specs.Joined.{IsJoined}
use Rattle.table_walk_laws.specs.Search.{IsMarked, IsClosed}

-- the members have this class now, and all others the class that they had
pub record AreNumbered (members : List ℕ) (class : ℕ) (before after : List ℕ) : Type 0 where
  pub size : length after ≡ length before
  pub numbered : (x : ℕ) → Contains members x → slice_index after x ≡ class
  pub others : (x : ℕ) → ¬ Contains members x → slice_index after x ≡ slice_index before x

-- A numbering so far: of the marked numbers, among them all below i, two have the same class if and only if they are
-- joined. Each smaller class than that of x is the class of a marked number less than x, and the `count` classes have
-- members below i.
pub record AreClassesUpTo (neighbours : ℕ → List ℕ) (i count : ℕ) (marked : List Bool) (classes : List ℕ) : Type 0 where
  pub closed : IsClosed neighbours marked
  pub seen : (x : ℕ) → x < i → IsMarked marked x
  pub below : (x : ℕ) → IsMarked marked x → slice_index classes x < count
  pub used : (class : ℕ) → class < count → (y : ℕ) × (y < i) × (slice_index classes y ≡ class)
  pub same : (x y : ℕ) → IsMarked marked x → IsMarked marked y → (slice_index classes x ≡ slice_index classes y) ↔ IsJoined neighbours x y
  pub order : (x class : ℕ) → IsMarked marked x → class < slice_index classes x → (y : ℕ) × (y < x) × IsMarked marked y × (slice_index classes y ≡ class)
