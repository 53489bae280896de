-- The rows of a list that are 0 at a vector, with one row in the middle considered by itself.
use Rattle.std.proofs.Common.{ℕ, List, [], ◌∷◌, ◌++◌, Contains, refl}
use Rattle.std.specs.Prelude.{◌↔◌}
use Rattle.std.specs.List.{All}
use Rattle.std.specs.List.Sorted.{IsPermutation}
use Rattle.std.proofs.lemmas.List.Elements.{All-cons, All-head, All-tail, All-contains}
use Rattle.std.proofs.lemmas.List.Sorted.{All-permutation, IsPermutation-sym}
use Rattle.cone_definitions.specs.Rows.{Row, IsZeroAt}
use Rattle.cone_row_laws.specs.Solutions.{AreZeroAt, HaveSameZeros, HaveSameSolutions}

pub same_from_zeros : (columns : ℕ) (rows others : List Row) → HaveSameZeros rows others → HaveSameSolutions columns rows others
same_from_zeros columns rows others h x = (
  λ s. record { width = s.width; zero = (h x).0 s.zero },
  λ s. record { width = s.width; zero = (h x).1 s.zero },
)

pub same_reflexive : (columns : ℕ) (rows : List Row) → HaveSameSolutions columns rows rows
same_reflexive columns rows x = (λ s. s, λ s. s)

pub same_symmetric : (columns : ℕ) (rows others : List Row) → HaveSameSolutions columns rows others → HaveSameSolutions columns others rows
same_symmetric columns rows others h x = ((h x).1, (h x).0)

pub same_transitive : (columns : ℕ) (rows middle others : List Row) →
    HaveSameSolutions columns rows middle → HaveSameSolutions columns middle others → HaveSameSolutions columns rows others
same_transitive columns rows middle others h k x = (λ s. (k x).0 ((h x).0 s), λ s. (h x).1 ((k x).1 s))

-- ---- one row in the middle

module _ {X : Type 0} (P : X → Type 0) where
  pub all_apart : (front back : List X) (middle : X) → All P (front ++ middle ∷ back) → P middle × All P (front ++ back)
  all_apart [] back middle h = (All-head P middle back h, All-tail P middle back h)
  all_apart (one ∷ front) back middle h =
      let k = all_apart front back middle (All-tail P one (front ++ middle ∷ back) h) in
      (k.0, All-cons P one (front ++ back) (All-head P one (front ++ middle ∷ back) h) k.1)

  pub all_joined : (front back : List X) (middle : X) → P middle → All P (front ++ back) → All P (front ++ middle ∷ back)
  all_joined [] back middle p h = All-cons P middle back p h
  all_joined (one ∷ front) back middle p h =
      All-cons P one (front ++ middle ∷ back) (All-head P one (front ++ back) h) (all_joined front back middle p (All-tail P one (front ++ back) h))

-- a row may be replaced by another if, at each vector at which the other rows are 0, both are 0 or neither is
pub row_replaced : (columns : ℕ) (front back : List Row) (row other : Row) →
    ((x : List ℕ) → AreZeroAt (front ++ back) x → IsZeroAt row x ↔ IsZeroAt other x) →
    HaveSameSolutions columns (front ++ row ∷ back) (front ++ other ∷ back)
row_replaced columns front back row other h = same_from_zeros columns (front ++ row ∷ back) (front ++ other ∷ back) (λ x. (
  λ z. let k = all_apart (λ r. IsZeroAt r x) front back row z in all_joined (λ r. IsZeroAt r x) front back other ((h x k.1).0 k.0) k.1,
  λ z. let k = all_apart (λ r. IsZeroAt r x) front back other z in all_joined (λ r. IsZeroAt r x) front back row ((h x k.1).1 k.0) k.1,
))

-- a row may be removed if it is 0 wherever the others are
pub row_dropped : (columns : ℕ) (front back : List Row) (row : Row) → ((x : List ℕ) → AreZeroAt (front ++ back) x → IsZeroAt row x) →
    HaveSameSolutions columns (front ++ row ∷ back) (front ++ back)
row_dropped columns front back row h = same_from_zeros columns (front ++ row ∷ back) (front ++ back) (λ x. (
  λ z. (all_apart (λ r. IsZeroAt r x) front back row z).1,
  λ z. all_joined (λ r. IsZeroAt r x) front back row (h x z) z,
))

pub empty_dropped : (columns : ℕ) (front back : List Row) → HaveSameSolutions columns (front ++ [] ∷ back) (front ++ back)
empty_dropped columns front back = row_dropped columns front back [] (λ x z. refl)

pub equal_dropped : (columns : ℕ) (front back : List Row) (row : Row) → Contains (front ++ back) row →
    HaveSameSolutions columns (front ++ row ∷ back) (front ++ back)
equal_dropped columns front back row h = row_dropped columns front back row (λ x z. All-contains (λ r. IsZeroAt r x) (front ++ back) row z h)

pub order_changed : (columns : ℕ) (rows others : List Row) → IsPermutation rows others → HaveSameSolutions columns rows others
order_changed columns rows others p = same_from_zeros columns rows others (λ x. (
  All-permutation (λ r. IsZeroAt r x) rows others p,
  All-permutation (λ r. IsZeroAt r x) others rows (IsPermutation-sym rows others p),
))
