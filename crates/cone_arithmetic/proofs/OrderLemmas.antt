-- The order of two vectors, entry by entry.
use Rattle.std.proofs.Common.{refl, Less, Equal, Greater, nat_cmp, ◌≡◌, ℕ, true, false, ◌+◌, ◌<◌, List, [], ◌∷◌, length, drop, get_or, min, ⊎_elim, ap, ◌∙◌, sym, arith}
use Rattle.std.proofs.lemmas.Bool.{cases_lt, false≢true}
use Rattle.std.proofs.lemmas.List.{at_drop_more, at_drop_all}
use Rattle.std.proofs.Common.{Ordering}
use Rattle.std.specs.Prelude.{◌==◌, not}
use Rattle.std.specs.Ordering.{ordering_then, ordering_index}
use Rattle.std.specs.Cmp.{nat_cmp_is}
use Rattle.std.specs.Cmp.Lexicographic.{slice_cmp}

decided : (r rest : Ordering) → not (ordering_index r == 1) ≡ true → ordering_then r rest ≡ r
decided Less rest h = refl
decided Equal rest h = absurd (false≢true h)
decided Greater rest h = refl

pub tied : (r : Ordering) → not (ordering_index r == 1) ≡ false → r ≡ Equal
tied Less h = absurd (false≢true (sym h))
tied Equal h = refl
tied Greater h = absurd (false≢true (sym h))

module _ (x y : List ℕ) (i : ℕ) where
  -- the remaining entries begin with one of each vector
  order_at : i < length x → i < length y →
      slice_cmp nat_cmp (drop i x) (drop i y) ≡ ordering_then (nat_cmp (get_or x i 0) (get_or y i 0)) (slice_cmp nat_cmp (drop (i + 1) x) (drop (i + 1) y))
  order_at p q = at_drop_more (λ u. slice_cmp nat_cmp u (drop i y)) x i 0 p ∙ at_drop_more (λ v. slice_cmp nat_cmp (get_or x i 0 ∷ drop (i + 1) x) v) y i 0 q

  -- if the entries at an index are equal, the remaining ones decide
  pub order_more : i < length x → i < length y → nat_cmp (get_or x i 0) (get_or y i 0) ≡ Equal →
      slice_cmp nat_cmp (drop i x) (drop i y) ≡ slice_cmp nat_cmp (drop (i + 1) x) (drop (i + 1) y)
  order_more p q e = order_at p q ∙ ap (λ r. ordering_then r (slice_cmp nat_cmp (drop (i + 1) x) (drop (i + 1) y))) e

  -- if they differ, they decide
  pub order_here : i < length x → i < length y → not (ordering_index (nat_cmp (get_or x i 0) (get_or y i 0)) == 1) ≡ true →
      slice_cmp nat_cmp (drop i x) (drop i y) ≡ nat_cmp (get_or x i 0) (get_or y i 0)
  order_here p q h = order_at p q ∙ decided _ _ h

  -- if one vector ends, the shorter one is less
  pub order_ended : i ≡ min (length x) (length y) → slice_cmp nat_cmp (drop i x) (drop i y) ≡ nat_cmp (length x) (length y)
  order_ended e = ⊎_elim
      (λ (h : length x < length y). at_drop_all (λ u. slice_cmp nat_cmp u (drop i y)) x i (omega arith) ∙ at_drop_more (λ v. slice_cmp nat_cmp [] v) y i 0 (omega arith) ∙ nat_cmp_is (length x) (length y) Less h)
      (λ n. ⊎_elim
      (λ (h : length y < length x). at_drop_all (λ v. slice_cmp nat_cmp (drop i x) v) y i (omega arith) ∙ at_drop_more (λ u. slice_cmp nat_cmp u []) x i 0 (omega arith) ∙ nat_cmp_is (length x) (length y) Greater h)
      (λ m. at_drop_all (λ u. slice_cmp nat_cmp u (drop i y)) x i (omega arith) ∙ at_drop_all (λ v. slice_cmp nat_cmp [] v) y i (omega arith) ∙ nat_cmp_is (length x) (length y) Equal (omega arith))
      (cases_lt (length y) (length x)))
      (cases_lt (length x) (length y))
