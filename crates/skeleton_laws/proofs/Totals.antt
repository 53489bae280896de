-- The counts of all classes add up to the count of all items, and there are as many least members as classes.
use Rattle.std.proofs.Common.{◌≡◌, ℕ, ◌<◌, Bool, true, false, List, refl, sym, ap, ◌∙◌}
use Rattle.std.specs.Prelude.{◌==◌, ◌&&◌, sum_by, count_by, slice_index}
use Rattle.std.proofs.lemmas.Bool.{eqb-true, eq-eqb, ne_eqb}
use Rattle.std.proofs.lemmas.List.FromFn.{length-range_with_len}
use Rattle.basic_lemmas.proofs.Truths.{one_if}
use Rattle.table_definitions.specs.Lists.{below}
use Rattle.table_definitions.specs.Classes.{IsNumbering, least, is_least}
use Rattle.table_definitions.proofs.ClassLaws.{least_class}
use Rattle.table_definitions.proofs.DistinctLists.{apart_below}
use Rattle.table_definitions.proofs.Listed.{below-among}
use Rattle.table_definitions.proofs.TableLaws.{Among-below}
use Rattle.surface_laws.proofs.Counting.{sum_by_same, sum_swap, one_term}
use Rattle.skeleton_laws.proofs.Matchings.{related_same, passing, length-passing, passing_apart, passing_is, is_passing}

-- the counts of all classes add up to the count of all items
pub sum_classes : (L : ℕ → Bool) (T : ℕ → ℕ) (v n : ℕ) → ((i : ℕ) → i < n → T i < v) → sum_by (λ c. count_by (λ i. L i && (T i == c)) (below n)) (below v) ≡ count_by L (below n)
sum_classes L T v n small =
    sum_swap (λ (c i : ℕ). one_if (L i && (T i == c))) (below v) (below n)
    ∙ sum_by_same (λ i. sum_by (λ c. one_if (L i && (T i == c))) (below v)) (λ i. one_if (L i)) (below n) (λ i a. each i (small i (below-among i n a)))
  where
    off : (b a : Bool) → a ≡ false → one_if (b && a) ≡ 0
    off true a e = ap one_if e
    off false a e = refl

    on : (b a : Bool) → a ≡ true → one_if (b && a) ≡ one_if b
    on true a e = ap one_if e
    on false a e = refl

    each : (i : ℕ) → T i < v → sum_by (λ c. one_if (L i && (T i == c))) (below v) ≡ one_if (L i)
    each i l = one_term (λ c. one_if (L i && (T i == c))) (T i) v (λ c ne. off (L i) (T i == c) (ne_eqb (T i) c (λ e. ne (sym e)))) l ∙ on (L i) (T i == T i) (eq-eqb (T i) (T i) refl)

-- as many least members as classes
pub least_count : (n : ℕ) (Same : ℕ → ℕ → Type 0) (classes : List ℕ) (count : ℕ) → IsNumbering n Same classes count → count_by (is_least classes) (below n) ≡ count
least_count n Same classes count numbered =
    sym (length-passing (is_least classes) n)
    ∙ related_same (λ (i c : ℕ). slice_index classes i ≡ c) (passing (is_least classes) n) (below count) (passing_apart (is_least classes) n) (apart_below count)
    (λ i a. (let p = passing_is (is_least classes) n i a in (slice_index classes i, Among-below (slice_index classes i) count (numbered.in_range i p.0), refl)))
    (λ c a. (let l = least_class n Same classes count numbered c (below-among c count a) in
    (least classes c, is_passing (is_least classes) n (least classes c) l.0 (eq-eqb (least classes (slice_index classes (least classes c))) (least classes c) (ap (least classes) l.1)), l.1)))
    (λ i j c a b r s. (let p = passing_is (is_least classes) n i a in let q = passing_is (is_least classes) n j b in
    sym (eqb-true (least classes (slice_index classes i)) i p.1) ∙ ap (least classes) (r ∙ sym s) ∙ eqb-true (least classes (slice_index classes j)) j q.1))
    (λ i c d a b r s. sym r ∙ s)
    ∙ length-range_with_len 0 count
