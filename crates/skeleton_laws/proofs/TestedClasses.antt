-- A list that names the class of each of n simplices, verified by tests: across each face the class remains the same,
-- and a chain joins each simplex to the first of its class.
use Rattle.std.proofs.Common.{◌≡◌, ℕ, ◌<◌, Bool, true, false, List, length, Option, Some, None, refl, sym, ap, ◌∙◌, subst, inl, inr}
use Rattle.std.specs.Prelude.{◌==◌, ◌&&◌, nat_lt, slice_index}
use Rattle.std.specs.List.{list_all, list_any}
use Rattle.std.proofs.lemmas.Bool.{and_parts, eqb-true, ltb-true, false≢true}
use Rattle.std.proofs.lemmas.List.Elements.{Contains-get_or}
use Rattle.std.proofs.lemmas.List.Folds.{list_any_none}
use Rattle.cone_definitions.proofs.Below.{all_or_one}
use Rattle.basic_lemmas.proofs.Truths.{true_or_false}
use Rattle.table_definitions.specs.Lists.{below, same_list}
use Rattle.table_definitions.specs.Table.{Row, IsTable}
use Rattle.table_definitions.specs.Classes.{IsNumbering}
use Rattle.table_definitions.specs.Places.{Place, IsPlace, across, along, IsJoined}
use Rattle.table_definitions.proofs.Listed.{below-among, among_contains}
use Rattle.table_definitions.proofs.ListFacts.{list_all-below, same_list-true}
use Rattle.table_definitions.proofs.ChainLaws.{face_crossed, joined_sym, joined_trans, kept_along}

unfoldable pub is_place_at : Option Place → Place → Bool
is_place_at None q = false
is_place_at (Some p) q = (p.tet == q.tet) && same_list p.vertices q.vertices

place_at : (o : Option Place) (q : Place) → is_place_at o q ≡ true → o ≡ Some q
unfolding is_place_at
place_at None q h = absurd (false≢true h)
place_at (Some p) q h =
    let t = and_parts (p.tet == q.tet) (same_list p.vertices q.vertices) h in
    let a : p.tet ≡ q.tet = eqb-true p.tet q.tet t.0 in
    let b : p.vertices ≡ q.vertices = same_list-true p.vertices q.vertices t.1 in
    λ i. Some (record { tet = a i; vertices = b i })

some_below : (p : ℕ → Bool) (m : ℕ) → list_any p (below m) ≡ true → (j : ℕ) × (j < m) × (p j ≡ true)
some_below p m h = elim (all_or_one (λ j. p j ≡ false) (λ j. p j ≡ true) (λ j. elim (true_or_false (p j)) [ inl e ↦ inr e | inr e ↦ inl e ]) m) [
  | inr w ↦ w
  | inl all ↦ absurd (false≢true (sym (list_any_none p (below m) (λ k d l. all _ (below-among _ m (among_contains _ (below m) (Contains-get_or (below m) k d l))))) ∙ h))
]

module _ (rows : List Row) (n : ℕ) (place : ℕ → Place) (number : Place → ℕ) (classes : List ℕ) (count : ℕ) (chain : ℕ → List ℕ) (first : ℕ → ℕ) where
  -- across each face the class remains the same
  unfoldable pub stays_over : ℕ → Option Place → Bool
  stays_over k None = true
  stays_over k (Some r) = nat_lt (number r) n && (is_place_at (Some r) (place (number r)) && (slice_index classes (number r) == slice_index classes k))

  unfoldable pub stays : Bool
  stays = list_all (λ k. list_all (λ f. stays_over k (across rows (place k) f)) (below 4)) (below n)

  -- a chain joins each simplex to the first of its class
  unfoldable pub leads : Bool
  leads = list_all (λ k. is_place_at (along rows (place k) (chain k)) (place (first (slice_index classes k)))) (below n)

  unfoldable pub ranges : Bool
  ranges = list_all (λ k. nat_lt (slice_index classes k) count && list_all (λ c. list_any (λ j. slice_index classes j == c) (below k)) (below (slice_index classes k))) (below n)
      && list_all (λ c. list_any (λ k. slice_index classes k == c) (below n)) (below count)

  module _ (table : IsTable rows) (are : (k : ℕ) → k < n → IsPlace (place k)) (long : length classes ≡ n) (s : stays ≡ true) (l : leads ≡ true) (r : ranges ≡ true) where
    record OfClass (c : ℕ) (p : Place) : Type 0 where
      k : ℕ
      below_n : k < n
      is : p ≡ place k
      at : slice_index classes k ≡ c

    class_step : (c : ℕ) (p : Place) (f : ℕ) (q : Place) → OfClass c p → across rows p f ≡ Some q → OfClass c q
    unfolding stays stays_over
    class_step c p f q a e =
        let t : stays_over a.k (across rows (place a.k) f) ≡ true = list_all-below (λ f. stays_over a.k (across rows (place a.k) f)) 4 (list_all-below (λ k. list_all (λ f. stays_over k (across rows (place k) f)) (below 4)) n s a.k a.below_n) f (face_crossed rows p f q table e) in
        let here : across rows (place a.k) f ≡ Some q = ap (λ (x : Place). across rows x f) (sym a.is) ∙ e in
        let u = ap (stays_over a.k) (sym here) ∙ t in
        let v = and_parts (nat_lt (number q) n) (is_place_at (Some q) (place (number q)) && (slice_index classes (number q) == slice_index classes a.k)) u in
        let w = and_parts (is_place_at (Some q) (place (number q))) (slice_index classes (number q) == slice_index classes a.k) v.1 in
        let same : Some q ≡ Some (place (number q)) = place_at (Some q) (place (number q)) w.0 in
        record { k = number q; below_n = ltb-true (number q) n v.0; is = cc; at = eqb-true (slice_index classes (number q)) (slice_index classes a.k) w.1 ∙ a.at }

    module _ (again : (i : ℕ) → i < n → number (place i) ≡ i) where
      joined_class : (i j : ℕ) → i < n → j < n → IsJoined rows (place i) (place j) → slice_index classes i ≡ slice_index classes j
      joined_class i j li lj g =
          let z = kept_along rows (OfClass (slice_index classes i)) (class_step (slice_index classes i)) g.0 (place i) (place j) (record { k = i; below_n = li; is = refl; at = refl }) g.1 in
          let same : z.k ≡ j = sym (again z.k z.below_n) ∙ ap number (sym z.is) ∙ again j lj in
          sym z.at ∙ ap (slice_index classes) same

      to_first : (i : ℕ) → i < n → IsJoined rows (place i) (place (first (slice_index classes i)))
      unfolding leads
      to_first i li = (chain i, place_at (along rows (place i) (chain i)) (place (first (slice_index classes i))) (list_all-below (λ k. is_place_at (along rows (place k) (chain k)) (place (first (slice_index classes k)))) n l i li))

      class_joined : (i j : ℕ) → i < n → j < n → slice_index classes i ≡ slice_index classes j → IsJoined rows (place i) (place j)
      class_joined i j li lj e =
          joined_trans rows (place i) (place (first (slice_index classes i))) (place j) (to_first i li)
          (joined_sym rows (place j) (place (first (slice_index classes i))) table (are j lj) (subst (λ c. IsJoined rows (place j) (place (first c))) (sym e) (to_first j lj)))

      pub numbered_by : IsNumbering n (λ (i j : ℕ). IsJoined rows (place i) (place j)) classes count
      unfolding ranges
      numbered_by =
          let each : ℕ → Bool = λ k. nat_lt (slice_index classes k) count && list_all (λ c. list_any (λ j. slice_index classes j == c) (below k)) (below (slice_index classes k)) in
          let p = and_parts (list_all (λ k. nat_lt (slice_index classes k) count && list_all (λ c. list_any (λ j. slice_index classes j == c) (below k)) (below (slice_index classes k))) (below n)) (list_all (λ c. list_any (λ k. slice_index classes k == c) (below n)) (below count)) r in
          let at : (i : ℕ) → i < n → (nat_lt (slice_index classes i) count ≡ true) × (list_all (λ c. list_any (λ j. slice_index classes j == c) (below i)) (below (slice_index classes i)) ≡ true) = λ i li.
          and_parts (nat_lt (slice_index classes i) count) (list_all (λ c. list_any (λ j. slice_index classes j == c) (below i)) (below (slice_index classes i))) (list_all-below each n p.0 i li) in
          record {
            one_each = long;
            in_range = λ i li. ltb-true (slice_index classes i) count (at i li).0;
            together = λ i j li lj. (class_joined i j li lj, joined_class i j li lj);
            ascending = λ i c li lc. (let w = some_below (λ j. slice_index classes j == c) i (list_all-below (λ c. list_any (λ j. slice_index classes j == c) (below i)) (slice_index classes i) (at i li).1 c lc) in (w.0, w.1, eqb-true (slice_index classes w.0) c w.2));
            none_empty = λ c lc. (let w = some_below (λ k. slice_index classes k == c) n (list_all-below (λ c. list_any (λ k. slice_index classes k == c) (below n)) count p.1 c lc) in (w.0, w.1, eqb-true (slice_index classes w.0) c w.2));
          }
