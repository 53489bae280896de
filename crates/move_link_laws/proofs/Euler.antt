-- Corresponding links have the same Euler characteristic, and both are closed or neither.
use Rattle.std.proofs.Common.{◌≡◌, ℕ, zero, suc, ◌+◌, ◌*◌, ◌/◌, ◌%◌, ◌<◌, Bool, true, false, List, [], ◌∷◌, length, refl, sym, ap, ◌∙◌, arith}
use Rattle.std.specs.Prelude.{◌==◌, ◌&&◌, ◌||◌, not, nat_lt, count_by}
use Rattle.std.specs.List.{list_all, slice_index_or}
use Rattle.std.proofs.lemmas.Int.{ints}
use Rattle.std.proofs.lemmas.Bool.{and_parts, eqb-true}
use Rattle.basic_lemmas.proofs.Truths.{by_bool}
use Rattle.table_definitions.specs.Lists.{below, has, times_in}
use Rattle.table_definitions.specs.Table.{Row, IsTable}
use Rattle.table_definitions.specs.Classes.{IsNumbering}
use Rattle.table_definitions.specs.Places.{SameVertex}
use Rattle.skeleton_definitions.specs.Links.{SameDirected, IsLink, link_vertices, link_edges, euler_of}
use Rattle.skeleton_definitions.specs.declared.Link.{Link}
use Rattle.move_definitions.specs.Moves.{Move, IsMoved}
use Rattle.skeleton_class_laws.proofs.TallyLemmas.{count_same}
use Rattle.move_link_laws.proofs.Ties.{limited, some}
use Rattle.move_link_laws.proofs.TiedSpots.{Match}
use Rattle.move_link_laws.proofs.StarLabels.{in_both, label_in, core_label}
use Rattle.move_link_laws.proofs.LabelPairs.{old_pair, new_pair}
use Rattle.move_link_laws.proofs.TrianglesMatched.{triangles_match}
use Rattle.move_link_laws.proofs.InsidePairs.{inside_old, inside_new}
use Rattle.move_link_laws.proofs.VerticesMatched.{vertices_match}
use Rattle.skeleton_laws.proofs.TwiceEdges.{free_count, twice_edges, closed_told}
use Rattle.move_link_laws.proofs.FreeSidesBack.{frees_match}

-- ---- for each set of labels, the pairs inside the star and the triangles before and after the move balance

abbrev looked : List Bool → ℕ → Bool
looked bs l = slice_index_or bs l false

abbrev five : (ℕ → Bool) → List Bool
five x = x 0 ∷ x 1 ∷ x 2 ∷ x 3 ∷ x 4 ∷ []

looked_is : (x : ℕ → Bool) (l : ℕ) → l < 5 → x l ≡ looked (five x) l
looked_is x zero h = refl
looked_is x (suc zero) h = refl
looked_is x (suc (suc zero)) h = refl
looked_is x (suc (suc (suc zero))) h = refl
looked_is x (suc (suc (suc (suc zero)))) h = refl
looked_is x (suc (suc (suc (suc (suc l))))) h = absurd (omega arith)

balances : ℕ → (ℕ → Bool) → Bool
balances s x = 2 * count_by (inside_old s x) (below 25) + count_by (new_pair s x) (below 25) == 2 * count_by (inside_new s x) (below 25) + count_by (old_pair s x) (below 25)

balance_test : ℕ → Bool → Bool → Bool → Bool → Bool → Bool
balance_test s a b c d e = ((s == 1) && a) || (((s == 4) && e) || balances s (looked (a ∷ b ∷ c ∷ d ∷ e ∷ [])))

abbrev either : (Bool → Bool) → Bool
either t = t true && t false

on_either : (t : Bool → Bool) → either t ≡ true → (b : Bool) → t b ≡ true
on_either t h true = (and_parts (t true) (t false) h).0
on_either t h false = (and_parts (t true) (t false) h).1

abbrev on_five : (Bool → Bool → Bool → Bool → Bool → Bool) → Bool
on_five t = either (λ a. either (λ b. either (λ c. either (λ d. either (λ e. t a b c d e)))))

at_five : (t : Bool → Bool → Bool → Bool → Bool → Bool) → on_five t ≡ true → (a b c d e : Bool) → t a b c d e ≡ true
at_five t h a b c d e =
    on_either (λ e. t a b c d e) (on_either (λ d. either (λ e. t a b c d e)) (on_either (λ c. either (λ d. either (λ e. t a b c d e))) (on_either (λ b. either (λ c. either (λ d. either (λ e. t a b c d e))))
    (on_either (λ a. either (λ b. either (λ c. either (λ d. either (λ e. t a b c d e))))) h a) b) c) d) e

balance_1 : on_five (balance_test 1) ≡ true
balance_1 = unfold balance_test balances inside_old inside_new old_pair new_pair in refl

balance_2 : on_five (balance_test 2) ≡ true
balance_2 = unfold balance_test balances inside_old inside_new old_pair new_pair in refl

balance_3 : on_five (balance_test 3) ≡ true
balance_3 = unfold balance_test balances inside_old inside_new old_pair new_pair in refl

balance_4 : on_five (balance_test 4) ≡ true
balance_4 = unfold balance_test balances inside_old inside_new old_pair new_pair in refl

all_balance : (s : ℕ) → 0 < s → s < 5 → on_five (balance_test s) ≡ true
all_balance zero some limited = absurd (omega arith)
all_balance (suc zero) some limited = balance_1
all_balance (suc (suc zero)) some limited = balance_2
all_balance (suc (suc (suc zero))) some limited = balance_3
all_balance (suc (suc (suc (suc zero)))) some limited = balance_4
all_balance (suc (suc (suc (suc (suc s))))) some limited = absurd (omega arith)

module _ (s : ℕ) (x : ℕ → Bool) (some : 0 < s) (limited : s < 5) (first : (s == 1) && x 0 ≡ false) (last : (s == 4) && x 4 ≡ false) where
  listed : balances s (looked (five x)) ≡ true
  unfolding balance_test
  listed = through ((s == 1) && x 0) ((s == 4) && x 4) (balances s (looked (five x))) first last (at_five (balance_test s) (all_balance s some limited) (x 0) (x 1) (x 2) (x 3) (x 4))
    where
      through : (a b c : Bool) → a ≡ false → b ≡ false → (a || (b || c)) ≡ true → c ≡ true
      through a b c p q t = (λ i. sym p i || (sym q i || c)) ∙ t

  same_inside : (k : ℕ) → k < 25 → inside_old s x k ≡ inside_old s (looked (five x)) k
  unfolding inside_old
  same_inside k l = λ i. not (k / 5 == k % 5) && (list_all (has (k / 5 ∷ k % 5 ∷ [])) (below s) && looked_is x (k / 5) (omega arith) i)

  same_inside' : (k : ℕ) → k < 25 → inside_new s x k ≡ inside_new s (looked (five x)) k
  unfolding inside_new
  same_inside' k l = λ i. not (k / 5 == k % 5) && (list_all (λ i. nat_lt i s || has (k / 5 ∷ k % 5 ∷ []) i) (below 5) && looked_is x (k / 5) (omega arith) i)

  same_pairs : (k : ℕ) → k < 25 → old_pair s x k ≡ old_pair s (looked (five x)) k
  unfolding old_pair
  same_pairs k l = λ i. not (nat_lt (k / 5) s) && (not (k % 5 == k / 5) && looked_is x (k % 5) (omega arith) i)

  same_pairs' : (k : ℕ) → k < 25 → new_pair s x k ≡ new_pair s (looked (five x)) k
  unfolding new_pair
  same_pairs' k l = λ i. nat_lt (k / 5) s && (not (k % 5 == k / 5) && looked_is x (k % 5) (omega arith) i)

  pub balanced : 2 * count_by (inside_old s x) (below 25) + count_by (new_pair s x) (below 25) ≡ 2 * count_by (inside_new s x) (below 25) + count_by (old_pair s x) (below 25)
  unfolding balances
  balanced =
      let e : 2 * count_by (inside_old s (looked (five x))) (below 25) + count_by (new_pair s (looked (five x))) (below 25) ≡ 2 * count_by (inside_new s (looked (five x))) (below 25) + count_by (old_pair s (looked (five x))) (below 25) =
      eqb-true _ _ listed in
      let a = count_same (inside_old s x) (inside_old s (looked (five x))) 25 same_inside in
      let b = count_same (inside_new s x) (inside_new s (looked (five x))) 25 same_inside' in
      let c = count_same (old_pair s x) (old_pair s (looked (five x))) 25 same_pairs in
      let d = count_same (new_pair s x) (new_pair s (looked (five x))) 25 same_pairs' in
      (λ i. 2 * a i + d i) ∙ e ∙ (λ i. 2 * sym b i + sym c i)

-- ---- the Euler characteristics agree

same_euler : (v e f v' e' f' : ℕ) → v + f + e' ≡ v' + f' + e → euler_of v e f ≡ euler_of v' e' f'
same_euler v e f v' e' f' h = omega (arith, ints)

module _ (old : List Row) (m : Move) (new : List Row) (table : IsTable old) (table' : IsTable new) (h : IsMoved old m new)
    (vs : List ℕ) (n : ℕ) (numbered : IsNumbering (4 * length old) (SameVertex old) vs n) (vs' : List ℕ) (n' : ℕ) (numbered' : IsNumbering (4 * length new) (SameVertex new) vs' n') (c c' : ℕ)
    (match : Match old m new table h vs n numbered vs' n' numbered' c c')
    (ds : List ℕ) (d : ℕ) (arrows : IsNumbering (12 * length old) (SameDirected old) ds d) (ds' : List ℕ) (d' : ℕ) (arrows' : IsNumbering (12 * length new) (SameDirected new) ds' d') where
  abbrev x : ℕ → Bool
  x l = label_in old m new table h vs n numbered vs' n' numbered' c c' match l

  no_first : (length m.core == 1) && x 0 ≡ false
  no_first = by_bool (length m.core == 1) (λ t. (λ i. t i && x 0) ∙ core_label old m new table h vs n numbered vs' n' numbered' c c' match 0 (unfold in_both in (λ i. not (t i && true) && not ((length m.core == 4) && false))))
      (λ f. λ i. f i && x 0)

  no_last : (length m.core == 4) && x 4 ≡ false
  no_last = by_bool (length m.core == 4) (λ t. (λ i. t i && x 4) ∙ core_label old m new table h vs n numbered vs' n' numbered' c c' match 4 (unfold in_both in (ap (λ b. not ((length m.core == 1) && false) && not (b && true)) t ∙ both (length m.core == 1))))
      (λ f. λ i. f i && x 4)
    where
      both : (b : Bool) → (not (b && false) && false) ≡ false
      both true = refl
      both false = refl

  pub frees_same : free_count old table vs n numbered c ≡ free_count new table' vs' n' numbered' c'
  frees_same = frees_match old m new table h table' vs n numbered vs' n' numbered' c c' match

  pub eulers_match : link_vertices vs ds c + times_in vs c + link_edges new vs' c' ≡ link_vertices vs' ds' c' + times_in vs' c' + link_edges old vs c
  eulers_match =
      let v = vertices_match old m new table table' h vs n numbered vs' n' numbered' c c' match ds d arrows ds' d' arrows' in
      let t = triangles_match old m new table h vs n numbered vs' n' numbered' c c' match in
      let b = balanced (length m.core) x (some old m new table h) (limited old m new table h) no_first no_last in
      let e : 2 * link_edges old vs c ≡ 3 * times_in vs c + free_count old table vs n numbered c = twice_edges old table vs n numbered c in
      let e' : 2 * link_edges new vs' c' ≡ 3 * times_in vs' c' + free_count new table' vs' n' numbered' c' = twice_edges new table' vs' n' numbered' c' in
      let f = frees_same in
      omega arith

  -- both links are closed or neither, and they have one Euler characteristic
  pub same_link : (link link' : Link) → IsLink old vs ds c link → IsLink new vs' ds' c' link' → (link.euler ≡ link'.euler) × (link.closed ≡ link'.closed)
  same_link link link' k k' = (
    k.euler ∙ (λ i. euler_of (k.vertices i) (k.edges i) (k.triangles i))
        ∙ same_euler (link_vertices vs ds c) (link_edges old vs c) (times_in vs c) (link_vertices vs' ds' c') (link_edges new vs' c') (times_in vs' c') eulers_match
        ∙ (λ i. euler_of (sym k'.vertices i) (sym k'.edges i) (sym k'.triangles i)) ∙ sym k'.euler,
    k.closed ∙ closed_told old table vs n numbered c ∙ ap (λ z. z == 0) frees_same ∙ sym (closed_told new table' vs' n' numbered' c') ∙ sym k'.closed,
  )
