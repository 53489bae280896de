-- If each item of a list has a result, so has the list: the answers to all items, or the first that is refused.
use Rattle.std.proofs.Common.{ℕ, zero, suc, ◌<◌, List, [], ◌∷◌, length, Result, Ok, Err, refl, ap, arith}
use Rattle.std.specs.List.{AllByRecursion, slice_index_or}
use Rattle.std.proofs.lemmas.List.Elements.{All-nil, All-cons}
use Rattle.surface_vector_definitions.specs.declared.Refusal.{Refusal}
use Rattle.surface_vector_definitions.specs.Answers.{AreAnswered as AreVectorsTold}
use Rattle.outcome_definitions.specs.Sums.{AreAnswered}

module _ {A B E : Type 0} (IsResult : A → Result B E → Type 0) where
  told_more : (x : A) (xs : List A) (r : Result B E) → IsResult x r → (t : Result (List B) (ℕ × E)) → AreAnswered IsResult xs t → (u : Result (List B) (ℕ × E)) × AreAnswered IsResult (x ∷ xs) u
  told_more x xs (Err f) h t rest = (
    Err (0, f),
    record {
      before = [];
      value = x;
      after = xs;
      occurs = refl;
      number_is = refl;
      passed = All-nil (λ y. (answer : B) × IsResult y (Ok answer));
      fails = h;
    },
  )
  told_more x xs (Ok b) h (Ok bs) rest = (Ok (b ∷ bs), (h, rest))
  told_more x xs (Ok b) h (Err v) rest = (
    Err (suc v.0, v.1),
    record {
      before = x ∷ rest.before;
      value = rest.value;
      after = rest.after;
      occurs = ap (λ (ys : List A). x ∷ ys) rest.occurs;
      number_is = ap suc rest.number_is;
      passed = All-cons (λ y. (answer : B) × IsResult y (Ok answer)) x rest.before (b, h) rest.passed;
      fails = rest.fails;
    },
  )

  pub told_of : (P : A → Type 0) (list : List A) → ((x : A) → P x → (r : Result B E) × IsResult x r) → AllByRecursion P list → (t : Result (List B) (ℕ × E)) × AreAnswered IsResult list t
  told_of P [] each all = (Ok [], tt)
  told_of P (x ∷ xs) each all =
      let here = each x all.0 in
      let rest = told_of P xs each all.1 in
      told_more x xs here.0 here.1 rest.0 rest.1

-- the result for a list of vectors
module _ {A : Type 0} (IsResult : List ℕ → Result A Refusal → Type 0) where
  before_more : (x : List ℕ) (xs : List (List ℕ)) (v : ℕ) (a : A) → IsResult x (Ok a) → ((u : ℕ) → u < v → (b : A) × IsResult (slice_index_or xs u []) (Ok b))
      → (u : ℕ) → u < suc v → (b : A) × IsResult (slice_index_or (x ∷ xs) u []) (Ok b)
  before_more x xs v a h before zero l = (a, h)
  before_more x xs v a h before (suc u) l = before u (omega arith)

  vector_more : (x : List ℕ) (xs : List (List ℕ)) (r : Result A Refusal) → IsResult x r → (t : Result (List A) (ℕ × Refusal)) → AreVectorsTold IsResult xs t
      → (u : Result (List A) (ℕ × Refusal)) × AreVectorsTold IsResult (x ∷ xs) u
  vector_more x xs (Err f) h t rest = (Err (0, f), record { in_range = omega arith; refused = h; before = λ u l. absurd (omega arith) })
  vector_more x xs (Ok a) h (Ok reported) rest = (Ok (a ∷ reported), (h, rest))
  vector_more x xs (Ok a) h (Err v) rest = (
    Err (suc v.0, v.1),
    record { in_range = (let l : v.0 < length xs = rest.in_range in omega arith); refused = rest.refused; before = before_more x xs v.0 a h rest.before },
  )

  pub vectors_told : (vectors : List (List ℕ)) → ((x : List ℕ) → (r : Result A Refusal) × IsResult x r) → (t : Result (List A) (ℕ × Refusal)) × AreVectorsTold IsResult vectors t
  vectors_told [] each = (Ok [], tt)
  vectors_told (x ∷ xs) each =
      let here = each x in
      let rest = vectors_told xs each in
      vector_more x xs here.0 here.1 rest.0 rest.1
