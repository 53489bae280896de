-- Loops through a list, up to the first of its elements that is refused.
use Rattle.std.proofs.Common.{◌≡◌, ℕ, zero, suc, ◌<◌, ◌≤◌, ◌+◌, List, [], ◌∷◌, ◌++◌, length, take, drop, map, get_or, Result, Ok, Err, refl, sym, ap, ◌∙◌, subst, arith}
use Rattle.std.specs.List.{All, AllZip}
use Rattle.std.proofs.lemmas.List.{take_all}
use Rattle.std.proofs.lemmas.List.Elements.{All-push, All-weaker, All-nil, All-cons}
use Rattle.outcome_definitions.specs.Sums.{IsFirstRefused, AreAnswered}

-- the elements by a view of them
module _ {X A : Type 0} (f : X → A) where
  more : (xs : List X) (n : ℕ) (x : X) → n < length xs → x ≡ get_or xs n x → map f (take (suc n) xs) ≡ map f (take n xs) ++ f x ∷ []
  more [] n x l e = absurd (omega arith)
  more (y ∷ ys) zero x l e = ap (λ (q : X). f q ∷ []) (sym e)
  more (y ∷ ys) (suc n) x l e = ap (λ (t : List A). f y ∷ t) (more ys n x (omega arith) e)

  pub seen_more : (xs : List X) (n : ℕ) (x : X) → n < length xs → x ≡ get_or xs n x → map f (take (n + 1) xs) ≡ map f (take n xs) ++ f x ∷ []
  seen_more xs n x l e = (let next : n + 1 ≡ suc n = omega arith in ap (λ (k : ℕ). map f (take k xs)) next) ∙ more xs n x l e

  occurs : (xs : List X) (n : ℕ) (x : X) → n < length xs → x ≡ get_or xs n x → map f xs ≡ map f (take n xs) ++ f x ∷ map f (drop (suc n) xs)
  occurs [] n x l e = absurd (omega arith)
  occurs (y ∷ ys) zero x l e = ap (λ (q : X). f q ∷ map f ys) (sym e)
  occurs (y ∷ ys) (suc n) x l e = ap (λ (t : List A). f y ∷ t) (occurs ys n x (omega arith) e)

  counted : (xs : List X) (n : ℕ) → n < length xs → n ≡ length (map f (take n xs))
  counted [] n l = absurd (omega arith)
  counted (y ∷ ys) zero l = refl
  counted (y ∷ ys) (suc n) l = ap suc (counted ys n (omega arith))

  -- the first element that is refused, after those that have answers
  pub first_refused : {B E : Type 0} (IsResult : A → Result B E → Type 0) (xs : List X) (n : ℕ) (x : X) (refusal : E) → n < length xs → x ≡ get_or xs n x
      → All (λ y. (answer : B) × IsResult y (Ok answer)) (map f (take n xs)) → IsResult (f x) (Err refusal) → IsFirstRefused IsResult (map f xs) n refusal
  first_refused IsResult xs n x refusal l e passed refused = record {
    before = map f (take n xs);
    value = f x;
    after = map f (drop (suc n) xs);
    occurs = occurs xs n x l e;
    number_is = counted xs n l;
    passed = passed;
    fails = refused;
  }

  -- one more element passes
  pub one_more : (Passes : A → Type 0) (xs : List X) (n : ℕ) (x : X) → n < length xs → x ≡ get_or xs n x → All Passes (map f (take n xs)) → Passes (f x) → All Passes (map f (take (n + 1) xs))
  one_more Passes xs n x l e passed h = subst (λ (ys : List A). All Passes ys) (sym (seen_more xs n x l e)) (All-push Passes (map f (take n xs)) (f x) passed h)

  -- each element passes, if all do
  pub seen_at : (Passes : A → Type 0) (xs : List X) (n : ℕ) (x : X) → n < length xs → x ≡ get_or xs n x → All Passes (map f xs) → Passes (f x)
  seen_at Passes [] n x l e h = absurd (omega arith)
  seen_at Passes (y ∷ ys) zero x l e h = subst (λ (q : X). Passes (f q)) (sym e) (h 0 (f y) (omega arith))
  seen_at Passes (y ∷ ys) (suc n) x l e h = seen_at Passes ys n x (omega arith) e (λ k d m. h (suc k) d (omega arith))

  -- the first n elements are all, if there are at most n
  pub all_seen : (Passes : A → Type 0) (xs : List X) (n : ℕ) → length xs ≤ n → All Passes (map f (take n xs)) → All Passes (map f xs)
  all_seen Passes xs n l passed = subst (λ (ys : List X). All Passes (map f ys)) (take_all n xs l) passed

  -- the first element that is refused, if the result for those before is only that they pass
  pub first_stopped : {E : Type 0} (IsResult : A → Result (Unit {0}) E → Type 0) (xs : List X) (n : ℕ) (x : X) (refusal : E) → n < length xs → x ≡ get_or xs n x
      → All (λ y. IsResult y (Ok tt)) (map f (take n xs)) → IsResult (f x) (Err refusal) → IsFirstRefused IsResult (map f xs) n refusal
  first_stopped IsResult xs n x refusal l e passed refused =
      first_refused IsResult xs n x refusal l e (All-weaker (λ y. IsResult y (Ok tt)) (λ y. (answer : Unit {0}) × IsResult y (Ok answer)) (λ y h. (tt, h)) (map f (take n xs)) passed) refused

-- a list of results, one for each element
module _ {A B E : Type 0} (IsResult : A → Result B E → Type 0) where
  pub told_more : (xs : List A) (answers : List B) (x : A) (answer : B) → AllZip (λ y b. IsResult y (Ok b)) xs answers → IsResult x (Ok answer)
      → AllZip (λ y b. IsResult y (Ok b)) (xs ++ x ∷ []) (answers ++ answer ∷ [])
  told_more [] [] x answer z h = (h, tt)
  told_more [] (b ∷ answers) x answer z h = absurd z
  told_more (y ∷ xs) [] x answer z h = absurd z
  told_more (y ∷ xs) (b ∷ answers) x answer z h = (z.0, told_more xs answers x answer z.1 h)

  pub have_answers : (xs : List A) (answers : List B) → AllZip (λ y b. IsResult y (Ok b)) xs answers → All (λ y. (answer : B) × IsResult y (Ok answer)) xs
  have_answers [] [] z = All-nil (λ y. (answer : B) × IsResult y (Ok answer))
  have_answers [] (b ∷ answers) z = absurd z
  have_answers (y ∷ xs) [] z = absurd z
  have_answers (y ∷ xs) (b ∷ answers) z = All-cons (λ y. (answer : B) × IsResult y (Ok answer)) y xs (b, z.0) (have_answers xs answers z.1)

-- if all elements pass, the list of results is a list of units
module _ {A E : Type 0} (IsResult : A → Result (Unit {0}) E → Type 0) where
  units : (xs : List A) → List (Unit {0})
  units xs = map (λ (x : A). tt) xs

  all_units : (xs : List A) → All (λ y. IsResult y (Ok tt)) xs → AllZip (λ y b. IsResult y (Ok b)) xs (units xs)
  unfolding units
  all_units [] h = tt
  all_units (x ∷ xs) h = (h 0 x (omega arith), all_units xs (λ k d l. h (suc k) d (omega arith)))

  pub all_told : (xs : List A) → All (λ y. IsResult y (Ok tt)) xs → (answers : List (Unit {0})) × AreAnswered IsResult xs (Ok answers)
  all_told xs h = (units xs, all_units xs h)
