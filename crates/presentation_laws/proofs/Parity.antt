-- Signs of tetrahedra by the even gluings on their tree paths, and the faces that reverse orientation.
use Rattle.std.proofs.Common.{◌≡◌, ℕ, ◌+◌, ◌%◌, ◌<◌, ◌≤◌, ◌⊎◌, inl, inr, Bool, true, false, not, List, [], ◌∷◌, length, Some, count_by, subst, sym, ap, ap₂, refl, ◌∙◌, arith}
use Rattle.std.specs.Prelude.{◌==◌, cond}
use Rattle.std.proofs.lemmas.List.Sums.{sum_by-cons}
use Rattle.std.proofs.lemmas.Bool.{cases_lt, cases_eq}
use Rattle.table_definitions.specs.Permutation.{is_odd}
use Rattle.table_definitions.specs.Table.{Gluing, Row, Face, IsTable, glue, inverse_gluing}
use Rattle.table_definitions.specs.Places.{IsConnected}
use Rattle.table_definitions.proofs.TableLaws.{glued_tet}
use Rattle.table_definitions.proofs.Permutations.{is_odd-inverse}
use Rattle.presentation_definitions.specs.Trees.{IsTreeFace, IsTreePath, is_even_gluing, evens, is_odd_number}
use Rattle.presentation_laws.proofs.TreeLaws.{one_path, path_of}

-- ---- truth values that differ

abbrev pub differs : Bool → Bool → Bool
differs true b = not b
differs false b = b

pub differs_self : (a : Bool) → differs a a ≡ false
differs_self true = refl
differs_self false = refl

pub differs_assoc : (a b c : Bool) → differs (differs a b) c ≡ differs a (differs b c)
differs_assoc true true true = refl
differs_assoc true true false = refl
differs_assoc true false true = refl
differs_assoc true false false = refl
differs_assoc false b c = refl

pub differs_false : (a : Bool) → differs a false ≡ a
differs_false true = refl
differs_false false = refl

-- the same truth value on both sides of a difference cancels
pub differs_middle : (a b c : Bool) → differs (differs a b) (differs b c) ≡ differs a c
differs_middle true true true = refl
differs_middle true true false = refl
differs_middle true false true = refl
differs_middle true false false = refl
differs_middle false true true = refl
differs_middle false true false = refl
differs_middle false false c = refl

parity_cases : (m : ℕ) → (m % 2 ≡ 0) ⊎ (m % 2 ≡ 1)
parity_cases m = elim (cases_eq (m % 2) 0) [ inl z ↦ inl z | inr n ↦ inr (omega arith) ]

even_is : (m : ℕ) → m % 2 ≡ 0 → is_odd_number m ≡ false
even_is m e = ap (λ r. r == 1) e

odd_is : (m : ℕ) → m % 2 ≡ 1 → is_odd_number m ≡ true
odd_is m e = ap (λ r. r == 1) e

pub odd_sum : (m k : ℕ) → is_odd_number (m + k) ≡ differs (is_odd_number m) (is_odd_number k)
odd_sum m k = elim (parity_cases m) [
  | inl a ↦ elim (parity_cases k) [
    | inl b ↦ even_is (m + k) (omega arith) ∙ sym (ap₂ differs (even_is m a) (even_is k b))
    | inr b ↦ odd_is (m + k) (omega arith) ∙ sym (ap₂ differs (even_is m a) (odd_is k b))
  ]
  | inr a ↦ elim (parity_cases k) [
    | inl b ↦ odd_is (m + k) (omega arith) ∙ sym (ap₂ differs (odd_is m a) (even_is k b))
    | inr b ↦ even_is (m + k) (omega arith) ∙ sym (ap₂ differs (odd_is m a) (odd_is k b))
  ]
]

odd_one : (b : Bool) → is_odd_number (cond b 1 0) ≡ b
odd_one true = refl
odd_one false = refl

pub odd_more : {X : Type 0} (p : X → Bool) (x : X) (xs : List X) → is_odd_number (count_by p (x ∷ xs)) ≡ differs (p x) (is_odd_number (count_by p xs))
odd_more p x xs = ap is_odd_number (sum_by-cons (λ y. cond (p y) 1 0) x xs) ∙ odd_sum (cond (p x) 1 0) (count_by p xs) ∙ ap (λ b. differs b (is_odd_number (count_by p xs))) (odd_one (p x))

-- ---- signs

module _ (rows : List Row) (table : IsTable rows) (connected : IsConnected rows) where
  -- whether there is an odd number of even gluings on the tree path to t
  chosen : (t : ℕ) → (t < length rows) ⊎ (length rows ≤ t) → Bool
  chosen t (inl l) = is_odd_number (evens rows (path_of rows table connected t l).0)
  chosen t (inr exceeded) = false

  pub sign : ℕ → Bool
  sign t = chosen t (cases_lt t (length rows))

  chosen_is : (t : ℕ) (c : (t < length rows) ⊎ (length rows ≤ t)) (xs : List Face) → t < length rows → IsTreePath rows t xs → chosen t c ≡ is_odd_number (evens rows xs)
  unfolding chosen
  chosen_is t (inl l) xs m h = let w = path_of rows table connected t l in ap (λ ys. is_odd_number (evens rows ys)) (one_path rows t w.0 xs w.1 h)
  chosen_is t (inr exceeded) xs m h = absurd (omega arith)

  pub sign_is : (t : ℕ) (xs : List Face) → t < length rows → IsTreePath rows t xs → sign t ≡ is_odd_number (evens rows xs)
  unfolding sign
  sign_is t xs l h = chosen_is t (cases_lt t (length rows)) xs l h

  -- whether a gluing from t reverses orientation: an odd number of even gluings on the tree path to t, across the
  -- gluing, and back
  unfoldable pub turn : ℕ → Gluing → Bool
  turn t g = differs (sign t) (differs (not (is_odd g.perm)) (sign g.tet))

  -- the numbers of even gluings of a path to t and of one to the tetrahedron across the face
  pub turn_is : (x : Face) (g : Gluing) (xs ys : List Face) → glue rows x ≡ Some g → IsTreePath rows x.tet xs → IsTreePath rows g.tet ys →
      is_odd_number (evens rows xs + evens rows (x ∷ []) + evens rows ys) ≡ turn x.tet g
  unfolding turn
  turn_is x g xs ys e a b = odd_sum (evens rows xs + evens rows (x ∷ [])) (evens rows ys)
      ∙ ap (λ c. differs c (is_odd_number (evens rows ys))) (odd_sum (evens rows xs) (evens rows (x ∷ [])))
      ∙ differs_assoc (is_odd_number (evens rows xs)) (is_odd_number (evens rows (x ∷ []))) (is_odd_number (evens rows ys))
      ∙ ap₂ (λ c d. differs c (differs d (is_odd_number (evens rows ys)))) (sym (sign_is x.tet xs (glued_tet rows x g e) a)) across
      ∙ ap (λ c. differs (sign x.tet) (differs (not (is_odd g.perm)) c)) (sym (sign_is g.tet ys (table.in_range x g e) b))
    where
      across : is_odd_number (evens rows (x ∷ [])) ≡ not (is_odd g.perm)
      across = odd_more (λ y. is_even_gluing (glue rows y)) x [] ∙ differs_false (is_even_gluing (glue rows x)) ∙ ap is_even_gluing e

  -- a tree face does not reverse orientation
  pub tree_turn : (t : ℕ) (x : Face) (g : Gluing) → IsTreeFace rows t x → glue rows x ≡ Some g → turn x.tet g ≡ false
  unfolding turn
  tree_turn t x g h e = ap (λ c. differs (sign x.tet) (differs (not (is_odd g.perm)) c)) there ∙ ap (differs (sign x.tet)) (sym (differs_assoc (not (is_odd g.perm)) (not (is_odd g.perm)) (sign x.tet)) ∙ ap (λ c. differs c (sign x.tet)) (differs_self (not (is_odd g.perm)))) ∙ differs_self (sign x.tet)
    where
      to : g.tet ≡ t
      to = let z : Some h.leads.gluing ≡ Some g = sym h.leads.glued ∙ e in let same : h.leads.gluing ≡ g = cc in ap (λ (b : Gluing). b.tet) (sym same) ∙ h.leads.to

      w : (xs : List Face) × IsTreePath rows x.tet xs
      w = path_of rows table connected x.tet (glued_tet rows x g e)

      there : sign g.tet ≡ differs (not (is_odd g.perm)) (sign x.tet)
      there = sign_is g.tet (x ∷ w.0) (table.in_range x g e) (subst (λ u. IsTreeFace rows u x) (sym to) h, w.1)
          ∙ odd_more (λ y. is_even_gluing (glue rows y)) x w.0
          ∙ ap₂ differs (ap is_even_gluing e) (sym (sign_is x.tet w.0 (glued_tet rows x g e) w.1))

  -- the inverse gluing reverses orientation if and only if the gluing does
  pub turn_back : (x : Face) (g : Gluing) → glue rows x ≡ Some g → turn g.tet (inverse_gluing x g) ≡ turn x.tet g
  unfolding turn
  turn_back x g e = ap (λ b. differs (sign g.tet) (differs (not b) (sign x.tet))) (is_odd-inverse g.perm (table.permutes x g e))
      ∙ around (sign g.tet) (not (is_odd g.perm)) (sign x.tet)
    where
      around : (a b c : Bool) → differs a (differs b c) ≡ differs c (differs b a)
      around true true true = refl
      around true true false = refl
      around true false true = refl
      around true false false = refl
      around false true true = refl
      around false true false = refl
      around false false true = refl
      around false false false = refl
