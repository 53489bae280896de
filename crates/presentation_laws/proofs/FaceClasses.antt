-- The face class of a glued face has the face and its other side, and no other.
use Rattle.std.proofs.Common.{◌≡◌, ◌≢◌, ℕ, zero, suc, ◌+◌, ◌*◌, ◌<◌, ◌⊎◌, inl, inr, true, not, List, [], ◌∷◌, length, Some, slice_index, subst, sym, ap, ap₂, refl, ◌∙◌, arith}
use Rattle.std.specs.Prelude.{◌==◌, cond}
use Rattle.std.proofs.lemmas.Bool.{cases_order, eq-eqb, ne_eqb}
use Rattle.std.proofs.lemmas.List.Sums.{sum_by-cons}
use Rattle.table_definitions.specs.Lists.{times_in}
use Rattle.table_definitions.specs.Permutation.{image}
use Rattle.table_definitions.specs.Table.{Gluing, Row, Face, IsTable, glue, other_side, inverse_gluing, same_face, face_number}
use Rattle.table_definitions.specs.Classes.{IsNumbering, least, degree}
use Rattle.table_definitions.specs.Places.{face_of, SameFace}
use Rattle.table_definitions.proofs.TableLaws.{glued_tet, glued_face}
use Rattle.table_definitions.proofs.Carried.{same_to}
use Rattle.table_definitions.proofs.Faces.{face_of-number, number-face_of}
use Rattle.skeleton_class_laws.proofs.FirstPlaces.{first_place}

-- ---- counts

count_cons : (c x : ℕ) (xs : List ℕ) → times_in (x ∷ xs) c ≡ cond (x == c) 1 0 + times_in xs c
count_cons c x xs = sum_by-cons (λ y. cond (y == c) 1 0) x xs

counted : (c x : ℕ) (xs : List ℕ) → x ≡ c → times_in (x ∷ xs) c ≡ 1 + times_in xs c
counted c x xs e = count_cons c x xs ∙ ap (λ b. cond b 1 0 + times_in xs c) (eq-eqb x c e)

uncounted : (c x : ℕ) (xs : List ℕ) → x ≢ c → times_in (x ∷ xs) c ≡ times_in xs c
uncounted c x xs n = count_cons c x xs ∙ ap (λ b. cond b 1 0 + times_in xs c) (ne_eqb x c n) ∙ omega arith

count_none : (c : ℕ) (xs : List ℕ) → ((k : ℕ) → k < length xs → slice_index xs k ≢ c) → times_in xs c ≡ 0
count_none c [] h = refl
count_none c (x ∷ xs) h = uncounted c x xs (h 0 (omega arith)) ∙ count_none c xs (λ k l. h (suc k) (omega arith))

pub count_one : (c : ℕ) (xs : List ℕ) (i : ℕ) → i < length xs → slice_index xs i ≡ c → ((k : ℕ) → k < length xs → k ≢ i → slice_index xs k ≢ c) → times_in xs c ≡ 1
count_one c [] i l e h = absurd (omega arith)
count_one c (x ∷ xs) zero l e h = let n : times_in xs c ≡ 0 = count_none c xs (λ k m. h (suc k) (omega arith) (λ z. absurd (omega arith))) in counted c x xs e ∙ omega arith
count_one c (x ∷ xs) (suc i) l e h = uncounted c x xs (h 0 (omega arith) (λ z. absurd (omega arith))) ∙ count_one c xs i (omega arith) e (λ k m n. h (suc k) (omega arith) (λ z. n (omega arith)))

pub count_two : (c : ℕ) (xs : List ℕ) (i j : ℕ) → i < j → j < length xs → slice_index xs i ≡ c → slice_index xs j ≡ c →
    ((k : ℕ) → k < length xs → k ≢ i → k ≢ j → slice_index xs k ≢ c) → times_in xs c ≡ 2
count_two c [] i j less l a b h = absurd (omega arith)
count_two c (x ∷ xs) i zero less l a b h = absurd (omega arith)
count_two c (x ∷ xs) zero (suc j) less l a b h = let n : times_in xs c ≡ 1 = count_one c xs j (omega arith) b (λ k m n. h (suc k) (omega arith) (λ z. absurd (omega arith)) (λ z. n (omega arith))) in counted c x xs a ∙ omega arith
count_two c (x ∷ xs) (suc i) (suc j) less l a b h = uncounted c x xs (h 0 (omega arith) (λ z. absurd (omega arith)) (λ z. absurd (omega arith)))
    ∙ count_two c xs i j (omega arith) (omega arith) a b (λ k m n o. h (suc k) (omega arith) (λ z. n (omega arith)) (λ z. o (omega arith)))

-- ---- numbers of faces

pub number_below : (n : ℕ) (x : Face) → x.tet < n → x.face < 4 → face_number x < 4 * n
number_below n x l k = omega arith

module _ (rows : List Row) (table : IsTable rows) (classes : List ℕ) (count : ℕ) (h : IsNumbering (4 * length rows) (SameFace rows) classes count) where
  unfoldable pub class_of : Face → ℕ
  class_of x = slice_index classes (face_number x)

  -- a glued face, and its other side
  module _ (x : Face) (g : Gluing) (e : glue rows x ≡ Some g) where
    pub x_small : x.face < 4
    x_small = glued_face rows x g table.four_faces e

    pub x_below : face_number x < 4 * length rows
    x_below = number_below (length rows) x (glued_tet rows x g e) x_small

    pub y_small : image g.perm x.face < 4
    y_small = glued_face rows (other_side x g) (inverse_gluing x g) table.four_faces (table.leads_back x g e)

    pub y_below : face_number (other_side x g) < 4 * length rows
    y_below = number_below (length rows) (other_side x g) (table.in_range x g e) y_small

    -- the faces in one class with the face
    pub same_class : (k : ℕ) → k < 4 * length rows → slice_index classes k ≡ class_of x → (face_of k ≡ x) ⊎ (face_of k ≡ other_side x g)
    unfolding class_of
    same_class k l same = elim ((h.together (face_number x) k x_below l).0 (sym same)) [
      | inl i ↦ inl (ap face_of (sym i) ∙ face_of-number x x_small)
      | inr w ↦
          let z : Some w.0 ≡ Some g = sym w.1 ∙ ap (glue rows) (face_of-number x x_small) ∙ e in
          let gs : w.0 ≡ g = cc in
          inr (sym w.2 ∙ ap₂ other_side (face_of-number x x_small) gs)
    ]

    pub other_class : class_of (other_side x g) ≡ class_of x
    unfolding class_of
    other_class = sym ((h.together (face_number x) (face_number (other_side x g)) x_below y_below).1
        (inr (g, ap (glue rows) (face_of-number x x_small) ∙ e, ap (λ z. other_side z g) (face_of-number x x_small) ∙ sym (face_of-number (other_side x g) y_small))))

    separate : face_number (other_side x g) ≢ face_number x
    separate same = let faces : other_side x g ≡ x = sym (face_of-number (other_side x g) y_small) ∙ ap face_of same ∙ face_of-number x x_small in
        let itself : same_face (other_side x g) x ≡ true = same_to (other_side x g).tet x.tet (other_side x g).face x.face (ap (λ (z : Face). z.tet) faces) (ap (λ (z : Face). z.face) faces) in
        let never : not (same_face (other_side x g) x) ≡ true = table.separate x g e in cc

    no_third : (k : ℕ) → k < length classes → k ≢ face_number x → k ≢ face_number (other_side x g) → slice_index classes k ≢ class_of x
    no_third k l a b same = elim (same_class k (subst (λ n. k < n) h.one_each l) same) [
      | inl i ↦ a (sym (number-face_of k) ∙ ap face_number i)
      | inr i ↦ b (sym (number-face_of k) ∙ ap face_number i)
    ]

    pub degree_two : degree classes (class_of x) ≡ 2
    unfolding class_of
    degree_two = elim (cases_order (face_number x) (face_number (other_side x g))) [
      | inl same ↦ absurd (separate (sym same))
      | inr (inl less) ↦ count_two (class_of x) classes (face_number x) (face_number (other_side x g)) less (subst (λ n. face_number (other_side x g) < n) (sym h.one_each) y_below) refl other_class no_third
      | inr (inr more) ↦ count_two (class_of x) classes (face_number (other_side x g)) (face_number x) more (subst (λ n. face_number x < n) (sym h.one_each) x_below) other_class refl (λ k l a b. no_third k l b a)
    ]

    pub class_below : class_of x < count
    unfolding class_of
    class_below = h.in_range (face_number x) x_below

    -- the least member of the class is the face or its other side
    pub least_is : (face_of (least classes (class_of x)) ≡ x) ⊎ (face_of (least classes (class_of x)) ≡ other_side x g)
    unfolding class_of
    least_is = let f = first_place classes (face_number x) (class_of x) (subst (λ n. face_number x < n) (sym h.one_each) x_below) refl in
        same_class (least classes (class_of x)) (subst (λ n. least classes (class_of x) < n) h.one_each f.in_range) f.is
