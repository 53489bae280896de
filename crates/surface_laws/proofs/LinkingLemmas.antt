-- What the tests for quads and for boundary arcs decide.
use Rattle.std.proofs.Common.{◌≡◌, ℕ, ◌<◌, ◌≤◌, ◌↔◌, Bool, true, false, not, List, [], ◌∷◌, length, Option, Some, None, is_none, inl, inr, refl, sym, ap, ◌∙◌, arith}
use Rattle.std.specs.Prelude.{◌&&◌, nat_lt, slice_index}
use Rattle.std.specs.List.{list_all, list_any}
use Rattle.std.proofs.lemmas.Bool.{and_parts, and_from, or_cases, or_left, or_right, ltb-true, ltb-false, le-ltb, lt-ltb, not-true, not_from_false, and_cases, and_left, and_right, false≢true}
use Rattle.table_definitions.specs.Lists.{below}
use Rattle.table_definitions.specs.Table.{Gluing, Row, Face, glue, faces}
use Rattle.table_definitions.specs.Places.{is_boundary}
use Rattle.table_definitions.proofs.TableLaws.{Among, Among-below, Among-faces}
use Rattle.table_definitions.proofs.Tests.{list_all-among}
use Rattle.surface_definitions.specs.Coordinates.{is_quad_or_octagon}
use Rattle.surface_definitions.specs.declared.Coords.{Coords}
use Rattle.surface_definitions.specs.Characteristic.{arcs_in, is_linking, meets_boundary}
use Rattle.surface_laws.specs.CharacteristicLaws.{HasBoundaryArc}
use Rattle.table_definitions.proofs.Listed.{below-among, faces-among}

pub all_test : {A : Type 0} (t : A → Bool) (xs : List A) → ((x : A) → Among x xs → t x ≡ true) → list_all t xs ≡ true
all_test t [] h = refl
all_test t (x ∷ xs) h = and_from (t x) (list_all t xs) (h x (inl refl)) (all_test t xs (λ y a. h y (inr a)))

pub any_test : {A : Type 0} (t : A → Bool) (x : A) (xs : List A) → Among x xs → t x ≡ true → list_any t xs ≡ true
any_test t x [] a e = absurd a
any_test t x (y ∷ ys) (inl s) e = or_left (t y) (list_any t ys) (ap t (sym s) ∙ e)
any_test t x (y ∷ ys) (inr a) e = or_right (t y) (list_any t ys) (any_test t x ys a e)

pub test_any : {A : Type 0} (t : A → Bool) (xs : List A) → list_any t xs ≡ true → (x : A) × Among x xs × (t x ≡ true)
test_any t [] e = absurd (false≢true e)
test_any t (x ∷ xs) e = elim (or_cases (t x) (list_any t xs) e) [
  | inl here ↦ (x, inl refl, here)
  | inr later ↦ (let m = test_any t xs later in (m.0, inr m.1, m.2))
]

pub linking : (coords : Coords) (xs : List ℕ) → (is_linking coords xs ≡ true) ↔ ((c : ℕ) → c < length xs → is_quad_or_octagon coords c ≡ true → slice_index xs c ≡ 0)
linking coords xs = (to, from)
  where
    to : is_linking coords xs ≡ true → (c : ℕ) → c < length xs → is_quad_or_octagon coords c ≡ true → slice_index xs c ≡ 0
    to h c l q =
        let at : not (is_quad_or_octagon coords c && nat_lt 0 (slice_index xs c)) ≡ true = list_all-among (λ c. not (is_quad_or_octagon coords c && nat_lt 0 (slice_index xs c))) c (below (length xs)) h (Among-below c (length xs) l) in
        elim (and_cases (is_quad_or_octagon coords c) (nat_lt 0 (slice_index xs c)) (not-true (is_quad_or_octagon coords c && nat_lt 0 (slice_index xs c)) at)) [
          | inl other ↦ absurd (false≢true (sym other ∙ q))
          | inr none ↦ (let low : slice_index xs c ≤ 0 = ltb-false 0 (slice_index xs c) none in omega arith)
        ]

    one : (c : ℕ) (b : Bool) → is_quad_or_octagon coords c ≡ b → (is_quad_or_octagon coords c ≡ true → slice_index xs c ≡ 0) → (is_quad_or_octagon coords c && nat_lt 0 (slice_index xs c)) ≡ false
    one c false e h = and_left (is_quad_or_octagon coords c) (nat_lt 0 (slice_index xs c)) e
    one c true e h = and_right (is_quad_or_octagon coords c) (nat_lt 0 (slice_index xs c)) (let z : slice_index xs c ≡ 0 = h e in le-ltb 0 (slice_index xs c) (omega arith))

    from : ((c : ℕ) → c < length xs → is_quad_or_octagon coords c ≡ true → slice_index xs c ≡ 0) → is_linking coords xs ≡ true
    from h = all_test (λ c. not (is_quad_or_octagon coords c && nat_lt 0 (slice_index xs c))) (below (length xs))
        (λ c a. not_from_false (is_quad_or_octagon coords c && nat_lt 0 (slice_index xs c)) (one c (is_quad_or_octagon coords c) refl (h c (below-among c (length xs) a))))

pub free_is : (o : Option Gluing) → is_none o ≡ true → o ≡ None
free_is None e = refl
free_is (Some g) e = absurd (false≢true e)

pub boundary : (rows : List Row) (coords : Coords) (xs : List ℕ) → (meets_boundary rows coords xs ≡ true) ↔ HasBoundaryArc rows coords xs
boundary rows coords xs = (to, from)
  where
    to : meets_boundary rows coords xs ≡ true → HasBoundaryArc rows coords xs
    to h =
        let m : (x : Face) × Among x (faces (length rows)) × ((is_boundary rows x && nat_lt 0 (arcs_in coords xs x)) ≡ true) = test_any (λ x. is_boundary rows x && nat_lt 0 (arcs_in coords xs x)) (faces (length rows)) h in
        let b : (is_boundary rows m.0 ≡ true) × (nat_lt 0 (arcs_in coords xs m.0) ≡ true) = and_parts (is_boundary rows m.0) (nat_lt 0 (arcs_in coords xs m.0)) m.2 in
        let r : (m.0.tet < length rows) × (m.0.face < 4) = faces-among m.0 (length rows) m.1 in
        record { face = m.0; tet = r.0; one_of_four = r.1; free = free_is (glue rows m.0) b.0; some = ltb-true 0 (arcs_in coords xs m.0) b.1 }

    from : HasBoundaryArc rows coords xs → meets_boundary rows coords xs ≡ true
    from h =
        any_test (λ x. is_boundary rows x && nat_lt 0 (arcs_in coords xs x)) h.face (faces (length rows)) (Among-faces h.face (length rows) h.tet h.one_of_four)
        (and_from (is_boundary rows h.face) (nat_lt 0 (arcs_in coords xs h.face)) (ap (λ (o : Option Gluing). is_none o) h.free) (lt-ltb 0 (arcs_in coords xs h.face) h.some))
