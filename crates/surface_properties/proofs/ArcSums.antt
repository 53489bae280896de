-- The arcs of all faces, tetrahedron by tetrahedron.
use Rattle.std.proofs.Common.{◌≡◌, ℕ, zero, suc, ◌+◌, ◌<◌, Bool, true, false, cond, List, [], ◌∷◌, length, map, refl, sym, ap, ◌∙◌, arith}
use Rattle.std.specs.Prelude.{sum_by, slice_index, filter, if◌then◌else◌}
use Rattle.std.proofs.lemmas.List.Sums.{sum_by-cons}
use Rattle.table_definitions.specs.Lists.{below, pairs_of}
use Rattle.table_definitions.specs.Permutation.{others, four}
use Rattle.table_definitions.specs.Table.{Row, glue, faces}
use Rattle.skeleton_definitions.specs.Links.{is_first_side}
use Rattle.surface_definitions.specs.declared.Coords.{Coords}
use Rattle.surface_definitions.specs.Characteristic.{arcs, arcs_in}
use Rattle.surface_laws.proofs.Counting.{sum_by_same, sum_by-map, sum_by-flat_map}
use Rattle.surface_properties.specs.Counted.{counted, counted_in}

pub three_others : (r : ℕ → ℕ) (f : ℕ) → f < 4 → sum_by r (others f) ≡ r (slice_index (others f) 0) + r (slice_index (others f) 1) + r (slice_index (others f) 2)
three_others r zero l = omega arith
three_others r (suc zero) l = omega arith
three_others r (suc (suc zero)) l = omega arith
three_others r (suc (suc (suc zero))) l = omega arith
three_others r (suc (suc (suc (suc f)))) l = absurd (omega arith)

-- items that fail the test count nothing
filtered : {A : Type 0} (f : A → ℕ) (p : A → Bool) (xs : List A) → sum_by f (filter p xs) ≡ sum_by (λ x. if p x then f x else 0) xs
filtered f p [] = refl
filtered {A} f p (x ∷ xs) = go (p x) refl (filtered f p xs)
  where
    g : A → ℕ
    g y = if p y then f y else 0

    go : (b : Bool) → p x ≡ b → sum_by f (filter p xs) ≡ sum_by g xs → sum_by f (filter p (x ∷ xs)) ≡ sum_by g (x ∷ xs)
    go true e r =
        let kept : filter p (x ∷ xs) ≡ x ∷ filter p xs = ap (λ b. cond b (x ∷ filter p xs) (filter p xs)) e in
        let here : g x ≡ f x = ap (λ b. if b then f x else 0) e in
        ap (sum_by f) kept ∙ sum_by-cons f x (filter p xs) ∙ (λ i. sym here i + r i) ∙ sym (sum_by-cons g x xs)
    go false e r =
        let gone : filter p (x ∷ xs) ≡ filter p xs = ap (λ b. cond b (x ∷ filter p xs) (filter p xs)) e in
        let here : g x ≡ 0 = ap (λ b. if b then f x else 0) e in
        let more : sum_by g (x ∷ xs) ≡ g x + sum_by g xs = sum_by-cons g x xs in
        ap (sum_by f) gone ∙ r ∙ omega arith

pub arcs_are : (rows : List Row) (coords : Coords) (xs : List ℕ) → arcs rows coords xs ≡ sum_by (counted_in rows coords xs) (below (length rows))
arcs_are rows coords xs =
    filtered (arcs_in coords xs) (λ x. is_first_side x (glue rows x)) (faces (length rows))
    ∙ sum_by-map (counted rows coords xs) (λ (p : ℕ × ℕ). record { tet = p.0; face = p.1 }) (pairs_of (below (length rows)) four)
    ∙ sum_by-flat_map (λ (p : ℕ × ℕ). counted rows coords xs (record { tet = p.0; face = p.1 })) (λ (t : ℕ). map (λ (f : ℕ). (t, f)) four) (below (length rows))
    ∙ sum_by_same _ (counted_in rows coords xs) (below (length rows)) (λ t m. omega arith)
