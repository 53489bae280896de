-- The sides of the triangles of a link, by numbers: side k lies at vertex k / 4, in face k % 4 of its tetrahedron.
use Rattle.std.proofs.Common.{◌≡◌, ℕ, zero, suc, ◌+◌, ◌*◌, ◌/◌, ◌%◌, ◌<◌, Bool, true, false, cond, List, length, map, refl, sym, ap, ◌∙◌, arith}
use Rattle.std.specs.Prelude.{◌==◌, ◌&&◌, not, count_by, sum_by, slice_index}
use Rattle.basic_lemmas.proofs.Truths.{one_if}
use Rattle.table_definitions.specs.Lists.{below, times_in}
use Rattle.table_definitions.specs.Permutation.{others}
use Rattle.table_definitions.specs.Table.{Row, Face, glue}
use Rattle.table_definitions.specs.Classes.{members}
use Rattle.table_definitions.specs.Places.{is_boundary}
use Rattle.table_definitions.proofs.Faces.{face_at}
use Rattle.table_definitions.proofs.Listed.{below-among}
use Rattle.skeleton_definitions.specs.Links.{sides, is_first_side, link_edges}
use Rattle.surface_laws.proofs.Counting.{sum_by_same, sum_by-map, sum_by-flat_map, over_places}
use Rattle.surface_laws.proofs.Sums.{sum_by_plus}
use Rattle.skeleton_laws.proofs.Sums.{sum_by-filter, sum_blocks, sum_if, both_if, and_if}

abbrev pub side_face : ℕ → Face
side_face k = face_at (k / 4 / 4) (k % 4)

unfoldable pub is_side : List ℕ → ℕ → ℕ → Bool
is_side classes c k = not (k % 4 == k / 4 % 4) && (slice_index classes (k / 4) == c)

unfoldable pub first_side : List Row → List ℕ → ℕ → ℕ → Bool
first_side rows classes c k = is_side classes c k && is_first_side (side_face k) (glue rows (side_face k))

unfoldable pub free_side : List Row → List ℕ → ℕ → ℕ → Bool
free_side rows classes c k = is_side classes c k && is_boundary rows (side_face k)

module _ (classes : List ℕ) (c : ℕ) where
  -- a sum over all sides
  sum_sides : (G : Face → ℕ) → sum_by G (sides classes c) ≡ sum_by (λ k. one_if (is_side classes c k) * G (side_face k)) (below (4 * length classes))
  unfolding is_side
  sum_sides G =
      sum_by-flat_map G (λ i. map (λ f. face_at (i / 4) f) (others (i % 4))) (members classes c)
      ∙ sum_by-filter (λ i. sum_by G (map (λ f. face_at (i / 4) f) (others (i % 4)))) (λ i. slice_index classes i == c) (below (length classes))
      ∙ sum_by_same (λ i. one_if (slice_index classes i == c) * sum_by G (map (λ f. face_at (i / 4) f) (others (i % 4))))
      (λ i. sum_by (λ f. one_if (is_side classes c (4 * i + f)) * G (side_face (4 * i + f))) (below 4)) (below (length classes)) (λ i a. each i)
      ∙ sym (sum_blocks (λ k. one_if (is_side classes c k) * G (side_face k)) 4 (length classes))
    where
      term : (i f : ℕ) → f < 4 → one_if (slice_index classes i == c) * (one_if (not (f == i % 4)) * G (face_at (i / 4) f)) ≡ one_if (is_side classes c (4 * i + f)) * G (side_face (4 * i + f))
      term i f l =
          let q : (4 * i + f) / 4 ≡ i = omega arith in
          let r : (4 * i + f) % 4 ≡ f = omega arith in
          both_if (not (f == i % 4)) (slice_index classes i == c) (G (face_at (i / 4) f))
          ∙ (λ j. one_if (not (sym r j == sym q j % 4) && (slice_index classes (sym q j) == c)) * G (face_at (sym q j / 4) (sym r j)))

      each : (i : ℕ) → one_if (slice_index classes i == c) * sum_by G (map (λ f. face_at (i / 4) f) (others (i % 4))) ≡ sum_by (λ f. one_if (is_side classes c (4 * i + f)) * G (side_face (4 * i + f))) (below 4)
      each i =
          ap (λ m. one_if (slice_index classes i == c) * m) (sum_by-map G (λ f. face_at (i / 4) f) (others (i % 4)) ∙ sum_by-filter (λ f. G (face_at (i / 4) f)) (λ f. not (f == i % 4)) (below 4))
          ∙ sum_if (slice_index classes i == c) (λ f. one_if (not (f == i % 4)) * G (face_at (i / 4) f)) (below 4)
          ∙ sum_by_same (λ f. one_if (slice_index classes i == c) * (one_if (not (f == i % 4)) * G (face_at (i / 4) f))) (λ f. one_if (is_side classes c (4 * i + f)) * G (side_face (4 * i + f))) (below 4)
          (λ f a. term i f (below-among f 4 a))

  count_sides : (P : Face → Bool) → count_by P (sides classes c) ≡ count_by (λ k. is_side classes c k && P (side_face k)) (below (4 * length classes))
  count_sides P = sum_sides (λ x. one_if (P x)) ∙ sum_by_same (λ k. one_if (is_side classes c k) * one_if (P (side_face k))) (λ k. one_if (is_side classes c k && P (side_face k))) (below (4 * length classes))
      (λ k a. and_if (is_side classes c k) (P (side_face k)))

  pub edges_are : (rows : List Row) → link_edges rows classes c ≡ count_by (first_side rows classes c) (below (4 * length classes))
  unfolding first_side
  edges_are rows = count_sides (λ x. is_first_side x (glue rows x))

  pub frees_are : (rows : List Row) → count_by (is_boundary rows) (sides classes c) ≡ count_by (free_side rows classes c) (below (4 * length classes))
  unfolding free_side
  frees_are rows = count_sides (is_boundary rows)

  pub times_are : times_in classes c ≡ count_by (λ i. slice_index classes i == c) (below (length classes))
  times_are = sym (over_places (λ m. cond (m == c) 1 0) (λ i. cond (slice_index classes i == c) 1 0) 0 classes (λ i l. refl))

  -- three sides of each triangle
  three_of : (v : ℕ) → v < 4 → (b : Bool) → sum_by (λ f. one_if (not (f == v) && b)) (below 4) ≡ one_if b + (one_if b + one_if b)
  three_of zero l true = refl
  three_of zero l false = refl
  three_of (suc zero) l true = refl
  three_of (suc zero) l false = refl
  three_of (suc (suc zero)) l true = refl
  three_of (suc (suc zero)) l false = refl
  three_of (suc (suc (suc zero))) l true = refl
  three_of (suc (suc (suc zero))) l false = refl
  three_of (suc (suc (suc (suc v)))) l b = absurd (omega arith)

  pub three_sides : count_by (is_side classes c) (below (4 * length classes)) ≡ 3 * times_in classes c
  unfolding is_side
  three_sides =
      let x : ℕ → ℕ = λ i. one_if (slice_index classes i == c) in
      let blocks : count_by (is_side classes c) (below (4 * length classes)) ≡ sum_by (λ i. sum_by (λ f. one_if (is_side classes c (4 * i + f))) (below 4)) (below (length classes)) =
      sum_blocks (λ k. one_if (is_side classes c k)) 4 (length classes) in
      let each : sum_by (λ i. sum_by (λ f. one_if (is_side classes c (4 * i + f))) (below 4)) (below (length classes)) ≡ sum_by (λ i. x i + (x i + x i)) (below (length classes)) =
      sum_by_same (λ i. sum_by (λ f. one_if (is_side classes c (4 * i + f))) (below 4)) (λ i. x i + (x i + x i)) (below (length classes)) (λ i a. per i) in
      let two : sum_by (λ i. x i + x i) (below (length classes)) ≡ sum_by x (below (length classes)) + sum_by x (below (length classes)) = sum_by_plus x x (λ i. x i + x i) (λ i. refl) (below (length classes)) in
      let whole : sum_by (λ i. x i + (x i + x i)) (below (length classes)) ≡ sum_by x (below (length classes)) + sum_by (λ i. x i + x i) (below (length classes)) = sum_by_plus x (λ i. x i + x i) (λ i. x i + (x i + x i)) (λ i. refl) (below (length classes)) in
      let t : times_in classes c ≡ sum_by x (below (length classes)) = times_are in
      omega arith
    where
      per : (i : ℕ) → sum_by (λ f. one_if (is_side classes c (4 * i + f))) (below 4) ≡ one_if (slice_index classes i == c) + (one_if (slice_index classes i == c) + one_if (slice_index classes i == c))
      per i =
          let low : i % 4 < 4 = omega arith in
          sum_by_same (λ f. one_if (is_side classes c (4 * i + f))) (λ f. one_if (not (f == i % 4) && (slice_index classes i == c))) (below 4) (λ f a. term i f (below-among f 4 a))
          ∙ three_of (i % 4) low (slice_index classes i == c)
        where
          term : (i f : ℕ) → f < 4 → one_if (is_side classes c (4 * i + f)) ≡ one_if (not (f == i % 4) && (slice_index classes i == c))
          term i f l =
              let q : (4 * i + f) / 4 ≡ i = omega arith in
              let r : (4 * i + f) % 4 ≡ f = omega arith in
              (λ j. one_if (not (r j == q j % 4) && (slice_index classes (q j) == c)))
