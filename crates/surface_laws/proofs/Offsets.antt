-- The pieces of a column come after those of the columns before it.
use Rattle.std.proofs.Common.{◌≡◌, ℕ, zero, suc, ◌+◌, ◌<◌, ◌≤◌, List, ◌∷◌, length, get_or, take, flat_map, refl, sym, ap, ◌∙◌, arith, length-take-le, get_or-take}
use Rattle.std.specs.Prelude.{slice_index, sum_by, sum}
use Rattle.std.specs.List.{range_with_len, slice_index_or}
use Rattle.std.proofs.lemmas.List.{get_or-map, length-map}
use Rattle.std.proofs.lemmas.List.Sums.{sum_by_more_le}
use Rattle.std.proofs.lemmas.List.Concat.{length-flat_map, get_or-flat_map}
use Rattle.std.proofs.lemmas.List.FromFn.{length-range_with_len, get_or-range_with_len}
use Rattle.table_definitions.specs.Lists.{below}
use Rattle.surface_definitions.specs.Pieces.{NormalDisc, discs_of, disc_number}
use Rattle.surface_laws.specs.PieceLaws.{ArePieceNumbers}
use Rattle.surface_laws.proofs.Counting.{sum_by_same, over_places}
use Rattle.surface_laws.proofs.PieceNumbers.{piece_at, of_column, number-piece}

take_range : (a n k : ℕ) → k ≤ n → take k (range_with_len a n) ≡ range_with_len a k
take_range a n zero l = refl
take_range a zero (suc k) l = absurd (omega arith)
take_range a (suc n) (suc k) l = ap (λ ks. a ∷ ks) (take_range (a + 1) n k (omega arith))

module _ (xs : List ℕ) where
  length-column : (c : ℕ) → length (of_column xs c) ≡ slice_index xs c
  length-column c = length-map (below (slice_index xs c)) (λ j. piece_at c j) ∙ length-range_with_len 0 (slice_index xs c)

  length-columns : (ks : List ℕ) → length (flat_map (of_column xs) ks) ≡ sum_by (slice_index xs) ks
  length-columns ks = length-flat_map (of_column xs) ks ∙ sum_by_same (λ c. length (of_column xs c)) (slice_index xs) ks (λ c a. length-column c)

  sum_before : (c : ℕ) → c ≤ length xs → sum_by (slice_index xs) (below c) ≡ sum (take c xs)
  sum_before c l =
      let many : length (take c xs) ≡ c = length-take-le c xs l in
      ap (λ n. sum_by (slice_index xs) (below n)) (sym many)
      ∙ over_places (λ (k : ℕ). k) (slice_index xs) 0 (take c xs) (λ i m. sym (get_or-take c xs i 0 (omega arith)))

  length-pieces : length (discs_of xs) ≡ sum xs
  length-pieces = length-columns (below (length xs)) ∙ over_places (λ (k : ℕ). k) (slice_index xs) 0 xs (λ i l. refl)

  piece_there : (c j : ℕ) (d : NormalDisc) → c < length xs → j < slice_index xs c → slice_index_or (discs_of xs) (sum (take c xs) + j) d ≡ piece_at c j
  piece_there c j d l m =
      let ks : List ℕ = below (length xs) in
      let inside : c < length ks = omega (arith, length-range_with_len 0 (length xs)) in
      let at : get_or ks c 0 ≡ c = get_or-range_with_len 0 (length xs) c 0 l ∙ omega arith in
      let column : of_column xs (get_or ks c 0) ≡ of_column xs c = ap (of_column xs) at in
      let long : length (of_column xs (get_or ks c 0)) ≡ slice_index xs c = ap (λ (ps : List NormalDisc). length ps) column ∙ length-column c in
      let before : length (flat_map (of_column xs) (take c ks)) ≡ sum (take c xs) =
      ap (λ ns. length (flat_map (of_column xs) ns)) (take_range 0 (length xs) c (omega arith)) ∙ length-columns (below c) ∙ sum_before c (omega arith) in
      let inside_too : j < length (below (slice_index xs c)) = omega (arith, length-range_with_len 0 (slice_index xs c)) in
      ap (λ k. slice_index_or (discs_of xs) (k + j) d) (sym before) ∙ get_or-flat_map (of_column xs) ks c j 0 d inside (omega arith)
      ∙ ap (λ ps. get_or ps j d) column ∙ get_or-map (λ j. piece_at c j) (below (slice_index xs c)) j 0 d inside_too
      ∙ ap (λ k. piece_at c k) (get_or-range_with_len 0 (slice_index xs c) j 0 m ∙ omega arith)

  number_there : (c j : ℕ) → c < length xs → j < slice_index xs c → sum (take c xs) + j < length (discs_of xs)
  number_there c j l m =
      let whole : sum (take c xs) + slice_index xs c ≤ sum xs = sum_by_more_le (λ (k : ℕ). k) xs c 0 l in
      omega (arith, length-pieces)

  pub piece_numbers : ArePieceNumbers xs
  piece_numbers = record {
    count = length-pieces;
    there = piece_there;
    number = λ c j l m. ap (disc_number xs) (sym (piece_there c j (piece_at c j) l m)) ∙ number-piece xs (sum (take c xs) + j) (piece_at c j) (number_there c j l m);
  }
