-- What a component has in each column, counted over the pieces of that column.
use Rattle.std.proofs.Common.{◌≡◌, ℕ, ◌+◌, ◌<◌, ◌≤◌, cond, List, [], ◌∷◌, length, get_or, inl, inr, refl, sym, ap, ◌∙◌, arith, ext_get_or}
use Rattle.std.specs.Prelude.{◌==◌, ◌&&◌, slice_index, sum_by, count_by}
use Rattle.std.specs.List.{slice_index_or}
use Rattle.std.proofs.lemmas.Bool.{eq-eqb, ne_eqb, cases_lt}
use Rattle.std.proofs.lemmas.List.{get_or-map, get_or_past, length-map}
use Rattle.std.proofs.lemmas.List.FromFn.{length-range_with_len, get_or-range_with_len}
use Rattle.std.proofs.lemmas.List.Sums.{sum_by-cons}
use Rattle.table_definitions.specs.Lists.{below}
use Rattle.table_definitions.specs.Table.{Row}
use Rattle.table_definitions.proofs.TableLaws.{Among}
use Rattle.surface_definitions.specs.declared.Coords.{Coords}
use Rattle.surface_definitions.specs.Pieces.{NormalDisc, discs_of, disc_number, is_counted, component_vector, AreComponents}
use Rattle.surface_laws.proofs.Counting.{sum_by_same, sum_by-none, sum_by-map, sum_by-flat_map, sum_swap, one_term, over_places}
use Rattle.table_definitions.proofs.Listed.{below-among}
use Rattle.surface_laws.proofs.PieceNumbers.{piece_at, no_piece, of_column, number-piece, IsFound, piece_found}

-- 1 for a piece of the component, and else 0
abbrev pub belongs : List ℕ → List ℕ → ℕ → NormalDisc → ℕ
belongs xs components i p = cond (slice_index components (disc_number xs p) == i) 1 0

-- the number of the column's pieces in the component
abbrev pub in_column : List ℕ → List ℕ → ℕ → ℕ → ℕ
in_column xs components i c = sum_by (λ j. belongs xs components i (piece_at c j)) (below (slice_index xs c))

module _ (xs components : List ℕ) (one_each : length components ≡ length (discs_of xs)) (i : ℕ) where
  of_both : ℕ → NormalDisc → ℕ
  of_both c p = cond ((p.column == c) && (slice_index components (disc_number xs p) == i)) 1 0

  at_column : (c : ℕ) → c < length xs → slice_index (component_vector xs components i) c ≡ count_by (is_counted xs components i c) (below (length components))
  at_column c l =
      let inside : c < length (below (length xs)) = omega (arith, length-range_with_len 0 (length xs)) in
      let at : get_or (below (length xs)) c 0 ≡ c = get_or-range_with_len 0 (length xs) c 0 l ∙ omega arith in
      get_or-map (λ c. count_by (is_counted xs components i c) (below (length components))) (below (length xs)) c 0 0 inside
      ∙ ap (λ k. count_by (is_counted xs components i k) (below (length components))) at

  over_pieces : (c : ℕ) → count_by (is_counted xs components i c) (below (length components)) ≡ sum_by (of_both c) (discs_of xs)
  unfolding of_both
  over_pieces c =
      ap (λ n. count_by (is_counted xs components i c) (below n)) one_each
      ∙ over_places (of_both c) (λ k. cond (is_counted xs components i c k) 1 0) no_piece (discs_of xs)
      (λ k l. ap (λ m. cond (((slice_index_or (discs_of xs) k no_piece).column == c) && (slice_index components m == i)) 1 0) (sym (number-piece xs k no_piece l)))

  by_columns : (c : ℕ) → sum_by (of_both c) (discs_of xs) ≡ sum_by (λ d. sum_by (λ j. of_both c (piece_at d j)) (below (slice_index xs d))) (below (length xs))
  by_columns c =
      sum_by-flat_map (of_both c) (of_column xs) (below (length xs))
      ∙ sum_by_same (λ d. sum_by (of_both c) (of_column xs d)) (λ d. sum_by (λ j. of_both c (piece_at d j)) (below (slice_index xs d))) (below (length xs))
      (λ d m. sum_by-map (of_both c) (λ j. piece_at d j) (below (slice_index xs d)))

  elsewhere : (c d : ℕ) → (d ≡ c → ⊥) → sum_by (λ j. of_both c (piece_at d j)) (below (slice_index xs d)) ≡ 0
  unfolding of_both
  elsewhere c d separate =
      sum_by-none (λ j. of_both c (piece_at d j)) (below (slice_index xs d))
      (λ j m. ap (λ b. cond (b && (slice_index components (disc_number xs (piece_at d j)) == i)) 1 0) (ne_eqb d c separate))

  here : (c : ℕ) → sum_by (λ j. of_both c (piece_at c j)) (below (slice_index xs c)) ≡ in_column xs components i c
  unfolding of_both
  here c =
      sum_by_same (λ j. of_both c (piece_at c j)) (λ j. belongs xs components i (piece_at c j)) (below (slice_index xs c))
      (λ j m. ap (λ b. cond (b && (slice_index components (disc_number xs (piece_at c j)) == i)) 1 0) (eq-eqb c c refl))

  pub component_entry : (c : ℕ) → c < length xs → slice_index (component_vector xs components i) c ≡ in_column xs components i c
  component_entry c l =
      at_column c l ∙ over_pieces c ∙ by_columns c
      ∙ one_term (λ d. sum_by (λ j. of_both c (piece_at d j)) (below (slice_index xs d))) c (length xs) (λ d separate. elsewhere c d separate) l ∙ here c

  pub component_width : length (component_vector xs components i) ≡ length xs
  component_width = length-map (below (length xs)) (λ c. count_by (is_counted xs components i c) (below (length components))) ∙ length-range_with_len 0 (length xs)

  pub component_past : (c : ℕ) → length xs ≤ c → slice_index (component_vector xs components i) c ≡ 0
  component_past c l = get_or_past (component_vector xs components i) c 0 (omega (arith, component_width))

  -- beyond the last column both are 0
  pub component_count : (c : ℕ) → slice_index (component_vector xs components i) c ≡ in_column xs components i c
  component_count c = elim (cases_lt c (length xs)) [
    | inl l ↦ component_entry c l
    | inr exceeded ↦ component_past c exceeded ∙ ap (λ m. sum_by (λ j. belongs xs components i (piece_at c j)) (below m)) (sym (get_or_past xs c 0 exceeded))
  ]

  -- if the vector is 0 in a column, the component's vector is
  pub component_inside : (c : ℕ) → slice_index xs c ≡ 0 → slice_index (component_vector xs components i) c ≡ 0
  component_inside c z = component_count c ∙ ap (λ m. sum_by (λ j. belongs xs components i (piece_at c j)) (below m)) z

sum_of_ones : (f : ℕ → ℕ) (ks : List ℕ) → ((k : ℕ) → Among k ks → f k ≡ 1) → sum_by f ks ≡ length ks
sum_of_ones f [] h = refl
sum_of_ones f (k ∷ ks) h =
    let more : sum_by f ks ≡ length ks = sum_of_ones f ks (λ j m. h j (inr m)) in
    omega (arith, sum_by-cons f k ks, h k (inl refl))

pub components_add_up : (rows : List Row) (coords : Coords) (xs components : List ℕ) (count : ℕ) → AreComponents rows coords xs components count
    → (c : ℕ) → sum_by (λ i. slice_index (component_vector xs components i) c) (below count) ≡ slice_index xs c
components_add_up rows coords xs components count h c = elim (cases_lt c (length xs)) [
  | inl l ↦ sum_by_same (λ i. slice_index (component_vector xs components i) c) (λ i. in_column xs components i c) (below count) (λ i m. component_entry xs components h.one_each i c l)
      ∙ sum_swap (λ i j. belongs xs components i (piece_at c j)) (below count) (below (slice_index xs c))
      ∙ sum_of_ones (λ j. sum_by (λ i. belongs xs components i (piece_at c j)) (below count)) (below (slice_index xs c)) (λ j m. in_one c j l (below-among j (slice_index xs c) m))
      ∙ length-range_with_len 0 (slice_index xs c)
  | inr exceeded ↦ sum_by-none (λ i. slice_index (component_vector xs components i) c) (below count) (λ i m. component_past xs components h.one_each i c exceeded) ∙ sym (get_or_past xs c 0 exceeded)
]
  where
    in_one : (c j : ℕ) → c < length xs → j < slice_index xs c → sum_by (λ i. belongs xs components i (piece_at c j)) (below count) ≡ 1
    in_one c j l m =
        let f : IsFound xs (piece_at c j) = piece_found xs (piece_at c j) (record { column = l; number = m }) in
        let k : ℕ = slice_index components (disc_number xs (piece_at c j)) in
        let lk : k < count = h.in_range (disc_number xs (piece_at c j)) f.in_range in
        one_term (λ i. cond (k == i) 1 0) k count (λ i separate. ap (λ b. cond b 1 0) (ne_eqb k i (λ e. separate (sym e)))) lk ∙ ap (λ b. cond b 1 0) (eq-eqb k k refl)

-- one component is the whole
pub one_is_whole : (rows : List Row) (coords : Coords) (xs components : List ℕ) (count : ℕ) → AreComponents rows coords xs components count → count ≡ 1 → component_vector xs components 0 ≡ xs
one_is_whole rows coords xs components count numbered one = ext_get_or 0 (component_vector xs components 0) xs (component_width xs components numbered.one_each 0) (λ i l. at i)
  where
    at : (i : ℕ) → slice_index (component_vector xs components 0) i ≡ slice_index xs i
    at i =
        let first : sum_by (λ j. slice_index (component_vector xs components j) i) (0 ∷ []) ≡ slice_index (component_vector xs components 0) i + 0 = sum_by-cons (λ j. slice_index (component_vector xs components j) i) 0 [] in
        let all : sum_by (λ j. slice_index (component_vector xs components j) i) (below count) ≡ slice_index xs i = components_add_up rows coords xs components count numbered i in
        let same : sum_by (λ j. slice_index (component_vector xs components j) i) (below 1) ≡ slice_index xs i = ap (λ m. sum_by (λ j. slice_index (component_vector xs components j) i) (below m)) (sym one) ∙ all in
        omega arith
