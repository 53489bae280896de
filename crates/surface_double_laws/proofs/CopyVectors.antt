-- The vectors of the components of m times a connected surface: as many times the surface as sheets of its first disc
-- are in the component.
use Rattle.std.proofs.Common.{◌≡◌, ◌≢◌, ℕ, zero, suc, ◌+◌, ◌-◌, ◌*◌, ◌<◌, ◌≤◌, ℤ, pos, ◌+ℤ◌, ◌-ℤ◌, ◌*ℤ◌, Bool, true, false, cond, List, length, ◌⊎◌, inl, inr, refl, sym, ap, ◌∙◌, arith}
use Rattle.std.specs.Prelude.{◌==◌, slice_index, sum, sum_by}
use Rattle.std.proofs.lemmas.Bool.{cases_eq, eq-eqb, ne_eqb}
use Rattle.std.proofs.lemmas.Int.{ints}
use borrow.Author.Differences.{up, down}
use Rattle.cone_definitions.specs.Vectors.{multiple}
use Rattle.cone_definitions.proofs.Entries.{length-multiple, entry-multiple, same_vectors}
use Rattle.table_definitions.specs.Lists.{below}
use Rattle.table_definitions.specs.Table.{Row}
use Rattle.table_definitions.proofs.Listed.{below-among}
use Rattle.skeleton_definitions.specs.Skeleton.{Skeleton}
use Rattle.skeleton_laws.proofs.Sums.{sum_blocks}
use Rattle.surface_definitions.specs.Characteristic.{points, arcs}
use Rattle.surface_definitions.specs.declared.Coords.{Coords}
use Rattle.surface_definitions.specs.Pieces.{NormalDisc, Arc, AreComponents, component_vector, IsTwoSided}
use Rattle.surface_laws.specs.PieceLaws.{IsSurface, IsPieceOf}
use Rattle.surface_laws.proofs.ArcPieces.{from_end, in_width}
use Rattle.surface_laws.proofs.ComponentCounts.{belongs, component_count, component_width}
use Rattle.surface_laws.proofs.Counting.{sum_by_same}
use Rattle.surface_laws.proofs.PieceNumbers.{piece_at}
use Rattle.surface_laws.proofs.Sums.{sum_by_plus}
use Rattle.surface_vector_definitions.specs.Properties.{characteristic}
use Rattle.surface_efficiency_laws.specs.Laws.{IsConnectedSurface}
use Rattle.surface_efficiency_laws.proofs.Measures.{arcs_linear, points_and_pieces, points_and_pieces_linear, pieces_are}
use Rattle.surface_double_laws.specs.Copies.{HasOneCopy}
use Rattle.surface_double_laws.proofs.CopiedDiscs.{copy, times_many}
use Rattle.surface_double_laws.proofs.CopyChains.{Leads}
use Rattle.surface_double_laws.proofs.CopyCounts.{first, first_piece, chain_between, loop_keeps, sheet_class, within, joined, each, loop, other_end, exchange, none_of_none}
use Rattle.surface_double_laws.proofs.DoublePieces.{double_connected}
use Rattle.surface_double_laws.proofs.SheetSums.{sum_from_end, constant_sum, only, only_there, only_off, only_sum}

once : (xs : List ℕ) → multiple 1 xs ≡ xs
once xs = same_vectors (multiple 1 xs) xs (length-multiple 1 xs) (λ j. let e : slice_index (multiple 1 xs) j ≡ 1 * slice_index xs j = entry-multiple 1 xs j in omega arith)

-- ---- components

module _ (rows : List Row) (coords : Coords) (xs : List ℕ) (w : IsSurface rows coords xs) (components : List ℕ) (one : AreComponents rows coords xs components 1) (m : ℕ) (some : 1 ≤ m) (classes : List ℕ) (count : ℕ) (are : AreComponents rows coords (multiple m xs) classes count) where
  abbrev ys : List ℕ
  ys = multiple m xs

  abbrev class_at : ℕ → ℕ
  class_at r = sheet_class rows coords xs w components one m some classes count are r

  -- 1 for a sheet on which the copy of the first disc is in component i, and else 0
  abbrev is_on : ℕ → ℕ → ℕ
  is_on i r = cond (class_at r == i) 1 0

  abbrev sheets_on : ℕ → ℕ
  sheets_on i = sum_by (is_on i) (below m)

  on_there : (i r : ℕ) → class_at r ≡ i → is_on i r ≡ 1
  on_there i r e = ap (λ b. cond b 1 0) (eq-eqb (class_at r) i e)

  on_off : (i r : ℕ) → class_at r ≢ i → is_on i r ≡ 0
  on_off i r ne = ap (λ b. cond b 1 0) (ne_eqb (class_at r) i ne)

  -- as many copies of each disc are in the component as of the first one
  copies_on : (p : NormalDisc) → IsPieceOf xs p → (i : ℕ) → sum_by (λ k. belongs (multiple m xs) classes i (copy m p k)) (below m) ≡ sheets_on i
  copies_on p h i =
      let c = chain_between rows coords xs w components one p (first rows coords xs w components one) h (first_piece rows coords xs w components one) in
      sum_by_same (λ k. belongs (multiple m xs) classes i (copy m p k)) (λ k. is_on i (from_end m c.1 k)) (below m)
      (λ k a. ap (λ z. cond (z == i) 1 0) (joined rows coords xs w components one m some classes count are p k (below-among k m a) h c.0 c.1 c.2))
      ∙ sum_from_end (is_on i) m c.1

  column_is : (i c : ℕ) → slice_index (component_vector (multiple m xs) classes i) c ≡ sheets_on i * slice_index xs c
  column_is i c =
      component_count ys classes are.one_each i c
      ∙ ap (λ n. sum_by (λ j. belongs ys classes i (piece_at c j)) (below n)) (entry-multiple m xs c)
      ∙ sum_blocks (λ j. belongs ys classes i (piece_at c j)) m (slice_index xs c)
      ∙ sum_by_same (λ t. sum_by (λ j. belongs ys classes i (piece_at c (m * t + j))) (below m)) (λ t. sheets_on i) (below (slice_index xs c))
      (λ t a. let lt : t < slice_index xs c = below-among t (slice_index xs c) a in
      copies_on (piece_at c t) (record { column = in_width xs c t lt; number = lt }) i)
      ∙ constant_sum (sheets_on i) (slice_index xs c)

  vector_is : (i n : ℕ) → sheets_on i ≡ n → component_vector (multiple m xs) classes i ≡ multiple n xs
  vector_is i n e =
      same_vectors (component_vector ys classes i) (multiple (sheets_on i) xs)
      (component_width ys classes are.one_each i ∙ length-multiple m xs ∙ sym (length-multiple (sheets_on i) xs)) (λ c. column_is i c ∙ sym (entry-multiple (sheets_on i) xs c))
      ∙ ap (λ k. multiple k xs) e

  -- a component with a single sheet
  one_sheet : (i r : ℕ) → r < m → class_at r ≡ i → ((k : ℕ) → k < m → class_at k ≡ class_at r → k ≡ r) → sheets_on i ≡ 1
  one_sheet i r l here alone =
      sum_by_same (is_on i) (only r) (below m) (λ k a. elim (cases_eq k r) [
        | inl e ↦ on_there i k (ap class_at e ∙ here) ∙ sym (ap (only r) e ∙ only_there r)
        | inr ne ↦ on_off i k (λ e. ne (alone k (below-among k m a) (e ∙ sym here))) ∙ sym (only_off r k ne)
      ])
      ∙ only_sum r m l

  -- a component with two sheets
  two_sheets : (i r t : ℕ) → r < m → t < m → r ≢ t → class_at r ≡ i → class_at t ≡ i → ((k : ℕ) → k < m → class_at k ≡ class_at r → (k ≡ r) ⊎ (k ≡ t)) → sheets_on i ≡ 2
  two_sheets i r t lr lt apart here there alone =
      sum_by_same (is_on i) (λ k. only r k + only t k) (below m) (λ k a. by_place k (below-among k m a))
      ∙ sum_by_plus (only r) (only t) (λ k. only r k + only t k) (λ k. refl) (below m)
      ∙ (let a = only_sum r m lr in let b = only_sum t m lt in omega (arith, a, b))
    where
      by_place : (k : ℕ) → k < m → is_on i k ≡ only r k + only t k
      by_place k l = elim (cases_eq k r) [
        | inl e ↦ (let on : is_on i k ≡ 1 = on_there i k (ap class_at e ∙ here) in
            let a : only r k ≡ 1 = ap (only r) e ∙ only_there r in
            let b : only t k ≡ 0 = only_off t k (λ f. apart (sym e ∙ f)) in omega (arith, on, a, b))
        | inr ne ↦ elim (cases_eq k t) [
          | inl e ↦ (let on : is_on i k ≡ 1 = on_there i k (ap class_at e ∙ there) in
              let a : only r k ≡ 0 = only_off r k ne in
              let b : only t k ≡ 1 = ap (only t) e ∙ only_there t in omega (arith, on, a, b))
          | inr nt ↦ (let on : is_on i k ≡ 0 = on_off i k (λ e. elim (alone k l (e ∙ sym here)) [ inl z ↦ ne z | inr z ↦ nt z ]) in
              let a : only r k ≡ 0 = only_off r k ne in
              let b : only t k ≡ 0 = only_off t k nt in omega (arith, on, a, b))
        ]
      ]

  -- two sheets with copies in one component are equal, or equally far from the two ends
  apart_or_opposite : (k r : ℕ) → k < m → r < m → class_at k ≡ class_at r → (k ≡ r) ⊎ (k ≡ m - 1 - r)
  apart_or_opposite k r lk lr e = by_sign (loop rows coords xs w components one m some classes count are k r lk lr e).1 (loop rows coords xs w components one m some classes count are k r lk lr e).3
    where
      by_sign : (b : Bool) → r ≡ from_end m b k → (k ≡ r) ⊎ (k ≡ m - 1 - r)
      by_sign true z = inl (sym z)
      by_sign false z = inr (omega arith)

  found_at : (i : ℕ) → i < count → (r : ℕ) × (r < m) × (class_at r ≡ i)
  found_at = each rows coords xs w components one m some classes count are

  two_sided_vector : IsTwoSided rows coords xs components 0 → (i : ℕ) → i < count → component_vector (multiple m xs) classes i ≡ xs
  two_sided_vector sides i l =
      let r = found_at i l in
      vector_is i 1 (one_sheet i r.0 r.1 r.2 (λ k lk e. let c = loop rows coords xs w components one m some classes count are k r.0 lk r.1 e in
      sym (c.3 ∙ ap (λ b. from_end m b k) (loop_keeps rows coords xs w components one sides c.0 c.1 c.2)))) ∙ once xs

  module _ (arcs : List Arc) (odd : Leads rows coords xs (first rows coords xs w components one) arcs (first rows coords xs w components one) false) where
    opposite : (r : ℕ) → r < m → class_at r ≡ class_at (m - 1 - r)
    opposite = other_end rows coords xs w components one m some classes count are arcs odd

    double_vector : (i r : ℕ) → r < m → class_at r ≡ i → r ≢ m - 1 - r → component_vector (multiple m xs) classes i ≡ multiple 2 xs
    double_vector i r l here apart =
        vector_is i 2 (two_sheets i r (m - 1 - r) l (omega arith) apart here (sym (opposite r l) ∙ here) (λ k lk e. apart_or_opposite k r lk l e))

    middle_vector : (i r : ℕ) → r < m → class_at r ≡ i → r ≡ m - 1 - r → component_vector (multiple m xs) classes i ≡ xs
    middle_vector i r l here middle =
        vector_is i 1 (one_sheet i r l here (λ k lk e. elim (apart_or_opposite k r lk l e) [ inl z ↦ z | inr z ↦ z ∙ sym middle ])) ∙ once xs

    even_vector : (k : ℕ) → m ≡ 2 * k → (i : ℕ) → i < count → component_vector (multiple m xs) classes i ≡ multiple 2 xs
    even_vector k even i l = let r = found_at i l in double_vector i r.0 r.1 r.2 (λ e. let lr = r.1 in omega (arith, e, lr, even))

    odd_vectors : (k : ℕ) → m ≡ 2 * k + 1 → HasOneCopy (multiple m xs) xs classes count
    odd_vectors k is_odd = record {
      index = class_at k;
      in_range = within rows coords xs w components one m some classes count are k (omega (arith, is_odd));
      copy = middle_vector (class_at k) k (omega (arith, is_odd)) refl (omega (arith, is_odd));
      others = λ i l ne. let r = found_at i l in double_vector i r.0 r.1 r.2 (λ e. let lr = r.1 in let z : r.0 ≡ k = omega (arith, e, lr, is_odd) in ne (sym r.2 ∙ ap class_at z));
    }

-- ---- the laws

module _ (s : Skeleton) (coords : Coords) (xs : List ℕ) where
  pub two_sided_copies : (m : ℕ) (c : IsConnectedSurface s coords xs) → IsTwoSided s.rows coords xs c.components 0
      → (components : List ℕ) (count i : ℕ) → AreComponents s.rows coords (multiple m xs) components count → i < count → component_vector (multiple m xs) components i ≡ xs
  two_sided_copies zero c sides components count i are l = absurd (let z : count ≡ 0 = none_of_none s.rows coords xs components count are in omega arith)
  two_sided_copies (suc m) c sides components count i are l = two_sided_vector s.rows coords xs c.surface c.components c.one (suc m) (omega arith) components count are sides i l

  module _ (c : IsConnectedSurface s coords xs) (sides : ¬ IsTwoSided s.rows coords xs c.components 0) where
    double : IsConnectedSurface s coords (multiple 2 xs)
    double = double_connected s coords xs c sides

    exchanging : (arcs : List Arc) × Leads s.rows coords xs (first s.rows coords xs c.surface c.components c.one) arcs (first s.rows coords xs c.surface c.components c.one) false
    exchanging = exchange s.rows coords xs c.surface c.components c.one double.components double.one

    pub even_copies : (k : ℕ) (components : List ℕ) (count i : ℕ) → AreComponents s.rows coords (multiple (2 * k) xs) components count → i < count → component_vector (multiple (2 * k) xs) components i ≡ multiple 2 xs
    even_copies zero components count i are l = absurd (let z : count ≡ 0 = none_of_none s.rows coords xs components count are in omega arith)
    even_copies (suc k) components count i are l =
        even_vector s.rows coords xs c.surface c.components c.one (2 * suc k) (omega arith) components count are exchanging.0 exchanging.1 (suc k) refl i l

    pub odd_copies : (k : ℕ) (components : List ℕ) (count : ℕ) → AreComponents s.rows coords (multiple (2 * k + 1) xs) components count → HasOneCopy (multiple (2 * k + 1) xs) xs components count
    odd_copies k components count are =
        odd_vectors s.rows coords xs c.surface c.components c.one (2 * k + 1) (omega arith) components count are exchanging.0 exchanging.1 k refl

-- ---- Euler characteristics

times_difference : (m x a : ℕ) (f : ℤ) → pos x ≡ f +ℤ pos a → pos (m * x) -ℤ pos (m * a) ≡ pos m *ℤ f
times_difference m x a f e =
    let g : x + down f ≡ up f + a = omega (arith, ints) in
    let h : m * (x + down f) ≡ m * (up f + a) = ap (λ j. m * j) g in
    omega (arith, ints, h)

pub characteristic_times : (s : Skeleton) (coords : Coords) (xs : List ℕ) (m : ℕ) → characteristic s coords (multiple m xs) ≡ pos m *ℤ characteristic s coords xs
characteristic_times s coords xs m =
    let a : sum_by (slice_index xs) (below (length xs)) ≡ sum xs = pieces_are s coords (length xs) xs refl in
    let b : sum_by (slice_index (multiple m xs)) (below (length xs)) ≡ sum (multiple m xs) = pieces_are s coords (length xs) (multiple m xs) (length-multiple m xs) in
    let c : points_and_pieces s coords (length xs) (multiple m xs) ≡ m * points_and_pieces s coords (length xs) xs = times_many m (points_and_pieces s coords (length xs)) (points_and_pieces_linear s coords (length xs)) xs in
    let d : points coords (multiple m xs) s.edges.classes s.edges.count + sum (multiple m xs) ≡ m * (points coords xs s.edges.classes s.edges.count + sum xs) = ap (λ n. points coords (multiple m xs) s.edges.classes s.edges.count + n) (sym b) ∙ c ∙ ap (λ n. m * (points coords xs s.edges.classes s.edges.count + n)) a in
    let e : arcs s.rows coords (multiple m xs) ≡ m * arcs s.rows coords xs = times_many m (λ zs. arcs s.rows coords zs) (arcs_linear s coords) xs in
    (λ i. pos (d i) -ℤ pos (e i))
    ∙ times_difference m (points coords xs s.edges.classes s.edges.count + sum xs) (arcs s.rows coords xs) (characteristic s coords xs) (omega (arith, ints))
