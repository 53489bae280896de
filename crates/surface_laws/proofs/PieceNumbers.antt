-- The pieces of a vector are different, and each is found at its number.
use Rattle.std.proofs.Common.{◌≡◌, ℕ, zero, suc, ◌+◌, ◌<◌, ◌≤◌, Bool, true, false, not, cond, List, [], ◌∷◌, length, get_or, map, flat_map, refl, sym, ap, ◌∙◌, subst, arith}
use Rattle.std.specs.Prelude.{◌==◌, ◌&&◌, slice_index}
use Rattle.std.specs.List.{range_with_len, position_or_len, slice_index_or}
use Rattle.std.proofs.lemmas.Bool.{and_parts, and_from, eqb-true, eq-eqb, false_from_ne_true}
use Rattle.std.proofs.lemmas.List.{get_or_default}
use Rattle.std.proofs.lemmas.List.Elements.{Contains-get_or}
use Rattle.table_definitions.specs.Lists.{below}
use Rattle.table_definitions.proofs.TableLaws.{Among, Among-map, Among-below}
use Rattle.surface_definitions.specs.Pieces.{NormalDisc, discs_of, disc_number}
use Rattle.surface_laws.specs.PieceLaws.{IsPieceOf}
use Rattle.table_definitions.proofs.DistinctLists.{AreApart, apart_append, map_apart, apart_below}
use Rattle.table_definitions.proofs.Listed.{contains_among, among_contains, Among-flat_map, map-among, flat_map-among, range-among, below-among}

abbrev pub piece_at : ℕ → ℕ → NormalDisc
piece_at c j = record { column = c; number = j }

-- a piece that is read at an index that is out of range
abbrev pub no_piece : NormalDisc
no_piece = record { column = 0; number = 0 }

-- whether two pieces are equal
abbrev pub same_piece : NormalDisc → NormalDisc → Bool
same_piece p q = (p.column == q.column) && (p.number == q.number)

pub same_piece-true : (p q : NormalDisc) → same_piece p q ≡ true → p ≡ q
same_piece-true p q t =
    let b : ((p.column == q.column) ≡ true) × ((p.number == q.number) ≡ true) = and_parts (p.column == q.column) (p.number == q.number) t in
    let c : p.column ≡ q.column = eqb-true p.column q.column b.0 in
    let n : p.number ≡ q.number = eqb-true p.number q.number b.1 in
    λ i. record { column = c i; number = n i }

module _ (xs : List ℕ) where
  abbrev pub of_column : ℕ → List NormalDisc
  of_column c = map (λ j. piece_at c j) (below (slice_index xs c))

  column_of : (c : ℕ) (p : NormalDisc) → Among p (of_column c) → p.column ≡ c
  column_of c p h = ap (λ (q : NormalDisc). q.column) (map-among (λ j. piece_at c j) p (below (slice_index xs c)) h).2

  pieces_apart : (a n : ℕ) → AreApart (flat_map of_column (range_with_len a n))
  pieces_apart a zero = tt
  pieces_apart a (suc n) =
      apart_append (of_column a) (flat_map of_column (range_with_len (a + 1) n))
      (map_apart (λ j. piece_at a j) (below (slice_index xs a)) (apart_below (slice_index xs a)) (λ i j u v e. ap (λ (q : NormalDisc). q.number) e))
      (pieces_apart (a + 1) n)
      (λ p i j.
      let m : (c : ℕ) × Among c (range_with_len (a + 1) n) × Among p (of_column c) = flat_map-among of_column p (range_with_len (a + 1) n) j in
      let later : a + 1 ≤ m.0 = (range-among m.0 (a + 1) n m.1).0 in
      let here : p.column ≡ a = column_of a p i in
      let there : p.column ≡ m.0 = column_of m.0 p m.2 in
      absurd (omega arith))

  position_apart : (ps : List NormalDisc) (i : ℕ) (d : NormalDisc) → AreApart ps → i < length ps → position_or_len (λ r. same_piece r (get_or ps i d)) ps ≡ i
  position_apart [] i d a l = absurd (omega arith)
  position_apart (p ∷ ps) zero d a l =
      let same : same_piece p p ≡ true = and_from (p.column == p.column) (p.number == p.number) (eq-eqb p.column p.column refl) (eq-eqb p.number p.number refl) in
      ap (λ b. cond (not b) (1 + position_or_len (λ r. same_piece r p) ps) 0) same
  position_apart (p ∷ ps) (suc i) d a l =
      let q : NormalDisc = get_or ps i d in
      let li : i < length ps = omega arith in
      let other : same_piece p q ≡ false = false_from_ne_true (same_piece p q) (λ t. a.0 (subst (λ (r : NormalDisc). Among r ps) (sym (same_piece-true p q t)) (among_contains q ps (Contains-get_or ps i d li)))) in
      ap (λ b. cond (not b) (1 + position_or_len (λ r. same_piece r q) ps) 0) other ∙ ap (λ k. 1 + k) (position_apart ps i d a.1 li) ∙ omega arith

  -- the number of the piece with a given index is this index
  pub number-piece : (i : ℕ) (d : NormalDisc) → i < length (discs_of xs) → disc_number xs (slice_index_or (discs_of xs) i d) ≡ i
  number-piece i d l = position_apart (discs_of xs) i d (pieces_apart 0 (length xs)) l

  -- the piece with the number of p in the list is p
  pub record IsFound (p : NormalDisc) : Type 0 where
    pub in_range : disc_number xs p < length (discs_of xs)
    pub there : slice_index_or (discs_of xs) (disc_number xs p) no_piece ≡ p

  pub among_pieces : (p : NormalDisc) → IsPieceOf xs p → Among p (discs_of xs)
  among_pieces p h =
      Among-flat_map of_column p.column p (below (length xs)) (Among-below p.column (length xs) h.column)
      (Among-map (λ j. piece_at p.column j) p.number (below (slice_index xs p.column)) (Among-below p.number (slice_index xs p.column) h.number))

  pub piece_found : (p : NormalDisc) → IsPieceOf xs p → IsFound p
  piece_found p h =
      let c : (k : ℕ) × (k < length (discs_of xs)) × (slice_index_or (discs_of xs) k p ≡ p) = contains_among p (discs_of xs) (among_pieces p h) in
      let number : disc_number xs p ≡ c.0 = ap (disc_number xs) (sym c.2) ∙ number-piece c.0 p c.1 in
      record {
        in_range = subst (λ k. k < length (discs_of xs)) (sym number) c.1;
        there = ap (λ k. slice_index_or (discs_of xs) k no_piece) number ∙ get_or_default (discs_of xs) c.0 no_piece p c.1 ∙ c.2;
      }

-- the pieces in the list of all are those of the vector
pub listed_piece : (xs : List ℕ) (i : ℕ) (d : NormalDisc) → i < length (discs_of xs) → IsPieceOf xs (slice_index_or (discs_of xs) i d)
listed_piece xs i d l =
    let q : NormalDisc = slice_index_or (discs_of xs) i d in
    let m : (c : ℕ) × Among c (below (length xs)) × Among q (of_column xs c) = flat_map-among (of_column xs) q (below (length xs)) (among_contains q (discs_of xs) (Contains-get_or (discs_of xs) i d l)) in
    let n : (j : ℕ) × Among j (below (slice_index xs m.0)) × (q ≡ piece_at m.0 j) = map-among (piece_at m.0) q (below (slice_index xs m.0)) m.2 in
    subst (IsPieceOf xs) (sym n.2) (record { column = below-among m.0 (length xs) m.1; number = below-among n.0 (slice_index xs m.0) n.1 })
