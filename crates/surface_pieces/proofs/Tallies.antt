-- The vectors of the components, piece by piece.
use Rattle.std.proofs.Common.{◌≡◌, ◌≢◌, ℕ, ◌+◌, ◌<◌, ◌≤◌, inl, inr, Bool, true, false, cond, List, [], Vec, Global, length, set, slice_index, replicate, refl, sym, ap, ◌∙◌, subst, arith}
use Rattle.std.specs.Prelude.{◌==◌, ◌&&◌, count_by}
use Rattle.std.specs.List.{slice_index_or}
use Rattle.std.proofs.lemmas.Bool.{cases_eq, eq-eqb, ne_eqb}
use Rattle.std.proofs.lemmas.List.{length-set, length-map, length-replicate, map-set, get_or-map, get_or-set_same, get_or-set_other, get_or-replicate, get_or_default, same_lists}
use Rattle.std.proofs.lemmas.List.Sums.{count_by-le-length}
use Rattle.std.proofs.lemmas.List.FromFn.{length-range_with_len, get_or-range_with_len}
use Rattle.surface_vector_definitions.specs.Entries.{all_entries}
use Rattle.table_definitions.specs.Lists.{below}
use Rattle.table_definitions.proofs.ListFacts.{sum_below_next}
use Rattle.surface_definitions.specs.Pieces.{NormalDisc, discs_of, is_counted, component_vector}
use Rattle.surface_laws.proofs.PieceNumbers.{no_piece}
use Rattle.surface_pieces.specs.Vectors.{AreVectors}
use Rattle.basic_lemmas.proofs.Truths.{one_if}

-- how many of the first n pieces of component i are in column c
abbrev pub tally : List ℕ → List ℕ → ℕ → ℕ → ℕ → ℕ
tally xs components n i c = count_by (is_counted xs components i c) (below n)

pub record IsTally (xs components : List ℕ) (n i : ℕ) (ys : List ℕ) : Type 0 where
  pub width : length ys ≡ length xs
  pub entry : (c : ℕ) → c < length xs → slice_index ys c ≡ tally xs components n i c

pub record AreTallies (xs components : List ℕ) (count n : ℕ) (vectors : List (Vec ℕ Global)) : Type 0 where
  pub size : length vectors ≡ count
  pub each : (i : ℕ) → i < count → IsTally xs components n i (slice_index_or (all_entries vectors) i [])

module _ (xs components : List ℕ) where
  abbrev piece : ℕ → NormalDisc
  piece n = slice_index_or (discs_of xs) n no_piece

  tally_next : (n i c : ℕ) → tally xs components (n + 1) i c ≡ tally xs components n i c + one_if (((piece n).column == c) && (slice_index components n == i))
  tally_next n i c = sum_below_next (λ k. cond (is_counted xs components i c k) 1 0) n

  pub tally_low : (n i c : ℕ) → tally xs components n i c ≤ n
  tally_low n i c = omega (arith, count_by-le-length (is_counted xs components i c) (below n), length-range_with_len 0 n)

  no_and : (b : Bool) → one_if (b && false) ≡ 0
  no_and true = refl
  no_and false = refl

  -- the vectors of other components do not change
  tally_elsewhere : (n i : ℕ) (ys : List ℕ) → i ≢ slice_index components n → IsTally xs components n i ys → IsTally xs components (n + 1) i ys
  tally_elsewhere n i ys separate t = record {
    width = t.width;
    entry = λ c l.
        let zero_more : one_if (((piece n).column == c) && (slice_index components n == i)) ≡ 0 =
        ap (λ b. one_if (((piece n).column == c) && b)) (ne_eqb (slice_index components n) i (λ e. separate (sym e))) ∙ no_and ((piece n).column == c) in
        t.entry c l ∙ omega (arith, tally_next n i c);
  }

  -- the vector of the piece's own component is greater by 1 in the piece's column
  tally_here : (n : ℕ) (ys : List ℕ) → (piece n).column < length xs → IsTally xs components n (slice_index components n) ys
      → IsTally xs components (n + 1) (slice_index components n) (set ys (piece n).column (slice_index ys (piece n).column + 1))
  tally_here n ys inside t = record {
    width = length-set ys d (slice_index ys d + 1) ∙ t.width;
    entry = λ c l. elim (cases_eq c d) [
      | inl at ↦ (let one : one_if ((d == c) && (k == k)) ≡ 1 = (λ j. one_if (eq-eqb d c (sym at) j && eq-eqb k k refl j)) in
          let more : tally xs components (n + 1) k c ≡ tally xs components n k c + one_if ((d == c) && (k == k)) = tally_next n k c in
          ap (slice_index (set ys d (slice_index ys d + 1))) at ∙ get_or-set_same ys d (slice_index ys d + 1) 0 (omega (arith, t.width))
          ∙ ap (λ j. slice_index ys j + 1) (sym at) ∙ ap (λ j. j + 1) (t.entry c l) ∙ omega arith)
      | inr separate ↦ (let none : one_if ((d == c) && (k == k)) ≡ 0 = ap (λ b. one_if (b && (k == k))) (ne_eqb d c (λ e. separate (sym e))) in
          let more : tally xs components (n + 1) k c ≡ tally xs components n k c + one_if ((d == c) && (k == k)) = tally_next n k c in
          get_or-set_other ys d c (slice_index ys d + 1) 0 separate ∙ t.entry c l ∙ omega arith)
    ];
  }
    where
      d : ℕ
      d = (piece n).column

      k : ℕ
      k = slice_index components n

  module _ (count : ℕ) where
    pub tallies_start : (vectors : List (Vec ℕ Global)) → all_entries vectors ≡ replicate count (replicate (length xs) 0) → AreTallies xs components count 0 vectors
    tallies_start vectors e = record {
      size = sym (length-map vectors (λ (v : Vec ℕ Global). v.items)) ∙ ap (λ (ys : List (List ℕ)). length ys) e ∙ length-replicate count (replicate (length xs) 0);
      each = λ i l. subst (IsTally xs components 0 i) (sym (ap (λ (ys : List (List ℕ)). slice_index_or ys i []) e ∙ get_or-replicate count i (replicate (length xs) 0) [] l)) (record {
        width = length-replicate (length xs) 0;
        entry = λ c lc. get_or-replicate (length xs) c 0 0 lc;
      });
    }

    -- the vector of the piece's component, as it is stored
    pub held : (n : ℕ) (vectors : List (Vec ℕ Global)) (v : Vec ℕ Global) → AreTallies xs components count n vectors → slice_index components n < count → v ≡ slice_index_or vectors (slice_index components n) v
        → IsTally xs components n (slice_index components n) v.items
    held n vectors v t l e =
        let inside : slice_index components n < length vectors = let s = t.size in omega arith in
        subst (IsTally xs components n (slice_index components n))
        (get_or-map (λ (w : Vec ℕ Global). w.items) vectors (slice_index components n) v [] inside ∙ ap (λ (w : Vec ℕ Global). w.items) (sym e)) (t.each (slice_index components n) l)

    pub tallies_next : (n : ℕ) (vectors : List (Vec ℕ Global)) (v w : Vec ℕ Global) → AreTallies xs components count n vectors → slice_index components n < count → (piece n).column < length xs
        → v ≡ slice_index_or vectors (slice_index components n) v → w.items ≡ set v.items (piece n).column (slice_index v.items (piece n).column + 1)
        → AreTallies xs components count (n + 1) (set vectors (slice_index components n) w)
    tallies_next n vectors v w t l inside e f = record {
      size = length-set vectors k w ∙ t.size;
      each = λ i li. subst (IsTally xs components (n + 1) i) (sym (ap (λ (ys : List (List ℕ)). slice_index_or ys i []) (map-set (λ (u : Vec ℕ Global). u.items) vectors k w))) (at i li);
    }
      where
        k : ℕ
        k = slice_index components n

        long : k < length (all_entries vectors)
        long = omega (arith, length-map vectors (λ (v : Vec ℕ Global). v.items), t.size)

        at : (i : ℕ) → i < count → IsTally xs components (n + 1) i (slice_index_or (set (all_entries vectors) k w.items) i [])
        at i li = elim (cases_eq i k) [
          | inl same ↦ subst (λ j. IsTally xs components (n + 1) j (slice_index_or (set (all_entries vectors) k w.items) j [])) (sym same)
              (subst (IsTally xs components (n + 1) k) (sym (get_or-set_same (all_entries vectors) k w.items [] long ∙ f)) (tally_here n v.items inside (held n vectors v t l e)))
          | inr separate ↦ subst (IsTally xs components (n + 1) i) (sym (get_or-set_other (all_entries vectors) k i w.items [] separate)) (tally_elsewhere n i (slice_index_or (all_entries vectors) i []) separate (t.each i li))
        ]

    pub tallies_end : (n : ℕ) (vectors : List (Vec ℕ Global)) → n ≡ length components → AreTallies xs components count n vectors → AreVectors xs components count (all_entries vectors)
    tallies_end n vectors e t = record {
      size = length-map vectors (λ (v : Vec ℕ Global). v.items) ∙ t.size;
      each = λ i l.
          let y : IsTally xs components n i (slice_index_or (all_entries vectors) i []) = t.each i l in
          same_lists (slice_index_or (all_entries vectors) i []) (component_vector xs components i)
          (y.width ∙ sym (length-map (below (length xs)) (λ c. count_by (is_counted xs components i c) (below (length components))) ∙ length-range_with_len 0 (length xs)))
          (λ c d lc. (let inside : c < length xs = let w = y.width in omega arith in
          let in_below : c < length (below (length xs)) = omega (arith, length-range_with_len 0 (length xs)) in
          get_or_default (slice_index_or (all_entries vectors) i []) c d 0 lc ∙ y.entry c inside ∙ ap (λ m. tally xs components m i c) e
          ∙ sym (get_or-map (λ c. count_by (is_counted xs components i c) (below (length components))) (below (length xs)) c 0 d in_below
          ∙ ap (λ k. count_by (is_counted xs components i k) (below (length components))) (get_or-range_with_len 0 (length xs) c 0 inside ∙ omega arith))));
    }
