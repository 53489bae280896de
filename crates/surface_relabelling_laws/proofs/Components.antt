-- Discs are in one component if and only if their images are, so that components and their images correspond.
use Rattle.std.proofs.Common.{◌≡◌, ℕ, ◌/◌, ◌%◌, ◌<◌, Bool, true, false, cond, List, [], length, map, inl, inr, refl, sym, ap, ◌∙◌, subst, subst₂}
use Rattle.std.specs.Prelude.{◌==◌, slice_index, sum_by}
use Rattle.std.specs.List.{slice_index_or}
use Rattle.std.proofs.lemmas.Bool.{cases_eq, eq-eqb, ne_eqb}
use Rattle.std.proofs.lemmas.List.{length-map}
use Rattle.std.proofs.lemmas.List.FromFn.{length-range_with_len}
use Rattle.std.proofs.lemmas.List.Sorted.{length_permutation}
use Rattle.table_definitions.specs.Classes.{least}
use Rattle.table_definitions.specs.Lists.{below}
use Rattle.table_definitions.specs.Table.{Row}
use Rattle.table_definitions.specs.Relabelling.{Relabelling, IsRelabelling, Carries}
use Rattle.table_definitions.proofs.ClassLaws.{least_class}
use Rattle.table_definitions.proofs.DistinctLists.{apart_below}
use Rattle.table_definitions.proofs.Listed.{below-among}
use Rattle.table_definitions.proofs.TableLaws.{Among-below}
use Rattle.signature_laws.specs.Between.{inverted}
use Rattle.surface_definitions.specs.Coordinates.{columns_each}
use Rattle.surface_definitions.specs.declared.Coords.{Coords}
use Rattle.surface_definitions.specs.Pieces.{NormalDisc, discs_of, disc_number, ArcsLead, SamePiece, AreComponents, component_vector}
use Rattle.surface_definitions.proofs.ColumnCounts.{column_of_index}
use Rattle.surface_laws.specs.PieceLaws.{IsSurface, IsPieceOf}
use Rattle.surface_laws.proofs.ArcPieces.{from_end}
use Rattle.surface_laws.proofs.ComponentCounts.{belongs, component_count, component_width}
use Rattle.surface_laws.proofs.Counting.{sum_by_same, sum_back}
use Rattle.surface_laws.proofs.PieceNumbers.{piece_at, no_piece, number-piece, piece_found, listed_piece, IsFound}
use Rattle.surface_equation_laws.proofs.LocalArcs.{placed}
use Rattle.surface_relabelling_laws.specs.Components.{ComponentsCorrespond}
use Rattle.surface_relabelling_laws.specs.Vectors.{column_under, relabelled_vector}
use Rattle.surface_relabelling_laws.proofs.Columns.{IsCarried, column_at, one_image, relabelled_is}
use Rattle.surface_relabelling_laws.proofs.Discs.{stays, disc_under, arc_under}
use Rattle.surface_relabelling_laws.proofs.DiscsBack.{piece_image, disc_back, same_entry}
use Rattle.surface_relabelling_laws.proofs.Chains.{leads_image, disc_from, IsDiscFrom}
use Rattle.surface_relabelling_laws.proofs.Members.{AreImages, images_permute}
use Rattle.surface_relabelling_laws.proofs.Sides.{two_sided_back, orientable_back}

-- a sum that counts from the one end or the other
sum_either : (f : ℕ → ℕ) (n : ℕ) (b : Bool) → sum_by (λ j. f (from_end n b j)) (below n) ≡ sum_by f (below n)
sum_either f n true = refl
sum_either f n false = sum_back f n

module _ (rows : List Row) (new : List Row) (by : Relabelling) (is : IsRelabelling (length rows) by) (carries : Carries by rows new) (coords : Coords)
    (xs ys : List ℕ) (carried : IsCarried coords (length rows) by xs ys) (s : IsSurface rows coords xs) (s' : IsSurface new coords ys) where
  -- the index of the image of a disc
  abbrev pub index_under : ℕ → ℕ
  index_under i = disc_number ys (disc_under coords by xs (slice_index_or (discs_of xs) i no_piece))

  image_found : (i : ℕ) → i < length (discs_of xs) → IsFound ys (disc_under coords by xs (slice_index_or (discs_of xs) i no_piece))
  image_found i l = piece_found ys (disc_under coords by xs (slice_index_or (discs_of xs) i no_piece))
      (piece_image coords (length rows) by xs ys carried (slice_index_or (discs_of xs) i no_piece) (listed_piece xs i no_piece l))

  pub index_below : (i : ℕ) → i < length (discs_of xs) → index_under i < length (discs_of ys)
  index_below i l = (image_found i l).in_range

  pub disc_there : (i : ℕ) → i < length (discs_of xs) → slice_index_or (discs_of ys) (index_under i) no_piece ≡ disc_under coords by xs (slice_index_or (discs_of xs) i no_piece)
  disc_there i l = (image_found i l).there

  pub joined_there : (i j : ℕ) → i < length (discs_of xs) → j < length (discs_of xs) → SamePiece rows coords xs i j → SamePiece new coords ys (index_under i) (index_under j)
  joined_there i j li lj chain = (
    map (arc_under by) chain.0,
    subst₂ (λ (p q : NormalDisc). ArcsLead new coords ys p (map (arc_under by) chain.0) q) (sym (disc_there i li)) (sym (disc_there j lj))
        (leads_image rows new by is carries coords xs ys carried s s' chain.0 _ _ chain.1),
  )

  -- each disc is the image of one
  pub index_from : (k : ℕ) → k < length (discs_of ys) → (i : ℕ) × (i < length (discs_of xs)) × (index_under i ≡ k)
  index_from k l =
      let f : IsDiscFrom rows new by is carries coords xs ys carried s s' (slice_index_or (discs_of ys) k no_piece) =
      disc_from rows new by is carries coords xs ys carried s s' (slice_index_or (discs_of ys) k no_piece) (listed_piece ys k no_piece l) in
      let g : IsFound xs f.source = piece_found xs f.source f.is_disc in
      (disc_number xs f.source, g.in_range, ap (λ (d : NormalDisc). disc_number ys (disc_under coords by xs d)) g.there ∙ ap (disc_number ys) f.to_it ∙ number-piece ys k no_piece l)

module _ (rows : List Row) (new : List Row) (by : Relabelling) (is : IsRelabelling (length rows) by) (carries : Carries by rows new) (is' : IsRelabelling (length new) (inverted (length rows) by))
    (carries' : Carries (inverted (length rows) by) new rows) (coords : Coords) (xs ys : List ℕ) (carried : IsCarried coords (length rows) by xs ys) (carried' : IsCarried coords (length new) (inverted (length rows) by) ys xs)
    (s : IsSurface rows coords xs) (s' : IsSurface new coords ys) where
  abbrev there : ℕ → ℕ
  there i = disc_number ys (disc_under coords by xs (slice_index_or (discs_of xs) i no_piece))

  abbrev home : ℕ → ℕ
  home k = disc_number xs (disc_under coords (inverted (length rows) by) ys (slice_index_or (discs_of ys) k no_piece))

  low : (i : ℕ) → i < length (discs_of xs) → there i < length (discs_of ys)
  low i l = index_below rows new by is carries coords xs ys carried s s' i l

  home_again : (i : ℕ) → i < length (discs_of xs) → home (there i) ≡ i
  home_again i l =
      ap (λ (d : NormalDisc). disc_number xs (disc_under coords (inverted (length rows) by) ys d)) (disc_there rows new by is carries coords xs ys carried s s' i l)
      ∙ ap (disc_number xs) (disc_back coords (length rows) by xs ys carried is (slice_index_or (discs_of xs) i no_piece) (listed_piece xs i no_piece l)) ∙ number-piece xs i no_piece l

  joined_home : (i j : ℕ) → i < length (discs_of xs) → j < length (discs_of xs) → SamePiece new coords ys (there i) (there j) → SamePiece rows coords xs i j
  joined_home i j li lj chain =
      subst₂ (SamePiece rows coords xs) (home_again i li) (home_again j lj)
      (joined_there new rows (inverted (length rows) by) is' carries' coords ys xs carried' s' s (there i) (there j) (low i li) (low j lj) chain)

  module _ (components others : List ℕ) (count amount : ℕ) (one : AreComponents rows coords xs components count) (other : AreComponents new coords ys others amount) where
    abbrev first : ℕ → ℕ
    first c = least components c

    first_is : (c : ℕ) → c < count → (first c < length (discs_of xs)) × (slice_index components (first c) ≡ c)
    first_is c l = least_class (length (discs_of xs)) (SamePiece rows coords xs) components count one c l

    -- the component of the images of a component's discs
    abbrev pub to : ℕ → ℕ
    to c = slice_index others (there (first c))

    pub to_below : (c : ℕ) → c < count → to c < amount
    to_below c l = other.in_range (there (first c)) (low (first c) (first_is c l).0)

    -- the image of a disc is of the image of its component
    to_index : (i : ℕ) → i < length (discs_of xs) → slice_index others (there i) ≡ to (slice_index components i)
    to_index i l =
        let f = first_is (slice_index components i) (one.in_range i l) in
        sym ((other.together (there (first (slice_index components i))) (there i) (low (first (slice_index components i)) f.0) (low i l)).1
        (joined_there rows new by is carries coords xs ys carried s s' (first (slice_index components i)) i f.0 l ((one.together (first (slice_index components i)) i f.0 l).0 f.1)))

    pub to_once : (c d : ℕ) → c < count → d < count → to c ≡ to d → c ≡ d
    to_once c d lc ld e =
        let f = first_is c lc in
        let g = first_is d ld in
        sym f.1
        ∙ (one.together (first c) (first d) f.0 g.0).1 (joined_home (first c) (first d) f.0 g.0 ((other.together (there (first c)) (there (first d)) (low (first c) f.0) (low (first d) g.0)).0 e))
        ∙ g.1

    -- by the disc itself
    pub to_disc : (d : NormalDisc) → IsPieceOf xs d → slice_index others (disc_number ys (disc_under coords by xs d)) ≡ to (slice_index components (disc_number xs d))
    to_disc d h =
        let f : IsFound xs d = piece_found xs d h in
        ap (λ (z : NormalDisc). slice_index others (disc_number ys (disc_under coords by xs z))) (sym f.there) ∙ to_index (disc_number xs d) f.in_range

    pub as_many : count ≡ amount
    as_many =
        sym (length-range_with_len 0 count) ∙ sym (length-map (below count) to)
        ∙ sym (length_permutation (map to (below count)) (below amount) (images_permute to (below count) (below amount) images)) ∙ length-range_with_len 0 amount
      where
        images : AreImages to (below count) (below amount)
        images = record {
          separate = apart_below count;
          others_apart = apart_below amount;
          into = λ c a. Among-below (to c) amount (to_below c (below-among c count a));
          once = λ c d a b e. to_once c d (below-among c count a) (below-among d count b) e;
          from = λ k a.
              let m = other.none_empty k (below-among k amount a) in
              let f = index_from rows new by is carries coords xs ys carried s s' m.0 m.1 in
              (slice_index components f.0, Among-below (slice_index components f.0) count (one.in_range f.0 f.1), sym (to_index f.0 f.1) ∙ ap (slice_index others) f.2 ∙ m.2);
        }

    -- whether two components are equal, and whether their images are
    equal_there : (c d : ℕ) → c < count → d < count → (to d == to c) ≡ (d == c)
    equal_there c d lc ld = elim (cases_eq d c) [
      | inl e ↦ eq-eqb (to d) (to c) (ap to e) ∙ sym (eq-eqb d c e)
      | inr ne ↦ ne_eqb (to d) (to c) (λ e. ne (to_once d c ld lc e)) ∙ sym (ne_eqb d c ne)
    ]

    module _ (c : ℕ) (lc : c < count) where
      -- the discs of a column and of the column of their images
      module _ (k : ℕ) (inside : k < length xs) where
        abbrev side : Bool
        side = stays coords (slice_index_or by.perms (k / columns_each coords) []) (k % columns_each coords)

        each : (j : ℕ) → j < slice_index xs k → belongs ys others (to c) (piece_at (column_under coords by k) (from_end (slice_index xs k) side j)) ≡ belongs xs components c (piece_at k j)
        each j l =
            let h : IsPieceOf xs (piece_at k j) = record { column = inside; number = l } in
            let below_count : slice_index components (disc_number xs (piece_at k j)) < count = one.in_range (disc_number xs (piece_at k j)) (piece_found xs (piece_at k j) h).in_range in
            ap (λ m. cond (m == to c) 1 0) (to_disc (piece_at k j) h) ∙ ap (λ b. cond b 1 0) (equal_there c (slice_index components (disc_number xs (piece_at k j))) lc below_count)

        column : slice_index (component_vector ys others (to c)) (column_under coords by k) ≡ slice_index (component_vector xs components c) k
        column =
            component_count ys others other.one_each (to c) (column_under coords by k)
            ∙ ap (λ m. sum_by (λ j. belongs ys others (to c) (piece_at (column_under coords by k) j)) (below m)) (same_entry coords (length rows) by xs ys carried k inside)
            ∙ sym (sum_either (λ j. belongs ys others (to c) (piece_at (column_under coords by k) j)) (slice_index xs k) side)
            ∙ sum_by_same (λ j. belongs ys others (to c) (piece_at (column_under coords by k) (from_end (slice_index xs k) side j))) (λ j. belongs xs components c (piece_at k j)) (below (slice_index xs k))
            (λ j a. each j (below-among j (slice_index xs k) a))
            ∙ sym (component_count xs components one.one_each c k)

      -- the vector of the image of a component
      pub component_carried : IsCarried coords (length rows) by (component_vector xs components c) (component_vector ys others (to c))
      component_carried = record {
        from_width = component_width xs components one.one_each c ∙ carried.from_width;
        to_width = component_width ys others other.one_each (to c) ∙ carried.to_width;
        entries = λ t i lt li.
            ap (slice_index (component_vector ys others (to c))) (sym (column_at coords by t i li))
            ∙ column (placed coords t i) (subst (λ m. placed coords t i < m) (sym carried.from_width) (column_of_index coords (length rows) t i lt li));
      }

    -- a disc of the image of a component is carried back to a disc of the component
    pub back_disc : (c : ℕ) → c < count → (e : NormalDisc) → IsPieceOf ys e → slice_index others (disc_number ys e) ≡ to c → slice_index components (disc_number xs (disc_under coords (inverted (length rows) by) ys e)) ≡ c
    back_disc c lc e h q =
        let f : IsDiscFrom rows new by is carries coords xs ys carried s s' e = disc_from rows new by is carries coords xs ys carried s s' e h in
        let low : slice_index components (disc_number xs f.source) < count = one.in_range (disc_number xs f.source) (piece_found xs f.source f.is_disc).in_range in
        ap (λ (d : NormalDisc). slice_index components (disc_number xs (disc_under coords (inverted (length rows) by) ys d))) (sym f.to_it)
        ∙ ap (λ (d : NormalDisc). slice_index components (disc_number xs d)) (disc_back coords (length rows) by xs ys carried is f.source f.is_disc)
        ∙ to_once (slice_index components (disc_number xs f.source)) c low lc
        (sym (to_disc f.source f.is_disc) ∙ ap (λ (d : NormalDisc). slice_index others (disc_number ys d)) f.to_it ∙ q)

    pub correspond : ComponentsCorrespond coords rows new by xs ys components others count amount
    correspond = record {
      as_many = as_many;
      to = to;
      in_range = to_below;
      once = to_once;
      same = λ c lc. record {
        vectors = one_image coords (length rows) by is (component_vector xs components c) (component_vector ys others (to c)) (relabelled_vector coords by (component_vector xs components c)) (component_carried c lc)
            (relabelled_is coords (length rows) by is (component_vector xs components c) (component_width xs components one.one_each c ∙ carried.from_width));
        sides = (
          two_sided_back new rows (inverted (length rows) by) is' carries' coords ys xs carried' s' s others components (to c) c (back_disc c lc),
          two_sided_back rows new by is carries coords xs ys carried s s' components others c (to c) (λ d h q. to_disc d h ∙ ap to q),
        );
        orientation = (
          orientable_back new rows (inverted (length rows) by) is' carries' coords ys xs carried' s' s others components (to c) c (back_disc c lc),
          orientable_back rows new by is carries coords xs ys carried s s' components others c (to c) (λ d h q. to_disc d h ∙ ap to q),
        );
      };
    }
