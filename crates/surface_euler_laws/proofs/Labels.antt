-- The points of the surface by number. The point with a given index on an edge, counted from one of its ends, is the
-- same across each gluing, and the same if it is counted from the other end.
use Rattle.std.proofs.Common.{◌≡◌, ℕ, ◌+◌, ◌-◌, ◌*◌, ◌/◌, ◌%◌, ◌<◌, Bool, true, false, not, List, length, map, ◌⊎◌, inl, inr, refl, sym, ap, ◌∙◌, subst, arith}
use Rattle.std.specs.Prelude.{slice_index, sum}
use Rattle.std.specs.List.{slice_index_or}
use Rattle.std.proofs.lemmas.List.{length-map}
use Rattle.std.proofs.lemmas.List.Sums.{sum-map}
use Rattle.std.proofs.lemmas.List.FromFn.{length-range_with_len, get_or-map-range_with_len}
use Rattle.table_definitions.specs.Classes.{least}
use Rattle.table_definitions.specs.Lists.{below}
use Rattle.table_definitions.specs.Places.{edge_number, IsJoined}
use Rattle.skeleton_definitions.specs.Skeleton.{Skeleton, IsSkeleton, IsValidClass}
use Rattle.surface_definitions.specs.Characteristic.{points, weight}
use Rattle.surface_definitions.specs.declared.Coords.{Coords}
use Rattle.surface_definitions.specs.Pieces.{NormalDisc, discs_of, disc_number}
use Rattle.surface_laws.specs.PieceLaws.{IsSurface, IsPieceOf}
use Rattle.surface_laws.proofs.PieceNumbers.{piece_at, no_piece, number-piece, listed_piece, piece_found}
use Rattle.surface_quad_laws.proofs.InnerEdges.{start_below, start_class}
use Rattle.skeleton_class_laws.specs.Crossings.{pair}
use Rattle.skeleton_class_laws.proofs.Cases.{low, high, are_ends, edge_number-ends}
use Rattle.surface_euler_laws.proofs.Four.{Four}
use Rattle.surface_euler_laws.proofs.Widths.{width, width_is}
use Rattle.surface_euler_laws.proofs.EdgeDirections.{IsEdge, back_edge, class, class_below, start, runs, runs_is, one_class, one_run, back_class, back_run, same_run}

module _ (s : Skeleton) (k : IsSkeleton s) (valid : (c : ℕ) → c < s.edges.count → IsValidClass s c) (coords : Coords) (xs : List ℕ) (surface : IsSurface s.rows coords xs) where
  abbrev n : ℕ
  n = length s.rows

  -- the weights of the edge classes
  pub weights : List ℕ
  weights = map (λ c. weight coords xs (least s.edges.classes c)) (below s.edges.count)

  pub all_points : sum weights ≡ points coords xs s.edges.classes s.edges.count
  unfolding weights
  all_points = sum-map (λ c. weight coords xs (least s.edges.classes c)) (below s.edges.count)

  weight_at : (c : ℕ) → c < s.edges.count → slice_index weights c ≡ weight coords xs (least s.edges.classes c)
  unfolding weights
  weight_at c l = get_or-map-range_with_len (λ c. weight coords xs (least s.edges.classes c)) 0 s.edges.count c c 0 l (omega arith)

  weights_length : length weights ≡ s.edges.count
  unfolding weights
  weights_length = length-map (below s.edges.count) (λ c. weight coords xs (least s.edges.classes c)) ∙ length-range_with_len 0 s.edges.count

  -- the number of points of an edge
  pub wide : ℕ → ℕ → ℕ → ℕ
  wide t v u = slice_index weights (class s k valid t v u)

  pub wide_is : (t v u f w : ℕ) → IsEdge s k valid t v u → Four v u f w → wide t v u ≡ width s.rows coords xs surface t f v u
  unfolding wide start
  wide_is t v u f w e h = weight_at (class s k valid t v u) (class_below s k valid t v u e) ∙ width_is s.rows coords xs surface t v u f w (least s.edges.classes (class s k valid t v u)) e.lt h (elim (runs_is s k valid t v u e) [ inl x ↦ inl x.1 | inr x ↦ inr x.1 ])

  place_if : Bool → ℕ → ℕ → ℕ
  place_if true m j = j
  place_if false m j = m - 1 - j

  place_back : (b : Bool) (m j : ℕ) → j < m → place_if b m (m - 1 - j) ≡ place_if (not b) m j
  unfolding place_if
  place_back true m j l = refl
  place_back false m j l = omega arith

  place_twice : (b : Bool) (m j : ℕ) → j < m → place_if b m (place_if b m j) ≡ j
  unfolding place_if
  place_twice true m j l = refl
  place_twice false m j l = omega arith

  place_below : (b : Bool) (m j : ℕ) → j < m → place_if b m j < m
  unfolding place_if
  place_below true m j l = l
  place_below false m j l = omega arith

  -- the number of the point with index j on the edge from v to u, counted from v
  pub point : ℕ → ℕ → ℕ → ℕ → ℕ
  point t v u j = disc_number weights (piece_at (class s k valid t v u) (place_if (runs s k valid t v u) (wide t v u) j))

  -- the same point, counted from the other end
  pub point_back : (t v u j : ℕ) → IsEdge s k valid t v u → j < wide t v u → point t v u j ≡ point t u v (wide t v u - 1 - j)
  unfolding point wide
  point_back t v u j e l =
      let m : ℕ = slice_index weights (class s k valid t v u) in
      let c : class s k valid t u v ≡ class s k valid t v u = back_class s k valid t v u e in
      let r : runs s k valid t u v ≡ not (runs s k valid t v u) = back_run s k valid t v u e in
      sym ((λ i. disc_number weights (piece_at (c i) (place_if (r i) (slice_index weights (c i)) (m - 1 - j))))
      ∙ ap (λ x. disc_number weights (piece_at (class s k valid t v u) x)) (place_back (not (runs s k valid t v u)) m j l ∙ ap (λ b. place_if b m j) (twice (runs s k valid t v u))))
    where
      twice : (b : Bool) → not (not b) ≡ b
      twice true = refl
      twice false = refl

  -- the same point, across gluings
  pub point_across : (t v u t' v' u' j : ℕ) → IsEdge s k valid t v u → IsEdge s k valid t' v' u' → IsJoined s.rows (pair t v u) (pair t' v' u') → point t v u j ≡ point t' v' u' j
  unfolding point wide
  point_across t v u t' v' u' j e e' h = λ i. disc_number weights (piece_at (one_class s k valid t v u t' v' u' e e' h i) (place_if (one_run s k valid t v u t' v' u' e e' h i) (slice_index weights (one_class s k valid t v u t' v' u' e e' h i)) j))

  -- each point is on some edge
  pub record IsPoint (x : ℕ) : Type 0 where
    pub t : ℕ
    pub v : ℕ
    pub u : ℕ
    pub j : ℕ
    pub edge : IsEdge s k valid t v u
    pub inside : j < wide t v u
    pub is : point t v u j ≡ x

  pub is_point : (x : ℕ) → x < length (discs_of weights) → IsPoint x
  unfolding point wide class
  is_point x l =
      let p : NormalDisc = slice_index_or (discs_of weights) x no_piece in
      let h : IsPieceOf weights (slice_index_or (discs_of weights) x no_piece) = listed_piece weights x no_piece l in
      let c : ℕ = (slice_index_or (discs_of weights) x no_piece).column in
      let lc : (slice_index_or (discs_of weights) x no_piece).column < s.edges.count = let hc = h.column in let e = weights_length in omega arith in
      let i : ℕ = least s.edges.classes c in
      let li : least s.edges.classes (slice_index_or (discs_of weights) x no_piece).column < 6 * n = start_below s.rows k.table s.edges.classes s.edges.count k.edges c lc in
      let le : least s.edges.classes (slice_index_or (discs_of weights) x no_piece).column % 6 < 6 = omega arith in
      let ends_are = are_ends (i % 6) le in
      let at : 6 * (i / 6) + edge_number (low (i % 6)) (high (i % 6)) ≡ i = let q = edge_number-ends (i % 6) le in omega arith in
      let same : slice_index s.edges.classes (6 * (i / 6) + edge_number (low (i % 6)) (high (i % 6))) ≡ c = ap (slice_index s.edges.classes) at ∙ start_class s.rows k.table s.edges.classes s.edges.count k.edges c lc in
      let b : Bool = runs s k valid (i / 6) (low (i % 6)) (high (i % 6)) in
      let m : ℕ = slice_index weights c in
      let lj : p.number < slice_index weights c = h.number in
      record {
        t = i / 6;
        v = low (i % 6);
        u = high (i % 6);
        j = place_if b m p.number;
        edge = record { lt = omega arith; lv = ends_are.lower; lu = ends_are.higher; ne = ends_are.separate };
        inside = subst (λ z. place_if b m p.number < slice_index weights z) (sym same) (place_below b m p.number lj);
        is = (λ y. disc_number weights (piece_at (same y) (place_if b (slice_index weights (same y)) (place_if b m p.number))))
            ∙ ap (λ z. disc_number weights (piece_at c z)) (place_twice b m p.number lj) ∙ number-piece weights x no_piece l;
      }

  -- the number of a point is one of the numbers of points
  piece_there : (t v u j : ℕ) → IsEdge s k valid t v u → j < wide t v u → IsPieceOf weights (piece_at (class s k valid t v u) (place_if (runs s k valid t v u) (wide t v u) j))
  unfolding wide
  piece_there t v u j e l = record {
    column = (let a = class_below s k valid t v u e in let b = weights_length in omega arith);
    number = place_below (runs s k valid t v u) (slice_index weights (class s k valid t v u)) j l;
  }

  pub point_below : (t v u j : ℕ) → IsEdge s k valid t v u → j < wide t v u → point t v u j < length (discs_of weights)
  unfolding point
  point_below t v u j e l = (piece_found weights (piece_at (class s k valid t v u) (place_if (runs s k valid t v u) (wide t v u) j)) (piece_there t v u j e l)).in_range

  pub wide_back : (t v u : ℕ) → IsEdge s k valid t v u → wide t u v ≡ wide t v u
  unfolding wide
  wide_back t v u e = ap (slice_index weights) (back_class s k valid t v u e)

  pub wide_across : (t v u t' v' u' : ℕ) → IsEdge s k valid t v u → IsEdge s k valid t' v' u' → IsJoined s.rows (pair t v u) (pair t' v' u') → wide t v u ≡ wide t' v' u'
  unfolding wide
  wide_across t v u t' v' u' e e' h = ap (slice_index weights) (one_class s k valid t v u t' v' u' e e' h)

  -- two edges with the same point are joined, in one direction or the other
  pub points_meet : (t v u j t' v' u' j' : ℕ) → IsEdge s k valid t v u → IsEdge s k valid t' v' u' → j < wide t v u → j' < wide t' v' u' → point t v u j ≡ point t' v' u' j'
      → (IsJoined s.rows (pair t v u) (pair t' v' u') × (j ≡ j')) ⊎ (IsJoined s.rows (pair t v u) (pair t' u' v') × (j + j' + 1 ≡ wide t v u))
  unfolding point wide place_if
  points_meet t v u j t' v' u' j' e e' l l' same = go (runs s k valid t v u) (runs s k valid t' v' u') refl refl
    where
      p : NormalDisc
      p = piece_at (class s k valid t v u) (place_if (runs s k valid t v u) (slice_index weights (class s k valid t v u)) j)

      q : NormalDisc
      q = piece_at (class s k valid t' v' u') (place_if (runs s k valid t' v' u') (slice_index weights (class s k valid t' v' u')) j')

      one : p ≡ q
      one = sym (piece_found weights p (piece_there t v u j e l)).there ∙ ap (λ i. slice_index_or (discs_of weights) i no_piece) same ∙ (piece_found weights q (piece_there t' v' u' j' e' l')).there

      classes : class s k valid t v u ≡ class s k valid t' v' u'
      classes = ap (λ (z : NormalDisc). z.column) one

      places : place_if (runs s k valid t v u) (slice_index weights (class s k valid t v u)) j ≡ place_if (runs s k valid t' v' u') (slice_index weights (class s k valid t' v' u')) j'
      places = ap (λ (z : NormalDisc). z.number) one

      m : ℕ
      m = slice_index weights (class s k valid t v u)

      widths : slice_index weights (class s k valid t' v' u') ≡ slice_index weights (class s k valid t v u)
      widths = ap (slice_index weights) (sym classes)

      inside : j < slice_index weights (class s k valid t v u)
      inside = l

      inside_too : j' < slice_index weights (class s k valid t' v' u')
      inside_too = l'

      back : runs s k valid t' u' v' ≡ not (runs s k valid t' v' u')
      back = back_run s k valid t' v' u' e'

      alike : (a b : Bool) → place_if a (slice_index weights (class s k valid t v u)) j ≡ place_if b (slice_index weights (class s k valid t' v' u')) j' → a ≡ b → j ≡ j'
      alike true true f g = f
      alike false false f g = let w = widths in let a = inside in let b = inside_too in omega arith
      alike true false f g = absurd cc
      alike false true f g = absurd cc

      opposed : (a b : Bool) → place_if a (slice_index weights (class s k valid t v u)) j ≡ place_if b (slice_index weights (class s k valid t' v' u')) j' → a ≡ not b → j + j' + 1 ≡ slice_index weights (class s k valid t v u)
      opposed true false f g = let w = widths in let a = inside in let b = inside_too in omega arith
      opposed false true f g = let w = widths in let a = inside in let b = inside_too in omega arith
      opposed true true f g = absurd cc
      opposed false false f g = absurd cc

      go : (a b : Bool) → runs s k valid t v u ≡ a → runs s k valid t' v' u' ≡ b
          → (IsJoined s.rows (pair t v u) (pair t' v' u') × (j ≡ j')) ⊎ (IsJoined s.rows (pair t v u) (pair t' u' v') × (j + j' + 1 ≡ slice_index weights (class s k valid t v u)))
      go a b f g = elim (same_or_not a b) [
        | inl h ↦ inl (same_run s k valid t v u t' v' u' e e' classes (f ∙ h ∙ sym g), alike (runs s k valid t v u) (runs s k valid t' v' u') places (f ∙ h ∙ sym g))
        | inr h ↦ inr (
          same_run s k valid t v u t' u' v' e (back_edge s k valid t' v' u' e') (classes ∙ sym (back_class s k valid t' v' u' e')) (f ∙ h ∙ ap not (sym g) ∙ sym back),
          opposed (runs s k valid t v u) (runs s k valid t' v' u') places (f ∙ h ∙ ap not (sym g)),
        )
      ]
        where
          same_or_not : (a b : Bool) → (a ≡ b) ⊎ (a ≡ not b)
          same_or_not true true = inl refl
          same_or_not true false = inr refl
          same_or_not false true = inr refl
          same_or_not false false = inl refl
