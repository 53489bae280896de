-- The darts of a closed oriented surface are an oriented map: its points, arcs and pieces are the cycles of turning
-- around points, the pairs of opposite darts, and the cycles of going around pieces. So their number is even.
use Rattle.std.proofs.Common.{◌≡◌, ℕ, zero, suc, ◌+◌, ◌*◌, ◌%◌, ◌<◌, ◌≤◌, Bool, true, false, List, length, Some, ◌⊎◌, inl, inr, refl, sym, ap, ◌∙◌, arith}
use Rattle.std.specs.Prelude.{sum, sum_by, nat_lt, ◌==◌, ◌&&◌, ◌||◌}
use Rattle.std.specs.List.{slice_index_or}
use Rattle.basic_lemmas.proofs.Truths.{one_if}
use Rattle.table_definitions.specs.Lists.{below}
use Rattle.table_definitions.specs.Table.{Gluing, Face, glue, other_side, is_face_before}
use Rattle.skeleton_definitions.specs.Links.{is_first_side}
use Rattle.skeleton_definitions.specs.Skeleton.{Skeleton, IsSkeleton, IsValidClass}
use Rattle.surface_definitions.specs.Characteristic.{points, arcs}
use Rattle.surface_definitions.specs.declared.Coords.{Coords}
use Rattle.surface_definitions.specs.Pieces.{NormalDisc, discs_of, disc_number, Arc, disc_of}
use Rattle.surface_laws.specs.PieceLaws.{IsSurface, ArePieceNumbers, face_of_arc}
use Rattle.surface_laws.proofs.ArcPieces.{arc_piece}
use Rattle.surface_laws.proofs.Counting.{last_term}
use Rattle.surface_laws.proofs.Glued.{IsGlued, glued_is}
use Rattle.surface_laws.proofs.Matched.{before_or_after}
use Rattle.surface_laws.proofs.Offsets.{piece_numbers}
use Rattle.surface_laws.proofs.PieceNumbers.{no_piece, IsFound, piece_found, listed_piece, number-piece}
use Rattle.surface_euler_laws.proofs.ArcList.{IsArc}
use Rattle.surface_euler_laws.proofs.Labels.{weights, all_points, point_below}
use Rattle.surface_double_laws.specs.Maps.{IsPermutationBelow, AreCycles, IsOrientedMap}
use Rattle.surface_double_laws.proofs.Cycles.{moved}
use Rattle.surface_double_laws.proofs.OrientedMaps.{oriented_even}
use Rattle.surface_double_laws.proofs.Darts.{AreOriented, first, last, dart_of}
use Rattle.surface_double_laws.proofs.DartSteps.{next, next_on, next_disc, next_apart}
use Rattle.surface_double_laws.proofs.DartRounds.{one_piece}
use Rattle.surface_double_laws.proofs.DartNumbers.{darts, number, arc, number_below, arc_number, number_arc, arc_on, first_one, first_arcs}
use Rattle.surface_double_laws.proofs.DartPoints.{start, edge_of, inside, start_next, flip, flip_is, flip_on, flip_twice, flip_apart, stop_flip, HasDart, has_dart}
use Rattle.surface_double_laws.proofs.DartTurns.{one_turn}
use Rattle.surface_double_laws.proofs.FoundArcs.{HasArc, has_arc}

abbrev before : ℕ → ℕ → ℕ → ℕ → Bool
before a b c d = nat_lt a c || ((a == c) && nat_lt b d)

not_before : (a b c d : ℕ) → before a b c d ≡ true → before c d a b ≡ false
not_before a b c d h = grind arith

module _ (s : Skeleton) (k : IsSkeleton s) (valid : (c : ℕ) → c < s.edges.count → IsValidClass s c) (coords : Coords) (xs : List ℕ) (surface : IsSurface s.rows coords xs) (sign : ℕ → Bool) (signs : AreOriented s.rows coords xs sign)
    (closed : (b : Arc) → IsArc s.rows coords xs surface b → (g : Gluing) × (glue s.rows (face_of_arc b) ≡ Some g)) where
  abbrev OnSurface : Arc → Type 0
  OnSurface b = IsArc s.rows coords xs surface b

  abbrev after : Arc → Arc
  after b = next s.rows coords xs surface sign signs b

  abbrev over : Arc → Arc
  over b = flip s k valid coords xs surface sign signs b

  abbrev num : Arc → ℕ
  num b = number s.rows coords xs b

  abbrev at : ℕ → Arc
  at d = arc s.rows coords xs d

  abbrev all : ℕ
  all = length (discs_of (darts s.rows coords xs))

  on : (d : ℕ) → d < all → OnSurface (at d)
  on d l = arc_on s.rows coords xs surface d l

  over_on : (b : Arc) → OnSurface b → OnSurface (over b)
  over_on b x = flip_on s k valid coords xs surface sign signs closed b x

  after_on : (b : Arc) → OnSurface b → OnSurface (after b)
  after_on b x = next_on s.rows coords xs surface sign signs b x

  back : ℕ → ℕ
  back d = num (over (at d))

  turn : ℕ → ℕ
  turn d = num (after (over (at d)))

  around : ℕ → ℕ
  around d = num (after (at d))

  num_below : (b : Arc) → OnSurface b → num b < all
  num_below b x = number_below s.rows coords xs surface b x

  at_num : (b : Arc) → OnSurface b → at (num b) ≡ b
  at_num b x = arc_number s.rows coords xs surface b x

  num_at : (d : ℕ) → d < all → num (at d) ≡ d
  num_at d l = number_arc s.rows coords xs surface d l

  num_apart : (b c : Arc) → OnSurface b → OnSurface c → num b ≡ num c → b ≡ c
  num_apart b c x y e = sym (at_num b x) ∙ ap (arc s.rows coords xs) e ∙ at_num c y

  twice : (d : ℕ) → d < all → over (at (back d)) ≡ at d
  unfolding back
  twice d l = ap (λ z. over z) (at_num (over (at d)) (over_on (at d) (on d l))) ∙ flip_twice s k valid coords xs surface sign signs closed (at d) (on d l)

  back_twice : (d : ℕ) → d < all → back (back d) ≡ d
  unfolding back
  back_twice d l = ap (number s.rows coords xs) (twice d l) ∙ num_at d l

  map_of_darts : IsOrientedMap all back turn around
  unfolding back turn around
  map_of_darts = record {
    turns = record {
      within = λ d l. num_below (after (over (at d))) (after_on (over (at d)) (over_on (at d) (on d l)));
      injective = λ d e ld le q.
          let x = over_on (at d) (on d ld) in
          let y = over_on (at e) (on e le) in
          let same : over (at d) ≡ over (at e) = next_apart s.rows coords xs surface sign signs (over (at d)) (over (at e)) x y (num_apart (after (over (at d))) (after (over (at e))) (after_on (over (at d)) x) (after_on (over (at e)) y) q) in
          let arcs_same : at d ≡ at e = sym (flip_twice s k valid coords xs surface sign signs closed (at d) (on d ld)) ∙ ap (λ z. over z) same ∙ flip_twice s k valid coords xs surface sign signs closed (at e) (on e le) in
          sym (num_at d ld) ∙ ap (number s.rows coords xs) arcs_same ∙ num_at e le;
    };
    back_within = λ d l. num_below (over (at d)) (over_on (at d) (on d l));
    back_twice = back_twice;
    back_differs = λ d l e. flip_apart s k valid coords xs surface sign signs closed (at d) (on d l)
        (ap (λ (z : Arc). face_of_arc z) (sym (at_num (over (at d)) (over_on (at d) (on d l))) ∙ ap (arc s.rows coords xs) e));
    next_is = λ d l. ap (λ z. num (after z)) (sym (twice d l));
  }

  -- ---- points

  abbrev begins : Arc → ℕ
  begins b = start s k valid coords xs surface sign signs b

  point : ℕ → ℕ
  point d = begins (at d)

  abbrev points_number : ℕ
  points_number = length (discs_of (weights s k valid coords xs surface))

  point_range : (b : Arc) → OnSurface b → begins b < points_number
  unfolding start
  point_range b x =
      let d = dart_of s.rows coords xs surface sign signs b x in
      let u : ℕ = first s.rows coords xs surface sign signs b in
      let w : ℕ = last s.rows coords xs surface sign signs b in
      point_below s k valid coords xs surface b.tet b.vertex u b.place (edge_of s k valid coords xs surface sign signs b.tet b.vertex b.face u w b.place x d.four) (inside s k valid coords xs surface sign signs b.tet b.vertex b.face u w b.place x d.four)

  turn_begins : (b : Arc) → OnSurface b → begins (after (over b)) ≡ begins b
  turn_begins b x = start_next s k valid coords xs surface sign signs (over b) (over_on b x) ∙ stop_flip s k valid coords xs surface sign signs closed b x

  are_points : AreCycles all turn point points_number
  unfolding turn point
  are_points = record {
    in_range = λ d l. point_range (at d) (on d l);
    none_empty = λ c l.
        let h : HasDart s k valid coords xs surface sign signs closed c = has_dart s k valid coords xs surface sign signs closed c l in
        (num h.b, num_below h.b h.on, ap (λ z. begins z) (at_num h.b h.on) ∙ h.begins);
    kept = λ d l. let x = over_on (at d) (on d l) in ap (λ z. begins z) (at_num (after (over (at d))) (after_on (over (at d)) x)) ∙ turn_begins (at d) (on d l);
    joined = λ h same d e ld le q.
        let arcs_alike : h (num (at d)) ≡ h (num (at e)) = one_turn s k valid coords xs surface sign signs closed (λ b. h (num b))
        (λ b x. ap (λ z. h (num (after (over z)))) (sym (at_num b x)) ∙ same (num b) (num_below b x)) (at d) (at e) (on d ld) (on e le) q in
        ap h (sym (num_at d ld)) ∙ arcs_alike ∙ ap h (num_at e le);
  }

  -- ---- pieces

  abbrev of : Arc → NormalDisc
  of b = disc_of coords xs b

  found : (b : Arc) → OnSurface b → IsFound xs (of b)
  found b x = piece_found xs (of b) (arc_piece coords (length s.rows) xs surface.triangles surface.admissible b.tet b.face b.vertex x.in_range x.face x.is_vertex x.off b.place x.there)

  face : ℕ → ℕ
  face d = disc_number xs (of (at d))

  are_faces : AreCycles all around face (length (discs_of xs))
  unfolding around face
  are_faces = record {
    in_range = λ d l. (found (at d) (on d l)).in_range;
    none_empty = λ c l.
        let h : HasArc s.rows coords xs surface (slice_index_or (discs_of xs) c no_piece) = has_arc s.rows coords xs surface (slice_index_or (discs_of xs) c no_piece) (listed_piece xs c no_piece l) in
        (num h.b, num_below h.b h.here, ap (λ z. disc_number xs (of z)) (at_num h.b h.here) ∙ ap (disc_number xs) h.is ∙ number-piece xs c no_piece l);
    kept = λ d l. ap (λ z. disc_number xs (of z)) (at_num (after (at d)) (after_on (at d) (on d l))) ∙ ap (disc_number xs) (next_disc s.rows coords xs surface sign signs (at d) (on d l));
    joined = λ h same d e ld le q.
        let same_disc : of (at d) ≡ of (at e) = sym (found (at d) (on d ld)).there ∙ ap (λ i. slice_index_or (discs_of xs) i no_piece) q ∙ (found (at e) (on e le)).there in
        let arcs_alike : h (num (at d)) ≡ h (num (at e)) = one_piece s.rows coords xs surface sign signs (λ b. h (num b))
        (λ b x. ap (λ z. h (num (after z))) (sym (at_num b x)) ∙ same (num b) (num_below b x)) (at d) (at e) (on d ld) (on e le) same_disc in
        ap h (sym (num_at d ld)) ∙ arcs_alike ∙ ap h (num_at e le);
  }

  -- ---- arcs

  abbrev is_first : Face → Bool
  is_first x = is_first_side x (glue s.rows x)

  one_of_two : (a b : Bool) → ((a ≡ true) × (b ≡ false)) ⊎ ((a ≡ false) × (b ≡ true)) → one_if a + one_if b ≡ 1
  one_of_two true false h = refl
  one_of_two false true h = refl
  one_of_two true true (inl h) = absurd (let z : true ≡ false = h.1 in cc)
  one_of_two true true (inr h) = absurd (let z : true ≡ false = h.0 in cc)
  one_of_two false false (inl h) = absurd (let z : false ≡ true = h.0 in cc)
  one_of_two false false (inr h) = absurd (let z : false ≡ true = h.1 in cc)

  one_first : (b : Arc) → OnSurface b → one_if (is_first (face_of_arc b)) + one_if (is_first (face_of_arc (over b))) ≡ 1
  one_first b x =
      let g = closed b x in
      let i : IsGlued s.rows (face_of_arc b) g.0 = glued_is s.rows (face_of_arc b) g.0 k.table g.1 in
      let y : Face = other_side (face_of_arc b) g.0 in
      let one : is_first (face_of_arc b) ≡ is_face_before (face_of_arc b) (other_side (face_of_arc b) g.0) = ap (is_first_side (face_of_arc b)) g.1 in
      let two : is_first (face_of_arc (over b)) ≡ is_face_before (other_side (face_of_arc b) g.0) (face_of_arc b) =
      ap (λ (z : Arc). is_first (face_of_arc z)) (flip_is s k valid coords xs surface sign signs b g.0 g.1) ∙ ap (is_first_side y) i.back ∙ ap (is_face_before y) i.returns in
      one_of_two (is_first (face_of_arc b)) (is_first (face_of_arc (over b))) (elim (before_or_after (face_of_arc b) (other_side (face_of_arc b) g.0) ((k.table).separate (face_of_arc b) g.0 g.1)) [
        | inl t ↦ inl (one ∙ t, two ∙ not_before b.tet b.face y.tet y.face t)
        | inr t ↦ inr (one ∙ not_before y.tet y.face b.tet b.face t, two ∙ t)
      ])

  abbrev first_dart : ℕ → ℕ
  first_dart d = first_one s.rows coords xs surface d

  both_first : (d : ℕ) → d < all → first_dart d + first_dart (back d) ≡ 1
  unfolding back first_one
  both_first d l =
      ap (λ m. one_if (is_first (face_of_arc (at d))) + m) (ap (λ (z : Arc). one_if (is_first (face_of_arc z))) (at_num (over (at d)) (over_on (at d) (on d l))))
      ∙ one_first (at d) (on d l)

  both_sums : (m : ℕ) → m ≤ all → sum_by (λ d. first_dart d) (below m) + sum_by (λ d. first_dart (back d)) (below m) ≡ m
  both_sums zero l = refl
  both_sums (suc m) l =
      let a = last_term (λ d. first_dart d) m in
      let b = last_term (λ d. first_dart (back d)) m in
      let c = both_sums m (omega arith) in
      let d = both_first m (omega arith) in
      omega arith

  two_darts : all ≡ 2 * arcs s.rows coords xs
  two_darts =
      let m : IsOrientedMap all back turn around = map_of_darts in
      let permutes : IsPermutationBelow all back = record { within = m.back_within; injective = λ d e ld le q. sym (back_twice d ld) ∙ ap back q ∙ back_twice e le } in
      let a : sum_by (λ d. first_dart (back d)) (below all) ≡ sum_by (λ d. first_dart d) (below all) = moved all back permutes (λ d. first_dart d) in
      let b = both_sums all (omega arith) in
      let c : sum_by (λ d. first_dart d) (below all) ≡ arcs s.rows coords xs = first_arcs s.rows coords xs surface in
      omega arith

  pub even_number : (points coords xs s.edges.classes s.edges.count + arcs s.rows coords xs + sum xs) % 2 ≡ 0
  even_number =
      let even = oriented_even all back turn around point face points_number (arcs s.rows coords xs) (length (discs_of xs)) map_of_darts are_points are_faces two_darts in
      let a : ArePieceNumbers xs = piece_numbers xs in
      let b : ArePieceNumbers (weights s k valid coords xs surface) = piece_numbers (weights s k valid coords xs surface) in
      let c = a.count in
      let d = b.count in
      let e = all_points s k valid coords xs surface in
      omega arith
