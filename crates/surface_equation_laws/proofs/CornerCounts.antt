-- How often the corners of an edge class lie at the edges of a tetrahedron.
use Rattle.std.proofs.Common.{◌≡◌, ℕ, ◌+◌, ◌*◌, ◌/◌, ◌%◌, ◌<◌, ◌≤◌, Bool, true, false, cond, List, [], ◌∷◌, length, map, ◌⊎◌, inl, inr, refl, sym, ap, ◌∙◌, subst, arith}
use Rattle.std.specs.Prelude.{◌==◌, ◌&&◌, ◌||◌, nat_lt, slice_index, sum_by, count_by}
use Rattle.std.proofs.lemmas.Bool.{agree_below, agree_below_at, and_parts, ltb-true, or_cases, eqb-true, eq-eqb, both_ways, false_from_ne_true}
use Rattle.table_definitions.specs.Lists.{times_in, same_list}
use Rattle.table_definitions.specs.Permutation.{IsPermutationOfFour, image}
use Rattle.table_definitions.specs.Table.{Row, IsTable}
use Rattle.table_definitions.specs.Places.{edge_number, SameEdge}
use Rattle.table_definitions.specs.Classes.{IsNumbering, least}
use Rattle.table_definitions.proofs.TableLaws.{Among}
use Rattle.table_definitions.proofs.Listed.{contains_among}
use Rattle.table_definitions.proofs.ListFacts.{same_list-true}
use Rattle.table_definitions.proofs.Permutations.{by_words}
use Rattle.skeleton_definitions.specs.Corners.{Corner, Reaches, first_corner, AreCorners}
use Rattle.surface_definitions.specs.Coordinates.{keeping, quad_column}
use Rattle.surface_definitions.specs.declared.Coords.TheVariants.{Quad}
use Rattle.surface_laws.proofs.Counting.{sum_swap, sum_by_same, sum_by-none, sum_by-map}
use Rattle.surface_definitions.proofs.ColumnCounts.{index_below}
use Rattle.surface_equation_laws.proofs.Columns.{sum_by_times}
use Rattle.table_definitions.proofs.DistinctLists.{apart_from}
use Rattle.surface_equation_laws.proofs.Once.{count_one}
use Rattle.surface_equation_laws.proofs.LocalArcs.{place_is}
use Rattle.surface_equation_laws.proofs.CornerSteps.{turned_round, corner_at, IsCorner, steps_keep, no_turn}
use Rattle.surface_equation_laws.proofs.CornerClasses.{IsFirst, first_is, least_in, class_of_corner}
use Rattle.basic_lemmas.proofs.Truths.{one_if}
use Rattle.skeleton_class_laws.specs.Rounds.{corner_word}

-- the word of a corner seen from the other end of its edge, and one of each two such words
abbrev pub turn : List ℕ → List ℕ
turn w = image w 1 ∷ image w 0 ∷ image w 3 ∷ image w 2 ∷ []

abbrev pub halves : List (List ℕ)
halves =
    (0 ∷ 1 ∷ 2 ∷ 3 ∷ []) ∷ (0 ∷ 1 ∷ 3 ∷ 2 ∷ []) ∷ (0 ∷ 2 ∷ 1 ∷ 3 ∷ []) ∷ (0 ∷ 2 ∷ 3 ∷ 1 ∷ []) ∷ (0 ∷ 3 ∷ 1 ∷ 2 ∷ []) ∷ (0 ∷ 3 ∷ 2 ∷ 1 ∷ []) ∷
    (1 ∷ 2 ∷ 0 ∷ 3 ∷ []) ∷ (1 ∷ 2 ∷ 3 ∷ 0 ∷ []) ∷ (1 ∷ 3 ∷ 0 ∷ 2 ∷ []) ∷ (1 ∷ 3 ∷ 2 ∷ 0 ∷ []) ∷ (2 ∷ 3 ∷ 0 ∷ 1 ∷ []) ∷ (2 ∷ 3 ∷ 1 ∷ 0 ∷ []) ∷ []

-- a corner is in tetrahedron t and has a word, or the word from the edge's other end
abbrev pub is_of : List ℕ → List ℕ → Bool
is_of w v = same_list v w || same_list v (turn w)

abbrev pub hits : ℕ → List ℕ → Corner → Bool
hits t w k = (k.tet == t) && is_of w (corner_word k)

-- a corner that is in tetrahedron t and has word w, from one end of its edge or the other
record IsHit (t : ℕ) (w : List ℕ) (k : Corner) : Type 0 where
  tet : k.tet ≡ t
  either : (corner_word k ≡ w) ⊎ (corner_word k ≡ turn w)

hit_is : (t : ℕ) (w : List ℕ) (k : Corner) → hits t w k ≡ true → IsHit t w k
hit_is t w k h =
    let p : ((k.tet == t) ≡ true) × (is_of w (corner_word k) ≡ true) = and_parts (k.tet == t) (is_of w (corner_word k)) h in
    record {
      tet = eqb-true k.tet t p.0;
      either = elim (or_cases (same_list (corner_word k) w) (same_list (corner_word k) (turn w)) p.1) [
        | inl e ↦ inl (same_list-true (corner_word k) w e)
        | inr e ↦ inr (same_list-true (corner_word k) (turn w) e)
      ];
    }

same_corner : (k l : Corner) → k.tet ≡ l.tet → corner_word k ≡ corner_word l → k ≡ l
same_corner k l t w = λ i. corner_at (t i) (image (w i) 0) (image (w i) 1) (image (w i) 2) (image (w i) 3)

-- the quad of a word on the side of its third or fourth vertex
abbrev pub side : ℕ → List ℕ → ℕ
side s w = keeping (image w 0) (image w s)

-- the quad of a word is that of the word in `halves` that represents it
quad_test : ℕ → List ℕ → ℕ → Bool
quad_test s v q = one_if (side s v == q) == sum_by (λ w. one_if (side s w == q) * one_if (is_of w v)) halves

quads_test : ℕ → List ℕ → Bool
quads_test s v = nat_lt (side s v) 3 && agree_below (quad_test s v) (λ q. true) 3

quads_tested : (s : ℕ) → (s ≡ 2) ⊎ (s ≡ 3) → (v : List ℕ) → IsPermutationOfFour v → quads_test s v ≡ true
unfolding quads_test quad_test
quads_tested s (inl e) v h = subst (λ s. quads_test s v ≡ true) (sym e) (by_words (quads_test 2) refl v h)
quads_tested s (inr e) v h = subst (λ s. quads_test s v ≡ true) (sym e) (by_words (quads_test 3) refl v h)

pub side_below : (s : ℕ) → (s ≡ 2) ⊎ (s ≡ 3) → (v : List ℕ) → IsPermutationOfFour v → side s v < 3
unfolding quads_test quad_test
side_below s which v h = ltb-true (side s v) 3 (and_parts (nat_lt (side s v) 3) (agree_below (quad_test s v) (λ q. true) 3) (quads_tested s which v h)).0

quad_of_half : (s : ℕ) → (s ≡ 2) ⊎ (s ≡ 3) → (v : List ℕ) → IsPermutationOfFour v → (q : ℕ) → q < 3 → one_if (side s v == q) ≡ sum_by (λ w. one_if (side s w == q) * one_if (is_of w v)) halves
unfolding quads_test quad_test
quad_of_half s which v h q l =
    eqb-true (one_if (side s v == q)) (sum_by (λ w. one_if (side s w == q) * one_if (is_of w v)) halves)
    (agree_below_at (quad_test s v) (λ q. true) 3 q (and_parts (nat_lt (side s v) 3) (agree_below (quad_test s v) (λ q. true) 3) (quads_tested s which v h)).1 l)

-- a column counts a corner by the halves to which the corner belongs
corner_counts : (s c : ℕ) (k : Corner) → (s ≡ 2) ⊎ (s ≡ 3) → IsPermutationOfFour (corner_word k)
    → one_if (quad_column Quad k.tet (side s (corner_word k)) == c) ≡ sum_by (λ w. one_if (side s w == c % 3) * one_if (hits (c / 3) w k)) halves
corner_counts s c k which h =
    let e : 3 * k.tet + 0 + side s (corner_word k) ≡ 3 * k.tet + side s (corner_word k) = omega arith in
    ap (λ m. one_if (m == c)) e ∙ ap one_if (place_is Quad k.tet (side s (corner_word k)) c (side_below s which (corner_word k) h)) ∙ go (k.tet == c / 3)
  where
    go : (b : Bool) → one_if (b && (side s (corner_word k) == c % 3)) ≡ sum_by (λ w. one_if (side s w == c % 3) * one_if (b && is_of w (corner_word k))) halves
    go true = quad_of_half s which (corner_word k) h (c % 3) (index_below Quad c)
    go false = sym (sum_by-none (λ w. one_if (side s w == c % 3) * 0) halves (λ w a. omega arith))

module _ (rows : List Row) (classes : List ℕ) (count : ℕ) (table : IsTable rows) (numbered : IsNumbering (6 * length rows) (SameEdge rows) classes count)
    (r : ℕ) (in_range : r < count) (corners : List Corner) (are : AreCorners rows (first_corner (least classes r)) corners) where
  abbrev first : Corner
  first = first_corner (least classes r)

  reaches : (k : Corner) → Among k corners → Reaches rows (first_corner (least classes r)) k
  reaches k a = (are.reached k).0 (contains_among k corners a)

  pub is_corner : (k : Corner) → Among k corners → IsCorner rows k
  is_corner k a =
      let f : IsFirst rows (least classes r) = first_is rows (least classes r) (least_in rows classes count table numbered r in_range).0 in
      let h : Reaches rows (first_corner (least classes r)) k = reaches k a in
      steps_keep rows table h.0 (first_corner (least classes r)) k f.corner h.1

  pub times_at : (s c : ℕ) → (s ≡ 2) ⊎ (s ≡ 3) → times_in (map (λ (k : Corner). quad_column Quad k.tet (side s (corner_word k))) corners) c ≡ sum_by (λ w. one_if (side s w == c % 3) * count_by (hits (c / 3) w) corners) halves
  times_at s c which =
      sum_by-map (λ (m : ℕ). cond (m == c) 1 0) (λ (k : Corner). quad_column Quad k.tet (side s (corner_word k))) corners
      ∙ sum_by_same (λ k. one_if (quad_column Quad k.tet (side s (corner_word k)) == c)) (λ k. sum_by (λ w. one_if (side s w == c % 3) * one_if (hits (c / 3) w k)) halves) corners
      (λ k a. corner_counts s c k which (is_corner k a).permutes)
      ∙ sum_swap (λ k w. one_if (side s w == c % 3) * one_if (hits (c / 3) w k)) corners halves
      ∙ sum_by_same (λ w. sum_by (λ k. one_if (side s w == c % 3) * one_if (hits (c / 3) w k)) corners) (λ w. one_if (side s w == c % 3) * count_by (hits (c / 3) w) corners) halves
      (λ w a. sum_by_times (one_if (side s w == c % 3)) (λ k. one_if (hits (c / 3) w k)) corners)

  -- at most one corner belongs to a half
  one_hits : (t : ℕ) (w : List ℕ) → count_by (hits t w) corners ≤ 1
  one_hits t w = count_one (hits t w) corners (apart_from first corners are.once) same
    where
      backwards_too : (k l : Corner) → Among k corners → Among l corners → k.tet ≡ l.tet → corner_word l ≡ turn (corner_word k) → ⊥
      backwards_too k l x y t e =
          let s : l ≡ turned_round k = same_corner l (turned_round k) (sym t) e in
          no_turn rows table first k (is_corner k x) (reaches k x) (subst (Reaches rows first) s (reaches l y))

      same : (k l : Corner) → Among k corners → Among l corners → hits t w k ≡ true → hits t w l ≡ true → k ≡ l
      same k l x y a b =
          let p : IsHit t w k = hit_is t w k a in
          let q : IsHit t w l = hit_is t w l b in
          let tets : k.tet ≡ l.tet = p.tet ∙ sym q.tet in
          elim p.either [
            | inl e ↦ elim q.either [
              | inl f ↦ same_corner k l tets (e ∙ sym f)
              | inr f ↦ absurd (backwards_too k l x y tets (f ∙ ap turn (sym e)))
            ]
            | inr e ↦ elim q.either [
              | inl f ↦ absurd (backwards_too l k y x (sym tets) (e ∙ ap turn (sym f)))
              | inr f ↦ same_corner k l tets (e ∙ sym f)
            ]
          ]

  -- a corner belongs to a half only if the edge is of the class
  pub hits_few : (t : ℕ) (w : List ℕ) (e : ℕ) → edge_number (image w 0) (image w 1) ≡ e → edge_number (image w 1) (image w 0) ≡ e
      → count_by (hits t w) corners ≤ one_if (slice_index classes (6 * t + e) == r)
  hits_few t w e one other = go (slice_index classes (6 * t + e) == r) refl
    where
      none : (slice_index classes (6 * t + e) == r) ≡ false → (k : Corner) → Among k corners → one_if (hits t w k) ≡ 0
      none off k a = ap one_if (false_from_ne_true (hits t w k) (λ h.
          let p : IsHit t w k = hit_is t w k h in
          let number : edge_number k.a k.b ≡ e = elim p.either [
            | inl f ↦ ap (λ (v : List ℕ). edge_number (image v 0) (image v 1)) f ∙ one
            | inr f ↦ ap (λ (v : List ℕ). edge_number (image v 0) (image v 1)) f ∙ other
          ] in
          let at : slice_index classes (6 * t + e) ≡ r =
          (λ i. slice_index classes (6 * sym p.tet i + sym number i)) ∙ class_of_corner rows classes count table numbered r k in_range (reaches k a) in
          both_ways (slice_index classes (6 * t + e) == r) off (eq-eqb (slice_index classes (6 * t + e)) r at)))

      go : (b : Bool) → (slice_index classes (6 * t + e) == r) ≡ b → count_by (hits t w) corners ≤ one_if b
      go true h = one_hits t w
      go false h = let z : count_by (hits t w) corners ≡ 0 = sum_by-none (λ k. one_if (hits t w k)) corners (none h) in omega arith
