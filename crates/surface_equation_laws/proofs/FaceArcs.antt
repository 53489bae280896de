-- The arcs of one face, by testing all vertices and permutations.
use Rattle.std.proofs.Common.{◌≡◌, ℕ, ◌<◌, ◌≤◌, Bool, true, not, List, length, inl, inr, refl}
use Rattle.std.specs.Prelude.{◌==◌, ◌&&◌, ◌||◌, nat_le, sum_by, count_by, if◌then◌else◌}
use Rattle.std.proofs.lemmas.Bool.{agree_below, and_parts, leb-true, or_cases, eqb-true}
use Rattle.table_definitions.specs.Lists.{times_in}
use Rattle.table_definitions.specs.Permutation.{IsPermutationOfFour, image, others}
use Rattle.table_definitions.proofs.Permutations.{by_words}
use Rattle.surface_definitions.specs.Coordinates.{before_octagons, columns_each, triangles_each}
use Rattle.surface_definitions.specs.declared.Coords.{Coords}
use Rattle.surface_definitions.specs.declared.Coords.TheVariants.{Standard, Quad, Octagon}
use Rattle.surface_laws.proofs.Turns.{by_two}
use Rattle.surface_equation_laws.specs.Weights.{side_length}
use Rattle.surface_equation_laws.proofs.LocalArcs.{local_arcs, are_places}

pub record IsArc (coords : Coords) (f v : ℕ) : Type 0 where
  pub places : are_places coords (local_arcs coords f v) ≡ true
  pub one_triangle : count_by (λ a. not (nat_le (triangles_each coords) a)) (local_arcs coords f v) ≤ 1
  pub limited : length (local_arcs coords f v) ≤ side_length coords

arc_test : Coords → ℕ → ℕ → Bool
arc_test coords f v =
    (v == f) || (are_places coords (local_arcs coords f v) && (nat_le (count_by (λ a. not (nat_le (triangles_each coords) a)) (local_arcs coords f v)) 1 && nat_le (length (local_arcs coords f v)) (side_length coords)))

arc_tested : (coords : Coords) (f v : ℕ) → f < 4 → v < 4 → arc_test coords f v ≡ true
unfolding arc_test
arc_tested Standard f v lf lv = by_two (arc_test Standard) 4 4 refl f v lf lv
arc_tested Quad f v lf lv = by_two (arc_test Quad) 4 4 refl f v lf lv
arc_tested Octagon f v lf lv = by_two (arc_test Octagon) 4 4 refl f v lf lv

pub is_arc : (coords : Coords) (f v : ℕ) → f < 4 → v < 4 → (v ≡ f → ⊥) → IsArc coords f v
unfolding arc_test
is_arc coords f v lf lv off =
    let places : Bool = are_places coords (local_arcs coords f v) in
    let one : Bool = nat_le (count_by (λ a. not (nat_le (triangles_each coords) a)) (local_arcs coords f v)) 1 in
    let limited : Bool = nat_le (length (local_arcs coords f v)) (side_length coords) in
    elim (or_cases (v == f) (places && (one && limited)) (arc_tested coords f v lf lv)) [
      | inl same ↦ absurd (off (eqb-true v f same))
      | inr h ↦ (let a : (places ≡ true) × ((one && limited) ≡ true) = and_parts places (one && limited) h in
          let b : (one ≡ true) × (limited ≡ true) = and_parts one limited a.1 in
          record {
            places = a.0;
            one_triangle = leb-true (count_by (λ a. not (nat_le (triangles_each coords) a)) (local_arcs coords f v)) 1 b.0;
            limited = leb-true (length (local_arcs coords f v)) (side_length coords) b.1;
          })
    ]

-- the arcs that a piece has in a face at most
abbrev pub arc_weight : Coords → ℕ → ℕ
arc_weight coords a = if nat_le (before_octagons coords) a then 2 else 1

abbrev pub face_times : Coords → ℕ → ℕ → ℕ
face_times coords f a = sum_by (λ v. times_in (local_arcs coords f v) a) (others f)

-- how often an index occurs among the arcs of the image of a face under a permutation
abbrev pub turned_times : Coords → List ℕ → ℕ → ℕ → ℕ
turned_times coords p f a = sum_by (λ v. times_in (local_arcs coords (image p f) (image p v)) a) (others f)

face_test : Coords → ℕ → ℕ → Bool
face_test coords f a = nat_le (face_times coords f a) (arc_weight coords a)

turned_test : Coords → List ℕ → ℕ → ℕ → Bool
turned_test coords p f a = nat_le (turned_times coords p f a) (arc_weight coords a)

pub few_in_face : (coords : Coords) (f a : ℕ) → f < 4 → a < columns_each coords → face_times coords f a ≤ arc_weight coords a
unfolding face_test
few_in_face Standard f a lf la = leb-true (face_times Standard f a) (arc_weight Standard a) (by_two (face_test Standard) 4 7 refl f a lf la)
few_in_face Quad f a lf la = leb-true (face_times Quad f a) (arc_weight Quad a) (by_two (face_test Quad) 4 3 refl f a lf la)
few_in_face Octagon f a lf la = leb-true (face_times Octagon f a) (arc_weight Octagon a) (by_two (face_test Octagon) 4 10 refl f a lf la)

words_test : Coords → List ℕ → Bool
words_test coords p = agree_below (λ f. agree_below (turned_test coords p f) (λ v. true) (columns_each coords)) (λ k. true) 4

words_tested : (coords : Coords) (p : List ℕ) → IsPermutationOfFour p → words_test coords p ≡ true
unfolding words_test turned_test
words_tested Standard p h = by_words (words_test Standard) refl p h
words_tested Quad p h = by_words (words_test Quad) refl p h
words_tested Octagon p h = by_words (words_test Octagon) refl p h

pub few_across : (coords : Coords) (p : List ℕ) (f a : ℕ) → IsPermutationOfFour p → f < 4 → a < columns_each coords → turned_times coords p f a ≤ arc_weight coords a
unfolding words_test turned_test
few_across coords p f a h lf la =
    leb-true (turned_times coords p f a) (arc_weight coords a) (by_two (turned_test coords p) 4 (columns_each coords) (words_tested coords p h) f a lf la)
