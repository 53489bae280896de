-- A face has as many arcs around a vertex as its image has around the image of the vertex.
use Rattle.std.proofs.Common.{◌≡◌, ℕ, ◌<◌, Bool, true, List, [], ◌∷◌, map, inl, inr, refl, sym, ap, ◌∙◌, arith}
use Rattle.std.specs.Prelude.{◌==◌, ◌||◌, nat_lt, sum_by, slice_index}
use Rattle.std.specs.List.{list_all, slice_index_or}
use Rattle.std.proofs.lemmas.Bool.{or_cases, ltb-true, eqb-true}
use Rattle.std.proofs.lemmas.List.Sums.{sum_by-cons}
use Rattle.table_definitions.specs.Lists.{same_list}
use Rattle.table_definitions.specs.Permutation.{four, words, image, IsPermutationOfFour}
use Rattle.table_definitions.specs.Relabelling.{Relabelling, IsRelabelling}
use Rattle.table_definitions.proofs.Carried.{perm_permutes}
use Rattle.table_definitions.proofs.ListFacts.{same_list-true}
use Rattle.table_definitions.proofs.Listed.{among_contains}
use Rattle.table_definitions.proofs.Permutations.{contains_words}
use Rattle.table_definitions.proofs.TableLaws.{Among-four}
use Rattle.table_definitions.proofs.Tests.{list_all-among}
use Rattle.surface_definitions.specs.Coordinates.{columns_each}
use Rattle.surface_definitions.specs.Pieces.{arcs_around}
use Rattle.surface_definitions.specs.declared.Coords.{Coords}
use Rattle.surface_definitions.specs.declared.Coords.TheVariants.{Standard, Quad, Octagon}
use Rattle.surface_laws.specs.MatchingLaws.{HasTriangles}
use Rattle.surface_laws.proofs.Counting.{sum_by_same, sum_by-map}
use Rattle.surface_equation_laws.proofs.LocalArcs.{local_arcs, placed, arcs_placed}
use Rattle.surface_equation_laws.proofs.FaceArcs.{is_arc}
use Rattle.surface_relabelling_laws.specs.Vectors.{place_under}
use Rattle.surface_relabelling_laws.proofs.Columns.{IsCarried}

-- the third and the fourth item in each other's place
swapped : List ℕ → List ℕ
swapped [] = []
swapped (a ∷ []) = a ∷ []
swapped (a ∷ b ∷ []) = a ∷ b ∷ []
swapped (a ∷ b ∷ c ∷ []) = a ∷ b ∷ c ∷ []
swapped (a ∷ b ∷ c ∷ d ∷ xs) = a ∷ b ∷ d ∷ c ∷ xs

sum_swapped : (g : ℕ → ℕ) (xs : List ℕ) → sum_by g (swapped xs) ≡ sum_by g xs
unfolding swapped
sum_swapped g [] = refl
sum_swapped g (a ∷ []) = refl
sum_swapped g (a ∷ b ∷ []) = refl
sum_swapped g (a ∷ b ∷ c ∷ []) = refl
sum_swapped g (a ∷ b ∷ c ∷ d ∷ xs) = omega (
  arith,
  sum_by-cons g a (b ∷ d ∷ c ∷ xs),
  sum_by-cons g b (d ∷ c ∷ xs),
  sum_by-cons g d (c ∷ xs),
  sum_by-cons g c xs,
  sum_by-cons g a (b ∷ c ∷ d ∷ xs),
  sum_by-cons g b (c ∷ d ∷ xs),
  sum_by-cons g c (d ∷ xs),
  sum_by-cons g d xs,
)

-- whether two lists are equal but for that
alike : List ℕ → List ℕ → Bool
alike xs ys = same_list xs ys || same_list xs (swapped ys)

sum_alike : (g : ℕ → ℕ) (xs ys : List ℕ) → alike xs ys ≡ true → sum_by g xs ≡ sum_by g ys
unfolding alike
sum_alike g xs ys h = elim (or_cases (same_list xs ys) (same_list xs (swapped ys)) h) [
  | inl e ↦ ap (sum_by g) (same_list-true xs ys e)
  | inr e ↦ ap (sum_by g) (same_list-true xs (swapped ys) e) ∙ sum_swapped g ys
]

-- the discs with an arc around a vertex in a face, and those of the images
arcs_alike : Coords → List ℕ → ℕ → ℕ → Bool
arcs_alike coords p f v = (v == f) || alike (local_arcs coords (image p f) (image p v)) (map (place_under coords p) (local_arcs coords f v))

faces_alike : Coords → List ℕ → Bool
faces_alike coords p = list_all (λ f. list_all (arcs_alike coords p f) four) four

all_alike : (coords : Coords) → HasTriangles coords → list_all (faces_alike coords) words ≡ true
unfolding faces_alike arcs_alike alike swapped place_under
all_alike Standard h = refl
all_alike Quad h = absurd h
all_alike Octagon h = refl

module _ (coords : Coords) (triangles : HasTriangles coords) (p : List ℕ) (permutes : IsPermutationOfFour p) (f v : ℕ) (lf : f < 4) (lv : v < 4) (off : v ≡ f → ⊥) where
  arcs_placed_under : alike (local_arcs coords (image p f) (image p v)) (map (place_under coords p) (local_arcs coords f v)) ≡ true
  unfolding faces_alike arcs_alike
  arcs_placed_under =
      let all : faces_alike coords p ≡ true = list_all-among (faces_alike coords) p words (all_alike coords triangles) (among_contains p words ((contains_words p).0 permutes)) in
      let face : list_all (arcs_alike coords p f) four ≡ true = list_all-among (λ f. list_all (arcs_alike coords p f) four) f four all (Among-four f lf) in
      let one : arcs_alike coords p f v ≡ true = list_all-among (arcs_alike coords p f) v four face (Among-four v lv) in
      elim (or_cases (v == f) (alike (local_arcs coords (image p f) (image p v)) (map (place_under coords p) (local_arcs coords f v))) one) [
        | inl e ↦ absurd (off (eqb-true v f e))
        | inr e ↦ e
      ]

module _ (coords : Coords) (triangles : HasTriangles coords) (n : ℕ) (by : Relabelling) (is : IsRelabelling n by) (xs ys : List ℕ) (carried : IsCarried coords n by xs ys) where
  pub arcs_carried : (t f v : ℕ) → t < n → f < 4 → v < 4 → (v ≡ f → ⊥)
      → arcs_around coords ys (slice_index by.images t) (image (slice_index_or by.perms t []) f) (image (slice_index_or by.perms t []) v) ≡ arcs_around coords xs t f v
  arcs_carried t f v lt lf lv off =
      let p : List ℕ = slice_index_or by.perms t [] in
      let u : ℕ = slice_index by.images t in
      let h : IsPermutationOfFour p = perm_permutes n by is t lt in
      let places = (is_arc coords f v lf lv off).places in
      ap (sum_by (slice_index ys)) (arcs_placed coords u (image p f) (image p v) triangles)
      ∙ sum_by-map (slice_index ys) (placed coords u) (local_arcs coords (image p f) (image p v))
      ∙ sum_alike (λ a. slice_index ys (placed coords u a)) (local_arcs coords (image p f) (image p v)) (map (place_under coords p) (local_arcs coords f v)) (arcs_placed_under coords triangles p h f v lf lv off)
      ∙ sum_by-map (λ a. slice_index ys (placed coords u a)) (place_under coords p) (local_arcs coords f v)
      ∙ sum_by_same (λ a. slice_index ys (placed coords u (place_under coords p a))) (λ a. slice_index xs (placed coords t a)) (local_arcs coords f v)
      (λ a m. carried.entries t a lt (ltb-true a (columns_each coords) (list_all-among (λ a. nat_lt a (columns_each coords)) a (local_arcs coords f v) places m)))
      ∙ sym (sum_by-map (slice_index xs) (placed coords t) (local_arcs coords f v))
      ∙ sym (ap (sum_by (slice_index xs)) (arcs_placed coords t f v triangles))
