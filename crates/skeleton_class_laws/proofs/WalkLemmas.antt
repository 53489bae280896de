-- Orbits of corners are tours around edges.
use Rattle.std.proofs.Common.{◌≡◌, ◌≢◌, ◌⊎◌, inl, inr, ℕ, zero, suc, ◌+◌, ◌-◌, ◌*◌, ◌/◌, ◌%◌, ◌<◌, ◌≤◌, Bool, true, false, List, [], ◌∷◌, length, map, Option, Some, None, refl, sym, ap, ◌∙◌, arith, subst, subst₂}
use Rattle.std.specs.Prelude.{◌==◌, ◌&&◌, ◌||◌, not, nat_lt, filter, option_map, is_none, slice_index}
use Rattle.std.specs.Bool.{MatchBool}
use Rattle.std.specs.List.{slice_index_or, list_any}
use Rattle.std.proofs.lemmas.Bool.{eq-eqb, ne_eqb, cases_lt, ltb-true, false≢true, or_right}
use Rattle.table_definitions.specs.Lists.{below, has, same_list}
use Rattle.table_definitions.specs.Permutation.{four, image, index, words, IsPermutationOfFour}
use Rattle.table_definitions.specs.Table.{Gluing, Row, glue, IsTable}
use Rattle.table_definitions.specs.Classes.{IsNumbering, least}
use Rattle.skeleton_definitions.specs.Skeleton.{Skeleton, IsSkeleton, IsAround}
use Rattle.table_definitions.specs.Places.{Place, edge, ends, edge_number, backwards, across, is_boundary, lies_in_boundary, is_boundary_edge, IsJoined, SameEdge}
use Rattle.skeleton_definitions.specs.Corners.{Corner, first_corner, GoesAround, IsTourFrom}
use Rattle.table_definitions.proofs.ChainLaws.{joined_refl, joined_more}
use Rattle.table_definitions.proofs.PermutationLaws.{image_below, images_apart}
use Rattle.table_definitions.proofs.ListFacts.{list_all-below, same_list-true}
use Rattle.table_definitions.proofs.Permutations.{four_images}
use Rattle.table_walk_laws.specs.Walks.{after, AlwaysSteps, IsOrbit, last_of}
use Rattle.table_walk_laws.proofs.Steps.{after_before}
use Rattle.table_walk_laws.proofs.ChainLemmas.{going_on_has_cycle}
use Rattle.skeleton_class_laws.specs.Crossings.{pair}
use Rattle.skeleton_class_laws.specs.Rounds.{word_at, corner_by, corner_at, next_corner, word_across, starts, start_of, IsTour, IsTourUnlessBoundary}
use Rattle.skeleton_class_laws.proofs.Cases.{ends-edge_number}
use Rattle.skeleton_class_laws.proofs.CrossingLemmas.{across-glued}
use Rattle.skeleton_class_laws.proofs.Marks.{any_more}
use Rattle.skeleton_class_laws.proofs.RoundLemmas.{turns, word_of, word_permutes, index_of_word, behind_permutes, behind_images, step_corner, next_corner-is, within}
use Rattle.skeleton_class_laws.proofs.EdgeTies.{edge_pair, pair_either}

-- different numbers are different corners
pub corner_apart : (k l : ℕ) → k ≢ l → corner_at k ≢ corner_at l
unfolding corner_at
corner_apart k l ne e = ne same
  where
    images : word_at k ≡ word_at l
    images = four_images (word_at k) (word_permutes k) ∙ (λ i. (e i).a ∷ (e i).b ∷ (e i).c ∷ (e i).d ∷ []) ∙ sym (four_images (word_at l) (word_permutes l))

    same : k ≡ l
    same =
        let t : k / 24 ≡ l / 24 = ap (λ (c : Corner). c.tet) e in
        let i : k % 24 ≡ l % 24 = sym (index_of_word k) ∙ ap index images ∙ index_of_word l in
        omega arith

module _ (rows : List Row) (table : IsTable rows) where
  -- steps that return to the first corner, as a tour of corners
  goes_round : (first k : ℕ) (ks : List ℕ) → ((j : ℕ) → suc j < length (k ∷ ks) → next_corner rows (slice_index (k ∷ ks) j) ≡ Some (slice_index (k ∷ ks) (suc j)))
      → next_corner rows (last_of (k ∷ ks)) ≡ Some first → ((j : ℕ) → j < length ks → slice_index ks j ≢ first)
      → GoesAround rows (corner_at first) (corner_at k) (map corner_at ks)
  goes_round first k [] steps back separate = step_corner rows table k ∙ ap (λ (o : Option ℕ). option_map corner_at o) back
  goes_round first k (l ∷ ls) steps back separate = (
    step_corner rows table k ∙ ap (λ (o : Option ℕ). option_map corner_at o) (steps 0 (omega arith)),
    corner_apart l first (separate 0 (omega arith)),
    goes_round first l ls (λ j m. steps (suc j) (omega arith)) (ap (next_corner rows) (sym last) ∙ back) (λ j m. separate (suc j) (omega arith)),
  )
    where
      last : last_of (k ∷ l ∷ ls) ≡ last_of (l ∷ ls)
      last = let n : length (k ∷ l ∷ ls) - 1 ≡ suc (length (l ∷ ls) - 1) = omega arith in ap (slice_index (k ∷ l ∷ ls)) n

  pub walk_from_round : (start : ℕ) (corners : List Corner) → AlwaysSteps (next_corner rows) start → IsTour (next_corner rows) start corners → IsTourFrom rows (corner_at start) corners
  walk_from_round start corners on (places, orbit, e) = subst (IsTourFrom rows (corner_at start)) (sym e) (by_places places orbit)
    where
      by_places : (ps : List ℕ) → IsOrbit (next_corner rows) start ps → IsTourFrom rows (corner_at start) (map corner_at ps)
      by_places [] o = let s : 1 ≤ length {A = ℕ} [] = o.walk.some in absurd (omega arith)
      by_places (k ∷ ks) o =
          let back : next_corner rows (last_of (k ∷ ks)) ≡ Some start = going_on_has_cycle (next_corner rows) start on (k ∷ ks) o in
          let same : k ≡ start = o.walk.first in
          (ap corner_at same, goes_round start k ks o.walk.steps back (λ j m f. o.walk.distinct 0 (suc j) 0 (omega arith) (omega arith) (same ∙ sym f)))

  -- the edge of a corner
  abbrev edge_of : ℕ → Place
  edge_of k = pair (k / 24) (image (word_at k) 0) (image (word_at k) 1)

  edge_kept : (k m : ℕ) → next_corner rows k ≡ Some m → (f : ℕ) × (across rows (edge_of k) f ≡ Some (edge_of m))
  edge_kept k m e =
      let s = turns rows k m e in
      let g = s.gluing in
      let p = word_at k in
      let h = table.permutes _ g s.glued in
      let w = word_of g.tet (word_across g.perm p) (behind_permutes g.perm p h (word_permutes k)) in
      let b = behind_images g.perm p h (word_permutes k) in
      let tet : m / 24 ≡ g.tet = ap (λ n. n / 24) s.lands ∙ w.0 in
      let word : word_at m ≡ word_across g.perm p = ap word_at s.lands ∙ w.1 in
      let a0 : image (word_at m) 0 ≡ image g.perm (image p 0) = ap (λ (u : List ℕ). image u 0) word ∙ b.0 in
      let a1 : image (word_at m) 1 ≡ image g.perm (image p 1) = ap (λ (u : List ℕ). image u 1) word ∙ b.1 in
      let off0 : (image p 0 == image p 2) ≡ false = ne_eqb (image p 0) (image p 2) (images_apart p 0 2 (word_permutes k) (omega arith) (omega arith) (λ z. omega arith)) in
      let off1 : (image p 1 == image p 2) ≡ false = ne_eqb (image p 1) (image p 2) (images_apart p 1 2 (word_permutes k) (omega arith) (omega arith) (λ z. omega arith)) in
      (image p 2, across-glued rows (k / 24) (image p 0) (image p 1) (image p 2) g off0 off1 s.glued ∙ ap (λ (q : Place). Some q) (sym (λ i. pair (tet i) (a0 i) (a1 i))))

  edge_joined : (start n x : ℕ) → after (next_corner rows) start n ≡ Some x → IsJoined rows (edge_of start) (edge_of x)
  edge_joined start zero x e = let s : start ≡ x = cc in subst (λ y. IsJoined rows (edge_of start) (edge_of y)) s (joined_refl rows (edge_of start))
  edge_joined start (suc n) x e =
      let b = after_before (next_corner rows) start n x e in
      let k = edge_kept b.0 x b.2 in
      joined_more rows (edge_of start) (edge_of b.0) k.0 (edge_of x) (edge_joined start n b.0 b.1) k.1

  reached_below : (start n x : ℕ) → start < 24 * length rows → after (next_corner rows) start n ≡ Some x → x < 24 * length rows
  reached_below start zero x l e = let s : start ≡ x = cc in subst (λ y. y < 24 * length rows) s l
  reached_below start (suc n) x l e = let b = after_before (next_corner rows) start n x e in within rows table b.0 x (reached_below start n b.0 l b.1) b.2

-- a test that a number below four passes
any_four : (p : ℕ → Bool) (f : ℕ) → f < 4 → p f ≡ true → list_any p four ≡ true
any_four p zero l h = rw h refl
any_four p (suc zero) l h = any_two (p 0) (p 1) _ h
  where
    any_two : (a b c : Bool) → b ≡ true → (a || (b || c)) ≡ true
    any_two true b c h = refl
    any_two false b c h = rw h refl
any_four p (suc (suc zero)) l h = any_three (p 0) (p 1) (p 2) _ h
  where
    any_three : (a b c d : Bool) → c ≡ true → (a || (b || (c || d))) ≡ true
    any_three true b c d h = refl
    any_three false true c d h = refl
    any_three false false c d h = rw h refl
any_four p (suc (suc (suc zero))) l h = any_last (p 0) (p 1) (p 2) (p 3) h
  where
    any_last : (a b c d : Bool) → d ≡ true → (a || (b || (c || (d || false)))) ≡ true
    any_last true b c d h = refl
    any_last false true c d h = refl
    any_last false false true d h = refl
    any_last false false false d h = rw h refl
any_four p (suc (suc (suc (suc f)))) l h = absurd (omega arith)

any_below : (p : ℕ → Bool) (n j : ℕ) → j < n → p j ≡ true → list_any p (below n) ≡ true
any_below p zero j l h = absurd (omega arith)
any_below p (suc n) j l h = let s : suc n ≡ n + 1 = omega arith in ap (λ m. list_any p (below m)) s ∙ any_more p n ∙ elim (cases_lt j n) [
  | inl less ↦ rw (any_below p n j less h) refl
  | inr more ↦ let e : j ≡ n = omega arith in or_right (list_any p (below n)) (p n) (ap p (sym e) ∙ h)
]

-- the corner at which the walk starts
abbrev rest_of : ℕ → List ℕ
rest_of e = filter (λ v. not (has (ends e) v)) four

abbrev first_word : ℕ → List ℕ
first_word e = slice_index_or words (slice_index_or starts e 0) []

starts_are : (e : ℕ) → e < 6 → image (first_word e) 0 ∷ image (first_word e) 1 ∷ image (first_word e) 2 ∷ image (first_word e) 3 ∷ []
    ≡ slice_index (ends e) 0 ∷ slice_index (ends e) 1 ∷ slice_index (rest_of e) 0 ∷ slice_index (rest_of e) 1 ∷ []
starts_are e l = same_list-true (image (first_word e) 0 ∷ image (first_word e) 1 ∷ image (first_word e) 2 ∷ image (first_word e) 3 ∷ [])
    (slice_index (ends e) 0 ∷ slice_index (ends e) 1 ∷ slice_index (rest_of e) 0 ∷ slice_index (rest_of e) 1 ∷ [])
    (list_all-below (λ x. same_list (image (first_word x) 0 ∷ image (first_word x) 1 ∷ image (first_word x) 2 ∷ image (first_word x) 3 ∷ [])
    (slice_index (ends x) 0 ∷ slice_index (ends x) 1 ∷ slice_index (rest_of x) 0 ∷ slice_index (rest_of x) 1 ∷ [])) 6 refl e l)

start_small : (e : ℕ) → e < 6 → slice_index_or starts e 0 < 24
start_small e l = ltb-true (slice_index_or starts e 0) 24 (list_all-below (λ x. nat_lt (slice_index_or starts x 0) 24) 6 refl e l)

start_parts : (i : ℕ) → (start_of i / 24 ≡ i / 6) × (word_at (start_of i) ≡ first_word (i % 6))
start_parts i =
    let l : i % 6 < 6 = omega arith in
    let s : slice_index_or starts (i % 6) 0 < 24 = start_small (i % 6) l in
    let d : start_of i / 24 ≡ i / 6 = by_parts (i / 6) (slice_index_or starts (i % 6) 0) s in
    let r : start_of i % 24 ≡ slice_index_or starts (i % 6) 0 = rest (i / 6) (slice_index_or starts (i % 6) 0) s in
    (d, ap (λ k. slice_index_or words k []) r)
  where
    by_parts : (t k : ℕ) → k < 24 → (24 * t + k) / 24 ≡ t
    by_parts t k l = omega arith

    rest : (t k : ℕ) → k < 24 → (24 * t + k) % 24 ≡ k
    rest t k l = omega arith

pub start_is_first : (i : ℕ) → corner_at (start_of i) ≡ first_corner i
unfolding corner_at
start_is_first i =
    let p = start_parts i in
    let l : i % 6 < 6 = omega arith in
    let s = starts_are (i % 6) l in
    (λ k. corner_by (p.0 k) (p.1 k))
    ∙ (λ k. record { tet = i / 6; a = slice_index (s k) 0; b = slice_index (s k) 1; c = slice_index (s k) 2; d = slice_index (s k) 3 })

start_edge : (i : ℕ) → pair (start_of i / 24) (image (word_at (start_of i)) 0) (image (word_at (start_of i)) 1) ≡ edge i
start_edge i =
    let p = start_parts i in
    let l : i % 6 < 6 = omega arith in
    let s = starts_are (i % 6) l in
    (λ k. pair (p.0 k) (image (p.1 k) 0) (image (p.1 k) 1)) ∙ (λ k. pair (i / 6) (slice_index (s k) 0) (slice_index (s k) 1))
    ∙ sym (edge_pair i)

pub start_below : (i n : ℕ) → i < 6 * n → start_of i < 24 * n
start_below i n h =
    let l : i % 6 < 6 = omega arith in
    let s : slice_index_or starts (i % 6) 0 < 24 = start_small (i % 6) l in
    let t : i / 6 < n = omega arith in
    by_parts (i / 6) (slice_index_or starts (i % 6) 0) s t
  where
    by_parts : (t k : ℕ) → k < 24 → t < n → 24 * t + k < 24 * n
    by_parts t k l m = omega arith

-- an edge lies in a boundary face that is opposite neither of its ends
has_neither : (xs : List ℕ) (a b f : ℕ) → (xs ≡ a ∷ b ∷ []) ⊎ (xs ≡ b ∷ a ∷ []) → a ≢ f → b ≢ f → has xs f ≡ false
has_neither xs a b f (inl e) na nb = ap (λ (ys : List ℕ). has ys f) e ∙ (let ha : (a == f) ≡ false = ne_eqb a f na in let hb : (b == f) ≡ false = ne_eqb b f nb in rw (ha, hb) refl)
has_neither xs a b f (inr e) na nb = ap (λ (ys : List ℕ). has ys f) e ∙ (let ha : (a == f) ≡ false = ne_eqb a f na in let hb : (b == f) ≡ false = ne_eqb b f nb in rw (hb, ha) refl)

lies_by : (rows : List Row) (t a b f e : ℕ) → e < 6 → (ends e ≡ a ∷ b ∷ []) ⊎ (ends e ≡ b ∷ a ∷ []) → a ≢ f → b ≢ f → f < 4 → glue rows (record { tet = t; face = f }) ≡ None
    → lies_in_boundary rows (6 * t + e) ≡ true
lies_by rows t a b f e small two na nb lf free =
    any_four (λ g. not (has (ends ((6 * t + e) % 6)) g) && is_boundary rows (record { tet = (6 * t + e) / 6; face = g })) f lf
    ((λ i. not (has (ends (r i)) f) && is_boundary rows (record { tet = d i; face = f })) ∙ (λ i. not (off i) && is_none (free i)))
  where
    d : (6 * t + e) / 6 ≡ t
    d = omega arith

    r : (6 * t + e) % 6 ≡ e
    r = omega arith

    off : has (ends e) f ≡ false
    off = has_neither (ends e) a b f two na nb

-- around an internal edge class each corner has a next one
module _ (rows : List Row) (table : IsTable rows) (classes : List ℕ) (count : ℕ) (num : IsNumbering (6 * length rows) (SameEdge rows) classes count) (first : ℕ) (inside : first < 6 * length rows) where
  open_by : (t a b f e : ℕ) → t < length rows → e < 6 → (ends e ≡ a ∷ b ∷ []) ⊎ (ends e ≡ b ∷ a ∷ []) → a ≢ f → b ≢ f → f < 4 → glue rows (record { tet = t; face = f }) ≡ None
      → SameEdge rows first (6 * t + e) → is_boundary_edge rows classes (slice_index classes first) ≡ true
  open_by t a b f e lt small two na nb lf free joined =
      any_below (λ i. (slice_index classes i == slice_index classes first) && lies_in_boundary rows i) (length classes) (6 * t + e) bound both
    where
      lj : 6 * t + e < 6 * length rows
      lj = omega arith

      bound : 6 * t + e < length classes
      bound = omega (arith, num.one_each)

      together : slice_index classes (6 * t + e) ≡ slice_index classes first
      together = sym ((num.together first (6 * t + e) inside lj).1 joined)

      both : ((slice_index classes (6 * t + e) == slice_index classes first) && lies_in_boundary rows (6 * t + e)) ≡ true
      both = λ i. eq-eqb (slice_index classes (6 * t + e)) (slice_index classes first) together i && lies_by rows t a b f e small two na nb lf free i

  same_by : (p q : Place) (j : ℕ) → p ≡ edge first → (q ≡ edge j) ⊎ (q ≡ backwards (edge j)) → IsJoined rows p q → SameEdge rows first j
  same_by p q j ep (inl eq) joined = inl (subst₂ (IsJoined rows) ep eq joined)
  same_by p q j ep (inr eq) joined = inr (subst₂ (IsJoined rows) ep eq joined)

  -- a corner whose face is not glued
  open_edge : (x : ℕ) → x < 24 * length rows → IsJoined rows (edge_of rows table (start_of first)) (edge_of rows table x) → glue rows (record { tet = x / 24; face = image (word_at x) 2 }) ≡ None
      → is_boundary_edge rows classes (slice_index classes first) ≡ true
  open_edge x lx joined free =
      open_by (x / 24) (image w 0) (image w 1) (image w 2) (edge_number (image w 0) (image w 1)) (omega arith) ends_are.0 ends_are.1
      (images_apart w 0 2 h (omega arith) (omega arith) (λ z. omega arith)) (images_apart w 1 2 h (omega arith) (omega arith) (λ z. omega arith)) (image_below w 2 h (omega arith)) free
      (same_by (edge_of rows table (start_of first)) (edge_of rows table x) (6 * (x / 24) + edge_number (image w 0) (image w 1)) (start_edge first) (pair_either (x / 24) (image w 0) (image w 1) la lb ne) joined)
    where
      w : List ℕ
      w = word_at x

      h : IsPermutationOfFour (word_at x)
      h = word_permutes x

      la : image (word_at x) 0 < 4
      la = image_below (word_at x) 0 h (omega arith)

      lb : image (word_at x) 1 < 4
      lb = image_below (word_at x) 1 h (omega arith)

      ne : image (word_at x) 0 ≢ image (word_at x) 1
      ne = images_apart (word_at x) 0 1 h (omega arith) (omega arith) (λ z. omega arith)

      ends_are : (edge_number (image (word_at x) 0) (image (word_at x) 1) < 6)
          × ((ends (edge_number (image (word_at x) 0) (image (word_at x) 1)) ≡ image (word_at x) 0 ∷ image (word_at x) 1 ∷ []) ⊎ (ends (edge_number (image (word_at x) 0) (image (word_at x) 1)) ≡ image (word_at x) 1 ∷ image (word_at x) 0 ∷ []))
      ends_are = ends-edge_number (image (word_at x) 0) (image (word_at x) 1) la lb ne

  no_glue : (x : ℕ) → next_corner rows x ≡ None → glue rows (record { tet = x / 24; face = image (word_at x) 2 }) ≡ None
  no_glue x e = by_glue (glue rows (record { tet = x / 24; face = image (word_at x) 2 })) refl
    where
      by_glue : (o : Option Gluing) → glue rows (record { tet = x / 24; face = image (word_at x) 2 }) ≡ o → glue rows (record { tet = x / 24; face = image (word_at x) 2 }) ≡ None
      by_glue None h = h
      by_glue (Some g) h = absurd (let z : Some (24 * g.tet + index (word_across g.perm (word_at x))) ≡ None = sym (next_corner-is rows x g h) ∙ e in cc)

  pub inner_goes_on : is_boundary_edge rows classes (slice_index classes first) ≡ false → AlwaysSteps (next_corner rows) (start_of first)
  inner_goes_on inner x r e =
      let l : start_of first < 24 * length rows = start_below first (length rows) inside in
      let lx : x < 24 * length rows = reached_below rows table (start_of first) r.0 x l r.1 in
      let o = open_edge x lx (edge_joined rows table (start_of first) r.0 x r.1) (no_glue x e) in
      false≢true (sym inner ∙ o)

  -- the tour around an internal edge class, and no corner for a boundary class
  pub around_by : (corners : List Corner) (b : Bool) → is_boundary_edge rows classes (slice_index classes first) ≡ b → MatchBool b (corners ≡ []) (IsTour (next_corner rows) (start_of first) corners)
      → MatchBool b (corners ≡ []) (IsTourFrom rows (first_corner first) corners)
  around_by corners true e h = h
  around_by corners false e h = subst (λ k. IsTourFrom rows k corners) (start_is_first first) (walk_from_round rows table (start_of first) corners (inner_goes_on e) h)

-- the tour around an edge class of a skeleton
pub around_class : (s : Skeleton) (c first : ℕ) (b : Bool) (corners : List Corner) → IsSkeleton s → first ≡ least s.edges.classes c → first < 6 * length s.rows → slice_index s.edges.classes first ≡ c
    → b ≡ is_boundary_edge s.rows s.edges.classes c → IsTourUnlessBoundary (next_corner s.rows) b first corners → IsAround s c corners
around_class s c first b corners k ef inside member eb h =
    let own : is_boundary_edge s.rows s.edges.classes (slice_index s.edges.classes first) ≡ b = ap (is_boundary_edge s.rows s.edges.classes) member ∙ sym eb in
    let walk : MatchBool b (corners ≡ []) (IsTourFrom s.rows (first_corner first) corners) = around_by s.rows k.table s.edges.classes s.edges.count k.edges first inside corners b own h in
    subst₂ (λ (t : Bool) (f : ℕ). MatchBool t (corners ≡ []) (IsTourFrom s.rows (first_corner f) corners)) eb ef walk
