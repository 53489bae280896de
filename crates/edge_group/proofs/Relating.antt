-- The index of a generator, letters, internal edges, and lists whose items correspond.
use Rattle.std.proofs.Common.{◌≡◌, ℕ, ◌+◌, ◌<◌, ◌≤◌, inl, inr, Bool, true, false, cond, not, List, [], ◌∷◌, ◌++◌, length, filter, filter_map, take, Option, Some, None, All, MatchBool, slice_index, subst, subst₂, sym, ap, refl, ◌∙◌, arith}
use Rattle.std.specs.Prelude.{◌==◌, option_map, if◌then◌else◌}
use Rattle.std.specs.List.{slice_index_or, AllPairs, AllZip, cons_option, position_or_len}
use Rattle.std.proofs.lemmas.Bool.{cases_lt, eq-eqb}
use Rattle.std.proofs.lemmas.List.{append-nil, get_or_default, take_more}
use Rattle.std.proofs.lemmas.List.Elements.{filter-append, filter_map-append, All-cons, All-nil, All-from_get_or}
use Rattle.std.proofs.lemmas.List.Folds.{list_any_none}
use Rattle.std.proofs.lemmas.List.Sums.{position_or_len_is}
use Rattle.basic_lemmas.proofs.Numbers.{less_unequal}
use Rattle.basic_lemmas.proofs.Lists.{zip_more}
use Rattle.table_definitions.specs.Lists.{below, has}
use Rattle.table_definitions.specs.Table.{Gluing, Row, IsTable, glue}
use Rattle.table_definitions.specs.Classes.{least}
use Rattle.table_definitions.specs.Places.{is_boundary_edge}
use Rattle.table_definitions.proofs.TableLaws.{glued_tet, glued_face}
use Rattle.table_definitions.proofs.ListFacts.{below_next}
use Rattle.table_definitions.proofs.Bijections.{contains_has}
use Rattle.skeleton_definitions.specs.Corners.{Corner, step, corner_across, first_corner, GoesAround, IsTourFrom, internal_edges, left_through}
use Rattle.skeleton_definitions.specs.Skeleton.{Skeleton, IsAround}
use Rattle.presentation_definitions.specs.declared.Letter.{Letter}
use Rattle.presentation_laws.specs.Classes.{generator_number, LeavesInRange}

-- ---- the index of a generator

pub ascending_le : (xs : List ℕ) → AllPairs (λ c d. c < d) xs → (i j : ℕ) → i ≤ j → j < length xs → slice_index xs i ≤ slice_index xs j
ascending_le xs h i j le l = elim (cases_lt i j) [
  | inl less ↦ let m : slice_index xs i < slice_index xs j = h i j 0 less l in omega arith
  | inr more ↦ let same : i ≡ j = omega arith in let e : slice_index xs i ≡ slice_index xs j = ap (slice_index xs) same in omega arith
]

pub number_found : (xs : List ℕ) (c i : ℕ) → AllPairs (λ c d. c < d) xs → i < length xs → slice_index xs i ≡ c → Some (i + 1) ≡ generator_number xs c
number_found xs c i h l e =
    ap (λ k. Some (k + 1)) (sym place) ∙ ap (λ (b : Bool). if◌then◌else◌ {A = Option ℕ} b (Some (position_or_len (λ d. d == c) xs + 1)) None) (sym there)
  where
    there : has xs c ≡ true
    there = contains_has xs c (i, l, get_or_default xs i c 0 l ∙ e)

    place : position_or_len (λ d. d == c) xs ≡ i
    place = position_or_len_is (λ d. d == c) xs i 0 (omega arith)
        (λ k less. let m : slice_index xs k < slice_index xs i = h k i 0 less l in less_unequal (slice_index xs k) c (omega arith))
        (λ _. eq-eqb (slice_index xs i) c e)

pub number_missing : (xs : List ℕ) (c i : ℕ) → ((k : ℕ) → k < i → slice_index xs k < c) → ((k : ℕ) → i ≤ k → k < length xs → c < slice_index xs k) → None ≡ generator_number xs c
number_missing xs c i low high = ap (λ (b : Bool). if◌then◌else◌ {A = Option ℕ} b (Some (position_or_len (λ d. d == c) xs + 1)) None) (sym none)
  where
    other : (k : ℕ) → k < length xs → (slice_index xs k == c) ≡ false
    other k l = elim (cases_lt k i) [
      | inl less ↦ less_unequal (slice_index xs k) c (low k less)
      | inr more ↦ more_than (slice_index xs k) c (high k more l)
    ]
      where
        more_than : (a b : ℕ) → b < a → (a == b) ≡ false
        more_than a b m = grind arith

    none : has xs c ≡ false
    none = list_any_none (λ m. m == c) xs (All-from_get_or (λ m. (m == c) ≡ false) xs 0 other)

-- ---- letters

module _ (s : Skeleton) where
  -- ---- the walk leaves each corner through a face of a tetrahedron

  leaves : (h : IsTable s.rows) (k l : Corner) → step s.rows k ≡ Some l → LeavesInRange s.rows k
  leaves h k l e = cases (glue s.rows (left_through k)) refl
    where
      cases : (o : Option Gluing) → glue s.rows (left_through k) ≡ o → LeavesInRange s.rows k
      cases None d = let z : None ≡ Some l = ap (option_map (corner_across k)) (sym d) ∙ e in absurd cc
      cases (Some g) d = (glued_tet s.rows (left_through k) g d, glued_face s.rows (left_through k) g h.four_faces d)

  round_leaves : (h : IsTable s.rows) (first k : Corner) (ls : List Corner) → GoesAround s.rows first k ls → All (LeavesInRange s.rows) (k ∷ ls)
  round_leaves h first k [] w = All-cons (LeavesInRange s.rows) k [] (leaves h k first w) (All-nil (LeavesInRange s.rows))
  round_leaves h first k (l ∷ ls) w = All-cons (LeavesInRange s.rows) k (l ∷ ls) (leaves h k l w.0) (round_leaves h first l ls w.2)

  walk_leaves : (h : IsTable s.rows) (first : Corner) (corners : List Corner) → IsTourFrom s.rows first corners → All (LeavesInRange s.rows) corners
  walk_leaves h first [] w = absurd w
  walk_leaves h first (k ∷ ks) w = round_leaves h first k ks w.1

  pub around_leaves : (h : IsTable s.rows) (c : ℕ) (corners : List Corner) → IsAround s c corners → All (LeavesInRange s.rows) corners
  around_leaves h c corners a = by_boundary (is_boundary_edge s.rows s.edges.classes c) a
    where
      by_boundary : (b : Bool) → MatchBool b (corners ≡ []) (IsTourFrom s.rows (first_corner (least s.edges.classes c)) corners) → All (LeavesInRange s.rows) corners
      by_boundary true e = subst (All (LeavesInRange s.rows)) (sym e) (All-nil (LeavesInRange s.rows))
      by_boundary false w = walk_leaves h (first_corner (least s.edges.classes c)) corners w

-- ---- internal edges

edges_more : (rows : List Row) (classes : List ℕ) (c : ℕ) (b : Bool) → is_boundary_edge rows classes c ≡ b → internal_edges rows classes (c + 1) ≡ internal_edges rows classes c ++ cond (not b) (c ∷ []) []
edges_more rows classes c b e =
    ap (filter (λ d. not (is_boundary_edge rows classes d))) (below_next c) ∙ filter-append (λ d. not (is_boundary_edge rows classes d)) (below c) (c ∷ [])
    ∙ ap (λ a. internal_edges rows classes c ++ cond (not a) (c ∷ []) []) e

pub edge_passes : (rows : List Row) (classes : List ℕ) (c : ℕ) → is_boundary_edge rows classes c ≡ true → internal_edges rows classes (c + 1) ≡ internal_edges rows classes c
edge_passes rows classes c e = edges_more rows classes c true e ∙ append-nil (internal_edges rows classes c)

pub edge_grows : (rows : List Row) (classes : List ℕ) (c : ℕ) → is_boundary_edge rows classes c ≡ false → internal_edges rows classes (c + 1) ≡ internal_edges rows classes c ++ c ∷ []
edge_grows rows classes c e = edges_more rows classes c false e

-- ---- lists whose items correspond

-- one more item of a list, whose first items correspond to those of another
pub zip_taken : {B : Type 0} (R : ℕ → B → Type 0) (xs : List ℕ) (i : ℕ) (ys new : List B) (y : B) → i < length xs → new ≡ ys ++ y ∷ [] → R (slice_index xs i) y → AllZip R (take i xs) ys → AllZip R (take (i + 1) xs) new
zip_taken R xs i ys new y l e r h = subst₂ (AllZip R) (sym (take_more xs i 0 l)) (sym e) (zip_more R (take i xs) ys (slice_index xs i) y h r)

-- ---- the letters of the first items

pub letter_added : {X : Type 0} (h : X → Option Letter) (xs : List X) (i : ℕ) (d : X) (before new : List Letter) (letter : Letter) → i < length xs → h (slice_index_or xs i d) ≡ Some letter → before ≡ filter_map h (take i xs) → new ≡ before ++ letter ∷ []
    → new ≡ filter_map h (take (i + 1) xs)
letter_added h xs i d before new letter l e f g =
    g ∙ ap (λ (ys : List Letter). ys ++ letter ∷ []) f ∙ sym (letters_more h xs i d l ∙ ap (λ o. filter_map h (take i xs) ++ cons_option o []) e)
  where
    letters_more : {X : Type 0} (h : X → Option Letter) (xs : List X) (i : ℕ) (d : X) → i < length xs → filter_map h (take (i + 1) xs) ≡ filter_map h (take i xs) ++ cons_option (h (slice_index_or xs i d)) []
    letters_more h xs i d l = ap (filter_map h) (take_more xs i d l) ∙ filter_map-append h (take i xs) (slice_index_or xs i d ∷ [])

pub letter_skipped : {X : Type 0} (h : X → Option Letter) (xs : List X) (i : ℕ) (d : X) (before : List Letter) → i < length xs → h (slice_index_or xs i d) ≡ None → before ≡ filter_map h (take i xs) → before ≡ filter_map h (take (i + 1) xs)
letter_skipped h xs i d before l e f =
    f ∙ sym (ap (filter_map h) (take_more xs i d l) ∙ filter_map-append h (take i xs) (slice_index_or xs i d ∷ []) ∙ ap (λ o. filter_map h (take i xs) ++ cons_option o []) e ∙ append-nil (filter_map h (take i xs)))
