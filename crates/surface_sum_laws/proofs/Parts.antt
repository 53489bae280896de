-- Each vertex surface is in the part of a choice, and which surfaces two parts have in common.
use Rattle.std.proofs.Common.{◌≡◌, ◌≢◌, ℕ, ◌*◌, ◌<◌, true, not, List, [], ◌∷◌, ◌++◌, map, flat_map, length, inl, inr, All, Contains, refl, sym, ap, ◌∙◌, arith, subst}
use Rattle.std.specs.Prelude.{◌==◌, ◌↔◌}
use Rattle.std.proofs.Math.Nat.{pow-succ'}
use Rattle.std.proofs.lemmas.Bool.{cases_eq, ne_eqb}
use Rattle.std.proofs.lemmas.List.{length-map, length-append}
use Rattle.std.proofs.lemmas.List.Elements.{All-head, All-tail, All-contains}
use Rattle.cone_definitions.specs.Rows.{Row as EquationRow}
use Rattle.cone_definitions.specs.Surfaces.{IsAdmissible, IsVertexSurface}
use Rattle.cone_definitions.proofs.Existence.{surface_list_exists_lem}
use Rattle.cone_ray_laws.specs.Faces.{IsZeroOn}
use Rattle.cone_ray_laws.proofs.Faces.{surface_of_face, face_surface}
use Rattle.table_definitions.proofs.TableLaws.{Among, Among-left, Among-right, Among-map}
use Rattle.table_definitions.proofs.Listed.{contains_among, among_contains, appended-among, Among-flat_map, flat_map-among}
use Rattle.surface_definitions.specs.Coordinates.{columns, clash_list, three}
use Rattle.surface_definitions.specs.declared.Coords.{Coords}
use Rattle.surface_definitions.proofs.ClashPairs.{clashes_apart}
use Rattle.surface_laws.proofs.ColumnKinds.{three_among}
use Rattle.surface_sum_laws.specs.Parts.{Choice, choices, disc_columns, other_columns, part_equations, IsVertexSurfaceOfPart, IsListOfPart, ListsAreUnionsOfParts, ChoicesAreCounted}
use Rattle.surface_sum_laws.proofs.DiscColumns.{on_among, zero_among, disc_among, among_disc, chosen_type}

-- ---- what a choice makes 0

-- the columns of the other types in the tetrahedron of a place
abbrev others_of : Coords → ℕ × ℕ → List ℕ
others_of coords place = disc_columns coords place.0 (λ k. not (k == place.1))

module _ (coords : Coords) (x : List ℕ) where
  place_zero : (choice : Choice) → IsZeroOn (other_columns coords choice) x → (place : ℕ × ℕ) → Among place choice → IsZeroOn (others_of coords place) x
  place_zero choice h place m = on_among (others_of coords place) x
      (λ c a. zero_among (other_columns coords choice) x h c (Among-flat_map (others_of coords) place c choice m a))

  places_zero : (choice : Choice) → ((place : ℕ × ℕ) → Among place choice → IsZeroOn (others_of coords place) x) → IsZeroOn (other_columns coords choice) x
  places_zero choice h = on_among (other_columns coords choice) x (λ c a. let m = flat_map-among (others_of coords) c choice a in
      zero_among (others_of coords m.0) x (h m.0 m.1) c m.2)

  module _ (front back : Choice) (place : ℕ × ℕ) where
    -- one more place
    both_zero : IsZeroOn (others_of coords place) x → IsZeroOn (other_columns coords (front ++ back)) x → IsZeroOn (other_columns coords (front ++ place ∷ back)) x
    both_zero one rest = places_zero (front ++ place ∷ back) (λ other m. elim (appended-among other front (place ∷ back) m) [
      | inl f ↦ place_zero (front ++ back) rest other (Among-left other front back f)
      | inr (inl e) ↦ subst (λ (p : ℕ × ℕ). IsZeroOn (others_of coords p) x) (sym e) one
      | inr (inr b) ↦ place_zero (front ++ back) rest other (Among-right other front back b)
    ])

    first_zero : IsZeroOn (other_columns coords (front ++ place ∷ back)) x → IsZeroOn (others_of coords place) x
    first_zero h = place_zero (front ++ place ∷ back) h place (Among-right place front (place ∷ back) (inl refl))

    rest_zero : IsZeroOn (other_columns coords (front ++ place ∷ back)) x → IsZeroOn (other_columns coords (front ++ back)) x
    rest_zero h = places_zero (front ++ back) (λ other m. place_zero (front ++ place ∷ back) h other (elim (appended-among other front back m) [
      | inl f ↦ Among-left other front (place ∷ back) f
      | inr b ↦ Among-right other front (place ∷ back) (inr b)
    ]))

-- all types of a tetrahedron, from those that are not j and those that are not k
all_zero : (coords : Coords) (t j k : ℕ) (x : List ℕ) → j ≢ k → IsZeroOn (disc_columns coords t (λ i. not (i == j))) x → IsZeroOn (disc_columns coords t (λ i. not (i == k))) x → IsZeroOn (disc_columns coords t (λ _. true)) x
all_zero coords t j k x ne one other = on_among (disc_columns coords t (λ _. true)) x (λ c a. let d = among_disc coords t (λ _. true) c a in elim (cases_eq d.0 j) [
  | inr off ↦ zero_among (disc_columns coords t (λ i. not (i == j))) x one c (disc_among coords t (λ i. not (i == j)) d.0 c (ap not (ne_eqb d.0 j off)) d.2)
  | inl on ↦ (let off : d.0 ≢ k = λ e. ne (sym on ∙ e) in
      zero_among (disc_columns coords t (λ i. not (i == k))) x other c (disc_among coords t (λ i. not (i == k)) d.0 c (ap not (ne_eqb d.0 k off)) d.2))
])

others_of_all : (coords : Coords) (t k : ℕ) (x : List ℕ) → IsZeroOn (disc_columns coords t (λ _. true)) x → IsZeroOn (disc_columns coords t (λ i. not (i == k))) x
others_of_all coords t k x h = on_among (disc_columns coords t (λ i. not (i == k))) x (λ c a. let d = among_disc coords t (λ i. not (i == k)) c a in
    zero_among (disc_columns coords t (λ _. true)) x h c (disc_among coords t (λ _. true) d.0 c refl d.2))

-- ---- a choice for each admissible vector

record HasChoice (coords : Coords) (tets x : List ℕ) : Type 0 where
  pub choice : Choice
  pub among : Among choice (choices tets)
  pub zero : IsZeroOn (other_columns coords choice) x

has_choice : (coords : Coords) (n : ℕ) (x : List ℕ) → IsAdmissible (clash_list coords n) x → (tets : List ℕ) → All (λ t. t < n) tets → HasChoice coords tets x
has_choice coords n x admissible [] in_range = record { choice = []; among = inl refl; zero = on_among [] x (λ c a. absurd a) }
has_choice coords n x admissible (t ∷ tets) in_range =
    let rest = has_choice coords n x admissible tets (All-tail (λ t. t < n) t tets in_range) in
    let k = chosen_type coords n x t admissible (All-head (λ t. t < n) t tets in_range) in record {
      choice = (t, k.0) ∷ rest.choice;
      among = Among-flat_map (λ k. map (λ choice. (t, k) ∷ choice) (choices tets)) k.0 ((t, k.0) ∷ rest.choice) three (three_among k.0 k.1.0)
          (Among-map (λ (choice : Choice). (t, k.0) ∷ choice) rest.choice (choices tets) rest.among);
      zero = both_zero coords x [] rest.choice (t, k.0) k.1.1 rest.zero;
    }

-- ---- the laws

module _ (coords : Coords) (n : ℕ) (equations : List EquationRow) where
  abbrev IsOfPart : Choice → List ℕ → Type 0
  IsOfPart = IsVertexSurfaceOfPart coords n equations

  abbrev IsOfTable : List ℕ → Type 0
  IsOfTable x = IsVertexSurface (columns coords n) equations (clash_list coords n) x

  of_part : (choice : Choice) (x : List ℕ) → IsOfPart choice x → IsOfTable x × IsZeroOn (other_columns coords choice) x
  of_part choice x v = surface_of_face (columns coords n) equations (other_columns coords choice) (clash_list coords n) x v

  to_part : (choice : Choice) (x : List ℕ) → IsOfTable x → IsZeroOn (other_columns coords choice) x → IsOfPart choice x
  to_part choice x v zero = face_surface (columns coords n) equations (other_columns coords choice) (clash_list coords n) x v zero

  part_of : (tets x : List ℕ) → All (λ t. t < n) tets → IsOfTable x → (choice : Choice) × Among choice (choices tets) × IsOfPart choice x
  part_of tets x in_range v = let h = has_choice coords n x v.admissible tets in_range in (h.choice, h.among, to_part h.choice x v h.zero)

  pub in_parts : (tets x : List ℕ) → All (λ t. t < n) tets → IsOfTable x ↔ ((choice : Choice) × Contains (choices tets) choice × IsOfPart choice x)
  in_parts tets x in_range = (
    (λ v. let h = part_of tets x in_range v in (h.0, contains_among h.0 (choices tets) h.1, h.2)),
    (λ h. (of_part h.0 x h.2).0),
  )

  pub parts_have_lists : (choice : Choice) → (surfaces : List (List ℕ)) × IsListOfPart coords n equations choice surfaces
  parts_have_lists choice = surface_list_exists_lem (columns coords n) (part_equations coords equations choice) (clash_list coords n) (clashes_apart coords n)

  pub common_surfaces : (front back : Choice) (t j k : ℕ) (x : List ℕ) → j ≢ k
      → (IsOfPart (front ++ (t, j) ∷ back) x × IsOfPart (front ++ (t, k) ∷ back) x) ↔ (IsOfPart (front ++ back) x × IsZeroOn (disc_columns coords t (λ _. true)) x)
  common_surfaces front back t j k x ne = (
    (λ h. let a = of_part (front ++ (t, j) ∷ back) x h.0 in let b = of_part (front ++ (t, k) ∷ back) x h.1 in (
      to_part (front ++ back) x a.0 (rest_zero coords x front back (t, j) a.1),
      all_zero coords t j k x ne (first_zero coords x front back (t, j) a.1) (first_zero coords x front back (t, k) b.1),
    )),
    (λ h. let v = of_part (front ++ back) x h.0 in (
      to_part (front ++ (t, j) ∷ back) x v.0 (both_zero coords x front back (t, j) (others_of_all coords t j x h.1) v.1),
      to_part (front ++ (t, k) ∷ back) x v.0 (both_zero coords x front back (t, k) (others_of_all coords t k x h.1) v.1),
    )),
  )

pub union_of_parts : ListsAreUnionsOfParts
union_of_parts rows coords equations surfaces tets parts x list in_range each = (
  (λ c. let h = part_of coords n equations tets x in_range (All-contains IsOf surfaces x list.is_list.vertex_surfaces c) in
      contains_among x (flat_map parts (choices tets)) (Among-flat_map parts h.0 x (choices tets) h.1
      (among_contains x (parts h.0) ((each h.0 (contains_among h.0 (choices tets) h.1)).complete x h.2)))),
  (λ c. let m = flat_map-among parts x (choices tets) (among_contains x (flat_map parts (choices tets)) c) in
      list.is_list.complete x ((of_part coords n equations m.0 x
      (All-contains (IsVertexSurfaceOfPart coords n equations m.0) (parts m.0) x (each m.0 (contains_among m.0 (choices tets) m.1)).vertex_surfaces (contains_among x (parts m.0) m.2))).0)),
)
  where
    n : ℕ
    n = length rows

    IsOf : List ℕ → Type 0
    IsOf x = IsVertexSurface (columns coords n) equations (clash_list coords n) x

pub choices_counted : ChoicesAreCounted
choices_counted [] = refl
choices_counted (t ∷ tets) =
    let one : (k : ℕ) → length (map (λ (choice : Choice). (t, k) ∷ choice) (choices tets)) ≡ length (choices tets) = λ k. length-map (choices tets) (λ choice. (t, k) ∷ choice) in
    three_lists (map (λ choice. (t, 0) ∷ choice) (choices tets)) (map (λ choice. (t, 1) ∷ choice) (choices tets)) (map (λ choice. (t, 2) ∷ choice) (choices tets)) (length (choices tets)) (one 0) (one 1) (one 2)
    ∙ ap (λ m. 3 * m) (choices_counted tets) ∙ sym (pow-succ' 3 (length tets))
  where
    three_lists : (xs ys zs : List Choice) (m : ℕ) → length xs ≡ m → length ys ≡ m → length zs ≡ m → length (xs ++ (ys ++ (zs ++ []))) ≡ 3 * m
    three_lists xs ys zs m a b c = length-append xs (ys ++ (zs ++ [])) ∙ omega (arith, a, b, c, length-append ys (zs ++ []), length-append zs [])
