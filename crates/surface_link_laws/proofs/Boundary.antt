-- A vertex link has an arc in a boundary face if and only if a side of its triangles lies in one.
use Rattle.std.proofs.Common.{◌≡◌, ℕ, ◌*◌, ◌/◌, ◌%◌, ◌<◌, Bool, true, false, not, List, [], ◌∷◌, length, map, Option, Some, None, inl, inr, refl, sym, ap, ◌∙◌, subst, arith}
use Rattle.std.specs.Prelude.{◌==◌, if◌then◌else◌, is_none, sum_by, slice_index}
use Rattle.std.proofs.lemmas.Bool.{eqb-true, eq-eqb, cases_lt, false_from_ne_true}
use Rattle.std.proofs.lemmas.List.Sums.{sum_by-cons}
use Rattle.table_definitions.specs.Classes.{members}
use Rattle.table_definitions.specs.Lists.{below}
use Rattle.table_definitions.specs.Permutation.{others}
use Rattle.table_definitions.specs.Places.{is_boundary}
use Rattle.table_definitions.specs.Table.{Row, Face, Gluing, glue}
use Rattle.table_definitions.proofs.Listed.{Among-filter, filter-among, below-among, Among-flat_map, flat_map-among, map-among, Among-others}
use Rattle.table_definitions.proofs.Tests.{list_all-among}
use Rattle.table_definitions.proofs.TableLaws.{Among, Among-map, Among-below}
use Rattle.table_definitions.proofs.Faces.{face_at}
use Rattle.skeleton_definitions.specs.Links.{vertex_number, sides, is_closed_link}
use Rattle.surface_definitions.specs.Characteristic.{arcs_in, meets_boundary}
use Rattle.surface_definitions.specs.declared.Coords.{Coords}
use Rattle.surface_laws.specs.CharacteristicLaws.{HasBoundaryArc}
use Rattle.surface_laws.specs.MatchingLaws.{HasTriangles}
use Rattle.surface_laws.proofs.LinkingLemmas.{all_test, boundary}
use Rattle.surface_laws.proofs.Solved.{other_is}
use Rattle.surface_laws.proofs.Vertices.{number-vertex}
use Rattle.surface_quad_laws.specs.LinkLaws.{vertex_link}
use Rattle.surface_quad_laws.proofs.VertexLinks.{member}
use Rattle.surface_link_laws.proofs.Triangles.{arcs_in-link}

-- a sum is positive if and only if one of its terms is
positive_term : (f : ℕ → ℕ) (xs : List ℕ) → 0 < sum_by f xs → (x : ℕ) × Among x xs × (0 < f x)
positive_term f [] l = absurd (omega arith)
positive_term f (x ∷ xs) l = elim (cases_lt 0 (f x)) [
  | inl here ↦ (x, inl refl, here)
  | inr none ↦ (let more : 0 < sum_by f xs = omega (arith, sum_by-cons f x xs) in let m = positive_term f xs more in (m.0, inr m.1, m.2))
]

positive_sum : (f : ℕ → ℕ) (x : ℕ) (xs : List ℕ) → Among x xs → 0 < f x → 0 < sum_by f xs
positive_sum f x [] a l = absurd a
positive_sum f x (y ∷ ys) (inl e) l = let same : f x ≡ f y = ap f e in omega (arith, sum_by-cons f y ys)
positive_sum f x (y ∷ ys) (inr a) l = let more : 0 < sum_by f ys = positive_sum f x ys a l in omega (arith, sum_by-cons f y ys)

counts : (a b : ℕ) → 0 < (if a == b then 1 else 0) → a ≡ b
counts a b l = by_test (a == b) refl l
  where
    by_test : (q : Bool) → (a == b) ≡ q → 0 < (if q then 1 else 0) → a ≡ b
    by_test true e l = eqb-true a b e
    by_test false e l = absurd (omega arith)

module _ (rows : List Row) (classes : List ℕ) (c : ℕ) (coords : Coords) (h : HasTriangles coords) (wide : length classes ≡ 4 * length rows) where
  abbrev n : ℕ
  n = length rows

  abbrev link : List ℕ
  link = vertex_link coords (length rows) classes c

  side_listed : (t f v : ℕ) → t < n → v < 4 → f < 4 → (f ≡ v → ⊥) → slice_index classes (vertex_number t v) ≡ c → Among (face_at t f) (sides classes c)
  side_listed t f v lt lv lf off ch =
      let i : ℕ = vertex_number t v in
      let li : vertex_number t v < length classes = omega (arith, wide) in
      let d : vertex_number t v / 4 ≡ t = omega arith in
      let m : vertex_number t v % 4 ≡ v = omega arith in
      let is_member : Among i (members classes c) = Among-filter (λ i. slice_index classes i == c) i (below (length classes)) (Among-below i (length classes) li) (eq-eqb (slice_index classes i) c ch) in
      let among : Among (face_at (vertex_number t v / 4) f) (sides classes c) =
      Among-flat_map (λ i. map (λ f. face_at (i / 4) f) (others (i % 4))) i (face_at (i / 4) f) (members classes c) is_member
      (Among-map (λ f. face_at (i / 4) f) f (others (i % 4)) (Among-others (i % 4) f lf (λ e. off (e ∙ m)))) in
      subst (λ u. Among (face_at u f) (sides classes c)) d among

  -- an arc in a boundary face is on a side of the link
  not_closed : HasBoundaryArc rows coords (vertex_link coords (length rows) classes c) → (x : Face) × Among x (sides classes c) × (is_boundary rows x ≡ true)
  not_closed b =
      let x : Face = b.face in
      let sum : 0 < sum_by (λ v. member classes c (vertex_number x.tet v)) (others x.face) = subst (λ m. 0 < m) (arcs_in-link n classes c coords h x.tet x.face b.tet b.one_of_four) b.some in
      let v = positive_term (λ v. member classes c (vertex_number x.tet v)) (others x.face) sum in
      let o = other_is x.face v.0 v.1 in
      (x, side_listed x.tet x.face v.0 b.tet o.0 b.one_of_four (λ e. o.1 (sym e)) (counts (slice_index classes (vertex_number x.tet v.0)) c v.2), ap is_none b.free)

  -- a side in a boundary face has an arc there
  open_side : (x : Face) → Among x (sides classes c) → is_boundary rows x ≡ true → HasBoundaryArc rows coords (vertex_link coords (length rows) classes c)
  open_side x a e =
      let m = flat_map-among (λ i. map (λ f. face_at (i / 4) f) (others (i % 4))) x (members classes c) a in
      let f = map-among (λ f. face_at (m.0 / 4) f) x (others (m.0 % 4)) m.2 in
      let o = other_is (m.0 % 4) f.0 f.1 in
      let i = filter-among (λ i. slice_index classes i == c) m.0 (below (length classes)) m.1 in
      let li : m.0 < 4 * n = subst (λ w. m.0 < w) wide (below-among m.0 (length classes) i.0) in
      let lt : m.0 / 4 < n = omega arith in
      let lv : m.0 % 4 < 4 = omega arith in
      let one : 0 < member classes c (vertex_number (m.0 / 4) (m.0 % 4)) = subst (λ w. 0 < w) (sym (ap (member classes c) (number-vertex m.0) ∙ ap (λ (b : Bool). if b then 1 else 0) i.1)) (omega arith) in
      let some : 0 < arcs_in coords link (face_at (m.0 / 4) f.0) = subst (λ w. 0 < w) (sym (arcs_in-link n classes c coords h (m.0 / 4) f.0 lt o.0))
      (positive_sum (λ v. member classes c (vertex_number (m.0 / 4) v)) (m.0 % 4) (others f.0) (Among-others f.0 (m.0 % 4) lv (λ q. o.1 (sym q))) one) in
      record { face = face_at (m.0 / 4) f.0; tet = lt; one_of_four = o.0; free = free_by (glue rows (face_at (m.0 / 4) f.0)) (ap (is_boundary rows) (sym f.2) ∙ e); some = some }
    where
      free_by : (o : Option Gluing) → is_none o ≡ true → o ≡ None
      free_by None q = refl
      free_by (Some g) q = absurd cc

  pub boundary_is : meets_boundary rows coords (vertex_link coords (length rows) classes c) ≡ not (is_closed_link rows classes c)
  boundary_is = by_test (meets_boundary rows coords link) refl
    where
      met : meets_boundary rows coords (vertex_link coords (length rows) classes c) ≡ true → is_closed_link rows classes c ≡ false
      met e =
          let x = not_closed ((boundary rows coords link).0 e) in
          false_from_ne_true (is_closed_link rows classes c) (λ q.
          let t : not (is_boundary rows x.0) ≡ true = list_all-among (λ x. not (is_boundary rows x)) x.0 (sides classes c) q x.1 in
          let o : false ≡ true = ap not (sym x.2) ∙ t in cc)

      all_closed : meets_boundary rows coords (vertex_link coords (length rows) classes c) ≡ false → (x : Face) → Among x (sides classes c) → not (is_boundary rows x) ≡ true
      all_closed e x a = by_open (is_boundary rows x) refl
        where
          by_open : (b : Bool) → is_boundary rows x ≡ b → not b ≡ true
          by_open true q = absurd (let o : false ≡ true = sym e ∙ (boundary rows coords link).1 (open_side x a q) in cc)
          by_open false q = refl

      by_test : (b : Bool) → meets_boundary rows coords (vertex_link coords (length rows) classes c) ≡ b → b ≡ not (is_closed_link rows classes c)
      by_test true e = ap not (sym (met e))
      by_test false e = ap not (sym (all_test (λ x. not (is_boundary rows x)) (sides classes c) (all_closed e)))
