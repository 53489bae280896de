-- A list that passes tests, and has a vector inside each admissible solution at each of its columns, is the surface
-- list.
use Rattle.std.proofs.Common.{◌≡◌, ◌≢◌, ℕ, ◌<◌, Bool, true, List, length, inl, inr, AllPairs, Contains, sym, ap, subst, arith}
use Rattle.std.specs.Prelude.{◌==◌, ◌||◌, not, slice_index}
use Rattle.std.specs.Int.{◌∣◌}
use Rattle.std.specs.List.{AllByRecursion, list_all, list_any}
use Rattle.std.proofs.Math.Nat.{eq-one_of_dvd-one}
use Rattle.std.proofs.lemmas.Bool.{or_cases, eqb-true, eq-eqb, cases_eq, or_left, or_right, ne_eqb, not-true, both_ways}
use Rattle.std.proofs.lemmas.List.Elements.{All-from_recursion}
use Rattle.cone_definitions.specs.Vectors.{IsNonzero, IsInside, IsPrimitive, IsBefore}
use Rattle.cone_definitions.specs.Rows.{Row as EquationRow, IsSolution, IsExtreme}
use Rattle.cone_definitions.specs.Surfaces.{Clash, IsAdmissible, IsVertexSurface, IsSurfaceList}
use Rattle.cone_definitions.proofs.Entries.{each_column, entry_past, nonzero_before, inside_trans}
use Rattle.cone_definitions.proofs.OneRay.{same_ray}
use Rattle.table_definitions.specs.Lists.{below, has, same_list}
use Rattle.table_definitions.proofs.ListFacts.{same_list-true}
use Rattle.table_definitions.proofs.Listed.{all_at, all_from, contains_among, has_among}
use Rattle.table_definitions.proofs.TableLaws.{Among, Among-below}
use Rattle.table_definitions.proofs.Tests.{list_all-among}
use Rattle.surface_definitions.specs.Laws.{IsAcceptedVector}
use Rattle.surface_definitions.specs.Verdict.{verdict, solution}
use Rattle.surface_definitions.proofs.VerdictLaws.{accepted_by}
use Rattle.surface_laws.proofs.LinkingLemmas.{all_test, test_any}

-- whether the support of w lies in that of v
abbrev pub fits_in : ℕ → List ℕ → List ℕ → Bool
fits_in columns w v = list_all (λ j. not (slice_index v j == 0) || (slice_index w j == 0)) (below columns)

-- whether an entry is 1
abbrev pub has_one : ℕ → List ℕ → Bool
has_one columns v = list_any (λ j. slice_index v j == 1) (below columns)

fits_from : (columns : ℕ) (w v : List ℕ) → IsInside w v → fits_in columns w v ≡ true
fits_from columns w v h = all_test (λ j. not (slice_index v j == 0) || (slice_index w j == 0)) (below columns) (λ j a. elim (cases_eq (slice_index v j) 0) [
  | inl z ↦ or_right (not (slice_index v j == 0)) (slice_index w j == 0) (eq-eqb (slice_index w j) 0 (h j z))
  | inr ne ↦ or_left (not (slice_index v j == 0)) (slice_index w j == 0) (ap not (ne_eqb (slice_index v j) 0 ne))
])

-- a vector with its support in some columns lies inside each vector that is nonzero there
pub inside_by : (columns : ℕ) (v x : List ℕ) (support : List ℕ) → length v ≡ columns → list_all (λ c. (slice_index v c == 0) || has support c) (below columns) ≡ true
    → ((c : ℕ) → Among c support → slice_index x c ≢ 0) → IsInside v x
inside_by columns v x support w all some = each_column columns (λ c. slice_index x c ≡ 0 → slice_index v c ≡ 0)
    (λ c l z. elim (or_cases (slice_index v c == 0) (has support c) (list_all-among (λ c. (slice_index v c == 0) || has support c) c (below columns) all (Among-below c columns l))) [
      | inl e ↦ eqb-true (slice_index v c) 0 e
      | inr h ↦ absurd (some c (has_among support c h) z)
    ])
    (λ c l z. entry_past v columns c w l)

module _ (limit columns : ℕ) (rows : List EquationRow) (pairs : List Clash) (list : List (List ℕ)) (solved : AllByRecursion (λ v. verdict limit columns rows pairs v ≡ solution) list)
    (ones : list_all (has_one columns) list ≡ true) (separate : list_all (λ v. list_all (λ w. same_list w v || not (fits_in columns w v)) list) list ≡ true)
    (cover : (x : List ℕ) → IsSolution columns rows x → IsAdmissible pairs x → (j : ℕ) → j < columns → slice_index x j ≢ 0 → (v : List ℕ) × Among v list × IsInside v x) where
  accepted : (v : List ℕ) → Among v list → IsAcceptedVector limit columns rows pairs v
  accepted v a = accepted_by limit columns rows pairs v (all_at (λ v. verdict limit columns rows pairs v ≡ solution) list v solved a)

  one_at : (v : List ℕ) → Among v list → (j : ℕ) × (slice_index v j ≡ 1)
  one_at v a = let t = test_any (λ j. slice_index v j == 1) (below columns) (list_all-among (has_one columns) v list ones a) in (t.0, eqb-true (slice_index v t.0) 1 t.2)

  nonzero : (v : List ℕ) → Among v list → IsNonzero v
  nonzero v a = let o = one_at v a in (o.0, λ z. (let e : slice_index v o.0 ≡ 1 = o.1 in omega arith))

  primitive : (v : List ℕ) → Among v list → IsPrimitive v
  primitive v a d divides = let o = one_at v a in eq-one_of_dvd-one (subst (λ m. d ∣ m) o.1 (divides o.0))

  -- no vector of the list lies inside another
  one_inside : (v w : List ℕ) → Among v list → Among w list → IsInside w v → w ≡ v
  one_inside v w a b h = elim (or_cases (same_list w v) (not (fits_in columns w v)) (list_all-among (λ w. same_list w v || not (fits_in columns w v)) w list (list_all-among (λ v. list_all (λ w. same_list w v || not (fits_in columns w v)) list) v list separate a) b)) [
    | inl e ↦ same_list-true w v e
    | inr off ↦ absurd (both_ways (fits_in columns w v) (not-true (fits_in columns w v) off) (fits_from columns w v h))
  ]

  admissible_inside : (x v : List ℕ) → IsInside x v → IsAdmissible pairs v → IsAdmissible pairs x
  admissible_inside x v h ok i d l = elim (ok i d l) [ inl z ↦ inl (h _ z) | inr z ↦ inr (h _ z) ]

  extreme : (v : List ℕ) → Among v list → IsExtreme columns rows v
  extreme v a = record {
    solution = (accepted v a).solves;
    nonzero = nonzero v a;
    least = λ y s some inside.
        let w = cover y s (admissible_inside y v inside (accepted v a).admissible) some.0 (nonzero_before y columns some.0 s.width some.1) some.1 in
        let same : w.0 ≡ v = one_inside v w.0 a w.1 (inside_trans w.0 y v w.2 inside) in
        subst (λ (u : List ℕ). IsInside u y) same w.2;
  }

  vertex : (v : List ℕ) → Among v list → IsVertexSurface columns rows pairs v
  vertex v a = record { extreme = extreme v a; admissible = (accepted v a).admissible; primitive = primitive v a }

  pub tested_list : AllPairs IsBefore list → IsSurfaceList columns rows pairs list
  tested_list up = record {
    ascending = up;
    vertex_surfaces = All-from_recursion (IsVertexSurface columns rows pairs) list (all_from (IsVertexSurface columns rows pairs) list vertex);
    complete = λ x h.
        let some = h.extreme.nonzero in
        let w = cover x h.extreme.solution h.admissible some.0 (nonzero_before x columns some.0 h.extreme.solution.width some.1) some.1 in
        let same : x ≡ w.0 = same_ray columns rows x w.0 h.extreme h.primitive (accepted w.0 w.1).solves (nonzero w.0 w.1) (primitive w.0 w.1) w.2 in
        subst (Contains list) (sym same) (contains_among w.0 list w.1);
  }
