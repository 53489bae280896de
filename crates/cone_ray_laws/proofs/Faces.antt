-- The extreme solutions of a face on which chosen columns are 0.
use Rattle.std.proofs.Common.{◌≡◌, ℕ, ◌+◌, Bool, true, false, cond, ◌⊎◌, inl, inr, List, [], ◌∷◌, ◌++◌, map, filter, slice_index, slice_index_or, All, Contains, refl, sym, ap, subst, ◌∙◌, arith}
use Rattle.std.specs.Prelude.{◌==◌, ◌↔◌}
use Rattle.std.proofs.lemmas.Bool.{eqb-true, eq-eqb, false≢true}
use Rattle.std.proofs.lemmas.List.Elements.{All-append, All-map, All-nil, All-cons, All-head, All-tail, All-filter, filter_passes}
use Rattle.std.proofs.lemmas.List.Sums.{AllPass-from_list_all, list_all-from_AllPass}
use Rattle.std.proofs.lemmas.List.Kept.{AllPairs-filter}
use Rattle.cone_definitions.specs.Vectors.{IsInside, IsBefore, sum_of}
use Rattle.cone_definitions.specs.Rows.{Row, IsZeroAt, IsSolution, IsExtreme}
use Rattle.cone_definitions.specs.Surfaces.{Clash, IsVertexSurface, IsSurfaceList}
use Rattle.cone_definitions.proofs.Ascending.{contains_nil, contains_head, contains_tail, contains_cases}
use Rattle.cone_definitions.proofs.Entries.{entry-sum_of}
use Rattle.cone_ray_laws.specs.Faces.{entry_row, face_rows, IsZeroOn, is_zero_on}

-- ---- lists

append_left : {A : Type 0} (P : A → Type 0) (xs ys : List A) → All P (xs ++ ys) → All P xs
append_left P [] ys h = All-nil P
append_left P (x ∷ xs) ys h = All-cons P x xs (All-head P x (xs ++ ys) h) (append_left P xs ys (All-tail P x (xs ++ ys) h))

append_right : {A : Type 0} (P : A → Type 0) (xs ys : List A) → All P (xs ++ ys) → All P ys
append_right P [] ys h = h
append_right P (x ∷ xs) ys h = append_right P xs ys (All-tail P x (xs ++ ys) h)

-- ---- rows

entries_zero : (zeros x : List ℕ) → IsZeroOn zeros x → All (λ row. IsZeroAt row x) (map entry_row zeros)
entries_zero zeros x h = All-map (λ row. IsZeroAt row x) entry_row zeros (λ k d l. let e : slice_index x (slice_index_or zeros k d) ≡ 0 = h k d l in omega arith)

zero_entries : (zeros x : List ℕ) → All (λ row. IsZeroAt row x) (map entry_row zeros) → IsZeroOn zeros x
zero_entries [] x h = All-nil _
zero_entries (column ∷ zeros) x h =
    let e : IsZeroAt (entry_row column) x = All-head (λ row. IsZeroAt row x) (entry_row column) (map entry_row zeros) h in
    All-cons (λ c. slice_index x c ≡ 0) column zeros (omega arith) (zero_entries zeros x (All-tail (λ row. IsZeroAt row x) (entry_row column) (map entry_row zeros) h))

zero_by_test : (zeros x : List ℕ) → is_zero_on zeros x ≡ true → IsZeroOn zeros x
zero_by_test zeros x t k d l = eqb-true (slice_index x (slice_index_or zeros k d)) 0 (AllPass-from_list_all (λ column. slice_index x column == 0) zeros t k d l)

test_by_zero : (zeros x : List ℕ) → IsZeroOn zeros x → is_zero_on zeros x ≡ true
test_by_zero zeros x h = list_all-from_AllPass (λ column. slice_index x column == 0) zeros (λ k d l. eq-eqb (slice_index x (slice_index_or zeros k d)) 0 (h k d l))

inside_zero : (zeros x y : List ℕ) → IsInside y x → IsZeroOn zeros x → IsZeroOn zeros y
inside_zero zeros x y inside h k d l = inside (slice_index_or zeros k d) (h k d l)

module _ (columns : ℕ) (rows : List Row) (zeros : List ℕ) where
  pub face_solution : (x : List ℕ) → IsSolution columns rows x → IsZeroOn zeros x → IsSolution columns (face_rows rows zeros) x
  face_solution x sol zero = record { width = sol.width; zero = All-append (λ row. IsZeroAt row x) rows (map entry_row zeros) sol.zero (entries_zero zeros x zero) }

  pub solution_of_face : (x : List ℕ) → IsSolution columns (face_rows rows zeros) x → IsSolution columns rows x
  solution_of_face x sol = record { width = sol.width; zero = append_left (λ row. IsZeroAt row x) rows (map entry_row zeros) sol.zero }

  pub zero_of_face : (x : List ℕ) → IsSolution columns (face_rows rows zeros) x → IsZeroOn zeros x
  zero_of_face x sol = zero_entries zeros x (append_right (λ row. IsZeroAt row x) rows (map entry_row zeros) sol.zero)

  pub face_solutions : (x : List ℕ) → IsSolution columns (face_rows rows zeros) x ↔ (IsSolution columns rows x × IsZeroOn zeros x)
  face_solutions x = (λ sol. (solution_of_face x sol, zero_of_face x sol), λ h. face_solution x h.0 h.1)

  pub summands_in_face : (y z : List ℕ) → IsSolution columns rows y → IsSolution columns rows z → IsZeroOn zeros (sum_of y z) → IsZeroOn zeros y × IsZeroOn zeros z
  summands_in_face y z sy sz h = (
    (λ k d l. let e : slice_index (sum_of y z) (slice_index_or zeros k d) ≡ 0 = h k d l in
        let f : slice_index (sum_of y z) (slice_index_or zeros k d) ≡ slice_index y (slice_index_or zeros k d) + slice_index z (slice_index_or zeros k d) = entry-sum_of y z (sy.width ∙ sym sz.width) (slice_index_or zeros k d) in omega arith),
    (λ k d l. let e : slice_index (sum_of y z) (slice_index_or zeros k d) ≡ 0 = h k d l in
        let f : slice_index (sum_of y z) (slice_index_or zeros k d) ≡ slice_index y (slice_index_or zeros k d) + slice_index z (slice_index_or zeros k d) = entry-sum_of y z (sy.width ∙ sym sz.width) (slice_index_or zeros k d) in omega arith),
  )

  -- what lies inside a solution of the face is in the face
  extreme_of_face : (x : List ℕ) → IsExtreme columns (face_rows rows zeros) x → IsExtreme columns rows x
  extreme_of_face x ex = record {
    solution = solution_of_face x ex.solution;
    nonzero = ex.nonzero;
    least = λ y sol some inside. ex.least y (face_solution y sol (inside_zero zeros x y inside (zero_of_face x ex.solution))) some inside;
  }

  face_extreme : (x : List ℕ) → IsExtreme columns rows x → IsZeroOn zeros x → IsExtreme columns (face_rows rows zeros) x
  face_extreme x ex zero = record {
    solution = face_solution x ex.solution zero;
    nonzero = ex.nonzero;
    least = λ y sol some inside. ex.least y (solution_of_face y sol) some inside;
  }

  pub face_extremes : (x : List ℕ) → IsExtreme columns (face_rows rows zeros) x ↔ (IsExtreme columns rows x × IsZeroOn zeros x)
  face_extremes x = (λ ex. (extreme_of_face x ex, zero_of_face x ex.solution), λ h. face_extreme x h.0 h.1)

  module _ (pairs : List Clash) where
    pub surface_of_face : (x : List ℕ) → IsVertexSurface columns (face_rows rows zeros) pairs x → IsVertexSurface columns rows pairs x × IsZeroOn zeros x
    surface_of_face x v = (record { extreme = extreme_of_face x v.extreme; admissible = v.admissible; primitive = v.primitive }, zero_of_face x (v.extreme).solution)

    pub face_surface : (x : List ℕ) → IsVertexSurface columns rows pairs x → IsZeroOn zeros x → IsVertexSurface columns (face_rows rows zeros) pairs x
    face_surface x v zero = record { extreme = face_extreme x v.extreme zero; admissible = v.admissible; primitive = v.primitive }

    pub face_surfaces : (x : List ℕ) → IsVertexSurface columns (face_rows rows zeros) pairs x ↔ (IsVertexSurface columns rows pairs x × IsZeroOn zeros x)
    face_surfaces x = (surface_of_face x, λ h. face_surface x h.0 h.1)

    -- ---- lists

    abbrev is_on : List ℕ → Bool
    is_on = is_zero_on zeros

    kept : (list : List (List ℕ)) (x : List ℕ) → Contains list x → is_on x ≡ true → Contains (filter is_on list) x
    kept [] x c t = absurd (contains_nil x c)
    kept (y ∷ list) x c t = go (contains_cases y x list c) (is_on y) refl (λ d. kept list x d t)
      where
        go : (y ≡ x) ⊎ Contains list x → (b : Bool) → is_on y ≡ b → (Contains list x → Contains (filter is_on list) x) → Contains (cond b (y ∷ filter is_on list) (filter is_on list)) x
        go (inl e) true f later = subst (λ z. Contains (y ∷ filter is_on list) z) e (contains_head y (filter is_on list))
        go (inl e) false f later = absurd (false≢true (sym f ∙ ap is_on e ∙ t))
        go (inr d) true f later = contains_tail y x (filter is_on list) (later d)
        go (inr d) false f later = later d

    pub face_list : (surfaces : List (List ℕ)) → IsSurfaceList columns rows pairs surfaces → IsSurfaceList columns (face_rows rows zeros) pairs (filter is_on surfaces)
    face_list surfaces h = record {
      ascending = AllPairs-filter IsBefore is_on surfaces h.ascending;
      vertex_surfaces = λ k d l. face_surface (slice_index_or (filter is_on surfaces) k d)
          (All-filter is_on (IsVertexSurface columns rows pairs) surfaces h.vertex_surfaces k d l)
          (zero_by_test zeros (slice_index_or (filter is_on surfaces) k d) (filter_passes is_on surfaces k d l));
      complete = λ x v. let s = surface_of_face x v in kept surfaces x (h.complete x s.0) (test_by_zero zeros x s.1);
    }
