-- A column enters: its unit vector is added to the rays.
use Rattle.std.proofs.Common.{◌≡◌, ◌≢◌, ℕ, ◌<◌, inl, inr, List, [], ◌∷◌, ◌++◌, Bool, true, false, set, length, replicate, slice_index, slice_index_or, Contains, subst, sym, ap, refl, arith}
use Rattle.std.proofs.lemmas.Bool.{cases_eq}
use Rattle.std.proofs.lemmas.List.{get_or-replicate, length-replicate}
use Rattle.std.proofs.lemmas.List.Elements.{All-nil, All-push, All-weaker, Contains-push, Contains-append_left}
use Rattle.std.proofs.lemmas.List.Quantifiers.{all_pairs_push}
use Rattle.cone_definitions.specs.Vectors.{unit}
use Rattle.cone_definitions.specs.Rows.{Row, plus_part, minus_part}
use Rattle.cone_definitions.specs.Surfaces.{Clash, PairsAreOfTwoColumns, IsVertexSurface}
use Rattle.cone_definitions.proofs.Units.{entry-unit_same}
use Rattle.cone_definitions.proofs.Entries.{nonzero_before}
use Rattle.cone_definitions.specs.Unordered.{HasSurfaces}
use Rattle.cone_row_laws.specs.Fresh.{IsUntouched}
use Rattle.cone_row_laws.proofs.Fresh.{units, columns_are_units}
use Rattle.lazy_columns.specs.Late.{IsUnseen, held_rows}
use Rattle.lazy_columns.proofs.Held.{held_solution, seen_before, unseen_after, untouched_held}
use Rattle.lazy_columns.proofs.Faces.{surface_of_face, surface_in_face, gone_in_face, column_face}

module _ (columns : ℕ) (rows : List Row) (pairs : List Clash) (seen : List Bool) (rays : List (List ℕ)) (column : ℕ) (unseen : IsUnseen seen column)
    (separate : PairsAreOfTwoColumns pairs) (untouched : IsUntouched columns rows column) (h : HasSurfaces columns (rows ++ held_rows 0 seen) pairs rays) where
  abbrev after : List Bool
  after = set seen column true

  untouched_after : IsUntouched columns (rows ++ held_rows 0 after) column
  untouched_after = untouched_held columns rows after column untouched (λ j still. (unseen_after seen column j unseen still).1)

  outer : (x : List ℕ) → IsVertexSurface columns (rows ++ held_rows 0 seen) pairs x → IsVertexSurface columns (rows ++ held_rows 0 after) pairs x
  outer = surface_of_face columns (rows ++ held_rows 0 after) (rows ++ held_rows 0 seen) (λ j. j ≡ column) (column_face columns rows seen column unseen) pairs

  without : (k : ℕ) (d : List ℕ) → k < length rays → slice_index (slice_index_or rays k d) column ≡ 0
  without k d within = gone_in_face columns (rows ++ held_rows 0 after) (rows ++ held_rows 0 seen) (λ j. j ≡ column) (column_face columns rows seen column unseen) pairs
      (slice_index_or rays k d) (h.vertex_surfaces k d within) column refl

  found : (x : List ℕ) → IsVertexSurface columns (rows ++ held_rows 0 after) pairs x → Contains (rays ++ unit columns column ∷ []) x
  found x s = elim (cases_eq (slice_index x column) 0) [
    | inl gone ↦ Contains-append_left rays (unit columns column ∷ []) x (h.complete x
        (surface_in_face columns (rows ++ held_rows 0 after) (rows ++ held_rows 0 seen) (λ j. j ≡ column) (column_face columns rows seen column unseen) pairs x s
        (λ j e. subst (λ i. slice_index x i ≡ 0) (sym e) gone)))
    | inr some ↦ subst (Contains (rays ++ unit columns column ∷ [])) (sym (columns_are_units columns (rows ++ held_rows 0 after) pairs column x untouched_after s some))
        (Contains-push rays (unit columns column))
  ]

  pub entered_surfaces : HasSurfaces columns (rows ++ held_rows 0 (set seen column true)) pairs (rays ++ unit columns column ∷ [])
  entered_surfaces = record {
    separate = all_pairs_push (λ x y. x ≢ y) rays (unit columns column) h.separate
        (λ k d within same. let e : slice_index (unit columns column) column ≡ 1 = entry-unit_same columns column untouched.in_range in
        let f : slice_index (slice_index_or rays k d) column ≡ 0 = without k d within in
        let g = ap (λ x. slice_index x column) same in omega (arith, e, f, g));
    vertex_surfaces = All-push (IsVertexSurface columns (rows ++ held_rows 0 after) pairs) rays (unit columns column)
        (All-weaker (IsVertexSurface columns (rows ++ held_rows 0 seen) pairs) (IsVertexSurface columns (rows ++ held_rows 0 after) pairs) outer rays h.vertex_surfaces)
        (units columns (rows ++ held_rows 0 after) pairs column untouched_after separate);
    complete = found;
  }

-- no column has entered yet
none_seen_at : (columns j : ℕ) → j < columns → IsUnseen (replicate columns false) j
none_seen_at columns j within = get_or-replicate columns j false true within

pub no_surfaces : (columns : ℕ) (pairs : List Clash) → HasSurfaces columns ([] ++ held_rows 0 (replicate columns false)) pairs []
no_surfaces columns pairs = record {
  separate = λ i j d less within. absurd (omega arith);
  vertex_surfaces = All-nil (IsVertexSurface columns ([] ++ held_rows 0 (replicate columns false)) pairs);
  complete = λ x s. let n = s.extreme.nonzero in
      absurd (n.1 (((held_solution columns [] (replicate columns false) x).0 s.extreme.solution).1 n.0
      (none_seen_at columns n.0 (nonzero_before x columns n.0 s.extreme.solution.width n.1))));
}

pub untouched_none : (columns j : ℕ) → j < columns → IsUntouched columns [] j
untouched_none columns j within = record { in_range = within; plus = All-nil (λ row. plus_part row (unit columns j) ≡ 0); minus = All-nil (λ row. minus_part row (unit columns j) ≡ 0) }

pub unseen_within : (columns j : ℕ) → IsUnseen (replicate columns false) j → j < columns
unseen_within columns j unseen = let l = seen_before (replicate columns false) j unseen in omega (arith, l, length-replicate columns false)
