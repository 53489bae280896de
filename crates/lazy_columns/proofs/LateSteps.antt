-- One more row.
use Rattle.std.proofs.Common.{◌≡◌, ◌≢◌, ℕ, ◌+◌, ◌<◌, ◌≤◌, inl, inr, List, [], ◌∷◌, ◌++◌, Bool, true, false, true≢false, set, All, take, length, length-set, slice_index, slice_index_or, subst, sym, ap, ◌∙◌, arith}
use Rattle.std.specs.Prelude.{◌↔◌}
use Rattle.std.proofs.lemmas.List.{take_more}
use Rattle.std.proofs.lemmas.List.Elements.{All-push, All-weaker}
use Rattle.cone_definitions.specs.Vectors.{IsInsideUnion, ray_at, unit}
use Rattle.cone_definitions.specs.Rows.{Row, plus_part, minus_part, IsZeroAt, IsPrimitiveExtreme}
use Rattle.cone_definitions.specs.Surfaces.{Clash, PairsAreOfTwoColumns, IsVertexSurface}
use Rattle.cone_definitions.proofs.Rays.{IsSolution-front, IsSolution-last, IsSolution-push}
use Rattle.cone_definitions.proofs.Unions.{third_ray}
use Rattle.cone_row_laws.specs.Solutions.{HaveSameSolutions}
use Rattle.cone_row_laws.proofs.Agreement.{same_surfaces}
use Rattle.cone_row_laws.proofs.Sums.{turned_zero}
use Rattle.cone_laws.specs.Laws.{HasNoThird}
use Rattle.cone_laws.proofs.Bound.{union_bound}
use Rattle.ray_steps.specs.Clashes.{AreClashes}
use Rattle.ray_steps.specs.Rays.{rays_of, AreOfWidth}
use Rattle.ray_steps.specs.Next.{step_of}
use Rattle.ray_steps.specs.Unions.{HaveSmallUnions}
use Rattle.cone_definitions.specs.Unordered.{HasSurfaces}
use Rattle.ray_steps.proofs.RayLemmas.{length-rays_of, ray_at-rays_of}
use Rattle.cone_definitions.proofs.Unordered.{place_of}
use Rattle.cone_row_laws.specs.Fresh.{IsUntouched}
use Rattle.lazy_columns.specs.declared.late_rays.LateRays.{LateRays}
use Rattle.lazy_columns.specs.declared.fresh.NewColumn.{NewColumn}
use Rattle.lazy_columns.specs.Late.{IsUnseen, held_rows, AreLate, AreSeen}
use Rattle.lazy_columns.specs.Fresh.{oriented, IsFreshColumn}
use Rattle.lazy_columns.specs.Raised.{HasRoom, AreRaised}
use Rattle.lazy_columns.proofs.Held.{held_solution, parts_without, unseen_after}
use Rattle.lazy_columns.proofs.Faces.{surface_of_face, surface_in_face, gone_in_face, held_face}
use Rattle.lazy_columns.proofs.RaisedSurfaces.{raised_surfaces}

-- ---- the union of a pair

module _ (columns : ℕ) (rows : List Row) (pairs : List Clash) (seen : List Bool) (rays : List (List ℕ)) (h : HasSurfaces columns (rows ++ held_rows 0 seen) pairs rays) where
  outer : (k : ℕ) → k < length rays → IsVertexSurface columns rows pairs (ray_at rays k)
  outer k within = surface_of_face columns rows (rows ++ held_rows 0 seen) (IsUnseen seen) (held_face columns rows seen) pairs (ray_at rays k) (h.vertex_surfaces k [] within)

  gone : (k : ℕ) → k < length rays → (j : ℕ) → IsUnseen seen j → slice_index (ray_at rays k) j ≡ 0
  gone k within = gone_in_face columns rows (rows ++ held_rows 0 seen) (IsUnseen seen) (held_face columns rows seen) pairs (ray_at rays k) (h.vertex_surfaces k [] within)

  primitive_at : (k : ℕ) → k < length rays → IsPrimitiveExtreme columns rows (ray_at rays k)
  primitive_at k within = let s = outer k within in record { extreme = s.extreme; primitive = s.primitive }

  pub small_unions : HaveSmallUnions columns (length rows + 2) pairs rays
  small_unions i j i_in j_in face = union_bound columns rows (ray_at rays i) (ray_at rays j) (primitive_at i i_in) (primitive_at j j_in) none
    where
      none : HasNoThird columns rows (ray_at rays i) (ray_at rays j)
      none v hv inside =
          let s = third_ray (step_of pairs columns rows []) (ray_at rays i) (ray_at rays j) v face.no_clash inside hv in
          let k = place_of (step_of pairs columns (rows ++ held_rows 0 seen) []) rays h v
          (surface_in_face columns rows (rows ++ held_rows 0 seen) (IsUnseen seen) (held_face columns rows seen) pairs v s
          (λ l unseen. inside l (gone i i_in l unseen) (gone j j_in l unseen))) in
          elim (face.no_third k.0 k.1 (subst (λ y. IsInsideUnion y (ray_at rays i) (ray_at rays j)) (sym k.2) inside)) [
            | inl e ↦ inl (sym k.2 ∙ ap (ray_at rays) e)
            | inr e ↦ inr (sym k.2 ∙ ap (ray_at rays) e)
          ]

pub few_unions : (columns most : ℕ) (rows : List Row) (pairs : List Clash) (late : LateRays) → length rows + 2 ≤ most → AreLate columns rows pairs late →
    HaveSmallUnions columns most pairs (rays_of late.ray_list.items)
few_unions columns most rows pairs late limited h i j i_in j_in face =
    let small = small_unions columns rows pairs late.seen.items (rays_of late.ray_list.items) h.surfaces i j i_in j_in face in omega (arith, small, limited)

-- the columns of a clashing pair differ
pub pairs_apart : (columns : ℕ) (pairs : List Clash) → AreClashes columns pairs → PairsAreOfTwoColumns pairs
pairs_apart columns pairs h = All-weaker (λ (pair : Clash). (pair.0 < columns) × (pair.1 < columns) × (pair.0 ≢ pair.1)) (λ (pair : Clash). pair.0 ≢ pair.1) (λ pair k. k.2) pairs h

-- ---- widths

pub late_widths : (columns : ℕ) (rows : List Row) (pairs : List Clash) (late : LateRays) → AreLate columns rows pairs late → AreOfWidth columns late.ray_list.items
late_widths columns rows pairs late h k d within =
    let n = length-rays_of late.ray_list.items in
    let surface = h.surfaces.vertex_surfaces k [] (omega (arith, n, within)) in
    sym (ap length (ray_at-rays_of late.ray_list.items k d within)) ∙ surface.extreme.solution.width

pub have_room : (columns : ℕ) (rows : List Row) (pairs : List Clash) (late : LateRays) (column : ℕ) → AreLate columns rows pairs late → IsUnseen late.seen.items column →
    All (HasRoom column) late.ray_list.items
have_room columns rows pairs late column h unseen k d within =
    let n = length-rays_of late.ray_list.items in
    let in_rays : k < length (rays_of late.ray_list.items) = omega (arith, n, within) in record {
      in_range = let w = late_widths columns rows pairs late h k d within in let l = (h.untouched column unseen).in_range in omega (arith, w, l);
      gone = subst (λ x. slice_index x column ≡ 0) (ray_at-rays_of late.ray_list.items k d within)
          (gone columns rows pairs late.seen.items (rays_of late.ray_list.items) h.surfaces k in_rays column unseen);
    }

-- ---- the row after the rows that hold columns, and before them

same_zeros : (columns : ℕ) (rows : List Row) (row other : Row) (seen : List Bool) → ((x : List ℕ) → IsZeroAt other x ↔ IsZeroAt row x) →
    HaveSameSolutions columns ((rows ++ held_rows 0 seen) ++ other ∷ []) ((rows ++ row ∷ []) ++ held_rows 0 seen)
same_zeros columns rows row other seen same x = (
  λ s. let h = (held_solution columns rows seen x).0 (IsSolution-front columns (rows ++ held_rows 0 seen) other x s) in
      (held_solution columns (rows ++ row ∷ []) seen x).1
      (IsSolution-push columns rows row x h.0 ((same x).0 (IsSolution-last columns (rows ++ held_rows 0 seen) other x s)), h.1),
  λ s. let h = (held_solution columns (rows ++ row ∷ []) seen x).0 s in
      IsSolution-push columns (rows ++ held_rows 0 seen) other x
      ((held_solution columns rows seen x).1 (IsSolution-front columns rows row x h.0, h.1))
      ((same x).1 (IsSolution-last columns rows row x h.0)),
)

untouched_more : (columns : ℕ) (rows : List Row) (row : Row) (column : ℕ) → IsUntouched columns rows column → All (λ term. term.0 ≢ column) row → IsUntouched columns (rows ++ row ∷ []) column
untouched_more columns rows row column h differs = let parts = parts_without columns column row differs in record {
  in_range = h.in_range;
  plus = All-push (λ row. plus_part row (unit columns column) ≡ 0) rows row h.plus parts.0;
  minus = All-push (λ row. minus_part row (unit columns column) ≡ 0) rows row h.minus parts.1;
}

-- ---- the two kinds of steps

-- all columns of the row have entered
pub late_eliminated : (columns : ℕ) (rows : List Row) (pairs : List Clash) (row : Row) (late next : LateRays) → AreSeen late.seen.items row → next.seen.items ≡ late.seen.items →
    ((before : List Row) → HasSurfaces columns before pairs (rays_of late.ray_list.items) → HasSurfaces columns (before ++ row ∷ []) pairs (rays_of next.ray_list.items)) →
    AreLate columns rows pairs late → AreLate columns (rows ++ row ∷ []) pairs next
late_eliminated columns rows pairs row late next seen same step h = record {
  count = ap length same ∙ h.count;
  untouched = λ column unseen.
      let still = subst (λ s. IsUnseen s column) same unseen in
      untouched_more columns rows row column (h.untouched column still)
      (λ k d within e. true≢false (sym (seen k d within) ∙ ap (λ j. slice_index_or late.seen.items j true) e ∙ still));
  surfaces = subst (λ s. HasSurfaces columns ((rows ++ row ∷ []) ++ held_rows 0 s) pairs (rays_of next.ray_list.items)) (sym same)
      (same_surfaces columns ((rows ++ held_rows 0 late.seen.items) ++ row ∷ []) ((rows ++ row ∷ []) ++ held_rows 0 late.seen.items) pairs (rays_of next.ray_list.items)
      (same_zeros columns rows row row late.seen.items (λ x. (λ z. z, λ z. z))) (step (rows ++ held_rows 0 late.seen.items) h.surfaces));
}

oriented_zero : (turn : Bool) (row : Row) (x : List ℕ) → IsZeroAt (oriented turn row) x ↔ IsZeroAt row x
oriented_zero true row x = ((turned_zero row x).1, (turned_zero row x).0)
oriented_zero false row x = (λ z. z, λ z. z)

-- the row has a column that has not entered
pub late_extended : (limit columns : ℕ) (rows : List Row) (pairs : List Clash) (row : Row) (fresh : NewColumn) (late next : LateRays) → IsFreshColumn columns row pairs late.seen.items fresh →
    next.seen.items ≡ set late.seen.items fresh.column true →
    AreRaised limit pairs (oriented fresh.is_negated row) fresh.column (rays_of late.ray_list.items) (rays_of next.ray_list.items) → AreLate columns rows pairs late → AreLate columns (rows ++ row ∷ []) pairs next
late_extended limit columns rows pairs row fresh late next f same raised h = record {
  count = ap length same ∙ length-set late.seen.items fresh.column true ∙ h.count;
  untouched = λ column unseen.
      let u = unseen_after late.seen.items fresh.column column f.unseen (subst (λ s. IsUnseen s column) same unseen) in
      untouched_more columns rows row column (h.untouched column u.0)
      (λ k d within e. u.1 (sym e ∙ f.lone k d within (subst (IsUnseen late.seen.items) (sym e) u.0)));
  surfaces = subst (λ s. HasSurfaces columns ((rows ++ row ∷ []) ++ held_rows 0 s) pairs (rays_of next.ray_list.items)) (sym same)
      (same_surfaces columns ((rows ++ held_rows 0 (set late.seen.items fresh.column true)) ++ oriented fresh.is_negated row ∷ [])
      ((rows ++ row ∷ []) ++ held_rows 0 (set late.seen.items fresh.column true)) pairs (rays_of next.ray_list.items)
      (same_zeros columns rows row (oriented fresh.is_negated row) (set late.seen.items fresh.column true) (oriented_zero fresh.is_negated row))
      (raised_surfaces limit columns rows pairs (oriented fresh.is_negated row) late.seen.items (rays_of late.ray_list.items) (rays_of next.ray_list.items) raised.signs fresh.column f.unseen
      (h.untouched fresh.column f.unseen) f.one.0 f.one.1 f.free h.surfaces raised.signed raised.raised));
}

-- ---- all rows

-- the rows done are those before and the row
pub late_taken : (columns : ℕ) (rows : List Row) (pairs : List Clash) (number : ℕ) (row : Row) (late : LateRays) → number < length rows → row ≡ slice_index_or rows number [] →
    AreLate columns (take number rows ++ row ∷ []) pairs late → AreLate columns (take (number + 1) rows) pairs late
late_taken columns rows pairs number row late less is h =
    subst (λ taken. AreLate columns taken pairs late) (ap (λ r. take number rows ++ r ∷ []) is ∙ sym (take_more rows number [] less)) h

-- all columns have entered
pub all_seen : (columns : ℕ) (rows : List Row) (pairs : List Clash) (late : LateRays) → ((column : ℕ) → slice_index_or late.seen.items column true ≡ true) → AreLate columns rows pairs late →
    HasSurfaces columns rows pairs (rays_of late.ray_list.items)
all_seen columns rows pairs late seen h = same_surfaces columns (rows ++ held_rows 0 late.seen.items) rows pairs (rays_of late.ray_list.items)
    (λ x. (
      λ s. ((held_solution columns rows late.seen.items x).0 s).0,
      λ s. (held_solution columns rows late.seen.items x).1 (s, λ j unseen. absurd (true≢false (sym (seen j) ∙ unseen))),
    ))
    h.surfaces
