-- Columns that have entered.
use Rattle.std.proofs.Common.{◌≡◌, ℕ, ℤ, ◌+◌, ◌<◌, [], ◌∷◌, ◌++◌, true, true≢false, ⊎_elim, take, set, length, length-set, slice_index_or, get_or, subst, subst₂, sym, ap, ◌∙◌, arith}
use Rattle.std.proofs.lemmas.Bool.{cases_Bool, cases_lt}
use Rattle.std.proofs.lemmas.List.Elements.{All-more, All-weaker}
use Rattle.cone_definitions.specs.Rows.{Row}
use Rattle.cone_definitions.specs.Vectors.{unit}
use Rattle.ray_steps.specs.Rays.{rays_of}
use Rattle.cone_definitions.specs.Unordered.{HasSurfaces}
use Rattle.lazy_columns.specs.declared.late_rays.LateRays.{LateRays}
use Rattle.lazy_columns.specs.Late.{IsUnseen, held_rows, AreSeen, HaveEntered}
use Rattle.lazy_columns.specs.Fresh.{IsLone}
use Rattle.lazy_columns.proofs.Held.{unseen_after}
use Rattle.lazy_columns.proofs.UnitRays.{entered_surfaces}

-- one column enters
pub entered_one : (columns : ℕ) (old new : LateRays) (column : ℕ) → IsUnseen old.seen.items column → new.seen.items ≡ set old.seen.items column true →
    rays_of new.ray_list.items ≡ rays_of old.ray_list.items ++ unit columns column ∷ [] → HaveEntered columns old new
entered_one columns old new column unseen seen_is rays_is = record {
  late = λ rows pairs separate h. record {
    count = ap length seen_is ∙ length-set old.seen.items column true ∙ h.count;
    untouched = λ j still. h.untouched j (before j still);
    surfaces = subst₂ (λ seen rays. HasSurfaces columns (rows ++ held_rows 0 seen) pairs rays) (sym seen_is) (sym rays_is)
        (entered_surfaces columns rows pairs old.seen.items (rays_of old.ray_list.items) column unseen separate (h.untouched column unseen) h.surfaces);
  };
  unseen = before;
}
  where
    before : (j : ℕ) → IsUnseen new.seen.items j → IsUnseen old.seen.items j
    before j still = (unseen_after old.seen.items column j unseen (subst (λ seen. IsUnseen seen j) seen_is still)).0

pub entered_more : (columns : ℕ) (old middle new : LateRays) → HaveEntered columns old middle → HaveEntered columns middle new → HaveEntered columns old new
entered_more columns old middle new first then = record {
  late = λ rows pairs separate h. then.late rows pairs separate (first.late rows pairs separate h);
  unseen = λ j h. first.unseen j (then.unseen j h);
}

-- a column that has entered remains so
pub seen_still : (columns : ℕ) (old new : LateRays) (j : ℕ) → HaveEntered columns old new → slice_index_or old.seen.items j true ≡ true → slice_index_or new.seen.items j true ≡ true
seen_still columns old new j entered seen = ⊎_elim (λ e. e) (λ unseen. absurd (true≢false (sym seen ∙ entered.unseen j unseen))) (cases_Bool (slice_index_or new.seen.items j true))

-- one more column of the row
pub seen_more : (columns : ℕ) (old new : LateRays) (row : Row) (k : ℕ) (d : ℕ × ℤ) → HaveEntered columns old new → k < length row → AreSeen old.seen.items (take k row) →
    slice_index_or new.seen.items (get_or row k d).0 true ≡ true → AreSeen new.seen.items (take (k + 1) row)
seen_more columns old new row k d entered within before now =
    All-more (λ term. slice_index_or new.seen.items term.0 true ≡ true) row k d within
    (All-weaker (λ term. slice_index_or old.seen.items term.0 true ≡ true) (λ term. slice_index_or new.seen.items term.0 true ≡ true) (λ term seen. seen_still columns old new term.0 entered seen) (take k row) before) now

-- one more of the columns below n
pub seen_below : (columns : ℕ) (old new : LateRays) (n : ℕ) → HaveEntered columns old new → ((j : ℕ) → j < n → slice_index_or old.seen.items j true ≡ true) →
    slice_index_or new.seen.items n true ≡ true → (j : ℕ) → j < n + 1 → slice_index_or new.seen.items j true ≡ true
seen_below columns old new n entered before now j less = ⊎_elim
    (λ earlier. seen_still columns old new j entered (before j earlier))
    (λ not_earlier. subst (λ i. slice_index_or new.seen.items i true ≡ true) {x = n} {y = j} (omega arith) now)
    (cases_lt j n)

-- one more column of the row, which has entered or is the only one that has not
pub lone_more : (columns : ℕ) (old new : LateRays) (row : Row) (k : ℕ) (d : ℕ × ℤ) (column : ℕ) → HaveEntered columns old new → k < length row → IsLone (take k row) old.seen.items column →
    (IsUnseen new.seen.items (get_or row k d).0 → (get_or row k d).0 ≡ column) → IsLone (take (k + 1) row) new.seen.items column
lone_more columns old new row k d column entered within before now =
    All-more (λ term. IsUnseen new.seen.items term.0 → term.0 ≡ column) row k d within
    (All-weaker (λ term. IsUnseen old.seen.items term.0 → term.0 ≡ column) (λ term. IsUnseen new.seen.items term.0 → term.0 ≡ column) (λ term h unseen. h (entered.unseen term.0 unseen)) (take k row) before) now
