-- The places of the rows in a table with some rows removed and new ones added.
use Rattle.std.proofs.Common.{◌≡◌, ℕ, zero, suc, ◌+◌, ◌<◌, Bool, true, false, cond, List, [], length, get_or, map, Option, None, refl, sym, ap, ◌∙◌, subst, arith}
use Rattle.std.specs.Prelude.{◌==◌, not, slice_index}
use Rattle.std.specs.List.{position_or_len}
use Rattle.std.proofs.lemmas.List.{length-map}
use Rattle.std.proofs.lemmas.List.FromFn.{get_or-map-range_with_len, length-map-range_with_len}
use Rattle.std.proofs.lemmas.List.Elements.{All-get_or}
use Rattle.std.proofs.lemmas.List.Kept.{AllPairs-from_increasing}
use Rattle.table_definitions.specs.Lists.{has}
use Rattle.table_definitions.specs.Permutation.{four}
use Rattle.table_definitions.specs.Table.{Gluing, Row, Face, glue}
use Rattle.table_definitions.specs.Replacing.{Replacement, replaced_length, kept_numbers, free_numbers, number_of_kept, fresh_row, kept_gluing, kept_row, replaced_row, replaced}
use Rattle.table_definitions.specs.Replaceable.{fresh_numbers, fresh_glue, CanReplace}
use Rattle.table_definitions.proofs.Ranks.{rank, at_rank, of_rank, position_is_rank, stays, closed_up-rank, stays-count}
use Rattle.basic_lemmas.proofs.Members.{Ascends}

-- the old number of the row at index u
abbrev pub kept_at : List Row → Replacement → ℕ → ℕ
kept_at rows r u = slice_index (kept_numbers rows r) (position_or_len (λ v. v == u) (free_numbers rows r))

-- row t is retained as row u
pub record IsKeptAs (rows : List Row) (r : Replacement) (t u : ℕ) : Type 0 where
  pub old_in_range : t < length rows
  pub stays : has r.removed t ≡ false
  pub in_range : u < replaced_length rows r
  pub free : has (fresh_numbers r) u ≡ false
  pub number : number_of_kept rows r t ≡ u
  pub back : kept_at rows r u ≡ t

pub removed_up : (rows : List Row) (r : Replacement) → CanReplace rows r → Ascends r.removed
removed_up rows r can = AllPairs-from_increasing r.removed can.removed_ascend

pub fresh_up : (rows : List Row) (r : Replacement) → CanReplace rows r → Ascends (fresh_numbers r)
fresh_up rows r can = AllPairs-from_increasing (fresh_numbers r) can.fresh_ascend

pub fewer_removed : (rows : List Row) (r : Replacement) → CanReplace rows r → rank (stays r.removed) (length rows) + length r.removed ≡ length rows
fewer_removed rows r can = stays-count r.removed (length rows) (removed_up rows r can) (λ k l. All-get_or (λ t. t < length rows) r.removed k 0 l can.removed_in_range)

-- as many numbers are free as rows are retained
pub as_many : (rows : List Row) (r : Replacement) → CanReplace rows r → rank (stays r.removed) (length rows) ≡ rank (stays (fresh_numbers r)) (replaced_length rows r)
as_many rows r can =
    let a = fewer_removed rows r can in
    let b : rank (stays (fresh_numbers r)) (replaced_length rows r) + length (fresh_numbers r) ≡ replaced_length rows r =
    stays-count (fresh_numbers r) (replaced_length rows r) (fresh_up rows r can) (λ k l. All-get_or (λ u. u < replaced_length rows r) (fresh_numbers r) k 0 l can.fresh_in_range) in
    let c : length (fresh_numbers r) ≡ length r.fresh = length-map r.fresh (λ (x : ℕ × Row). x.0) in
    omega arith

pub not_true : (b : Bool) → not b ≡ true → b ≡ false
not_true true h = sym h
not_true false h = refl

pub kept_by : (rows : List Row) (r : Replacement) → CanReplace rows r → (t u : ℕ) → t < length rows → has r.removed t ≡ false → u < replaced_length rows r → has (fresh_numbers r) u ≡ false
    → rank (stays r.removed) t ≡ rank (stays (fresh_numbers r)) u → IsKeptAs rows r t u
kept_by rows r can t u lt st lu fu e = record {
  old_in_range = lt;
  stays = st;
  in_range = lu;
  free = fu;
  number = ap (λ i. get_or (free_numbers rows r) i 0) (closed_up-rank r.removed t (removed_up rows r can) ∙ e) ∙ (at_rank (stays (fresh_numbers r)) (replaced_length rows r) u lu (ap not fu)).is;
  back = ap (λ i. get_or (kept_numbers rows r) i 0) (position_is_rank (stays (fresh_numbers r)) (replaced_length rows r) u lu (ap not fu) ∙ sym e) ∙ (at_rank (stays r.removed) (length rows) t lt (ap not st)).is;
}

-- each row that is retained has a free number
pub kept_as : (rows : List Row) (r : Replacement) → CanReplace rows r → (t : ℕ) → t < length rows → has r.removed t ≡ false → IsKeptAs rows r t (number_of_kept rows r t)
kept_as rows r can t lt st =
    let limited = (at_rank (stays r.removed) (length rows) t lt (ap not st)).fewer in
    let u = of_rank (stays (fresh_numbers r)) (replaced_length rows r) (rank (stays r.removed) t) (omega (arith, as_many rows r can)) in
    let k : IsKeptAs rows r t u.0 = kept_by rows r can t u.0 lt st u.1 (not_true (has (fresh_numbers r) u.0) u.2) (sym u.3) in
    subst (λ v. IsKeptAs rows r t v) (sym k.number) k

-- each free number is that of a retained row
pub keeps : (rows : List Row) (r : Replacement) → CanReplace rows r → (u : ℕ) → u < replaced_length rows r → has (fresh_numbers r) u ≡ false → IsKeptAs rows r (kept_at rows r u) u
keeps rows r can u lu fu =
    let limited = (at_rank (stays (fresh_numbers r)) (replaced_length rows r) u lu (ap not fu)).fewer in
    let t = of_rank (stays r.removed) (length rows) (rank (stays (fresh_numbers r)) u) (omega (arith, as_many rows r can)) in
    let k : IsKeptAs rows r t.0 u = kept_by rows r can t.0 u t.1 (not_true (has r.removed t.0) t.2) lu fu t.3 in
    subst (λ v. IsKeptAs rows r v u) (sym k.back) k

-- the rows of the new table

pub length-replaced : (rows : List Row) (r : Replacement) → length (replaced rows r) ≡ replaced_length rows r
unfolding replaced
length-replaced rows r = length-map-range_with_len (replaced_row rows r) 0 (replaced_length rows r)

row_at : (rows : List Row) (r : Replacement) (u : ℕ) → u < replaced_length rows r → get_or (replaced rows r) u [] ≡ replaced_row rows r u
unfolding replaced
row_at rows r u l = get_or-map-range_with_len (replaced_row rows r) 0 (replaced_length rows r) u u [] l (omega arith)

pub fresh_row_at : (rows : List Row) (r : Replacement) (u : ℕ) → u < replaced_length rows r → has (fresh_numbers r) u ≡ true → get_or (replaced rows r) u [] ≡ fresh_row r u
fresh_row_at rows r u l h = row_at rows r u l ∙ ap (λ b. cond b (fresh_row r u) (kept_row rows r (kept_at rows r u) u)) h

pub kept_row_at : (rows : List Row) (r : Replacement) (u : ℕ) → u < replaced_length rows r → has (fresh_numbers r) u ≡ false → get_or (replaced rows r) u [] ≡ kept_row rows r (kept_at rows r u) u
kept_row_at rows r u l h = row_at rows r u l ∙ ap (λ b. cond b (fresh_row r u) (kept_row rows r (kept_at rows r u) u)) h

-- a face of a new row
pub glue-fresh : (rows : List Row) (r : Replacement) (x : Face) → x.tet < replaced_length rows r → has (fresh_numbers r) x.tet ≡ true → glue (replaced rows r) x ≡ fresh_glue r x
glue-fresh rows r x l h = ap (λ (row : Row). get_or row x.face None) (fresh_row_at rows r x.tet l h)

pub of_four : (f : ℕ → Option Gluing) (k : ℕ) → k < 4 → get_or (map f four) k None ≡ f k
of_four f zero l = refl
of_four f (suc zero) l = refl
of_four f (suc (suc zero)) l = refl
of_four f (suc (suc (suc zero))) l = refl
of_four f (suc (suc (suc (suc k)))) l = absurd (omega arith)

-- a face of a retained row
pub glue-kept : (rows : List Row) (r : Replacement) (t u f : ℕ) → IsKeptAs rows r t u → f < 4
    → glue (replaced rows r) (record { tet = u; face = f }) ≡ kept_gluing rows r (record { tet = u; face = f }) (glue rows (record { tet = t; face = f }))
glue-kept rows r t u f k l =
    ap (λ (row : Row). get_or row f None) (kept_row_at rows r u k.in_range k.free ∙ ap (λ v. kept_row rows r v u) k.back)
    ∙ of_four (λ i. kept_gluing rows r (record { tet = u; face = i }) (glue rows (record { tet = t; face = i }))) f l
