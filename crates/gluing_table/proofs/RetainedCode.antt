-- The results of the calls for the rows that are retained.
use Rattle.std.proofs.Common.{◌≡◌, ℕ, zero, suc, ◌+◌, ◌^◌, ◌<◌, ◌≤◌, Bool, true, false, cond, List, [], ◌∷◌, ◌++◌, map, length, Option, Some, None, refl, sym, ap, ◌∙◌, arith, inl, inr}
use Rattle.std.specs.Prelude.{◌⊎◌, not, if◌then◌else◌}
use Rattle.std.proofs.lemmas.Bool.{cases_lt}
use Rattle.table_definitions.specs.Lists.{has, first_some, below, rank_without}
use Rattle.table_definitions.specs.Table.{Gluing, Row, Face, glue, IsTable}
use Rattle.table_definitions.specs.Replacing.{Replacement, replaced_length, number_of_kept, kept_gluing, kept_row, replaced_row, fresh_row, back_to_fresh, replaced}
use Rattle.table_definitions.specs.Replaceable.{fresh_numbers, gone_before, row_back, CanReplace}
use Rattle.std.proofs.lemmas.List.{map-append}
use Rattle.std.proofs.lemmas.List.FromFn.{length-map-range_with_len}
use Rattle.table_definitions.proofs.Bijections.{below-push}
use Rattle.table_definitions.proofs.Ranks.{rank, rank-suc, stays, opened_up, closed_up-rank, at_rank}
use Rattle.table_definitions.proofs.Retained.{IsKeptAs, kept_at, kept_by, as_many, fewer_removed, removed_up, fresh_up}
use Rattle.table_definitions.proofs.Faces.{face_at}
use Rattle.gluing_table.proofs.FirstBack.{back_by_rows}

-- below a greater number at least as many pass
rank-le : (p : ℕ → Bool) (n m : ℕ) → n ≤ m → rank p n ≤ rank p m
rank-le p n zero l = let e : n ≡ 0 = omega arith in let f : rank p n ≡ rank p 0 = ap (rank p) e in omega arith
rank-le p n (suc m) l = by_size (cases_lt m n) (rank-le p n m)
  where
    by_size : (m < n) ⊎ (n ≤ m) → (n ≤ m → rank p n ≤ rank p m) → rank p n ≤ rank p (suc m)
    by_size (inl a) before = let e : n ≡ suc m = omega arith in let f : rank p n ≡ rank p (suc m) = ap (rank p) e in omega arith
    by_size (inr a) before = omega (arith, before a, rank-suc p m)

below_by_rank : (p : ℕ → Bool) (n u : ℕ) → rank p u < rank p n → u < n
below_by_rank p n u l = by_size (cases_lt u n)
  where
    by_size : (u < n) ⊎ (n ≤ u) → u < n
    by_size (inl a) = a
    by_size (inr a) = absurd (omega (arith, rank-le p n u a))

pub few_removed : (rows : List Row) (r : Replacement) → IsTable rows → CanReplace rows r → length r.removed < 2 ^ 32
few_removed rows r table can = omega (arith, fewer_removed rows r can, table.limited)

pub few_fresh : (rows : List Row) (r : Replacement) → CanReplace rows r → length r.fresh ≤ 1000
few_fresh rows r can = omega (arith, can.limited)

-- raised above the numbers of the new rows, the rank of a retained row is its new number
pub number_opened : (rows : List Row) (r : Replacement) → CanReplace rows r → (t closed u : ℕ) → t < length rows → has r.removed t ≡ false → closed ≡ rank_without r.removed t
    → has (fresh_numbers r) u ≡ false → u ≡ closed + gone_before (fresh_numbers r) u → u ≡ number_of_kept rows r t
number_opened rows r can t closed u lt st is free value =
    let a : rank (stays (fresh_numbers r)) u ≡ closed = opened_up (fresh_numbers r) closed u (fresh_up rows r can) value in
    let b : closed ≡ rank (stays r.removed) t = is ∙ closed_up-rank r.removed t (removed_up rows r can) in
    let fewer = (at_rank (stays r.removed) (length rows) t lt (ap not st)).fewer in
    let lu : u < replaced_length rows r = below_by_rank (stays (fresh_numbers r)) (replaced_length rows r) u (omega (arith, as_many rows r can)) in
    sym (kept_by rows r can t u lt st lu free (sym (a ∙ b))).number

-- raised above the numbers of the removed rows, the rank of a retained row is its old number
pub place_opened : (rows : List Row) (r : Replacement) → CanReplace rows r → (u closed t : ℕ) → u < replaced_length rows r → has (fresh_numbers r) u ≡ false → closed ≡ rank_without (fresh_numbers r) u
    → has r.removed t ≡ false → t ≡ closed + gone_before r.removed t → IsKeptAs rows r t u
place_opened rows r can u closed t lu free is st value =
    let a : rank (stays r.removed) t ≡ closed = opened_up r.removed closed t (removed_up rows r can) value in
    let b : closed ≡ rank (stays (fresh_numbers r)) u = is ∙ closed_up-rank (fresh_numbers r) u (fresh_up rows r can) in
    let fewer = (at_rank (stays (fresh_numbers r)) (replaced_length rows r) u lu (ap not free)).fewer in
    let lt : t < length rows = below_by_rank (stays r.removed) (length rows) t (omega (arith, as_many rows r can)) in
    kept_by rows r can t u lt st lu free (a ∙ b)

-- the gluings of retained rows
pub glued_back : (rows : List Row) (r : Replacement) → CanReplace rows r → (y : Face) (o : Option Gluing) (g : Gluing) (back : Option Gluing) → Some g ≡ o → true ≡ has r.removed g.tet → back ≡ first_some (row_back y) r.fresh
    → back ≡ kept_gluing rows r y o
glued_back rows r can y o g back e gone is =
    let k : kept_gluing rows r y (Some g) ≡ back_to_fresh r y = ap (λ b. cond b (back_to_fresh r y) (Some (record { tet = number_of_kept rows r g.tet; perm = g.perm }))) (sym gone) in
    is ∙ back_by_rows r y (fresh_up rows r can) ∙ sym k ∙ ap (kept_gluing rows r y) e

pub glued_on : (rows : List Row) (r : Replacement) (y : Face) (o : Option Gluing) (g new : Gluing) → Some g ≡ o → false ≡ has r.removed g.tet → new.tet ≡ number_of_kept rows r g.tet → new.perm ≡ g.perm
    → Some new ≡ kept_gluing rows r y o
glued_on rows r y o g new e stays is same =
    let k : kept_gluing rows r y (Some g) ≡ Some (record { tet = number_of_kept rows r g.tet; perm = g.perm }) = ap (λ b. cond b (back_to_fresh r y) (Some (record { tet = number_of_kept rows r g.tet; perm = g.perm }))) (sym stays) in
    let mk : ℕ → List ℕ → Option Gluing = λ t p. Some (record { tet = t; perm = p }) in
    ap (λ t. mk t new.perm) is ∙ ap (λ p. mk (number_of_kept rows r g.tet) p) same ∙ sym k ∙ ap (kept_gluing rows r y) e

-- the numbers and gluings of retained rows, from the results of the calls

pub closed_fits : (rows : List Row) (r : Replacement) → IsTable rows → CanReplace rows r → (x : Face) (g : Gluing) (tet closed : ℕ) → Some g ≡ glue rows x → tet ≡ g.tet → closed ≡ rank_without r.removed tet
    → closed + length r.fresh < 2 ^ 32
closed_fits rows r table can x g tet closed e same is = let l = table.in_range x g (sym e) in omega (arith, few_fresh rows r can, table.limited)

pub glued_back_by : (rows : List Row) (r : Replacement) → CanReplace rows r → (y : Face) (t f tet : ℕ) (g : Gluing) (back : Option Gluing) → Some g ≡ glue rows (face_at t f) → tet ≡ g.tet → f ≡ y.face
    → true ≡ has r.removed tet → back ≡ first_some (row_back y) r.fresh → back ≡ kept_gluing rows r y (glue rows (face_at t y.face))
glued_back_by rows r can y t f tet g back e same face gone is =
    glued_back rows r can y (glue rows (face_at t y.face)) g back (e ∙ ap (λ k. glue rows (face_at t k)) face) (gone ∙ ap (has r.removed) same) is

pub glued_on_by : (rows : List Row) (r : Replacement) → IsTable rows → CanReplace rows r → (y : Face) (t f tet closed u : ℕ) (p : List ℕ) (g : Gluing) → Some g ≡ glue rows (face_at t f) → tet ≡ g.tet → p ≡ g.perm → f ≡ y.face
    → false ≡ has r.removed tet → closed ≡ rank_without r.removed tet → has (fresh_numbers r) u ≡ false → u ≡ closed + gone_before (fresh_numbers r) u
    → Some (record { tet = u; perm = p }) ≡ kept_gluing rows r y (glue rows (face_at t y.face))
glued_on_by rows r table can y t f tet closed u p g e same perm face stays is free value =
    let st : has r.removed g.tet ≡ false = sym (stays ∙ ap (has r.removed) same) in
    let lt : g.tet < length rows = table.in_range (face_at t f) g (sym e) in
    let number : u ≡ number_of_kept rows r g.tet = number_opened rows r can g.tet closed u lt st (is ∙ ap (rank_without r.removed) same) free value in
    glued_on rows r y (glue rows (face_at t y.face)) g (record { tet = u; perm = p }) (e ∙ ap (λ k. glue rows (face_at t k)) face) (sym st) number perm

-- a row of the new table

abbrev fresh_or_none : Bool → Row → Option Row
fresh_or_none b row = if◌then◌else◌ {A = Option Row} b (Some row) None

pub new_fresh : (rows : List Row) (r : Replacement) (u : ℕ) (row : Row) → Some row ≡ fresh_or_none (has (fresh_numbers r) u) (fresh_row r u) → row ≡ replaced_row rows r u
new_fresh rows r u row e = by_test (has (fresh_numbers r) u) e
  where
    by_test : (b : Bool) → Some row ≡ fresh_or_none b (fresh_row r u) → row ≡ cond b (fresh_row r u) (kept_row rows r (kept_at rows r u) u)
    by_test true s = cc
    by_test false s = absurd cc

pub none_fresh : (r : Replacement) (u : ℕ) (row : Row) → None ≡ fresh_or_none (has (fresh_numbers r) u) row → has (fresh_numbers r) u ≡ false
none_fresh r u row e = by_test (has (fresh_numbers r) u) e
  where
    by_test : (b : Bool) → None ≡ fresh_or_none b row → b ≡ false
    by_test true s = absurd cc
    by_test false s = refl

pub new_kept : (rows : List Row) (r : Replacement) (t u : ℕ) (row : Row) → IsKeptAs rows r t u → row ≡ kept_row rows r t u → row ≡ replaced_row rows r u
new_kept rows r t u row k e =
    e ∙ ap (λ v. kept_row rows r v u) (sym k.back) ∙ ap (λ b. cond b (fresh_row r u) (kept_row rows r (kept_at rows r u) u)) (sym k.free)

pub place_fits : (rows : List Row) (r : Replacement) → IsTable rows → CanReplace rows r → (u closed : ℕ) → u < replaced_length rows r → closed ≡ rank_without (fresh_numbers r) u → closed + length r.removed < 2 ^ 32
place_fits rows r table can u closed l is = omega (arith, can.limited, table.limited, fewer_removed rows r can)

-- one more row is written
pub written_more : (f : ℕ → Row) (n : ℕ) (items more : List Row) (row : Row) → items ≡ map f (below n) → row ≡ f n → more ≡ items ++ row ∷ [] → more ≡ map f (below (n + 1))
written_more f n items more row so_far is e =
    e ∙ ap (λ (xs : List Row). xs ++ row ∷ []) so_far ∙ ap (λ (x : Row). map f (below n) ++ x ∷ []) is
    ∙ sym (map-append f (below n) (n ∷ [])) ∙ ap (map f) (below-push n) ∙ (let next : suc n ≡ n + 1 = omega arith in ap (λ k. map f (below k)) next)

pub length-written : (f : ℕ → Row) (n : ℕ) (items : List Row) → items ≡ map f (below n) → length items ≡ n
length-written f n items e = ap length e ∙ length-map-range_with_len f 0 n

-- all are written
pub written_all : (rows : List Row) (r : Replacement) (n : ℕ) (items : List Row) → n ≡ replaced_length rows r → items ≡ map (replaced_row rows r) (below n) → items ≡ replaced rows r
unfolding replaced
written_all rows r n items e so_far = so_far ∙ ap (λ k. map (replaced_row rows r) (below k)) e

pub fewer_than_rows : (rows : List Row) (r : Replacement) → CanReplace rows r → length r.removed ≤ length rows
fewer_than_rows rows r can = omega (arith, fewer_removed rows r can)
