-- How a loop reads the rows of a cone: the values so far, before those of the rest.
use Rattle.std.proofs.Common.{ap₂, ◌≡◌, ℕ, zero, suc, ℤ, pos, negsuc, ◌+◌, ◌-◌, ◌<◌, ◌≤◌, true, false, cond, Bool, not, filter, List, [], ◌∷◌, ◌++◌, map, refl, sym, ap, ◌∙◌, subst, append_assoc, append-nil, arith, Option, Some, None, Result, Ok, Err, replicate}
use Rattle.std.specs.Prelude.{nat_lt, unsigned_abs, codes}
use Rattle.std.specs.List.{enumerate_from}
use Rattle.std.proofs.lemmas.List.Elements.{All-push, All-weaker, All-get_or}
use Rattle.std.proofs.lemmas.List.Quantifiers.{all_pairs_push}
use Rattle.basic_lemmas.proofs.Options.{ok_value}
use Rattle.basic_lemmas.proofs.Numbers.{not_zero}
use Rattle.text_definitions.specs.declared.LexFault.{LexFault}
use Rattle.text_definitions.specs.declared.LexKind.TheVariants.{NumberTooWide}
use Rattle.text_definitions.specs.Text.{decimal_value}
use Rattle.cone_definitions.specs.Systems.{System}
use Rattle.cone_core.specs.declared.reader.ConeFault.{ConeFault}
use Rattle.cone_core.specs.declared.reader.ConeFault.TheVariants.{Lex, NoMemory}
use Rattle.text_definitions.specs.Reading.{end_line_at, exactly_at, same_word, Reading, ◌>>=◌, word_at, word_fault, number_up_to, number_at, signed_at, magnitude, is_negative, with_sign}
use Rattle.text_definitions.proofs.Readers.{bind_ok}
use Rattle.cone_text_definitions.specs.ConeText.{Cone, is_zero, sparse, coefficients_at, cone_row_at, cone_rows_at, rows_of_cone_at, cone_at}
use Rattle.cone_definitions.specs.Rows.{Row}
use Rattle.cone_arithmetic.specs.Sparse.{IsSparse, IsInRange}
use Rattle.cone_core.specs.ConeReads.{FailsHere, GivesCone, entries_of, sparse_row_at}

-- a number is at most the greatest one that is read
up_to : (max : ℕ) (value : Option ℕ) (c : Reading) (x : ℕ × Reading) → number_up_to max value c ≡ Ok x → x.0 ≤ max
up_to max None c x e = cc
up_to max (Some n) c x e = up_to_by (nat_lt max n) refl e
  where
    up_to_by : (b : Bool) → nat_lt max n ≡ b → cond b (Err (word_fault c NumberTooWide)) (Ok (n, c)) ≡ Ok x → x.0 ≤ max
    up_to_by true same f = cc
    up_to_by false same f = rw (ok_value (n, c) x f) (grind arith)

pub number_at-within : (max : ℕ) (c : Reading) (x : ℕ × Reading) → number_at max c ≡ Ok x → x.0 ≤ max
unfolding number_at
number_at-within max c x e =
    let w = bind_ok (word_at c) (λ w. number_up_to max (decimal_value w.0) w.1) x e in
    up_to max (decimal_value w.0.0) w.0.1 x w.2

signed_abs : (negative : Bool) (n : ℕ) → unsigned_abs (with_sign negative n) ≡ n
signed_abs true zero = refl
signed_abs true (suc n) = refl
signed_abs false n = refl

-- the magnitude of a signed number is within the limit
pub signed_at-within : (max : ℕ) (c : Reading) (x : ℤ × Reading) → signed_at max c ≡ Ok x → unsigned_abs x.0 ≤ max
unfolding signed_at
signed_at-within max c x e =
    let w = bind_ok (word_at c) (λ w. number_up_to max (decimal_value (magnitude w.0)) w.1 >>= λ n. Ok (with_sign (is_negative w.0) n.0, n.1)) x e in
    let n = bind_ok (number_up_to max (decimal_value (magnitude w.0.0)) w.0.1) (λ n. Ok (with_sign (is_negative w.0.0) n.0, n.1)) x w.2 in
    let bound = up_to max (decimal_value (magnitude w.0.0)) w.0.1 n.0 n.1 in
    rw (ok_value (with_sign (is_negative w.0.0) n.0.0, n.0.1) x n.2, signed_abs (is_negative w.0.0) n.0.0) bound

-- the entries so far, before those of the coefficients from column k on
abbrev pub with_entries : Row → ℕ → Result (List ℤ × Reading) LexFault → Result (Row × Reading) LexFault
with_entries front k read = read >>= λ others. Ok (front ++ filter (λ (term : ℕ × ℤ). not (is_zero term.1)) (enumerate_from k others.0), others.1)

pub with_entries-end : (front : Row) (k columns : ℕ) (c : Reading) → columns ≤ k → with_entries front k (coefficients_at (columns - k) c) ≡ Ok (front, c)
unfolding coefficients_at
with_entries-end front k columns c h =
    let none : columns - k ≡ zero = omega arith in
    rw none (ap (λ xs. Ok (xs, c)) (append-nil front))

more-is : (k columns : ℕ) (c : Reading) → k < columns → coefficients_at (columns - k) c ≡ (signed_at 1000000 c >>= λ first. coefficients_at (columns - (k + 1)) first.1 >>= λ others. Ok (first.0 ∷ others.0, others.1))
unfolding coefficients_at
more-is k columns c h =
    let some : columns - k ≡ suc (columns - (k + 1)) = omega arith in
    rw some refl

pub with_entries-fault : (front : Row) (k columns : ℕ) (c : Reading) (fault : LexFault) → k < columns → signed_at 1000000 c ≡ Err fault →
    with_entries front k (coefficients_at (columns - k) c) ≡ Err fault
with_entries-fault front k columns c fault h e = rw (more-is k columns c h, e) refl

entries_more : (front : Row) (k : ℕ) (z : ℤ) (read : Result (List ℤ × Reading) LexFault) →
    with_entries (front ++ entries_of k z) (k + 1) read ≡ with_entries front k (read >>= λ others. Ok (z ∷ others.0, others.1))
entries_more front k z (Ok others) = ap (λ xs. Ok (xs, others.1)) (by_test (is_zero z) (enumerate_from (k + 1) others.0))
  where
    by_test : (b : Bool) (rest : Row) →
        (front ++ cond b [] ((k, z) ∷ [])) ++ filter (λ (term : ℕ × ℤ). not (is_zero term.1)) rest
        ≡ front ++ cond (not b) ((k, z) ∷ filter (λ (term : ℕ × ℤ). not (is_zero term.1)) rest) (filter (λ (term : ℕ × ℤ). not (is_zero term.1)) rest)
    by_test true rest = ap (λ xs. xs ++ filter (λ (term : ℕ × ℤ). not (is_zero term.1)) rest) (append-nil front)
    by_test false rest = append_assoc front ((k, z) ∷ []) (filter (λ (term : ℕ × ℤ). not (is_zero term.1)) rest)
entries_more front k z (Err fault) = refl

-- a coefficient more
pub with_entries-more : (front : Row) (k columns : ℕ) (c : Reading) (x : ℤ × Reading) → k < columns → signed_at 1000000 c ≡ Ok x →
    with_entries (front ++ entries_of k x.0) (k + 1) (coefficients_at (columns - (k + 1)) x.1) ≡ with_entries front k (coefficients_at (columns - k) c)
with_entries-more front k columns c x h e = rw (more-is k columns c h, e) (entries_more front k x.0 (coefficients_at (columns - (k + 1)) x.1))

-- a sparse row before column k with one coefficient more
pub sparse_more : (row : Row) (k : ℕ) (z : ℤ) → IsSparse row → IsInRange k row → unsigned_abs z ≤ 1000000 → IsSparse (row ++ entries_of k z)
sparse_more row k z is below bound = by_value z bound
  where
    pushed : (y : ℤ) → 1 ≤ unsigned_abs y → unsigned_abs y ≤ 1000000 → IsSparse (row ++ (k, y) ∷ [])
    pushed y some most = record {
      ascending = all_pairs_push (λ (one other : ℕ × ℤ). one.0 < other.0) row (k, y) is.ascending (λ i d h. All-get_or (λ (term : ℕ × ℤ). term.0 < k) row i d h below);
      nonzero = All-push (λ (term : ℕ × ℤ). 1 ≤ unsigned_abs term.1) row (k, y) is.nonzero some;
      bounded = All-push (λ (term : ℕ × ℤ). unsigned_abs term.1 ≤ 1000000) row (k, y) is.bounded most;
    }

    by_value : (y : ℤ) → unsigned_abs y ≤ 1000000 → IsSparse (row ++ entries_of k y)
    by_value (pos zero) most = rw (append-nil row) is
    by_value (pos (suc n)) most = rw (not_zero (suc n) (omega arith)) (pushed (pos (suc n)) (omega arith) most)
    by_value (negsuc n) most = pushed (negsuc n) (omega arith) most

pub in_range_more : (row : Row) (k : ℕ) (z : ℤ) → IsInRange k row → IsInRange (k + 1) (row ++ entries_of k z)
in_range_more row k z below = by_test (is_zero z)
  where
    still : IsInRange (k + 1) row
    still = All-weaker (λ (term : ℕ × ℤ). term.0 < k) (λ (term : ℕ × ℤ). term.0 < k + 1) (λ term l. omega (arith, l)) row below

    by_test : (b : Bool) → IsInRange (k + 1) (row ++ cond b [] ((k, z) ∷ []))
    by_test true = rw (append-nil row) still
    by_test false = All-push (λ (term : ℕ × ℤ). term.0 < k + 1) row (k, z) still (omega arith)

-- the rows so far, before those of the lines that are left
abbrev pub with_rows : List Row → Result (List (List ℤ) × Reading) LexFault → Result (List Row × Reading) LexFault
with_rows front read = read >>= λ others. Ok (front ++ map sparse others.0, others.1)

pub with_rows-end : (front : List Row) (k count columns : ℕ) (c : Reading) → count ≤ k → with_rows front (cone_rows_at (count - k) columns c) ≡ Ok (front, c)
unfolding cone_rows_at
with_rows-end front k count columns c h =
    let none : count - k ≡ zero = omega arith in
    rw none (ap (λ xs. Ok (xs, c)) (append-nil front))

lines-are : (k count columns : ℕ) (c : Reading) → k < count →
    cone_rows_at (count - k) columns c ≡ (cone_row_at columns c >>= λ first. cone_rows_at (count - (k + 1)) columns first.1 >>= λ others. Ok (first.0 ∷ others.0, others.1))
unfolding cone_rows_at
lines-are k count columns c h =
    let some : count - k ≡ suc (count - (k + 1)) = omega arith in
    rw some refl

abbrev as_row : List ℤ × Reading → Result (Row × Reading) LexFault
as_row r = Ok (sparse r.0, r.1)

-- a fault of a row is its line's
row_fault : (read : Result (List ℤ × Reading) LexFault) (fault : LexFault) → (read >>= as_row) ≡ Err fault → read ≡ Err fault
row_fault (Ok row) fault e = cc
row_fault (Err other) fault e = cc

pub with_rows-fault : (front : List Row) (k count columns : ℕ) (c : Reading) (fault : LexFault) → k < count → sparse_row_at columns c ≡ Err fault →
    with_rows front (cone_rows_at (count - k) columns c) ≡ Err fault
with_rows-fault front k count columns c fault h e = rw (lines-are k count columns c h, row_fault (cone_row_at columns c) fault e) refl

row_more : (front : List Row) (row : List ℤ) (read : Result (List (List ℤ) × Reading) LexFault) →
    with_rows (front ++ sparse row ∷ []) read ≡ with_rows front (read >>= λ others. Ok (row ∷ others.0, others.1))
row_more front row (Ok others) = ap (λ xs. Ok (xs, others.1)) (append_assoc front (sparse row ∷ []) (map sparse others.0))
row_more front row (Err fault) = refl

row_step : (front : List Row) (k count columns : ℕ) (c : Reading) (row : List ℤ × Reading) → k < count → cone_row_at columns c ≡ Ok row →
    with_rows (front ++ sparse row.0 ∷ []) (cone_rows_at (count - (k + 1)) columns row.1) ≡ with_rows front (cone_rows_at (count - k) columns c)
row_step front k count columns c row h e = rw (lines-are k count columns c h, e) (row_more front row.0 (cone_rows_at (count - (k + 1)) columns row.1))

-- one row more
pub with_rows-more : (front : List Row) (k count columns : ℕ) (c : Reading) (x : Row × Reading) → k < count → sparse_row_at columns c ≡ Ok x →
    with_rows (front ++ x.0 ∷ []) (cone_rows_at (count - (k + 1)) columns x.1) ≡ with_rows front (cone_rows_at (count - k) columns c)
with_rows-more front k count columns c x h e =
    let r = bind_ok (cone_row_at columns c) as_row x e in
    subst (λ (y : Row × Reading). with_rows (front ++ y.0 ∷ []) (cone_rows_at (count - (k + 1)) columns y.1) ≡ with_rows front (cone_rows_at (count - k) columns c))
    (sym (ok_value (sparse r.0.0, r.0.1) x r.2)) (row_step front k count columns c r.0 h r.1)

-- the first fault of a line is that of the rows
pub with_rows-fails : (front : List Row) (k count columns : ℕ) (c : Reading) (fault : ConeFault) → k < count → FailsHere fault (sparse_row_at columns c) →
    FailsHere fault (with_rows front (cone_rows_at (count - k) columns c))
with_rows-fails front k count columns c (Lex fault) h e = with_rows-fault front k count columns c fault h e
with_rows-fails front k count columns c NoMemory h e = tt

-- a cone once its first line is read
abbrev pub of_cone : ℕ → ℕ → Reading → Result (Cone × Reading) LexFault
of_cone columns count c = rows_of_cone_at columns count c >>= λ rows. Ok (record { columns = columns; rows = rows.0 }, rows.1)

pub cone_at-is : (c : Reading) (w : List ℕ × Reading) (columns count : ℕ × Reading) (end : Reading) → word_at c ≡ Ok w → same_word w.0 (codes "cone") ≡ true →
    number_at 10000 w.1 ≡ Ok columns → number_at 10000 columns.1 ≡ Ok count → end_line_at count.1 ≡ Ok end → cone_at c ≡ of_cone columns.0 count.0 end
unfolding cone_at exactly_at
cone_at-is c w columns count end word named first second last = rw (word, named, first, second, last) refl

map_replicate : (count : ℕ) → map sparse (replicate count []) ≡ replicate count []
map_replicate zero = refl
map_replicate (suc n) = ap (λ xs. [] ∷ xs) (map_replicate n)

-- a cone without columns
pub cone_of_none : (columns count : ℕ) (c : Reading) (system : System) → columns ≡ 0 → system.columns ≡ 0 → system.rows ≡ replicate count [] →
    GivesCone (Ok system) c (of_cone columns count c)
cone_of_none columns count c system none same rows_are =
    (record { columns = 0; rows = replicate count [] }, rw none refl, ap₂ (λ n xs. record { columns = n; rows = xs }) same (rows_are ∙ sym (map_replicate count)))
