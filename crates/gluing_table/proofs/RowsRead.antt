-- Rows that are read one by one.
use Rattle.std.proofs.Common.{◌≡◌, ℕ, zero, suc, ◌<◌, List, [], ◌∷◌, ◌++◌, Option, None, Result, Ok, Err, refl, sym, ap, subst, ◌∙◌, arith, append_assoc, append-nil}
use Rattle.text_definitions.specs.declared.LexFault.{LexFault}
use Rattle.text_definitions.specs.Reading.{Reading, ◌>>=◌, end_line_at}
use Rattle.table_definitions.specs.declared.TableFault.{TableFault}
use Rattle.table_definitions.specs.declared.TextFault.{TextFault}
use Rattle.table_definitions.specs.Table.{Row, IsTable, table_fault}
use Rattle.table_definitions.specs.TableText.{row_at, rows_at, lexed, checked, counted_rows_at}
use Rattle.table_definitions.proofs.TableLaws.{table_fault-IsTable}

-- the rows so far, before those of a reading
abbrev pub with_rows : List Row → Result (List Row × Reading) LexFault → Result (List Row × Reading) LexFault
with_rows front read = read >>= λ others. Ok (front ++ others.0, others.1)

with_rows-twice : (xs ys : List Row) (r : Result (List Row × Reading) LexFault) → with_rows (xs ++ ys) r ≡ with_rows xs (with_rows ys r)
with_rows-twice xs ys (Ok x) = ap (λ zs. Ok (zs, x.1)) (append_assoc xs ys x.0)
with_rows-twice xs ys (Err e) = refl

pub with_rows-start : (rows : List Row) (n m : ℕ) (c : Reading) → rows ≡ [] → m ≡ n → with_rows rows (rows_at m c) ≡ rows_at n c
with_rows-start rows n m c e f = ap (λ (front : List Row). with_rows front (rows_at m c)) e ∙ none (rows_at m c) ∙ ap (λ k. rows_at k c) f
  where
    none : (r : Result (List Row × Reading) LexFault) → with_rows [] r ≡ r
    none (Ok x) = refl
    none (Err e) = refl

pub with_rows-end : (front : List Row) (n : ℕ) (c : Reading) → n ≡ 0 → with_rows front (rows_at n c) ≡ Ok (front, c)
unfolding rows_at
with_rows-end front n c e = ap (λ k. with_rows front (rows_at k c)) e ∙ ap (λ xs. Ok (xs, c)) (append-nil front)

pub with_rows-more : (front more : List Row) (row : Row) (n m : ℕ) (c d : Reading) → more ≡ front ++ row ∷ [] → n ≡ suc m → row_at c ≡ Ok (row, d)
    → with_rows more (rows_at m d) ≡ with_rows front (rows_at n c)
unfolding rows_at
with_rows-more front more row n m c d is e read =
    ap (λ rows. with_rows rows (rows_at m d)) is
    ∙ with_rows-twice front (row ∷ []) (rows_at m d)
    ∙ ap (λ r. with_rows front (r >>= λ (first : Row × Reading). rows_at m first.1 >>= λ (others : List Row × Reading). Ok (first.0 ∷ others.0, others.1))) (sym read)
    ∙ ap (λ k. with_rows front (rows_at k c)) (sym e)

pub with_rows-fault : (front : List Row) (n : ℕ) (c : Reading) (fault : LexFault) → 0 < n → row_at c ≡ Err fault → with_rows front (rows_at n c) ≡ Err fault
unfolding rows_at
with_rows-fault front zero c fault some read = absurd (omega arith)
with_rows-fault front (suc m) c fault some read =
    ap (λ r. with_rows front (r >>= λ (first : Row × Reading). rows_at m first.1 >>= λ (others : List Row × Reading). Ok (first.0 ∷ others.0, others.1))) read

-- the rows that were read are a table
pub counted : (n : ℕ) (c d e : Reading) (rows slice table : List Row) → end_line_at c ≡ Ok d → lexed (rows_at n d) ≡ Ok (rows, e) → slice ≡ rows → table ≡ slice → IsTable slice
    → counted_rows_at n c ≡ Ok (table, e)
unfolding counted_rows_at
counted n c d e rows slice table ended read same is h =
    ap (λ r. lexed r >>= λ (end : Reading). lexed (rows_at n end) >>= λ (x : List Row × Reading). checked (table_fault x.0) x) ended
    ∙ ap (λ (r : Result (List Row × Reading) TextFault). r >>= λ (x : List Row × Reading). checked (table_fault x.0) x) read
    ∙ ap (λ (o : Option TableFault). checked o (rows, e)) (subst (λ (xs : List Row). table_fault xs ≡ None) same (table_fault-IsTable slice h))
    ∙ ap (λ (xs : List Row). Ok (xs, e)) (sym same ∙ sym is)
