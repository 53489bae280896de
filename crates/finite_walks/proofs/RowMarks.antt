-- A row is marked entry by entry.
use Rattle.std.proofs.Common.{◌≡◌, ℕ, ◌+◌, ◌<◌, ◌≤◌, List, [], ◌∷◌, ◌++◌, length, take, drop, Bool, true, false, set, Contains, Option, Some, None, refl, sym, ap, ap₂, subst, subst₂, ◌∙◌, arith}
use Rattle.std.specs.List.{slice_index_or}
use Rattle.std.proofs.lemmas.List.{length-set, length_push, drop-append-le, get_or_default}
use Rattle.table_walk_laws.specs.Joined.{HasNeighboursBelow, present, neighbours_of}
use Rattle.table_walk_laws.specs.Search.{IsMarked, IsSearch, IsSearchStep, AreMembers, work_left}
use Rattle.finite_walks.specs.Rows.{IsRowMarked}
use Rattle.table_walk_laws.proofs.Rows.{entry_marks, entry_passes, entry_skips}
use Rattle.table_walk_laws.proofs.SearchLemmas.{turn_ends, has_few_turns}
use Rattle.table_walk_laws.proofs.Members.{members_grow}

pub none_done : (row : List ℕ) (marked : List Bool) (pending : List ℕ) → IsRowMarked row [] marked marked pending pending
none_done row marked pending = record { size = refl; not_longer = omega arith; turn = λ neighbours first x k same l t. t; members = λ old m. m; work = λ k l. refl }

module _ (row : List (Option ℕ)) (i : ℕ) (inside : i < length row) (before after : List Bool) (pending longer : List ℕ)
    (h : IsRowMarked (present row) (present (take i row)) before after pending longer) (after' : List Bool) (longer' : List ℕ) where
  pub marks_one : (y : ℕ) → slice_index_or row i None ≡ Some y → y < length after → slice_index_or after y false ≡ false → after' ≡ set after y true → longer' ≡ longer ++ y ∷ [] →
      IsRowMarked (present row) (present (take (i + 1) row)) before after' pending longer'
  marks_one y e below new ea el = record {
    size = ap length ea ∙ length-set after y true ∙ h.size;
    not_longer = omega (arith, ap length el, length_push longer y, h.not_longer);
    turn = λ neighbours first x k same l t. entry_marks neighbours first x row same i inside after (drop k longer) (h.turn neighbours first x k same l t) after' (drop k longer') y e below new ea (dropped k l);
    members = λ old m. subst₂ (AreMembers old) (sym ea) (sym el) (members_grow old after longer y (h.members old m) below new);
    work = λ k l. ap₂ work_left ea (dropped k l) ∙ has_few_turns.mark after (drop k longer) y below new ∙ h.work k l;
  }
    where
      dropped : (k : ℕ) → k ≤ length pending → drop k longer' ≡ drop k longer ++ y ∷ []
      dropped k l = ap (drop k) el ∙ drop-append-le k longer (y ∷ []) (omega (arith, h.not_longer))

  module _ (ea : after' ≡ after) (el : longer' ≡ longer) where
    pub passes_one : (y : ℕ) → slice_index_or row i None ≡ Some y → IsMarked after y → IsRowMarked (present row) (present (take (i + 1) row)) before after' pending longer'
    passes_one y e m = record {
      size = ap length ea ∙ h.size;
      not_longer = omega (arith, ap length el, h.not_longer);
      turn = λ neighbours first x k same l t. entry_passes neighbours first x row same i inside after (drop k longer) (h.turn neighbours first x k same l t) after' (drop k longer') y e m ea (ap (drop k) el);
      members = λ old m. subst₂ (AreMembers old) (sym ea) (sym el) (h.members old m);
      work = λ k l. ap₂ work_left ea (ap (drop k) el) ∙ h.work k l;
    }

    pub skips_one : slice_index_or row i None ≡ None → IsRowMarked (present row) (present (take (i + 1) row)) before after' pending longer'
    skips_one e = record {
      size = ap length ea ∙ h.size;
      not_longer = omega (arith, ap length el, h.not_longer);
      turn = λ neighbours first x k same l t. entry_skips neighbours first x row same i inside after (drop k longer) (h.turn neighbours first x k same l t) after' (drop k longer') e ea (ap (drop k) el);
      members = λ old m. subst₂ (AreMembers old) (sym ea) (sym el) (h.members old m);
      work = λ k l. ap₂ work_left ea (ap (drop k) el) ∙ h.work k l;
    }

-- the row of x in a table, whatever the default for a missing row is
module _ (table : List (List (Option ℕ))) (x : ℕ) (row : List (Option ℕ)) (inside : x < length table) (is : row ≡ slice_index_or table x row) where
  same : neighbours_of table x ≡ present row
  same = ap present (sym (is ∙ sym (get_or_default table x [] row inside)))

  pub row_below : (marked : List Bool) → HasNeighboursBelow (length table) (neighbours_of table) → length marked ≡ length table → (y : ℕ) → Contains (present row) y → y < length marked
  row_below marked below size y c = let l : y < length table = below x y inside (subst (λ ys. Contains ys y) (sym same) c) in omega arith

  -- after its neighbours are marked, the step of x is finished
  pub turn_over : (first before after : List Bool) (pending longer : List ℕ) (k : ℕ) → IsRowMarked (present row) (present row) before after pending longer → k ≤ length pending →
      IsSearchStep (neighbours_of table) first x [] before (drop k pending) → IsSearch (neighbours_of table) first after (drop k longer)
  turn_over first before after pending longer k h l t =
      turn_ends (neighbours_of table) first x (present row) after (drop k longer) (h.turn (neighbours_of table) first x k same l t) same
