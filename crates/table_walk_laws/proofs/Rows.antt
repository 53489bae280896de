-- A row of a table of neighbours, entry by entry.
use Rattle.std.proofs.Common.{◌≡◌, ℕ, zero, suc, ◌+◌, ◌<◌, ◌≤◌, List, [], Bool, true, false, set, subst₂, ◌∷◌, ◌++◌, length, take, Contains, Option, Some, None, sym, ap, subst, ◌∙◌, arith}
use Rattle.std.specs.List.{slice_index_or}
use Rattle.std.proofs.lemmas.List.{take_more, append-nil, take_all}
use Rattle.std.proofs.lemmas.List.Elements.{filter_map-append}
use Rattle.basic_lemmas.proofs.Members.{contains_at}
use Rattle.table_walk_laws.specs.Joined.{present}
use Rattle.table_walk_laws.specs.Search.{IsMarked, IsSearchStep}
use Rattle.table_walk_laws.proofs.SearchLemmas.{turn_marks, turn_passes}
use Rattle.table_walk_laws.proofs.Places.{place_of}

-- one more entry
present_more : (row : List (Option ℕ)) (i : ℕ) (o : Option ℕ) → i < length row → slice_index_or row i None ≡ o → present (take (i + 1) row) ≡ present (take i row) ++ present (o ∷ [])
present_more row i o l e = ap present (take_more row i None l) ∙ filter_map-append (λ o. o) (take i row) (slice_index_or row i None ∷ [])
    ∙ ap (λ (o : Option ℕ). present (take i row) ++ present (o ∷ [])) e

pub present_some : (row : List (Option ℕ)) (i y : ℕ) → i < length row → slice_index_or row i None ≡ Some y → present (take (i + 1) row) ≡ present (take i row) ++ y ∷ []
present_some row i y = present_more row i (Some y)

pub present_none : (row : List (Option ℕ)) (i : ℕ) → i < length row → slice_index_or row i None ≡ None → present (take (i + 1) row) ≡ present (take i row)
present_none row i l e = present_more row i None l e ∙ append-nil (present (take i row))

pub present_all : (row : List (Option ℕ)) (i : ℕ) → length row ≤ i → present row ≡ present (take i row)
present_all row i l = ap present (sym (take_all i row l))

pub present_contains : (row : List (Option ℕ)) (i y : ℕ) → slice_index_or row i None ≡ Some y → Contains (present row) y
present_contains [] i y e = absurd (let z : None ≡ Some y = e in cc)
present_contains (None ∷ row) zero y e = absurd (let z : None ≡ Some y = e in cc)
present_contains (None ∷ row) (suc i) y e = present_contains row i y e
present_contains (Some x ∷ row) zero y e = contains_at (x ∷ present row) 0 y (omega arith) (let z : Some x ≡ Some y = e in cc)
present_contains (Some x ∷ row) (suc i) y e = let p = place_of (present row) y (present_contains row i y e) in
    let l : p.0 < length (present row) = p.1 in contains_at (x ∷ present row) (suc p.0) y (omega arith) p.2

-- the entry at i, in a step at x, of which this is the row
module _ (neighbours : ℕ → List ℕ) (first : List Bool) (x : ℕ) (row : List (Option ℕ)) (same : neighbours x ≡ present row) (i : ℕ) (l : i < length row)
    (marked : List Bool) (pending : List ℕ) (t : IsSearchStep neighbours first x (present (take i row)) marked pending) (marked' : List Bool) (pending' : List ℕ) where
  one_more : (done : List ℕ) → present (take (i + 1) row) ≡ done → IsSearchStep neighbours first x done marked' pending' → IsSearchStep neighbours first x (present (take (i + 1) row)) marked' pending'
  one_more done e u = subst (λ d. IsSearchStep neighbours first x d marked' pending') (sym e) u

  pub entry_marks : (y : ℕ) → slice_index_or row i None ≡ Some y → y < length marked → slice_index_or marked y false ≡ false → marked' ≡ set marked y true → pending' ≡ pending ++ y ∷ [] →
      IsSearchStep neighbours first x (present (take (i + 1) row)) marked' pending'
  entry_marks y e below new em ep = one_more (present (take i row) ++ y ∷ []) (present_some row i y l e)
      (subst₂ (IsSearchStep neighbours first x (present (take i row) ++ y ∷ [])) (sym em) (sym ep)
      (turn_marks neighbours first x (present (take i row)) marked pending y t (subst (λ xs. Contains xs y) (sym same) (present_contains row i y e)) below new))

  pub entry_passes : (y : ℕ) → slice_index_or row i None ≡ Some y → IsMarked marked y → marked' ≡ marked → pending' ≡ pending →
      IsSearchStep neighbours first x (present (take (i + 1) row)) marked' pending'
  entry_passes y e m em ep = one_more (present (take i row) ++ y ∷ []) (present_some row i y l e)
      (subst₂ (IsSearchStep neighbours first x (present (take i row) ++ y ∷ [])) (sym em) (sym ep) (turn_passes neighbours first x (present (take i row)) marked pending y t m))

  pub entry_skips : slice_index_or row i None ≡ None → marked' ≡ marked → pending' ≡ pending → IsSearchStep neighbours first x (present (take (i + 1) row)) marked' pending'
  entry_skips e em ep = one_more (present (take i row)) (present_none row i l e)
      (subst₂ (IsSearchStep neighbours first x (present (take i row))) (sym em) (sym ep) t)
