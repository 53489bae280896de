-- The columns that clash with one of a support, from those that clash with each column.
use Rattle.std.proofs.Common.{◌≡◌, ◌≢◌, ℕ, ◌+◌, ◌<◌, ◌||◌, ◌⊎◌, ◌↔◌, ◌∷◌, ◌++◌, inl, inr, ⊎_elim, Bool, true, false, IsTrue, List, [], Contains, length, replicate, get_or, set, length-set, get_or-set_same, get_or-set_other, length-append, ap, subst, subst₂, sym, ◌∙◌, arith}
use Rattle.std.proofs.lemmas.Bool.{cases_lt, cases_eq, false≢true}
use Rattle.std.proofs.lemmas.List.{get_or_past, get_or_push, get_or_append_left, get_or-replicate, length-replicate}
use Rattle.std.proofs.lemmas.List.Elements.{Contains-push, Contains-push_cases, Contains-append_left}
use Rattle.cone_definitions.specs.Surfaces.{Clash}
use Rattle.support_bits.specs.Columns.{HasColumn, IsUnion}
use Rattle.ray_steps.proofs.UnitedLemmas.{left_true, right_true}
use Rattle.support_table.specs.Joins.{AreClashingColumns}
use Rattle.ray_steps.specs.Partners.{IsInserted, IsClashSetOf, AreClashSets, IsJoinedBelow}

no_column : (n column : ℕ) → ¬ HasColumn (replicate n false) column
no_column n column h = ⊎_elim
    (λ less. false≢true (sym (get_or-replicate n column false false less) ∙ h))
    (λ exceeded. false≢true (sym (get_or_past (replicate n false) column false (omega (arith, length-replicate n false))) ∙ h))
    (cases_lt column n)

-- without pairs a column clashes with none
pub partner_none : (columns column : ℕ) → IsClashSetOf columns [] column (replicate columns false)
partner_none columns column = record {
  count = length-replicate columns false;
  each = λ other. (
    λ has. absurd (no_column columns other has),
    λ is. absurd (⊎_elim (λ h. let less = h.1 in omega arith) (λ h. let less = h.1 in omega arith) is),
  );
}

-- a column that is not in the support
pub joined_skip : (n : ℕ) (partners : List (List Bool)) (support joined : List Bool) → IsJoinedBelow n partners support joined → ¬ HasColumn support n → IsJoinedBelow (n + 1) partners support joined
joined_skip n partners support joined h none = record {
  count = h.count;
  each = λ other. (
    λ has. let is = (h.each other).0 has in (is.0, (let e = is.1 in omega arith), is.2, is.3),
    λ is. (h.each other).1 (is.0, ⊎_elim (λ less. less) (λ more. absurd (let e = is.1 in none (subst (HasColumn support) {x = is.0} {y = n} (omega arith) is.2))) (cases_lt is.0 n), is.2, is.3),
  );
}

either_true : (a b : Bool) → IsTrue (a || b) → (a ≡ true) ⊎ (b ≡ true)
either_true true b h = inl h
either_true false b h = inr h

-- a column of the support
pub joined_more : (n : ℕ) (partners : List (List Bool)) (support joined after : List Bool) → IsJoinedBelow n partners support joined → HasColumn support n →
    IsUnion joined (get_or partners n []) after → IsJoinedBelow (n + 1) partners support after
joined_more n partners support joined after h has_n union = record {
  count = union.count ∙ h.count;
  each = λ other. (
    λ has. ⊎_elim
        (λ old. let is = (h.each other).0 old in (is.0, (let e = is.1 in omega arith), is.2, is.3))
        (λ new. (n, omega arith, has_n, new))
        (either_true (get_or joined other false) (get_or (get_or partners n []) other false) (sym (union.each other) ∙ has)),
    λ is. union.each other ∙ ⊎_elim
        (λ less. left_true (get_or joined other false) (get_or (get_or partners n []) other false) ((h.each other).1 (is.0, less, is.2, is.3)))
        (λ more. right_true (get_or joined other false) (get_or (get_or partners n []) other false) (let e = is.1 in subst (λ k. HasColumn (get_or partners k []) other) {x = is.0} {y = n} (omega arith) is.3))
        (cases_lt is.0 n),
  );
}

-- all columns of the support
pub joined_all : (columns : ℕ) (pairs : List Clash) (partners : List (List Bool)) (support joined : List Bool) → AreClashSets columns pairs partners → length support ≡ columns →
    IsJoinedBelow (length support) partners support joined → AreClashingColumns pairs support joined
joined_all columns pairs partners support joined p wide h = record {
  count = h.count;
  each = λ other. (
    λ has. let is = (h.each other).0 has in (is.0, is.2, ((p.each is.0 (let e = is.1 in omega (arith, p.count))).each other).0 is.3),
    λ is. let less = within is.0 is.1 in (h.each other).1 (is.0, less, is.1, ((p.each is.0 (omega (arith, p.count))).each other).1 is.2),
  );
}
  where
    within : (column : ℕ) → HasColumn support column → column < length support
    within column has = ⊎_elim (λ less. less) (λ exceeded. absurd (false≢true (sym (get_or_past support column false exceeded) ∙ has))) (cases_lt column (length support))

-- ---- insertion into the sets of clashing columns

inserted_column : (support : List Bool) (other column : ℕ) → other < length support → HasColumn (set support other true) column ↔ (HasColumn support column ⊎ (column ≡ other))
inserted_column support other column within = ⊎_elim
    (λ same. (λ has. inr same, λ is. subst (HasColumn (set support other true)) (sym same) (get_or-set_same support other true false within)))
    (λ differ. (
      λ has. inl (sym (get_or-set_other support other column true false differ) ∙ has),
      λ is. ⊎_elim (λ old. get_or-set_other support other column true false differ ∙ old) (λ same. absurd (differ same)) is,
    ))
    (cases_eq column other)

module _ (one other : ℕ) (old : List (List Bool)) (within : one < length old) (wide : other < length (get_or old one [])) where
  abbrev more : List (List Bool)
  more = set old one (set (get_or old one []) other true)

  at_one : (k : ℕ) → k ≡ one → get_or more k [] ≡ set (get_or old one []) other true
  at_one k same = ap (λ i. get_or more i []) same ∙ get_or-set_same old one (set (get_or old one []) other true) [] within

  elsewhere : (k : ℕ) → k ≢ one → get_or more k [] ≡ get_or old k []
  elsewhere k differ = get_or-set_other old one k (set (get_or old one []) other true) [] differ

  each_noted : (k column : ℕ) → HasColumn (get_or more k []) column ↔ (HasColumn (get_or old k []) column ⊎ ((k ≡ one) × (column ≡ other)))
  each_noted k column = ⊎_elim
      (λ same. let is = inserted_column (get_or old one []) other column wide in let here : get_or old k [] ≡ get_or old one [] = ap (λ i. get_or old i []) same in (
        λ has. ⊎_elim (λ h. inl (subst (λ s. HasColumn s column) (sym here) h)) (λ h. inr (same, h)) (is.0 (subst (λ s. HasColumn s column) (at_one k same) has)),
        λ h. subst (λ s. HasColumn s column) (sym (at_one k same)) (is.1 (⊎_elim (λ o. inl (subst (λ s. HasColumn s column) here o)) (λ n. inr n.1) h)),
      ))
      (λ differ. (
        λ has. inl (subst (λ s. HasColumn s column) (elsewhere k differ) has),
        λ h. subst (λ s. HasColumn s column) (sym (elsewhere k differ)) (⊎_elim (λ o. o) (λ n. absurd (differ n.0)) h),
      ))
      (cases_eq k one)

  pub noted : IsInserted one other old more
  noted = record {
    count = length-set old one (set (get_or old one []) other true);
    widths = λ k. ⊎_elim
        (λ same. ap length (at_one k same) ∙ length-set (get_or old one []) other true ∙ ap (λ i. length (get_or old i [])) (sym same))
        (λ differ. ap length (elsewhere k differ))
        (cases_eq k one);
    each = each_noted;
  }

-- the sets by some pairs and one more pair
pub partners_more : (columns : ℕ) (pairs : List Clash) (pair : Clash) (old mid new : List (List Bool)) → AreClashSets columns pairs old →
    IsInserted pair.0 pair.1 old mid → IsInserted pair.1 pair.0 mid new → AreClashSets columns (pairs ++ pair ∷ []) new
partners_more columns pairs pair old mid new h first second = record {
  count = second.count ∙ first.count ∙ h.count;
  each = λ k less. let at = before k less in record {
    count = second.widths k ∙ first.widths k ∙ at.count;
    each = λ other. (
      λ has. ⊎_elim (λ m. ⊎_elim (λ o. longer k other ((at.each other).0 o)) (λ e. inr (rw (e.0, e.1) (Contains-push pairs pair))) ((first.each k other).0 m))
          (λ e. inl (rw (e.0, e.1) (Contains-push pairs pair)))
          ((second.each k other).0 has),
      λ is. ⊎_elim (forth k other at) (back k other at) is,
    );
  };
}
  where
    before : (k : ℕ) → k < length new → IsClashSetOf columns pairs k (get_or old k [])
    before k less = h.each k (let n = second.count in let m = first.count in omega (arith, less, n, m))

    longer : (k other : ℕ) → Contains pairs (other, k) ⊎ Contains pairs (k, other) → Contains (pairs ++ pair ∷ []) (other, k) ⊎ Contains (pairs ++ pair ∷ []) (k, other)
    longer k other is = ⊎_elim (λ c. inl (Contains-append_left pairs (pair ∷ []) (other, k) c)) (λ c. inr (Contains-append_left pairs (pair ∷ []) (k, other) c)) is

    kept : (k other : ℕ) → IsClashSetOf columns pairs k (get_or old k []) → Contains pairs (other, k) ⊎ Contains pairs (k, other) → HasColumn (get_or new k []) other
    kept k other at is = (second.each k other).1 (inl ((first.each k other).1 (inl ((at.each other).1 is))))

    forth : (k other : ℕ) → IsClashSetOf columns pairs k (get_or old k []) → Contains (pairs ++ pair ∷ []) (other, k) → HasColumn (get_or new k []) other
    forth k other at c = ⊎_elim (λ o. kept k other at (inl o))
        (λ (e : pair ≡ (other, k)). (second.each k other).1 (inr (sym (ap (λ p. p.1) e), sym (ap (λ p. p.0) e))))
        (Contains-push_cases pairs pair (other, k) c)

    back : (k other : ℕ) → IsClashSetOf columns pairs k (get_or old k []) → Contains (pairs ++ pair ∷ []) (k, other) → HasColumn (get_or new k []) other
    back k other at c = ⊎_elim (λ o. kept k other at (inr o))
        (λ (e : pair ≡ (k, other)). (second.each k other).1 (inl ((first.each k other).1 (inr (sym (ap (λ p. p.0) e), sym (ap (λ p. p.1) e))))))
        (Contains-push_cases pairs pair (k, other) c)

-- the set of one more column
pub partners_push : (columns : ℕ) (pairs : List Clash) (partners : List (List Bool)) (partner : List Bool) (column : ℕ) → length partners ≡ column →
    ((k : ℕ) → k < length partners → IsClashSetOf columns pairs k (get_or partners k [])) → IsClashSetOf columns pairs column partner →
    (k : ℕ) → k < length (partners ++ partner ∷ []) → IsClashSetOf columns pairs k (get_or (partners ++ partner ∷ []) k [])
partners_push columns pairs partners partner column count each last k within = ⊎_elim
    (λ old. subst (IsClashSetOf columns pairs k) (sym (get_or_append_left partners (partner ∷ []) [] k old)) (each k old))
    (λ new. let n = length-append partners (partner ∷ []) in let e : column ≡ k = omega (arith, n, count, within, new) in
    subst₂ (λ i p. IsClashSetOf columns pairs i p) e (sym (get_or_push partners partner [] k (count ∙ e))) last)
    (cases_lt k (length partners))
