-- Entries can be put in order.
use Rattle.std.proofs.Common.{◌≡◌, zero, suc, ◌+◌, Bool, true, false, List, [], ◌∷◌, All, IsPermutation, IsSorted, slice_index_or, subst, subst, refl, arith, is_lt}
use Rattle.std.specs.Cmp.{IsStrictWeakOrder}
use Rattle.std.proofs.lemmas.Cmp.{nat_list_cmp_total, nat_cmp_total, then_total, on_total}
use Rattle.std.proofs.lemmas.List.Elements.{All-nil, All-cons, All-head}
use Rattle.std.proofs.lemmas.List.Sorted.{IsPermutation-refl, IsPermutation-trans, IsPermutation-cons, IsPermutation-swap, All-permutation, ranks_by}
use Rattle.component_laws.specs.Ordered.{Entry, compared}

abbrev before : Entry → Entry → Bool
before e f = is_lt (compared e f)

order : IsStrictWeakOrder before
order = ranks_by (then_total (on_total (λ (e : Entry). e.text) nat_list_cmp_total) (on_total (λ (e : Entry). e.number) nat_cmp_total)) (λ (e : Entry). e)

-- each entry is at least those before it
Ascend : List Entry → Type 0
Ascend [] = Unit {0}
Ascend (e ∷ es) = All (λ f. before f e ≡ false) es × Ascend es

record Inserted (e : Entry) (es : List Entry) : Type 0 where
  list : List Entry
  same : IsPermutation (e ∷ es) list
  ascend : Ascend list

exchange : (e f : Entry) (es : List Entry) → IsPermutation (e ∷ f ∷ es) (f ∷ e ∷ es)
exchange e f es = IsPermutation-swap (e ∷ f ∷ es) (f ∷ e ∷ es) 0 1 (omega arith) (omega arith) refl

insert : (e : Entry) (es : List Entry) → Ascend es → Inserted e es
unfolding Ascend
insert e [] a = record { list = e ∷ []; same = IsPermutation-refl (e ∷ []); ascend = (All-nil (λ f. before f e ≡ false), tt) }
insert e (f ∷ es) a = go (before f e) refl (insert e es a.1)
  where
    go : (b : Bool) → before f e ≡ b → Inserted e es → Inserted e (f ∷ es)
    go false h rest = record {
      list = e ∷ f ∷ es;
      same = IsPermutation-refl (e ∷ f ∷ es);
      ascend = (All-cons (λ g. before g e ≡ false) f es h (λ i d l. order.chain (slice_index_or es i d) f e (a.0 i d l) h), a);
    }
    go true h rest = record {
      list = f ∷ rest.list;
      same = IsPermutation-trans (e ∷ f ∷ es) (f ∷ e ∷ es) (f ∷ rest.list) (exchange e f es) (IsPermutation-cons f (e ∷ es) rest.list rest.same);
      ascend = (All-permutation (λ g. before g f ≡ false) (e ∷ es) rest.list rest.same (All-cons (λ g. before g f ≡ false) e es (order.one_way f e h) a.0), rest.ascend);
    }

record Put (es : List Entry) : Type 0 where
  list : List Entry
  same : IsPermutation es list
  ascend : Ascend list

put : (es : List Entry) → Put es
unfolding Ascend
put [] = record { list = []; same = IsPermutation-refl []; ascend = tt }
put (e ∷ es) = let p = put es in let i = insert e p.list p.ascend in
    record { list = i.list; same = IsPermutation-trans (e ∷ es) (e ∷ p.list) i.list (IsPermutation-cons e es p.list p.same) i.same; ascend = i.ascend }

sorted : (es : List Entry) → Ascend es → IsSorted compared es
unfolding Ascend
sorted [] a k d low h = absurd (omega arith)
sorted (e ∷ []) a k d low h = absurd (omega arith)
sorted (e ∷ f ∷ es) a zero d low h = All-head (λ g. before g e ≡ false) f es a.0
sorted (e ∷ f ∷ es) a (suc k) d low h = let next : suc (k + 1) ≡ suc k + 1 = omega arith in
    subst (λ j. is_lt (compared (slice_index_or (e ∷ f ∷ es) j d) (slice_index_or (e ∷ f ∷ es) (suc k) d)) ≡ false) next (sorted (f ∷ es) a.1 k d (omega arith) (omega arith))

-- each list of entries has an order
pub sort : (es : List Entry) → (list : List Entry) × IsPermutation es list × IsSorted compared list
sort es = let p = put es in (p.list, p.same, sorted p.list p.ascend)
