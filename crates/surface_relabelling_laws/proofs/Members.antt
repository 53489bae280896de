-- Lists with the same members, each once: one is a permutation of the other, and sums over them agree.
use Rattle.std.proofs.Common.{◌≡◌, ℕ, List, [], ◌∷◌, map, inl, inr, refl, sym, ◌∙◌, subst}
use Rattle.std.specs.Prelude.{sum_by}
use Rattle.std.specs.List.Sorted.{IsPermutation}
use Rattle.std.proofs.lemmas.List.Sorted.{IsPermutation-refl, IsPermutation-sym, IsPermutation-trans, IsPermutation-cons, IsPermutation-middle, sum_by-IsPermutation}
use Rattle.surface_laws.proofs.Counting.{sum_by_same, sum_by-map}
use Rattle.table_definitions.proofs.TableLaws.{Among, Among-map}
use Rattle.table_definitions.proofs.Listed.{map-among}
use Rattle.table_definitions.proofs.DistinctLists.{AreApart, map_apart}

-- the list without one item
record IsOut {A : Type 0} (x : A) (ys less : List A) : Type 0 where
  same : IsPermutation ys (x ∷ less)
  separate : AreApart less
  off : Among x less → ⊥
  within : (y : A) → Among y less → Among y ys
  others : (y : A) → Among y ys → (y ≡ x → ⊥) → Among y less

out : {A : Type 0} (x : A) (ys : List A) → AreApart ys → Among x ys → (less : List A) × IsOut x ys less
out x [] a h = absurd h
out {A} x (y ∷ ys) a (inl e) = (
  ys,
  record {
    same = subst (λ (z : A). IsPermutation (y ∷ ys) (z ∷ ys)) (sym e) (IsPermutation-refl (y ∷ ys));
    separate = a.1;
    off = λ h. a.0 (subst (λ (z : A). Among z ys) e h);
    within = λ z h. inr h;
    others = λ z h ne. elim h [ inl s ↦ absurd (ne (s ∙ sym e)) | inr g ↦ g ];
  },
)
out {A} x (y ∷ ys) a (inr h) =
    let r = out x ys a.1 h in
    let o : IsOut x ys r.0 = r.1 in (
      y ∷ r.0,
      record {
        same = IsPermutation-trans (y ∷ ys) (y ∷ x ∷ r.0) (x ∷ y ∷ r.0) (IsPermutation-cons y ys (x ∷ r.0) o.same) (IsPermutation-middle (y ∷ []) x r.0);
        separate = ((λ g. a.0 (o.within y g)), o.separate);
        off = λ g. elim g [ inl s ↦ a.0 (subst (λ (z : A). Among z ys) s h) | inr m ↦ o.off m ];
        within = λ z g. elim g [ inl s ↦ inl s | inr m ↦ inr (o.within z m) ];
        others = λ z g ne. elim g [ inl s ↦ inl s | inr m ↦ inr (o.others z m ne) ];
      },
    )

pub same_members : {A : Type 0} (xs ys : List A) → AreApart xs → AreApart ys → ((x : A) → Among x xs → Among x ys) → ((y : A) → Among y ys → Among y xs) → IsPermutation xs ys
same_members [] [] a b into back = IsPermutation-refl []
same_members [] (y ∷ ys) a b into back = absurd (back y (inl refl))
same_members {A} (x ∷ xs) ys a b into back =
    let r = out x ys b (into x (inl refl)) in
    let o : IsOut x ys r.0 = r.1 in
    let rest : IsPermutation xs r.0 = same_members xs r.0 a.1 o.separate
    (λ z h. o.others z (into z (inr h)) (λ e. a.0 (subst (λ (u : A). Among u xs) e h)))
    (λ z h. elim (back z (o.within z h)) [ inl e ↦ absurd (o.off (subst (λ (u : A). Among u r.0) e h)) | inr g ↦ g ]) in
    IsPermutation-trans (x ∷ xs) (x ∷ r.0) ys (IsPermutation-cons x xs r.0 rest) (IsPermutation-sym ys (x ∷ r.0) o.same)

-- the images of the members of a list are the members of another
pub record AreImages {A B : Type 0} (to : A → B) (xs : List A) (ys : List B) : Type 0 where
  pub separate : AreApart xs
  pub others_apart : AreApart ys
  pub into : (x : A) → Among x xs → Among (to x) ys
  pub once : (x z : A) → Among x xs → Among z xs → to x ≡ to z → x ≡ z
  pub from : (y : B) → Among y ys → (x : A) × Among x xs × (to x ≡ y)

pub images_permute : {A B : Type 0} (to : A → B) (xs : List A) (ys : List B) → AreImages to xs ys → IsPermutation (map to xs) ys
images_permute {A} {B} to xs ys h =
    same_members (map to xs) ys (map_apart to xs h.separate h.once) h.others_apart
    (λ y a. let m = map-among to y xs a in subst (λ (z : B). Among z ys) (sym m.2) (h.into m.0 m.1))
    (λ y a. let f = h.from y a in subst (λ (z : B). Among z (map to xs)) f.2 (Among-map to f.0 xs f.1))

pub images_sum : {A B : Type 0} (to : A → B) (xs : List A) (ys : List B) (f : A → ℕ) (g : B → ℕ) → AreImages to xs ys → ((x : A) → Among x xs → g (to x) ≡ f x) → sum_by g ys ≡ sum_by f xs
images_sum to xs ys f g h same =
    sum_by-IsPermutation g (map to xs) ys (images_permute to xs ys h) ∙ sum_by-map g to xs ∙ sum_by_same (λ x. g (to x)) f xs same
