-- Relabellings that are made one tetrahedron after another.
use Rattle.std.proofs.Common.{◌≡◌, ℕ, suc, ◌+◌, ◌<◌, List, ◌∷◌, [], ◌++◌, length, map, sym, ap, ◌∙◌, subst, arith}
use Rattle.std.proofs.lemmas.List.{ext_get_or}
use Rattle.std.proofs.lemmas.List.FromFn.{get_or-map-range_with_len, length-map-range_with_len, map-range_with_len_more}
use Rattle.table_definitions.specs.Lists.{below}
use Rattle.table_definitions.specs.Permutation.{identity}
use Rattle.table_definitions.specs.Table.{Gluing}
use Rattle.table_definitions.specs.Relabelling.{Relabelling, IsRelabelling, relabelled_place}
use Rattle.certificate_definitions.specs.CarriedBack.{staying}
use Rattle.table_definitions.proofs.Bijections.{below-push}
use Rattle.table_definitions.proofs.Carried.{length-images}

-- the lists of the images and of their permutations are those of the relabelling
pub made_of : (n : ℕ) (f : ℕ → Gluing) (by : Relabelling) → IsRelabelling n by → ((t : ℕ) → t < n → relabelled_place by t ≡ f t) → record { images = map (λ t. (f t).tet) (below n); perms = map (λ t. (f t).perm) (below n) } ≡ by
made_of n f by h same =
    let long = length-images n by h in
    let wide = h.perms in
    let images : map (λ t. (f t).tet) (below n) ≡ by.images = ext_get_or 0 (map (λ t. (f t).tet) (below n)) by.images (length-map-range_with_len (λ t. (f t).tet) 0 n ∙ sym long)
    (λ t l. (let l' : t < n = omega (arith, length-map-range_with_len (λ t. (f t).tet) 0 n) in get_or-map-range_with_len (λ t. (f t).tet) 0 n t t 0 l' (omega arith) ∙ ap (λ (g : Gluing). g.tet) (sym (same t l')))) in
    let perms : map (λ t. (f t).perm) (below n) ≡ by.perms = ext_get_or [] (map (λ t. (f t).perm) (below n)) by.perms (length-map-range_with_len (λ t. (f t).perm) 0 n ∙ sym wide)
    (λ t l. (let l' : t < n = omega (arith, length-map-range_with_len (λ t. (f t).perm) 0 n) in get_or-map-range_with_len (λ t. (f t).perm) 0 n t t [] l' (omega arith) ∙ ap (λ (g : Gluing). g.perm) (sym (same t l')))) in
    λ i. record { images = images i; perms = perms i }

-- the list with one more tetrahedron
pub one_more : {X : Type 0} (f : ℕ → X) (so more : List X) (t : ℕ) (x : X) → so ≡ map f (below t) → more ≡ so ++ x ∷ [] → x ≡ f t → more ≡ map f (below (t + 1))
one_more f so more t x s m e =
    m ∙ ap (λ xs. xs ++ x ∷ []) s ∙ ap (λ y. map f (below t) ++ y ∷ []) e ∙ sym (map-range_with_len_more f 0 t t (omega arith))

-- lists of images and permutations that are those of a relabelling make up this relabelling
pub are_of : (n : ℕ) (f : ℕ → Gluing) (by : Relabelling) (images : List ℕ) (perms : List (List ℕ)) → IsRelabelling n by → ((t : ℕ) → t < n → relabelled_place by t ≡ f t)
    → images ≡ map (λ t. (f t).tet) (below n) → perms ≡ map (λ t. (f t).perm) (below n) → record { images = images; perms = perms } ≡ by
are_of n f by images perms h same i p = (λ k. record { images = i k; perms = p k }) ∙ made_of n f by h same

pub is_one : (n : ℕ) (by : Relabelling) (images : List ℕ) (perms : List (List ℕ)) → IsRelabelling n by → record { images = images; perms = perms } ≡ by → IsRelabelling (length images) (record { images = images; perms = perms })
is_one n by images perms h e =
    let long : length images ≡ n = ap (λ (r : Relabelling). length r.images) e ∙ length-images n by h in
    subst (λ k. IsRelabelling k (record { images = images; perms = perms })) (sym long) (subst (IsRelabelling n) (sym e) h)

-- the identity relabelling

pub stays_more : (so more : List ℕ) (t : ℕ) → so ≡ below t → more ≡ so ++ t ∷ [] → more ≡ below (t + 1)
stays_more so more t s m =
    let next : suc t ≡ t + 1 = omega arith in
    m ∙ ap (λ xs. xs ++ t ∷ []) s ∙ below-push t ∙ ap below next

pub all_stay : (n t : ℕ) (images : List ℕ) (perms : List (List ℕ)) → t ≡ n → images ≡ below t → perms ≡ map (λ t. identity) (below t) → record { images = images; perms = perms } ≡ staying n
all_stay n t images perms e i p = (λ k. record { images = i k; perms = p k }) ∙ ap staying e
