-- The images of the quads of a tetrahedron, and which vertices they keep on one side.
use Rattle.std.proofs.Common.{◌≡◌, ℕ, zero, suc, ◌+◌, ◌*◌, ◌<◌, Bool, true, false, List, [], inl, inr, refl, sym, ap, ◌∙◌, arith}
use Rattle.std.specs.Prelude.{◌==◌, ◌&&◌, nat_lt, slice_index}
use Rattle.std.specs.List.{list_all, list_any, slice_index_or, position_or_len}
use Rattle.std.proofs.lemmas.Bool.{and_parts, ltb-true, eqb-true, cases_eq, agree_below, agree_below_at}
use Rattle.cone_definitions.specs.Surfaces.{IsAdmissible}
use Rattle.table_definitions.specs.Permutation.{IsPermutationOfFour, words, image, inverse, preimage}
use Rattle.table_definitions.specs.Relabelling.{Relabelling, IsRelabelling}
use Rattle.table_definitions.proofs.Carried.{perm_permutes}
use Rattle.table_definitions.proofs.Permutations.{by_words}
use Rattle.surface_definitions.specs.Coordinates.{clash_list, partner, quad_column, three}
use Rattle.surface_definitions.specs.Crushing.{has_quad, is_removed, partner_in}
use Rattle.surface_definitions.specs.declared.Coords.TheVariants.{Standard}
use Rattle.surface_laws.proofs.Clashes.{other_zero}
use Rattle.surface_relabelling_laws.specs.Vectors.{type_under, place_under}
use Rattle.surface_relabelling_laws.proofs.Columns.{IsCarried}

-- the image of a quad type
pub record IsTyped (p : List ℕ) (k : ℕ) : Type 0 where
  pub below : type_under p k < 3
  pub place : place_under Standard p (4 + k) ≡ 4 + type_under p k
  pub there : type_under p (type_under (inverse p) k) ≡ k
  pub low : type_under (inverse p) k < 3

is_typed : List ℕ → ℕ → Bool
is_typed p k =
    nat_lt (type_under p k) 3
    && ((place_under Standard p (4 + k) == (4 + type_under p k))
    && ((type_under p (type_under (inverse p) k) == k)
    && nat_lt (type_under (inverse p) k) 3))

all_typed : list_all (λ p. agree_below (is_typed p) (λ k. true) 3) words ≡ true
unfolding is_typed place_under inverse preimage
all_typed = refl

pub typed_is : (p : List ℕ) (k : ℕ) → IsPermutationOfFour p → k < 3 → IsTyped p k
unfolding is_typed
typed_is p k h l =
    let t : is_typed p k ≡ true = agree_below_at (is_typed p) (λ k. true) 3 k (by_words (λ p. agree_below (is_typed p) (λ k. true) 3) all_typed p h) l in
    let a = and_parts (nat_lt (type_under p k) 3) ((place_under Standard p (4 + k) == (4 + type_under p k)) && ((type_under p (type_under (inverse p) k) == k) && nat_lt (type_under (inverse p) k) 3)) t in
    let b = and_parts (place_under Standard p (4 + k) == (4 + type_under p k)) ((type_under p (type_under (inverse p) k) == k) && nat_lt (type_under (inverse p) k) 3) a.1 in
    let c = and_parts (type_under p (type_under (inverse p) k) == k) (nat_lt (type_under (inverse p) k) 3) b.1 in
    record {
      below = ltb-true (type_under p k) 3 a.0;
      place = eqb-true (place_under Standard p (4 + k)) (4 + type_under p k) b.0;
      there = eqb-true (type_under p (type_under (inverse p) k)) k c.0;
      low = ltb-true (type_under (inverse p) k) 3 c.1;
    }

-- the vertex that the image of a quad type keeps with the image of a vertex
sided : List ℕ → ℕ → ℕ → Bool
sided p k v = partner (type_under p k) (image p v) == image p (partner k v)

all_sided : list_all (λ p. agree_below (λ k. agree_below (sided p k) (λ v. true) 4) (λ k. true) 3) words ≡ true
unfolding sided
all_sided = refl

pub partner_under : (p : List ℕ) (k v : ℕ) → IsPermutationOfFour p → k < 3 → v < 4 → partner (type_under p k) (image p v) ≡ image p (partner k v)
unfolding sided
partner_under p k v h lk lv =
    eqb-true (partner (type_under p k) (image p v)) (image p (partner k v))
    (agree_below_at (sided p k) (λ v. true) 4 v
    (agree_below_at (λ k. agree_below (sided p k) (λ v. true) 4) (λ k. true) 3 k (by_words (λ p. agree_below (λ k. agree_below (sided p k) (λ v. true) 4) (λ k. true) 3) all_sided p h) lk) lv)

-- which of three types pass a test: one does if and only if some type does, and the first that does passes it
some_three : (f : ℕ → Bool) → list_any f three ≡ true → (position_or_len f three < 3) × (f (position_or_len f three) ≡ true)
some_three f h = go (f 0) (f 1) (f 2) refl refl refl
  where
    go : (a b c : Bool) → f 0 ≡ a → f 1 ≡ b → f 2 ≡ c → (position_or_len f three < 3) × (f (position_or_len f three) ≡ true)
    go true b c ea eb ec = rw ea (omega arith, ea)
    go false true c ea eb ec = rw (ea, eb) (omega arith, eb)
    go false false true ea eb ec = rw (ea, eb, ec) (omega arith, ec)
    go false false false ea eb ec = absurd (let z : list_any f three ≡ false = rw (ea, eb, ec) refl in cc)

any_three : (f : ℕ → Bool) (k : ℕ) → k < 3 → f k ≡ true → list_any f three ≡ true
any_three f zero l e = rw e refl
any_three f (suc zero) l e = go (f 0) refl
  where
    go : (a : Bool) → f 0 ≡ a → list_any f three ≡ true
    go true ea = rw ea refl
    go false ea = rw (ea, e) refl
any_three f (suc (suc zero)) l e = go (f 0) (f 1) refl refl
  where
    go : (a b : Bool) → f 0 ≡ a → f 1 ≡ b → list_any f three ≡ true
    go true b ea eb = rw ea refl
    go false true ea eb = rw (ea, eb) refl
    go false false ea eb = rw (ea, eb, e) refl
any_three f (suc (suc (suc k))) l e = absurd (omega arith)

same_truth : (a b : Bool) → (a ≡ true → b ≡ true) → (b ≡ true → a ≡ true) → b ≡ a
same_truth true b f g = f refl
same_truth false true f g = sym (g refl)
same_truth false false f g = refl

quad_some : (x : ℕ) → nat_lt 0 x ≡ true → 0 < x
quad_some x h = ltb-true 0 x h

module _ (n : ℕ) (by : Relabelling) (is : IsRelabelling n by) (xs ys : List ℕ) (carried : IsCarried Standard n by xs ys) where
  abbrev perm : ℕ → List ℕ
  perm t = slice_index_or by.perms t []

  fine : (t : ℕ) → t < n → IsPermutationOfFour (perm t)
  fine t l = perm_permutes n by is t l

  -- a quad type has quads if and only if its image has
  quad_under : (t k : ℕ) → t < n → k < 3 → has_quad ys (slice_index by.images t) (type_under (perm t) k) ≡ has_quad xs t k
  quad_under t k lt lk =
      let y = typed_is (perm t) k (fine t lt) lk in
      let entry = carried.entries t (4 + k) lt (omega arith) in
      let place = y.place in
      let there : quad_column Standard (slice_index by.images t) (type_under (perm t) k) ≡ 7 * slice_index by.images t + place_under Standard (perm t) (4 + k) = omega (arith, place) in
      let here : quad_column Standard t k ≡ 7 * t + (4 + k) = omega arith in
      ap (λ c. nat_lt 0 (slice_index ys c)) there ∙ ap (nat_lt 0) entry ∙ ap (λ c. nat_lt 0 (slice_index xs c)) (sym here)

  -- and one that has quads is the image of one that has
  quad_from : (t k : ℕ) → t < n → k < 3 → has_quad ys (slice_index by.images t) k ≡ true → has_quad xs t (type_under (inverse (perm t)) k) ≡ true
  quad_from t k lt lk h =
      let y = typed_is (perm t) k (fine t lt) lk in
      sym (quad_under t (type_under (inverse (perm t)) k) lt y.low) ∙ ap (has_quad ys (slice_index by.images t)) y.there ∙ h

  pub removed_under : (t : ℕ) → t < n → is_removed ys (slice_index by.images t) ≡ is_removed xs t
  removed_under t l = same_truth (is_removed xs t) (is_removed ys (slice_index by.images t))
      (λ h. let s = some_three (has_quad xs t) h in
      let y = typed_is (perm t) (position_or_len (has_quad xs t) three) (fine t l) s.0 in
      any_three (has_quad ys (slice_index by.images t)) (type_under (perm t) (position_or_len (has_quad xs t) three)) y.below (quad_under t (position_or_len (has_quad xs t) three) l s.0 ∙ s.1))
      (λ h. let s = some_three (has_quad ys (slice_index by.images t)) h in
      let y = typed_is (perm t) (position_or_len (has_quad ys (slice_index by.images t)) three) (fine t l) s.0 in
      any_three (has_quad xs t) (type_under (inverse (perm t)) (position_or_len (has_quad ys (slice_index by.images t)) three)) y.low
      (quad_from t (position_or_len (has_quad ys (slice_index by.images t)) three) l s.0 s.1))

  module _ (admissible : IsAdmissible (clash_list Standard n) xs) where
    -- a tetrahedron has quads of one type at most
    one_type : (t i k : ℕ) → t < n → i < 3 → k < 3 → has_quad xs t i ≡ true → has_quad xs t k ≡ true → i ≡ k
    one_type t i k lt li lk hi hk = elim (cases_eq i k) [
      | inl e ↦ e
      | inr separate ↦ absurd (
          let some = quad_some (slice_index xs (quad_column Standard t i)) hi in
          let more = quad_some (slice_index xs (quad_column Standard t k)) hk in
          let none = other_zero Standard n xs admissible (quad_column Standard t i) (quad_column Standard t k) (λ e. separate (omega arith)) (omega arith) (omega arith) (omega arith) (omega arith) (omega arith) some in
          omega arith)
    ]

    pub partner_in_under : (t v : ℕ) → t < n → v < 4 → is_removed xs t ≡ true → partner_in ys (slice_index by.images t) (image (perm t) v) ≡ image (perm t) (partner_in xs t v)
    partner_in_under t v lt lv h =
        let k : ℕ = position_or_len (has_quad xs t) three in
        let k' : ℕ = position_or_len (has_quad ys (slice_index by.images t)) three in
        let s = some_three (has_quad xs t) h in
        let s' = some_three (has_quad ys (slice_index by.images t)) (removed_under t lt ∙ h) in
        let y = typed_is (perm t) k' (fine t lt) s'.0 in
        let same : type_under (inverse (perm t)) k' ≡ k = one_type t (type_under (inverse (perm t)) k') k lt y.low s.0 (quad_from t k' lt s'.0 s'.1) s.1 in
        let types : k' ≡ type_under (perm t) k = sym y.there ∙ ap (type_under (perm t)) same in
        ap (λ j. partner j (image (perm t) v)) types ∙ partner_under (perm t) k v (fine t lt) s.0 lv
