-- Relabellings are a group under composition, and carry starts one after the other.
use Rattle.std.proofs.Common.{◌≡◌, ℕ, ◌<◌, List, [], sym, ap, ◌∙◌, subst}
use Rattle.std.specs.Prelude.{slice_index}
use Rattle.std.specs.List.{slice_index_or}
use Rattle.table_definitions.specs.Permutation.{IsPermutationOfFour, identity, inverse, compose}
use Rattle.table_definitions.specs.Table.{Gluing}
use Rattle.table_definitions.specs.Relabelling.{Relabelling, IsRelabelling, relabelled_place}
use Rattle.table_definitions.proofs.Permutations.{inverse_permutes, compose-compose, compose-identity, identity-compose, compose-inverse, inverse-compose, inverse-identity, inverse-of-compose}
use Rattle.table_definitions.proofs.Carried.{image_in_range, perm_permutes, comes_from}
use Rattle.signature_definitions.specs.Labellings.{Start}
use Rattle.signature_laws.specs.Between.{unchanged, inverted, after_of, after}
use Rattle.signature_laws.proofs.Standing.{same_relabelling}
use Rattle.signature_laws.proofs.Back.{inverted_stands, inverted_relabelling, after_stands, after_relabelling}
use Rattle.signature_laws.proofs.Unchanged.{itself, unchanged_stands, unchanged_relabelling}
use Rattle.signature_automorphism_laws.specs.Automorphisms.{carried_start}

-- the image of the image u under f
abbrev further : Relabelling → Gluing → Gluing
further f u = record { tet = slice_index f.images u.tet; perm = compose (slice_index_or f.perms u.tet []) u.perm }

module _ (n : ℕ) where
  after_further : (second first : Relabelling) (t : ℕ) → t < n → (u : Gluing) → relabelled_place first t ≡ u → relabelled_place (after n second first) t ≡ further second u
  after_further second first t l u e = after_stands n second first t l ∙ ap (further second) e

  pub associates : (third second first : Relabelling) → IsRelabelling n third → IsRelabelling n second → IsRelabelling n first
      → after n (after n third second) first ≡ after n third (after n second first)
  associates third second first h k m =
      same_relabelling n (after n (after n third second) first) (after n third (after n second first))
      (after_relabelling n (after n third second) first (after_relabelling n third second h k) m)
      (after_relabelling n third (after n second first) h (after_relabelling n second first k m)) at
    where
      at : (t : ℕ) → t < n → relabelled_place (after n (after n third second) first) t ≡ relabelled_place (after n third (after n second first)) t
      at t l =
          let a : ℕ = slice_index first.images t in
          let b : ℕ = slice_index second.images a in
          let la : a < n = image_in_range n first m t l in
          let lb : b < n = image_in_range n second k a la in
          let p : List ℕ = slice_index_or third.perms b [] in
          let q : List ℕ = slice_index_or second.perms a [] in
          let r : List ℕ = slice_index_or first.perms t [] in
          let same : compose (compose p q) r ≡ compose p (compose q r) = compose-compose p q r (perm_permutes n third h b lb) (perm_permutes n second k a la) (perm_permutes n first m t l) in
          after_stands n (after n third second) first t l
          ∙ ap (λ (g : Gluing). record { tet = g.tet; perm = compose g.perm r }) (after_stands n third second a la)
          ∙ (λ i. record { tet = slice_index third.images b; perm = same i })
          ∙ sym (after_further third (after n second first) t l (after_of second first t) (after_stands n second first t l))

  pub neutral_before : (by : Relabelling) → IsRelabelling n by → after n by (unchanged n) ≡ by
  neutral_before by h = same_relabelling n (after n by (unchanged n)) by (after_relabelling n by (unchanged n) h (unchanged_relabelling n)) h at
    where
      at : (t : ℕ) → t < n → relabelled_place (after n by (unchanged n)) t ≡ relabelled_place by t
      at t l =
          let p = compose-identity (slice_index_or by.perms t []) (perm_permutes n by h t l) in
          after_further by (unchanged n) t l (itself t) (unchanged_stands n t l) ∙ (λ i. record { tet = slice_index by.images t; perm = p i })

  pub neutral_after : (by : Relabelling) → IsRelabelling n by → after n (unchanged n) by ≡ by
  neutral_after by h = same_relabelling n (after n (unchanged n) by) by (after_relabelling n (unchanged n) by (unchanged_relabelling n) h) h at
    where
      at : (t : ℕ) → t < n → relabelled_place (after n (unchanged n) by) t ≡ relabelled_place by t
      at t l =
          let r : List ℕ = slice_index_or by.perms t [] in
          let p = identity-compose r (perm_permutes n by h t l) in
          after_stands n (unchanged n) by t l
          ∙ ap (λ (g : Gluing). record { tet = g.tet; perm = compose g.perm r }) (unchanged_stands n (slice_index by.images t) (image_in_range n by h t l))
          ∙ (λ i. record { tet = slice_index by.images t; perm = p i })

  pub cancels_after : (by : Relabelling) → IsRelabelling n by → after n (inverted n by) by ≡ unchanged n
  cancels_after by h =
      same_relabelling n (after n (inverted n by) by) (unchanged n) (after_relabelling n (inverted n by) by (inverted_relabelling n by h) h) (unchanged_relabelling n) at
    where
      at : (t : ℕ) → t < n → relabelled_place (after n (inverted n by) by) t ≡ relabelled_place (unchanged n) t
      at t l =
          let r : List ℕ = slice_index_or by.perms t [] in
          let p = inverse-compose r (perm_permutes n by h t l) in
          after_stands n (inverted n by) by t l
          ∙ ap (λ (g : Gluing). record { tet = g.tet; perm = compose g.perm r }) (inverted_stands n by h t l)
          ∙ (λ i. record { tet = t; perm = p i }) ∙ sym (unchanged_stands n t l)

  pub cancels_before : (by : Relabelling) → IsRelabelling n by → after n by (inverted n by) ≡ unchanged n
  cancels_before by h =
      same_relabelling n (after n by (inverted n by)) (unchanged n) (after_relabelling n by (inverted n by) h (inverted_relabelling n by h)) (unchanged_relabelling n) at
    where
      image_at : (t : ℕ) → t < n → relabelled_place (after n by (inverted n by)) (slice_index by.images t) ≡ relabelled_place (unchanged n) (slice_index by.images t)
      image_at t l =
          let r : List ℕ = slice_index_or by.perms t [] in
          let p = compose-inverse r (perm_permutes n by h t l) in
          let m = image_in_range n by h t l in
          after_further by (inverted n by) (slice_index by.images t) m (record { tet = t; perm = inverse r }) (inverted_stands n by h t l)
          ∙ (λ i. record { tet = slice_index by.images t; perm = p i }) ∙ sym (unchanged_stands n (slice_index by.images t) m)

      at : (u : ℕ) → u < n → relabelled_place (after n by (inverted n by)) u ≡ relabelled_place (unchanged n) u
      at u l =
          let o = comes_from n by h u l in
          subst (λ v. relabelled_place (after n by (inverted n by)) v ≡ relabelled_place (unchanged n) v) o.2 (image_at o.0 o.1)

  pub identity_carries : (start : Start) → start.tet < n → IsPermutationOfFour start.perm → carried_start (unchanged n) start ≡ start
  identity_carries start l h =
      let p : compose start.perm (inverse identity) ≡ start.perm = ap (compose start.perm) inverse-identity ∙ compose-identity start.perm h in
      ap (λ (g : Gluing). record { tet = g.tet; perm = compose start.perm (inverse g.perm) }) (unchanged_stands n start.tet l) ∙ (λ i. record { tet = start.tet; perm = p i })

  pub composition_carries : (second first : Relabelling) (start : Start) → IsRelabelling n second → IsRelabelling n first → start.tet < n → IsPermutationOfFour start.perm
      → carried_start (after n second first) start ≡ carried_start second (carried_start first start)
  composition_carries second first start h k l hp =
      let a : ℕ = slice_index first.images start.tet in
      let q : List ℕ = slice_index_or second.perms a [] in
      let r : List ℕ = slice_index_or first.perms start.tet [] in
      let hq : IsPermutationOfFour q = perm_permutes n second h a (image_in_range n first k start.tet l) in
      let hr : IsPermutationOfFour r = perm_permutes n first k start.tet l in
      let p : compose start.perm (inverse (compose q r)) ≡ compose (compose start.perm (inverse r)) (inverse q) =
      ap (compose start.perm) (inverse-of-compose q r hq hr) ∙ sym (compose-compose start.perm (inverse r) (inverse q) hp (inverse_permutes r hr) (inverse_permutes q hq)) in
      ap (λ (g : Gluing). record { tet = g.tet; perm = compose start.perm (inverse g.perm) }) (after_stands n second first start.tet l)
      ∙ (λ i. record { tet = slice_index second.images a; perm = p i })
