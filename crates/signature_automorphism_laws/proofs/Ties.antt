-- If one text belongs to two starts, an automorphism maps the first to the second.
use Rattle.std.proofs.Common.{◌≡◌, ℕ, ◌<◌, List, [], length, sym, ap, ◌∙◌, subst}
use Rattle.std.specs.Prelude.{slice_index}
use Rattle.std.specs.List.{slice_index_or}
use Rattle.table_definitions.specs.Permutation.{IsPermutationOfFour, inverse, compose}
use Rattle.table_definitions.specs.Table.{Gluing, Row, IsTable}
use Rattle.table_definitions.specs.Relabelling.{Relabelling}
use Rattle.table_definitions.proofs.Permutations.{inverse_permutes, inverse-inverse, inverse-of-compose, compose-inverse, identity-compose, compose-compose}
use Rattle.table_definitions.proofs.Carried.{perm_permutes}
use Rattle.signature_definitions.specs.Spelling.{Spells}
use Rattle.signature_definitions.specs.Labellings.{Start, IsWalked}
use Rattle.signature_text_laws.proofs.SlotLaws.{ok_same}
use Rattle.signature_text_laws.proofs.SpelledTables.{spelled_read}
use Rattle.signature_laws.specs.Between.{inverted, between}
use Rattle.signature_laws.specs.Starts.{IsTextFrom}
use Rattle.signature_laws.proofs.Back.{inverted_stands, inverted_relabelling, carries_back, after_stands, after_relabelling, carries_on}
use Rattle.signature_automorphism_laws.specs.Automorphisms.{IsAutomorphism, carried_start}

-- a text spells one table
pub one_spelled : (text : List ℕ) (new other : List Row) → Spells text new → Spells text other → new ≡ other
one_spelled text new other a b = ok_same new other (sym (spelled_read text new a) ∙ spelled_read text other b)

-- two traversals with the same resulting table determine an automorphism
module _ (rows new : List Row) (start other : Start) (first second : Relabelling) (table : IsTable rows) (w : IsWalked rows start first new) (w' : IsWalked rows other second new) where
  abbrev n : ℕ
  n = length rows

  pub between_is_automorphism : IsAutomorphism rows (between n first second)
  between_is_automorphism = (
    after_relabelling n (inverted n second) first (inverted_relabelling n second w'.relabels.0) w.relabels.0,
    carries_on rows new rows (inverted n second) first table (inverted_relabelling n second w'.relabels.0) w.relabels.0 w.relabels.1 (carries_back rows new second table w'.relabels.0 w'.relabels.1),
  )

  pub between_carries : start.tet < length rows → other.tet < length rows → carried_start (between n first second) start ≡ other
  between_carries l m =
      let p : List ℕ = start.perm in
      let r : List ℕ = other.perm in
      let hp : IsPermutationOfFour p = subst IsPermutationOfFour (ap (λ (g : Gluing). g.perm) w.begins) (perm_permutes n first w.relabels.0 start.tet l) in
      let hr : IsPermutationOfFour r = subst IsPermutationOfFour (ap (λ (g : Gluing). g.perm) w'.begins) (perm_permutes n second w'.relabels.0 other.tet m) in
      let home = inverted_stands n second w'.relabels.0 other.tet m in
      let occurs = after_stands n (inverted n second) first start.tet l in
      let there : slice_index first.images start.tet ≡ slice_index second.images other.tet = ap (λ (g : Gluing). g.tet) w.begins ∙ sym (ap (λ (g : Gluing). g.tet) w'.begins) in
      let tet : slice_index (between n first second).images start.tet ≡ other.tet =
      ap (λ (g : Gluing). g.tet) occurs ∙ ap (slice_index (inverted n second).images) there ∙ ap (λ (g : Gluing). g.tet) home in
      let back : slice_index_or (inverted n second).perms (slice_index first.images start.tet) [] ≡ inverse r =
      ap (λ t. slice_index_or (inverted n second).perms t []) there ∙ ap (λ (g : Gluing). g.perm) home ∙ ap (λ (g : Gluing). inverse g.perm) w'.begins in
      let by_perm : slice_index_or (between n first second).perms start.tet [] ≡ compose (inverse r) p =
      ap (λ (g : Gluing). g.perm) occurs ∙ ap (λ b. compose b (slice_index_or first.perms start.tet [])) back ∙ ap (λ (g : Gluing). compose (inverse r) g.perm) w.begins in
      let perm : compose p (inverse (slice_index_or (between n first second).perms start.tet [])) ≡ r =
      ap (λ b. compose p (inverse b)) by_perm ∙ ap (compose p) (inverse-of-compose (inverse r) p (inverse_permutes r hr) hp ∙ ap (compose (inverse p)) (inverse-inverse r hr))
      ∙ sym (compose-compose p (inverse p) r hp (inverse_permutes p hp) hr) ∙ ap (λ b. compose b r) (compose-inverse p hp) ∙ identity-compose r hr in
      λ i. record { tet = tet i; perm = perm i }

pub tie : (rows : List Row) (start other : Start) (text : List ℕ) → IsTable rows → start.tet < length rows → other.tet < length rows → IsTextFrom rows start text → IsTextFrom rows other text
    → (by : Relabelling) × IsAutomorphism rows by × (carried_start by start ≡ other)
tie rows start other text table l m a b =
    let one : b.1 ≡ a.1 = one_spelled text b.1 a.1 b.3 a.3 in
    let w : IsWalked rows other b.0 a.1 = subst (λ (new : List Row). IsWalked rows other b.0 new) one b.2 in (
      between (length rows) a.0 b.0,
      between_is_automorphism rows a.1 start other a.0 b.0 table a.2 w,
      between_carries rows a.1 start other a.0 b.0 table a.2 w l m,
    )
