-- A text belongs to a start if and only if it belongs to the image of the start under an automorphism.
use Rattle.std.proofs.Common.{◌≡◌, ℕ, ◌<◌, List, [], length, ap, ◌∙◌}
use Rattle.std.specs.Prelude.{slice_index}
use Rattle.std.specs.List.{slice_index_or}
use Rattle.table_definitions.specs.Permutation.{IsPermutationOfFour, inverse, compose}
use Rattle.table_definitions.specs.Table.{Gluing, Row, IsTable}
use Rattle.table_definitions.specs.Relabelling.{Relabelling}
use Rattle.table_definitions.proofs.Permutations.{inverse_permutes, inverse-compose, compose-identity, compose-compose}
use Rattle.table_definitions.proofs.Carried.{image_in_range, perm_permutes}
use Rattle.signature_definitions.specs.Labellings.{Start, IsWalked}
use Rattle.signature_laws.specs.Between.{inverted, after}
use Rattle.signature_laws.specs.Starts.{IsTextFrom}
use Rattle.signature_laws.proofs.Back.{inverted_stands, inverted_relabelling, carries_back, after_stands, after_relabelling, carries_on}
use Rattle.signature_automorphism_laws.specs.Automorphisms.{IsAutomorphism, carried_start}

module _ (rows : List Row) (by : Relabelling) (start : Start) (table : IsTable rows) (auto : IsAutomorphism rows by) (in_range : start.tet < length rows) where
  abbrev n : ℕ
  n = length rows

  abbrev u : ℕ
  u = slice_index by.images start.tet

  abbrev q : List ℕ
  q = slice_index_or by.perms start.tet []

  u_below : u < n
  u_below = image_in_range n by auto.0 start.tet in_range

  hq : IsPermutationOfFour q
  hq = perm_permutes n by auto.0 start.tet in_range

  abbrev back : Relabelling
  back = inverted n by

  -- the traversal from the start, after the inverse of the automorphism, is the traversal from the start's image
  pub walked_on : (to : Relabelling) (new : List Row) → IsWalked rows start to new → IsWalked rows (carried_start by start) (after n to back) new
  walked_on to new w =
      let home = inverted_stands n by auto.0 start.tet in_range in
      let tets : slice_index back.images u ≡ start.tet = ap (λ (g : Gluing). g.tet) home in
      let perms : slice_index_or back.perms u [] ≡ inverse q = ap (λ (g : Gluing). g.perm) home in
      let to_tet : slice_index to.images (slice_index back.images u) ≡ 0 = ap (slice_index to.images) tets ∙ ap (λ (g : Gluing). g.tet) w.begins in
      let to_perm : compose (slice_index_or to.perms (slice_index back.images u) []) (slice_index_or back.perms u []) ≡ compose start.perm (inverse q) =
      ap (λ t. compose (slice_index_or to.perms t []) (slice_index_or back.perms u [])) tets ∙ ap (compose (slice_index_or to.perms start.tet [])) perms
      ∙ ap (λ (g : Gluing). compose g.perm (inverse q)) w.begins in
      record {
        relabels = (
          after_relabelling n to back w.relabels.0 (inverted_relabelling n by auto.0),
          carries_on rows rows new to back table w.relabels.0 (inverted_relabelling n by auto.0) (carries_back rows rows by table auto.0 auto.1) w.relabels.1,
        );
        begins = after_stands n to back u u_below ∙ (λ i. record { tet = to_tet i; perm = to_perm i });
        ordered = w.ordered;
      }

  -- the traversal from the image of the start, after the automorphism, is the traversal from the start
  pub walked_before : IsPermutationOfFour start.perm → (to : Relabelling) (new : List Row) → IsWalked rows (carried_start by start) to new → IsWalked rows start (after n to by) new
  walked_before hp to new w =
      let to_tet : slice_index to.images u ≡ 0 = ap (λ (g : Gluing). g.tet) w.begins in
      let to_perm : compose (slice_index_or to.perms u []) q ≡ start.perm =
      ap (λ (g : Gluing). compose g.perm q) w.begins ∙ compose-compose start.perm (inverse q) q hp (inverse_permutes q hq) hq
      ∙ ap (compose start.perm) (inverse-compose q hq) ∙ compose-identity start.perm hp in
      record {
        relabels = (after_relabelling n to by w.relabels.0 auto.0, carries_on rows rows new to by table w.relabels.0 auto.0 auto.1 w.relabels.1);
        begins = after_stands n to by start.tet in_range ∙ (λ i. record { tet = to_tet i; perm = to_perm i });
        ordered = w.ordered;
      }

  pub text_on : (text : List ℕ) → IsTextFrom rows start text → IsTextFrom rows (carried_start by start) text
  text_on text t = (after n t.0 back, t.1, walked_on t.0 t.1 t.2, t.3)

  pub text_before : IsPermutationOfFour start.perm → (text : List ℕ) → IsTextFrom rows (carried_start by start) text → IsTextFrom rows start text
  text_before hp text t = (after n t.0 by, t.1, walked_before hp t.0 t.1 t.2, t.3)
