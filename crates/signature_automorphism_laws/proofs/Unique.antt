-- The automorphisms of a connected table that carry one start to another: there is one if one text belongs to both, and
-- at most one.
use Rattle.std.proofs.Common.{◌≡◌, ℕ, ◌<◌, List, [], length, refl, sym, ap, ◌∙◌, subst}
use Rattle.std.specs.List.{slice_index_or}
use Rattle.table_definitions.specs.Permutation.{IsPermutationOfFour, inverse}
use Rattle.table_definitions.specs.Table.{Row, IsTable}
use Rattle.table_definitions.specs.Places.{IsConnected}
use Rattle.table_definitions.specs.Relabelling.{Relabelling, IsRelabelling}
use Rattle.table_definitions.proofs.Permutations.{inverse_permutes, compose_permutes}
use Rattle.table_definitions.proofs.Carried.{image_in_range, perm_permutes, carried_is_table}
use Rattle.signature_definitions.specs.Spelling.{spelling}
use Rattle.signature_definitions.specs.Labellings.{Start, IsWalked}
use Rattle.signature_laws.specs.Between.{unchanged, inverted, after}
use Rattle.signature_laws.specs.Starts.{IsTextFrom}
use Rattle.signature_laws.proofs.Agreeing.{one_walk}
use Rattle.signature_laws.proofs.Back.{inverted_relabelling, carries_back, after_relabelling, carries_on}
use Rattle.signature_laws.proofs.Unchanged.{unchanged_relabelling, carries_unchanged}
use Rattle.signature_laws.proofs.Walks.{walks_exist_lem}
use Rattle.signature_automorphism_laws.specs.Automorphisms.{IsAutomorphism, carried_start}
use Rattle.signature_automorphism_laws.proofs.Carrying.{text_on, walked_before}
use Rattle.signature_automorphism_laws.proofs.Group.{associates, neutral_after, cancels_after}

module _ (rows : List Row) (table : IsTable rows) where
  abbrev n : ℕ
  n = length rows

  pub identity_is_automorphism : IsAutomorphism rows (unchanged n)
  identity_is_automorphism = (unchanged_relabelling n, carries_unchanged rows table)

  pub composition_is_automorphism : (second first : Relabelling) → IsAutomorphism rows second → IsAutomorphism rows first → IsAutomorphism rows (after n second first)
  composition_is_automorphism second first a b = (after_relabelling n second first a.0 b.0, carries_on rows rows rows second first table a.0 b.0 b.1 a.1)

  pub inverse_is_automorphism : (by : Relabelling) → IsAutomorphism rows by → IsAutomorphism rows (inverted n by)
  inverse_is_automorphism by a = (inverted_relabelling n by a.0, carries_back rows rows by table a.0 a.1)

  -- relabellings with the same composition with a third one, applied after them, are equal
  cancelled : (to by other : Relabelling) → IsRelabelling n to → IsRelabelling n by → IsRelabelling n other → after n to by ≡ after n to other → by ≡ other
  cancelled to by other h k k' e = sym (undone by k) ∙ ap (after n (inverted n to)) e ∙ undone other k'
    where
      undone : (f : Relabelling) → IsRelabelling n f → after n (inverted n to) (after n to f) ≡ f
      undone f m =
          sym (associates n (inverted n to) to f (inverted_relabelling n to h) h m) ∙ ap (λ (g : Relabelling). after n g f) (cancels_after n to h) ∙ neutral_after n f m

  module _ (connected : IsConnected rows) (start : Start) (in_range : start.tet < n) (permutes : IsPermutationOfFour start.perm) where
    -- the image of the start is one of the table
    carried_permutes : (by : Relabelling) → IsAutomorphism rows by → IsPermutationOfFour (carried_start by start).perm
    carried_permutes by auto =
        let q : List ℕ = slice_index_or by.perms start.tet [] in
        compose_permutes start.perm (inverse q) permutes (inverse_permutes q (perm_permutes n by auto.0 start.tet in_range))

    text_from : (text : List ℕ) × IsTextFrom rows start text
    text_from =
        let w = walks_exist_lem rows start table connected in_range permutes in
        (spelling w.1, (w.0, w.1, w.2, record { table = carried_is_table rows w.1 w.0 table w.2.relabels.0 w.2.relabels.1; ordered = w.2.ordered; spelled = refl }))

    pub text_of_both : (by : Relabelling) → IsAutomorphism rows by → (other : Start) → carried_start by start ≡ other
        → (text : List ℕ) × IsTextFrom rows start text × IsTextFrom rows other text
    text_of_both by auto other e =
        let t = text_from in
        (t.0, t.1, subst (λ (s : Start). IsTextFrom rows s t.0) e (text_on rows by start table auto in_range t.0 t.1))

    -- the traversal from the common image, after either automorphism, is the traversal from the start
    pub one_automorphism : (by other : Relabelling) → IsAutomorphism rows by → IsAutomorphism rows other → carried_start by start ≡ carried_start other start → by ≡ other
    one_automorphism by other a b e =
        let w = walks_exist_lem rows (carried_start by start) table connected (image_in_range n by a.0 start.tet in_range) (carried_permutes by a) in
        let first : IsWalked rows start (after n w.0 by) w.1 = walked_before rows by start table a in_range permutes w.0 w.1 w.2 in
        let second : IsWalked rows start (after n w.0 other) w.1 = walked_before rows other start table b in_range permutes w.0 w.1 (subst (λ (s : Start). IsWalked rows s w.0 w.1) e w.2) in
        cancelled w.0 by other w.2.relabels.0 a.0 b.0 (one_walk rows w.1 w.1 (after n w.0 by) (after n w.0 other) table start in_range first second).0
