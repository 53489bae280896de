-- Marked starts have no text before the least one so far.
use Rattle.std.proofs.Common.{◌≡◌, ℕ, ◌+◌, ◌*◌, ◌/◌, ◌%◌, ◌<◌, ◌≤◌, Bool, true, false, List, [], length, sym, ◌∙◌, subst, arith, ⊎_elim, get_or-set_other}
use Rattle.std.specs.Prelude.{◌≢◌, slice_index, slice_set}
use Rattle.std.specs.List.{slice_index_or}
use Rattle.std.proofs.lemmas.Bool.{cases_lt, cases_eq}
use Rattle.basic_lemmas.proofs.Truths.{by_bool}
use Rattle.table_definitions.specs.Lists.{is_list_before}
use Rattle.table_definitions.specs.Permutation.{IsPermutationOfFour, words, inverse}
use Rattle.table_definitions.specs.Table.{Row, IsTable}
use Rattle.table_definitions.specs.Relabelling.{Relabelling}
use Rattle.table_definitions.proofs.Permutations.{words_permute, inverse_permutes, compose_permutes, index_below}
use Rattle.table_definitions.proofs.Carried.{image_in_range, perm_permutes}
use Rattle.signature_definitions.specs.Labellings.{Start}
use Rattle.signature_laws.specs.Starts.{numbered_start, IsTextFrom, IsLeastText}
use Rattle.signature_laws.proofs.Least.{number_of}
use Rattle.signature_laws.proofs.Uniqueness.{before_before}
use Rattle.signature_automorphism_laws.specs.Automorphisms.{IsAutomorphism, carried_start, carried_number, HasNoSmallerText, MarkedHaveNoSmallerText}
use Rattle.signature_automorphism_laws.proofs.Carrying.{text_before}

-- the image of the start with a given number, and its number
module _ (rows : List Row) (by : Relabelling) (auto : IsAutomorphism rows by) (i : ℕ) (low : i < 24 * length rows) where
  pub tet_below : i / 24 < length rows
  tet_below = omega arith

  word_permutes : IsPermutationOfFour (slice_index_or words (i % 24) [])
  word_permutes = words_permute (i % 24) (omega arith)

  pub carried_permutes : IsPermutationOfFour (carried_start by (numbered_start i)).perm
  carried_permutes =
      let hq = perm_permutes (length rows) by auto.0 (i / 24) tet_below in
      compose_permutes (slice_index_or words (i % 24) []) (inverse (slice_index_or by.perms (i / 24) [])) word_permutes (inverse_permutes (slice_index_or by.perms (i / 24) []) hq)

  pub carried_is : numbered_start (carried_number by i) ≡ carried_start by (numbered_start i)
  carried_is = number_of (slice_index by.images (i / 24)) (carried_start by (numbered_start i)).perm carried_permutes

  pub carried_below : carried_number by i < 24 * length rows
  carried_below =
      let a = image_in_range (length rows) by auto.0 (i / 24) tet_below in
      let b = index_below (carried_start by (numbered_start i)).perm carried_permutes in
      omega (arith, a, b)

  -- if a start has no smaller text, its image has none
  pub carried_has_no_lesser : (text : List ℕ) → IsTable rows → HasNoSmallerText rows text (numbered_start i) → HasNoSmallerText rows text (numbered_start (carried_number by i))
  carried_has_no_lesser text table h other t =
      h other (text_before rows by (numbered_start i) table auto tet_below word_permutes other (subst (λ (s : Start). IsTextFrom rows s other) carried_is t))

-- one more mark
pub marked_more : (rows : List Row) (text : List ℕ) (marks : List Bool) (j : ℕ) → HasNoSmallerText rows text (numbered_start j) → MarkedHaveNoSmallerText rows text marks → MarkedHaveNoSmallerText rows text (slice_set marks j true)
marked_more rows text marks j here h i e = ⊎_elim
    (λ (same : i ≡ j). subst (λ k. HasNoSmallerText rows text (numbered_start k)) (sym same) here)
    (λ (separate : i ≢ j). h i (sym (get_or-set_other marks j i true false separate) ∙ e))
    (cases_eq i j)

pub no_walk : (rows : List Row) (text : List ℕ) (k : ℕ) → HasNoSmallerText rows text (numbered_start k) → IsLeastText rows k text → IsLeastText rows (k + 1) text
no_walk rows text k here h = record {
  found = h.found;
  least = λ j other m f. ⊎_elim
      (λ (b : j < k). h.least j other b f)
      (λ (b : k ≤ j). let z : j ≡ k = omega arith in here other (subst (λ q. IsTextFrom rows (numbered_start q) other) z f))
      (cases_lt j k);
}

pub lesser_has_none : (rows : List Row) (text smaller : List ℕ) (start : Start) → is_list_before smaller text ≡ true → HasNoSmallerText rows text start → HasNoSmallerText rows smaller start
lesser_has_none rows text smaller start b h other t =
    by_bool (is_list_before other smaller) (λ e. absurd (let x = before_before other smaller text e b in let y = h other t in cc)) (λ e. e)
