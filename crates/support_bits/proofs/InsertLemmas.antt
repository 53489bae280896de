-- Lemmas on words in which the bit of one more column is set.
use Rattle.std.proofs.Common.{◌≡◌, ◌≢◌, ℕ, ◌<◌, true, false, List, length, get_or, set, length-set, get_or-set_other, get_or-set_same, ⊎_elim, sym, ◌∙◌, ap, arith}
use Rattle.std.proofs.lemmas.Bool.{cases_eq}
use Rattle.std.proofs.lemmas.List.{ext_get_or}
use Rattle.support_bits.specs.Words.{bit_of, spelled, IsPadded}
use Rattle.support_bits.proofs.WordLemmas.{length-spelled, get_or-spelled}

module _ (columns column : ℕ) (words after : List ℕ) (within : column < columns) (padded : IsPadded columns words) (count : length after ≡ length words)
    (is_set : bit_of after column ≡ true) (others : (k : ℕ) → k ≢ column → bit_of after k ≡ bit_of words k) where
  pub inserted_padded : IsPadded columns after
  inserted_padded = record {
    count = count ∙ padded.count;
    unused = λ k exceeded. others k (λ same. omega (arith, within, exceeded, same)) ∙ padded.unused k exceeded;
  }

  pub inserted_spelled : spelled columns after ≡ set (spelled columns words) column true
  inserted_spelled =
      let n = length-spelled columns words in
      ext_get_or false (spelled columns after) (set (spelled columns words) column true)
      (length-spelled columns after ∙ sym (length-set (spelled columns words) column true ∙ n))
      (λ k less. get_or-spelled columns after inserted_padded k ∙ ⊎_elim
      (λ same. ap (bit_of after) same ∙ is_set ∙ sym (ap (λ i. get_or (set (spelled columns words) column true) i false) same
      ∙ get_or-set_same (spelled columns words) column true false (omega (arith, within, n))))
      (λ other. others k other ∙ sym (get_or-set_other (spelled columns words) column k true false other ∙ get_or-spelled columns words padded k))
      (cases_eq k column))
