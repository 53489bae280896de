use Rattle.table_definitions.proofs.Permutations.{contains_words, index_apart, index_below, words_at, words_permute, index-words}
use Rattle.table_permutation_laws.proofs.words_are_permutations.Goals as goal

pub returns : goal.returns
returns c = record {
  all = contains_words;
  separate = index_apart;
  found = λ p h. (index_below p h, words_at p h);
  indexed = λ i l. (words_permute i l, index-words i l);
}
