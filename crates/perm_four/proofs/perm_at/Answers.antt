use Rattle.std.proofs.Common.{◌≡◌, Some, []}
use Rattle.std.specs.List.{slice_index_or}
use Rattle.table_definitions.proofs.Permutations.{index-words, words_permute}
use Rattle.table_definitions.specs.Permutation.{words}
use Rattle.perm_four.proofs.perm_at.Goals as goal

pub returns : goal.returns
returns c =
    let found : Some c.in-Some.perm ≡ Some (slice_index_or words c.args.index []) = c.in-Some.ensures.found (slice_index_or words c.args.index []) (words_permute c.args.index c.requires) (index-words c.args.index c.requires) in
    cc
