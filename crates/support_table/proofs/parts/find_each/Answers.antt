use Rattle.support_table.proofs.PartLemmas.{part_of_some}
use Rattle.support_table.proofs.parts.find_each.Goals as goal

pub invariant_of-chunk : goal.invariant_of-chunk
invariant_of-chunk c =
    let search = c.args.search in
    let part = part_of_some search.rays.now search.outers.now c.args.chosen.now c.chunk_at.result.now c.args.part.now c.requires.part c.chunk_at.ensures.from in
    record {
      are_outers = part.separate.are_outers;
      in_range = part.separate.in_range;
      ascending = part.separate.ascending;
      copied = part.copied;
      short = c.chunk_at.ensures.short;
    }

pub find_chunk-requires-clause-part : goal.find_chunk-requires-clause-part
find_chunk-requires-clause-part c = part_of_some c.args.search.rays.now c.args.search.outers.now c.args.chosen.now c.chunk_at.result.now c.args.part.now c.requires.part c.chunk_at.ensures.from
