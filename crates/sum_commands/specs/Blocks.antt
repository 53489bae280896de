-- Blocks that were read, as the definitions see them.
use Rattle.std.specs.Prelude.{ℕ, List, map, Vec}
use Rattle.std.specs.declared.alloc.Global.{Global}
use Rattle.sum_definitions.specs.Sums.{Term}
use Rattle.text_document_definitions.specs.Blocks as blocks
use Rattle.ray_decompose.specs.declared.adding.Given.{Given}
use Rattle.ray_decompose.specs.Sums.{terms_of}
use Rattle.sum_commands.specs.declared.blocks.Block.{Block}
use Rattle.sum_commands.specs.declared.blocks.Times.{Times}

abbrev pub given_terms : Vec Given Global → List Term
given_terms terms = terms_of terms.items

-- the number of times that a vector is taken, and the terms
abbrev pub sum_of : Times → ℕ × List Term
sum_of sum = (sum.times, given_terms sum.terms)

abbrev pub block_of : Block → blocks.Block
block_of block = record { vector = block.vector.items; times = block.times; terms = given_terms block.terms }

abbrev pub all_blocks : List Block → List blocks.Block
all_blocks list = map block_of list

abbrev pub blocks_of : Vec Block Global → List blocks.Block
blocks_of list = all_blocks list.items
