-- Each pass of the loop reads one block.
use Rattle.std.proofs.Common.{[], ◌∷◌, sym, ◌∙◌, arith}
use Rattle.std.proofs.lemmas.Result.{err_from_is_err_and}
use Rattle.std.proofs.lemmas.List.{map-append}
use Rattle.text_document_definitions.specs.Blocks.{block_at}
use Rattle.table_definitions.proofs.TableReadingLaws.{lexed_ok}
use Rattle.table_definitions.proofs.TableFoundLaws.{lexed_with}
use Rattle.sum_commands.specs.Blocks.{block_of, blocks_of}
use Rattle.sum_commands.proofs.EachBlock.{block_taken, blocks_fewer, block_fails, blocks_ended}
use Rattle.sum_commands.proofs.blocks.read_blocks.Goals as goal

pub loop-alloc-smaller : goal.loop-alloc-smaller
loop-alloc-smaller c =
    let read = lexed_ok (block_at c.next_line.new.self) (block_of c.in_ok-block.block, c.read_block.new.lexer) c.in_ok-block.ensures in
    let fewer = blocks_fewer c.loop-alloc.lexer c.next_line.new.self (block_of c.in_ok-block.block, c.read_block.new.lexer) c.loop-alloc-test.ensures.found read in
    omega (arith, fewer)

pub loop-alloc-preserved : goal.loop-alloc-preserved
loop-alloc-preserved c =
    let read = lexed_ok (block_at c.next_line.new.self) (block_of c.in_ok-block.block, c.read_block.new.lexer) c.in_ok-block.ensures in
    rw (c.in_ok-push.ensures.items, map-append block_of c.loop-alloc.blocks.items (c.in_ok-block.block ∷ []))
    (block_taken (blocks_of c.loop-alloc.blocks) c.loop-alloc.lexer c.next_line.new.self (block_of c.in_ok-block.block, c.read_block.new.lexer) c.loop-alloc-test.ensures.found read ∙ c.loop-alloc.invariant)

pub returns : goal.returns
returns c = lexed_with _ _ (sym c.loop-alloc.invariant ∙ rw c.loop-alloc-test.ensures.none.1 (blocks_ended (blocks_of c.loop-alloc.blocks) c.loop-alloc.lexer c.loop-alloc-test.ensures.none.0))

pub returns-in_err-block : goal.returns-in_err-block
returns-in_err-block c = let p = err_from_is_err_and c.from_residual.result c.from_residual.ensures.1 in rw (p.1, p.2)
    (block_fails (blocks_of c.loop-alloc.blocks) c.loop-alloc.lexer c.next_line.new.self _ _ c.loop-alloc-test.ensures.found c.in_err-block.ensures c.loop-alloc.invariant)
