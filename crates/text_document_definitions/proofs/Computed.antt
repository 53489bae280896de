-- The definitions that the examples compute: a proof that unfolds `computed` unfolds them all, and those of the crates
-- below.
use Rattle.std.proofs.Common.{ℕ}
use Rattle.surface_definitions.proofs.Computed.{computed as surface_computed}
use Rattle.move_definitions.proofs.Computed.{computed as move_computed}
use Rattle.signature_definitions.proofs.Computed.{computed as signature_computed}
use Rattle.text_document_definitions.specs.Documents.{each_line_from, next_table_at, tables_from, table_document, table_and_lines, vector_document, two_tables_document, tables_document, cone_document}
use Rattle.text_document_definitions.specs.Blocks.{term_at, terms_at, times_at, block_at, blocks_from, blocks_document}
use Rattle.text_document_definitions.specs.Symbols.{line_symbols, symbols_of}

unfoldable pub computed : ℕ
unfolding surface_computed move_computed signature_computed each_line_from next_table_at tables_from table_document table_and_lines vector_document two_tables_document tables_document cone_document line_symbols symbols_of term_at terms_at times_at block_at blocks_from blocks_document
computed = 0
