-- The definitions that the examples compute: a proof that unfolds `computed` unfolds them all, and those of the crates
-- below.
use Rattle.std.proofs.Common.{ℕ}
use Rattle.std.specs.Fmt.{digits}
use Rattle.text_definitions.specs.Reading.{need_line_at, word_at, end_line_at, number_at, signed_at, exactly_at, numbers_from}
use Rattle.text_definitions.specs.Text.{tokens_from, lines_from, end_of}
use Rattle.table_definitions.specs.Permutation.{is_permutation, preimage, inverse, compose, inversions, is_odd, index}
use Rattle.table_definitions.specs.Replacing.{replaced}
use Rattle.table_definitions.specs.Table.{table_fault}
use Rattle.table_definitions.specs.TableText.{permutation_of, entry_at, row_at, rows_at, counted_rows_at, table_at, table_text, tri_table_at}

unfoldable pub computed : ℕ
unfolding digits need_line_at word_at end_line_at number_at signed_at exactly_at numbers_from tokens_from lines_from end_of is_permutation preimage inverse compose inversions is_odd index replaced table_fault permutation_of entry_at row_at rows_at counted_rows_at table_at table_text tri_table_at
computed = 0
