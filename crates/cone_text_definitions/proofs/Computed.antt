-- The definitions that the examples compute: a proof that unfolds `computed` unfolds them all, and those of the crates below.
use Rattle.std.proofs.Common.{ℕ}
use Rattle.std.specs.Fmt.{digits}
use Rattle.text_definitions.specs.Reading.{need_line_at, word_at, end_line_at, number_at, signed_at, exactly_at, numbers_from}
use Rattle.text_definitions.specs.Text.{tokens_from, lines_from, end_of}
use Rattle.cone_text_definitions.specs.ConeText.{coefficients_at, cone_row_at, cone_rows_at, cone_at}
use Rattle.cone_text_definitions.specs.VectorText.{vector_at}

unfoldable pub computed : ℕ
unfolding digits need_line_at word_at end_line_at number_at signed_at exactly_at numbers_from tokens_from lines_from end_of coefficients_at cone_row_at cone_rows_at cone_at vector_at
computed = 0
