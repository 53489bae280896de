-- The steps in which a line of a cone is read.
use Rattle.std.proofs.Common.{ℕ, ℤ, List, Result, Ok}
use Rattle.text_definitions.specs.declared.LexFault.{LexFault}
use Rattle.text_definitions.specs.Reading.{Reading, ◌>>=◌, end_line_at}
use Rattle.cone_text_definitions.specs.ConeText.{coefficients_at}
use Rattle.text_document_laws.proofs.Given.{Row}

-- the calls of readers for a line of a cone
abbrev pub closed_row : List ℤ → Reading → Result Row LexFault
closed_row r d = end_line_at d >>= λ (end : Reading). Ok (r, end)

abbrev pub row_on : ℕ → Reading → Result Row LexFault
row_on columns d = coefficients_at columns d >>= λ (r : Row). closed_row r.0 r.1
