-- The lines of each document have the form of its text.
use Rattle.std.proofs.Common.{◌≡◌, ℕ, zero, suc, List, [], ◌∷◌, ◌++◌, refl, ap, ◌∙◌}
use Rattle.std.specs.List.{AllZip, AllByRecursion}
use Rattle.text_definitions.specs.Text.{Line}
use Rattle.table_definitions.specs.Table.{Row}
use Rattle.surface_definitions.specs.Grammar.{IsVectorLine}
use Rattle.text_document_definitions.specs.Grammar.{AreTableAndLines, AreTwoTables, AreTables}
use Rattle.text_document_definitions.specs.TextForms.{IsVectorText, AreTextAndLines, AreTableAndVectorText, AreTwoTablesText, AreTablesText}
use Rattle.text_document_laws.specs.FormLaws.{HaveForm}
use Rattle.text_document_laws.proofs.TextGrammar.{tables_have_text}

module _ {A : Type 0} (Form : Line → A → Type 0) where
  abbrev pub Value : Line → Type 0
  Value line = (x : A) × Form line x

  pub forget : (lines : List Line) (xs : List A) → AllZip Form lines xs → AllByRecursion Value lines
  forget [] xs z = tt
  forget (l ∷ lines) [] z = absurd z
  forget (l ∷ lines) (x ∷ xs) z = ((x, z.0), forget lines xs z.1)

  pub lines_have_text : (lines : List Line) (rows : List Row) (xs : List A) → AreTableAndLines Form lines rows xs → AreTextAndLines Value lines
  lines_have_text lines rows xs h = (h.0, h.1, h.2, tables_have_text h.0 rows h.3, forget h.1 xs h.4)

pub one_line : (rest : List Line) (vector : List ℕ) → AllZip IsVectorLine rest (vector ∷ []) → (line : Line) × (rest ≡ line ∷ []) × IsVectorText line
one_line [] vector z = absurd z
one_line (l ∷ []) vector z = (l, refl, (vector, z.0))
one_line (l ∷ m ∷ rest) vector z = absurd z.1

pub one_vector_has_text : (lines : List Line) (rows : List Row) (vector : List ℕ) → AreTableAndLines IsVectorLine lines rows (vector ∷ []) → AreTableAndVectorText lines
one_vector_has_text lines rows vector h =
    let v : (line : Line) × (h.1 ≡ line ∷ []) × IsVectorText line = one_line h.1 vector h.4 in
    (h.0, v.0, h.2 ∙ ap (λ (ls : List Line). h.0 ++ ls) v.1, tables_have_text h.0 rows h.3, v.2)

pub two_tables_have_text : (lines : List Line) (first second : List Row) → AreTwoTables lines first second → AreTwoTablesText lines
two_tables_have_text lines first second h = (h.0, h.1, h.2, tables_have_text h.0 first h.3, tables_have_text h.1 second h.4)

pub many_tables_have_text : HaveForm AreTables AreTablesText
many_tables_have_text lines [] h = (zero, h)
many_tables_have_text lines (rows ∷ tables) h =
    let more : AreTablesText h.1 = many_tables_have_text h.1 tables h.4 in
    (suc more.0, (h.0, h.1, h.2, tables_have_text h.0 rows h.3, more.1))
