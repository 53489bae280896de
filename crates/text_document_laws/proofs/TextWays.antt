-- The text of a table: what comes before an error can be continued to such a text.
use Rattle.std.proofs.Common.{◌≡◌, ℕ, zero, suc, Bool, true, false, List, None, Result, Ok, refl}
use Rattle.std.specs.Prelude.{codes}
use Rattle.text_definitions.specs.declared.LexKind.{LexKind}
use Rattle.table_definitions.specs.Table.{max_tets}
use Rattle.text_document_laws.proofs.LocalTables.{entry_test, any_text, name_test}
use Rattle.text_document_laws.proofs.TextReaders.{words_at, row_text, row_line, rows_text, counted_text, text_named, text_at, next_text}
use Rattle.text_document_laws.proofs.TextGrammar.{tri_passes}
use Rattle.text_document_laws.proofs.Chains.{Ends, Opens, ends_word, ends_number, ends_ending, ends_lines, opens_next, opens_pure, opens_both}
use Rattle.text_document_laws.proofs.Local.{moved}
use Rattle.text_definitions.specs.Reading.{end_line_at}

-- n words and the end of the line, if one word passes the test
ends_words : {A : Type 0} (test : List ℕ → Result A LexKind) (w : List ℕ) (x : A) → test w ≡ Ok x → (n : ℕ) → Ends (words_at test n)
unfolding words_at
ends_words test w x passes zero = ends_ending
ends_words test w x passes (suc n) = ends_word test w x passes (λ y. words_at test n) (λ y. ends_words test w x passes n)

dash_passes : entry_test (codes "-") ≡ Ok None
unfolding entry_test
dash_passes = refl

opens_rows : (n : ℕ) → Opens (rows_text n)
unfolding rows_text
opens_rows zero = opens_pure tt
opens_rows (suc n) = opens_both row_line (rows_text n) (opens_rows n) (opens_next row_text (ends_words entry_test (codes "-") None dash_passes 4))

letter_passes : any_text (codes "a") ≡ Ok (codes "a")
unfolding any_text
letter_passes = refl

ends_named : (b : Bool) → Ends (text_named b)
unfolding text_named
ends_named true = ends_number max_tets counted_text (λ n. ends_lines (rows_text n) (opens_rows n))
ends_named false = ends_word any_text (codes "a") (codes "a") letter_passes (λ w. moved end_line_at) (λ w. ends_ending)

-- the text of a table to the end of its last line, and on the next lines
pub ends_text : Ends text_at
ends_text = ends_word name_test (codes "tri") true tri_passes text_named ends_named

pub opens_next_text : Opens next_text
opens_next_text = opens_next text_at ends_text
