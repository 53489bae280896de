-- Documents, computed.
use Rattle.text_document_definitions.proofs.Computed.{computed}
use Rattle.std.proofs.Common.{◌≡◌, ℕ, pos, negsuc, [], ◌∷◌, ◌++◌, Ok, Err, refl}
use Rattle.std.specs.Prelude.{codes}
use Rattle.text_definitions.specs.declared.LexKind.TheVariants.{MissingWord, NumberTooWide, ExtraWord, BadWord}
use Rattle.signature_definitions.specs.declared.InputFault.TheVariants.{Signature}
use Rattle.signature_definitions.specs.declared.SigFault.TheVariants.{Unreached}
use Rattle.cone_text_definitions.specs.ConeText.{sparse}
use Rattle.text_document_definitions.specs.Documents.{table_document, vectors_document, vector_document, two_tables_document, tables_document, cone_document}
use Rattle.text_definitions.specs.Text.{lines_of, end_of}
use Rattle.text_definitions.specs.Written.{line}
use Rattle.text_definitions.specs.declared.Place.{Place}
use Rattle.text_document_definitions.specs.Symbols.{shown, strange, line_end, input_end, symbols_of}
use Rattle.text_document_definitions.proofs.BlockExamples.{place}
use Rattle.table_definitions.proofs.Tables.{sphere, other_sphere, table_gb, row, free}

read : (vectors_document (line (codes "sig bkaagj") ++ line (codes "vec 1 1 0 0 1 0 0") ++ codes "vec") ≡ Ok (sphere, (1 ∷ 1 ∷ 0 ∷ 0 ∷ 1 ∷ 0 ∷ 0 ∷ []) ∷ [] ∷ []))
    × (tables_document (line (codes "sig bkaagn") ++ line (codes "sig bkaagb") ++ codes "sig bkaagj") ≡ Ok (other_sphere ∷ table_gb ∷ sphere ∷ []))
    × (tables_document [] ≡ Ok [])
    × (two_tables_document (line (codes "tri 1") ++ line (codes "- - - -") ++ codes "tri 0") ≡ Ok (row free free free free ∷ [], []))
unfolding computed
read = (refl, refl, refl, refl)

refused : (table_document (codes "sig bkaagj x") ≡ place 1 12 ExtraWord) × (table_document (line (codes "tri 1")) ≡ place 2 1 MissingWord)
    × (table_document (line (codes "sig bkaagj") ++ codes "vec") ≡ place 2 1 ExtraWord) × (vector_document (codes "sig bkaagj") ≡ place 1 11 MissingWord)
    × (vectors_document (line (codes "sig bkaagj") ++ codes "vex") ≡ place 2 1 BadWord) × (table_document (codes "sig cQc") ≡ Err (Signature Unreached))
    × (table_document (codes "tri 63") ≡ place 1 7 MissingWord)
unfolding computed place
refused = (refl, refl, refl, refl, refl, refl, refl)

cones : (cone_document (line (codes "cone 2 1") ++ codes "2 -1") ≡ Ok (record { columns = 2; rows = (pos 2 ∷ negsuc 0 ∷ []) ∷ [] }))
    × (cone_document (codes "cone 0 3") ≡ Ok (record { columns = 0; rows = [] ∷ [] ∷ [] ∷ [] }))
    × (cone_document (line (codes "cone 1 1") ++ codes "1000001") ≡ Err (record { place = record { line = 2; column = 1 }; kind = NumberTooWide }))
    × (sparse (pos 0 ∷ pos 2 ∷ pos 0 ∷ negsuc 0 ∷ []) ≡ (1, pos 2) ∷ (3, negsuc 0) ∷ [])
unfolding computed
cones = (refl, refl, refl, refl)

-- the symbols of two lines, the second of which ends with the input
at : ℕ → ℕ → Place
at l c = record { line = l; column = c }

symbols : symbols_of (end_of (line (codes "vec 1 " ++ 255 ∷ []) ++ codes " 2")) (lines_of (line (codes "vec 1 " ++ 255 ∷ []) ++ codes " 2"))
    ≡ (at 1 1, shown (codes "vec")) ∷ (at 1 5, shown (codes "1")) ∷ (at 1 7, strange) ∷ (at 1 8, line_end) ∷ (at 2 2, shown (codes "2")) ∷ (at 2 3, line_end) ∷ (at 2 3, input_end) ∷ []
unfolding computed at
symbols = refl
