-- Reading tables and vectors, computed.
use Rattle.text_document_definitions.proofs.Computed.{computed}
use Rattle.std.proofs.Common.{◌≡◌, ℕ, List, [], ◌∷◌, ◌++◌, Option, Some, None, Result, Ok, Err, take, refl}
use Rattle.std.specs.Prelude.{codes}
use Rattle.table_definitions.specs.declared.TableFault.TheVariants.{SelfGlued, NotMutual, NoSuchTet, TooMany}
use Rattle.table_definitions.specs.Table.{Row}
use Rattle.text_definitions.specs.Text.{lines_of}
use Rattle.text_definitions.specs.declared.LexKind.{LexKind}
use Rattle.text_definitions.specs.declared.LexKind.TheVariants.{BadByte, MissingWord, NumberTooWide, ExtraWord, BadWord}
use Rattle.text_definitions.specs.Reading.{start_of, ◌>>=◌, exactly_at, need_line_at}
use Rattle.text_document_definitions.specs.Documents.{each_line_from}
use Rattle.table_definitions.specs.declared.TextFault.{TextFault}
use Rattle.table_definitions.specs.declared.TextFault.TheVariants.{Lex, Table}
use Rattle.table_definitions.specs.TableText.{lexed, table_at}
use Rattle.cone_text_definitions.specs.VectorText.{vector_at}
use Rattle.table_definitions.proofs.Tables.{sphere}
use Rattle.table_definitions.proofs.TextExamples.{sphere_text}

-- the value of a document of a table and vectors, or its first fault
document : List ℕ → Result (List Row × List (List ℕ)) TextFault
document bytes = do
  line ← lexed (need_line_at (start_of bytes))
  tri ← lexed (exactly_at (codes "tri") line)
  table ← table_at tri
  vectors ← lexed (each_line_from vector_at table.1.later table.1)
  Ok (table.0, vectors.0)

read_again : document (sphere_text ++ codes "vec 1 1 0 0 1 0 0") ≡ Ok (sphere, (1 ∷ 1 ∷ 0 ∷ 0 ∷ 1 ∷ 0 ∷ 0 ∷ []) ∷ [])
unfolding computed sphere_text document
read_again = refl

-- an entry of M + 1 in line 2 is too wide, at its first byte
too_wide_entry : each_line_from vector_at (lines_of (10 ∷ codes "vec 170141183460469231731687303715884105728")) (start_of (10 ∷ codes "vec 170141183460469231731687303715884105728")) ≡ Err (record { place = record { line = 2; column = 5 }; kind = NumberTooWide })
unfolding computed
too_wide_entry = refl

-- the first fault of a document, if it has one
fault_of : Result (List Row × List (List ℕ)) TextFault → Option TextFault
fault_of (Ok x) = None
fault_of (Err e) = Some e

at : ℕ → ℕ → LexKind → Option TextFault
at line column kind = Some (Lex (record { place = record { line = line; column = column }; kind = kind }))

-- the first L bytes of the text of a table, and the fault of each
cuts : (fault_of (document []) ≡ at 1 1 MissingWord)
    × (fault_of (document (take 1 sphere_text)) ≡ at 1 1 BadWord)
    × (fault_of (document (take 3 sphere_text)) ≡ at 1 4 MissingWord)
    × (fault_of (document (take 4 sphere_text)) ≡ at 1 5 MissingWord)
    × (fault_of (document (take 5 sphere_text)) ≡ at 1 6 MissingWord)
    × (fault_of (document (take 6 sphere_text)) ≡ at 2 1 MissingWord)
    × (fault_of (document (take 7 sphere_text)) ≡ at 2 1 BadWord)
    × (fault_of (document (take 11 sphere_text)) ≡ at 2 1 BadWord)
    × (fault_of (document (take 12 sphere_text)) ≡ at 2 7 MissingWord)
    × (fault_of (document (take 13 sphere_text)) ≡ at 2 8 MissingWord)
    × (fault_of (document (take 14 sphere_text)) ≡ at 2 8 BadWord)
    × (fault_of (document (take 20 sphere_text)) ≡ at 2 15 MissingWord)
    × (fault_of (document (take 32 sphere_text)) ≡ at 2 22 BadWord)
    × (fault_of (document (take 33 sphere_text)) ≡ None)
unfolding computed document fault_of at sphere_text
cuts = (refl, refl, refl, refl, refl, refl, refl, refl, refl, refl, refl, refl, refl, refl)

-- the faults of a table
faults : (fault_of (document (codes "tri 1" ++ 10 ∷ codes "0:1023 - - -")) ≡ Some (Table (NotMutual 0 0)))
    × (fault_of (document (codes "tri 1" ++ 10 ∷ codes "0:0123 - - -")) ≡ Some (Table (SelfGlued 0 0)))
    × (fault_of (document (codes "tri 1" ++ 10 ∷ codes "4294967295:0123 - - -")) ≡ Some (Table (NoSuchTet 0 0)))
    × (fault_of (document (codes "tri 1" ++ 10 ∷ codes "4294967296:0123 - - -")) ≡ at 2 1 NumberTooWide)
    × (fault_of (document (codes "tri 1001")) ≡ Some (Table TooMany))
    × (fault_of (document (codes "tri 4294967296 x")) ≡ Some (Table TooMany))
    × (fault_of (document (codes "tri 340282366920938463463374607431768211456")) ≡ at 1 5 NumberTooWide)
    × (fault_of (document (codes "tri 1" ++ 10 ∷ codes "0:1023 0:1023 0:1230")) ≡ at 2 21 MissingWord)
    × (fault_of (document (codes "tri 0 x")) ≡ at 1 7 ExtraWord)
    × (fault_of (document (codes "# " ++ 255 ∷ 10 ∷ codes "tri 0" ++ 13 ∷ 10 ∷ [])) ≡ None)
    × (fault_of (document (255 ∷ codes "tri 0")) ≡ at 1 1 BadByte)
unfolding computed document fault_of at
faults = (refl, refl, refl, refl, refl, refl, refl, refl, refl, refl, refl)
