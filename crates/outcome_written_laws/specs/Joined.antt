-- A file with a table, followed by vectors that were printed, as `cat` joins them. The file may be a gluing table or a
-- signature, with any comments and spacing; its last byte is a line feed.
use Rattle.std.specs.Prelude.{◌≡◌, ℕ, List, [], ◌∷◌, ◌++◌, Ok, codes}
use Rattle.std.specs.List.{All, Contains}
use Rattle.text_definitions.specs.Written.{line}
use Rattle.table_definitions.specs.Table.{Row}
use Rattle.table_definitions.specs.TableText.{table_text}
use Rattle.cone_text_definitions.specs.VectorText.{list_text}
use Rattle.move_definitions.specs.Certificates.{standard_sphere}
use Rattle.text_document_definitions.specs.Documents.{table_document, vectors_document}

-- a signature with other spacing, after a comment, is a table, and with the list that follows a table and a list
abbrev pub WorkedFileIsRead : Type 0
WorkedFileIsRead =
    (table_document (line (codes "# a sphere") ++ line (codes "  sig   bkaagj ")) ≡ Ok standard_sphere)
    × (vectors_document (line (codes "# a sphere") ++ line (codes "  sig   bkaagj ") ++ line (codes "# surfaces 1") ++ line (codes "vec 1 1 0 0 1 0 0")) ≡ Ok (standard_sphere, (1 ∷ 1 ∷ 0 ∷ 0 ∷ 1 ∷ 0 ∷ 0 ∷ []) ∷ []))

-- Theorem: a text that is read as a list after the written text of a table is read as this list after each file that is
-- read as the table.
abbrev pub JoinedAreRead : Type 0
JoinedAreRead =
    (front text : List ℕ) (rows : List Row) (list : List (List ℕ)) → table_document (front ++ 10 ∷ []) ≡ Ok rows
    → vectors_document (table_text rows ++ text) ≡ Ok (rows, list) → vectors_document (front ++ 10 ∷ text) ≡ Ok (rows, list)

-- Theorem: the lines of any vectors of a list, after a file of a table for which the list was printed, are read as
-- these vectors.
abbrev pub JoinedPartsAreRead : Type 0
JoinedPartsAreRead =
    (front text : List ℕ) (rows : List Row) (list part : List (List ℕ)) → table_document (front ++ 10 ∷ []) ≡ Ok rows
    → vectors_document (table_text rows ++ text) ≡ Ok (rows, list) → All (Contains list) part → vectors_document (front ++ 10 ∷ list_text part) ≡ Ok (rows, part)
