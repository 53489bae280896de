-- A number with its name as a line, and the one line that is written for each refusal.
use Rattle.std.specs.Prelude.{List, ℕ, [], ◌++◌, codes, decimal}
use Rattle.text_definitions.specs.declared.LexKind.{LexKind}
use Rattle.text_definitions.specs.declared.LexKind.TheVariants.{BadByte, MissingWord, NumberTooWide, ExtraWord, BadWord}
use Rattle.text_definitions.specs.declared.LexFault.{LexFault}
use Rattle.text_definitions.specs.Written.{line}
use Rattle.table_definitions.specs.declared.TableFault.{TableFault}
use Rattle.table_definitions.specs.declared.TableFault.TheVariants as table_faults
use Rattle.table_definitions.specs.declared.TableFault.TheVariants.{NoSuchTet, SelfGlued, NotMutual}
use Rattle.table_definitions.specs.declared.TextFault.{TextFault}
use Rattle.table_definitions.specs.declared.TextFault.TheVariants as text_faults
use Rattle.table_definitions.specs.declared.TextFault.TheVariants.{Lex, Table}
use Rattle.table_definitions.specs.Table.{Face}
use Rattle.signature_definitions.specs.declared.SigFault.{SigFault}
use Rattle.signature_definitions.specs.declared.SigFault.TheVariants as sig_faults
use Rattle.signature_definitions.specs.declared.SigFault.TheVariants.{BadChar, Short, BadType, Leftover, Destination, Gluing, FaceTaken, Trailing, Unreached, Width}
use Rattle.signature_definitions.specs.declared.InputFault.{InputFault}
use Rattle.signature_definitions.specs.declared.InputFault.TheVariants.{NoMemory, Text, Signature}

-- a number with its name
abbrev pub number_line : List ℕ → ℕ → List ℕ
number_line name number = line (name ++ decimal number)

abbrev pub kind_text : LexKind → List ℕ
kind_text BadByte = codes "bad-byte"
kind_text MissingWord = codes "missing-word"
kind_text NumberTooWide = codes "too-wide"
kind_text ExtraWord = codes "extra-word"
kind_text BadWord = codes "bad-word"

-- the first fault of the words of an input, by its place
unfoldable pub lex_line : LexFault → List ℕ
lex_line f = line (codes "refused: input " ++ decimal f.place.line ++ codes " " ++ decimal f.place.column ++ codes " " ++ kind_text f.kind)

-- what is wrong at a face
abbrev pub face_line : List ℕ → Face → List ℕ
face_line kind x = line (codes "refused: table " ++ kind ++ codes " " ++ decimal x.tet ++ codes " " ++ decimal x.face)

-- why rows are no table; running out of memory has no line of its own
unfoldable pub table_line : TableFault → List ℕ
table_line table_faults.NoMemory = []
table_line table_faults.TooMany = line (codes "refused: table too-many")
table_line (NoSuchTet t f) = face_line (codes "no-such-tet") (record { tet = t; face = f })
table_line (SelfGlued t f) = face_line (codes "self-glued") (record { tet = t; face = f })
table_line (NotMutual t f) = face_line (codes "not-mutual") (record { tet = t; face = f })

-- why a text has no table in the form `tri`
abbrev pub text_line : TextFault → List ℕ
text_line text_faults.NoMemory = []
text_line (Lex f) = lex_line f
text_line (Table f) = table_line f

-- why a text is no signature: the kind, and the place of a character, counted from 0
abbrev pub place_line : List ℕ → ℕ → List ℕ
place_line kind at = line (codes "refused: signature " ++ kind ++ codes " " ++ decimal at)

unfoldable pub signature_line : SigFault → List ℕ
signature_line sig_faults.NoMemory = []
signature_line (BadChar at) = place_line (codes "bad-char") at
signature_line (Short at) = place_line (codes "short") at
signature_line (BadType at) = place_line (codes "bad-type") at
signature_line (Leftover at) = place_line (codes "leftover") at
signature_line (Destination at) = place_line (codes "destination") at
signature_line (Gluing at) = place_line (codes "gluing") at
signature_line (FaceTaken at) = place_line (codes "face-taken") at
signature_line (Trailing at) = place_line (codes "trailing") at
signature_line sig_faults.TooMany = line (codes "refused: signature too-many")
signature_line Unreached = line (codes "refused: signature unreached")
signature_line (Width at) = place_line (codes "width") at

-- why an input is no document
abbrev pub input_line : InputFault → List ℕ
input_line NoMemory = []
input_line (Text f) = text_line f
input_line (Signature f) = signature_line f

unfoldable pub usage_line : List ℕ
usage_line = line (codes "refused: usage")

unfoldable pub read_line : List ℕ
read_line = line (codes "refused: read")

unfoldable pub too_long_line : List ℕ
too_long_line = line (codes "refused: input too-long")

unfoldable pub accepted_text : List ℕ
accepted_text = line (codes "accepted")
