-- Blocks of sums, computed.
use Rattle.text_document_definitions.proofs.Computed.{computed}
use Rattle.std.proofs.Common.{◌≡◌, ℕ, List, [], ◌∷◌, ◌++◌, Result, Ok, Err, refl}
use Rattle.std.specs.Prelude.{codes}
use Rattle.text_definitions.specs.Written.{line}
use Rattle.text_definitions.specs.declared.LexKind.{LexKind}
use Rattle.text_definitions.specs.declared.LexKind.TheVariants.{MissingWord, NumberTooWide, ExtraWord, BadWord}
use Rattle.table_definitions.specs.declared.TextFault.TheVariants.{Lex}
use Rattle.signature_definitions.specs.declared.InputFault.{InputFault}
use Rattle.signature_definitions.specs.declared.InputFault.TheVariants.{Text}
use Rattle.text_document_definitions.specs.Blocks.{Block, blocks_document, blocks_text}
use Rattle.table_definitions.proofs.Tables.{sphere}

unfoldable pub place : {A : Type 0} → ℕ → ℕ → LexKind → Result A InputFault
place l c kind = Err (Text (Lex (record { place = record { line = l; column = c }; kind = kind })))

-- a table, and what follows it from line 2 on
behind : List ℕ → List ℕ
behind text = line (codes "sig bkaagj") ++ text

two_terms : Block
two_terms = record {
  vector = 3 ∷ 3 ∷ 1 ∷ [];
  times = 1;
  terms = record { count = 2; vector = 1 ∷ 1 ∷ 0 ∷ [] } ∷ record { count = 1; vector = 1 ∷ 1 ∷ 1 ∷ [] } ∷ [];
}

no_terms : Block
no_terms = record { vector = []; times = 0; terms = [] }

read : (blocks_document (behind (line (codes "vec 3 3 1") ++ line (codes "times 1 2") ++ line (codes "term 2 1 1 0") ++ codes "term 1 1 1 1")) ≡ Ok (sphere, two_terms ∷ []))
    × (blocks_document (codes "tri 0") ≡ Ok ([], []))
    × (blocks_document (line (codes "tri 0") ++ line (codes "vec") ++ line (codes "times 0 0") ++ line (codes "vec") ++ codes "times 00 000") ≡ Ok ([], no_terms ∷ no_terms ∷ []))
unfolding computed behind two_terms no_terms
read = (refl, refl, refl)

refused : (blocks_document (behind (codes "vec 1")) ≡ place 2 6 MissingWord)
    × (blocks_document (behind (line (codes "vec 1") ++ codes "vec 1")) ≡ place 3 1 BadWord)
    × (blocks_document (behind (codes "times 1 0")) ≡ place 2 1 BadWord)
    × (blocks_document (behind (line (codes "vec 1") ++ codes "times 1")) ≡ place 3 8 MissingWord)
    × (blocks_document (behind (line (codes "vec 1") ++ codes "times 1 0 0")) ≡ place 3 11 ExtraWord)
    × (blocks_document (behind (line (codes "vec 1") ++ codes "times 1 10001")) ≡ place 3 9 NumberTooWide)
    × (blocks_document (behind (line (codes "vec 1") ++ codes "times 1 10000")) ≡ place 3 14 MissingWord)
    × (blocks_document (behind (line (codes "vec 1") ++ codes "times 170141183460469231731687303715884105728 0")) ≡ place 3 7 NumberTooWide)
    × (blocks_document (behind (line (codes "vec 1") ++ line (codes "times 1 1") ++ codes "vec 1")) ≡ place 4 1 BadWord)
    × (blocks_document (behind (line (codes "vec 1") ++ line (codes "times 1 1") ++ codes "term")) ≡ place 4 5 MissingWord)
    × (blocks_document (behind (line (codes "vec 1") ++ line (codes "times 1 1") ++ codes "term -1 1")) ≡ place 4 6 BadWord)
    × (blocks_document (behind (line (codes "vec 1") ++ line (codes "times 1 1") ++ line (codes "term 1 1") ++ codes "term 1 1")) ≡ place 5 1 BadWord)
unfolding computed behind place
refused = (refl, refl, refl, refl, refl, refl, refl, refl, refl, refl, refl, refl)

written : blocks_text (two_terms ∷ no_terms ∷ [])
    ≡ line (codes "vec 3 3 1") ++ line (codes "times 1 2") ++ line (codes "term 2 1 1 0") ++ line (codes "term 1 1 1 1") ++ line (codes "vec") ++ line (codes "times 0 0")
unfolding computed two_terms no_terms
written = refl
