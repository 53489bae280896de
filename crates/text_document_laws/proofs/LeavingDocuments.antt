-- Cones: if one is refused, its lines leave the grammar at the place of the error.
use Rattle.std.proofs.Common.{◌≡◌, ◌≢◌, List, [], ◌∷◌, Result, Ok, Err, refl, sym, ap}
use Rattle.text_definitions.specs.declared.LexKind.TheVariants.{MissingWord}
use Rattle.text_definitions.specs.declared.LexFault.{LexFault}
use Rattle.text_definitions.specs.Text.{Line}
use Rattle.text_definitions.specs.Reading.{Reading, ◌>>=◌, need_line_at, line_from}
use Rattle.text_document_laws.proofs.Cones.{cone_on, cone_document_at}
use Rattle.text_document_laws.proofs.LocalLines.{by_lines}

-- the error if a line is expected and none remains
abbrev pub missing : Reading → LexFault
missing c = record { place = c.input_end; kind = MissingWord }

abbrev pub no_line : {X : Type 0} → Reading → Result X LexFault
no_line c = Err (missing c)

pub no_line_ends : {X : Type 0} (c : Reading) (f : LexFault) → no_line {X = X} c ≡ Err f → (f.place ≡ c.input_end) × ((d : Reading) (x : X) → no_line d ≢ Ok x)
no_line_ends c f e = (let same : missing c ≡ f = cc in (ap (λ (g : LexFault). g.place) (sym same), λ d x p. absurd cc))

-- a cone
pub cone_by_line : (c : Reading) → by_lines no_line cone_on c.later c ≡ cone_document_at c
unfolding need_line_at
cone_by_line c = by_list c.later
  where
    by_list : (ls : List Line) → by_lines no_line cone_on ls c ≡ line_from ls c >>= cone_on
    by_list [] = refl
    by_list (l ∷ ls) = refl
