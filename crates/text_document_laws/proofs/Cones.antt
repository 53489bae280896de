-- Cones are read if and only if they are in the grammar.
use Rattle.std.proofs.Common.{◌≡◌, ℕ, List, ◌∷◌, ◌++◌, Result, Ok, Err, refl, sym, ap, ◌∙◌, subst}
use Rattle.std.specs.Prelude.{◌↔◌}
use Rattle.text_definitions.specs.Text.{Line, lines_of}
use Rattle.text_definitions.specs.declared.LexFault.{LexFault}
use Rattle.text_definitions.specs.Reading.{Reading, ◌>>=◌, need_line_at, start_of}
use Rattle.text_definitions.proofs.Readers.{bind_ok}
use Rattle.cone_text_definitions.specs.ConeText.{Cone, cone_at}
use Rattle.text_document_definitions.specs.ConeGrammar.{AreConeLines}
use Rattle.text_document_definitions.specs.Documents.{cone_document, no_line_at}
use Rattle.table_definitions.proofs.LineLaws.{BeginsLine, line_begun}
use Rattle.text_document_laws.specs.ConeLaws.{ReadsCone}
use Rattle.text_document_laws.proofs.ConeReading.{ConeRead, cone_read, ReadsLines, cone_found}
use Rattle.text_document_laws.proofs.Blocks.{ReadsBlocks, ReadsEnd, document_sound, closed_complete}

-- a cone on the next lines
abbrev pub next_cone : Reading → Result (Cone × Reading) LexFault
next_cone c = need_line_at c >>= cone_at

-- the lines of a cone that was read
record ConeLines (c : Reading) (cone : Cone) (d : Reading) : Type 0 where
  lines : List Line
  split : c.later ≡ lines ++ d.later
  cone_lines : AreConeLines lines cone

lines_of_cone : (c x : Reading) (cone : Cone) (d : Reading) → BeginsLine c x → ConeRead x cone d → ConeLines c cone d
lines_of_cone c x cone d l r = record {
  lines = l.line ∷ r.lines;
  split = l.lines ∙ ap (λ (ls : List Line). l.line ∷ ls) (ap (λ (y : Reading). y.later) (sym l.left) ∙ r.split);
  cone_lines = subst (λ (y : Reading). AreConeLines (y.current ∷ r.lines) cone) l.left r.cone_lines;
}

next_cone_read : (c : Reading) (cone : Cone) (d : Reading) → next_cone c ≡ Ok (cone, d) → ConeLines c cone d
next_cone_read c cone d e =
    let first : (x : Reading) × (need_line_at c ≡ Ok x) × (cone_at x ≡ Ok (cone, d)) = bind_ok (need_line_at c) cone_at (cone, d) e in
    lines_of_cone c first.0 cone d (line_begun c first.0 first.1) (cone_read first.0 cone d first.2)

pub cone_blocks : ReadsBlocks next_cone AreConeLines
cone_blocks = record {
  sound = λ c cone d e. (let r : ConeLines c cone d = next_cone_read c cone d e in (r.lines, r.split, r.cone_lines));
  complete = λ c cone lines rest split h. (let r : ReadsLines c cone rest = cone_found c cone lines rest split h in (r.left, r.read, r.later));
}

pub no_line_ends : ReadsEnd no_line_at
no_line_ends = record { sound = λ c d e. e; complete = λ c d e. e }

pub cones_read : (c : Reading) (cone : Cone) (rest : List Line) → ReadsCone c cone rest ↔ ((lines : List Line) × (c.later ≡ lines ++ rest) × AreConeLines lines cone)
cones_read c cone rest = (
  λ r. (let n : ConeLines c cone r.left = next_cone_read c cone r.left r.read in (n.lines, n.split ∙ ap (λ (ls : List Line). n.lines ++ ls) r.later, n.cone_lines)),
  λ h. (let r : ReadsLines c cone rest = cone_found c cone h.0 rest h.1 h.2 in record { left = r.left; read = r.read; later = r.later; at_end = r.at_end }),
)

-- a cone after which no line remains, from its first line on
abbrev pub closed_cone : Cone → Reading → Result Cone LexFault
closed_cone cone d = no_line_at d >>= λ (last : Reading). Ok cone

abbrev pub cone_on : Reading → Result Cone LexFault
cone_on d = cone_at d >>= λ (x : Cone × Reading). closed_cone x.0 x.1

abbrev pub cone_document_at : Reading → Result Cone LexFault
cone_document_at c = need_line_at c >>= cone_on

grouped : (c : Reading) → cone_document_at c ≡ next_cone c >>= λ (x : Cone × Reading). closed_cone x.0 x.1
grouped c = by_line (need_line_at c)
  where
    by_line : (r : Result Reading LexFault) → (r >>= cone_on) ≡ r >>= cone_at >>= λ (x : Cone × Reading). closed_cone x.0 x.1
    by_line (Ok x) = refl
    by_line (Err f) = refl

pub cone_document_found : (c : Reading) (cone : Cone) → AreConeLines c.later cone → cone_document_at c ≡ Ok cone
cone_document_found c cone h = grouped c ∙ closed_complete no_line_at no_line_ends next_cone AreConeLines cone_blocks c cone h

pub cone_documents_read : (bytes : List ℕ) (cone : Cone) → (cone_document bytes ≡ Ok cone) ↔ AreConeLines (lines_of bytes) cone
unfolding cone_document
cone_documents_read bytes cone =
    (λ e. document_sound no_line_at no_line_ends next_cone AreConeLines cone_blocks bytes cone (sym (grouped (start_of bytes)) ∙ e), λ h. cone_document_found (start_of bytes) cone h)
