-- If a further line is begun, the end of the document is expected on it.
use Rattle.std.proofs.Common.{◌≡◌, List, [], ◌∷◌, Ok, refl, ap, ◌∙◌}
use Rattle.text_definitions.specs.Text.{Line}
use Rattle.text_definitions.specs.Reading.{Reading, begun, line_from, need_line_at, end_line_at}
use Rattle.text_document_definitions.specs.Documents.{no_line_from, no_line_at}

pub no_line_at-begun : (c d : Reading) → need_line_at c ≡ Ok d → no_line_at c ≡ end_line_at d
unfolding need_line_at
no_line_at-begun c d e = from_lines c.later refl e
  where
    from_lines : (ls : List Line) → c.later ≡ ls → line_from ls c ≡ Ok d → no_line_from c.later c ≡ end_line_at d
    from_lines [] same e = cc
    from_lines (l ∷ ls) same e =
        let there : begun l ls c ≡ d = (let x : Ok (begun l ls c) ≡ Ok d = e in cc) in
        ap (λ (us : List Line). no_line_from us c) same ∙ ap end_line_at there
