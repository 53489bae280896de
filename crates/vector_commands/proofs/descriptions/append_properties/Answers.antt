-- The fields of the line, one after another.
use Rattle.std.proofs.Common.{rules, ◌≡◌, ℕ, List, [], ◌∷◌, ◌++◌, codes, decimal, refl, ap, ◌∙◌, append_assoc}
use Rattle.std.proofs.lemmas.Int.{to_z-of_z}
use mir.Syntax.{w128}
use mir.Val.{SFits}
use Rattle.std.specs.Fmt.{signed_decimal}
use Rattle.text_definitions.specs.Written.{yes_or_no}
use Rattle.vector_commands.proofs.Grown.{grown}
use Rattle.vector_commands.proofs.descriptions.append_properties.Goals as goal

pub returns : goal.returns
returns c =
    grown old (one ++ codes " linking " ++ linking ++ codes " boundary " ++ boundary ++ codes " components " ++ decimal c.args.components) (10 ∷ []) (10 ∷ []) _ _
    (grown old (one ++ codes " linking " ++ linking ++ codes " boundary " ++ boundary ++ codes " components ") (decimal c.from.result) (decimal c.args.components) _ _
    (grown old (one ++ codes " linking " ++ linking ++ codes " boundary " ++ boundary) (codes " components ") (codes " components ") _ _
    (grown old (one ++ codes " linking " ++ linking ++ codes " boundary ") c.yes_or_no-2.result.now boundary _ _
    (grown old (one ++ codes " linking " ++ linking) (codes " boundary ") (codes " boundary ") _ _
    (grown old (one ++ codes " linking ") c.yes_or_no.result.now linking _ _
    (grown old one (codes " linking ") (codes " linking ") _ _ first c.in_ok-append.ensures.ok refl)
    c.in_ok-append-2.ensures.ok c.yes_or_no.ensures)
    c.in_ok-append-3.ensures.ok refl)
    c.in_ok-append-4.ensures.ok c.yes_or_no-2.ensures)
    c.in_ok-append-5.ensures.ok refl)
    c.in_ok-append_decimal.ensures.ok (ap decimal c.from.ensures))
    c.in_ok-append-6.ensures.ok refl
  where
    old : List ℕ
    old = c.args.out.now.items

    one : List ℕ
    one = codes "euler " ++ signed_decimal c.args.properties.now.euler

    linking : List ℕ
    linking = yes_or_no c.args.properties.now.linking

    boundary : List ℕ
    boundary = yes_or_no c.args.properties.now.boundary

    whole : SFits w128 c.args.properties.now.euler
    whole = search rules

    first : c.append_euler.new.out.items ≡ old ++ one
    first = c.in_ok-append_euler.ensures ∙ append_assoc old (codes "euler ") _ ∙ ap (λ e. old ++ (codes "euler " ++ signed_decimal e)) (to_z-of_z w128 c.args.properties.now.euler whole)
