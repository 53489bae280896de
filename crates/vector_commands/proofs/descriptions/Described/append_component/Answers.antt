-- The fields of the line, one after another.
use Rattle.std.proofs.Common.{rules, ◌≡◌, ℕ, List, ◌++◌, codes, refl, ap, ◌∙◌, append_assoc}
use Rattle.std.specs.Fmt.{signed_decimal}
use Rattle.std.specs.List.{slice_index_or}
use Rattle.std.proofs.lemmas.Int.{to_z-of_z}
use mir.Syntax.{w128}
use mir.Val.{SFits}
use Rattle.cone_text_definitions.specs.VectorText.{vector_text}
use Rattle.surface_vector_definitions.specs.Components.{Component}
use Rattle.surface_vector_definitions.specs.Texts.{sides_word}
use Rattle.surface_vector_definitions.specs.Properties.{characteristic}
use Rattle.surface_pieces.specs.ComponentLists.{no_component}
use Rattle.text_definitions.specs.Written.{yes_or_no}
use Rattle.vector_commands.proofs.Grown.{grown}
use Rattle.vector_commands.proofs.descriptions.Described.append_component.Goals as goal

pub returns : goal.returns
returns c =
    grown old (one ++ codes " sides " ++ sides ++ codes " orientable " ++ oriented ++ codes " ") (vector_text c.vector.result.now) (vector_text reported.vector) _ _
    (grown old (one ++ codes " sides " ++ sides ++ codes " orientable " ++ oriented) (codes " ") (codes " ") _ _
    (grown old (one ++ codes " sides " ++ sides ++ codes " orientable ") c.yes_or_no.result.now oriented _ _
    (grown old (one ++ codes " sides " ++ sides) (codes " orientable ") (codes " orientable ") _ _
    (grown old (one ++ codes " sides ") c.sides.result.now sides _ _
    (grown old one (codes " sides ") (codes " sides ") _ _ first c.in_ok-append.ensures.ok refl)
    c.in_ok-append-2.ensures.ok (c.sides.ensures ∙ ap sides_word c.two_sided.ensures))
    c.in_ok-append-3.ensures.ok refl)
    c.in_ok-append-4.ensures.ok (c.yes_or_no.ensures ∙ ap yes_or_no c.orientable.ensures))
    c.in_ok-append-5.ensures.ok refl)
    c.in_ok-write_vector.ensures.ok (ap vector_text c.vector.ensures)
  where
    old : List ℕ
    old = c.args.out.now.items

    reported : Component
    reported = slice_index_or c.args.self.now.pieces.now c.args.component no_component

    one : List ℕ
    one = codes "component euler " ++ signed_decimal (characteristic c.args.self.now.skeleton.now c.args.self.now.coords.system reported.vector)

    sides : List ℕ
    sides = sides_word reported.two_sided

    oriented : List ℕ
    oriented = yes_or_no reported.orientable

    whole : SFits w128 c.euler_of.result
    whole = search rules

    first : c.append_euler.new.out.items ≡ old ++ one
    first = c.in_ok-append_euler.ensures ∙ append_assoc old (codes "component euler ") _
        ∙ ap (λ e. old ++ (codes "component euler " ++ signed_decimal e)) (to_z-of_z w128 c.euler_of.result whole ∙ c.euler_of.ensures)
