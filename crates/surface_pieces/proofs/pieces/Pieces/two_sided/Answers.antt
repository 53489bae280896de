-- What is held of the components.
use Rattle.std.proofs.Common.{◌≡◌, ℕ, List, Vec, Global, true, length, sym, ap, ◌∙◌, arith}
use Rattle.std.proofs.lemmas.List.{length-map, get_or_default}
use Rattle.surface_vector_definitions.specs.Components.{Component}
use Rattle.surface_vector_definitions.specs.Entries.{all_entries}
use Rattle.surface_pieces.proofs.ComponentAnswers.{how_many, told_at}
use Rattle.surface_pieces.proofs.pieces.Pieces.two_sided.Goals as goal

pub index-requires : goal.index-requires
index-requires c = omega (arith, c.requires, many, c.self.invariant.0, c.self.inside.two_sided.ok.0, length-map c.self.inside.vectors.items (λ (v : Vec ℕ Global). v.items))
  where
    vectors : List (List ℕ)
    vectors = all_entries c.self.inside.vectors.items

    many : length c.args.self.now ≡ length vectors
    many = how_many vectors c.self.inside.two_sided.items c.self.inside.orientable.items c.args.self.now c.self.view_is

pub returns : goal.returns
returns c =
    c.index.ensures ∙ get_or_default c.self.inside.two_sided.items c.args.component c.index.result.now true (omega (arith, c.requires, many, c.self.invariant.0, length-map c.self.inside.vectors.items (λ (v : Vec ℕ Global). v.items)))
    ∙ sym (ap (λ (d : Component). d.two_sided) (told_at vectors c.self.inside.two_sided.items c.self.inside.orientable.items c.args.self.now c.self.view_is c.args.component c.requires))
  where
    vectors : List (List ℕ)
    vectors = all_entries c.self.inside.vectors.items

    many : length c.args.self.now ≡ length vectors
    many = how_many vectors c.self.inside.two_sided.items c.self.inside.orientable.items c.args.self.now c.self.view_is
