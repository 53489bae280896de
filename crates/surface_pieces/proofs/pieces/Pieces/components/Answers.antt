-- What is held of the components.
use Rattle.std.proofs.Common.{◌≡◌, ℕ, List, Vec, Global, length, arith}
use Rattle.std.proofs.lemmas.List.{length-map}
use Rattle.surface_vector_definitions.specs.Entries.{all_entries}
use Rattle.surface_pieces.proofs.ComponentAnswers.{how_many}
use Rattle.surface_pieces.proofs.pieces.Pieces.components.Goals as goal

pub returns : goal.returns
returns c = omega (arith, c.len.ensures, c.self.inside.vectors.ok.0, many, length-map c.self.inside.vectors.items (λ (v : Vec ℕ Global). v.items))
  where
    vectors : List (List ℕ)
    vectors = all_entries c.self.inside.vectors.items

    many : length c.args.self.now ≡ length vectors
    many = how_many vectors c.self.inside.two_sided.items c.self.inside.orientable.items c.args.self.now c.self.view_is
