use Rattle.std.proofs.Common.{◌≡◌, Bool, List, Vec, Global, Option, Some, sym, ap, subst, ◌∙◌}
use Rattle.std.specs.Option.{option_map}
use Rattle.skeleton_definitions.specs.Skeleton.{Skeleton, IsOrientation}
use Rattle.skeleton.specs.Parts.{items_of}
use Rattle.skeleton.proofs.skeleton.Skeleton.orientation.Goals as goal

pub returns-in-Some : goal.returns-in-Some
returns-in-Some c =
    let e : option_map items_of c.self.inside.signs ≡ Some c.as_slice.result.now =
    ap (λ (o : Option (Vec Bool Global)). option_map items_of o) c.in-Some.is ∙ ap (λ (xs : List Bool). Some xs) (sym c.as_slice.ensures.value) in
    subst (λ (s : Skeleton). IsOrientation s.rows (Some c.as_slice.result.now)) c.self.view_is
    (subst (λ (o : Option (List Bool)). IsOrientation c.self.inside.table o) e c.self.invariant.orientation)
