-- The verdicts on vectors, and the list of surfaces, are unique.
use Rattle.std.proofs.Common.{◌≡◌, ◌≢◌, ℕ, List, sym, ap, ◌∙◌, subst}
use Rattle.std.specs.Prelude.{codes}
use Rattle.table_definitions.specs.Table.{Row}
use Rattle.cone_definitions.specs.declared.Order.{Order}
use Rattle.cone_definitions.specs.declared.Order.TheVariants.{Free}
use Rattle.surface_definitions.specs.declared.Coords.{Coords}
use Rattle.surface_definitions.specs.TableSurfaces.{table_enumeration}
use Rattle.surface_definitions.proofs.OneSystem.{one_equations}
use Rattle.outcome_definitions.specs.Outcomes.{Outcome}
use Rattle.outcome_definitions.specs.Enumerations.{IsEnumerationAnswer, IsSurfacesAnswer}
use Rattle.outcome_definitions.specs.Answers.{verify_outcome, IsVerdictsAnswer}
use Rattle.outcome_laws.proofs.Enumerated.{one_enumeration}

-- the equations of a table are unique
pub one_verdicts : (coords : Coords) (d : List Row × List (List ℕ)) (o p : Outcome) → IsVerdictsAnswer coords d o → IsVerdictsAnswer coords d p → o ≡ p
one_verdicts coords d o p h k = h.2 ∙ ap (λ equations. verify_outcome coords d.0 equations d.1) (one_equations coords d.0 h.0 k.0 h.1 k.1) ∙ sym k.2

pub one_surfaces : (coords : Coords) (order : Order) (most : ℕ) (rows : List Row) (o p : Outcome) → order ≢ Free → IsSurfacesAnswer coords order most rows o → IsSurfacesAnswer coords order most rows p → o ≡ p
one_surfaces coords order most rows o p some h k =
    one_enumeration (codes "surfaces") (table_enumeration coords order most rows h.0) o p some h.2
    (subst (λ equations. IsEnumerationAnswer (codes "surfaces") (table_enumeration coords order most rows equations) p) (sym (one_equations coords rows h.0 k.0 h.1 k.1)) k.2)
