-- Each enumeration has an answer, and each table with vectors has verdicts.
use Rattle.std.proofs.Common.{◌≢◌, ℕ, List, length, inl, inr, refl}
use Rattle.std.specs.Prelude.{codes}
use Rattle.std.proofs.lemmas.List.Elements.{All-nil}
use Rattle.cone_definitions.specs.Surfaces.{PairsAreOfTwoColumns}
use Rattle.cone_definitions.specs.Listings.{Enumeration}
use Rattle.cone_definitions.specs.declared.Order.{Order}
use Rattle.cone_text_definitions.specs.ConeText.{Cone}
use Rattle.table_definitions.specs.Table.{Row, IsTable}
use Rattle.surface_definitions.specs.declared.Coords.{Coords}
use Rattle.surface_definitions.specs.TableSurfaces.{table_enumeration}
use Rattle.surface_definitions.proofs.ClashPairs.{clashes_apart}
use Rattle.cone_laws.proofs.Ended.{enumeration_ends}
use Rattle.skeleton_laws.proofs.Equated.{some_equations}
use Rattle.outcome_definitions.specs.Outcomes.{Outcome}
use Rattle.outcome_definitions.specs.Enumerations.{list_outcome, large_outcome, IsEnumerationAnswer, ray_enumeration, IsSurfacesAnswer}
use Rattle.outcome_definitions.specs.Answers.{verify_outcome, IsVerdictsAnswer}

some_enumeration : (name : List ℕ) (e : Enumeration) → PairsAreOfTwoColumns e.pairs → (o : Outcome) × IsEnumerationAnswer name e o
some_enumeration name e separate = elim (enumeration_ends e separate) [
  | inl h ↦ (list_outcome name h.1, inl (h.0, h.1, h.2, refl))
  | inr h ↦ (large_outcome h.0 h.1, inr (h.0, h.1, h.2, refl))
]

pub some_rays : (order : Order) (most : ℕ) (cone : Cone) → (o : Outcome) × IsEnumerationAnswer (codes "rays") (ray_enumeration order most cone) o
some_rays order most cone = some_enumeration (codes "rays") (ray_enumeration order most cone) (All-nil (λ (pair : ℕ × ℕ). pair.0 ≢ pair.1))

pub some_surfaces : (coords : Coords) (order : Order) (most : ℕ) (rows : List Row) → IsTable rows → (o : Outcome) × IsSurfacesAnswer coords order most rows o
some_surfaces coords order most rows table =
    let q = some_equations coords rows table in
    let a = some_enumeration (codes "surfaces") (table_enumeration coords order most rows q.0) (clashes_apart coords (length rows)) in
    (a.0, (q.0, q.1, a.1))

pub some_verdicts : (coords : Coords) (d : List Row × List (List ℕ)) → IsTable d.0 → (o : Outcome) × IsVerdictsAnswer coords d o
some_verdicts coords d table = let q = some_equations coords d.0 table in (verify_outcome coords d.0 q.0 d.1, (q.0, q.1, refl))
