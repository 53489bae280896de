-- The pieces of each surface have an answer.
use Rattle.std.proofs.Common.{ℕ, ◌<◌, ◌↔◌, Bool, true, false, List, [], ◌∷◌, ◌⊎◌, inl, inr, Result, Ok, Err, IsTrue, refl}
use Rattle.std.specs.Prelude.{sum}
use Rattle.std.specs.List.{AllZip}
use Rattle.std.proofs.lemmas.Bool.{cases_lt, false≢true}
use Rattle.table_definitions.specs.Lists.{below}
use Rattle.table_definitions.specs.Table.{Row}
use Rattle.table_definitions.proofs.TableLaws.{Among}
use Rattle.table_definitions.proofs.Listed.{below-among}
use Rattle.surface_definitions.specs.declared.Coords.{Coords}
use Rattle.surface_definitions.specs.Pieces.{keeps_sides, component_vector, AreComponents, IsTwoSided, IsOrientableComponent}
use Rattle.surface_vector_definitions.specs.Components.{most_pieces, Component, IsComponent, IsPiecesAnswer}
use Rattle.surface_vector_definitions.specs.declared.ManyPieces.{ManyPieces}
use Rattle.surface_laws.specs.PieceLaws.{IsSurface, HasComponents}
use Rattle.surface_laws.proofs.ComponentsFound.{components_found}
use Rattle.surface_laws.proofs.Signs.{signs_decided}
use Rattle.surface_laws.proofs.SignedSteps.{sides_back, stays_oriented, orientation_back}

-- the truth value of a proposition that is decided
record IsToldBy (P : Type 0) : Type 0 where
  truth : Bool
  is : IsTrue truth ↔ P

told_by : (P : Type 0) → P ⊎ (P → ⊥) → IsToldBy P
told_by P (inl p) = record { truth = true; is = ((λ e. p), (λ q. refl)) }
told_by P (inr out) = record { truth = false; is = ((λ e. absurd (false≢true e)), (λ q. absurd (out q))) }

listed_each : (R : ℕ → Component → Type 0) (is : List ℕ) → ((i : ℕ) → Among i is → (c : Component) × R i c) → (cs : List Component) × AllZip R is cs
listed_each R [] each = ([], tt)
listed_each R (i ∷ is) each =
    let here : (c : Component) × R i c = each i (inl refl) in
    let rest : (cs : List Component) × AllZip R is cs = listed_each R is (λ j m. each j (inr m)) in
    (here.0 ∷ rest.0, (here.1, rest.1))

module _ (rows : List Row) (coords : Coords) (xs : List ℕ) (s : IsSurface rows coords xs) where
  module _ (components : List ℕ) (count : ℕ) (are : AreComponents rows coords xs components count) where
    component_told : (i : ℕ) → i < count → (c : Component) × IsComponent rows coords xs components i c
    component_told i l =
        let t : IsToldBy (IsTwoSided rows coords xs components i) = told_by (IsTwoSided rows coords xs components i) (signs_decided rows coords xs s (keeps_sides coords xs) (sides_back rows coords xs s) components count are i l) in
        let o : IsToldBy (IsOrientableComponent rows coords xs components i) = told_by (IsOrientableComponent rows coords xs components i) (signs_decided rows coords xs s (stays_oriented rows coords xs s) (orientation_back rows coords xs s) components count are i l) in
        (record { vector = component_vector xs components i; two_sided = t.truth; orientable = o.truth }, record { vector = refl; two_sided = t.is; orientable = o.is })

  pub pieces_answer : (a : Result (List Component) ManyPieces) × IsPiecesAnswer rows coords xs a
  pieces_answer = elim (cases_lt most_pieces (sum xs)) [
    | inl many ↦ (Err (record { count = sum xs }), (many, refl))
    | inr limited ↦ (let c : HasComponents rows coords xs = components_found rows coords xs s in
        let l : (cs : List Component) × AllZip (IsComponent rows coords xs c.components) (below c.count) cs =
        listed_each (IsComponent rows coords xs c.components) (below c.count) (λ i m. component_told c.components c.count c.are i (below-among i c.count m)) in
        (Ok l.0, (limited, record { classes = c.components; count = c.count; numbered = c.are; each = l.1 })))
  ]
