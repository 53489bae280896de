-- Each component that a description lists is two-sided if and only if it is orientable.
use Rattle.std.proofs.Common.{◌≡◌, ℕ, List, [], ◌∷◌}
use Rattle.std.specs.Prelude.{All}
use Rattle.std.specs.List.{AllZip}
use Rattle.std.proofs.lemmas.List.Elements.{All-nil, All-cons}
use Rattle.table_definitions.specs.Lists.{below}
use Rattle.table_definitions.specs.Table.{Row}
use Rattle.skeleton_definitions.specs.Orientation.{IsOrientable}
use Rattle.surface_definitions.specs.declared.Coords.{Coords}
use Rattle.surface_vector_definitions.specs.Components.{Component, IsComponent, AreListedComponents}
use Rattle.surface_laws.specs.PieceLaws.{IsSurface}
use Rattle.surface_laws.proofs.FitSurfaces.{surface_is}
use Rattle.surface_link_laws.specs.Orientation.{DescribedAlike}
use Rattle.surface_link_laws.proofs.Turned.{one_answer_to_both}

abbrev IsAlike : Component → Type 0
IsAlike c = c.two_sided ≡ c.orientable

all_alike : (rows : List Row) (coords : Coords) (xs classes : List ℕ) → IsSurface rows coords xs → IsOrientable rows → (is : List ℕ) (listed : List Component)
    → AllZip (IsComponent rows coords xs classes) is listed → All IsAlike listed
all_alike rows coords xs classes s orientable [] [] h = All-nil IsAlike
all_alike rows coords xs classes s orientable [] (c ∷ cs) h = absurd h
all_alike rows coords xs classes s orientable (i ∷ is) [] h = absurd h
all_alike rows coords xs classes s orientable (i ∷ is) (c ∷ cs) h =
    All-cons IsAlike c cs (one_answer_to_both rows coords xs classes i c s orientable h.0) (all_alike rows coords xs classes s orientable is cs h.1)

pub described_alike : DescribedAlike
described_alike s coords equations xs d out k orientable of_table h =
    let surface : IsSurface s.rows coords xs = surface_is coords s.rows equations xs out k.table of_table h.0 in
    let listed : AreListedComponents s.rows coords xs d.components = h.3.1 in
    all_alike s.rows coords xs listed.classes surface orientable (below listed.count) d.components listed.each
