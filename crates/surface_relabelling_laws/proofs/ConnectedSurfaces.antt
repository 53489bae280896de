-- Connected surfaces and components correspond, and with them whether they are two-sided and orientable.
use Rattle.std.proofs.Common.{◌≡◌, ℕ, ◌<◌, List, length, map, sym, ap, ◌∙◌, subst, arith}
use Rattle.std.specs.Prelude.{◌↔◌, slice_index}
use Rattle.table_definitions.specs.Lists.{below}
use Rattle.table_definitions.specs.Table.{Row}
use Rattle.table_definitions.specs.Relabelling.{Relabelling, IsRelabelling, Carries}
use Rattle.signature_definitions.specs.Labellings.{Relabels}
use Rattle.signature_laws.specs.Between.{inverted}
use Rattle.signature_laws.proofs.Back.{inverted_relabelling, carries_back}
use Rattle.skeleton_definitions.specs.Skeleton.{Skeleton}
use Rattle.surface_definitions.specs.declared.Coords.{Coords}
use Rattle.surface_definitions.specs.Pieces.{NormalDisc, discs_of, disc_number, AreComponents, component_vector, IsTwoSided, IsOrientableComponent}
use Rattle.surface_laws.specs.PieceLaws.{IsSurface, IsPieceOf}
use Rattle.surface_laws.proofs.ComponentSurfaces.{component_surface}
use Rattle.surface_laws.proofs.PieceNumbers.{piece_found}
use Rattle.surface_vector_definitions.specs.Properties.{characteristic}
use Rattle.surface_efficiency_laws.specs.Laws.{IsConnectedSurface}
use Rattle.surface_relabelling_laws.specs.Components.{ComponentsAreRelabelled, ComponentCharacteristicsAreKept}
use Rattle.surface_relabelling_laws.specs.Vectors.{relabelled_vector}
use Rattle.surface_relabelling_laws.proofs.Columns.{IsCarried, relabelled_is, carried_back}
use Rattle.surface_relabelling_laws.proofs.Chains.{components_one}
use Rattle.surface_relabelling_laws.proofs.Discs.{disc_under}
use Rattle.surface_relabelling_laws.proofs.DiscsBack.{piece_image}
use Rattle.surface_relabelling_laws.proofs.Components.{correspond}
use Rattle.surface_relabelling_laws.proofs.Efficiency.{surface_carried, euler_relabelled}
use Rattle.surface_relabelling_laws.proofs.Sides.{two_sided_back, orientable_back}

module _ (rows : List Row) (new : List Row) (by : Relabelling) (relabels : Relabels rows new by) (coords : Coords) (xs : List ℕ) (s : IsSurface rows coords xs) where
  abbrev ys : List ℕ
  ys = relabelled_vector coords by xs

  abbrev back : Relabelling
  back = inverted (length rows) by

  there : IsCarried coords (length rows) by xs (relabelled_vector coords by xs)
  there = relabelled_is coords (length rows) by relabels.0 xs s.solves.width

  s' : IsSurface new coords (relabelled_vector coords by xs)
  s' = surface_carried rows new by s.table relabels.0 relabels.1 coords s.triangles xs ys there s

  is' : IsRelabelling (length new) (inverted (length rows) by)
  is' = subst (λ n. IsRelabelling n back) (sym (relabels.1).same_length) (inverted_relabelling (length rows) by relabels.0)

  carries' : Carries (inverted (length rows) by) new rows
  carries' = carries_back rows new by s.table relabels.0 relabels.1

  here : IsCarried coords (length new) (inverted (length rows) by) (relabelled_vector coords by xs) xs
  here = subst (λ n. IsCarried coords n back ys xs) (sym (relabels.1).same_length) (carried_back coords (length rows) by relabels.0 xs ys there)

  pub one_forth : (components : List ℕ) → AreComponents rows coords xs components 1 → AreComponents new coords (relabelled_vector coords by xs) (map (λ i. 0) (below (length (discs_of (relabelled_vector coords by xs))))) 1
  one_forth components one = components_one rows new by relabels.0 relabels.1 coords xs ys there s s' components one

  pub one_back : (components : List ℕ) → AreComponents new coords (relabelled_vector coords by xs) components 1 → AreComponents rows coords xs (map (λ i. 0) (below (length (discs_of xs)))) 1
  one_back components one = components_one new rows back is' carries' coords ys xs here s' s components one

  module _ (components others : List ℕ) (one : AreComponents rows coords xs components 1) (other : AreComponents new coords (relabelled_vector coords by xs) others 1) where
    -- there is one component, so that each disc is of it
    to_other : (d : NormalDisc) → IsPieceOf xs d → slice_index components (disc_number xs d) ≡ 0 → slice_index others (disc_number ys (disc_under coords by xs d)) ≡ 0
    to_other d h c =
        let l : slice_index others (disc_number ys (disc_under coords by xs d)) < 1 = other.in_range (disc_number ys (disc_under coords by xs d)) (piece_found ys (disc_under coords by xs d) (piece_image coords (length rows) by xs ys there d h)).in_range in
        omega arith

    to_one : (d : NormalDisc) → IsPieceOf ys d → slice_index others (disc_number ys d) ≡ 0 → slice_index components (disc_number xs (disc_under coords back ys d)) ≡ 0
    to_one d h c =
        let l : slice_index components (disc_number xs (disc_under coords back ys d)) < 1 = one.in_range (disc_number xs (disc_under coords back ys d)) (piece_found xs (disc_under coords back ys d) (piece_image coords (length new) back ys xs here d h)).in_range in
        omega arith

    pub two_sided_same : IsTwoSided rows coords xs components 0 ↔ IsTwoSided new coords (relabelled_vector coords by xs) others 0
    two_sided_same = (two_sided_back new rows back is' carries' coords ys xs here s' s others components 0 0 to_one, two_sided_back rows new by relabels.0 relabels.1 coords xs ys there s s' components others 0 0 to_other)

    pub orientable_same : IsOrientableComponent rows coords xs components 0 ↔ IsOrientableComponent new coords (relabelled_vector coords by xs) others 0
    orientable_same = (orientable_back new rows back is' carries' coords ys xs here s' s others components 0 0 to_one, orientable_back rows new by relabels.0 relabels.1 coords xs ys there s s' components others 0 0 to_other)

pub components_relabelled : ComponentsAreRelabelled
components_relabelled coords rows new by xs components others count amount h =
    correspond rows new by (h.relabels).0 (h.relabels).1 (is' rows new by h.relabels coords xs h.surface) (carries' rows new by h.relabels coords xs h.surface) coords xs (relabelled_vector coords by xs)
    (there rows new by h.relabels coords xs h.surface) (here rows new by h.relabels coords xs h.surface) h.surface (s' rows new by h.relabels coords xs h.surface) components others count amount h.one h.other

pub component_eulers : ComponentCharacteristicsAreKept
component_eulers s other coords by xs components others count amount i j k k' h same =
    ap (characteristic other coords) same.vectors
    ∙ euler_relabelled s other k k' by (h.relabels).0 (h.relabels).1 coords (h.surface).triangles (component_vector xs components i) (component_surface s.rows coords xs h.surface components count h.one i)

pub connected_same : (s other : Skeleton) (coords : Coords) (by : Relabelling) (xs : List ℕ) → Relabels s.rows other.rows by → IsSurface s.rows coords xs
    → IsConnectedSurface s coords xs ↔ IsConnectedSurface other coords (relabelled_vector coords by xs)
connected_same s other coords by xs relabels surface = (
  (λ h. record { surface = s' s.rows other.rows by relabels coords xs surface; components = _; one = one_forth s.rows other.rows by relabels coords xs surface h.components h.one }),
  (λ h. record { surface = surface; components = _; one = one_back s.rows other.rows by relabels coords xs surface h.components h.one }),
)
