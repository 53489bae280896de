-- Orientable components of a surface that does not meet the boundary have even Euler characteristics.
use Rattle.std.proofs.Common.{◌≡◌, ℕ, ◌<◌, ◌≤◌, Bool, false, List, Some, None, ◌⊎◌, inl, inr, refl, sym, ap, ◌∙◌, arith}
use Rattle.std.specs.Prelude.{sum, slice_index}
use Rattle.std.proofs.lemmas.Bool.{cases_lt}
use Rattle.table_definitions.specs.Table.{Gluing, glue}
use Rattle.skeleton_definitions.specs.Skeleton.{Skeleton, IsSkeleton, IsFirstInvalid}
use Rattle.surface_definitions.specs.Characteristic.{points, arcs, meets_boundary}
use Rattle.surface_definitions.specs.declared.Coords.{Coords}
use Rattle.surface_definitions.specs.Pieces.{Arc, disc_number, disc_of, arc_across, AreComponents, component_vector, IsOrientableComponent}
use Rattle.surface_laws.specs.PieceLaws.{IsSurface, face_of_arc}
use Rattle.surface_laws.proofs.ComponentSurfaces.{one_component}
use Rattle.surface_laws.proofs.MeetingArcs.{arc_at}
use Rattle.surface_laws.proofs.SignedSteps.{arc_found}
use Rattle.surface_vector_definitions.specs.Properties.{characteristic}
use Rattle.surface_euler_laws.proofs.ArcList.{IsArc}
use Rattle.surface_euler_laws.proofs.ComponentsConnected.{own}
use Rattle.surface_double_laws.specs.Laws.{IsEven, OrientableComponentsAreEven, OrientablePartsAreEven}
use Rattle.surface_double_laws.proofs.Darts.{AreOriented}
use Rattle.surface_double_laws.proofs.EvenSurfaces.{even_number}
use Rattle.surface_double_laws.proofs.ComponentSigns.{HasOrientedSigns, arc_from, own_sign, own_signs}
use Rattle.surface_double_laws.proofs.Spheres.{even_by, all_glued}

module _ (s : Skeleton) (coords : Coords) (xs components : List ℕ) (count : ℕ) (k : IsSkeleton s) (valid : IsFirstInvalid s None) (w : IsSurface s.rows coords xs) (numbered : AreComponents s.rows coords xs components count) where
  module _ (i : ℕ) (o : IsOrientableComponent s.rows coords xs components i) where
    abbrev ys : List ℕ
    ys = component_vector xs components i

    surface : IsSurface s.rows coords ys
    surface = own s coords xs components count numbered w i

    even_if : ((b : Arc) → IsArc s.rows coords ys surface b → (g : Gluing) × (glue s.rows (face_of_arc b) ≡ Some g)) → IsEven (characteristic s coords ys)
    even_if closed =
        even_by (points coords ys s.edges.classes s.edges.count) (arcs s.rows coords ys) (sum ys)
        (even_number s k valid coords ys surface (own_sign s coords xs components count numbered w i o.0) (own_signs s coords xs components count numbered w i o.0 o.1) closed)

    pub component_even : meets_boundary s.rows coords ys ≡ false → IsEven (characteristic s coords ys)
    component_even none = even_if (all_glued s coords ys surface none)

    -- each arc of the component is in a face that has an arc of the surface
    pub part_even : meets_boundary s.rows coords xs ≡ false → IsEven (characteristic s coords ys)
    part_even none = even_if (λ b x.
        let a = arc_from s coords xs components count numbered w i b.tet b.face b.vertex x.in_range x.face x.is_vertex x.off b.place x.there in
        all_glued s coords xs w none (arc_at b.tet b.face b.vertex a.0) (record { in_range = x.in_range; face = x.face; is_vertex = x.is_vertex; off = x.off; there = a.1 }))

  module _ (each : (i : ℕ) → i < count → IsOrientableComponent s.rows coords xs components i) where
    signs_if : (i : ℕ) → (i < count) ⊎ (count ≤ i) → ℕ → Bool
    signs_if i (inl l) = (each i l).0
    signs_if i (inr h) = λ x. false

    of_component : ℕ → ℕ → Bool
    of_component i = signs_if i (cases_lt i count)

    are_signs : (i : ℕ) → i < count → HasOrientedSigns s coords xs components i (of_component i)
    unfolding of_component signs_if
    are_signs i low = go (cases_lt i count)
      where
        go : (c : (i < count) ⊎ (count ≤ i)) → HasOrientedSigns s coords xs components i (signs_if i c)
        go (inl l) = (each i l).1
        go (inr h) = absurd (omega arith)

    abbrev sign : ℕ → Bool
    sign x = of_component (slice_index components x) x

    all_signs : AreOriented s.rows coords xs sign
    all_signs a g m =
        let here : ℕ = disc_number xs (disc_of coords xs a) in
        let there : ℕ = disc_number xs (disc_of coords xs (arc_across g a)) in
        let low : slice_index components here < count = numbered.in_range here (arc_found s.rows coords xs w a g m).in_range in
        ap (λ i. of_component i there) (sym (one_component s.rows coords xs w components count numbered a g m)) ∙ are_signs (slice_index components here) low a g m refl

    pub parts_even : meets_boundary s.rows coords xs ≡ false → IsEven (characteristic s coords xs)
    parts_even none = even_by (points coords xs s.edges.classes s.edges.count) (arcs s.rows coords xs) (sum xs) (even_number s k valid coords xs w sign all_signs (all_glued s coords xs w none))

pub components_even : OrientableComponentsAreEven
components_even s coords xs components count i k valid w numbered none o = component_even s coords xs components count k valid w numbered i o none

pub whole_even : OrientablePartsAreEven
whole_even s coords xs components count k valid w numbered none each = parts_even s coords xs components count k valid w numbered each none
