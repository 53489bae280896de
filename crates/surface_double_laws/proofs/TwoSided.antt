-- In a closed orientable table a component is orientable if it is two-sided, so that its Euler characteristic is even.
use Rattle.surface_definitions.specs.Pieces.{component_vector}
use Rattle.surface_link_laws.proofs.Turned.{sides_tell_orientation_lem}
use Rattle.surface_double_laws.specs.Laws.{TwoSidedSurfacesAreEven, TwoSidedComponentsAreEven, TwoSidedPartsAreEven}
use Rattle.surface_double_laws.proofs.EvenComponents.{components_even, whole_even}
use Rattle.surface_double_laws.proofs.Spheres.{none_meets, orientable_even}

pub two_sided_even : TwoSidedSurfacesAreEven
two_sided_even s coords xs c k valid closed orientable two_sided =
    orientable_even s coords xs c k valid (none_meets s coords xs closed) ((sides_tell_orientation_lem s.rows coords xs c.components 0 c.surface orientable).0 two_sided)

pub two_sided_components : TwoSidedComponentsAreEven
two_sided_components s coords xs components count i k valid closed orientable w numbered two_sided =
    components_even s coords xs components count i k valid w numbered (none_meets s coords (component_vector xs components i) closed)
    ((sides_tell_orientation_lem s.rows coords xs components i w orientable).0 two_sided)

pub two_sided_whole : TwoSidedPartsAreEven
two_sided_whole s coords xs components count k valid closed orientable w numbered each =
    whole_even s coords xs components count k valid w numbered (none_meets s coords xs closed) (λ i l. (sides_tell_orientation_lem s.rows coords xs components i w orientable).0 (each i l))
