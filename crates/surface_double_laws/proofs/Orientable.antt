-- No edge of an orientable table is invalid, so the theorems on closed orientable tables ask nothing of edges.
use Rattle.surface_definitions.specs.declared.Coords.TheVariants.{Standard}
use Rattle.skeleton_orientation_laws.proofs.Valid.{classes_valid}
use Rattle.surface_double_laws.specs.Orientable.{OrientableTwoSidedAreEven, OrientableTwoSidedComponentsAreEven, OrientableTwoSidedPartsAreEven, OrientableOneIsOneSided, OrientableSpheresDecideEfficiency, OrientableSpheresDecideLinks, OrientableListDecidesSpheres, OrientableListedSpheresDecide}
use Rattle.surface_double_laws.proofs.Spheres.{one_is_one_sided, spheres_decide, list_decides_spheres, planes_and_spheres_decide}
use Rattle.surface_double_laws.proofs.TwoSided.{two_sided_even, two_sided_components, two_sided_whole}

pub closed_even : OrientableTwoSidedAreEven
closed_even s coords xs c k closed orientable two_sided = two_sided_even s coords xs c k (classes_valid s k orientable) closed orientable two_sided

pub closed_components : OrientableTwoSidedComponentsAreEven
closed_components s coords xs components count i k closed orientable w numbered two_sided =
    two_sided_components s coords xs components count i k (classes_valid s k orientable) closed orientable w numbered two_sided

pub closed_whole : OrientableTwoSidedPartsAreEven
closed_whole s coords xs components count k closed orientable w numbered each =
    two_sided_whole s coords xs components count k (classes_valid s k orientable) closed orientable w numbered each

pub closed_one : OrientableOneIsOneSided
closed_one s coords xs c k closed orientable one = one_is_one_sided s coords xs c k (classes_valid s k orientable) closed orientable one

pub closed_spheres : OrientableSpheresDecideLinks
closed_spheres s coords k closed orientable = spheres_decide s coords k (classes_valid s k orientable) closed orientable

pub closed_efficiency : OrientableSpheresDecideEfficiency
closed_efficiency s k closed orientable = closed_spheres s Standard k closed orientable

pub closed_list : OrientableListDecidesSpheres
closed_list s coords surfaces k closed orientable triangles list = list_decides_spheres s coords surfaces k (classes_valid s k orientable) closed orientable triangles list

pub closed_listed : OrientableListedSpheresDecide
closed_listed s coords surfaces k closed orientable triangles list =
    let both = closed_spheres s coords k closed orientable in
    let planes = planes_and_spheres_decide s coords surfaces k (classes_valid s k orientable) closed orientable triangles list in
    (λ spheres. planes.0 (both.1 spheres), λ listed. both.0 (planes.1 listed))
