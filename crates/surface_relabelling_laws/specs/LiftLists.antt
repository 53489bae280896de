-- The lifts of the quad lists of isomorphic tables correspond.
use Rattle.std.specs.Prelude.{ℕ, List, map}
use Rattle.std.specs.List.{AllZip}
use Rattle.std.specs.List.Sorted.{IsPermutation}
use Rattle.cone_definitions.specs.Rows.{Row as EquationRow}
use Rattle.table_definitions.specs.Relabelling.{Relabelling, AreIsomorphic}
use Rattle.signature_definitions.specs.Labellings.{Relabels}
use Rattle.signature_definitions.specs.Spelling.{IsSignature}
use Rattle.skeleton_definitions.specs.declared.Link.{Link}
use Rattle.skeleton_definitions.specs.Skeleton.{Skeleton, IsSkeleton}
use Rattle.surface_definitions.specs.declared.Coords.TheVariants.{Standard, Quad}
use Rattle.surface_definitions.specs.QuadEquations.{AreEquations}
use Rattle.surface_vector_definitions.specs.Properties.{characteristic}
use Rattle.surface_laws.specs.LiftLaws.{IsLiftOf}
use Rattle.surface_quad_lift_laws.specs.Laws.{HasSphereAndDiscLinks}
use Rattle.surface_agreement_laws.specs.VertexSurfaces.{IsSurfaceListBy}
use Rattle.surface_relabelling_laws.specs.Vectors.{relabelled_vector}

-- the quad list of a table, by its equations, and the lift of each of its vectors, in their order
pub record AreLiftsOfList (s : Skeleton) (equations : List EquationRow) (quads lifts : List (List ℕ)) : Type 0 where
  pub is_skeleton : IsSkeleton s
  pub of_table : AreEquations Quad s.rows equations
  pub are_surfaces : IsSurfaceListBy s Quad equations quads
  pub are_lifts : AllZip (IsLiftOf s) quads lifts

-- Theorem: the lifts of the quad list of the relabelled table are a permutation of the relabelled lifts of the quad
-- list
abbrev pub LiftListsAreRelabelled : Type 0
LiftListsAreRelabelled =
    (s other : Skeleton) (by : Relabelling) (equations others : List EquationRow) (quads lifts listed lifted : List (List ℕ)) → Relabels s.rows other.rows by
    → AreLiftsOfList s equations quads lifts → AreLiftsOfList other others listed lifted → IsPermutation (map (relabelled_vector Standard by) lifts) lifted

-- Theorem: the quad lists of isomorphic tables have equally many lifts of each Euler characteristic
abbrev pub LiftCharacteristicsPermute : Type 0
LiftCharacteristicsPermute =
    (s other : Skeleton) (equations others : List EquationRow) (quads lifts listed lifted : List (List ℕ)) → AreIsomorphic s.rows other.rows
    → AreLiftsOfList s equations quads lifts → AreLiftsOfList other others listed lifted → IsPermutation (map (characteristic s Standard) lifts) (map (characteristic other Standard) lifted)

-- Theorem: the quad lists of tables with the same signature have equally many lifts of each Euler characteristic
abbrev pub SameSignatureSameLifts : Type 0
SameSignatureSameLifts =
    (s other : Skeleton) (text : List ℕ) (equations others : List EquationRow) (quads lifts listed lifted : List (List ℕ)) → IsSignature s.rows text → IsSignature other.rows text
    → AreLiftsOfList s equations quads lifts → AreLiftsOfList other others listed lifted → IsPermutation (map (characteristic s Standard) lifts) (map (characteristic other Standard) lifted)

-- each vector of the list has a lift
abbrev pub HaveLifts : Skeleton → List (List ℕ) → Type 0
HaveLifts s quads = (lifts : List (List ℕ)) × AllZip (IsLiftOf s) quads lifts

-- Theorem: if each vertex link of a table is a sphere or a disc, each vector of its quad list has a lift, and each
-- vector of that of a table isomorphic to it
abbrev pub BothQuadListsLift : Type 0
BothQuadListsLift =
    (s other : Skeleton) (links : List Link) (equations others : List EquationRow) (quads listed : List (List ℕ)) → IsSkeleton s → IsSkeleton other → HasSphereAndDiscLinks s links → AreIsomorphic s.rows other.rows
    → AreEquations Quad s.rows equations → AreEquations Quad other.rows others → IsSurfaceListBy s Quad equations quads → IsSurfaceListBy other Quad others listed → HaveLifts s quads × HaveLifts other listed
