-- Runs of `describe` that together have the listed octagon surfaces decide whether there is an almost normal sphere.
use Rattle.std.proofs.Common.{◌↔◌, ℕ, List, ◌∷◌, None, Contains, sym, ap, ◌∙◌}
use Rattle.std.specs.List.{AllZip}
use Rattle.std.proofs.lemmas.List.Elements.{All-contains, All-head}
use Rattle.skeleton_definitions.specs.Skeleton.{Skeleton, IsSkeleton, IsFirstInvalid}
use Rattle.surface_definitions.specs.declared.Coords.TheVariants.{Octagon}
use Rattle.surface_vector_definitions.specs.Answers.{Description}
use Rattle.command_definitions.specs.declared.Request.TheVariants.{Describe}
use Rattle.surface_agreement_laws.specs.VertexSurfaces.{IsSurfaceListOf}
use Rattle.surface_efficiency_laws.specs.Laws.{IsZeroEfficient}
use Rattle.surface_efficiency_laws.specs.Octagons.{octagons}
use Rattle.surface_efficiency_laws.proofs.Efficiency.{listed_connected}
use Rattle.surface_euler_laws.specs.Laws.{IsOctagonalAlmostNormalSphere}
use Rattle.surface_euler_laws.proofs.AlmostNormal.{almost_normal_listed}
use Rattle.outcome_list_laws.specs.Runs.{HaveSameVectors, IsDoneRun, vectors_of}
use Rattle.outcome_list_laws.specs.Efficiency.{IsPrintedAlmostNormal}
use Rattle.outcome_list_laws.specs.Parts.{PartsDecideSpheres}
use Rattle.outcome_list_laws.proofs.Runs.{IsResult, Parts, parts_of, are_printed, joined, listed_skeleton, listed_of, answered}
use Rattle.outcome_list_laws.proofs.Parts.{euler_is, told_of, told_as}

module _ (s : Skeleton) (k : IsSkeleton s) (valid : IsFirstInvalid s None) (listed list : List (List ℕ)) (reported : List Description) (surfaces : IsSurfaceListOf s Octagon listed) (same : HaveSameVectors listed list)
    (zipped : AllZip (IsResult s Octagon) list reported) (efficient : IsZeroEfficient s) where
  to : ((xs : List ℕ) × IsOctagonalAlmostNormalSphere s xs) → (d : Description) × Contains reported d × IsPrintedAlmostNormal s d
  to h =
      let found = (almost_normal_listed s k valid listed surfaces efficient).0 h in
      let sphere : IsOctagonalAlmostNormalSphere s found.0 = found.2 in
      let m = told_as s Octagon list reported zipped found.0 (All-contains (Contains list) listed found.0 same.0 found.1) in
      (m.0, m.1, (ap (octagons s) (m.2).1 ∙ sphere.one_octagon, euler_is s Octagon found.0 m.0 m.2 ∙ sphere.two))

  from : ((d : Description) × Contains reported d × IsPrintedAlmostNormal s d) → (xs : List ℕ) × IsOctagonalAlmostNormalSphere s xs
  from h =
      let m = told_of s Octagon list reported zipped h.0 h.1 in
      let numbers : IsPrintedAlmostNormal s h.0 = h.2 in (
        m.0,
        record {
          connected = listed_connected s k Octagon tt listed surfaces m.0 (All-contains (Contains listed) list m.0 same.1 m.1);
          one_octagon = ap (octagons s) (sym (m.2).1) ∙ numbers.0;
          two = sym (euler_is s Octagon m.0 h.0 m.2) ∙ numbers.1;
        },
      )

  pub sphere_decided : ((xs : List ℕ) × IsOctagonalAlmostNormalSphere s xs) ↔ ((d : Description) × Contains reported d × IsPrintedAlmostNormal s d)
  sphere_decided = (to, from)

pub spheres_decide_lem : PartsDecideSpheres
spheres_decide_lem rows list run runs listed done same =
    let k = listed_skeleton Octagon rows list listed in
    let surfaces : IsSurfaceListOf k.0 Octagon list = listed_of Octagon rows list listed k.0 k.1 tt in
    let all : Parts k.0 Octagon k.2 tt rows k.1 (run ∷ runs) = parts_of k.0 Octagon k.2 tt rows k.1 (run ∷ runs) done in
    let valid : IsFirstInvalid k.0 None = (answered k.0 Octagon k.2 tt rows k.1 run (All-head (IsDoneRun (Describe Octagon) rows) run runs done)).0 in
    record {
      skeleton = k.0;
      of_rows = k.1;
      is_skeleton = k.2;
      printed = joined all.parts;
      are_printed = are_printed k.0 Octagon k.2 tt rows k.1 (run ∷ runs) all;
      surfaces = surfaces;
      decides = sphere_decided k.0 k.2 valid list (vectors_of (run ∷ runs)) (joined all.parts) surfaces same all.zipped;
    }
