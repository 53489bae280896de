-- The descriptions of the lifts of the quad list decide 0-efficiency.
use Rattle.std.proofs.Common.{◌≡◌, ◌↔◌, ℕ, pos, ◌<ℤ◌, true, List, [], ◌∷◌, All, Contains, sym, ◌∙◌, subst}
use Rattle.std.specs.List.{AllZip, slice_index_or}
use Rattle.std.proofs.lemmas.List.Elements.{All-contains, All-head, All-tail, Contains-get_or}
use Rattle.cone_definitions.specs.Rows.{Row as EquationRow}
use Rattle.table_definitions.specs.Table.{Row}
use Rattle.table_definitions.proofs.Listed.{among_contains, contains_among}
use Rattle.skeleton_definitions.specs.Skeleton.{Skeleton, IsSkeleton}
use Rattle.skeleton_definitions.specs.declared.Link.{Link}
use Rattle.skeleton_definitions.proofs.OneSkeleton.{one_skeleton}
use Rattle.surface_definitions.specs.declared.Coords.TheVariants.{Standard, Quad}
use Rattle.surface_definitions.specs.QuadEquations.{AreEquations}
use Rattle.surface_vector_definitions.specs.Answers.{Description}
use Rattle.surface_laws.specs.LiftLaws.{IsLiftOf}
use Rattle.surface_laws.proofs.Lifts.{one_lift}
use Rattle.surface_quad_laws.proofs.Canonical.{no_link_is_canonical, lift_canonical}
use Rattle.surface_quad_lift_laws.specs.Laws.{HasSphereAndDiscLinks}
use Rattle.surface_agreement_laws.specs.VertexSurfaces.{IsVertexSurfaceBy, IsVertexSurfaceOf, IsSurfaceListBy}
use Rattle.surface_agreement_laws.proofs.LiftedSurfaces.{lift_vertex}
use Rattle.surface_agreement_laws.proofs.LinkSurfaces.{linking_is_link}
use Rattle.surface_efficiency_laws.specs.Laws.{IsZeroEfficient}
use Rattle.surface_efficiency_laws.proofs.QuadEfficiency.{quad_list_decides}
use Rattle.text_document_definitions.specs.Documents.{table_document}
use Rattle.command_definitions.specs.declared.Request.TheVariants.{Info}
use Rattle.outcome_definitions.specs.Information.{IsInformation, IsInformationAnswer}
use Rattle.outcome_answer_laws.proofs.Asked.{answer_to, answer_to_value}
use Rattle.outcome_list_laws.specs.Runs.{HaveSameVectors, vectors_of, LiftRun, IsLiftRun, lifted_of, lifts_of}
use Rattle.outcome_list_laws.specs.Efficiency.{IsLinkingWherePositive}
use Rattle.outcome_list_laws.specs.Quads.{InformationDecidesVertices, IsNotPositive, DescribedLiftsDecide}
use Rattle.outcome_list_laws.proofs.ReadLists.{list_by, equations_of}
use Rattle.outcome_list_laws.proofs.Lists.{AreLiftsRead, run_lifts}
use Rattle.outcome_list_laws.proofs.Runs.{IsResult, Parts, parts_of, are_printed, joined, listed_by}
use Rattle.outcome_list_laws.proofs.Parts.{properties, euler_is, told_of, told_as}
use Rattle.outcome_list_laws.proofs.Zipped.{zip_back, zip_on, zip_append}

module _ (s : Skeleton) (k : IsSkeleton s) where
  -- what a run of `lift` prints are the lifts of its vectors
  lifts_are : (rows : List Row) → s.rows ≡ rows → (r : LiftRun) → IsLiftRun rows r → AllZip (IsLiftOf s) r.run.vectors r.lifts
  lifts_are rows of_rows r is =
      let read : AreLiftsRead rows r = run_lifts rows r is in
      subst (λ (t : Skeleton). AllZip (IsLiftOf t) r.run.vectors r.lifts) (one_skeleton read.skeleton s (read.of_rows ∙ sym of_rows) read.is_skeleton k) read.are

  pub all_lifts : (rows : List Row) → s.rows ≡ rows → (runs : List LiftRun) → All (IsLiftRun rows) runs → AllZip (IsLiftOf s) (lifted_of runs) (lifts_of runs)
  all_lifts rows of_rows [] h = tt
  all_lifts rows of_rows (r ∷ runs) h =
      zip_append (IsLiftOf s) r.run.vectors (lifted_of runs) r.lifts (lifts_of runs) (lifts_are rows of_rows r (All-head (IsLiftRun rows) r runs h)) (all_lifts rows of_rows runs (All-tail (IsLiftRun rows) r runs h))

  module _ (links : List Link) (spheres : HasSphereAndDiscLinks s links) (quad_rows : List EquationRow) (equations : AreEquations Quad s.rows quad_rows) (quads lifted lifts list : List (List ℕ)) (reported : List Description)
      (surfaces : IsSurfaceListBy s Quad quad_rows quads) (passed : HaveSameVectors quads lifted) (are : AllZip (IsLiftOf s) lifted lifts) (described : HaveSameVectors lifts list)
      (zipped : AllZip (IsResult s Standard) list reported) where
    -- each description is of the lift of a listed vector
    lift_told : (d : Description) → Contains reported d → (v lift : List ℕ) × Contains quads v × IsLiftOf s v lift × IsResult s Standard lift d
    lift_told d c =
        let m = told_of s Standard list reported zipped d c in
        let q = zip_back (IsLiftOf s) lifted lifts are m.0 (among_contains m.0 lifts (All-contains (Contains lifts) list m.0 described.1 m.1)) in
        (q.0, m.0, All-contains (Contains quads) lifted q.0 passed.1 (contains_among q.0 lifted q.1), q.2, m.2)

    -- and the lift of each listed vector is described
    told_lift : (v lift : List ℕ) → Contains quads v → IsLiftOf s v lift → (d : Description) × Contains reported d × IsResult s Standard lift d
    told_lift v lift c l =
        let q = zip_on (IsLiftOf s) lifted lifts are v (among_contains v lifted (All-contains (Contains lifted) quads v passed.0 c)) in
        let same : q.0 ≡ lift = one_lift s.rows k.table s.vertices.classes s.vertices.count k.vertices v q.0 lift q.2 l in
        told_as s Standard list reported zipped lift (All-contains (Contains list) lifts lift described.0 (subst (Contains lifts) same (contains_among q.0 lifts q.1)))

    -- no lift is a vertex link
    not_linking : (d : Description) → Contains reported d → d.properties.linking ≡ true → ⊥
    not_linking d c linking =
        let m = lift_told d c in
        let v : List ℕ = m.0 in
        let lift : List ℕ = m.1 in
        let vertex : IsVertexSurfaceOf s Standard lift = lift_vertex s k quad_rows equations v lift (All-contains (IsVertexSurfaceBy s Quad quad_rows) quads v surfaces.vertex_surfaces m.2) m.3 in
        no_link_is_canonical s Standard lift tt (linking_is_link s k Standard tt lift vertex (sym (properties s Standard lift d m.4).linking ∙ linking)) (lift_canonical s k v lift m.3)

    none_positive : IsZeroEfficient s → All IsNotPositive reported
    none_positive h i e l positive =
        let d : Description = slice_index_or reported i e in
        let m = lift_told d (Contains-get_or reported i e l) in
        (quad_list_decides s k links spheres quad_rows equations quads surfaces).0 h m.0 m.1 m.2 m.3 (subst (λ z. pos 0 <ℤ z) (euler_is s Standard m.1 d m.4) positive)

    by_none : All IsNotPositive reported → IsZeroEfficient s
    by_none h = (quad_list_decides s k links spheres quad_rows equations quads surfaces).1 (λ v lift c l positive.
        let m = told_lift v lift c l in
        let not : IsNotPositive m.0 = All-contains IsNotPositive reported m.0 h m.1 in
        not (subst (λ z. pos 0 <ℤ z) (sym (euler_is s Standard lift m.0 m.2)) positive))

    pub by_positive : IsZeroEfficient s ↔ All IsNotPositive reported
    by_positive = (none_positive, by_none)

    pub by_linking : IsZeroEfficient s ↔ All IsLinkingWherePositive reported
    by_linking = (
      λ h i e l positive. absurd (none_positive h i e l positive),
      λ h. by_none (λ i e l positive. not_linking (slice_index_or reported i e) (Contains-get_or reported i e l) (h i e l positive)),
    )

pub lifts_decide_lem : DescribedLiftsDecide
lifts_decide_lem rows quads lifted runs spheres listed are passed done described =
    let s : Skeleton = spheres.skeleton in
    let k : IsSkeleton s = spheres.is_skeleton in
    let of_rows : s.rows ≡ rows = spheres.of_rows in
    let by = listed_by Quad rows quads listed in
    let equations : AreEquations Quad s.rows by.0 = equations_of s Quad rows of_rows by.0 quads by.1.surfaces by.1.of_table in
    let surfaces : IsSurfaceListBy s Quad by.0 quads = list_by s Quad rows of_rows by.0 quads by.1.surfaces in
    let lifts : AllZip (IsLiftOf s) (lifted_of lifted) (lifts_of lifted) = all_lifts s k rows of_rows lifted are in
    let all : Parts s Standard k tt rows of_rows runs = parts_of s Standard k tt rows of_rows runs done in
    record {
      skeleton = s;
      of_rows = of_rows;
      is_skeleton = k;
      printed = joined all.parts;
      are_printed = are_printed s Standard k tt rows of_rows runs all;
      linking = by_linking s k spheres.links spheres.are by.0 equations quads (lifted_of lifted) (lifts_of lifted) (vectors_of runs) (joined all.parts) surfaces passed lifts described all.zipped;
      none = by_positive s k spheres.links spheres.are by.0 equations quads (lifted_of lifted) (lifts_of lifted) (vectors_of runs) (joined all.parts) surfaces passed lifts described all.zipped;
    }

pub information_decides_lem : InformationDecidesVertices
information_decides_lem words input rows o asked read =
    let answer : IsInformationAnswer rows o = answer_to_value (table_document input) rows IsInformationAnswer o read (answer_to Info words input o asked) in
    let is : IsInformation rows answer.0 = answer.1 in
    record {
      printed = answer.0;
      outcome = answer.2;
      one_each = is.one_each;
      decides = λ kinds. record {
        skeleton = answer.0.skeleton;
        of_rows = is.of_table;
        is_skeleton = is.skeleton;
        links = answer.0.links;
        are = record { one_each = is.one_each; are = is.links; kinds = kinds };
      };
    }
