-- The vectors of the standard list that `lift` prints are those that are lifts of listed ones.
use Rattle.std.proofs.Common.{ℕ, inl, inr, List, Contains, subst}
use Rattle.std.specs.List.{AllZip, slice_index_or}
use Rattle.std.proofs.lemmas.List.Elements.{All-contains}
use Rattle.table_definitions.proofs.Listed.{among_contains, contains_among}
use Rattle.skeleton_definitions.specs.Skeleton.{Skeleton, IsSkeleton}
use Rattle.surface_definitions.specs.declared.Coords.TheVariants.{Standard, Quad}
use Rattle.surface_laws.specs.LiftLaws.{IsLiftOf}
use Rattle.surface_laws.proofs.Lifts.{one_lift}
use Rattle.surface_quad_laws.specs.LinkLaws.{IsVertexLink}
use Rattle.surface_agreement_laws.specs.SurfaceKinds.{IsExactlyOne, IsListedLift, HasQuadsOfMore}
use Rattle.surface_agreement_laws.proofs.SurfaceKinds.{listed_kinds}
use Rattle.outcome_list_laws.specs.Runs.{HaveSameVectors, lifted_of, lifts_of}
use Rattle.outcome_list_laws.specs.SurfaceKinds.{AreOfOneKind, ListedInputsAreOfOneKind, LiftedInputsAreOfOneKind}
use Rattle.outcome_list_laws.proofs.ReadLists.{list_by, equations_of}
use Rattle.outcome_list_laws.proofs.Runs.{listed_by, listed_of, listed_skeleton}
use Rattle.outcome_list_laws.proofs.Quads.{all_lifts}
use Rattle.outcome_list_laws.proofs.Zipped.{zip_back, zip_on}

-- a second case that is equivalent to the first takes its place
second_is : (A B C D : Type 0) → (B → D) → (D → B) → IsExactlyOne A B C → IsExactlyOne A D C
second_is A B C D on back o = record {
  one = elim o.one [ inl a ↦ inl a | inr (inl b) ↦ inr (inl (on b)) | inr (inr c) ↦ inr (inr c) ];
  not_first_and_second = λ p. o.not_first_and_second (p.0, back p.1);
  not_first_and_third = o.not_first_and_third;
  not_second_and_third = λ p. o.not_second_and_third (back p.0, p.1);
}

pub listed_inputs_lem : ListedInputsAreOfOneKind
listed_inputs_lem rows quads standard listed all =
    let by = listed_by Quad rows quads listed in
    let skeleton = listed_skeleton Quad rows quads listed in
    let s : Skeleton = skeleton.0 in
    record {
      skeleton = s;
      of_rows = skeleton.1;
      is_skeleton = skeleton.2;
      quad_rows = by.0;
      of_table = by.1.of_table;
      kinds = listed_kinds s by.0 quads standard skeleton.2 (equations_of s Quad rows skeleton.1 by.0 quads by.1.surfaces by.1.of_table)
          (list_by s Quad rows skeleton.1 by.0 quads by.1.surfaces) (listed_of Standard rows standard all s skeleton.1 tt);
    }

module _ (s : Skeleton) (k : IsSkeleton s) (quads lifted lifts : List (List ℕ)) (passed : HaveSameVectors quads lifted) (are : AllZip (IsLiftOf s) lifted lifts) where
  -- the lift of a listed vector is printed, and each vector that is printed is one
  printed_lift : (ys : List ℕ) → IsListedLift s quads ys → Contains lifts ys
  printed_lift ys l =
      let m = zip_on (IsLiftOf s) lifted lifts are l.0 (among_contains l.0 lifted (All-contains (Contains lifted) quads l.0 passed.0 l.1)) in
      subst (Contains lifts) (one_lift s.rows k.table s.vertices.classes s.vertices.count k.vertices l.0 m.0 ys m.2 l.2) (contains_among m.0 lifts m.1)

  lift_printed : (ys : List ℕ) → Contains lifts ys → IsListedLift s quads ys
  lift_printed ys c =
      let m = zip_back (IsLiftOf s) lifted lifts are ys (among_contains ys lifts c) in
      (m.0, All-contains (Contains quads) lifted m.0 passed.1 (contains_among m.0 lifted m.1), m.2)

pub lifted_kinds_lem : LiftedInputsAreOfOneKind
lifted_kinds_lem rows quads standard lifted listed all runs passed =
    let known : AreOfOneKind rows quads standard (λ s ys. IsListedLift s quads ys) = listed_inputs_lem rows quads standard listed all in
    let s : Skeleton = known.skeleton in
    let are : AllZip (IsLiftOf s) (lifted_of lifted) (lifts_of lifted) = all_lifts s known.is_skeleton rows known.of_rows lifted runs in
    record {
      skeleton = s;
      of_rows = known.of_rows;
      is_skeleton = known.is_skeleton;
      quad_rows = known.quad_rows;
      of_table = known.of_table;
      kinds = λ i d l. (let ys : List ℕ = slice_index_or standard i d in
          second_is (IsVertexLink s Standard ys) (IsListedLift s quads ys) (HasQuadsOfMore s known.quad_rows quads ys) (Contains (lifts_of lifted) ys)
          (printed_lift s known.is_skeleton quads (lifted_of lifted) (lifts_of lifted) passed are ys)
          (lift_printed s known.is_skeleton quads (lifted_of lifted) (lifts_of lifted) passed are ys) (known.kinds i d l));
    }
