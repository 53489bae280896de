-- Each table with vectors has an answer to `crush`, `lift` and `describe`.
use Rattle.std.proofs.Common.{◌≡◌, ◌≢◌, ℕ, ◌⊎◌, inl, inr, List, Option, Some, None, Result, Ok, Err, refl}
use Rattle.std.specs.Prelude.{sum}
use Rattle.text_definitions.specs.Written.{limit}
use Rattle.cone_definitions.specs.Rows.{Row as EquationRow}
use Rattle.table_definitions.specs.Table.{Row, IsTable}
use Rattle.skeleton_definitions.specs.Skeleton.{Skeleton, IsSkeleton, IsFirstInvalid}
use Rattle.surface_definitions.specs.Characteristic.{points, arcs, is_linking, meets_boundary}
use Rattle.skeleton_definitions.specs.Links.{euler_of as euler}
use Rattle.surface_definitions.specs.declared.Coords.{Coords}
use Rattle.surface_definitions.specs.declared.Coords.TheVariants.{Standard, Quad}
use Rattle.surface_definitions.specs.QuadEquations.{AreEquations}
use Rattle.surface_definitions.specs.Verdict.{Verdict}
use Rattle.surface_vector_definitions.specs.declared.Properties.{Properties}
use Rattle.surface_vector_definitions.specs.declared.SurfaceSum.{SurfaceSum}
use Rattle.surface_vector_definitions.specs.declared.LiftFault.{LiftFault}
use Rattle.surface_vector_definitions.specs.declared.LiftFault.TheVariants as lift_faults
use Rattle.surface_vector_definitions.specs.declared.ManyPieces.{ManyPieces}
use Rattle.surface_vector_definitions.specs.declared.Refusal.{Refusal}
use Rattle.surface_vector_definitions.specs.declared.Refusal.TheVariants.{Unfit, LargeSum, TooManyPieces, LargeLift, NoLift}
use Rattle.surface_vector_definitions.specs.Properties.{first_large, AreProperties}
use Rattle.surface_vector_definitions.specs.Components.{Component, IsPiecesAnswer}
use Rattle.surface_vector_definitions.specs.Lifting.{IsLiftAnswer}
use Rattle.surface_vector_definitions.specs.Answers.{verdict_in, IsFit, Description, IsDescription, IsLifted, IsCrushedAlong}
use Rattle.surface_vector_definitions.specs.Texts.{invalid_edge_line}
use Rattle.surface_definitions.proofs.SurfaceEvaluators.{crushed}
use Rattle.surface_laws.proofs.CrushedRows.{crushed_are}
use Rattle.surface_laws.proofs.FitSurfaces.{fit_accepted, surface_is}
use Rattle.surface_laws.proofs.Spreading.{lift_answer}
use Rattle.surface_laws.proofs.PiecesAnswered.{pieces_answer}
use Rattle.skeleton_laws.proofs.Equated.{some_equations}
use Rattle.skeleton_laws.proofs.Skeletons.{some_skeleton, some_first_invalid}
use Rattle.outcome_definitions.specs.declared.Status.TheVariants.{Refused}
use Rattle.outcome_definitions.specs.Outcomes.{Outcome}
use Rattle.outcome_definitions.specs.Vectors.{crush_outcome, IsCrushAnswer, lift_outcome, IsLiftsAnswer, describe_outcome, AreDescribed, IsInvalidAnswered, IsDescribeAnswer}
use Rattle.outcome_existence_laws.proofs.AnsweredLists.{vectors_told}

-- a table is crushed along a vector, or the vector is refused
crushed_by : (rows : List Row) (equations : List EquationRow) (xs : List ℕ) → IsTable rows → (v : Verdict) → verdict_in Standard rows equations xs ≡ v
    → (r : Result (List Row) Refusal) × IsCrushedAlong rows equations xs r
crushed_by rows equations xs table (Ok u) e = (Ok (crushed rows xs), (e, crushed_are rows xs table))
crushed_by rows equations xs table (Err fault) e = (Err (Unfit fault), e)

pub some_crush : (d : List Row × List ℕ) → IsTable d.0 → (o : Outcome) × IsCrushAnswer d o
some_crush d table =
    let q = some_equations Standard d.0 table in
    let c = crushed_by d.0 q.0 d.1 table (verdict_in Standard d.0 q.0 d.1) refl in
    (crush_outcome c.0, record { equations = q.0; of_table = q.1; reported = c.0; crushed = c.1; outcome = refl })

-- a quad vector is lifted, or refused
module _ (s : Skeleton) (k : IsSkeleton s) (equations : List EquationRow) where
  lifted_as : (xs : List ℕ) → IsFit Quad s.rows equations xs → (a : Result (List ℕ) LiftFault) → IsLiftAnswer limit s xs a → (r : Result (List ℕ) Refusal) × IsLifted s equations xs r
  lifted_as xs fit (Ok ys) h = (Ok ys, (fit, h))
  lifted_as xs fit (Err lift_faults.Large) h = (Err LargeLift, (fit, h))
  lifted_as xs fit (Err (lift_faults.NoLift c)) h = (Err (NoLift c), (fit, h))

  lifted_by : (xs : List ℕ) (v : Verdict) → verdict_in Quad s.rows equations xs ≡ v → (r : Result (List ℕ) Refusal) × IsLifted s equations xs r
  lifted_by xs (Ok u) e =
      let a = lift_answer limit s k xs (fit_accepted Quad s.rows equations xs e).solves.width in
      lifted_as xs e a.0 a.1
  lifted_by xs (Err fault) e = (Err (Unfit fault), e)

pub some_lifts : (d : List Row × List (List ℕ)) → IsTable d.0 → (o : Outcome) × IsLiftsAnswer d o
some_lifts d table =
    let s = some_skeleton d.0 table in
    let q = some_equations Quad d.0 table in
    let t = vectors_told (IsLifted s.0 q.0) d.1 (λ xs. lifted_by s.0 s.2 q.0 xs (verdict_in Quad s.0.rows q.0 xs) refl) in
    (lift_outcome t.0, record { skeleton = s.0; of_rows = s.1; is_skeleton = s.2; equations = q.0; of_table = q.1; reported = t.0; lifted = t.1; outcome = refl })

-- a vector is described, or refused
module _ (s : Skeleton) (k : IsSkeleton s) (coords : Coords) (triangles : coords ≢ Quad) (equations : List EquationRow) (of_table : AreEquations coords s.rows equations) where
  abbrev Told : List ℕ → Type 0
  Told xs = (r : Result Description Refusal) × IsDescription s coords equations xs r

  abbrev properties : List ℕ → Properties
  properties xs = record {
    points = points coords xs s.edges.classes s.edges.count;
    arcs = arcs s.rows coords xs;
    pieces = sum xs;
    euler = euler (points coords xs s.edges.classes s.edges.count) (arcs s.rows coords xs) (sum xs);
    linking = is_linking coords xs;
    boundary = meets_boundary s.rows coords xs;
  }

  are_properties : (xs : List ℕ) → AreProperties s coords xs (properties xs)
  are_properties xs = record { points = refl; arcs = refl; pieces = refl; euler = refl; linking = refl; boundary = refl }

  by_pieces : (xs : List ℕ) → IsFit coords s.rows equations xs → first_large limit s coords xs ≡ None → (a : Result (List Component) ManyPieces)
      → IsPiecesAnswer s.rows coords xs a → Told xs
  by_pieces xs fit none (Ok components) h =
      (Ok (record { vector = xs; properties = properties xs; components = components }), (fit, refl, (none, are_properties xs), h))
  by_pieces xs fit none (Err many) h = (Err (TooManyPieces many.count), (fit, none, h))

  by_sums : (xs : List ℕ) → IsFit coords s.rows equations xs → (o : Option SurfaceSum) → first_large limit s coords xs ≡ o → Told xs
  by_sums xs fit (Some large) e = (Err (LargeSum large), (fit, e))
  by_sums xs fit None e =
      let a = pieces_answer s.rows coords xs (surface_is coords s.rows equations xs triangles k.table of_table fit) in
      by_pieces xs fit e a.0 a.1

  by_verdict : (xs : List ℕ) (v : Verdict) → verdict_in coords s.rows equations xs ≡ v → Told xs
  by_verdict xs (Ok u) e = by_sums xs e (first_large limit s coords xs) refl
  by_verdict xs (Err fault) e = (Err (Unfit fault), e)

  described : (vectors : List (List ℕ)) → (o : Outcome) × AreDescribed s coords vectors o
  described vectors =
      let t = vectors_told (IsDescription s coords equations) vectors (λ xs. by_verdict xs (verdict_in coords s.rows equations xs) refl) in
      (describe_outcome s coords t.0, record { equations = equations; of_table = of_table; reported = t.0; described = t.1; outcome = refl })

by_first : (s : Skeleton) → IsSkeleton s → (coords : Coords) → coords ≢ Quad → (vectors : List (List ℕ)) (first : Option ℕ) → IsFirstInvalid s first
    → (o : Outcome) × (IsInvalidAnswered s o ⊎ (IsFirstInvalid s None × AreDescribed s coords vectors o))
by_first s k coords triangles vectors (Some c) h = (record { status = Refused; text = invalid_edge_line c }, inl (c, h, refl))
by_first s k coords triangles vectors None h =
    let q = some_equations coords s.rows k.table in
    let d = described s k coords triangles q.0 q.1 vectors in
    (d.0, inr (h, d.1))

pub some_describe : (coords : Coords) (d : List Row × List (List ℕ)) → coords ≢ Quad → IsTable d.0 → (o : Outcome) × IsDescribeAnswer coords d o
some_describe coords d triangles table =
    let s = some_skeleton d.0 table in
    let f = some_first_invalid s.0 s.2 in
    let t = by_first s.0 s.2 coords triangles d.1 f.0 f.1 in
    (t.0, record { skeleton = s.0; of_rows = s.1; is_skeleton = s.2; reported = t.1 })
