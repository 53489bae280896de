-- The lifts and crushed tables of accepted vectors, and the faults of other vectors, are unique.
use Rattle.std.proofs.Common.{◌≡◌, ℕ, List, Result, Ok, Err, sym, ap, ◌∙◌, refl}
use Rattle.cone_definitions.specs.Rows.{Row as EquationRow}
use Rattle.text_definitions.specs.Written.{limit}
use Rattle.table_definitions.specs.Table.{Row, IsTable}
use Rattle.skeleton_definitions.specs.Skeleton.{Skeleton, IsSkeleton}
use Rattle.surface_definitions.specs.declared.Coords.{Coords}
use Rattle.surface_definitions.specs.declared.Coords.TheVariants.{Standard, Quad}
use Rattle.surface_definitions.specs.Verdict.{Verdict, solution}
use Rattle.surface_vector_definitions.specs.declared.LiftFault.{LiftFault}
use Rattle.surface_vector_definitions.specs.declared.LiftFault.TheVariants.{Large, NoLift}
use Rattle.surface_vector_definitions.specs.Answers.{IsUnfit, IsFit, IsLifted, IsCrushedAlong, AreAnswered}
use Rattle.surface_vector_definitions.specs.declared.Refusal.{Refusal}
use Rattle.surface_vector_definitions.specs.declared.Refusal.TheVariants as refusals
use Rattle.surface_definitions.specs.declared.VectorFault.{VectorFault}
use Rattle.surface_vector_definitions.proofs.AnswerLemmas.{told_once}
use Rattle.surface_laws.proofs.LiftLemmas.{one_lift_answer}
use Rattle.surface_laws.proofs.CrushedRows.{crushed_once}

fit_or_not : (coords : Coords) (rows : List Row) (equations : List EquationRow) (xs : List ℕ) (fault : VectorFault) → IsFit coords rows equations xs → IsUnfit coords rows equations xs fault → ⊥
fit_or_not coords rows equations xs fault f g = (let z : solution ≡ Err fault = sym f ∙ g in absurd cc)

one_fault : (coords : Coords) (rows : List Row) (equations : List EquationRow) (xs : List ℕ) (f g : VectorFault) → IsUnfit coords rows equations xs f → IsUnfit coords rows equations xs g → f ≡ g
one_fault coords rows equations xs f g h k = (let z : (let r : Verdict = Err f in r ≡ Err g) = sym h ∙ k in cc)

lifts_same : (ys zs : List ℕ) → (let r : Result (List ℕ) LiftFault = Ok ys in r ≡ Ok zs) → ys ≡ zs
lifts_same ys zs e = cc

classes_same : (c d : ℕ) → (let r : Result (List ℕ) LiftFault = Err (NoLift c) in r ≡ Err (NoLift d)) → c ≡ d
classes_same c d e = cc

large_or_none : (c : ℕ) → (let r : Result (List ℕ) LiftFault = Err Large in r ≡ Err (NoLift c)) → ⊥
large_or_none c e = absurd cc

lift_or_fault : (ys : List ℕ) (f : LiftFault) → (let r : Result (List ℕ) LiftFault = Ok ys in r ≡ Err f) → ⊥
lift_or_fault ys f e = absurd cc

pub lifted_once : (s : Skeleton) (equations : List EquationRow) (xs : List ℕ) (k : IsSkeleton s) (a b : Result (List ℕ) Refusal) → IsLifted s equations xs a → IsLifted s equations xs b → a ≡ b
lifted_once s equations xs k (Ok ys) (Ok zs) f g = ap Ok (lifts_same ys zs (one_lift_answer limit s xs (Ok ys) (Ok zs) k f.1 g.1))
lifted_once s equations xs k (Ok ys) (Err (refusals.Unfit v)) f g = absurd (fit_or_not Quad s.rows equations xs v f.0 g)
lifted_once s equations xs k (Ok ys) (Err refusals.LargeLift) f g = absurd (lift_or_fault ys Large (one_lift_answer limit s xs (Ok ys) (Err Large) k f.1 g.1))
lifted_once s equations xs k (Ok ys) (Err (refusals.NoLift c)) f g = absurd (lift_or_fault ys (NoLift c) (one_lift_answer limit s xs (Ok ys) (Err (NoLift c)) k f.1 g.1))
lifted_once s equations xs k (Ok ys) (Err (refusals.LargeSum t)) f g = absurd g
lifted_once s equations xs k (Ok ys) (Err (refusals.TooManyPieces n)) f g = absurd g
lifted_once s equations xs k (Err (refusals.Unfit v)) (Ok zs) f g = absurd (fit_or_not Quad s.rows equations xs v g.0 f)
lifted_once s equations xs k (Err (refusals.Unfit v)) (Err (refusals.Unfit w)) f g = ap (λ u. Err (refusals.Unfit u)) (one_fault Quad s.rows equations xs v w f g)
lifted_once s equations xs k (Err (refusals.Unfit v)) (Err refusals.LargeLift) f g = absurd (fit_or_not Quad s.rows equations xs v g.0 f)
lifted_once s equations xs k (Err (refusals.Unfit v)) (Err (refusals.NoLift c)) f g = absurd (fit_or_not Quad s.rows equations xs v g.0 f)
lifted_once s equations xs k (Err (refusals.Unfit v)) (Err (refusals.LargeSum t)) f g = absurd g
lifted_once s equations xs k (Err (refusals.Unfit v)) (Err (refusals.TooManyPieces n)) f g = absurd g
lifted_once s equations xs k (Err refusals.LargeLift) (Ok zs) f g = absurd (lift_or_fault zs Large (one_lift_answer limit s xs (Ok zs) (Err Large) k g.1 f.1))
lifted_once s equations xs k (Err (refusals.NoLift c)) (Ok zs) f g = absurd (lift_or_fault zs (NoLift c) (one_lift_answer limit s xs (Ok zs) (Err (NoLift c)) k g.1 f.1))
lifted_once s equations xs k (Err refusals.LargeLift) (Err (refusals.Unfit w)) f g = absurd (fit_or_not Quad s.rows equations xs w f.0 g)
lifted_once s equations xs k (Err (refusals.NoLift c)) (Err (refusals.Unfit w)) f g = absurd (fit_or_not Quad s.rows equations xs w f.0 g)
lifted_once s equations xs k (Err refusals.LargeLift) (Err refusals.LargeLift) f g = refl
lifted_once s equations xs k (Err refusals.LargeLift) (Err (refusals.NoLift d)) f g = absurd (large_or_none d (one_lift_answer limit s xs (Err Large) (Err (NoLift d)) k f.1 g.1))
lifted_once s equations xs k (Err (refusals.NoLift c)) (Err refusals.LargeLift) f g = absurd (large_or_none c (one_lift_answer limit s xs (Err Large) (Err (NoLift c)) k g.1 f.1))
lifted_once s equations xs k (Err (refusals.NoLift c)) (Err (refusals.NoLift d)) f g = ap (λ u. Err (refusals.NoLift u)) (classes_same c d (one_lift_answer limit s xs (Err (NoLift c)) (Err (NoLift d)) k f.1 g.1))
lifted_once s equations xs k (Err refusals.LargeLift) (Err (refusals.LargeSum t)) f g = absurd g
lifted_once s equations xs k (Err (refusals.NoLift c)) (Err (refusals.LargeSum t)) f g = absurd g
lifted_once s equations xs k (Err refusals.LargeLift) (Err (refusals.TooManyPieces n)) f g = absurd g
lifted_once s equations xs k (Err (refusals.NoLift c)) (Err (refusals.TooManyPieces n)) f g = absurd g
lifted_once s equations xs k (Err (refusals.LargeSum t)) b f g = absurd f
lifted_once s equations xs k (Err (refusals.TooManyPieces n)) b f g = absurd f

pub lifted_each : (s : Skeleton) (equations : List EquationRow) (vectors : List (List ℕ)) (a b : Result (List (List ℕ)) (ℕ × Refusal)) → IsSkeleton s
    → AreAnswered (IsLifted s equations) vectors a → AreAnswered (IsLifted s equations) vectors b → a ≡ b
lifted_each s equations vectors a b k f g = told_once (IsLifted s equations) (λ xs c d. lifted_once s equations xs k c d) vectors a b f g

pub crushed_along_once : (rows : List Row) (equations : List EquationRow) (xs : List ℕ) (a b : Result (List Row) Refusal) → IsTable rows
    → IsCrushedAlong rows equations xs a → IsCrushedAlong rows equations xs b → a ≡ b
crushed_along_once rows equations xs (Ok new) (Ok other) t f g = ap Ok (crushed_once rows xs t new other f.1 g.1)
crushed_along_once rows equations xs (Ok new) (Err (refusals.Unfit v)) t f g = absurd (fit_or_not Standard rows equations xs v f.0 g)
crushed_along_once rows equations xs (Ok new) (Err refusals.LargeLift) t f g = absurd g
crushed_along_once rows equations xs (Ok new) (Err (refusals.NoLift c)) t f g = absurd g
crushed_along_once rows equations xs (Ok new) (Err (refusals.LargeSum e)) t f g = absurd g
crushed_along_once rows equations xs (Ok new) (Err (refusals.TooManyPieces n)) t f g = absurd g
crushed_along_once rows equations xs (Err (refusals.Unfit v)) (Ok other) t f g = absurd (fit_or_not Standard rows equations xs v g.0 f)
crushed_along_once rows equations xs (Err (refusals.Unfit v)) (Err (refusals.Unfit w)) t f g = ap (λ u. Err (refusals.Unfit u)) (one_fault Standard rows equations xs v w f g)
crushed_along_once rows equations xs (Err (refusals.Unfit v)) (Err refusals.LargeLift) t f g = absurd g
crushed_along_once rows equations xs (Err (refusals.Unfit v)) (Err (refusals.NoLift c)) t f g = absurd g
crushed_along_once rows equations xs (Err (refusals.Unfit v)) (Err (refusals.LargeSum e)) t f g = absurd g
crushed_along_once rows equations xs (Err (refusals.Unfit v)) (Err (refusals.TooManyPieces n)) t f g = absurd g
crushed_along_once rows equations xs (Err refusals.LargeLift) b t f g = absurd f
crushed_along_once rows equations xs (Err (refusals.NoLift c)) b t f g = absurd f
crushed_along_once rows equations xs (Err (refusals.LargeSum e)) b t f g = absurd f
crushed_along_once rows equations xs (Err (refusals.TooManyPieces n)) b t f g = absurd f
