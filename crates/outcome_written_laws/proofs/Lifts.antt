-- The text of a table and its lifts is read as the table and the lifts.
use Rattle.std.proofs.Common.{◌≡◌, ◌+◌, ◌*◌, ◌≤◌, ℕ, List, [], ◌∷◌, ◌++◌, length, Result, Ok, Err, inl, refl, sym, ap, ◌∙◌, subst, arith}
use Rattle.std.specs.Prelude.{All, sum}
use Rattle.std.specs.List.{AllZip}
use Rattle.std.proofs.lemmas.List.Elements.{All-nil, All-cons}
use Rattle.text_definitions.specs.Text.{pieces, lines_from}
use Rattle.text_definitions.specs.Written.{limit}
use Rattle.cone_definitions.specs.Rows.{Row as EquationRow}
use Rattle.cone_text_definitions.specs.VectorText.{list_text}
use Rattle.table_definitions.specs.Table.{Row, IsTable}
use Rattle.table_definitions.specs.TableText.{table_text}
use Rattle.skeleton_definitions.specs.Skeleton.{Skeleton, IsSkeleton}
use Rattle.surface_definitions.specs.Coordinates.{columns, clash_list}
use Rattle.surface_definitions.specs.declared.Coords.TheVariants.{Standard, Quad}
use Rattle.surface_definitions.specs.declared.VectorFault.TheVariants as faults
use Rattle.surface_definitions.proofs.VerdictLaws.{accepted_by}
use Rattle.surface_vector_definitions.specs.Answers.{IsLifted, AreAnswered}
use Rattle.surface_vector_definitions.specs.Texts.{lifts_text}
use Rattle.surface_vector_definitions.specs.declared.Refusal.{Refusal}
use Rattle.surface_vector_definitions.specs.declared.Refusal.TheVariants.{Unfit, LargeSum, TooManyPieces, LargeLift, NoLift}
use Rattle.surface_laws.specs.LiftLaws.{IsLiftOf}
use Rattle.surface_laws.specs.PieceLaws.{IsSurface}
use Rattle.surface_laws.proofs.LiftLemmas.{lift_solves, lift_projects, quads_admissible}
use Rattle.surface_definitions.specs.Equations.{matching_rows}
use Rattle.text_document_definitions.specs.Documents.{vectors_document}
use Rattle.text_document_laws.proofs.Documents.{vectors_document_read}
use Rattle.cone_text_definitions.specs.VectorText.{vector_at}
use Rattle.command_definitions.specs.declared.Request.TheVariants.{Lift, Verify}
use Rattle.outcome_definitions.specs.declared.Status.TheVariants.{Done}
use Rattle.outcome_definitions.specs.Outcomes.{Outcome}
use Rattle.outcome_definitions.specs.Enumerations.{AreUpTo}
use Rattle.outcome_definitions.specs.Vectors.{refusal_status, lift_outcome, IsLiftsAnswer}
use Rattle.outcome_definitions.specs.Answers.{verify_outcome, IsVerdictsAnswer}
use Rattle.outcome_laws.proofs.Certified.{table_with_lines}
use Rattle.outcome_written_laws.proofs.WrittenTables.{BeginsWithTable, table_lines}
use Rattle.outcome_written_laws.proofs.WrittenVectors.{only_vectors}
use Rattle.outcome_answer_laws.proofs.Asked.{answer_to, answer_to_value}
use Rattle.outcome_written_laws.specs.Lifts.{IsReadAsLifts, LiftsAreRead, AreVerifiedLifts, LiftsAreVerified}
use Rattle.outcome_written_laws.proofs.Entries.{each_entry}
use Rattle.outcome_written_laws.proofs.Verdicts.{solutions_are_told}
use Rattle.outcome_written_laws.proofs.LiftEntries.{lifts_within}

-- the text of a table, followed by vectors, is read as the table and the vectors
vectors_read : (rows : List Row) (list : List (List ℕ)) → IsTable rows → AreUpTo limit list → vectors_document (table_text rows ++ list_text list) ≡ Ok (rows, list)
vectors_read rows list table within =
    let b : BeginsWithTable rows table (table_text rows ++ list_text list) (list_text list) = table_lines rows table (list_text list) in
    (vectors_document_read (table_text rows ++ list_text list) rows list).1 (b.lines, lines_from (2 + length rows) (pieces (list_text list)), b.split, inl b.are, only_vectors (2 + length rows) list within)

same_text : (lifts : List (List ℕ)) → lifts_text lifts ≡ list_text lifts
unfolding lifts_text
same_text lifts = refl

-- the status of a refusal is not that of success
pub never_done : (refusal : Refusal) → refusal_status refusal ≡ Done → ⊥
never_done (Unfit (faults.Length n)) e = cc
never_done (Unfit (faults.Large i)) e = cc
never_done (Unfit (faults.NotSolution i)) e = cc
never_done (Unfit (faults.Clash a b)) e = cc
never_done (LargeSum n) e = cc
never_done (TooManyPieces n) e = cc
never_done LargeLift e = cc
never_done (NoLift c) e = cc

module _ (s : Skeleton) (k : IsSkeleton s) (equations : List EquationRow) where
  one_lift : (xs ys : List ℕ) → IsLifted s equations xs (Ok ys) → IsLiftOf s xs ys × All (λ entry. entry ≤ limit) ys × IsSurface s.rows Standard ys
  one_lift xs ys t =
      let accepted = accepted_by limit (columns Quad (length s.rows)) equations (clash_list Quad (length s.rows)) xs t.0 in
      let room : 4 * sum xs ≤ limit = (t.1).0 in (
        (t.1).1,
        each_entry ys limit (λ j. omega (arith, room, lifts_within s xs ys k accepted.solves.width (t.1).1 j)),
        record {
          table = k.table;
          triangles = tt;
          solves = lift_solves s.rows k.table s.vertices.classes s.vertices.count k.vertices xs ys (t.1).1;
          admissible = quads_admissible (length s.rows) xs ys (lift_projects s.rows k.table s.vertices.classes s.vertices.count k.vertices xs ys accepted.solves.width (t.1).1) accepted.admissible;
        },
      )

  all_lifts : (vectors lifts : List (List ℕ)) → AllZip (λ xs ys. IsLifted s equations xs (Ok ys)) vectors lifts → AllZip (IsLiftOf s) vectors lifts × AreUpTo limit lifts × All (IsSurface s.rows Standard) lifts
  all_lifts [] [] t = (tt, All-nil (λ (x : List ℕ). All (λ entry. entry ≤ limit) x), All-nil (IsSurface s.rows Standard))
  all_lifts [] (y ∷ ys) t = absurd t
  all_lifts (x ∷ xs) [] t = absurd t
  all_lifts (x ∷ xs) (y ∷ ys) t =
      let first = one_lift x y t.0 in
      let more = all_lifts xs ys t.1 in
      ((first.0, more.0), All-cons (λ (v : List ℕ). All (λ entry. entry ≤ limit) v) y ys first.1 more.1, All-cons (IsSurface s.rows Standard) y ys first.2 more.2)

  lifts_read : (rows : List Row) → s.rows ≡ rows → IsTable rows → (vectors : List (List ℕ)) (o : Outcome) (reported : Result (List (List ℕ)) (ℕ × Refusal))
      → AreAnswered (IsLifted s equations) vectors reported → o ≡ lift_outcome reported → o.status ≡ Done → IsReadAsLifts rows vectors o.text
  lifts_read rows of_rows table vectors o (Err refusal) t e done = absurd (never_done refusal.1 (sym (ap (λ (q : Outcome). q.status) e) ∙ done))
  lifts_read rows of_rows table vectors o (Ok lifts) t e done =
      let all = all_lifts vectors lifts t in record {
        skeleton = s;
        of_rows = of_rows;
        is_skeleton = k;
        lifts = lifts;
        are = all.0;
        surfaces = subst (λ (r : List Row). All (IsSurface r Standard) lifts) of_rows all.2;
        read = ap (λ (q : Outcome). vectors_document (table_text rows ++ q.text)) e ∙ ap (λ (text : List ℕ). vectors_document (table_text rows ++ text)) (same_text lifts) ∙ vectors_read rows lifts table all.1;
      }

pub lifts_are_read_lem : LiftsAreRead
lifts_are_read_lem words bytes o rows vectors asked spelled done =
    let a : IsLiftsAnswer (rows, vectors) o = answer_to_value (vectors_document bytes) (rows, vectors) IsLiftsAnswer o spelled (answer_to Lift words bytes o asked) in
    lifts_read a.skeleton a.is_skeleton a.equations rows a.of_rows (table_with_lines vector_at bytes (rows, vectors) spelled) vectors o a.reported a.lifted a.outcome done

verified : (rows : List Row) (lifts : List (List ℕ)) (p : Outcome) → All (IsSurface rows Standard) lifts → IsVerdictsAnswer Standard (rows, lifts) p → AreVerifiedLifts rows lifts p
verified rows lifts p surfaces h = record {
  verdicts = λ i d l. (let surface = surfaces i d l in solutions_are_told Standard rows (matching_rows Standard rows) _ surface.solves surface.admissible);
  outcome = h.2 ∙ ap (λ (es : List EquationRow). verify_outcome Standard rows es lifts) h.1;
}

pub lifts_are_verified_lem : LiftsAreVerified
lifts_are_verified_lem words asked bytes o p rows vectors lifted spelled done verify =
    let read = lifts_are_read_lem words bytes o rows vectors lifted spelled done in (
      read,
      verified rows read.lifts p read.surfaces
          (answer_to_value (vectors_document (table_text rows ++ o.text)) (rows, read.lifts) (IsVerdictsAnswer Standard) p read.read (answer_to (Verify Standard) asked (table_text rows ++ o.text) p verify)),
    )
