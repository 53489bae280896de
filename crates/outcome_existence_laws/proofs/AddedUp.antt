-- Each table with blocks has an answer to `addup`.
use Rattle.std.proofs.Common.{◌≡◌, ℕ, List, [], ◌∷◌, Option, Some, None, Result, Ok, Err, refl}
use Rattle.std.specs.List.{AllZip, AllByRecursion}
use Rattle.std.proofs.lemmas.List.Elements.{All-from_recursion}
use Rattle.text_definitions.specs.Written.{limit}
use Rattle.cone_definitions.specs.Rows.{Row as EquationRow}
use Rattle.table_definitions.specs.Table.{Row, IsTable}
use Rattle.surface_definitions.specs.declared.Coords.{Coords}
use Rattle.surface_definitions.specs.declared.VectorFault.{VectorFault}
use Rattle.surface_definitions.specs.Verdict.{Verdict}
use Rattle.surface_vector_definitions.specs.Answers.{verdict_in, IsFit}
use Rattle.sum_definitions.specs.Sums.{Term}
use Rattle.sum_definitions.specs.Adding.{add_fault}
use Rattle.sum_definitions.specs.declared.AddFault.{AddFault}
use Rattle.text_document_definitions.specs.Blocks.{Block}
use Rattle.skeleton_laws.proofs.Equated.{some_equations}
use Rattle.outcome_definitions.specs.declared.SumRefusal.{SumRefusal}
use Rattle.outcome_definitions.specs.declared.SumRefusal.TheVariants.{Unfit, UnfitTerm, NoSum}
use Rattle.outcome_definitions.specs.Outcomes.{Outcome}
use Rattle.outcome_definitions.specs.Sums.{AreAnswered, IsVerdict, IsTermVerdict, AreFit, IsAddedUp, IsAddupAnswer, addup_outcome}
use Rattle.outcome_existence_laws.proofs.AnsweredLists.{told_of}

any_each : {A : Type 0} (xs : List A) → AllByRecursion (λ x. Unit {0}) xs
any_each [] = tt
any_each (x ∷ xs) = (tt, any_each xs)

module _ (coords : Coords) (rows : List Row) (equations : List EquationRow) where
  pub verdicts_told : (vectors : List (List ℕ)) → (t : Result (List (Unit {0})) (ℕ × VectorFault)) × AreAnswered (IsVerdict coords rows equations) vectors t
  verdicts_told vectors = told_of (IsVerdict coords rows equations) (λ x. Unit {0}) vectors (λ x u. (verdict_in coords rows equations x, refl)) (any_each vectors)

  all_terms_fit : (terms : List Term) (passed : List (Unit {0})) → AllZip (λ term a. IsTermVerdict coords rows equations term (Ok a)) terms passed
      → AllByRecursion (λ (term : Term). IsFit coords rows equations term.vector) terms
  all_terms_fit [] [] h = tt
  all_terms_fit [] (a ∷ others) h = absurd h
  all_terms_fit (t ∷ ts) [] h = absurd h
  all_terms_fit (t ∷ ts) (a ∷ others) h = (h.0, all_terms_fit ts others h.1)

  abbrev Told : Block → Type 0
  Told block = (r : Result (Unit {0}) SumRefusal) × IsAddedUp coords rows equations block r

  by_sum : (block : Block) → AreFit coords rows equations block → (o : Option AddFault) → add_fault limit block.vector block.times block.terms ≡ o → Told block
  by_sum block fit None e = (Ok tt, (fit, e))
  by_sum block fit (Some fault) e = (Err (NoSum fault), (fit, e))

  by_terms : (block : Block) → IsFit coords rows equations block.vector → (t : Result (List (Unit {0})) (ℕ × VectorFault))
      → AreAnswered (IsTermVerdict coords rows equations) block.terms t → Told block
  by_terms block fit (Err refusal) h = (Err (UnfitTerm refusal.0 refusal.1), (fit, h))
  by_terms block fit (Ok passed) h =
      by_sum block
      (record { vector = fit; terms = All-from_recursion (λ (term : Term). IsFit coords rows equations term.vector) block.terms (all_terms_fit block.terms passed h) })
      (add_fault limit block.vector block.times block.terms) refl

  by_vector : (block : Block) (v : Verdict) → verdict_in coords rows equations block.vector ≡ v → Told block
  by_vector block (Err fault) e = (Err (Unfit fault), e)
  by_vector block (Ok u) e =
      let t = told_of (IsTermVerdict coords rows equations) (λ (term : Term). Unit {0}) block.terms (λ (term : Term) u. (verdict_in coords rows equations term.vector, refl))
      (any_each block.terms) in
      by_terms block e t.0 t.1

  added_or_not : (block : Block) → Told block
  added_or_not block = by_vector block (verdict_in coords rows equations block.vector) refl

pub some_addup : (coords : Coords) (d : List Row × List Block) → IsTable d.0 → (o : Outcome) × IsAddupAnswer coords d o
some_addup coords d table =
    let q = some_equations coords d.0 table in
    let t = told_of (IsAddedUp coords d.0 q.0) (λ block. Unit {0}) d.1 (λ block u. added_or_not coords d.0 q.0 block) (any_each d.1) in
    (addup_outcome t.0, record { equations = q.0; of_table = q.1; reported = t.0; added = t.1; outcome = refl })
