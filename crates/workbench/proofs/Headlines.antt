-- The text of a run with status Done follows from the outcome of the words and of the input.
use Rattle.std.proofs.Common.{◌≡◌, ℕ, List, Bool, true, false, Option, Some, None, Result, Ok, Err, inl, inr, refl, sym, ◌∙◌, ap, subst}
use Rattle.std.specs.Prelude.{IfSome, codes}
use Rattle.std.specs.Bool.{MatchBool}
use Rattle.text_io.specs.Causes.{Grows}
use Rattle.signature_definitions.specs.declared.InputFault.{InputFault}
use Rattle.table_definitions.specs.Table.{Row}
use Rattle.surface_definitions.specs.declared.Coords.{Coords}
use Rattle.text_document_definitions.specs.Documents.{worded, table_document, vectors_document, cone_document}
use Rattle.command_definitions.specs.declared.Request.{Request}
use Rattle.command_definitions.specs.declared.Request.TheVariants.{Verify, Surfaces, Rays}
use Rattle.cone_definitions.specs.declared.Order.{Order}
use Rattle.command_definitions.specs.Words.{accepted_request}
use Rattle.outcome_definitions.specs.declared.Status.{Status}
use Rattle.outcome_definitions.specs.declared.Status.TheVariants.{Done, Input, Large}
use Rattle.outcome_definitions.specs.Outcomes.{Outcome, too_long_outcome, fault_outcome, IsReadOutcome}
use Rattle.outcome_definitions.specs.Enumerations.{IsEnumerationAnswer, IsSurfacesAnswer, ray_enumeration, list_outcome, large_outcome}
use Rattle.outcome_definitions.specs.Answers.{IsOutcome, IsOutcomeOf, IsAnswerTo, IsVerdictsAnswer, verify_outcome, is_too_long}
use Rattle.workbench.specs.Runs.{IsAnswered}
use Rattle.workbench.specs.Prints.{PrintsSurfaces, PrintsRays, PrintsVerdicts}

-- an outcome with status Done equals only one with this status
separate : {P : Type 0} (o p : Outcome) → o.status ≡ Done → o ≡ p → (p.status ≡ Done → P) → P
separate o p done same f = f (sym (ap (λ (q : Outcome). q.status) same) ∙ done)

not_input : {P : Type 0} → Input ≡ Done → P
not_input e = absurd cc

not_large : {P : Type 0} → Large ≡ Done → P
not_large e = absurd cc

not_too_long : (b : Bool) (A : Type 0) (o : Outcome) → o.status ≡ Done → MatchBool b (o ≡ too_long_outcome) A → A
not_too_long true A o done h = separate o too_long_outcome done h not_input
not_too_long false A o done h = h

was_read : {A : Type 0} (read : Result A InputFault) (P : A → Outcome → Type 0) (o : Outcome) → o.status ≡ Done → IsReadOutcome read P o → (a : A) × (read ≡ Ok a) × P a o
was_read (Ok a) P o done h = (a, refl, h)
was_read (Err fault) P o done h = separate o (fault_outcome fault) done h not_input

reported : {A Q : Type 0} (read : Result A InputFault) (P : A → Outcome → Type 0) (o : Outcome) → (a : A) × (read ≡ Ok a) × P a o → ((a : A) → read ≡ Ok a → P a o → Q) → Q
reported read P o d f = f d.0 d.1 d.2

module _ (words : List (List ℕ)) (bytes : List ℕ) (o : Outcome) (held grown : Option (List ℕ)) (outcome : IsOutcome words bytes o) (done : o.status ≡ Done) (grows : Grows held grown o.text) where
  answered : (r : Request) → accepted_request words ≡ Some r → IsAnswerTo r bytes o
  answered r e = not_too_long (is_too_long r bytes) (IsAnswerTo r bytes o) o done (subst (λ (asked : Option Request). IsOutcomeOf asked bytes o) e outcome)

  printed : (p : Outcome) → o ≡ p → Grows held grown p.text
  printed p same = subst (λ (q : Outcome). Grows held grown q.text) same grows

  surfaces_from : (coords : Coords) (order : Order) (most : ℕ) (rows : List Row) → table_document bytes ≡ Ok rows → IsSurfacesAnswer coords order most rows o → PrintsSurfaces coords bytes held grown
  surfaces_from coords order most rows spelled h = elim h.2 [
    | inl g ↦ record { rows = rows; spelled = spelled; equations = h.0; of_table = h.1; list = g.1; surfaces = (g.2).surfaces; printed = printed (list_outcome (codes "surfaces") g.1) g.3 }
    | inr g ↦ separate o (large_outcome g.0 g.1) done g.3 not_large
  ]

  pub prints_surfaces : (coords : Coords) (order : Order) (most : ℕ) → accepted_request words ≡ Some (Surfaces coords order most) → PrintsSurfaces coords bytes held grown
  prints_surfaces coords order most e =
      reported (table_document bytes) (IsSurfacesAnswer coords order most) o
      (was_read (table_document bytes) (IsSurfacesAnswer coords order most) o done (answered (Surfaces coords order most) e))
      (surfaces_from coords order most)

  pub prints_rays : (order : Order) (most : ℕ) → accepted_request words ≡ Some (Rays order most) → PrintsRays bytes held grown
  prints_rays order most e =
      let d = was_read (worded (cone_document bytes)) (λ cone. IsEnumerationAnswer (codes "rays") (ray_enumeration order most cone)) o done (answered (Rays order most) e) in
      elim d.2 [
        | inl h ↦ record { cone = d.0; spelled = d.1; list = h.1; rays = (h.2).surfaces; printed = printed (list_outcome (codes "rays") h.1) h.3 }
        | inr h ↦ separate o (large_outcome h.0 h.1) done h.3 not_large
      ]

  verdicts_from : (coords : Coords) (d : List Row × List (List ℕ)) → vectors_document bytes ≡ Ok d → IsVerdictsAnswer coords d o → PrintsVerdicts coords bytes held grown
  verdicts_from coords d spelled h =
      record { rows = d.0; vectors = d.1; spelled = spelled; equations = h.0; of_table = h.1; printed = printed (verify_outcome coords d.0 h.0 d.1) h.2 }

  pub prints_verdicts : (coords : Coords) → accepted_request words ≡ Some (Verify coords) → PrintsVerdicts coords bytes held grown
  prints_verdicts coords e =
      reported (vectors_document bytes) (IsVerdictsAnswer coords) o (was_read (vectors_document bytes) (IsVerdictsAnswer coords) o done (answered (Verify coords) e)) (verdicts_from coords)

-- the outcome of these bytes was written, and its status is that of the run
abbrev pub Tells : List (List ℕ) → Status → Option (List ℕ) → Option (List ℕ) → List ℕ → Type 0
Tells words status held grown bytes = (o : Outcome) × IsOutcome words bytes o × (status ≡ o.status) × Grows held grown o.text

pub told_surfaces : (words : List (List ℕ)) (status : Status) (held grown left : Option (List ℕ)) → status ≡ Done → IfSome left (Tells words status held grown)
    → (coords : Coords) (order : Order) (most : ℕ) → accepted_request words ≡ Some (Surfaces coords order most) → IfSome left (λ bytes. PrintsSurfaces coords bytes held grown)
told_surfaces words status held grown None done h coords order most e = tt
told_surfaces words status held grown (Some bytes) done h coords order most e = prints_surfaces words bytes h.0 held grown h.1 (sym h.2 ∙ done) h.3 coords order most e

pub told_rays : (words : List (List ℕ)) (status : Status) (held grown left : Option (List ℕ)) → status ≡ Done → IfSome left (Tells words status held grown)
    → (order : Order) (most : ℕ) → accepted_request words ≡ Some (Rays order most) → IfSome left (λ bytes. PrintsRays bytes held grown)
told_rays words status held grown None done h order most e = tt
told_rays words status held grown (Some bytes) done h order most e = prints_rays words bytes h.0 held grown h.1 (sym h.2 ∙ done) h.3 order most e

pub told_verdicts : (words : List (List ℕ)) (status : Status) (held grown left : Option (List ℕ)) → status ≡ Done → IfSome left (Tells words status held grown)
    → (coords : Coords) → accepted_request words ≡ Some (Verify coords) → IfSome left (λ bytes. PrintsVerdicts coords bytes held grown)
told_verdicts words status held grown None done h coords e = tt
told_verdicts words status held grown (Some bytes) done h coords e = prints_verdicts words bytes h.0 held grown h.1 (sym h.2 ∙ done) h.3 coords e

pub done_answered : (status : Status) → status ≡ Done → IsAnswered status
done_answered status done = subst IsAnswered (sym done) tt
