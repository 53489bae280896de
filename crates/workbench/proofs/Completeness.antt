-- The outcome of a run on a document of `surfaces` or `rays`, for each status.
use Rattle.std.proofs.Common.{◌≡◌, ◌≤◌, ℕ, List, length, Option, Some, None, Ok, inl, inr, refl, ◌∙◌, ap, subst}
use Rattle.std.specs.Prelude.{◌⊎◌, IfSome, codes}
use Rattle.text_io.specs.Causes.{Grows}
use Rattle.cone_text_definitions.specs.ConeText.{Cone as ConeText}
use Rattle.cone_definitions.specs.declared.Order.{Order}
use Rattle.table_definitions.specs.Table.{Row}
use Rattle.surface_definitions.specs.declared.Coords.{Coords}
use Rattle.text_document_definitions.specs.Documents.{worded, table_document, cone_document}
use Rattle.command_definitions.specs.declared.Request.{Request}
use Rattle.command_definitions.specs.declared.Request.TheVariants.{Surfaces, Rays}
use Rattle.command_definitions.specs.Words.{accepted_request}
use Rattle.outcome_definitions.specs.declared.Status.{Status}
use Rattle.outcome_definitions.specs.declared.Status.TheVariants.{Done, Usage, Input, Refused, Large, ReadFault, WriteFault, NoMemory}
use Rattle.outcome_definitions.specs.Outcomes.{Outcome, IsReadOutcome}
use Rattle.outcome_definitions.specs.Enumerations.{IsEnumerationAnswer, IsSurfacesAnswer, ray_enumeration, list_outcome, large_outcome}
use Rattle.outcome_definitions.specs.Answers.{IsOutcomeOf, IsAnswerTo, is_too_long, most_bytes}
use Rattle.outcome_answer_laws.proofs.Asked.{within, not_long}
use Rattle.workbench.specs.Runs.{IsAnswered}
use Rattle.workbench.specs.Prints.{AnswersSurfaces, AnswersRays, IsCutShort}
use Rattle.workbench.proofs.Headlines.{Tells}

module _ (words : List (List ℕ)) (bytes : List ℕ) (limited : length bytes ≤ most_bytes) (status : Status) (held grown : Option (List ℕ)) (t : Tells words status held grown bytes) where
  abbrev o : Outcome
  o = t.0

  answered : (r : Request) → accepted_request words ≡ Some r → IsAnswerTo r bytes o
  answered r e = within (is_too_long r bytes) (IsAnswerTo r bytes o) o (not_long r bytes limited) (subst (λ (asked : Option Request). IsOutcomeOf asked bytes o) e t.1)

  has_status : (p : Outcome) → o ≡ p → status ≡ p.status
  has_status p same = t.2 ∙ ap (λ (q : Outcome). q.status) same

  printed : (p : Outcome) → o ≡ p → Grows held grown p.text
  printed p same = subst (λ (q : Outcome). Grows held grown q.text) same t.3

  surfaces_answered : (coords : Coords) (order : Order) (most : ℕ) (rows : List Row) → IsSurfacesAnswer coords order most rows o → AnswersSurfaces coords order most rows status held grown
  surfaces_answered coords order most rows h = elim h.2 [
    | inl g ↦ inl (record { done = has_status (list_outcome (codes "surfaces") g.1) g.3; equations = h.0; of_table = h.1; list = g.1; surfaces = (g.2).surfaces; printed = printed (list_outcome (codes "surfaces") g.1) g.3 })
    | inr g ↦ inr (inl (h.0, h.1, record { large = has_status (large_outcome g.0 g.1) g.3; taken = g.0; kind = g.1; exceeded = g.2; named = printed (large_outcome g.0 g.1) g.3 }))
  ]

  answers_surfaces : (coords : Coords) (order : Order) (most : ℕ) (rows : List Row) → accepted_request words ≡ Some (Surfaces coords order most) → table_document bytes ≡ Ok rows
      → AnswersSurfaces coords order most rows status held grown
  answers_surfaces coords order most rows e spelled =
      surfaces_answered coords order most rows (subst (λ r. IsReadOutcome r (IsSurfacesAnswer coords order most) o) spelled (answered (Surfaces coords order most) e))

  rays_answered : (order : Order) (most : ℕ) (cone : ConeText) → IsEnumerationAnswer (codes "rays") (ray_enumeration order most cone) o → AnswersRays order most cone status held grown
  rays_answered order most cone (inl g) = inl (record { done = has_status (list_outcome (codes "rays") g.1) g.3; list = g.1; rays = (g.2).surfaces; printed = printed (list_outcome (codes "rays") g.1) g.3 })
  rays_answered order most cone (inr g) = inr (inl (record { large = has_status (large_outcome g.0 g.1) g.3; taken = g.0; kind = g.1; exceeded = g.2; named = printed (large_outcome g.0 g.1) g.3 }))

  answers_rays : (order : Order) (most : ℕ) (cone : ConeText) → accepted_request words ≡ Some (Rays order most) → worded (cone_document bytes) ≡ Ok cone → AnswersRays order most cone status held grown
  answers_rays order most cone e spelled =
      rays_answered order most cone (subst (λ r. IsReadOutcome r (λ c. IsEnumerationAnswer (codes "rays") (ray_enumeration order most c)) o) spelled (answered (Rays order most) e))

-- a status is that of an outcome that was written, or the run was cut short
pub answered_or_cut : (status : Status) → IsAnswered status ⊎ IsCutShort status
answered_or_cut Done = inl tt
answered_or_cut Usage = inl tt
answered_or_cut Input = inl tt
answered_or_cut Refused = inl tt
answered_or_cut Large = inl tt
answered_or_cut ReadFault = inr (inl refl)
answered_or_cut WriteFault = inr (inr (inl refl))
answered_or_cut NoMemory = inr (inr (inr refl))

module _ (words : List (List ℕ)) (status : Status) (held grown : Option (List ℕ)) where
  -- the clause of `surfaces` for these bytes
  abbrev pub SurfacesOn : Coords → Order → ℕ → List ℕ → Type 0
  SurfacesOn coords order most bytes = (rows : List Row) → length bytes ≤ most_bytes → table_document bytes ≡ Ok rows → AnswersSurfaces coords order most rows status held grown

  abbrev pub RaysOn : Order → ℕ → List ℕ → Type 0
  RaysOn order most bytes = (cone : ConeText) → length bytes ≤ most_bytes → worded (cone_document bytes) ≡ Ok cone → AnswersRays order most cone status held grown

  cut_surfaces : (left : Option (List ℕ)) → IsCutShort status → (coords : Coords) (order : Order) (most : ℕ) → IfSome left (SurfacesOn coords order most)
  cut_surfaces None cut coords order most = tt
  cut_surfaces (Some bytes) cut coords order most = λ rows limited spelled. inr (inr cut)

  cut_rays : (left : Option (List ℕ)) → IsCutShort status → (order : Order) (most : ℕ) → IfSome left (RaysOn order most)
  cut_rays None cut order most = tt
  cut_rays (Some bytes) cut order most = λ cone limited spelled. inr (inr cut)

  told_surfaces_on : (left : Option (List ℕ)) → IfSome left (Tells words status held grown) → (coords : Coords) (order : Order) (most : ℕ)
      → accepted_request words ≡ Some (Surfaces coords order most) → IfSome left (SurfacesOn coords order most)
  told_surfaces_on None h coords order most e = tt
  told_surfaces_on (Some bytes) h coords order most e = λ rows limited spelled. answers_surfaces words bytes limited status held grown h coords order most rows e spelled

  told_rays_on : (left : Option (List ℕ)) → IfSome left (Tells words status held grown) → (order : Order) (most : ℕ)
      → accepted_request words ≡ Some (Rays order most) → IfSome left (RaysOn order most)
  told_rays_on None h order most e = tt
  told_rays_on (Some bytes) h order most e = λ cone limited spelled. answers_rays words bytes limited status held grown h order most cone e spelled

  pub all_surfaces : (left : Option (List ℕ)) → (IsAnswered status → IfSome left (Tells words status held grown)) → (coords : Coords) (order : Order) (most : ℕ)
      → accepted_request words ≡ Some (Surfaces coords order most) → IfSome left (SurfacesOn coords order most)
  all_surfaces left h coords order most e = elim (answered_or_cut status) [
    | inl reported ↦ told_surfaces_on left (h reported) coords order most e
    | inr cut ↦ cut_surfaces left cut coords order most
  ]

  pub all_rays : (left : Option (List ℕ)) → (IsAnswered status → IfSome left (Tells words status held grown)) → (order : Order) (most : ℕ)
      → accepted_request words ≡ Some (Rays order most) → IfSome left (RaysOn order most)
  all_rays left h order most e = elim (answered_or_cut status) [
    | inl reported ↦ told_rays_on left (h reported) order most e
    | inr cut ↦ cut_rays left cut order most
  ]
