-- Items that are numbered: chains reach what choices of neighbours reach.
use Rattle.std.proofs.Common.{◌≡◌, ◌↔◌, ℕ, ◌<◌, List, [], ◌∷◌, Option, Some, None, refl, sym, ap, subst, ◌∙◌}
use Rattle.std.specs.Prelude.{option_map, option_and_then}
use Rattle.table_definitions.specs.Table.{Row, IsTable}
use Rattle.table_definitions.specs.Places.{Place, IsPlace, across, along, IsJoined}
use Rattle.table_definitions.proofs.ChainLaws.{step_back, face_crossed}
use Rattle.skeleton_class_laws.specs.Neighbours.{led, IsLed, IsReversible}

-- n items with numbers below n, and the items that their steps reach
pub record AreCounted (rows : List Row) (n : ℕ) (place : ℕ → Place) (number : Place → ℕ) (next : ℕ → ℕ → Option ℕ) : Type 0 where
  pub steps : (i f : ℕ) → next i f ≡ option_map number (across rows (place i) f)
  pub numbered : (i : ℕ) → i < n → number (place i) ≡ i
  pub are_places : (i : ℕ) → i < n → IsPlace (place i)
  pub lands : (i f : ℕ) (q : Place) → i < n → across rows (place i) f ≡ Some q → (q ≡ place (number q)) × (number q < n)

module _ (rows : List Row) (n : ℕ) (place : ℕ → Place) (number : Place → ℕ) (next : ℕ → ℕ → Option ℕ) (a : AreCounted rows n place number next) where
  mapped : (o : Option Place) (j : ℕ) → option_map number o ≡ Some j → (q : Place) × (o ≡ Some q) × (number q ≡ j)
  mapped None j e = absurd cc
  mapped (Some q) j e = (q, refl, let f : number q ≡ j = cc in f)

  -- a step by numbers is a step
  pub stepped : (i f j : ℕ) → i < n → next i f ≡ Some j → (across rows (place i) f ≡ Some (place j)) × (j < n)
  stepped i f j l e =
      let m : (q : Place) × (across rows (place i) f ≡ Some q) × (number q ≡ j) = mapped (across rows (place i) f) j (sym (a.steps i f) ∙ e) in
      let h = a.lands i f m.0 l m.1 in
      (m.1 ∙ ap (λ (q : Place). Some q) (h.0 ∙ ap place m.2), subst (λ k. k < n) m.2 h.1)

  -- a step is a step by numbers
  steps_on : (i f : ℕ) (q : Place) → i < n → across rows (place i) f ≡ Some q → (next i f ≡ Some (number q)) × (q ≡ place (number q)) × (number q < n)
  steps_on i f q l e = let h = a.lands i f q l e in (a.steps i f ∙ ap (λ (o : Option Place). option_map number o) e, h.0, h.1)

  along_led : (fs : List ℕ) (i j : ℕ) → i < n → led next i fs ≡ Some j → along rows (place i) fs ≡ Some (place j)
  along_led [] i j l e = let same : i ≡ j = cc in ap (λ k. Some (place k)) same
  along_led (f ∷ fs) i j l e = by_step (λ k m s. along_led fs k j m s) (next i f) refl e
    where
      by_step : ((k : ℕ) → k < n → led next k fs ≡ Some j → along rows (place k) fs ≡ Some (place j)) → (o : Option ℕ) → next i f ≡ o → option_and_then (λ k. led next k fs) o ≡ Some j → along rows (place i) (f ∷ fs) ≡ Some (place j)
      by_step later None h s = absurd cc
      by_step later (Some k) h s = let t = stepped i f k l h in ap (λ (o : Option Place). option_and_then (λ r. along rows r fs) o) t.0 ∙ later k t.1 s

  led_along : (fs : List ℕ) (i : ℕ) (q : Place) → i < n → along rows (place i) fs ≡ Some q → led next i fs ≡ Some (number q)
  led_along [] i q l e = let same : place i ≡ q = cc in ap Some (sym (a.numbered i l) ∙ ap number same)
  led_along (f ∷ fs) i q l e = by_step (λ k m s. led_along fs k q m s) (across rows (place i) f) refl e
    where
      by_step : ((k : ℕ) → k < n → along rows (place k) fs ≡ Some q → led next k fs ≡ Some (number q)) → (o : Option Place) → across rows (place i) f ≡ o → option_and_then (λ r. along rows r fs) o ≡ Some q → led next i (f ∷ fs) ≡ Some (number q)
      by_step later None h s = absurd cc
      by_step later (Some r) h s =
          let t = steps_on i f r l h in
          ap (λ (o : Option ℕ). option_and_then (λ k. led next k fs) o) t.0 ∙ later (number r) t.2 (subst (λ (p : Place). along rows p fs ≡ Some q) t.1 s)

  pub led_is_joined : (i j : ℕ) → i < n → j < n → IsLed next i j ↔ IsJoined rows (place i) (place j)
  led_is_joined i j l m = (λ h. (h.0, along_led h.0 i j l h.1), λ h. (h.0, led_along h.0 i (place j) l h.1 ∙ ap Some (a.numbered j m)))

  -- steps have inverses
  module _ (table : IsTable rows) where
    pub reversible : IsReversible n next
    reversible i f j l m e =
        let t = stepped i f j l e in
        let b = step_back rows (place i) f (place j) table (a.are_places i l) t.0 in
        (t.1, (b.0, b.1, a.steps j b.0 ∙ ap (λ (o : Option Place). option_map number o) b.2 ∙ ap Some (a.numbered i l)))

    pub few_faces : (i f j : ℕ) → i < n → next i f ≡ Some j → f < 4
    few_faces i f j l e = face_crossed rows (place i) f (place j) table (stepped i f j l e).0
