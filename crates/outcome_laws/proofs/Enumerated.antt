-- An enumeration in a named order has a unique answer: one list, or one ray or pair at which a number exceeds the
-- limit.
use Rattle.std.proofs.Common.{◌≡◌, ◌≢◌, ℕ, inl, inr, List, sym, ap, ap₂, ◌∙◌}
use Rattle.std.proofs.lemmas.List.Sorted.{IsPermutation-refl}
use Rattle.cone_definitions.specs.Listings.{Enumeration, IsListed}
use Rattle.cone_definitions.specs.declared.Order.TheVariants.{Free}
use Rattle.cone_definitions.proofs.Next.{one_surface_list_lem}
use Rattle.cone_definitions.proofs.PastLimit.{one_past, none_past}
use Rattle.outcome_definitions.specs.Outcomes.{Outcome}
use Rattle.outcome_definitions.specs.Enumerations.{IsLargeAnswered, IsEnumerationAnswer, list_outcome, large_outcome}

one_list : (e : Enumeration) (taken others : List ℕ) (list other : List (List ℕ)) → IsListed e taken list → IsListed e others other → list ≡ other
one_list e taken others list other h g =
    one_surface_list_lem e.system.columns e.system.rows e.system.rows e.pairs list other (IsPermutation-refl e.system.rows) h.surfaces g.surfaces

pub one_past_told : (e : Enumeration) (o p : Outcome) → e.order ≢ Free → IsLargeAnswered e o → IsLargeAnswered e p → o ≡ p
one_past_told e o p some h g = (let both = one_past e h.0 g.0 h.1 g.1 some h.2 g.2 in h.3 ∙ ap₂ large_outcome both.0 both.1 ∙ sym g.3)

pub one_enumeration : (name : List ℕ) (e : Enumeration) (o p : Outcome) → e.order ≢ Free → IsEnumerationAnswer name e o → IsEnumerationAnswer name e p → o ≡ p
one_enumeration name e o p some (inl h) (inl g) = h.3 ∙ ap (list_outcome name) (one_list e h.0 g.0 h.1 g.1 h.2 g.2) ∙ sym g.3
one_enumeration name e o p some (inl h) (inr g) = absurd (none_past e h.0 g.0 h.1 g.1 some h.2 g.2)
one_enumeration name e o p some (inr h) (inl g) = absurd (none_past e g.0 h.0 g.1 h.1 some g.2 h.2)
one_enumeration name e o p some (inr h) (inr g) = one_past_told e o p some h g
