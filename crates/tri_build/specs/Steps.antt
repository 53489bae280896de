-- The steps of a making, and what is stored of them so that their inverses can be carried back.
use Rattle.std.specs.Prelude.{◌≡◌, ℕ, List, [], ◌∷◌, ◌++◌, map, length}
use Rattle.std.specs.List.{FoldsTo}
use Rattle.table_definitions.specs.Table.{Row}
use Rattle.table_definitions.specs.Relabelling.{Relabelling, IsRelabelling, Carries}
use Rattle.move_definitions.specs.Moves.{Move, Facet, old_facets, Plays}
use Rattle.certificate_definitions.specs.CarriedBack.{IsCarriedBack, move_back}

-- a move, the number of tetrahedra before it, and the facets that it removed
pub record PlayedMove : Type 0 where
  pub played : Move
  pub tets : ℕ
  pub facets : List Facet

-- the step led from old to new
pub record IsPlayedStep (old : List Row) (step : PlayedMove) (new : List Row) : Type 0 where
  pub plays : Plays old step.played new
  pub tets : step.tets ≡ length old
  pub facets : step.facets ≡ old_facets old step.played

abbrev pub AreSteps : List Row → List PlayedMove → List Row → Type 0
AreSteps first steps last = FoldsTo IsPlayedStep first steps last

abbrev pub moves_of : List PlayedMove → List Move
moves_of steps = map (λ (s : PlayedMove). s.played) steps

-- the step was made on old, and the relabelling on carries the table after it to now
pub record CarriesToNow (old : List Row) (step : PlayedMove) (now : List Row) (on : Relabelling) : Type 0 where
  pub new : List Row
  pub is_step : IsPlayedStep old step new
  pub relabels : IsRelabelling (length new) on
  pub carries : Carries on new now

abbrev pub CanGoBack : PlayedMove → List Row → Relabelling → Type 0
CanGoBack step now on = (old : List Row) × CarriesToNow old step now on

-- the step is carried back: its inverse move is played and appended to the moves
pub record GoesBack (old : List Row) (step : PlayedMove) (now : List Row) (on : Relabelling) (before after : List Move) (end : List Row) (by : Relabelling) : Type 0 where
  pub moves : after ≡ before ++ move_back old step.played on ∷ []
  pub plays : Plays now (move_back old step.played on) end
  pub carried : IsCarriedBack old step.played now (move_back old step.played on) on by
  pub carries : Carries by old end
