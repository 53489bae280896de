-- The inverse moves of steps, from the last step to the first.
use Rattle.std.proofs.Common.{◌≡◌, ℕ, List, [], ◌∷◌, ◌++◌, length, refl, sym, ap, ◌∙◌, subst, arith, append_assoc, append-nil}
use Rattle.std.proofs.lemmas.List.{map-append}
use Rattle.table_definitions.specs.Table.{Row, IsTable}
use Rattle.table_definitions.specs.Relabelling.{Relabelling, IsRelabelling, Carries}
use Rattle.move_definitions.specs.Moves.{Move}
use Rattle.certificate_definitions.specs.CarriedBack.{staying, AreCarriedBack}
use Rattle.certificate_laws.proofs.CarriedWays.{staying_relabels, staying_carries}
use Rattle.tri_build.specs.Steps.{PlayedMove, IsPlayedStep, AreSteps, moves_of, CarriesToNow, GoesBack}

-- the last step, and those before it
pub record AreThen (first : List Row) (steps : List PlayedMove) (step : PlayedMove) (last : List Row) : Type 0 where
  pub table : List Row
  pub before : AreSteps first steps table
  pub then : IsPlayedStep table step last

pub parted : (first : List Row) (steps : List PlayedMove) (step : PlayedMove) (last : List Row) → AreSteps first (steps ++ step ∷ []) last → AreThen first steps step last
parted first [] step last (next, h, e) = record { table = first; before = refl; then = subst (λ (t : List Row). IsPlayedStep first step t) e h }
parted first (s ∷ ss) step last (next, h, rest) =
    let later : AreThen next ss step last = parted next ss step last rest in
    record { table = later.table; before = (next, h, later.before); then = later.then }

-- the state after the inverse moves of the last steps: the steps `left` remain
pub record IsOnWay (first : List Row) (all : List PlayedMove) (last : List Row) (left : List PlayedMove) (now : List Row) (on : Relabelling) (back : List Move) : Type 0 where
  pub table : List Row
  pub steps : AreSteps first left table
  pub done : List Move
  pub moves : moves_of left ++ done ≡ moves_of all
  pub relabels : IsRelabelling (length table) on
  pub carries : Carries on table now
  pub carried : AreCarriedBack table done last back now on

pub begun : (first : List Row) (all : List PlayedMove) (last : List Row) → IsTable last → AreSteps first all last → IsOnWay first all last all last (staying (length last)) []
begun first all last table steps = record {
  table = last;
  steps = steps;
  done = [];
  moves = append-nil (moves_of all);
  relabels = staying_relabels (length last);
  carries = staying_carries last table;
  carried = (refl, refl, refl, refl);
}

-- the last step that remains
pub record IsNext (first : List Row) (all : List PlayedMove) (last : List Row) (left : List PlayedMove) (step : PlayedMove) (now : List Row) (on : Relabelling) (back : List Move) : Type 0 where
  pub old : List Row
  pub before : CarriesToNow old step now on
  pub on_way : (after : List Move) (end : List Row) (by : Relabelling) → GoesBack old step now on back after end by → IsOnWay first all last left end by after

pub next_is : (first : List Row) (all : List PlayedMove) (last : List Row) (left : List PlayedMove) (step : PlayedMove) (now : List Row) (on : Relabelling) (back : List Move) → IsOnWay first all last (left ++ step ∷ []) now on back
    → IsNext first all last left step now on back
next_is first all last left step now on back w = record {
  old = p.table;
  before = record { new = w.table; is_step = p.then; relabels = w.relabels; carries = w.carries };
  on_way = λ after end by g. record {
    table = p.table;
    steps = p.before;
    done = step.played ∷ w.done;
    moves = sym (append_assoc (moves_of left) (step.played ∷ []) w.done) ∙ ap (λ ms. ms ++ w.done) (sym (map-append (λ (s : PlayedMove). s.played) left (step ∷ []))) ∙ w.moves;
    relabels = g.carried.relabels;
    carries = g.carries;
    carried = (w.table, p.then.plays, (back, now, on, w.carried, g.moves, g.plays, g.carried));
  };
}
  where
    p : AreThen first left step w.table
    p = parted first left step w.table w.steps

-- if no step remains, the inverse moves are complete
pub arrived : (first : List Row) (all : List PlayedMove) (last : List Row) (left : List PlayedMove) (now : List Row) (on : Relabelling) (back : List Move) → left ≡ [] → IsOnWay first all last left now on back
    → (end : List Row) × (by : Relabelling) × AreCarriedBack first (moves_of all) last back end by
arrived first all last left now on back none w = (now, on, subst (λ (ms : List Move). AreCarriedBack first ms last back now on) moves there)
  where
    moves : w.done ≡ moves_of all
    moves = ap (λ (ss : List PlayedMove). moves_of ss ++ w.done) (sym none) ∙ w.moves

    at : first ≡ w.table
    at = subst (λ (ss : List PlayedMove). AreSteps first ss w.table) none w.steps

    there : AreCarriedBack first w.done last back now on
    there = subst (λ (t : List Row). AreCarriedBack t w.done last back now on) (sym at) w.carried

-- the same by the values of the function's variables

pub begun_as : (first : List Row) (all : List PlayedMove) (last now : List Row) (count : ℕ) (on : Relabelling) (back : List Move) → IsTable last → now ≡ last → count ≡ length last → on ≡ staying count → back ≡ [] → AreSteps first all last
    → IsOnWay first all last all now on back
begun_as first all last now count on back table n k o b steps =
    subst (λ (ms : List Move). IsOnWay first all last all now on ms) (sym b)
    (subst (λ (r : Relabelling). IsOnWay first all last all now r []) (sym (o ∙ ap staying k)) (subst (λ (t : List Row). IsOnWay first all last all t (staying (length last)) []) (sym n) (begun first all last table steps)))

pub next_as : (first : List Row) (all : List PlayedMove) (last : List Row) (steps left : List PlayedMove) (step : PlayedMove) (now : List Row) (on : Relabelling) (back : List Move) → steps ≡ left ++ step ∷ [] → IsOnWay first all last steps now on back
    → IsNext first all last left step now on back
next_as first all last steps left step now on back e w = next_is first all last left step now on back (subst (λ (ss : List PlayedMove). IsOnWay first all last ss now on back) e w)

pub no_items : (steps : List PlayedMove) → length steps ≡ 0 → steps ≡ []
no_items [] e = refl
no_items (s ∷ ss) e = absurd (omega arith)
