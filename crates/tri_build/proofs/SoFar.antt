-- A making continues step by step, and its table has its certificate.
use Rattle.std.proofs.Common.{◌≡◌, ℕ, ◌+◌, ◌<◌, ◌≤◌, List, [], ◌∷◌, ◌++◌, length, Some, inl, inr, sym, ap, ◌∙◌, subst, arith}
use Rattle.std.proofs.lemmas.Fn.{FoldsTo-push}
use Rattle.std.proofs.lemmas.List.{length-map, length-append, map-append}
use Rattle.table_definitions.specs.Table.{Row}
use Rattle.table_definitions.specs.Relabelling.{Relabelling}
use Rattle.move_definitions.specs.Moves.{Move}
use Rattle.move_definitions.specs.Certificates.{standard_sphere, next_state, candidates, drawn, IsCertificate, IsMaking}
use Rattle.certificate_definitions.specs.CarriedBack.{AreCarriedBack}
use Rattle.certificate_definitions.specs.Makings.{IsMade}
use Rattle.certificate_definitions.specs.SoFar.{Stage, Makes, MakesSoFar}
use Rattle.certificate_laws.proofs.Loops.{makings_go_on_lem, makings_are_done_lem}
use Rattle.certificate_laws.proofs.Made.{made_are_certified_lem}
use Rattle.certificate_laws.proofs.OneWay.{carried_long}
use Rattle.tri_build.specs.Steps.{PlayedMove, IsPlayedStep, AreSteps, moves_of}

abbrev pub stage : ℕ → List Row → Stage
stage state table = record { state = state; table = table }

-- the state of a making after some of its steps
abbrev pub IsMadeSoFar : ℕ → List Row → ℕ → List PlayedMove → ℕ → List Row → Type 0
IsMadeSoFar seed first most steps state table = MakesSoFar (stage seed first) (moves_of steps) (stage state table) × AreSteps first steps table × (length steps ≤ most)

pub step_made : (seed : ℕ) (first : List Row) (most : ℕ) (steps more : List PlayedMove) (state next : ℕ) (table new : List Row) (step : PlayedMove) → IsMadeSoFar seed first most steps state table → next ≡ next_state state
    → drawn next (candidates table) ≡ Some step.played → IsPlayedStep table step new → more ≡ steps ++ step ∷ [] → length steps < most → IsMadeSoFar seed first most more next new
step_made seed first most steps more state next table new step (so_far, steps_are, limited) n d is e less =
    let made : Makes (stage state table) step.played (stage next new) = record { state = n; draws = subst (λ x. drawn x (candidates table) ≡ Some step.played) n d; plays = is.plays } in
    let moves : moves_of steps ++ step.played ∷ [] ≡ moves_of more = sym (map-append (λ (s : PlayedMove). s.played) steps (step ∷ [])) ∙ ap moves_of (sym e) in
    let long : length more ≡ length steps + 1 = ap (λ (ss : List PlayedMove). length ss) e ∙ length-append steps (step ∷ []) in (
      subst (λ (ms : List Move). MakesSoFar (stage seed first) ms (stage next new)) moves (makings_go_on_lem (stage seed first) (moves_of steps) (stage state table) step.played (stage next new) so_far made),
      subst (λ (ss : List PlayedMove). AreSteps first ss new) (sym e) (FoldsTo-push IsPlayedStep first steps table step new steps_are is),
      omega arith,
    )

-- a making ends if no move can be drawn, or if as many as requested are made
pub none_left : (seed : ℕ) (first : List Row) (most : ℕ) (steps : List PlayedMove) (state : ℕ) (table last : List Row) → IsMadeSoFar seed first most steps state table → candidates table ≡ [] → last ≡ table
    → IsMaking most seed first (moves_of steps) last
none_left seed first most steps state table last (so_far, steps_are, limited) none e =
    subst (λ (t : List Row). IsMaking most seed first (moves_of steps) t) (sym e)
    (makings_are_done_lem most (stage seed first) (moves_of steps) (stage state table) so_far (let long = length-map steps (λ (s : PlayedMove). s.played) in omega arith) (inr none))

pub all_made : (seed : ℕ) (first : List Row) (most : ℕ) (steps : List PlayedMove) (state : ℕ) (table : List Row) → IsMadeSoFar seed first most steps state table → most ≤ length steps → IsMaking most seed first (moves_of steps) table
all_made seed first most steps state table (so_far, steps_are, limited) enough =
    let long : length (moves_of steps) ≡ length steps = length-map steps (λ (s : PlayedMove). s.played) in
    makings_are_done_lem most (stage seed first) (moves_of steps) (stage state table) so_far (omega arith) (inl (omega arith))

-- the certificate of a table that is made: the inverse moves, from the last step to the first
abbrev pub IsWay : List PlayedMove → List Row → List Move → Type 0
IsWay steps table certificate = (first : List Row) → AreSteps first steps table → (end : List Row) × (by : Relabelling) × AreCarriedBack first (moves_of steps) table certificate end by

pub is_made : (seed most : ℕ) (start table : List Row) (steps : List PlayedMove) (certificate : List Move) → start ≡ standard_sphere → IsMaking most seed start (moves_of steps) table → AreSteps start steps table → IsWay steps table certificate
    → IsMade seed most table certificate
is_made seed most start table steps certificate e making are way =
    let there = way start are in (
      moves_of steps,
      subst (λ (t : List Row). IsMaking most seed t (moves_of steps) table) e making,
      (there.0, there.1, subst (λ (t : List Row). AreCarriedBack t (moves_of steps) table certificate there.0 there.1) e there.2),
    )

pub certified : (seed most : ℕ) (start table : List Row) (steps : List PlayedMove) (certificate : List Move) → start ≡ standard_sphere → IsMaking most seed start (moves_of steps) table → AreSteps start steps table → IsWay steps table certificate
    → IsCertificate table certificate
certified seed most start table steps certificate e making are way = made_are_certified_lem seed most table certificate (is_made seed most start table steps certificate e making are way)

pub few_back : (start table : List Row) (steps : List PlayedMove) (certificate : List Move) (most : ℕ) → AreSteps start steps table → IsWay steps table certificate → length steps ≤ most → length certificate ≤ most
few_back start table steps certificate most are way limited =
    let there = way start are in
    let long : length certificate ≡ length (moves_of steps) = carried_long start (moves_of steps) table certificate there.0 there.1 there.2 in
    let same : length (moves_of steps) ≡ length steps = length-map steps (λ (s : PlayedMove). s.played) in
    omega arith
