-- The generator makes one table with one certificate.
use Rattle.std.proofs.Common.{◌≡◌, ℕ, zero, suc, true, List, [], ◌∷◌, ◌++◌, length, Option, Some, None, refl, sym, subst, arith, inl, inr}
use Rattle.std.specs.Prelude.{◌⊎◌, filter, is_none, nat_lt, if◌then◌else◌}
use Rattle.basic_lemmas.proofs.Options.{both_none}
use Rattle.table_definitions.specs.Table.{max_tets, Row, IsTable}
use Rattle.table_definitions.specs.Relabelling.{AreIsomorphic}
use Rattle.table_definitions.proofs.TableLaws.{Among}
use Rattle.table_definitions.proofs.Listed.{filter-among}
use Rattle.move_definitions.specs.Moves.{Move, IsCore, move_fault, play_fault, new_length, Plays, PlaysAll}
use Rattle.move_definitions.specs.declared.MoveFault.{MoveFault}
use Rattle.move_definitions.specs.declared.MoveFault.TheVariants.{TooMany}
use Rattle.move_definitions.specs.Certificates.{standard_sphere, is_accepted, two_three_moves, three_two_moves, one_four_moves, candidates, drawn, next_state, IsMaking}
use Rattle.certificate_definitions.specs.CarriedBack.{AreCarriedBack}
use Rattle.certificate_definitions.specs.Makings.{IsMade}
use Rattle.signature_laws.proofs.Invariance.{relabels_back}
use Rattle.move_laws.proofs.Cores.{drawn_core, these_or, drawn_among}
use Rattle.move_laws.proofs.Played.{makings_agree_lem, played_table, all_led_table}
use Rattle.move_laws.proofs.LedOn.{legal_moves_lead_on_lem}
use Rattle.certificate_laws.specs.Laws.{InversesReturn, InversesCarry, InversesAgree, TablesAreMade, OneIsMade, MadeAreCertified}
use Rattle.certificate_laws.proofs.CarriedWays.{IsWayBack, way_back_of}
use Rattle.certificate_laws.proofs.OneWay.{IsThere, carried_leads, carried_long, IsOneWay, carried_agree}
use Rattle.certificate_laws.proofs.Sphere.{sphere_table}

pub ways_lead_back_lem : InversesReturn
ways_lead_back_lem rows moves last table led = let w : IsWayBack rows moves last = way_back_of rows moves last table led in (w.back, w.end, w.by, w.are)

pub ways_back_lead_lem : InversesCarry
ways_back_lead_lem rows moves last back end by table are = let t : IsThere rows last back end by = carried_leads rows moves last back end by table are in (t.leads, t.relabels, t.carries, carried_long rows moves last back end by are)

pub ways_back_agree_lem : InversesAgree
ways_back_agree_lem rows moves last last' back back' end end' by by' table a b =
    let w : IsOneWay last last' back back' end end' by by' = carried_agree rows moves last last' back back' end end' by by' table a b in (w.back_is, w.end_is, w.by_is)

-- an accepted move can be played

pub accepted_leads : (rows : List Row) (m : Move) → IsTable rows → IsCore m.core → play_fault rows m ≡ None → (next : List Row) × Plays rows m next
accepted_leads rows m table c e =
    let legal : move_fault rows m ≡ None = (both_none (move_fault rows m) (if nat_lt max_tets (new_length rows m) then Some TooMany else None) e).0 in
    let led = legal_moves_lead_on_lem rows m table c legal in
    (led.0, record { table = table; moved = led.1; accepted = e })

pub accepted_none : (o : Option MoveFault) → is_none o ≡ true → o ≡ None
accepted_none None e = refl
accepted_none (Some f) e = cc

-- a drawn move is accepted

candidate_accepted : (rows : List Row) (m : Move) → Among m (candidates rows) → play_fault rows m ≡ None
unfolding candidates
candidate_accepted rows m h =
    elim (these_or (filter (is_accepted rows) (two_three_moves (length rows) ++ three_two_moves (length rows))) (filter (is_accepted rows) (one_four_moves (length rows))) m h) [
      | inl a ↦ accepted_none (play_fault rows m) (filter-among (is_accepted rows) m (two_three_moves (length rows) ++ three_two_moves (length rows)) a).1
      | inr a ↦ accepted_none (play_fault rows m) (filter-among (is_accepted rows) m (one_four_moves (length rows)) a).1
    ]

pub drawn_accepted : (x : ℕ) (rows : List Row) (m : Move) → drawn x (candidates rows) ≡ Some m → play_fault rows m ≡ None
drawn_accepted x rows m e = candidate_accepted rows m (drawn_among x (candidates rows) m e)

pub drawn_leads : (x : ℕ) (rows : List Row) (m : Move) → IsTable rows → drawn x (candidates rows) ≡ Some m → (next : List Row) × Plays rows m next
drawn_leads x rows m table e = accepted_leads rows m table (drawn_core x rows m e) (drawn_accepted x rows m e)

-- the generator continues to the end of a making

some_drawn : (x : ℕ) (ms : List Move) → (ms ≡ []) ⊎ ((m : Move) × (drawn x ms ≡ Some m))
some_drawn x [] = inl refl
some_drawn x (m ∷ ms) = inr (_, refl)

pub making_of : (most x : ℕ) (rows : List Row) → IsTable rows → (moves : List Move) × (last : List Row) × IsMaking most x rows moves last
making_of zero x rows table = ([], rows, (refl, inl refl))
making_of (suc most) x rows table = from (some_drawn (next_state x) (candidates rows)) (λ next t. making_of most (next_state x) next t)
  where
    from : (candidates rows ≡ []) ⊎ ((m : Move) × (drawn (next_state x) (candidates rows) ≡ Some m))
        → ((next : List Row) → IsTable next → (moves : List Move) × (last : List Row) × IsMaking most (next_state x) next moves last)
        → (moves : List Move) × (last : List Row) × IsMaking (suc most) x rows moves last
    from (inl none) go = ([], rows, (refl, inr none))
    from (inr (m, e)) go =
        let led = drawn_leads (next_state x) rows m table e in
        let rest = go led.0 (played_table rows m led.0 led.1) in
        (m ∷ rest.0, rest.1, (most, omega arith, e, (led.0, led.1, rest.2)))

pub making_leads : (most x : ℕ) (rows : List Row) (moves : List Move) (last : List Row) → IsTable rows → IsMaking most x rows moves last → PlaysAll rows moves last
making_leads most x rows [] last table h = h.0
making_leads most x rows (m ∷ ms) last table (rest, e, first, (next, plays, later)) =
    (next, plays, making_leads rest (next_state x) next ms last (played_table rows m next plays) later)

pub tables_are_made_lem : TablesAreMade
tables_are_made_lem seed most =
    let making = making_of most seed standard_sphere sphere_table in
    let w : IsWayBack standard_sphere making.0 making.1 = way_back_of standard_sphere making.0 making.1 sphere_table (making_leads most seed standard_sphere making.0 making.1 sphere_table making.2) in
    (making.1, w.back, (making.0, making.2, (w.end, w.by, w.are)))

pub one_is_made_lem : OneIsMade
one_is_made_lem seed most table table' certificate certificate' (moves, making, (end, by, are)) (moves', making', (end', by', are')) =
    let same : (moves ≡ moves') × (table ≡ table') = makings_agree_lem most seed standard_sphere moves table moves' table' making making' in
    let there : AreCarriedBack standard_sphere moves table' certificate' end' by' = subst (λ (ms : List Move). AreCarriedBack standard_sphere ms table' certificate' end' by') (sym same.0) are' in
    (same.1, (carried_agree standard_sphere moves table table' certificate certificate' end end' by by' sphere_table are there).back_is)

pub made_are_certified_lem : MadeAreCertified
made_are_certified_lem seed most table certificate (moves, making, (end, by, are)) =
    let t : IsThere standard_sphere table certificate end by = carried_leads standard_sphere moves table certificate end by sphere_table are in
    let r : AreIsomorphic standard_sphere end = (by, t.relabels, t.carries) in
    (end, t.leads, relabels_back standard_sphere end sphere_table r)

-- a table that is made is a table
pub made_table : (seed most : ℕ) (table : List Row) (certificate : List Move) → IsMade seed most table certificate → IsTable table
made_table seed most table certificate (moves, making, back) = all_led_table standard_sphere moves table sphere_table (making_leads most seed standard_sphere moves table sphere_table making)
