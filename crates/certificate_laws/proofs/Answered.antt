-- A table and moves with cores have an answer, and a table has a descent.
use Rattle.std.proofs.Common.{◌≡◌, ℕ, zero, suc, ◌+◌, ◌<◌, ◌≤◌, Bool, true, false, List, [], ◌∷◌, length, Option, Some, None, Ok, Err, refl, sym, ap, ◌∙◌, arith, inl, inr}
use Rattle.std.specs.Prelude.{◌⊎◌, ◌≢◌, All, find}
use Rattle.std.proofs.lemmas.Bool.{false≢true}
use Rattle.basic_lemmas.proofs.Options.{one_or_other}
use Rattle.basic_lemmas.proofs.Lists.{found_passes}
use Rattle.table_definitions.specs.Lists.{same_list}
use Rattle.table_definitions.specs.Table.{Row, IsTable}
use Rattle.table_definitions.specs.Places.{IsConnected}
use Rattle.table_definitions.proofs.ChainLaws.{connected_or_not}
use Rattle.signature_definitions.specs.Spelling.{IsSignature}
use Rattle.move_definitions.specs.Moves.{Move, IsCore, play_fault, Plays, PlaysAll}
use Rattle.move_definitions.specs.declared.MoveFault.{MoveFault}
use Rattle.move_definitions.specs.Certificates.{IsStandard, four_one_moves, three_two_moves, is_accepted, descent_move, IsDescent}
use Rattle.certificate_definitions.specs.Answers.{CheckAnswer, IsRefusedAt, IsChecked, sphere_text, Descended, IsDescended}
use Rattle.certificate_definitions.specs.declared.CheckFault.TheVariants.{Illegal, NotConnected, NotStandard}
use Rattle.table_definitions.proofs.ListFacts.{same_list-true, same_list-refl}
use Rattle.move_laws.proofs.Cores.{descent_core}
use Rattle.move_laws.proofs.Played.{played_table, all_led_table}
use Rattle.signature_laws.proofs.Connected.{connected_or_unreached_lem}
use Rattle.signature_laws.proofs.Walks.{signatures_exist_lem}
use Rattle.certificate_laws.specs.Laws.{AnswersExist, StandardOrNot, DescentsExist}
use Rattle.certificate_laws.proofs.Made.{accepted_leads, accepted_none}
use Rattle.certificate_laws.proofs.Checked.{standard_connected, standard_text, text_standard}
use Rattle.certificate_laws.proofs.Descents.{descents_lessen_lem, descent_leads}

-- moves can all be played, or one is refused

refused_later : (rows : List Row) (m : Move) (next : List Row) (ms : List Move) (step : ℕ) (fault : MoveFault) → Plays rows m next → IsRefusedAt next ms step fault → IsRefusedAt rows (m ∷ ms) (step + 1) fault
refused_later rows m next ms step fault first r = record {
  before = m ∷ r.before;
  refused = r.refused;
  after = r.after;
  all = ap (λ (ks : List Move). m ∷ ks) r.all;
  place = (let p = r.place in omega (arith, p));
  table = r.table;
  led = (next, first, r.led);
  refuses = r.refuses;
}

pub led_or_refused : (rows : List Row) (moves : List Move) → IsTable rows → All (λ (m : Move). IsCore m.core) moves → ((last : List Row) × PlaysAll rows moves last) ⊎ ((step : ℕ) × (fault : MoveFault) × IsRefusedAt rows moves step fault)
led_or_refused rows [] table cores = inl (rows, refl)
led_or_refused rows (m ∷ ms) table cores = by_fault (play_fault rows m) refl (λ next t. led_or_refused next ms t (λ k d l. cores (suc k) d (omega arith)))
  where
    by_fault : (o : Option MoveFault) → play_fault rows m ≡ o → ((next : List Row) → IsTable next → ((last : List Row) × PlaysAll next ms last) ⊎ ((step : ℕ) × (fault : MoveFault) × IsRefusedAt next ms step fault))
        → ((last : List Row) × PlaysAll rows (m ∷ ms) last) ⊎ ((step : ℕ) × (fault : MoveFault) × IsRefusedAt rows (m ∷ ms) step fault)
    by_fault (Some fault) e go = inr (1, fault, record { before = []; refused = m; after = ms; all = refl; place = refl; table = rows; led = refl; refuses = e })
    by_fault None e go =
        let led = accepted_leads rows m table (cores 0 m (omega arith)) e in
        elim (go led.0 (played_table rows m led.0 led.1)) [
          | inl w ↦ inl (w.0, (led.0, led.1, w.1))
          | inr r ↦ inr (r.0 + 1, r.1, refused_later rows m led.0 ms r.0 r.1 led.1 r.2)
        ]

-- whether a text is that of the standard sphere
text_or_not : (text : List ℕ) → (text ≡ sphere_text) ⊎ (text ≢ sphere_text)
text_or_not text = by_test (same_list text sphere_text) refl
  where
    by_test : (b : Bool) → same_list text sphere_text ≡ b → (text ≡ sphere_text) ⊎ (text ≢ sphere_text)
    by_test true e = inl (same_list-true text sphere_text e)
    by_test false e = inr (λ same. false≢true (sym e ∙ ap (λ t. same_list t sphere_text) same ∙ same_list-refl sphere_text))

pub answers_exist_lem : AnswersExist
answers_exist_lem rows moves table cores = elim (led_or_refused rows moves table cores) [
  | inl w ↦ by_table w.0 w.1
  | inr r ↦ (Err (Illegal r.0 r.1), r.2)
]
  where
    by_text : (last : List Row) → PlaysAll rows moves last → IsConnected last → (text : List ℕ) → IsSignature last text → (text ≡ sphere_text) ⊎ (text ≢ sphere_text) → (answer : CheckAnswer) × IsChecked rows moves answer
    by_text last led c text h (inl e) = (Ok tt, (last, led, text_standard last text (all_led_table rows moves last table led) h e))
    by_text last led c text h (inr n) = (Err (NotStandard text), (last, led, c, h, n))

    by_table : (last : List Row) → PlaysAll rows moves last → (answer : CheckAnswer) × IsChecked rows moves answer
    by_table last led =
        let t : IsTable last = all_led_table rows moves last table led in
        elim (connected_or_unreached_lem last t) [
          | inl c ↦ (let s = signatures_exist_lem last t c in by_text last led c s.0 s.1 (text_or_not s.0))
          | inr u ↦ (Err (NotConnected u.0), (last, led, u.1))
        ]

-- a table is isomorphic to the standard sphere or not

pub standard_or_not_lem : StandardOrNot
standard_or_not_lem rows table = elim (connected_or_unreached_lem rows table) [
  | inl c ↦ (let s = signatures_exist_lem rows table c in by_text s.0 s.1 (text_or_not s.0))
  | inr u ↦ inr (λ s. connected_or_not rows u.0 (standard_connected rows table s) u.1)
]
  where
    by_text : (text : List ℕ) → IsSignature rows text → (text ≡ sphere_text) ⊎ (text ≢ sphere_text) → IsStandard rows ⊎ (IsStandard rows → ⊥)
    by_text text h (inl e) = inl (text_standard rows text table h e)
    by_text text h (inr n) = inr (λ s. n (standard_text rows text table s h))

-- a table has a descent

pub descent_accepted : (rows : List Row) (m : Move) → descent_move rows ≡ Some m → play_fault rows m ≡ None
unfolding descent_move
descent_accepted rows m e =
    elim (one_or_other (find (is_accepted rows) (four_one_moves (length rows))) (find (is_accepted rows) (three_two_moves (length rows))) m e) [
      | inl f ↦ accepted_none (play_fault rows m) (found_passes (is_accepted rows) (four_one_moves (length rows)) m f)
      | inr f ↦ accepted_none (play_fault rows m) (found_passes (is_accepted rows) (three_two_moves (length rows)) m f)
    ]

descent_by : (fuel : ℕ) (rows : List Row) → IsTable rows → length rows ≤ fuel → (moves : List Move) × (last : List Row) × IsDescent rows moves last
descent_by zero rows table l = from (standard_or_not_lem rows table) (descent_move rows) refl
  where
    from : IsStandard rows ⊎ (IsStandard rows → ⊥) → (o : Option Move) → descent_move rows ≡ o → (moves : List Move) × (last : List Row) × IsDescent rows moves last
    from (inl s) o e = ([], rows, (refl, inl s))
    from (inr n) None e = ([], rows, (refl, inr e))
    from (inr n) (Some m) e =
        let led = accepted_leads rows m table (descent_core rows m e) (descent_accepted rows m e) in
        let less : length led.0 < length rows = descents_lessen_lem rows m led.0 e led.1 in
        absurd (omega arith)
descent_by (suc fuel) rows table l = from (standard_or_not_lem rows table) (descent_move rows) refl (λ next t m. descent_by fuel next t m)
  where
    from : IsStandard rows ⊎ (IsStandard rows → ⊥) → (o : Option Move) → descent_move rows ≡ o
        → ((next : List Row) → IsTable next → length next ≤ fuel → (moves : List Move) × (last : List Row) × IsDescent next moves last) → (moves : List Move) × (last : List Row) × IsDescent rows moves last
    from (inl s) o e go = ([], rows, (refl, inl s))
    from (inr n) None e go = ([], rows, (refl, inr e))
    from (inr n) (Some m) e go =
        let led = accepted_leads rows m table (descent_core rows m e) (descent_accepted rows m e) in
        let less : length led.0 < length rows = descents_lessen_lem rows m led.0 e led.1 in
        let rest = go led.0 (played_table rows m led.0 led.1) (omega arith) in
        (m ∷ rest.0, rest.1, (n, e, (led.0, led.1, rest.2)))

descent_table : (rows : List Row) (moves : List Move) (last : List Row) → IsTable rows → IsDescent rows moves last → IsTable last
descent_table rows moves last table d = all_led_table rows moves last table (descent_leads rows moves last table d)

pub descents_exist_lem : DescentsExist
descents_exist_lem rows table =
    let d = descent_by (length rows) rows table (omega arith) in
    reported d.0 d.1 d.2 (standard_or_not_lem d.1 (descent_table rows d.0 d.1 table d.2))
  where
    reported : (moves : List Move) (last : List Row) → IsDescent rows moves last → IsStandard last ⊎ (IsStandard last → ⊥) → (d : Descended) × IsDescended rows d
    reported moves last d (inl s) = (record { reached = true; moves = moves; table = last }, record { descent = d; reached = (λ e. s, λ s. refl) })
    reported moves last d (inr n) = (record { reached = false; moves = moves; table = last }, record { descent = d; reached = (λ e. absurd (false≢true e), λ s. absurd (n s)) })
