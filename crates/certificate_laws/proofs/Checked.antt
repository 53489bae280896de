-- A table and moves have at most one answer.
use Rattle.std.proofs.Common.{◌≡◌, ℕ, zero, suc, ◌+◌, List, [], ◌∷◌, ◌++◌, length, Option, Some, None, Ok, Err, refl, sym, ap, ◌∙◌, subst, arith}
use Rattle.table_definitions.specs.Table.{Row, IsTable}
use Rattle.table_definitions.specs.Places.{whole, IsConnected, IsLeastUnreached}
use Rattle.table_definitions.proofs.ChainLaws.{joined_refl, one_unreached, connected_or_not}
use Rattle.signature_definitions.specs.Spelling.{IsSignature}
use Rattle.move_definitions.specs.Moves.{Move, play_fault, PlaysAll, Plays}
use Rattle.move_definitions.specs.declared.MoveFault.{MoveFault}
use Rattle.move_definitions.specs.Certificates.{standard_sphere, IsStandard}
use Rattle.certificate_definitions.specs.Answers.{IsRefusedAt, sphere_text}
use Rattle.certificate_definitions.specs.declared.CheckFault.TheVariants.{Illegal, NotConnected, NotStandard}
use Rattle.signature_laws.proofs.Invariance.{relabels_back, relabels_connected}
use Rattle.signature_laws.proofs.Uniqueness.{one_signature, tells_tables}
use Rattle.certificate_laws.specs.Laws.{TextsDetermineStandard, AnswersAgree}
use Rattle.certificate_laws.proofs.Sphere.{sphere_table, sphere_signature}
use Rattle.move_laws.proofs.ListedFacets.{same_some}
use Rattle.move_laws.proofs.Played.{all_led_table, played_same, all_played_same}

-- a move that is refused cannot be played
refused_not_led : (rows : List Row) (m : Move) (next : List Row) (fault : MoveFault) → play_fault rows m ≡ Some fault → Plays rows m next → ⊥
refused_not_led rows m next fault e p = from (play_fault rows m) e p.accepted
  where
    from : (o : Option MoveFault) → o ≡ Some fault → o ≡ None → ⊥
    from o a b = cc

refused_at_most : (rows : List Row) (before : List Move) (m : Move) (after : List Move) (table : List Row) (fault : MoveFault) (last : List Row) → PlaysAll rows before table → play_fault table m ≡ Some fault
    → PlaysAll rows (before ++ m ∷ after) last → ⊥
refused_at_most rows [] m after table fault last e refused (next, first, rest) =
    refused_not_led rows m next fault (ap (λ (t : List Row). play_fault t m) e ∙ refused) first
refused_at_most rows (k ∷ ks) m after table fault last (next, first, rest) refused (next', first', rest') =
    let same : next' ≡ next = played_same rows k next' next first' first in
    refused_at_most next ks m after table fault last rest refused (subst (λ (t : List Row). PlaysAll t (ks ++ m ∷ after) last) same rest')

abbrev AreSame : ℕ → MoveFault → ℕ → MoveFault → Type 0
AreSame n fault n' fault' = (n ≡ n') × (fault ≡ fault')

first_of : (m k : Move) (ms ks : List Move) → m ∷ ms ≡ k ∷ ks → m ≡ k
first_of m k ms ks e = cc

rest_of : (m k : Move) (ms ks : List Move) → m ∷ ms ≡ k ∷ ks → ms ≡ ks
rest_of m k ms ks e = cc

refused_once : (rows : List Row) (before before' : List Move) (m m' : Move) (after after' : List Move) (table table' : List Row) (fault fault' : MoveFault) → before ++ m ∷ after ≡ before' ++ m' ∷ after'
    → PlaysAll rows before table → PlaysAll rows before' table' → play_fault table m ≡ Some fault → play_fault table' m' ≡ Some fault' → AreSame (length before) fault (length before') fault'
refused_once rows [] [] m m' after after' table table' fault fault' e led led' r r' =
    let moves : m ≡ m' = first_of m m' after after' e in
    let tables : table ≡ table' = sym led ∙ led' in
    (refl, same_some (play_fault table m) fault fault' r (ap (λ (t : List Row). play_fault t m) tables ∙ ap (play_fault table') moves ∙ r'))
refused_once rows [] (k ∷ ks) m m' after after' table table' fault fault' e led (next, first, rest) r r' =
    let moves : m ≡ k = first_of m k after (ks ++ m' ∷ after') e in
    absurd (refused_not_led rows k next fault (ap (play_fault rows) (sym moves) ∙ ap (λ (t : List Row). play_fault t m) led ∙ r) first)
refused_once rows (k ∷ ks) [] m m' after after' table table' fault fault' e (next, first, rest) led' r r' =
    let moves : k ≡ m' = first_of k m' (ks ++ m ∷ after) after' e in
    absurd (refused_not_led rows k next fault' (ap (play_fault rows) moves ∙ ap (λ (t : List Row). play_fault t m') led' ∙ r') first)
refused_once rows (k ∷ ks) (k' ∷ ks') m m' after after' table table' fault fault' e (next, first, rest) (next', first', rest') r r' =
    let moves : k' ≡ k = sym (first_of k k' (ks ++ m ∷ after) (ks' ++ m' ∷ after') e) in
    let too : Plays rows k next' = subst (λ (q : Move). Plays rows q next') moves first' in
    let same : next' ≡ next = played_same rows k next' next too first in
    let p : AreSame (length ks) fault (length ks') fault' =
    refused_once next ks ks' m m' after after' table table' fault fault' (rest_of k k' (ks ++ m ∷ after) (ks' ++ m' ∷ after') e) rest (subst (λ (t : List Row). PlaysAll t ks' table') same rest') r r' in
    (ap suc p.0, p.1)

-- the standard sphere is connected, and so are its relabellings
pub sphere_connected : IsConnected standard_sphere
sphere_connected zero zero lt lu = joined_refl standard_sphere (whole 0)
sphere_connected (suc t) u lt lu = absurd (omega arith)
sphere_connected t (suc u) lt lu = absurd (omega arith)

pub standard_connected : (rows : List Row) → IsTable rows → IsStandard rows → IsConnected rows
standard_connected rows table s = relabels_connected standard_sphere rows sphere_table (relabels_back rows standard_sphere table s) sphere_connected

-- a table that is isomorphic to the standard sphere has its signature
pub standard_text : (rows : List Row) (text : List ℕ) → IsTable rows → IsStandard rows → IsSignature rows text → text ≡ sphere_text
standard_text rows text table s h = (tells_tables rows standard_sphere text sphere_text table sphere_table h sphere_signature).1 s

pub text_standard : (rows : List Row) (text : List ℕ) → IsTable rows → IsSignature rows text → text ≡ sphere_text → IsStandard rows
text_standard rows text table h e = (tells_tables rows standard_sphere text sphere_text table sphere_table h sphere_signature).0 e

pub texts_tell_standard_lem : TextsDetermineStandard
texts_tell_standard_lem rows text table h = (text_standard rows text table h, λ s. standard_text rows text table s h)

-- any two answers are equal

whole_not_refused : (rows : List Row) (moves : List Move) (last : List Row) (step : ℕ) (fault : MoveFault) → PlaysAll rows moves last → IsRefusedAt rows moves step fault → ⊥
whole_not_refused rows moves last step fault led r =
    refused_at_most rows r.before r.refused r.after r.table fault last r.led r.refuses (subst (λ (ms : List Move). PlaysAll rows ms last) r.all led)

pub answers_agree_lem : AnswersAgree
answers_agree_lem rows moves (Ok done) (Ok done') table h k = refl
answers_agree_lem rows moves (Ok done) (Err (Illegal step fault)) table (last, led, s) k = absurd (whole_not_refused rows moves last step fault led k)
answers_agree_lem rows moves (Ok done) (Err (NotConnected t)) table (last, led, s) (last', led', u) =
    let same : last ≡ last' = all_played_same rows moves last last' led led' in
    absurd (connected_or_not last' t (subst (λ (q : List Row). IsConnected q) same (standard_connected last (all_led_table rows moves last table led) s)) u)
answers_agree_lem rows moves (Ok done) (Err (NotStandard text)) table (last, led, s) (last', led', c, h, n) =
    let same : last ≡ last' = all_played_same rows moves last last' led led' in
    absurd (n (standard_text last' text (all_led_table rows moves last' table led') (subst (λ (q : List Row). IsStandard q) same s) h))
answers_agree_lem rows moves (Err (Illegal step fault)) (Ok done) table h (last, led, s) = absurd (whole_not_refused rows moves last step fault led h)
answers_agree_lem rows moves (Err (Illegal step fault)) (Err (Illegal step' fault')) table h k =
    let p : AreSame (length h.before) fault (length k.before) fault' = refused_once rows h.before k.before h.refused k.refused h.after k.after h.table k.table fault fault' (sym h.all ∙ k.all) h.led k.led h.refuses k.refuses in
    λ i. Err (Illegal ((h.place ∙ ap (λ n. n + 1) p.0 ∙ sym k.place) i) (p.1 i))
answers_agree_lem rows moves (Err (Illegal step fault)) (Err (NotConnected t)) table h (last, led, u) = absurd (whole_not_refused rows moves last step fault led h)
answers_agree_lem rows moves (Err (Illegal step fault)) (Err (NotStandard text)) table h (last, led, q, z, n) = absurd (whole_not_refused rows moves last step fault led h)
answers_agree_lem rows moves (Err (NotConnected t)) (Ok done) table (last', led', u) (last, led, s) =
    let same : last ≡ last' = all_played_same rows moves last last' led led' in
    absurd (connected_or_not last' t (subst (λ (q : List Row). IsConnected q) same (standard_connected last (all_led_table rows moves last table led) s)) u)
answers_agree_lem rows moves (Err (NotConnected t)) (Err (Illegal step fault)) table (last, led, u) k = absurd (whole_not_refused rows moves last step fault led k)
answers_agree_lem rows moves (Err (NotConnected t)) (Err (NotConnected t')) table (last, led, u) (last', led', u') =
    let same : last' ≡ last = all_played_same rows moves last' last led' led in
    ap (λ z. Err (NotConnected z)) (one_unreached last t t' u (subst (λ (q : List Row). IsLeastUnreached q t') same u'))
answers_agree_lem rows moves (Err (NotConnected t)) (Err (NotStandard text)) table (last, led, u) (last', led', c, h, n) =
    let same : last' ≡ last = all_played_same rows moves last' last led' led in
    absurd (connected_or_not last t (subst (λ (q : List Row). IsConnected q) same c) u)
answers_agree_lem rows moves (Err (NotStandard text)) (Ok done) table (last', led', c, h, n) (last, led, s) =
    let same : last ≡ last' = all_played_same rows moves last last' led led' in
    absurd (n (standard_text last' text (all_led_table rows moves last' table led') (subst (λ (q : List Row). IsStandard q) same s) h))
answers_agree_lem rows moves (Err (NotStandard text)) (Err (Illegal step fault)) table (last, led, q, z, n) k = absurd (whole_not_refused rows moves last step fault led k)
answers_agree_lem rows moves (Err (NotStandard text)) (Err (NotConnected t)) table (last', led', c, h, n) (last, led, u) =
    let same : last' ≡ last = all_played_same rows moves last' last led' led in
    absurd (connected_or_not last t (subst (λ (q : List Row). IsConnected q) same c) u)
answers_agree_lem rows moves (Err (NotStandard text)) (Err (NotStandard text')) table (last, led, c, h, n) (last', led', c', h', n') =
    let same : last' ≡ last = all_played_same rows moves last' last led' led in
    ap (λ (z : List ℕ). Err (NotStandard z)) (one_signature last text text' h (subst (λ (q : List Row). IsSignature q text') same h'))
