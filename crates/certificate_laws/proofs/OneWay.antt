-- The moves back are unique: each step determines the relabelling, and so the moves.
use Rattle.std.proofs.Common.{◌≡◌, ℕ, zero, suc, ◌<◌, Bool, true, false, List, [], ◌∷◌, ◌++◌, length, refl, sym, ap, ◌∙◌, subst, arith, inl, inr}
use Rattle.std.specs.Prelude.{◌⊎◌, ◌==◌, ◌||◌, slice_index}
use Rattle.std.specs.List.{list_all}
use Rattle.std.proofs.lemmas.Bool.{eqb-true, and_parts, cases_eq}
use Rattle.std.proofs.lemmas.Fn.{FoldsTo-push}
use Rattle.std.proofs.lemmas.List.{length-append}
use Rattle.table_definitions.specs.Lists.{below, has}
use Rattle.table_definitions.specs.Permutation.{image}
use Rattle.table_definitions.specs.Table.{Row, IsTable}
use Rattle.table_definitions.specs.Relabelling.{Relabelling, IsRelabelling, Carries, relabelled_place}
use Rattle.table_definitions.proofs.Permutations.{OneIs, one_is}
use Rattle.move_definitions.specs.Moves.{Move, IsCore, Facet, facet, new_facet, Plays, PlaysAll}
use Rattle.certificate_definitions.specs.CarriedMoves.{by_labels, is_removed_by}
use Rattle.certificate_definitions.specs.CarriedBack.{is_renaming, facet_at, Correspond, IsCarriedBack, staying, move_back, AreCarriedBack}
use Rattle.table_definitions.proofs.ListFacts.{list_all-below}
use Rattle.signature_laws.proofs.Standing.{same_relabelling}
use Rattle.move_definitions.proofs.CoreTests.{core_size}
use Rattle.move_laws.proofs.Labels.{ascending}
use Rattle.move_laws.proofs.ListedFacets.{same_some}
use Rattle.move_laws.proofs.Legal.{OldFacet, old_tet_facet}
use Rattle.move_laws.proofs.Played.{played_same, played_table}
use Rattle.certificate_laws.proofs.StepBack.{IsLedBack, led_back_by}
use Rattle.certificate_laws.proofs.CarriedWays.{staying_relabels, staying_carries, stepped}

-- four of five different labels determine the fifth

four_hold_four : (b c d e : ℕ) → OneIs b c d e 0 → OneIs b c d e 1 → OneIs b c d e 2 → OneIs b c d e 3 → OneIs b c d e 4 → ⊥
four_hold_four b c d e h0 h1 h2 h3 h4 = omega arith

without : (a a' x : ℕ) (h : Bool) → (a ≡ a' → ⊥) → ((a == x) || h) ≡ true → ((a' == x) || h) ≡ true → h ≡ true
without a a' x h n p q = grind arith

same_head : (a a' b c d e : ℕ) → list_all (has (a ∷ b ∷ c ∷ d ∷ e ∷ [])) (below 5) ≡ true → list_all (has (a' ∷ b ∷ c ∷ d ∷ e ∷ [])) (below 5) ≡ true → a ≡ a'
same_head a a' b c d e h h' = by_case (cases_eq a a')
  where
    among : (x : ℕ) → x < 5 → (a ≡ a' → ⊥) → OneIs b c d e x
    among x l n = one_is b c d e x (without a a' x (has (b ∷ c ∷ d ∷ e ∷ []) x) n (list_all-below (has (a ∷ b ∷ c ∷ d ∷ e ∷ [])) 5 h x l) (list_all-below (has (a' ∷ b ∷ c ∷ d ∷ e ∷ [])) 5 h' x l))

    by_case : (a ≡ a') ⊎ (a ≡ a' → ⊥) → a ≡ a'
    by_case (inl e) = e
    by_case (inr n) = absurd (four_hold_four b c d e (among 0 (omega arith) n) (among 1 (omega arith) n) (among 2 (omega arith) n) (among 3 (omega arith) n) (among 4 (omega arith) n))

pub same_renaming : (ls ls' : List ℕ) → is_renaming ls ≡ true → is_renaming ls' ≡ true → ((l : ℕ) → 0 < l → l < 5 → slice_index ls l ≡ slice_index ls' l) → ls ≡ ls'
same_renaming ls ls' h h' same = from (five_elements ls p.0) (five_elements ls' q.0)
  where
    p : (length ls ≡ 5) × (list_all (has ls) (below 5) ≡ true)
    p = let t = and_parts (length ls == 5) (list_all (has ls) (below 5)) h in (eqb-true (length ls) 5 t.0, t.1)

    q : (length ls' ≡ 5) × (list_all (has ls') (below 5) ≡ true)
    q = let t = and_parts (length ls' == 5) (list_all (has ls') (below 5)) h' in (eqb-true (length ls') 5 t.0, t.1)

    five_elements : (w : List ℕ) → length w ≡ 5 → w ≡ slice_index w 0 ∷ slice_index w 1 ∷ slice_index w 2 ∷ slice_index w 3 ∷ slice_index w 4 ∷ []
    five_elements [] e = absurd (omega arith)
    five_elements (a ∷ []) e = absurd (omega arith)
    five_elements (a ∷ b ∷ []) e = absurd (omega arith)
    five_elements (a ∷ b ∷ c ∷ []) e = absurd (omega arith)
    five_elements (a ∷ b ∷ c ∷ d ∷ []) e = absurd (omega arith)
    five_elements (a ∷ b ∷ c ∷ d ∷ f ∷ []) e = refl
    five_elements (a ∷ b ∷ c ∷ d ∷ f ∷ g ∷ r) e = absurd (omega arith)

    tail : List ℕ → List ℕ
    tail w = slice_index w 1 ∷ slice_index w 2 ∷ slice_index w 3 ∷ slice_index w 4 ∷ []

    tails : tail ls ≡ tail ls'
    tails = λ i. same 1 (omega arith) (omega arith) i ∷ same 2 (omega arith) (omega arith) i ∷ same 3 (omega arith) (omega arith) i ∷ same 4 (omega arith) (omega arith) i ∷ []

    from : ls ≡ slice_index ls 0 ∷ tail ls → ls' ≡ slice_index ls' 0 ∷ tail ls' → ls ≡ ls'
    from e e' =
        let Holds : List ℕ → Type 0 = λ w. list_all (has w) (below 5) ≡ true in
        let a : Holds (slice_index ls 0 ∷ tail ls) = subst Holds e p.1 in
        let b : Holds (slice_index ls' 0 ∷ tail ls) = subst Holds (e' ∙ ap (λ t. slice_index ls' 0 ∷ t) (sym tails)) q.1 in
        let heads : slice_index ls 0 ≡ slice_index ls' 0 = same_head (slice_index ls 0) (slice_index ls' 0) (slice_index ls 1) (slice_index ls 2) (slice_index ls 3) (slice_index ls 4) a b in
        e ∙ (λ i. heads i ∷ tails i) ∙ sym e'

-- the correspondence of the labels of a step is unique

ascends : (l : ℕ) → 0 < l → l < 5 → (v : ℕ) × (v < 4) × (image (ascending 0) v ≡ l)
ascends zero m l = absurd (omega arith)
ascends (suc zero) m l = (0, omega arith, refl)
ascends (suc (suc zero)) m l = (1, omega arith, refl)
ascends (suc (suc (suc zero))) m l = (2, omega arith, refl)
ascends (suc (suc (suc (suc zero)))) m l = (3, omega arith, refl)
ascends (suc (suc (suc (suc (suc l))))) m h = absurd (omega arith)

pub correspond_once : (old : List Row) (m : Move) (now : List Row) (back : Move) (on : Relabelling) (ls ls' : List ℕ) → IsCore m.core → Correspond old m now back on ls → Correspond old m now back on ls' → ls ≡ ls'
correspond_once old m now back on ls ls' c h h' = same_renaming ls ls' h.each_once h'.each_once same
  where
    same : (l : ℕ) → 0 < l → l < 5 → slice_index ls l ≡ slice_index ls' l
    same l low high =
        let some : 0 < length m.core = (core_size m.core c).0 in
        let a = h.held 0 some in
        let b = h'.held 0 some in
        let v = ascends l low high in
        let facets : a.0 ≡ b.0 = same_some (facet_at now back (relabelled_place on (new_facet old m 0).tet).tet) a.0 b.0 a.1 b.1 in
        ap (slice_index ls) (sym v.2) ∙ a.2 v.0 v.1 ∙ ap (λ (f : Facet). image f.labels (image (relabelled_place on (new_facet old m 0).tet).perm v.0)) facets ∙ sym (b.2 v.0 v.1) ∙ ap (slice_index ls') v.2

pub carried_once : (old : List Row) (m : Move) (now : List Row) (back : Move) (on by by' : Relabelling) → IsCore m.core → IsCarriedBack old m now back on by → IsCarriedBack old m now back on by' → by ≡ by'
carried_once old m now back on by by' c h h' = same_relabelling (length old) by by' h.relabels h'.relabels (λ t l. by_test t l (is_removed_by old m t) refl)
  where
    labels : h.labels ≡ h'.labels
    labels = correspond_once old m now back on h.labels h'.labels c h.correspond h'.correspond

    by_facet : (t : ℕ) → OldFacet old m t → relabelled_place by t ≡ relabelled_place by' t
    by_facet t o =
        let a = h.replaced o.label o.low o.high in
        let b = h'.replaced o.label o.low o.high in
        let facets : a.0 ≡ b.0 = same_some (facet old m o.label) a.0 b.0 a.1 b.1 in
        let tet : a.0.tet ≡ t = ap (λ (f : Facet). f.tet) (same_some (facet old m o.label) a.0 o.facet_of a.1 o.is) ∙ o.tet in
        let tet' : b.0.tet ≡ t = ap (λ (f : Facet). f.tet) (sym facets) ∙ tet in
        ap (relabelled_place by) (sym tet) ∙ a.2
        ∙ ap (λ (f : Facet). by_labels (slice_index h.labels) f (new_facet now back (slice_index h.labels o.label))) facets
        ∙ ap (λ (ls : List ℕ). by_labels (slice_index ls) b.0 (new_facet now back (slice_index ls o.label))) labels
        ∙ sym b.2 ∙ ap (relabelled_place by') tet'

    by_test : (t : ℕ) → t < length old → (b : Bool) → is_removed_by old m t ≡ b → relabelled_place by t ≡ relabelled_place by' t
    by_test t l false e = h.kept t l e ∙ sym (h'.kept t l e)
    by_test t l true e = by_facet t (old_tet_facet old m t c e)

-- the moves back can be played on the last table, and result in a relabelling of the first
pub record IsThere (rows last : List Row) (back : List Move) (end : List Row) (by : Relabelling) : Type 0 where
  pub leads : PlaysAll last back end
  pub relabels : IsRelabelling (length rows) by
  pub carries : Carries by rows end

pub carried_leads : (rows : List Row) (moves : List Move) (last : List Row) (back : List Move) (end : List Row) (by : Relabelling) → IsTable rows → AreCarriedBack rows moves last back end by → IsThere rows last back end by
carried_leads rows [] last back end by table (at, none, ends, stays) =
    let here : IsThere rows rows [] rows (staying (length rows)) = record { leads = refl; relabels = staying_relabels (length rows); carries = staying_carries rows table } in
    let a : IsThere rows last [] last (staying (length last)) = subst (λ (t : List Row). IsThere rows t [] t (staying (length t))) at here in
    let b : IsThere rows last back last (staying (length last)) = subst (λ (ms : List Move). IsThere rows last ms last (staying (length last))) (sym none) a in
    subst (λ (r : Relabelling). IsThere rows last back end r) (sym stays) (subst (λ (t : List Row). IsThere rows last back t (staying (length last))) (sym ends) b)
carried_leads rows (m ∷ ms) last back end by table (next, first, (later, now, on, are, is, leads, carried)) =
    let t : IsThere next last later now on = carried_leads next ms last later now on (played_table rows m next first) are in
    let l : IsLedBack rows m next now on = led_back_by rows m next now on (stepped rows m next now on first t.relabels t.carries) in
    let ends : l.end ≡ end = played_same now (move_back rows m on) l.end end l.leads leads in
    let same : l.by ≡ by = carried_once rows m now (move_back rows m on) on l.by by first.moved.core l.carried carried in
    record {
      leads = subst (λ (ms : List Move). PlaysAll last ms end) (sym is) (FoldsTo-push Plays last later now (move_back rows m on) end t.leads leads);
      relabels = carried.relabels;
      carries = subst (λ (r : Relabelling). Carries r rows end) same (subst (λ (t : List Row). Carries l.by rows t) ends l.carries);
    }

-- there are as many moves back as moves
pub carried_long : (rows : List Row) (moves : List Move) (last : List Row) (back : List Move) (end : List Row) (by : Relabelling) → AreCarriedBack rows moves last back end by → length back ≡ length moves
carried_long rows [] last back end by a = ap (λ (ms : List Move). length ms) a.1
carried_long rows (m ∷ ms) last back end by (next, first, (later, now, on, are, is, leads, carried)) =
    omega (arith, ap (λ (ms : List Move). length ms) is, length-append later (move_back rows m on ∷ []), carried_long next ms last later now on are)

-- all that belongs to the moves back is unique
pub record IsOneWay (last last' : List Row) (back back' : List Move) (end end' : List Row) (by by' : Relabelling) : Type 0 where
  pub last_is : last ≡ last'
  pub back_is : back ≡ back'
  pub end_is : end ≡ end'
  pub by_is : by ≡ by'

pub carried_agree : (rows : List Row) (moves : List Move) (last last' : List Row) (back back' : List Move) (end end' : List Row) (by by' : Relabelling) → IsTable rows
    → AreCarriedBack rows moves last back end by → AreCarriedBack rows moves last' back' end' by' → IsOneWay last last' back back' end end' by by'
carried_agree rows [] last last' back back' end end' by by' table a b =
    let same : last ≡ last' = sym a.0 ∙ b.0 in
    record { last_is = same; back_is = a.1 ∙ sym b.1; end_is = a.2 ∙ same ∙ sym b.2; by_is = a.3 ∙ ap (λ (t : List Row). staying (length t)) same ∙ sym b.3 }
carried_agree rows (m ∷ ms) last last' back back' end end' by by' table (next, first, (later, now, on, are, is, leads, carried)) (next', first', (later', now', on', are', is', leads', carried')) =
    let same : next' ≡ next = played_same rows m next' next first' first in
    let there : AreCarriedBack next ms last' later' now' on' = subst (λ (t : List Row). AreCarriedBack t ms last' later' now' on') same are' in
    let w : IsOneWay last last' later later' now now' on on' = carried_agree next ms last last' later later' now now' on on' (played_table rows m next first) are there in
    let leads_too : Plays now (move_back rows m on) end' = subst (λ (r : Relabelling). Plays now (move_back rows m r) end') (sym w.by_is) (subst (λ (t : List Row). Plays t (move_back rows m on') end') (sym w.end_is) leads') in
    let carried_too : IsCarriedBack rows m now (move_back rows m on) on by' =
    subst (λ (r : Relabelling). IsCarriedBack rows m now (move_back rows m r) r by') (sym w.by_is) (subst (λ (t : List Row). IsCarriedBack rows m t (move_back rows m on') on' by') (sym w.end_is) carried') in
    record {
      last_is = w.last_is;
      back_is = is ∙ (λ i. w.back_is i ++ move_back rows m (w.by_is i) ∷ []) ∙ sym is';
      end_is = played_same now (move_back rows m on) end end' leads leads_too;
      by_is = carried_once rows m now (move_back rows m on) on by by' first.moved.core carried carried_too;
    }
