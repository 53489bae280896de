-- The inverse of a step, on a relabelling of the table that results from the step.
use Rattle.std.proofs.Common.{◌≡◌, ℕ, ◌+◌, ◌-◌, ◌<◌, ◌≤◌, Bool, false, List, length, map, Some, None, sym, ap, ◌∙◌, subst, arith}
use Rattle.std.specs.Prelude.{nat_lt, slice_index, if◌then◌else◌}
use Rattle.std.specs.Option.{option_or}
use Rattle.std.proofs.lemmas.Bool.{le-ltb}
use Rattle.std.proofs.lemmas.List.{length-map}
use Rattle.table_definitions.specs.Permutation.{IsPermutationOfFour, image, preimage, compose, identity}
use Rattle.table_definitions.specs.Table.{max_tets, Gluing, Row}
use Rattle.table_definitions.specs.Relabelling.{Relabelling, IsRelabelling, Carries, relabelled_place}
use Rattle.move_definitions.specs.Moves.{Move, Facet, facet, kept, new_length, new_facet, move_fault, play_fault, IsMoved, Plays}
use Rattle.move_definitions.specs.declared.MoveFault.TheVariants.{TooMany}
use Rattle.certificate_definitions.specs.CarriedMoves.{by_labels, is_removed_by, number_then, CarriesAfterMove}
use Rattle.certificate_definitions.specs.CarriedBack.{IsCarriedBack, move_back}
use Rattle.signature_laws.specs.Between.{after}
use Rattle.signature_laws.proofs.Back.{after_stands, after_relabelling, carries_on}
use Rattle.table_definitions.proofs.Permutations.{compose-identity}
use Rattle.table_definitions.proofs.Faces.{gluing_to}
use Rattle.move_laws.proofs.Labels.{AreLabels, ascending, new_labels, HasLabel, label_at, HasVertex, vertex_at, length-labels, image-map}
use Rattle.move_laws.proofs.Legal.{IsFacet, facet_is, HasNoFault, no_fault, old_facet}
use Rattle.move_laws.proofs.Matched.{same_four, image-composed, length-composed}
use Rattle.move_laws.proofs.Renamed.{renamed, renamed-old, renamed_below, renamed_apart}
use Rattle.move_laws.proofs.InverseFacets.{inverse_of}
use Rattle.move_laws.proofs.Placed.{moved_perm, place, facet_place, place-kept, place-old, relabelling, image_after-placed, is_relabelling, led_back, carries_back, closed_up_small}
use Rattle.move_laws.proofs.SecondStand.{kept-inverse}
use Rattle.move_laws.proofs.LedBack.{led_back_moved}
use Rattle.move_laws.proofs.LedOn.{legal_moves_lead_on_lem}
use Rattle.certificate_laws.proofs.Names.{named, named_perm}
use Rattle.certificate_laws.proofs.CarriedCores.{naming}
use Rattle.certificate_laws.proofs.CarriedFacets.{IsCarried, perm_at, perm_fine, naming_fine, other_table, other_core, other_size}
use Rattle.certificate_laws.proofs.CarriedLegal.{carried_legal}
use Rattle.certificate_laws.proofs.CarriedPlaces.{new_over, over, over_new, kept_same, on as carried_by, on_relabelling, on_stands, on_goes_on}
use Rattle.certificate_laws.proofs.CarriedOn.{carried_on}
use Rattle.move_laws.proofs.SecondStand.{closed_up_low, stays_low}
use Rattle.certificate_laws.proofs.BackLabels.{IsSteppedOn, at_label, back_label, back_labels, carried_inverse, each_once, held, inv}

-- the relabelling of the table before the step: by that to the result of the inverse, and then by that of results
abbrev pub back_by : List Row → Move → List Row → List Row → Relabelling → Relabelling
back_by old m new now on = after (length old) (carried_by on new now (inverse_of old m)) (relabelling old m)

back_stands : (old : List Row) (m : Move) (new now : List Row) (on : Relabelling) → (t : ℕ) → t < length old → (s : Gluing) → place old m t ≡ s
    → relabelled_place (back_by old m new now on) t ≡ gluing_to (relabelled_place (carried_by on new now (inverse_of old m)) s.tet).tet (compose (relabelled_place (carried_by on new now (inverse_of old m)) s.tet).perm s.perm)
back_stands old m new now on t l s e =
    let r : Relabelling = carried_by on new now (inverse_of old m) in
    after_stands (length old) r (relabelling old m) t l
    ∙ ap (λ (g : Gluing). gluing_to (relabelled_place r g.tet).tet (compose (relabelled_place r g.tet).perm g.perm)) (image_after-placed old m t l ∙ e)

kept_back : (old : List Row) (m : Move) (new now : List Row) (on : Relabelling) → IsSteppedOn old m new now on → (t : ℕ) → t < length old → is_removed_by old m t ≡ false
    → relabelled_place (back_by old m new now on) t ≡ record { tet = number_then now (move_back old m on) (relabelled_place on (number_then old m t)).tet; perm = (relabelled_place on (number_then old m t)).perm }
kept_back old m new now on h t l e =
    back_stands old m new now on t l (gluing_to u identity) (place-kept old m t e)
    ∙ ap (λ (g : Gluing). gluing_to g.tet (compose g.perm identity)) (ap (λ z. relabelled_place r z) (sym (closed_up_low old m new h.played u small)) ∙ goes.kept u in_new (stays_low old m new h.played u small))
    ∙ ap (gluing_to (number_then now (move_back old m on) (relabelled_place on u).tet)) (compose-identity (perm_at on u) (perm_fine on new now (inv old m) k u in_new))
  where
    u : ℕ
    u = number_then old m t

    r : Relabelling
    r = carried_by on new now (inverse_of old m)

    k : IsCarried on new now (inv old m)
    k = carried_inverse old m new now on h

    small : u < kept old m
    small = closed_up_small old m t h.played.table (no_fault old m h.played.moved.legal) h.played.core l e

    in_new : u < length new
    in_new = let a : u < kept old m = small in omega (arith, h.played.moved.length_is)

    goes : CarriesAfterMove on new (inv old m) now r
    goes = on_goes_on on new now (inv old m) k

-- the map of the vertices of an old facet under both
moved_named : (p : List ℕ) → IsPermutationOfFour p → (s i : ℕ) (a : List ℕ) (f : ℕ → ℕ) → s < 5 → s ≤ i → AreLabels i a → ((l : ℕ) → l < 5 → f l ≡ named p (renamed s l))
    → compose (named_perm p (i - s)) (moved_perm s i a) ≡ map (λ l. preimage (ascending (f i)) (f l)) a
moved_named p hp s i a f small low ha names' =
    same_four (compose (named_perm p j) (moved_perm s i a)) (map (λ l. preimage (ascending (f i)) (f l)) a) (length-composed (named_perm p j) (moved_perm s i a) ∙ long) (length-map a (λ l. preimage (ascending (f i)) (f l)) ∙ length-labels i a ha) at
  where
    j : ℕ
    j = i - s

    high : i < 5
    high = ha.missing

    j_small : j < 5
    j_small = let h : i < 5 = ha.missing in omega arith

    long : length (moved_perm s i a) ≡ 4
    long = length-map a (λ l. preimage (ascending (i - s)) (renamed s l)) ∙ length-labels i a ha

    fi : f i ≡ named p j
    fi = names' i high ∙ ap (named p) (renamed-old s i low)

    at : (v : ℕ) → v < 4 → image (compose (named_perm p j) (moved_perm s i a)) v ≡ image (map (λ l. preimage (ascending (f i)) (f l)) a) v
    at v l =
        let hl : HasLabel i a v = label_at i a ha v l in
        let x : ℕ = renamed s (image a v) in
        let hx : HasVertex (ascending j) x = vertex_at j (ascending j) (new_labels j j_small) x (renamed_below s (image a v) small hl.small) (renamed_apart s i (image a v) small low high hl.small hl.present) in
        image-composed (named_perm p j) (moved_perm s i a) v (rw long l)
        ∙ ap (image (named_perm p j)) (image-map (λ l. preimage (ascending j) (renamed s l)) a v (rw (length-labels i a ha) l))
        ∙ image-map (λ l. preimage (ascending (named p j)) (named p l)) (ascending j) (preimage (ascending j) x) (rw (length-labels j (ascending j) (new_labels j j_small)) hx.small)
        ∙ ap (λ y. preimage (ascending (named p j)) (named p y)) hx.label
        ∙ ap (λ y. preimage (ascending y) (named p x)) (sym fi)
        ∙ ap (preimage (ascending (f i))) (sym (names' (image a v) hl.small))
        ∙ sym (image-map (λ l. preimage (ascending (f i)) (f l)) a v (rw (length-labels i a ha) l))

replaced_back : (old : List Row) (m : Move) (new now : List Row) (on : Relabelling) → IsSteppedOn old m new now on → (i : ℕ) → length m.core ≤ i → i < 5
    → (f : Facet) × (facet old m i ≡ Some f) × (relabelled_place (back_by old m new now on) f.tet ≡ by_labels (slice_index (back_labels old m on)) f (new_facet now (move_back old m on) (slice_index (back_labels old m on) i)))
replaced_back old m new now on h i low high =
    let o : (f : Facet) × (facet old m i ≡ Some f) = old_facet old m i (no_fault old m h.played.moved.legal) h.played.core low high in
    (o.0, o.1, occurs o.0 o.1)
  where
    s : ℕ
    s = length m.core

    r : Relabelling
    r = carried_by on new now (inv old m)

    k : IsCarried on new now (inv old m)
    k = carried_inverse old m new now on h

    p : List ℕ
    p = naming (perm_at on (inv old m).tet) (inv old m).core

    label : (l : ℕ) → l < 5 → slice_index (back_labels old m on) l ≡ named p (renamed s l)
    label l small = at_label (back_label old m on) l small

    occurs : (f : Facet) → facet old m i ≡ Some f → relabelled_place (back_by old m new now on) f.tet ≡ by_labels (slice_index (back_labels old m on)) f (new_facet now (move_back old m on) (slice_index (back_labels old m on) i))
    occurs f e =
        let fine : HasNoFault old m = no_fault old m h.played.moved.legal in
        let is : IsFacet old i f = facet_is old m i f h.played.table h.played.core fine.in_range high e in
        let inside : kept old m + (i - s) < new_length new (inv old m) = (let limited = h.played.limited in let some = h.played.some in omega (arith, kept-inverse old m new h.played, h.played.inverse_core.size)) in
        let at : relabelled_place r (kept old m + (i - s)) ≡ new_over on now (inv old m) (i - s) =
        on_stands on new now (inv old m) (kept old m + (i - s)) inside ∙ ap (λ z. over on new now (inv old m) (z + (i - s))) (sym (kept-inverse old m new h.played)) ∙ over_new on new now (inv old m) (i - s) in
        let tet : named p (i - s) ≡ slice_index (back_labels old m on) i = ap (named p) (sym (renamed-old s i low)) ∙ sym (label i high) in
        back_stands old m new now on f.tet is.in_range (facet_place old m i f.labels) (place-old old m i f h.played.table fine h.played.core low high e)
        ∙ ap (λ (g : Gluing). gluing_to g.tet (compose g.perm (moved_perm s i f.labels))) at
        ∙ ap (λ x. gluing_to (kept now (move_back old m on) + x) (compose (named_perm p (i - s)) (moved_perm s i f.labels))) tet
        ∙ ap (gluing_to (kept now (move_back old m on) + slice_index (back_labels old m on) i)) (moved_named p (naming_fine on new now (inv old m) k) s i f.labels (slice_index (back_labels old m on)) h.played.limited low is.labels label)

-- the step has an inverse on the relabelled table
pub record IsLedBack (old : List Row) (m : Move) (new now : List Row) (on : Relabelling) : Type 0 where
  pub end : List Row
  pub by : Relabelling
  pub leads : Plays now (move_back old m on) end
  pub carried : IsCarriedBack old m now (move_back old m on) on by
  pub carries : Carries by old end

pub no_limit : (rows : List Row) (m : Move) → move_fault rows m ≡ None → new_length rows m ≤ max_tets → play_fault rows m ≡ None
no_limit rows m e fits = ap (λ o. option_or o (if nat_lt max_tets (new_length rows m) then Some TooMany else None)) e ∙ ap (λ (b : Bool). if b then Some TooMany else None) (le-ltb max_tets (new_length rows m) fits)

pub led_back_by : (old : List Row) (m : Move) (new now : List Row) (on : Relabelling) → IsSteppedOn old m new now on → IsLedBack old m new now on
led_back_by old m new now on h = record {
  end = led.0;
  by = back_by old m new now on;
  leads = record { table = other_table on new now (inv old m) k; moved = led.1; accepted = no_limit now (move_back old m on) (carried_legal on new now (inv old m) k) fits };
  carried = record {
    labels = back_labels old m on;
    correspond = record { each_once = each_once (length m.core) p h.played.limited (naming_fine on new now (inv old m) k); held = λ j l. held old m new now on h j l };
    relabels = after_relabelling (length old) r (relabelling old m) r_is first_is;
    kept = λ t l e. kept_back old m new now on h t l e;
    replaced = λ i low high. replaced_back old m new now on h i low high;
  };
  carries = carries_on old back led.0 r (relabelling old m) h.played.table r_is first_is (carries_back old m h.played.table fine h.played.core) (carried_on on new now (inv old m) back led.0 k moved_back led.1);
}
  where
    k : IsCarried on new now (inv old m)
    k = carried_inverse old m new now on h

    p : List ℕ
    p = naming (perm_at on (inv old m).tet) (inv old m).core

    fine : HasNoFault old m
    fine = no_fault old m h.played.moved.legal

    r : Relabelling
    r = carried_by on new now (inv old m)

    back : List Row
    back = led_back old m

    moved_back : IsMoved new (inv old m) back
    moved_back = led_back_moved old m new h.played

    led : (next : List Row) × IsMoved now (move_back old m on) next
    led = legal_moves_lead_on_lem now (move_back old m on) (other_table on new now (inv old m) k) (other_core on new now (inv old m) k) (carried_legal on new now (inv old m) k)

    long : new_length new (inv old m) ≡ length old
    long = let limited = h.played.limited in let some = h.played.some in let fits = h.played.fits in omega (arith, h.played.moved.length_is, h.played.inverse_core.size)

    fits : new_length now (move_back old m on) ≤ max_tets
    fits = let same : kept now (move_back old m on) ≡ kept new (inv old m) = kept_same on new now (inv old m) k in let limited : length old ≤ max_tets = h.played.table.limited in omega (arith, long, other_size on new now (inv old m) k)

    r_is : IsRelabelling (length old) r
    r_is = subst (λ n. IsRelabelling n r) long (on_relabelling on new now (inv old m) k)

    first_is : IsRelabelling (length old) (relabelling old m)
    first_is = is_relabelling old m h.played.table fine h.played.core
