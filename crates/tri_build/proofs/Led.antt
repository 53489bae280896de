-- The relabelling that results from the inverse of a step, by the image of each tetrahedron.
use Rattle.std.proofs.Common.{◌≡◌, ℕ, ◌<◌, false, List, [], ◌∷◌, ◌++◌, length, map, Option, Some, None, refl, sym, ap, ◌∙◌, subst, arith}
use Rattle.std.specs.Prelude.{slice_index}
use Rattle.std.proofs.lemmas.List.Elements.{All-from_get_or}
use Rattle.table_definitions.specs.Lists.{below}
use Rattle.table_definitions.specs.Permutation.{IsPermutationOfFour}
use Rattle.table_definitions.specs.Table.{Gluing, Row}
use Rattle.table_definitions.specs.Relabelling.{Relabelling, IsRelabelling, Carries, relabelled_place}
use Rattle.table_definitions.proofs.Carried.{length-images, perm_permutes}
use Rattle.move_definitions.specs.Moves.{Move, Facet, facet, kept, new_facet, inverse_move, move_fault, play_fault, old_facets, Plays}
use Rattle.move_definitions.specs.declared.MoveFault.{MoveFault}
use Rattle.certificate_definitions.specs.CarriedMoves.{move_under, by_labels, is_removed_by}
use Rattle.certificate_definitions.specs.CarriedBack.{IsCarriedBack, move_back}
use Rattle.move_laws.proofs.ListedFacets.{same_some}
use Rattle.move_laws.proofs.Legal.{no_fault}
use Rattle.move_laws.proofs.Placed.{closed_up_small}
use Rattle.move_laws.proofs.Played.{played_same}
use Rattle.move_laws.specs.Facets.{IsOldFacet, AreOldFacets}
use Rattle.move_laws.specs.Faults.{IsPattern}
use Rattle.move_laws.proofs.LegalLaws.{legal_from}
use Rattle.move_laws.proofs.ListedLaws.{are_old}
use Rattle.pachner_moves.proofs.CodeLaws.{old_found}
use Rattle.certificate_laws.proofs.BackLabels.{IsSteppedOn, carried_inverse, back_labels}
use Rattle.certificate_laws.proofs.StepBack.{IsLedBack, led_back_by}
use Rattle.certificate_laws.proofs.CarriedWays.{stepped}
use Rattle.certificate_laws.proofs.OneWay.{correspond_once}
use Rattle.tri_build.specs.Steps.{PlayedMove, CarriesToNow, GoesBack}
use Rattle.tri_build.specs.Standing.{Back, IsBack, number_without, put_in, image_by, image_at, HasImageBy, IsImageRelabelling}
use Rattle.tri_build.proofs.Bijective.{are_of}
use Rattle.tri_build.proofs.Found.{find_at, none_has, found_tet}
use Rattle.tri_build.proofs.Correspondence.{back_corresponds, labels_are}

abbrev stepped_on : (old : List Row) (step : PlayedMove) (now : List Row) (on : Relabelling) → (b : CarriesToNow old step now on) → IsSteppedOn old step.played b.new now on
stepped_on old step now on b = stepped old step.played b.new now on b.is_step.plays b.relabels b.carries

-- the inverse move can be played

pub back_is : (old : List Row) (step : PlayedMove) (now : List Row) (on : Relabelling) → CarriesToNow old step now on → move_under on (inverse_move step.tets step.played) ≡ move_back old step.played on
back_is old step now on b = ap (λ n. move_under on (inverse_move n step.played)) b.is_step.tets

pub back_plays : (old : List Row) (step : PlayedMove) (now : List Row) (on : Relabelling) → CarriesToNow old step now on → (end : List Row) × Plays now (move_under on (inverse_move step.tets step.played)) end
back_plays old step now on b =
    let l : IsLedBack old step.played b.new now on = led_back_by old step.played b.new now on (stepped_on old step now on b) in
    (l.end, subst (λ (m : Move). Plays now m l.end) (sym (back_is old step now on b)) l.leads)

pub inverse_in : (old : List Row) (step : PlayedMove) (now : List Row) (on : Relabelling) → CarriesToNow old step now on → (inverse_move step.tets step.played).tet < length on.images
inverse_in old step now on b =
    let k = carried_inverse old step.played b.new now on (stepped_on old step now on b) in
    let inside : (inverse_move (length old) step.played).tet < length b.new = k.fine.in_range in
    let same : (inverse_move step.tets step.played).tet ≡ (inverse_move (length old) step.played).tet = ap (λ n. (inverse_move n step.played).tet) b.is_step.tets in
    omega (arith, length-images (length b.new) on b.relabels)

-- the table and the relabelling that result from the inverse move
pub record IsLed (old : List Row) (step : PlayedMove) (now : List Row) (on : Relabelling) (back : Back) : Type 0 where
  pub end : List Row
  pub by : Relabelling
  pub plays : Plays now (move_back old step.played on) end
  pub carried : IsCarriedBack old step.played now (move_back old step.played on) on by
  pub carries : Carries by old end
  pub image : IsImageRelabelling step back on by

pub led : (old : List Row) (step : PlayedMove) (now : List Row) (on : Relabelling) (back : Back) → CarriesToNow old step now on → IsBack step now on back → IsLed old step now on back
led old step now on back b k = record {
  end = l.end;
  by = l.by;
  plays = l.leads;
  carried = l.carried;
  carries = l.carries;
  image = record {
    relabels = subst (λ n. IsRelabelling n l.by) (sym tets) l.carried.relabels;
    can = λ t lt. can t (omega (arith, tets)) (find_at t step.facets) refl;
    image = λ t lt. image t (omega (arith, tets)) (find_at t step.facets) refl;
  };
}
  where
    m : Move
    m = step.played

    tets : step.tets ≡ length old
    tets = b.is_step.tets

    facets : step.facets ≡ old_facets old m
    facets = b.is_step.facets

    p : Plays old m b.new
    p = b.is_step.plays

    h : IsSteppedOn old m b.new now on
    h = stepped_on old step now on b

    l : IsLedBack old m b.new now on
    l = led_back_by old m b.new now on h

    moved : back.played ≡ move_back old m on
    moved = k.played ∙ back_is old step now on b

    labels : l.carried.labels ≡ back.labels
    labels =
        correspond_once old m now (move_back old m on) on l.carried.labels (back_labels old m on) p.moved.core l.carried.correspond (back_corresponds old m b.new now on h)
        ∙ sym (k.labels ∙ labels_are old step b.new now on h tets)

    kept_is : back.kept ≡ kept now (move_back old m on)
    kept_is = k.kept ∙ ap (kept now) moved

    taken_is : back.facets ≡ old_facets now (move_back old m on)
    taken_is = k.facets ∙ ap (old_facets now) moved

    are : AreOldFacets old m step.facets
    are = are_old old m step.facets (legal_from old m p.table p.moved.core p.moved.legal) facets

    stays : (t : ℕ) → find_at t step.facets ≡ None → is_removed_by old m t ≡ false
    stays t e = none_has (old_facets old m) t (ap (find_at t) (sym facets) ∙ e)

    image : (t : ℕ) → t < length old → (o : Option Facet) → find_at t step.facets ≡ o → relabelled_place l.by t ≡ image_by step back on t o
    image t lt None e = l.carried.kept t lt (stays t e) ∙ (λ i. record {
      tet = number_without (sym taken_is i) (relabelled_place on (number_without (sym facets i) t)).tet;
      perm = (relabelled_place on (number_without (sym facets i) t)).perm;
    })
    image t lt (Some f) e =
        let o = old_found old m step.facets t f are (sym e) in
        let is : IsOldFacet old m o.0 f = o.1 in
        let small : o.0 < 5 = (let below = is.labelled.missing_below in omega (arith, is.missing_is)) in
        let r = l.carried.replaced o.0 is.old_label small in
        let same : r.0 ≡ f = same_some (facet old m o.0) r.0 f r.1 is.found in
        ap (relabelled_place l.by) (sym (ap (λ (g : Facet). g.tet) same ∙ found_tet step.facets t f e))
        ∙ r.2
        ∙ ap (λ (g : Facet). by_labels (slice_index l.carried.labels) g (new_facet now (move_back old m on) (slice_index l.carried.labels o.0))) same
        ∙ ap (λ (ls : List ℕ). by_labels (slice_index ls) f (new_facet now (move_back old m on) (slice_index ls o.0))) labels
        ∙ ap (λ i. by_labels (slice_index back.labels) f (new_facet now (move_back old m on) (slice_index back.labels i))) (sym is.missing_is)
        ∙ ap (λ n. by_labels (slice_index back.labels) f (put_in n (slice_index back.labels f.missing))) (sym kept_is)

    can : (t : ℕ) → t < length old → (o : Option Facet) → find_at t step.facets ≡ o → HasImageBy step back on t o
    can t lt None e =
        let low : number_without (old_facets old m) t < kept old m = closed_up_small old m t p.table (no_fault old m p.moved.legal) p.moved.core lt (stays t e) in
        let same : number_without step.facets t ≡ number_without (old_facets old m) t = ap (λ (fs : List Facet). number_without fs t) facets in
        omega (arith, p.moved.length_is, length-images (length b.new) on b.relabels)
    can t lt (Some f) e =
        let o = old_found old m step.facets t f are (sym e) in
        let is : IsOldFacet old m o.0 f = o.1 in
        record {
          missing = is.labelled.missing_below;
          labels = All-from_get_or (λ l. l < 5) f.labels 0 (λ v lv. is.labelled.label_below v (let four = is.labelled.four_labels in omega arith));
          permutes = subst (λ (g : Gluing). IsPermutationOfFour g.perm) (image t lt (Some f) e) (perm_permutes (length old) l.by l.carried.relabels t lt);
        }

-- the relabelling that is made of the images is this one

pub filled_in : (step : PlayedMove) (back : Back) (on by : Relabelling) (t : ℕ) (images : List ℕ) (perms : List (List ℕ)) → IsImageRelabelling step back on by → t ≡ step.tets
    → images ≡ map (λ u. (image_at step back on u).tet) (below t) → perms ≡ map (λ u. (image_at step back on u).perm) (below t) → record { images = images; perms = perms } ≡ by
filled_in step back on by t images perms s e i p =
    are_of step.tets (image_at step back on) by images perms s.relabels s.image
    (i ∙ ap (λ n. map (λ u. (image_at step back on u).tet) (below n)) e) (p ∙ ap (λ n. map (λ u. (image_at step back on u).perm) (below n)) e)

-- the step has its inverse move

pub played_is : (old : List Row) (step : PlayedMove) (now : List Row) (on : Relabelling) (back : Back) (m : Move) → CarriesToNow old step now on → IsBack step now on back → m ≡ back.played → m ≡ move_back old step.played on
played_is old step now on back m b k e = e ∙ k.played ∙ back_is old step now on b

pub pattern_back : (old : List Row) (step : PlayedMove) (now : List Row) (on : Relabelling) (back : Back) (m : Move) (facets : List Facet) → CarriesToNow old step now on → IsBack step now on back → m ≡ back.played → facets ≡ back.facets
    → IsPattern now m facets
pattern_back old step now on back m facets b k e f =
    let l : IsLed old step now on back = led old step now on back b k in
    (f ∙ k.facets ∙ ap (old_facets now) (sym e), ap (move_fault now) (played_is old step now on back m b k e) ∙ l.plays.moved.legal)

pub not_refused : (old : List Row) (step : PlayedMove) (now : List Row) (on : Relabelling) (back : Back) (m : Move) (fault : MoveFault) → CarriesToNow old step now on → IsBack step now on back → m ≡ back.played → play_fault now m ≡ Some fault → ⊥
not_refused old step now on back m fault b k e f =
    let l : IsLed old step now on back = led old step now on back b k in
    let none : None ≡ Some fault = sym (ap (play_fault now) (played_is old step now on back m b k e) ∙ l.plays.accepted) ∙ f in
    cc

pub gone_back : (old : List Row) (step : PlayedMove) (now : List Row) (on : Relabelling) (back : Back) (m : Move) (before after : List Move) (end : List Row) (by : Relabelling) → CarriesToNow old step now on → IsBack step now on back
    → m ≡ back.played → after ≡ before ++ m ∷ [] → Plays now m end → ((other : Relabelling) → IsImageRelabelling step back on other → by ≡ other) → GoesBack old step now on before after end by
gone_back old step now on back m before after end by b k e moves plays one =
    let l : IsLed old step now on back = led old step now on back b k in
    let is : m ≡ move_back old step.played on = played_is old step now on back m b k e in
    let same : by ≡ l.by = one l.by l.image in
    let leads : Plays now (move_back old step.played on) end = subst (λ (q : Move). Plays now q end) is plays in
    let ends : end ≡ l.end = played_same now (move_back old step.played on) end l.end leads l.plays in
    record {
      moves = moves ∙ ap (λ (q : Move). before ++ q ∷ []) is;
      plays = leads;
      carried = subst (λ (r : Relabelling). IsCarriedBack old step.played now (move_back old step.played on) on r) (sym same) l.carried;
      carries = subst (λ (r : Relabelling). Carries r old end) (sym same) (subst (λ (t : List Row). Carries l.by old t) (sym ends) l.carries);
    }
