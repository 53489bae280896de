-- The corresponding inverses of moves, one after another, result in a relabelling of the first table.
use Rattle.std.proofs.Common.{◌≡◌, ℕ, ◌<◌, ◌≤◌, List, [], ◌∷◌, ◌++◌, length, map, get_or, Option, Some, None, refl, sym, ap, ◌∙◌, subst, arith}
use Rattle.std.specs.Prelude.{option_map}
use Rattle.std.proofs.lemmas.Fn.{FoldsTo-push}
use Rattle.std.proofs.lemmas.List.{length-map}
use Rattle.std.proofs.lemmas.List.Elements.{All-from_get_or}
use Rattle.std.proofs.lemmas.List.FromFn.{length-range_with_len, get_or-range_with_len, get_or-map-range_with_len}
use Rattle.std.proofs.lemmas.List.Sorted.{IsPermutation-refl}
use Rattle.table_definitions.specs.Lists.{below}
use Rattle.table_definitions.specs.Permutation.{IsPermutationOfFour, inverse, compose, identity}
use Rattle.table_definitions.specs.Table.{max_tets, Gluing, Row, Face, glue, IsTable}
use Rattle.table_definitions.specs.Relabelling.{Relabelling, IsRelabelling, Carries, relabelled_place, face_under, gluing_under}
use Rattle.table_definitions.proofs.Permutations.{identity_permutes, inverse-identity, image-identity, identity-compose, compose-identity}
use Rattle.table_definitions.proofs.Faces.{face_at, gluing_to}
use Rattle.move_definitions.specs.Moves.{Move, new_length, Plays, PlaysAll}
use Rattle.certificate_definitions.specs.CarriedBack.{staying, move_back, AreCarriedBack}
use Rattle.move_laws.proofs.InverseFacets.{played}
use Rattle.certificate_laws.proofs.BackLabels.{IsSteppedOn}
use Rattle.certificate_laws.proofs.StepBack.{IsLedBack, led_back_by, no_limit}
use Rattle.certificate_laws.specs.Laws.{PlaysGoOn, StepsGoBack}
use Rattle.certificate_laws.proofs.CarriedFacets.{IsCarried, other_table, other_core, other_size}
use Rattle.certificate_laws.proofs.CarriedLegal.{carried_legal}
use Rattle.certificate_laws.proofs.CarriedPlaces.{kept_same}
use Rattle.certificate_laws.proofs.CarriedOn.{is_carried}
use Rattle.certificate_definitions.specs.CarriedMoves.{move_under}
use Rattle.move_laws.proofs.LedOn.{legal_moves_lead_on_lem}
use Rattle.move_laws.proofs.Played.{played_table}

-- the identity relabelling

stays_there : (n t : ℕ) → t < n → relabelled_place (staying n) t ≡ gluing_to t identity
stays_there n t l =
    let a : get_or (below n) t 0 ≡ t = get_or-range_with_len 0 n t 0 l ∙ omega arith in
    let b : get_or (map (λ t. identity) (below n)) t [] ≡ identity = get_or-map-range_with_len (λ t. identity) 0 n t t [] l (omega arith) in
    ap (λ u. gluing_to u (get_or (map (λ t. identity) (below n)) t [])) a ∙ ap (gluing_to t) b

pub staying_relabels : (n : ℕ) → IsRelabelling n (staying n)
staying_relabels n = record {
  images = IsPermutation-refl (below n);
  perms = length-map (below n) (λ t. identity) ∙ length-range_with_len 0 n;
  permutes = All-from_get_or IsPermutationOfFour (map (λ t. identity) (below n)) [] (λ k l. (let l' : k < n = omega (arith, length-map {B = List ℕ} (below n) (λ t. identity), length-range_with_len 0 n) in
      subst IsPermutationOfFour (sym (get_or-map-range_with_len (λ t. identity) 0 n k k [] l' (omega arith))) identity_permutes));
}

pub staying_carries : (rows : List Row) → IsTable rows → Carries (staying (length rows)) rows rows
staying_carries rows table = record { same_length = refl; four_faces = table.four_faces; glued = λ x lt lf. glued_at x lt lf }
  where
    s : ℕ → Gluing
    s t = relabelled_place (staying (length rows)) t

    glued_at : (x : Face) → x.tet < length rows → x.face < 4 → glue rows (face_under (s x.tet) x) ≡ option_map (λ g. gluing_under (s x.tet) (s g.tet) g) (glue rows x)
    glued_at x lt lf = ap (λ (g : Gluing). glue rows (face_under g x)) (stays_there (length rows) x.tet lt) ∙ ap (λ v. glue rows (face_at x.tet v)) (image-identity x.face lf) ∙ cases (glue rows x) refl
      where
        cases : (o : Option Gluing) → glue rows x ≡ o → glue rows x ≡ option_map (λ g. gluing_under (s x.tet) (s g.tet) g) (glue rows x)
        cases None e = e ∙ ap (option_map (λ g. gluing_under (s x.tet) (s g.tet) g)) (sym e)
        cases (Some g) e =
            let hg : IsPermutationOfFour g.perm = table.permutes x g e in
            let perms : compose identity (compose g.perm (inverse identity)) ≡ g.perm =
            ap (λ q. compose identity (compose g.perm q)) inverse-identity ∙ ap (compose identity) (compose-identity g.perm hg) ∙ identity-compose g.perm hg in
            let same : gluing_under (s x.tet) (s g.tet) g ≡ g =
            ap (λ (k : Gluing). gluing_under k (s g.tet) g) (stays_there (length rows) x.tet lt) ∙ ap (λ (k : Gluing). gluing_under (gluing_to x.tet identity) k g) (stays_there (length rows) g.tet (table.in_range x g e)) ∙ ap (gluing_to g.tet) perms in
            e ∙ ap (λ (k : Gluing). Some k) (sym same) ∙ ap (option_map (λ g. gluing_under (s x.tet) (s g.tet) g)) (sym e)

-- the tables that result from moves

pub stepped : (rows : List Row) (m : Move) (next now : List Row) (on : Relabelling) → Plays rows m next → IsRelabelling (length next) on → Carries on next now → IsSteppedOn rows m next now on
stepped rows m next now on p r c = record { played = played rows m next p.table p.moved; new_table = played_table rows m next p; relabels = r; carries = c }

-- moves that were played have inverses that can be played
pub record IsWayBack (rows : List Row) (moves : List Move) (last : List Row) : Type 0 where
  pub back : List Move
  pub end : List Row
  pub by : Relabelling
  pub are : AreCarriedBack rows moves last back end by
  pub leads : PlaysAll last back end
  pub relabels : IsRelabelling (length rows) by
  pub carries : Carries by rows end

pub way_back_of : (rows : List Row) (moves : List Move) (last : List Row) → IsTable rows → PlaysAll rows moves last → IsWayBack rows moves last
way_back_of rows [] last table led = subst (λ (t : List Row). IsWayBack rows [] t) led (record {
  back = [];
  end = rows;
  by = staying (length rows);
  are = (refl, refl, refl, refl);
  leads = refl;
  relabels = staying_relabels (length rows);
  carries = staying_carries rows table;
})
way_back_of rows (m ∷ ms) last table (next, first, rest) =
    let w : IsWayBack next ms last = way_back_of next ms last (played_table rows m next first) rest in
    let l : IsLedBack rows m next w.end w.by = led_back_by rows m next w.end w.by (stepped rows m next w.end w.by first w.relabels w.carries) in
    record {
      back = w.back ++ move_back rows m w.by ∷ [];
      end = l.end;
      by = l.by;
      are = (next, first, (w.back, w.end, w.by, w.are, refl, l.leads, l.carried));
      leads = FoldsTo-push Plays last w.back w.end (move_back rows m w.by) l.end w.leads l.leads;
      relabels = l.carried.relabels;
      carries = l.carries;
    }

-- if a move can be played, so can the corresponding one
pub plays_go_on_lem : PlaysGoOn
plays_go_on_lem by old other m new p relabels carries =
    let h : IsCarried by old other m = is_carried by old other m new p.table relabels carries p.moved in
    let led = legal_moves_lead_on_lem other (move_under by m) (other_table by old other m h) (other_core by old other m h) (carried_legal by old other m h) in
    let same : new_length other (move_under by m) ≡ new_length old m = omega (arith, kept_same by old other m h, other_size by old other m h) in
    let fits : length new ≤ max_tets = (played_table old m new p).limited in
    (led.0, record { table = other_table by old other m h; moved = led.1; accepted = no_limit other (move_under by m) (carried_legal by old other m h) (omega (arith, same, p.moved.length_is)) })

pub steps_go_back_lem : StepsGoBack
steps_go_back_lem old m new now on first relabels carries =
    let l : IsLedBack old m new now on = led_back_by old m new now on (stepped old m new now on first relabels carries) in (l.end, l.by, l.leads, l.carried, l.carries)
