-- Directed edges by numbers.
use Rattle.std.proofs.Common.{◌≡◌, ◌≢◌, ℕ, ◌+◌, ◌*◌, ◌/◌, ◌%◌, ◌<◌, List, length, Some, refl, sym, ap, ◌∙◌, arith, subst}
use Rattle.table_definitions.specs.Permutation.{image}
use Rattle.table_definitions.specs.Table.{Row, IsTable}
use Rattle.table_definitions.specs.Places.{Place, IsPlace, across, carried}
use Rattle.skeleton_definitions.specs.Links.{directed}
use Rattle.table_definitions.proofs.PermutationLaws.{image_below, images_apart}
use Rattle.table_definitions.proofs.ChainLaws.{steps_across}
use Rattle.skeleton_class_laws.specs.Crossings.{direction_at, crossed_direction, pair, pair_number}
use Rattle.skeleton_class_laws.proofs.Cases.{head, head_below, apart_head, pair_number-head, pair_number-parts}
use Rattle.skeleton_class_laws.proofs.CrossingLemmas.{directed_is}
use Rattle.skeleton_class_laws.proofs.PlaceLemmas.{AreCounted}

-- two different vertices in an order
pub pair_is : (t v w : ℕ) → v < 4 → w < 4 → v ≢ w → directed (12 * t + pair_number v w) ≡ pair t v w
pair_is t v w l m ne =
    let p = pair_number-parts v w l m ne in
    let small : pair_number v w < 12 = p.0 in
    let d : (12 * t + pair_number v w) / 12 ≡ t = omega arith in
    let r : (12 * t + pair_number v w) % 12 ≡ pair_number v w = omega arith in
    directed_is (12 * t + pair_number v w) v w (sym (ap (λ k. k / 3) r ∙ p.1)) (sym (ap head r ∙ p.2)) ∙ (λ k. pair (d k) v w)

pub directed_pair : (i : ℕ) → directed i ≡ pair (i / 12) ((i % 12) / 3) (head (i % 12))
directed_pair i = directed_is i ((i % 12) / 3) (head (i % 12)) refl refl

number_of : (i : ℕ) → direction_at (directed i) ≡ i
number_of i =
    let l : i % 12 < 12 = omega arith in
    let n : pair_number ((i % 12) / 3) (head (i % 12)) ≡ i % 12 = pair_number-head (i % 12) l in
    let e : direction_at (directed i) ≡ 12 * (i / 12) + pair_number ((i % 12) / 3) (head (i % 12)) = ap direction_at (directed_pair i) in
    e ∙ ap (λ k. 12 * (i / 12) + k) n ∙ omega arith

pub directions_counted : (rows : List Row) → IsTable rows → AreCounted rows (12 * length rows) directed direction_at (crossed_direction rows)
unfolding crossed_direction
directions_counted rows table = record {
  steps = λ i f. refl;
  numbered = λ i l. number_of i;
  are_places = λ i l. subst IsPlace (sym (directed_pair i)) (from_below i, (head_below (i % 12) (part i), tt));
  lands = λ i f q l e. landed i f q e;
}
  where
    part : (i : ℕ) → i % 12 < 12
    part i = omega arith

    from_below : (i : ℕ) → (i % 12) / 3 < 4
    from_below i = let l : i % 12 < 12 = part i in omega arith

    landed : (i f : ℕ) (q : Place) → across rows (directed i) f ≡ Some q → (q ≡ directed (direction_at q)) × (direction_at q < 12 * length rows)
    landed i f q e =
        let s = steps_across rows (directed i) f q e in
        let p = s.gluing.perm in
        let h = table.permutes _ s.gluing s.glued in
        let v = (i % 12) / 3 in
        let w = head (i % 12) in
        let lv : v < 4 = from_below i in
        let lw : w < 4 = head_below (i % 12) (part i) in
        let iv : image p v < 4 = image_below p v h lv in
        let iw : image p w < 4 = image_below p w h lw in
        let separate : image p v ≢ image p w = images_apart p v w h lv lw (apart_head (i % 12) (part i)) in
        let lands : q ≡ pair s.gluing.tet (image p v) (image p w) = s.lands ∙ ap (carried s.gluing) (directed_pair i) in
        let t : s.gluing.tet < length rows = table.in_range _ s.gluing s.glued in
        let n : pair_number (image p v) (image p w) < 12 = (pair_number-parts (image p v) (image p w) iv iw separate).0 in
        let inside : 12 * s.gluing.tet + pair_number (image p v) (image p w) < 12 * length rows = omega arith in (
          lands ∙ sym (pair_is s.gluing.tet (image p v) (image p w) iv iw separate) ∙ ap (λ (r : Place). directed (direction_at r)) (sym lands),
          subst (λ (r : Place). direction_at r < 12 * length rows) (sym lands) inside,
        )
