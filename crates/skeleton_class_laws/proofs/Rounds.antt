-- A tour around an edge lists each corner that its steps reach, once.
use Rattle.std.proofs.Common.{◌≡◌, ◌≢◌, ℕ, zero, suc, ◌<◌, ◌≤◌, List, [], ◌∷◌, length, get_or, Option, Some, None, ⊎_elim, refl, sym, ap, ◌∙◌, subst, arith}
use Rattle.std.specs.Prelude.{option_map, option_and_then, Contains}
use Rattle.std.proofs.lemmas.Bool.{cases_lt}
use Rattle.std.proofs.lemmas.List.{get_or_default}
use Rattle.table_definitions.specs.Permutation.{IsPermutationOfFour}
use Rattle.table_definitions.specs.Table.{Gluing, Row, glue, IsTable}
use Rattle.table_definitions.proofs.PermutationLaws.{image_below, image-of_inverse, images_apart}
use Rattle.skeleton_class_laws.specs.CornersIn.{IsCornerIn}
use Rattle.skeleton_definitions.specs.Corners.{Corner, left_through, came_through, corner_across, step, steps, Reaches, GoesAround, IsTourFrom, AreCorners}

-- the corner that a way across a gluing reaches, and the corner itself if there is no gluing
abbrev pub where_led : (Corner → Gluing → Corner) → Corner → Option Gluing → Corner
where_led way k None = k
where_led way k (Some g) = way k g

-- the next corner, and the corner before
abbrev pub next : List Row → Corner → Corner
next rows k = where_led corner_across k (glue rows (left_through k))

abbrev pub before : List Row → Corner → Corner
before rows k = where_led corner_across k (glue rows (came_through k))

-- the first of several steps
pub first_step : (rows : List Row) (n : ℕ) (l : Corner) (o : Option Corner) → option_and_then (λ m. steps rows n m) o ≡ Some l → (m : Corner) × (o ≡ Some m) × (steps rows n m ≡ Some l)
first_step rows n l None e = absurd cc
first_step rows n l (Some m) e = (m, refl, e)

-- one step more
pub steps_more : (rows : List Row) (n : ℕ) (k l m : Corner) → steps rows n k ≡ Some l → step rows l ≡ Some m → steps rows (suc n) k ≡ Some m
steps_more rows zero k l m e s = let same : k ≡ l = cc in ap (λ c. option_and_then (λ d. Some d) (step rows c)) same ∙ ap (option_and_then (λ d. Some d)) s
steps_more rows (suc n) k l m e s =
    let f = first_step rows n l (step rows k) e in
    ap (option_and_then (λ d. steps rows (suc n) d)) f.1 ∙ steps_more rows n f.0 l m f.2 s

pub record IsStep (rows : List Row) (k l : Corner) : Type 0 where
  pub four : IsCornerIn (length rows) l
  pub back : k ≡ before rows l

behind_is : (rows : List Row) → IsTable rows → (k l : Corner) → IsCornerIn (length rows) k → (g : Gluing) → glue rows (left_through k) ≡ Some g → corner_across k g ≡ l → IsStep rows k l
behind_is rows table k l four g e is = subst (IsStep rows k) is (record {
  four = record {
    tet = table.in_range (left_through k) g e;
    a = image_below g.perm k.a p four.a;
    b = image_below g.perm k.b p four.b;
    c = image_below g.perm k.d p four.d;
    d = image_below g.perm k.c p four.c;
    ac = images_apart g.perm k.a k.d p four.a four.d four.ad;
    ad = images_apart g.perm k.a k.c p four.a four.c four.ac;
  };
  back = (λ i. record {
    tet = k.tet;
    a = sym (image-of_inverse g.perm k.a p four.a) i;
    b = sym (image-of_inverse g.perm k.b p four.b) i;
    c = sym (image-of_inverse g.perm k.c p four.c) i;
    d = sym (image-of_inverse g.perm k.d p four.d) i;
  }) ∙ ap (where_led corner_across (corner_across k g)) (sym (table.leads_back (left_through k) g e));
})
  where
    p : IsPermutationOfFour g.perm
    p = table.permutes (left_through k) g e

step_is : (rows : List Row) → IsTable rows → (k l : Corner) → IsCornerIn (length rows) k → (o : Option Gluing) → glue rows (left_through k) ≡ o → option_map (corner_across k) o ≡ Some l → IsStep rows k l
step_is rows table k l four None e h = absurd cc
step_is rows table k l four (Some g) e h = behind_is rows table k l four g e (cc)

pub is_step : (rows : List Row) → IsTable rows → (k l : Corner) → IsCornerIn (length rows) k → step rows k ≡ Some l → IsStep rows k l
is_step rows table k l four h = step_is rows table k l four (glue rows (left_through k)) refl h

-- the corners of a tour, by their indices
module _ (rows : List Row) (first : Corner) where
  next_at : (k : Corner) (ks : List Corner) → GoesAround rows first k ks → (i : ℕ) → i < length ks → step rows (get_or (k ∷ ks) i first) ≡ Some (get_or (k ∷ ks) (suc i) first)
  next_at k [] h i l = absurd (omega arith)
  next_at k (m ∷ ms) h zero l = h.0
  next_at k (m ∷ ms) h (suc i) l = next_at m ms h.2 i (omega arith)

  last_at : (k : Corner) (ks : List Corner) → GoesAround rows first k ks → step rows (get_or (k ∷ ks) (length ks) first) ≡ Some first
  last_at k [] h = h
  last_at k (m ∷ ms) h = last_at m ms h.2

  not_first : (k : Corner) (ks : List Corner) → GoesAround rows first k ks → (i : ℕ) → i < length ks → get_or ks i first ≢ first
  not_first k [] h i l = absurd (omega arith)
  not_first k (m ∷ ms) h zero l = h.1
  not_first k (m ∷ ms) h (suc i) l = not_first m ms h.2 i (omega arith)

  four_at : IsTable rows → (k : Corner) (ks : List Corner) → GoesAround rows first k ks → IsCornerIn (length rows) k → (i : ℕ) → i ≤ length ks → IsCornerIn (length rows) (get_or (k ∷ ks) i first)
  four_at table k ks h four zero l = four
  four_at table k [] h four (suc i) l = absurd (omega arith)
  four_at table k (m ∷ ms) h four (suc i) l = four_at table m ms h.2 (is_step rows table k m four h.0).four i (omega arith)

  -- no corner occurs at two indices
  once_at : IsTable rows → (k : Corner) (ks : List Corner) → k ≡ first → GoesAround rows first k ks → IsCornerIn (length rows) k → (i j : ℕ) → i < j → j ≤ length ks → get_or (k ∷ ks) i first ≢ get_or (k ∷ ks) j first
  once_at table k ks e h four i zero less l same = absurd (omega arith)
  once_at table k ks e h four zero (suc j) less l same = not_first k ks h j (omega arith) (sym same ∙ e)
  once_at table k ks e h four (suc i) (suc j) less l same =
      let one : IsStep rows (get_or (k ∷ ks) i first) (get_or (k ∷ ks) (suc i) first) = is_step rows table _ _ (four_at table k ks h four i (omega arith)) (next_at k ks h i (omega arith)) in
      let two : IsStep rows (get_or (k ∷ ks) j first) (get_or (k ∷ ks) (suc j) first) = is_step rows table _ _ (four_at table k ks h four j (omega arith)) (next_at k ks h j (omega arith)) in
      once_at table k ks e h four i j (omega arith) (omega arith) (one.back ∙ ap (before rows) same ∙ sym two.back)

  reached_at : (k : Corner) (ks : List Corner) → k ≡ first → GoesAround rows first k ks → (i : ℕ) → i ≤ length ks → Reaches rows first (get_or (k ∷ ks) i first)
  reached_at k ks e h zero l = (0, ap (λ c. Some c) (sym e))
  reached_at k ks e h (suc i) l =
      let r : Reaches rows first (get_or (k ∷ ks) i first) = reached_at k ks e h i (omega arith) in
      (suc r.0, steps_more rows r.0 first (get_or (k ∷ ks) i first) (get_or (k ∷ ks) (suc i) first) r.1 (next_at k ks h i (omega arith)))

  -- a step from a corner of the tour reaches a corner of the tour
  closed : (k : Corner) (ks : List Corner) → k ≡ first → GoesAround rows first k ks → (i : ℕ) → i ≤ length ks → (m : Corner) → step rows (get_or (k ∷ ks) i first) ≡ Some m
      → (j : ℕ) × (j ≤ length ks) × (get_or (k ∷ ks) j first ≡ m)
  closed k ks e h i l m f = ⊎_elim
      (λ low. let n : step rows (get_or (k ∷ ks) i first) ≡ Some (get_or (k ∷ ks) (suc i) first) = next_at k ks h i low in (suc i, omega arith, same_some (sym n ∙ f)))
      (λ high. let at : i ≡ length ks = omega arith in
      let n : step rows (get_or (k ∷ ks) i first) ≡ Some first = ap (λ j. step rows (get_or (k ∷ ks) j first)) at ∙ last_at k ks h in
      (0, omega arith, e ∙ same_some (sym n ∙ f)))
      (cases_lt i (length ks))
    where
      same_some : {a b : Corner} → Some a ≡ Some b → a ≡ b
      same_some {a} {b} g = cc

contained : (rows : List Row) (first k : Corner) (ks : List Corner) → k ≡ first → GoesAround rows first k ks → (m : Corner) (n i : ℕ) → i ≤ length ks → (c : Corner) → get_or (k ∷ ks) i first ≡ c → steps rows n c ≡ Some m
    → Contains (k ∷ ks) m
contained rows first k ks e h m zero i l c at f =
    let same : c ≡ m = cc in
    (i, omega arith, get_or_default (k ∷ ks) i m first (omega arith) ∙ at ∙ same)
contained rows first k ks e h m (suc n) i l c at f = go (step rows c) refl f (λ j lj d q g. contained rows first k ks e h m n j lj d q g)
  where
    go : (o : Option Corner) → step rows c ≡ o → option_and_then (λ x. steps rows n x) o ≡ Some m
        → ((j : ℕ) → j ≤ length ks → (d : Corner) → get_or (k ∷ ks) j first ≡ d → steps rows n d ≡ Some m → Contains (k ∷ ks) m) → Contains (k ∷ ks) m
    go None s g again = absurd cc
    go (Some d) s g again =
        let next = closed rows first k ks e h i l d (ap (λ x. step rows x) at ∙ s) in
        again next.0 next.1 d next.2 g

-- the law: the tour that returns to its first corner lists all corners that steps reach, each once
pub walk_has_corners : (rows : List Row) → IsTable rows → (first : Corner) → IsCornerIn (length rows) first → (corners : List Corner) → IsTourFrom rows first corners → AreCorners rows first corners
walk_has_corners rows table first four [] h = absurd h
walk_has_corners rows table first four (k ∷ ks) h =
    let start : IsCornerIn (length rows) k = subst (IsCornerIn (length rows)) (sym h.0) four in
    record {
      reached = λ m. (
        (λ c. let low : c.0 < suc (length ks) = c.1 in subst (Reaches rows first) (get_or_default (k ∷ ks) c.0 first m c.1 ∙ c.2) (reached_at rows first k ks h.0 h.1 c.0 (omega arith))),
        (λ r. contained rows first k ks h.0 h.1 m r.0 0 (omega arith) first h.0 r.1),
      );
      once = λ i j less l. once_at rows first table k ks h.0 h.1 start i j less (omega arith);
    }

-- each of them is a corner of one of the tetrahedra
pub walk_in_range : (rows : List Row) → IsTable rows → (first : Corner) → IsCornerIn (length rows) first → (corners : List Corner) → IsTourFrom rows first corners
    → (i : ℕ) → i < length corners → IsCornerIn (length rows) (get_or corners i first)
walk_in_range rows table first four [] h i l = absurd h
walk_in_range rows table first four (k ∷ ks) h i l = four_at rows first table k ks h.1 (subst (IsCornerIn (length rows)) (sym h.0) four) i (omega arith)
