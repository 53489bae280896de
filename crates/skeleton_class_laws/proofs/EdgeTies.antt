-- Edges by numbers, in either direction.
use Rattle.std.proofs.Common.{◌≡◌, ◌≢◌, ◌↔◌, ◌⊎◌, inl, inr, ℕ, ◌+◌, ◌*◌, ◌/◌, ◌%◌, ◌<◌, Bool, true, false, List, [], ◌∷◌, length, Option, Some, None, refl, sym, ap, ◌∙◌, arith, subst}
use Rattle.std.specs.Prelude.{◌==◌, ◌||◌, option_map, option_and_then, if◌then◌else◌}
use Rattle.table_definitions.specs.Permutation.{image}
use Rattle.table_definitions.specs.Table.{Gluing, Row, glue, IsTable}
use Rattle.table_definitions.specs.Places.{Place, IsPlace, across, along, carried, backwards, edge, ends, edge_number, SameEdge}
use Rattle.table_definitions.proofs.PermutationLaws.{image_below, images_apart}
use Rattle.table_definitions.proofs.ChainLaws.{steps_across, step_back, face_crossed}
use Rattle.skeleton_class_laws.specs.Crossings.{edge_at, crossed_edge, pair}
use Rattle.skeleton_class_laws.specs.Neighbours.{led, IsLed, IsReversible}
use Rattle.skeleton_class_laws.proofs.Cases.{are_ends, edge_number-backwards, edge_number-ends, ends-edge_number, low, high}
use Rattle.skeleton_class_laws.proofs.CrossingLemmas.{edge_is}

part : (i : ℕ) → i % 6 < 6
part i = omega arith

pub edge_pair : (i : ℕ) → edge i ≡ pair (i / 6) (low (i % 6)) (high (i % 6))
edge_pair i = edge_is i (low (i % 6)) (high (i % 6)) (are_ends (i % 6) (part i)).two

-- an edge by its ends
pub edge_by_ends : (t a b c d : ℕ) → edge_number a b < 6 → ends (edge_number a b) ≡ c ∷ d ∷ [] → edge (6 * t + edge_number a b) ≡ pair t c d
edge_by_ends t a b c d small e =
    let x : (6 * t + edge_number a b) / 6 ≡ t = omega arith in
    let r : (6 * t + edge_number a b) % 6 ≡ edge_number a b = omega arith in
    edge_is (6 * t + edge_number a b) c d (ap ends r ∙ e) ∙ (λ k. pair (x k) c d)

-- two different vertices are their edge, in one of its directions
pub pair_either : (t a b : ℕ) → a < 4 → b < 4 → a ≢ b → (pair t a b ≡ edge (6 * t + edge_number a b)) ⊎ (pair t a b ≡ backwards (edge (6 * t + edge_number a b)))
pair_either t a b l m ne =
    let n = ends-edge_number a b l m ne in
    elim n.1 [ inl e ↦ inl (sym (edge_by_ends t a b a b n.0 e)) | inr e ↦ inr (ap backwards (sym (edge_by_ends t a b b a n.0 e))) ]

-- a pair of vertices is edge i, in one of its directions
abbrev Either : ℕ → Place → Type 0
Either i p = (p ≡ edge i) ⊎ (p ≡ backwards (edge i))

pub turned_twice : (i : ℕ) → backwards (backwards (edge i)) ≡ edge i
turned_twice i = ap (λ (p : Place). backwards (backwards p)) (edge_pair i) ∙ sym (edge_pair i)

-- a step of a reversed edge
swap : (a b : Bool) → (a || (b || false)) ≡ (b || (a || false))
swap true true = refl
swap true false = refl
swap false true = refl
swap false false = refl

pair_turned : (rows : List Row) (t a b f : ℕ) → across rows (backwards (pair t a b)) f ≡ option_map backwards (across rows (pair t a b) f)
pair_turned rows t a b f =
    ap (λ (c : Bool). if◌then◌else◌ {A = Option Place} c None (option_map (λ g. carried g (pair t b a)) o)) (swap (b == f) (a == f))
    ∙ by_cases ((a == f) || ((b == f) || false)) o
  where
    o : Option Gluing
    o = glue rows (record { tet = t; face = f })

    by_cases : (c : Bool) (g : Option Gluing) → if◌then◌else◌ {A = Option Place} c None (option_map (λ g. carried g (pair t b a)) g)
        ≡ option_map backwards (if◌then◌else◌ {A = Option Place} c None (option_map (λ g. carried g (pair t a b)) g))
    by_cases true g = refl
    by_cases false None = refl
    by_cases false (Some g) = refl

edge_turned : (rows : List Row) (i f : ℕ) → across rows (backwards (edge i)) f ≡ option_map backwards (across rows (edge i) f)
edge_turned rows i f = subst (λ (p : Place). across rows (backwards p) f ≡ option_map backwards (across rows p f)) (sym (edge_pair i)) (pair_turned rows (i / 6) (low (i % 6)) (high (i % 6)) f)

module _ (rows : List Row) (table : IsTable rows) where
  -- the edge that a step from edge i reaches
  record Lands (i f : ℕ) (q : Place) : Type 0 where
    next : crossed_edge rows i f ≡ Some (edge_at q)
    turned_number : edge_at (backwards q) ≡ edge_at q
    either : Either (edge_at q) q
    inside : edge_at q < 6 * length rows

  lands_at : (i f t a b : ℕ) → a < 4 → b < 4 → a ≢ b → t < length rows → across rows (edge i) f ≡ Some (pair t a b) → Lands i f (pair t a b)
  unfolding crossed_edge
  lands_at i f t a b l m ne lt e =
      let n = ends-edge_number a b l m ne in
      let small : edge_number a b < 6 = n.0 in
      let inside : 6 * t + edge_number a b < 6 * length rows = omega arith in
      record {
        next = ap (λ (o : Option Place). option_map edge_at o) e;
        turned_number = ap (λ k. 6 * t + k) (edge_number-backwards a b l m);
        either = pair_either t a b l m ne;
        inside = inside;
      }

  lands : (i f : ℕ) (q : Place) → across rows (edge i) f ≡ Some q → Lands i f q
  lands i f q e =
      let s = steps_across rows (edge i) f q e in
      let p = s.gluing.perm in
      let h = table.permutes _ s.gluing s.glued in
      let k = are_ends (i % 6) (part i) in
      let there : q ≡ pair s.gluing.tet (image p (low (i % 6))) (image p (high (i % 6))) = s.lands ∙ ap (carried s.gluing) (edge_pair i) in
      subst (Lands i f) (sym there)
      (lands_at i f s.gluing.tet (image p (low (i % 6))) (image p (high (i % 6))) (image_below p (low (i % 6)) h k.lower) (image_below p (high (i % 6)) h k.higher)
      (images_apart p (low (i % 6)) (high (i % 6)) h k.lower k.higher k.separate) (table.in_range _ s.gluing s.glued) (e ∙ ap (λ (r : Place). Some r) there))

  turned_some : (o : Option Place) (q : Place) → option_map backwards o ≡ Some q → (r : Place) × (o ≡ Some r) × (backwards r ≡ q)
  turned_some None q e = absurd cc
  turned_some (Some r) q e = (r, refl, let f : backwards r ≡ q = cc in f)

  turn_either : (i : ℕ) (q : Place) → Either i q → Either i (backwards q)
  turn_either i q (inl e) = inr (ap backwards e)
  turn_either i q (inr e) = inl (ap backwards e ∙ turned_twice i)

  -- a step from edge i, in either direction
  step_forth : (i f : ℕ) (p q : Place) → Either i p → across rows p f ≡ Some q → (crossed_edge rows i f ≡ Some (edge_at q)) × Either (edge_at q) q
  step_forth i f p q (inl same) e = let s = lands i f q (sym (ap (λ (r : Place). across rows r f) same) ∙ e) in (s.next, s.either)
  step_forth i f p q (inr same) e =
      let t = turned_some (across rows (edge i) f) q (sym (edge_turned rows i f) ∙ sym (ap (λ (r : Place). across rows r f) same) ∙ e) in
      let s = lands i f t.0 t.1 in
      let n : edge_at t.0 ≡ edge_at q = sym s.turned_number ∙ ap edge_at t.2 in
      (s.next ∙ ap Some n, subst (λ (r : Place). Either (edge_at q) r) t.2 (turn_either (edge_at q) t.0 (subst (λ k. Either k t.0) n s.either)))

  number_some : (o : Option Place) (j : ℕ) → option_map edge_at o ≡ Some j → (q : Place) × (o ≡ Some q) × (edge_at q ≡ j)
  number_some None j e = absurd cc
  number_some (Some q) j e = (q, refl, let f : edge_at q ≡ j = cc in f)

  step_found : (i f j : ℕ) → crossed_edge rows i f ≡ Some j → (q : Place) × (across rows (edge i) f ≡ Some q) × Either j q × (j < 6 * length rows)
  unfolding crossed_edge
  step_found i f j e =
      let n = number_some (across rows (edge i) f) j e in
      let s = lands i f n.0 n.1 in
      (n.0, n.1, subst (λ k. Either k n.0) n.2 s.either, subst (λ k. k < 6 * length rows) n.2 s.inside)

  step_for : (i f j : ℕ) (p : Place) → Either i p → crossed_edge rows i f ≡ Some j → (q : Place) × (across rows p f ≡ Some q) × Either j q
  step_for i f j p (inl same) e = let s = step_found i f j e in (s.0, ap (λ (r : Place). across rows r f) same ∙ s.1, s.2)
  step_for i f j p (inr same) e =
      let s = step_found i f j e in
      (backwards s.0, ap (λ (r : Place). across rows r f) same ∙ edge_turned rows i f ∙ ap (λ (o : Option Place). option_map backwards o) s.1, turn_either j s.0 s.2)

  along_by : (fs : List ℕ) (i j : ℕ) (p : Place) → Either i p → led (crossed_edge rows) i fs ≡ Some j → (q : Place) × (along rows p fs ≡ Some q) × Either j q
  along_by [] i j p x e = (p, refl, subst (λ k. Either k p) (let s : i ≡ j = cc in s) x)
  along_by (f ∷ fs) i j p x e = by_step (λ k q y s. along_by fs k j q y s) (crossed_edge rows i f) refl e
    where
      by_step : ((k : ℕ) (q : Place) → Either k q → led (crossed_edge rows) k fs ≡ Some j → (r : Place) × (along rows q fs ≡ Some r) × Either j r) → (o : Option ℕ) → crossed_edge rows i f ≡ o
          → option_and_then (λ k. led (crossed_edge rows) k fs) o ≡ Some j → (r : Place) × (along rows p (f ∷ fs) ≡ Some r) × Either j r
      by_step later None h s = absurd cc
      by_step later (Some k) h s =
          let t = step_for i f k p x h in
          let m = later k t.0 t.2 s in
          (m.0, ap (λ (o : Option Place). option_and_then (λ r. along rows r fs) o) t.1 ∙ m.1, m.2)

  either_number : (i : ℕ) (p : Place) → Either i p → edge_at p ≡ i
  either_number i p (inl e) = ap edge_at e ∙ number_of
    where
      number_of : edge_at (edge i) ≡ i
      number_of = ap edge_at (edge_pair i) ∙ ap (λ k. 6 * (i / 6) + k) (edge_number-ends (i % 6) (part i)) ∙ omega arith
  either_number i p (inr e) = ap edge_at e ∙ ap (λ (r : Place). edge_at (backwards r)) (edge_pair i) ∙ ap (λ k. 6 * (i / 6) + k) number_of ∙ omega arith
    where
      number_of : edge_number (high (i % 6)) (low (i % 6)) ≡ i % 6
      number_of =
          let k = are_ends (i % 6) (part i) in
          edge_number-backwards (low (i % 6)) (high (i % 6)) k.lower k.higher ∙ edge_number-ends (i % 6) (part i)

  led_by : (fs : List ℕ) (i : ℕ) (p q : Place) → Either i p → along rows p fs ≡ Some q → led (crossed_edge rows) i fs ≡ Some (edge_at q)
  led_by [] i p q x e = ap Some (sym (either_number i p x) ∙ ap edge_at (let s : p ≡ q = cc in s))
  led_by (f ∷ fs) i p q x e = by_step (λ k r y s. led_by fs k r q y s) (across rows p f) refl e
    where
      by_step : ((k : ℕ) (r : Place) → Either k r → along rows r fs ≡ Some q → led (crossed_edge rows) k fs ≡ Some (edge_at q)) → (o : Option Place) → across rows p f ≡ o
          → option_and_then (λ r. along rows r fs) o ≡ Some q → led (crossed_edge rows) i (f ∷ fs) ≡ Some (edge_at q)
      by_step later None h s = absurd cc
      by_step later (Some r) h s =
          let t = step_forth i f p r x h in
          ap (λ (o : Option ℕ). option_and_then (λ k. led (crossed_edge rows) k fs) o) t.0 ∙ later (edge_at r) r t.1 s

  pub led_is_same_edge : (i j : ℕ) → IsLed (crossed_edge rows) i j ↔ SameEdge rows i j
  led_is_same_edge i j = (λ h. forth h.0 (along_by h.0 i j (edge i) (inl refl) h.1), back)
    where
      forth : (fs : List ℕ) → (q : Place) × (along rows (edge i) fs ≡ Some q) × Either j q → SameEdge rows i j
      forth fs (q, e, inl same) = inl (fs, e ∙ ap (λ (r : Place). Some r) same)
      forth fs (q, e, inr same) = inr (fs, e ∙ ap (λ (r : Place). Some r) same)

      back : SameEdge rows i j → IsLed (crossed_edge rows) i j
      back (inl h) = (h.0, led_by h.0 i (edge i) (edge j) (inl refl) h.1 ∙ ap Some (either_number j (edge j) (inl refl)))
      back (inr h) = (h.0, led_by h.0 i (edge i) (backwards (edge j)) (inl refl) h.1 ∙ ap Some (either_number j (backwards (edge j)) (inr refl)))

  is_place : (i : ℕ) → IsPlace (edge i)
  is_place i =
      let k = are_ends (i % 6) (part i) in
      subst IsPlace (sym (edge_pair i)) (k.lower, (k.higher, tt))

  pub edges_reversible : IsReversible (6 * length rows) (crossed_edge rows)
  edges_reversible i f j l m e =
      let s = step_found i f j e in
      let b = step_back rows (edge i) f s.0 table (is_place i) s.1 in
      (s.3, (b.0, b.1, (step_forth j b.0 s.0 (edge i) s.2 b.2).0 ∙ ap Some (either_number i (edge i) (inl refl))))

  pub few_edge_faces : (i f j : ℕ) → i < 6 * length rows → crossed_edge rows i f ≡ Some j → f < 4
  few_edge_faces i f j l e = let s = step_found i f j e in face_crossed rows (edge i) f s.0 table s.1
