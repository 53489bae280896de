-- The corners of an edge class lie at edges of the class.
use Rattle.std.proofs.Common.{◌≡◌, ℕ, zero, suc, ◌+◌, ◌*◌, ◌/◌, ◌%◌, ◌<◌, Bool, true, false, not, List, [], ◌∷◌, length, reverse, filter, Option, Some, None, option_and_then, ◌⊎◌, inl, inr, refl, sym, ap, ◌∙◌, subst, arith}
use Rattle.std.specs.Prelude.{◌==◌, ◌&&◌, ◌||◌, nat_lt, slice_index, option_map}
use Rattle.std.proofs.lemmas.Bool.{agree_below_at, and_parts, ltb-true, or_cases, ne_eqb, eq-eqb, eqb-true, cases_lt, both_ways}
use Rattle.std.proofs.lemmas.List.Sums.{passes_at_first, fails_before_first}
use Rattle.table_definitions.specs.Lists.{has, same_list}
use Rattle.table_definitions.specs.Permutation.{four, IsPermutationOfFour, is_permutation, image}
use Rattle.table_definitions.specs.Table.{Row, glue, IsTable}
use Rattle.table_definitions.specs.Places.{Place, carried, across, along, IsJoined, backwards, edge, ends, edge_number, SameEdge}
use Rattle.table_definitions.specs.Classes.{IsNumbering, least}
use Rattle.table_definitions.proofs.ListFacts.{same_list-true}
use Rattle.table_definitions.proofs.Permutations.{by_words}
use Rattle.table_definitions.proofs.Faces.{face_at}
use Rattle.skeleton_definitions.specs.Corners.{Corner, step, steps, Reaches, first_corner, corner_of}
use Rattle.basic_lemmas.proofs.Truths.{if_false}
use Rattle.surface_laws.proofs.CornerSteps.{IsStep, step_is}
use Rattle.surface_equation_laws.proofs.CornerSteps.{IsCorner, step_keeps, steps_keep, IsApart, apart_in}
use Rattle.skeleton_class_laws.specs.Rounds.{corner_word}

abbrev pub place_at : ℕ → List ℕ → Place
place_at t vs = record { tet = t; vertices = vs }

-- the edge of a corner
abbrev pub edge_of : Corner → Place
edge_of k = place_at k.tet (k.a ∷ k.b ∷ [])

abbrev pub edge_index : Corner → ℕ
edge_index k = 6 * k.tet + edge_number k.a k.b

-- the first corner of an edge is one of it
corner_on : ℕ → ℕ → Corner
corner_on t e = corner_of t (ends e) (filter (λ v. not (has (ends e) v)) four)

first_test : ℕ → Bool
first_test e = is_permutation (corner_word (corner_on 0 e)) && same_list ((corner_on 0 e).a ∷ (corner_on 0 e).b ∷ []) (ends e)

first_tested : (e : ℕ) → e < 6 → first_test e ≡ true
unfolding first_test corner_on is_permutation
first_tested e l = agree_below_at first_test (λ v. true) 6 e refl l

pub record IsFirst (rows : List Row) (i : ℕ) : Type 0 where
  pub corner : IsCorner rows (first_corner i)
  pub at : edge_of (first_corner i) ≡ edge i

pub first_is : (rows : List Row) (i : ℕ) → i < 6 * length rows → IsFirst rows i
unfolding first_test corner_on
first_is rows i l =
    let k : Corner = first_corner i in
    let t : (is_permutation (corner_word k) ≡ true) × (same_list (k.a ∷ k.b ∷ []) (ends (i % 6)) ≡ true) =
    and_parts (is_permutation (corner_word k)) (same_list (k.a ∷ k.b ∷ []) (ends (i % 6))) (first_tested (i % 6) (omega arith)) in
    record {
      corner = record { tet = omega arith; permutes = t.0 };
      at = ap (place_at (i / 6)) (same_list-true (k.a ∷ k.b ∷ []) (ends (i % 6)) t.1);
    }

-- a step crosses a face
across_step : (rows : List Row) (k l : Corner) → IsCorner rows k → step rows k ≡ Some l → across rows (edge_of k) k.c ≡ Some (edge_of l)
across_step rows k l h e =
    let s : IsStep rows k l = step_is rows k l e in
    let a : IsApart k = apart_in k h.permutes in
    let off : has (k.a ∷ k.b ∷ []) k.c ≡ false = ne_both k.a k.b k.c a.first a.second in
    if_false (has (k.a ∷ k.b ∷ []) k.c) None (option_map (λ g. carried g (edge_of k)) (glue rows (face_at k.tet k.c))) off
    ∙ ap (option_map (λ g. carried g (edge_of k))) s.on.glued ∙ ap (λ (l : Corner). Some (edge_of l)) s.is
  where
    ne_both : (a b c : ℕ) → (a ≡ c → ⊥) → (b ≡ c → ⊥) → has (a ∷ b ∷ []) c ≡ false
    ne_both a b c p q = let x : (a == c) ≡ false = ne_eqb a c p in let y : (b == c) ≡ false = ne_eqb b c q in grind arith

pub steps_join : (rows : List Row) → IsTable rows → (n : ℕ) (k l : Corner) → IsCorner rows k → steps rows n k ≡ Some l → IsJoined rows (edge_of k) (edge_of l)
steps_join rows table zero k l h e = let s : k ≡ l = cc in ([], ap (λ (m : Corner). Some (edge_of m)) s)
steps_join rows table (suc n) k l h e = go (step rows k) refl e (λ m c f. steps_join rows table n m l c f)
  where
    go : (o : Option Corner) → step rows k ≡ o → option_and_then (λ m. steps rows n m) o ≡ Some l
        → ((m : Corner) → IsCorner rows m → steps rows n m ≡ Some l → IsJoined rows (edge_of m) (edge_of l)) → IsJoined rows (edge_of k) (edge_of l)
    go None g f more = absurd cc
    go (Some m) g f more =
        let j : IsJoined rows (edge_of m) (edge_of l) = more m (step_keeps rows table k m h g) f in
        (k.c ∷ j.0, ap (option_and_then (λ q. along rows q j.0)) (across_step rows k m h g) ∙ j.1)

-- the edge of a corner has its number, in one direction or the other
edge_test : List ℕ → Bool
edge_test w = nat_lt (edge_number (image w 0) (image w 1)) 6
    && (same_list (image w 0 ∷ image w 1 ∷ []) (ends (edge_number (image w 0) (image w 1))) || same_list (image w 0 ∷ image w 1 ∷ []) (reverse (ends (edge_number (image w 0) (image w 1)))))

edge_tested : (w : List ℕ) → IsPermutationOfFour w → edge_test w ≡ true
unfolding edge_test
edge_tested w h = by_words edge_test refl w h

pub record IsAtEdge (k : Corner) : Type 0 where
  pub below : edge_number k.a k.b < 6
  pub either : (edge_of k ≡ edge (edge_index k)) ⊎ (edge_of k ≡ backwards (edge (edge_index k)))

pub at_edge : (k : Corner) → IsPermutationOfFour (corner_word k) → IsAtEdge k
unfolding edge_test
at_edge k h =
    let e : ℕ = edge_number k.a k.b in
    let p : (nat_lt e 6 ≡ true) × ((same_list (k.a ∷ k.b ∷ []) (ends e) || same_list (k.a ∷ k.b ∷ []) (reverse (ends e))) ≡ true) =
    and_parts (nat_lt e 6) (same_list (k.a ∷ k.b ∷ []) (ends e) || same_list (k.a ∷ k.b ∷ []) (reverse (ends e))) (edge_tested (corner_word k) h) in
    let l : e < 6 = ltb-true e 6 p.0 in
    let t : k.tet ≡ (6 * k.tet + e) / 6 = omega arith in
    let r : e ≡ (6 * k.tet + e) % 6 = omega arith in
    record {
      below = l;
      either = elim (or_cases (same_list (k.a ∷ k.b ∷ []) (ends e)) (same_list (k.a ∷ k.b ∷ []) (reverse (ends e))) p.1) [
        | inl s ↦ inl (ap (place_at k.tet) (same_list-true (k.a ∷ k.b ∷ []) (ends e) s) ∙ (λ i. place_at (t i) (ends (r i))))
        | inr s ↦ inr (ap (place_at k.tet) (same_list-true (k.a ∷ k.b ∷ []) (reverse (ends e)) s) ∙ (λ i. place_at (t i) (reverse (ends (r i)))))
      ];
    }

-- the least member of a class is one
least_found : (classes : List ℕ) (c i : ℕ) → i < length classes → slice_index classes i ≡ c → (least classes c < length classes) × (slice_index classes (least classes c) ≡ c)
least_found classes c i l e = elim (cases_lt (least classes c) (length classes)) [
  | inl in_range ↦ (in_range, eqb-true (slice_index classes (least classes c)) c (passes_at_first (λ d. d == c) classes 0 in_range))
  | inr exceeded ↦ absurd (let before : i < least classes c = omega arith in both_ways (slice_index classes i == c) (fails_before_first (λ d. d == c) classes i 0 before) (eq-eqb (slice_index classes i) c e))
]

module _ (rows : List Row) (classes : List ℕ) (count : ℕ) (table : IsTable rows) (numbered : IsNumbering (6 * length rows) (SameEdge rows) classes count) where
  pub least_in : (c : ℕ) → c < count → (least classes c < 6 * length rows) × (slice_index classes (least classes c) ≡ c)
  least_in c l =
      let m = numbered.none_empty c l in
      let f : (least classes c < length classes) × (slice_index classes (least classes c) ≡ c) = least_found classes c m.0 (let w = numbered.one_each in let v = m.1 in omega arith) m.2 in
      ((let w = numbered.one_each in let v = f.0 in omega arith), f.1)

  -- the corners of the walk from the least member of a class lie at edges of the class
  pub class_of_corner : (c : ℕ) (k : Corner) → c < count → Reaches rows (first_corner (least classes c)) k → slice_index classes (edge_index k) ≡ c
  class_of_corner c k l r =
      let i : ℕ = least classes c in
      let m : (i < 6 * length rows) × (slice_index classes i ≡ c) = least_in c l in
      let f : IsFirst rows i = first_is rows i m.0 in
      let h : IsCorner rows k = steps_keep rows table r.0 (first_corner i) k f.corner r.1 in
      let j : IsJoined rows (edge i) (edge_of k) = subst (λ (p : Place). IsJoined rows p (edge_of k)) f.at (steps_join rows table r.0 (first_corner i) k f.corner r.1) in
      let a : IsAtEdge k = at_edge k h.permutes in
      let low : edge_index k < 6 * length rows = (let t = h.tet in let b = a.below in omega arith) in
      let same : SameEdge rows i (edge_index k) = elim a.either [
        | inl e ↦ inl (subst (IsJoined rows (edge i)) e j)
        | inr e ↦ inr (subst (IsJoined rows (edge i)) e j)
      ] in
      sym ((numbered.together i (edge_index k) m.0 low).1 same) ∙ m.1
