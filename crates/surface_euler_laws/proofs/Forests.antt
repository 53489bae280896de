-- A forest grows by items with one end in it and one outside, and if there is none, by a root in a new component.
use Rattle.std.proofs.Common.{◌≡◌, ◌≢◌, ℕ, zero, suc, ◌+◌, ◌<◌, ◌≤◌, Bool, true, false, List, [], ◌∷◌, length, map, Option, Some, None, ◌⊎◌, inl, inr, refl, sym, ap, ◌∙◌, subst, arith}
use Rattle.std.specs.Prelude.{◌==◌, ⊤}
use Rattle.std.proofs.lemmas.Bool.{cases_Bool, eq-eqb, or_left, or_right}
use Rattle.std.proofs.lemmas.List.{length-map}
use Rattle.std.proofs.lemmas.List.FromFn.{length-range_with_len}
use Rattle.cone_definitions.proofs.Below.{all_or_one}
use Rattle.table_definitions.specs.Lists.{below, has}
use Rattle.table_definitions.proofs.DistinctLists.{AreApart, apart_below, apart_short}
use Rattle.table_definitions.proofs.Listed.{has_among, below-among, map-among}
use Rattle.table_definitions.proofs.TableLaws.{Among, Among-below}

-- a forest is a list of steps, the last one first: an item and the node that it adds to those before, or a new root
abbrev pub nodes : List (Option ℕ × ℕ) → List ℕ
nodes [] = []
nodes (s ∷ steps) = s.1 ∷ nodes steps

abbrev pub items : List (Option ℕ × ℕ) → List ℕ
items [] = []
items ((None, y) ∷ steps) = items steps
items ((Some a, y) ∷ steps) = a ∷ items steps

abbrev pub roots : List (Option ℕ × ℕ) → List ℕ
roots [] = []
roots ((None, y) ∷ steps) = y ∷ roots steps
roots ((Some a, y) ∷ steps) = roots steps

length-nodes : (steps : List (Option ℕ × ℕ)) → length (nodes steps) ≡ length steps
length-nodes [] = refl
length-nodes (s ∷ steps) = let e = length-nodes steps in omega arith

length-parts : (steps : List (Option ℕ × ℕ)) → length (items steps) + length (roots steps) ≡ length steps
length-parts [] = omega arith
length-parts ((None, y) ∷ steps) = let e = length-parts steps in omega arith
length-parts ((Some a, y) ∷ steps) = let e = length-parts steps in omega arith

pub has_first : (x : ℕ) (ns : List ℕ) → has (x ∷ ns) x ≡ true
has_first x ns = or_left (x == x) (has ns x) (eq-eqb x x refl)

pub has_more : (y x : ℕ) (ns : List ℕ) → has ns x ≡ true → has (y ∷ ns) x ≡ true
has_more y x ns h = or_right (y == x) (has ns x) h

roots_in : (steps : List (Option ℕ × ℕ)) (x : ℕ) → Among x (roots steps) → has (nodes steps) x ≡ true
roots_in [] x h = absurd h
roots_in ((None, y) ∷ steps) x (inl e) = subst (λ z. has (y ∷ nodes steps) z ≡ true) (sym e) (has_first y (nodes steps))
roots_in ((None, y) ∷ steps) x (inr h) = has_more y x (nodes steps) (roots_in steps x h)
roots_in ((Some a, y) ∷ steps) x h = has_more y x (nodes steps) (roots_in steps x h)

module _ (n e : ℕ) (from to part : ℕ → ℕ) (used : ℕ → Bool) where
  -- item a has one end among these, and adds its other end y
  pub record IsStep (ns : List ℕ) (a y : ℕ) : Type 0 where
    pub inside : a < e
    pub may : used a ≡ true
    pub new : has ns y ≡ false
    pub ends : ((from a ≡ y) × (has ns (to a) ≡ true)) ⊎ ((to a ≡ y) × (has ns (from a) ≡ true))

  -- a new root y, in a component that has none
  pub record IsRoot (steps : List (Option ℕ × ℕ)) (y : ℕ) : Type 0 where
    pub inside : y < n
    pub alone : (x : ℕ) → Among x (roots steps) → part x ≢ part y

  abbrev pub IsGrown : List (Option ℕ × ℕ) → Type 0
  IsGrown [] = ⊤
  IsGrown ((None, y) ∷ steps) = IsRoot steps y × IsGrown steps
  IsGrown ((Some a, y) ∷ steps) = IsStep (nodes steps) a y × IsGrown steps

  -- both ends of the forest's items are in the forest
  ends_in : (steps : List (Option ℕ × ℕ)) → IsGrown steps → (a : ℕ) → Among a (items steps) → (has (nodes steps) (from a) ≡ true) × (has (nodes steps) (to a) ≡ true)
  ends_in [] g a h = absurd h
  ends_in ((None, y) ∷ steps) g a h =
      let m = ends_in steps g.1 a h in
      (has_more y (from a) (nodes steps) m.0, has_more y (to a) (nodes steps) m.1)
  ends_in ((Some b, y) ∷ steps) g a (inr h) =
      let m = ends_in steps g.1 a h in
      (has_more y (from a) (nodes steps) m.0, has_more y (to a) (nodes steps) m.1)
  ends_in ((Some b, y) ∷ steps) g a (inl q) = subst (λ x. (has (y ∷ nodes steps) (from x) ≡ true) × (has (y ∷ nodes steps) (to x) ≡ true)) (sym q) (by_end (g.0).ends)
    where
      new_in : (x : ℕ) → x ≡ y → has (y ∷ nodes steps) x ≡ true
      new_in x q = subst (λ z. has (y ∷ nodes steps) z ≡ true) (sym q) (has_first y (nodes steps))

      by_end : ((from b ≡ y) × (has (nodes steps) (to b) ≡ true)) ⊎ ((to b ≡ y) × (has (nodes steps) (from b) ≡ true)) → (has (y ∷ nodes steps) (from b) ≡ true) × (has (y ∷ nodes steps) (to b) ≡ true)
      by_end (inl h) = (new_in (from b) h.0, has_more y (to b) (nodes steps) h.1)
      by_end (inr h) = (has_more y (from b) (nodes steps) h.1, new_in (to b) h.0)

  -- an item with an end outside is not in the forest
  pub off_items : (steps : List (Option ℕ × ℕ)) → IsGrown steps → (a y : ℕ) → (from a ≡ y) ⊎ (to a ≡ y) → has (nodes steps) y ≡ false → Among a (items steps) → ⊥
  off_items steps g a y end new h = by_end end
    where
      by_end : (from a ≡ y) ⊎ (to a ≡ y) → ⊥
      by_end (inl q) = let in_it = (ends_in steps g a h).0 in let both : false ≡ true = sym new ∙ ap (has (nodes steps)) (sym q) ∙ in_it in cc
      by_end (inr q) = let in_it = (ends_in steps g a h).1 in let both : false ≡ true = sym new ∙ ap (has (nodes steps)) (sym q) ∙ in_it in cc

  pub step_end : (ns : List ℕ) (a y : ℕ) → IsStep ns a y → (from a ≡ y) ⊎ (to a ≡ y)
  step_end ns a y s = elim s.ends [ inl h ↦ inl h.0 | inr h ↦ inr h.0 ]

  pub items_apart : (steps : List (Option ℕ × ℕ)) → IsGrown steps → AreApart (items steps)
  items_apart [] g = tt
  items_apart ((None, y) ∷ steps) g = items_apart steps g.1
  items_apart ((Some a, y) ∷ steps) g = (off_items steps g.1 a y (step_end (nodes steps) a y g.0) (g.0).new, items_apart steps g.1)

  pub items_used : (steps : List (Option ℕ × ℕ)) → IsGrown steps → (a : ℕ) → Among a (items steps) → (a < e) × (used a ≡ true)
  items_used [] g a h = absurd h
  items_used ((None, y) ∷ steps) g a h = items_used steps g.1 a h
  items_used ((Some b, y) ∷ steps) g a (inl q) = let l = (g.0).inside in (omega (arith, q), ap used q ∙ (g.0).may)
  items_used ((Some b, y) ∷ steps) g a (inr h) = items_used steps g.1 a h

  roots_inside : (steps : List (Option ℕ × ℕ)) → IsGrown steps → (x : ℕ) → Among x (roots steps) → x < n
  roots_inside [] g x h = absurd h
  roots_inside ((None, y) ∷ steps) g x (inl q) = let l = (g.0).inside in omega (arith, q)
  roots_inside ((None, y) ∷ steps) g x (inr h) = roots_inside steps g.1 x h
  roots_inside ((Some a, y) ∷ steps) g x h = roots_inside steps g.1 x h

  parts_apart : (steps : List (Option ℕ × ℕ)) → IsGrown steps → AreApart (map part (roots steps))
  parts_apart [] g = tt
  parts_apart ((None, y) ∷ steps) g = ((λ h. let m = map-among part (part y) (roots steps) h in (g.0).alone m.0 m.1 (sym m.2)), parts_apart steps g.1)
  parts_apart ((Some a, y) ∷ steps) g = parts_apart steps g.1

  -- the items that may be used join the nodes of each component
  abbrev pub JoinParts : Type 0
  JoinParts = (h : ℕ → Bool) → ((a : ℕ) → a < e → used a ≡ true → h (from a) ≡ h (to a)) → (x y : ℕ) → x < n → y < n → part x ≡ part y → h x ≡ h y

  module _ (m : ℕ) (limited : (x : ℕ) → x < n → part x < m) (joined : JoinParts) where
    abbrev IsSame : List ℕ → ℕ → Type 0
    IsSame ns a = used a ≡ true → has ns (from a) ≡ has ns (to a)

    abbrev HasStep : List ℕ → ℕ → Type 0
    HasStep ns a = a < e → (y : ℕ) × IsStep ns a y

    decide : (ns : List ℕ) (a : ℕ) → IsSame ns a ⊎ HasStep ns a
    decide ns a = by_tests (cases_Bool (used a)) (cases_Bool (has ns (from a))) (cases_Bool (has ns (to a)))
      where
        by_tests : (used a ≡ true) ⊎ (used a ≡ false) → (has ns (from a) ≡ true) ⊎ (has ns (from a) ≡ false) → (has ns (to a) ≡ true) ⊎ (has ns (to a) ≡ false) → IsSame ns a ⊎ HasStep ns a
        by_tests (inr u) f t = inl (λ w. let both : false ≡ true = sym u ∙ w in cc)
        by_tests (inl u) (inl f) (inl t) = inl (λ w. f ∙ sym t)
        by_tests (inl u) (inr f) (inr t) = inl (λ w. f ∙ sym t)
        by_tests (inl u) (inl f) (inr t) = inr (λ l. (to a, record { inside = l; may = u; new = t; ends = inr (refl, f) }))
        by_tests (inl u) (inr f) (inl t) = inr (λ l. (from a, record { inside = l; may = u; new = f; ends = inl (refl, t) }))

    all_in : (ns : List ℕ) → ((y : ℕ) → y < n → has ns y ≡ true) → n ≤ length ns
    all_in ns h =
        let l : length (below n) ≤ length ns = apart_short (below n) ns (apart_below n) (λ x a. has_among ns x (h x (below-among x n a))) in
        omega (arith, length-range_with_len 0 n)

    -- a forest that does not contain all nodes has one more step: if no item leaves it, a node outside is in a new
    -- component
    next : (steps : List (Option ℕ × ℕ)) → IsGrown steps → length steps < n → (s : Option ℕ × ℕ) × IsGrown (s ∷ steps)
    next steps g l = elim (all_or_one (λ y. has (nodes steps) y ≡ true) (λ y. has (nodes steps) y ≡ false) (λ y. cases_Bool (has (nodes steps) y)) n) [
      | inl all ↦ absurd (let m = all_in (nodes steps) all in let k = length-nodes steps in omega arith)
      | inr out ↦ elim (all_or_one (IsSame (nodes steps)) (HasStep (nodes steps)) (decide (nodes steps)) e) [
        | inl same ↦ ((None, out.0), (record { inside = out.1; alone = fresh out.0 out.1 out.2 same }, g))
        | inr found ↦ (let s = found.2 found.1 in ((Some found.0, s.0), (s.1, g)))
      ]
    ]
      where
        fresh : (y : ℕ) → y < n → has (nodes steps) y ≡ false → ((a : ℕ) → a < e → IsSame (nodes steps) a) → (x : ℕ) → Among x (roots steps) → part x ≢ part y
        fresh y ly out same x h q =
            let one : has (nodes steps) x ≡ has (nodes steps) y = joined (has (nodes steps)) same x y (roots_inside steps g x h) ly q in
            let both : true ≡ false = sym (roots_in steps x h) ∙ one ∙ out in
            cc

    grown : (k : ℕ) → k ≤ n → (steps : List (Option ℕ × ℕ)) × (length steps ≡ k) × IsGrown steps
    grown zero l = ([], refl, tt)
    grown (suc k) l =
        let t = grown k (omega arith) in
        let size : length t.0 ≡ k = t.1 in
        let s = next t.0 t.2 (omega arith) in
        (s.0 ∷ t.0, (let m : length (s.0 ∷ t.0) ≡ suc k = omega arith in m), s.1)

    pub record HasForest : Type 0 where
      pub steps : List (Option ℕ × ℕ)
      pub forest : IsGrown steps
      pub size : n ≤ length (items steps) + m

    pub forest_there : HasForest
    forest_there =
        let t = grown n (omega arith) in
        let small : length (map part (roots t.0)) ≤ length (below m) = apart_short (map part (roots t.0)) (below m) (parts_apart t.0 t.2)
        (λ c a. let r = map-among part c (roots t.0) a in let l : part r.0 < m = limited r.0 (roots_inside t.0 t.2 r.0 r.1) in
        Among-below c m (omega (arith, r.2))) in
        record { steps = t.0; forest = t.2; size = omega (arith, t.1, length-parts t.0, length-range_with_len 0 m, length-map (roots t.0) part) }
