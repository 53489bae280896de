-- A forest of polygons and a forest of points have no arc in common: this bounds the number of arcs from below.
use Rattle.std.proofs.Common.{◌≡◌, ◌≢◌, ℕ, ◌+◌, ◌*◌, ◌<◌, ◌≤◌, Bool, true, false, not, List, [], ◌∷◌, ◌++◌, length, Option, Some, None, inl, inr, refl, sym, ap, ◌∙◌, subst, arith}
use Rattle.std.proofs.lemmas.Bool.{cases_Bool, cases_eq}
use Rattle.std.proofs.lemmas.List.{length-append}
use Rattle.std.proofs.lemmas.List.FromFn.{length-range_with_len}
use Rattle.table_definitions.specs.Lists.{below, has}
use Rattle.table_definitions.proofs.DistinctLists.{AreApart, apart_append, apart_short}
use Rattle.table_definitions.proofs.Listed.{has_among, among_has, appended-among}
use Rattle.table_definitions.proofs.TableLaws.{Among, Among-below}
use Rattle.surface_euler_laws.specs.Polygons.{IsSideOf, ArePolygons}
use Rattle.surface_euler_laws.proofs.Forests.{nodes, items, IsStep, IsGrown, off_items, step_end, items_apart, items_used, JoinParts, HasForest, forest_there}

abbrev all : ℕ → Bool
all a = true

module _ (polygons arcs points parts : ℕ) (one other left right : ℕ → ℕ) (p : ArePolygons polygons arcs points parts one other left right) where
  -- if each arc outside the forest has ends of one colour, so has each arc: the other sides of the last polygon are a
  -- path around it
  peel : (h : ℕ → Bool) (steps : List (Option ℕ × ℕ)) → IsGrown polygons arcs one other p.part_of all steps → ((a : ℕ) → a < arcs → (Among a (items steps) → ⊥) → h (left a) ≡ h (right a))
      → (a : ℕ) → a < arcs → h (left a) ≡ h (right a)
  peel h [] g outside = λ a l. outside a l (λ z. z)
  peel h ((None, y) ∷ steps) g outside = peel h steps g.1 outside
  peel h ((Some c, y) ∷ steps) g outside = peel h steps g.1 more
    where
      step : IsStep polygons arcs one other p.part_of all (nodes steps) c y
      step = g.0

      side : IsSideOf one other c y
      side = step_end polygons arcs one other p.part_of all (nodes steps) c y step

      separate : one c ≢ other c
      separate q = elim step.ends [
        | inl e ↦ (let both : false ≡ true = sym step.new ∙ ap (has (nodes steps)) (sym e.0 ∙ q) ∙ e.1 in cc)
        | inr e ↦ (let both : false ≡ true = sym step.new ∙ ap (has (nodes steps)) (sym e.0 ∙ sym q) ∙ e.1 in cc)
      ]

      here : h (left c) ≡ h (right c)
      here = p.go_around h c y step.inside separate side (λ b l side_too off. outside b l (λ m. elim m [
        | inl q ↦ off q
        | inr m ↦ off_items polygons arcs one other p.part_of all steps g.1 b y side_too step.new m
      ]))

      more : (a : ℕ) → a < arcs → (Among a (items steps) → ⊥) → h (left a) ≡ h (right a)
      more a l off = elim (cases_eq a c) [
        | inl q ↦ subst (λ x. h (left x) ≡ h (right x)) (sym q) here
        | inr ne ↦ outside a l (λ m. elim m [ inl q ↦ ne q | inr m ↦ off m ])
      ]

  all_joined : JoinParts polygons arcs one other p.part_of all
  all_joined h same = (p.polygons_joined).joined h (λ a l. same a l refl)

  forest : HasForest polygons arcs one other p.part_of all parts (p.polygons_joined).limited all_joined
  forest = forest_there polygons arcs one other p.part_of all parts (p.polygons_joined).limited all_joined

  -- the arcs that are not in the forest
  abbrev free : ℕ → Bool
  free a = not (has (items forest.steps) a)

  free_if : (a : ℕ) → (Among a (items forest.steps) → ⊥) → free a ≡ true
  free_if a off = elim (cases_Bool (has (items forest.steps) a)) [
    | inl h ↦ absurd (off (has_among (items forest.steps) a h))
    | inr h ↦ ap not h
  ]

  still_joined : JoinParts points arcs left right p.part_at free
  still_joined h same x y lx ly e = (p.points_joined).joined h (λ a l. peel h forest.steps forest.forest (λ b m off. same b m (free_if b off)) a l) x y lx ly e

  other_forest : HasForest points arcs left right p.part_at free parts (p.points_joined).limited still_joined
  other_forest = forest_there points arcs left right p.part_at free parts (p.points_joined).limited still_joined

  pub at_most_two : points + polygons ≤ arcs + 2 * parts
  at_most_two =
      let xs : List ℕ = items forest.steps in
      let ys : List ℕ = items other_forest.steps in
      let separate : AreApart (items forest.steps ++ items other_forest.steps) =
      apart_append xs ys (items_apart polygons arcs one other p.part_of all forest.steps forest.forest) (items_apart points arcs left right p.part_at free other_forest.steps other_forest.forest)
      (λ a h g. let u : not (has (items forest.steps) a) ≡ true = (items_used points arcs left right p.part_at free other_forest.steps other_forest.forest a g).1 in
      let both : false ≡ true = sym (ap not (among_has xs a h)) ∙ u in
      cc) in
      let inside : (a : ℕ) → Among a (items forest.steps ++ items other_forest.steps) → Among a (below arcs) = λ a h. Among-below a arcs (elim (appended-among a xs ys h) [
        | inl i ↦ (items_used polygons arcs one other p.part_of all forest.steps forest.forest a i).0
        | inr i ↦ (items_used points arcs left right p.part_at free other_forest.steps other_forest.forest a i).0
      ]) in
      let limited : length (items forest.steps ++ items other_forest.steps) ≤ length (below arcs) = apart_short (items forest.steps ++ items other_forest.steps) (below arcs) separate inside in
      let sizes : length (items forest.steps ++ items other_forest.steps) ≡ length xs + length ys = length-append xs ys in
      omega (arith, length-range_with_len 0 arcs, forest.size, other_forest.size)
