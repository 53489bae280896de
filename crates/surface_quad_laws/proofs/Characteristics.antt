-- Sums of Euler characteristics, component by component.
use Rattle.std.proofs.Common.{◌≡◌, ℕ, ◌+◌, ◌+ℤ◌, List, [], ◌∷◌, map, refl, sym, ap, ◌∙◌, arith}
use Rattle.std.specs.Prelude.{sum_by, sum}
use Rattle.std.specs.List.{AllZip}
use Rattle.std.proofs.lemmas.Int.{ints}
use Rattle.std.proofs.lemmas.List.Sums.{sum_by-cons}
use Rattle.table_definitions.specs.Lists.{below}
use Rattle.skeleton_definitions.specs.Skeleton.{Skeleton}
use Rattle.surface_definitions.specs.declared.Coords.{Coords}
use Rattle.surface_definitions.specs.Characteristic.{points, arcs}
use Rattle.skeleton_definitions.specs.Links.{euler_of as euler}
use Rattle.surface_definitions.specs.Pieces.{component_vector}
use Rattle.surface_vector_definitions.specs.Components.{Component, IsComponent, AreListedComponents}
use Rattle.surface_vector_definitions.specs.Properties.{AreProperties}
use Rattle.surface_vector_definitions.specs.declared.Properties.{Properties}
use Rattle.surface_laws.specs.CharacteristicLaws.{ComponentSumsAre}
use Rattle.surface_laws.proofs.ComponentSums.{component_sums}
use Rattle.surface_quad_laws.specs.EulerLaws.{integer_sum, ArePropertiesOfEach}

euler_more : (p q a b r t : ℕ) → euler p a r +ℤ euler q b t ≡ euler (p + q) (a + b) (r + t)
euler_more p q a b r t = omega (arith, ints)

module _ (s : Skeleton) (coords : Coords) (xs classes : List ℕ) where
  -- points, arcs and pieces of component i
  abbrev points_in : ℕ → ℕ
  points_in i = points coords (component_vector xs classes i) s.edges.classes s.edges.count

  abbrev arcs_of : ℕ → ℕ
  arcs_of i = arcs s.rows coords (component_vector xs classes i)

  abbrev pieces_in : ℕ → ℕ
  pieces_in i = sum (component_vector xs classes i)

  euler_is : (i : ℕ) (c : Component) (p : Properties) → IsComponent s.rows coords xs classes i c → AreProperties s coords c.vector p → p.euler ≡ euler (points_in i) (arcs_of i) (pieces_in i)
  euler_is i c p is are = are.euler ∙ (λ j. euler (are.points j) (are.arcs j) (are.pieces j))
      ∙ ap (λ ys. euler (points coords ys s.edges.classes s.edges.count) (arcs s.rows coords ys) (sum ys)) is.vector

  euler_sum : (is : List ℕ) (listed : List Component) (parts : List Properties) → AllZip (IsComponent s.rows coords xs classes) is listed → ArePropertiesOfEach s coords listed parts
      → integer_sum (map (λ (p : Properties). p.euler) parts) ≡ euler (sum_by points_in is) (sum_by arcs_of is) (sum_by pieces_in is)
  euler_sum [] [] [] h k = refl
  euler_sum [] [] (p ∷ ps) h k = absurd k
  euler_sum [] (c ∷ cs) parts h k = absurd h
  euler_sum (i ∷ is) [] parts h k = absurd h
  euler_sum (i ∷ is) (c ∷ cs) [] h k = absurd k
  euler_sum (i ∷ is) (c ∷ cs) (p ∷ ps) h k =
      (λ j. euler_is i c p h.0 k.0 j +ℤ euler_sum is cs ps h.1 k.1 j)
      ∙ euler_more (points_in i) (sum_by points_in is) (arcs_of i) (sum_by arcs_of is) (pieces_in i) (sum_by pieces_in is)
      ∙ (λ j. euler (sym (sum_by-cons points_in i is) j) (sym (sum_by-cons arcs_of i is) j) (sym (sum_by-cons pieces_in i is) j))

pub characteristics_add_up : (s : Skeleton) (coords : Coords) (xs : List ℕ) (listed : List Component) (whole : Properties) (parts : List Properties)
    → AreListedComponents s.rows coords xs listed → AreProperties s coords xs whole → ArePropertiesOfEach s coords listed parts
    → integer_sum (map (λ (p : Properties). p.euler) parts) ≡ whole.euler
characteristics_add_up s coords xs listed whole parts l w k =
    let sums : ComponentSumsAre s coords xs l.classes l.count = component_sums s coords xs l.classes l.count l.numbered in
    euler_sum s coords xs l.classes (below l.count) listed parts l.each k ∙ (λ j. euler (sums.points j) (sums.arcs j) (sums.pieces j))
    ∙ (λ j. euler (sym w.points j) (sym w.arcs j) (sym w.pieces j)) ∙ sym w.euler
