-- Sums over the columns of a sum of vectors.
use Rattle.std.proofs.Common.{◌≡◌, ℕ, zero, suc, ◌+◌, ◌/◌, ◌%◌, ◌+ℤ◌, List, [], ◌∷◌, length, filter, refl, sym, ◌∙◌, arith}
use Rattle.std.specs.Prelude.{sum_by, slice_index, sum}
use Rattle.std.proofs.lemmas.Int.{ints}
use Rattle.std.proofs.lemmas.List.Sums.{sum_by-cons}
use Rattle.cone_definitions.specs.Vectors.{sum_of}
use Rattle.table_definitions.specs.Lists.{below}
use Rattle.table_definitions.specs.Permutation.{others}
use Rattle.table_definitions.specs.Places.{ends}
use Rattle.table_definitions.specs.Classes.{least}
use Rattle.table_definitions.specs.Table.{Row, Face, glue, faces}
use Rattle.skeleton_definitions.specs.Links.{is_first_side, euler_of as euler}
use Rattle.surface_definitions.specs.Coordinates.{arc_columns}
use Rattle.surface_definitions.specs.declared.Coords.{Coords}
use Rattle.surface_definitions.specs.Pieces.{arcs_around}
use Rattle.surface_definitions.specs.Characteristic.{crossings, weight, points, arcs_in, arcs}
use Rattle.surface_vector_definitions.specs.Properties.{AreProperties}
use Rattle.surface_vector_definitions.specs.declared.Properties.{Properties}
use Rattle.skeleton_definitions.specs.Skeleton.{Skeleton}
use Rattle.surface_laws.specs.CharacteristicLaws.{AddUp}

pub sum_by_plus : {A : Type 0} (f g h : A → ℕ) → ((a : A) → h a ≡ f a + g a) → (xs : List A) → sum_by h xs ≡ sum_by f xs + sum_by g xs
sum_by_plus f g h each [] = refl
sum_by_plus f g h each (x ∷ xs) =
    let more : sum_by h xs ≡ sum_by f xs + sum_by g xs = sum_by_plus f g h each xs in
    omega (arith, sum_by-cons f x xs, sum_by-cons g x xs, sum_by-cons h x xs, each x)

pub entry-sum_of : (x y : List ℕ) (c : ℕ) → length x ≡ length y → slice_index (sum_of x y) c ≡ slice_index x c + slice_index y c
entry-sum_of [] [] c e = refl
entry-sum_of [] (b ∷ y) c e = absurd (omega arith)
entry-sum_of (a ∷ x) [] c e = absurd (omega arith)
entry-sum_of (a ∷ x) (b ∷ y) zero e = refl
entry-sum_of (a ∷ x) (b ∷ y) (suc c) e = entry-sum_of x y c (omega arith)

sum-sum_of : (x y : List ℕ) → length x ≡ length y → sum (sum_of x y) ≡ sum x + sum y
sum-sum_of [] [] e = refl
sum-sum_of [] (b ∷ y) e = absurd (omega arith)
sum-sum_of (a ∷ x) [] e = absurd (omega arith)
sum-sum_of (a ∷ x) (b ∷ y) e =
    let more : sum (sum_of x y) ≡ sum x + sum y = sum-sum_of x y (omega arith) in
    omega (arith, sum_by-cons (λ (k : ℕ). k) (a + b) (sum_of x y), sum_by-cons (λ (k : ℕ). k) a x, sum_by-cons (λ (k : ℕ). k) b y)

module _ (coords : Coords) (x y : List ℕ) (widths : length x ≡ length y) where
  over_columns : (cs : List ℕ) → sum_by (slice_index (sum_of x y)) cs ≡ sum_by (slice_index x) cs + sum_by (slice_index y) cs
  over_columns cs = sum_by_plus (slice_index x) (slice_index y) (slice_index (sum_of x y)) (λ c. entry-sum_of x y c widths) cs

  points-sum_of : (classes : List ℕ) (count : ℕ) → points coords (sum_of x y) classes count ≡ points coords x classes count + points coords y classes count
  points-sum_of classes count =
      sum_by_plus (λ c. weight coords x (least classes c)) (λ c. weight coords y (least classes c)) (λ c. weight coords (sum_of x y) (least classes c))
      (λ c. over_columns (crossings coords (least classes c / 6) (slice_index (ends (least classes c % 6)) 0) (slice_index (ends (least classes c % 6)) 1))) (below count)

  arcs_in-sum_of : (z : Face) → arcs_in coords (sum_of x y) z ≡ arcs_in coords x z + arcs_in coords y z
  arcs_in-sum_of z =
      sum_by_plus (arcs_around coords x z.tet z.face) (arcs_around coords y z.tet z.face) (arcs_around coords (sum_of x y) z.tet z.face) (λ v. over_columns (arc_columns coords z.tet z.face v)) (others z.face)

  arcs-sum_of : (rows : List Row) → arcs rows coords (sum_of x y) ≡ arcs rows coords x + arcs rows coords y
  arcs-sum_of rows = sum_by_plus (arcs_in coords x) (arcs_in coords y) (arcs_in coords (sum_of x y)) arcs_in-sum_of (filter (λ z. is_first_side z (glue rows z)) (faces (length rows)))

  pub add_up : (rows : List Row) (classes : List ℕ) (count : ℕ) → AddUp rows coords classes count x y
  add_up rows classes count = record { points = points-sum_of classes count; arcs = arcs-sum_of rows; pieces = sum-sum_of x y widths }

euler_adds : (p q r s a b : ℕ) → euler (p + q) (a + b) (r + s) ≡ euler p a r +ℤ euler q b s
euler_adds p q r s a b = omega (arith, ints)

pub eulers_add : (s : Skeleton) (coords : Coords) (x y : List ℕ) (p q r : Properties) → length x ≡ length y
    → AreProperties s coords x p → AreProperties s coords y q → AreProperties s coords (sum_of x y) r → r.euler ≡ p.euler +ℤ q.euler
eulers_add s coords x y p q r w f g h =
    let u : AddUp s.rows coords s.edges.classes s.edges.count x y = add_up coords x y w s.rows s.edges.classes s.edges.count in
    let points : r.points ≡ p.points + q.points = h.points ∙ u.points ∙ (λ i. sym f.points i + sym g.points i) in
    let arcs : r.arcs ≡ p.arcs + q.arcs = h.arcs ∙ u.arcs ∙ (λ i. sym f.arcs i + sym g.arcs i) in
    let pieces : r.pieces ≡ p.pieces + q.pieces = h.pieces ∙ u.pieces ∙ (λ i. sym f.pieces i + sym g.pieces i) in
    h.euler ∙ (λ i. euler (points i) (arcs i) (pieces i)) ∙ euler_adds p.points q.points p.pieces q.pieces p.arcs q.arcs ∙ (λ i. sym f.euler i +ℤ sym g.euler i)
