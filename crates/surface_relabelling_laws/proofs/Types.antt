-- The images of disc types under the 24 permutations.
use Rattle.std.proofs.Common.{◌≡◌, ℕ, ◌<◌, Bool, true, List, refl}
use Rattle.std.specs.Prelude.{◌==◌, ◌&&◌, nat_lt, nat_le}
use Rattle.std.specs.List.{list_all}
use Rattle.std.proofs.lemmas.Bool.{and_parts, ltb-true, eqb-true, agree_below, agree_below_at}
use mathlib.Core.Bool.{beq}
use Rattle.table_definitions.specs.Permutation.{words, inverse, preimage, IsPermutationOfFour}
use Rattle.table_definitions.proofs.Permutations.{by_words, bool_equal}
use Rattle.surface_definitions.specs.Coordinates.{triangles_each, before_octagons, columns_each}
use Rattle.surface_definitions.specs.declared.Coords.{Coords}
use Rattle.surface_definitions.specs.declared.Coords.TheVariants.{Standard, Quad, Octagon}
use Rattle.surface_relabelling_laws.specs.Vectors.{place_under}

-- the image of a disc type, which is of the same kind, and its image under the inverse permutation
pub record IsPlaced (coords : Coords) (p : List ℕ) (i : ℕ) : Type 0 where
  pub below : place_under coords p i < columns_each coords
  pub quad : nat_le (triangles_each coords) (place_under coords p i) ≡ nat_le (triangles_each coords) i
  pub octagon : nat_le (before_octagons coords) (place_under coords p i) ≡ nat_le (before_octagons coords) i
  pub back : place_under coords (inverse p) (place_under coords p i) ≡ i
  pub there : place_under coords p (place_under coords (inverse p) i) ≡ i

is_placed : Coords → List ℕ → ℕ → Bool
is_placed coords p i =
    nat_lt (place_under coords p i) (columns_each coords)
    && (beq (nat_le (triangles_each coords) (place_under coords p i)) (nat_le (triangles_each coords) i)
    && (beq (nat_le (before_octagons coords) (place_under coords p i)) (nat_le (before_octagons coords) i)
    && ((place_under coords (inverse p) (place_under coords p i) == i)
    && (place_under coords p (place_under coords (inverse p) i) == i))))

all_placed : (coords : Coords) → list_all (λ p. agree_below (is_placed coords p) (λ k. true) (columns_each coords)) words ≡ true
unfolding is_placed place_under inverse preimage
all_placed Standard = refl
all_placed Quad = refl
all_placed Octagon = refl

pub placed_is : (coords : Coords) (p : List ℕ) (i : ℕ) → IsPermutationOfFour p → i < columns_each coords → IsPlaced coords p i
unfolding is_placed
placed_is coords p i h l =
    let t : is_placed coords p i ≡ true =
    agree_below_at (is_placed coords p) (λ k. true) (columns_each coords) i (by_words (λ p. agree_below (is_placed coords p) (λ k. true) (columns_each coords)) (all_placed coords) p h) l in
    let a = and_parts (nat_lt (place_under coords p i) (columns_each coords)) (beq (nat_le (triangles_each coords) (place_under coords p i)) (nat_le (triangles_each coords) i)
    && (beq (nat_le (before_octagons coords) (place_under coords p i)) (nat_le (before_octagons coords) i)
    && ((place_under coords (inverse p) (place_under coords p i) == i) && (place_under coords p (place_under coords (inverse p) i) == i)))) t in
    let b = and_parts (beq (nat_le (triangles_each coords) (place_under coords p i)) (nat_le (triangles_each coords) i))
    (beq (nat_le (before_octagons coords) (place_under coords p i)) (nat_le (before_octagons coords) i)
    && ((place_under coords (inverse p) (place_under coords p i) == i) && (place_under coords p (place_under coords (inverse p) i) == i))) a.1 in
    let c = and_parts (beq (nat_le (before_octagons coords) (place_under coords p i)) (nat_le (before_octagons coords) i))
    ((place_under coords (inverse p) (place_under coords p i) == i) && (place_under coords p (place_under coords (inverse p) i) == i)) b.1 in
    let d = and_parts (place_under coords (inverse p) (place_under coords p i) == i) (place_under coords p (place_under coords (inverse p) i) == i) c.1 in
    record {
      below = ltb-true (place_under coords p i) (columns_each coords) a.0;
      quad = bool_equal (nat_le (triangles_each coords) (place_under coords p i)) (nat_le (triangles_each coords) i) b.0;
      octagon = bool_equal (nat_le (before_octagons coords) (place_under coords p i)) (nat_le (before_octagons coords) i) c.0;
      back = eqb-true (place_under coords (inverse p) (place_under coords p i)) i d.0;
      there = eqb-true (place_under coords p (place_under coords (inverse p) i)) i d.1;
    }
