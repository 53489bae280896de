-- The union of a pair has at most two more columns than there are rows.
use Rattle.std.proofs.Common.{◌≡◌, ℕ, ◌+◌, ◌<◌, ◌≤◌, List, Bool, length, subst, arith}
use Rattle.cone_definitions.specs.Rows.{Row}
use Rattle.cone_definitions.specs.Surfaces.{Clash, IsSurfaceList}
use Rattle.cone_definitions.specs.Vectors.{ray_at}
use Rattle.support_bits.specs.Columns.{support_of}
use Rattle.cone_laws.specs.Unions.{union_size}
use Rattle.cone_laws.proofs.Places.{places_bound}
use Rattle.ray_steps.specs.Signs.{IsAdjacentPair}
use Rattle.ray_steps.specs.Unions.{HaveSmallUnions}
use Rattle.support_table.specs.Counts.{columns_in_either}
use Rattle.support_table.proofs.BitCounts.{columns_of_vectors}

pub small_unions : (columns : ℕ) (rows : List Row) (pairs : List Clash) (rays : List (List ℕ)) → IsSurfaceList columns rows pairs rays → HaveSmallUnions columns (length rows + 2) pairs rays
small_unions columns rows pairs rays h i j i_in j_in face = places_bound columns rows pairs rays h i j i_in j_in face.no_clash face.no_third

-- the union of the supports of adjacent rays has at most `most` columns
pub near_face : (columns most : ℕ) (pairs : List Clash) (rays : List (List ℕ)) (i j : ℕ) (a b : List Bool) → HaveSmallUnions columns most pairs rays →
    i < length rays → j < length rays → a ≡ support_of (ray_at rays i) → b ≡ support_of (ray_at rays j) → length (ray_at rays i) ≡ columns →
    IsAdjacentPair pairs rays i j → columns_in_either a b ≤ most
near_face columns most pairs rays i j a b small i_in j_in a_is b_is wide face =
    let bound = small i j i_in j_in face in
    let e : columns_in_either a b ≡ union_size columns (ray_at rays i) (ray_at rays j) = subst (λ n. columns_in_either a b ≡ union_size n (ray_at rays i) (ray_at rays j)) wide
    (columns_of_vectors a b (ray_at rays i) (ray_at rays j) a_is b_is) in
    omega (arith, bound, e)

-- rays whose union has more than `most` columns are not adjacent
pub not_face_large : (columns most : ℕ) (pairs : List Clash) (rays : List (List ℕ)) (i j : ℕ) (a b : List Bool) → HaveSmallUnions columns most pairs rays →
    i < length rays → j < length rays → a ≡ support_of (ray_at rays i) → b ≡ support_of (ray_at rays j) → length (ray_at rays i) ≡ columns →
    most < columns_in_either a b → ¬ IsAdjacentPair pairs rays i j
not_face_large columns most pairs rays i j a b small i_in j_in a_is b_is wide large face =
    let near = near_face columns most pairs rays i j a b small i_in j_in a_is b_is wide face in omega (arith, near, large)
