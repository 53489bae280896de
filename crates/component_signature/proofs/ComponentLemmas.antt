-- The classes by the neighbours are the components of the table.
use Rattle.std.proofs.Common.{◌≡◌, ℕ, ◌<◌, ◌^◌, List, length, Option, subst, sym, ap, ◌∙◌, arith}
use Rattle.table_definitions.specs.Table.{Row, IsTable}
use Rattle.table_walk_laws.specs.Joined.{IsJoined, HasNeighboursBelow, IsSymmetric, neighbours_of}
use Rattle.table_definitions.specs.Places.{SameComponent}
use Rattle.table_definitions.specs.Classes.{IsNumbering}
use Rattle.table_definitions.proofs.ClassLaws.{numbering_same}
use Rattle.gluing_table.specs.Neighbours.{all_neighbours}
use Rattle.gluing_table.proofs.Chains.{neighbours_below, length-all_behind}
use Rattle.component_signature.proofs.Chains.{symmetric, joined_same}

pub below_all : (rows : List Row) (slice all : List (List (Option ℕ))) → IsTable rows → slice ≡ all → all ≡ all_neighbours rows → HasNeighboursBelow (length slice) (neighbours_of slice)
below_all rows slice all table same is = neighbours_below rows slice table (same ∙ is)

pub few_all : (rows : List Row) (slice all : List (List (Option ℕ))) → IsTable rows → slice ≡ all → all ≡ all_neighbours rows → length slice < 2 ^ 32
few_all rows slice all table same is = let e : length slice ≡ length rows = ap length (same ∙ is) ∙ length-all_behind rows in let f = table.limited in omega (arith, e, f)

pub symmetric_all : (rows : List Row) (slice all : List (List (Option ℕ))) → IsTable rows → slice ≡ all → all ≡ all_neighbours rows → IsSymmetric (neighbours_of slice)
symmetric_all rows slice all table same is = subst (λ (a : List (List (Option ℕ))). IsSymmetric (neighbours_of a)) (sym (same ∙ is)) (symmetric rows table)

pub components_from : (rows : List Row) (slice all : List (List (Option ℕ))) (classes : List ℕ) (count : ℕ) → slice ≡ all → all ≡ all_neighbours rows →
    IsNumbering (length slice) (IsJoined (neighbours_of slice)) classes count → IsNumbering (length rows) (SameComponent rows) classes count
components_from rows slice all classes count same is a =
    from (subst (λ (t : List (List (Option ℕ))). IsNumbering (length t) (IsJoined (neighbours_of t)) classes count) (same ∙ is) a)
  where
    from : IsNumbering (length (all_neighbours rows)) (IsJoined (neighbours_of (all_neighbours rows))) classes count → IsNumbering (length rows) (SameComponent rows) classes count
    from b = numbering_same (length rows) (IsJoined (neighbours_of (all_neighbours rows))) (SameComponent rows) classes count
        (subst (λ n. IsNumbering n (IsJoined (neighbours_of (all_neighbours rows))) classes count) (length-all_behind rows) b) (λ t u _ _. joined_same rows t u)
