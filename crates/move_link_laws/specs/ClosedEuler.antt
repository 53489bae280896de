-- The Euler characteristic of a closed table by those of its vertex links.
use Rattle.std.specs.Prelude.{◌≡◌, ◌↔◌, pos, ◌+ℤ◌, ◌-ℤ◌, ◌≤ℤ◌, List, map, All, IsTrue}
use Rattle.table_definitions.specs.Places.{HasValidEdges, is_closed}
use Rattle.skeleton_definitions.specs.Skeleton.{Skeleton, IsSkeleton, AreLinks}
use Rattle.skeleton_definitions.specs.declared.Link.{Link}
use Rattle.outcome_definitions.specs.Information.{characteristic}
use Rattle.surface_quad_laws.specs.EulerLaws.{integer_sum}

-- where no edge is invalid, twice the Euler characteristic of a closed table is what the links have less than 2, in
-- all: 0 where they are spheres
abbrev pub ClosedCharacteristicsAreOfLinks : Type 0
ClosedCharacteristicsAreOfLinks =
    (s : Skeleton) (links : List Link) → IsSkeleton s → AreLinks s s.vertices.count links → IsTrue (is_closed s.rows) → HasValidEdges s.rows
    → characteristic s +ℤ characteristic s ≡ integer_sum (map (λ (link : Link). pos 2 -ℤ link.euler) links)

-- so it is never negative, since no link has more than 2, and it is 0 if and only if each has 2, as a sphere has
abbrev pub ClosedManifoldsHaveCharacteristicZero : Type 0
ClosedManifoldsHaveCharacteristicZero =
    (s : Skeleton) (links : List Link) → IsSkeleton s → AreLinks s s.vertices.count links → IsTrue (is_closed s.rows) → HasValidEdges s.rows
    → (pos 0 ≤ℤ characteristic s) × ((characteristic s ≡ pos 0) ↔ All (λ (link : Link). link.euler ≡ pos 2) links)
