-- How many of some things each class owns.
use Rattle.std.specs.Prelude.{◌≡◌, ℕ, ◌/◌, ◌%◌, ◌<◌, Bool, false, ◌&&◌, List, length, ◌==◌, count_by, slice_index}
use Rattle.std.specs.List.{slice_index_or}
use Rattle.table_definitions.specs.Lists.{below}
use Rattle.table_definitions.specs.Permutation.{others}
use Rattle.table_definitions.specs.Table.{Face}
use Rattle.skeleton_definitions.specs.Links.{link_vertices}
use Rattle.skeleton_definitions.specs.Skeleton.{Skeleton}

-- whether thing j passes and class c owns it
abbrev pub is_counted : List Bool → List ℕ → ℕ → ℕ → Bool
is_counted passes owners c j = slice_index_or passes j false && (slice_index owners j == c)

pub record AreTallies (passes : List Bool) (owners : List ℕ) (count : ℕ) (tallies : List ℕ) : Type 0 where
  pub one_each : length tallies ≡ count
  pub reported : (c : ℕ) → c < count → slice_index tallies c ≡ count_by (is_counted passes owners c) (below (length owners))

-- the same of the things before thing i
pub record AreTalliesUpTo (i : ℕ) (passes : List Bool) (owners : List ℕ) (count : ℕ) (tallies : List ℕ) : Type 0 where
  pub one_each : length tallies ≡ count
  pub reported : (c : ℕ) → c < count → slice_index tallies c ≡ count_by (is_counted passes owners c) (below i)

-- the face of the j % 3-th side of the triangle at vertex j / 3
unfoldable pub side_at : ℕ → Face
side_at j = record { tet = j / 12; face = slice_index (others (j / 3 % 4)) (j % 3) }

-- how many classes of directed edges begin at members of each vertex class
abbrev pub CountsCorners : Skeleton → List ℕ → List ℕ → Type 0
CountsCorners s directions tallies = (c : ℕ) → c < s.vertices.count → slice_index tallies c ≡ link_vertices s.vertices.classes directions c
