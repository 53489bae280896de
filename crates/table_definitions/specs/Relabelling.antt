-- New numbers for the tetrahedra of a table and for their vertices.
use Rattle.std.specs.Prelude.{◌≡◌, ℕ, ◌<◌, List, [], length, option_map, slice_index, All, IsPermutation}
use Rattle.std.specs.List.{slice_index_or}
use Rattle.table_definitions.specs.Lists.{below}
use Rattle.table_definitions.specs.Permutation.{image, inverse, compose, IsPermutationOfFour}
use Rattle.table_definitions.specs.Table.{Gluing, Row, Face, glue}

-- the number of each tetrahedron in the new table, and the image of each of its vertices
pub record Relabelling : Type 0 where
  pub images : List ℕ
  pub perms : List (List ℕ)

-- the images are each of the n numbers once, and there are n permutations
pub record IsRelabelling (n : ℕ) (by : Relabelling) : Type 0 where
  pub images : IsPermutation by.images (below n)
  pub perms : length by.perms ≡ n
  pub permutes : All IsPermutationOfFour by.perms

-- the image of tetrahedron t in the new table
abbrev pub relabelled_place : Relabelling → ℕ → Gluing
relabelled_place by t = record { tet = slice_index by.images t; perm = slice_index_or by.perms t [] }

-- the image of the face x, if s is the image of its tetrahedron
abbrev pub face_under : Gluing → Face → Face
face_under s x = record { tet = s.tet; face = image s.perm x.face }

-- the image of the gluing g, if s is the image of the tetrahedron that it leaves and r of the one that it reaches
abbrev pub gluing_under : Gluing → Gluing → Gluing → Gluing
gluing_under s r g = record { tet = r.tet; perm = compose r.perm (compose g.perm (inverse s.perm)) }

-- each face of the old table is glued in the new one as it was, by the new numbers
pub record Carries (by : Relabelling) (old new : List Row) : Type 0 where
  pub same_length : length new ≡ length old
  pub four_faces : All (λ (row : Row). length row ≡ 4) new
  pub glued : (x : Face) → x.tet < length old → x.face < 4
      → glue new (face_under (relabelled_place by x.tet) x) ≡ option_map (λ g. gluing_under (relabelled_place by x.tet) (relabelled_place by g.tet) g) (glue old x)

-- some relabelling carries the one table to the other
abbrev pub AreIsomorphic : List Row → List Row → Type 0
AreIsomorphic old new = (by : Relabelling) × IsRelabelling (length old) by × Carries by old new
