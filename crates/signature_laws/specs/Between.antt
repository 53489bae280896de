-- Relabellings by the image of each tetrahedron: the identity, inverses, compositions, and one followed by the inverse
-- of another.
use Rattle.std.specs.Prelude.{◌==◌, ℕ, List, [], length, map, slice_index}
use Rattle.std.specs.List.{slice_index_or, position_or_len}
use Rattle.table_definitions.specs.Lists.{below}
use Rattle.table_definitions.specs.Permutation.{identity, inverse, compose}
use Rattle.table_definitions.specs.Table.{Gluing}
use Rattle.table_definitions.specs.Relabelling.{Relabelling}

-- the relabelling that maps tetrahedron t to f t
unfoldable pub made : ℕ → (ℕ → Gluing) → Relabelling
made n f = record { images = map (λ t. (f t).tet) (below n); perms = map (λ t. (f t).perm) (below n) }

-- the relabelling of n tetrahedra that maps each to itself by the identity
abbrev pub unchanged : ℕ → Relabelling
unchanged n = made n (λ t. record { tet = t; perm = identity })

-- the tetrahedron that is mapped to u
unfoldable pub place_of : Relabelling → ℕ → ℕ
place_of by u = position_or_len (λ v. v == u) by.images

-- the image of u under the inverse
abbrev pub back_of : Relabelling → ℕ → Gluing
back_of by u = record { tet = place_of by u; perm = inverse (slice_index_or by.perms (place_of by u) []) }

abbrev pub inverted : ℕ → Relabelling → Relabelling
inverted n by = made n (back_of by)

-- the image of t under one relabelling and then another
abbrev pub after_of : Relabelling → Relabelling → ℕ → Gluing
after_of second first t = record {
  tet = slice_index second.images (slice_index first.images t);
  perm = compose (slice_index_or second.perms (slice_index first.images t) []) (slice_index_or first.perms t []);
}

abbrev pub after : ℕ → Relabelling → Relabelling → Relabelling
after n second first = made n (after_of second first)

-- by the first, and back by the second
abbrev pub between : ℕ → Relabelling → Relabelling → Relabelling
between n first second = after n (inverted n second) first

-- the same, number by number
abbrev pub images_between : Relabelling → List ℕ → List ℕ
images_between first olds = map (λ t. slice_index olds (slice_index first.images t)) (below (length first.images))

abbrev pub perms_between : Relabelling → Relabelling → List ℕ → List (List ℕ)
perms_between first second images =
    map (λ t. compose (inverse (slice_index_or second.perms (slice_index images t) [])) (slice_index_or first.perms t [])) (below (length first.images))
