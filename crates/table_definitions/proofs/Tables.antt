-- The tables of the examples.
use Rattle.std.proofs.Common.{ℕ, List, [], ◌∷◌, Option, Some, None}
use Rattle.std.specs.List.{slice_index_or}
use Rattle.table_definitions.specs.Permutation.{words}
use Rattle.table_definitions.specs.Table.{Gluing, Row}

-- a gluing to tetrahedron t by the permutation with index i
abbrev pub by : ℕ → ℕ → Option Gluing
by t i = Some (record { tet = t; perm = slice_index_or words i [] })

abbrev pub free : Option Gluing
free = None

abbrev pub row : Option Gluing → Option Gluing → Option Gluing → Option Gluing → Row
row a b c d = a ∷ b ∷ c ∷ d ∷ []

-- `bkaagj`: 0:1023 0:1023 0:1230 0:3012
abbrev pub sphere : List Row
sphere = row (by 0 6) (by 0 6) (by 0 9) (by 0 18) ∷ []

-- `bkaagn`: 0:1023 0:1023 0:2031 0:1302
abbrev pub other_sphere : List Row
other_sphere = row (by 0 6) (by 0 6) (by 0 13) (by 0 10) ∷ []

-- `bkaagb`: 0:1023 0:1023 0:0132 0:0132
abbrev pub table_gb : List Row
table_gb = row (by 0 6) (by 0 6) (by 0 1) (by 0 1) ∷ []

-- `bkaajj`: 0:1230 0:3012 0:1230 0:3012
abbrev pub table_jj : List Row
table_jj = row (by 0 9) (by 0 18) (by 0 9) (by 0 18) ∷ []

-- `bkaaid`: 0:1203 0:2013 0:0231 0:0312
abbrev pub table_id : List Row
table_id = row (by 0 8) (by 0 12) (by 0 3) (by 0 4) ∷ []

-- `cPcbbbiht`: 1:0123 1:1203 1:1032 1:3021 and 0:0123 0:1320 0:2013 0:1032
abbrev pub figure_eight : List Row
figure_eight = row (by 1 0) (by 1 8) (by 1 7) (by 1 19) ∷ row (by 0 0) (by 0 11) (by 0 12) (by 0 7) ∷ []

-- 0:1032 0:1032 - -
abbrev pub invalid : List Row
invalid = row (by 0 7) (by 0 7) free free ∷ []

-- `bkaagj` after the move `14 0`
abbrev pub four_tets : List Row
four_tets =
    row (by 1 0) (by 2 6) (by 3 8) (by 1 0)
    ∷ row (by 0 0) (by 2 0) (by 3 2) (by 0 0)
    ∷ row (by 0 6) (by 1 0) (by 3 0) (by 3 8)
    ∷ row (by 0 12) (by 1 2) (by 2 0) (by 2 12) ∷ []
