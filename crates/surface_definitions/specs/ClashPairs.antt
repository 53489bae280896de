-- Pairs of columns that clash.
use Rattle.std.specs.Prelude.{ℕ, Bool, ◌&&◌, nat_lt}
use Rattle.surface_definitions.specs.Coordinates.{clash_test}
use Rattle.surface_definitions.specs.declared.Coords.{Coords}

-- whether a pair consists of a smaller and a greater column that clash
abbrev pub is_clash : Coords → ℕ × ℕ → Bool
is_clash coords p = nat_lt p.0 p.1 && clash_test coords p.0 p.1
