-- The images so far.
use Rattle.std.proofs.Common.{◌≡◌, map}
use Rattle.table_definitions.specs.Lists.{below}
use Rattle.cover_definitions.specs.Cover.{above, over, copy_of}
use Rattle.double_cover.proofs.images.split_images.Given as goal

abbrev pub invariant-loop-tet : goal.invariant-loop-tet
invariant-loop-tet l = l.images.items ≡ map (λ u. above l.fn.sheets.tets (over l.fn.sheets.tets u) (copy_of l.fn.sheets.tets l.signs u)) (below l.tet)
