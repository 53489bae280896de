-- The result of the check of a vector is the verdict on it.
use Rattle.std.proofs.Common.{◌≡◌, ℕ, List, ◌∙◌, ap}
use Rattle.cone_definitions.specs.Rows as cones
use Rattle.surface_definitions.specs.Verdict.{Verdict, verdict, verdict_text}
use Rattle.surface_definitions.specs.Coordinates.{clash_list}
use Rattle.surface_definitions.specs.declared.Coords.{Coords}
use Rattle.text_definitions.specs.Written.{limit}

-- the line of the verdict for the columns of a system
pub checked_line : (checked : Verdict) (coords : Coords) (n m tets k : ℕ) (rows : List cones.Row) (x : List ℕ)
    → checked ≡ verdict limit n rows (clash_list coords tets) x → n ≡ m → tets ≡ k
    → verdict_text checked ≡ verdict_text (verdict limit m rows (clash_list coords k) x)
checked_line checked coords n m tets k rows x same columns count = ap verdict_text same
    ∙ ap (λ (c : ℕ). verdict_text (verdict limit c rows (clash_list coords tets) x)) columns
    ∙ ap (λ (t : ℕ). verdict_text (verdict limit m rows (clash_list coords t) x)) count
