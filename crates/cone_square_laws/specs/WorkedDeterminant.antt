-- A determinant whose square is as large as the bound.
use Rattle.std.specs.Prelude.{◌≡◌, ◌==◌, pos, negsuc, [], ◌∷◌, if◌then◌else◌}
use Rattle.cone_square_laws.specs.Determinants.{MatrixRow, determinant, product_of_squares}

-- 1 1
abbrev pub like_signs : MatrixRow
like_signs = λ _. pos 1

-- 1 -1
abbrev pub other_signs : MatrixRow
other_signs = λ c. if c == 0 then pos 1 else negsuc 0

abbrev pub WorkedIs : Type 0
WorkedIs = determinant (like_signs ∷ other_signs ∷ []) (0 ∷ 1 ∷ []) ≡ negsuc 1

abbrev pub WorkedMost : Type 0
WorkedMost = product_of_squares (like_signs ∷ other_signs ∷ []) (0 ∷ 1 ∷ []) ≡ 4
