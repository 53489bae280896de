-- The rows of edge classes, with one class more.
use Rattle.std.proofs.Common.{◌≡◌, ℕ, ◌+◌, ◌≤◌, Bool, true, false, cond, not, List, [], ◌∷◌, ◌++◌, length, refl, sym, ap, ◌∙◌, subst, subst₂, arith, append-nil, length-append}
use Rattle.std.specs.Bool.{MatchBool}
use Rattle.std.specs.List.{AllZip}
use Rattle.basic_lemmas.proofs.Lists.{zip_more}
use Rattle.table_definitions.specs.Places.{is_boundary_edge}
use Rattle.table_definitions.specs.Table.{Row}
use Rattle.skeleton_definitions.specs.Corners.{Corner, internal_edges}
use Rattle.skeleton_definitions.specs.Skeleton.{Skeleton}
use Rattle.cone_definitions.specs.Rows.{Row as EquationRow}
use Rattle.surface_definitions.specs.Coordinates.{columns}
use Rattle.surface_definitions.specs.declared.Coords.TheVariants.{Quad}
use Rattle.surface_definitions.specs.Equations.{row_of}
use Rattle.surface_definitions.specs.QuadEquations.{quad_equation, IsQuadRow}
use Rattle.matching_equations.specs.Quads.{IsRowAppended}
use Rattle.surface_definitions.proofs.Ranges.{filter-more}
use Rattle.skeleton_class_laws.proofs.EdgeCorners.{IsRound}

-- the row of these corners is that of the class
pub row_appended : (s : Skeleton) (c n : ℕ) (corners : List Corner) (before now : List EquationRow) → is_boundary_edge s.rows s.edges.classes c ≡ false → IsRound s c corners
    → n ≡ columns Quad (length s.rows) → now ≡ before ++ row_of n (quad_equation corners) ∷ [] → IsRowAppended s.rows s.edges.classes c before now
row_appended s c n corners before now inner round e f =
    subst (λ (b : Bool). MatchBool b (now ≡ before) ((row : EquationRow) × IsQuadRow s.rows s.edges.classes c row × (now ≡ before ++ row ∷ []))) (sym inner)
    (row_of n (quad_equation corners), (corners, round.all, ap (λ m. row_of m (quad_equation corners)) e), f)

-- the rows so far, with one class more
pub rows_more : (rows : List Row) (classes : List ℕ) (c : ℕ) (before now : List EquationRow) → AllZip (IsQuadRow rows classes) (internal_edges rows classes c) before
    → IsRowAppended rows classes c before now → AllZip (IsQuadRow rows classes) (internal_edges rows classes (c + 1)) now × (length now ≤ length before + 1)
rows_more rows classes c before now h r = by_test (is_boundary_edge rows classes c) refl r
  where
    inner : ℕ → Bool
    inner d = not (is_boundary_edge rows classes d)

    more : (b : Bool) → is_boundary_edge rows classes c ≡ b → internal_edges rows classes (c + 1) ≡ internal_edges rows classes c ++ cond (not b) (c ∷ []) []
    more b e = filter-more (λ d. not (is_boundary_edge rows classes d)) c ∙ ap (λ a. internal_edges rows classes c ++ cond (not a) (c ∷ []) []) e

    by_test : (b : Bool) → is_boundary_edge rows classes c ≡ b → MatchBool b (now ≡ before) ((row : EquationRow) × IsQuadRow rows classes c row × (now ≡ before ++ row ∷ []))
        → AllZip (IsQuadRow rows classes) (internal_edges rows classes (c + 1)) now × (length now ≤ length before + 1)
    by_test true e same =
        let size : length now ≡ length before = ap length same in
        let short : length now ≤ length before + 1 = omega arith in
        (subst₂ (AllZip (IsQuadRow rows classes)) (sym (more true e ∙ append-nil (internal_edges rows classes c))) (sym same) h, short)
    by_test false e some =
        let size : length now ≡ length before + 1 = ap length some.2 ∙ length-append before (some.0 ∷ []) in
        let short : length now ≤ length before + 1 = omega arith in
        (subst₂ (AllZip (IsQuadRow rows classes)) (sym (more false e)) (sym some.2) (zip_more (IsQuadRow rows classes) (internal_edges rows classes c) before c some.0 h some.1), short)
