-- A tetrahedron without glued faces has no equations, so a vector is a surface if it has quads of at most one type.
use Rattle.std.proofs.Common.{◌≡◌, ℕ, inl, inr, refl, sym, subst, List, [], ◌∷◌, None}
use Rattle.std.specs.Prelude.{◌⊎◌, slice_index}
use Rattle.std.specs.List.{AllByRecursion}
use Rattle.std.proofs.lemmas.List.Elements.{All-from_recursion}
use Rattle.cone_definitions.specs.Rows.{Row as EquationRow, IsZeroAt}
use Rattle.table_definitions.specs.Table.{Row, IsTable}
use Rattle.surface_definitions.specs.Coordinates.{clash_list}
use Rattle.surface_definitions.specs.Equations.{glued_pairs, matching_equations, matching_rows}
use Rattle.surface_definitions.specs.declared.Coords.TheVariants.{Standard}
use Rattle.surface_laws.specs.PieceLaws.{IsSurface}

abbrev pub free : List Row
free = (None ∷ None ∷ None ∷ None ∷ []) ∷ []

-- a triangle and two quads
abbrev pub three_pieces : List ℕ
three_pieces = 1 ∷ 0 ∷ 0 ∷ 0 ∷ 2 ∷ 0 ∷ 0 ∷ []

no_equations : matching_rows Standard free ≡ []
unfolding glued_pairs matching_equations
no_equations = refl

three_clashes : clash_list Standard 1 ≡ (4, 5) ∷ (4, 6) ∷ (5, 6) ∷ []
unfolding clash_list
three_clashes = refl

-- at least one column of the pair is 0
abbrev IsApart : ℕ × ℕ → Type 0
IsApart pair = (slice_index three_pieces pair.0 ≡ 0) ⊎ (slice_index three_pieces pair.1 ≡ 0)

pub free_surface : (rows : List Row) → rows ≡ free → IsTable rows → IsSurface rows Standard three_pieces
free_surface rows e table = subst (λ (r : List Row). IsSurface r Standard three_pieces) (sym e) (record {
  table = subst IsTable e table;
  triangles = tt;
  solves = record {
    width = refl;
    zero = All-from_recursion (λ row. IsZeroAt row three_pieces) (matching_rows Standard free)
        (subst (λ (rs : List EquationRow). AllByRecursion (λ row. IsZeroAt row three_pieces) rs) (sym no_equations) tt);
  };
  admissible = All-from_recursion IsApart (clash_list Standard 1) (subst (λ (pairs : List (ℕ × ℕ)). AllByRecursion IsApart pairs) (sym three_clashes)
      (inr refl, (inr refl, (inl refl, tt))));
})
