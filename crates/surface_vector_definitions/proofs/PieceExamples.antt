-- A component of one piece, which is one-sided, and a vector of too many pieces.
use Rattle.surface_definitions.proofs.Computed.{computed}
use Rattle.std.proofs.Common.{◌≡◌, ℕ, zero, suc, ◌<◌, false, List, [], ◌∷◌, Ok, Err, ◌↔◌, refl, arith}
use Rattle.std.specs.Prelude.{slice_index}
use Rattle.std.proofs.lemmas.Bool.{false≢true, ltb-true, leb-true}
use Rattle.basic_lemmas.proofs.Truths.{not_itself}
use Rattle.table_definitions.specs.Classes.{IsNumbering}
use Rattle.table_definitions.specs.Table.{Gluing}
use Rattle.table_definitions.proofs.Tables.{sphere, table_jj}
use Rattle.surface_definitions.specs.declared.Coords.TheVariants.{Standard}
use Rattle.surface_definitions.specs.Pieces.{Arc, Meets, SamePiece, IsTwoSided, IsOrientableComponent}
use Rattle.surface_vector_definitions.specs.Components.{IsComponent, IsPiecesAnswer}

abbrev one_quad : List ℕ
one_quad = 0 ∷ 0 ∷ 0 ∷ 0 ∷ 0 ∷ 1 ∷ 0 ∷ []

-- one item has number 0
one_class : (Same : ℕ → ℕ → Type 0) → Same 0 0 → IsNumbering 1 Same (0 ∷ []) 1
one_class Same s = record {
  one_each = refl;
  in_range = λ i l. in_range i l;
  together = λ i j l m. together i j l m;
  ascending = λ i c l h. ascending i c l h;
  none_empty = λ c l. none_empty c l;
}
  where
    in_range : (i : ℕ) → i < 1 → slice_index (0 ∷ []) i < 1
    in_range zero l = l
    in_range (suc i) l = absurd (omega arith)

    together : (i j : ℕ) → i < 1 → j < 1 → (slice_index (0 ∷ []) i ≡ slice_index (0 ∷ []) j) ↔ Same i j
    together zero zero l m = ((λ e. s), (λ e. refl))
    together zero (suc j) l m = absurd (omega arith)
    together (suc i) j l m = absurd (omega arith)

    ascending : (i c : ℕ) → i < 1 → c < slice_index (0 ∷ []) i → (j : ℕ) × (j < i) × (slice_index (0 ∷ []) j ≡ c)
    ascending zero c l h = absurd (omega arith)
    ascending (suc i) c l h = absurd (omega arith)

    none_empty : (c : ℕ) → c < 1 → (i : ℕ) × (i < 1) × (slice_index (0 ∷ []) i ≡ c)
    none_empty zero l = (0, l, refl)
    none_empty (suc c) l = absurd (omega arith)

-- the arc around vertex 2 of face 0, where the quad meets its own other side
arc : Arc
arc = record { tet = 0; face = 0; vertex = 2; place = 0 }

across : Gluing
across = record { tet = 0; perm = 1 ∷ 2 ∷ 3 ∷ 0 ∷ [] }

meets : Meets table_jj Standard one_quad arc across
unfolding computed arc across
meets = record { in_range = ltb-true 0 1 refl; is_vertex = ltb-true 2 4 refl; off_vertex = λ e. absurd (omega arith); there = ltb-true 0 1 refl; glued = refl }

one_sided : IsTwoSided table_jj Standard one_quad (0 ∷ []) 0 → ⊥
unfolding computed arc across
one_sided h = not_itself (h.0 0) (h.1 arc across meets refl)

not_orientable : IsOrientableComponent table_jj Standard one_quad (0 ∷ []) 0 → ⊥
unfolding computed arc across
not_orientable h = not_itself (h.0 0) (h.1 arc across meets refl)

the_component : IsComponent table_jj Standard one_quad (0 ∷ []) 0 (record { vector = one_quad; two_sided = false; orientable = false })
unfolding computed
the_component = record {
  vector = refl;
  two_sided = ((λ e. absurd (false≢true e)), (λ h. absurd (one_sided h)));
  orientable = ((λ e. absurd (false≢true e)), (λ h. absurd (not_orientable h)));
}

one_component : IsPiecesAnswer table_jj Standard one_quad (Ok (record { vector = one_quad; two_sided = false; orientable = false } ∷ []))
unfolding computed
one_component = (
  leb-true 1 100000 refl,
  record {
    classes = 0 ∷ [];
    count = 1;
    numbered = one_class (SamePiece table_jj Standard one_quad) ([], refl);
    each = (the_component, tt);
  },
)

too_many : IsPiecesAnswer sphere Standard (25001 ∷ 25001 ∷ 25001 ∷ 25001 ∷ 0 ∷ 0 ∷ 0 ∷ []) (Err (record { count = 100004 }))
unfolding computed
too_many = (ltb-true 100000 100004 refl, refl)
