-- If no tetrahedron is taken out, each tetrahedron keeps its number and each face its gluing.
use Rattle.std.proofs.Common.{◌≡◌, ℕ, zero, suc, ◌<◌, ◌≤◌, Bool, true, false, List, [], ◌∷◌, length, Option, Some, None, inl, inr, refl, sym, ap, ◌∙◌, arith, nat_lt, ◌⊎◌, option_map}
use Rattle.std.specs.Prelude.{slice_index}
use Rattle.std.specs.List.{list_any}
use Rattle.std.proofs.lemmas.Bool.{or_from, or_parts, ltb-false, not-true, not_from_false, false≢true}
use Rattle.basic_lemmas.proofs.Truths.{true_or_false, one_if}
use Rattle.basic_lemmas.proofs.Numbers.{below_suc}
use Rattle.table_definitions.specs.Table.{Gluing, Row, Face, glue, IsTable}
use Rattle.table_definitions.proofs.Ranks.{rank, rank-suc, rank_fits, rank_all}
use Rattle.table_definitions.proofs.Faces.{face_at, gluing_to}
use Rattle.surface_definitions.specs.Coordinates.{quad_column, three}
use Rattle.surface_definitions.specs.declared.Coords.TheVariants.{Standard}
use Rattle.surface_definitions.specs.Crushing.{has_quad, is_removed, number_kept, ChainEnds, IsCrushed, renumbered}
use Rattle.surface_laws.proofs.CrushedRows.{crushed_once, stays}
use Rattle.surface_crushing_laws.specs.Laws.{HasNoQuads}

-- a test of three numbers
none_of_three : (p : ℕ → Bool) → ((k : ℕ) → k < 3 → p k ≡ false) → list_any p three ≡ false
none_of_three p h =
    or_from (p 0) (list_any p (1 ∷ 2 ∷ [])) (h 0 (omega arith)) (or_from (p 1) (list_any p (2 ∷ [])) (h 1 (omega arith)) (or_from (p 2) (list_any p []) (h 2 (omega arith)) refl))

each_of_three : (p : ℕ → Bool) → list_any p three ≡ false → (k : ℕ) → k < 3 → p k ≡ false
each_of_three p h =
    let first = or_parts (p 0) (list_any p (1 ∷ 2 ∷ [])) h in
    let second = or_parts (p 1) (list_any p (2 ∷ [])) first.1 in
    let third = or_parts (p 2) (list_any p []) second.1 in
    below_suc (λ k. p k ≡ false) 2 (below_suc (λ k. p k ≡ false) 1 (below_suc (λ k. p k ≡ false) 0 (λ j l. absurd (omega arith)) first.0) second.0) third.0

-- all numbers below n pass a test if and only if n of them do
all_rank : (p : ℕ → Bool) (n : ℕ) → rank p n ≡ n → (t : ℕ) → t < n → p t ≡ true
all_rank p zero e t l = absurd (omega arith)
all_rank p (suc n) e t l = by_last (true_or_false (p n)) (all_rank p n) t l
  where
    by_last : (p n ≡ true) ⊎ (p n ≡ false) → (rank p n ≡ n → (t : ℕ) → t < n → p t ≡ true) → (t : ℕ) → t < suc n → p t ≡ true
    by_last (inl h) before = let one : one_if (p n) ≡ 1 = ap one_if h in below_suc (λ t. p t ≡ true) n (before (omega (arith, rank-suc p n))) h
    by_last (inr h) before = let none : one_if (p n) ≡ 0 = ap one_if h in absurd (omega (arith, rank-suc p n, rank_fits p n))

module _ (rows : List Row) (xs : List ℕ) (quads : HasNoQuads (length rows) xs) where
  none_removed : (t : ℕ) → t < length rows → is_removed xs t ≡ false
  none_removed t l = none_of_three (has_quad xs t) (λ k m. ap (λ n. nat_lt 0 n) (quads t k l m))

  same_number : (t : ℕ) → t ≤ length rows → number_kept xs t ≡ t
  same_number t l = rank_all (stays xs) t (λ u m. not_from_false (is_removed xs u) (none_removed u (omega arith)))

  module _ (table : IsTable rows) where
    -- the end of the chain of a face is the face's gluing, and its tetrahedron keeps its number
    same_gluing : (x : Face) (n : ℕ) (o end : Option Gluing) → glue rows x ≡ o → ChainEnds rows xs x n o end → o ≡ option_map (renumbered xs) end
    same_gluing x zero None end e h = sym (ap (option_map (renumbered xs)) h)
    same_gluing x zero (Some g) end e h =
        let within : g.tet < length rows = table.in_range x g e in
        sym (ap (option_map (renumbered xs)) h.1 ∙ ap (λ t. Some (gluing_to t g.perm)) (same_number g.tet (omega arith)))
    same_gluing x (suc n) None end e h = absurd h
    same_gluing x (suc n) (Some g) end e h = absurd (false≢true (sym (none_removed g.tet (table.in_range x g e)) ∙ h.0))

    pub stays_whole : IsCrushed rows xs rows
    stays_whole = record {
      length_is = sym (same_number (length rows) (omega arith));
      four_faces = table.four_faces;
      glued = λ x end lt lf k c. ap (λ t. glue rows (face_at t x.face)) (same_number x.tet (omega arith)) ∙ same_gluing x c.0 (glue rows x) end refl c.1;
    }

    pub nothing_else : (new : List Row) → IsCrushed rows xs new → new ≡ rows
    nothing_else new c = crushed_once rows xs table new rows c stays_whole

-- if no tetrahedron is taken out, there are no quads
pub whole_without_quads : (rows : List Row) (xs : List ℕ) → IsCrushed rows xs rows → HasNoQuads (length rows) xs
whole_without_quads rows xs c t k l m =
    let kept : stays xs t ≡ true = all_rank (stays xs) (length rows) (sym c.length_is) t l in
    let none : has_quad xs t k ≡ false = each_of_three (has_quad xs t) (not-true (is_removed xs t) kept) k m in
    let low : slice_index xs (quad_column Standard t k) ≤ 0 = ltb-false 0 (slice_index xs (quad_column Standard t k)) none in
    omega arith
