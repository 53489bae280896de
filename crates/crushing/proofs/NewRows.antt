-- The rows of a crushed table, made one after another.
use Rattle.std.proofs.Common.{◌≡◌, ℕ, zero, suc, ◌+◌, ◌<◌, ◌≤◌, Bool, true, false, not, List, [], ◌∷◌, ◌++◌, length, Option, Some, None, IsTrue, inl, inr, refl, sym, ap, ◌∙◌, subst, arith, option_map}
use Rattle.std.specs.List.{slice_index_or}
use Rattle.std.proofs.Math.ListN.{get_or-append}
use Rattle.std.proofs.Math.Seq.{get_or-append_seam}
use Rattle.std.proofs.lemmas.List.{length-append, get_or_default}
use Rattle.std.proofs.lemmas.Bool.{cases_lt, not-true, false≢true}
use Rattle.table_definitions.specs.Table.{Gluing, Row}
use Rattle.table_definitions.proofs.Ranks.{rank, rank-suc, rank_fits, StandsAt, at_rank, of_rank}
use Rattle.surface_definitions.specs.Crushing.{is_removed, number_kept, CrushesTo, IsCrushed, renumbered}
use Rattle.crushing.specs.Rows.{IsCrushedRow, AreCrushedBefore, AreNewNumbers}
use Rattle.basic_lemmas.proofs.Truths.{one_if}

abbrev stays : List ℕ → ℕ → Bool
stays xs t = not (is_removed xs t)

one_more : (xs : List ℕ) (t : ℕ) → number_kept xs (t + 1) ≡ number_kept xs t + one_if (stays xs t)
one_more xs t = let e : t + 1 ≡ suc t = omega arith in ap (number_kept xs) e ∙ rank-suc (stays xs) t

pub kept_more : (xs : List ℕ) (t : ℕ) → is_removed xs t ≡ false → number_kept xs (t + 1) ≡ number_kept xs t + 1
kept_more xs t kept = one_more xs t ∙ ap (λ b. number_kept xs t + one_if (not b)) kept

pub gone_same : (xs : List ℕ) (t : ℕ) → is_removed xs t ≡ true → number_kept xs (t + 1) ≡ number_kept xs t
gone_same xs t gone = one_more xs t ∙ ap (λ b. number_kept xs t + one_if (not b)) gone ∙ omega arith

pub kept_fit : (xs : List ℕ) (t : ℕ) → number_kept xs t ≤ t
kept_fit xs t = rank_fits (stays xs) t

-- one more number of the crushed table
pub numbers_on : (xs numbers more : List ℕ) (t kept : ℕ) → AreNewNumbers xs numbers t → kept ≡ number_kept xs t → more ≡ numbers ++ kept ∷ [] → AreNewNumbers xs more (t + 1)
numbers_on xs numbers more t kept h e is = subst (λ ms. AreNewNumbers xs ms (t + 1)) (sym is) (record { length_is = length-append numbers (kept ∷ []) ∙ ap (λ n. n + 1) h.length_is; each = each })
  where
    each : (u : ℕ) → u < t + 1 → slice_index_or (numbers ++ kept ∷ []) u 0 ≡ number_kept xs u
    each u l = elim (cases_lt u t) [
      | inl less ↦ (let inside : u < length numbers = omega (arith, h.length_is) in get_or-append numbers (kept ∷ []) 0 u inside ∙ h.each u less)
      | inr same ↦ (let last : u ≡ length numbers = omega (arith, h.length_is) in let is_t : t ≡ u = omega arith in
          ap (λ i. slice_index_or (numbers ++ kept ∷ []) i 0) last ∙ get_or-append_seam numbers kept [] 0 ∙ e ∙ ap (number_kept xs) is_t)
    ]

-- the tetrahedron that is reached is renumbered by the list
pub end_renumbered : (xs numbers : List ℕ) (n : ℕ) (v g : Gluing) (end : Option Gluing) → AreNewNumbers xs numbers n → v ≡ g → g.tet < n → end ≡ Some g
    → (let o : Option Gluing = Some (record { tet = slice_index_or numbers v.tet 0; perm = v.perm }) in o ≡ option_map (renumbered xs) end)
end_renumbered xs numbers n v g end h same l e =
    (λ i. Some (record { tet = slice_index_or numbers (same i).tet 0; perm = (same i).perm })) ∙ ap (λ (t : ℕ). Some (record { tet = t; perm = g.perm })) (h.each g.tet l) ∙ ap (option_map (renumbered xs)) (sym e)

-- four faces make a row
pub row_is : (rows : List Row) (xs : List ℕ) (t : ℕ) (a b c d : Option Gluing)
    → ((end : Option Gluing) → CrushesTo rows xs (record { tet = t; face = 0 }) end → a ≡ option_map (renumbered xs) end)
    → ((end : Option Gluing) → CrushesTo rows xs (record { tet = t; face = 1 }) end → b ≡ option_map (renumbered xs) end)
    → ((end : Option Gluing) → CrushesTo rows xs (record { tet = t; face = 2 }) end → c ≡ option_map (renumbered xs) end)
    → ((end : Option Gluing) → CrushesTo rows xs (record { tet = t; face = 3 }) end → d ≡ option_map (renumbered xs) end)
    → IsCrushedRow rows xs t (a ∷ b ∷ c ∷ d ∷ [])
row_is rows xs t a b c d ea eb ec ed = record { four_faces = refl; glued = glued }
  where
    glued : (f : ℕ) (end : Option Gluing) → f < 4 → CrushesTo rows xs (record { tet = t; face = f }) end → slice_index_or (a ∷ b ∷ c ∷ d ∷ []) f None ≡ option_map (renumbered xs) end
    glued zero end l h = ea end h
    glued (suc zero) end l h = eb end h
    glued (suc (suc zero)) end l h = ec end h
    glued (suc (suc (suc zero))) end l h = ed end h
    glued (suc (suc (suc (suc f)))) end l h = absurd (omega arith)

-- one more row
pub rows_on : (rows : List Row) (xs : List ℕ) (t : ℕ) (new more : List Row) (row : Row) → AreCrushedBefore rows xs t new → is_removed xs t ≡ false → IsCrushedRow rows xs t row
    → more ≡ new ++ row ∷ [] → AreCrushedBefore rows xs (t + 1) more
rows_on rows xs t new more row h kept r is = subst (AreCrushedBefore rows xs (t + 1)) (sym is) (record { length_is = length-append new (row ∷ []) ∙ ap (λ n. n + 1) h.length_is ∙ sym (kept_more xs t kept); each = each })
  where
    each : (u : ℕ) → u < t + 1 → IsTrue (stays xs u) → IsCrushedRow rows xs u (slice_index_or (new ++ row ∷ []) (number_kept xs u) [])
    each u l k = elim (cases_lt u t) [
      | inl less ↦ (let s : StandsAt (stays xs) t u = at_rank (stays xs) t u less k in
          let inside : number_kept xs u < length new = omega (arith, h.length_is, s.fewer) in
          subst (IsCrushedRow rows xs u) (sym (get_or-append new (row ∷ []) [] (number_kept xs u) inside)) (h.each u less k))
      | inr same ↦ (let is_t : t ≡ u = omega arith in
          let last : number_kept xs u ≡ length new = ap (number_kept xs) (sym is_t) ∙ sym h.length_is in
          let found : slice_index_or (new ++ row ∷ []) (number_kept xs u) [] ≡ row = ap (λ i. slice_index_or (new ++ row ∷ []) i []) last ∙ get_or-append_seam new row [] [] in
          subst (λ v. IsCrushedRow rows xs v (slice_index_or (new ++ row ∷ []) (number_kept xs u) [])) is_t (subst (IsCrushedRow rows xs t) (sym found) r))
    ]

-- a tetrahedron that is taken out has no row
pub rows_same : (rows : List Row) (xs : List ℕ) (t : ℕ) (new : List Row) → AreCrushedBefore rows xs t new → is_removed xs t ≡ true → AreCrushedBefore rows xs (t + 1) new
rows_same rows xs t new h gone = record {
  length_is = h.length_is ∙ sym (gone_same xs t gone);
  each = λ u l k. elim (cases_lt u t) [
    | inl less ↦ h.each u less k
    | inr same ↦ absurd (let is_t : u ≡ t = omega arith in false≢true (sym (not-true (is_removed xs u) k) ∙ ap (is_removed xs) is_t ∙ gone))
  ];
}

-- the rows of all tetrahedra that stay are the crushed table
pub all_rows : (rows : List Row) (xs : List ℕ) (new : List Row) → AreCrushedBefore rows xs (length rows) new → IsCrushed rows xs new
all_rows rows xs new h = record {
  length_is = h.length_is;
  four_faces = λ k d l.
      let r : (u : ℕ) × (u < length rows) × (stays xs u ≡ true) × (rank (stays xs) u ≡ k) = of_rank (stays xs) (length rows) k (omega (arith, h.length_is)) in
      let row : IsCrushedRow rows xs r.0 (slice_index_or new (number_kept xs r.0) []) = h.each r.0 r.1 r.2 in
      ap length (get_or_default new k d [] l ∙ ap (λ i. slice_index_or new i []) (sym r.3)) ∙ row.four_faces;
  glued = λ x end lt lf k c. (h.each x.tet lt k).glued x.face end lf c;
}
