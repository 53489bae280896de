-- An arc after those of the triangles is of one quad or octagon, which meets edges of other types once.
use Rattle.std.proofs.Common.{◌≡◌, ◌≢◌, ℕ, ◌+◌, ◌-◌, ◌<◌, ◌≤◌, Bool, List, length, ◌⊎◌, inl, inr, refl, sym, ap, ◌∙◌, arith}
use Rattle.std.specs.Prelude.{slice_index}
use Rattle.skeleton_definitions.specs.Skeleton.{Skeleton, IsSkeleton, IsValidClass}
use Rattle.surface_definitions.specs.Coordinates.{tri_column, keeping}
use Rattle.surface_definitions.specs.declared.Coords.{Coords}
use Rattle.surface_definitions.specs.Pieces.{arcs_around, type_in, keeps_by_zero}
use Rattle.surface_laws.specs.PieceLaws.{IsSurface}
use Rattle.surface_laws.proofs.ArcPieces.{from_end, from_end_below, from_end_twice}
use Rattle.surface_euler_laws.proofs.Four.{Four, first_two, middle_two, last_two, opposite, other_type, type_below, one_of_types}
use Rattle.surface_euler_laws.proofs.Shapes.{behind_type, shape}
use Rattle.surface_euler_laws.proofs.Widths.{width, width_by_type}
use Rattle.surface_euler_laws.proofs.Sides.{arcs_are, Once}

module _ (s : Skeleton) (k : IsSkeleton s) (valid : (c : ℕ) → c < s.edges.count → IsValidClass s c) (coords : Coords) (xs : List ℕ) (surface : IsSurface s.rows coords xs)
    (t : ℕ) (lt : t < length s.rows) (h : ℕ → Bool) where
  abbrev pub col_at : ℕ → ℕ → ℕ
  col_at v f = behind_type coords xs t (keeping v f)

  abbrev pub tri : ℕ → ℕ
  tri v = slice_index xs (tri_column coords t v)

  abbrev pub from_v : ℕ → ℕ → ℕ → ℕ → ℕ
  from_v col o i v = slice_index xs (tri_column coords t v) + from_end (slice_index xs col) (keeps_by_zero o v) i

  -- an arc of a quad or an octagon, which is after those of the triangles
  pub record IsFurther (v f j : ℕ) : Type 0 where
    pub o : ℕ
    pub i : ℕ
    pub lo : o < 3
    pub type_is : type_in coords (col_at v f) ≡ o
    pub li : i < slice_index xs (col_at v f)
    pub at_is : from_v (col_at v f) o i v ≡ j
    pub once : Once s k valid coords xs surface t lt h (col_at v f) o i lo type_is li
    pub kind : (o ≡ keeping v f) ⊎ ((j : ℕ) → j < 3 → j ≢ o → behind_type coords xs t j ≡ col_at v f)

  -- the widths of the edges that a piece of type o meets once each
  once_by : (q o : ℕ) → o < 3
      → ((a b : ℕ) → a < 3 → b < 3 → o ≡ a → o ≢ b → slice_index xs (behind_type coords xs t a) + slice_index xs (behind_type coords xs t b) ≡ q)
      → (v u f w : ℕ) → Four v u f w → o ≢ keeping v u → width s.rows coords xs surface t f v u ≡ tri v + tri u + q
  once_by q o lo sums v u f w four ne =
      let wide = width_by_type s.rows coords xs surface t v u f w lt four in
      let a : Four v f u w = middle_two v u f w four in
      let b : Four u f v w = middle_two u v f w (first_two v u f w four) in
      let la = type_below v f u w a in
      let lb = type_below u f v w b in
      let e : keeping v w ≡ keeping u f = opposite v w u f (middle_two v u w f (last_two v u f w four)) in
      let separate : keeping v f ≢ keeping v w = other_type v f w u (middle_two v w f u (first_swap v f u w a)) in
      elim (one_of_types v u f w o four lo) [
        | inl d ↦ absurd (ne d)
        | inr (inl d) ↦ (let z = sums (keeping v f) (keeping u f) la lb d (λ g. separate (sym d ∙ g ∙ sym e)) in omega arith)
        | inr (inr d) ↦ (let z = sums (keeping u f) (keeping v f) lb la (d ∙ e) (λ g. separate (sym g ∙ d)) in omega arith)
      ]
    where
      first_swap : (v f u w : ℕ) → Four v f u w → Four v w f u
      first_swap v f u w a = middle_two v f w u (last_two v f u w a)

  pub further : (v f u w j : ℕ) → Four v f u w → tri v ≤ j → j < arcs_around coords xs t f v → IsFurther v f j
  further v f u w j four low l =
      let all = arcs_are s k valid coords xs surface t lt h v f u w four in
      let jj : ℕ = j - tri v in
      let lj : jj < slice_index xs (col_at v f) = omega arith in
      let lk = type_below v f u w four in
      elim (shape (length s.rows) xs t lt coords surface.triangles surface.admissible (keeping v f) lk (omega arith)) [
        | inl a ↦ record {
          o = keeping v f;
          i = from_end (slice_index xs (col_at v f)) (keeps_by_zero (keeping v f) v) jj;
          lo = lk;
          type_is = a.type_is;
          li = from_end_below (slice_index xs (col_at v f)) (keeps_by_zero (keeping v f) v) jj lj;
          at_is = placed v f j jj (keeping v f) (omega arith) lj;
          once = once_by (slice_index xs (col_at v f)) (keeping v f) lk (λ x y lx ly ex ny.
              let none = a.no_other y ly (λ g. ny (sym g)) in
              let some = ap (λ z. slice_index xs (behind_type coords xs t z)) ex in omega arith);
          kind = inl refl;
        }
        | inr a ↦ record {
          o = a.o;
          i = from_end (slice_index xs (col_at v f)) (keeps_by_zero a.o v) jj;
          lo = a.below_three;
          type_is = a.type_is;
          li = from_end_below (slice_index xs (col_at v f)) (keeps_by_zero a.o v) jj lj;
          at_is = placed v f j jj a.o (omega arith) lj;
          once = once_by (slice_index xs (col_at v f)) a.o a.below_three (λ x y lx ly ex ny.
              let some = ap (slice_index xs) (a.same y ly (λ g. ny (sym g))) in
              let none = ap (λ z. slice_index xs (behind_type coords xs t z)) (sym ex) ∙ a.none in omega arith);
          kind = inr a.same;
        }
      ]
    where
      placed : (v f j jj o : ℕ) → tri v + jj ≡ j → jj < slice_index xs (col_at v f) → from_v (col_at v f) o (from_end (slice_index xs (col_at v f)) (keeps_by_zero o v) jj) v ≡ j
      placed v f j jj o e l = ap (λ z. tri v + z) (from_end_twice (slice_index xs (col_at v f)) (keeps_by_zero o v) jj l) ∙ e
