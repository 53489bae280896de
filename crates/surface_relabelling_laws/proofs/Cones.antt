-- Vertex surfaces of equations that have corresponding solutions.
use Rattle.std.proofs.Common.{◌≡◌, ◌≢◌, ℕ, ◌/◌, ◌%◌, ◌<◌, ◌≤◌, true, List, [], ◌⊎◌, inl, inr, sym, ap, ◌∙◌, subst, subst₂, arith}
use Rattle.std.specs.Prelude.{slice_index, nat_le}
use Rattle.std.specs.Int.{◌∣◌}
use Rattle.std.specs.List.{slice_index_or}
use Rattle.std.proofs.Math.Nat.{dvd-zero}
use Rattle.std.proofs.lemmas.Bool.{cases_order, leb-true, le-leb}
use Rattle.cone_definitions.specs.Vectors.{IsNonzero, IsInside, IsPrimitive}
use Rattle.cone_definitions.specs.Rows.{Row as EquationRow, IsSolution, IsExtreme}
use Rattle.cone_definitions.specs.Surfaces.{IsAdmissible, IsVertexSurface}
use Rattle.cone_definitions.proofs.Entries.{each_column, entry_past, nonzero_before}
use Rattle.table_definitions.specs.Relabelling.{Relabelling, IsRelabelling}
use Rattle.table_definitions.proofs.Carried.{images_apart}
use Rattle.signature_laws.specs.Between.{inverted}
use Rattle.signature_laws.proofs.Back.{inverted_relabelling}
use Rattle.surface_definitions.specs.Coordinates.{triangles_each, before_octagons, columns, columns_each, clash_list, clash_test}
use Rattle.surface_definitions.specs.declared.Coords.{Coords}
use Rattle.surface_definitions.proofs.ColumnCounts.{tet_of_index, index_of_index, column_of_index, tet_below, index_below}
use Rattle.surface_laws.proofs.Clashes.{none_clash, none_clash-admissible, AreClashing, clash_is, clash_from}
use Rattle.surface_equation_laws.proofs.LocalArcs.{placed}
use Rattle.surface_relabelling_laws.specs.Vectors.{place_under, relabelled_vector}
use Rattle.surface_relabelling_laws.proofs.Columns.{image_at, IsCarried, split, placed_by, from_column, carried_again, relabelled_is}

module _ (coords : Coords) (n : ℕ) (by : Relabelling) (is : IsRelabelling n by) where
  -- what holds at each image of a column holds at each column
  each_image : (P : ℕ → Type 0) → ((t i : ℕ) → t < n → i < columns_each coords → P (image_at coords by t i)) → (c : ℕ) → c < columns coords n → P c
  each_image P h c l = let f = from_column coords n by is c l in subst P f.4 (h f.0 f.1 f.2 f.3)

  each_place : (P : ℕ → Type 0) → ((t i : ℕ) → t < n → i < columns_each coords → P (placed coords t i)) → (c : ℕ) → c < columns coords n → P c
  each_place P h c l = subst P (split coords c) (h (c / columns_each coords) (c % columns_each coords) (tet_below coords n c l) (index_below coords c))

  pub inside_carried : (xs ys us ws : List ℕ) → IsCarried coords n by xs ys → IsCarried coords n by us ws → IsInside xs us → IsInside ys ws
  inside_carried xs ys us ws a b inside = each_column (columns coords n) (λ c. slice_index ws c ≡ 0 → slice_index ys c ≡ 0)
      (each_image (λ c. slice_index ws c ≡ 0 → slice_index ys c ≡ 0) (λ t i lt li z. a.entries t i lt li ∙ inside (placed coords t i) (sym (b.entries t i lt li) ∙ z)))
      (λ c l z. entry_past ys (columns coords n) c a.to_width l)

  pub inside_back : (xs ys us ws : List ℕ) → IsCarried coords n by xs ys → IsCarried coords n by us ws → IsInside ys ws → IsInside xs us
  inside_back xs ys us ws a b inside = each_column (columns coords n) (λ c. slice_index us c ≡ 0 → slice_index xs c ≡ 0)
      (each_place (λ c. slice_index us c ≡ 0 → slice_index xs c ≡ 0) (λ t i lt li z. sym (a.entries t i lt li) ∙ inside (image_at coords by t i) (b.entries t i lt li ∙ z)))
      (λ c l z. entry_past xs (columns coords n) c a.from_width l)

  pub nonzero_carried : (xs ys : List ℕ) → IsCarried coords n by xs ys → IsNonzero xs → IsNonzero ys
  nonzero_carried xs ys a some =
      each_place (λ c. slice_index xs c ≢ 0 → IsNonzero ys) (λ t i lt li ne. (image_at coords by t i, λ z. ne (sym (a.entries t i lt li) ∙ z)))
      some.0 (nonzero_before xs (columns coords n) some.0 a.from_width some.1) some.1

  pub nonzero_back : (xs ys : List ℕ) → IsCarried coords n by xs ys → IsNonzero ys → IsNonzero xs
  nonzero_back xs ys a some =
      each_image (λ c. slice_index ys c ≢ 0 → IsNonzero xs) (λ t i lt li ne. (placed coords t i, λ z. ne (a.entries t i lt li ∙ z)))
      some.0 (nonzero_before ys (columns coords n) some.0 a.to_width some.1) some.1

  pub primitive_carried : (xs ys : List ℕ) → IsCarried coords n by xs ys → IsPrimitive xs → IsPrimitive ys
  primitive_carried xs ys a primitive d divides = primitive d (each_column (columns coords n) (λ c. d ∣ slice_index xs c)
      (each_place (λ c. d ∣ slice_index xs c) (λ t i lt li. subst (λ m. d ∣ m) (a.entries t i lt li) (divides (image_at coords by t i))))
      (λ c l. subst (λ m. d ∣ m) (sym (entry_past xs (columns coords n) c a.from_width l)) (dvd-zero d)))

  -- columns clash if their images do
  pub kind_back : (e : ℕ) → ((t i : ℕ) → t < n → i < columns_each coords → nat_le e (place_under coords (slice_index_or by.perms t []) i) ≡ nat_le e i)
      → (t i : ℕ) → t < n → i < columns_each coords → e ≤ image_at coords by t i % columns_each coords → e ≤ placed coords t i % columns_each coords
  kind_back e same t i lt li h =
      let p = placed_by coords n by is t i lt li in
      let here : e ≤ place_under coords (slice_index_or by.perms t []) i = subst (λ m. e ≤ m) (index_of_index coords (slice_index by.images t) (place_under coords (slice_index_or by.perms t []) i) p.below) h in
      subst (λ m. e ≤ m) (sym (index_of_index coords t i li)) (leb-true e i (sym (same t i lt li) ∙ le-leb e (place_under coords (slice_index_or by.perms t []) i) here))

  image_tet : (t i : ℕ) → t < n → i < columns_each coords → image_at coords by t i / columns_each coords ≡ slice_index by.images t
  image_tet t i lt li = tet_of_index coords (slice_index by.images t) (place_under coords (slice_index_or by.perms t []) i) (placed_by coords n by is t i lt li).below

  clash_back : (t i u j : ℕ) → t < n → i < columns_each coords → u < n → j < columns_each coords → AreClashing coords (image_at coords by t i) (image_at coords by u j) → AreClashing coords (placed coords t i) (placed coords u j)
  clash_back t i u j lt li lu lj (inl o) = inl (
    kind_back (before_octagons coords) (λ t i lt li. (placed_by coords n by is t i lt li).octagon) t i lt li o.0,
    kind_back (before_octagons coords) (λ t i lt li. (placed_by coords n by is t i lt li).octagon) u j lu lj o.1,
  )
  clash_back t i u j lt li lu lj (inr q) = inr (
    tet_of_index coords t i li ∙ images_apart n by is t u lt lu (sym (image_tet t i lt li) ∙ q.0 ∙ image_tet u j lu lj) ∙ sym (tet_of_index coords u j lj),
    kind_back (triangles_each coords) (λ t i lt li. (placed_by coords n by is t i lt li).quad) t i lt li q.1,
    kind_back (triangles_each coords) (λ t i lt li. (placed_by coords n by is t i lt li).quad) u j lu lj q.2,
  )

  swapped : (a b : ℕ) → AreClashing coords a b → AreClashing coords b a
  swapped a b (inl o) = inl (o.1, o.0)
  swapped a b (inr q) = inr (sym q.0, q.2, q.1)

  pub admissible_carried : (xs ys : List ℕ) → IsCarried coords n by xs ys → IsAdmissible (clash_list coords n) xs → IsAdmissible (clash_list coords n) ys
  admissible_carried xs ys a h = none_clash-admissible coords n ys (λ c d less ld e. at_images c d less ld e (from_column coords n by is c (omega arith)) (from_column coords n by is d ld))
    where
      -- of two different columns that clash one is 0
      one_zero : (c d : ℕ) → c ≢ d → c < columns coords n → d < columns coords n → AreClashing coords c d → (slice_index xs c ≡ 0) ⊎ (slice_index xs d ≡ 0)
      one_zero c d ne lc ld k = elim (cases_order c d) [
        | inl e ↦ absurd (ne e)
        | inr (inl less) ↦ none_clash coords n xs h c d less ld (clash_from coords c d k)
        | inr (inr more) ↦ elim (none_clash coords n xs h d c more lc (clash_from coords d c (swapped c d k))) [ inl z ↦ inr z | inr z ↦ inl z ]
      ]

      at_images : (c d : ℕ) → c < d → d < columns coords n → clash_test coords c d ≡ true
          → (t : ℕ) × (i : ℕ) × (t < n) × (i < columns_each coords) × (image_at coords by t i ≡ c) → (u : ℕ) × (j : ℕ) × (u < n) × (j < columns_each coords) × (image_at coords by u j ≡ d)
          → (slice_index ys c ≡ 0) ⊎ (slice_index ys d ≡ 0)
      at_images c d less ld e f g =
          let k : AreClashing coords (image_at coords by f.0 f.1) (image_at coords by g.0 g.1) = subst₂ (AreClashing coords) (sym f.4) (sym g.4) (clash_is coords c d e) in
          let ne : placed coords f.0 f.1 ≢ placed coords g.0 g.1 = λ s. (let same : c ≡ d = sym f.4 ∙ image_same f.0 f.1 g.0 g.1 f.3 g.3 s ∙ g.4 in omega arith) in
          elim (one_zero (placed coords f.0 f.1) (placed coords g.0 g.1) ne (column_of_index coords n f.0 f.1 f.2 f.3) (column_of_index coords n g.0 g.1 g.2 g.3) (clash_back f.0 f.1 g.0 g.1 f.2 f.3 g.2 g.3 k)) [
            | inl z ↦ inl (ap (slice_index ys) (sym f.4) ∙ a.entries f.0 f.1 f.2 f.3 ∙ z)
            | inr z ↦ inr (ap (slice_index ys) (sym g.4) ∙ a.entries g.0 g.1 g.2 g.3 ∙ z)
          ]
        where
          image_same : (t i u j : ℕ) → i < columns_each coords → j < columns_each coords → placed coords t i ≡ placed coords u j → image_at coords by t i ≡ image_at coords by u j
          image_same t i u j li lj s =
              let tets : t ≡ u = sym (tet_of_index coords t i li) ∙ ap (λ c. c / columns_each coords) s ∙ tet_of_index coords u j lj in
              let places : i ≡ j = sym (index_of_index coords t i li) ∙ ap (λ c. c % columns_each coords) s ∙ index_of_index coords u j lj in
              λ k. image_at coords by (tets k) (places k)

-- each vector that is carried to a vector has solutions of the one equations carried to solutions of the others
abbrev pub CarriesSolutions : Coords → ℕ → Relabelling → List EquationRow → List EquationRow → Type 0
CarriesSolutions coords n by equations others =
    (xs ys : List ℕ) → IsCarried coords n by xs ys → IsSolution (columns coords n) equations xs → IsSolution (columns coords n) others ys

module _ (coords : Coords) (n : ℕ) (by : Relabelling) (is : IsRelabelling n by) (equations others : List EquationRow)
    (forth : CarriesSolutions coords n by equations others) (back : CarriesSolutions coords n (inverted n by) others equations) where
  pub extreme_carried : (xs ys : List ℕ) → IsCarried coords n by xs ys → IsExtreme (columns coords n) equations xs → IsExtreme (columns coords n) others ys
  extreme_carried xs ys a h = record {
    solution = forth xs ys a h.solution;
    nonzero = nonzero_carried coords n by is xs ys a h.nonzero;
    least = λ zs s some inside.
        let us : List ℕ = relabelled_vector coords (inverted n by) zs in
        let b : IsCarried coords n (inverted n by) zs us = relabelled_is coords n (inverted n by) (inverted_relabelling n by is) zs s.width in
        let c : IsCarried coords n by us zs = carried_again coords n by is us zs b in
        inside_carried coords n by is xs ys us zs a c
        (h.least us (back zs us b s) (nonzero_back coords n by is us zs c some) (inside_back coords n by is us zs xs ys c a inside));
  }

  pub vertex_carried : (xs ys : List ℕ) → IsCarried coords n by xs ys → IsVertexSurface (columns coords n) equations (clash_list coords n) xs → IsVertexSurface (columns coords n) others (clash_list coords n) ys
  vertex_carried xs ys a h = record {
    extreme = extreme_carried xs ys a h.extreme;
    admissible = admissible_carried coords n by is xs ys a h.admissible;
    primitive = primitive_carried coords n by is xs ys a h.primitive;
  }
