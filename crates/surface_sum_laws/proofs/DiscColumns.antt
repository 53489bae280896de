-- The columns of the quads and octagons of a tetrahedron, by type; at an admissible vector those of two types are 0.
use Rattle.std.proofs.Common.{◌≡◌, ◌≢◌, ℕ, ◌+◌, ◌*◌, ◌/◌, ◌%◌, ◌<◌, ◌≤◌, Bool, true, false, not, List, [], ◌∷◌, ◌++◌, map, filter, ◌⊎◌, inl, inr, slice_index, refl, sym, ap, ◌∙◌, subst, arith}
use Rattle.std.specs.Prelude.{◌==◌, if◌then◌else◌}
use Rattle.std.proofs.Math.Nat.{add_assoc}
use Rattle.std.proofs.lemmas.Bool.{cases_eq, eq-eqb, false≢true}
use Rattle.std.proofs.lemmas.List.Elements.{All-from_recursion, recursion_from_All}
use Rattle.cone_definitions.specs.Surfaces.{IsAdmissible}
use Rattle.cone_ray_laws.specs.Faces.{IsZeroOn}
use Rattle.table_definitions.proofs.TableLaws.{Among, Among-left, Among-right, Among-map}
use Rattle.table_definitions.proofs.Listed.{Among-filter, filter-among, map-among, appended-among, all_from, all_at}
use Rattle.surface_definitions.specs.Coordinates.{has_octagons, triangles_each, before_octagons, octagons_each, columns_each, columns, clash_list, quad_column, oct_column, octagon_types, three}
use Rattle.surface_definitions.specs.declared.Coords.{Coords}
use Rattle.surface_definitions.proofs.ColumnCounts.{few_octagons, tet_of_index, index_of_index, column_of_index}
use Rattle.surface_laws.proofs.Clashes.{other_zero}
use Rattle.surface_laws.proofs.ColumnKinds.{among_three, three_among, octagon_type}
use Rattle.surface_sum_laws.specs.Parts.{disc_columns}

-- ---- vectors that are 0 on a list

pub on_among : (zeros x : List ℕ) → ((c : ℕ) → Among c zeros → slice_index x c ≡ 0) → IsZeroOn zeros x
on_among zeros x h = All-from_recursion (λ c. slice_index x c ≡ 0) zeros (all_from (λ c. slice_index x c ≡ 0) zeros h)

pub zero_among : (zeros x : List ℕ) → IsZeroOn zeros x → (c : ℕ) → Among c zeros → slice_index x c ≡ 0
zero_among zeros x h c a = all_at (λ c. slice_index x c ≡ 0) zeros c (recursion_from_All (λ c. slice_index x c ≡ 0) zeros h) a

some_or_none : (zeros x : List ℕ) → ((c : ℕ) × Among c zeros × (slice_index x c ≢ 0)) ⊎ ((c : ℕ) → Among c zeros → slice_index x c ≡ 0)
some_or_none [] x = inr (λ c a. absurd a)
some_or_none (d ∷ zeros) x = elim (cases_eq (slice_index x d) 0) [
  | inr some ↦ inl (d, inl refl, some)
  | inl none ↦ elim (some_or_none zeros x) [
    | inl more ↦ inl (more.0, inr more.1, more.2)
    | inr all ↦ inr (λ c a. elim a [ inl e ↦ ap (slice_index x) e ∙ none | inr later ↦ all c later ])
  ]
]

-- ---- the column of a quad or octagon of type k

-- the index of the disc among the columns of its tetrahedron
abbrev IsIndex : Coords → ℕ → ℕ → Type 0
IsIndex coords k i = ((k < 3) × (i ≡ triangles_each coords + k)) ⊎ ((k < octagons_each coords) × (i ≡ before_octagons coords + k))

index_below : (coords : Coords) (k i : ℕ) → IsIndex coords k i → i < columns_each coords
index_below coords k i (inl (l, e)) = omega arith
index_below coords k i (inr (l, e)) = omega arith

index_high : (coords : Coords) (k i : ℕ) → IsIndex coords k i → triangles_each coords ≤ i
index_high coords k i (inl (l, e)) = omega arith
index_high coords k i (inr (l, e)) = omega arith

type_below : (coords : Coords) (k i : ℕ) → IsIndex coords k i → k < 3
type_below coords k i (inl (l, e)) = l
type_below coords k i (inr (l, e)) = omega (arith, few_octagons coords)

-- discs of two types have two indices
indices_differ : (coords : Coords) (j k i l : ℕ) → IsIndex coords j i → IsIndex coords k l → j ≢ k → i ≢ l
indices_differ coords j k i l (inl (a, d)) (inl (b, e)) ne same = ne (omega arith)
indices_differ coords j k i l (inl (a, d)) (inr (b, e)) ne same = omega arith
indices_differ coords j k i l (inr (a, d)) (inl (b, e)) ne same = omega arith
indices_differ coords j k i l (inr (a, d)) (inr (b, e)) ne same = ne (omega arith)

-- a column of type k
pub record IsDisc (coords : Coords) (t k c : ℕ) : Type 0 where
  pub index : ℕ
  pub place : IsIndex coords k index
  pub column : c ≡ columns_each coords * t + index

octagon_types_among : (coords : Coords) (k : ℕ) → k < octagons_each coords → Among k (octagon_types coords)
octagon_types_among coords k l = go (has_octagons coords) l
  where
    go : (b : Bool) → k < (if b then 3 else 0) → Among k (if b then three else [])
    go true l = three_among k l
    go false l = absurd (omega arith)

module _ (coords : Coords) (t : ℕ) (test : ℕ → Bool) where
  abbrev quads : List ℕ
  quads = map (quad_column coords t) (filter test three)

  abbrev octagons : List ℕ
  octagons = map (oct_column coords t) (filter test (octagon_types coords))

  pub disc_among : (k c : ℕ) → test k ≡ true → IsDisc coords t k c → Among c (disc_columns coords t test)
  disc_among k c passes d = go d.index d.place d.column
    where
      go : (i : ℕ) → IsIndex coords k i → c ≡ columns_each coords * t + i → Among c (quads ++ octagons)
      go i (inl (l, f)) e = subst (λ b. Among b (quads ++ octagons)) (add_assoc (columns_each coords * t) (triangles_each coords) k ∙ sym (e ∙ ap (λ m. columns_each coords * t + m) f))
          (Among-left (quad_column coords t k) quads octagons (Among-map (quad_column coords t) k (filter test three) (Among-filter test k three (three_among k l) passes)))
      go i (inr (l, f)) e = subst (λ b. Among b (quads ++ octagons)) (add_assoc (columns_each coords * t) (before_octagons coords) k ∙ sym (e ∙ ap (λ m. columns_each coords * t + m) f))
          (Among-right (oct_column coords t k) quads octagons (Among-map (oct_column coords t) k (filter test (octagon_types coords)) (Among-filter test k (octagon_types coords) (octagon_types_among coords k l) passes)))

  pub among_disc : (c : ℕ) → Among c (disc_columns coords t test) → (k : ℕ) × (test k ≡ true) × IsDisc coords t k c
  among_disc c a = elim (appended-among c quads octagons a) [
    | inl q ↦ (let m = map-among (quad_column coords t) c (filter test three) q in let f = filter-among test m.0 three m.1 in
        (m.0, f.1, record { index = triangles_each coords + m.0; place = inl (among_three m.0 f.0, refl); column = m.2 ∙ add_assoc (columns_each coords * t) (triangles_each coords) m.0 }))
    | inr o ↦ (let m = map-among (oct_column coords t) c (filter test (octagon_types coords)) o in let f = filter-among test m.0 (octagon_types coords) m.1 in
        (m.0, f.1, record { index = before_octagons coords + m.0; place = inr (octagon_type coords m.0 f.0, refl); column = m.2 ∙ add_assoc (columns_each coords * t) (before_octagons coords) m.0 }))
  ]

-- ---- at an admissible vector

module _ (coords : Coords) (n : ℕ) (x : List ℕ) (t : ℕ) (admissible : IsAdmissible (clash_list coords n) x) (in_range : t < n) where
  -- if a disc of type k is not 0, those of the other types are
  others_zero : (j k b c : ℕ) → IsDisc coords t j b → IsDisc coords t k c → j ≢ k → slice_index x b ≢ 0 → slice_index x c ≡ 0
  others_zero j k b c one other ne some = other_zero coords n x admissible b c apart (inside j b one) (inside k c other) (tet j b one ∙ sym (tet k c other)) (high j b one) (high k c other) (omega (arith, some))
    where
      below : (k c : ℕ) → (d : IsDisc coords t k c) → d.index < columns_each coords
      below k c d = index_below coords k d.index d.place

      inside : (k c : ℕ) → IsDisc coords t k c → c < columns coords n
      inside k c d = subst (λ a. a < columns coords n) (sym d.column) (column_of_index coords n t d.index in_range (below k c d))

      tet : (k c : ℕ) → IsDisc coords t k c → c / columns_each coords ≡ t
      tet k c d = ap (λ a. a / columns_each coords) d.column ∙ tet_of_index coords t d.index (below k c d)

      index : (k c : ℕ) → (d : IsDisc coords t k c) → c % columns_each coords ≡ d.index
      index k c d = ap (λ a. a % columns_each coords) d.column ∙ index_of_index coords t d.index (below k c d)

      high : (k c : ℕ) → IsDisc coords t k c → triangles_each coords ≤ c % columns_each coords
      high k c d = subst (λ a. triangles_each coords ≤ a) (sym (index k c d)) (index_high coords k d.index d.place)

      apart : b ≢ c
      apart e = indices_differ coords j k one.index other.index one.place other.place ne (sym (index j b one) ∙ ap (λ a. a % columns_each coords) e ∙ index k c other)

  -- the other types are 0 if a disc of type k is not
  abbrev IsChosen : ℕ → Type 0
  IsChosen k = (k < 3) × IsZeroOn (disc_columns coords t (λ j. not (j == k))) x

  of_type : (k c : ℕ) → IsDisc coords t k c → slice_index x c ≢ 0 → IsChosen k
  of_type k c d some = (
    type_below coords k d.index d.place,
    on_among (disc_columns coords t (λ j. not (j == k))) x (λ b a. let other = among_disc coords t (λ j. not (j == k)) b a in
        others_zero k other.0 c b d other.2 (λ e. absurd (same other.0 (sym e) other.1)) some),
  )
    where
      same : (j : ℕ) → j ≡ k → not (j == k) ≡ true → ⊥
      same j e passes = false≢true (ap not (sym (eq-eqb j k e)) ∙ passes)

  -- some type is the only one that may be not 0
  pub chosen_type : (k : ℕ) × IsChosen k
  chosen_type = elim (some_or_none (disc_columns coords t (λ _. true)) x) [
    | inl found ↦ (let d = among_disc coords t (λ _. true) found.0 found.1 in (d.0, of_type d.0 found.0 d.2 found.2))
    | inr none ↦ (
      0,
      (
        omega arith,
        on_among (disc_columns coords t (λ j. not (j == 0))) x (λ c a. let d = among_disc coords t (λ j. not (j == 0)) c a in
            none c (disc_among coords t (λ _. true) d.0 c refl d.2)),
      ),
    )
  ]
