-- In a tetrahedron a surface has, after the triangles, quads of one type, or octagons of one type, or nothing.
use Rattle.std.proofs.Common.{◌≡◌, ◌≢◌, ℕ, suc, ◌+◌, ◌-◌, ◌*◌, ◌/◌, ◌%◌, ◌<◌, ◌≤◌, Bool, true, false, not, cond, List, [], ◌∷◌, map, filter, ◌⊎◌, inl, inr, refl, sym, ap, ◌∙◌, subst, arith}
use Rattle.std.specs.Prelude.{◌==◌, nat_lt, slice_index}
use Rattle.std.specs.List.{position_or_len, slice_index_or}
use Rattle.std.proofs.lemmas.Bool.{lt-ltb, le-ltb, ne_eqb, eqb-false, not-true, cases_eq}
use Rattle.cone_definitions.specs.Surfaces.{IsAdmissible}
use Rattle.table_definitions.proofs.TableLaws.{Among, Among-map}
use Rattle.table_definitions.proofs.Listed.{Among-filter, filter-among, map-among, all_from}
use Rattle.surface_definitions.specs.Coordinates.{quad_column, oct_column, keeping, three, octagon_types, octagon_arcs, clash_list}
use Rattle.surface_definitions.specs.declared.Coords.{Coords}
use Rattle.surface_definitions.specs.declared.Coords.TheVariants.{Standard, Quad, Octagon}
use Rattle.surface_definitions.specs.Pieces.{type_in}
use Rattle.surface_laws.specs.MatchingLaws.{HasTriangles}
use Rattle.surface_laws.specs.PieceLaws.{first_nonzero}
use Rattle.surface_laws.proofs.ColumnKinds.{among_three, three_among, first_is}
use Rattle.surface_laws.proofs.Clashes.{other_zero}

-- the octagons with an arc of type k
abbrev pub octagons_with : Coords → ℕ → ℕ → List ℕ
octagons_with coords t k = map (oct_column coords t) (filter (λ j. not (j == k)) (octagon_types coords))

pub octagons_are : (coords : Coords) (t f v : ℕ) → octagon_arcs coords t f v ≡ octagons_with coords t (keeping v f)
octagons_are coords t f v = refl

-- the column of the arcs of type k that are after those of the triangles
abbrev pub behind_type : (coords : Coords) (xs : List ℕ) (t k : ℕ) → ℕ
behind_type coords xs t k = first_nonzero xs (octagons_with coords t k) (quad_column coords t k)

module _ (xs : List ℕ) where
  -- the first of these columns that is not 0
  pub first_test : (o : ℕ) (os : List ℕ) (q : ℕ) → (b : Bool) → nat_lt 0 (slice_index xs o) ≡ b → first_nonzero xs (o ∷ os) q ≡ cond b o (first_nonzero xs os q)
  first_test o os q true e = ap (λ b. slice_index_or (o ∷ os) (cond (not b) (1 + position_or_len (λ c. nat_lt 0 (slice_index xs c)) os) 0) q) e
  first_test o os q false e =
      let next : 1 + position_or_len (λ c. nat_lt 0 (slice_index xs c)) os ≡ suc (position_or_len (λ c. nat_lt 0 (slice_index xs c)) os) = omega arith in
      ap (λ b. slice_index_or (o ∷ os) (cond (not b) (1 + position_or_len (λ c. nat_lt 0 (slice_index xs c)) os) 0) q) e ∙ ap (λ k. slice_index_or (o ∷ os) k q) next

  first_none : (os : List ℕ) (q : ℕ) → ((c : ℕ) → Among c os → slice_index xs c ≡ 0) → first_nonzero xs os q ≡ q
  first_none [] q h = refl
  first_none (o ∷ os) q h = let z = h o (inl refl) in first_test o os q false (le-ltb 0 (slice_index xs o) (omega arith)) ∙ first_none os q (λ c a. h c (inr a))

  first_one : (os : List ℕ) (q o : ℕ) → Among o os → 0 < slice_index xs o → ((c : ℕ) → Among c os → c ≢ o → slice_index xs c ≡ 0) → first_nonzero xs os q ≡ o
  first_one [] q o a l h = absurd a
  first_one (p ∷ os) q o a l h = elim (cases_eq p o) [
    | inl e ↦ first_test p os q true (ap (λ c. nat_lt 0 (slice_index xs c)) e ∙ lt-ltb 0 (slice_index xs o) l) ∙ e
    | inr ne ↦ (let z = h p (inl refl) ne in
        first_test p os q false (le-ltb 0 (slice_index xs p) (omega arith)) ∙ first_one os q o (elim a [ inl e ↦ absurd (ne (sym e)) | inr b ↦ b ]) l (λ c b. h c (inr b)))
  ]

  pub first_among : (os : List ℕ) (q : ℕ) → (first_nonzero xs os q ≡ q) ⊎ Among (first_nonzero xs os q) os
  first_among os q = first_is (λ c. (c ≡ q) ⊎ Among c os) xs os q (inl refl) (all_from (λ c. (c ≡ q) ⊎ Among c os) os (λ c a. inr a))

module _ (n : ℕ) (xs : List ℕ) (t : ℕ) (lt : t < n) where
  -- quads alone: those of type k, and no others
  pub record AreQuads (coords : Coords) (k : ℕ) : Type 0 where
    pub type_is : type_in coords (behind_type coords xs t k) ≡ k
    pub no_other : (j : ℕ) → j < 3 → j ≢ k → slice_index xs (behind_type coords xs t j) ≡ 0

  -- octagons of type o alone, which have arcs of the two other types
  pub record AreOctagons (coords : Coords) (k : ℕ) : Type 0 where
    pub o : ℕ
    pub below_three : o < 3
    pub separate : o ≢ k
    pub type_is : type_in coords (behind_type coords xs t k) ≡ o
    pub none : slice_index xs (behind_type coords xs t o) ≡ 0
    pub same : (j : ℕ) → j < 3 → j ≢ o → behind_type coords xs t j ≡ behind_type coords xs t k

  in_standard : IsAdmissible (clash_list Standard n) xs → (k : ℕ) → k < 3 → 0 < slice_index xs (behind_type Standard xs t k) → AreQuads Standard k
  in_standard a k l some = record {
    type_is = type_if ((4 + k) < 7) (omega arith);
    no_other = λ j lj ne. other_zero Standard n xs a (quad_column Standard t k) (quad_column Standard t j) (λ e. ne (omega arith)) (omega arith) (omega arith) (omega arith) (omega arith) (omega arith) some;
  }
    where
      type_if : (P : Type 0) → P → type_in Standard (quad_column Standard t k) ≡ k
      type_if P p =
          let r : quad_column Standard t k % 7 ≡ 4 + k = omega arith in
          ap (λ b. cond b (quad_column Standard t k % 7 - 4) (quad_column Standard t k % 7 - 7)) (lt-ltb (quad_column Standard t k % 7) 7 (omega arith)) ∙ omega arith

  module _ (a : IsAdmissible (clash_list Octagon n) xs) where
    clears : (c d : ℕ) → c ≢ d → c < 10 * n → d < 10 * n → c / 10 ≡ t → d / 10 ≡ t → 4 ≤ c % 10 → 4 ≤ d % 10 → 0 < slice_index xs c → slice_index xs d ≡ 0
    clears c d ne lc ld tc td hc hd some = other_zero Octagon n xs a c d ne lc ld (tc ∙ sym td) hc hd some

    oct_of : (k c : ℕ) → Among c (octagons_with Octagon t k) → (o : ℕ) × (o < 3) × (o ≢ k) × (c ≡ oct_column Octagon t o)
    oct_of k c m =
        let p = map-among (oct_column Octagon t) c (filter (λ j. not (j == k)) three) m in
        let q = filter-among (λ j. not (j == k)) p.0 three p.1 in
        (p.0, among_three p.0 q.0, eqb-false p.0 k (not-true (p.0 == k) q.1), p.2)

    among_oct : (k o : ℕ) → o < 3 → o ≢ k → Among (oct_column Octagon t o) (octagons_with Octagon t k)
    among_oct k o l ne = Among-map (oct_column Octagon t) o (filter (λ j. not (j == k)) three) (Among-filter (λ j. not (j == k)) o three (three_among o l) (ap not (ne_eqb o k ne)))

    with_quads : (k : ℕ) → k < 3 → behind_type Octagon xs t k ≡ quad_column Octagon t k → 0 < slice_index xs (behind_type Octagon xs t k) → AreQuads Octagon k
    with_quads k l e some =
        let there : 0 < slice_index xs (quad_column Octagon t k) = subst (λ c. 0 < slice_index xs c) e some in record {
          type_is = ap (type_in Octagon) e ∙ (let r : quad_column Octagon t k % 10 ≡ 4 + k = omega arith in
              ap (λ b. cond b (quad_column Octagon t k % 10 - 4) (quad_column Octagon t k % 10 - 7)) (lt-ltb (quad_column Octagon t k % 10) 7 (omega arith)) ∙ omega arith);
          no_other = λ j lj ne.
              ap (slice_index xs) (first_none xs (octagons_with Octagon t j) (quad_column Octagon t j) (λ c m.
              let o = oct_of j c m in let lo = o.1 in let eo = o.3 in
              clears (quad_column Octagon t k) c (λ e. omega arith) (omega arith) (omega arith) (omega arith) (omega arith) (omega arith) (omega arith) there))
              ∙ clears (quad_column Octagon t k) (quad_column Octagon t j) (λ e. ne (omega arith)) (omega arith) (omega arith) (omega arith) (omega arith) (omega arith) (omega arith) there;
        }

    with_octagons : (k o : ℕ) → k < 3 → o < 3 → o ≢ k → behind_type Octagon xs t k ≡ oct_column Octagon t o → 0 < slice_index xs (behind_type Octagon xs t k) → AreOctagons Octagon k
    with_octagons k o l lo ne e some =
        let there : 0 < slice_index xs (oct_column Octagon t o) = subst (λ c. 0 < slice_index xs c) e some in record {
          o = o;
          below_three = lo;
          separate = ne;
          type_is = ap (type_in Octagon) e ∙ (let r : oct_column Octagon t o % 10 ≡ 7 + o = omega arith in
              ap (λ b. cond b (oct_column Octagon t o % 10 - 4) (oct_column Octagon t o % 10 - 7)) (le-ltb (oct_column Octagon t o % 10) 7 (omega arith)) ∙ omega arith);
          none = ap (slice_index xs) (first_none xs (octagons_with Octagon t o) (quad_column Octagon t o) (λ c m.
              let p = oct_of o c m in let lp = p.1 in let np = p.2 in let ep = p.3 in
              clears (oct_column Octagon t o) c (λ q. np (omega arith)) (omega arith) (omega arith) (omega arith) (omega arith) (omega arith) (omega arith) there))
              ∙ clears (oct_column Octagon t o) (quad_column Octagon t o) (λ q. omega arith) (omega arith) (omega arith) (omega arith) (omega arith) (omega arith) (omega arith) there;
          same = λ j lj nj. first_one xs (octagons_with Octagon t j) (quad_column Octagon t j) (oct_column Octagon t o) (among_oct j o lo (λ q. nj (sym q))) there
              (λ c m off. let p = oct_of j c m in let lp = p.1 in let ep = p.3 in
              clears (oct_column Octagon t o) c (λ q. off (sym q)) (omega arith) (omega arith) (omega arith) (omega arith) (omega arith) (omega arith) there) ∙ sym e;
        }

    in_octagon : (k : ℕ) → k < 3 → 0 < slice_index xs (behind_type Octagon xs t k) → AreQuads Octagon k ⊎ AreOctagons Octagon k
    in_octagon k l some = elim (first_among xs (octagons_with Octagon t k) (quad_column Octagon t k)) [
      | inl e ↦ inl (with_quads k l e some)
      | inr m ↦ (let o = oct_of k (behind_type Octagon xs t k) m in inr (with_octagons k o.0 l o.1 o.2 o.3 some))
    ]

  pub shape : (coords : Coords) → HasTriangles coords → IsAdmissible (clash_list coords n) xs → (k : ℕ) → k < 3 → 0 < slice_index xs (behind_type coords xs t k) → AreQuads coords k ⊎ AreOctagons coords k
  shape Standard h a k l some = inl (in_standard a k l some)
  shape Quad h a k l some = absurd h
  shape Octagon h a k l some = in_octagon a k l some
