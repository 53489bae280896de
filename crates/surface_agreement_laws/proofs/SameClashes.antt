-- Columns of triangles and quads clash in octagon coordinates as they do in standard ones.
use Rattle.std.proofs.Common.{◌≡◌, ℕ, ◌*◌, ◌/◌, ◌%◌, ◌<◌, ◌≤◌, true, List, ◌⊎◌, inl, inr, ◌∙◌, arith}
use Rattle.std.specs.Prelude.{◌==◌, ◌&&◌}
use Rattle.std.proofs.lemmas.Bool.{cases_lt, eqb-true, leb-true, and_parts, or_cases}
use Rattle.cone_definitions.specs.Surfaces.{IsAdmissible}
use Rattle.surface_definitions.specs.Coordinates.{clash_list, clash_test, is_quad_or_octagon, is_octagon}
use Rattle.surface_definitions.specs.declared.Coords.TheVariants.{Standard, Octagon}
use Rattle.surface_agreement_laws.proofs.InOctagons.{AreSame, octagon_column, standard_column, at_standard, at_octagon, at_none}
use Rattle.surface_laws.proofs.Clashes.{NoneClash, one_tetrahedron, none_clash, none_clash-admissible}

-- two quads of one tetrahedron
standard_clash : (a b : ℕ) → clash_test Standard a b ≡ true → (a / 7 ≡ b / 7) × (4 ≤ a % 7) × (4 ≤ b % 7)
standard_clash a b e = by_kind (or_cases (is_octagon Standard a && is_octagon Standard b) (((a / 7 == b / 7) && is_quad_or_octagon Standard a) && is_quad_or_octagon Standard b) e)
  where
    by_kind : ((is_octagon Standard a && is_octagon Standard b) ≡ true) ⊎ ((((a / 7 == b / 7) && is_quad_or_octagon Standard a) && is_quad_or_octagon Standard b) ≡ true) → (a / 7 ≡ b / 7) × (4 ≤ a % 7) × (4 ≤ b % 7)
    by_kind (inl o) = absurd (let seven : 7 ≤ a % 7 = leb-true 7 (a % 7) (and_parts (is_octagon Standard a) (is_octagon Standard b) o).0 in omega arith)
    by_kind (inr q) =
        let p = and_parts ((a / 7 == b / 7) && is_quad_or_octagon Standard a) (is_quad_or_octagon Standard b) q in
        let r = and_parts (a / 7 == b / 7) (is_quad_or_octagon Standard a) p.0 in
        (eqb-true (a / 7) (b / 7) r.0, leb-true 4 (a % 7) r.1, leb-true 4 (b % 7) p.1)

-- columns of triangles and quads that clash in octagon coordinates are quads of one tetrahedron
octagon_clash : (a b : ℕ) → a % 10 < 7 → b % 10 < 7 → clash_test Octagon a b ≡ true → (a / 10 ≡ b / 10) × (4 ≤ a % 10) × (4 ≤ b % 10)
octagon_clash a b la lb e = by_kind (or_cases (is_octagon Octagon a && is_octagon Octagon b) (((a / 10 == b / 10) && is_quad_or_octagon Octagon a) && is_quad_or_octagon Octagon b) e)
  where
    by_kind : ((is_octagon Octagon a && is_octagon Octagon b) ≡ true) ⊎ ((((a / 10 == b / 10) && is_quad_or_octagon Octagon a) && is_quad_or_octagon Octagon b) ≡ true) → (a / 10 ≡ b / 10) × (4 ≤ a % 10) × (4 ≤ b % 10)
    by_kind (inl o) = absurd (let seven : 7 ≤ a % 10 = leb-true 7 (a % 10) (and_parts (is_octagon Octagon a) (is_octagon Octagon b) o).0 in omega arith)
    by_kind (inr q) =
        let p = and_parts ((a / 10 == b / 10) && is_quad_or_octagon Octagon a) (is_quad_or_octagon Octagon b) q in
        let r = and_parts (a / 10 == b / 10) (is_quad_or_octagon Octagon a) p.0 in
        (eqb-true (a / 10) (b / 10) r.0, leb-true 4 (a % 10) r.1, leb-true 4 (b % 10) p.1)

module _ (n : ℕ) (ys xs : List ℕ) (same : AreSame n ys xs) where
  standard_none : NoneClash Octagon n xs → NoneClash Standard n ys
  standard_none h a b less lb e =
      let t = standard_clash a b e in
      let tets : a / 7 ≡ b / 7 = t.0 in
      let fa : 4 ≤ a % 7 = t.1 in
      let fb : 4 ≤ b % 7 = t.2 in
      let less' : octagon_column a < octagon_column b = omega arith in
      let lb' : octagon_column b < 10 * n = omega arith in
      let tets' : octagon_column a / 10 ≡ octagon_column b / 10 = omega arith in
      let fa' : 4 ≤ octagon_column a % 10 = omega arith in
      let fb' : 4 ≤ octagon_column b % 10 = omega arith in
      elim (h (octagon_column a) (octagon_column b) less' lb' (one_tetrahedron Octagon (octagon_column a) (octagon_column b) tets' fa' fb')) [
        | inl z ↦ inl (at_standard n ys xs same a (omega arith) ∙ z)
        | inr z ↦ inr (at_standard n ys xs same b lb ∙ z)
      ]

  octagon_none : NoneClash Standard n ys → NoneClash Octagon n xs
  octagon_none h a b less lb e = elim (cases_lt (a % 10) 7) [
    | inr high ↦ inl (at_none n ys xs same a (omega arith) high)
    | inl low_a ↦ elim (cases_lt (b % 10) 7) [
      | inr high ↦ inr (at_none n ys xs same b lb high)
      | inl low_b ↦
          let t = octagon_clash a b low_a low_b e in
          let tets : a / 10 ≡ b / 10 = t.0 in
          let fa : 4 ≤ a % 10 = t.1 in
          let fb : 4 ≤ b % 10 = t.2 in
          let less' : standard_column a < standard_column b = omega arith in
          let lb' : standard_column b < 7 * n = omega arith in
          let tets' : standard_column a / 7 ≡ standard_column b / 7 = omega arith in
          let fa' : 4 ≤ standard_column a % 7 = omega arith in
          let fb' : 4 ≤ standard_column b % 7 = omega arith in
          elim (h (standard_column a) (standard_column b) less' lb' (one_tetrahedron Standard (standard_column a) (standard_column b) tets' fa' fb')) [
            | inl z ↦ inl (at_octagon n ys xs same a (omega arith) low_a ∙ z)
            | inr z ↦ inr (at_octagon n ys xs same b lb low_b ∙ z)
          ]
    ]
  ]

  pub standard_admissible : IsAdmissible (clash_list Octagon n) xs → IsAdmissible (clash_list Standard n) ys
  standard_admissible h = none_clash-admissible Standard n ys (standard_none (none_clash Octagon n xs h))

  pub octagon_admissible : IsAdmissible (clash_list Standard n) ys → IsAdmissible (clash_list Octagon n) xs
  octagon_admissible h = none_clash-admissible Octagon n xs (octagon_none (none_clash Standard n ys h))
