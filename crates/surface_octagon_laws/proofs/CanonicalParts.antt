-- The canonical part of an octagon solution is that over the lift of its quads, with two quads in place of each
-- octagon.
use Rattle.std.proofs.Common.{◌≡◌, ℕ, ◌+◌, ◌*◌, ◌/◌, ◌%◌, ◌-◌, ◌<◌, ◌≤◌, List, length, sym, ap, ◌∙◌, subst, arith, ext_get_or}
use Rattle.std.specs.Prelude.{slice_index}
use Rattle.skeleton_definitions.specs.Skeleton.{Skeleton, IsSkeleton}
use Rattle.surface_definitions.specs.Coordinates.{tri_column}
use Rattle.surface_definitions.specs.declared.Coords.TheVariants.{Standard, Octagon}
use Rattle.surface_definitions.specs.Lift.{projected}
use Rattle.surface_laws.specs.LiftLaws.{IsLiftOf}
use Rattle.surface_laws.proofs.LiftLemmas.{lift_solves, lift_projects}
use Rattle.surface_laws.proofs.Quads.{entry_quad}
use Rattle.surface_quad_laws.specs.LinkLaws.{links_sum, IsCanonical}
use Rattle.surface_quad_laws.specs.SolutionLaws.{with_links, IsLiftWithLinks, HasOneLiftWithLinks}
use Rattle.surface_quad_laws.proofs.Canonical.{canonical_lift}
use Rattle.surface_quad_laws.proofs.LiftsAndLinks.{one_lift_with_links}
use Rattle.surface_quad_laws.proofs.LinkSums.{triangles-sum, rest-sum, by_column}
use Rattle.surface_octagon_laws.specs.QuadOctagons.{quads_and_octagons, quads_for_octagons, HasQuadsForOctagons}
use Rattle.surface_octagon_laws.specs.Laws.{IsOctagonSolution, IsCanonicalWithLinks, HasOneCanonicalPart}
use Rattle.surface_octagon_laws.proofs.Entries.{entry-at, length-entries, length-quads, same_quads, standard_of, standard_is, joined, length-joined, triangle-joined, joined-entries, joined_is, same_vector}
use Rattle.surface_octagon_laws.proofs.AsQuads.{match_as_quads, standard_solves}

module _ (s : Skeleton) (k : IsSkeleton s) where
  abbrev n : ℕ
  n = length s.rows

  -- a canonical solution becomes a lift if each octagon is replaced by two quads
  pub canonical_as_quads : (ys zs : List ℕ) → HasQuadsForOctagons n ys zs → IsOctagonSolution s ys → IsCanonical s Octagon ys → IsLiftOf s (projected n zs) zs
  canonical_as_quads ys zs h solution canonical =
      canonical_lift s k zs ((match_as_quads s k ys zs solution.width h).0 solution) (λ c lc. let m = canonical c lc in
      let li : m.0 < 4 * n = m.1 in
      let lt : m.0 / 4 < n = omega arith in
      let lv : m.0 % 4 < 4 = omega arith in
      (m.0, li, m.2, h.triangles (m.0 / 4) (m.0 % 4) lt lv ∙ m.3))

  -- the octagon vector of given quads and octagons over a lift
  module _ (xs lift : List ℕ) (wide : length xs ≡ 6 * n) (is_lift : IsLiftOf s (quads_for_octagons n xs) lift) where
    pub over : HasQuadsForOctagons n (joined n lift xs) lift
    over = joined_is n lift xs is_lift.width wide
        (lift_projects s.rows k.table s.vertices.classes s.vertices.count k.vertices (quads_for_octagons n xs) lift (length-quads n xs) is_lift)

    pub over_solves : IsOctagonSolution s (joined n lift xs)
    over_solves = (match_as_quads s k (joined n lift xs) lift (length-joined n lift xs) over).1
        (lift_solves s.rows k.table s.vertices.classes s.vertices.count k.vertices (quads_for_octagons n xs) lift is_lift)

    pub over_canonical : IsCanonical s Octagon (joined n lift xs)
    over_canonical c lc =
        let m = (is_lift.each c lc).least in
        let inside : m.0 < length s.vertices.classes = m.1 in
        let li : m.0 < 4 * n = omega (arith, (k.vertices).one_each) in
        let lt : m.0 / 4 < n = omega arith in
        let lv : m.0 % 4 < 4 = omega arith in
        (m.0, li, m.2, triangle-joined n lift xs (m.0 / 4) (m.0 % 4) lt lv ∙ m.3)

  -- vertex links, in both coordinates
  same_links : (times : ℕ → ℕ) (t v : ℕ) → t < n → v < 4 → links_sum s Octagon times (tri_column Octagon t v) ≡ links_sum s Standard times (tri_column Standard t v)
  same_links times t v lt lv = triangles-sum s k Octagon tt times t v lt lv ∙ sym (triangles-sum s k Standard tt times t v lt lv)

  no_more : (a b l : ℕ) → a ≡ b → l ≡ 0 → a ≡ b + l
  no_more a b l e z = omega arith

  no_less : (a b l : ℕ) → a ≡ b + l → l ≡ 0 → b ≡ a
  no_less a b l e z = omega arith

  -- an entry after those of the triangles, by the quads and octagons
  rest-at : (ys : List ℕ) (i : ℕ) → i < 10 * n → 4 ≤ i % 10 → slice_index ys i ≡ slice_index (quads_and_octagons n ys) (6 * (i / 10) + (i % 10 - 4))
  rest-at ys i l high =
      let lt : i / 10 < n = omega arith in
      let lj : i % 10 - 4 < 6 = omega arith in
      let at : i ≡ 10 * (i / 10) + 4 + (i % 10 - 4) = omega arith in
      ap (slice_index ys) at ∙ sym (entry-at n ys (i / 10) (i % 10 - 4) lt lj)

  module _ (ys : List ℕ) (solution : IsOctagonSolution s ys) where
    abbrev xs : List ℕ
    xs = quads_and_octagons n ys

    abbrev zs : List ℕ
    zs = standard_of n ys

    form : HasQuadsForOctagons n ys (standard_of n ys)
    form = standard_is n ys

    quads_are : projected n zs ≡ quads_for_octagons n xs
    quads_are = same_quads n ys zs form

    whole : HasOneLiftWithLinks s zs
    whole = one_lift_with_links s k zs (standard_solves s k ys solution)

    lifted : IsLiftOf s (quads_for_octagons n xs) whole.lift
    lifted = subst (λ qs. IsLiftOf s qs whole.lift) quads_are (whole.are).is_lift

    abbrev part : List ℕ
    part = joined n whole.lift xs

    part-entries : quads_and_octagons n part ≡ xs
    part-entries = joined-entries n whole.lift xs (length-entries n ys)

    part_adds : (column : ℕ) → column < 10 * n → slice_index ys column ≡ slice_index part column + links_sum s Octagon whole.times column
    part_adds = by_column Octagon tt n (λ i. slice_index ys i ≡ slice_index part i + links_sum s Octagon whole.times i)
        (λ t v lt lv.
        let l : tri_column Standard t v < 7 * n = omega arith in
        sym (form.triangles t v lt lv) ∙ (whole.are).adds (tri_column Standard t v) l
        ∙ (λ i. sym (triangle-joined n whole.lift xs t v lt lv) i + sym (same_links whole.times t v lt lv) i))
        (λ i l high. no_more (slice_index ys i) (slice_index part i) (links_sum s Octagon whole.times i)
        (rest-at ys i l high ∙ ap (λ us. slice_index us (6 * (i / 10) + (i % 10 - 4))) (sym part-entries) ∙ sym (rest-at part i l high))
        (rest-sum s k Octagon tt whole.times i l high))

    part_is : IsCanonicalWithLinks s ys part whole.times
    part_is = record {
      solves = over_solves xs whole.lift (length-entries n ys) lifted;
      is_canonical = over_canonical xs whole.lift (length-entries n ys) lifted;
      adds = part_adds;
    }

    module _ (other : List ℕ) (many : ℕ → ℕ) (h : IsCanonicalWithLinks s ys other many) where
      abbrev ws : List ℕ
      ws = standard_of n other

      other_form : HasQuadsForOctagons n other (standard_of n other)
      other_form = standard_is n other

      -- links have no quads and no octagons
      other-entries : quads_and_octagons n other ≡ xs
      other-entries = ext_get_or 0 (quads_and_octagons n other) xs (length-entries n other ∙ sym (length-entries n ys))
          (λ i l. at i (let e : length (quads_and_octagons n other) ≡ 6 * n = length-entries n other in omega arith))
        where
          at : (i : ℕ) → i < 6 * n → slice_index (quads_and_octagons n other) i ≡ slice_index xs i
          at i l =
              let t : ℕ = i / 6 in
              let j : ℕ = i % 6 in
              let lt : i / 6 < n = omega arith in
              let lj : i % 6 < 6 = omega arith in
              let e : 6 * (i / 6) + i % 6 ≡ i = omega arith in
              let column : ℕ = 10 * (i / 6) + 4 + i % 6 in
              let lc : 10 * (i / 6) + 4 + i % 6 < 10 * n = omega arith in
              let high : 4 ≤ (10 * (i / 6) + 4 + i % 6) % 10 = omega arith in
              ap (slice_index (quads_and_octagons n other)) (sym e) ∙ entry-at n other t j lt lj
              ∙ no_less (slice_index ys column) (slice_index other column) (links_sum s Octagon many column) (h.adds column lc) (rest-sum s k Octagon tt many column lc high)
              ∙ sym (entry-at n ys t j lt lj) ∙ ap (slice_index xs) e

      other_quads : projected n ws ≡ projected n zs
      other_quads = same_quads n other ws other_form ∙ ap (quads_for_octagons n) other-entries ∙ sym quads_are

      other_lift : IsLiftWithLinks s zs ws many
      other_lift = record {
        is_lift = subst (λ qs. IsLiftOf s qs ws) other_quads (canonical_as_quads other ws other_form h.solves h.is_canonical);
        adds = by_column Standard tt n (λ i. slice_index zs i ≡ with_links s many ws i)
            (λ t v lt lv.
            let l : tri_column Octagon t v < 10 * n = omega arith in
            form.triangles t v lt lv ∙ h.adds (tri_column Octagon t v) l ∙ (λ i. sym (other_form.triangles t v lt lv) i + same_links many t v lt lv i))
            (λ i l high. no_more (slice_index zs i) (slice_index ws i) (links_sum s Standard many i)
            (entry_quad n zs i l high ∙ ap (λ us. slice_index us (3 * (i / 7) + (i % 7 - 4))) (sym other_quads) ∙ sym (entry_quad n ws i l high))
            (rest-sum s k Standard tt many i l high));
      }

      same_part : other ≡ part
      same_part = same_vector n other part (h.solves).width (length-joined n whole.lift xs)
          (λ t v lt lv. sym (other_form.triangles t v lt lv) ∙ ap (λ us. slice_index us (tri_column Standard t v)) (whole.one_lift ws many other_lift) ∙ sym (triangle-joined n whole.lift xs t v lt lv))
          (other-entries ∙ sym part-entries)

    pub has_one_lift : (lift : List ℕ) × IsLiftOf s (quads_for_octagons n (quads_and_octagons n ys)) lift
    has_one_lift = (whole.lift, lifted)

    pub one_canonical_part : HasOneCanonicalPart s ys
    one_canonical_part = record {
      canonical = part;
      times = whole.times;
      are = part_is;
      one_part = λ other many h. same_part other many h;
      one_number = λ other many h c lc. whole.one_number (standard_of n other) many (other_lift other many h) c lc;
    }
