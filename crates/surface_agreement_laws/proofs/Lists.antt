-- The surface lists: lifts and links are listed, and standard lists are octagon lists without octagons.
use Rattle.std.proofs.Common.{◌≡◌, ℕ, ◌*◌, ◌%◌, ◌<◌, inl, inr, List, length, map, filter, slice_index, slice_index_or, AllPairs, Contains, sym, subst, subst₂, ◌∙◌, arith}
use Rattle.std.proofs.lemmas.Bool.{cases_lt}
use Rattle.std.proofs.lemmas.List.{length-map, get_or-map}
use Rattle.std.proofs.lemmas.List.Kept.{AllPairs-filter}
use Rattle.std.proofs.lemmas.List.Elements.{All-contains}
use Rattle.cone_definitions.specs.Vectors.{IsBefore}
use Rattle.cone_definitions.proofs.Ascending.{same_ascending}
use Rattle.cone_definitions.proofs.Entries.{nonzero_before}
use Rattle.table_definitions.proofs.TableLaws.{Among-map}
use Rattle.table_definitions.proofs.Listed.{contains_among, among_contains, Among-filter, filter-among, map-among}
use Rattle.skeleton_definitions.specs.Skeleton.{Skeleton, IsSkeleton}
use Rattle.surface_definitions.specs.declared.Coords.TheVariants.{Standard, Octagon}
use Rattle.surface_agreement_laws.specs.VertexSurfaces.{IsVertexSurfaceOf, IsSurfaceListOf, in_octagons, has_no_octagon}
use Rattle.surface_agreement_laws.proofs.InOctagons.{AreSame, in_octagons_is, octagon_column, standard_column, at_standard, at_octagon, at_none}
use Rattle.surface_agreement_laws.proofs.SameSurfaces.{vertices_without_octagons}

-- octagon vectors without octagons are in the order of their standard vectors
module _ (n : ℕ) (ys xs zs ws : List ℕ) (same : AreSame n ys xs) (other : AreSame n zs ws) where
  pub before_octagon : IsBefore ys zs → IsBefore xs ws
  before_octagon b = record { column = octagon_column b.column; same = earlier; less = less }
    where
      low : b.column < 7 * n
      low = nonzero_before zs (7 * n) b.column other.standard (λ z. let l : slice_index ys b.column < slice_index zs b.column = b.less in omega arith)

      less : slice_index xs (octagon_column b.column) < slice_index ws (octagon_column b.column)
      less = let l : slice_index ys b.column < slice_index zs b.column = b.less in
          let one : slice_index ys b.column ≡ slice_index xs (octagon_column b.column) = at_standard n ys xs same b.column low in
          let two : slice_index zs b.column ≡ slice_index ws (octagon_column b.column) = at_standard n zs ws other b.column low in omega arith

      earlier : (e : ℕ) → e < octagon_column b.column → slice_index xs e ≡ slice_index ws e
      earlier e l =
          let lb : b.column < 7 * n = low in
          let le : e < 10 * n = omega arith in
          elim (cases_lt (e % 10) 7) [
            | inl lj ↦ (let before : standard_column e < b.column = omega arith in
                at_octagon n ys xs same e le lj ∙ b.same (standard_column e) before ∙ sym (at_octagon n zs ws other e le lj))
            | inr high ↦ at_none n ys xs same e le high ∙ sym (at_none n zs ws other e le high)
          ]

module _ (s : Skeleton) (k : IsSkeleton s) where
  abbrev n : ℕ
  n = length s.rows

  module _ (standard octagon : List (List ℕ)) (one : IsSurfaceListOf s Standard standard) (other : IsSurfaceListOf s Octagon octagon) where
    standard_width : (i : ℕ) (d : List ℕ) → i < length standard → length (slice_index_or standard i d) ≡ 7 * n
    standard_width i d l = (((one.vertex_surfaces i d l).extreme).solution).width

    ascending : AllPairs IsBefore (map (in_octagons n) standard)
    ascending i j d less l =
        let lj : j < length standard = subst (λ m. j < m) (length-map standard (in_octagons n)) l in
        let li : i < length standard = omega arith in
        subst₂ IsBefore (sym (get_or-map (in_octagons n) standard i d d li)) (sym (get_or-map (in_octagons n) standard j d d lj))
        (before_octagon n (slice_index_or standard i d) (in_octagons n (slice_index_or standard i d)) (slice_index_or standard j d) (in_octagons n (slice_index_or standard j d))
        (in_octagons_is n (slice_index_or standard i d) (standard_width i d li)) (in_octagons_is n (slice_index_or standard j d) (standard_width j d lj)) (one.ascending i j d less lj))

    into : (xs : List ℕ) → Contains (map (in_octagons n) standard) xs → Contains (filter has_no_octagon octagon) xs
    into xs c =
        let m = map-among (in_octagons n) xs standard (among_contains xs (map (in_octagons n) standard) c) in
        let v : IsVertexSurfaceOf s Standard m.0 = All-contains (IsVertexSurfaceOf s Standard) standard m.0 one.vertex_surfaces (contains_among m.0 standard m.1) in
        let o = (vertices_without_octagons s k xs).1 (m.0, v, sym m.2) in
        contains_among xs (filter has_no_octagon octagon) (Among-filter has_no_octagon xs octagon (among_contains xs octagon (other.complete xs o.0)) o.1)

    back : (xs : List ℕ) → Contains (filter has_no_octagon octagon) xs → Contains (map (in_octagons n) standard) xs
    back xs c =
        let m = filter-among has_no_octagon xs octagon (among_contains xs (filter has_no_octagon octagon) c) in
        let v : IsVertexSurfaceOf s Octagon xs = All-contains (IsVertexSurfaceOf s Octagon) octagon xs other.vertex_surfaces (contains_among xs octagon m.0) in
        let y = (vertices_without_octagons s k xs).0 (v, m.1) in
        subst (Contains (map (in_octagons n) standard)) y.2
        (contains_among (in_octagons n y.0) (map (in_octagons n) standard) (Among-map (in_octagons n) y.0 standard (among_contains y.0 standard (one.complete y.0 y.1))))

    pub lists_agree : map (in_octagons n) standard ≡ filter has_no_octagon octagon
    lists_agree = same_ascending (map (in_octagons n) standard) (filter has_no_octagon octagon) ascending (AllPairs-filter IsBefore has_no_octagon octagon other.ascending) into back
