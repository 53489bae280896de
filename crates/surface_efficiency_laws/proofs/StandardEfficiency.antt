-- No listed octagon surface without octagons but links has positive Euler characteristic if and only if the table is
-- 0-efficient: these are the standard ones.
use Rattle.std.proofs.Common.{◌≡◌, ℕ, ◌+◌, ◌*◌, ◌%◌, ◌<◌, ◌↔◌, pos, ◌<ℤ◌, inl, inr, List, [], ◌∷◌, length, filter, slice_index, sum_by, sym, ap, ◌∙◌, subst, arith, ext_get_or}
use Rattle.std.proofs.lemmas.Bool.{cases_lt, leb-true, le-leb}
use Rattle.std.proofs.lemmas.List.Elements.{All-contains}
use Rattle.std.proofs.lemmas.List.Sums.{sum_by-cons}
use Rattle.table_definitions.specs.Lists.{below}
use Rattle.table_definitions.proofs.TableLaws.{Among, Among-below}
use Rattle.table_definitions.proofs.Listed.{Among-filter, filter-among, below-among}
use Rattle.skeleton_definitions.specs.Skeleton.{Skeleton, IsSkeleton}
use Rattle.surface_definitions.specs.Coordinates.{columns, is_octagon}
use Rattle.surface_definitions.specs.declared.Coords.TheVariants.{Standard, Octagon}
use Rattle.surface_laws.proofs.Counting.{sum_by-none}
use Rattle.surface_quad_laws.specs.LinkLaws.{link_of, IsVertexLink}
use Rattle.surface_quad_laws.proofs.VertexLinks.{length-link, triangle-link, others-link}
use Rattle.surface_agreement_laws.specs.VertexSurfaces.{IsVertexSurfaceOf, IsSurfaceListOf, in_octagons}
use Rattle.surface_agreement_laws.proofs.InOctagons.{AreSame, in_octagons_is, in_standard, in_standard_is, one_octagon, at_standard, at_none}
use Rattle.surface_agreement_laws.proofs.SameCharacteristic.{same_characteristic}
use Rattle.surface_agreement_laws.proofs.SameSurfaces.{octagon_vertex, standard_vertex}
use Rattle.surface_efficiency_laws.specs.Laws.{IsPositive, IsZeroEfficient}
use Rattle.surface_efficiency_laws.specs.Octagons.{octagons, PositiveWithoutOctagonsAreLinks}
use Rattle.surface_efficiency_laws.proofs.Connected.{vertex_surface_connected}
use Rattle.surface_efficiency_laws.proofs.Efficiency.{list_decides, some_list}

-- if a sum is 0, each term is
term_zero : (f : ℕ → ℕ) (cs : List ℕ) (c : ℕ) → Among c cs → sum_by f cs ≡ 0 → f c ≡ 0
term_zero f [] c a z = absurd a
term_zero f (d ∷ cs) c (inl e) z = let first : f d ≡ 0 = omega (arith, sum_by-cons f d cs) in ap f e ∙ first
term_zero f (d ∷ cs) c (inr a) z = term_zero f cs c a (omega (arith, sum_by-cons f d cs))

module _ (s : Skeleton) (k : IsSkeleton s) where
  abbrev n : ℕ
  n = length s.rows

  -- a vector without octagons is a standard one
  without_octagons : (xs : List ℕ) → length xs ≡ 10 * n → octagons s xs ≡ 0 → AreSame n (in_standard n xs) xs
  without_octagons xs w z = in_standard_is n xs w (λ i l high. term_zero (slice_index xs) (filter (is_octagon Octagon) (below (columns Octagon n))) i
      (Among-filter (is_octagon Octagon) i (below (columns Octagon n)) (Among-below i (10 * n) l) (le-leb 7 (i % 10) high)) z)

  has_no_octagons : (ys xs : List ℕ) → AreSame n ys xs → octagons s xs ≡ 0
  has_no_octagons ys xs same = sum_by-none (slice_index xs) (filter (is_octagon Octagon) (below (columns Octagon n))) (λ i a.
      let m = filter-among (is_octagon Octagon) i (below (columns Octagon n)) a in
      at_none n ys xs same i (below-among i (10 * n) m.0) (leb-true 7 (i % 10) m.1))

  -- a vertex link has the same triangles and quads in standard and octagon coordinates
  same_links : (c : ℕ) → AreSame n (link_of s Standard c) (link_of s Octagon c)
  same_links c = record {
    standard = length-link n s.vertices.classes c Standard;
    octagon = length-link n s.vertices.classes c Octagon;
    entries = entries;
    no_octagons = λ t j lt lj. others-link n s.vertices.classes c Octagon (10 * t + 7 + j) tt (omega arith) (omega arith);
  }
    where
      entries : (t j : ℕ) → t < n → j < 7 → slice_index (link_of s Octagon c) (10 * t + j) ≡ slice_index (link_of s Standard c) (7 * t + j)
      entries t j lt lj = elim (cases_lt j 4) [
        | inl low ↦ triangle-link n s.vertices.classes c Octagon t j tt lt low ∙ sym (triangle-link n s.vertices.classes c Standard t j tt lt low)
        | inr high ↦ others-link n s.vertices.classes c Octagon (10 * t + j) tt (omega arith) (omega arith) ∙ sym (others-link n s.vertices.classes c Standard (7 * t + j) tt (omega arith) (omega arith))
      ]

  -- the standard vector is unique
  one_standard : (ys zs xs : List ℕ) → AreSame n ys xs → AreSame n zs xs → ys ≡ zs
  one_standard ys zs xs same other = ext_get_or 0 ys zs (same.standard ∙ sym other.standard) (λ i l. let li : i < 7 * n = omega (arith, same.standard) in
      at_standard n ys xs same i li ∙ sym (at_standard n zs xs other i li))

  link_octagon : (ys xs : List ℕ) → AreSame n ys xs → IsVertexLink s Standard ys → IsVertexLink s Octagon xs
  link_octagon ys xs same link = (link.0, link.1, one_octagon n ys xs (link_of s Octagon link.0) same (subst (λ zs. AreSame n zs (link_of s Octagon link.0)) (sym link.2) (same_links link.0)))

  link_standard : (ys xs : List ℕ) → AreSame n ys xs → IsVertexLink s Octagon xs → IsVertexLink s Standard ys
  link_standard ys xs same link = (link.0, link.1, one_standard ys (link_of s Standard link.0) xs same (subst (AreSame n (link_of s Standard link.0)) (sym link.2) (same_links link.0)))

  positive_standard : (ys xs : List ℕ) → AreSame n ys xs → IsPositive s Octagon xs → IsPositive s Standard ys
  positive_standard ys xs same h = subst (λ z. pos 0 <ℤ z) (same_characteristic s ys xs k same) h

  positive_octagon : (ys xs : List ℕ) → AreSame n ys xs → IsPositive s Standard ys → IsPositive s Octagon xs
  positive_octagon ys xs same h = subst (λ z. pos 0 <ℤ z) (sym (same_characteristic s ys xs k same)) h

  module _ (surfaces : List (List ℕ)) (list : IsSurfaceListOf s Octagon surfaces) where
    efficient_none : IsZeroEfficient s → PositiveWithoutOctagonsAreLinks s surfaces
    efficient_none h v c z positive =
        let vertex : IsVertexSurfaceOf s Octagon v = All-contains (IsVertexSurfaceOf s Octagon) surfaces v list.vertex_surfaces c in
        let same : AreSame n (in_standard n v) v = without_octagons v ((vertex.extreme).solution).width z in
        let connected = vertex_surface_connected s Standard (in_standard n v) k.table tt (standard_vertex s k (in_standard n v) v same vertex) in
        link_octagon (in_standard n v) v same (h (in_standard n v) connected (positive_standard (in_standard n v) v same positive))

    none_efficient : PositiveWithoutOctagonsAreLinks s surfaces → IsZeroEfficient s
    none_efficient none =
        let standard = some_list s Standard in
        (list_decides s k Standard tt standard.0 standard.1).1 (λ ys c positive.
        let vertex : IsVertexSurfaceOf s Standard ys = All-contains (IsVertexSurfaceOf s Standard) standard.0 ys (standard.1).vertex_surfaces c in
        let same : AreSame n ys (in_octagons n ys) = in_octagons_is n ys ((vertex.extreme).solution).width in
        link_standard ys (in_octagons n ys) same
        (none (in_octagons n ys) (list.complete (in_octagons n ys) (octagon_vertex s k ys (in_octagons n ys) same vertex)) (has_no_octagons ys (in_octagons n ys) same) (positive_octagon ys (in_octagons n ys) same positive)))

    pub none_where_efficient : PositiveWithoutOctagonsAreLinks s surfaces ↔ IsZeroEfficient s
    none_where_efficient = (none_efficient, efficient_none)
