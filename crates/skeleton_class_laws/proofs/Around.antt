-- Each edge class has a tour around it.
use Rattle.std.proofs.Common.{◌≡◌, ℕ, suc, ◌*◌, ◌<◌, Bool, true, false, List, [], ◌∷◌, length, map, slice_index, subst, sym, refl, arith}
use Rattle.std.specs.List.{AllZip}
use Rattle.table_walk_laws.proofs.OrbitLemmas.{orbit_exists}
use Rattle.table_definitions.specs.Classes.{least}
use Rattle.table_definitions.specs.Places.{is_boundary_edge}
use Rattle.skeleton_definitions.specs.Corners.{Corner}
use Rattle.skeleton_definitions.specs.Skeleton.{Skeleton, IsSkeleton, IsAround}
use Rattle.skeleton_class_laws.specs.Rounds.{corner_at, next_corner, start_of, IsTourUnlessBoundary}
use Rattle.skeleton_class_laws.proofs.RoundLemmas.{next_injective}
use Rattle.skeleton_class_laws.proofs.WalkLemmas.{start_below, around_class}
use Rattle.skeleton_class_laws.proofs.FirstPlaces.{first_place}

-- if each item of a list has a related item, there is a list of these
pub zip_exists : {B : Type 0} (R : ℕ → B → Type 0) (xs : List ℕ) → ((i : ℕ) → i < length xs → (y : B) × R (slice_index xs i) y) → (ys : List B) × AllZip R xs ys
zip_exists R [] h = ([], tt)
zip_exists R (x ∷ xs) h = let first = h 0 (omega arith) in let rest = zip_exists R xs (λ i l. h (suc i) (omega arith)) in (first.0 ∷ rest.0, (first.1, rest.1))

module _ (s : Skeleton) (h : IsSkeleton s) where
  round : (c : ℕ) (b : Bool) → c < s.edges.count → least s.edges.classes c < 6 * length s.rows → (corners : List Corner) × IsTourUnlessBoundary (next_corner s.rows) b (least s.edges.classes c) corners
  round c true l inside = ([], refl)
  round c false l inside =
      let o = orbit_exists (next_corner s.rows) (start_of (least s.edges.classes c)) (24 * length s.rows) (next_injective s.rows h.table) (start_below (least s.edges.classes c) (length s.rows) inside) in
      (map corner_at o.places, (o.places, o.orbit, refl))

  pub some_around : (c : ℕ) → c < s.edges.count → (corners : List Corner) × IsAround s c corners
  some_around c l =
      let f = edge_least c l in
      let r = round c (is_boundary_edge s.rows s.edges.classes c) l f.0 in
      (r.0, around_class s c (least s.edges.classes c) (is_boundary_edge s.rows s.edges.classes c) r.0 h refl f.0 f.1 refl r.1)
    where
      edge_least : (d : ℕ) → d < s.edges.count → (least s.edges.classes d < 6 * length s.rows) × (slice_index s.edges.classes (least s.edges.classes d) ≡ d)
      edge_least d m = let some = h.edges.none_empty d m in let p = first_place s.edges.classes some.0 d (subst (λ k. some.0 < k) (sym h.edges.one_each) some.1) some.2 in
          (subst (λ k. least s.edges.classes d < k) h.edges.one_each p.in_range, p.is)
