-- No sum of a component of a vector exceeds the limit if none of the vector does, and a sole component is the whole.
use Rattle.std.proofs.Common.{◌≡◌, ℕ, zero, suc, ◌+◌, ◌<◌, ◌≤◌, Bool, true, false, List, [], ◌∷◌, length, Some, None, Option, refl, sym, ap, ◌∙◌, arith}
use Rattle.std.specs.Prelude.{sum, nat_lt, if◌then◌else◌, slice_index}
use Rattle.std.specs.List.{AllZip, slice_index_or}
use Rattle.std.proofs.lemmas.Bool.{ltb-false}
use Rattle.std.proofs.lemmas.Slice.Zip.{AllZip-long}
use Rattle.std.proofs.lemmas.List.FromFn.{length-range_with_len, get_or-range_with_len}
use Rattle.text_definitions.specs.Written.{limit}
use Rattle.table_definitions.specs.Lists.{below}
use Rattle.skeleton_definitions.specs.Skeleton.{Skeleton}
use Rattle.surface_definitions.specs.Coordinates.{columns}
use Rattle.surface_definitions.specs.declared.Coords.{Coords}
use Rattle.surface_definitions.specs.Pieces.{component_vector}
use Rattle.surface_definitions.specs.Characteristic.{points, arcs}
use Rattle.skeleton_definitions.specs.Links.{euler_of as euler}
use Rattle.surface_vector_definitions.specs.Components.{Component, IsComponent, AreListedComponents}
use Rattle.surface_vector_definitions.specs.Properties.{AreProperties, characteristic, first_large, large_sum}
use Rattle.surface_vector_definitions.specs.declared.Properties.{Properties}
use Rattle.surface_vector_definitions.specs.declared.SurfaceSum.{SurfaceSum}
use Rattle.surface_vector_definitions.specs.declared.SurfaceSum.TheVariants.{Points, Arcs, PointsAndPieces}
use Rattle.surface_laws.specs.CharacteristicLaws.{ComponentSumsAre}
use Rattle.surface_laws.proofs.ComponentSums.{component_sums}
use Rattle.surface_laws.proofs.ComponentCounts.{component_width, one_is_whole}
use Rattle.surface_laws.proofs.Counting.{term_most}
use Rattle.surface_properties.proofs.LargeSums.{none_large}
use Rattle.surface_pieces.specs.ComponentLists.{no_component}
use Rattle.vector_commands.specs.SmallComponents.{AreSmall}

-- no sum exceeds the limit
record AreWithin (p a q : ℕ) : Type 0 where
  points : p ≤ limit
  arcs : a ≤ limit
  both : p + q ≤ limit

some_none : (t : SurfaceSum) → (let o : Option SurfaceSum = Some t in o ≡ None) → ⊥
some_none t e = absurd cc

within : (p a q : ℕ) → large_sum limit p a q ≡ None → AreWithin p a q
within p a q e = go (nat_lt limit p) (nat_lt limit a) (nat_lt limit (p + q)) refl refl refl e
  where
    go : (x y z : Bool) → nat_lt limit p ≡ x → nat_lt limit a ≡ y → nat_lt limit (p + q) ≡ z → (if x then Some Points else (if y then Some Arcs else (if z then Some PointsAndPieces else None))) ≡ None → AreWithin p a q
    go true y z ex ey ez e = absurd (some_none Points e)
    go false true z ex ey ez e = absurd (some_none Arcs e)
    go false false true ex ey ez e = absurd (some_none PointsAndPieces e)
    go false false false ex ey ez e = record { points = ltb-false limit p ex; arcs = ltb-false limit a ey; both = ltb-false limit (p + q) ez }

zip_at : {A B : Type 0} (R : A → B → Type 0) (xs : List A) (ys : List B) (i : ℕ) (d : A) (e : B) → AllZip R xs ys → i < length ys → (i < length xs) × R (slice_index_or xs i d) (slice_index_or ys i e)
zip_at R [] [] i d e h l = absurd (omega arith)
zip_at R [] (y ∷ ys) i d e h l = absurd h
zip_at R (x ∷ xs) [] i d e h l = absurd h
zip_at R (x ∷ xs) (y ∷ ys) zero d e h l = (omega arith, h.0)
zip_at R (x ∷ xs) (y ∷ ys) (suc i) d e h l = let r = zip_at R xs ys i d e h.1 (omega arith) in ((let m : i < length xs = r.0 in omega arith), r.1)

pub small_components : (s : Skeleton) (coords : Coords) (xs : List ℕ) (listed : List Component) → length xs ≡ columns coords (length s.rows) → first_large limit s coords xs ≡ None → AreListedComponents s.rows coords xs listed → AreSmall s coords xs listed
small_components s coords xs listed width none h = record {
  width = λ i l. ap (λ (ys : List ℕ). length ys) (is i l) ∙ component_width xs h.classes h.numbered.one_each i ∙ width;
  small = λ i l.
      let low : i < h.count = in_count i l in
      let p = term_most (λ j. points coords (component_vector xs h.classes j) s.edges.classes s.edges.count) h.count i low in
      let a = term_most (λ j. arcs s.rows coords (component_vector xs h.classes j)) h.count i low in
      let q = term_most (λ j. sum (component_vector xs h.classes j)) h.count i low in
      let wp = whole.points in
      let wa = whole.arcs in
      let wb = whole.both in
      let sp = sums.points in
      let sa = sums.arcs in
      let sq = sums.pieces in
      ap (first_large limit s coords) (is i l)
      ∙ none_large limit (points coords (component_vector xs h.classes i) s.edges.classes s.edges.count) (arcs s.rows coords (component_vector xs h.classes i)) (sum (component_vector xs h.classes i)) (omega arith) (omega arith) (omega arith);
  only = λ e.
      let first : (slice_index_or listed 0 no_component).vector ≡ component_vector xs h.classes 0 = is 0 (omega (arith, e)) in
      let long : length listed ≡ length (below h.count) = AllZip-long (IsComponent s.rows coords xs h.classes) (below h.count) listed h.each in
      let one : h.count ≡ 1 = omega (arith, e, long, length-range_with_len 0 h.count) in
      first ∙ one_is_whole s.rows coords xs h.classes h.count h.numbered one;
}
  where
    whole : AreWithin (points coords xs s.edges.classes s.edges.count) (arcs s.rows coords xs) (sum xs)
    whole = within (points coords xs s.edges.classes s.edges.count) (arcs s.rows coords xs) (sum xs) none

    sums : ComponentSumsAre s coords xs h.classes h.count
    sums = component_sums s coords xs h.classes h.count h.numbered

    at : (i : ℕ) → i < length listed → (i < length (below h.count)) × IsComponent s.rows coords xs h.classes (slice_index (below h.count) i) (slice_index_or listed i no_component)
    at i l = zip_at (IsComponent s.rows coords xs h.classes) (below h.count) listed i 0 no_component h.each l

    in_count : (i : ℕ) → i < length listed → i < h.count
    in_count i l = let m : i < length (below h.count) = (at i l).0 in omega (arith, length-range_with_len 0 h.count)

    is : (i : ℕ) → i < length listed → (slice_index_or listed i no_component).vector ≡ component_vector xs h.classes i
    is i l = (at i l).1.vector ∙ ap (component_vector xs h.classes) (get_or-range_with_len 0 h.count i 0 (in_count i l) ∙ omega arith)

-- a sole component has the Euler characteristic of the surface
pub only_euler : (s : Skeleton) (coords : Coords) (xs : List ℕ) (p : Properties) (listed : List Component) (i : ℕ) → AreProperties s coords xs p → AreSmall s coords xs listed → length listed ≡ 1 → i < length listed
    → p.euler ≡ characteristic s coords (slice_index_or listed i no_component).vector
only_euler s coords xs p listed i h small one l =
    let first : 0 ≡ i = omega (arith, one, l) in
    h.euler ∙ (λ j. euler (h.points j) (h.arcs j) (h.pieces j)) ∙ ap (characteristic s coords) (sym (small.only one))
    ∙ ap (λ k. characteristic s coords (slice_index_or listed k no_component).vector) first
