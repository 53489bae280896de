-- The components of a surface, from rows of neighbours, vectors and signs.
use Rattle.std.proofs.Common.{◌≡◌, ℕ, ◌<◌, ◌≤◌, inl, inr, refl, Bool, List, [], ◌∷◌, length, map, Contains, Option, sym, ap, ◌∙◌, subst, arith}
use Rattle.std.specs.List.{slice_index_or, AllZip}
use Rattle.std.proofs.lemmas.Bool.{cases_lt}
use Rattle.std.proofs.lemmas.List.{get_or_past, get_or-map, length-map}
use Rattle.std.proofs.lemmas.List.FromFn.{length-range_with_len, get_or-range_with_len}
use Rattle.table_walk_laws.specs.Joined.{IsJoined, neighbours_of}
use Rattle.table_definitions.specs.Classes.{IsNumbering}
use Rattle.table_definitions.specs.Lists.{below}
use Rattle.table_definitions.specs.Table.{Row}
use Rattle.table_definitions.proofs.TableLaws.{Among}
use Rattle.surface_definitions.specs.declared.Coords.{Coords}
use Rattle.surface_definitions.specs.Pieces.{disc_of, discs_of, disc_number, AreComponents}
use Rattle.surface_vector_definitions.specs.Components.{Component, IsComponent, AreListedComponents}
use Rattle.surface_laws.specs.PieceLaws.{IsSurface, AreMeetingPieces, JoinComponents}
use Rattle.surface_laws.proofs.ComponentSurfaces.{piece_there}
use Rattle.table_definitions.proofs.Listed.{below-among}
use Rattle.surface_laws.proofs.MeetingPieces.{join_components}
use Rattle.surface_laws.proofs.PieceNumbers.{no_piece, IsFound, piece_found, number-piece}
use Rattle.surface_pieces.specs.declared.joined.SearchKind.TheVariants.{Pieces}
use Rattle.surface_pieces.specs.declared.joined.SignKind.TheVariants.{Sides, Orientation}
use Rattle.surface_pieces.specs.Searches.{IsArcTo, AreRows, HasClasses, AreSigned}
use Rattle.surface_pieces.specs.Vectors.{AreVectors}
use Rattle.surface_pieces.specs.ComponentLists.{component_at, all_components, no_component}

module _ (rows : List Row) (coords : Coords) (xs : List ℕ) (s : IsSurface rows coords xs) (table : List (List (Option ℕ))) (are : AreRows Pieces rows coords xs table) where
  abbrev n : ℕ
  n = length (discs_of xs)

  abbrev no_neighbours : List ℕ
  no_neighbours = []

  nothing : (l : ℕ) → Contains no_neighbours l → ⊥
  nothing l (k, lk, e) = absurd (omega arith)

  none_past : (k l : ℕ) → n ≤ k → Contains (neighbours_of table k) l → ⊥
  none_past k l exceeded c =
      let empty : slice_index_or table k [] ≡ [] = get_or_past table k [] (let z = are.size in omega arith) in
      nothing l (subst (λ (r : List (Option ℕ)). Contains (neighbours_of (r ∷ []) 0) l) empty c)

  -- the rows list the pieces that meet
  meeting : AreMeetingPieces rows coords xs (neighbours_of table)
  meeting i j = (
    (λ c. elim (cases_lt i n) [
      | inr exceeded ↦ absurd (none_past i j exceeded c)
      | inl low ↦ (let d : IsArcTo Pieces rows coords xs (slice_index_or (discs_of xs) i no_piece) i j = (are.each i low j).0 c in
          record { arc = d.arc; gluing = d.gluing; meets = d.meets; one = ap (disc_number xs) d.one ∙ number-piece xs i no_piece low; other = d.other })
    ]),
    (λ p. (let f : IsFound xs (disc_of coords xs p.arc) = piece_found xs (disc_of coords xs p.arc) (piece_there rows coords xs s p.arc p.gluing p.meets) in
        (are.each i (subst (λ k. k < n) p.one f.in_range) j).1 (record {
          arc = p.arc;
          gluing = p.gluing;
          meets = p.meets;
          one = sym f.there ∙ ap (λ k. slice_index_or (discs_of xs) k no_piece) p.one;
          other = p.other;
        }))),
  )

  -- so they join the pieces of each component
  pub joins : JoinComponents rows coords xs (neighbours_of table)
  joins = join_components rows coords xs (neighbours_of table) s meeting

  pub components_of : (classes : List ℕ) (count : ℕ) → IsNumbering (length table) (IsJoined (neighbours_of table)) classes count → AreComponents rows coords xs classes count
  components_of classes count h =
      let k : IsNumbering n (IsJoined (neighbours_of table)) classes count = subst (λ m. IsNumbering m (IsJoined (neighbours_of table)) classes count) are.size h in
      record {
        one_each = k.one_each;
        in_range = k.in_range;
        together = λ i j li lj. (
          (λ e. (joins.joined i j li lj).0 ((k.together i j li lj).0 e)),
          (λ e. (k.together i j li lj).1 ((joins.joined i j li lj).1 e)),
        );
        ascending = k.ascending;
        none_empty = k.none_empty;
      }

-- the classes of the pieces that are joined are the components
pub components_found : (rows : List Row) (coords : Coords) (xs classes : List ℕ) (count : ℕ) → IsSurface rows coords xs → HasClasses Pieces rows coords xs classes count → AreComponents rows coords xs classes count
components_found rows coords xs classes count s h = components_of rows coords xs s h.listed h.are classes count h.numbered

zip_map : {A B : Type 0} (R : A → B → Type 0) (f : A → B) (xs : List A) → ((x : A) → Among x xs → R x (f x)) → AllZip R xs (map f xs)
zip_map R f [] h = tt
zip_map R f (x ∷ xs) h = (h x (inl refl), zip_map R f xs (λ y m. h y (inr m)))

-- the classes, vectors and signs determine the list of components
pub reported : (rows : List Row) (coords : Coords) (xs classes : List ℕ) (count : ℕ) (vectors : List (List ℕ)) (two_sided orientable : List Bool) → AreComponents rows coords xs classes count
    → AreVectors xs classes count vectors → AreSigned Sides rows coords xs classes count two_sided → AreSigned Orientation rows coords xs classes count orientable
    → AreListedComponents rows coords xs (all_components vectors two_sided orientable)
reported rows coords xs classes count vectors two_sided orientable are v t o = record {
  classes = classes;
  count = count;
  numbered = are;
  each = subst (λ m. AllZip (IsComponent rows coords xs classes) (below m) (all_components vectors two_sided orientable)) v.size
      (zip_map (IsComponent rows coords xs classes) (component_at vectors two_sided orientable) (below (length vectors)) (λ i m. one i (let l : i < length vectors = below-among i (length vectors) m in omega (arith, v.size))));
}
  where
    one : (i : ℕ) → i < count → IsComponent rows coords xs classes i (component_at vectors two_sided orientable i)
    one i l = record { vector = v.each i l; two_sided = t.each i l; orientable = o.each i l }

module _ (vectors : List (List ℕ)) (two_sided orientable : List Bool) where
  pub length-all : length (all_components vectors two_sided orientable) ≡ length vectors
  length-all = length-map (below (length vectors)) (component_at vectors two_sided orientable) ∙ length-range_with_len 0 (length vectors)

  pub component_is : (i : ℕ) → i < length vectors → slice_index_or (all_components vectors two_sided orientable) i no_component ≡ component_at vectors two_sided orientable i
  component_is i l =
      get_or-map (component_at vectors two_sided orientable) (below (length vectors)) i 0 no_component (omega (arith, length-range_with_len 0 (length vectors)))
      ∙ ap (component_at vectors two_sided orientable) (get_or-range_with_len 0 (length vectors) i 0 l ∙ omega arith)

  module _ (now : List Component) (view_is : all_components vectors two_sided orientable ≡ now) where
    pub how_many : length now ≡ length vectors
    how_many = ap (λ (cs : List Component). length cs) (sym view_is) ∙ length-all

    pub told_at : (i : ℕ) → i < length now → slice_index_or now i no_component ≡ component_at vectors two_sided orientable i
    told_at i l = ap (λ (cs : List Component). slice_index_or cs i no_component) (sym view_is) ∙ component_is i (omega (arith, how_many))
