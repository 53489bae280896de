-- Solutions of the quad equations of a relabelled table come from solutions of those of the table.
use Rattle.std.proofs.Common.{◌≡◌, ◌≢◌, ℕ, ◌+◌, ◌*◌, ◌<◌, Bool, true, false, not, List, [], ◌∷◌, length, map, inl, inr, refl, sym, ap, ◌∙◌, subst, subst₂, arith}
use Rattle.std.specs.Prelude.{◌==◌, ◌||◌, sum_by, slice_index}
use Rattle.std.specs.List.{AllByRecursion, AllZip, list_all, slice_index_or}
use Rattle.std.proofs.lemmas.Bool.{not-true, or_cases, eqb-true}
use Rattle.std.proofs.lemmas.List.Elements.{All-from_recursion, recursion_from_All}
use Rattle.cone_definitions.specs.Rows.{Row as EquationRow, IsZeroAt, IsSolution}
use Rattle.table_definitions.specs.Classes.{least}
use Rattle.table_definitions.specs.Lists.{below}
use Rattle.table_definitions.specs.Permutation.{IsPermutationOfFour, four, words, image}
use Rattle.table_definitions.specs.Table.{Row, IsTable}
use Rattle.table_definitions.specs.Places.{Place, SameEdge, edge, is_boundary_edge}
use Rattle.table_definitions.specs.Relabelling.{Relabelling, IsRelabelling, Carries}
use Rattle.table_definitions.proofs.Carried.{perm_permutes}
use Rattle.table_definitions.proofs.ClassLaws.{least_class}
use Rattle.table_definitions.proofs.Listed.{contains_among, among_contains, all_mapped, all_from, all_at, filter-among, Among-filter, below-among, map-among}
use Rattle.table_definitions.proofs.Permutations.{contains_words}
use Rattle.table_definitions.proofs.TableLaws.{Among, Among-below, Among-four}
use Rattle.table_definitions.proofs.Tests.{list_all-among}
use Rattle.skeleton_definitions.specs.Corners.{Corner, first_corner, AreCorners, internal_edges}
use Rattle.skeleton_class_laws.specs.Crossings.{pair}
use Rattle.skeleton_class_laws.proofs.EdgeTies.{edge_pair, turned_twice}
use Rattle.surface_definitions.specs.Coordinates.{columns, quad_column, keeping}
use Rattle.surface_definitions.specs.declared.Coords.TheVariants.{Quad}
use Rattle.surface_definitions.specs.Equations.{row_of}
use Rattle.surface_definitions.specs.QuadEquations.{quad_equation, IsQuadRow, AreQuadEquations}
use Rattle.surface_definitions.proofs.EquationLaws.{row_is_zero, zero_row}
use Rattle.surface_laws.proofs.Counting.{sum_by_same, sum_by-map}
use Rattle.surface_laws.proofs.CornerSteps.{LeadsOn}
use Rattle.surface_laws.proofs.Turns.{keeping_below}
use Rattle.surface_equation_laws.proofs.CornerClasses.{first_is}
use Rattle.surface_equation_laws.proofs.QuadRows.{zip-among}
use Rattle.surface_quad_laws.proofs.InnerEdges.{IsRound, reached_round, leads_on}
use Rattle.surface_quad_laws.proofs.Rounds.{HasFourVertices, first_has_four}
use Rattle.surface_quad_lift_laws.proofs.DualTree.{quads}
use Rattle.surface_quad_lift_laws.proofs.Flags.{flip}
use Rattle.surface_quad_lift_laws.proofs.OneWay.{flip_corner}
use Rattle.surface_relabelling_laws.specs.Vectors.{place_under}
use Rattle.surface_relabelling_laws.proofs.Columns.{IsCarried}
use Rattle.surface_relabelling_laws.proofs.Corners.{corner_under, corners_under, four_under, leads_under}
use Rattle.surface_relabelling_laws.proofs.Cycles.{sums_agree}
use Rattle.surface_relabelling_laws.proofs.Edges.{Along, image_pair, image_edge, image_either, image_edge_below, along_either, either_back}
use Rattle.surface_relabelling_laws.proofs.BoundaryEdges.{stays_internal}

-- ---- the type that keeps two vertices on one side

keeps : List ℕ → ℕ → ℕ → Bool
keeps p v w = (v == w) || (place_under Quad p (keeping v w) == keeping (image p v) (image p w))

all_keep : list_all (λ p. list_all (λ v. list_all (keeps p v) four) four) words ≡ true
unfolding keeps place_under
all_keep = refl

pub kept_under : (p : List ℕ) (v w : ℕ) → IsPermutationOfFour p → v < 4 → w < 4 → v ≢ w → place_under Quad p (keeping v w) ≡ keeping (image p v) (image p w)
unfolding keeps
kept_under p v w h lv lw off =
    let one = list_all-among (λ p. list_all (λ v. list_all (keeps p v) four) four) p words all_keep (among_contains p words ((contains_words p).0 h)) in
    let two = list_all-among (λ v. list_all (keeps p v) four) v four one (Among-four v lv) in
    elim (or_cases (v == w) (place_under Quad p (keeping v w) == keeping (image p v) (image p w)) (list_all-among (keeps p v) w four two (Among-four w lw))) [
      | inl e ↦ absurd (off (eqb-true v w e))
      | inr e ↦ eqb-true (place_under Quad p (keeping v w)) (keeping (image p v) (image p w)) e
    ]

module _ (n : ℕ) (by : Relabelling) (is : IsRelabelling n by) (xs ys : List ℕ) (carried : IsCarried Quad n by xs ys) where
  -- the quad at the image of a corner
  pub quads_under : (k : Corner) → HasFourVertices n k → quads ys (corner_under by k) ≡ quads xs k
  quads_under k f =
      let p : List ℕ = slice_index_or by.perms k.tet [] in
      let low : keeping k.a k.c < 3 = keeping_below k.a k.c f.a f.c f.ac in
      let same = kept_under p k.a k.c (perm_permutes n by is k.tet f.tet) f.a f.c f.ac in
      let there : quad_column Quad (slice_index by.images k.tet) (keeping (image p k.a) (image p k.c)) ≡ 3 * slice_index by.images k.tet + place_under Quad p (keeping k.a k.c) = omega arith in
      let here : 3 * k.tet + keeping k.a k.c ≡ quad_column Quad k.tet (keeping k.a k.c) = omega arith in
      ap (slice_index ys) there ∙ carried.entries k.tet (keeping k.a k.c) f.tet low ∙ ap (slice_index xs) here

-- ---- the equation of a list of corners

module _ (n : ℕ) (xs : List ℕ) (ks : List Corner) (four' : (k : Corner) → Among k ks → HasFourVertices n k) where
  in_columns : (t j : ℕ) → t < n → j < 3 → quad_column Quad t j < columns Quad n
  in_columns t j lt lj = omega arith

  left : AllByRecursion (λ c. c < columns Quad n) (map (λ (k : Corner). quad_column Quad k.tet (keeping k.a k.c)) ks)
  left = all_mapped (λ c. c < columns Quad n) (λ (k : Corner). quad_column Quad k.tet (keeping k.a k.c)) ks (λ k a. let f = four' k a in in_columns k.tet (keeping k.a k.c) f.tet (keeping_below k.a k.c f.a f.c f.ac))

  right : AllByRecursion (λ c. c < columns Quad n) (map (λ (k : Corner). quad_column Quad k.tet (keeping k.a k.d)) ks)
  right = all_mapped (λ c. c < columns Quad n) (λ (k : Corner). quad_column Quad k.tet (keeping k.a k.d)) ks (λ k a. let f = four' k a in in_columns k.tet (keeping k.a k.d) f.tet (keeping_below k.a k.d f.a f.d f.ad))

  pub balanced_from : IsZeroAt (row_of (columns Quad n) (quad_equation ks)) xs → sum_by (quads xs) ks ≡ sum_by (λ k. quads xs (flip k)) ks
  balanced_from z =
      sym (sum_by-map (slice_index xs) (λ (k : Corner). quad_column Quad k.tet (keeping k.a k.c)) ks)
      ∙ row_is_zero (quad_equation ks) xs (columns Quad n) left right z
      ∙ sum_by-map (slice_index xs) (λ (k : Corner). quad_column Quad k.tet (keeping k.a k.d)) ks

  pub zero_from : sum_by (quads xs) ks ≡ sum_by (λ k. quads xs (flip k)) ks → IsZeroAt (row_of (columns Quad n) (quad_equation ks)) xs
  zero_from e = zero_row (quad_equation ks) xs (columns Quad n) left right
      (sum_by-map (slice_index xs) (λ (k : Corner). quad_column Quad k.tet (keeping k.a k.c)) ks ∙ e
      ∙ sym (sum_by-map (slice_index xs) (λ (k : Corner). quad_column Quad k.tet (keeping k.a k.d)) ks))

-- ---- the equations of a table from those of its relabelling

-- what relates the items of two lists also relates those of the second to those of the first
all_zip_back : {A B : Type 0} (P : A → B → Type 0) (xs : List A) (ys : List B) → AllZip P xs ys → AllZip (λ (y : B) (x : A). P x y) ys xs
all_zip_back P [] [] h = tt
all_zip_back P [] (y ∷ ys) h = absurd h
all_zip_back P (x ∷ xs) [] h = absurd h
all_zip_back P (x ∷ xs) (y ∷ ys) h = (h.0, all_zip_back P xs ys h.1)

module _ (old : List Row) (new : List Row) (table : IsTable old) (table' : IsTable new) (by : Relabelling) (is : IsRelabelling (length old) by) (carries : Carries by old new)
    (equations others : List EquationRow) (are : AreQuadEquations old equations) (are' : AreQuadEquations new others)
    (xs ys : List ℕ) (carried : IsCarried Quad (length old) by xs ys) (solution : IsSolution (columns Quad (length new)) others ys) where
  abbrev es : List ℕ
  es = are.classes

  abbrev es' : List ℕ
  es' = are'.classes

  -- the equation of an internal class holds
  class_zero : (c : ℕ) (row : EquationRow) → c < are.count → is_boundary_edge old are.classes c ≡ false → IsQuadRow old are.classes c row → IsZeroAt row xs
  class_zero c row lc inner h =
      subst (λ (r : EquationRow). IsZeroAt r xs) (sym h.2) (zero_from (length old) xs ks four_ks balanced)
    where
      first : Corner
      first = first_corner (least are.classes c)

      ks : List Corner
      ks = h.0

      start : (least are.classes c < 6 * length old) × (slice_index are.classes (least are.classes c) ≡ c)
      start = least_class (6 * length old) (SameEdge old) are.classes are.count are.numbered c lc

      round : (k : Corner) → Among k ks → IsRound old table are.classes are.count are.numbered c lc k
      round k a = reached_round old table are.classes are.count are.numbered c lc k (((h.1).reached k).0 (contains_among k ks a))

      four_ks : (k : Corner) → Among k ks → HasFourVertices (length old) k
      four_ks k a = (round k a).four

      on_ks : (k : Corner) → Among k ks → LeadsOn old k
      on_ks k a = leads_on old table are.classes are.count are.numbered c lc inner k (round k a)

      four_first : HasFourVertices (length old) first
      four_first = first_has_four (length old) (least are.classes c) start.0

      -- the class of the image, and the corners around it
      i' : ℕ
      i' = image_edge by (least are.classes c)

      below' : i' < 6 * length new
      below' = image_edge_below old new table table' by is carries (least are.classes c) start.0

      c' : ℕ
      c' = slice_index are'.classes i'

      lc' : c' < are'.count
      lc' = are'.numbered.in_range i' below'

      inner' : is_boundary_edge new are'.classes c' ≡ false
      inner' = stays_internal old new table table' by is carries are.classes are.count are.numbered are'.classes are'.count are'.numbered (least are.classes c) start.0 (ap (is_boundary_edge old are.classes) start.1 ∙ inner)

      listed : Among c' (internal_edges new are'.classes are'.count)
      listed = Among-filter (λ d. not (is_boundary_edge new are'.classes d)) c' (below are'.count) (Among-below c' are'.count lc') (ap not inner')

      found : (row : EquationRow) × Among row others × IsQuadRow new are'.classes c' row
      found = zip-among (λ (row : EquationRow) (c : ℕ). IsQuadRow new are'.classes c row) c' others (internal_edges new are'.classes are'.count)
          (all_zip_back (IsQuadRow new are'.classes) (internal_edges new are'.classes are'.count) others are'.each) listed

      first' : Corner
      first' = first_corner (least are'.classes c')

      ls : List Corner
      ls = (found.2).0

      start' : (least are'.classes c' < 6 * length new) × (slice_index are'.classes (least are'.classes c') ≡ c')
      start' = least_class (6 * length new) (SameEdge new) are'.classes are'.count are'.numbered c' lc'

      round' : (k : Corner) → Among k ls → IsRound new table' are'.classes are'.count are'.numbered c' lc' k
      round' k a = reached_round new table' are'.classes are'.count are'.numbered c' lc' k ((((found.2).1).reached k).0 (contains_among k ls a))

      four_ls : (k : Corner) → Among k ls → HasFourVertices (length new) k
      four_ls k a = (round' k a).four

      zero' : IsZeroAt (row_of (columns Quad (length new)) (quad_equation ls)) ys
      zero' = subst (λ (r : EquationRow). IsZeroAt r ys) (found.2).2 (all_at (λ (r : EquationRow). IsZeroAt r ys) others found.0 (recursion_from_All (λ (r : EquationRow). IsZeroAt r ys) others solution.zero) found.1)

      -- the images of the corners around the class
      images : AreCorners new (corner_under by first) (map (corner_under by) ks)
      images = corners_under old new by table is carries first ks four_first h.1

      four_images : (k : Corner) → Among k (map (corner_under by) ks) → HasFourVertices (length new) k
      four_images k a = let m = map-among (corner_under by) k ks a in subst (HasFourVertices (length new)) (sym m.2) (four_under old new by table is carries m.0 (four_ks m.0 m.1))

      on_images : (k : Corner) → Among k (map (corner_under by) ks) → LeadsOn new k
      on_images k a = let m = map-among (corner_under by) k ks a in subst (LeadsOn new) (sym m.2) (leads_under old new by table is carries m.0 (four_ks m.0 m.1) (on_ks m.0 m.1))

      pair_first : pair (corner_under by first).tet (corner_under by first).a (corner_under by first).b ≡ image_pair by (least are.classes c)
      pair_first = ap (λ (p : Place). place_under_it p) ((first_is old (least are.classes c) start.0).at ∙ edge_pair (least are.classes c))
        where
          place_under_it : Place → Place
          place_under_it p = record { tet = slice_index by.images p.tet; vertices = map (image (slice_index_or by.perms p.tet [])) p.vertices }

      along : Along new (pair first'.tet first'.a first'.b) (pair (corner_under by first).tet (corner_under by first).a (corner_under by first).b)
      along =
          subst₂ (Along new) (sym (first_is new (least are'.classes c') start'.0).at) (sym pair_first)
          (along_either new (edge (least are'.classes c')) (edge (least are'.classes c')) (edge i') (image_pair by (least are.classes c)) (turned_twice (least are'.classes c')) refl (inl refl)
          (either_back (image_pair by (least are.classes c)) (edge i') (turned_twice i') (image_either old new table table' by is carries (least are.classes c) start.0))
          ((are'.numbered.together (least are'.classes c') i' start'.0 below').0 start'.1))

      balanced' : sum_by (quads ys) (map (corner_under by) ks) ≡ sum_by (λ k. quads ys (flip k)) (map (corner_under by) ks)
      balanced' = sums_agree new table' first' ls (found.2).1 four_ls (λ k a. leads_on new table' are'.classes are'.count are'.numbered c' lc' inner' k (round' k a))
          (corner_under by first) (map (corner_under by) ks) images four_images on_images along ys (balanced_from (length new) ys ls four_ls zero')

      balanced : sum_by (quads xs) ks ≡ sum_by (λ k. quads xs (flip k)) ks
      balanced =
          sum_by_same (quads xs) (λ k. quads ys (corner_under by k)) ks (λ k a. sym (quads_under (length old) by is xs ys carried k (four_ks k a)))
          ∙ sym (sum_by-map (quads ys) (corner_under by) ks) ∙ balanced' ∙ sum_by-map (λ k. quads ys (flip k)) (corner_under by) ks
          ∙ sum_by_same (λ k. quads ys (flip (corner_under by k))) (λ k. quads xs (flip k)) ks (λ k a. quads_under (length old) by is xs ys carried (flip k) (flip_corner old table k (four_ks k a)))

  pub quad_solution : IsSolution (columns Quad (length old)) equations xs
  quad_solution = record {
    width = carried.from_width;
    zero = All-from_recursion (λ (row : EquationRow). IsZeroAt row xs) equations (all_from (λ (row : EquationRow). IsZeroAt row xs) equations (λ row a.
        let z = zip-among (IsQuadRow old are.classes) row (internal_edges old are.classes are.count) equations are.each a in
        let m = filter-among (λ c. not (is_boundary_edge old are.classes c)) z.0 (below are.count) z.1 in
        class_zero z.0 row (below-among z.0 are.count m.0) (not-true (is_boundary_edge old are.classes z.0) m.1) z.2));
  }
