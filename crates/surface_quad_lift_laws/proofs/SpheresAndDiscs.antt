-- If the link of a class is a sphere or a disc, the solutions of the quad equations have heights at the class.
use Rattle.surface_laws.proofs.Solved.{other_is}
use Rattle.table_definitions.proofs.DistinctLists.{AreApart}
use Rattle.surface_quad_lift_laws.proofs.FreeEnds.{free_end_list, free_end_apart, free_end_within, free_end_listed, few_ends}
use Rattle.surface_quad_lift_laws.proofs.FreeSides.{free_sides, none_is}
use Rattle.std.proofs.Common.{◌≡◌, ℕ, zero, suc, ◌+◌, ◌*◌, ◌/◌, ◌%◌, ◌<◌, Bool, true, false, not, ℤ, pos, negsuc, List, [], ◌∷◌, length, map, refl, sym, ap, ◌∙◌, arith, inl, inr, None, Option, ◌≤◌, subst}
use Rattle.std.specs.Prelude.{sum_by, slice_index, ◌&&◌, is_none}
use Rattle.std.specs.List.{list_all}
use Rattle.std.proofs.lemmas.Bool.{and_parts, not-true, not-false}
use Rattle.std.proofs.lemmas.Int.{ints}
use Rattle.cone_definitions.specs.Rows.{Row as EquationRow, IsSolution}
use Rattle.table_definitions.specs.Classes.{members}
use Rattle.table_definitions.specs.Lists.{times_in}
use Rattle.table_definitions.specs.Permutation.{others}
use Rattle.table_definitions.specs.Table.{Gluing, glue, Face}
use Rattle.table_definitions.specs.Places.{is_boundary}
use Rattle.table_definitions.proofs.Listed.{Among-flat_map, Among-others, flat_map-among, map-among}
use Rattle.table_definitions.proofs.TableLaws.{Among, Among-map}
use Rattle.table_definitions.proofs.Faces.{face_at}
use Rattle.skeleton_definitions.specs.Corners.{Corner, left_through}
use Rattle.skeleton_definitions.specs.Links.{vertex_number, sides, link_edges, link_vertices, euler_of, is_closed_link, kind_of, IsLink}
use Rattle.skeleton_definitions.specs.Skeleton.{Skeleton, IsSkeleton}
use Rattle.skeleton_definitions.specs.declared.Link.{Link}
use Rattle.skeleton_definitions.specs.declared.LinkKind.TheVariants.{Sphere, Disc}
use Rattle.surface_definitions.specs.Coordinates.{columns}
use Rattle.surface_definitions.specs.declared.Coords.TheVariants.{Quad}
use Rattle.surface_definitions.specs.QuadEquations.{AreQuadEquations}
use Rattle.surface_vector_definitions.specs.Lifting.{HasLiftAt}
use Rattle.surface_laws.specs.LiftLaws.{AreHeights}
use Rattle.surface_laws.proofs.Heights.{heights_give}
use Rattle.surface_quad_lift_laws.specs.Laws.{HasLink, IsSphereOrDisc}
use Rattle.surface_quad_lift_laws.proofs.Colours.{all_joined}
use Rattle.surface_quad_lift_laws.proofs.Counts.{covered}
use Rattle.surface_quad_lift_laws.proofs.DualTree.{beyond, quads, hung, height, tree_level}
use Rattle.surface_quad_lift_laws.proofs.Ends.{end_of, head_below, link_vertex_list, end_listed}
use Rattle.surface_quad_lift_laws.proofs.Flags.{IsVertexClass, IsFlag, triangle_of}
use Rattle.surface_quad_lift_laws.proofs.Growing.{fits, only_one}
use Rattle.surface_quad_lift_laws.proofs.Peeling.{all_heights}
use Rattle.surface_quad_lift_laws.proofs.SideLists.{flag_of, flag_in, member_listed, listed_member}

all_pass : {A : Type 0} (t : A → Bool) (xs : List A) (x : A) → list_all t xs ≡ true → Among x xs → t x ≡ true
all_pass t [] x h a = absurd a
all_pass t (y ∷ ys) x h (inl e) = ap t e ∙ (and_parts (t y) (list_all t ys) h).0
all_pass t (y ∷ ys) x h (inr a) = all_pass t ys x (and_parts (t y) (list_all t ys) h).1 a

-- a sphere is closed and of Euler characteristic 2
sphere_is : (closed : Bool) (euler : ℤ) (orientable : Bool) → kind_of closed euler orientable ≡ Sphere → (closed ≡ true) × (euler ≡ pos 2)
sphere_is true (pos zero) true e = absurd cc
sphere_is true (pos zero) false e = absurd cc
sphere_is true (pos (suc zero)) o e = absurd cc
sphere_is true (pos (suc (suc zero))) o e = (refl, refl)
sphere_is true (pos (suc (suc (suc m)))) o e = absurd cc
sphere_is true (negsuc m) o e = absurd cc
sphere_is false (pos zero) o e = absurd cc
sphere_is false (pos (suc zero)) o e = absurd cc
sphere_is false (pos (suc (suc m))) o e = absurd cc
sphere_is false (negsuc m) o e = absurd cc

-- a disc is not closed, and it is of Euler characteristic 1
disc_is : (closed : Bool) (euler : ℤ) (orientable : Bool) → kind_of closed euler orientable ≡ Disc → (closed ≡ false) × (euler ≡ pos 1)
disc_is true (pos zero) true e = absurd cc
disc_is true (pos zero) false e = absurd cc
disc_is true (pos (suc zero)) o e = absurd cc
disc_is true (pos (suc (suc zero))) o e = absurd cc
disc_is true (pos (suc (suc (suc m)))) o e = absurd cc
disc_is true (negsuc m) o e = absurd cc
disc_is false (pos zero) o e = absurd cc
disc_is false (pos (suc zero)) o e = (refl, refl)
disc_is false (pos (suc (suc m))) o e = absurd cc
disc_is false (negsuc m) o e = absurd cc

some_fails : {A : Type 0} (t : A → Bool) (xs : List A) → list_all t xs ≡ false → (x : A) × Among x xs × (t x ≡ false)
some_fails t [] e = absurd cc
some_fails {A} t (x ∷ xs) e = go (t x) refl e (λ h. some_fails t xs h)
  where
    go : (b : Bool) → t x ≡ b → (b && list_all t xs) ≡ false → (list_all t xs ≡ false → (y : A) × Among y xs × (t y ≡ false)) → (y : A) × Among y (x ∷ xs) × (t y ≡ false)
    go true q h later = let m = later h in (m.0, inr m.1, m.2)
    go false q h later = (x, inl refl, q)

two_more : (v e t : ℕ) → euler_of v e t ≡ pos 2 → v + t ≡ e + 2
two_more v e t h = omega (arith, ints, h)

one_more : (v e t : ℕ) → euler_of v e t ≡ pos 1 → v + t ≡ e + 1
one_more v e t h = omega (arith, ints, h)

module _ (s : Skeleton) (c : ℕ) (skeleton : IsSkeleton s) (low_c : c < s.vertices.count) where
  abbrev n : ℕ
  n = length s.rows

  abbrev class_of : ℕ → ℕ
  class_of i = slice_index s.vertices.classes i

  z : IsVertexClass s c
  z = record { skeleton = skeleton; in_range = low_c }

  -- a closed link has no boundary side
  none_free : is_closed_link s.rows s.vertices.classes c ≡ true → (k : Corner) → IsFlag s c z k → glue s.rows (left_through k) ≡ None → ⊥
  none_free closed k h e =
      let f = h.four in
      let la : k.a < 4 = f.a in
      let lt : k.tet < n = f.tet in
      let i : ℕ = triangle_of k in
      let d : i / 4 ≡ k.tet = omega arith in
      let m : i % 4 ≡ k.a = omega arith in
      let side : Among (face_at (i / 4) k.c) (sides s.vertices.classes c) =
      Among-flat_map (λ j. map (λ f. face_at (j / 4) f) (others (j % 4))) i (face_at (i / 4) k.c) (members s.vertices.classes c) (member_listed s c z i (omega arith) h.chosen)
      (Among-map (λ f. face_at (i / 4) f) k.c (others (i % 4)) (Among-others (i % 4) k.c f.c (λ q. f.ac (sym (q ∙ m))))) in
      let free : is_boundary s.rows (face_at (i / 4) k.c) ≡ false = not-true (is_boundary s.rows (face_at (i / 4) k.c)) (all_pass (λ x. not (is_boundary s.rows x)) (sides s.vertices.classes c) (face_at (i / 4) k.c) closed side) in
      let b : true ≡ false = ap (λ (o : Option Gluing). is_none o) (sym e) ∙ ap (λ t. is_boundary s.rows (face_at t k.c)) (sym d) ∙ free in
      absurd cc

  -- a link that is not closed has a boundary side
  some_free : is_closed_link s.rows s.vertices.classes c ≡ false → (k : Corner) × IsFlag s c z k × (glue s.rows (left_through k) ≡ None)
  some_free open_ =
      let m = some_fails (λ x. not (is_boundary s.rows x)) (sides s.vertices.classes c) open_ in
      let i = flat_map-among (λ j. map (λ f. face_at (j / 4) f) (others (j % 4))) m.0 (members s.vertices.classes c) m.1 in
      let f = map-among (λ f. face_at (i.0 / 4) f) m.0 (others (i.0 % 4)) i.2 in
      let o = other_is (i.0 % 4) f.0 f.1 in
      let at = listed_member s c z i.0 i.1 in
      let low : i.0 < 4 * n = at.0 in
      let whole : vertex_number (i.0 / 4) (i.0 % 4) ≡ i.0 = omega arith in
      let k : Corner = flag_of (i.0 / 4) (i.0 % 4) f.0 in (
        k,
        flag_in s c z (i.0 / 4) (i.0 % 4) f.0 (omega arith) (omega arith) o.0 (λ e. o.1 (sym e)) (ap class_of whole ∙ at.1),
        none_is (glue s.rows (left_through k)) (ap (λ (x : Face). is_boundary s.rows x) (sym f.2) ∙ not-false (is_boundary s.rows m.0) m.2),
      )

  module _ (link : Link) (has : HasLink s c link) (quad_rows : List EquationRow) (equations : AreQuadEquations s.rows quad_rows) (xs : List ℕ) (solution : IsSolution (columns Quad n) quad_rows xs) where
    abbrev end : Corner → ℕ
    end k = end_of s c z has.directions has.count has.numbered k

    abbrev ends : List ℕ
    ends = link_vertex_list s c z has.directions has.count has.numbered

    -- heights, from a flag and some ends to which the others are joined
    heights_from : (start : Corner) → IsFlag s c z start → (firsts : List ℕ) → Among (end start) firsts → ((x : ℕ) → Among x firsts → Among x ends) → AreApart firsts
        → ((k : Corner) → IsFlag s c z k → glue s.rows (left_through k) ≡ None → Among (end k) firsts)
        → link_edges s.rows s.vertices.classes c + 1 + length firsts ≤ link_vertices s.vertices.classes has.directions c + times_in s.vertices.classes c + length (free_sides s c z)
        → (h : ℕ → ℕ) × AreHeights s xs c h
    heights_from start flag firsts start_in inside separate free_ends numbers =
        let f = flag.four in
        let la : start.a < 4 = f.a in
        let lt : start.tet < n = f.tet in
        let root : ℕ = triangle_of start in
        let low : root < 4 * n = omega arith in
        let d = hung s c z root low flag.chosen in
        let g = all_joined s c z has.directions has.count has.numbered d.0 root low flag.chosen d.1 d.2 start flag refl firsts start_in inside separate in (
          height s c z root low flag.chosen xs (sum_by (quads xs) d.0) d.0,
          all_heights s c z has.directions has.count has.numbered quad_rows equations xs solution (height s c z root low flag.chosen xs (sum_by (quads xs) d.0) d.0)
              d.0 (λ m a. (fits triangle_of (beyond s) (IsFlag s c z) (root ∷ []) d.0 m d.1 a, tree_level s c z root low flag.chosen xs d.0 d.1 m a)) firsts free_ends g.0 g.1
              (covered s c z has.directions has.count has.numbered d.0 root firsts d.1 d.2 g.0 g.1 g.2 free_ends numbers),
        )

    abbrev is_link : IsLink s.rows s.vertices.classes has.directions c link
    is_link = has.is_link

    -- a sphere: from any flag and its end
    sphere_heights : link.kind ≡ Sphere → (h : ℕ → ℕ) × AreHeights s xs c h
    sphere_heights sphere =
        let kind = sphere_is link.closed link.euler link.orientable (sym is_link.kind ∙ sphere) in
        let closed : is_closed_link s.rows s.vertices.classes c ≡ true = sym is_link.closed ∙ kind.0 in
        let more : link.vertices + link.triangles ≡ link.edges + 2 = two_more link.vertices link.edges link.triangles (sym is_link.euler ∙ kind.1) in
        let v : link.vertices ≡ link_vertices s.vertices.classes has.directions c = is_link.vertices in
        let e : link.edges ≡ link_edges s.rows s.vertices.classes c = is_link.edges in
        let t : link.triangles ≡ times_in s.vertices.classes c = is_link.triangles in
        let i = (skeleton.vertices).none_empty c low_c in
        let low : i.0 < 4 * n = i.1 in
        let whole : vertex_number (i.0 / 4) (i.0 % 4) ≡ i.0 = omega arith in
        let lv : i.0 % 4 < 4 = omega arith in
        let f = head_below (i.0 % 4) 0 lv (omega arith) in
        let start : Corner = flag_of (i.0 / 4) (i.0 % 4) (slice_index (others (i.0 % 4)) 0) in
        let flag : IsFlag s c z start = flag_in s c z (i.0 / 4) (i.0 % 4) (slice_index (others (i.0 % 4)) 0) (omega arith) lv f.0 f.1 (ap class_of whole ∙ i.2) in
        heights_from start flag (end start ∷ []) (inl refl) (λ x a. subst (λ u. Among u ends) (sym (only_one x (end start) a)) (end_listed s c z has.directions has.count has.numbered start flag)) ((λ a. a), tt)
        (λ k h q. absurd (none_free closed k h q)) (let one : length (end start ∷ []) ≡ 1 = refl in omega arith)

    -- a disc: from the ends of its boundary sides
    disc_heights : link.kind ≡ Disc → (h : ℕ → ℕ) × AreHeights s xs c h
    disc_heights disc =
        let kind = disc_is link.closed link.euler link.orientable (sym is_link.kind ∙ disc) in
        let more : link.vertices + link.triangles ≡ link.edges + 1 = one_more link.vertices link.edges link.triangles (sym is_link.euler ∙ kind.1) in
        let v : link.vertices ≡ link_vertices s.vertices.classes has.directions c = is_link.vertices in
        let e : link.edges ≡ link_edges s.rows s.vertices.classes c = is_link.edges in
        let t : link.triangles ≡ times_in s.vertices.classes c = is_link.triangles in
        let limited : length (free_end_list s c z has.directions has.count has.numbered) ≤ length (free_sides s c z) = few_ends s c z has.directions has.count has.numbered in
        let k = some_free (sym is_link.closed ∙ kind.0) in
        heights_from k.0 k.1 (free_end_list s c z has.directions has.count has.numbered) (free_end_listed s c z has.directions has.count has.numbered k.0 k.1 k.2)
        (free_end_within s c z has.directions has.count has.numbered) (free_end_apart s c z has.directions has.count has.numbered) (free_end_listed s c z has.directions has.count has.numbered) (omega arith)

    link_heights : IsSphereOrDisc link → (h : ℕ → ℕ) × AreHeights s xs c h
    link_heights (inl sphere) = sphere_heights sphere
    link_heights (inr disc) = disc_heights disc

    pub link_lift : IsSphereOrDisc link → HasLiftAt s xs c
    link_lift simple = let h = link_heights simple in heights_give s skeleton xs solution.width c low_c h.0 h.1
