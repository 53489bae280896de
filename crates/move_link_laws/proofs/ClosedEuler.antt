-- Twice the Euler characteristic of a closed table without invalid edges is the sum of 2 - euler over the links.
use Rattle.std.proofs.Common.{◌≡◌, ℕ, zero, suc, ◌+◌, ◌*◌, ◌/◌, ◌%◌, ◌<◌, true, List, [], ◌∷◌, length, map, Some, None, refl, sym, ap, ◌∙◌, subst, arith}
use Rattle.std.specs.Prelude.{◌==◌, ◌&&◌, sum_by, count_by, slice_index, ℤ, pos, ◌-ℤ◌, ◌+ℤ◌}
use Rattle.std.specs.List.{range_with_len, slice_index_or}
use Rattle.std.proofs.lemmas.Int.{ints}
use Rattle.std.proofs.lemmas.List.Sums.{sum_by-cons}
use Rattle.table_definitions.specs.Lists.{below, times_in}
use Rattle.table_definitions.specs.Classes.{IsNumbering, is_least}
use Rattle.table_definitions.specs.Places.{HasValidEdges}
use Rattle.table_definitions.proofs.ListFacts.{sum_below_next}
use Rattle.table_definitions.proofs.Ranks.{rank_all}
use Rattle.table_definitions.proofs.TableLaws.{Among}
use Rattle.skeleton_definitions.specs.Links.{SameDirected, vertex_number, link_vertices, link_edges, euler_of}
use Rattle.skeleton_definitions.specs.Skeleton.{Skeleton, IsSkeleton}
use Rattle.skeleton_definitions.specs.declared.Link.{Link}
use Rattle.move_laws.proofs.Closed.{AreGluedAll, all_glued}
use Rattle.surface_laws.proofs.Counting.{sum_by_same}
use Rattle.surface_laws.proofs.Sums.{sum_by_plus}
use Rattle.surface_quad_laws.specs.EulerLaws.{integer_sum}
use Rattle.skeleton_laws.proofs.Matchings.{passing}
use Rattle.skeleton_laws.proofs.Sides.{side_face, free_side, times_are}
use Rattle.skeleton_laws.proofs.Halves.{free_is}
use Rattle.skeleton_laws.proofs.TwiceEdges.{free_count, twice_edges}
use Rattle.skeleton_laws.proofs.Totals.{sum_classes, least_count}
use Rattle.skeleton_laws.proofs.EdgeDirections.{two_directions}
use Rattle.skeleton_laws.proofs.FaceSides.{two_sides}
use Rattle.move_link_laws.specs.ClosedEuler.{ClosedCharacteristicsAreOfLinks}
use Rattle.move_link_laws.proofs.LoneLink.{none_passing}

pub constant_sum : (m v : ℕ) → sum_by (λ c. m) (below v) ≡ m * v
constant_sum m zero = omega arith
constant_sum m (suc v) =
    let e : v + 1 ≡ suc v = omega arith in
    let n : sum_by (λ c. m) (below (v + 1)) ≡ sum_by (λ c. m) (below v) + m = sum_below_next (λ c. m) v in
    let b : sum_by (λ c. m) (below v) ≡ m * v = constant_sum m v in
    let t : m * suc v ≡ m * v + m = omega arith in
    ap (λ k. sum_by (λ c. m) (below k)) (sym e) ∙ n ∙ omega arith

module _ (s : Skeleton) (k : IsSkeleton s) (valid : HasValidEdges s.rows) (all : AreGluedAll s.rows) where
  -- no side of a link lies in a boundary face
  no_free : (c : ℕ) → free_count s.rows k.table s.vertices.classes s.vertices.count k.vertices c ≡ 0
  no_free c = none_passing (free_side s.rows s.vertices.classes c) (4 * (4 * length s.rows)) never
    where
      never : (i : ℕ) → Among i (passing (free_side s.rows s.vertices.classes c) (4 * (4 * length s.rows))) → ⊥
      never i a =
          let f = free_is s.rows k.table s.vertices.classes s.vertices.count k.vertices c i a in
          let l : i < 4 * (4 * length s.rows) = f.0 in
          let g = all (side_face i) (omega arith) (omega arith) in
          let z : Some g.0 ≡ None = sym g.1 ∙ f.2 in
          cc

  module _ (ds : List ℕ) (d : ℕ) (arrows : IsNumbering (12 * length s.rows) (SameDirected s.rows) ds d) where
    abbrev V : ℕ → ℕ
    V c = link_vertices s.vertices.classes ds c

    abbrev E : ℕ → ℕ
    E c = link_edges s.rows s.vertices.classes c

    abbrev F : ℕ → ℕ
    F c = times_in s.vertices.classes c

    each : (c : ℕ) → E c + E c ≡ F c + (F c + F c)
    each c =
        let e : 2 * E c ≡ 3 * F c + free_count s.rows k.table s.vertices.classes s.vertices.count k.vertices c = twice_edges s.rows k.table s.vertices.classes s.vertices.count k.vertices c in
        let z : free_count s.rows k.table s.vertices.classes s.vertices.count k.vertices c ≡ 0 = no_free c in
        omega arith

    all_edges : sum_by E (below s.vertices.count) + sum_by E (below s.vertices.count) ≡ 3 * sum_by F (below s.vertices.count)
    all_edges =
        let pairs : sum_by (λ c. E c + E c) (below s.vertices.count) ≡ sum_by (λ c. F c + (F c + F c)) (below s.vertices.count) = sum_by_same (λ c. E c + E c) (λ c. F c + (F c + F c)) (below s.vertices.count) (λ c a. each c) in
        let a : sum_by (λ c. E c + E c) (below s.vertices.count) ≡ sum_by E (below s.vertices.count) + sum_by E (below s.vertices.count) = sum_by_plus E E (λ c. E c + E c) (λ c. refl) (below s.vertices.count) in
        let b : sum_by (λ c. F c + (F c + F c)) (below s.vertices.count) ≡ sum_by F (below s.vertices.count) + sum_by (λ c. F c + F c) (below s.vertices.count) = sum_by_plus F (λ c. F c + F c) (λ c. F c + (F c + F c)) (λ c. refl) (below s.vertices.count) in
        let f : sum_by (λ c. F c + F c) (below s.vertices.count) ≡ sum_by F (below s.vertices.count) + sum_by F (below s.vertices.count) = sum_by_plus F F (λ c. F c + F c) (λ c. refl) (below s.vertices.count) in
        omega arith

    all_vertices : sum_by V (below s.vertices.count) ≡ d
    all_vertices =
        sum_classes (is_least ds) (λ i. slice_index s.vertices.classes (vertex_number (i / 12) ((i % 12) / 3))) s.vertices.count (length ds)
        (λ i l. k.vertices.in_range (vertex_number (i / 12) ((i % 12) / 3)) (let e = arrows.one_each in omega arith))
        ∙ ap (λ m. count_by (is_least ds) (below m)) arrows.one_each ∙ least_count (12 * length s.rows) (SameDirected s.rows) ds d arrows

    all_triangles : sum_by F (below s.vertices.count) ≡ 4 * length s.rows
    all_triangles =
        sum_by_same F (λ c. count_by (λ i. true && (slice_index s.vertices.classes i == c)) (below (length s.vertices.classes))) (below s.vertices.count) (λ c a. times_are s.vertices.classes c)
        ∙ sum_classes (λ i. true) (λ i. slice_index s.vertices.classes i) s.vertices.count (length s.vertices.classes) (λ i l. k.vertices.in_range i (let e = k.vertices.one_each in omega arith))
        ∙ rank_all (λ i. true) (length s.vertices.classes) (λ i l. refl) ∙ k.vertices.one_each

    -- the sums of the numbers of all links, in terms of the numbers of the table
    pub links_add_up : 2 * (s.vertices.count + s.faces.count) + sum_by (λ c. V c + F c) (below s.vertices.count) ≡ 2 * (s.edges.count + length s.rows) + sum_by (λ c. 2 + E c) (below s.vertices.count)
    links_add_up =
        let a : sum_by (λ c. V c + F c) (below s.vertices.count) ≡ sum_by V (below s.vertices.count) + sum_by F (below s.vertices.count) = sum_by_plus V F (λ c. V c + F c) (λ c. refl) (below s.vertices.count) in
        let b : sum_by (λ c. 2 + E c) (below s.vertices.count) ≡ sum_by (λ c. 2) (below s.vertices.count) + sum_by E (below s.vertices.count) = sum_by_plus (λ c. 2) E (λ c. 2 + E c) (λ c. refl) (below s.vertices.count) in
        let two : sum_by (λ c. 2) (below s.vertices.count) ≡ 2 * s.vertices.count = constant_sum 2 s.vertices.count in
        let x = all_vertices in
        let y = all_triangles in
        let z = all_edges in
        let e : d ≡ s.edges.count + s.edges.count = two_directions s.rows s.edges.classes s.edges.count k.edges ds d arrows valid in
        let f : 4 * length s.rows ≡ s.faces.count + s.faces.count = two_sides s.rows k.table s.faces.classes s.faces.count k.faces all in
        omega arith

-- a sum over links by their numbers
listed_sum : (links : List Link) (k : ℕ) (Y E : ℕ → ℕ) → ((c : ℕ) (l : Link) → c < length links → l ≡ slice_index_or links c l → l.euler ≡ pos (Y (k + c)) -ℤ pos (E (k + c)))
    → integer_sum (map (λ (l : Link). pos 2 -ℤ l.euler) links) ≡ pos (sum_by (λ c. 2 + E c) (range_with_len k (length links))) -ℤ pos (sum_by Y (range_with_len k (length links)))
listed_sum [] k Y E reported = refl
listed_sum (l ∷ ls) k Y E reported =
    let here : k + 0 ≡ k = omega arith in
    let first : l.euler ≡ pos (Y k) -ℤ pos (E k) = subst (λ i. l.euler ≡ pos (Y i) -ℤ pos (E i)) here (reported 0 l (omega arith) refl) in
    let more : integer_sum (map (λ (l : Link). pos 2 -ℤ l.euler) ls) ≡ pos (sum_by (λ c. 2 + E c) (range_with_len (k + 1) (length ls))) -ℤ pos (sum_by Y (range_with_len (k + 1) (length ls))) =
    listed_sum ls (k + 1) Y E (λ c m lc is. (let up : k + suc c ≡ k + 1 + c = omega arith in subst (λ i. m.euler ≡ pos (Y i) -ℤ pos (E i)) up (reported (suc c) m (omega arith) is))) in
    let a : sum_by (λ c. 2 + E c) (range_with_len k (suc (length ls))) ≡ (2 + E k) + sum_by (λ c. 2 + E c) (range_with_len (k + 1) (length ls)) = sum_by-cons (λ c. 2 + E c) k (range_with_len (k + 1) (length ls)) in
    let b : sum_by Y (range_with_len k (suc (length ls))) ≡ Y k + sum_by Y (range_with_len (k + 1) (length ls)) = sum_by-cons Y k (range_with_len (k + 1) (length ls)) in
    added l.euler (integer_sum (map (λ (l : Link). pos 2 -ℤ l.euler) ls)) (Y k) (E k) (sum_by Y (range_with_len (k + 1) (length ls))) (sum_by (λ c. 2 + E c) (range_with_len (k + 1) (length ls))) first more
    ∙ (λ i. pos (sym a i) -ℤ pos (sym b i))
  where
    added : (x y : ℤ) (v e p q : ℕ) → x ≡ pos v -ℤ pos e → y ≡ pos q -ℤ pos p → (pos 2 -ℤ x) +ℤ y ≡ pos ((2 + e) + q) -ℤ pos (v + p)
    added x y v e p q f g = omega (arith, ints)

doubled : (v e p q : ℕ) → 2 * v + p ≡ 2 * e + q → (pos v -ℤ pos e) +ℤ (pos v -ℤ pos e) ≡ pos q -ℤ pos p
doubled v e p q h = omega (arith, ints)

pub closed_characteristics : ClosedCharacteristicsAreOfLinks
closed_characteristics s links k (directions, count, arrows, reported) closed valid =
    let Y : ℕ → ℕ = λ c. link_vertices s.vertices.classes directions c + times_in s.vertices.classes c in
    let E : ℕ → ℕ = λ c. link_edges s.rows s.vertices.classes c in
    doubled (s.vertices.count + s.faces.count) (s.edges.count + length s.rows) (sum_by Y (below s.vertices.count)) (sum_by (λ c. 2 + E c) (below s.vertices.count))
    (links_add_up s k valid (all_glued s.rows closed) directions count arrows)
    ∙ (λ i. pos (sum_by (λ c. 2 + link_edges s.rows s.vertices.classes c) (below (sym reported.one_each i))) -ℤ pos (sum_by (λ c. link_vertices s.vertices.classes directions c + times_in s.vertices.classes c) (below (sym reported.one_each i))))
    ∙ sym (listed_sum links 0 Y E (λ c l lc is. (let n = reported.one_each in let t = reported.reported c l (omega arith) is in let z : c ≡ 0 + c = omega arith in subst (λ j. l.euler ≡ pos (Y j) -ℤ pos (E j)) z (t.euler ∙ (λ i. euler_of (t.vertices i) (t.edges i) (t.triangles i))))))
