-- The members of a vertex class, and the vertices of its link: the least of each class of directed edges that begin at
-- the class.
use Rattle.std.proofs.Common.{◌≡◌, ℕ, ◌*◌, ◌/◌, ◌%◌, ◌<◌, Bool, true, List, length, sym, ap, ◌∙◌, subst}
use Rattle.std.specs.Prelude.{◌==◌, ◌&&◌, count_by, slice_index}
use Rattle.std.proofs.lemmas.Bool.{and_parts, and_from, eqb-true, eq-eqb}
use Rattle.table_definitions.specs.Lists.{below, times_in}
use Rattle.table_definitions.specs.Table.{Row}
use Rattle.table_definitions.specs.Classes.{IsNumbering, least, is_least}
use Rattle.table_definitions.specs.Places.{Place, IsJoined, SameVertex, vertex}
use Rattle.table_definitions.proofs.ClassLaws.{least_of, one_least}
use Rattle.table_definitions.proofs.TableLaws.{Among}
use Rattle.skeleton_definitions.specs.Links.{directed, SameDirected, vertex_number, link_vertices}
use Rattle.skeleton_class_laws.specs.Crossings.{direction_at, vertex_at}
use Rattle.skeleton_laws.proofs.Matchings.{passing, length-passing, passing_is, is_passing}
use Rattle.skeleton_laws.proofs.Sides.{times_are}
use Rattle.skeleton_laws.proofs.Spots.{IsSpot, class_of, spot_below, vertex_number_again, one_class}
use Rattle.skeleton_laws.proofs.Arrows.{IsArrow, arrow_below, arrow_again, directed_arrow, tail_of, tails_joined}

pub tail_spot : (n : ℕ) (p : Place) → IsArrow n p → IsSpot n (tail_of p)
tail_spot n p a = record { v = a.v; is = ap tail_of a.is; below = a.below; low = a.low_v }

module _ (rows : List Row) (vs : List ℕ) (n : ℕ) (numbered : IsNumbering (4 * length rows) (SameVertex rows) vs n) (c : ℕ) where
  pub is_of_class : ℕ → Bool
  is_of_class i = slice_index vs i == c

  abbrev pub members : List ℕ
  members = passing is_of_class (4 * length rows)

  pub member_is : (i : ℕ) → Among i members → (i < 4 * length rows) × (class_of vs (vertex i) ≡ c)
  unfolding is_of_class
  member_is i a = let p = passing_is is_of_class (4 * length rows) i a in (p.0, ap (slice_index vs) (vertex_number_again i) ∙ eqb-true (slice_index vs i) c p.1)

  pub is_member : (p : Place) → IsSpot (length rows) p → class_of vs p ≡ c → Among (vertex_at p) members
  unfolding is_of_class
  is_member p s e = is_passing is_of_class (4 * length rows) (vertex_at p) (spot_below (length rows) p s) (eq-eqb (slice_index vs (vertex_at p)) c e)

  pub length-members : length members ≡ times_in vs c
  unfolding is_of_class
  length-members = length-passing is_of_class (4 * length rows) ∙ ap (λ z. count_by is_of_class (below z)) (sym numbered.one_each) ∙ sym (times_are vs c)

  module _ (ds : List ℕ) (d : ℕ) (arrows : IsNumbering (12 * length rows) (SameDirected rows) ds d) where
    pub is_corner_number : ℕ → Bool
    is_corner_number i = is_least ds i && (slice_index vs (vertex_number (i / 12) ((i % 12) / 3)) == c)

    abbrev pub corners : List ℕ
    corners = passing is_corner_number (12 * length rows)

    pub record IsCorner (i : ℕ) : Type 0 where
      pub below : i < 12 * length rows
      pub first : is_least ds i ≡ true
      pub here : class_of vs (tail_of (directed i)) ≡ c

    pub corner_is : (i : ℕ) → Among i corners → IsCorner i
    unfolding is_corner_number
    corner_is i a =
        let p = passing_is is_corner_number (12 * length rows) i a in
        let q = and_parts (is_least ds i) (slice_index vs (vertex_number (i / 12) ((i % 12) / 3)) == c) p.1 in
        record { below = p.0; first = q.0; here = eqb-true (slice_index vs (vertex_number (i / 12) ((i % 12) / 3))) c q.1 }

    pub is_corner : (i : ℕ) → i < 12 * length rows → is_least ds i ≡ true → class_of vs (tail_of (directed i)) ≡ c → Among i corners
    unfolding is_corner_number
    is_corner i l f e =
        is_passing is_corner_number (12 * length rows) i l (and_from (is_least ds i) (slice_index vs (vertex_number (i / 12) ((i % 12) / 3)) == c) f (eq-eqb (slice_index vs (vertex_number (i / 12) ((i % 12) / 3))) c e))

    -- the corner of a directed edge that begins at the class
    pub record Found (p : Place) : Type 0 where
      pub i : ℕ
      pub among : Among i corners
      pub joined : IsJoined rows p (directed i)

    pub found : (p : Place) → IsArrow (length rows) p → class_of vs (tail_of p) ≡ c → Found p
    found p a e =
        let f = least_of (12 * length rows) (SameDirected rows) ds d arrows (direction_at p) (arrow_below (length rows) p a) in
        let j : IsJoined rows p (directed (least ds (slice_index ds (direction_at p)))) = subst (λ (r : Place). IsJoined rows r (directed (least ds (slice_index ds (direction_at p))))) (arrow_again (length rows) p a) f.same in
        let there = directed_arrow (length rows) (least ds (slice_index ds (direction_at p))) f.below in
        let same = (one_class rows vs n numbered (tail_of p) (tail_of (directed (least ds (slice_index ds (direction_at p))))) (tail_spot (length rows) p a) (tail_spot (length rows) (directed (least ds (slice_index ds (direction_at p)))) there)).1
        (tails_joined rows (length rows) p (directed (least ds (slice_index ds (direction_at p)))) a j) in
        record { i = least ds (slice_index ds (direction_at p)); among = is_corner (least ds (slice_index ds (direction_at p))) f.below f.least_is (sym same ∙ e); joined = j }

    pub same_corner : (i j : ℕ) → IsCorner i → IsCorner j → IsJoined rows (directed i) (directed j) → i ≡ j
    same_corner i j a b s = one_least (12 * length rows) (SameDirected rows) ds d arrows i j a.below b.below a.first b.first s

    pub length-corners : length corners ≡ link_vertices vs ds c
    unfolding is_corner_number
    length-corners = length-passing is_corner_number (12 * length rows) ∙ ap (λ z. count_by is_corner_number (below z)) (sym arrows.one_each)
