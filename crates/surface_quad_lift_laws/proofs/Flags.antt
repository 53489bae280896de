-- Flags of the link of a vertex class: the triangle at vertex a of a tetrahedron, with its side in face c and the end
-- of that side on the edge to b.
use Rattle.std.proofs.Common.{◌≡◌, ℕ, ◌+◌, ◌*◌, ◌<◌, List, length, Option, Some, None, refl, sym, ap, ◌∙◌, subst, arith}
use Rattle.std.specs.Prelude.{slice_index}
use Rattle.table_definitions.specs.Permutation.{IsPermutationOfFour}
use Rattle.table_definitions.specs.Table.{Gluing, Row, glue}
use Rattle.table_definitions.proofs.PermutationLaws.{image_below, images_apart, image-of_inverse}
use Rattle.skeleton_definitions.specs.Corners.{Corner, left_through, corner_across}
use Rattle.skeleton_definitions.specs.Links.{vertex_number}
use Rattle.skeleton_definitions.specs.Skeleton.{Skeleton, IsSkeleton}
use Rattle.surface_laws.proofs.Vertices.{class_across}
use Rattle.surface_laws.proofs.CornerSteps.{LeadsOn}
use Rattle.skeleton_class_laws.proofs.Rounds.{before, next, where_led}
use Rattle.surface_quad_laws.proofs.Rounds.{HasFourVertices}

-- a vertex class of a table
pub record IsVertexClass (s : Skeleton) (c : ℕ) : Type 0 where
  pub skeleton : IsSkeleton s
  pub in_range : c < s.vertices.count

-- the triangle of a flag, and its side, by number
abbrev pub triangle_of : Corner → ℕ
triangle_of k = vertex_number k.tet k.a

abbrev pub side : Corner → ℕ
side k = 4 * triangle_of k + k.c

-- the flag at the other end of the side; the flag at the same end, on the other side there; and that at the opposite
-- end of the edge ab
abbrev pub turn : Corner → Corner
turn k = record { tet = k.tet; a = k.a; b = k.d; c = k.c; d = k.b }

abbrev pub flip : Corner → Corner
flip k = record { tet = k.tet; a = k.a; b = k.b; c = k.d; d = k.c }

abbrev pub opposite : Corner → Corner
opposite k = record { tet = k.tet; a = k.b; b = k.a; c = k.c; d = k.d }

-- the same end of the same side, in the triangle that is glued there
abbrev pub mate_behind : Corner → Gluing → Corner
mate_behind k g = flip (corner_across k g)

abbrev pub mate : List Row → Corner → Corner
mate rows k = where_led mate_behind k (glue rows (left_through k))

-- a change that may be made before or after the way across a gluing
either_way : (way : Corner → Gluing → Corner) (change : Corner → Corner) (k : Corner) (o : Option Gluing) → ((g : Gluing) → way (change k) g ≡ change (way k g)) → where_led way (change k) o ≡ change (where_led way k o)
either_way way change k None h = refl
either_way way change k (Some g) h = h g

pub mate-turn : (rows : List Row) (k : Corner) → mate rows (turn k) ≡ turn (mate rows k)
mate-turn rows k = either_way mate_behind turn k (glue rows (left_through k)) (λ g. refl)

pub mate-opposite : (rows : List Row) (k : Corner) → mate rows (opposite k) ≡ opposite (mate rows k)
mate-opposite rows k = either_way mate_behind opposite k (glue rows (left_through k)) (λ g. refl)

pub next-opposite : (rows : List Row) (k : Corner) → next rows (opposite k) ≡ opposite (next rows k)
next-opposite rows k = either_way corner_across opposite k (glue rows (left_through k)) (λ g. refl)

-- if the side is glued, its mate is the next corner with its sides exchanged, or the corner before
pub mate-next : (rows : List Row) (k : Corner) → LeadsOn rows k → mate rows k ≡ flip (next rows k)
mate-next rows k w = ap (where_led mate_behind k) w.glued ∙ ap (λ o. flip (where_led corner_across k o)) (sym w.glued)

pub mate-before : (rows : List Row) (k : Corner) → LeadsOn rows (flip k) → mate rows (flip k) ≡ before rows k
mate-before rows k w = ap (where_led mate_behind (flip k)) w.glued ∙ ap (where_led corner_across k) (sym w.glued)

module _ (s : Skeleton) (c : ℕ) (z : IsVertexClass s c) where
  abbrev n : ℕ
  n = length s.rows

  pub record IsFlag (k : Corner) : Type 0 where
    pub four : HasFourVertices n k
    pub chosen : slice_index s.vertices.classes (triangle_of k) ≡ c

  pub turn_in : (k : Corner) → IsFlag k → IsFlag (turn k)
  turn_in k h = let f = h.four in record {
    four = record { tet = f.tet; a = f.a; b = f.d; c = f.c; d = f.b; ab = f.ad; ac = f.ac; ad = f.ab; bc = λ e. f.cd (sym e); bd = λ e. f.bd (sym e); cd = λ e. f.bc (sym e) };
    chosen = h.chosen;
  }

  pub flip_in : (k : Corner) → IsFlag k → IsFlag (flip k)
  flip_in k h = let f = h.four in record {
    four = record { tet = f.tet; a = f.a; b = f.b; c = f.d; d = f.c; ab = f.ab; ac = f.ad; ad = f.ac; bc = f.bd; bd = f.bc; cd = λ e. f.cd (sym e) };
    chosen = h.chosen;
  }

  -- the mate across a glued side, and at a boundary face
  glued_mate : (k : Corner) → IsFlag k → (g : Gluing) → glue s.rows (left_through k) ≡ Some g → IsFlag (mate_behind k g)
  glued_mate k h g e =
      let f : HasFourVertices n k = h.four in
      let p : IsPermutationOfFour g.perm = (z.skeleton).table.permutes (left_through k) g e in
      record {
        four = record {
          tet = (z.skeleton).table.in_range (left_through k) g e;
          a = image_below g.perm k.a p f.a;
          b = image_below g.perm k.b p f.b;
          c = image_below g.perm k.c p f.c;
          d = image_below g.perm k.d p f.d;
          ab = images_apart g.perm k.a k.b p f.a f.b f.ab;
          ac = images_apart g.perm k.a k.c p f.a f.c f.ac;
          ad = images_apart g.perm k.a k.d p f.a f.d f.ad;
          bc = images_apart g.perm k.b k.c p f.b f.c f.bc;
          bd = images_apart g.perm k.b k.d p f.b f.d f.bd;
          cd = images_apart g.perm k.c k.d p f.c f.d f.cd;
        };
        chosen = sym (class_across s.rows (z.skeleton).table s.vertices.classes s.vertices.count (z.skeleton).vertices (left_through k) g k.a e f.a f.ac) ∙ h.chosen;
      }

  pub mate_in : (k : Corner) → IsFlag k → IsFlag (mate s.rows k)
  mate_in k h = go (glue s.rows (left_through k)) refl
    where
      go : (o : Option Gluing) → glue s.rows (left_through k) ≡ o → IsFlag (mate s.rows k)
      go None e = subst IsFlag (sym (ap (where_led mate_behind k) e)) h
      go (Some g) e = subst IsFlag (sym (ap (where_led mate_behind k) e)) (glued_mate k h g e)

  pub mate_back : (k : Corner) → IsFlag k → mate s.rows (mate s.rows k) ≡ k
  mate_back k h = go (glue s.rows (left_through k)) refl
    where
      go : (o : Option Gluing) → glue s.rows (left_through k) ≡ o → mate s.rows (mate s.rows k) ≡ k
      go None e = ap (mate s.rows) (ap (where_led mate_behind k) e) ∙ ap (where_led mate_behind k) e
      go (Some g) e =
          let f : HasFourVertices n k = h.four in
          let p : IsPermutationOfFour g.perm = (z.skeleton).table.permutes (left_through k) g e in
          ap (mate s.rows) (ap (where_led mate_behind k) e) ∙ ap (where_led mate_behind (mate_behind k g)) ((z.skeleton).table.leads_back (left_through k) g e)
          ∙ (λ i. record {
            tet = k.tet;
            a = image-of_inverse g.perm k.a p f.a i;
            b = image-of_inverse g.perm k.b p f.b i;
            c = image-of_inverse g.perm k.c p f.c i;
            d = image-of_inverse g.perm k.d p f.d i;
          })

  -- two flags of one side are equal, or are those of its two ends
  pub side_parts : (k l : Corner) → IsFlag k → IsFlag l → side k ≡ side l → (k.tet ≡ l.tet) × (k.a ≡ l.a) × (k.c ≡ l.c)
  side_parts k l h m e = parts k.tet k.a k.c l.tet l.a l.c (h.four).a (h.four).c (m.four).a (m.four).c e
    where
      parts : (t a c t' a' c' : ℕ) → a < 4 → c < 4 → a' < 4 → c' < 4 → 4 * (4 * t + a) + c ≡ 4 * (4 * t' + a') + c' → (t ≡ t') × (a ≡ a') × (c ≡ c')
      parts t a c t' a' c' la lc la' lc' e = let x : t ≡ t' = omega arith in let y : a ≡ a' = omega arith in let w : c ≡ c' = omega arith in (x, y, w)
