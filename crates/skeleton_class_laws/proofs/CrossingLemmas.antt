-- The images of simplices across a face, case by case.
use Rattle.std.proofs.Common.{◌≡◌, ℕ, ◌+◌, ◌*◌, ◌/◌, ◌%◌, true, false, List, [], ◌∷◌, Option, Some, None, refl, sym, ap, ◌∙◌, arith}
use Rattle.std.specs.Prelude.{◌==◌, option_map, slice_index}
use Rattle.table_definitions.specs.Permutation.{image, others}
use Rattle.table_definitions.specs.Table.{Gluing, Row, glue}
use Rattle.skeleton_definitions.specs.Links.{directed}
use Rattle.table_definitions.specs.Places.{Place, across, edge, ends, face_of}
use Rattle.skeleton_class_laws.specs.Crossings.{crossed_vertex, crossed_face, crossed_edge, crossed_direction, edge_at, direction_at, pair}
use Rattle.skeleton_class_laws.proofs.Cases.{head}

pub crossed_vertex-own : (rows : List Row) (i f : ℕ) → (i % 4 == f) ≡ true → crossed_vertex rows i f ≡ None
unfolding crossed_vertex
crossed_vertex-own rows i f e = rw e refl

pub crossed_vertex-free : (rows : List Row) (i f : ℕ) → (i % 4 == f) ≡ false → glue rows (record { tet = i / 4; face = f }) ≡ None → crossed_vertex rows i f ≡ None
unfolding crossed_vertex
crossed_vertex-free rows i f e h = rw (e, h) refl

pub crossed_vertex-glued : (rows : List Row) (i f : ℕ) (g : Gluing) → (i % 4 == f) ≡ false → glue rows (record { tet = i / 4; face = f }) ≡ Some g
    → crossed_vertex rows i f ≡ Some (4 * g.tet + image g.perm (i % 4))
unfolding crossed_vertex
crossed_vertex-glued rows i f g e h = rw (e, h) refl

pub crossed_face-other : (rows : List Row) (i f : ℕ) → (f == 0) ≡ false → crossed_face rows i f ≡ None
unfolding crossed_face
crossed_face-other rows i f e = rw e refl

pub crossed_face-free : (rows : List Row) (i f : ℕ) → f ≡ 0 → glue rows (face_of i) ≡ None → crossed_face rows i f ≡ None
unfolding crossed_face
crossed_face-free rows i f e h = rw (e, h) refl

pub crossed_face-glued : (rows : List Row) (i f : ℕ) (g : Gluing) → f ≡ 0 → glue rows (face_of i) ≡ Some g → crossed_face rows i f ≡ Some (4 * g.tet + image g.perm (i % 4))
unfolding crossed_face
crossed_face-glued rows i f g e h = rw (e, h) refl

-- the image of a vertex, as the code computes it
pub crossed_vertex-is : (rows : List Row) (i f : ℕ) (g : Gluing) (a b : ℕ) → (i % 4 == f) ≡ false → Some g ≡ glue rows (record { tet = i / 4; face = f })
    → a ≡ g.tet → b ≡ image g.perm (i % 4) → Some (4 * a + b) ≡ crossed_vertex rows i f
crossed_vertex-is rows i f g a b e h ea eb = rw (ea, eb) (sym (crossed_vertex-glued rows i f g e (sym h)))

pub crossed_face-is : (rows : List Row) (i f : ℕ) (g : Gluing) (a b : ℕ) → f ≡ 0 → Some g ≡ glue rows (face_of i)
    → a ≡ g.tet → b ≡ image g.perm (i % 4) → Some (4 * a + b) ≡ crossed_face rows i f
crossed_face-is rows i f g a b e h ea eb = rw (ea, eb) (sym (crossed_face-glued rows i f g e (sym h)))

-- the image of a directed edge
pub across-first : (rows : List Row) (t a b f : ℕ) → (a == f) ≡ true → across rows (pair t a b) f ≡ None
across-first rows t a b f h = rw h refl

pub across-second : (rows : List Row) (t a b f : ℕ) → (a == f) ≡ false → (b == f) ≡ true → across rows (pair t a b) f ≡ None
across-second rows t a b f h k = rw (h, k) refl

pub across-free : (rows : List Row) (t a b f : ℕ) → (a == f) ≡ false → (b == f) ≡ false → glue rows (record { tet = t; face = f }) ≡ None → across rows (pair t a b) f ≡ None
across-free rows t a b f h k g = rw (h, k, g) refl

pub across-glued : (rows : List Row) (t a b f : ℕ) (g : Gluing) → (a == f) ≡ false → (b == f) ≡ false → glue rows (record { tet = t; face = f }) ≡ Some g
    → across rows (pair t a b) f ≡ Some (pair g.tet (image g.perm a) (image g.perm b))
across-glued rows t a b f g h k s = rw (h, k, s) refl

-- edges and directed edges as pairs of vertices
pub edge_is : (i a b : ℕ) → ends (i % 6) ≡ a ∷ b ∷ [] → edge i ≡ pair (i / 6) a b
edge_is i a b e = λ k. record { tet = i / 6; vertices = e k }

pub directed_is : (i a b : ℕ) → a ≡ (i % 12) / 3 → b ≡ head (i % 12) → directed i ≡ pair (i / 12) a b
directed_is i a b ea eb =
    let m : i % 3 ≡ (i % 12) % 3 = omega arith in
    let e : slice_index (others ((i % 12) / 3)) (i % 3) ≡ b = ap (slice_index (others ((i % 12) / 3))) m ∙ sym eb in
    let f : (i % 12) / 3 ≡ a = sym ea in
    λ k. record { tet = i / 12; vertices = f k ∷ e k ∷ [] }

pub crossed_edge-by : (rows : List Row) (i f a b : ℕ) (q : Option Place) → ends (i % 6) ≡ a ∷ b ∷ [] → across rows (pair (i / 6) a b) f ≡ q → option_map edge_at q ≡ crossed_edge rows i f
unfolding crossed_edge
crossed_edge-by rows i f a b q e h = sym (ap (λ (p : Place). option_map edge_at (across rows p f)) (edge_is i a b e) ∙ ap (λ (o : Option Place). option_map edge_at o) h)

pub crossed_direction-by : (rows : List Row) (i f a b : ℕ) (q : Option Place) → a ≡ (i % 12) / 3 → b ≡ head (i % 12) → across rows (pair (i / 12) a b) f ≡ q
    → option_map direction_at q ≡ crossed_direction rows i f
unfolding crossed_direction
crossed_direction-by rows i f a b q ea eb h =
    sym (ap (λ (p : Place). option_map direction_at (across rows p f)) (directed_is i a b ea eb) ∙ ap (λ (o : Option Place). option_map direction_at o) h)

pub number_is : (n m : ℕ) (g : Gluing) (x y : ℕ) → x ≡ g.tet → y ≡ m → Some (n * x + y) ≡ Some (n * g.tet + m)
number_is n m g x y ex ey = rw (ex, ey) refl
