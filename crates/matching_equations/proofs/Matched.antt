-- The rows of the faces of a table, one more face at a time.
use Rattle.std.proofs.Common.{◌≡◌, ◌≢◌, ℕ, ◌+◌, Bool, true, false, cond, ℤ, not, List, [], ◌∷◌, ◌++◌, length, map, filter, Option, Some, None, refl, sym, ap, ◌∙◌, append_assoc, append-nil}
use Rattle.std.specs.List.{cons_option, filter_map, flat_map}
use Rattle.std.specs.Prelude.{◌==◌, if◌then◌else◌}
use Rattle.std.proofs.lemmas.Bool.{eq-eqb, ne_eqb}
use Rattle.std.proofs.lemmas.List.{map-append}
use Rattle.std.proofs.lemmas.Grind.{flat_map-append}
use Rattle.table_definitions.specs.Lists.{below}
use Rattle.table_definitions.specs.Permutation.{four, others}
use Rattle.table_definitions.specs.Table.{Gluing, Row, Face, glue, other_side, faces, is_face_before}
use Rattle.table_definitions.proofs.Faces.{face_at}
use Rattle.surface_definitions.specs.Coordinates.{columns}
use Rattle.surface_definitions.specs.declared.Coords.{Coords}
use Rattle.surface_definitions.specs.Equations.{Equation, matching, matching_equations, matching_rows, row_of, smaller_side, glued_pairs}
use Rattle.matching_equations.specs.Matching.{glued_rows, face_rows, rows_if_smaller, tet_rows}
use Rattle.surface_definitions.proofs.Ranges.{filter-more, flat_map-more}

abbrev pub Rows : Type 0
Rows = List (List (ℕ × ℤ))

-- the rows for the vertices below v
abbrev pub glued_before : Coords → ℕ → Face → Gluing → ℕ → Rows
glued_before coords n x g v = map (row_of n) (map (matching coords x g) (filter (λ w. not (w == x.face)) (below v)))

glued_if : (coords : Coords) (n : ℕ) (x : Face) (g : Gluing) (v : ℕ) (b : Bool) → not (v == x.face) ≡ b
    → glued_before coords n x g (v + 1) ≡ glued_before coords n x g v ++ map (row_of n) (map (matching coords x g) (cond b (v ∷ []) []))
glued_if coords n x g v b e =
    let f : List ℕ → Rows = λ vs. map (row_of n) (map (matching coords x g) vs) in
    let vs : List ℕ = filter (λ w. not (w == x.face)) (below v) in
    ap f (filter-more (λ w. not (w == x.face)) v ∙ ap (λ c. vs ++ cond c (v ∷ []) []) e)
    ∙ ap (map (row_of n)) (map-append (matching coords x g) vs (cond b (v ∷ []) []))
    ∙ map-append (row_of n) (map (matching coords x g) vs) (map (matching coords x g) (cond b (v ∷ []) []))

pub glued_push : (coords : Coords) (n : ℕ) (x : Face) (g : Gluing) (v : ℕ) (old now new : Rows) → v ≢ x.face → now ≡ old ++ glued_before coords n x g v
    → new ≡ now ++ row_of n (matching coords x g v) ∷ [] → new ≡ old ++ glued_before coords n x g (v + 1)
glued_push coords n x g v old now new ne e f =
    f ∙ ap (λ r. r ++ row_of n (matching coords x g v) ∷ []) e ∙ append_assoc old (glued_before coords n x g v) (row_of n (matching coords x g v) ∷ [])
    ∙ ap (λ r. old ++ r) (sym (glued_if coords n x g v true (ap not (ne_eqb v x.face ne))))

pub glued_skip : (coords : Coords) (n : ℕ) (x : Face) (g : Gluing) (v : ℕ) (old now : Rows) → v ≡ x.face → now ≡ old ++ glued_before coords n x g v
    → now ≡ old ++ glued_before coords n x g (v + 1)
glued_skip coords n x g v old now same e =
    e ∙ ap (λ r. old ++ r) (sym (glued_if coords n x g v false (ap not (eq-eqb v x.face same)) ∙ append-nil (glued_before coords n x g v)))

pub glued_whole : (coords : Coords) (n : ℕ) (x : Face) (g : Gluing) → glued_before coords n x g 4 ≡ glued_rows coords n x g
unfolding glued_rows
glued_whole coords n x g = refl

-- the rows of a face
pub face_rows-lesser : (coords : Coords) (rows : List Row) (n : ℕ) (x : Face) (g : Gluing) → Some g ≡ glue rows x → is_face_before x (other_side x g) ≡ true → face_rows coords rows n x ≡ glued_rows coords n x g
unfolding face_rows
face_rows-lesser coords rows n x g e b = ap (rows_if_smaller coords n x) (sym e) ∙ ap (λ c. if c then glued_rows coords n x g else []) b

pub face_rows-greater : (coords : Coords) (rows : List Row) (n : ℕ) (x : Face) (g : Gluing) → Some g ≡ glue rows x → is_face_before x (other_side x g) ≡ false → face_rows coords rows n x ≡ []
unfolding face_rows
face_rows-greater coords rows n x g e b = ap (rows_if_smaller coords n x) (sym e) ∙ ap (λ c. if c then glued_rows coords n x g else []) b

pub face_rows-boundary : (coords : Coords) (rows : List Row) (n : ℕ) (x : Face) → None ≡ glue rows x → face_rows coords rows n x ≡ []
unfolding face_rows
face_rows-boundary coords rows n x e = ap (rows_if_smaller coords n x) (sym e)

-- one more face, or one more tetrahedron
pub appended_more : (f : ℕ → Rows) (k : ℕ) (old now new : Rows) → now ≡ old ++ flat_map f (below k) → new ≡ now ++ f k → new ≡ old ++ flat_map f (below (k + 1))
appended_more f k old now new e g = g ∙ ap (λ r. r ++ f k) e ∙ append_assoc old (flat_map f (below k)) (f k) ∙ ap (λ r. old ++ r) (sym (flat_map-more f k))

pub tet_whole : (coords : Coords) (rows : List Row) (n t : ℕ) → flat_map (λ f. face_rows coords rows n (face_at t f)) (below 4) ≡ tet_rows coords rows n t
unfolding tet_rows
tet_whole coords rows n t = refl

-- all rows
abbrev equations_of : Coords → Face × Gluing → List Equation
equations_of coords y = map (matching coords y.0 y.1) (others (y.0).face)

abbrev rows_of_pairs : Coords → ℕ → List (Face × Gluing) → Rows
rows_of_pairs coords n ys = map (row_of n) (flat_map (equations_of coords) ys)

one_face : (coords : Coords) (n : ℕ) (x : Face) (g : Option Gluing) (ys : List (Face × Gluing))
    → rows_of_pairs coords n (cons_option (smaller_side x g) ys) ≡ rows_if_smaller coords n x g ++ rows_of_pairs coords n ys
unfolding glued_rows
one_face coords n x None ys = refl
one_face coords n x (Some g) ys = go (is_face_before x (other_side x g))
  where
    go : (b : Bool) → rows_of_pairs coords n (cons_option (if b then Some (x, g) else None) ys) ≡ (if b then glued_rows coords n x g else []) ++ rows_of_pairs coords n ys
    go true = map-append (row_of n) (equations_of coords (x, g)) (flat_map (equations_of coords) ys)
    go false = refl

all_faces : (coords : Coords) (rows : List Row) (n : ℕ) (xs : List Face) → rows_of_pairs coords n (filter_map (λ x. smaller_side x (glue rows x)) xs) ≡ flat_map (face_rows coords rows n) xs
unfolding face_rows
all_faces coords rows n [] = refl
all_faces coords rows n (x ∷ xs) =
    one_face coords n x (glue rows x) (filter_map (λ y. smaller_side y (glue rows y)) xs) ∙ ap (λ r. rows_if_smaller coords n x (glue rows x) ++ r) (all_faces coords rows n xs)

by_tets : (F : Face → Rows) (g : ℕ × ℕ → Face) (h : ℕ → List (ℕ × ℕ)) (ts : List ℕ) → flat_map F (map g (flat_map h ts)) ≡ flat_map (λ t. flat_map F (map g (h t))) ts
by_tets F g h [] = refl
by_tets F g h (t ∷ ts) =
    ap (flat_map F) (map-append g (h t) (flat_map h ts)) ∙ flat_map-append F (map g (h t)) (map g (flat_map h ts)) ∙ ap (λ r. flat_map F (map g (h t)) ++ r) (by_tets F g h ts)

pub all_rows : (coords : Coords) (rows : List Row) → flat_map (tet_rows coords rows (columns coords (length rows))) (below (length rows)) ≡ matching_rows coords rows
unfolding matching_equations glued_pairs tet_rows
all_rows coords rows =
    let n : ℕ = columns coords (length rows) in
    sym (all_faces coords rows n (faces (length rows)) ∙ by_tets (face_rows coords rows n) (λ p. record { tet = p.0; face = p.1 }) (λ t. map (λ f. (t, f)) four) (below (length rows)))
