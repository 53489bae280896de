-- A legal move results in a table, which is defined face by face.
use Rattle.std.proofs.Common.{◌≡◌, ℕ, zero, suc, ◌<◌, ◌≤◌, List, [], length, map, get_or, Option, Some, None, refl, sym, ap, ◌∙◌, subst, arith, inl, inr}
use Rattle.std.specs.Prelude.{◌⊎◌, ◌≢◌, option_and_then}
use Rattle.std.proofs.lemmas.Bool.{cases_lt}
use Rattle.std.proofs.lemmas.List.{get_or-map, length-map}
use Rattle.std.proofs.lemmas.List.Elements.{All-from_get_or}
use Rattle.std.proofs.lemmas.List.FromFn.{length-range_with_len, get_or-map-range_with_len}
use Rattle.table_definitions.specs.Lists.{below}
use Rattle.table_definitions.specs.Permutation.{four, image}
use Rattle.table_definitions.specs.Table.{Gluing, Row, Face, glue, IsTable}
use Rattle.table_definitions.specs.Relabelling.{face_under}
use Rattle.table_definitions.proofs.Faces.{face_at}
use Rattle.move_definitions.specs.Moves.{Move, IsCore, opposite, new_length, new_facet, label_by_label, moved_gluing, place_after}
use Rattle.move_definitions.specs.Laws.{LegalMovesLeadOn}
use Rattle.move_definitions.proofs.CoreTests.{core_size}
use Rattle.move_laws.proofs.ListedFacets.{same_some}
use Rattle.move_laws.proofs.Labels.{ascending, new_labels, HasVertex, vertex_at}
use Rattle.move_laws.proofs.Legal.{HasNoFault, no_fault}
use Rattle.move_laws.proofs.Covered.{StandsForOld, IsInner, covered}
use Rattle.move_laws.proofs.Shapes.{shape, IsKeptFace, IsFacetFace, stands_for_one, inner_stands_for_none, inner_once, stand_in_range}

-- the gluing of a new face: between new facets, or the image of the gluing of the old face that it replaces
abbrev pub inner_gluing : List Row → Move → ℕ → ℕ → Option Gluing
inner_gluing rows m j l = Some (record { tet = (new_facet rows m l).tet; perm = label_by_label (new_facet rows m j) (new_facet rows m l) })

gluing_of : (rows : List Row) (m : Move) (y : Face) → StandsForOld rows m y ⊎ IsInner rows m y → Option Gluing
gluing_of rows m y (inl o) = option_and_then (moved_gluing rows m o.old o.by) (glue rows o.old)
gluing_of rows m y (inr n) = inner_gluing rows m n.j n.l

gluing_at : (rows : List Row) (m : Move) → IsTable rows → HasNoFault rows m → IsCore m.core → (y : Face) → (y.tet < new_length rows m) ⊎ (new_length rows m ≤ y.tet) → (y.face < 4) ⊎ (4 ≤ y.face) → Option Gluing
gluing_at rows m table h c y (inl lt) (inl lf) = gluing_of rows m y (covered rows m y table h c lt lf)
gluing_at rows m table h c y (inl lt) (inr out) = None
gluing_at rows m table h c y (inr out) f = None

made_gluing : (rows : List Row) (m : Move) → IsTable rows → HasNoFault rows m → IsCore m.core → Face → Option Gluing
made_gluing rows m table h c y = gluing_at rows m table h c y (cases_lt y.tet (new_length rows m)) (cases_lt y.face 4)

made_row : (rows : List Row) (m : Move) → IsTable rows → HasNoFault rows m → IsCore m.core → ℕ → Row
made_row rows m table h c t = map (λ v. made_gluing rows m table h c (face_at t v)) four

made : (rows : List Row) (m : Move) → IsTable rows → HasNoFault rows m → IsCore m.core → List Row
made rows m table h c = map (made_row rows m table h c) (below (new_length rows m))

-- the gluing does not depend on the old face that was found
outer_value : (rows : List Row) (m : Move) → IsTable rows → HasNoFault rows m → IsCore m.core → (x : Face) (s : Gluing) → x.tet < length rows → x.face < 4 → place_after rows m x ≡ Some s
    → (k : StandsForOld rows m (face_under s x) ⊎ IsInner rows m (face_under s x)) → gluing_of rows m (face_under s x) k ≡ option_and_then (moved_gluing rows m x s) (glue rows x)
unfolding gluing_of
outer_value rows m table h c x s lt lf occurs (inl o) =
    let there : IsKeptFace rows m o.old (face_under s x) o.by ⊎ IsFacetFace rows m o.old (face_under s x) o.by =
    subst (λ (y : Face). IsKeptFace rows m o.old y o.by ⊎ IsFacetFace rows m o.old y o.by) o.is (shape rows m table h c o.old o.by o.tet o.face o.occurs) in
    let same : o.old ≡ x = stands_for_one rows m table h c o.old x (face_under s x) o.by s o.tet lt there (shape rows m table h c x s lt lf occurs) in
    let by : o.by ≡ s = same_some (place_after rows m x) o.by s (ap (place_after rows m) (sym same) ∙ o.occurs) occurs in
    ap (λ (z : Face). option_and_then (moved_gluing rows m z o.by) (glue rows z)) same ∙ ap (λ (g : Gluing). option_and_then (moved_gluing rows m x g) (glue rows x)) by
outer_value rows m table h c x s lt lf occurs (inr n) = absurd (inner_stands_for_none rows m c x (face_under s x) s (shape rows m table h c x s lt lf occurs) n)

inner_value : (rows : List Row) (m : Move) → IsTable rows → HasNoFault rows m → IsCore m.core → (y : Face) (n : IsInner rows m y) (k : StandsForOld rows m y ⊎ IsInner rows m y) → gluing_of rows m y k ≡ inner_gluing rows m n.j n.l
unfolding gluing_of
inner_value rows m table h c y n (inl o) =
    absurd (inner_stands_for_none rows m c o.old y o.by (subst (λ (z : Face). IsKeptFace rows m o.old z o.by ⊎ IsFacetFace rows m o.old z o.by) o.is (shape rows m table h c o.old o.by o.tet o.face o.occurs)) n)
inner_value rows m table h c y n (inr n') =
    let same : (n'.j ≡ n.j) × (n'.l ≡ n.l) = inner_once rows m c y n' n in
    ap (λ j. inner_gluing rows m j n'.l) same.0 ∙ ap (inner_gluing rows m n.j) same.1

-- the faces of the table so defined

made_face : (rows : List Row) (m : Move) (table : IsTable rows) (h : HasNoFault rows m) (c : IsCore m.core) (y : Face) → y.tet < new_length rows m → y.face < 4 → glue (made rows m table h c) y ≡ made_gluing rows m table h c y
unfolding made made_row
made_face rows m table h c y lt lf =
    ap (λ (row : Row). get_or row y.face None) (get_or-map-range_with_len (made_row rows m table h c) 0 (new_length rows m) y.tet y.tet [] lt (omega arith))
    ∙ get_or-map (λ v. made_gluing rows m table h c (face_at y.tet v)) four y.face 0 None (let l : length four ≡ 4 = refl in omega arith)
    ∙ ap (λ v. made_gluing rows m table h c (face_at y.tet v)) (four_at y.face lf)
  where
    four_at : (v : ℕ) → v < 4 → get_or four v 0 ≡ v
    four_at zero l = refl
    four_at (suc zero) l = refl
    four_at (suc (suc zero)) l = refl
    four_at (suc (suc (suc zero))) l = refl
    four_at (suc (suc (suc (suc v)))) l = absurd (omega arith)

made_value : (rows : List Row) (m : Move) (table : IsTable rows) (h : HasNoFault rows m) (c : IsCore m.core) (y : Face) (o : Option Gluing) → y.tet < new_length rows m → y.face < 4
    → ((k : StandsForOld rows m y ⊎ IsInner rows m y) → gluing_of rows m y k ≡ o) → glue (made rows m table h c) y ≡ o
unfolding made_gluing
made_value rows m table h c y o lt lf value = made_face rows m table h c y lt lf ∙ at (cases_lt y.tet (new_length rows m)) (cases_lt y.face 4)
  where
    at : (a : (y.tet < new_length rows m) ⊎ (new_length rows m ≤ y.tet)) (b : (y.face < 4) ⊎ (4 ≤ y.face)) → gluing_at rows m table h c y a b ≡ o
    at (inl lt') (inl lf') = unfold gluing_at in value (covered rows m y table h c lt' lf')
    at (inl lt') (inr out) = absurd (omega arith)
    at (inr out) b = absurd (omega arith)

made_fours : (rows : List Row) (m : Move) (table : IsTable rows) (h : HasNoFault rows m) (c : IsCore m.core) (k : ℕ) → k < length (made rows m table h c) → length (get_or (made rows m table h c) k []) ≡ 4
unfolding made made_row
made_fours rows m table h c k l =
    let l' : k < new_length rows m = omega (arith, length-map (below (new_length rows m)) (made_row rows m table h c), length-range_with_len 0 (new_length rows m)) in
    ap length (get_or-map-range_with_len (made_row rows m table h c) 0 (new_length rows m) k k [] l' (omega arith))

pub legal_moves_lead_on_lem : LegalMovesLeadOn
legal_moves_lead_on_lem rows m table c legal = (
  made rows m table h c,
  record {
    core = c;
    legal = legal;
    length_is = unfold made in length-map (below (new_length rows m)) (made_row rows m table h c) ∙ length-range_with_len 0 (new_length rows m);
    four_faces = All-from_get_or (λ (row : Row). length row ≡ 4) (made rows m table h c) [] (made_fours rows m table h c);
    inner = λ j l hj hl d. made_inner j l hj hl d;
    outer = λ x s lt lf occurs. (let r : (s.tet < new_length rows m) × (image s.perm x.face < 4) = stand_in_range rows m table h c x s lt lf occurs in
        made_value rows m table h c (face_under s x) (option_and_then (moved_gluing rows m x s) (glue rows x)) r.0 r.1 (outer_value rows m table h c x s lt lf occurs));
  },
)
  where
    h : HasNoFault rows m
    h = no_fault rows m legal

    made_inner : (j l : ℕ) → j < length m.core → l < length m.core → j ≢ l → glue (made rows m table h c) (opposite (new_facet rows m j) l) ≡ inner_gluing rows m j l
    made_inner j l hj hl d =
        let limited : length m.core < 5 = (core_size m.core c).1 in
        let v : HasVertex (ascending j) l = vertex_at j (ascending j) (new_labels j (omega arith)) l (omega arith) (λ e. d (sym e)) in
        let n : IsInner rows m (opposite (new_facet rows m j) l) = record { j = j; l = l; j_small = hj; l_small = hl; separate = d; is = refl } in
        made_value rows m table h c (opposite (new_facet rows m j) l) (inner_gluing rows m j l) (omega arith) v.small (inner_value rows m table h c (opposite (new_facet rows m j) l) n)
