-- Chains, components and signs of surfaces, shown by tests for the examples.
use Rattle.std.proofs.Common.{◌≡◌, ℕ, ◌<◌, Bool, true, false, not, List, [], ◌∷◌, length, replicate, map, Option, Some, None, refl, sym, ◌∙◌, subst, arith}
use Rattle.std.specs.Prelude.{◌==◌, ◌&&◌, nat_lt, if◌then◌else◌, slice_index}
use Rattle.std.specs.List.{list_all}
use Rattle.std.proofs.lemmas.Bool.{and_parts, eqb-false, ltb-true, not-true, false≢true}
use Rattle.std.proofs.lemmas.List.{get_or-replicate, length-replicate}
use Rattle.text_definitions.specs.Written.{limit}
use Rattle.table_definitions.specs.Permutation.{others}
use Rattle.table_definitions.specs.Table.{Gluing, Row, Face, glue, faces, IsTable}
use Rattle.table_definitions.specs.Lists.{below}
use Rattle.table_definitions.proofs.TableLaws.{Among, Among-map, Among-below, Among-faces, glued_face}
use Rattle.table_definitions.proofs.Tests.{list_all-among}
use Rattle.table_definitions.proofs.Listed.{Among-flat_map, Among-others}
use Rattle.surface_definitions.specs.Coordinates.{columns, clash_list}
use Rattle.surface_definitions.specs.declared.Coords.{Coords}
use Rattle.surface_definitions.specs.Equations.{matching_rows}
use Rattle.surface_definitions.specs.Verdict.{verdict, solution}
use Rattle.surface_definitions.specs.Laws.{IsAcceptedVector}
use Rattle.surface_definitions.proofs.VerdictLaws.{accepted_by}
use Rattle.surface_definitions.specs.Pieces.{NormalDisc, Arc, arcs_around, discs_of, disc_of, disc_number, arc_across, Meets, ArcsLead, SamePiece, AreComponents, HasSigns}
use Rattle.surface_definitions.proofs.SurfaceEvaluators.{arcs_at, meeting_arcs}
use Rattle.surface_laws.specs.MatchingLaws.{HasTriangles}
use Rattle.surface_laws.specs.PieceLaws.{IsSurface, face_of_arc, ChainsOfArcs}
use Rattle.surface_laws.proofs.PieceChains.{chains_of_arcs}
use Rattle.surface_laws.proofs.PieceNumbers.{same_piece, same_piece-true}

-- a vector that is accepted is a surface
pub surface_by : (rows : List Row) (coords : Coords) (xs : List ℕ) → IsTable rows → HasTriangles coords
    → verdict limit (columns coords (length rows)) (matching_rows coords rows) (clash_list coords (length rows)) xs ≡ solution → IsSurface rows coords xs
surface_by rows coords xs table triangles e =
    let a : IsAcceptedVector limit (columns coords (length rows)) (matching_rows coords rows) (clash_list coords (length rows)) xs =
    accepted_by limit (columns coords (length rows)) (matching_rows coords rows) (clash_list coords (length rows)) xs e in
    record { table = table; triangles = triangles; solves = a.solves; admissible = a.admissible }

abbrev pub is_there : List Row → Coords → List ℕ → Arc → Bool
is_there rows coords xs a = nat_lt a.tet (length rows) && (nat_lt a.vertex 4 && (not (a.vertex == a.face) && nat_lt a.place (arcs_around coords xs a.tet a.face a.vertex)))

meets_by : (rows : List Row) (coords : Coords) (xs : List ℕ) (a : Arc) (g : Gluing) → is_there rows coords xs a ≡ true → glue rows (face_of_arc a) ≡ Some g → Meets rows coords xs a g
meets_by rows coords xs a g t e =
    let one : (nat_lt a.tet (length rows) ≡ true) × ((nat_lt a.vertex 4 && (not (a.vertex == a.face) && nat_lt a.place (arcs_around coords xs a.tet a.face a.vertex))) ≡ true) =
    and_parts (nat_lt a.tet (length rows)) (nat_lt a.vertex 4 && (not (a.vertex == a.face) && nat_lt a.place (arcs_around coords xs a.tet a.face a.vertex))) t in
    let two : (nat_lt a.vertex 4 ≡ true) × ((not (a.vertex == a.face) && nat_lt a.place (arcs_around coords xs a.tet a.face a.vertex)) ≡ true) =
    and_parts (nat_lt a.vertex 4) (not (a.vertex == a.face) && nat_lt a.place (arcs_around coords xs a.tet a.face a.vertex)) one.1 in
    let three : (not (a.vertex == a.face) ≡ true) × (nat_lt a.place (arcs_around coords xs a.tet a.face a.vertex) ≡ true) =
    and_parts (not (a.vertex == a.face)) (nat_lt a.place (arcs_around coords xs a.tet a.face a.vertex)) two.1 in
    record {
      in_range = ltb-true a.tet (length rows) one.0;
      is_vertex = ltb-true a.vertex 4 two.0;
      off_vertex = eqb-false a.vertex a.face (not-true (a.vertex == a.face) three.0);
      there = ltb-true a.place (arcs_around coords xs a.tet a.face a.vertex) three.1;
      glued = e;
    }

-- whether an arc is one of piece p, and the piece across its gluing passes the test `rest`
abbrev pub step_passes : List Row → Coords → List ℕ → NormalDisc → Arc → Option Gluing → (NormalDisc → Bool) → Bool
step_passes rows coords xs p a None rest = false
step_passes rows coords xs p a (Some g) rest = is_there rows coords xs a && (same_piece (disc_of coords xs a) p && rest (disc_of coords xs (arc_across g a)))

abbrev pub do_lead : List Row → Coords → List ℕ → List Arc → NormalDisc → NormalDisc → Bool
do_lead rows coords xs [] q p = same_piece p q
do_lead rows coords xs (a ∷ arcs) q p = step_passes rows coords xs p a (glue rows (face_of_arc a)) (do_lead rows coords xs arcs q)

pub lead_by : (rows : List Row) (coords : Coords) (xs : List ℕ) (arcs : List Arc) (p q : NormalDisc) → do_lead rows coords xs arcs q p ≡ true → ArcsLead rows coords xs p arcs q
lead_by rows coords xs [] p q t = same_piece-true p q t
lead_by rows coords xs (a ∷ arcs) p q t = go (glue rows (face_of_arc a)) refl t (λ r h. lead_by rows coords xs arcs r q h)
  where
    go : (o : Option Gluing) → glue rows (face_of_arc a) ≡ o → step_passes rows coords xs p a o (do_lead rows coords xs arcs q) ≡ true
        → ((r : NormalDisc) → do_lead rows coords xs arcs q r ≡ true → ArcsLead rows coords xs r arcs q) → ArcsLead rows coords xs p (a ∷ arcs) q
    go None e h rest = absurd (false≢true h)
    go (Some g) e h rest =
        let next : NormalDisc = disc_of coords xs (arc_across g a) in
        let one : (is_there rows coords xs a ≡ true) × ((same_piece (disc_of coords xs a) p && do_lead rows coords xs arcs q next) ≡ true) =
        and_parts (is_there rows coords xs a) (same_piece (disc_of coords xs a) p && do_lead rows coords xs arcs q next) h in
        let two : (same_piece (disc_of coords xs a) p ≡ true) × (do_lead rows coords xs arcs q next ≡ true) = and_parts (same_piece (disc_of coords xs a) p) (do_lead rows coords xs arcs q next) one.1 in
        (g, meets_by rows coords xs a g one.0 e, same_piece-true (disc_of coords xs a) p two.0, rest next two.1)

-- a surface of which each piece is joined to the first is one component
pub one_component : (rows : List Row) (coords : Coords) (xs : List ℕ) → IsSurface rows coords xs → 0 < length (discs_of xs)
    → ((i : ℕ) → i < length (discs_of xs) → SamePiece rows coords xs 0 i) → AreComponents rows coords xs (replicate (length (discs_of xs)) 0) 1
one_component rows coords xs s some all = record {
  one_each = length-replicate n 0;
  in_range = λ i l. let z : slice_index (replicate n 0) i ≡ 0 = get_or-replicate n i 0 0 l in omega arith;
  together = λ i j li lj. ((λ e. c.further i 0 j (c.back 0 i (all i li)) (all j lj)), (λ h. get_or-replicate n i 0 0 li ∙ sym (get_or-replicate n j 0 0 lj)));
  ascending = λ i d l m. absurd (let z : slice_index (replicate n 0) i ≡ 0 = get_or-replicate n i 0 0 l in omega arith);
  none_empty = λ d l. (0, some, get_or-replicate n 0 0 0 some ∙ (let z : 0 ≡ d = omega arith in z));
}
  where
    n : ℕ
    n = length (discs_of xs)

    c : ChainsOfArcs rows coords xs
    c = chains_of_arcs rows coords xs s

-- an arc that meets another is among those that are listed
pub among_meeting : (rows : List Row) (coords : Coords) (xs : List ℕ) (a : Arc) (g : Gluing) → IsTable rows → Meets rows coords xs a g → Among {A = Arc × Gluing} (a, g) (meeting_arcs rows coords xs)
among_meeting rows coords xs a g table m =
    let x : Face = face_of_arc a in
    let lf : a.face < 4 = glued_face rows x g table.four_faces m.glued in
    let of_vertex : Among {A = Arc × Gluing} (a, g) (arcs_at coords xs x (Some g)) =
    Among-flat_map {B = Arc × Gluing} (λ v. map (λ k. let p : Arc × Gluing = (record { tet = x.tet; face = x.face; vertex = v; place = k }, g) in p) (below (arcs_around coords xs x.tet x.face v))) a.vertex (a, g) (others x.face)
    (Among-others a.face a.vertex m.is_vertex m.off_vertex)
    (Among-map {B = Arc × Gluing} (λ k. let p : Arc × Gluing = (record { tet = x.tet; face = x.face; vertex = a.vertex; place = k }, g) in p) a.place (below (arcs_around coords xs x.tet x.face a.vertex)) (Among-below a.place (arcs_around coords xs x.tet x.face a.vertex) m.there)) in
    Among-flat_map {B = Arc × Gluing} (λ x. arcs_at coords xs x (glue rows x)) x (a, g) (faces (length rows)) (Among-faces x (length rows) m.in_range lf)
    (subst (λ o. Among {A = Arc × Gluing} (a, g) (arcs_at coords xs x o)) (sym m.glued) of_vertex)

abbrev pub same_truth : Bool → Bool → Bool
same_truth true b = b
same_truth false b = not b

same_truth-true : (a b : Bool) → same_truth a b ≡ true → a ≡ b
same_truth-true true true e = refl
same_truth-true true false e = absurd (false≢true e)
same_truth-true false true e = absurd (false≢true e)
same_truth-true false false e = refl

-- whether the sign stays the same across an arc if and only if the test `stays` passes there
abbrev pub sign_fits : Coords → List ℕ → (ℕ → Bool) → (Arc → Gluing → Bool) → Arc × Gluing → Bool
sign_fits coords xs sign stays m =
    same_truth (sign (disc_number xs (disc_of coords xs (arc_across m.1 m.0)))) (if stays m.0 m.1 then sign (disc_number xs (disc_of coords xs m.0)) else not (sign (disc_number xs (disc_of coords xs m.0))))

pub signs_by : (rows : List Row) (coords : Coords) (xs components : List ℕ) (i : ℕ) (stays : Arc → Gluing → Bool) (sign : ℕ → Bool) → IsTable rows
    → list_all (sign_fits coords xs sign stays) (meeting_arcs rows coords xs) ≡ true → HasSigns rows coords xs components i stays
signs_by rows coords xs components i stays sign table t =
    (sign, λ a g m e. same_truth-true _ _ (list_all-among (sign_fits coords xs sign stays) (a, g) (meeting_arcs rows coords xs) t (among_meeting rows coords xs a g table m)))
