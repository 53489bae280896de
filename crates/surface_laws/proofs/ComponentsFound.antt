-- The pieces of a surface have components.
use Rattle.std.proofs.Common.{◌≡◌, ℕ, ◌<◌, Bool, true, false, List, length, map, filter_map, Option, Some, None, refl, sym, ap, ◌∙◌, subst}
use Rattle.std.specs.Prelude.{◌==◌, if◌then◌else◌}
use Rattle.std.proofs.lemmas.Bool.{eq-eqb, eqb-true}
use Rattle.table_definitions.specs.Table.{Gluing, Row, Face, glue, faces, IsTable}
use Rattle.table_definitions.specs.Lists.{below}
use Rattle.table_definitions.specs.Permutation.{others}
use Rattle.table_definitions.proofs.TableLaws.{Among}
use Rattle.surface_definitions.specs.declared.Coords.{Coords}
use Rattle.surface_definitions.specs.Pieces.{Arc, arcs_around, arc_across, disc_of, discs_of, disc_number, Meets, SamePiece}
use Rattle.surface_definitions.proofs.SurfaceEvaluators.{arcs_at, meeting_arcs}
use Rattle.surface_laws.specs.PieceLaws.{IsSurface, AreMeetingPieces, JoinComponents, HasComponents}
use Rattle.surface_laws.proofs.Solved.{other_is}
use Rattle.surface_laws.proofs.PieceTests.{among_meeting}
use Rattle.surface_laws.proofs.MeetingPieces.{join_components}
use Rattle.table_walk_laws.proofs.Numberings.{HasNumbering, numbering_exists}
use Rattle.table_definitions.proofs.Listed.{contains_among, among_contains, Among-filter_map, filter_map-among, flat_map-among, map-among, faces-among, below-among}

pub some_if : (b : Bool) (k j : ℕ) → (if b then Some k else None) ≡ Some j → (b ≡ true) × (k ≡ j)
some_if true k j e = (refl, cc)
some_if false k j e = absurd cc

module _ (rows : List Row) (coords : Coords) (xs : List ℕ) (table : IsTable rows) where
  -- an arc that is listed meets another
  record IsListed (m : Arc × Gluing) : Type 0 where
    meets : Meets rows coords xs m.0 m.1

  listed_at : (x : Face) (o : Option Gluing) (m : Arc × Gluing) → x.tet < length rows → glue rows x ≡ o → Among m (arcs_at coords xs x o) → IsListed m
  listed_at x None m l e h = absurd h
  listed_at x (Some g) m l e h =
      let a : (v : ℕ) × Among v (others x.face) × Among m (of_vertex v) = flat_map-among of_vertex m (others x.face) h in
      let b : (k : ℕ) × Among k (below (arcs_around coords xs x.tet x.face a.0)) × (m ≡ arc_there a.0 k) = map-among (arc_there a.0) m (below (arcs_around coords xs x.tet x.face a.0)) a.2 in
      let o : (a.0 < 4) × (a.0 ≡ x.face → ⊥) = other_is x.face a.0 a.1 in
      let here : IsListed (arc_there a.0 b.0) = record { meets = record { in_range = l; is_vertex = o.0; off_vertex = o.1; there = below-among b.0 (arcs_around coords xs x.tet x.face a.0) b.1; glued = e } } in
      subst IsListed (sym b.2) here
    where
      arc_there : ℕ → ℕ → Arc × Gluing
      arc_there v k = (record { tet = x.tet; face = x.face; vertex = v; place = k }, g)

      of_vertex : ℕ → List (Arc × Gluing)
      of_vertex v = map (arc_there v) (below (arcs_around coords xs x.tet x.face v))

  pub listed : (m : Arc × Gluing) → Among m (meeting_arcs rows coords xs) → Meets rows coords xs m.0 m.1
  listed m h =
      let a : (x : Face) × Among x (faces (length rows)) × Among m (arcs_at coords xs x (glue rows x)) = flat_map-among (λ x. arcs_at coords xs x (glue rows x)) m (faces (length rows)) h in
      let l : IsListed m = listed_at a.0 (glue rows a.0) m (faces-among a.0 (length rows) a.1).0 refl a.2 in
      l.meets

  abbrev from_piece : ℕ → Arc × Gluing → Option ℕ
  from_piece i m = if disc_number xs (disc_of coords xs m.0) == i then Some (disc_number xs (disc_of coords xs (arc_across m.1 m.0))) else None

  abbrev meeting_numbers : ℕ → List ℕ
  meeting_numbers i = filter_map (from_piece i) (meeting_arcs rows coords xs)

  are_meeting : AreMeetingPieces rows coords xs meeting_numbers
  are_meeting i j = (
    (λ c.
        let m : (x : Arc × Gluing) × Among x (meeting_arcs rows coords xs) × (from_piece i x ≡ Some j) = filter_map-among (from_piece i) j (meeting_arcs rows coords xs) (among_contains j (meeting_numbers i) c) in
        let t : ((disc_number xs (disc_of coords xs m.0.0) == i) ≡ true) × (disc_number xs (disc_of coords xs (arc_across m.0.1 m.0.0)) ≡ j) =
        some_if (disc_number xs (disc_of coords xs m.0.0) == i) (disc_number xs (disc_of coords xs (arc_across m.0.1 m.0.0))) j m.2 in
        record { arc = m.0.0; gluing = m.0.1; meets = listed m.0 m.1; one = eqb-true (disc_number xs (disc_of coords xs m.0.0)) i t.0; other = t.1 }),
    (λ p. contains_among j (meeting_numbers i) (Among-filter_map (from_piece i) (p.arc, p.gluing) j (meeting_arcs rows coords xs) (among_meeting rows coords xs p.arc p.gluing table p.meets)
        (ap (λ b. if b then Some (disc_number xs (disc_of coords xs (arc_across p.gluing p.arc))) else None) (eq-eqb (disc_number xs (disc_of coords xs p.arc)) i p.one) ∙ ap Some p.other))),
  )

pub components_found : (rows : List Row) (coords : Coords) (xs : List ℕ) → IsSurface rows coords xs → HasComponents rows coords xs
components_found rows coords xs s =
    let neighbours : ℕ → List ℕ = meeting_numbers rows coords xs s.table in
    let j : JoinComponents rows coords xs neighbours = join_components rows coords xs neighbours s (are_meeting rows coords xs s.table) in
    let h : HasNumbering (length (discs_of xs)) neighbours j.symmetric j.below (SamePiece rows coords xs) = numbering_exists (length (discs_of xs)) neighbours j.symmetric j.below (SamePiece rows coords xs) j.joined in
    record { components = h.classes; count = h.count; are = h.numbered }
