-- If the links of the table that results from a move are spheres by their numbers, so are those of the old table.
use Rattle.std.proofs.Common.{◌≡◌, ℕ, ◌+◌, ◌*◌, ◌%◌, ◌<◌, List, [], ◌∷◌, length, inl, inr, refl, sym, ap, ◌∙◌, subst, arith}
use Rattle.std.specs.Prelude.{◌==◌, slice_index}
use Rattle.table_definitions.specs.Lists.{times_in}
use Rattle.table_definitions.specs.Table.{Row, IsTable}
use Rattle.table_definitions.specs.Classes.{IsNumbering}
use Rattle.table_definitions.specs.Places.{Place, vertex, SameVertex, HasValidEdges}
use Rattle.table_definitions.specs.Relabelling.{AreIsomorphic}
use Rattle.skeleton_definitions.specs.Links.{SameDirected, link_vertices, link_edges}
use Rattle.move_definitions.specs.Moves.{Move, IsMoved, PlaysAll}
use Rattle.move_definitions.specs.Certificates.{standard_sphere, IsCertificate}
use Rattle.move_laws.proofs.Played.{played_table, all_led_table}
use Rattle.skeleton_class_laws.specs.declared.Kind.TheVariants.{Vertices, Directions}
use Rattle.skeleton_class_laws.specs.Laws.{HasClasses}
use Rattle.skeleton_class_laws.proofs.Numbered.{classes_exist}
use Rattle.certificate_laws.proofs.Sphere.{sphere_table}
use Rattle.move_link_laws.proofs.Labelled.{head_off}
use Rattle.skeleton_laws.proofs.TwiceEdges.{closed_told}
use Rattle.move_link_laws.proofs.Ties.{Ties}
use Rattle.move_link_laws.proofs.Buried.{IsFree, free_of_two, Buried, tied_or_buried}
use Rattle.move_link_laws.proofs.Valid.{plays_keep_valid_lem}
use Rattle.skeleton_laws.proofs.Spots.{IsSpot, vertex_spot, vertex_number_again, spot_below, class_of}
use Rattle.move_link_laws.proofs.TiedSpots.{tie_spot, Match}
use Rattle.move_link_laws.proofs.StarLabels.{off_one}
use Rattle.move_link_laws.proofs.Euler.{eulers_match, frees_same}
use Rattle.move_link_laws.proofs.Lone.{lone_core}
use Rattle.move_link_laws.proofs.LoneLink.{lone_sphere}
use Rattle.move_link_laws.proofs.Relabelled.{under}
use Rattle.move_link_laws.proofs.RelabelledLinks.{spot_under, valid_relabelled}
use Rattle.move_link_laws.proofs.RelabelledSides.{closed_same, eulers_same}
use Rattle.move_link_laws.proofs.Standard.{SphereNumbers, HasSpheres, sphere_spheres, sphere_valid}

-- a face that contains a vertex
pub free_of_one : (v : ℕ) → IsFree (v ∷ [])
free_of_one v = let f = free_of_two v v in (f.0, f.1, off_one v f.0 (head_off v (v ∷ []) f.0 f.2))

numbers_from : (v f e v' f' e' : ℕ) → v + f + e' ≡ v' + f' + e → v' + f' ≡ e' + 2 → v + f ≡ e + 2
numbers_from v f e v' f' e' h k = omega arith

module _ (old : List Row) (m : Move) (new : List Row) (table : IsTable old) (table' : IsTable new) (h : IsMoved old m new) (spheres : HasSpheres new)
    (vs : List ℕ) (n : ℕ) (numbered : IsNumbering (4 * length old) (SameVertex old) vs n) (ds : List ℕ) (d : ℕ) (arrows : IsNumbering (12 * length old) (SameDirected old) ds d) where
  tied_sphere : (p q : Place) → IsSpot (length old) p → Ties old m new table h p q → SphereNumbers old vs ds (class_of vs p)
  tied_sphere p q s t =
      let v : HasClasses Vertices new = classes_exist Vertices new table' in
      let a : HasClasses Directions new = classes_exist Directions new table' in
      let c' : ℕ = class_of v.classes q in
      let match : Match old m new table h vs n numbered v.classes v.count v.numbered (class_of vs p) (class_of v.classes q) = record { p = p; q = q; spot_is = s; tie = t; here = refl; there = refl } in
      let there : SphereNumbers new v.classes a.classes (class_of v.classes q) = spheres v.classes v.count v.numbered a.classes a.count a.numbered (class_of v.classes q)
      (v.numbered.in_range _ (spot_below (length new) q (tie_spot old m new table h p q s t))) in
      let e = eulers_match old m new table table' h vs n numbered v.classes v.count v.numbered (class_of vs p) (class_of v.classes q) match ds d arrows a.classes a.count a.numbered in
      let f = frees_same old m new table table' h vs n numbered v.classes v.count v.numbered (class_of vs p) (class_of v.classes q) match ds d arrows a.classes a.count a.numbered in (
        closed_told old table vs n numbered (class_of vs p) ∙ ap (λ z. z == 0) f ∙ sym (closed_told new table' v.classes v.count v.numbered (class_of v.classes q)) ∙ there.0,
        numbers_from (link_vertices vs ds (class_of vs p)) (times_in vs (class_of vs p)) (link_edges old vs (class_of vs p)) (link_vertices v.classes a.classes (class_of v.classes q)) (times_in v.classes (class_of v.classes q)) (link_edges new v.classes (class_of v.classes q)) e there.1,
      )

  buried_sphere : (p : Place) (ls : List ℕ) → IsSpot (length old) p → Buried old m new table h ls p → SphereNumbers old vs ds (class_of vs p)
  buried_sphere p ls s b =
      let l = lone_core old m new table h (length old) p ls s b in
      lone_sphere old m new table h vs n numbered p s (subst (λ (ks : List ℕ). Buried old m new table h ks p) l.1 b) l.0 ds d arrows

  spheres_at : (c : ℕ) → c < n → SphereNumbers old vs ds c
  spheres_at c lc =
      let i = numbered.none_empty c lc in
      let s = vertex_spot (length old) i.0 i.1 in
      let at : class_of vs (vertex i.0) ≡ c = ap (slice_index vs) (vertex_number_again i.0) ∙ i.2 in
      let low : i.0 % 4 < 4 = omega arith in
      subst (SphereNumbers old vs ds) at (elim (tied_or_buried old m new table h (vertex i.0) s.below (low, tt) (free_of_one (i.0 % 4))) [
        | inl t ↦ tied_sphere (vertex i.0) t.0 s t.1
        | inr t ↦ buried_sphere (vertex i.0) t.0 s t.1
      ])

pub moves_spheres : (old : List Row) (m : Move) (new : List Row) → IsTable old → IsTable new → IsMoved old m new → HasSpheres new → HasSpheres old
moves_spheres old m new table table' h spheres vs n numbered ds d arrows c l = spheres_at old m new table table' h spheres vs n numbered ds d arrows c l

pub plays_spheres : (old : List Row) (moves : List Move) (new : List Row) → PlaysAll old moves new → HasSpheres new → HasSpheres old
plays_spheres old [] new p spheres = subst HasSpheres (sym p) spheres
plays_spheres old (m ∷ ms) new (next, p, rest) spheres = moves_spheres old m next p.table (played_table old m next p) p.moved (plays_spheres next ms new rest spheres)

pub relabelled_spheres : (old new : List Row) → IsTable old → IsTable new → AreIsomorphic old new → HasSpheres new → HasSpheres old
relabelled_spheres old new table table' (by, is, c) spheres vs n numbered ds d arrows k l =
    let i = numbered.none_empty k l in
    let s = vertex_spot (length old) i.0 i.1 in
    let at : class_of vs (vertex i.0) ≡ k = ap (slice_index vs) (vertex_number_again i.0) ∙ i.2 in
    let v : HasClasses Vertices new = classes_exist Vertices new table' in
    let a : HasClasses Directions new = classes_exist Directions new table' in
    let q : Place = under by (vertex i.0) in
    let there : SphereNumbers new v.classes a.classes (class_of v.classes (under by (vertex i.0))) = spheres v.classes v.count v.numbered a.classes a.count a.numbered (class_of v.classes (under by (vertex i.0)))
    (v.numbered.in_range _ (spot_below (length new) (under by (vertex i.0)) (spot_under old new table table' by is c (vertex i.0) s))) in
    let e = eulers_same old new table table' by is c vs n numbered v.classes v.count v.numbered (vertex i.0) s ds d arrows a.classes a.count a.numbered in
    let f = closed_same old new table table' by is c vs n numbered v.classes v.count v.numbered (vertex i.0) s ds d arrows a.classes a.count a.numbered in
    subst (SphereNumbers old vs ds) at (
      f ∙ there.0,
      numbers_from (link_vertices vs ds (class_of vs (vertex i.0))) (times_in vs (class_of vs (vertex i.0))) (link_edges old vs (class_of vs (vertex i.0))) (link_vertices v.classes a.classes (class_of v.classes q)) (times_in v.classes (class_of v.classes q)) (link_edges new v.classes (class_of v.classes q)) e there.1,
    )

pub certified_spheres : (rows : List Row) (moves : List Move) → IsTable rows → IsCertificate rows moves → HasSpheres rows
certified_spheres rows moves table (last, p, standard) = plays_spheres rows moves last p (relabelled_spheres last standard_sphere (all_led_table rows moves last table p) sphere_table standard sphere_spheres)

pub certified_valid : (rows : List Row) (moves : List Move) → IsTable rows → IsCertificate rows moves → HasValidEdges rows
certified_valid rows moves table (last, p, (by, is, c)) =
    (plays_keep_valid_lem rows moves last p).1 (valid_relabelled last standard_sphere (all_led_table rows moves last table p) sphere_table by is c sphere_valid)
