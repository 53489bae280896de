-- Places of the old table, and their images in faces of the new one that replace old faces.
use Rattle.std.proofs.Common.{◌≡◌, ◌≢◌, ℕ, ◌<◌, ◌≤◌, true, false, List, length, Some, refl, sym, ap, ◌∙◌, arith}
use Rattle.table_definitions.specs.Lists.{has, rank_without}
use Rattle.table_definitions.specs.Permutation.{IsPermutationOfFour}
use Rattle.table_definitions.specs.Table.{Gluing, Row, IsTable}
use Rattle.table_definitions.specs.Places.{Place, IsPlace, carried, across}
use Rattle.table_definitions.proofs.Faces.{face_at}
use Rattle.move_definitions.specs.Moves.{Move, Facet, IsMoved, facet, opposite, vertex_of, new_facet, old_tets, old_labels, place_after}
use Rattle.move_definitions.proofs.CoreTests.{core_size}
use Rattle.move_laws.proofs.Labels.{new_labels}
use Rattle.move_laws.proofs.ListedFacets.{same_some, has_tet}
use Rattle.move_laws.proofs.Legal.{IsFacet, facet_is, HasNoFault, no_fault, old_facet, old_label, facets_apart}
use Rattle.move_laws.proofs.Matched.{AreGlued, old_glued}
use Rattle.move_laws.proofs.Shapes.{stand_permutes}
use Rattle.move_link_laws.proofs.Labelled.{in_facet, Below5, meet_step, old_meets, new_meets}

module _ (old : List Row) (m : Move) (new : List Row) (table : IsTable old) (h : IsMoved old m new) where
  abbrev size : ℕ
  size = length m.core

  pub fine : HasNoFault old m
  fine = no_fault old m h.legal

  pub limited : length m.core < 5
  limited = (core_size m.core h.core).1

  pub some : 0 < length m.core
  some = (core_size m.core h.core).0

  abbrev pub new_at : ℕ → Facet
  new_at j = new_facet old m j

  -- an old facet
  pub record IsOld (i : ℕ) (f : Facet) : Type 0 where
    pub low : length m.core ≤ i
    pub high : i < 5
    pub found : facet old m i ≡ Some f
    pub is : IsFacet old i f

  pub is_old : (i : ℕ) (f : Facet) → length m.core ≤ i → i < 5 → facet old m i ≡ Some f → IsOld i f
  is_old i f low high e = record { low = low; high = high; found = e; is = facet_is old m i f table h.core fine.in_range high e }

  pub old_at : (i : ℕ) → length m.core ≤ i → i < 5 → (f : Facet) × IsOld i f
  old_at i low high = let f = old_facet old m i fine h.core low high in (f.0, is_old i f.0 low high f.1)

  pub one_facet : (i k : ℕ) (f g : Facet) → IsOld i f → IsOld k g → f.tet ≡ g.tet → (i ≡ k) × (f ≡ g)
  one_facet i k f g a b e =
      let same : i ≡ k = facets_apart old m fine h.core i k f g (old_label (length m.core) i limited a.low a.high) (old_label (length m.core) k limited b.low b.high) a.found b.found e in
      (same, same_some (facet old m k) f g (ap (facet old m) (sym same) ∙ a.found) b.found)

  pub old_has : (i : ℕ) (f : Facet) → IsOld i f → has (old_tets old m) f.tet ≡ true
  old_has i f a = has_tet (facet old m) (old_labels m) i f (old_label (length m.core) i limited a.low a.high) a.found

  pub small_label : (j : ℕ) → j < length m.core → j < 5
  small_label j l = let f = limited in omega arith

  -- the step across the face between two facets
  pub old_step : (i k : ℕ) (f g : Facet) (ls : List ℕ) → IsOld i f → IsOld k g → i ≢ k → Below5 ls → has ls i ≡ false → has ls k ≡ false → across old (in_facet f ls) (vertex_of f k) ≡ Some (in_facet g ls)
  old_step i k f g ls a b separate small oi ok =
      let e : AreGlued old i k f g = old_glued old m i k f g table fine h.core a.low a.high b.low b.high separate a.found b.found in
      let hp : IsPermutationOfFour e.by.perm = table.permutes (opposite f k) e.by e.glued in
      meet_step old i k f g e.by ls a.is.labels b.high (λ z. separate (sym z)) e.glued e.tet (old_meets i k f g e.by.perm a.is.labels b.is.labels hp e.labels) small oi ok

  pub new_step : (j l : ℕ) (ls : List ℕ) → j < length m.core → l < length m.core → j ≢ l → Below5 ls → has ls j ≡ false → has ls l ≡ false → across new (in_facet (new_at j) ls) (vertex_of (new_at j) l) ≡ Some (in_facet (new_at l) ls)
  new_step j l ls lj ll separate small oj ol =
      meet_step new j l (new_at j) (new_at l) _ ls (new_labels j (small_label j lj)) (small_label l ll) (λ z. separate (sym z)) (h.inner j l lj ll separate) refl (new_meets j l (small_label j lj)) small oj ol

  -- all vertices of place p lie in a face that is replaced in the new table, and q is the image of p there
  pub record Ties (p q : Place) : Type 0 where
    pub face : ℕ
    pub by : Gluing
    pub tet : p.tet < length old
    pub place : IsPlace p
    pub low : face < 4
    pub off : has p.vertices face ≡ false
    pub occurs : place_after old m (face_at p.tet face) ≡ Some by
    pub is : q ≡ carried by p

  pub tie_permutes : (p q : Place) (t : Ties p q) → IsPermutationOfFour t.by.perm
  tie_permutes p q t = stand_permutes old m table fine h.core (face_at p.tet t.face) t.by t.tet t.low t.occurs

  -- in a retained tetrahedron, or from an old facet to a new one
  pub record KeptTie (p q : Place) : Type 0 where
    pub stays : has (old_tets old m) p.tet ≡ false
    pub tet : p.tet < length old
    pub is : q ≡ record { tet = rank_without (old_tets old m) p.tet; vertices = p.vertices }

  pub record FacetTie (p q : Place) : Type 0 where
    pub i : ℕ
    pub j : ℕ
    pub f : Facet
    pub ls : List ℕ
    pub old_is : IsOld i f
    pub less : j < length m.core
    pub small : Below5 ls
    pub off_i : has ls i ≡ false
    pub off_j : has ls j ≡ false
    pub from : p ≡ in_facet f ls
    pub to : q ≡ in_facet (new_at j) ls
