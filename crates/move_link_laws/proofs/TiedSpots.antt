-- Vertex classes of the two tables that correspond: a vertex with an image is of the one class if and only if its image
-- is of the other.
use Rattle.std.proofs.Common.{◌≡◌, ℕ, ◌+◌, ◌*◌, ◌<◌, List, [], ◌∷◌, length, map, inl, inr, refl, sym, ap, ◌∙◌, subst, arith}
use Rattle.std.proofs.lemmas.Bool.{false≢true}
use Rattle.table_definitions.specs.Lists.{has, rank_without}
use Rattle.table_definitions.specs.Permutation.{image}
use Rattle.table_definitions.specs.Table.{Row, IsTable}
use Rattle.table_definitions.specs.Classes.{IsNumbering}
use Rattle.table_definitions.specs.Places.{Place, IsPlace, carried, SameVertex}
use Rattle.table_definitions.proofs.Permutations.{image_below}
use Rattle.move_definitions.specs.Moves.{Move, Facet, IsMoved, kept, old_tets}
use Rattle.move_laws.proofs.Placed.{closed_up_small}
use Rattle.skeleton_laws.proofs.Spots.{IsSpot, class_of, one_class}
use Rattle.surface_laws.proofs.Vertices.{one_vertex}
use Rattle.move_link_laws.proofs.Ties.{fine, new_at, IsOld, old_has, Ties, tie_permutes}
use Rattle.move_link_laws.proofs.TieShapes.{tie_shape}
use Rattle.move_link_laws.proofs.TiesOnce.{same_old_place, same_new_place}
use Rattle.move_link_laws.proofs.JoinedBack.{joined_over, joined_under, tie_follows, tie_precedes}
use Rattle.move_link_laws.proofs.Buried.{Buried, NewBuried}
use Rattle.move_link_laws.proofs.Valid.{tie_range}

module _ (old : List Row) (m : Move) (new : List Row) (table : IsTable old) (h : IsMoved old m new) where
  abbrev Tie : Place → Place → Type 0
  Tie p q = Ties old m new table h p q

  abbrev Old : ℕ → Facet → Type 0
  Old i f = IsOld old m new table h i f

  abbrev at : ℕ → Facet
  at j = new_at old m new table h j

  -- a place with an image does not have all labels of the core
  pub tie_not_buried : (ls : List ℕ) (p q : Place) → Tie p q → Buried old m new table h ls p → ⊥
  tie_not_buried ls p q t b = elim (tie_shape old m new table h p q t) [
    | inl k ↦ false≢true (sym k.stays ∙ ap (λ (r : Place). has (old_tets old m) r.tet) b.from ∙ old_has old m new table h b.i b.f b.old_is)
    | inr a ↦ (let same = (same_old_place old m new table h a.i b.i a.f b.f a.ls ls a.old_is b.old_is a.small b.small a.off_i b.off (sym a.from ∙ b.from)).2 in
        false≢true (sym a.off_j ∙ ap (λ (xs : List ℕ). has xs a.j) same ∙ b.all a.j a.less))
  ]

  pub tie_not_new_buried : (ls : List ℕ) (p q : Place) → Tie p q → NewBuried old m new table h ls q → ⊥
  tie_not_new_buried ls p q t b = elim (tie_shape old m new table h p q t) [
    | inl k ↦ (let low : rank_without (old_tets old m) p.tet < kept old m = closed_up_small old m p.tet table (fine old m new table h) h.core k.tet k.stays in
        let e : rank_without (old_tets old m) p.tet ≡ kept old m + b.j = ap (λ (x : Place). x.tet) (sym k.is ∙ b.to) in absurd (omega arith))
    | inr a ↦ (let same = (same_new_place old m new table h a.j b.j a.ls ls a.less b.less a.small b.small a.off_j b.off (sym a.to ∙ b.to)).1 in
        false≢true (sym a.off_i ∙ ap (λ (xs : List ℕ). has xs a.i) same ∙ b.all a.i a.old_is.low a.old_is.high))
  ]

  pub tie_spot : (p q : Place) → IsSpot (length old) p → Tie p q → IsSpot (length new) q
  tie_spot p q s t = record {
    v = image t.by.perm s.v;
    is = t.is ∙ ap (carried t.by) s.is ∙ (λ i. one_vertex ((sym t.is i).tet) (image t.by.perm s.v));
    below = subst (λ (r : Place). r.tet < length new) (sym t.is) (tie_range old m new table h p q t);
    low = image_below t.by.perm (tie_permutes old m new table h p q t) s.v s.low;
  }

  -- a place whose image is a vertex is a vertex
  pub spot_of_tie : (p q : Place) → IsSpot (length new) q → Tie p q → IsSpot (length old) p
  spot_of_tie p q s t = let one = single p.vertices t.by.perm s.v (ap (λ (r : Place). r.vertices) (sym t.is ∙ s.is)) in record {
    v = one.0;
    is = (λ z. record { tet = p.tet; vertices = one.1 z });
    below = t.tet;
    low = (subst (λ (us : List ℕ). IsPlace (record { tet = p.tet; vertices = us })) one.1 t.place).0;
  }
    where
      single : (us g : List ℕ) (v : ℕ) → map (image g) us ≡ v ∷ [] → (w : ℕ) × (us ≡ w ∷ [])
      single [] g v e = absurd cc
      single (w ∷ []) g v e = (w, refl)
      single (w ∷ u ∷ us) g v e = absurd (let z : image g u ∷ map (image g) us ≡ [] = cc in cc)

  module _ (vs : List ℕ) (n : ℕ) (numbered : IsNumbering (4 * length old) (SameVertex old) vs n) (vs' : List ℕ) (n' : ℕ) (numbered' : IsNumbering (4 * length new) (SameVertex new) vs' n') where
    -- two classes: a vertex of the one has an image in the other
    pub record Match (c c' : ℕ) : Type 0 where
      pub p : Place
      pub q : Place
      pub spot_is : IsSpot (length old) p
      pub tie : Tie p q
      pub here : class_of vs p ≡ c
      pub there : class_of vs' q ≡ c'

    module _ (c c' : ℕ) (k : Match c c') where
      pub class_over : (p q : Place) → IsSpot (length old) p → Tie p q → class_of vs p ≡ c → class_of vs' q ≡ c'
      class_over p q s t e =
          (one_class new vs' n' numbered' q k.q (tie_spot p q s t) (tie_spot k.p k.q k.spot_is k.tie)).1
          (joined_over old m new table h p k.p q k.q t k.tie ((one_class old vs n numbered p k.p s k.spot_is).0 (e ∙ sym k.here))) ∙ k.there

      pub class_under : (p q : Place) → IsSpot (length old) p → Tie p q → class_of vs' q ≡ c' → class_of vs p ≡ c
      class_under p q s t e =
          (one_class old vs n numbered p k.p s k.spot_is).1
          (joined_under old m new table h p k.p q k.q t k.tie ((one_class new vs' n' numbered' q k.q (tie_spot p q s t) (tie_spot k.p k.q k.spot_is k.tie)).0 (e ∙ sym k.there))) ∙ k.here

      -- each vertex of such a class has an image, or is one
      pub all_tied : (p : Place) → IsSpot (length old) p → class_of vs p ≡ c → (q : Place) × Tie p q
      all_tied p s e = tie_follows old m new table h k.p p k.q k.tie ((one_class old vs n numbered k.p p k.spot_is s).0 (k.here ∙ sym e))

      pub all_tied_new : (q : Place) → IsSpot (length new) q → class_of vs' q ≡ c' → (p : Place) × Tie p q
      all_tied_new q s e = tie_precedes old m new table h k.p k.q q k.tie ((one_class new vs' n' numbered' k.q q (tie_spot k.p k.q k.spot_is k.tie) s).0 (k.there ∙ sym e))
