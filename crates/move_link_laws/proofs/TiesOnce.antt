-- All images of a place are joined, and so are all places with one image.
use Rattle.std.proofs.Common.{◌≡◌, ℕ, ◌+◌, ◌<◌, false, List, length, map, ◌⊎◌, inl, inr, sym, ap, ◌∙◌, subst, arith}
use Rattle.std.proofs.lemmas.Bool.{cases_eq, false≢true}
use Rattle.table_definitions.specs.Lists.{has, rank_without}
use Rattle.table_definitions.specs.Permutation.{image}
use Rattle.table_definitions.specs.Table.{Row, IsTable}
use Rattle.table_definitions.specs.Places.{Place, IsJoined}
use Rattle.table_definitions.proofs.ChainLaws.{joined_refl, joined_step}
use Rattle.table_definitions.proofs.Ranks.{stays, ranks_apart}
use Rattle.move_definitions.specs.Moves.{Move, Facet, IsMoved, facet, vertex_of, kept, new_facet, old_tets}
use Rattle.move_laws.proofs.Labels.{ascending, new_labels}
use Rattle.move_laws.proofs.ListedFacets.{same_some, closed_up-rank}
use Rattle.move_laws.proofs.Legal.{old_tets_distinct}
use Rattle.move_laws.proofs.Placed.{closed_up_small, stays_true}
use Rattle.move_link_laws.proofs.Labelled.{in_facet, Below5, labels_again}
use Rattle.move_link_laws.proofs.Ties.{fine, IsOld, one_facet, old_has, small_label, old_step, new_step, Ties, KeptTie, FacetTie}
use Rattle.move_link_laws.proofs.TieShapes.{tie_shape}

module _ (old : List Row) (m : Move) (new : List Row) (table : IsTable old) (h : IsMoved old m new) where
  abbrev new_at : ℕ → Facet
  new_at j = new_facet old m j

  -- the labels of a place in a facet
  old_labels_of : (i : ℕ) (f : Facet) (ls : List ℕ) → IsOld old m new table h i f → Below5 ls → has ls i ≡ false → map (image f.labels) (in_facet f ls).vertices ≡ ls
  old_labels_of i f ls a small oi = labels_again i f.labels a.is.labels ls small oi

  pub same_old_place : (i k : ℕ) (f g : Facet) (ls ks : List ℕ) → IsOld old m new table h i f → IsOld old m new table h k g → Below5 ls → Below5 ks → has ls i ≡ false → has ks k ≡ false → in_facet f ls ≡ in_facet g ks → (i ≡ k) × (f ≡ g) × (ls ≡ ks)
  same_old_place i k f g ls ks a b sl sk oi ok e =
      let one = one_facet old m new table h i k f g a b (ap (λ (p : Place). p.tet) e) in
      (one.0, one.1, sym (old_labels_of i f ls a sl oi) ∙ (λ j. map (image (one.1 j).labels) (e j).vertices) ∙ old_labels_of k g ks b sk ok)

  pub same_new_place : (j l : ℕ) (ls ks : List ℕ) → j < length m.core → l < length m.core → Below5 ls → Below5 ks → has ls j ≡ false → has ks l ≡ false → in_facet (new_at j) ls ≡ in_facet (new_at l) ks → (j ≡ l) × (ls ≡ ks)
  same_new_place j l ls ks lj ll sl sk oj ol e =
      let tets : kept old m + j ≡ kept old m + l = ap (λ (p : Place). p.tet) e in
      let same : j ≡ l = omega arith in
      (same, sym (labels_again j (ascending j) (new_labels j (small_label old m new table h j lj)) ls sl oj) ∙ (λ k. map (image (ascending (same k))) (e k).vertices) ∙ labels_again l (ascending l) (new_labels l (small_label old m new table h l ll)) ks sk ol)

  -- all images of a place are joined
  pub stands_once : (p q q' : Place) → Ties old m new table h p q → Ties old m new table h p q' → IsJoined new q q'
  stands_once p q q' t t' = by_shapes (tie_shape old m new table h p q t) (tie_shape old m new table h p q' t')
    where
      by_shapes : KeptTie old m new table h p q ⊎ FacetTie old m new table h p q → KeptTie old m new table h p q' ⊎ FacetTie old m new table h p q' → IsJoined new q q'
      by_shapes (inl a) (inl b) = subst (λ (r : Place). IsJoined new q r) (a.is ∙ sym b.is) (joined_refl new q)
      by_shapes (inl a) (inr b) = absurd (false≢true (sym a.stays ∙ ap (λ (r : Place). has (old_tets old m) r.tet) b.from ∙ old_has old m new table h b.i b.f b.old_is))
      by_shapes (inr a) (inl b) = absurd (false≢true (sym b.stays ∙ ap (λ (r : Place). has (old_tets old m) r.tet) a.from ∙ old_has old m new table h a.i a.f a.old_is))
      by_shapes (inr a) (inr b) =
          let same = same_old_place a.i b.i a.f b.f a.ls b.ls a.old_is b.old_is a.small b.small a.off_i b.off_i (sym a.from ∙ b.from) in
          let to : q' ≡ in_facet (new_at b.j) a.ls = b.to ∙ ap (in_facet (new_at b.j)) (sym same.2) in
          subst (λ (r : Place). IsJoined new r q') (sym a.to) (subst (λ (r : Place). IsJoined new (in_facet (new_at a.j) a.ls) r) (sym to)
          (elim (cases_eq a.j b.j) [
            | inl e ↦ subst (λ j. IsJoined new (in_facet (new_at a.j) a.ls) (in_facet (new_at j) a.ls)) e (joined_refl new (in_facet (new_at a.j) a.ls))
            | inr ne ↦ joined_step new (in_facet (new_at a.j) a.ls) (vertex_of (new_at a.j) b.j) (in_facet (new_at b.j) a.ls) (new_step old m new table h a.j b.j a.ls a.less b.less ne a.small a.off_j (ap (λ (ks : List ℕ). has ks b.j) same.2 ∙ b.off_j))
          ]))

  pub closed_up_once : (t u : ℕ) → t < length old → u < length old → has (old_tets old m) t ≡ false → has (old_tets old m) u ≡ false → rank_without (old_tets old m) t ≡ rank_without (old_tets old m) u → t ≡ u
  closed_up_once t u lt lu st su e =
      let d = old_tets_distinct old m (fine old m new table h) h.core in
      ranks_apart (stays (old_tets old m)) (length old) t u lt lu (stays_true (old_tets old m) t st) (stays_true (old_tets old m) u su) (sym (closed_up-rank (old_tets old m) t d) ∙ e ∙ closed_up-rank (old_tets old m) u d)

  pub kept_or_new : (p : Place) (q : Place) (r : Place) → KeptTie old m new table h p q → (b : FacetTie old m new table h r q) → ⊥
  kept_or_new p q r a b =
      let low : rank_without (old_tets old m) p.tet < kept old m = closed_up_small old m p.tet table (fine old m new table h) h.core a.tet a.stays in
      let e : rank_without (old_tets old m) p.tet ≡ kept old m + b.j = ap (λ (x : Place). x.tet) (sym a.is ∙ b.to) in
      omega arith

  -- all places with one image are joined
  pub stood_for_once : (p p' q : Place) → Ties old m new table h p q → Ties old m new table h p' q → IsJoined old p p'
  stood_for_once p p' q t t' = by_shapes (tie_shape old m new table h p q t) (tie_shape old m new table h p' q t')
    where
      by_shapes : KeptTie old m new table h p q ⊎ FacetTie old m new table h p q → KeptTie old m new table h p' q ⊎ FacetTie old m new table h p' q → IsJoined old p p'
      by_shapes (inl a) (inl b) =
          let both = sym a.is ∙ b.is in
          let tets : p.tet ≡ p'.tet = closed_up_once p.tet p'.tet a.tet b.tet a.stays b.stays (ap (λ (r : Place). r.tet) both) in
          let same : p ≡ p' = λ j. record { tet = tets j; vertices = (both j).vertices } in
          subst (λ (r : Place). IsJoined old p r) same (joined_refl old p)
      by_shapes (inl a) (inr b) = absurd (kept_or_new p q p' a b)
      by_shapes (inr a) (inl b) = absurd (kept_or_new p' q p b a)
      by_shapes (inr a) (inr b) =
          let same = same_new_place a.j b.j a.ls b.ls a.less b.less a.small b.small a.off_j b.off_j (sym a.to ∙ b.to) in
          let from : p' ≡ in_facet b.f a.ls = b.from ∙ ap (in_facet b.f) (sym same.1) in
          subst (λ (r : Place). IsJoined old r p') (sym a.from) (subst (λ (r : Place). IsJoined old (in_facet a.f a.ls) r) (sym from)
          (elim (cases_eq a.i b.i) [
            | inl e ↦ (let one : a.f ≡ b.f = same_some (facet old m b.i) a.f b.f (ap (facet old m) (sym e) ∙ a.old_is.found) b.old_is.found in
                subst (λ (g : Facet). IsJoined old (in_facet a.f a.ls) (in_facet g a.ls)) one (joined_refl old (in_facet a.f a.ls)))
            | inr ne ↦ joined_step old (in_facet a.f a.ls) (vertex_of a.f b.i) (in_facet b.f a.ls) (old_step old m new table h a.i b.i a.f b.f a.ls a.old_is b.old_is ne a.small a.off_i (ap (λ (ks : List ℕ). has ks b.i) same.1 ∙ b.off_i))
          ]))
