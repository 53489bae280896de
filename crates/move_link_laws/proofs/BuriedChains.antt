-- Chains keep the labels of places without an image.
use Rattle.std.proofs.Common.{◌≡◌, ℕ, ◌<◌, ◌≤◌, false, List, length, map, Some, inl, inr, sym, ap, ◌∙◌, subst}
use Rattle.std.proofs.lemmas.Bool.{cases_eq, cases_lt, false≢true}
use Rattle.table_definitions.specs.Lists.{has}
use Rattle.table_definitions.specs.Permutation.{image}
use Rattle.table_definitions.specs.Table.{Row, IsTable}
use Rattle.table_definitions.specs.Places.{Place, across, IsJoined}
use Rattle.table_definitions.proofs.TableLaws.{glued_face}
use Rattle.table_definitions.proofs.ChainLaws.{Steps, steps_across, joined_refl, joined_step, kept_along}
use Rattle.table_definitions.proofs.Faces.{face_at}
use Rattle.move_definitions.specs.Moves.{Move, Facet, IsMoved, facet, vertex_of}
use Rattle.move_laws.proofs.Labels.{AreLabels, ascending, new_labels, HasLabel, label_at}
use Rattle.move_link_laws.proofs.Labelled.{in_facet, has-vertices}
use Rattle.move_link_laws.proofs.Ties.{new_at, small_label, IsOld, old_at, old_step, new_step}
use Rattle.move_link_laws.proofs.TiesOnce.{same_old_place, same_new_place}
use Rattle.move_link_laws.proofs.Buried.{Buried, NewBuried}

module _ (old : List Row) (m : Move) (new : List Row) (table : IsTable old) (h : IsMoved old m new) where
  abbrev Old : ℕ → Facet → Type 0
  Old i f = IsOld old m new table h i f

  abbrev at : ℕ → Facet
  at j = new_at old m new table h j

  buried_step : (ls : List ℕ) (p : Place) (f : ℕ) (p' : Place) → Buried old m new table h ls p → across old p f ≡ Some p' → Buried old m new table h ls p'
  buried_step ls p f p' b e = elim (cases_lt k (length m.core)) [
    | inl less ↦ absurd (false≢true (sym off_k ∙ b.all k less))
    | inr more ↦ go more
  ]
    where
      st : Steps old p f p'
      st = steps_across old p f p' e

      hf : AreLabels b.i b.f.labels
      hf = b.old_is.is.labels

      k : ℕ
      k = image b.f.labels f

      label : HasLabel b.i b.f.labels f
      label = label_at b.i b.f.labels hf f (glued_face old (face_at p.tet f) st.gluing table.four_faces st.glued)

      off_k : has ls k ≡ false
      off_k = sym (has-vertices b.i b.f.labels hf ls k b.small b.off label.small label.present) ∙ ap (has (map (vertex_of b.f) ls)) label.vertex ∙ ap (λ (r : Place). has r.vertices f) (sym b.from) ∙ st.off

      go : length m.core ≤ k → Buried old m new table h ls p'
      go more =
          let g = old_at old m new table h k more label.small in
          let step : across old (in_facet b.f ls) (vertex_of b.f k) ≡ Some (in_facet g.0 ls) = old_step old m new table h b.i k b.f g.0 ls b.old_is g.1 (λ z. label.present (sym z)) b.small b.off off_k in
          let here : Some p' ≡ Some (in_facet g.0 ls) = sym e ∙ (λ i. across old (b.from i) (sym label.vertex i)) ∙ step in
          record { i = k; f = g.0; old_is = g.1; small = b.small; off = off_k; all = b.all; from = cc }

  -- chains keep the labels
  pub buried_along : (ls : List ℕ) (p p' : Place) → Buried old m new table h ls p → IsJoined old p p' → Buried old m new table h ls p'
  buried_along ls p p' b j = kept_along old (Buried old m new table h ls) (buried_step ls) j.0 p p' b j.1

  pub buried_joined : (ls : List ℕ) (p p' : Place) → Buried old m new table h ls p → Buried old m new table h ls p' → IsJoined old p p'
  buried_joined ls p p' a b =
      subst (λ (r : Place). IsJoined old r p') (sym a.from) (subst (λ (r : Place). IsJoined old (in_facet a.f ls) r) (sym b.from)
      (elim (cases_eq a.i b.i) [
        | inl e ↦ subst (λ (g : Facet). IsJoined old (in_facet a.f ls) (in_facet g ls)) (same e) (joined_refl old (in_facet a.f ls))
        | inr ne ↦ joined_step old (in_facet a.f ls) (vertex_of a.f b.i) (in_facet b.f ls) (old_step old m new table h a.i b.i a.f b.f ls a.old_is b.old_is ne a.small a.off b.off)
      ]))
    where
      use_found : (i k : ℕ) (f g : Facet) → Old i f → Old k g → i ≡ k → Some f ≡ Some g
      use_found i k f g x y e = sym x.found ∙ ap (facet old m) e ∙ y.found

      same : a.i ≡ b.i → a.f ≡ b.f
      same e = (let z = use_found a.i b.i a.f b.f a.old_is b.old_is e in cc)

  pub buried_once : (ls ks : List ℕ) (p : Place) → Buried old m new table h ls p → Buried old m new table h ks p → ls ≡ ks
  buried_once ls ks p a b = (same_old_place old m new table h a.i b.i a.f b.f ls ks a.old_is b.old_is a.small b.small a.off b.off (sym a.from ∙ b.from)).2

  new_buried_step : (ls : List ℕ) (q : Place) (f : ℕ) (q' : Place) → NewBuried old m new table h ls q → across new q f ≡ Some q' → NewBuried old m new table h ls q'
  new_buried_step ls q f q' b e = elim (cases_lt k (length m.core)) [
    | inl less ↦ go less
    | inr more ↦ absurd (false≢true (sym off_k ∙ b.all k more label.small))
  ]
    where
      st : Steps new q f q'
      st = steps_across new q f q' e

      hf : AreLabels b.j (ascending b.j)
      hf = new_labels b.j (small_label old m new table h b.j b.less)

      k : ℕ
      k = image (ascending b.j) f

      label : HasLabel b.j (ascending b.j) f
      label = label_at b.j (ascending b.j) hf f (glued_face new (face_at q.tet f) st.gluing h.four_faces st.glued)

      off_k : has ls k ≡ false
      off_k = sym (has-vertices b.j (ascending b.j) hf ls k b.small b.off label.small label.present) ∙ ap (has (map (vertex_of (at b.j)) ls)) label.vertex ∙ ap (λ (r : Place). has r.vertices f) (sym b.to) ∙ st.off

      go : k < length m.core → NewBuried old m new table h ls q'
      go less =
          let step : across new (in_facet (at b.j) ls) (vertex_of (at b.j) k) ≡ Some (in_facet (at k) ls) = new_step old m new table h b.j k ls b.less less (λ z. label.present (sym z)) b.small b.off off_k in
          let here : Some q' ≡ Some (in_facet (at k) ls) = sym e ∙ (λ i. across new (b.to i) (sym label.vertex i)) ∙ step in
          record { j = k; less = less; small = b.small; off = off_k; all = b.all; to = cc }

  pub new_buried_along : (ls : List ℕ) (q q' : Place) → NewBuried old m new table h ls q → IsJoined new q q' → NewBuried old m new table h ls q'
  new_buried_along ls q q' b j = kept_along new (NewBuried old m new table h ls) (new_buried_step ls) j.0 q q' b j.1

  pub new_buried_joined : (ls : List ℕ) (q q' : Place) → NewBuried old m new table h ls q → NewBuried old m new table h ls q' → IsJoined new q q'
  new_buried_joined ls q q' a b =
      subst (λ (r : Place). IsJoined new r q') (sym a.to) (subst (λ (r : Place). IsJoined new (in_facet (at a.j) ls) r) (sym b.to)
      (elim (cases_eq a.j b.j) [
        | inl e ↦ subst (λ j. IsJoined new (in_facet (at a.j) ls) (in_facet (at j) ls)) e (joined_refl new (in_facet (at a.j) ls))
        | inr ne ↦ joined_step new (in_facet (at a.j) ls) (vertex_of (at a.j) b.j) (in_facet (at b.j) ls) (new_step old m new table h a.j b.j ls a.less b.less ne a.small a.off b.off)
      ]))

  pub new_buried_once : (ls ks : List ℕ) (q : Place) → NewBuried old m new table h ls q → NewBuried old m new table h ks q → ls ≡ ks
  new_buried_once ls ks q a b = (same_new_place old m new table h a.j b.j ls ks a.less b.less a.small b.small a.off b.off (sym a.to ∙ b.to)).1
