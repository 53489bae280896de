-- Directed edges with an image correspond to their images, and the others are pairs of labels inside the star.
use Rattle.std.proofs.Common.{◌≡◌, ◌≢◌, ℕ, ◌+◌, ◌*◌, ◌/◌, ◌%◌, ◌<◌, ◌≤◌, Bool, true, false, List, [], ◌∷◌, length, ◌⊎◌, inl, inr, refl, sym, ap, ◌∙◌, subst, arith}
use Rattle.std.proofs.lemmas.Bool.{cases_lt}
use Rattle.table_definitions.specs.Lists.{has}
use Rattle.table_definitions.specs.Permutation.{image}
use Rattle.table_definitions.specs.Table.{Row, IsTable}
use Rattle.table_definitions.specs.Classes.{IsNumbering}
use Rattle.table_definitions.specs.Places.{Place, IsJoined, SameVertex}
use Rattle.table_definitions.proofs.TableLaws.{Among}
use Rattle.skeleton_definitions.specs.Links.{directed, SameDirected}
use Rattle.move_definitions.specs.Moves.{Move, Facet, IsMoved, vertex_of}
use Rattle.move_laws.proofs.Labels.{ascending, new_labels, vertex_at}
use Rattle.skeleton_laws.proofs.Matchings.{passing_is, is_passing, first_kind, second_kind, is_first_kind, is_second_kind, passing, both}
use Rattle.move_link_laws.proofs.Labelled.{in_facet, Below5, head_off, tail_off}
use Rattle.move_link_laws.proofs.Ties.{new_at, small_label, Ties}
use Rattle.move_link_laws.proofs.Buried.{fails_or_all, IsFree, one_of_two, no_three, free_of_two, Buried, NewBuried, tied_or_buried}
use Rattle.move_link_laws.proofs.BuriedChains.{new_buried_along}
use Rattle.skeleton_laws.proofs.Spots.{class_of}
use Rattle.move_link_laws.proofs.TiedSpots.{Match, class_over}
use Rattle.move_link_laws.proofs.StarLabels.{label_in, label_old, label_new}
use Rattle.move_link_laws.proofs.LabelPairs.{parts_of_pair}
use Rattle.skeleton_laws.proofs.Arrows.{IsArrow, arrow_place, directed_arrow, tail_of}
use Rattle.skeleton_laws.proofs.LinkCorners as Corners
use Rattle.skeleton_laws.proofs.LinkCorners.{tail_spot}
use Rattle.move_link_laws.proofs.InsidePairs.{inside_old, inside_new, IsInside, is_inside_old, inside_new_is, two_under}
use Rattle.move_link_laws.proofs.LinkVertices.{corner_is, found', tie_tails, tie_arrow}

module _ (old : List Row) (m : Move) (new : List Row) (table : IsTable old) (table' : IsTable new) (h : IsMoved old m new)
    (vs : List ℕ) (n : ℕ) (numbered : IsNumbering (4 * length old) (SameVertex old) vs n) (vs' : List ℕ) (n' : ℕ) (numbered' : IsNumbering (4 * length new) (SameVertex new) vs' n') (c c' : ℕ)
    (match : Match old m new table h vs n numbered vs' n' numbered' c c')
    (ds : List ℕ) (d : ℕ) (arrows : IsNumbering (12 * length old) (SameDirected old) ds d) (ds' : List ℕ) (d' : ℕ) (arrows' : IsNumbering (12 * length new) (SameDirected new) ds' d') where
  abbrev Tie : Place → Place → Type 0
  Tie p q = Ties old m new table h p q

  abbrev In : List ℕ → Place → Type 0
  In ls p = Buried old m new table h ls p

  abbrev New : List ℕ → Place → Type 0
  New ls q = NewBuried old m new table h ls q

  abbrev at : ℕ → Facet
  at j = new_at old m new table h j

  abbrev x : ℕ → Bool
  x l = label_in old m new table h vs n numbered vs' n' numbered' c c' match l

  abbrev corners : List ℕ
  corners = Corners.corners old vs n numbered c ds d arrows

  abbrev corners' : List ℕ
  corners' = Corners.corners new vs' n' numbered' c' ds' d' arrows'

  abbrev inner : List ℕ
  inner = passing (inside_old (length m.core) x) 25

  abbrev inner' : List ℕ
  inner' = passing (inside_new (length m.core) x) 25

  abbrev IsCorner : ℕ → Type 0
  IsCorner i = Corners.IsCorner old vs n numbered c ds d arrows i

  abbrev IsCorner' : ℕ → Type 0
  IsCorner' i = Corners.IsCorner new vs' n' numbered' c' ds' d' arrows' i

  abbrev Found : Place → Type 0
  Found p = Corners.Found old vs n numbered c ds d arrows p

  abbrev Found' : Place → Type 0
  Found' q = Corners.Found new vs' n' numbered' c' ds' d' arrows' q

  -- a directed edge has an image in the class, or is a pair of labels
  abbrev CornerOf : ℕ ⊎ ℕ → ℕ ⊎ ℕ → Type 0
  CornerOf (inl i) (inl j) = (q : Place) × Tie (directed i) q × IsJoined new q (directed j)
  CornerOf (inl i) (inr k) = In (k / 5 ∷ k % 5 ∷ []) (directed i)
  CornerOf (inr k) (inl j) = New (k / 5 ∷ k % 5 ∷ []) (directed j)
  CornerOf (inr k) (inr l) = ⊥

  pub forth : (a : ℕ ⊎ ℕ) → Among a (both corners inner') → (b : ℕ ⊎ ℕ) × Among b (both corners' inner) × CornerOf a b
  forth (inl i) a = elim (tied_or_buried old m new table h (directed i) ar.below (arrow_place (length old) (directed i) ar) (subst (λ (r : Place). IsFree r.vertices) (sym ar.is) (free_of_two ar.v ar.w))) [
    | inl t ↦ tied t.0 t.1
    | inr t ↦ buried t.0 t.1
  ]
    where
      k : IsCorner i
      k = corner_is old m new table table' h vs n numbered vs' n' numbered' c c' match ds d arrows ds' d' arrows' i (is_first_kind corners inner' i a)

      ar : IsArrow (length old) (directed i)
      ar = directed_arrow (length old) i k.below

      tied : (q : Place) → Tie (directed i) q → (b : ℕ ⊎ ℕ) × Among b (both corners' inner) × CornerOf (inl i) b
      tied q z =
          let there : class_of vs' (tail_of q) ≡ c' = class_over old m new table h vs n numbered vs' n' numbered' c c' match (tail_of (directed i)) (tail_of q) (tail_spot (length old) (directed i) ar) (tie_tails old m new table table' h vs n numbered vs' n' numbered' c c' match ds d arrows ds' d' arrows' (directed i) q ar z) k.here in
          let f : Found' q = found' old m new table table' h vs n numbered vs' n' numbered' c c' match ds d arrows ds' d' arrows' q (tie_arrow old m new table table' h vs n numbered vs' n' numbered' c c' match ds d arrows ds' d' arrows' (directed i) q ar z) there in
          (inl f.i, first_kind corners' inner f.i f.among, (q, z, f.joined))

      buried : (ls : List ℕ) → In ls (directed i) → (b : ℕ ⊎ ℕ) × Among b (both corners' inner) × CornerOf (inl i) b
      buried ls z =
          let w = two_under (vertex_of z.f) ls ar.v ar.w (ap (λ (r : Place). r.vertices) (sym ar.is ∙ z.from)) in
          let la : w.0 < 5 = (subst Below5 w.2 z.small).0 in
          let lb : w.1 < 5 = (subst Below5 w.2 z.small).1.0 in
          let ne : w.0 ≢ w.1 = (λ e. ar.separate (sym w.3 ∙ ap (vertex_of z.f) e ∙ w.4)) in
          let off : w.0 ≢ z.i = head_off w.0 (w.1 ∷ []) z.i (ap (λ (ks : List ℕ). has ks z.i) (sym w.2) ∙ z.off) in
          let tail : tail_of (directed i) ≡ in_facet z.f (w.0 ∷ []) = ap tail_of ar.is ∙ (λ j. record { tet = (z.from j).tet; vertices = sym w.3 j ∷ [] }) in
          let on : x w.0 ≡ true = (label_old old m new table h vs n numbered vs' n' numbered' c c' match z.i w.0 z.f z.old_is la off).0 (ap (class_of vs) (sym tail) ∙ k.here) in
          let test : inside_old (length m.core) x (5 * w.0 + w.1) ≡ true = is_inside_old (length m.core) x w.0 w.1 lb ne (λ j l. ap (λ (ks : List ℕ). has ks j) (sym w.2) ∙ z.all j l) on in
          let e = parts_of_pair w.0 w.1 lb in (
            inr (5 * w.0 + w.1),
            second_kind corners' inner (5 * w.0 + w.1) (is_passing (inside_old (length m.core) x) 25 (5 * w.0 + w.1) (omega arith) test),
            subst (λ (ks : List ℕ). In ks (directed i)) (w.2 ∙ (λ j. sym e.0 j ∷ sym e.1 j ∷ [])) z,
          )
  forth (inr k) a =
      let z = passing_is (inside_new (length m.core) x) 25 k (is_second_kind corners inner' k a) in
      let p = inside_new_is (length m.core) x k z.0 z.1 in
      go p.0 p.1 (fails_or_all (has (k / 5 ∷ k % 5 ∷ [])) (length m.core))
    where
      go : ((i : ℕ) → length m.core ≤ i → i < 5 → has (k / 5 ∷ k % 5 ∷ []) i ≡ true) → IsInside x k → ((j : ℕ) × (j < length m.core) × (has (k / 5 ∷ k % 5 ∷ []) j ≡ false)) ⊎ ((j : ℕ) → j < length m.core → has (k / 5 ∷ k % 5 ∷ []) j ≡ true)
          → (b : ℕ ⊎ ℕ) × Among b (both corners' inner) × CornerOf (inr k) b
      go covers p (inr all) = absurd (no_three (k / 5) (k % 5) (one_of_two (k / 5) (k % 5) 0 (each 0 (omega arith))) (one_of_two (k / 5) (k % 5) 1 (each 1 (omega arith))) (one_of_two (k / 5) (k % 5) 2 (each 2 (omega arith))))
        where
          each : (j : ℕ) → j < 5 → has (k / 5 ∷ k % 5 ∷ []) j ≡ true
          each j l = elim (cases_lt j (length m.core)) [ inl less ↦ all j less | inr more ↦ covers j more l ]
      go covers p (inl (j, less, off)) =
          let q : Place = in_facet (at j) (k / 5 ∷ k % 5 ∷ []) in
          let b : New (k / 5 ∷ k % 5 ∷ []) (in_facet (at j) (k / 5 ∷ k % 5 ∷ [])) = record { j = j; less = less; small = (p.first, (p.second, tt)); off = off; all = covers; to = refl } in
          let off_a : k / 5 ≢ j = head_off (k / 5) (k % 5 ∷ []) j off in
          let off_b : k % 5 ≢ j = head_off (k % 5) [] j (tail_off (k / 5) (k % 5 ∷ []) j off) in
          let nl = new_labels j (small_label old m new table h j less) in
          let va = vertex_at j (ascending j) nl (k / 5) p.first off_a in
          let vb = vertex_at j (ascending j) nl (k % 5) p.second off_b in
          let ar : IsArrow (length new) (in_facet (at j) (k / 5 ∷ k % 5 ∷ [])) = record {
            v = vertex_of (at j) (k / 5);
            w = vertex_of (at j) (k % 5);
            is = refl;
            below = (let e = h.length_is in omega arith);
            low_v = va.small;
            low_w = vb.small;
            separate = λ e. p.separate (sym va.label ∙ ap (image (ascending j)) e ∙ vb.label);
          } in
          let there : class_of vs' (tail_of q) ≡ c' = (label_new old m new table h vs n numbered vs' n' numbered' c c' match j (k / 5) less p.first off_a).1 p.at in
          let f : Found' q = found' old m new table table' h vs n numbered vs' n' numbered' c c' match ds d arrows ds' d' arrows' q ar there in
          (inl f.i, first_kind corners' inner f.i f.among, new_buried_along old m new table h (k / 5 ∷ k % 5 ∷ []) q (directed f.i) b f.joined)
