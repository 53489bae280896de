-- Each directed edge of the new class is an image, or is a pair of labels inside the star.
use Rattle.std.proofs.Common.{◌≡◌, ◌≢◌, ℕ, ◌+◌, ◌-◌, ◌*◌, ◌/◌, ◌%◌, ◌<◌, Bool, true, false, List, [], ◌∷◌, length, ◌⊎◌, inl, inr, refl, sym, ap, ◌∙◌, subst, arith}
use Rattle.std.proofs.lemmas.Bool.{cases_lt}
use Rattle.table_definitions.specs.Lists.{has}
use Rattle.table_definitions.specs.Permutation.{image}
use Rattle.table_definitions.specs.Table.{Row, IsTable}
use Rattle.table_definitions.specs.Classes.{IsNumbering}
use Rattle.table_definitions.specs.Places.{Place, IsJoined, SameVertex}
use Rattle.table_definitions.proofs.ChainLaws.{joined_sym}
use Rattle.table_definitions.proofs.TableLaws.{Among}
use Rattle.skeleton_definitions.specs.Links.{directed, SameDirected}
use Rattle.move_definitions.specs.Moves.{Move, Facet, IsMoved, vertex_of}
use Rattle.move_laws.proofs.Labels.{vertex_at}
use Rattle.skeleton_laws.proofs.Matchings.{passing_is, is_passing, first_kind, second_kind, is_first_kind, is_second_kind, passing, both}
use Rattle.move_link_laws.proofs.Labelled.{in_facet, Below5, head_off, tail_off}
use Rattle.move_link_laws.proofs.Ties.{limited, new_at, old_at, Ties}
use Rattle.move_link_laws.proofs.JoinedBack.{joined_over, tie_follows}
use Rattle.move_link_laws.proofs.Buried.{fails_or_all, IsFree, one_of_two, no_three, free_of_two, Buried, NewBuried, new_tied_or_buried}
use Rattle.move_link_laws.proofs.BuriedChains.{buried_along}
use Rattle.skeleton_laws.proofs.Spots.{class_of}
use Rattle.move_link_laws.proofs.TiedSpots.{Match, class_under}
use Rattle.move_link_laws.proofs.StarLabels.{label_in, label_old, label_new}
use Rattle.move_link_laws.proofs.LabelPairs.{parts_of_pair}
use Rattle.skeleton_laws.proofs.Arrows.{IsArrow, arrow_place, directed_arrow, tail_of}
use Rattle.skeleton_laws.proofs.LinkCorners as Corners
use Rattle.skeleton_laws.proofs.LinkCorners.{tail_spot}
use Rattle.move_link_laws.proofs.InsidePairs.{inside_old, inside_new, IsInside, inside_old_is, is_inside_new, two_under}
use Rattle.move_link_laws.proofs.LinkVertices.{corner_is', found, tie_tails, pulled_arrow}

module _ (old : List Row) (m : Move) (new : List Row) (table : IsTable old) (table' : IsTable new) (h : IsMoved old m new)
    (vs : List ℕ) (n : ℕ) (numbered : IsNumbering (4 * length old) (SameVertex old) vs n) (vs' : List ℕ) (n' : ℕ) (numbered' : IsNumbering (4 * length new) (SameVertex new) vs' n') (c c' : ℕ)
    (match : Match old m new table h vs n numbered vs' n' numbered' c c')
    (ds : List ℕ) (d : ℕ) (arrows : IsNumbering (12 * length old) (SameDirected old) ds d) (ds' : List ℕ) (d' : ℕ) (arrows' : IsNumbering (12 * length new) (SameDirected new) ds' d') where
  abbrev Tie : Place → Place → Type 0
  Tie p q = Ties old m new table h p q

  abbrev In : List ℕ → Place → Type 0
  In ls p = Buried old m new table h ls p

  abbrev New : List ℕ → Place → Type 0
  New ls q = NewBuried old m new table h ls q

  abbrev at : ℕ → Facet
  at j = new_at old m new table h j

  abbrev x : ℕ → Bool
  x l = label_in old m new table h vs n numbered vs' n' numbered' c c' match l

  abbrev corners : List ℕ
  corners = Corners.corners old vs n numbered c ds d arrows

  abbrev corners' : List ℕ
  corners' = Corners.corners new vs' n' numbered' c' ds' d' arrows'

  abbrev inner : List ℕ
  inner = passing (inside_old (length m.core) x) 25

  abbrev inner' : List ℕ
  inner' = passing (inside_new (length m.core) x) 25

  abbrev IsCorner' : ℕ → Type 0
  IsCorner' i = Corners.IsCorner new vs' n' numbered' c' ds' d' arrows' i

  abbrev Found : Place → Type 0
  Found p = Corners.Found old vs n numbered c ds d arrows p

  abbrev CornerOf : ℕ ⊎ ℕ → ℕ ⊎ ℕ → Type 0
  CornerOf (inl i) (inl j) = (q : Place) × Tie (directed i) q × IsJoined new q (directed j)
  CornerOf (inl i) (inr k) = In (k / 5 ∷ k % 5 ∷ []) (directed i)
  CornerOf (inr k) (inl j) = New (k / 5 ∷ k % 5 ∷ []) (directed j)
  CornerOf (inr k) (inr l) = ⊥

  pub back : (b : ℕ ⊎ ℕ) → Among b (both corners' inner) → (a : ℕ ⊎ ℕ) × Among a (both corners inner') × CornerOf a b
  back (inl i) a = elim (new_tied_or_buried old m new table h (directed i) ar.below (arrow_place (length new) (directed i) ar) (subst (λ (r : Place). IsFree r.vertices) (sym ar.is) (free_of_two ar.v ar.w))) [
    | inl t ↦ tied t.0 t.1
    | inr t ↦ buried t.0 t.1
  ]
    where
      k : IsCorner' i
      k = corner_is' old m new table table' h vs n numbered vs' n' numbered' c c' match ds d arrows ds' d' arrows' i (is_first_kind corners' inner i a)

      ar : IsArrow (length new) (directed i)
      ar = directed_arrow (length new) i k.below

      tied : (p : Place) → Tie p (directed i) → (a : ℕ ⊎ ℕ) × Among a (both corners inner') × CornerOf a (inl i)
      tied p z =
          let pa : IsArrow (length old) p = pulled_arrow old m new table table' h vs n numbered vs' n' numbered' c c' match ds d arrows ds' d' arrows' p (directed i) ar z in
          let here : class_of vs (tail_of p) ≡ c = class_under old m new table h vs n numbered vs' n' numbered' c c' match (tail_of p) (tail_of (directed i)) (tail_spot (length old) p pa) (tie_tails old m new table table' h vs n numbered vs' n' numbered' c c' match ds d arrows ds' d' arrows' p (directed i) pa z) k.here in
          let f : Found p = found old m new table table' h vs n numbered vs' n' numbered' c c' match ds d arrows ds' d' arrows' p pa here in
          let t = tie_follows old m new table h p (directed f.i) (directed i) z f.joined in
          let j : IsJoined new (directed i) t.0 = joined_over old m new table h p (directed f.i) (directed i) t.0 z t.1 f.joined in
          (inl f.i, first_kind corners inner' f.i f.among, (t.0, t.1, joined_sym new (directed i) t.0 table' (arrow_place (length new) (directed i) ar) j))

      buried : (ls : List ℕ) → New ls (directed i) → (a : ℕ ⊎ ℕ) × Among a (both corners inner') × CornerOf a (inl i)
      buried ls z =
          let w = two_under (vertex_of (at z.j)) ls ar.v ar.w (ap (λ (r : Place). r.vertices) (sym ar.is ∙ z.to)) in
          let la : w.0 < 5 = (subst Below5 w.2 z.small).0 in
          let lb : w.1 < 5 = (subst Below5 w.2 z.small).1.0 in
          let ne : w.0 ≢ w.1 = (λ e. ar.separate (sym w.3 ∙ ap (vertex_of (at z.j)) e ∙ w.4)) in
          let off : w.0 ≢ z.j = head_off w.0 (w.1 ∷ []) z.j (ap (λ (ks : List ℕ). has ks z.j) (sym w.2) ∙ z.off) in
          let tail : tail_of (directed i) ≡ in_facet (at z.j) (w.0 ∷ []) = ap tail_of ar.is ∙ (λ j. record { tet = (z.to j).tet; vertices = sym w.3 j ∷ [] }) in
          let on : x w.0 ≡ true = (label_new old m new table h vs n numbered vs' n' numbered' c c' match z.j w.0 z.less la off).0 (ap (class_of vs') (sym tail) ∙ k.here) in
          let test : inside_new (length m.core) x (5 * w.0 + w.1) ≡ true = is_inside_new (length m.core) x w.0 w.1 lb ne (λ j low high. ap (λ (ks : List ℕ). has ks j) (sym w.2) ∙ z.all j low high) on in
          let e = parts_of_pair w.0 w.1 lb in (
            inr (5 * w.0 + w.1),
            second_kind corners inner' (5 * w.0 + w.1) (is_passing (inside_new (length m.core) x) 25 (5 * w.0 + w.1) (omega arith) test),
            subst (λ (ks : List ℕ). New ks (directed i)) (w.2 ∙ (λ j. sym e.0 j ∷ sym e.1 j ∷ [])) z,
          )
  back (inr k) a =
      let z = passing_is (inside_old (length m.core) x) 25 k (is_second_kind corners' inner k a) in
      let p = inside_old_is (length m.core) x k z.0 z.1 in
      go p.0 p.1 (fails_or_all (λ i. has (k / 5 ∷ k % 5 ∷ []) (length m.core + i)) (5 - length m.core))
    where
      go : ((j : ℕ) → j < length m.core → has (k / 5 ∷ k % 5 ∷ []) j ≡ true) → IsInside x k
          → ((i : ℕ) × (i < 5 - length m.core) × (has (k / 5 ∷ k % 5 ∷ []) (length m.core + i) ≡ false)) ⊎ ((i : ℕ) → i < 5 - length m.core → has (k / 5 ∷ k % 5 ∷ []) (length m.core + i) ≡ true)
          → (a : ℕ ⊎ ℕ) × Among a (both corners inner') × CornerOf a (inr k)
      go covers p (inr all) = absurd (no_three (k / 5) (k % 5) (one_of_two (k / 5) (k % 5) 0 (each 0 (omega arith))) (one_of_two (k / 5) (k % 5) 1 (each 1 (omega arith))) (one_of_two (k / 5) (k % 5) 2 (each 2 (omega arith))))
        where
          each : (j : ℕ) → j < 5 → has (k / 5 ∷ k % 5 ∷ []) j ≡ true
          each j l = elim (cases_lt j (length m.core)) [
            | inl less ↦ covers j less
            | inr more ↦ (let e : length m.core + (j - length m.core) ≡ j = omega arith in subst (λ z. has (k / 5 ∷ k % 5 ∷ []) z ≡ true) e (all (j - length m.core) (omega arith)))
          ]
      go covers p (inl (i, less, off)) =
          let o : ℕ = length m.core + i in
          let g = old_at old m new table h (length m.core + i) (omega arith) (let f = limited old m new table h in omega arith) in
          let q : Place = in_facet g.0 (k / 5 ∷ k % 5 ∷ []) in
          let b : In (k / 5 ∷ k % 5 ∷ []) (in_facet g.0 (k / 5 ∷ k % 5 ∷ [])) = record { i = o; f = g.0; old_is = g.1; small = (p.first, (p.second, tt)); off = off; all = covers; from = refl } in
          let off_a : k / 5 ≢ o = head_off (k / 5) (k % 5 ∷ []) o off in
          let off_b : k % 5 ≢ o = head_off (k % 5) [] o (tail_off (k / 5) (k % 5 ∷ []) o off) in
          let va = vertex_at o g.0.labels g.1.is.labels (k / 5) p.first off_a in
          let vb = vertex_at o g.0.labels g.1.is.labels (k % 5) p.second off_b in
          let ar : IsArrow (length old) (in_facet g.0 (k / 5 ∷ k % 5 ∷ [])) = record {
            v = vertex_of g.0 (k / 5);
            w = vertex_of g.0 (k % 5);
            is = refl;
            below = g.1.is.in_range;
            low_v = va.small;
            low_w = vb.small;
            separate = λ e. p.separate (sym va.label ∙ ap (image g.0.labels) e ∙ vb.label);
          } in
          let here : class_of vs (tail_of q) ≡ c = (label_old old m new table h vs n numbered vs' n' numbered' c c' match o (k / 5) g.0 g.1 p.first off_a).1 p.at in
          let f : Found q = found old m new table table' h vs n numbered vs' n' numbered' c c' match ds d arrows ds' d' arrows' q ar here in
          (inl f.i, first_kind corners inner' f.i f.among, buried_along old m new table h (k / 5 ∷ k % 5 ∷ []) q (directed f.i) b f.joined)
