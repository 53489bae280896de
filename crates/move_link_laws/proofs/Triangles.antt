-- The triangles of corresponding links: those in retained tetrahedra correspond, and the others are pairs of a facet
-- and a label at the class.
use Rattle.std.proofs.Common.{◌≡◌, ◌≢◌, ℕ, ◌+◌, ◌-◌, ◌*◌, ◌/◌, ◌%◌, ◌<◌, ◌≤◌, Bool, true, false, List, [], ◌∷◌, length, ◌⊎◌, inl, inr, sym, ap, ◌∙◌, subst, arith}
use Rattle.std.proofs.lemmas.Bool.{cases_lt}
use Rattle.basic_lemmas.proofs.Truths.{by_bool}
use Rattle.table_definitions.specs.Lists.{has, rank_without}
use Rattle.table_definitions.specs.Permutation.{image}
use Rattle.table_definitions.specs.Table.{Row, IsTable}
use Rattle.table_definitions.specs.Classes.{IsNumbering}
use Rattle.table_definitions.specs.Places.{Place, vertex, SameVertex}
use Rattle.table_definitions.proofs.TableLaws.{Among}
use Rattle.move_definitions.specs.Moves.{Move, Facet, IsMoved, kept, old_tets}
use Rattle.move_laws.proofs.Labels.{ascending, new_labels, HasLabel, label_at}
use Rattle.move_laws.proofs.Legal.{OldFacet, old_tet_facet}
use Rattle.skeleton_class_laws.specs.Crossings.{vertex_at}
use Rattle.skeleton_laws.proofs.Matchings.{passing_is, is_passing, first_kind, second_kind, is_first_kind, is_second_kind, passing, both}
use Rattle.move_link_laws.proofs.Labelled.{head_off, in_facet}
use Rattle.skeleton_laws.proofs.LinkCorners as Corners
use Rattle.move_link_laws.proofs.Ties.{new_at, small_label, IsOld, is_old, old_at, Ties, KeptTie, FacetTie}
use Rattle.move_link_laws.proofs.TieShapes.{tie_shape, kept_tie}
use Rattle.move_link_laws.proofs.Buried.{free_of_two}
use Rattle.skeleton_laws.proofs.Spots.{IsSpot, spot_again, vertex_spot, class_of}
use Rattle.move_link_laws.proofs.TiedSpots.{tie_spot, Match, class_over, class_under, all_tied_new}
use Rattle.move_link_laws.proofs.StarLabels.{off_one, label_spot, new_label_spot, label_in, label_old, label_new}
use Rattle.move_link_laws.proofs.LabelPairs.{old_pair, new_pair, old_pair_is, new_pair_is, parts_of_pair, is_old_pair, is_new_pair}

module _ (old : List Row) (m : Move) (new : List Row) (table : IsTable old) (h : IsMoved old m new)
    (vs : List ℕ) (n : ℕ) (numbered : IsNumbering (4 * length old) (SameVertex old) vs n) (vs' : List ℕ) (n' : ℕ) (numbered' : IsNumbering (4 * length new) (SameVertex new) vs' n') (c c' : ℕ)
    (match : Match old m new table h vs n numbered vs' n' numbered' c c') where
  abbrev Tie : Place → Place → Type 0
  Tie p q = Ties old m new table h p q

  abbrev Kept : Place → Place → Type 0
  Kept p q = KeptTie old m new table h p q

  abbrev Old : ℕ → Facet → Type 0
  Old i f = IsOld old m new table h i f

  abbrev at : ℕ → Facet
  at j = new_at old m new table h j

  abbrev size : ℕ
  size = length m.core

  abbrev x : ℕ → Bool
  x l = label_in old m new table h vs n numbered vs' n' numbered' c c' match l

  abbrev members : List ℕ
  members = Corners.members old vs n numbered c

  abbrev members' : List ℕ
  members' = Corners.members new vs' n' numbered' c'

  abbrev old_pairs : List ℕ
  old_pairs = passing (old_pair (length m.core) x) 25

  abbrev new_pairs : List ℕ
  new_pairs = passing (new_pair (length m.core) x) 25

  member_is : (i : ℕ) → Among i members → (i < 4 * length old) × (class_of vs (vertex i) ≡ c)
  member_is i a = Corners.member_is old vs n numbered c i a

  is_member : (p : Place) → IsSpot (length old) p → class_of vs p ≡ c → Among (vertex_at p) members
  is_member p s e = Corners.is_member old vs n numbered c p s e

  member_is' : (i : ℕ) → Among i members' → (i < 4 * length new) × (class_of vs' (vertex i) ≡ c')
  member_is' i a = Corners.member_is new vs' n' numbered' c' i a

  is_member' : (p : Place) → IsSpot (length new) p → class_of vs' p ≡ c' → Among (vertex_at p) members'
  is_member' p s e = Corners.is_member new vs' n' numbered' c' p s e

  -- a triangle in a retained tetrahedron corresponds to its image, and the others are pairs of a facet and a label
  abbrev Triangle : ℕ ⊎ ℕ → ℕ ⊎ ℕ → Type 0
  Triangle (inl i) (inl j) = Kept (vertex i) (vertex j)
  Triangle (inl i) (inr k) = (f : Facet) × Old (k / 5) f × (vertex i ≡ in_facet f (k % 5 ∷ []))
  Triangle (inr k) (inl j) = (k / 5 < length m.core) × (k % 5 < 5) × (k % 5 ≢ k / 5) × (vertex j ≡ in_facet (at (k / 5)) (k % 5 ∷ []))
  Triangle (inr k) (inr l) = ⊥

  pub forth : (a : ℕ ⊎ ℕ) → Among a (both members new_pairs) → (b : ℕ ⊎ ℕ) × Among b (both members' old_pairs) × Triangle a b
  forth (inl i) a = by_bool (has (old_tets old m) (i / 4)) (λ e. in_star (old_tet_facet old m (i / 4) h.core e)) is_kept
    where
      p : (i < 4 * length old) × (class_of vs (vertex i) ≡ c)
      p = member_is i (is_first_kind members new_pairs i a)

      lt : i / 4 < length old
      lt = (vertex_spot (length old) i p.0).below

      lv : i % 4 < 4
      lv = omega arith

      is_kept : has (old_tets old m) (i / 4) ≡ false → (b : ℕ ⊎ ℕ) × Among b (both members' old_pairs) × Triangle (inl i) b
      is_kept e =
          let q : Place = record { tet = rank_without (old_tets old m) (i / 4); vertices = i % 4 ∷ [] } in
          let fr = free_of_two (i % 4) (i % 4) in
          let off : has (i % 4 ∷ []) fr.0 ≡ false = off_one (i % 4) fr.0 (head_off (i % 4) (i % 4 ∷ []) fr.0 fr.2) in
          let tie : Tie (vertex i) q = kept_tie old m new table h (vertex i) e lt (lv, tt) fr.0 fr.1 off in
          let s : IsSpot (length new) q = tie_spot old m new table h (vertex i) q (vertex_spot (length old) i p.0) tie in
          let number : vertex (vertex_at q) ≡ q = spot_again (length new) q s in (
            inl (vertex_at q),
            first_kind members' old_pairs (vertex_at q) (is_member' q s (class_over old m new table h vs n numbered vs' n' numbered' c c' match (vertex i) q (vertex_spot (length old) i p.0) tie p.1)),
            record { stays = e; tet = lt; is = number },
          )

      in_star : OldFacet old m (i / 4) → (b : ℕ ⊎ ℕ) × Among b (both members' old_pairs) × Triangle (inl i) b
      in_star o =
          let f : Facet = o.facet_of in
          let b : Old o.label f = is_old old m new table h o.label f o.low o.high o.is in
          let l : ℕ = image f.labels (i % 4) in
          let label : HasLabel o.label f.labels (i % 4) = label_at o.label f.labels b.is.labels (i % 4) lv in
          let is : vertex i ≡ in_facet f (l ∷ []) = (λ j. record { tet = sym o.tet j; vertices = sym label.vertex j ∷ [] }) in
          let on : x l ≡ true = (label_old old m new table h vs n numbered vs' n' numbered' c c' match o.label l f b label.small label.present).0 (ap (class_of vs) (sym is) ∙ p.1) in
          let e = parts_of_pair o.label l label.small in
          let small : 5 * o.label + l < 25 = (let a1 : image o.facet_of.labels (i % 4) < 5 = label.small in let a2 = o.high in omega arith) in (
            inr (5 * o.label + l),
            second_kind members' old_pairs (5 * o.label + l) (is_passing (old_pair (length m.core) x) 25 (5 * o.label + l) small (is_old_pair (length m.core) x o.label l label.small o.low label.present on)),
            (f, subst (λ z. Old z f) (sym e.0) b, is ∙ (λ j. in_facet f (sym e.1 j ∷ []))),
          )
  forth (inr k) a =
      let z = passing_is (new_pair (length m.core) x) 25 k (is_second_kind members new_pairs k a) in
      let p = new_pair_is (length m.core) x k z.0 z.1 in
      let q : Place = in_facet (at (k / 5)) (k % 5 ∷ []) in
      let s = new_label_spot old m new table h (k / 5) (k % 5) p.0 p.1.label p.1.off in (
        inl (vertex_at q),
        first_kind members' old_pairs (vertex_at q) (is_member' q s ((label_new old m new table h vs n numbered vs' n' numbered' c c' match (k / 5) (k % 5) p.0 p.1.label p.1.off).1 p.1.at)),
        (p.0, p.1.label, p.1.off, spot_again (length new) q s),
      )

  pub back : (b : ℕ ⊎ ℕ) → Among b (both members' old_pairs) → (a : ℕ ⊎ ℕ) × Among a (both members new_pairs) × Triangle a b
  back (inr k) a =
      let z = passing_is (old_pair (length m.core) x) 25 k (is_second_kind members' old_pairs k a) in
      let p = old_pair_is (length m.core) x k z.0 z.1 in
      let f = old_at old m new table h (k / 5) p.0 p.1.facet in
      let q : Place = in_facet f.0 (k % 5 ∷ []) in
      let s = label_spot old m new table h (k / 5) (k % 5) f.0 f.1 p.1.label p.1.off in (
        inl (vertex_at q),
        first_kind members new_pairs (vertex_at q) (is_member q s ((label_old old m new table h vs n numbered vs' n' numbered' c c' match (k / 5) (k % 5) f.0 f.1 p.1.label p.1.off).1 p.1.at)),
        (f.0, f.1, spot_again (length old) q s),
      )
  back (inl j) a = elim (cases_lt (j / 4) (kept old m)) [ inl low ↦ is_kept low | inr high ↦ in_star high ]
    where
      p : (j < 4 * length new) × (class_of vs' (vertex j) ≡ c')
      p = member_is' j (is_first_kind members' old_pairs j a)

      s : IsSpot (length new) (vertex j)
      s = vertex_spot (length new) j p.0

      lv : j % 4 < 4
      lv = omega arith

      is_kept : j / 4 < kept old m → (a : ℕ ⊎ ℕ) × Among a (both members new_pairs) × Triangle a (inl j)
      is_kept low = go (tie_shape old m new table h t.0 (vertex j) t.1)
        where
          t : (p : Place) × Tie p (vertex j)
          t = all_tied_new old m new table h vs n numbered vs' n' numbered' c c' match (vertex j) s p.1

          go : Kept t.0 (vertex j) ⊎ FacetTie old m new table h t.0 (vertex j) → (a : ℕ ⊎ ℕ) × Among a (both members new_pairs) × Triangle a (inl j)
          go (inr b) = absurd (let e : j / 4 ≡ kept old m + b.j = ap (λ (r : Place). r.tet) b.to in omega arith)
          go (inl b) =
              let u : IsSpot (length old) t.0 = record { v = j % 4; is = (λ i. record { tet = t.0.tet; vertices = (sym b.is i).vertices }); below = b.tet; low = lv } in
              let number : vertex (vertex_at t.0) ≡ t.0 = spot_again (length old) t.0 u in (
                inl (vertex_at t.0),
                first_kind members new_pairs (vertex_at t.0) (is_member t.0 u (class_under old m new table h vs n numbered vs' n' numbered' c c' match t.0 (vertex j) u t.1 p.1)),
                subst (λ (r : Place). Kept r (vertex j)) (sym number) b,
              )

      in_star : kept old m ≤ j / 4 → (a : ℕ ⊎ ℕ) × Among a (both members new_pairs) × Triangle a (inl j)
      in_star high =
          let i : ℕ = j / 4 - kept old m in
          let less : j / 4 - kept old m < length m.core = (let e = h.length_is in let b = s.below in omega arith) in
          let small : j / 4 - kept old m < 5 = small_label old m new table h i less in
          let l : ℕ = image (ascending i) (j % 4) in
          let label : HasLabel i (ascending i) (j % 4) = label_at i (ascending i) (new_labels i small) (j % 4) lv in
          let tet : j / 4 ≡ kept old m + (j / 4 - kept old m) = omega arith in
          let is : vertex j ≡ in_facet (at i) (l ∷ []) = (λ z. record { tet = tet z; vertices = sym label.vertex z ∷ [] }) in
          let on : x l ≡ true = (label_new old m new table h vs n numbered vs' n' numbered' c c' match i l less label.small label.present).0 (ap (class_of vs') (sym is) ∙ p.1) in
          let e = parts_of_pair i l label.small in
          let limited : 5 * i + l < 25 = (let a1 : image (ascending (j / 4 - kept old m)) (j % 4) < 5 = label.small in omega arith) in
          let there : vertex j ≡ in_facet (at ((5 * i + l) / 5)) ((5 * i + l) % 5 ∷ []) = is ∙ (λ z. in_facet (at (sym e.0 z)) (sym e.1 z ∷ [])) in (
            inr (5 * i + l),
            second_kind members new_pairs (5 * i + l) (is_passing (new_pair (length m.core) x) 25 (5 * i + l) limited (is_new_pair (length m.core) x i l label.small less label.present on)),
            (subst (λ z. z < length m.core) (sym e.0) less, subst (λ z. z < 5) (sym e.1) label.small, (λ q. label.present (sym e.1 ∙ q ∙ e.0)), there),
          )
