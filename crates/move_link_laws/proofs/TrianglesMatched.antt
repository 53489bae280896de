-- Corresponding links have the same number of triangles, up to pairs of a facet and a label of it.
use Rattle.std.proofs.Common.{◌≡◌, ◌≢◌, ℕ, ◌+◌, ◌*◌, ◌/◌, ◌%◌, ◌<◌, Bool, List, [], ◌∷◌, length, ◌⊎◌, inl, inr, sym, ap, ◌∙◌, arith}
use Rattle.std.specs.Prelude.{count_by}
use Rattle.std.proofs.lemmas.Bool.{false≢true}
use Rattle.table_definitions.specs.Lists.{has, below, rank_without, times_in}
use Rattle.table_definitions.specs.Table.{Row, IsTable}
use Rattle.table_definitions.specs.Classes.{IsNumbering}
use Rattle.table_definitions.specs.Places.{Place, vertex, SameVertex}
use Rattle.table_definitions.proofs.TableLaws.{Among}
use Rattle.move_definitions.specs.Moves.{Move, Facet, IsMoved, facet, kept, old_tets}
use Rattle.move_laws.proofs.ListedFacets.{same_some}
use Rattle.move_laws.proofs.Placed.{closed_up_small}
use Rattle.skeleton_class_laws.specs.Crossings.{vertex_at}
use Rattle.skeleton_laws.proofs.Matchings.{related_same, length-passing, passing_apart, passing_is, length-both, is_second_kind, both_apart, passing, both}
use Rattle.move_link_laws.proofs.Labelled.{in_facet}
use Rattle.skeleton_laws.proofs.LinkCorners as Corners
use Rattle.move_link_laws.proofs.Ties.{fine, new_at, IsOld, old_has, KeptTie}
use Rattle.move_link_laws.proofs.TiesOnce.{closed_up_once, same_old_place, same_new_place}
use Rattle.skeleton_laws.proofs.Spots.{vertex_number_again}
use Rattle.move_link_laws.proofs.TiedSpots.{Match}
use Rattle.move_link_laws.proofs.StarLabels.{off_one, label_in}
use Rattle.move_link_laws.proofs.LabelPairs.{old_pair, new_pair, old_pair_is}
use Rattle.move_link_laws.proofs.Triangles.{forth, back}

module _ (old : List Row) (m : Move) (new : List Row) (table : IsTable old) (h : IsMoved old m new)
    (vs : List ℕ) (n : ℕ) (numbered : IsNumbering (4 * length old) (SameVertex old) vs n) (vs' : List ℕ) (n' : ℕ) (numbered' : IsNumbering (4 * length new) (SameVertex new) vs' n') (c c' : ℕ)
    (match : Match old m new table h vs n numbered vs' n' numbered' c c') where
  abbrev Kept : Place → Place → Type 0
  Kept p q = KeptTie old m new table h p q

  abbrev Old : ℕ → Facet → Type 0
  Old i f = IsOld old m new table h i f

  abbrev at : ℕ → Facet
  at j = new_at old m new table h j

  abbrev x : ℕ → Bool
  x l = label_in old m new table h vs n numbered vs' n' numbered' c c' match l

  abbrev members : List ℕ
  members = Corners.members old vs n numbered c

  abbrev members' : List ℕ
  members' = Corners.members new vs' n' numbered' c'

  abbrev old_pairs : List ℕ
  old_pairs = passing (old_pair (length m.core) x) 25

  abbrev new_pairs : List ℕ
  new_pairs = passing (new_pair (length m.core) x) 25

  abbrev Triangle : ℕ ⊎ ℕ → ℕ ⊎ ℕ → Type 0
  Triangle (inl i) (inl j) = Kept (vertex i) (vertex j)
  Triangle (inl i) (inr k) = (f : Facet) × Old (k / 5) f × (vertex i ≡ in_facet f (k % 5 ∷ []))
  Triangle (inr k) (inl j) = (k / 5 < length m.core) × (k % 5 < 5) × (k % 5 ≢ k / 5) × (vertex j ≡ in_facet (at (k / 5)) (k % 5 ∷ []))
  Triangle (inr k) (inr l) = ⊥

  same_number : (i j : ℕ) → vertex i ≡ vertex j → i ≡ j
  same_number i j e = sym (vertex_number_again i) ∙ ap vertex_at e ∙ vertex_number_again j

  same_pair : (k l : ℕ) → k / 5 ≡ l / 5 → k % 5 ∷ [] ≡ l % 5 ∷ [] → k ≡ l
  same_pair k l a b = let e : k % 5 ≡ l % 5 = cc in omega arith

  kept_not_new : (i j k : ℕ) → Kept (vertex i) (vertex j) → vertex j ≡ in_facet (at (k / 5)) (k % 5 ∷ []) → ⊥
  kept_not_new i j k a e =
      let low : rank_without (old_tets old m) (i / 4) < kept old m = closed_up_small old m (i / 4) table (fine old m new table h) h.core a.tet a.stays in
      let tets : rank_without (old_tets old m) (i / 4) ≡ kept old m + k / 5 = ap (λ (r : Place). r.tet) (sym a.is ∙ e) in
      omega arith

  kept_not_old : (i j k : ℕ) (f : Facet) → Kept (vertex i) (vertex j) → Old (k / 5) f → vertex i ≡ in_facet f (k % 5 ∷ []) → ⊥
  kept_not_old i j k f a b e = false≢true (sym a.stays ∙ ap (λ (r : Place). has (old_tets old m) r.tet) e ∙ old_has old m new table h (k / 5) f b)

  once : (a a' b : ℕ ⊎ ℕ) → Triangle a b → Triangle a' b → a ≡ a'
  once (inl i) (inl i') (inl j) r s =
      let q = sym r.is ∙ s.is in
      let tets : i / 4 ≡ i' / 4 = closed_up_once old m new table h (i / 4) (i' / 4) r.tet s.tet r.stays s.stays (ap (λ (z : Place). z.tet) q) in
      let same : vertex i ≡ vertex i' = (λ z. record { tet = tets z; vertices = (q z).vertices }) in
      ap (λ z. inl z) (same_number i i' same)
  once (inl i) (inl i') (inr k) r s =
      let same : r.0 ≡ s.0 = same_some (facet old m (k / 5)) r.0 s.0 r.1.found s.1.found in
      ap (λ z. inl z) (same_number i i' (r.2 ∙ ap (λ (f : Facet). in_facet f (k % 5 ∷ [])) same ∙ sym s.2))
  once (inl i) (inr k) (inl j) r s = absurd (kept_not_new i j k r s.3)
  once (inl i) (inr k) (inr l) r s = absurd s
  once (inr k) (inl i) (inl j) r s = absurd (kept_not_new i j k s r.3)
  once (inr k) (inl i) (inr l) r s = absurd r
  once (inr k) (inr l) (inl j) r s =
      let q = same_new_place old m new table h (k / 5) (l / 5) (k % 5 ∷ []) (l % 5 ∷ []) r.0 s.0 (r.1, tt) (s.1, tt) (off_one (k % 5) (k / 5) r.2) (off_one (l % 5) (l / 5) s.2) (sym r.3 ∙ s.3) in
      ap (λ z. inr z) (same_pair k l q.0 q.1)
  once (inr k) (inr l) (inr j) r s = absurd r

  once' : (a b b' : ℕ ⊎ ℕ) → Among b (both members' old_pairs) → Among b' (both members' old_pairs) → Triangle a b → Triangle a b' → b ≡ b'
  once' (inl i) (inl j) (inl j') u v r s = ap (λ z. inl z) (same_number j j' (r.is ∙ sym s.is))
  once' (inl i) (inl j) (inr k) u v r s = absurd (kept_not_old i j k s.0 r s.1 s.2)
  once' (inl i) (inr k) (inl j) u v r s = absurd (kept_not_old i j k r.0 s r.1 r.2)
  once' (inl i) (inr k) (inr l) u v r s =
      let y = passing_is (old_pair (length m.core) x) 25 k (is_second_kind members' old_pairs k u) in
      let w = passing_is (old_pair (length m.core) x) 25 l (is_second_kind members' old_pairs l v) in
      let p = old_pair_is (length m.core) x k y.0 y.1 in
      let p' = old_pair_is (length m.core) x l w.0 w.1 in
      let q = same_old_place old m new table h (k / 5) (l / 5) r.0 s.0 (k % 5 ∷ []) (l % 5 ∷ []) r.1 s.1 (p.1.label, tt) (p'.1.label, tt) (off_one (k % 5) (k / 5) p.1.off) (off_one (l % 5) (l / 5) p'.1.off) (sym r.2 ∙ s.2) in
      ap (λ z. inr z) (same_pair k l q.0 q.2)
  once' (inr k) (inl j) (inl j') u v r s = ap (λ z. inl z) (same_number j j' (r.3 ∙ sym s.3))
  once' (inr k) (inl j) (inr l) u v r s = absurd s
  once' (inr k) (inr l) b u v r s = absurd r

  pub triangles_match : times_in vs c + count_by (new_pair (length m.core) x) (below 25) ≡ times_in vs' c' + count_by (old_pair (length m.core) x) (below 25)
  triangles_match =
      let same : length (both members new_pairs) ≡ length (both members' old_pairs) = related_same Triangle (both members new_pairs) (both members' old_pairs)
      (both_apart members new_pairs (passing_apart (Corners.is_of_class old vs n numbered c) (4 * length old)) (passing_apart (new_pair (length m.core) x) 25))
      (both_apart members' old_pairs (passing_apart (Corners.is_of_class new vs' n' numbered' c') (4 * length new)) (passing_apart (old_pair (length m.core) x) 25))
      (forth old m new table h vs n numbered vs' n' numbered' c c' match) (back old m new table h vs n numbered vs' n' numbered' c c' match) (λ a a' b u v r s. once a a' b r s) once' in
      let l : length (both members new_pairs) ≡ length members + length new_pairs = length-both members new_pairs in
      let r : length (both members' old_pairs) ≡ length members' + length old_pairs = length-both members' old_pairs in
      let a : length members ≡ times_in vs c = Corners.length-members old vs n numbered c in
      let b : length members' ≡ times_in vs' c' = Corners.length-members new vs' n' numbered' c' in
      let d : length new_pairs ≡ count_by (new_pair (length m.core) x) (below 25) = length-passing (new_pair (length m.core) x) 25 in
      let e : length old_pairs ≡ count_by (old_pair (length m.core) x) (below 25) = length-passing (old_pair (length m.core) x) 25 in
      omega arith
