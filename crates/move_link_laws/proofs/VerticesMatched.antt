-- Corresponding links have the same number of vertices, up to pairs of labels inside the star.
use Rattle.std.proofs.Common.{◌≡◌, ℕ, ◌+◌, ◌*◌, ◌/◌, ◌%◌, Bool, List, [], ◌∷◌, length, ◌⊎◌, inl, inr, ap, arith}
use Rattle.std.specs.Prelude.{count_by}
use Rattle.table_definitions.specs.Lists.{below}
use Rattle.table_definitions.specs.Table.{Row, IsTable}
use Rattle.table_definitions.specs.Classes.{IsNumbering}
use Rattle.table_definitions.specs.Places.{Place, IsPlace, IsJoined, SameVertex}
use Rattle.table_definitions.proofs.ChainLaws.{joined_refl, joined_sym, joined_trans}
use Rattle.table_definitions.proofs.TableLaws.{Among}
use Rattle.skeleton_definitions.specs.Links.{directed, SameDirected, link_vertices}
use Rattle.move_definitions.specs.Moves.{Move, IsMoved}
use Rattle.skeleton_laws.proofs.Matchings.{related_same, length-passing, passing_apart, length-both, is_first_kind, both_apart, passing, both}
use Rattle.move_link_laws.proofs.Ties.{Ties}
use Rattle.move_link_laws.proofs.Joined.{tie_place}
use Rattle.move_link_laws.proofs.JoinedBack.{joined_over, joined_under}
use Rattle.move_link_laws.proofs.Buried.{Buried, NewBuried}
use Rattle.move_link_laws.proofs.BuriedChains.{buried_joined, buried_once, new_buried_along, new_buried_joined, new_buried_once}
use Rattle.move_link_laws.proofs.TiedSpots.{tie_not_buried, tie_not_new_buried, Match}
use Rattle.move_link_laws.proofs.StarLabels.{label_in}
use Rattle.skeleton_laws.proofs.LinkCorners as Corners
use Rattle.skeleton_laws.proofs.LinkCorners.{tail_spot}
use Rattle.move_link_laws.proofs.InsidePairs.{inside_old, inside_new, same_two}
use Rattle.move_link_laws.proofs.LinkVertices.{corner_is, corner_is'}
use Rattle.move_link_laws.proofs.TiedCorners.{forth}
use Rattle.move_link_laws.proofs.TiedCornersBack.{back}

module _ (old : List Row) (m : Move) (new : List Row) (table : IsTable old) (table' : IsTable new) (h : IsMoved old m new)
    (vs : List ℕ) (n : ℕ) (numbered : IsNumbering (4 * length old) (SameVertex old) vs n) (vs' : List ℕ) (n' : ℕ) (numbered' : IsNumbering (4 * length new) (SameVertex new) vs' n') (c c' : ℕ)
    (match : Match old m new table h vs n numbered vs' n' numbered' c c')
    (ds : List ℕ) (d : ℕ) (arrows : IsNumbering (12 * length old) (SameDirected old) ds d) (ds' : List ℕ) (d' : ℕ) (arrows' : IsNumbering (12 * length new) (SameDirected new) ds' d') where
  abbrev Tie : Place → Place → Type 0
  Tie p q = Ties old m new table h p q

  abbrev In : List ℕ → Place → Type 0
  In ls p = Buried old m new table h ls p

  abbrev New : List ℕ → Place → Type 0
  New ls q = NewBuried old m new table h ls q

  abbrev x : ℕ → Bool
  x l = label_in old m new table h vs n numbered vs' n' numbered' c c' match l

  abbrev corners : List ℕ
  corners = Corners.corners old vs n numbered c ds d arrows

  abbrev corners' : List ℕ
  corners' = Corners.corners new vs' n' numbered' c' ds' d' arrows'

  abbrev inner : List ℕ
  inner = passing (inside_old (length m.core) x) 25

  abbrev inner' : List ℕ
  inner' = passing (inside_new (length m.core) x) 25

  abbrev IsCorner : ℕ → Type 0
  IsCorner i = Corners.IsCorner old vs n numbered c ds d arrows i

  abbrev IsCorner' : ℕ → Type 0
  IsCorner' i = Corners.IsCorner new vs' n' numbered' c' ds' d' arrows' i

  abbrev CornerOf : ℕ ⊎ ℕ → ℕ ⊎ ℕ → Type 0
  CornerOf (inl i) (inl j) = (q : Place) × Tie (directed i) q × IsJoined new q (directed j)
  CornerOf (inl i) (inr k) = In (k / 5 ∷ k % 5 ∷ []) (directed i)
  CornerOf (inr k) (inl j) = New (k / 5 ∷ k % 5 ∷ []) (directed j)
  CornerOf (inr k) (inr l) = ⊥

  same_corner : (i j : ℕ) → IsCorner i → IsCorner j → IsJoined old (directed i) (directed j) → i ≡ j
  same_corner i j a b s = Corners.same_corner old vs n numbered c ds d arrows i j a b s

  same_corner' : (i j : ℕ) → IsCorner' i → IsCorner' j → IsJoined new (directed i) (directed j) → i ≡ j
  same_corner' i j a b s = Corners.same_corner new vs' n' numbered' c' ds' d' arrows' i j a b s

  back_joined : (q : Place) (j : ℕ) → IsPlace q → IsJoined new q (directed j) → IsJoined new (directed j) q
  back_joined q j place s = joined_sym new q (directed j) table' place s

  tie_place' : (p q : Place) → Tie p q → IsPlace q
  tie_place' p q z = tie_place old m new table h p q z

  never : (i j k : ℕ) → (q : Place) → Tie (directed i) q → IsJoined new q (directed j) → New (k / 5 ∷ k % 5 ∷ []) (directed j) → ⊥
  never i j k q z s b = tie_not_new_buried old m new table h (k / 5 ∷ k % 5 ∷ []) (directed i) q z (new_buried_along old m new table h (k / 5 ∷ k % 5 ∷ []) (directed j) q b (back_joined q j (tie_place' (directed i) q z) s))

  once : (a a' b : ℕ ⊎ ℕ) → Among a (both corners inner') → Among a' (both corners inner') → CornerOf a b → CornerOf a' b → a ≡ a'
  once (inl i) (inl i') (inl j) u v r s =
      let both_joined : IsJoined new r.0 s.0 = joined_trans new r.0 (directed j) s.0 r.2 (back_joined s.0 j (tie_place' (directed i') s.0 s.1) s.2) in
      ap (λ z. inl z) (same_corner i i' (corner_is old m new table table' h vs n numbered vs' n' numbered' c c' match ds d arrows ds' d' arrows' i (is_first_kind corners inner' i u)) (corner_is old m new table table' h vs n numbered vs' n' numbered' c c' match ds d arrows ds' d' arrows' i' (is_first_kind corners inner' i' v)) (joined_under old m new table h (directed i) (directed i') r.0 s.0 r.1 s.1 both_joined))
  once (inl i) (inl i') (inr k) u v r s =
      ap (λ z. inl z) (same_corner i i' (corner_is old m new table table' h vs n numbered vs' n' numbered' c c' match ds d arrows ds' d' arrows' i (is_first_kind corners inner' i u)) (corner_is old m new table table' h vs n numbered vs' n' numbered' c c' match ds d arrows ds' d' arrows' i' (is_first_kind corners inner' i' v)) (buried_joined old m new table h (k / 5 ∷ k % 5 ∷ []) (directed i) (directed i') r s))
  once (inl i) (inr k) (inl j) u v r s = absurd (never i j k r.0 r.1 r.2 s)
  once (inl i) (inr k) (inr l) u v r s = absurd s
  once (inr k) (inl i) (inl j) u v r s = absurd (never i j k s.0 s.1 s.2 r)
  once (inr k) (inl i) (inr l) u v r s = absurd r
  once (inr k) (inr l) (inl j) u v r s = ap (λ z. inr z) (same_two k l (new_buried_once old m new table h (k / 5 ∷ k % 5 ∷ []) (l / 5 ∷ l % 5 ∷ []) (directed j) r s))
  once (inr k) (inr l) (inr j) u v r s = absurd r

  once' : (a b b' : ℕ ⊎ ℕ) → Among b (both corners' inner) → Among b' (both corners' inner) → CornerOf a b → CornerOf a b' → b ≡ b'
  once' (inl i) (inl j) (inl j') u v r s =
      let over : IsJoined new r.0 s.0 = joined_over old m new table h (directed i) (directed i) r.0 s.0 r.1 s.1 (joined_refl old (directed i)) in
      let whole : IsJoined new (directed j) (directed j') = joined_trans new (directed j) r.0 (directed j') (back_joined r.0 j (tie_place' (directed i) r.0 r.1) r.2) (joined_trans new r.0 s.0 (directed j') over s.2) in
      ap (λ z. inl z) (same_corner' j j' (corner_is' old m new table table' h vs n numbered vs' n' numbered' c c' match ds d arrows ds' d' arrows' j (is_first_kind corners' inner j u)) (corner_is' old m new table table' h vs n numbered vs' n' numbered' c c' match ds d arrows ds' d' arrows' j' (is_first_kind corners' inner j' v)) whole)
  once' (inl i) (inl j) (inr k) u v r s = absurd (tie_not_buried old m new table h (k / 5 ∷ k % 5 ∷ []) (directed i) r.0 r.1 s)
  once' (inl i) (inr k) (inl j) u v r s = absurd (tie_not_buried old m new table h (k / 5 ∷ k % 5 ∷ []) (directed i) s.0 s.1 r)
  once' (inl i) (inr k) (inr l) u v r s = ap (λ z. inr z) (same_two k l (buried_once old m new table h (k / 5 ∷ k % 5 ∷ []) (l / 5 ∷ l % 5 ∷ []) (directed i) r s))
  once' (inr k) (inl j) (inl j') u v r s =
      ap (λ z. inl z) (same_corner' j j' (corner_is' old m new table table' h vs n numbered vs' n' numbered' c c' match ds d arrows ds' d' arrows' j (is_first_kind corners' inner j u)) (corner_is' old m new table table' h vs n numbered vs' n' numbered' c c' match ds d arrows ds' d' arrows' j' (is_first_kind corners' inner j' v)) (new_buried_joined old m new table h (k / 5 ∷ k % 5 ∷ []) (directed j) (directed j') r s))
  once' (inr k) (inl j) (inr l) u v r s = absurd s
  once' (inr k) (inr l) b u v r s = absurd r

  pub vertices_match : link_vertices vs ds c + count_by (inside_new (length m.core) x) (below 25) ≡ link_vertices vs' ds' c' + count_by (inside_old (length m.core) x) (below 25)
  vertices_match =
      let same : length (both corners inner') ≡ length (both corners' inner) = related_same CornerOf (both corners inner') (both corners' inner)
      (both_apart corners inner' (passing_apart (Corners.is_corner_number old vs n numbered c ds d arrows) (12 * length old)) (passing_apart (inside_new (length m.core) x) 25))
      (both_apart corners' inner (passing_apart (Corners.is_corner_number new vs' n' numbered' c' ds' d' arrows') (12 * length new)) (passing_apart (inside_old (length m.core) x) 25))
      (forth old m new table table' h vs n numbered vs' n' numbered' c c' match ds d arrows ds' d' arrows') (back old m new table table' h vs n numbered vs' n' numbered' c c' match ds d arrows ds' d' arrows') once once' in
      let l : length (both corners inner') ≡ length corners + length inner' = length-both corners inner' in
      let r : length (both corners' inner) ≡ length corners' + length inner = length-both corners' inner in
      let a : length corners ≡ link_vertices vs ds c = Corners.length-corners old vs n numbered c ds d arrows in
      let b : length corners' ≡ link_vertices vs' ds' c' = Corners.length-corners new vs' n' numbered' c' ds' d' arrows' in
      let e : length inner' ≡ count_by (inside_new (length m.core) x) (below 25) = length-passing (inside_new (length m.core) x) 25 in
      let f : length inner ≡ count_by (inside_old (length m.core) x) (below 25) = length-passing (inside_old (length m.core) x) 25 in
      omega arith
