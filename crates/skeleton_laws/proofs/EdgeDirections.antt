-- If no edge is invalid, each edge class has two classes of directions.
use Rattle.std.proofs.Common.{◌≡◌, ℕ, ◌+◌, ◌*◌, ◌<◌, List, length, ◌⊎◌, inl, inr, refl, sym, ap, ◌∙◌, subst, subst₂}
use Rattle.std.specs.Prelude.{slice_index}
use Rattle.std.proofs.lemmas.List.FromFn.{length-range_with_len}
use Rattle.table_definitions.specs.Lists.{below}
use Rattle.table_definitions.specs.Table.{Row}
use Rattle.table_definitions.specs.Classes.{IsNumbering, least}
use Rattle.table_definitions.specs.Places.{Place, edge, edge_number, backwards, IsJoined, SameEdge, HasValidEdges}
use Rattle.table_definitions.proofs.ChainLaws.{joined_turned}
use Rattle.table_definitions.proofs.ClassLaws.{least_class}
use Rattle.table_definitions.proofs.DistinctLists.{apart_below}
use Rattle.table_definitions.proofs.Listed.{below-among}
use Rattle.table_definitions.proofs.TableLaws.{Among, Among-below}
use Rattle.skeleton_definitions.specs.Links.{directed, SameDirected}
use Rattle.skeleton_class_laws.specs.Directions.{forward, backward}
use Rattle.skeleton_class_laws.proofs.DirectionLemmas.{directed_forward, directed_backward, forward_below, backward_below}
use Rattle.skeleton_class_laws.proofs.EdgeTies.{pair_either, turned_twice}
use Rattle.skeleton_laws.proofs.Matchings.{related_same, both, length-both, first_kind, second_kind, is_first_kind, is_second_kind, both_apart}
use Rattle.skeleton_laws.proofs.EdgeEnds.{edge_below}
use Rattle.skeleton_laws.proofs.Arrows.{IsArrow, directed_arrow}

module _ (rows : List Row) (es : List ℕ) (e : ℕ) (edges : IsNumbering (6 * length rows) (SameEdge rows) es e) (ds : List ℕ) (d : ℕ) (arrows : IsNumbering (12 * length rows) (SameDirected rows) ds d) (valid : HasValidEdges rows) where
  start_is : (c : ℕ) → c < e → (least es c < 6 * length rows) × (slice_index es (least es c) ≡ c)
  start_is c l = least_class (6 * length rows) (SameEdge rows) es e edges c l

  same_class : (c c' : ℕ) → c < e → c' < e → SameEdge rows (least es c) (least es c') → c ≡ c'
  same_class c c' l l' s = sym (start_is c l).1 ∙ (edges.together (least es c) (least es c') (start_is c l).0 (start_is c' l').0).1 s ∙ (start_is c' l').1

  abbrev Direction : ℕ → ℕ ⊎ ℕ → Type 0
  Direction k (inl c) = slice_index ds (forward (least es c)) ≡ k
  Direction k (inr c) = slice_index ds (backward (least es c)) ≡ k

  -- directed edges of one class are joined
  joined : (i j : ℕ) → i < 12 * length rows → j < 12 * length rows → (p q : Place) → directed i ≡ p → directed j ≡ q → slice_index ds i ≡ slice_index ds j → IsJoined rows p q
  joined i j li lj p q a b s = subst₂ (IsJoined rows) a b ((arrows.together i j li lj).0 s)

  classes_of : (i j : ℕ) → i < 12 * length rows → j < 12 * length rows → (p q : Place) → directed i ≡ p → directed j ≡ q → IsJoined rows p q → slice_index ds i ≡ slice_index ds j
  classes_of i j li lj p q a b s = (arrows.together i j li lj).1 (subst₂ (IsJoined rows) (sym a) (sym b) s)

  there : (c : ℕ) → c < e → forward (least es c) < 12 * length rows
  there c l = forward_below (least es c) (length rows) (start_is c l).0

  back_there : (c : ℕ) → c < e → backward (least es c) < 12 * length rows
  back_there c l = backward_below (least es c) (length rows) (start_is c l).0

  record Told (k : ℕ) : Type 0 where
    y : ℕ ⊎ ℕ
    among : Among y (both (below e) (below e))
    is : Direction k y

  reported : (i j : ℕ) → i < 12 * length rows → j < 6 * length rows → (directed i ≡ edge j) ⊎ (directed i ≡ backwards (edge j)) → Told (slice_index ds i)
  reported i j li lj way = go way same
    where
      c : ℕ
      c = slice_index es j

      lc : c < e
      lc = edges.in_range j lj

      same : SameEdge rows j (least es c)
      same = (edges.together j (least es c) lj (start_is c lc).0).0 (sym (start_is c lc).1)

      ahead : IsJoined rows (directed i) (edge (least es c)) → Told (slice_index ds i)
      ahead g = record { y = inl c; among = first_kind (below e) (below e) c (Among-below c e lc); is = sym (classes_of i (forward (least es c)) li (there c lc) (directed i) (edge (least es c)) refl (directed_forward (least es c)) g) }

      behind : IsJoined rows (directed i) (backwards (edge (least es c))) → Told (slice_index ds i)
      behind g = record { y = inr c; among = second_kind (below e) (below e) c (Among-below c e lc); is = sym (classes_of i (backward (least es c)) li (back_there c lc) (directed i) (backwards (edge (least es c))) refl (directed_backward (least es c)) g) }

      from : (p q : Place) → directed i ≡ p → IsJoined rows p q → IsJoined rows (directed i) q
      from p q f g = subst (λ (r : Place). IsJoined rows r q) (sym f) g

      go : (directed i ≡ edge j) ⊎ (directed i ≡ backwards (edge j)) → SameEdge rows j (least es c) → Told (slice_index ds i)
      go (inl f) (inl g) = ahead (from (edge j) (edge (least es c)) f g)
      go (inl f) (inr g) = behind (from (edge j) (backwards (edge (least es c))) f g)
      go (inr f) (inl g) = behind (from (backwards (edge j)) (backwards (edge (least es c))) f (joined_turned rows (edge j) (edge (least es c)) g))
      go (inr f) (inr g) = ahead (from (backwards (edge j)) (edge (least es c)) f (subst (λ (q : Place). IsJoined rows (backwards (edge j)) q) (turned_twice (least es c)) (joined_turned rows (edge j) (backwards (edge (least es c))) g)))

  forth : (k : ℕ) → Among k (below d) → (y : ℕ ⊎ ℕ) × Among y (both (below e) (below e)) × Direction k y
  forth k a =
      let i = arrows.none_empty k (below-among k d a) in
      let ar : IsArrow (length rows) (directed i.0) = directed_arrow (length rows) i.0 i.1 in
      let t : ℕ = (directed i.0).tet in
      let way : (directed i.0 ≡ edge (6 * t + edge_number ar.v ar.w)) ⊎ (directed i.0 ≡ backwards (edge (6 * t + edge_number ar.v ar.w))) = elim (pair_either t ar.v ar.w ar.low_v ar.low_w ar.separate) [ inl q ↦ inl (ar.is ∙ q) | inr q ↦ inr (ar.is ∙ q) ] in
      let z = reported i.0 (6 * t + edge_number ar.v ar.w) i.1 (edge_below t ar.v ar.w (length rows) ar.low_v ar.low_w ar.separate ar.below) way in
      (z.y, z.among, subst (λ n. Direction n z.y) i.2 z.is)

  back : (y : ℕ ⊎ ℕ) → Among y (both (below e) (below e)) → (k : ℕ) × Among k (below d) × Direction k y
  back (inl c) a = let l = below-among c e (is_first_kind (below e) (below e) c a) in (slice_index ds (forward (least es c)), Among-below _ d (arrows.in_range (forward (least es c)) (there c l)), refl)
  back (inr c) a = let l = below-among c e (is_second_kind (below e) (below e) c a) in (slice_index ds (backward (least es c)), Among-below _ d (arrows.in_range (backward (least es c)) (back_there c l)), refl)

  once : (k l : ℕ) (y : ℕ ⊎ ℕ) → Direction k y → Direction l y → k ≡ l
  once k l (inl c) r s = sym r ∙ s
  once k l (inr c) r s = sym r ∙ s

  never : (c c' : ℕ) → c < e → c' < e → slice_index ds (forward (least es c)) ≡ slice_index ds (backward (least es c')) → ⊥
  never c c' l l' s =
      let g = joined (forward (least es c)) (backward (least es c')) (there c l) (back_there c' l') (edge (least es c)) (backwards (edge (least es c'))) (directed_forward (least es c)) (directed_backward (least es c')) s in
      let same : c ≡ c' = same_class c c' l l' (inr g) in
      valid (least es c) (start_is c l).0 (subst (λ k. IsJoined rows (edge (least es c)) (backwards (edge (least es k)))) (sym same) g)

  once' : (k : ℕ) (y y' : ℕ ⊎ ℕ) → Among y (both (below e) (below e)) → Among y' (both (below e) (below e)) → Direction k y → Direction k y' → y ≡ y'
  once' k (inl c) (inl c') a b r s =
      let l = below-among c e (is_first_kind (below e) (below e) c a) in
      let l' = below-among c' e (is_first_kind (below e) (below e) c' b) in
      let g = joined (forward (least es c)) (forward (least es c')) (there c l) (there c' l') (edge (least es c)) (edge (least es c')) (directed_forward (least es c)) (directed_forward (least es c')) (r ∙ sym s) in
      ap (λ z. inl z) (same_class c c' l l' (inl g))
  once' k (inl c) (inr c') a b r s = absurd (never c c' (below-among c e (is_first_kind (below e) (below e) c a)) (below-among c' e (is_second_kind (below e) (below e) c' b)) (r ∙ sym s))
  once' k (inr c) (inl c') a b r s = absurd (never c' c (below-among c' e (is_first_kind (below e) (below e) c' b)) (below-among c e (is_second_kind (below e) (below e) c a)) (s ∙ sym r))
  once' k (inr c) (inr c') a b r s =
      let l = below-among c e (is_second_kind (below e) (below e) c a) in
      let l' = below-among c' e (is_second_kind (below e) (below e) c' b) in
      let g = joined (backward (least es c)) (backward (least es c')) (back_there c l) (back_there c' l') (backwards (edge (least es c))) (backwards (edge (least es c'))) (directed_backward (least es c)) (directed_backward (least es c')) (r ∙ sym s) in
      let g' : IsJoined rows (edge (least es c)) (edge (least es c')) = subst₂ (IsJoined rows) (turned_twice (least es c)) (turned_twice (least es c')) (joined_turned rows (backwards (edge (least es c))) (backwards (edge (least es c'))) g) in
      ap (λ z. inr z) (same_class c c' l l' (inl g'))

  pub two_directions : d ≡ e + e
  two_directions =
      sym (length-range_with_len 0 d)
      ∙ related_same Direction (below d) (both (below e) (below e)) (apart_below d) (both_apart (below e) (below e) (apart_below e) (apart_below e)) forth back (λ k l y a b r s. once k l y r s) once'
      ∙ length-both (below e) (below e) ∙ (λ i. length-range_with_len 0 e i + length-range_with_len 0 e i)
