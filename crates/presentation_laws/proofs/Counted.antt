-- A connected table has one tree face for each tetrahedron other than 0.
use Rattle.std.proofs.Common.{◌≡◌, ℕ, ◌+◌, ◌-◌, ◌<◌, ◌≤◌, ◌⊎◌, inl, inr, List, length, map, Contains, slice_index_or, subst, sym, arith}
use Rattle.std.proofs.lemmas.Bool.{cases_lt, cases_eq}
use Rattle.std.proofs.lemmas.List.FromFn.{get_or-map-range_with_len, length-map-range_with_len}
use Rattle.table_definitions.specs.Lists.{below}
use Rattle.table_definitions.specs.Table.{Row, Face, IsTable}
use Rattle.table_definitions.specs.Places.{IsConnected}
use Rattle.presentation_definitions.specs.Trees.{IsTreeFace}
use Rattle.presentation_laws.specs.Laws.{AreTreeFaces}
use Rattle.presentation_laws.proofs.TreeLaws.{one_tree_face, one_tetrahedron, none_for_zero, tree_face_of}

module _ (rows : List Row) (table : IsTable rows) (connected : IsConnected rows) (some : 0 < length rows) where
  abbrev n : ℕ
  n = length rows - 1

  -- the tree face of the tetrahedron after k
  found : (k : ℕ) → k < n → (x : Face) × IsTreeFace rows (k + 1) x
  found k l = tree_face_of rows table connected (k + 1) (omega arith) (omega arith)

  chosen : (k : ℕ) → (k < n) ⊎ (n ≤ k) → Face
  chosen k (inl l) = (found k l).0
  chosen k (inr exceeded) = record { tet = 0; face = 0 }

  face_after : ℕ → Face
  face_after k = chosen k (cases_lt k n)

  chosen_is : (k : ℕ) (c : (k < n) ⊎ (n ≤ k)) → k < n → IsTreeFace rows (k + 1) (chosen k c)
  unfolding chosen
  chosen_is k (inl l) m = (found k l).1
  chosen_is k (inr exceeded) m = absurd (omega arith)

  after_is : (k : ℕ) → k < n → IsTreeFace rows (k + 1) (face_after k)
  unfolding face_after
  after_is k l = chosen_is k (cases_lt k n) l

  abbrev all_faces : List Face
  all_faces = map face_after (below n)

  long : length all_faces ≡ n
  long = length-map-range_with_len face_after 0 n

  at : (k : ℕ) (d : Face) → k < n → slice_index_or all_faces k d ≡ face_after k
  at k d l = get_or-map-range_with_len face_after 0 n k k d l (omega arith)

  each : (k : ℕ) (d : Face) → k < n → IsTreeFace rows (k + 1) (slice_index_or all_faces k d)
  each k d l = subst (IsTreeFace rows (k + 1)) (sym (at k d l)) (after_is k l)

  contained : (t : ℕ) (x : Face) → IsTreeFace rows t x → Contains all_faces x
  contained t x h = elim (cases_eq t 0) [
    | inl z ↦ absurd (none_for_zero rows x (subst (λ u. IsTreeFace rows u x) z h))
    | inr other ↦ let l : t < length rows = subst (λ u. u < length rows) h.leads.to (table.in_range x h.leads.gluing h.leads.glued) in
        let m : t - 1 < n = omega arith in let e : t - 1 + 1 ≡ t = omega arith in
        (t - 1, subst (λ k. t - 1 < k) (sym long) m, one_tree_face rows t (slice_index_or all_faces (t - 1) x) x (subst (λ u. IsTreeFace rows u (slice_index_or all_faces (t - 1) x)) e (each (t - 1) x m)) h)
  ]

  pub tree_faces_counted : (xs : List Face) × AreTreeFaces rows xs
  tree_faces_counted = (
    all_faces,
    record {
      count = let l : length all_faces ≡ n = long in omega arith;
      each = λ k d l. each k d (subst (λ m. k < m) long l);
      separate = λ i j d less l e. let m : j < n = subst (λ k. j < k) long l in
          let same : i + 1 ≡ j + 1 = one_tetrahedron rows (i + 1) (j + 1) (slice_index_or all_faces j d) (subst (IsTreeFace rows (i + 1)) e (each i d (omega arith))) (each j d m) in absurd (omega arith);
      all = contained;
    },
  )
