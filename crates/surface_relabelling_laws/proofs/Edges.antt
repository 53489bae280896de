-- Edges of a table and their images: images of joined edges are joined, and the surface crosses an edge
-- and its image equally often.
use Rattle.std.proofs.Common.{◌≡◌, ◌≢◌, ℕ, ◌+◌, ◌*◌, ◌/◌, ◌%◌, ◌<◌, List, [], ◌∷◌, length, ◌⊎◌, inl, inr, refl, sym, ap, ◌∙◌, subst, subst₂, arith}
use Rattle.std.specs.Prelude.{slice_index}
use Rattle.std.specs.List.{slice_index_or}
use Rattle.table_definitions.specs.Permutation.{IsPermutationOfFour, image, preimage}
use Rattle.table_definitions.specs.Table.{Row, IsTable}
use Rattle.table_definitions.specs.Places.{Place, edge, ends, edge_number, backwards, IsJoined, SameEdge}
use Rattle.table_definitions.specs.Relabelling.{Relabelling, IsRelabelling, Carries}
use Rattle.table_definitions.proofs.Carried.{image_in_range, perm_permutes, comes_from}
use Rattle.table_definitions.proofs.ChainLaws.{joined_turned}
use Rattle.table_definitions.proofs.PermutationLaws.{images_apart}
use Rattle.table_definitions.proofs.Permutations.{image_below, preimage_below, image-preimage}
use Rattle.skeleton_class_laws.specs.Crossings.{pair}
use Rattle.skeleton_class_laws.proofs.Cases.{AreEnds, are_ends, low, high, ends-edge_number, edge_number-ends, edge_number-backwards}
use Rattle.skeleton_class_laws.proofs.EdgeTies.{edge_pair, pair_either, turned_twice}
use Rattle.skeleton_laws.proofs.EdgeEnds.{edge_below}
use Rattle.move_link_laws.proofs.Relabelled.{IsWithin, joined_both}

-- a chain joins one place to another, or to the other in the other direction
abbrev pub Along : List Row → Place → Place → Type 0
Along rows p q = IsJoined rows p q ⊎ IsJoined rows p (backwards q)

-- the same place, in either direction
abbrev pub Either : Place → Place → Type 0
Either p q = (p ≡ q) ⊎ (p ≡ backwards q)

module _ (rows : List Row) where
  to_either : (p q q' : Place) → backwards (backwards q') ≡ q' → Either q q' → Along rows p q → Along rows p q'
  to_either p q q' twice (inl e) j = subst (Along rows p) e j
  to_either p q q' twice (inr e) (inl j) = inr (subst (IsJoined rows p) e j)
  to_either p q q' twice (inr e) (inr j) = inl (subst (IsJoined rows p) (ap backwards e ∙ twice) j)

  from_either : (p p' q : Place) → backwards (backwards p') ≡ p' → backwards (backwards q) ≡ q → Either p p' → Along rows p q → Along rows p' q
  from_either p p' q twice same (inl e) j = subst (λ z. Along rows z q) e j
  from_either p p' q twice same (inr e) (inl j) = inr (subst (λ z. IsJoined rows z (backwards q)) (ap backwards e ∙ twice) (joined_turned rows p q j))
  from_either p p' q twice same (inr e) (inr j) = inl (subst₂ (IsJoined rows) (ap backwards e ∙ twice) same (joined_turned rows p (backwards q) j))

  pub along_either : (p p' q q' : Place) → backwards (backwards p') ≡ p' → backwards (backwards q') ≡ q' → Either p p' → Either q q' → Along rows p q → Along rows p' q'
  along_either p p' q q' tp tq ep eq j = from_either p p' q' tp tq ep (to_either p q q' tq eq j)

pub either_back : (p q : Place) → backwards (backwards q) ≡ q → Either p q → Either q p
either_back p q twice (inl e) = inl (sym e)
either_back p q twice (inr e) = inr (sym (ap backwards e ∙ twice))

-- edge i as a pair of vertices
abbrev pub pair_of : ℕ → Place
pair_of i = pair (i / 6) (low (i % 6)) (high (i % 6))

pub ends_of : (i : ℕ) → AreEnds (i % 6)
ends_of i = let l : i % 6 < 6 = omega arith in are_ends (i % 6) l

module _ (by : Relabelling) where
  abbrev pub perm_of : ℕ → List ℕ
  perm_of i = slice_index_or by.perms (i / 6) []

  -- the image of edge i, as a pair of vertices and by its number
  abbrev pub image_pair : ℕ → Place
  image_pair i = pair (slice_index by.images (i / 6)) (image (perm_of i) (low (i % 6))) (image (perm_of i) (high (i % 6)))

  abbrev pub image_edge : ℕ → ℕ
  image_edge i = 6 * slice_index by.images (i / 6) + edge_number (image (perm_of i) (low (i % 6))) (image (perm_of i) (high (i % 6)))

module _ (old : List Row) (new : List Row) (table : IsTable old) (table' : IsTable new) (by : Relabelling) (is : IsRelabelling (length old) by) (carries : Carries by old new) where
  pub edge_tet : (i : ℕ) → i < 6 * length old → i / 6 < length old
  edge_tet i l = omega arith

  pub perm_is : (i : ℕ) → i < 6 * length old → IsPermutationOfFour (perm_of by i)
  perm_is i l = perm_permutes (length old) by is (i / 6) (edge_tet i l)

  -- the ends of the image
  pub record ImageEnds (i : ℕ) : Type 0 where
    pub lower : image (perm_of by i) (low (i % 6)) < 4
    pub higher : image (perm_of by i) (high (i % 6)) < 4
    pub separate : image (perm_of by i) (low (i % 6)) ≢ image (perm_of by i) (high (i % 6))
    pub tet : slice_index by.images (i / 6) < length new

  pub image_ends : (i : ℕ) → i < 6 * length old → ImageEnds i
  image_ends i l =
      let e = ends_of i in
      let h = perm_is i l in record {
        lower = image_below (perm_of by i) h (low (i % 6)) e.lower;
        higher = image_below (perm_of by i) h (high (i % 6)) e.higher;
        separate = images_apart (perm_of by i) (low (i % 6)) (high (i % 6)) h e.lower e.higher e.separate;
        tet = subst (λ n. slice_index by.images (i / 6) < n) (sym carries.same_length) (image_in_range (length old) by is (i / 6) (edge_tet i l));
      }

  pub image_edge_below : (i : ℕ) → i < 6 * length old → image_edge by i < 6 * length new
  image_edge_below i l =
      let e = image_ends i l in
      edge_below (slice_index by.images (i / 6)) (image (perm_of by i) (low (i % 6))) (image (perm_of by i) (high (i % 6))) (length new) e.lower e.higher e.separate e.tet

  pub image_either : (i : ℕ) → i < 6 * length old → Either (image_pair by i) (edge (image_edge by i))
  image_either i l = let e = image_ends i l in pair_either (slice_index by.images (i / 6)) (image (perm_of by i) (low (i % 6))) (image (perm_of by i) (high (i % 6))) e.lower e.higher e.separate

  within : (i : ℕ) → i < 6 * length old → IsWithin old (pair_of i)
  within i l = let e = ends_of i in record { below = edge_tet i l; place = (e.lower, (e.higher, tt)) }

  within_turned : (i : ℕ) → i < 6 * length old → IsWithin old (backwards (pair_of i))
  within_turned i l = let e = ends_of i in record { below = edge_tet i l; place = (e.higher, (e.lower, tt)) }

  pub edges_forth : (i j : ℕ) → i < 6 * length old → j < 6 * length old → SameEdge old i j → SameEdge new (image_edge by i) (image_edge by j)
  edges_forth i j li lj s =
      along_either new (image_pair by i) (edge (image_edge by i)) (image_pair by j) (edge (image_edge by j)) (turned_twice (image_edge by i)) (turned_twice (image_edge by j)) (image_either i li) (image_either j lj)
      (elim (subst₂ (Along old) (edge_pair i) (edge_pair j) s) [
        | inl c ↦ inl ((joined_both old new table table' by is carries (pair_of i) (pair_of j) (within i li) (within j lj)).0 c)
        | inr c ↦ inr ((joined_both old new table table' by is carries (pair_of i) (backwards (pair_of j)) (within i li) (within_turned j lj)).0 c)
      ])

  pub edges_back : (i j : ℕ) → i < 6 * length old → j < 6 * length old → SameEdge new (image_edge by i) (image_edge by j) → SameEdge old i j
  edges_back i j li lj s =
      let a : Along new (image_pair by i) (image_pair by j) =
      along_either new (edge (image_edge by i)) (image_pair by i) (edge (image_edge by j)) (image_pair by j) refl refl
      (either_back (image_pair by i) (edge (image_edge by i)) (turned_twice (image_edge by i)) (image_either i li)) (either_back (image_pair by j) (edge (image_edge by j)) (turned_twice (image_edge by j)) (image_either j lj)) s in
      subst₂ (Along old) (sym (edge_pair i)) (sym (edge_pair j)) (elim a [
        | inl c ↦ inl ((joined_both old new table table' by is carries (pair_of i) (pair_of j) (within i li) (within j lj)).1 c)
        | inr c ↦ inr ((joined_both old new table table' by is carries (pair_of i) (backwards (pair_of j)) (within i li) (within_turned j lj)).1 c)
      ])

  -- each edge is the image of one
  pub from_edge : (j : ℕ) → j < 6 * length new → (i : ℕ) × (i < 6 * length old) × (image_edge by i ≡ j)
  from_edge j l = (
    6 * t.0 + edge_number a b,
    edge_below t.0 a b (length old) la lb ne t.1,
    (λ k. 6 * slice_index by.images (tet k) + edge_number (image (slice_index_or by.perms (tet k) []) (low (place k))) (image (slice_index_or by.perms (tet k) []) (high (place k))))
        ∙ (λ k. 6 * t.2 k + number k) ∙ whole,
  )
    where
      t : (t : ℕ) × (t < length old) × (slice_index by.images t ≡ j / 6)
      t = comes_from (length old) by is (j / 6) (let e = carries.same_length in omega arith)

      p : List ℕ
      p = slice_index_or by.perms t.0 []

      h : IsPermutationOfFour p
      h = perm_permutes (length old) by is t.0 t.1

      e : AreEnds (j % 6)
      e = ends_of j

      a : ℕ
      a = preimage p (low (j % 6))

      b : ℕ
      b = preimage p (high (j % 6))

      la : a < 4
      la = preimage_below p h (low (j % 6)) e.lower

      lb : b < 4
      lb = preimage_below p h (high (j % 6)) e.higher

      to_a : image p a ≡ low (j % 6)
      to_a = image-preimage p h (low (j % 6)) e.lower

      to_b : image p b ≡ high (j % 6)
      to_b = image-preimage p h (high (j % 6)) e.higher

      ne : a ≢ b
      ne s = e.separate (sym to_a ∙ ap (image p) s ∙ to_b)

      ends_are : (edge_number a b < 6) × ((ends (edge_number a b) ≡ a ∷ b ∷ []) ⊎ (ends (edge_number a b) ≡ b ∷ a ∷ []))
      ends_are = ends-edge_number a b la lb ne

      tet : (6 * t.0 + edge_number a b) / 6 ≡ t.0
      tet = let s = ends_are.0 in omega arith

      place : (6 * t.0 + edge_number a b) % 6 ≡ edge_number a b
      place = let s = ends_are.0 in omega arith

      by_list : (n x y : ℕ) → AreEnds n → ends n ≡ x ∷ y ∷ [] → (low n ≡ x) × (high n ≡ y)
      by_list n x y r s = let q : low n ∷ high n ∷ [] ≡ x ∷ y ∷ [] = sym r.two ∙ s in (ap (λ vs. slice_index vs 0) q, ap (λ vs. slice_index vs 1) q)

      number : edge_number (image p (low (edge_number a b))) (image p (high (edge_number a b))) ≡ j % 6
      number =
          let last : edge_number (low (j % 6)) (high (j % 6)) ≡ j % 6 = ap (λ vs. edge_number (slice_index vs 0) (slice_index vs 1)) (sym e.two) ∙ (let small : j % 6 < 6 = omega arith in edge_number-ends (j % 6) small) in
          elim ends_are.1 [
            | inl s ↦ (let q = by_list (edge_number a b) a b (are_ends (edge_number a b) ends_are.0) s in
                (λ k. edge_number (image p (q.0 k)) (image p (q.1 k))) ∙ (λ k. edge_number (to_a k) (to_b k)) ∙ last)
            | inr s ↦ (let q = by_list (edge_number a b) b a (are_ends (edge_number a b) ends_are.0) s in
                (λ k. edge_number (image p (q.0 k)) (image p (q.1 k))) ∙ (λ k. edge_number (to_b k) (to_a k)) ∙ edge_number-backwards (low (j % 6)) (high (j % 6)) e.lower e.higher ∙ last)
          ]

      whole : 6 * (j / 6) + j % 6 ≡ j
      whole = omega arith
