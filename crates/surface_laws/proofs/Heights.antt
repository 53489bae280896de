-- Heights of a class are a lift there, and lifts of all classes are a lift of the vector.
use Rattle.std.proofs.Common.{◌≡◌, ℕ, zero, suc, ◌+◌, ◌*◌, ◌/◌, ◌%◌, ◌-◌, ◌<◌, ◌≤◌, Bool, List, [], length, map, Some, ◌⊎◌, inl, inr, sym, ap, ◌∙◌, arith, ext_get_or}
use Rattle.std.specs.Prelude.{nat_lt, if◌then◌else◌, slice_index}
use Rattle.std.proofs.lemmas.Bool.{cases_lt, cases_eq, lt-ltb, le-ltb}
use Rattle.std.proofs.lemmas.List.{get_or-map, length-map}
use Rattle.std.proofs.lemmas.List.FromFn.{length-range_with_len, get_or-range_with_len}
use Rattle.table_definitions.specs.Lists.{below}
use Rattle.table_definitions.specs.Permutation.{image, others}
use Rattle.table_definitions.specs.Table.{Gluing, Face, glue}
use Rattle.table_definitions.proofs.PermutationLaws.{image_below, images_apart}
use Rattle.skeleton_definitions.specs.Links.{vertex_number}
use Rattle.skeleton_definitions.specs.Skeleton.{Skeleton, IsSkeleton}
use Rattle.surface_definitions.specs.Coordinates.{tri_column, quad_column, keeping}
use Rattle.surface_definitions.specs.declared.Coords.TheVariants.{Standard, Quad}
use Rattle.surface_definitions.specs.Equations.{Holds, glued_pairs, matching}
use Rattle.surface_definitions.specs.Lift.{projected, IsLiftAt}
use Rattle.surface_vector_definitions.specs.Lifting.{HasLiftAt}
use Rattle.surface_laws.specs.LiftLaws.{IsLiftOf, AreHeights, triangle_at}
use Rattle.surface_laws.proofs.Glued.{IsGlued, glued_is}
use Rattle.surface_laws.proofs.Turns.{keeping_below}
use Rattle.surface_laws.proofs.Matched.{pair_glued}
use Rattle.surface_laws.proofs.Quads.{projected_at, length-projected}
use Rattle.surface_laws.proofs.Vertices.{number-vertex, class_across}
use Rattle.surface_laws.proofs.Lifts.{lift_matched}
use Rattle.surface_laws.proofs.Solved.{other_is}
use Rattle.table_definitions.proofs.Listed.{among_contains}

-- a standard vector by its triangles, numbered as vertices are, and its quads
pub entry_if : Bool → ℕ → ℕ → ℕ
entry_if b t q = if b then t else q

pub entry_of : (ℕ → ℕ) → List ℕ → ℕ → ℕ
entry_of h xs i = entry_if (nat_lt (i % 7) 4) (h (vertex_number (i / 7) (i % 7))) (slice_index xs (3 * (i / 7) + (i % 7 - 4)))

pub vector_of : ℕ → (ℕ → ℕ) → List ℕ → List ℕ
vector_of n h xs = map (entry_of h xs) (below (7 * n))

-- an entry of a triangle, and of a quad
pub entry_low : (h : ℕ → ℕ) (xs : List ℕ) (i : ℕ) → i % 7 < 4 → entry_of h xs i ≡ h (vertex_number (i / 7) (i % 7))
unfolding entry_of entry_if
entry_low h xs i l = ap (λ b. entry_if b (h (vertex_number (i / 7) (i % 7))) (slice_index xs (3 * (i / 7) + (i % 7 - 4)))) (lt-ltb (i % 7) 4 l)

pub entry_high : (h : ℕ → ℕ) (xs : List ℕ) (i : ℕ) → 4 ≤ i % 7 → entry_of h xs i ≡ slice_index xs (3 * (i / 7) + (i % 7 - 4))
unfolding entry_of entry_if
entry_high h xs i l = ap (λ b. entry_if b (h (vertex_number (i / 7) (i % 7))) (slice_index xs (3 * (i / 7) + (i % 7 - 4)))) (le-ltb (i % 7) 4 l)

-- the vector, entry by entry
pub vector_is : (n : ℕ) (h : ℕ → ℕ) (xs ys : List ℕ) → length ys ≡ 7 * n → ((i : ℕ) → i < 7 * n → slice_index ys i ≡ entry_of h xs i) → ys ≡ vector_of n h xs
unfolding vector_of
vector_is n h xs ys size each =
    let sized : length (vector_of n h xs) ≡ 7 * n = length-map (below (7 * n)) (entry_of h xs) ∙ length-range_with_len 0 (7 * n) in
    ext_get_or 0 ys (vector_of n h xs) (size ∙ sym sized) (λ i l.
    let m : i < 7 * n = omega (arith, size) in
    let inside : i < length (below (7 * n)) = omega (arith, length-range_with_len 0 (7 * n)) in
    each i m ∙ sym (get_or-map (entry_of h xs) (below (7 * n)) i 0 0 inside ∙ ap (entry_of h xs) (get_or-range_with_len 0 (7 * n) i 0 m ∙ omega arith)))

module _ (n : ℕ) (h : ℕ → ℕ) (xs : List ℕ) where
  pub length-vector : length (vector_of n h xs) ≡ 7 * n
  unfolding vector_of
  length-vector = length-map (below (7 * n)) (entry_of h xs) ∙ length-range_with_len 0 (7 * n)

  entry-vector : (i : ℕ) → i < 7 * n → slice_index (vector_of n h xs) i ≡ entry_of h xs i
  unfolding vector_of
  entry-vector i l =
      let inside : i < length (below (7 * n)) = omega (arith, length-range_with_len 0 (7 * n)) in
      get_or-map (entry_of h xs) (below (7 * n)) i 0 0 inside ∙ ap (entry_of h xs) (get_or-range_with_len 0 (7 * n) i 0 l ∙ omega arith)

  triangle-vector : (t v : ℕ) → t < n → v < 4 → slice_index (vector_of n h xs) (tri_column Standard t v) ≡ h (vertex_number t v)
  unfolding entry_of entry_if
  triangle-vector t v lt lv =
      let i : ℕ = tri_column Standard t v in
      let l : i < 7 * n = omega arith in
      let k : i % 7 ≡ v = omega arith in
      let d : i / 7 ≡ t = omega arith in
      let low : i % 7 < 4 = omega arith in
      entry-vector i l ∙ ap (λ b. entry_if b (h (vertex_number (i / 7) (i % 7))) (slice_index xs (3 * (i / 7) + (i % 7 - 4)))) (lt-ltb (i % 7) 4 low)
      ∙ (λ j. h (vertex_number (d j) (k j)))

  quad-vector : (t k : ℕ) → t < n → k < 3 → slice_index (vector_of n h xs) (quad_column Standard t k) ≡ slice_index xs (3 * t + k)
  unfolding entry_of entry_if
  quad-vector t k lt lk =
      let i : ℕ = quad_column Standard t k in
      let l : i < 7 * n = omega arith in
      let high : 4 ≤ i % 7 = omega arith in
      let at : 3 * (i / 7) + (i % 7 - 4) ≡ 3 * t + k = omega arith in
      entry-vector i l ∙ ap (λ b. entry_if b (h (vertex_number (i / 7) (i % 7))) (slice_index xs (3 * (i / 7) + (i % 7 - 4)))) (le-ltb (i % 7) 4 high)
      ∙ ap (slice_index xs) at

  projected-vector : length xs ≡ 3 * n → projected n (vector_of n h xs) ≡ xs
  projected-vector w = ext_get_or 0 (projected n (vector_of n h xs)) xs (length-projected (vector_of n h xs) n ∙ sym w) (λ i l. at i (omega (arith, length-projected (vector_of n h xs) n)))
    where
      at : (i : ℕ) → i < 3 * n → slice_index (projected n (vector_of n h xs)) i ≡ slice_index xs i
      at i l =
          let t : ℕ = i / 3 in
          let k : ℕ = i % 3 in
          let lt : t < n = omega arith in
          let lk : k < 3 = omega arith in
          let whole : 3 * t + k ≡ i = omega arith in
          ap (slice_index (projected n (vector_of n h xs))) (sym whole) ∙ projected_at (vector_of n h xs) n t k lt lk ∙ quad-vector t k lt lk ∙ ap (slice_index xs) whole

holds_from : (a b a' b' p q p' q' : ℕ) → a ≡ p → b ≡ q → a' ≡ p' → b' ≡ q' → p + q ≡ p' + q' → 0 + a + b ≡ 0 + a' + b'
holds_from a b a' b' p q p' q' ea eb ea' eb' e = omega arith

pub from_holds : (a b a' b' p q p' q' : ℕ) → p ≡ a → q ≡ b → p' ≡ a' → q' ≡ b' → 0 + a + b ≡ 0 + a' + b' → p + q ≡ p' + q'
from_holds a b a' b' p q p' q' ea eb ea' eb' e = omega arith

pub lowered : (a b q q' m : ℕ) → m ≤ a → m ≤ b → a + q ≡ b + q' → (a - m) + q ≡ (b - m) + q'
lowered a b q q' m la lb e = omega arith

-- a member of the class at which the height is least
record IsLowest (classes : List ℕ) (c : ℕ) (h : ℕ → ℕ) (bound : ℕ) : Type 0 where
  member : ℕ
  within : member < bound
  in_class : slice_index classes member ≡ c
  low : (j : ℕ) → j < bound → slice_index classes j ≡ c → h member ≤ h j

lowest : (classes : List ℕ) (c : ℕ) (h : ℕ → ℕ) (bound : ℕ) → ((j : ℕ) → j < bound → slice_index classes j ≡ c → ⊥) ⊎ IsLowest classes c h bound
lowest classes c h zero = inl (λ j l e. absurd (omega arith))
lowest classes c h (suc bound) = go (lowest classes c h bound) (cases_eq (slice_index classes bound) c)
  where
    go : ((j : ℕ) → j < bound → slice_index classes j ≡ c → ⊥) ⊎ IsLowest classes c h bound → (slice_index classes bound ≡ c) ⊎ (slice_index classes bound ≡ c → ⊥)
        → ((j : ℕ) → j < suc bound → slice_index classes j ≡ c → ⊥) ⊎ IsLowest classes c h (suc bound)
    go (inl none) (inr out) = inl (λ j l e. elim (cases_lt j bound) [ inl m ↦ none j m e | inr m ↦ out (let same : bound ≡ j = omega arith in ap (slice_index classes) same ∙ e) ])
    go (inl none) (inl here) = inr (record {
      member = bound;
      within = omega arith;
      in_class = here;
      low = λ j l e. elim (cases_lt j bound) [ inl m ↦ absurd (none j m e) | inr m ↦ (let same : h bound ≡ h j = ap h (omega arith) in omega arith) ];
    })
    go (inr m) (inr out) = inr (record {
      member = m.member;
      within = (let l = m.within in omega arith);
      in_class = m.in_class;
      low = λ j l e. elim (cases_lt j bound) [ inl k ↦ m.low j k e | inr k ↦ absurd (out (let same : bound ≡ j = omega arith in ap (slice_index classes) same ∙ e)) ];
    })
    go (inr m) (inl here) = elim (cases_lt (h bound) (h m.member)) [
      | inl less ↦ inr (record {
        member = bound;
        within = omega arith;
        in_class = here;
        low = λ j l e. elim (cases_lt j bound) [ inl k ↦ (let below_m : h m.member ≤ h j = m.low j k e in omega arith) | inr k ↦ (let same : h bound ≡ h j = ap h (omega arith) in omega arith) ];
      })
      | inr more ↦ inr (record {
        member = m.member;
        within = (let l = m.within in omega arith);
        in_class = m.in_class;
        low = λ j l e. elim (cases_lt j bound) [ inl k ↦ m.low j k e | inr k ↦ (let same : h bound ≡ h j = ap h (omega arith) in omega arith) ];
      })
    ]

pub triangles_at : (ys : List ℕ) (t v : ℕ) → v < 4 → triangle_at ys (vertex_number t v) ≡ slice_index ys (tri_column Standard t v)
triangles_at ys t v l =
    let d : vertex_number t v / 4 ≡ t = omega arith in
    let m : vertex_number t v % 4 ≡ v = omega arith in
    λ i. slice_index ys (tri_column Standard (d i) (m i))

alone : (xs : List ℕ) (t k : ℕ) → slice_index xs (quad_column Quad t k) ≡ slice_index xs (3 * t + k)
alone xs t k = let e : quad_column Quad t k ≡ 3 * t + k = omega arith in ap (slice_index xs) e

module _ (s : Skeleton) (k : IsSkeleton s) (xs : List ℕ) (w : length xs ≡ 3 * length s.rows) where
  abbrev n : ℕ
  n = length s.rows

  abbrev class_of : ℕ → ℕ
  class_of i = slice_index s.vertices.classes i

  -- heights of which one is 0 are a lift
  pub heights_lift : (c : ℕ) (h : ℕ → ℕ) → AreHeights s xs c h → (i : ℕ) → i < 4 * n → class_of i ≡ c → h i ≡ 0 → IsLiftAt s.rows s.vertices.classes xs c (vector_of n h xs)
  heights_lift c h a i li ci z = record {
    quads_are = projected-vector n h xs w;
    holds = λ y v cy cv cc_. at y.0 y.1 v (pair_glued s.rows y (among_contains y (glued_pairs s.rows) cy)) (other_is (y.0).face v (among_contains v (others (y.0).face) cv)) cc_;
    least = (i, (let e = (k.vertices).one_each in omega arith), ci, (let lt : i / 4 < n = omega arith in let lv : i % 4 < 4 = omega arith in triangle-vector n h xs (i / 4) (i % 4) lt lv ∙ ap h (number-vertex i) ∙ z));
  }
    where
      at : (x : Face) (g : Gluing) (v : ℕ) → glue s.rows x ≡ Some g → (v < 4) × (v ≡ x.face → ⊥) → class_of (vertex_number x.tet v) ≡ c → Holds (matching Standard x g v) (vector_of n h xs)
      at x g v e o ch =
          let into : IsGlued s.rows x g = glued_is s.rows x g k.table e in
          let u : ℕ = image g.perm v in
          let f : ℕ = image g.perm x.face in
          let lu : u < 4 = image_below g.perm v into.permutes o.0 in
          let q : keeping v x.face < 3 = keeping_below v x.face o.0 into.face o.1 in
          let q' : keeping u f < 3 = keeping_below u f lu into.other_face (images_apart g.perm v x.face into.permutes o.0 into.face o.1) in
          holds_from (slice_index (vector_of n h xs) (tri_column Standard x.tet v)) (slice_index (vector_of n h xs) (quad_column Standard x.tet (keeping v x.face)))
          (slice_index (vector_of n h xs) (tri_column Standard g.tet u)) (slice_index (vector_of n h xs) (quad_column Standard g.tet (keeping u f)))
          (h (vertex_number x.tet v)) (slice_index xs (quad_column Quad x.tet (keeping v x.face))) (h (vertex_number g.tet u)) (slice_index xs (quad_column Quad g.tet (keeping u f)))
          (triangle-vector n h xs x.tet v into.tet o.0) (quad-vector n h xs x.tet (keeping v x.face) into.tet q ∙ sym (alone xs x.tet (keeping v x.face)))
          (triangle-vector n h xs g.tet u into.other_tet lu) (quad-vector n h xs g.tet (keeping u f) into.other_tet q' ∙ sym (alone xs g.tet (keeping u f)))
          (a x g v e o.0 o.1 ch)

  -- the triangles of a lift are heights
  lift_heights : (c : ℕ) (ys : List ℕ) → IsLiftAt s.rows s.vertices.classes xs c ys → AreHeights s xs c (triangle_at ys)
  lift_heights c ys l x g v e lv off ch =
      let into : IsGlued s.rows x g = glued_is s.rows x g k.table e in
      let u : ℕ = image g.perm v in
      let f : ℕ = image g.perm x.face in
      let lu : u < 4 = image_below g.perm v into.permutes lv in
      let q : keeping v x.face < 3 = keeping_below v x.face lv into.face off in
      let q' : keeping u f < 3 = keeping_below u f lu into.other_face (images_apart g.perm v x.face into.permutes lv into.face off) in
      let quad_at : (t j : ℕ) → t < n → j < 3 → slice_index xs (quad_column Quad t j) ≡ slice_index ys (quad_column Standard t j) =
      λ t j lt lj. alone xs t j ∙ ap (λ zs. slice_index zs (3 * t + j)) (sym l.quads_are) ∙ projected_at ys n t j lt lj in
      from_holds (slice_index ys (tri_column Standard x.tet v)) (slice_index ys (quad_column Standard x.tet (keeping v x.face)))
      (slice_index ys (tri_column Standard g.tet u)) (slice_index ys (quad_column Standard g.tet (keeping u f)))
      (triangle_at ys (vertex_number x.tet v)) (slice_index xs (quad_column Quad x.tet (keeping v x.face))) (triangle_at ys (vertex_number g.tet u)) (slice_index xs (quad_column Quad g.tet (keeping u f)))
      (triangles_at ys x.tet v lv) (quad_at x.tet (keeping v x.face) into.tet q) (triangles_at ys g.tet u lu) (quad_at g.tet (keeping u f) into.other_tet q')
      (lift_matched s.rows k.table s.vertices.classes s.vertices.count k.vertices xs c ys l x g v e lv off ch)

  -- heights above the least of them
  lowered_heights : (c : ℕ) (h : ℕ → ℕ) (m : IsLowest s.vertices.classes c h (4 * n)) → AreHeights s xs c h → AreHeights s xs c (λ i. h i - h m.member)
  lowered_heights c h m a x g v e lv off ch =
      let into : IsGlued s.rows x g = glued_is s.rows x g k.table e in
      let u : ℕ = image g.perm v in
      let f : ℕ = image g.perm x.face in
      let lu : u < 4 = image_below g.perm v into.permutes lv in
      let li : vertex_number x.tet v < 4 * n = omega (arith, into.tet) in
      let lj : vertex_number g.tet u < 4 * n = omega (arith, into.other_tet) in
      let cu : class_of (vertex_number g.tet u) ≡ c = sym (class_across s.rows k.table s.vertices.classes s.vertices.count k.vertices x g v e lv off) ∙ ch in
      lowered (h (vertex_number x.tet v)) (h (vertex_number g.tet u)) (slice_index xs (quad_column Quad x.tet (keeping v x.face))) (slice_index xs (quad_column Quad g.tet (keeping u f))) (h m.member)
      (m.low (vertex_number x.tet v) li ch) (m.low (vertex_number g.tet u) lj cu) (a x g v e lv off ch)

  pub heights_give : (c : ℕ) → c < s.vertices.count → (h : ℕ → ℕ) → AreHeights s xs c h → HasLiftAt s xs c
  heights_give c lc h a = go (lowest s.vertices.classes c h (4 * n))
    where
      go : ((j : ℕ) → j < 4 * n → class_of j ≡ c → ⊥) ⊎ IsLowest s.vertices.classes c h (4 * n) → HasLiftAt s xs c
      go (inl none) = absurd (let i : (i : ℕ) × (i < 4 * n) × (class_of i ≡ c) = (k.vertices).none_empty c lc in none i.0 i.1 i.2)
      go (inr m) =
          let z : h m.member - h m.member ≡ 0 = omega arith in
          (vector_of n (λ i. h i - h m.member) xs, heights_lift c (λ i. h i - h m.member) (lowered_heights c h m a) m.member m.within m.in_class z)

  pub lift_gives : (c : ℕ) → HasLiftAt s xs c → (h : ℕ → ℕ) × AreHeights s xs c h
  lift_gives c l = (triangle_at l.0, lift_heights c l.0 l.1)

  -- a lift at each class, picked for any number
  module _ (each : (c : ℕ) → c < s.vertices.count → HasLiftAt s xs c) where
    picked_by : (c : ℕ) → (c < s.vertices.count) ⊎ (s.vertices.count ≤ c) → List ℕ
    picked_by c (inl l) = (each c l).0
    picked_by c (inr p) = []

    picked : ℕ → List ℕ
    picked c = picked_by c (cases_lt c s.vertices.count)

    picked_lift : (c : ℕ) → c < s.vertices.count → IsLiftAt s.rows s.vertices.classes xs c (picked c)
    unfolding picked picked_by
    picked_lift c l = go (cases_lt c s.vertices.count)
      where
        go : (o : (c < s.vertices.count) ⊎ (s.vertices.count ≤ c)) → IsLiftAt s.rows s.vertices.classes xs c (picked_by c o)
        go (inl m) = (each c m).1
        go (inr p) = absurd (omega arith)

    abbrev joined : ℕ → ℕ
    joined i = triangle_at (picked (class_of i)) i

    joined_heights : (c : ℕ) → c < s.vertices.count → AreHeights s xs c joined
    joined_heights c lc x g v e lv off ch =
        let into : IsGlued s.rows x g = glued_is s.rows x g k.table e in
        let u : ℕ = image g.perm v in
        let f : ℕ = image g.perm x.face in
        let cu : class_of (vertex_number g.tet u) ≡ c = sym (class_across s.rows k.table s.vertices.classes s.vertices.count k.vertices x g v e lv off) ∙ ch in
        let here : joined (vertex_number x.tet v) ≡ triangle_at (picked c) (vertex_number x.tet v) = ap (λ d. triangle_at (picked d) (vertex_number x.tet v)) ch in
        let there : joined (vertex_number g.tet u) ≡ triangle_at (picked c) (vertex_number g.tet u) = ap (λ d. triangle_at (picked d) (vertex_number g.tet u)) cu in
        ap (λ i. i + slice_index xs (quad_column Quad x.tet (keeping v x.face))) here
        ∙ lift_heights c (picked c) (picked_lift c lc) x g v e lv off ch
        ∙ ap (λ i. i + slice_index xs (quad_column Quad g.tet (keeping u f))) (sym there)

    pub lifts_join : (ys : List ℕ) × IsLiftOf s xs ys
    lifts_join = (
      vector_of n joined xs,
      record {
        width = length-vector n joined xs;
        each = λ c lc.
            let m : IsLiftAt s.rows s.vertices.classes xs c (picked c) = picked_lift c lc in
            let i : ℕ = (m.least).0 in
            let li : i < 4 * n = let l = (m.least).1 in let e = (k.vertices).one_each in omega arith in
            heights_lift c joined (joined_heights c lc) i li (m.least).2 (ap (λ d. triangle_at (picked d) i) (m.least).2 ∙ (m.least).3);
      },
    )
