-- Numbers are spread from one vertex of a class along chains; if any heights exist, these numbers are heights, so a
-- lift exists or does not.
use Rattle.std.proofs.Common.{◌≡◌, ℕ, zero, suc, ◌+◌, ◌*◌, ◌/◌, ◌%◌, ◌-◌, ◌<◌, ◌≤◌, List, [], ◌∷◌, length, get_or, Option, Some, None, ◌⊎◌, inl, inr, Result, Ok, Err, refl, sym, ap, ◌∙◌, subst, arith}
use Rattle.std.specs.Prelude.{slice_index, sum_by, sum, option_and_then}
use Rattle.std.proofs.lemmas.Bool.{cases_lt, cases_eq}
use Rattle.std.proofs.lemmas.List.Sums.{get_or-le-sum_by}
use Rattle.std.proofs.lemmas.List.FromFn.{length-range_with_len, get_or-range_with_len}
use Rattle.table_definitions.specs.Lists.{below}
use Rattle.table_definitions.specs.Permutation.{image, others}
use Rattle.table_definitions.specs.Table.{Gluing, Face, glue, faces}
use Rattle.table_definitions.specs.Places.{Place, across, along, vertex, SameVertex}
use Rattle.table_definitions.proofs.TableLaws.{Among, Among-faces}
use Rattle.table_definitions.proofs.PermutationLaws.{image_below}
use Rattle.skeleton_definitions.specs.Links.{vertex_number}
use Rattle.skeleton_definitions.specs.Skeleton.{Skeleton, IsSkeleton}
use Rattle.surface_definitions.specs.Coordinates.{quad_column, keeping}
use Rattle.surface_definitions.specs.declared.Coords.TheVariants.{Quad}
use Rattle.surface_vector_definitions.specs.Lifting.{HasLiftAt, IsLeastWithoutLift, IsLiftAnswer}
use Rattle.surface_vector_definitions.specs.declared.LiftFault.{LiftFault}
use Rattle.surface_vector_definitions.specs.declared.LiftFault.TheVariants.{Large, NoLift}
use Rattle.surface_laws.specs.LiftLaws.{AreHeights, IsLiftOf}
use Rattle.surface_laws.proofs.Glued.{IsGlued, glued_is}
use Rattle.surface_laws.proofs.Vertices.{one_vertex, number-vertex, IsCrossed, crossed_is, class_across}
use Rattle.surface_laws.proofs.Heights.{heights_give, lift_gives, lifts_join}
use Rattle.surface_laws.proofs.Solved.{other_is}
use Rattle.table_definitions.proofs.Listed.{Among-others}
use Rattle.table_definitions.proofs.Faces.{face_at}

-- if a property of each item is decided, that of all items of a list is
pub decided_all : {A : Type 0} (P : A → Type 0) (xs : List A) → ((x : A) → Among x xs → P x ⊎ (P x → ⊥)) → ((x : A) → Among x xs → P x) ⊎ (((x : A) → Among x xs → P x) → ⊥)
decided_all P [] d = inl (λ x h. absurd h)
decided_all {A} P (y ∷ ys) d = go (d y (inl refl)) (decided_all P ys (λ x h. d x (inr h)))
  where
    at : P y → ((x : A) → Among x ys → P x) → (x : A) → Among x (y ∷ ys) → P x
    at p ps x (inl e) = subst P (sym e) p
    at p ps x (inr h) = ps x h

    go : P y ⊎ (P y → ⊥) → ((x : A) → Among x ys → P x) ⊎ (((x : A) → Among x ys → P x) → ⊥) → ((x : A) → Among x (y ∷ ys) → P x) ⊎ (((x : A) → Among x (y ∷ ys) → P x) → ⊥)
    go (inr out) rest = inr (λ all. out (all y (inl refl)))
    go (inl p) (inl ps) = inl (at p ps)
    go (inl p) (inr out) = inr (λ all. out (λ x h. all x (inr h)))

step_on : (a b e q q' up down : ℕ) → a + q ≡ b + q' → b + up ≡ e + down → a + (q + up) ≡ e + (q' + down)
step_on a b e q q' up down f g = omega arith

spread_from : (h up down d start there : ℕ) → down ≤ d → h ≡ (d + up) - down → start + up ≡ there + down → h + start ≡ d + there
spread_from h up down d start there l e f = omega arith

same_equation : (a b p r q q' d start : ℕ) → a + start ≡ d + p → b + start ≡ d + r → p + q ≡ r + q' → a + q ≡ b + q'
same_equation a b p r q q' d start e f g = omega arith

module _ (s : Skeleton) (k : IsSkeleton s) (xs : List ℕ) (width : length xs ≡ 3 * length s.rows) (c : ℕ) where
  abbrev n : ℕ
  n = 4 * length s.rows

  abbrev class_of : ℕ → ℕ
  class_of i = slice_index s.vertices.classes i

  abbrev quad_there : ℕ → ℕ → ℕ → ℕ
  quad_there t v f = slice_index xs (quad_column Quad t (keeping v f))

  -- by how much any heights rise and fall from vertex a to vertex b
  record Rise (a b : ℕ) : Type 0 where
    up : ℕ
    down : ℕ
    forced : (h : ℕ → ℕ) → AreHeights s xs c h → h a + up ≡ h b + down

  record RiseTo (a : ℕ) (q : Place) : Type 0 where
    v : ℕ
    is : q.vertices ≡ v ∷ []
    rise : Rise a (vertex_number q.tet v)

  rise_along : (crossed : List ℕ) (t v : ℕ) (q : Place) → v < 4 → class_of (vertex_number t v) ≡ c → along s.rows (one_vertex t v) crossed ≡ Some q → RiseTo (vertex_number t v) q
  rise_along [] t v q l ch e =
      let same : one_vertex t v ≡ q = cc in
      subst (RiseTo (vertex_number t v)) same (record { v = v; is = refl; rise = record { up = 0; down = 0; forced = λ h a. refl } })
  rise_along (f ∷ fs) t v q l ch e = go (across s.rows (one_vertex t v) f) refl e (λ u w lw cw d. rise_along fs u w q lw cw d)
    where
      go : (o : Option Place) → across s.rows (one_vertex t v) f ≡ o → option_and_then (λ (r : Place). along s.rows r fs) o ≡ Some q
          → ((u w : ℕ) → w < 4 → class_of (vertex_number u w) ≡ c → along s.rows (one_vertex u w) fs ≡ Some q → RiseTo (vertex_number u w) q) → RiseTo (vertex_number t v) q
      go None a d rest = absurd cc
      go (Some r) a d rest =
          let x : IsCrossed s.rows t v f r = crossed_is s.rows t v f r a in
          let i : IsGlued s.rows (face_at t f) x.g = glued_is s.rows (face_at t f) x.g k.table x.glued in
          let w : ℕ = image x.g.perm v in
          let lw : w < 4 = image_below x.g.perm v i.permutes l in
          let cw : class_of (vertex_number x.g.tet w) ≡ c = sym (class_across s.rows k.table s.vertices.classes s.vertices.count k.vertices (face_at t f) x.g v x.glued l x.off) ∙ ch in
          let m : RiseTo (vertex_number x.g.tet w) q = rest x.g.tet w lw cw (ap (λ (p : Place). along s.rows p fs) x.is ∙ d) in
          let q1 : ℕ = quad_there t v f in
          let q2 : ℕ = quad_there x.g.tet w (image x.g.perm f) in
          record {
            v = m.v;
            is = m.is;
            rise = record {
              up = q1 + m.rise.up;
              down = q2 + m.rise.down;
              forced = λ h b. step_on (h (vertex_number t v)) (h (vertex_number x.g.tet w)) (h (vertex_number q.tet m.v)) q1 q2 m.rise.up m.rise.down (b (face_at t f) x.g v x.glued l x.off ch) (m.rise.forced h b);
            };
          }

  module _ (start : ℕ) (inside : start < n) (in_class : class_of start ≡ c) where
    rise_to : (j : ℕ) → j < n → class_of j ≡ c → Rise start j
    rise_to j lj cj =
        let joined : SameVertex s.rows start j = ((k.vertices).together start j inside lj).0 (in_class ∙ sym cj) in
        let low : start % 4 < 4 = omega arith in
        let r : RiseTo (vertex_number (start / 4) (start % 4)) (vertex j) = rise_along joined.0 (start / 4) (start % 4) (vertex j) low (ap class_of (number-vertex start) ∙ in_class) joined.1 in
        let v : r.v ≡ j % 4 = sym (ap (λ (vs : List ℕ). slice_index vs 0) r.is) in
        let at : vertex_number (j / 4) r.v ≡ j = ap (vertex_number (j / 4)) v ∙ number-vertex j in
        subst (λ i. Rise i j) (number-vertex start) (subst (Rise (vertex_number (start / 4) (start % 4))) at r.rise)

    -- the rise and the fall to the vertex with any number, and 0 for a vertex of another class
    spread_by : (j : ℕ) → (j < n) ⊎ (n ≤ j) → (class_of j ≡ c) ⊎ (class_of j ≡ c → ⊥) → ℕ × ℕ
    spread_by j (inl l) (inl e) = ((rise_to j l e).up, (rise_to j l e).down)
    spread_by j (inl l) (inr out) = (0, 0)
    spread_by j (inr exceeded) o = (0, 0)

    spread : ℕ → ℕ × ℕ
    spread j = spread_by j (cases_lt j n) (cases_eq (class_of j) c)

    spread_forced : (h : ℕ → ℕ) → AreHeights s xs c h → (j : ℕ) → j < n → class_of j ≡ c → h start + (spread j).0 ≡ h j + (spread j).1
    unfolding spread spread_by
    spread_forced h a j lj cj = go (cases_lt j n) (cases_eq (class_of j) c)
      where
        go : (o : (j < n) ⊎ (n ≤ j)) (p : (class_of j ≡ c) ⊎ (class_of j ≡ c → ⊥)) → h start + (spread_by j o p).0 ≡ h j + (spread_by j o p).1
        go (inl l) (inl e) = (rise_to j l e).forced h a
        go (inl l) (inr out) = absurd (out cj)
        go (inr exceeded) p = absurd (omega arith)

    all_down : ℕ
    all_down = sum_by (λ j. (spread j).1) (below n)

    height : ℕ → ℕ
    height j = (all_down + (spread j).0) - (spread j).1

    down_within : (j : ℕ) → j < n → (spread j).1 ≤ all_down
    unfolding all_down
    down_within j l =
        let inside : j < length (below n) = omega (arith, length-range_with_len 0 n) in
        let at : get_or (below n) j 0 ≡ j = get_or-range_with_len 0 n j 0 l ∙ omega arith in
        subst (λ i. (spread i).1 ≤ sum_by (λ j. (spread j).1) (below n)) at (get_or-le-sum_by (λ j. (spread j).1) (below n) j 0 inside)

    -- any heights differ from these numbers by a constant
    height_forced : (h : ℕ → ℕ) → AreHeights s xs c h → (j : ℕ) → j < n → class_of j ≡ c → height j + h start ≡ all_down + h j
    unfolding height
    height_forced h a j lj cj = spread_from (height j) (spread j).0 (spread j).1 all_down (h start) (h j) (down_within j lj) refl (spread_forced h a j lj cj)

    -- so these numbers are heights if there are any heights
    heights_if_any : (h : ℕ → ℕ) → AreHeights s xs c h → AreHeights s xs c height
    heights_if_any h a x g v e lv off ch =
        let i : IsGlued s.rows x g = glued_is s.rows x g k.table e in
        let w : ℕ = image g.perm v in
        let lw : w < 4 = image_below g.perm v i.permutes lv in
        let li : vertex_number x.tet v < n = omega (arith, i.tet) in
        let lj : vertex_number g.tet w < n = omega (arith, i.other_tet) in
        let cw : class_of (vertex_number g.tet w) ≡ c = sym (class_across s.rows k.table s.vertices.classes s.vertices.count k.vertices x g v e lv off) ∙ ch in
        same_equation (height (vertex_number x.tet v)) (height (vertex_number g.tet w)) (h (vertex_number x.tet v)) (h (vertex_number g.tet w))
        (quad_there x.tet v x.face) (quad_there g.tet w (image g.perm x.face)) all_down (h start)
        (height_forced h a (vertex_number x.tet v) li ch) (height_forced h a (vertex_number g.tet w) lj cw) (a x g v e lv off ch)

    -- the equation at one vertex of one face
    FitsAt : Face → ℕ → Type 0
    FitsAt x v = (g : Gluing) → glue s.rows x ≡ Some g → class_of (vertex_number x.tet v) ≡ c
        → height (vertex_number x.tet v) + quad_there x.tet v x.face ≡ height (vertex_number g.tet (image g.perm v)) + quad_there g.tet (image g.perm v) (image g.perm x.face)

    fits_decided : (x : Face) (v : ℕ) → FitsAt x v ⊎ (FitsAt x v → ⊥)
    unfolding FitsAt
    fits_decided x v = go (glue s.rows x) refl
      where
        by_number : (g : Gluing) → glue s.rows x ≡ Some g → class_of (vertex_number x.tet v) ≡ c
            → (height (vertex_number x.tet v) + quad_there x.tet v x.face ≡ height (vertex_number g.tet (image g.perm v)) + quad_there g.tet (image g.perm v) (image g.perm x.face))
            ⊎ ((height (vertex_number x.tet v) + quad_there x.tet v x.face ≡ height (vertex_number g.tet (image g.perm v)) + quad_there g.tet (image g.perm v) (image g.perm x.face)) → ⊥)
            → FitsAt x v ⊎ (FitsAt x v → ⊥)
        by_number g e ch (inl same) = inl (λ g' e' ch'. (let one : g ≡ g' = (let z : Some g ≡ Some g' = sym e ∙ e' in cc) in
            subst (λ (q : Gluing). height (vertex_number x.tet v) + quad_there x.tet v x.face ≡ height (vertex_number q.tet (image q.perm v)) + quad_there q.tet (image q.perm v) (image q.perm x.face)) one same))
        by_number g e ch (inr out) = inr (λ fits. out (fits g e ch))

        go : (o : Option Gluing) → glue s.rows x ≡ o → FitsAt x v ⊎ (FitsAt x v → ⊥)
        go None e = inl (λ g f ch. absurd (let z : None ≡ Some g = sym e ∙ f in cc))
        go (Some g) e = elim (cases_eq (class_of (vertex_number x.tet v)) c) [
          | inr out ↦ inl (λ g' e' ch. absurd (out ch))
          | inl ch ↦ by_number g e ch (cases_eq (height (vertex_number x.tet v) + quad_there x.tet v x.face) (height (vertex_number g.tet (image g.perm v)) + quad_there g.tet (image g.perm v) (image g.perm x.face)))
        ]

    all_fit : ((x : Face) → Among x (faces (length s.rows)) → (v : ℕ) → Among v (others x.face) → FitsAt x v) → AreHeights s xs c height
    unfolding FitsAt
    all_fit h x g v e lv off ch =
        let i : IsGlued s.rows x g = glued_is s.rows x g k.table e in
        h x (Among-faces x (length s.rows) i.tet i.face) v (Among-others x.face v lv off) g e ch

    lift_decided_from : c < s.vertices.count → HasLiftAt s xs c ⊎ (HasLiftAt s xs c → ⊥)
    unfolding FitsAt
    lift_decided_from lc = elim (decided_all (λ (x : Face). (v : ℕ) → Among v (others x.face) → FitsAt x v) (faces (length s.rows)) (λ x h. decided_all (FitsAt x) (others x.face) (λ v m. fits_decided x v))) [
      | inl all ↦ inl (heights_give s k xs width c lc height (all_fit all))
      | inr out ↦ inr (λ lift. (let h : (h : ℕ → ℕ) × AreHeights s xs c h = lift_gives s k xs width c lift in
          let mine : AreHeights s xs c height = heights_if_any h.0 h.1 in
          out (λ x m v o g e ch. (let i : IsGlued s.rows x g = glued_is s.rows x g k.table e in
          let r : (v < 4) × (v ≡ x.face → ⊥) = other_is x.face v o in mine x g v e r.0 r.1 ch))))
    ]

pub lift_decided : (s : Skeleton) (k : IsSkeleton s) (xs : List ℕ) (width : length xs ≡ 3 * length s.rows) (c : ℕ) → c < s.vertices.count → HasLiftAt s xs c ⊎ (HasLiftAt s xs c → ⊥)
lift_decided s k xs width c lc =
    let i : (i : ℕ) × (i < 4 * length s.rows) × (slice_index s.vertices.classes i ≡ c) = (k.vertices).none_empty c lc in
    lift_decided_from s k xs width c i.0 i.1 i.2 lc

-- the least class without a lift, below a bound, or lifts at all of them
least_without : (s : Skeleton) (k : IsSkeleton s) (xs : List ℕ) (width : length xs ≡ 3 * length s.rows) (bound : ℕ) → bound ≤ s.vertices.count
    → ((c : ℕ) → c < bound → HasLiftAt s xs c) ⊎ ((c : ℕ) × IsLeastWithoutLift s xs c)
least_without s k xs width zero l = inl (λ c h. absurd (omega arith))
least_without s k xs width (suc bound) l = go (least_without s k xs width bound (omega arith)) (lift_decided s k xs width bound (omega arith))
  where
    go : ((c : ℕ) → c < bound → HasLiftAt s xs c) ⊎ ((c : ℕ) × IsLeastWithoutLift s xs c) → HasLiftAt s xs bound ⊎ (HasLiftAt s xs bound → ⊥)
        → ((c : ℕ) → c < suc bound → HasLiftAt s xs c) ⊎ ((c : ℕ) × IsLeastWithoutLift s xs c)
    go (inr found) o = inr found
    go (inl all) (inr none) = inr (bound, record { in_range = omega arith; none = none; before = all })
    go (inl all) (inl here) = inl (λ c h. elim (cases_lt c bound) [ inl low ↦ all c low | inr high ↦ (let same : bound ≡ c = omega arith in subst (HasLiftAt s xs) same here) ])

pub lift_answer : (max : ℕ) (s : Skeleton) (k : IsSkeleton s) (xs : List ℕ) → length xs ≡ 3 * length s.rows → (a : Result (List ℕ) LiftFault) × IsLiftAnswer max s xs a
lift_answer max s k xs width = elim (cases_lt max (4 * sum xs)) [
  | inl over ↦ (Err Large, over)
  | inr fits ↦ elim (least_without s k xs width s.vertices.count (omega arith)) [
    | inl all ↦ (let f : (ys : List ℕ) × IsLiftOf s xs ys = lifts_join s k xs width all in (Ok f.0, (fits, f.1)))
    | inr none ↦ (Err (NoLift none.0), (fits, none.1))
  ]
]
