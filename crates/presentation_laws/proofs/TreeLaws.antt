-- Each tetrahedron other than 0 of a connected table has one tree face, and one path of tree faces from tetrahedron 0.
use Rattle.std.proofs.Common.{◌≡◌, ℕ, zero, suc, ◌+◌, ◌-◌, ◌<◌, ◌≤◌, ◌⊎◌, inl, inr, false, List, [], ◌∷◌, length, Some, subst, sym, ap, ap₂, refl, ◌∙◌, arith}
use Rattle.std.specs.Prelude.{nat_lt, ◌==◌, ◌||◌, ◌&&◌}
use Rattle.std.proofs.lemmas.Bool.{cases_lt, cases_eq, cases_order}
use Rattle.table_definitions.specs.Table.{Gluing, Row, Face, IsTable, glue, is_face_before}
use Rattle.table_definitions.specs.Places.{IsConnected}
use Rattle.table_definitions.proofs.TableLaws.{glued_tet, glued_face}
use Rattle.table_definitions.proofs.Faces.{face_at}
use Rattle.presentation_definitions.specs.Trees.{IsDistance, LeadsCloser, IsTreeFace, IsTreePath}
use Rattle.presentation_laws.proofs.Levels.{Level, level_start, level_more, level_last, level_zero, leads_to_or_not, decide_level, some_distance, distance_level, distance_least, one_distance}
use Rattle.skeleton_class_laws.proofs.FirstPlaces.{none_or_first}

-- ---- the order of faces

before_false : (x y : Face) → (x.tet < y.tet → ⊥) → (x.tet ≡ y.tet → x.face < y.face → ⊥) → is_face_before x y ≡ false
before_false x y a b = elim (cases_order x.tet y.tet) [
  | inl same ↦ elim (cases_lt x.face y.face) [ inl less ↦ absurd (b same less) | inr le ↦ later x.tet y.tet x.face y.face (omega arith) le ]
  | inr (inl less) ↦ absurd (a less)
  | inr (inr more) ↦ after x.tet y.tet x.face y.face more
]
  where
    later : (s t f g : ℕ) → t ≤ s → g ≤ f → (nat_lt s t || ((s == t) && nat_lt f g)) ≡ false
    later s t f g l k = grind arith

    after : (s t f g : ℕ) → t < s → (nat_lt s t || ((s == t) && nat_lt f g)) ≡ false
    after s t f g l = grind arith

neither_before : (x y : Face) → is_face_before x y ≡ false → is_face_before y x ≡ false → x ≡ y
neither_before x y a b = let s = same x.tet y.tet x.face y.face a b in λ i. record { tet = s.0 i; face = s.1 i }
  where
    not_less : (s t f g : ℕ) → (nat_lt s t || ((s == t) && nat_lt f g)) ≡ false → t ≤ s
    not_less s t f g e = grind arith

    not_less_face : (s f g : ℕ) → (nat_lt s s || ((s == s) && nat_lt f g)) ≡ false → g ≤ f
    not_less_face s f g e = grind arith

    same : (s t f g : ℕ) → (nat_lt s t || ((s == t) && nat_lt f g)) ≡ false → (nat_lt t s || ((t == s) && nat_lt g f)) ≡ false → (s ≡ t) × (f ≡ g)
    same s t f g a b = let l : t ≤ s = not_less s t f g a in let m : s ≤ t = not_less t s g f b in let e : s ≡ t = omega arith in
        let a' : (nat_lt s s || ((s == s) && nat_lt f g)) ≡ false = subst (λ u. (nat_lt s u || ((s == u) && nat_lt f g)) ≡ false) (sym e) a in
        let b' : (nat_lt s s || ((s == s) && nat_lt g f)) ≡ false = subst (λ u. (nat_lt u s || ((u == s) && nat_lt g f)) ≡ false) (sym e) b in
        let k : g ≤ f = not_less_face s f g a' in let n : f ≤ g = not_less_face s g f b' in (e, omega arith)

module _ (rows : List Row) where
  -- ---- one tree face

  pub one_tree_face : (t : ℕ) (x y : Face) → IsTreeFace rows t x → IsTreeFace rows t y → x ≡ y
  one_tree_face t x y a b = neither_before x y (b.least x a.leads) (a.least y b.leads)

  pub one_tetrahedron : (t u : ℕ) (x : Face) → IsTreeFace rows t x → IsTreeFace rows u x → t ≡ u
  one_tetrahedron t u x a b = let z : Some a.leads.gluing ≡ Some b.leads.gluing = sym a.leads.glued ∙ b.leads.glued in let same : a.leads.gluing ≡ b.leads.gluing = cc in
      sym a.leads.to ∙ ap (λ (g : Gluing). g.tet) same ∙ b.leads.to

  pub none_for_zero : (x : Face) → IsTreeFace rows 0 x → ⊥
  none_for_zero x h = let d : h.leads.distance + 1 ≤ 0 = distance_least rows 0 (h.leads.distance + 1) 0 h.leads.there (level_start rows) in absurd (omega arith)

  -- ---- one path

  pub one_path : (t : ℕ) (xs ys : List Face) → IsTreePath rows t xs → IsTreePath rows t ys → xs ≡ ys
  one_path t [] [] a b = refl
  one_path t [] (y ∷ ys) a b = absurd (none_for_zero y (subst (λ u. IsTreeFace rows u y) a b.0))
  one_path t (x ∷ xs) [] a b = absurd (none_for_zero x (subst (λ u. IsTreeFace rows u x) b a.0))
  one_path t (x ∷ xs) (y ∷ ys) a b = let same : x ≡ y = one_tree_face t x y a.0 b.0 in
      ap₂ (λ z zs. z ∷ zs) same (one_path y.tet xs ys (subst (λ (z : Face). IsTreePath rows z.tet xs) same a.1) b.1)

  module _ (table : IsTable rows) where
    -- if t is at distance d + 1, a face of level d that is glued to t is one of a tetrahedron with a distance one less
    closer : (t u f d : ℕ) (g : Gluing) → IsDistance rows t (d + 1) → Level rows d u → glue rows (face_at u f) ≡ Some g → g.tet ≡ t → LeadsCloser rows t (face_at u f)
    closer t u f d g there level e to = record { gluing = g; glued = e; to = to; distance = d; here = subst (IsDistance rows u) same found.1; there = there }
      where
        found : (c : ℕ) × IsDistance rows u c
        found = some_distance rows table d u level

        same : found.0 ≡ d
        same = let a : found.0 ≤ d = distance_least rows u found.0 d found.1 level in
            let b : d + 1 ≤ suc found.0 = distance_least rows t (d + 1) (suc found.0) there (subst (Level rows (suc found.0)) to (level_more rows found.0 u f g (distance_level rows u found.0 found.1) e)) in omega arith

    -- the faces of level d that are glued to t
    Near : ℕ → ℕ → ℕ → ℕ → Type 0
    Near t d u f = Level rows d u × ((g : Gluing) × (glue rows (face_at u f) ≡ Some g) × (g.tet ≡ t))

    near_or_not : (t d u f : ℕ) → Near t d u f ⊎ (Near t d u f → ⊥)
    unfolding Near
    near_or_not t d u f = elim (decide_level rows table d u) [
      | inr never ↦ inr (λ h. never h.0)
      | inl level ↦ elim (leads_to_or_not rows u f t) [ inl h ↦ inl (level, h) | inr never ↦ inr (λ h. never h.1) ]
    ]

    closer_near : (t d : ℕ) (x : Face) → IsDistance rows t (d + 1) → LeadsCloser rows t x → Near t d x.tet x.face
    unfolding Near
    closer_near t d x there h = let e : h.distance + 1 ≡ d + 1 = one_distance rows t (h.distance + 1) (d + 1) h.there there in let f : h.distance ≡ d = omega arith in
        (distance_level rows x.tet d (subst (IsDistance rows x.tet) f h.here), (h.gluing, h.glued, h.to))

    record NearFace (t d u : ℕ) : Type 0 where
      face : ℕ
      small : face < 4
      near : Near t d u face
      first : (f : ℕ) → f < face → Near t d u f → ⊥

    near_face : (t d u : ℕ) → NearFace t d u ⊎ ((f : ℕ) → f < 4 → Near t d u f → ⊥)
    near_face t d u = elim (none_or_first (Near t d u) (near_or_not t d u) 4) [
      | inr one ↦ inl (record { face = one.0; small = one.1; near = one.2; first = one.3 })
      | inl none ↦ inr none
    ]

    near_face_or_not : (t d u : ℕ) → NearFace t d u ⊎ (NearFace t d u → ⊥)
    near_face_or_not t d u = elim (near_face t d u) [ inl h ↦ inl h | inr none ↦ inr (λ h. none h.face h.small h.near) ]

    tree_face_from : (t d u : ℕ) → IsDistance rows t (d + 1) → NearFace t d u → ((v : ℕ) → v < u → NearFace t d v → ⊥) → (x : Face) × IsTreeFace rows t x
    unfolding Near
    tree_face_from t d u there h first = (face_at u h.face, record { leads = closer t u h.face d h.near.1.0 there h.near.0 h.near.1.1 h.near.1.2; least = least })
      where
        least : (y : Face) → LeadsCloser rows t y → is_face_before y (face_at u h.face) ≡ false
        least y k = let near = closer_near t d y there k in
            before_false y (face_at u h.face)
            (λ less. elim (near_face t d y.tet) [ inl n ↦ first y.tet less n | inr none ↦ none y.face (glued_face rows y k.gluing table.four_faces k.glued) near ])
            (λ same less. h.first y.face less (subst (λ v. Near t d v y.face) same near))

    pub some_tree_face : (t d : ℕ) → IsDistance rows t (d + 1) → (x : Face) × IsTreeFace rows t x
    unfolding Near
    some_tree_face t d there = elim (none_or_first (NearFace t d) (near_face_or_not t d) (length rows)) [
      | inr one ↦ tree_face_from t d one.0 there one.2 one.3
      | inl none ↦
          let s = level_last rows d t (subst (λ k. Level rows k t) (omega arith) (distance_level rows t (d + 1) there)) in
          elim (near_face t d s.from) [
            | inl n ↦ absurd (none s.from (glued_tet rows (face_at s.from s.face) s.gluing s.glued) n)
            | inr never ↦ absurd (never s.face (glued_face rows (face_at s.from s.face) s.gluing table.four_faces s.glued) (s.level, (s.gluing, s.glued, s.to)))
          ]
    ]

    pub some_path : (d t : ℕ) → IsDistance rows t d → (xs : List Face) × IsTreePath rows t xs
    some_path zero t h = ([], level_zero rows t (distance_level rows t zero h))
    some_path (suc d) t h =
        let x = some_tree_face t d (subst (IsDistance rows t) (omega arith) h) in
        let e : x.1.leads.distance + 1 ≡ suc d = one_distance rows t (x.1.leads.distance + 1) (suc d) x.1.leads.there h in
        let f : x.1.leads.distance ≡ d = omega arith in
        let rest = some_path d x.0.tet (subst (IsDistance rows x.0.tet) f x.1.leads.here) in
        (x.0 ∷ rest.0, (x.1, rest.1))

    -- in a connected table
    module _ (connected : IsConnected rows) where
      pub distance_of : (t : ℕ) → t < length rows → (d : ℕ) × IsDistance rows t d
      distance_of t l = let j = connected 0 t (omega arith) l in some_distance rows table (length j.0) t (record { crossed = j.0; long = refl; led = j.1 })

      pub path_of : (t : ℕ) → t < length rows → (xs : List Face) × IsTreePath rows t xs
      path_of t l = let d = distance_of t l in some_path d.0 t d.1

      pub tree_face_of : (t : ℕ) → t < length rows → 0 < t → (x : Face) × IsTreeFace rows t x
      tree_face_of t l some = let d = distance_of t l in elim (cases_eq d.0 0) [
        | inl z ↦ let e : t ≡ 0 = level_zero rows t (distance_level rows t 0 (subst (IsDistance rows t) z d.1)) in absurd (omega arith)
        | inr n ↦ some_tree_face t (d.0 - 1) (subst (IsDistance rows t) (omega arith) d.1)
      ]
