-- Lists of gluings of each length from tetrahedron 0, and distances.
use Rattle.std.proofs.Common.{◌≡◌, ℕ, zero, suc, ◌+◌, ◌<◌, ◌≤◌, ◌⊎◌, inl, inr, List, [], ◌∷◌, ◌++◌, length, Option, Some, None, option_and_then, subst, sym, ap, refl, ◌∙◌, arith}
use Rattle.std.proofs.lemmas.Bool.{cases_lt, cases_eq}
use Rattle.std.proofs.lemmas.List.{length_push}
use Rattle.skeleton_class_laws.proofs.FirstPlaces.{none_or_first}
use Rattle.table_definitions.specs.Table.{Gluing, Row, IsTable, glue}
use Rattle.table_definitions.specs.Places.{Place, whole, across, along}
use Rattle.table_definitions.proofs.TableLaws.{glued_tet, glued_face}
use Rattle.table_definitions.proofs.ChainLaws.{along-append, kept_along, crossed}
use Rattle.table_definitions.proofs.Faces.{face_at}
use Rattle.presentation_definitions.specs.Trees.{IsPathTo, IsDistance}

-- ---- levels

-- a list of k gluings reaches t
pub record Level (rows : List Row) (k t : ℕ) : Type 0 where
  pub crossed : List ℕ
  pub long : length crossed ≡ k
  pub led : IsPathTo rows crossed t

module _ (rows : List Row) where
  pub level_start : Level rows 0 0
  level_start = record { crossed = []; long = refl; led = refl }

  whole_is : (p : Place) (t : ℕ) → p.vertices ≡ [] → p.tet ≡ t → p ≡ whole t
  whole_is p t v e = λ i. record { tet = e i; vertices = v i }

  pub level_more : (k t f : ℕ) (g : Gluing) → Level rows k t → glue rows (face_at t f) ≡ Some g → Level rows (suc k) g.tet
  level_more k t f g h e = record {
    crossed = h.crossed ++ f ∷ [];
    long = let l : length (h.crossed ++ f ∷ []) ≡ length h.crossed + 1 = length_push h.crossed f in let m : length h.crossed ≡ k = h.long in omega arith;
    led = along-append rows (whole 0) h.crossed (f ∷ []) ∙ ap (option_and_then (λ q. along rows q (f ∷ []))) h.led ∙ rw e refl;
  }

  -- the last gluing of a list
  record Last (crossed : List ℕ) (k : ℕ) : Type 0 where
    front : List ℕ
    last : ℕ
    is : crossed ≡ front ++ last ∷ []
    long : length front ≡ k

  last_of : (crossed : List ℕ) (k : ℕ) → length crossed ≡ suc k → Last crossed k
  last_of [] k e = absurd (omega arith)
  last_of (f ∷ []) k e = record { front = []; last = f; is = refl; long = omega arith }
  last_of (f ∷ g ∷ fs) zero e = absurd (omega arith)
  last_of (f ∷ g ∷ fs) (suc k) e = let h = last_of (g ∷ fs) k (omega arith) in
      record { front = f ∷ h.front; last = h.last; is = ap (λ zs. f ∷ zs) h.is; long = ap suc h.long }

  pub record LastStep (k t : ℕ) : Type 0 where
    pub from : ℕ
    pub face : ℕ
    pub gluing : Gluing
    pub level : Level rows k from
    pub glued : glue rows (face_at from face) ≡ Some gluing
    pub to : gluing.tet ≡ t

  bare : (fs : List ℕ) (p : Place) → along rows (whole 0) fs ≡ Some p → p.vertices ≡ []
  bare fs p e = kept_along rows (λ q. q.vertices ≡ []) (λ q f r h d. (crossed rows q f r h d).bare) fs (whole 0) p refl e

  pub level_last : (k t : ℕ) → Level rows (suc k) t → LastStep k t
  level_last k t h = cases (along rows (whole 0) l.front) refl
    where
      l : Last h.crossed k
      l = last_of h.crossed k h.long

      led : option_and_then (λ q. along rows q (l.last ∷ [])) (along rows (whole 0) l.front) ≡ Some (whole t)
      led = sym (along-append rows (whole 0) l.front (l.last ∷ [])) ∙ ap (along rows (whole 0)) (sym l.is) ∙ h.led

      cases : (o : Option Place) → along rows (whole 0) l.front ≡ o → LastStep k t
      cases None e = let z : None ≡ Some (whole t) = ap (option_and_then (λ q. along rows q (l.last ∷ []))) (sym e) ∙ led in absurd cc
      cases (Some p) e = step (across rows p l.last) refl
        where
          there : along rows p (l.last ∷ []) ≡ Some (whole t)
          there = ap (option_and_then (λ q. along rows q (l.last ∷ []))) (sym e) ∙ led

          step : (o : Option Place) → across rows p l.last ≡ o → LastStep k t
          step None d = let z : None ≡ Some (whole t) = ap (option_and_then (λ q. along rows q [])) (sym d) ∙ there in absurd cc
          step (Some q) d =
              let s = crossed rows p l.last q (bare l.front p e) d in
              let z : Some q ≡ Some (whole t) = ap (option_and_then (λ r. along rows r [])) (sym d) ∙ there in
              let same : q ≡ whole t = cc in record {
                from = p.tet;
                face = l.last;
                gluing = s.g;
                level = record { crossed = l.front; long = l.long; led = e ∙ ap (λ (r : Place). Some r) (whole_is p p.tet (bare l.front p e) refl) };
                glued = s.glued;
                to = s.to ∙ ap (λ (r : Place). r.tet) same;
              }

  pub level_zero : (t : ℕ) → Level rows 0 t → t ≡ 0
  level_zero t h = go h.crossed h.long h.led
    where
      go : (fs : List ℕ) → length fs ≡ 0 → IsPathTo rows fs t → t ≡ 0
      go [] l e = let z : Some (whole 0) ≡ Some (whole t) = e in let same : whole 0 ≡ whole t = cc in ap (λ (p : Place). p.tet) (sym same)
      go (f ∷ fs) l e = absurd (omega arith)

  -- a face of u is glued to t, where u is at level k
  record Through (k u t : ℕ) : Type 0 where
    face : ℕ
    gluing : Gluing
    level : Level rows k u
    glued : glue rows (face_at u face) ≡ Some gluing
    to : gluing.tet ≡ t

  leads_or_not : (u f t : ℕ) → ((g : Gluing) × (glue rows (face_at u f) ≡ Some g) × (g.tet ≡ t)) ⊎ ((g : Gluing) → glue rows (face_at u f) ≡ Some g → g.tet ≡ t → ⊥)
  leads_or_not u f t = by_glue (glue rows (face_at u f)) refl
    where
      by_glue : (o : Option Gluing) → glue rows (face_at u f) ≡ o → ((g : Gluing) × (glue rows (face_at u f) ≡ Some g) × (g.tet ≡ t)) ⊎ ((g : Gluing) → glue rows (face_at u f) ≡ Some g → g.tet ≡ t → ⊥)
      by_glue None e = inr (λ g d _. let z : None ≡ Some g = sym e ∙ d in absurd cc)
      by_glue (Some g) e = elim (cases_eq g.tet t) [
        | inl same ↦ inl (g, e, same)
        | inr other ↦ inr (λ h d same. let z : Some g ≡ Some h = sym e ∙ d in let w : g ≡ h = cc in other (ap (λ (b : Gluing). b.tet) w ∙ same))
      ]

  pub leads_to_or_not : (u f t : ℕ) → ((g : Gluing) × (glue rows (face_at u f) ≡ Some g) × (g.tet ≡ t)) ⊎ (((g : Gluing) × (glue rows (face_at u f) ≡ Some g) × (g.tet ≡ t)) → ⊥)
  leads_to_or_not u f t = elim (leads_or_not u f t) [ inl h ↦ inl h | inr never ↦ inr (λ h. never h.0 h.1 h.2) ]

  -- whether a face of a tetrahedron of level k is glued to t
  module _ (table : IsTable rows) where
    through : (k u t : ℕ) → Level rows k u ⊎ (Level rows k u → ⊥) → Through k u t ⊎ (Through k u t → ⊥)
    through k u t (inr never) = inr (λ h. never h.level)
    through k u t (inl level) = elim (none_or_first (λ f. (g : Gluing) × (glue rows (face_at u f) ≡ Some g) × (g.tet ≡ t)) (λ f. leads_to_or_not u f t) 4) [
      | inr one ↦ let h = one.2 in inl (record { face = one.0; gluing = h.0; level = level; glued = h.1; to = h.2 })
      | inl none ↦ inr (λ h. none h.face (glued_face rows (face_at u h.face) h.gluing table.four_faces h.glued) (h.gluing, h.glued, h.to))
    ]

    pub decide_level : (k t : ℕ) → Level rows k t ⊎ (Level rows k t → ⊥)
    decide_level zero t = elim (cases_eq t 0) [
      | inl z ↦ inl (subst (Level rows 0) (sym z) level_start)
      | inr some ↦ inr (λ h. some (level_zero t h))
    ]
    decide_level (suc k) t = elim (none_or_first (λ u. Through k u t) (λ u. through k u t (decide_level k u)) (length rows)) [
      | inr one ↦ let f = one.2 in inl (subst (Level rows (suc k)) f.to (level_more k one.0 f.face f.gluing f.level f.glued))
      | inl none ↦ inr (λ h. let s = level_last k t h in none s.from (glued_tet rows (face_at s.from s.face) s.gluing s.glued) (record { face = s.face; gluing = s.gluing; level = s.level; glued = s.glued; to = s.to }))
    ]

    -- ---- distances

    distance_from : (t d : ℕ) → Level rows d t → ((j : ℕ) → j < d → Level rows j t → ⊥) → IsDistance rows t d
    distance_from t d h first = record {
      crossed = h.crossed;
      led = h.led;
      long = h.long;
      least = λ other led. elim (cases_lt (length other) d) [
        | inl less ↦ absurd (first (length other) less (record { crossed = other; long = refl; led = led }))
        | inr l ↦ l
      ];
    }

    pub some_distance : (k t : ℕ) → Level rows k t → (d : ℕ) × IsDistance rows t d
    some_distance k t h = elim (none_or_first (λ j. Level rows j t) (λ j. decide_level j t) (suc k)) [
      | inr one ↦ (one.0, distance_from t one.0 one.2 one.3)
      | inl none ↦ absurd (none k (omega arith) h)
    ]

  pub distance_level : (t d : ℕ) → IsDistance rows t d → Level rows d t
  distance_level t d h = record { crossed = h.crossed; long = h.long; led = h.led }

  pub distance_least : (t d j : ℕ) → IsDistance rows t d → Level rows j t → d ≤ j
  distance_least t d j h l = let a : d ≤ length l.crossed = h.least l.crossed l.led in let b : length l.crossed ≡ j = l.long in omega arith

  pub one_distance : (t d e : ℕ) → IsDistance rows t d → IsDistance rows t e → d ≡ e
  one_distance t d e a b = let l : d ≤ e = distance_least t d e a (distance_level t e b) in let m : e ≤ d = distance_least t e d b (distance_level t d a) in omega arith
