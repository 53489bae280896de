-- A search level by level marks each tetrahedron with its distance.
use Rattle.std.proofs.Common.{◌≡◌, ℕ, zero, suc, ◌+◌, ◌-◌, ◌*◌, ◌<◌, ◌≤◌, inl, inr, List, [], ◌∷◌, length, replicate, set, Option, Some, None, count_by, All, Contains, slice_index_or, subst, sym, ap, refl, ◌∙◌, arith}
use Rattle.std.specs.Prelude.{is_none, cond}
use Rattle.std.proofs.lemmas.Bool.{cases_lt, cases_eq}
use Rattle.std.proofs.lemmas.List.{get_or-set_same, get_or-set_other, get_or-replicate, length-set, length-replicate}
use Rattle.std.proofs.lemmas.List.Elements.{Contains-get_or}
use Rattle.std.proofs.lemmas.List.Sums.{sum_by-set}
use Rattle.std.proofs.lemmas.List.Folds.{sum_by-replicate}
use Rattle.basic_lemmas.proofs.Members.{contains_one, contains_nil}
use Rattle.table_definitions.specs.Table.{Gluing, Row, Face, IsTable, glue}
use Rattle.table_definitions.proofs.TableLaws.{glued_tet}
use Rattle.table_definitions.proofs.Faces.{face_at}
use Rattle.presentation_definitions.specs.Trees.{IsDistance}
use Rattle.presentation_laws.proofs.Levels.{Level, LastStep, level_more, level_last, level_zero, some_distance, distance_level, distance_least, one_distance}
use Rattle.edge_group.specs.Searches.{mark_of, unmarked, IsAcross, IsGrown, IsFaceOfSome, IsSearched, AreDistances}

module _ (rows : List Row) (table : IsTable rows) where
  -- a tetrahedron at distance m + 1 is across a face of one at distance m
  record Before (m t : ℕ) : Type 0 where
    face : Face
    gluing : Gluing
    glued : glue rows face ≡ Some gluing
    to : gluing.tet ≡ t
    distance : IsDistance rows face.tet m

  before : (m t : ℕ) → IsDistance rows t (suc m) → Before m t
  before m t h = record { face = face_at s.from s.face; gluing = s.gluing; glued = s.glued; to = s.to; distance = subst (IsDistance rows s.from) same near.1 }
    where
      s : LastStep rows m t
      s = level_last rows m t (distance_level rows t (suc m) h)

      near : (d : ℕ) × IsDistance rows s.from d
      near = some_distance rows table m s.from s.level

      same : near.0 ≡ m
      same = let a : near.0 ≤ m = distance_least rows s.from near.0 m near.1 s.level in
          let b : suc m ≤ suc near.0 = distance_least rows t (suc m) (suc near.0) h (subst (Level rows (suc near.0)) s.to (level_more rows near.0 s.from s.face s.gluing (distance_level rows s.from near.0 near.1) s.glued)) in omega arith

  -- for each smaller distance there is a tetrahedron
  lower : (k d t : ℕ) → t < length rows → IsDistance rows t (k + d) → (u : ℕ) × (u < length rows) × IsDistance rows u d
  lower zero d t l h = (t, l, subst (IsDistance rows t) (omega arith) h)
  lower (suc k) d t l h = let b = before (k + d) t (subst (IsDistance rows t) (omega arith) h) in lower k d b.face.tet (glued_tet rows b.face b.gluing b.glued) b.distance

  -- ---- one more level

  module _ (d : ℕ) (old new : List (Option ℕ)) (level next : List ℕ) (h : IsSearched rows d old level) (g : IsGrown rows (IsFaceOfSome level) (d + 1) old new next) where
    fresh_distance : (t : ℕ) → Contains next t → (t < length rows) × IsDistance rows t (d + 1)
    fresh_distance t c = (
      inside,
      record {
        crossed = walk.crossed;
        long = walk.long ∙ omega arith;
        led = walk.led;
        least = λ other led. elim (cases_lt (length other) (d + 1)) [
          | inr l ↦ l
          | inl less ↦
              let e = some_distance rows table (length other) t (record { crossed = other; long = refl; led = led }) in
              let m : e.0 ≤ length other = distance_least rows t e.0 (length other) e.1 (record { crossed = other; long = refl; led = led }) in
              let marked : mark_of old t ≡ Some e.0 = (h.reported t e.0 inside).1 (e.1, omega arith) in
              absurd (let z : None ≡ Some e.0 = sym f.0 ∙ marked in cc)
        ];
      },
    )
      where
        f : (mark_of old t ≡ None) × (mark_of new t ≡ Some (d + 1)) × IsAcross rows (IsFaceOfSome level) t
        f = g.fresh t c

        inside : t < length rows
        inside = subst (λ u. u < length rows) f.2.to (table.in_range f.2.face f.2.gluing f.2.glued)

        walk : Level rows (suc d) t
        walk = subst (Level rows (suc d)) f.2.to (level_more rows d f.2.face.tet f.2.face.face f.2.gluing (distance_level rows f.2.face.tet d ((h.at_level f.2.face.tet).0 f.2.crossed).1) f.2.glued)

    marked_distance : (t j : ℕ) → t < length rows → mark_of new t ≡ Some j → IsDistance rows t j × (j ≤ d + 1)
    marked_distance t j l e = elim (g.marked t j e) [
      | inl was ↦ let k = (h.reported t j l).0 was in (k.0, let m : j ≤ d = k.1 in omega arith)
      | inr c ↦ (subst (IsDistance rows t) (sym c.1) (fresh_distance t c.0).1, let m : j ≡ d + 1 = c.1 in omega arith)
    ]

    distance_marked : (t j : ℕ) → t < length rows → IsDistance rows t j → j ≤ d + 1 → mark_of new t ≡ Some j
    distance_marked t j l k m = elim (cases_lt d j) [
      | inr low ↦ g.kept t j ((h.reported t j l).1 (k, low))
      | inl high ↦
          let e : j ≡ suc d = omega arith in
          let b = before d t (subst (IsDistance rows t) e k) in
          let some = g.all b.face b.gluing ((h.at_level b.face.tet).1 (glued_tet rows b.face b.gluing b.glued, b.distance)) b.glued in
          let here : mark_of new t ≡ Some some.0 = subst (λ u. mark_of new u ≡ Some some.0) b.to some.1 in
          let same : some.0 ≡ j = one_distance rows t some.0 j (marked_distance t some.0 l here).0 k in
          here ∙ ap (λ i. Some i) same
    ]

    pub searched_on : IsSearched rows (d + 1) new next
    searched_on = record {
      one_each = g.one_each ∙ h.one_each;
      reported = λ t j l. (marked_distance t j l, λ k. distance_marked t j l k.0 k.1);
      at_level = λ t. (
        fresh_distance t,
        λ k. elim (g.marked t (d + 1) (distance_marked t (d + 1) k.0 k.1 (omega arith))) [
          | inr c ↦ c.0
          | inl was ↦ let m : d + 1 ≤ d = ((h.reported t (d + 1) k.0).0 was).1 in absurd (omega arith)
        ],
      );
    }

  -- ---- an empty level ends the search

  pub searched_end : (d : ℕ) (marks : List (Option ℕ)) → IsSearched rows d marks [] → AreDistances rows marks
  searched_end d marks h = record {
    one_each = h.one_each;
    reported = λ t j l. (
      λ e. ((h.reported t j l).0 e).0,
      λ k. elim (cases_lt d j) [
        | inr low ↦ (h.reported t j l).1 (k, low)
        | inl high ↦ let u = lower (j - d) d t l (subst (IsDistance rows t) (omega arith) k) in absurd (contains_nil u.0 ((h.at_level u.0).1 (u.1, u.2)))
      ],
    );
  }

  -- ---- the start

  zero_distance : IsDistance rows 0 0
  zero_distance = record { crossed = []; long = refl; led = refl; least = λ other led. omega arith }

  pub searched_start : (marks : List (Option ℕ)) (level : List ℕ) → 0 < length rows → marks ≡ set (replicate (length rows) None) 0 (Some 0) → level ≡ 0 ∷ [] → IsSearched rows 0 marks level
  searched_start marks level some e f = record {
    one_each = ap length e ∙ length-set (replicate (length rows) None) 0 (Some 0) ∙ length-replicate (length rows) None;
    reported = λ t j l. elim (cases_eq t 0) [
      | inl z ↦ (
        λ m. let w : Some 0 ≡ Some j = sym at_zero ∙ ap (mark_of marks) (sym z) ∙ m in let y : 0 ≡ j = cc in
            (subst (λ u. IsDistance rows u j) (sym z) (subst (IsDistance rows 0) y zero_distance), omega arith),
        λ k. ap (mark_of marks) z ∙ at_zero ∙ ap (λ i. Some i) (let m : j ≤ 0 = k.1 in omega arith),
      )
      | inr n ↦ (
        λ m. absurd (let w : None ≡ Some j = sym (at_other t n l) ∙ m in cc),
        λ k. absurd (let m : j ≤ 0 = k.1 in let y : j ≡ 0 = omega arith in n (level_zero rows t (distance_level rows t 0 (subst (IsDistance rows t) y k.0)))),
      )
    ];
    at_level = λ t. (
      λ c. let z : t ≡ 0 = contains_one 0 t (subst (λ (xs : List ℕ). Contains xs t) f c) in (subst (λ u. u < length rows) (sym z) some, subst (λ u. IsDistance rows u 0) (sym z) zero_distance),
      λ k. subst (λ (xs : List ℕ). Contains xs t) (sym f) (0, omega arith, sym (level_zero rows t (distance_level rows t 0 k.1))),
    );
  }
    where
      at_zero : mark_of marks 0 ≡ Some 0
      at_zero = ap (λ (ms : List (Option ℕ)). mark_of ms 0) e ∙ get_or-set_same (replicate (length rows) None) 0 (Some 0) None (omega (arith, length-replicate {A = Option ℕ} (length rows) None))

      at_other : (t : ℕ) → (t ≡ 0 → ⊥) → t < length rows → mark_of marks t ≡ None
      at_other t n l = ap (λ (ms : List (Option ℕ)). mark_of ms t) e ∙ get_or-set_other (replicate (length rows) None) 0 t (Some 0) None n ∙ get_or-replicate (length rows) t None None l

  pub start_count : (marks : List (Option ℕ)) → 0 < length rows → marks ≡ set (replicate (length rows) None) 0 (Some 0) → unmarked marks + 1 ≡ length rows
  start_count marks some e =
      let f : Option ℕ → ℕ = λ o. cond (is_none o) 1 0 in
      let all : List (Option ℕ) = replicate (length rows) None in
      let a : count_by is_none (set all 0 (Some 0)) + f (mark_of all 0) ≡ count_by is_none all + 0 = sum_by-set f all 0 (Some 0) None (omega (arith, length-replicate {A = Option ℕ} (length rows) None)) in
      let b : f (mark_of all 0) ≡ 1 = ap f (get_or-replicate (length rows) 0 None None some) in
      let c : count_by is_none all ≡ length rows * 1 = sum_by-replicate f (length rows) None in
      let m : unmarked marks ≡ count_by is_none (set all 0 (Some 0)) = ap unmarked e in
      omega arith

  -- ---- the tetrahedra of a level are in range, and there are at most as many levels as tetrahedra

  pub level_inside : (d : ℕ) (marks : List (Option ℕ)) (level : List ℕ) → IsSearched rows d marks level → All (λ t. t < length rows) level
  level_inside d marks level h = λ k e l. ((h.at_level (slice_index_or level k e)).0 (Contains-get_or level k e l)).0

  pub bounded_steps : (d : ℕ) (old new : List (Option ℕ)) (level next : List ℕ) (P : Face → Type 0) → IsGrown rows P (d + 1) old new next → 0 < length level → d + (unmarked old + length level) ≤ length rows
      → (d + 1 + (unmarked new + length next) ≤ length rows) × (unmarked new + length next < unmarked old + length level)
  bounded_steps d old new level next P g some limited = let e : unmarked new + length next ≡ unmarked old = g.count in
      let a : d + 1 + (unmarked new + length next) ≤ length rows = omega arith in let b : unmarked new + length next < unmarked old + length level = omega arith in (a, b)
