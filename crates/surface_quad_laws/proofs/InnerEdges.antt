-- Around an internal edge each corner has a next one.
use Rattle.std.proofs.Common.{◌≡◌, ◌≢◌, ℕ, ◌+◌, ◌*◌, ◌/◌, ◌%◌, ◌<◌, Bool, true, false, List, [], ◌∷◌, length, Option, Some, None, ◌⊎◌, inl, inr, refl, sym, ap, ◌∙◌, subst, arith}
use Rattle.std.specs.Prelude.{◌==◌, ◌&&◌, not, is_none, slice_index}
use Rattle.std.specs.List.{list_any}
use Rattle.std.proofs.lemmas.Bool.{eq-eqb, ne_eqb, or_parts}
use Rattle.table_definitions.specs.Lists.{below, has}
use Rattle.table_definitions.specs.Permutation.{four}
use Rattle.table_definitions.specs.Table.{Gluing, Row, glue, IsTable}
use Rattle.table_definitions.specs.Classes.{IsNumbering, least}
use Rattle.table_definitions.specs.Places.{carried, edge, ends, edge_number, backwards, IsJoined, SameEdge, is_boundary, lies_in_boundary, is_boundary_edge}
use Rattle.table_definitions.proofs.TableLaws.{Among, Among-below, Among-four}
use Rattle.table_definitions.proofs.ClassLaws.{least_class}
use Rattle.table_definitions.proofs.ChainLaws.{joined_refl, joined_more, across_by}
use Rattle.skeleton_definitions.specs.Corners.{Corner, first_corner, step, Reaches, left_through}
use Rattle.surface_laws.proofs.CornerSteps.{LeadsOn, IsStep, step_is}
use Rattle.surface_quad_laws.proofs.Rounds.{HasFourVertices, first_has_four, behind_in, kept_by_steps}
use Rattle.skeleton_class_laws.specs.Crossings.{pair}
use Rattle.skeleton_class_laws.proofs.Cases.{ends-edge_number}
use Rattle.skeleton_class_laws.proofs.EdgeTies.{edge_pair, edge_by_ends}

-- a test that no item passes
pub any_nowhere : {A : Type 0} (p : A → Bool) (xs : List A) (x : A) → list_any p xs ≡ false → Among x xs → p x ≡ false
any_nowhere p [] x h a = absurd a
any_nowhere p (y ∷ ys) x h (inl e) = ap p e ∙ (or_parts (p y) (list_any p ys) h).0
any_nowhere p (y ∷ ys) x h (inr a) = any_nowhere p ys x (or_parts (p y) (list_any p ys) h).1 a

pub and_none : (a b : Bool) → (a && b) ≡ false → a ≡ true → b ≡ false
and_none true b h e = h
and_none false b h e = absurd cc

pub some_there : {A : Type 0} (o : Option A) → is_none o ≡ false → (x : A) × (o ≡ Some x)
some_there None h = absurd cc
some_there (Some x) h = (x, refl)

-- the edge of two different vertices, in either direction
pub record HasEdge (a b : ℕ) : Type 0 where
  pub small : edge_number a b < 6
  pub ends_are : (ends (edge_number a b) ≡ a ∷ b ∷ []) ⊎ (ends (edge_number a b) ≡ b ∷ a ∷ [])

pub has_edge : (a b : ℕ) → a < 4 → b < 4 → a ≢ b → HasEdge a b
has_edge a b la lb separate = let e = ends-edge_number a b la lb separate in record { small = e.0; ends_are = e.1 }

abbrev pub edge_at : ℕ → ℕ → ℕ → ℕ
edge_at t a b = 6 * t + edge_number a b

pub tet_at : (t e : ℕ) → e < 6 → (6 * t + e) / 6 ≡ t
tet_at t e l = omega arith

pub rest_at : (t e : ℕ) → e < 6 → (6 * t + e) % 6 ≡ e
rest_at t e l = omega arith

-- the two vertices are the ends of the edge, in one direction or the other
pub same_edge : (rows : List Row) (i t a b : ℕ) → HasEdge a b → IsJoined rows (edge i) (pair t a b) → SameEdge rows i (edge_at t a b)
same_edge rows i t a b h j = by_ends h.ends_are
  where
    by_ends : (ends (edge_number a b) ≡ a ∷ b ∷ []) ⊎ (ends (edge_number a b) ≡ b ∷ a ∷ []) → SameEdge rows i (edge_at t a b)
    by_ends (inl e) = inl (subst (IsJoined rows (edge i)) (sym (edge_by_ends t a b a b h.small e)) j)
    by_ends (inr e) = inr (subst (IsJoined rows (edge i)) (sym (ap backwards (edge_by_ends t a b b a h.small e))) j)

-- the two vertices are not opposite the face, so the face contains their edge
pub off_edge : (a b c : ℕ) → HasEdge a b → a ≢ c → b ≢ c → has (ends (edge_number a b)) c ≡ false
off_edge a b c h ac bc = by_ends h.ends_are
  where
    ha : (a == c) ≡ false
    ha = ne_eqb a c ac

    hb : (b == c) ≡ false
    hb = ne_eqb b c bc

    by_ends : (ends (edge_number a b) ≡ a ∷ b ∷ []) ⊎ (ends (edge_number a b) ≡ b ∷ a ∷ []) → has (ends (edge_number a b)) c ≡ false
    by_ends (inl e) = ap (λ (vs : List ℕ). has vs c) e ∙ rw (ha, hb) refl
    by_ends (inr e) = ap (λ (vs : List ℕ). has vs c) e ∙ rw (hb, ha) refl

module _ (rows : List Row) (table : IsTable rows) (classes : List ℕ) (count : ℕ) (numbered : IsNumbering (6 * length rows) (SameEdge rows) classes count) (c : ℕ) (lc : c < count) where
  abbrev pub start : ℕ
  start = least classes c

  pub start_below : start < 6 * length rows
  start_below = (least_class (6 * length rows) (SameEdge rows) classes count numbered c lc).0

  pub start_class : slice_index classes start ≡ c
  start_class = (least_class (6 * length rows) (SameEdge rows) classes count numbered c lc).1

  -- a corner in range at an edge of the class
  pub record IsRound (k : Corner) : Type 0 where
    pub four : HasFourVertices (length rows) k
    pub joined : IsJoined rows (edge start) (pair k.tet k.a k.b)

  pub first_round : IsRound (first_corner start)
  first_round = record { four = first_has_four (length rows) start start_below; joined = subst (IsJoined rows (edge start)) (edge_pair start) (joined_refl rows (edge start)) }

  round_step : (k l : Corner) → IsRound k → step rows k ≡ Some l → IsRound l
  round_step k l r e =
      let s : IsStep rows k l = step_is rows k l e in
      let g : Gluing = s.on.g in
      let off : has (k.a ∷ k.b ∷ []) k.c ≡ false = let ha : (k.a == k.c) ≡ false = ne_eqb k.a k.c r.four.ac in let hb : (k.b == k.c) ≡ false = ne_eqb k.b k.c r.four.bc in rw (ha, hb) refl in
      subst IsRound s.is (record {
        four = behind_in rows table k g r.four s.on.glued;
        joined = joined_more rows (edge start) (pair k.tet k.a k.b) k.c (carried g (pair k.tet k.a k.b)) r.joined (across_by rows (pair k.tet k.a k.b) k.c g s.on.glued off);
      })

  pub reached_round : (k : Corner) → Reaches rows (first_corner start) k → IsRound k
  reached_round k r = kept_by_steps rows IsRound round_step r.0 (first_corner start) k first_round r.1

  -- if the edge class is internal, face c is glued
  pub leads_on : is_boundary_edge rows classes c ≡ false → (k : Corner) → IsRound k → LeadsOn rows k
  leads_on inner k r =
      let h : HasEdge k.a k.b = has_edge k.a k.b r.four.a r.four.b r.four.ab in
      let j : ℕ = edge_at k.tet k.a k.b in
      let lj : j < 6 * length rows = omega (arith, r.four.tet, h.small) in
      let cj : slice_index classes j ≡ c = sym ((numbered.together start j start_below lj).1 (same_edge rows start k.tet k.a k.b h r.joined)) ∙ start_class in
      let lies : lies_in_boundary rows j ≡ false = and_none (slice_index classes j == c) (lies_in_boundary rows j)
      (any_nowhere (λ i. (slice_index classes i == c) && lies_in_boundary rows i) (below (length classes)) j inner (Among-below j (length classes) (omega (arith, numbered.one_each)))) (eq-eqb (slice_index classes j) c cj) in
      let off : has (ends (j % 6)) k.c ≡ false = ap (λ e. has (ends e) k.c) (rest_at k.tet (edge_number k.a k.b) h.small) ∙ off_edge k.a k.b k.c h r.four.ac r.four.bc in
      let free : is_boundary rows (record { tet = j / 6; face = k.c }) ≡ false = and_none (not (has (ends (j % 6)) k.c)) (is_boundary rows (record { tet = j / 6; face = k.c }))
      (any_nowhere (λ f. not (has (ends (j % 6)) f) && is_boundary rows (record { tet = j / 6; face = f })) four k.c lies (Among-four k.c r.four.c)) (ap not off) in
      let some = some_there (glue rows (left_through k)) (ap (λ t. is_boundary rows (record { tet = t; face = k.c })) (sym (tet_at k.tet (edge_number k.a k.b) h.small)) ∙ free) in
      record { g = some.0; glued = some.1 }
