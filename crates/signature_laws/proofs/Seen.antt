-- The tetrahedra that are seen in a walk-ordered table are those below a number.
use Rattle.std.proofs.Common.{◌≡◌, ℕ, ◌+◌, ◌-◌, ◌*◌, ◌/◌, ◌%◌, ◌<◌, ◌≤◌, true, List, length, map, get_or, Option, Some, None, sym, ap, ◌∙◌, arith, ⊎_elim}
use Rattle.std.specs.Prelude.{◌==◌, ◌||◌, ◌&&◌, nat_lt}
use Rattle.std.specs.List.{list_all}
use Rattle.std.proofs.lemmas.Bool.{eqb-true, eq-eqb, ltb-true, lt-ltb, le-ltb, and_parts, or_cases, cases_lt, cases_eq}
use Rattle.std.proofs.lemmas.List.FromFn.{get_or-map-range_with_len, length-map-range_with_len}
use Rattle.basic_lemmas.proofs.Truths.{by_bool}
use Rattle.table_definitions.specs.Lists.{below, same_list}
use Rattle.table_definitions.specs.Permutation.{identity}
use Rattle.table_definitions.specs.Table.{Gluing, Row, Face, glue}
use Rattle.signature_definitions.specs.WalkOrder.{is_glued_to, is_seen, is_ordered_gluing, is_ordered_at, IsWalkOrdered}
use Rattle.table_definitions.proofs.ListFacts.{list_all-at, list_all-below, same_list-true}
use Rattle.signature_text_laws.proofs.Simulation.{faces-places}
use Rattle.signature_text_laws.proofs.SeenLaws.{is_seen-more, is_seen-begun, is_seen-later}
use Rattle.table_definitions.proofs.Marked.{or-false as or_none}
use Rattle.table_definitions.specs.Places.{face_of}
use Rattle.signature_text_laws.proofs.WalkLaws.{seen_same, seen_next}

-- exactly the tetrahedra below s are seen before the face at index k is read
abbrev pub SeenBelow : List Row → ℕ → ℕ → Type 0
SeenBelow rows k s = (u : ℕ) → is_seen rows (face_of k) u ≡ nat_lt u s

pub ordered_at : (rows : List Row) → IsWalkOrdered rows → (k : ℕ) → k < 4 * length rows → is_ordered_at rows (face_of k) ≡ true
ordered_at rows ordered k l =
    let at : get_or (map face_of (below (4 * length rows))) k (face_of 0) ≡ face_of k = get_or-map-range_with_len face_of 0 (4 * length rows) k k (face_of 0) l (omega arith) in
    let all : list_all (is_ordered_at rows) (map face_of (below (4 * length rows))) ≡ true = ap (list_all (is_ordered_at rows)) (sym (faces-places (length rows))) ∙ ordered in
    let long : length (map face_of (below (4 * length rows))) ≡ 4 * length rows = length-map-range_with_len face_of 0 (4 * length rows) in
    ap (is_ordered_at rows) (sym at) ∙ list_all-at (is_ordered_at rows) (map face_of (below (4 * length rows))) all k (face_of 0) (omega (arith, long))

-- a tetrahedron is seen before its first face is read
first_seen : (rows : List Row) → IsWalkOrdered rows → (v : ℕ) → v < length rows → is_seen rows (face_of (4 * v)) v ≡ true
first_seen rows ordered v l =
    let t : 4 * v / 4 ≡ v = omega arith in
    let f : 4 * v % 4 ≡ 0 = omega arith in
    let parts = and_parts (is_seen rows (record { tet = 4 * v / 4; face = 0 }) (4 * v / 4)) (is_ordered_gluing rows (face_of (4 * v)) (glue rows (face_of (4 * v)))) (ordered_at rows ordered (4 * v) (omega arith)) in
    let mk : ℕ → ℕ → Face = λ a b. record { tet = a; face = b } in
    ap (λ b. is_seen rows (mk (4 * v / 4) b) v) f ∙ ap (λ a. is_seen rows (mk (4 * v / 4) 0) a) (sym t) ∙ parts.0

pub tet_below : (rows : List Row) → IsWalkOrdered rows → (v k s : ℕ) → v < length rows → 4 * v ≤ k → k ≤ 4 * length rows → SeenBelow rows k s → v < s
tet_below rows ordered v k s l m n seen =
    let d : 4 * v + (k - 4 * v) ≡ k = omega arith in
    let later : is_seen rows (face_of (4 * v + (k - 4 * v))) v ≡ true = is_seen-later rows (4 * v) (k - 4 * v) v (omega arith) (first_seen rows ordered v l) in
    ltb-true v s (sym (seen v) ∙ ap (λ j. is_seen rows (face_of j) v) (sym d) ∙ later)

pub seen_begun : (rows : List Row) → SeenBelow rows 0 1
seen_begun rows u = is_seen-begun rows u ∙ only u
  where
    only : (u : ℕ) → (u == 0) ≡ nat_lt u 1
    only u = ⊎_elim (λ (e : u ≡ 0). eq-eqb u 0 e ∙ sym (lt-ltb u 1 (omega arith)))
        (λ (d : u ≡ 0 → ⊥). by_bool (u == 0) (λ e. absurd (d (eqb-true u 0 e))) (λ e. e) ∙ sym (le-ltb u 1 (omega arith)))
        (cases_eq u 0)

more : (rows : List Row) (k s : ℕ) (o : Option Gluing) (u : ℕ) → k < 4 * length rows → SeenBelow rows k s → glue rows (face_of k) ≡ o → is_seen rows (face_of (k + 1)) u ≡ (nat_lt u s || is_glued_to u o)
more rows k s o u l seen e = is_seen-more rows k u (omega arith) ∙ ap (λ b. b || is_glued_to u (glue rows (face_of k))) (seen u) ∙ ap (λ p. nat_lt u s || is_glued_to u p) e

-- a boundary face, a face that is glued to a tetrahedron already seen, and one that is glued to one not yet seen
pub at_boundary : (rows : List Row) (k s : ℕ) → k < 4 * length rows → SeenBelow rows k s → glue rows (face_of k) ≡ None → SeenBelow rows (k + 1) s
at_boundary rows k s l seen e u = more rows k s None u l seen e ∙ or_none (nat_lt u s)

pub to_seen : (rows : List Row) (k s : ℕ) (g : Gluing) → k < 4 * length rows → SeenBelow rows k s → glue rows (face_of k) ≡ Some g → g.tet < s → SeenBelow rows (k + 1) s
to_seen rows k s g l seen e m u = more rows k s (Some g) u l seen e ∙ seen_same u s g.tet m

pub record LeadsOn (rows : List Row) (k s : ℕ) (g : Gluing) : Type 0 where
  pub next : g.tet ≡ s
  pub identical : g.perm ≡ identity
  pub seen : SeenBelow rows (k + 1) (s + 1)

pub to_next : (rows : List Row) (k s : ℕ) (g : Gluing) → IsWalkOrdered rows → k < 4 * length rows → SeenBelow rows k s → glue rows (face_of k) ≡ Some g → s ≤ g.tet → LeadsOn rows k s g
to_next rows k s g ordered l seen e m =
    let x : Face = face_of k in
    let parts = and_parts (is_seen rows (record { tet = x.tet; face = 0 }) x.tet) (is_ordered_gluing rows x (glue rows x)) (ordered_at rows ordered k l) in
    let here : is_ordered_gluing rows x (Some g) ≡ true = ap (is_ordered_gluing rows x) (sym e) ∙ parts.1 in
    ⊎_elim (λ (old : is_seen rows x g.tet ≡ true). absurd (let b = ltb-true g.tet s (sym (seen g.tet) ∙ old) in omega (arith, b)))
    (λ (new : (list_all (is_seen rows x) (below g.tet) && same_list g.perm identity) ≡ true).
    let both = and_parts (list_all (is_seen rows x) (below g.tet)) (same_list g.perm identity) new in
    let next : g.tet ≡ s = ⊎_elim (λ (b : s < g.tet). absurd (let c = ltb-true s s (sym (seen s) ∙ list_all-below (is_seen rows x) g.tet both.0 s b) in omega (arith, c))) (λ (b : g.tet ≤ s). omega arith) (cases_lt s g.tet) in
    record { next = next; identical = same_list-true g.perm identity both.1; seen = λ u. more rows k s (Some g) u l seen e ∙ seen_next u s g.tet next })
    (or_cases (is_seen rows x g.tet) (list_all (is_seen rows x) (below g.tet) && same_list g.perm identity) here)
