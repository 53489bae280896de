-- The traversal reads the faces of a table in order, and stops at the first face that is not in order.
use Rattle.std.proofs.Common.{◌≡◌, ℕ, zero, suc, ◌+◌, ◌*◌, ◌/◌, ◌%◌, ◌<◌, ◌≤◌, Bool, true, false, List, [], ◌∷◌, ◌++◌, length, map, Option, Some, None, refl, sym, ap, ◌∙◌, subst, arith, ◌⊎◌, inl, inr, ⊎_elim, append-nil, below_more}
use Rattle.std.specs.Prelude.{nat_lt, not, find, filter_map, ◌||◌, ◌&&◌, ◌==◌}
use Rattle.std.specs.List.{list_all, range_with_len}
use Rattle.std.proofs.lemmas.Bool.{eqb-true, eq-eqb, lt-ltb, le-ltb, cases_lt, cases_eq, and_parts, and_from, or_right, or_from, and_left, and_right, or_left}
use Rattle.std.proofs.lemmas.List.{map-append}
use Rattle.std.proofs.lemmas.List.Elements.{filter_map-append}
use Rattle.basic_lemmas.proofs.Truths.{by_bool, if_true, if_false}
use borrow.Author.Tests.{ltb-true}
use Rattle.table_definitions.specs.Lists.{below, same_list}
use Rattle.table_definitions.specs.Permutation.{identity}
use Rattle.table_definitions.specs.Table.{Gluing, Row, Face, IsTable, glue, other_side, is_face_before}
use Rattle.signature_definitions.specs.WalkOrder.{is_glued_to, is_seen, is_ordered_gluing, is_ordered_at, first_unordered, IsWalkOrdered}
use Rattle.signature_definitions.specs.Spelling.{type_of, seen_gluing, face_types, seen_gluings}
use Rattle.signature_text_laws.specs.Walks.{Walking, with_type, take_glued, take_entry, take_face, walk_begun, IsWalkTo}
use Rattle.signature_text_laws.proofs.Simulation.{faces-places}
use Rattle.signature_text_laws.proofs.SeenLaws.{is_seen-more, is_seen-begun, is_seen-later}
use Rattle.table_definitions.proofs.Marked.{or-false as or_none}
use Rattle.table_definitions.proofs.ListFacts.{below_next}
use Rattle.table_definitions.specs.Places.{face_of}

-- an optional item, as a list
abbrev pub listed : {A : Type 0} → Option A → List A
listed None = []
listed (Some x) = x ∷ []

filter_map-more : {A : Type 0} (F : Face → Option A) (k : ℕ) (o : Option A) → F (face_of k) ≡ o → filter_map F (map face_of (below (k + 1))) ≡ filter_map F (map face_of (below k)) ++ listed o
filter_map-more {A} F k o e =
    ap (λ ks. filter_map F (map face_of ks)) (below_next k) ∙ ap (filter_map F) (map-append face_of (below k) (k ∷ []))
    ∙ filter_map-append F (map face_of (below k)) (face_of k ∷ []) ∙ ap (λ xs. filter_map F (map face_of (below k)) ++ xs) (one o e)
  where
    one : (o : Option A) → F (face_of k) ≡ o → filter_map F (face_of k ∷ []) ≡ listed o
    one None e = rw e refl
    one (Some x) e = rw e refl

-- a test that all numbers of a range pass

list_all-true : (p : ℕ → Bool) (a c : ℕ) → ((u : ℕ) → a ≤ u → u < a + c → p u ≡ true) → list_all p (range_with_len a c) ≡ true
list_all-true p a zero h = refl
list_all-true p a (suc c) h = rw (h a (omega arith) (omega arith)) (list_all-true p (a + 1) c (λ u l m. h u (omega arith) (omega arith)))

list_all-false : (p : ℕ → Bool) (a c u : ℕ) → a ≤ u → u < a + c → p u ≡ false → list_all p (range_with_len a c) ≡ false
list_all-false p a zero u l m e = absurd (omega arith)
list_all-false p a (suc c) u l m e = ⊎_elim
    (λ (same : u ≡ a). let P : ℕ → Type 0 = λ k. p k ≡ false in let f : p a ≡ false = subst P same e in rw f refl)
    (λ (separate : u ≡ a → ⊥). let f : list_all p (range_with_len (a + 1) c) ≡ false = list_all-false p (a + 1) c u (omega arith) (omega arith) e in rw f (and_none (p a)))
    (cases_eq u a)
  where
    and_none : (b : Bool) → (b && false) ≡ false
    and_none true = refl
    and_none false = refl

-- whether a gluing is in order, if exactly the tetrahedra below s are seen
glued_order : (rows : List Row) (x : Face) (g : Gluing) (s : ℕ) → ((u : ℕ) → is_seen rows x u ≡ nat_lt u s)
    → is_ordered_gluing rows x (Some g) ≡ (nat_lt g.tet s || ((g.tet == s) && same_list g.perm identity))
glued_order rows x g s seen = ⊎_elim
    (λ (l : g.tet < s). or_left (is_seen rows x g.tet) _ (seen g.tet ∙ lt-ltb g.tet s l) ∙ sym (or_left (nat_lt g.tet s) _ (lt-ltb g.tet s l)))
    (λ (l : s ≤ g.tet). ⊎_elim
    (λ (same : g.tet ≡ s).
    let all : list_all (is_seen rows x) (below g.tet) ≡ true = list_all-true (is_seen rows x) 0 g.tet (λ u low high. seen u ∙ lt-ltb u s (omega arith)) in
    behind (is_seen rows x g.tet) (nat_lt g.tet s) (list_all (is_seen rows x) (below g.tet)) (g.tet == s) (same_list g.perm identity) (seen g.tet) (all ∙ sym (eq-eqb g.tet s same)))
    (λ (separate : g.tet ≡ s → ⊥).
    let some : list_all (is_seen rows x) (below g.tet) ≡ false = list_all-false (is_seen rows x) 0 g.tet s (omega arith) (omega arith) (seen s ∙ le-ltb s s (omega arith)) in
    behind (is_seen rows x g.tet) (nat_lt g.tet s) (list_all (is_seen rows x) (below g.tet)) (g.tet == s) (same_list g.perm identity) (seen g.tet) (some ∙ sym (ne-eqb g.tet s separate)))
    (cases_eq g.tet s))
    (cases_lt g.tet s)
  where
    behind : (a b c d i : Bool) → a ≡ b → c ≡ d → (a || (c && i)) ≡ (b || (d && i))
    behind a b c d i e f = cc

    ne-eqb : (a b : ℕ) → (a ≡ b → ⊥) → (a == b) ≡ false
    ne-eqb a b h = by_bool (a == b) (λ e. absurd (h (eqb-true a b e))) (λ e. e)

-- the index of the first face of a tetrahedron
abbrev first_place : ℕ → ℕ
first_place k = 4 * (k / 4)

start : (k : ℕ) → record { tet = k / 4; face = 0 } ≡ face_of (first_place k)
start k = let a : k / 4 ≡ 4 * (k / 4) / 4 = omega arith in let b : 0 ≡ 4 * (k / 4) % 4 = omega arith in λ i. record { tet = a i; face = b i }

-- whether the tetrahedron of a face was seen before its faces were read
tet_begun : (rows : List Row) (k : ℕ) (w : Walking) → k < 4 * length rows → IsWalkTo rows k w → is_seen rows (record { tet = k / 4; face = 0 }) (k / 4) ≡ nat_lt (k / 4) w.seen
tet_begun rows k w l h = ⊎_elim
    (λ (early : first_place k < k).
    let t : first_place k / 4 ≡ k / 4 = omega arith in
    let before = h.ordered (first_place k) early in
    let parts = and_parts (is_seen rows (record { tet = first_place k / 4; face = 0 }) (first_place k / 4)) (is_ordered_gluing rows (face_of (first_place k)) (glue rows (face_of (first_place k)))) before in
    let P : ℕ → Type 0 = λ m. is_seen rows (record { tet = m; face = 0 }) m ≡ true in
    let here : is_seen rows (record { tet = k / 4; face = 0 }) (k / 4) ≡ true = subst P t parts.0 in
    let at_first : is_seen rows (face_of (first_place k)) (k / 4) ≡ true = ap (λ y. is_seen rows y (k / 4)) (sym (start k)) ∙ here in
    let d : first_place k + k % 4 ≡ k = omega arith in
    let Q : ℕ → Type 0 = λ m. is_seen rows (face_of m) (k / 4) ≡ true in
    let later : is_seen rows (face_of k) (k / 4) ≡ true = subst Q d (is_seen-later rows (first_place k) (k % 4) (k / 4) (omega arith) at_first) in
    here ∙ sym later ∙ h.seen (k / 4))
    (λ (late : k ≤ first_place k).
    let same : first_place k ≡ k = omega arith in
    ap (λ y. is_seen rows y (k / 4)) (start k ∙ ap face_of same) ∙ h.seen (k / 4))
    (cases_lt (first_place k) k)

-- a further face
walk_more : (rows : List Row) (k : ℕ) (w v : Walking) (o : Option Gluing) (t : Option ℕ) (q : Option Gluing) → k < 4 * length rows → IsWalkTo rows k w → glue rows (face_of k) ≡ o
    → ((u : ℕ) → (nat_lt u w.seen || is_glued_to u o) ≡ nat_lt u v.seen) → is_ordered_at rows (face_of k) ≡ true → type_of rows (face_of k) o ≡ t → seen_gluing rows (face_of k) o ≡ q
    → v.types ≡ w.types ++ listed t → v.gluings ≡ w.gluings ++ listed q → (0 < length rows → v.seen ≤ length rows) → IsWalkTo rows (k + 1) v
walk_more rows k w v o t q l h e seen ordered type gluing types gluings most = record {
  seen = λ u. is_seen-more rows k u (omega arith) ∙ ap (λ b. b || is_glued_to u (glue rows (face_of k))) (h.seen u) ∙ ap (λ p. nat_lt u w.seen || is_glued_to u p) e ∙ seen u;
  ordered = below_more _ k h.ordered ordered;
  types = types ∙ ap (λ ts. ts ++ listed t) h.types ∙ sym (filter_map-more (λ x. type_of rows x (glue rows x)) k t (ap (type_of rows (face_of k)) e ∙ type));
  gluings = gluings ∙ ap (λ gs. gs ++ listed q) h.gluings ∙ sym (filter_map-more (λ x. seen_gluing rows x (glue rows x)) k q (ap (seen_gluing rows (face_of k)) e ∙ gluing));
  most = most;
}

pub seen_same : (u s t : ℕ) → t < s → (nat_lt u s || (t == u)) ≡ nat_lt u s
seen_same u s t l = ⊎_elim
    (λ (b : u < s). or_left (nat_lt u s) (t == u) (lt-ltb u s b) ∙ sym (lt-ltb u s b))
    (λ (b : s ≤ u). let ne : (t == u) ≡ false = by_bool (t == u) (λ e. absurd (let f = eqb-true t u e in omega (arith, f))) (λ e. e) in rw (le-ltb u s b, ne) refl)
    (cases_lt u s)

pub seen_next : (u s t : ℕ) → t ≡ s → (nat_lt u s || (t == u)) ≡ nat_lt u (s + 1)
seen_next u s t same = ⊎_elim
    (λ (b : u < s). or_left (nat_lt u s) (t == u) (lt-ltb u s b) ∙ sym (lt-ltb u (s + 1) (omega arith)))
    (λ (b : s ≤ u). ⊎_elim
    (λ (e : t ≡ u). let f : u < s + 1 = omega arith in rw (le-ltb u s b, eq-eqb t u e, lt-ltb u (s + 1) f) refl)
    (λ (ne : t ≡ u → ⊥). let f : s + 1 ≤ u = omega arith in let g : (t == u) ≡ false = by_bool (t == u) (λ e. absurd (ne (eqb-true t u e))) (λ e. e) in rw (le-ltb u s b, g, le-ltb u (s + 1) f) refl)
    (cases_eq t u))
    (cases_lt u s)

pub some_same : (w v : Walking) → Some w ≡ Some v → w ≡ v
some_same w v e = cc

-- a face before another lies in no later tetrahedron
before_tet : (x y : Face) → is_face_before y x ≡ true → y.tet ≤ x.tet
before_tet x y h = ⊎_elim (λ (l : y.tet ≤ x.tet). l) (λ (l : x.tet < y.tet). absurd (grind arith)) (cases_le y.tet x.tet)
  where
    cases_le : (a b : ℕ) → (a ≤ b) ⊎ (b < a)
    cases_le a b = ⊎_elim (λ (l : b < a). inr l) (λ (l : a ≤ b). inl l) (cases_lt b a)

-- the face at index k is in order if its gluing is, since its tetrahedron is seen
ordered_here : (rows : List Row) (k : ℕ) (w : Walking) (o : Option Gluing) → k < 4 * length rows → IsWalkTo rows k w → glue rows (face_of k) ≡ o → nat_lt (k / 4) w.seen ≡ true
    → is_ordered_gluing rows (face_of k) o ≡ true → is_ordered_at rows (face_of k) ≡ true
ordered_here rows k w o l h e seen ordered =
    and_from _ _ (tet_begun rows k w l h ∙ seen) (ap (is_ordered_gluing rows (face_of k)) e ∙ ordered)

glued_on : (rows : List Row) (k : ℕ) (w v : Walking) (g : Gluing) → IsTable rows → k < 4 * length rows → IsWalkTo rows k w → glue rows (face_of k) ≡ Some g → nat_lt (k / 4) w.seen ≡ true
    → take_glued (face_of k) g w ≡ Some v → IsWalkTo rows (k + 1) v
glued_on rows k w v g table l h e seen taken = by_bool (is_face_before (other_side (face_of k) g) (face_of k))
    (λ before.
    let made : w ≡ v = some_same w v (sym (if_true _ _ _ before) ∙ taken) in
    let b : g.tet ≤ k / 4 = before_tet (face_of k) (other_side (face_of k) g) before in
    let s : k / 4 < w.seen = ltb-true (k / 4) w.seen seen in
    let lt : g.tet < w.seen = omega arith in
    let ordered : is_ordered_gluing rows (face_of k) (Some g) ≡ true = or_left _ _ (h.seen g.tet ∙ lt-ltb g.tet w.seen lt) in
    subst (IsWalkTo rows (k + 1)) made (walk_more rows k w w (Some g) None None l h e (λ u. seen_same u w.seen g.tet lt) (ordered_here rows k w (Some g) l h e seen ordered)
    (rw before refl) (rw before refl) (sym (append-nil w.types)) (sym (append-nil w.gluings)) h.most))
    (λ later.
    let rest = sym (if_false _ _ _ later) ∙ taken in
    by_bool (nat_lt g.tet w.seen)
    (λ old.
    let lt : g.tet < w.seen = ltb-true g.tet w.seen old in
    let made : record w { types = w.types ++ 2 ∷ []; gluings = w.gluings ++ g ∷ [] } ≡ v = some_same _ v (sym (if_true _ _ _ old) ∙ rest) in
    let is_old : is_seen rows (face_of k) g.tet ≡ true = h.seen g.tet ∙ old in
    let ordered : is_ordered_gluing rows (face_of k) (Some g) ≡ true = or_left _ _ is_old in
    subst (IsWalkTo rows (k + 1)) made (walk_more rows k w (record w { types = w.types ++ 2 ∷ []; gluings = w.gluings ++ g ∷ [] }) (Some g) (Some 2) (Some g) l h e
    (λ u. seen_same u w.seen g.tet lt) (ordered_here rows k w (Some g) l h e seen ordered) (rw (later, is_old) refl) (rw (later, is_old) refl) refl refl h.most))
    (λ new.
    let last = sym (if_false _ _ _ new) ∙ rest in
    by_bool ((g.tet == w.seen) && same_list g.perm identity)
    (λ next.
    let made : record w { seen = w.seen + 1; types = w.types ++ 1 ∷ [] } ≡ v = some_same _ v (sym (if_true _ _ _ next) ∙ last) in
    let parts = and_parts (g.tet == w.seen) (same_list g.perm identity) next in
    let same : g.tet ≡ w.seen = eqb-true g.tet w.seen parts.0 in
    let is_new : is_seen rows (face_of k) g.tet ≡ false = h.seen g.tet ∙ new in
    let ordered : is_ordered_gluing rows (face_of k) (Some g) ≡ true = glued_order rows (face_of k) g w.seen h.seen ∙ or_right _ _ next in
    let inside : g.tet < length rows = table.in_range (face_of k) g e in
    subst (IsWalkTo rows (k + 1)) made (walk_more rows k w (record w { seen = w.seen + 1; types = w.types ++ 1 ∷ [] }) (Some g) (Some 1) None l h e
    (λ u. seen_next u w.seen g.tet same) (ordered_here rows k w (Some g) l h e seen ordered) (rw (later, is_new) refl) (rw (later, is_new) refl) refl (sym (append-nil w.gluings)) (λ some. omega arith)))
    (λ none. absurd (let never = sym (if_false _ _ _ none) ∙ last in cc))))

-- a face that is read is in order
pub takes_on : (rows : List Row) (k : ℕ) (w v : Walking) → IsTable rows → k < 4 * length rows → IsWalkTo rows k w → take_face rows (face_of k) w ≡ Some v → IsWalkTo rows (k + 1) v
takes_on rows k w v table l h taken = by_bool (nat_lt (k / 4) w.seen)
    (λ seen. entry (glue rows (face_of k)) refl seen (sym (if_true (nat_lt (k / 4) w.seen) (take_entry (face_of k) (glue rows (face_of k)) w) None seen) ∙ taken))
    (λ unseen. absurd (let never = sym (if_false (nat_lt (k / 4) w.seen) (take_entry (face_of k) (glue rows (face_of k)) w) None unseen) ∙ taken in cc))
  where
    entry : (o : Option Gluing) → glue rows (face_of k) ≡ o → nat_lt (k / 4) w.seen ≡ true → take_entry (face_of k) o w ≡ Some v → IsWalkTo rows (k + 1) v
    entry None e seen made =
        subst (IsWalkTo rows (k + 1)) (some_same (with_type 0 w) v made)
        (walk_more rows k w (with_type 0 w) None (Some 0) None l h e (λ u. or_none (nat_lt u w.seen)) (ordered_here rows k w None l h e seen refl) refl refl refl (sym (append-nil w.gluings)) h.most)
    entry (Some g) e seen made = glued_on rows k w v g table l h e seen made

-- a face that is not read is not in order
glued_off : (rows : List Row) (k : ℕ) (w : Walking) (g : Gluing) → ((u : ℕ) → is_seen rows (face_of k) u ≡ nat_lt u w.seen) → take_glued (face_of k) g w ≡ None
    → is_ordered_gluing rows (face_of k) (Some g) ≡ false
glued_off rows k w g seen stopped = by_bool (is_face_before (other_side (face_of k) g) (face_of k))
    (λ before. absurd (let never = sym (if_true _ _ _ before) ∙ stopped in cc))
    (λ later. let rest = sym (if_false _ _ _ later) ∙ stopped in by_bool (nat_lt g.tet w.seen)
    (λ old. absurd (let never = sym (if_true _ _ _ old) ∙ rest in cc))
    (λ new. let last = sym (if_false _ _ _ new) ∙ rest in by_bool ((g.tet == w.seen) && same_list g.perm identity)
    (λ next. absurd (let never = sym (if_true _ _ _ next) ∙ last in cc))
    (λ none. glued_order rows (face_of k) g w.seen seen ∙ or_from (nat_lt g.tet w.seen) _ new none)))

pub takes_off : (rows : List Row) (k : ℕ) (w : Walking) → k < 4 * length rows → IsWalkTo rows k w → take_face rows (face_of k) w ≡ None → is_ordered_at rows (face_of k) ≡ false
takes_off rows k w l h stopped = by_bool (nat_lt (k / 4) w.seen)
    (λ seen. and_right (is_seen rows (record { tet = k / 4; face = 0 }) (k / 4)) (is_ordered_gluing rows (face_of k) (glue rows (face_of k)))
    (entry (glue rows (face_of k)) (sym (if_true (nat_lt (k / 4) w.seen) (take_entry (face_of k) (glue rows (face_of k)) w) None seen) ∙ stopped)))
    (λ unseen. and_left (is_seen rows (record { tet = k / 4; face = 0 }) (k / 4)) (is_ordered_gluing rows (face_of k) (glue rows (face_of k))) (tet_begun rows k w l h ∙ unseen))
  where
    entry : (o : Option Gluing) → take_entry (face_of k) o w ≡ None → is_ordered_gluing rows (face_of k) o ≡ false
    entry None e = absurd cc
    entry (Some g) e = glued_off rows k w g h.seen e

-- before the first face
pub walk_begins : (rows : List Row) → IsWalkTo rows 0 walk_begun
walk_begins rows = record {
  seen = λ u. is_seen-begun rows u ∙ only_zero u;
  ordered = λ m l. absurd (omega arith);
  types = refl;
  gluings = refl;
  most = λ some. some;
}
  where
    only_zero : (u : ℕ) → (u == 0) ≡ nat_lt u 1
    only_zero u = grind arith

-- after the last face
pub list_all-map : {A B : Type 0} (p : B → Bool) (f : A → B) (xs : List A) → list_all p (map f xs) ≡ list_all (λ x. p (f x)) xs
list_all-map p f [] = refl
list_all-map p f (x ∷ xs) = ap (λ b. p (f x) && b) (list_all-map p f xs)

pub walk_ordered : (rows : List Row) (k : ℕ) (w : Walking) → k ≡ 4 * length rows → IsWalkTo rows k w → IsWalkOrdered rows
walk_ordered rows k w e h =
    ap (list_all (is_ordered_at rows)) (faces-places (length rows)) ∙ list_all-map (is_ordered_at rows) face_of (below (4 * length rows))
    ∙ list_all-true (λ m. is_ordered_at rows (face_of m)) 0 (4 * length rows) (λ m low high. h.ordered m (omega arith))

pub walk_types : (rows : List Row) (k : ℕ) (w : Walking) → k ≡ 4 * length rows → IsWalkTo rows k w → w.types ≡ face_types rows
walk_types rows k w e h = h.types ∙ ap (λ m. filter_map (λ x. type_of rows x (glue rows x)) (map face_of (below m))) e ∙ ap (filter_map (λ x. type_of rows x (glue rows x))) (sym (faces-places (length rows)))

pub walk_gluings : (rows : List Row) (k : ℕ) (w : Walking) → k ≡ 4 * length rows → IsWalkTo rows k w → w.gluings ≡ seen_gluings rows
walk_gluings rows k w e h = h.gluings ∙ ap (λ m. filter_map (λ x. seen_gluing rows x (glue rows x)) (map face_of (below m))) e ∙ ap (filter_map (λ x. seen_gluing rows x (glue rows x))) (sym (faces-places (length rows)))

-- the first face that is not in order
find_at : (p : Face → Bool) (a c k : ℕ) → a ≤ k → k < a + c → ((m : ℕ) → a ≤ m → m < k → p (face_of m) ≡ false) → p (face_of k) ≡ true → find p (map face_of (range_with_len a c)) ≡ Some (face_of k)
find_at p a zero k low high before here = absurd (omega arith)
find_at p a (suc c) k low high before here = ⊎_elim
    (λ (same : a ≡ k). let P : ℕ → Type 0 = λ m. p (face_of m) ≡ true in let h : p (face_of a) ≡ true = subst P (sym same) here in rw h (ap (λ m. Some (face_of m)) same))
    (λ (separate : a ≡ k → ⊥). let h : p (face_of a) ≡ false = before a (omega arith) (omega arith) in
    rw h (find_at p (a + 1) c k (omega arith) (omega arith) (λ m l u. before m (omega arith) u) here))
    (cases_eq a k)

pub first_unordered-at : (rows : List Row) (k : ℕ) (w : Walking) → k < 4 * length rows → IsWalkTo rows k w → is_ordered_at rows (face_of k) ≡ false → first_unordered rows ≡ Some (face_of k)
unfolding first_unordered
first_unordered-at rows k w l h e =
    ap (find (λ x. not (is_ordered_at rows x))) (faces-places (length rows))
    ∙ find_at (λ x. not (is_ordered_at rows x)) 0 (4 * length rows) k (omega arith) (omega arith) (λ m low high. ap not (h.ordered m high)) (ap not e)
