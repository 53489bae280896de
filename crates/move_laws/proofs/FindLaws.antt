-- The facets across the faces of the move's tetrahedron, one label after another, and their first error.
use Rattle.std.proofs.Common.{◌≡◌, ℕ, zero, suc, ◌+◌, ◌-◌, ◌<◌, ◌≤◌, Bool, true, false, cond, List, [], ◌∷◌, ◌++◌, length, map, drop, get_or, refl, sym, ap, ◌∙◌, subst, Option, Some, None, arith, inl, inr}
use Rattle.std.specs.Prelude.{◌⊎◌, ◌==◌, nat_lt, filter, filter_map, option_map, if◌then◌else◌, All, Result, Ok, Err}
use Rattle.std.specs.List.{range_with_len, list_all, cons_option}
use Rattle.std.specs.Option.{option_or}
use Rattle.std.proofs.lemmas.List.Elements.{filter_map-append}
use Rattle.std.proofs.lemmas.List.Folds.{list_any_at}
use Rattle.std.proofs.lemmas.List.{get_or-map, length-map}
use Rattle.std.proofs.lemmas.Bool.{cases_lt, lt-ltb, le-ltb, eq-eqb, eqb-true}
use Rattle.std.proofs.lemmas.List.FromFn.{length-range_with_len, get_or-range_with_len}
use Rattle.table_definitions.specs.Lists.{has, below, first_some, same_list, pairs_of}
use Rattle.table_definitions.specs.Permutation.{four}
use Rattle.table_definitions.specs.Table.{Gluing, Row, glue, IsTable}
use Rattle.table_definitions.proofs.Bijections.{range-push}
use Rattle.move_definitions.specs.declared.MoveFault.{MoveFault}
use Rattle.move_definitions.specs.declared.MoveFault.TheVariants.{Boundary, Repeated, NoSuchTet}
use Rattle.move_definitions.specs.Moves.{Move, Facet, facet, facet_fault, found_labels, tets_before, own_facet, opposite, facet_across, pair_fault, move_fault}
use Rattle.table_definitions.proofs.ListFacts.{list_all-below, same_list-true, first_some-from, first_some-none_from, first_some-is_none}
use Rattle.move_laws.specs.Faults.{facets_below, first_facet_fault, found_facets, pairs_fault, verdict, IsPattern}

-- lists of labels

range_step : (s label : ℕ) → s ≤ label → range_with_len s (label - s) ++ label ∷ [] ≡ range_with_len s (label + 1 - s)
range_step s label l =
    let a : s + (label - s) ≡ label = omega arith in
    let b : suc (label - s) ≡ label + 1 - s = omega arith in
    ap (λ k. range_with_len s (label - s) ++ k ∷ []) (sym a) ∙ range-push s (label - s) ∙ ap (range_with_len s) b

pub from_four : (s : ℕ) → s < 5 → drop s four ≡ range_with_len s (4 - s)
from_four s l = same_list-true (drop s four) (range_with_len s (4 - s)) (list_all-below (λ k. same_list (drop k four) (range_with_len k (4 - k))) 5 refl s l)

pub before_label : (s i : ℕ) → s < 5 → i < 5 → filter (λ l. nat_lt l i) (drop s four) ≡ range_with_len s (i - s)
before_label s i ls li =
    same_list-true (filter (λ l. nat_lt l i) (drop s four)) (range_with_len s (i - s))
    (list_all-below (λ j. same_list (filter (λ l. nat_lt l j) (drop s four)) (range_with_len s (j - s))) 5
    (list_all-below (λ k. list_all (λ j. same_list (filter (λ l. nat_lt l j) (drop k four)) (range_with_len k (j - k))) (below 5)) 5 refl s ls) i li)

pub to_five : (s : ℕ) → s < 5 → drop s (below 5) ≡ drop s four ++ 4 ∷ []
to_five s l = same_list-true (drop s (below 5)) (drop s four ++ 4 ∷ []) (list_all-below (λ k. same_list (drop k (below 5)) (drop k four ++ 4 ∷ [])) 5 refl s l)

pub one_facet : (rows : List Row) (m : Move) (label : ℕ) (facets more : List Facet) (f : Facet) → length m.core ≤ label → facets ≡ facets_below rows m label → Some f ≡ facet rows m label → more ≡ facets ++ f ∷ []
    → more ≡ facets_below rows m (label + 1)
one_facet rows m label facets more f l so_far is e =
    e ∙ ap (λ (fs : List Facet). fs ++ f ∷ []) so_far
    ∙ ap (λ (o : Option Facet). filter_map (facet rows m) (range_with_len (length m.core) (label - length m.core)) ++ filter_map (λ (p : Option Facet). p) (o ∷ [])) is
    ∙ sym (filter_map-append (facet rows m) (range_with_len (length m.core) (label - length m.core)) (label ∷ []))
    ∙ ap (filter_map (facet rows m)) (range_step (length m.core) label l)

pub all_facets : (rows : List Row) (m : Move) (label : ℕ) (facets : List Facet) → length m.core < 5 → label ≡ 4 → facets ≡ facets_below rows m label → facets ≡ found_facets rows m
all_facets rows m label facets small e so_far =
    so_far ∙ ap (λ k. facets_below rows m k) e ∙ ap (filter_map (facet rows m)) (sym (from_four (length m.core) small))

pub taken_is : (rows : List Row) (m : Move) (label : ℕ) (facets : List Facet) (t : ℕ) → length m.core < 5 → label < 5 → facets ≡ facets_below rows m label
    → has (m.tet ∷ map (λ (f : Facet). f.tet) facets) t ≡ has (tets_before rows m label) t
taken_is rows m label facets t small l so_far =
    ap (λ (fs : List Facet). has (m.tet ∷ map (λ (f : Facet). f.tet) fs) t) (so_far ∙ ap (filter_map (facet rows m)) (sym (before_label (length m.core) label small l)))

abbrev pub fault_of : List Row → Move → ℕ → Option MoveFault
fault_of rows m k = facet_fault rows m k (facet rows m k)

pub not_taken : (rows : List Row) (m : Move) (label : ℕ) (f : Facet) → Some f ≡ facet rows m label → false ≡ has (tets_before rows m label) f.tet → fault_of rows m label ≡ None
not_taken rows m label f is free = ap (facet_fault rows m label) (sym is) ∙ ap (λ b. cond b (Some (Repeated label)) None) (sym free)

pub is_repeated : (rows : List Row) (m : Move) (label : ℕ) (f : Facet) → Some f ≡ facet rows m label → true ≡ has (tets_before rows m label) f.tet → fault_of rows m label ≡ Some (Repeated label)
is_repeated rows m label f is taken = ap (facet_fault rows m label) (sym is) ∙ ap (λ b. cond b (Some (Repeated label)) None) (sym taken)

pub is_boundary : (rows : List Row) (m : Move) (label : ℕ) → None ≡ facet rows m label → fault_of rows m label ≡ Some (Boundary label)
is_boundary rows m label is = ap (facet_fault rows m label) (sym is)

pub first_fault : (rows : List Row) (m : Move) (label : ℕ) (e : MoveFault) → length m.core ≤ label → label < 4 → ((k : ℕ) → length m.core ≤ k → k < label → fault_of rows m k ≡ None) → fault_of rows m label ≡ Some e
    → first_facet_fault rows m ≡ Some e
first_fault rows m label e low high before found =
    let s : ℕ = length m.core in
    let a : s + (label - s) ≡ label = omega arith in
    ap (first_some (fault_of rows m)) (from_four s (omega arith))
    ∙ first_some-from (fault_of rows m) s (4 - s) (label - s) e (omega arith) (λ k l. before (s + k) (omega arith) (omega arith)) (ap (fault_of rows m) a ∙ found)

pub no_fault : (rows : List Row) (m : Move) (label : ℕ) → length m.core < 5 → 4 ≤ label → ((k : ℕ) → length m.core ≤ k → k < label → fault_of rows m k ≡ None) → first_facet_fault rows m ≡ None
no_fault rows m label small end none =
    let s : ℕ = length m.core in
    ap (first_some (fault_of rows m)) (from_four s small) ∙ first_some-none_from (fault_of rows m) s (4 - s) (λ k l. none (s + k) (omega arith) (omega arith))

-- if the facet of `label` has no error either, the facets below label + 1 have none
pub none_more : (rows : List Row) (m : Move) (label : ℕ) → fault_of rows m label ≡ None → ((k : ℕ) → length m.core ≤ k → k < label → fault_of rows m k ≡ None) → (k : ℕ) → length m.core ≤ k → k < label + 1 → fault_of rows m k ≡ None
none_more rows m label here before k low high = by_size (cases_lt k label)
  where
    by_size : (k < label) ⊎ (label ≤ k) → fault_of rows m k ≡ None
    by_size (inl l) = before k low l
    by_size (inr l) = let e : label ≡ k = omega arith in subst (λ j. fault_of rows m j ≡ None) e here

pub length_below : (rows : List Row) (m : Move) (label : ℕ) (facets : List Facet) → facets ≡ facets_below rows m label → length facets ≤ label - length m.core
length_below rows m label facets e = rw e (most (label - length m.core) (length m.core))
  where
    most : (n a : ℕ) → length (filter_map (facet rows m) (range_with_len a n)) ≤ n
    most zero a = omega arith
    most (suc n) a = by_head (facet rows m a) (most n (a + 1))
      where
        by_head : (o : Option Facet) → length (filter_map (facet rows m) (range_with_len (a + 1) n)) ≤ n → length (cons_option o (filter_map (facet rows m) (range_with_len (a + 1) n))) ≤ suc n
        by_head None h = omega arith
        by_head (Some f) h = omega arith

-- the tetrahedron of an item of a list of facets is in the list of their tetrahedra
pub any_at : (fs : List Facet) (i : ℕ) (f : Facet) (t : ℕ) → i < length fs → f ≡ get_or fs i f → f.tet ≡ t → true ≡ has (map (λ (f : Facet). f.tet) fs) t
any_at fs i f t l is e = sym (list_any_at (λ m. m == t) (map (λ (f : Facet). f.tet) fs) i 0 (rw length-map l) (eq-eqb (get_or (map (λ (f : Facet). f.tet) fs) i 0) t at))
  where
    at : get_or (map (λ (f : Facet). f.tet) fs) i 0 ≡ t
    at = get_or-map (λ (f : Facet). f.tet) fs i f 0 l ∙ ap (λ (f : Facet). f.tet) (sym is) ∙ e

pub repeated_by : (rows : List Row) (m : Move) (label : ℕ) (found : List Facet) (f : Facet) (own t : ℕ) → length m.core ≤ label → label < 4 → found ≡ facets_below rows m label → Some f ≡ facet rows m label → own ≡ m.tet → t ≡ f.tet
    → true ≡ has (own ∷ map (λ (f : Facet). f.tet) found) t → fault_of rows m label ≡ Some (Repeated label)
repeated_by rows m label found f own t low high so_far is eo et taken =
    is_repeated rows m label f is
    (taken ∙ ap (λ o. has (o ∷ map (λ (f : Facet). f.tet) found) t) eo ∙ ap (has (m.tet ∷ map (λ (f : Facet). f.tet) found)) et ∙ taken_is rows m label found f.tet (omega arith) (omega arith) so_far)

pub free_by : (rows : List Row) (m : Move) (label : ℕ) (found : List Facet) (f : Facet) (own t : ℕ) → length m.core ≤ label → label < 4 → found ≡ facets_below rows m label → Some f ≡ facet rows m label → own ≡ m.tet → t ≡ f.tet
    → false ≡ has (own ∷ map (λ (f : Facet). f.tet) found) t → fault_of rows m label ≡ None
free_by rows m label found f own t low high so_far is eo et free =
    not_taken rows m label f is
    (free ∙ ap (λ o. has (o ∷ map (λ (f : Facet). f.tet) found) t) eo ∙ ap (has (m.tet ∷ map (λ (f : Facet). f.tet) found)) et ∙ taken_is rows m label found f.tet (omega arith) (omega arith) so_far)

-- pairs of facets

ok_none : (x : Unit {0}) (o : Option MoveFault) → Ok x ≡ verdict o → o ≡ None
ok_none x None e = refl
ok_none x (Some f) e = absurd cc

err_first : (e : MoveFault) (o p : Option MoveFault) → Err e ≡ verdict o → Err e ≡ verdict (option_or o p)
err_first e None p h = absurd cc
err_first e (Some f) p h = h

any_default : (fs : List Facet) (i : ℕ) (d e : Facet) → i < length fs → get_or fs i d ≡ get_or fs i e
any_default [] i d e l = absurd (omega arith)
any_default (x ∷ fs) zero d e l = refl
any_default (x ∷ fs) (suc i) d e l = any_default fs i d e (omega arith)

same_at : (fs : List Facet) (i : ℕ) (f g : Facet) → i < length fs → f ≡ get_or fs i f → g ≡ get_or fs i g → g ≡ f
same_at fs i f g l e k = k ∙ any_default fs i g f l ∙ sym e

pair_is : (f g a b : Facet) → f ≡ a → g ≡ b → ◌≡◌ {A = List Facet} (f ∷ g ∷ []) (a ∷ b ∷ [])
pair_is f g a b e k = ap (λ (x : Facet). x ∷ g ∷ []) e ∙ ap (λ (x : Facet). a ∷ x ∷ []) k

two : (fs : List Facet) (f g : Facet) → length fs ≡ 2 → f ≡ get_or fs 0 f → g ≡ get_or fs 1 g → f ∷ g ∷ [] ≡ fs
two [] f g l e k = absurd (omega arith)
two (a ∷ []) f g l e k = absurd (omega arith)
two (a ∷ b ∷ []) f g l e k = pair_is f g a b e k
two (a ∷ b ∷ c ∷ fs) f g l e k = absurd (omega arith)

three : (fs : List Facet) (f g h : Facet) → length fs ≡ 3 → f ≡ get_or fs 0 f → g ≡ get_or fs 1 g → h ≡ get_or fs 2 h → f ∷ g ∷ h ∷ [] ≡ fs
three [] f g h l e k m = absurd (omega arith)
three (a ∷ []) f g h l e k m = absurd (omega arith)
three (a ∷ b ∷ []) f g h l e k m = absurd (omega arith)
three (a ∷ b ∷ c ∷ []) f g h l e k m = ap (λ (x : Facet). x ∷ g ∷ h ∷ []) e ∙ ap (λ (xs : List Facet). a ∷ xs) (pair_is g h b c k m)
three (a ∷ b ∷ c ∷ d ∷ fs) f g h l e k m = absurd (omega arith)

pub pairs_two : (rows : List Row) (fs : List Facet) (f g : Facet) (r : Result (Unit {0}) MoveFault) → length fs ≡ 2 → f ≡ get_or fs 0 f → g ≡ get_or fs 1 g → r ≡ verdict (pair_fault rows (Some f) (Some g)) → r ≡ verdict (pairs_fault rows fs)
unfolding pairs_fault
pairs_two rows fs f g r l ef eg e = e ∙ ap (λ (xs : List Facet). verdict (pairs_fault rows xs)) (two fs f g l ef eg)

pub pairs_err : (rows : List Row) (fs : List Facet) (f g : Facet) (e : MoveFault) → length fs ≡ 3 → f ≡ get_or fs 0 f → g ≡ get_or fs 1 g → Err e ≡ verdict (pair_fault rows (Some f) (Some g)) → Err e ≡ verdict (pairs_fault rows fs)
unfolding pairs_fault
pairs_err rows fs f g e l ef eg first =
    let h : Facet = get_or fs 2 f in
    let eh : h ≡ get_or fs 2 h = any_default fs 2 f h (omega arith) in
    err_first e (pair_fault rows (Some f) (Some g)) _ first ∙ ap (λ (xs : List Facet). verdict (pairs_fault rows xs)) (three fs f g h l ef eg eh)

pub ok_then : (x : Unit {0}) (o p : Option MoveFault) (r : Result (Unit {0}) MoveFault) → Ok x ≡ verdict o → r ≡ verdict p → r ≡ verdict (option_or o p)
ok_then x o p r first e = e ∙ ap (λ (q : Option MoveFault). verdict (option_or q p)) (sym (ok_none x o first))

-- the first pair of three facets is glued, and the second is not
pub pairs_second : (rows : List Row) (fs : List Facet) (f g f' h : Facet) (x : Unit {0}) (e : MoveFault) → length fs ≡ 3 → f ≡ get_or fs 0 f → g ≡ get_or fs 1 g → f' ≡ get_or fs 0 f' → h ≡ get_or fs 2 h
    → Ok x ≡ verdict (pair_fault rows (Some f) (Some g)) → Err e ≡ verdict (pair_fault rows (Some f') (Some h)) → Err e ≡ verdict (pairs_fault rows fs)
unfolding pairs_fault
pairs_second rows fs f g f' h x e l ef eg ef' eh first second =
    let second' : Err e ≡ verdict (pair_fault rows (Some f) (Some h)) = second ∙ ap (λ (k : Facet). verdict (pair_fault rows (Some k) (Some h))) (same_at fs 0 f f' (omega arith) ef ef') in
    ok_then x (pair_fault rows (Some f) (Some g)) (option_or (pair_fault rows (Some f) (Some h)) (pair_fault rows (Some g) (Some h))) (Err e) first
    (err_first e (pair_fault rows (Some f) (Some h)) (pair_fault rows (Some g) (Some h)) second')
    ∙ ap (λ (xs : List Facet). verdict (pairs_fault rows xs)) (three fs f g h l ef eg eh)

-- the first two pairs are glued, and the third decides
pub pairs_third : (rows : List Row) (fs : List Facet) (f g f' h g' h' : Facet) (x y : Unit {0}) (r : Result (Unit {0}) MoveFault) → length fs ≡ 3 → f ≡ get_or fs 0 f → g ≡ get_or fs 1 g → f' ≡ get_or fs 0 f' → h ≡ get_or fs 2 h → g' ≡ get_or fs 1 g' → h' ≡ get_or fs 2 h'
    → Ok x ≡ verdict (pair_fault rows (Some f) (Some g)) → Ok y ≡ verdict (pair_fault rows (Some f') (Some h)) → r ≡ verdict (pair_fault rows (Some g') (Some h')) → r ≡ verdict (pairs_fault rows fs)
unfolding pairs_fault
pairs_third rows fs f g f' h g' h' x y r l ef eg ef' eh eg' eh' first second third =
    let second' : Ok y ≡ verdict (pair_fault rows (Some f) (Some h)) = second ∙ ap (λ (k : Facet). verdict (pair_fault rows (Some k) (Some h))) (same_at fs 0 f f' (omega arith) ef ef') in
    let third' : r ≡ verdict (pair_fault rows (Some g) (Some h)) =
    third ∙ ap (λ (k : Facet). verdict (pair_fault rows (Some k) (Some h'))) (same_at fs 1 g g' (omega arith) eg eg') ∙ ap (λ (k : Facet). verdict (pair_fault rows (Some g) (Some k))) (same_at fs 2 h h' (omega arith) eh eh') in
    ok_then x (pair_fault rows (Some f) (Some g)) (option_or (pair_fault rows (Some f) (Some h)) (pair_fault rows (Some g) (Some h))) r first
    (ok_then y (pair_fault rows (Some f) (Some h)) (pair_fault rows (Some g) (Some h)) r second' third')
    ∙ ap (λ (xs : List Facet). verdict (pairs_fault rows xs)) (three fs f g h l ef eg eh)

pub pairs_few : (rows : List Row) (fs : List Facet) (x : Unit {0}) → (length fs ≡ 2 → ⊥) → (length fs ≡ 3 → ⊥) → Ok x ≡ verdict (pairs_fault rows fs)
unfolding pairs_fault
pairs_few rows [] x a b = refl
pairs_few rows (f ∷ []) x a b = refl
pairs_few rows (f ∷ g ∷ []) x a b = absurd (a refl)
pairs_few rows (f ∷ g ∷ h ∷ []) x a b = absurd (b refl)
pairs_few rows (f ∷ g ∷ h ∷ k ∷ fs) x a b = refl

-- all labels

facets_in : (rows : List Row) (m : Move) → IsTable rows → (ls : List ℕ) → ((k : ℕ) (d : ℕ) → k < length ls → get_or ls k d < 4) → (k : ℕ) (d : Facet) → k < length (filter_map (facet rows m) ls) → (get_or (filter_map (facet rows m) ls) k d).tet < length rows
facets_in rows m table [] small k d l = absurd (omega arith)
facets_in rows m table (i ∷ ls) small k d l = by_head (facet rows m i) refl k l (facets_in rows m table ls (λ j e q. small (suc j) e (omega arith)))
  where
    i_small : i < 4
    i_small = small 0 0 (omega arith)

    behind : (f : Facet) → facet rows m i ≡ Some f → f.tet < length rows
    behind f e = by_glue (glue rows (opposite (own_facet m) i)) refl
      where
        not_four : (i == 4) ≡ false
        not_four = by_test (i == 4) refl
          where
            by_test : (b : Bool) → (i == 4) ≡ b → (i == 4) ≡ false
            by_test true t = let q = eqb-true i 4 t in absurd (omega (arith, i_small))
            by_test false t = t

        shown : option_map (facet_across (own_facet m) i) (glue rows (opposite (own_facet m) i)) ≡ Some f
        shown = sym (ap (λ b. if◌then◌else◌ {A = Option Facet} b (Some (own_facet m)) (option_map (facet_across (own_facet m) i) (glue rows (opposite (own_facet m) i)))) not_four) ∙ e

        by_glue : (o : Option Gluing) → glue rows (opposite (own_facet m) i) ≡ o → f.tet < length rows
        by_glue None h = let z : None ≡ Some f = sym (ap (option_map (facet_across (own_facet m) i)) h) ∙ shown in absurd cc
        by_glue (Some g) h =
            let z : Some (facet_across (own_facet m) i g) ≡ Some f = sym (ap (option_map (facet_across (own_facet m) i)) h) ∙ shown in
            let y : facet_across (own_facet m) i g ≡ f = cc in
            subst (λ (x : Facet). x.tet < length rows) y (table.in_range (opposite (own_facet m) i) g h)

    by_head : (o : Option Facet) → facet rows m i ≡ o → (k : ℕ) → k < length (cons_option o (filter_map (facet rows m) ls))
        → ((k : ℕ) (d : Facet) → k < length (filter_map (facet rows m) ls) → (get_or (filter_map (facet rows m) ls) k d).tet < length rows)
        → (get_or (cons_option o (filter_map (facet rows m) ls)) k d).tet < length rows
    by_head None e k l later = later k d l
    by_head (Some f) e zero l later = behind f e
    by_head (Some f) e (suc k) l later = later k d (omega arith)

-- the pairs of a move's labels

or_none : {A : Type 0} (o : Option A) → option_or o None ≡ o
or_none None = refl
or_none (Some x) = refl

pub some_facet : (rows : List Row) (m : Move) (i : ℕ) (o : Option Facet) → facet_fault rows m i o ≡ None → (f : Facet) × (o ≡ Some f)
some_facet rows m i None e = absurd cc
some_facet rows m i (Some f) e = (f, refl)

three_pairs : (rows : List Row) (o p q : Option Facet) (f g h : Facet) → o ≡ Some f → p ≡ Some g → q ≡ Some h
    → option_or (pair_fault rows o p) (option_or (pair_fault rows o q) (option_or (pair_fault rows p q) None)) ≡ pairs_fault rows (cons_option o (cons_option p (cons_option q [])))
unfolding pairs_fault
three_pairs rows None p q f g h eo ep eq = absurd cc
three_pairs rows (Some a) None q f g h eo ep eq = absurd cc
three_pairs rows (Some a) (Some b) None f g h eo ep eq = absurd cc
three_pairs rows (Some a) (Some b) (Some c) f g h eo ep eq =
    ap (λ o. option_or (pair_fault rows (Some a) (Some b)) (option_or (pair_fault rows (Some a) (Some c)) o)) (or_none (pair_fault rows (Some b) (Some c)))

two_pairs : (rows : List Row) (o p : Option Facet) (f g : Facet) → o ≡ Some f → p ≡ Some g → option_or (pair_fault rows o p) None ≡ pairs_fault rows (cons_option o (cons_option p []))
unfolding pairs_fault
two_pairs rows None p f g eo ep = absurd cc
two_pairs rows (Some a) None f g eo ep = absurd cc
two_pairs rows (Some a) (Some b) f g eo ep = or_none (pair_fault rows (Some a) (Some b))

no_pair : (rows : List Row) (o : Option Facet) → None ≡ pairs_fault rows (cons_option o [])
unfolding pairs_fault
no_pair rows None = refl
no_pair rows (Some f) = refl

no_facet_pair : (rows : List Row) → None ≡ pairs_fault rows []
unfolding pairs_fault
no_facet_pair rows = refl

abbrev pub pairs_first : List Row → Move → ℕ → Option MoveFault
pairs_first rows m s = first_some (λ p. pair_fault rows (facet rows m p.0) (facet rows m p.1)) (filter (λ p. nat_lt p.0 p.1) (pairs_of (drop s four) (drop s four)))

pairs_are : (rows : List Row) (m : Move) (s : ℕ) → 0 < s → s < 5 → first_some (fault_of rows m) (drop s four) ≡ None → pairs_first rows m s ≡ pairs_fault rows (filter_map (facet rows m) (drop s four))
pairs_are rows m zero low high none = absurd (omega arith)
pairs_are rows m (suc zero) low high none =
    let a = some_facet rows m 1 (facet rows m 1) (first_some-is_none (fault_of rows m) (1 ∷ 2 ∷ 3 ∷ []) none 0 0 (omega arith)) in
    let b = some_facet rows m 2 (facet rows m 2) (first_some-is_none (fault_of rows m) (1 ∷ 2 ∷ 3 ∷ []) none 1 0 (omega arith)) in
    let c = some_facet rows m 3 (facet rows m 3) (first_some-is_none (fault_of rows m) (1 ∷ 2 ∷ 3 ∷ []) none 2 0 (omega arith)) in
    three_pairs rows (facet rows m 1) (facet rows m 2) (facet rows m 3) a.0 b.0 c.0 a.1 b.1 c.1
pairs_are rows m (suc (suc zero)) low high none =
    let b = some_facet rows m 2 (facet rows m 2) (first_some-is_none (fault_of rows m) (2 ∷ 3 ∷ []) none 0 0 (omega arith)) in
    let c = some_facet rows m 3 (facet rows m 3) (first_some-is_none (fault_of rows m) (2 ∷ 3 ∷ []) none 1 0 (omega arith)) in
    two_pairs rows (facet rows m 2) (facet rows m 3) b.0 c.0 b.1 c.1
pairs_are rows m (suc (suc (suc zero))) low high none = no_pair rows (facet rows m 3)
pairs_are rows m (suc (suc (suc (suc zero)))) low high none = no_facet_pair rows
pairs_are rows m (suc (suc (suc (suc (suc s))))) low high none = absurd (omega arith)

pub move_fault_is : (rows : List Row) (m : Move) → m.tet < length rows → move_fault rows m ≡ option_or (first_facet_fault rows m) (pairs_first rows m (length m.core))
unfolding move_fault
move_fault_is rows m l = rw (lt-ltb m.tet (length rows) l) refl

verdict_of : (o : Option MoveFault) (e : MoveFault) → Err e ≡ verdict o → o ≡ Some e
verdict_of None e h = absurd cc
verdict_of (Some fault) e h = cc

pub facet_fault_first : (rows : List Row) (m : Move) (e : MoveFault) → m.tet < length rows → first_facet_fault rows m ≡ Some e → move_fault rows m ≡ Some e
facet_fault_first rows m e l h = move_fault_is rows m l ∙ ap (λ o. option_or o (pairs_first rows m (length m.core))) h

pairs_decide : (rows : List Row) (m : Move) (fs slice : List Facet) → m.tet < length rows → 0 < length m.core → length m.core < 5 → first_facet_fault rows m ≡ None → fs ≡ found_facets rows m → slice ≡ fs
    → move_fault rows m ≡ pairs_fault rows slice
pairs_decide rows m fs slice l low high none is shown =
    move_fault_is rows m l ∙ ap (λ o. option_or o (pairs_first rows m (length m.core))) none ∙ pairs_are rows m (length m.core) low high none ∙ ap (pairs_fault rows) (sym (shown ∙ is))

pub pair_fault_found : (rows : List Row) (m : Move) (fs slice : List Facet) (e : MoveFault) → m.tet < length rows → 0 < length m.core → length m.core < 5 → first_facet_fault rows m ≡ None → fs ≡ found_facets rows m → slice ≡ fs
    → Err e ≡ verdict (pairs_fault rows slice) → move_fault rows m ≡ Some e
pair_fault_found rows m fs slice e l low high none is shown h =
    pairs_decide rows m fs slice l low high none is shown ∙ verdict_of (pairs_fault rows slice) e h

pub is_legal : (rows : List Row) (m : Move) (fs slice all : List Facet) (own : Facet) (x : Unit {0}) → m.tet < length rows → 0 < length m.core → length m.core < 5 → first_facet_fault rows m ≡ None → fs ≡ found_facets rows m → slice ≡ fs
    → Ok x ≡ verdict (pairs_fault rows slice) → own ≡ own_facet m → all ≡ fs ++ own ∷ [] → IsPattern rows m all
is_legal rows m fs slice all own x l low high none is shown h mine e = (
  e ∙ ap (λ (xs : List Facet). xs ++ own ∷ []) is ∙ ap (λ (f : Facet). found_facets rows m ++ f ∷ []) mine
      ∙ sym (filter_map-append (facet rows m) (drop (length m.core) four) (4 ∷ []))
      ∙ ap (filter_map (facet rows m)) (sym (to_five (length m.core) high)),
  pairs_decide rows m fs slice l low high none is shown ∙ ok_none x (pairs_fault rows slice) h,
)

-- the error of the whole move

small_labels : (s : ℕ) → s < 5 → (k : ℕ) (d : ℕ) → k < length (drop s four) → get_or (drop s four) k d < 4
small_labels s l k d q =
    let e : drop s four ≡ range_with_len s (4 - s) = from_four s l in
    let m : k < length (range_with_len s (4 - s)) = rw (← ap length e) q in
    let n : k < 4 - s = rw length-range_with_len at m in
    let at : get_or (drop s four) k d ≡ s + k = ap (λ (xs : List ℕ). get_or xs k d) e ∙ get_or-range_with_len s (4 - s) k d n in
    omega arith

pub all_in : (rows : List Row) (m : Move) (fs slice : List Facet) → IsTable rows → length m.core < 5 → fs ≡ found_facets rows m → slice ≡ fs → All (λ (f : Facet). f.tet < length rows) slice
all_in rows m fs slice table small is shown = subst (λ (xs : List Facet). All (λ (f : Facet). f.tet < length rows) xs) (sym (shown ∙ is)) (λ k d l. facets_in rows m table (found_labels m) (small_labels (length m.core) small) k d l)

pub none_such : (rows : List Row) (m : Move) → length rows ≤ m.tet → move_fault rows m ≡ Some NoSuchTet
unfolding move_fault
none_such rows m l = rw (le-ltb m.tet (length rows) l) refl
