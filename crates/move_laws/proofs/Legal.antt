-- The facets of a legal move: each label has one, in different tetrahedra.
use Rattle.std.proofs.Common.{◌≡◌, ℕ, zero, suc, ◌-◌, ◌<◌, ◌≤◌, Bool, true, false, List, [], ◌∷◌, length, map, drop, get_or, Option, Some, None, refl, sym, ap, ◌∙◌, subst, arith, inl, inr}
use Rattle.std.specs.Prelude.{◌⊎◌, ◌==◌, ◌||◌, ◌&&◌, nat_lt, not, filter, option_map, if◌then◌else◌}
use Rattle.std.specs.List.{list_all}
use Rattle.std.specs.Option.{option_or}
use Rattle.std.proofs.lemmas.Bool.{eqb-true, eq-eqb, ltb-true, lt-ltb, le-ltb, and_parts, false≢true, cases_eq, cases_lt, not-false}
use Rattle.basic_lemmas.proofs.Options.{both_none}
use Rattle.table_definitions.specs.Lists.{below, has, substitute, first_some, pairs_of}
use Rattle.table_definitions.specs.Permutation.{four, IsPermutationOfFour, image, preimage, inverse, compose}
use Rattle.table_definitions.specs.Table.{Gluing, Row, glue, IsTable}
use Rattle.table_definitions.proofs.TableLaws.{Among, first_some-none, guarded}
use Rattle.move_definitions.specs.declared.MoveFault.{MoveFault}
use Rattle.move_definitions.specs.declared.MoveFault.TheVariants.{NoSuchTet, Repeated}
use Rattle.move_definitions.specs.Moves.{Move, IsCore, Facet, own_facet, opposite, facet_across, facet, old_labels, old_tets, found_labels, tets_before, facet_fault, pair_fault, move_fault, vertices_by_label}
use Rattle.table_definitions.proofs.ListFacts.{list_all-below}
use Rattle.table_definitions.proofs.Permutations.{inverse_permutes, compose_permutes}
use Rattle.move_definitions.proofs.CoreTests.{core_size, own_permutes}
use Rattle.move_laws.proofs.Labels.{AreLabels, own_labels}
use Rattle.move_laws.proofs.ListedFacets.{same_some, has_tet, tets_of, IsOf, facet_with, AreApart, is_distinct, tets_distinct, length-tets}
use Rattle.table_definitions.proofs.Carried.{lesser}
use Rattle.table_definitions.proofs.Listed.{has_among}
use Rattle.move_laws.proofs.Renamed.{un_lt}

-- the labels of facets across faces, all old labels, and the labels below one

found_test : ℕ → ℕ → Bool
found_test s i = nat_lt i s || has (drop s four) i

not_before : (i s : ℕ) (c : Bool) → (nat_lt i s || c) ≡ true → s ≤ i → c ≡ true
not_before i s c h l = let e : nat_lt i s ≡ false = le-ltb i s l in grind arith

pub found_label : (s i : ℕ) → s < 5 → s ≤ i → i < 4 → Among i (drop s four)
unfolding found_test
found_label s i small low high =
    has_among (drop s four) i (not_before i s (has (drop s four) i) (list_all-below (λ i. found_test s i) 4 (list_all-below (λ s. list_all (λ i. found_test s i) (below 4)) 5 tests s small) i high) low)
  where
    tests : list_all (λ s. list_all (λ i. found_test s i) (below 4)) (below 5) ≡ true
    tests = unfold found_test in refl

old_test : ℕ → ℕ → Bool
old_test s i = nat_lt i s || has (drop s (below 5)) i

pub old_label : (s i : ℕ) → s < 5 → s ≤ i → i < 5 → Among i (drop s (below 5))
unfolding old_test
old_label s i small low high =
    has_among (drop s (below 5)) i (not_before i s (has (drop s (below 5)) i) (list_all-below (λ i. old_test s i) 5 (list_all-below (λ s. list_all (λ i. old_test s i) (below 5)) 5 refl s small) i high) low)

-- labels are old only if they are in that range
label_range : ℕ → Bool
label_range s = list_all (λ l. not (nat_lt l s) && nat_lt l 5) (drop s (below 5))

among_at : (t : ℕ → Bool) (ls : List ℕ) (i : ℕ) → list_all t ls ≡ true → Among i ls → t i ≡ true
among_at t [] i h a = absurd a
among_at t (l ∷ ls) i h (inl e) = let P : ℕ → Type 0 = λ k. t k ≡ true in subst P (sym e) (and_parts (t l) (list_all t ls) h).0
among_at t (l ∷ ls) i h (inr a) = among_at t ls i (and_parts (t l) (list_all t ls) h).1 a

pub old_label_range : (s i : ℕ) → s < 5 → Among i (drop s (below 5)) → (s ≤ i) × (i < 5)
unfolding label_range
old_label_range s i small a =
    let p = among_at (λ l. not (nat_lt l s) && nat_lt l 5) (drop s (below 5)) i (list_all-below label_range 5 refl s small) a in
    let q = and_parts (not (nat_lt i s)) (nat_lt i 5) p in
    (un_lt i s q.0, ltb-true i 5 q.1)

before_test : ℕ → ℕ → ℕ → Bool
before_test s k i = nat_lt i s || (has (filter (λ l. nat_lt l k) (drop s four)) i || not (nat_lt i k))

label_before : (s k i : ℕ) → s < 5 → k < 4 → s ≤ i → i < k → Among i (filter (λ l. nat_lt l k) (drop s four))
unfolding before_test
label_before s k i small high low less =
    let at : before_test s k i ≡ true =
    list_all-below (λ i. before_test s k i) 5 (list_all-below (λ k. list_all (λ i. before_test s k i) (below 5)) 4 (list_all-below (λ s. list_all (λ k. list_all (λ i. before_test s k i) (below 5)) (below 4)) 5 refl s small) k high) i (omega arith) in
    has_among (filter (λ l. nat_lt l k) (drop s four)) i (last (not_before i s (has (filter (λ l. nat_lt l k) (drop s four)) i || not (nat_lt i k)) at low) (lt-ltb i k less))
  where
    last : (has (filter (λ l. nat_lt l k) (drop s four)) i || not (nat_lt i k)) ≡ true → nat_lt i k ≡ true → has (filter (λ l. nat_lt l k) (drop s four)) i ≡ true
    last h t = grind arith

pub labels_distinct : (s : ℕ) → s < 5 → is_distinct (drop s (below 5)) ≡ true
unfolding is_distinct
labels_distinct s small = list_all-below (λ s. is_distinct (drop s (below 5))) 5 refl s small

pub labels_length : (s : ℕ) → s < 5 → length (drop s (below 5)) ≡ 5 - s
labels_length s small = eqb-true (length (drop s (below 5))) (5 - s) (list_all-below (λ s. length (drop s (below 5)) == 5 - s) 5 refl s small)

-- a facet that the table has

pub record IsFacet (rows : List Row) (i : ℕ) (f : Facet) : Type 0 where
  pub missing : f.missing ≡ i
  pub in_range : f.tet < length rows
  pub labels : AreLabels i f.labels

own_is : (rows : List Row) (m : Move) → IsCore m.core → m.tet < length rows → IsFacet rows 4 (own_facet m)
own_is rows m c l = record { missing = refl; in_range = l; labels = own_labels (inverse (vertices_by_label m.core)) (own_permutes m.core c) }

-- the labels of the facet across a face, as a permutation
behind_labels : (i : ℕ) (q p : List ℕ) → i < 5 → IsPermutationOfFour q → IsPermutationOfFour p → AreLabels i (map (λ v. substitute i 4 (image q (preimage p v))) four)
unfolding compose inverse
behind_labels i q p l hq hp = record { missing = l; perm = compose q (inverse p); permutes = compose_permutes q (inverse p) hq (inverse_permutes p hp); is = refl }

behind_is : (rows : List Row) (m : Move) (i : ℕ) (g : Gluing) → IsTable rows → IsCore m.core → i < 5 → glue rows (opposite (own_facet m) i) ≡ Some g → IsFacet rows i (facet_across (own_facet m) i g)
behind_is rows m i g table c l e = record {
  missing = refl;
  in_range = table.in_range (opposite (own_facet m) i) g e;
  labels = behind_labels i (inverse (vertices_by_label m.core)) g.perm l (own_permutes m.core c) (table.permutes (opposite (own_facet m) i) g e);
}

pub behind_some : (own : Facet) (i : ℕ) (o : Option Gluing) (f : Facet) → option_map (facet_across own i) o ≡ Some f → (g : Gluing) × (o ≡ Some g) × (facet_across own i g ≡ f)
behind_some own i None f e = absurd cc
behind_some own i (Some g) f e = (g, refl, cc)

pub facet-four : (rows : List Row) (m : Move) → facet rows m 4 ≡ Some (own_facet m)
facet-four rows m = refl

pub facet-found : (rows : List Row) (m : Move) (i : ℕ) → i < 4 → facet rows m i ≡ option_map (facet_across (own_facet m) i) (glue rows (opposite (own_facet m) i))
facet-found rows m i l =
    let e : (i == 4) ≡ false = grind arith in
    ap (λ b. if b then Some (own_facet m) else option_map (facet_across (own_facet m) i) (glue rows (opposite (own_facet m) i))) e

-- facet i, if the table has it
pub facet_is : (rows : List Row) (m : Move) (i : ℕ) (f : Facet) → IsTable rows → IsCore m.core → m.tet < length rows → i < 5 → facet rows m i ≡ Some f → IsFacet rows i f
facet_is rows m i f table c l small e = by_case (cases_lt i 4)
  where
    behind : i < 4 → (g : Gluing) × (glue rows (opposite (own_facet m) i) ≡ Some g) × (facet_across (own_facet m) i g ≡ f) → IsFacet rows i f
    behind m' (g, glued, is) = subst (λ (k : Facet). IsFacet rows i k) is (behind_is rows m i g table c small glued)

    by_case : (i < 4) ⊎ (4 ≤ i) → IsFacet rows i f
    by_case (inl less) = behind less (behind_some (own_facet m) i (glue rows (opposite (own_facet m) i)) f (sym (facet-found rows m i less) ∙ e))
    by_case (inr more) =
        let at : i ≡ 4 = omega arith in
        let own : Some (own_facet m) ≡ Some f = sym (ap (facet rows m) at) ∙ e in
        let is : own_facet m ≡ f = cc in
        let four_is : IsFacet rows i (own_facet m) = subst (λ k. IsFacet rows k (own_facet m)) (sym at) (own_is rows m c l) in
        subst (λ (k : Facet). IsFacet rows i k) is four_is

-- what legality implies

pub record HasNoFault (rows : List Row) (m : Move) : Type 0 where
  pub in_range : m.tet < length rows
  pub facets : first_some (λ i. facet_fault rows m i (facet rows m i)) (found_labels m) ≡ None
  pub pairs : first_some (λ p. pair_fault rows (facet rows m p.0) (facet rows m p.1)) (filter (λ p. nat_lt p.0 p.1) (pairs_of (found_labels m) (found_labels m))) ≡ None

pub no_fault : (rows : List Row) (m : Move) → move_fault rows m ≡ None → HasNoFault rows m
unfolding move_fault
no_fault rows m e =
    let facets : Option MoveFault = first_some (λ i. facet_fault rows m i (facet rows m i)) (found_labels m) in
    let pairs : Option MoveFault = first_some (λ p. pair_fault rows (facet rows m p.0) (facet rows m p.1)) (filter (λ p. nat_lt p.0 p.1) (pairs_of (found_labels m) (found_labels m))) in
    let p : (not (nat_lt m.tet (length rows)) ≡ false) × (option_or facets pairs ≡ None) = guarded (not (nat_lt m.tet (length rows))) NoSuchTet (option_or facets pairs) e in
    let q : (facets ≡ None) × (pairs ≡ None) = both_none facets pairs p.1 in
    record { in_range = ltb-true m.tet (length rows) (not-false (nat_lt m.tet (length rows)) p.0); facets = q.0; pairs = q.1 }

-- a facet without an error
pub record IsNew (rows : List Row) (m : Move) (i : ℕ) : Type 0 where
  pub facet_of : Facet
  pub is : facet rows m i ≡ Some facet_of
  pub new : has (tets_before rows m i) facet_of.tet ≡ false

pub found_facet : (rows : List Row) (m : Move) (i : ℕ) → HasNoFault rows m → IsCore m.core → length m.core ≤ i → i < 4 → IsNew rows m i
found_facet rows m i h c low high =
    by_facet (facet rows m i) refl
    (first_some-none (λ i. facet_fault rows m i (facet rows m i)) i (found_labels m) h.facets (found_label (length m.core) i (core_size m.core c).1 low high))
  where
    by_facet : (o : Option Facet) → facet rows m i ≡ o → facet_fault rows m i o ≡ None → IsNew rows m i
    by_facet None e f = absurd cc
    by_facet (Some g) e f = by_test (has (tets_before rows m i) g.tet) refl f
      where
        by_test : (b : Bool) → has (tets_before rows m i) g.tet ≡ b → (if b then Some (Repeated i) else None) ≡ None → IsNew rows m i
        by_test true t f = absurd cc
        by_test false t f = record { facet_of = g; is = e; new = t }

-- each old label has a facet
pub old_facet : (rows : List Row) (m : Move) (i : ℕ) → HasNoFault rows m → IsCore m.core → length m.core ≤ i → i < 5 → (f : Facet) × (facet rows m i ≡ Some f)
old_facet rows m i h c low high = by_case (cases_lt i 4)
  where
    by_case : (i < 4) ⊎ (4 ≤ i) → (f : Facet) × (facet rows m i ≡ Some f)
    by_case (inl less) = let n : IsNew rows m i = found_facet rows m i h c low less in (n.facet_of, n.is)
    by_case (inr more) = let at : i ≡ 4 = omega arith in (own_facet m, ap (facet rows m) at)

-- the facets of two labels have different tetrahedra
not_head : (t u : ℕ) (b : Bool) → ((t == u) || b) ≡ false → (t ≡ u → ⊥) × (b ≡ false)
not_head t u b h = (λ e. (let s : (t == u) ≡ true = eq-eqb t u e in cc), grind arith)

pub apart_before : (rows : List Row) (m : Move) → HasNoFault rows m → IsCore m.core → (i k : ℕ) (f g : Facet) → length m.core ≤ i → i < k → k < 5 → facet rows m i ≡ Some f → facet rows m k ≡ Some g → f.tet ≡ g.tet → ⊥
apart_before rows m h c i k f g low less high ef eg t = by_case (cases_lt k 4)
  where
    by_case : (k < 4) ⊎ (4 ≤ k) → ⊥
    by_case (inl found) =
        let n : IsNew rows m k = found_facet rows m k h c (omega arith) found in
        let is : n.facet_of ≡ g = same_some (facet rows m k) n.facet_of g n.is eg in
        let there : has (tets_of (facet rows m) (filter (λ l. nat_lt l k) (found_labels m))) f.tet ≡ true =
        has_tet (facet rows m) (filter (λ l. nat_lt l k) (found_labels m)) i f (label_before (length m.core) k i (core_size m.core c).1 found low less) ef in
        let new : has (tets_before rows m k) f.tet ≡ false = ap (has (tets_before rows m k)) (t ∙ sym (ap (λ (x : Facet). x.tet) is)) ∙ n.new in
        let absent : has (tets_of (facet rows m) (filter (λ l. nat_lt l k) (found_labels m))) f.tet ≡ false = (not_head m.tet f.tet (has (tets_of (facet rows m) (filter (λ l. nat_lt l k) (found_labels m))) f.tet) new).1 in
        false≢true (sym absent ∙ there)
    by_case (inr last) =
        let at : k ≡ 4 = omega arith in
        let own : own_facet m ≡ g = same_some (facet rows m k) (own_facet m) g (ap (facet rows m) at) eg in
        let n : IsNew rows m i = found_facet rows m i h c low (omega arith) in
        let is : n.facet_of ≡ f = same_some (facet rows m i) n.facet_of f n.is ef in
        let here : m.tet ≡ n.facet_of.tet = ap (λ (x : Facet). x.tet) own ∙ sym t ∙ sym (ap (λ (x : Facet). x.tet) is) in
        (not_head m.tet n.facet_of.tet (has (tets_of (facet rows m) (filter (λ l. nat_lt l i) (found_labels m))) n.facet_of.tet) n.new).0 here

pub facets_apart : (rows : List Row) (m : Move) → HasNoFault rows m → IsCore m.core → AreApart (facet rows m) (old_labels m)
facets_apart rows m h c k l f g hk hl ek el t = by_case (cases_eq k l)
  where
    kr : (length m.core ≤ k) × (k < 5)
    kr = old_label_range (length m.core) k (core_size m.core c).1 hk

    lr : (length m.core ≤ l) × (l < 5)
    lr = old_label_range (length m.core) l (core_size m.core c).1 hl

    by_case : (k ≡ l) ⊎ (k ≡ l → ⊥) → k ≡ l
    by_case (inl e) = e
    by_case (inr d) = elim (lesser k l d) [ inl less ↦ absurd (apart_before rows m h c k l f g kr.0 less lr.1 ek el t) | inr more ↦ absurd (apart_before rows m h c l k g f lr.0 more kr.1 el ek (sym t)) ]

-- the tetrahedra that are removed

pub old_tets_distinct : (rows : List Row) (m : Move) → HasNoFault rows m → IsCore m.core → is_distinct (old_tets rows m) ≡ true
old_tets_distinct rows m h c = tets_distinct (facet rows m) (old_labels m) (labels_distinct (length m.core) (core_size m.core c).1) (facets_apart rows m h c)

pub length-old_tets : (rows : List Row) (m : Move) → HasNoFault rows m → IsCore m.core → length (old_tets rows m) ≡ 5 - length m.core
length-old_tets rows m h c =
    length-tets (facet rows m) (old_labels m) (λ k a. (let r : (length m.core ≤ k) × (k < 5) = old_label_range (length m.core) k (core_size m.core c).1 a in old_facet rows m k h c r.0 r.1))
    ∙ labels_length (length m.core) (core_size m.core c).1

-- an old facet, by its tetrahedron
pub record OldFacet (rows : List Row) (m : Move) (t : ℕ) : Type 0 where
  pub label : ℕ
  pub low : length m.core ≤ label
  pub high : label < 5
  pub facet_of : Facet
  pub is : facet rows m label ≡ Some facet_of
  pub tet : facet_of.tet ≡ t

pub old_tet_facet : (rows : List Row) (m : Move) (t : ℕ) → IsCore m.core → has (old_tets rows m) t ≡ true → OldFacet rows m t
old_tet_facet rows m t c h =
    let o : IsOf (facet rows m) (old_labels m) t = facet_with (facet rows m) (old_labels m) t h in
    let r : (length m.core ≤ o.label) × (o.label < 5) = old_label_range (length m.core) o.label (core_size m.core c).1 o.among in
    record { label = o.label; low = r.0; high = r.1; facet_of = o.facet; is = o.is; tet = o.tet }

has_at : (xs : List ℕ) (k : ℕ) → k < length xs → has xs (get_or xs k 0) ≡ true
has_at [] k l = absurd (omega arith)
has_at (x ∷ xs) zero l = let t : (x == x) ≡ true = eq-eqb x x refl in ap (λ b. b || has xs x) t
has_at (x ∷ xs) (suc k) l = let t : has xs (get_or xs k 0) ≡ true = has_at xs k (omega arith) in grind arith

pub old_tets_below : (rows : List Row) (m : Move) → IsTable rows → HasNoFault rows m → IsCore m.core → (k : ℕ) → k < length (old_tets rows m) → get_or (old_tets rows m) k 0 < length rows
old_tets_below rows m table h c k l =
    let o : OldFacet rows m (get_or (old_tets rows m) k 0) = old_tet_facet rows m (get_or (old_tets rows m) k 0) c (has_at (old_tets rows m) k l) in
    let is : IsFacet rows o.label o.facet_of = facet_is rows m o.label o.facet_of table c h.in_range o.high o.is in
    let P : ℕ → Type 0 = λ t. t < length rows in subst P o.tet is.in_range
