-- The list of the facets that a move removes, their tetrahedra, and the replacements of old faces.
use Rattle.std.proofs.Common.{◌≡◌, ℕ, zero, suc, ◌+◌, ◌-◌, ◌<◌, ◌≤◌, Bool, true, false, cond, List, [], ◌∷◌, length, drop, get_or, Option, Some, refl, sym, ap, ◌∙◌, subst, arith, inl, inr}
use Rattle.std.specs.Prelude.{◌⊎◌, ◌==◌, nat_lt, filter_map, find}
use Rattle.std.specs.List.{range_with_len, cons_option}
use Rattle.std.proofs.lemmas.Bool.{eqb-true, eq-eqb, lt-ltb}
use Rattle.std.proofs.lemmas.List.{get_or-map, length-map}
use Rattle.table_definitions.specs.Lists.{has, below, rank_without, same_list}
use Rattle.table_definitions.specs.Permutation.{image}
use Rattle.table_definitions.specs.Table.{Row, Face}
use Rattle.table_definitions.proofs.TableLaws.{Among, Among-range}
use Rattle.table_definitions.proofs.Listed.{range-among, Among-filter_map, filter_map-among}
use Rattle.table_definitions.proofs.ListFacts.{list_all-below, same_list-true}
use Rattle.table_definitions.proofs.Ranks.{length-picked, rank_fits, count_whole}
use Rattle.move_definitions.specs.Moves.{Move, Facet, facet, old_labels, old_facets, old_tets, facet_place_after, place_after_of, place_after}
use Rattle.move_definitions.specs.Undos.{taken_numbers}
use Rattle.move_laws.specs.Facets.{IsOldFacet, AreOldFacets}
use Rattle.move_laws.proofs.FacetLaws.{core_some, core_few}
use Rattle.move_laws.proofs.LegalLaws.{IsLegal, has-among, among-has, same_facet, label_in}
use Rattle.move_laws.proofs.NumberLaws.{Apart, rank-same, rank-has, picked-up, picked-has, increasing-separate}

-- a list with an item for each number of a range

abbrev AllFound : (ℕ → Option Facet) → ℕ → ℕ → Type 0
AllFound h a n = (i : ℕ) → a ≤ i → i < a + n → (f : Facet) × (h i ≡ Some f)

found-length : (h : ℕ → Option Facet) (n a : ℕ) → AllFound h a n → length (filter_map h (range_with_len a n)) ≡ n
found-length h zero a all = refl
found-length h (suc n) a all =
    let f = all a (omega arith) (omega arith) in
    let rest = found-length h n (a + 1) (λ i l m. all i (omega arith) (omega arith)) in
    ap (λ o. length (cons_option o (filter_map h (range_with_len (a + 1) n)))) f.1 ∙ ap suc rest

found-at : (h : ℕ → Option Facet) (n a k : ℕ) (d : Facet) → AllFound h a n → k < n → h (a + k) ≡ Some (get_or (filter_map h (range_with_len a n)) k d)
found-at h zero a k d all l = absurd (omega arith)
found-at h (suc n) a zero d all l =
    let f = all a (omega arith) (omega arith) in
    ap h (omega arith) ∙ f.1 ∙ ap (λ o. Some (get_or (cons_option o (filter_map h (range_with_len (a + 1) n))) 0 d)) (sym f.1)
found-at h (suc n) a (suc k) d all l =
    let f = all a (omega arith) (omega arith) in
    ap h (omega arith) ∙ found-at h n (a + 1) k d (λ i l m. all i (omega arith) (omega arith)) (omega arith)
    ∙ ap (λ o. Some (get_or (cons_option o (filter_map h (range_with_len (a + 1) n))) (suc k) d)) (sym f.1)

labels-range : (s : ℕ) → s < 5 → drop s (below 5) ≡ range_with_len s (5 - s)
labels-range s l = same_list-true (drop s (below 5)) (range_with_len s (5 - s)) (list_all-below (λ k. same_list (drop k (below 5)) (range_with_len k (5 - k))) 5 refl s l)

-- the old facets

all_found : (rows : List Row) (m : Move) → IsLegal rows m → AllFound (facet rows m) (length m.core) (5 - length m.core)
all_found rows m legal i low high = let f = legal.facet_at i low (omega arith) in (f.0, f.1.found)

old_list : (rows : List Row) (m : Move) → IsLegal rows m → old_facets rows m ≡ filter_map (facet rows m) (range_with_len (length m.core) (5 - length m.core))
old_list rows m legal = ap (filter_map (facet rows m)) (labels-range (length m.core) (core_few m.core legal.core))

pub length-old : (rows : List Row) (m : Move) → IsLegal rows m → length (old_facets rows m) ≡ 5 - length m.core
length-old rows m legal = ap length (old_list rows m legal) ∙ found-length (facet rows m) (5 - length m.core) (length m.core) (all_found rows m legal)

pub old_at : (rows : List Row) (m : Move) → IsLegal rows m → (k : ℕ) (d : Facet) → k < 5 - length m.core → IsOldFacet rows m (length m.core + k) (get_or (old_facets rows m) k d)
old_at rows m legal k d l =
    let f = legal.facet_at (length m.core + k) (omega arith) (omega arith) in
    let e : facet rows m (length m.core + k) ≡ Some (get_or (old_facets rows m) k d) =
    found-at (facet rows m) (5 - length m.core) (length m.core) k d (all_found rows m legal) l ∙ ap (λ (fs : List Facet). Some (get_or fs k d)) (sym (old_list rows m legal)) in
    let z : Some f.0 ≡ Some (get_or (old_facets rows m) k d) = sym f.1.found ∙ e in
    let y : f.0 ≡ get_or (old_facets rows m) k d = cc in
    subst (λ (x : Facet). IsOldFacet rows m (length m.core + k) x) y f.1

listed : (rows : List Row) (m : Move) (i : ℕ) (f : Facet) → IsLegal rows m → IsOldFacet rows m i f → Among f (old_facets rows m)
listed rows m i f legal F =
    let b = label_in rows m i f F in
    let low = F.old_label in
    Among-filter_map (facet rows m) i f (old_labels m)
    (subst (λ (ls : List ℕ). Among i ls) (sym (labels-range (length m.core) (core_few m.core legal.core))) (Among-range i (length m.core) (5 - length m.core) low (omega arith))) F.found

from_list : (rows : List Row) (m : Move) (f : Facet) → IsLegal rows m → Among f (old_facets rows m) → (i : ℕ) × IsOldFacet rows m i f
from_list rows m f legal a =
    let x = filter_map-among (facet rows m) f (old_labels m) a in
    let i : ℕ = x.0 in
    let w = range-among i (length m.core) (5 - length m.core) (subst (λ (ls : List ℕ). Among i ls) (labels-range (length m.core) (core_few m.core legal.core)) x.1) in
    let w0 = w.0 in
    let w1 = w.1 in
    let F = legal.facet_at i w0 (omega arith) in
    let z : Some F.0 ≡ Some f = sym F.1.found ∙ x.2 in
    let y : F.0 ≡ f = cc in
    (i, subst (λ (g : Facet). IsOldFacet rows m i g) y F.1)

pub tet_of_old : (rows : List Row) (m : Move) (i : ℕ) (f : Facet) → IsLegal rows m → IsOldFacet rows m i f → has (old_tets rows m) f.tet ≡ true
tet_of_old rows m i f legal F = has-among (old_facets rows m) f (listed rows m i f legal F)

pub old_of_tet : (rows : List Row) (m : Move) (t : ℕ) → IsLegal rows m → has (old_tets rows m) t ≡ true → (i : ℕ) × (f : Facet) × IsOldFacet rows m i f × (f.tet ≡ t)
old_of_tet rows m t legal h =
    let x = among-has (old_facets rows m) t h in
    let y = from_list rows m x.0 legal x.1 in
    (y.0, x.0, y.1, x.2)

-- the replacement of an old face

find-only : (p : Facet → Bool) (fs : List Facet) (f : Facet) → Among f fs → p f ≡ true → ((g : Facet) → Among g fs → p g ≡ true → g ≡ f) → find p fs ≡ Some f
find-only p [] f a h only = absurd a
find-only p (g ∷ fs) f a h only = by_test (p g) refl a (λ b. find-only p fs f b h (λ k c q. only k (inr c) q))
  where
    by_test : (b : Bool) → p g ≡ b → (f ≡ g) ⊎ Among f fs → (Among f fs → find p fs ≡ Some f) → cond b (Some g) (find p fs) ≡ Some f
    by_test true e c later = ap (λ (x : Facet). Some x) (only g (inl refl) e)
    by_test false e (inl s) later = let z : true ≡ false = sym h ∙ ap p s ∙ e in absurd cc
    by_test false e (inr c) later = later c

pub stand_old : (rows : List Row) (m : Move) (i : ℕ) (f : Facet) (x : Face) → IsLegal rows m → IsOldFacet rows m i f → x.tet ≡ f.tet → place_after rows m x ≡ facet_place_after rows m f (image f.labels x.face)
stand_old rows m i f x legal F e =
    ap (place_after_of rows m x) (find-only (λ (g : Facet). g.tet == x.tet) (old_facets rows m) f (listed rows m i f legal F) (eq-eqb f.tet x.tet (sym e)) only)
  where
    only : (g : Facet) → Among g (old_facets rows m) → (g.tet == x.tet) ≡ true → g ≡ f
    only g a h =
        let G = from_list rows m g legal a in
        let k : ℕ = G.0 in
        let same : k ≡ i = legal.separate k i g f G.1 F (eqb-true g.tet x.tet h ∙ e) in
        same_facet rows m i g f (subst (λ j. IsOldFacet rows m j g) same G.1) F

-- the tetrahedra that are removed

pub old_tets_apart : (rows : List Row) (m : Move) → IsLegal rows m → Apart (old_tets rows m)
old_tets_apart rows m legal i j l b e =
    let d : Facet = record { tet = 0; missing = 0; labels = [] } in
    let n : length (old_tets rows m) ≡ 5 - length m.core = length-map (old_facets rows m) (λ (f : Facet). f.tet) ∙ length-old rows m legal in
    let o = length-old rows m legal in
    let at : (k : ℕ) → k < 5 - length m.core → get_or (old_tets rows m) k 0 ≡ (get_or (old_facets rows m) k d).tet = λ k q. get_or-map (λ (f : Facet). f.tet) (old_facets rows m) k d 0 (omega arith) in
    let li : i < 5 - length m.core = omega arith in
    let lj : j < 5 - length m.core = omega arith in
    let same : length m.core + i ≡ length m.core + j =
    legal.separate (length m.core + i) (length m.core + j) (get_or (old_facets rows m) i d) (get_or (old_facets rows m) j d) (old_at rows m legal i d li) (old_at rows m legal j d lj) (sym (at i li) ∙ e ∙ at j lj) in
    absurd (omega arith)

old_tets_within : (rows : List Row) (m : Move) → IsLegal rows m → (k : ℕ) → k < length (old_tets rows m) → get_or (old_tets rows m) k 0 < length rows
old_tets_within rows m legal k b =
    let d : Facet = record { tet = 0; missing = 0; labels = [] } in
    let n : length (old_tets rows m) ≡ 5 - length m.core = length-map (old_facets rows m) (λ (f : Facet). f.tet) ∙ length-old rows m legal in
    let o = length-old rows m legal in
    let at : get_or (old_tets rows m) k 0 ≡ (get_or (old_facets rows m) k d).tet = get_or-map (λ (f : Facet). f.tet) (old_facets rows m) k d 0 (omega arith) in
    let F = old_at rows m legal k d (omega arith) in
    let r = F.in_range in
    omega arith

pub taken-has : (rows : List Row) (m : Move) (t : ℕ) → t < length rows → has (taken_numbers rows m) t ≡ has (old_tets rows m) t
taken-has rows m t l = picked-has (has (old_tets rows m)) (length rows) t l

-- as many tetrahedra are removed as there are old facets
pub length-taken : (rows : List Row) (m : Move) → IsLegal rows m → length (taken_numbers rows m) ≡ 5 - length m.core
length-taken rows m legal =
    length-picked (has (old_tets rows m)) (length rows) ∙ rank-has (old_tets rows m) (length rows) (old_tets_apart rows m legal)
    ∙ count_whole (λ u. nat_lt u (length rows)) (old_tets rows m) (λ k l. lt-ltb (get_or (old_tets rows m) k 0) (length rows) (old_tets_within rows m legal k l))
    ∙ length-map (old_facets rows m) (λ (f : Facet). f.tet) ∙ length-old rows m legal

-- the new number of a tetrahedron, by the removed numbers in ascending order
pub closed-taken : (rows : List Row) (m : Move) (t : ℕ) → IsLegal rows m → t < length rows → rank_without (taken_numbers rows m) t ≡ rank_without (old_tets rows m) t
closed-taken rows m t legal l =
    ap (λ k. t - k)
    (sym (rank-has (taken_numbers rows m) t (increasing-separate (taken_numbers rows m) (picked-up (has (old_tets rows m)) (length rows))))
    ∙ rank-same (has (taken_numbers rows m)) (has (old_tets rows m)) t (λ u q. taken-has rows m u (omega arith)) ∙ rank-has (old_tets rows m) t (old_tets_apart rows m legal))

pub enough : (rows : List Row) (m : Move) → IsLegal rows m → 5 - length m.core ≤ length rows
enough rows m legal =
    let a = length-taken rows m legal in
    let b = length-picked (has (old_tets rows m)) (length rows) in
    let c = rank_fits (has (old_tets rows m)) (length rows) in
    omega arith

-- the facets that the test of legality found
pub are_old : (rows : List Row) (m : Move) (facets : List Facet) → IsLegal rows m → facets ≡ old_facets rows m → AreOldFacets rows m facets
are_old rows m facets legal e = subst (λ (fs : List Facet). AreOldFacets rows m fs) (sym e) old
  where
    old : AreOldFacets rows m (old_facets rows m)
    old = record {
      are = refl;
      some = core_some m.core legal.core;
      count = (let l = length-old rows m legal in let f = core_few m.core legal.core in omega arith);
      limited = (let t = length-taken rows m legal in let b = core_some m.core legal.core in omega arith);
      each = λ k d l. old_at rows m legal k d (let q = length-old rows m legal in omega arith);
    }
