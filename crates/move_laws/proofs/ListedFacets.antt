-- The list of the facets of a list of labels, and the list of their tetrahedra.
use Rattle.std.proofs.Common.{◌≡◌, ℕ, suc, ◌+◌, ◌<◌, Bool, true, false, cond, List, [], ◌∷◌, length, map, get_or, Option, Some, None, refl, sym, ap, ◌∙◌, subst, arith, inl, inr}
use Rattle.std.specs.Prelude.{◌⊎◌, ◌==◌, ◌||◌, ◌&&◌, nat_lt, not, find, filter_map, count_by}
use Rattle.std.specs.List.{cons_option}
use Rattle.std.proofs.lemmas.List.Sums.{sum_by-cons}
use Rattle.std.proofs.lemmas.Bool.{eqb-true, eq-eqb, and_parts, or_cases, false≢true, lt-ltb}
use Rattle.table_definitions.specs.Lists.{has, rank_without}
use Rattle.table_definitions.proofs.TableLaws.{Among}
use Rattle.move_definitions.specs.Moves.{Facet}
use Rattle.table_definitions.specs.Replaceable.{gone_before}
use Rattle.table_definitions.proofs.Ranks.{rank, stays, count_whole, of_rank, stays_and_once}
use Rattle.table_definitions.proofs.Listed.{among_has}
use Rattle.basic_lemmas.proofs.Truths.{one_if}

abbrev pub tet_of : Facet → ℕ
tet_of f = f.tet

abbrev pub tets_of : (ℕ → Option Facet) → List ℕ → List ℕ
tets_of F ls = map tet_of (filter_map F ls)

-- the tetrahedron of a facet of one of the labels is in the list
pub has_tet : (F : ℕ → Option Facet) (ls : List ℕ) (k : ℕ) (g : Facet) → Among k ls → F k ≡ Some g → has (tets_of F ls) g.tet ≡ true
has_tet F [] k g h e = absurd h
has_tet F (l ∷ ls) k g (inl s) e =
    let at : F l ≡ Some g = ap F (sym s) ∙ e in
    let here : (g.tet == g.tet) ≡ true = eq-eqb g.tet g.tet refl in
    ap (λ (o : Option Facet). has (map tet_of (cons_option o (filter_map F ls))) g.tet) at ∙ ap (λ b. b || has (tets_of F ls) g.tet) here
has_tet F (l ∷ ls) k g (inr h) e = later (F l) (has_tet F ls k g h e)
  where
    later : (o : Option Facet) → has (tets_of F ls) g.tet ≡ true → has (map tet_of (cons_option o (filter_map F ls))) g.tet ≡ true
    later None t = t
    later (Some f) t = grind arith

-- each number in the list is the tetrahedron of a facet of one of the labels
pub record IsOf (F : ℕ → Option Facet) (ls : List ℕ) (t : ℕ) : Type 0 where
  pub label : ℕ
  pub facet : Facet
  pub among : Among label ls
  pub is : F label ≡ Some facet
  pub tet : facet.tet ≡ t

further : (F : ℕ → Option Facet) (l : ℕ) (ls : List ℕ) (t : ℕ) → IsOf F ls t → IsOf F (l ∷ ls) t
further F l ls t o = record { label = o.label; facet = o.facet; among = inr o.among; is = o.is; tet = o.tet }

pub facet_with : (F : ℕ → Option Facet) (ls : List ℕ) (t : ℕ) → has (tets_of F ls) t ≡ true → IsOf F ls t
facet_with F [] t h = absurd (false≢true h)
facet_with F (l ∷ ls) t h = by_head (F l) refl h (λ h'. facet_with F ls t h')
  where
    by_head : (o : Option Facet) → F l ≡ o → has (map tet_of (cons_option o (filter_map F ls))) t ≡ true → (has (tets_of F ls) t ≡ true → IsOf F ls t) → IsOf F (l ∷ ls) t
    by_head None e h later = further F l ls t (later h)
    by_head (Some f) e h later = pick (or_cases (f.tet == t) (has (tets_of F ls) t) h)
      where
        pick : ((f.tet == t) ≡ true) ⊎ (has (tets_of F ls) t ≡ true) → IsOf F (l ∷ ls) t
        pick (inl s) = record { label = l; facet = f; among = inl refl; is = e; tet = eqb-true f.tet t s }
        pick (inr s) = further F l ls t (later s)

-- labels whose facets have different tetrahedra
abbrev pub AreApart : (ℕ → Option Facet) → List ℕ → Type 0
AreApart F ls = (k l : ℕ) (f g : Facet) → Among k ls → Among l ls → F k ≡ Some f → F l ≡ Some g → f.tet ≡ g.tet → k ≡ l

apart_tail : (F : ℕ → Option Facet) (l : ℕ) (ls : List ℕ) → AreApart F (l ∷ ls) → AreApart F ls
apart_tail F l ls a j k f g hj hk = a j k f g (inr hj) (inr hk)

-- the facet that is found by its tetrahedron
abbrev pub found_by : (ℕ → Option Facet) → List ℕ → ℕ → Option Facet
found_by F ls t = find (λ (f : Facet). f.tet == t) (filter_map F ls)

pub same_some : {A : Type 0} (o : Option A) (x y : A) → o ≡ Some x → o ≡ Some y → x ≡ y
same_some o x y e k = cc

pub is_found : (F : ℕ → Option Facet) (ls : List ℕ) (k : ℕ) (g : Facet) → AreApart F ls → Among k ls → F k ≡ Some g → found_by F ls g.tet ≡ Some g
is_found F [] k g a h e = absurd h
is_found F (l ∷ ls) k g a h e = by_head (F l) refl h (λ h'. is_found F ls k g (apart_tail F l ls a) h' e)
  where
    by_head : (o : Option Facet) → F l ≡ o → Among k (l ∷ ls) → (Among k ls → found_by F ls g.tet ≡ Some g) → find (λ (f : Facet). f.tet == g.tet) (cons_option o (filter_map F ls)) ≡ Some g
    by_head None i (inl s) later = absurd (let P : ℕ → Type 0 = λ j. F j ≡ None in let q : F k ≡ None = subst P (sym s) i in cc)
    by_head None i (inr h') later = later h'
    by_head (Some f) i h later = by_test (f.tet == g.tet) refl
      where
        by_test : (b : Bool) → (f.tet == g.tet) ≡ b → cond b (Some f) (found_by F ls g.tet) ≡ Some g
        by_test true s =
            let same : l ≡ k = a l k f g (inl refl) h i e (eqb-true f.tet g.tet s) in
            sym i ∙ ap F same ∙ e
        by_test false s = other h
          where
            other : Among k (l ∷ ls) → found_by F ls g.tet ≡ Some g
            other (inl q) = let at : F l ≡ Some g = ap F (sym q) ∙ e in let is : f ≡ g = same_some (F l) f g i at in let t : (f.tet == g.tet) ≡ true = eq-eqb f.tet g.tet (ap tet_of is) in absurd (false≢true (sym s ∙ t))
            other (inr q) = later q

-- lists in which no number occurs twice

unfoldable pub is_distinct : List ℕ → Bool
is_distinct [] = true
is_distinct (x ∷ xs) = not (has xs x) && is_distinct xs

pub tets_distinct : (F : ℕ → Option Facet) (ls : List ℕ) → is_distinct ls ≡ true → AreApart F ls → is_distinct (tets_of F ls) ≡ true
unfolding is_distinct
tets_distinct F [] d a = refl
tets_distinct F (l ∷ ls) d a = by_head (F l) refl (tets_distinct F ls (and_parts (not (has ls l)) (is_distinct ls) d).1 (apart_tail F l ls a))
  where
    by_head : (o : Option Facet) → F l ≡ o → is_distinct (tets_of F ls) ≡ true → is_distinct (map tet_of (cons_option o (filter_map F ls))) ≡ true
    by_head None i later = later
    by_head (Some f) i later = by_test (has (tets_of F ls) f.tet) refl
      where
        by_test : (b : Bool) → has (tets_of F ls) f.tet ≡ b → (not (has (tets_of F ls) f.tet) && is_distinct (tets_of F ls)) ≡ true
        by_test false h = rw (h, later) refl
        by_test true h =
            let o : IsOf F ls f.tet = facet_with F ls f.tet h in
            let same : o.label ≡ l = a o.label l o.facet f (inr o.among) (inl refl) o.is i o.tet in
            let there : has ls l ≡ true = subst (λ k. has ls k ≡ true) same (among_has ls o.label o.among) in
            let new : not (has ls l) ≡ true = (and_parts (not (has ls l)) (is_distinct ls) d).0 in
            absurd (let q : not (has ls l) ≡ false = ap not there in false≢true (sym q ∙ new))

-- the number of facets, if each label has one
pub length-tets : (F : ℕ → Option Facet) (ls : List ℕ) → ((k : ℕ) → Among k ls → (f : Facet) × (F k ≡ Some f)) → length (tets_of F ls) ≡ length ls
length-tets F [] all = refl
length-tets F (l ∷ ls) all =
    let here : (f : Facet) × (F l ≡ Some f) = all l (inl refl) in
    let later : length (tets_of F ls) ≡ length ls = length-tets F ls (λ k h. all k (inr h)) in
    ap (λ (o : Option Facet). length (map tet_of (cons_option o (filter_map F ls)))) here.1 ∙ ap suc later

-- the new numbers of retained tetrahedra, if no removed number occurs twice

never_counted : (xs : List ℕ) (t : ℕ) → has xs t ≡ false → count_by (λ u. u == t) xs ≡ 0
never_counted [] t h = refl
never_counted (x ∷ xs) t h =
    let a : count_by (λ u. u == t) (x ∷ xs) ≡ one_if (x == t) + count_by (λ u. u == t) xs = sum_by-cons (λ u. one_if (u == t)) x xs in
    let p : (x == t) ≡ false = grind arith in
    let q : has xs t ≡ false = grind arith in
    let o : one_if (x == t) ≡ 0 = ap one_if p in
    omega (arith, never_counted xs t q)

times_one : (xs : List ℕ) (t : ℕ) → is_distinct xs ≡ true → count_by (λ u. u == t) xs ≡ one_if (has xs t)
unfolding is_distinct
times_one [] t d = refl
times_one (x ∷ xs) t d =
    let a : count_by (λ u. u == t) (x ∷ xs) ≡ one_if (x == t) + count_by (λ u. u == t) xs = sum_by-cons (λ u. one_if (u == t)) x xs in
    let p : (not (has xs x) ≡ true) × (is_distinct xs ≡ true) = and_parts (not (has xs x)) (is_distinct xs) d in
    a ∙ by_test (x == t) refl p.0 (times_one xs t p.1)
  where
    by_test : (b : Bool) → (x == t) ≡ b → not (has xs x) ≡ true → count_by (λ u. u == t) xs ≡ one_if (has xs t) → one_if (x == t) + count_by (λ u. u == t) xs ≡ one_if ((x == t) || has xs t)
    by_test true e new before =
        let at : x ≡ t = eqb-true x t e in
        let absent : has xs x ≡ false = grind arith in
        let none : count_by (λ u. u == t) xs ≡ 0 = never_counted xs t (ap (has xs) (sym at) ∙ absent) in
        rw e (omega arith)
    by_test false e new before = rw e (omega arith)

pub stays_and_gone : (gone : List ℕ) (t : ℕ) → is_distinct gone ≡ true → rank (stays gone) t + gone_before gone t ≡ t
stays_and_gone gone t d = stays_and_once gone t (λ u. times_one gone u d)

pub closed_up-rank : (gone : List ℕ) (t : ℕ) → is_distinct gone ≡ true → rank_without gone t ≡ rank (stays gone) t
closed_up-rank gone t d = omega (arith, stays_and_gone gone t d)

pub stays-count : (gone : List ℕ) (n : ℕ) → is_distinct gone ≡ true → ((k : ℕ) → k < length gone → get_or gone k 0 < n) → rank (stays gone) n + length gone ≡ n
stays-count gone n d small =
    omega (arith, stays_and_gone gone n d, count_whole (λ u. nat_lt u n) gone (λ k l. lt-ltb (get_or gone k 0) n (small k l)))

-- each number below the number of retained tetrahedra is the new number of one of them
pub comes_from : (gone : List ℕ) (n u : ℕ) → is_distinct gone ≡ true → ((k : ℕ) → k < length gone → get_or gone k 0 < n) → u + length gone < n → (t : ℕ) × (t < n) × (has gone t ≡ false) × (rank_without gone t ≡ u)
comes_from gone n u d small l =
    let many : u < rank (stays gone) n = omega (arith, stays-count gone n d small) in
    let at : (t : ℕ) × (t < n) × (stays gone t ≡ true) × (rank (stays gone) t ≡ u) = of_rank (stays gone) n u many in
    (at.0, at.1, un_not (has gone at.0) at.2, closed_up-rank gone at.0 d ∙ at.3)
  where
    un_not : (b : Bool) → not b ≡ true → b ≡ false
    un_not false e = refl
    un_not true e = absurd (false≢true e)
