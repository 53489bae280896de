-- What the functions return, part by part.
use Rattle.std.proofs.Common.{◌≡◌, ℕ, zero, suc, ◌+◌, ◌<◌, Bool, true, false, cond, List, [], ◌∷◌, ◌++◌, length, map, get_or, take, Some, None, refl, sym, ap, ◌∙◌, subst, arith, append-nil}
use Rattle.std.specs.Prelude.{◌==◌, ◌≢◌, filter, find, option_and_then}
use Rattle.std.specs.List.{range_with_len}
use Rattle.std.specs.Option.{option_or}
use Rattle.std.proofs.lemmas.Bool.{eq-eqb, le-ltb, ne_eqb}
use Rattle.std.proofs.lemmas.List.{take_more}
use Rattle.std.proofs.lemmas.List.FromFn.{length-range_with_len}
use Rattle.std.proofs.lemmas.List.Elements.{filter-append}
use Rattle.std.proofs.lemmas.List.Folds.{find-append}
use Rattle.table_definitions.specs.Lists.{has, below}
use Rattle.table_definitions.specs.Permutation.{image}
use Rattle.table_definitions.specs.Table.{Gluing, Row, Face}
use Rattle.table_definitions.proofs.Bijections.{range-push, below-push}
use Rattle.table_definitions.proofs.Ranks.{rank, length-picked, at_rank}
use Rattle.move_definitions.specs.Moves.{Move, Facet, facet, old_facets, new_facet, facet_place_after, kept_place_after, place_after_of, place_after, facet_gluing}
use Rattle.move_definitions.specs.Undos.{taken_numbers}
use Rattle.move_laws.specs.Facets.{IsOldFacet, AreOldFacets, outer_gluing, fresh_gluing}

-- the first facet with a given tetrahedron

pub found_at : (t : ℕ) (fs : List Facet) (i : ℕ) (f : Facet) → i < length fs → f ≡ get_or fs i f → find (λ (f : Facet). f.tet == t) (take i fs) ≡ None → f.tet ≡ t → find (λ (f : Facet). f.tet == t) fs ≡ Some f
found_at t [] i f l is none e = absurd (omega arith)
found_at t (x ∷ fs) zero f l is none e = ap (λ b. cond b (Some x) (find (λ (f : Facet). f.tet == t) fs)) (eq-eqb x.tet t (ap (λ (g : Facet). g.tet) (sym is) ∙ e)) ∙ ap (λ (g : Facet). Some g) (sym is)
found_at t (x ∷ fs) (suc i) f l is none e = by_test (x.tet == t) refl (λ n. found_at t fs i f (omega arith) is n e)
  where
    by_test : (b : Bool) → (x.tet == t) ≡ b → (find (λ (f : Facet). f.tet == t) (take i fs) ≡ None → find (λ (f : Facet). f.tet == t) fs ≡ Some f) → cond (x.tet == t) (Some x) (find (λ (f : Facet). f.tet == t) fs) ≡ Some f
    by_test true q later = let z : Some x ≡ None = sym (ap (λ b. cond b (Some x) (find (λ (f : Facet). f.tet == t) (take i fs))) q) ∙ none in absurd cc
    by_test false q later =
        let n : find (λ (f : Facet). f.tet == t) (take i fs) ≡ None = sym (ap (λ b. cond b (Some x) (find (λ (f : Facet). f.tet == t) (take i fs))) q) ∙ none in
        ap (λ b. cond b (Some x) (find (λ (f : Facet). f.tet == t) fs)) q ∙ later n

pub not_yet : (t : ℕ) (fs : List Facet) (i : ℕ) (f : Facet) → i < length fs → f ≡ get_or fs i f → find (λ (f : Facet). f.tet == t) (take i fs) ≡ None → f.tet ≢ t → find (λ (f : Facet). f.tet == t) (take (i + 1) fs) ≡ None
not_yet t fs i f l is none d =
    ap (find (λ (f : Facet). f.tet == t)) (take_more fs i f l) ∙ find-append (λ (f : Facet). f.tet == t) (take i fs) (get_or fs i f ∷ [])
    ∙ ap (λ o. option_or o (find (λ (f : Facet). f.tet == t) (get_or fs i f ∷ []))) none
    ∙ ap (λ (g : Facet). find (λ (f : Facet). f.tet == t) (g ∷ [])) (sym is) ∙ ap (λ b. cond b (Some f) None) (ne_eqb f.tet t d)

-- numbers and rows that are added

pub one_number : (numbers more : List ℕ) (first label : ℕ) → numbers ≡ range_with_len first label → more ≡ numbers ++ (first + label) ∷ [] → more ≡ range_with_len first (label + 1)
one_number numbers more first label so_far e = let s : suc label ≡ label + 1 = omega arith in e ∙ ap (λ (ns : List ℕ). ns ++ (first + label) ∷ []) so_far ∙ range-push first label ∙ ap (range_with_len first) s

pub few_numbers : (numbers : List ℕ) (first label : ℕ) → numbers ≡ range_with_len first label → length numbers ≡ label
few_numbers numbers first label e = ap length e ∙ length-range_with_len first label

-- numbers that pass a test

pub one_taken : (p : ℕ → Bool) (so more : List ℕ) (t : ℕ) → so ≡ filter p (below t) → p t ≡ true → more ≡ so ++ t ∷ [] → more ≡ filter p (below (t + 1))
one_taken p so more t so_far h e =
    let s : suc t ≡ t + 1 = omega arith in
    e ∙ ap (λ (xs : List ℕ). xs ++ t ∷ []) so_far ∙ ap (λ b. filter p (below t) ++ cond b (t ∷ []) []) (sym h) ∙ sym (filter-append p (below t) (t ∷ [])) ∙ ap (filter p) (below-push t) ∙ ap (λ n. filter p (below n)) s

pub none_taken : (p : ℕ → Bool) (so : List ℕ) (t : ℕ) → so ≡ filter p (below t) → p t ≡ false → so ≡ filter p (below (t + 1))
none_taken p so t so_far h =
    let s : suc t ≡ t + 1 = omega arith in
    so_far ∙ sym (append-nil (filter p (below t))) ∙ ap (λ b. filter p (below t) ++ cond b (t ∷ []) []) (sym h) ∙ sym (filter-append p (below t) (t ∷ [])) ∙ ap (filter p) (below-push t) ∙ ap (λ n. filter p (below n)) s

pub few_taken : (rows : List Row) (m : Move) (facets : List Facet) (so : List ℕ) (t : ℕ) → AreOldFacets rows m facets → so ≡ filter (has (map (λ (f : Facet). f.tet) facets)) (below t) → t < length rows
    → has (map (λ (f : Facet). f.tet) facets) t ≡ true → length so < 4
few_taken rows m facets so t old so_far l h =
    let p : ℕ → Bool = has (map (λ (f : Facet). f.tet) facets) in
    let a : length so ≡ rank p t = ap length so_far ∙ length-picked p t in
    let b = (at_rank p (length rows) t l h).fewer in
    let c : rank p (length rows) ≡ length (taken_numbers rows m) = sym (length-picked p (length rows)) ∙ ap (λ (fs : List Facet). length (filter (has (map (λ (f : Facet). f.tet) fs)) (below (length rows)))) old.are in
    let d = old.limited in
    omega arith

-- the replacement of a face

find-in : (p : Facet → Bool) (fs : List Facet) (f : Facet) → find p fs ≡ Some f → (k : ℕ) × (k < length fs) × (get_or fs k f ≡ f)
find-in p [] f e = absurd cc
find-in p (x ∷ fs) f e = by_test (p x) refl (λ q. find-in p fs f q)
  where
    further : (k : ℕ) × (k < length fs) × (get_or fs k f ≡ f) → (k : ℕ) × (k < suc (length fs)) × (get_or (x ∷ fs) k f ≡ f)
    further y = let l = y.1 in (suc y.0, omega arith, y.2)

    by_test : (b : Bool) → p x ≡ b → (find p fs ≡ Some f → (k : ℕ) × (k < length fs) × (get_or fs k f ≡ f)) → (k : ℕ) × (k < suc (length fs)) × (get_or (x ∷ fs) k f ≡ f)
    by_test true q later =
        let z : Some x ≡ Some f = sym (ap (λ b. cond b (Some x) (find p fs)) q) ∙ e in
        (0, omega arith, cc)
    by_test false q later = further (later (sym (ap (λ b. cond b (Some x) (find p fs)) q) ∙ e))

pub old_found : (rows : List Row) (m : Move) (facets : List Facet) (t : ℕ) (f : Facet) → AreOldFacets rows m facets → Some f ≡ find (λ (f : Facet). f.tet == t) facets → (i : ℕ) × IsOldFacet rows m i f
old_found rows m facets t f old e =
    let k = find-in (λ (f : Facet). f.tet == t) facets f (sym e) in
    (length m.core + k.0, subst (λ (g : Facet). IsOldFacet rows m (length m.core + k.0) g) k.2 (old.each k.0 f k.1))

pub stand_some : (rows : List Row) (m : Move) (facets : List Facet) (f : Facet) (x : Face) (t l : ℕ) → facets ≡ old_facets rows m → Some f ≡ find (λ (f : Facet). f.tet == t) facets → t ≡ x.tet → l ≡ image f.labels x.face
    → facet_place_after rows m f l ≡ place_after rows m x
stand_some rows m facets f x t l are e et el =
    ap (facet_place_after rows m f) el
    ∙ ap (place_after_of rows m x) (e ∙ ap (λ u. find (λ (g : Facet). g.tet == u) facets) et ∙ ap (find (λ (g : Facet). g.tet == x.tet)) are)

pub stand_none : (rows : List Row) (m : Move) (facets : List Facet) (x : Face) (t : ℕ) (s : Gluing) → facets ≡ old_facets rows m → None ≡ find (λ (f : Facet). f.tet == t) facets → t ≡ x.tet → s ≡ kept_place_after rows m t
    → Some s ≡ place_after rows m x
stand_none rows m facets x t s are e et es =
    ap (λ (k : Gluing). Some k) (es ∙ ap (kept_place_after rows m) et)
    ∙ ap (place_after_of rows m x) (e ∙ ap (λ u. find (λ (g : Facet). g.tet == u) facets) et ∙ ap (find (λ (g : Facet). g.tet == x.tet)) are)

pub fresh_is : (rows : List Row) (m : Move) (own label : ℕ) (f : Facet) → IsOldFacet rows m label f → outer_gluing rows m f own ≡ fresh_gluing rows m own label
fresh_is rows m own label f F =
    let low = F.old_label in
    ap (option_and_then (λ g. outer_gluing rows m g own)) (sym F.found)
    ∙ ap (λ b. cond b (Some (facet_gluing rows m (new_facet rows m own) label)) (option_and_then (λ g. outer_gluing rows m g own) (facet rows m label))) (sym (le-ltb label (length m.core) (omega arith)))
