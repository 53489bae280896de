-- A move has no error if its facets exist, are in different tetrahedra, and are glued label by label.
use Rattle.std.proofs.Common.{◌≡◌, ℕ, zero, suc, ◌<◌, ◌≤◌, Bool, true, false, List, length, map, drop, Option, Some, None, refl, ap, ◌∙◌, arith, inl, inr}
use Rattle.std.specs.Prelude.{◌==◌, ◌≢◌, nat_lt, filter, if◌then◌else◌}
use Rattle.std.proofs.lemmas.Bool.{eqb-true, eq-eqb, lt-ltb, ltb-true, and_from, or_cases}
use Rattle.table_definitions.specs.Lists.{has, same_list, substitute, pairs_of}
use Rattle.table_definitions.specs.Permutation.{four, compose}
use Rattle.table_definitions.specs.Table.{Row, glue}
use Rattle.table_definitions.proofs.TableLaws.{Among, four-among}
use Rattle.table_definitions.proofs.Listed.{filter-among, pairs-among, first_some-nowhere}
use Rattle.move_definitions.specs.Moves.{Move, IsCore, Facet, own_facet, opposite, facet, found_labels, tets_before, facet_fault, pair_fault, is_matched, move_fault}
use Rattle.move_definitions.specs.declared.MoveFault.TheVariants.{Repeated, NotMatched}
use Rattle.table_definitions.proofs.ListFacts.{same_list-refl}
use Rattle.move_definitions.proofs.CoreTests.{core_size}
use Rattle.move_laws.proofs.ListedFacets.{tets_of, IsOf, facet_with}
use Rattle.move_laws.proofs.Matched.{AreGlued}

found_range : (s i : ℕ) → s < 5 → Among i (drop s four) → (s ≤ i) × (i < 4)
found_range zero i l a = (omega arith, four-among i a)
found_range (suc zero) i l (inl e) = (omega arith, omega arith)
found_range (suc zero) i l (inr (inl e)) = (omega arith, omega arith)
found_range (suc zero) i l (inr (inr (inl e))) = (omega arith, omega arith)
found_range (suc zero) i l (inr (inr (inr e))) = absurd e
found_range (suc (suc zero)) i l (inl e) = (omega arith, omega arith)
found_range (suc (suc zero)) i l (inr (inl e)) = (omega arith, omega arith)
found_range (suc (suc zero)) i l (inr (inr e)) = absurd e
found_range (suc (suc (suc zero))) i l (inl e) = (omega arith, omega arith)
found_range (suc (suc (suc zero))) i l (inr e) = absurd e
found_range (suc (suc (suc (suc zero)))) i l a = absurd a
found_range (suc (suc (suc (suc (suc s))))) i l a = absurd (omega arith)

-- the conditions on the facets
pub record AreFacets (rows : List Row) (m : Move) : Type 0 where
  pub in_range : m.tet < length rows
  pub there : (i : ℕ) → length m.core ≤ i → i < 5 → (f : Facet) × (facet rows m i ≡ Some f) × (f.missing ≡ i)
  pub separate : (i k : ℕ) (f g : Facet) → length m.core ≤ i → i < 5 → length m.core ≤ k → k < 5 → facet rows m i ≡ Some f → facet rows m k ≡ Some g → f.tet ≡ g.tet → i ≡ k
  pub glued : (i k : ℕ) (f g : Facet) → length m.core ≤ i → i < 5 → length m.core ≤ k → k < 5 → i ≢ k → facet rows m i ≡ Some f → facet rows m k ≡ Some g → AreGlued rows i k f g

new_tet : (rows : List Row) (m : Move) → IsCore m.core → AreFacets rows m → (i : ℕ) (f : Facet) → length m.core ≤ i → i < 4 → facet rows m i ≡ Some f → has (tets_before rows m i) f.tet ≡ false
new_tet rows m c h i f low high e = by_test (has (tets_before rows m i) f.tet) refl
  where
    not_own : m.tet ≡ f.tet → ⊥
    not_own t = (let last : 4 ≡ i = h.separate 4 i (own_facet m) f (let limited = (core_size m.core c).1 in omega arith) (omega arith) low (omega arith) refl e t in omega arith)

    not_found : IsOf (facet rows m) (filter (λ l. nat_lt l i) (found_labels m)) f.tet → ⊥
    not_found o =
        let a : Among o.label (found_labels m) × (nat_lt o.label i ≡ true) = filter-among (λ l. nat_lt l i) o.label (found_labels m) o.among in
        let less : o.label < i = ltb-true o.label i a.1 in
        let r : (length m.core ≤ o.label) × (o.label < 4) = found_range (length m.core) o.label (core_size m.core c).1 a.0 in
        let same : o.label ≡ i = h.separate o.label i o.facet f r.0 (let l = r.1 in omega arith) low (omega arith) o.is e o.tet in
        omega arith

    by_test : (b : Bool) → has (tets_before rows m i) f.tet ≡ b → has (tets_before rows m i) f.tet ≡ false
    by_test false e = e
    by_test true e =
        absurd (elim (or_cases (m.tet == f.tet) (has (tets_of (facet rows m) (filter (λ l. nat_lt l i) (found_labels m))) f.tet) e) [
          | inl own ↦ not_own (eqb-true m.tet f.tet own)
          | inr found ↦ not_found (facet_with (facet rows m) (filter (λ l. nat_lt l i) (found_labels m)) f.tet found)
        ])

facet_fine : (rows : List Row) (m : Move) → IsCore m.core → AreFacets rows m → (i : ℕ) → Among i (found_labels m) → facet_fault rows m i (facet rows m i) ≡ None
facet_fine rows m c h i a =
    let r : (length m.core ≤ i) × (i < 4) = found_range (length m.core) i (core_size m.core c).1 a in
    let f = h.there i r.0 (let l = r.1 in omega arith) in
    ap (facet_fault rows m i) f.1 ∙ ap (λ (b : Bool). if b then Some (Repeated i) else None) (new_tet rows m c h i f.0 r.0 r.1 f.1)

matched : (rows : List Row) (i k : ℕ) (f g : Facet) → f.missing ≡ i → g.missing ≡ k → AreGlued rows i k f g → pair_fault rows (Some f) (Some g) ≡ None
matched rows i k f g ei ek a =
    let labels : same_list (compose g.labels a.by.perm) (map (substitute k i) f.labels) ≡ true = rw a.labels (same_list-refl (map (substitute k i) f.labels)) in
    let given : is_matched f g (glue rows (opposite f k)) ≡ true =
    ap (is_matched f g) a.glued
    ∙ and_from (a.by.tet == g.tet) (same_list (compose g.labels a.by.perm) (map (substitute g.missing f.missing) f.labels)) (eq-eqb a.by.tet g.tet a.tet)
    (ap (λ l. same_list (compose g.labels a.by.perm) (map (substitute l f.missing) f.labels)) ek ∙ ap (λ l. same_list (compose g.labels a.by.perm) (map (substitute k l) f.labels)) ei ∙ labels) in
    ap (λ (b : Bool). if b then None else Some (NotMatched f.missing g.missing)) (ap (λ l. is_matched f g (glue rows (opposite f l))) ek ∙ given)

pair_fine : (rows : List Row) (m : Move) → IsCore m.core → AreFacets rows m → (q : ℕ × ℕ) → Among {A = ℕ × ℕ} q (filter (λ (p : ℕ × ℕ). nat_lt p.0 p.1) (pairs_of (found_labels m) (found_labels m)))
    → pair_fault rows (facet rows m q.0) (facet rows m q.1) ≡ None
pair_fine rows m c h q a =
    let t : Among {A = ℕ × ℕ} q (pairs_of (found_labels m) (found_labels m)) × (nat_lt q.0 q.1 ≡ true) = filter-among (λ (p : ℕ × ℕ). nat_lt p.0 p.1) q (pairs_of (found_labels m) (found_labels m)) a in
    let both = pairs-among q (found_labels m) (found_labels m) t.0 in
    let less : q.0 < q.1 = ltb-true q.0 q.1 t.1 in
    let r : (length m.core ≤ q.0) × (q.0 < 4) = found_range (length m.core) q.0 (core_size m.core c).1 both.0 in
    let r' : (length m.core ≤ q.1) × (q.1 < 4) = found_range (length m.core) q.1 (core_size m.core c).1 both.1 in
    let high : q.0 < 5 = (let l = r.1 in omega arith) in
    let high' : q.1 < 5 = (let l = r'.1 in omega arith) in
    let f = h.there q.0 r.0 high in
    let g = h.there q.1 r'.0 high' in
    let glued : AreGlued rows q.0 q.1 f.0 g.0 = h.glued q.0 q.1 f.0 g.0 r.0 high r'.0 high' (λ e. absurd (omega arith)) f.1 g.1 in
    ap (λ (o : Option Facet). pair_fault rows o (facet rows m q.1)) f.1 ∙ ap (λ (o : Option Facet). pair_fault rows (Some f.0) o) g.1 ∙ matched rows q.0 q.1 f.0 g.0 f.2 g.2 glued

pub legal_from : (rows : List Row) (m : Move) → IsCore m.core → AreFacets rows m → move_fault rows m ≡ None
unfolding move_fault
legal_from rows m c h =
    let facets = first_some-nowhere (λ i. facet_fault rows m i (facet rows m i)) (found_labels m) (λ i a. facet_fine rows m c h i a) in
    let pairs = first_some-nowhere (λ (q : ℕ × ℕ). pair_fault rows (facet rows m q.0) (facet rows m q.1)) (filter (λ (p : ℕ × ℕ). nat_lt p.0 p.1) (pairs_of (found_labels m) (found_labels m))) (λ q a. pair_fine rows m c h q a) in
    rw (lt-ltb m.tet (length rows) h.in_range, facets, pairs) refl
