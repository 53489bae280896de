-- The inverse move is legal: it removes the facets that the move added.
use Rattle.std.proofs.Common.{◌≡◌, ℕ, zero, suc, ◌+◌, ◌-◌, ◌<◌, ◌≤◌, Bool, true, false, List, length, map, drop, Option, Some, None, refl, sym, ap, ◌∙◌, subst, arith, inl, inr}
use Rattle.std.specs.Prelude.{◌==◌, ◌≢◌, nat_lt, filter, option_map, if◌then◌else◌}
use Rattle.std.proofs.lemmas.Bool.{eqb-true, eq-eqb, lt-ltb, ltb-true, and_from, or_cases}
use Rattle.table_definitions.specs.Lists.{has, same_list, substitute, pairs_of}
use Rattle.table_definitions.specs.Permutation.{four, image, preimage, compose}
use Rattle.table_definitions.specs.Table.{Row, glue, IsTable}
use Rattle.table_definitions.proofs.TableLaws.{Among}
use Rattle.table_definitions.proofs.Listed.{filter-among, pairs-among, first_some-nowhere}
use Rattle.table_definitions.proofs.Faces.{face_at}
use Rattle.move_definitions.specs.declared.MoveFault.TheVariants.{Repeated, NotMatched}
use Rattle.move_definitions.specs.Moves.{Move, IsCore, Facet, own_facet, opposite, facet_across, facet, found_labels, tets_before, facet_fault, pair_fault, is_matched, move_fault, kept, inverse_move, IsMoved}
use Rattle.move_definitions.proofs.CoreTests.{core_size}
use Rattle.move_laws.proofs.Labels.{ascending, new_labels, label_at, HasVertex, vertex_at, length-labels, image-map}
use Rattle.move_laws.proofs.ListedFacets.{same_some, tets_of, IsOf, facet_with}
use Rattle.move_laws.proofs.Legal.{facet-found, no_fault}
use Rattle.move_laws.proofs.Covered.{kept-count}
use Rattle.move_laws.proofs.Renamed.{renamed, renamed_back, renamed-back, back-new, IsInverseCore, inverse_core, new_as_old_labels, renamed_labels, across, behind-renamed, match-renamed}

-- the inverse move, and new facet j as a facet of it

abbrev pub inverse_of : List Row → Move → Move
inverse_of old m = inverse_move (length old) m

abbrev pub new_as_old : List Row → Move → ℕ → Facet
new_as_old old m j = record { tet = kept old m + j; missing = renamed (length m.core) j; labels = new_as_old_labels (length m.core) j }

-- the facts about the move that all lemmas here use
pub record IsPlayed (old : List Row) (m : Move) (new : List Row) : Type 0 where
  pub table : IsTable old
  pub core : IsCore m.core
  pub moved : IsMoved old m new
  pub some : 0 < length m.core
  pub limited : length m.core < 5
  pub fits : 5 - length m.core ≤ length old
  pub inverse_core : IsInverseCore (length m.core) (drop (length m.core - 1) four)

pub played : (old : List Row) (m : Move) (new : List Row) → IsTable old → IsMoved old m new → IsPlayed old m new
played old m new table h = record {
  table = table;
  core = h.core;
  moved = h;
  some = (core_size m.core h.core).0;
  limited = (core_size m.core h.core).1;
  fits = kept-count old m table (no_fault old m h.legal) h.core;
  inverse_core = inverse_core (length m.core) (core_size m.core h.core).0 (core_size m.core h.core).1;
}

-- a vertex keeps its number when labels are renamed
pub renamed-vertex : (s j l : ℕ) → s < 5 → j < 5 → l < 5 → l ≢ j → preimage (new_as_old_labels s j) (renamed s l) ≡ preimage (ascending j) l
renamed-vertex s j l hs hj hl d =
    let at : HasVertex (ascending j) l = vertex_at j (ascending j) (new_labels j hj) l hl d in
    let label : image (new_as_old_labels s j) (preimage (ascending j) l) ≡ renamed s l =
    image-map (renamed s) (ascending j) (preimage (ascending j) l) (rw (length-labels j (ascending j) (new_labels j hj)) at.small) ∙ ap (renamed s) at.label in
    ap (preimage (new_as_old_labels s j)) (sym label) ∙ (label_at (renamed s j) (new_as_old_labels s j) (renamed_labels s j hs hj) (preimage (ascending j) l) at.small).vertex

-- the facets of the inverse

abbrev pub facet_by : ℕ → ℕ → List ℕ → Facet
facet_by t i ls = record { tet = t; missing = i; labels = ls }

pub renamed_zero : (s : ℕ) → 0 < s → renamed s 0 ≡ 4
unfolding renamed
renamed_zero s l = ap (λ (b : Bool). if b then (if 0 == 0 then 4 else 0 + (4 - s)) else 0 - s) (lt-ltb 0 s l)

own_inverse : (old : List Row) (m : Move) (new : List Row) → IsPlayed old m new → own_facet (inverse_of old m) ≡ new_as_old old m 0
own_inverse old m new p =
    let t : kept old m ≡ kept old m + 0 = omega arith in
    ap (λ ls. facet_by (kept old m) 4 ls) p.inverse_core.labels
    ∙ ap (λ u. facet_by u 4 (new_as_old_labels (length m.core) 0)) t
    ∙ ap (λ i. facet_by (kept old m + 0) i (new_as_old_labels (length m.core) 0)) (sym (renamed_zero (length m.core) p.some))

renamed_found : (s j : ℕ) → 0 < j → j < s → renamed s j ≡ j + (4 - s)
unfolding renamed
renamed_found s j low l =
    let z : (j == 0) ≡ false = grind arith in
    ap (λ (b : Bool). if b then (if j == 0 then 4 else j + (4 - s)) else j - s) (lt-ltb j s l) ∙ ap (λ (b : Bool). if b then 4 else j + (4 - s)) z

-- the face of one new facet opposite the label of another
pub opposite-new : (old : List Row) (m : Move) (new : List Row) → IsPlayed old m new → (j l : ℕ) → j < length m.core → l < length m.core → j ≢ l
    → glue new (opposite (new_as_old old m j) (renamed (length m.core) l)) ≡ Some (record { tet = kept old m + l; perm = across j l })
opposite-new old m new p j l hj hl d =
    let limited : length m.core < 5 = p.limited in
    ap (λ v. glue new (face_at (kept old m + j) v)) (renamed-vertex (length m.core) j l p.limited (omega arith) (omega arith) (λ e. d (sym e))) ∙ p.moved.inner j l hj hl d

found_inverse : (old : List Row) (m : Move) (new : List Row) → IsPlayed old m new → (j : ℕ) → 0 < j → j < length m.core → facet new (inverse_of old m) (renamed (length m.core) j) ≡ Some (new_as_old old m j)
found_inverse old m new p j low high =
    let s : ℕ = length m.core in
    let limited : length m.core < 5 = p.limited in
    let small : renamed s j < 4 = (let e = renamed_found s j low high in omega arith) in
    facet-found new (inverse_of old m) (renamed s j) small
    ∙ ap (λ (f : Facet). option_map (facet_across f (renamed s j)) (glue new (opposite f (renamed s j)))) (own_inverse old m new p)
    ∙ ap (option_map (facet_across (new_as_old old m 0) (renamed s j))) (opposite-new old m new p 0 j p.some high (λ e. absurd (omega arith)))
    ∙ ap (λ ls. Some (facet_by (kept old m + j) (renamed s j) ls)) (behind-renamed s j limited low high)

pub facet-inverse : (old : List Row) (m : Move) (new : List Row) → IsPlayed old m new → (j : ℕ) → j < length m.core → facet new (inverse_of old m) (renamed (length m.core) j) ≡ Some (new_as_old old m j)
facet-inverse old m new p zero l = ap (facet new (inverse_of old m)) (renamed_zero (length m.core) p.some) ∙ ap (λ (f : Facet). Some f) (own_inverse old m new p)
facet-inverse old m new p (suc j) l = found_inverse old m new p (suc j) (omega arith) l

-- an old label of the inverse is that of a new facet
pub record IsNewLabel (old : List Row) (m : Move) (new : List Row) (i : ℕ) : Type 0 where
  pub label : ℕ
  pub small : label < length m.core
  pub is : renamed (length m.core) label ≡ i
  pub facet_is : facet new (inverse_of old m) i ≡ Some (new_as_old old m label)

pub new_label : (old : List Row) (m : Move) (new : List Row) → IsPlayed old m new → (i : ℕ) → 5 - length m.core ≤ i → i < 5 → IsNewLabel old m new i
new_label old m new p i low high =
    let s : ℕ = length m.core in
    let j : ℕ = renamed_back s i in
    let small : j < s = back-new s i p.limited high low in
    let is : renamed s j ≡ i = renamed-back s i p.limited high in
    record { label = j; small = small; is = is; facet_is = ap (facet new (inverse_of old m)) (sym is) ∙ facet-inverse old m new p j small }

-- the facets that the inverse finds have different tetrahedra

among_found : (old : List Row) (m : Move) (new : List Row) → IsPlayed old m new → (i : ℕ) → Among i (found_labels (inverse_of old m)) → (5 - length m.core ≤ i) × (i < 4)
among_found old m new p i a =
    let limited : 5 - length m.core < 5 = (let l = p.some in omega arith) in
    found_range (5 - length m.core) i limited (subst (λ k. Among i (drop k four)) p.inverse_core.size a)
  where
    found_range : (s i : ℕ) → s < 5 → Among i (drop s four) → (s ≤ i) × (i < 4)
    found_range zero i l a = let r : (0 ≤ i) × (i < 4) = four_range i a in r
      where
        four_range : (i : ℕ) → Among i four → (0 ≤ i) × (i < 4)
        four_range i (inl e) = (omega arith, omega arith)
        four_range i (inr (inl e)) = (omega arith, omega arith)
        four_range i (inr (inr (inl e))) = (omega arith, omega arith)
        four_range i (inr (inr (inr (inl e)))) = (omega arith, omega arith)
        four_range i (inr (inr (inr (inr e)))) = absurd e
    found_range (suc zero) i l (inl e) = (omega arith, omega arith)
    found_range (suc zero) i l (inr (inl e)) = (omega arith, omega arith)
    found_range (suc zero) i l (inr (inr (inl e))) = (omega arith, omega arith)
    found_range (suc zero) i l (inr (inr (inr e))) = absurd e
    found_range (suc (suc zero)) i l (inl e) = (omega arith, omega arith)
    found_range (suc (suc zero)) i l (inr (inl e)) = (omega arith, omega arith)
    found_range (suc (suc zero)) i l (inr (inr e)) = absurd e
    found_range (suc (suc (suc zero))) i l (inl e) = (omega arith, omega arith)
    found_range (suc (suc (suc zero))) i l (inr e) = absurd e
    found_range (suc (suc (suc (suc zero)))) i l a = absurd a
    found_range (suc (suc (suc (suc (suc s))))) i l a = absurd (omega arith)

new_tet : (old : List Row) (m : Move) (new : List Row) → IsPlayed old m new → (i : ℕ) → 5 - length m.core ≤ i → i < 4 → (j : ℕ) → renamed (length m.core) j ≡ i → j < length m.core
    → has (tets_before new (inverse_of old m) i) (kept old m + j) ≡ false
new_tet old m new p i low high j is small = by_test (has (tets_before new (inverse_of old m) i) (kept old m + j)) refl
  where
    s : ℕ
    s = length m.core

    not_own : kept old m ≡ kept old m + j → ⊥
    not_own e =
        let z : j ≡ 0 = omega arith in
        let r : i ≡ 4 = sym is ∙ ap (renamed s) z ∙ renamed_zero s p.some in
        omega arith

    not_found : IsOf (facet new (inverse_of old m)) (filter (λ l. nat_lt l i) (found_labels (inverse_of old m))) (kept old m + j) → ⊥
    not_found o =
        let a : Among o.label (found_labels (inverse_of old m)) × (nat_lt o.label i ≡ true) = filter-among (λ l. nat_lt l i) o.label (found_labels (inverse_of old m)) o.among in
        let less : o.label < i = ltb-true o.label i a.1 in
        let r : (5 - length m.core ≤ o.label) × (o.label < 4) = among_found old m new p o.label a.0 in
        let n : IsNewLabel old m new o.label = new_label old m new p o.label r.0 (omega arith) in
        let same : o.facet ≡ new_as_old old m n.label = same_some (facet new (inverse_of old m) o.label) o.facet (new_as_old old m n.label) o.is n.facet_is in
        let tets : kept old m + n.label ≡ kept old m + j = sym (ap (λ (f : Facet). f.tet) same) ∙ o.tet in
        let labels : n.label ≡ j = omega arith in
        let twice : o.label ≡ i = sym n.is ∙ ap (renamed s) labels ∙ is in
        omega arith

    by_test : (b : Bool) → has (tets_before new (inverse_of old m) i) (kept old m + j) ≡ b → has (tets_before new (inverse_of old m) i) (kept old m + j) ≡ false
    by_test false e = e
    by_test true e =
        absurd (elim (or_cases (kept old m == kept old m + j) (has (tets_of (facet new (inverse_of old m)) (filter (λ l. nat_lt l i) (found_labels (inverse_of old m)))) (kept old m + j)) e) [
          | inl own ↦ not_own (eqb-true (kept old m) (kept old m + j) own)
          | inr found ↦ not_found (facet_with (facet new (inverse_of old m)) (filter (λ l. nat_lt l i) (found_labels (inverse_of old m))) (kept old m + j) found)
        ])

facet_fine : (old : List Row) (m : Move) (new : List Row) → IsPlayed old m new → (i : ℕ) → Among i (found_labels (inverse_of old m)) → facet_fault new (inverse_of old m) i (facet new (inverse_of old m) i) ≡ None
facet_fine old m new p i a =
    let r : (5 - length m.core ≤ i) × (i < 4) = among_found old m new p i a in
    let n : IsNewLabel old m new i = new_label old m new p i r.0 (omega arith) in
    ap (facet_fault new (inverse_of old m) i) n.facet_is ∙ ap (λ (b : Bool). if b then Some (Repeated i) else None) (new_tet old m new p i r.0 r.1 n.label n.is n.small)

-- each two facets that the inverse finds are glued label by label

pair_fine : (old : List Row) (m : Move) (new : List Row) → IsPlayed old m new → (a b : ℕ) → a < length m.core → b < length m.core → a ≢ b → pair_fault new (Some (new_as_old old m a)) (Some (new_as_old old m b)) ≡ None
pair_fine old m new p a b ha hb d =
    let s : ℕ = length m.core in
    let limited : length m.core < 5 = p.limited in
    let f : Facet = new_as_old old m a in
    let g : Facet = new_as_old old m b in
    let matched : is_matched f g (glue new (opposite f (renamed s b))) ≡ true =
    ap (is_matched f g) (opposite-new old m new p a b ha hb d)
    ∙ and_from (kept old m + b == kept old m + b) (same_list (compose (new_as_old_labels s b) (across a b)) (map (substitute (renamed s b) (renamed s a)) (new_as_old_labels s a))) (eq-eqb (kept old m + b) (kept old m + b) refl)
    (match-renamed s a b limited (omega arith) (omega arith) d) in
    ap (λ (c : Bool). if c then None else Some (NotMatched (renamed s a) (renamed s b))) matched

pair_at : (old : List Row) (m : Move) (new : List Row) → IsPlayed old m new → (q : ℕ × ℕ) → Among {A = ℕ × ℕ} q (filter (λ (p : ℕ × ℕ). nat_lt p.0 p.1) (pairs_of (found_labels (inverse_of old m)) (found_labels (inverse_of old m))))
    → pair_fault new (facet new (inverse_of old m) q.0) (facet new (inverse_of old m) q.1) ≡ None
pair_at old m new p q a =
    let t : Among {A = ℕ × ℕ} q (pairs_of (found_labels (inverse_of old m)) (found_labels (inverse_of old m))) × (nat_lt q.0 q.1 ≡ true) = filter-among (λ (p : ℕ × ℕ). nat_lt p.0 p.1) q (pairs_of (found_labels (inverse_of old m)) (found_labels (inverse_of old m))) a in
    let both = pairs-among q (found_labels (inverse_of old m)) (found_labels (inverse_of old m)) t.0 in
    let less : q.0 < q.1 = ltb-true q.0 q.1 t.1 in
    let r : (5 - length m.core ≤ q.0) × (q.0 < 4) = among_found old m new p q.0 both.0 in
    let r' : (5 - length m.core ≤ q.1) × (q.1 < 4) = among_found old m new p q.1 both.1 in
    let n : IsNewLabel old m new q.0 = new_label old m new p q.0 r.0 (omega arith) in
    let n' : IsNewLabel old m new q.1 = new_label old m new p q.1 r'.0 (omega arith) in
    let separate : n.label ≢ n'.label = λ e. (let same : q.0 ≡ q.1 = sym n.is ∙ ap (renamed (length m.core)) e ∙ n'.is in absurd (omega arith)) in
    ap (λ (o : Option Facet). pair_fault new o (facet new (inverse_of old m) q.1)) n.facet_is
    ∙ ap (λ (o : Option Facet). pair_fault new (Some (new_as_old old m n.label)) o) n'.facet_is
    ∙ pair_fine old m new p n.label n'.label n.small n'.small separate

-- the inverse move has no error
pub inverse_legal : (old : List Row) (m : Move) (new : List Row) → IsPlayed old m new → move_fault new (inverse_of old m) ≡ None
unfolding move_fault
inverse_legal old m new p =
    let some : 0 < length m.core = p.some in
    let inside : kept old m < length new = rw p.moved.length_is (omega arith) in
    let facets = first_some-nowhere (λ i. facet_fault new (inverse_of old m) i (facet new (inverse_of old m) i)) (found_labels (inverse_of old m)) (λ i a. facet_fine old m new p i a) in
    let pairs = first_some-nowhere (λ (q : ℕ × ℕ). pair_fault new (facet new (inverse_of old m) q.0) (facet new (inverse_of old m) q.1)) (filter (λ (p : ℕ × ℕ). nat_lt p.0 p.1) (pairs_of (found_labels (inverse_of old m)) (found_labels (inverse_of old m)))) (λ q a. pair_at old m new p q a) in
    rw (lt-ltb (kept old m) (length new) inside, facets, pairs) refl
