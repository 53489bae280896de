-- The core of a 4-1 move is the only vertex of its class, and its link has four triangles.
use Rattle.std.proofs.Common.{◌≡◌, ◌≢◌, ℕ, ◌*◌, ◌<◌, ◌≤◌, Bool, true, false, List, [], ◌∷◌, length, map, inl, inr, refl, sym, ap, ◌∙◌, arith}
use Rattle.std.specs.Prelude.{◌==◌, ◌||◌, not}
use Rattle.std.proofs.lemmas.Bool.{cases_lt, false≢true, eqb-true, eq-eqb, ne_eqb, eqb-false, not-true, not_from_false, or_cases}
use Rattle.table_definitions.specs.Lists.{has, times_in}
use Rattle.table_definitions.specs.Table.{Row, IsTable}
use Rattle.table_definitions.specs.Classes.{IsNumbering}
use Rattle.table_definitions.specs.Places.{Place, vertex, SameVertex}
use Rattle.table_definitions.proofs.TableLaws.{Among}
use Rattle.move_definitions.specs.Moves.{Move, Facet, IsMoved, facet, vertex_of}
use Rattle.move_laws.proofs.ListedFacets.{same_some}
use Rattle.skeleton_class_laws.specs.Crossings.{vertex_at}
use Rattle.skeleton_laws.proofs.Matchings.{related_same, passing_apart, passing_is, is_passing, passing}
use Rattle.move_link_laws.proofs.Labelled.{in_facet}
use Rattle.move_link_laws.proofs.Ties.{some, IsOld, old_at}
use Rattle.move_link_laws.proofs.TiesOnce.{same_old_place}
use Rattle.move_link_laws.proofs.Buried.{Buried}
use Rattle.move_link_laws.proofs.BuriedChains.{buried_along, buried_joined}
use Rattle.skeleton_laws.proofs.Spots.{IsSpot, one_class, vertex_spot, spot_again, vertex_number_again, class_of}
use Rattle.move_link_laws.proofs.StarLabels.{off_one, label_spot}
use Rattle.skeleton_laws.proofs.LinkCorners.{is_of_class, member_is, is_member, length-members, members}

-- the numbers 1 to 4
unfoldable pub nonzero : ℕ → Bool
nonzero k = not (k == 0)

abbrev pub others : List ℕ
others = passing nonzero 5

pub four_others : length others ≡ 4
unfolding nonzero
four_others = refl

pub other_is : (k : ℕ) → Among k others → (1 ≤ k) × (k < 5)
unfolding nonzero
other_is k a = let p = passing_is nonzero 5 k a in let ne : k ≢ 0 = eqb-false k 0 (not-true (k == 0) p.1) in (omega arith, p.0)

pub is_other : (k : ℕ) → 1 ≤ k → k < 5 → Among k others
unfolding nonzero
is_other k low high = is_passing nonzero 5 k high (not_from_false (k == 0) (ne_eqb k 0 (omega arith)))

pub one_has : (l j : ℕ) → has (l ∷ []) j ≡ true → l ≡ j
one_has l j h = elim (or_cases (l == j) false h) [ inl e ↦ eqb-true l j e | inr z ↦ absurd (false≢true z) ]

module _ (old : List Row) (m : Move) (new : List Row) (table : IsTable old) (h : IsMoved old m new) where
  abbrev Old : ℕ → Facet → Type 0
  Old i f = IsOld old m new table h i f

  abbrev In : List ℕ → Place → Type 0
  In ls p = Buried old m new table h ls p

  -- a vertex has no image only if it is the core
  pub lone_core : (n : ℕ) (p : Place) (ls : List ℕ) → IsSpot n p → In ls p → (length m.core ≡ 1) × (ls ≡ 0 ∷ [])
  lone_core n p ls s b = alone ls (ap (λ (r : Place). r.vertices) (sym s.is ∙ b.from)) b.all
    where
      alone : (ls : List ℕ) → s.v ∷ [] ≡ map (vertex_of b.f) ls → ((j : ℕ) → j < length m.core → has ls j ≡ true) → (length m.core ≡ 1) × (ls ≡ 0 ∷ [])
      alone [] e all = absurd cc
      alone (l ∷ []) e all =
          let z : l ≡ 0 = one_has l 0 (all 0 (some old m new table h)) in (
            elim (cases_lt 1 (length m.core)) [
              | inl more ↦ absurd (let o : l ≡ 1 = one_has l 1 (all 1 more) in omega arith)
              | inr less ↦ (let p = some old m new table h in omega arith)
            ],
            ap (λ k. k ∷ []) z,
          )
      alone (l ∷ k ∷ ks) e all = absurd (let z : [] ≡ vertex_of b.f k ∷ map (vertex_of b.f) ks = cc in cc)

  module _ (vs : List ℕ) (n : ℕ) (numbered : IsNumbering (4 * length old) (SameVertex old) vs n) (p0 : Place) (spot0 : IsSpot (length old) p0) (b0 : In (0 ∷ []) p0) (one : length m.core ≡ 1) where
    abbrev c : ℕ
    c = class_of vs p0

    -- the class is that of the places with label 0
    pub in_class : (p : Place) → IsSpot (length old) p → In (0 ∷ []) p → class_of vs p ≡ class_of vs p0
    in_class p s b = (one_class old vs n numbered p p0 s spot0).1 (buried_joined old m new table h (0 ∷ []) p p0 b b0)

    pub of_class : (p : Place) → IsSpot (length old) p → class_of vs p ≡ class_of vs p0 → In (0 ∷ []) p
    of_class p s e = buried_along old m new table h (0 ∷ []) p0 p b0 ((one_class old vs n numbered p0 p spot0 s).0 (sym e))

    pub at_label : (k : ℕ) → 1 ≤ k → k < 5 → (f : Facet) × Old k f
    at_label k low high = old_at old m new table h k (omega arith) high

    pub zero_off : (k : ℕ) → 1 ≤ k → 0 ≢ k
    zero_off k low e = omega arith

    pub zero_in : (ks : List ℕ) (j : ℕ) → j < length m.core → has (0 ∷ ks) j ≡ true
    zero_in ks j l = let e : 0 ≡ j = omega arith in (λ i. eq-eqb 0 j e i || has ks j)

    pub buried_at : (k : ℕ) (f : Facet) → 1 ≤ k → Old k f → In (0 ∷ []) (in_facet f (0 ∷ []))
    buried_at k f low a = record { i = k; f = f; old_is = a; small = (omega arith, tt); off = off_one 0 k (zero_off k low); all = zero_in []; from = refl }

    pub spot_of : (k : ℕ) (f : Facet) → 1 ≤ k → Old k f → IsSpot (length old) (in_facet f (0 ∷ []))
    spot_of k f low a = label_spot old m new table h k 0 f a (omega arith) (zero_off k low)

    high_label : (i : ℕ) (f : Facet) → Old i f → 1 ≤ i
    high_label i f a = let l = a.low in omega arith

    -- a triangle for each of the four facets
    abbrev Triangle : ℕ → ℕ → Type 0
    Triangle i k = (f : Facet) × Old k f × (vertex i ≡ in_facet f (0 ∷ []))

    pub four_triangles : times_in vs (class_of vs p0) ≡ 4
    four_triangles =
        sym (length-members old vs n numbered (class_of vs p0))
        ∙ related_same Triangle (members old vs n numbered (class_of vs p0)) others (passing_apart (is_of_class old vs n numbered (class_of vs p0)) (4 * length old)) (passing_apart nonzero 5) forth back once once'
        ∙ four_others
      where
        forth : (i : ℕ) → Among i (members old vs n numbered (class_of vs p0)) → (k : ℕ) × Among k others × Triangle i k
        forth i a =
            let q = member_is old vs n numbered (class_of vs p0) i a in
            let b = of_class (vertex i) (vertex_spot (length old) i q.0) q.1 in
            (b.i, is_other b.i (high_label b.i b.f b.old_is) b.old_is.high, (b.f, b.old_is, b.from))

        back : (k : ℕ) → Among k others → (i : ℕ) × Among i (members old vs n numbered (class_of vs p0)) × Triangle i k
        back k a =
            let r = other_is k a in
            let f = at_label k r.0 r.1 in
            let s = spot_of k f.0 r.0 f.1 in
            (vertex_at (in_facet f.0 (0 ∷ [])), is_member old vs n numbered (class_of vs p0) (in_facet f.0 (0 ∷ [])) s (in_class (in_facet f.0 (0 ∷ [])) s (buried_at k f.0 r.0 f.1)), (f.0, f.1, spot_again (length old) (in_facet f.0 (0 ∷ [])) s))

        once : (i j k : ℕ) → Among i (members old vs n numbered (class_of vs p0)) → Among j (members old vs n numbered (class_of vs p0)) → Triangle i k → Triangle j k → i ≡ j
        once i j k a b r s =
            let same : r.0 ≡ s.0 = same_some (facet old m k) r.0 s.0 r.1.found s.1.found in
            sym (vertex_number_again i) ∙ ap vertex_at (r.2 ∙ ap (λ (f : Facet). in_facet f (0 ∷ [])) same ∙ sym s.2) ∙ vertex_number_again j

        once' : (i k l : ℕ) → Among k others → Among l others → Triangle i k → Triangle i l → k ≡ l
        once' i k l a b r s =
            (same_old_place old m new table h k l r.0 s.0 (0 ∷ []) (0 ∷ []) r.1 s.1 (omega arith, tt) (omega arith, tt) (off_one 0 k (zero_off k (other_is k a).0)) (off_one 0 l (zero_off l (other_is l b).0)) (sym r.2 ∙ s.2)).0
