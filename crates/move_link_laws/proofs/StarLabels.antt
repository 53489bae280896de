-- Which labels of the star are those of a vertex class: the same in both tables.
use Rattle.std.proofs.Common.{◌≡◌, ◌≢◌, ℕ, ◌+◌, ◌*◌, ◌<◌, ◌≤◌, Bool, true, false, List, [], ◌∷◌, length, ◌⊎◌, inl, inr, refl, sym, ap, ◌∙◌, subst, arith}
use Rattle.std.specs.Prelude.{◌==◌, ◌&&◌, ◌||◌, ◌↔◌, not, nat_lt, if◌then◌else◌}
use Rattle.std.specs.List.{list_all}
use Rattle.std.proofs.lemmas.Bool.{cases_eq, false≢true, and_parts, eqb-true, ltb-true, ltb-false, eq-eqb, ne_eqb, eqb-false, not-true}
use Rattle.basic_lemmas.proofs.Truths.{by_bool}
use Rattle.table_definitions.specs.Lists.{has, below}
use Rattle.table_definitions.specs.Table.{Row, IsTable}
use Rattle.table_definitions.specs.Classes.{IsNumbering}
use Rattle.table_definitions.specs.Places.{IsJoined, SameVertex}
use Rattle.table_definitions.proofs.ListFacts.{list_all-below}
use Rattle.table_definitions.proofs.ChainLaws.{joined_refl, joined_step}
use Rattle.move_definitions.specs.Moves.{Move, Facet, IsMoved, facet, own_facet, vertex_of}
use Rattle.move_laws.proofs.ListedFacets.{same_some}
use Rattle.move_laws.proofs.Labels.{ascending, new_labels, vertex_at}
use Rattle.move_link_laws.proofs.Labelled.{in_facet}
use Rattle.move_link_laws.proofs.Ties.{limited, some, new_at, small_label, IsOld, old_at, old_step}
use Rattle.move_link_laws.proofs.TieShapes.{facet_tie}
use Rattle.skeleton_laws.proofs.Spots.{IsSpot, one_class, class_of}
use Rattle.move_link_laws.proofs.TiedSpots.{tie_not_buried, tie_not_new_buried, Match, class_over, class_under, all_tied, all_tied_new}
use Rattle.move_laws.proofs.StarLaws.{found_or}

-- the only label of a list
pub off_one : (l i : ℕ) → l ≢ i → has (l ∷ []) i ≡ false
off_one l i ne = λ j. ne_eqb l i ne j || false

-- whether label l is one of an old facet and of a new one, if the core has s vertices
unfoldable pub in_both : ℕ → ℕ → Bool
in_both s l = not ((s == 1) && (l == 0)) && not ((s == 4) && (l == 4))

-- an old label other than l
abbrev pub rep : ℕ → ℕ → ℕ
rep s l = if l == s then s + 1 else s

rep_test : ℕ → ℕ → Bool
rep_test s l = (s == 0) || (not (in_both s l) || (not (nat_lt (rep s l) s) && (nat_lt (rep s l) 5 && not (rep s l == l))))

pub record IsRep (s l : ℕ) : Type 0 where
  pub low : s ≤ rep s l
  pub high : rep s l < 5
  pub other : rep s l ≢ l

rep_is : (s l : ℕ) → 0 < s → s < 5 → l < 5 → in_both s l ≡ true → IsRep s l
unfolding rep_test
rep_is s l some limited ll both =
    let t = list_all-below (rep_test s) 5 (list_all-below (λ s. list_all (rep_test s) (below 5)) 5 (unfold rep_test in_both in refl) s limited) l ll in
    let t1 : (not (nat_lt (rep s l) s) && (nat_lt (rep s l) 5 && not (rep s l == l))) ≡ true = given (s == 0) (in_both s l) _ t (ne_eqb s 0 (omega arith)) both in
    let p = and_parts (not (nat_lt (rep s l) s)) (nat_lt (rep s l) 5 && not (rep s l == l)) t1 in
    let q = and_parts (nat_lt (rep s l) 5) (not (rep s l == l)) p.1 in
    record { low = ltb-false (rep s l) s (not-true (nat_lt (rep s l) s) p.0); high = ltb-true (rep s l) 5 q.0; other = eqb-false (rep s l) l (not-true (rep s l == l) q.1) }
  where
    given : (a b c : Bool) → (a || (not b || c)) ≡ true → a ≡ false → b ≡ true → c ≡ true
    given a b c t x y = (λ i. sym x i || (not (sym y i) || c)) ∙ t

not_both : (s l : ℕ) → in_both s l ≡ false → ((s ≡ 1) × (l ≡ 0)) ⊎ ((s ≡ 4) × (l ≡ 4))
unfolding in_both
not_both s l h = by_bool ((s == 1) && (l == 0)) (λ t. (let p = and_parts (s == 1) (l == 0) t in inl (eqb-true s 1 p.0, eqb-true l 0 p.1)))
    (λ t. by_bool ((s == 4) && (l == 4)) (λ u. (let p = and_parts (s == 4) (l == 4) u in inr (eqb-true s 4 p.0, eqb-true l 4 p.1))) (λ u. absurd (false≢true (sym h ∙ (λ i. not (t i) && not (u i))))))

module _ (old : List Row) (m : Move) (new : List Row) (table : IsTable old) (h : IsMoved old m new) where
  abbrev Old : ℕ → Facet → Type 0
  Old i f = IsOld old m new table h i f

  abbrev at : ℕ → Facet
  at j = new_at old m new table h j

  pub label_spot : (i l : ℕ) (f : Facet) → Old i f → l < 5 → l ≢ i → IsSpot (length old) (in_facet f (l ∷ []))
  label_spot i l f a ll ne = record { v = vertex_of f l; is = refl; below = a.is.in_range; low = (vertex_at i f.labels a.is.labels l ll ne).small }

  pub new_label_spot : (j l : ℕ) → j < length m.core → l < 5 → l ≢ j → IsSpot (length new) (in_facet (at j) (l ∷ []))
  new_label_spot j l lj ll ne = record {
    v = vertex_of (at j) l;
    is = refl;
    below = (let e = h.length_is in omega arith);
    low = (vertex_at j (ascending j) (new_labels j (small_label old m new table h j lj)) l ll ne).small;
  }

  pub label_joined : (i k l : ℕ) (f g : Facet) → Old i f → Old k g → l < 5 → l ≢ i → l ≢ k → IsJoined old (in_facet f (l ∷ [])) (in_facet g (l ∷ []))
  label_joined i k l f g a b ll ni nk = elim (cases_eq i k) [
    | inl e ↦ (let same : f ≡ g = same_some (facet old m k) f g (ap (facet old m) (sym e) ∙ a.found) b.found in subst (λ (x : Facet). IsJoined old (in_facet f (l ∷ [])) (in_facet x (l ∷ []))) same (joined_refl old (in_facet f (l ∷ []))))
    | inr ne ↦ joined_step old (in_facet f (l ∷ [])) (vertex_of f k) (in_facet g (l ∷ [])) (old_step old m new table h i k f g (l ∷ []) a b ne (ll, tt) (off_one l i ni) (off_one l k nk))
  ]

  module _ (vs : List ℕ) (n : ℕ) (numbered : IsNumbering (4 * length old) (SameVertex old) vs n) (vs' : List ℕ) (n' : ℕ) (numbered' : IsNumbering (4 * length new) (SameVertex new) vs' n') (c c' : ℕ)
      (k : Match old m new table h vs n numbered vs' n' numbered' c c') where
    -- whether the vertex with label l is of the class
    pub label_in : ℕ → Bool
    label_in l = in_both (length m.core) l && (class_of vs (in_facet (found_or (facet old m (rep (length m.core) l)) (own_facet m)) (l ∷ [])) == c)

    pub core_label : (l : ℕ) → in_both (length m.core) l ≡ false → label_in l ≡ false
    unfolding label_in
    core_label l e = ap (λ b. b && (class_of vs (in_facet (found_or (facet old m (rep (length m.core) l)) (own_facet m)) (l ∷ [])) == c)) e

    reported : (l : ℕ) (g : Facet) → in_both (length m.core) l ≡ true → Old (rep (length m.core) l) g → label_in l ≡ (class_of vs (in_facet g (l ∷ [])) == c)
    unfolding label_in
    reported l g e a = λ i. e i && (class_of vs (in_facet (found_or (a.found i) (own_facet m)) (l ∷ [])) == c)

    pub label_old : (i l : ℕ) (f : Facet) → Old i f → l < 5 → l ≢ i → (class_of vs (in_facet f (l ∷ [])) ≡ c) ↔ (label_in l ≡ true)
    label_old i l f a ll ne = by_bool (in_both (length m.core) l) both neither
      where
        both : in_both (length m.core) l ≡ true → (class_of vs (in_facet f (l ∷ [])) ≡ c) ↔ (label_in l ≡ true)
        both e =
            let r = rep_is (length m.core) l (some old m new table h) (limited old m new table h) ll e in
            let g = old_at old m new table h (rep (length m.core) l) r.low r.high in
            let off : l ≢ rep (length m.core) l = λ z. r.other (sym z) in
            let same : class_of vs (in_facet f (l ∷ [])) ≡ class_of vs (in_facet g.0 (l ∷ [])) =
            (one_class old vs n numbered (in_facet f (l ∷ [])) (in_facet g.0 (l ∷ [])) (label_spot i l f a ll ne) (label_spot (rep (length m.core) l) l g.0 g.1 ll off)).1 (label_joined i (rep (length m.core) l) l f g.0 a g.1 ll ne off) in (
              (λ z. reported l g.0 e g.1 ∙ eq-eqb (class_of vs (in_facet g.0 (l ∷ []))) c (sym same ∙ z)),
              (λ z. same ∙ eqb-true (class_of vs (in_facet g.0 (l ∷ []))) c (sym (reported l g.0 e g.1) ∙ z)),
            )

        only_core : in_both (length m.core) l ≡ false → (j : ℕ) → j < length m.core → has (l ∷ []) j ≡ true
        only_core e j lj = elim (not_both (length m.core) l e) [
          | inl z ↦ (let p = z.0 in let q = z.1 in let same : l ≡ j = omega arith in (λ x. eq-eqb l j same x || false))
          | inr z ↦ absurd (ne (let p = z.0 in let q = z.1 in let low = a.low in let high = a.high in omega arith))
        ]

        neither : in_both (length m.core) l ≡ false → (class_of vs (in_facet f (l ∷ [])) ≡ c) ↔ (label_in l ≡ true)
        neither e = (
          (λ z. absurd (let t = all_tied old m new table h vs n numbered vs' n' numbered' c c' k (in_facet f (l ∷ [])) (label_spot i l f a ll ne) z in
              tie_not_buried old m new table h (l ∷ []) (in_facet f (l ∷ [])) t.0 t.1 (record { i = i; f = f; old_is = a; small = (ll, tt); off = off_one l i ne; all = only_core e; from = refl }))),
          (λ z. absurd (false≢true (sym (core_label l e) ∙ z))),
        )

    pub label_new : (j l : ℕ) → j < length m.core → l < 5 → l ≢ j → (class_of vs' (in_facet (at j) (l ∷ [])) ≡ c') ↔ (label_in l ≡ true)
    label_new j l lj ll ne = by_bool (in_both (length m.core) l) both neither
      where
        both : in_both (length m.core) l ≡ true → (class_of vs' (in_facet (at j) (l ∷ [])) ≡ c') ↔ (label_in l ≡ true)
        both e =
            let r = rep_is (length m.core) l (some old m new table h) (limited old m new table h) ll e in
            let g = old_at old m new table h (rep (length m.core) l) r.low r.high in
            let off : l ≢ rep (length m.core) l = λ z. r.other (sym z) in
            let tie = facet_tie old m new table h (rep (length m.core) l) j g.0 (l ∷ []) g.1 lj (ll, tt) (off_one l (rep (length m.core) l) off) (off_one l j ne) in
            let spot = label_spot (rep (length m.core) l) l g.0 g.1 ll off in (
              (λ z. reported l g.0 e g.1 ∙ eq-eqb (class_of vs (in_facet g.0 (l ∷ []))) c (class_under old m new table h vs n numbered vs' n' numbered' c c' k (in_facet g.0 (l ∷ [])) (in_facet (at j) (l ∷ [])) spot tie z)),
              (λ z. class_over old m new table h vs n numbered vs' n' numbered' c c' k (in_facet g.0 (l ∷ [])) (in_facet (at j) (l ∷ [])) spot tie (eqb-true (class_of vs (in_facet g.0 (l ∷ []))) c (sym (reported l g.0 e g.1) ∙ z))),
            )

        only_added : in_both (length m.core) l ≡ false → (i : ℕ) → length m.core ≤ i → i < 5 → has (l ∷ []) i ≡ true
        only_added e i low high = elim (not_both (length m.core) l e) [
          | inl z ↦ absurd (ne (let p = z.0 in let q = z.1 in omega arith))
          | inr z ↦ (let p = z.0 in let q = z.1 in let same : l ≡ i = omega arith in (λ x. eq-eqb l i same x || false))
        ]

        neither : in_both (length m.core) l ≡ false → (class_of vs' (in_facet (at j) (l ∷ [])) ≡ c') ↔ (label_in l ≡ true)
        neither e = (
          (λ z. absurd (let t = all_tied_new old m new table h vs n numbered vs' n' numbered' c c' k (in_facet (at j) (l ∷ [])) (new_label_spot j l lj ll ne) z in
              tie_not_new_buried old m new table h (l ∷ []) t.0 (in_facet (at j) (l ∷ [])) t.1 (record { j = j; less = lj; small = (ll, tt); off = off_one l j ne; all = only_added e; to = refl }))),
          (λ z. absurd (false≢true (sym (core_label l e) ∙ z))),
        )
