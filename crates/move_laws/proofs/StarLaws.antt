-- A move is legal if and only if the star of its core is a part of the boundary of a 4-simplex.
use Rattle.std.proofs.Common.{◌≡◌, ◌≢◌, ℕ, ◌<◌, inl, inr, Bool, true, List, length, map, Option, Some, None, refl, sym, ap, ◌∙◌, subst, arith}
use Rattle.std.specs.Prelude.{◌==◌, ◌||◌, option_map}
use Rattle.std.specs.List.{list_all}
use Rattle.std.proofs.lemmas.Bool.{eqb-true, cases_eq, cases_lt}
use Rattle.std.proofs.lemmas.List.{length-map}
use Rattle.basic_lemmas.proofs.Numbers.{given_apart}
use Rattle.table_definitions.specs.Lists.{below, substitute}
use Rattle.table_definitions.specs.Permutation.{IsPermutationOfFour, image, preimage, compose, four}
use Rattle.table_definitions.specs.Table.{Gluing, Row, glue, IsTable}
use Rattle.table_definitions.proofs.ListFacts.{list_all-below}
use Rattle.table_definitions.proofs.Permutations.{image_below, preimage_below, image-preimage, preimage-image, length-permutation}
use Rattle.move_definitions.specs.Moves.{Move, IsCore, Facet, own_facet, opposite, facet_across, facet}
use Rattle.move_laws.specs.Stars.{RepresentsFacet, MeetsByLabels, IsOldLabel, IsStar, LegalExactlyByStars, StarsAreTakenOut}
use Rattle.move_definitions.proofs.CoreTests.{core_size}
use Rattle.move_laws.proofs.Labels.{HasLabel, label_at, length-labels, image-map}
use Rattle.move_laws.proofs.ListedFacets.{same_some}
use Rattle.move_laws.proofs.Legal.{IsFacet, facet_is, facet-found, HasNoFault, no_fault, old_facet, old_label, facets_apart}
use Rattle.table_definitions.proofs.InPlace.{in_place-same, in_place-other}
use Rattle.move_laws.proofs.Matched.{AreGlued, same_four, image-composed, length-composed, image-four, old_glued}
use Rattle.move_laws.proofs.LegalFacets.{AreFacets, legal_from}

-- ---- from legal moves

stands_for : (rows : List Row) (i : ℕ) (f : Facet) → IsFacet rows i f → RepresentsFacet rows i f
stands_for rows i f h = record {
  in_range = h.in_range;
  missing = h.missing;
  four = length-labels i f.labels h.labels;
  labels = λ v l. (let a : HasLabel i f.labels v = label_at i f.labels h.labels v l in (a.small, a.present));
  once = λ v w l m e. sym (label_at i f.labels h.labels v l).vertex ∙ ap (preimage f.labels) e ∙ (label_at i f.labels h.labels w m).vertex;
}

-- if old facets are glued, each vertex is mapped to the vertex with its label
meets : (rows : List Row) (i k : ℕ) (f g : Facet) → IsTable rows → IsFacet rows i f → IsFacet rows k g → AreGlued rows i k f g → MeetsByLabels rows f g
meets rows i k f g table hf hg a = record {
  by = a.by;
  glued = ap (λ l. glue rows (opposite f l)) hg.missing ∙ a.glued;
  tet = a.tet;
  keeps = λ v l other.
      (let permutes : IsPermutationOfFour a.by.perm = table.permutes (opposite f k) a.by a.glued in
      let labelled : v < length f.labels = (let n = length-labels i f.labels hf.labels in omega arith) in
      let gluing : v < length a.by.perm = (let n = length-permutation a.by.perm permutes in omega arith) in
      sym (image-composed g.labels a.by.perm v gluing) ∙ ap (λ (ls : List ℕ). image ls v) a.labels ∙ image-map (substitute k i) f.labels v labelled
      ∙ in_place-other k i (image f.labels v) (λ e. other (e ∙ sym hg.missing)));
}

abbrev pub found_or : Option Facet → Facet → Facet
found_or None g = g
found_or (Some f) g = f

module _ (rows : List Row) (m : Move) (table : IsTable rows) (c : IsCore m.core) (h : HasNoFault rows m) where
  abbrev star : ℕ → Facet
  star i = found_or (facet rows m i) (own_facet m)

  star_at : (i : ℕ) → IsOldLabel m i → (facet rows m i ≡ Some (star i)) × IsFacet rows i (star i)
  star_at i l =
      let f : (f : Facet) × (facet rows m i ≡ Some f) = old_facet rows m i h c l.0 l.1 in
      let same : star i ≡ f.0 = ap (λ (o : Option Facet). found_or o (own_facet m)) f.1 in
      let found : facet rows m i ≡ Some (star i) = f.1 ∙ ap (λ (g : Facet). Some g) (sym same) in
      (found, facet_is rows m i (star i) table c h.in_range l.1 found)

  legal_star : IsStar rows m star
  legal_star = record {
    own = refl;
    represented = λ i l. stands_for rows i (star i) (star_at i l).1;
    separate = λ i k l n other e. other (facets_apart rows m h c i k (star i) (star k) (old_label (length m.core) i (core_size m.core c).1 l.0 l.1)
        (old_label (length m.core) k (core_size m.core c).1 n.0 n.1) (star_at i l).0 (star_at k n).0 e);
    meet = λ i k l n other. meets rows i k (star i) (star k) table (star_at i l).1 (star_at k n).1 (old_glued rows m i k (star i) (star k) table h c l.0 l.1 n.0 n.1 other (star_at i l).0 (star_at k n).0);
  }

-- ---- from stars

-- four different labels below 5 other than i include each label but i
fifth : ℕ → ℕ → ℕ → ℕ → ℕ → ℕ → Bool
fifth i l a b c d = (i == d) || ((l == d) || ((a == d) || ((b == d) || (c == d))))

fourth : ℕ → ℕ → ℕ → ℕ → ℕ → Bool
fourth i l a b c = (i == c) || ((l == c) || ((a == c) || ((b == c) || list_all (λ d. fifth i l a b c d) (below 5))))

third : ℕ → ℕ → ℕ → ℕ → Bool
third i l a b = (i == b) || ((l == b) || ((a == b) || list_all (λ c. fourth i l a b c) (below 5)))

second : ℕ → ℕ → ℕ → Bool
second i l a = (i == a) || ((l == a) || list_all (λ b. third i l a b) (below 5))

first : ℕ → ℕ → Bool
first i l = (i == l) || list_all (λ a. second i l a) (below 5)

no_fifth : list_all (λ i. list_all (λ l. first i l) (below 5)) (below 5) ≡ true
unfolding first second third fourth fifth
no_fifth = refl

four_of_five : (i l a b c d : ℕ) → i < 5 → l < 5 → a < 5 → b < 5 → c < 5 → d < 5
    → i ≢ l → i ≢ a → l ≢ a → i ≢ b → l ≢ b → a ≢ b → i ≢ c → l ≢ c → a ≢ c → b ≢ c → i ≢ d → l ≢ d → a ≢ d → b ≢ d → c ≢ d
    → ⊥
unfolding first second third fourth fifth
four_of_five i l a b c d hi hl ha hb hc hd il ia la ib lb ab ic lc ac bc id ld ad bd cd =
    let t0 : first i l ≡ true = list_all-below (λ l. first i l) 5 (list_all-below (λ i. list_all (λ l. first i l) (below 5)) 5 no_fifth i hi) l hl in
    let t1 : second i l a ≡ true = list_all-below (λ a. second i l a) 5 (given_apart i l (list_all (λ a. second i l a) (below 5)) t0 il) a ha in
    let t2 : list_all (λ b. third i l a b) (below 5) ≡ true = given_apart l a (list_all (λ b. third i l a b) (below 5)) (given_apart i a ((l == a) || list_all (λ b. third i l a b) (below 5)) t1 ia) la in
    let t3 : third i l a b ≡ true = list_all-below (λ b. third i l a b) 5 t2 b hb in
    let rest3 : Bool = list_all (λ c. fourth i l a b c) (below 5) in
    let t4 : rest3 ≡ true = given_apart a b rest3 (given_apart l b ((a == b) || rest3) (given_apart i b ((l == b) || ((a == b) || rest3)) t3 ib) lb) ab in
    let t5 : fourth i l a b c ≡ true = list_all-below (λ c. fourth i l a b c) 5 t4 c hc in
    let rest4 : Bool = list_all (λ d. fifth i l a b c d) (below 5) in
    let t6 : rest4 ≡ true = given_apart b c rest4 (given_apart a c ((b == c) || rest4) (given_apart l c ((a == c) || ((b == c) || rest4)) (given_apart i c ((l == c) || ((a == c) || ((b == c) || rest4))) t5 ic) lc) ac) bc in
    let t7 : fifth i l a b c d ≡ true = list_all-below (λ d. fifth i l a b c d) 5 t6 d hd in
    let t8 : (c == d) ≡ true = given_apart b d (c == d) (given_apart a d ((b == d) || (c == d)) (given_apart l d ((a == d) || ((b == d) || (c == d))) (given_apart i d ((l == d) || ((a == d) || ((b == d) || (c == d)))) t7 id) ld) ad) bd in
    cd (eqb-true c d t8)

distinct : (rows : List Row) (i : ℕ) (f : Facet) → RepresentsFacet rows i f → (v w : ℕ) → v < 4 → w < 4 → v ≢ w → image f.labels v ≢ image f.labels w
distinct rows i f h v w l m other e = other (h.once v w l m e)

-- each label but the missing one has a vertex
vertex_with : (rows : List Row) (i : ℕ) (f : Facet) → RepresentsFacet rows i f → i < 5 → (l : ℕ) → l < 5 → l ≢ i → (v : ℕ) × (v < 4) × (image f.labels v ≡ l)
vertex_with rows i f h small l low other = elim (cases_eq l (at 0)) [
  | inl e ↦ (0, omega arith, sym e)
  | inr n0 ↦ elim (cases_eq l (at 1)) [
    | inl e ↦ (1, omega arith, sym e)
    | inr n1 ↦ elim (cases_eq l (at 2)) [
      | inl e ↦ (2, omega arith, sym e)
      | inr n2 ↦ elim (cases_eq l (at 3)) [
        | inl e ↦ (3, omega arith, sym e)
        | inr n3 ↦ absurd (four_of_five i l (at 0) (at 1) (at 2) (at 3) small low (h.labels 0 (omega arith)).0 (h.labels 1 (omega arith)).0 (h.labels 2 (omega arith)).0 (h.labels 3 (omega arith)).0
            (λ e. other (sym e)) (not_i 0 (omega arith)) n0 (not_i 1 (omega arith)) n1 (separate 0 1 (omega arith) (omega arith) (omega arith))
            (not_i 2 (omega arith)) n2 (separate 0 2 (omega arith) (omega arith) (omega arith)) (separate 1 2 (omega arith) (omega arith) (omega arith))
            (not_i 3 (omega arith)) n3 (separate 0 3 (omega arith) (omega arith) (omega arith)) (separate 1 3 (omega arith) (omega arith) (omega arith)) (separate 2 3 (omega arith) (omega arith) (omega arith)))
      ]
    ]
  ]
]
  where
    at : ℕ → ℕ
    at v = image f.labels v

    not_i : (v : ℕ) → v < 4 → i ≢ at v
    not_i v lv e = (h.labels v lv).1 (sym e)

    separate : (v w : ℕ) → v < 4 → w < 4 → (v ≡ w → ⊥) → at v ≢ at w
    separate v w lv lw n = distinct rows i f h v w lv lw n

-- the vertex opposite the face is mapped to the vertex opposite the other face
module _ (rows : List Row) (i k : ℕ) (f g : Facet) (by : Gluing) (hf : RepresentsFacet rows i f) (hg : RepresentsFacet rows k g) (permutes : IsPermutationOfFour by.perm) (i_small : i < 5) (k_small : k < 5) (i_not_k : i ≢ k)
    (keeps : (v : ℕ) → v < 4 → image f.labels v ≢ k → image g.labels (image by.perm v) ≡ image f.labels v) where
  across : (v : ℕ) → v < 4 → image f.labels v ≡ k → image g.labels (image by.perm v) ≡ i
  across v l e = elim (cases_eq (image g.labels (image by.perm v)) i) [
    | inl same ↦ same
    | inr other ↦ absurd (taken other (vertex_with rows i f hf i_small (image g.labels (image by.perm v)) (there v l).0 other))
  ]
    where
      there : (w : ℕ) → w < 4 → (image g.labels (image by.perm w) < 5) × (image g.labels (image by.perm w) ≢ k)
      there w m = hg.labels (image by.perm w) (image_below by.perm permutes w m)

      taken : image g.labels (image by.perm v) ≢ i → (u : ℕ) × (u < 4) × (image f.labels u ≡ image g.labels (image by.perm v)) → ⊥
      taken other (u, low, label) =
          let not_k : image f.labels u ≢ k = λ z. (there v l).1 (sym label ∙ z) in
          let images : image by.perm u ≡ image by.perm v = hg.once (image by.perm u) (image by.perm v) (image_below by.perm permutes u low) (image_below by.perm permutes v l) (keeps u low not_k ∙ label) in
          let same : u ≡ v = sym (preimage-image by.perm permutes u low) ∙ ap (preimage by.perm) images ∙ preimage-image by.perm permutes v l in
          not_k (ap (image f.labels) same ∙ e)

  each_label : (v : ℕ) → v < 4 → image g.labels (image by.perm v) ≡ substitute k i (image f.labels v)
  each_label v l = elim (cases_eq (image f.labels v) k) [
    | inl e ↦ across v l e ∙ sym (in_place-same k i (image f.labels v) e)
    | inr other ↦ keeps v l other ∙ sym (in_place-other k i (image f.labels v) other)
  ]

  all_labels : compose g.labels by.perm ≡ map (substitute k i) f.labels
  all_labels = same_four (compose g.labels by.perm) (map (substitute k i) f.labels) (length-composed g.labels by.perm ∙ length-permutation by.perm permutes) (length-map f.labels (substitute k i) ∙ hf.four)
      (λ v l. image-composed g.labels by.perm v (let n = length-permutation by.perm permutes in omega arith) ∙ each_label v l
      ∙ sym (image-map (substitute k i) f.labels v (let n = hf.four in omega arith)))

-- facets that meet label by label are glued
glued : (rows : List Row) (i k : ℕ) (f g : Facet) → IsTable rows → RepresentsFacet rows i f → RepresentsFacet rows k g → i < 5 → k < 5 → i ≢ k → MeetsByLabels rows f g → AreGlued rows i k f g
glued rows i k f g table hf hg li lk other h =
    let there : glue rows (opposite f k) ≡ Some h.by = ap (λ l. glue rows (opposite f l)) (sym hg.missing) ∙ h.glued in
    record {
      by = h.by;
      glued = there;
      tet = h.tet;
      labels = all_labels rows i k f g h.by hf hg (table.permutes (opposite f k) h.by there) li lk other (λ v l n. h.keeps v l (λ e. n (e ∙ hg.missing)));
    }

-- a facet that meets the move's own facet is the one across its face
behind_labels_are : (i : ℕ) (own labels perm : List ℕ) → IsPermutationOfFour perm → length own ≡ 4 → length labels ≡ 4 → compose labels perm ≡ map (substitute i 4) own
    → map (λ v. substitute i 4 (image own (preimage perm v))) four ≡ labels
behind_labels_are i own labels perm permutes n k e = same_four (map (λ v. substitute i 4 (image own (preimage perm v))) four) labels refl k (λ v l.
    (let u : ℕ = preimage perm v in
    let low : u < 4 = preimage_below perm permutes v l in
    image-four (λ w. substitute i 4 (image own (preimage perm w))) v l
    ∙ sym (image-map (substitute i 4) own u (omega arith))
    ∙ ap (λ (ls : List ℕ). image ls u) (sym e)
    ∙ image-composed labels perm u (let p = length-permutation perm permutes in omega arith)
    ∙ ap (image labels) (image-preimage perm permutes v l)))

module _ (rows : List Row) (m : Move) (facets : ℕ → Facet) (table : IsTable rows) (c : IsCore m.core) (s : IsStar rows m facets) where
  four_old : IsOldLabel m 4
  four_old = (let l = (core_size m.core c).1 in omega arith, omega arith)

  own_stands : RepresentsFacet rows 4 (own_facet m)
  own_stands = subst (RepresentsFacet rows 4) s.own (s.represented 4 four_old)

  facet_from : (i : ℕ) → IsOldLabel m i → i < 4 → facet rows m i ≡ Some (facets i)
  facet_from i l less =
      let there : AreGlued rows 4 i (own_facet m) (facets i) = subst (λ (f : Facet). AreGlued rows 4 i f (facets i)) s.own
      (glued rows 4 i (facets 4) (facets i) table (s.represented 4 four_old) (s.represented i l) (omega arith) l.1 (λ e. absurd (omega arith)) (s.meet 4 i four_old l (λ e. absurd (omega arith)))) in
      let permutes : IsPermutationOfFour there.by.perm = table.permutes (opposite (own_facet m) i) there.by there.glued in
      let labels = behind_labels_are i (own_facet m).labels (facets i).labels there.by.perm permutes own_stands.four (s.represented i l).four there.labels in
      let is : facet_across (own_facet m) i there.by ≡ facets i = λ j. record { tet = there.tet j; missing = sym (s.represented i l).missing j; labels = labels j } in
      facet-found rows m i less ∙ ap (option_map (facet_across (own_facet m) i)) there.glued ∙ ap (λ (f : Facet). Some f) is

  facet_in_star : (i : ℕ) → IsOldLabel m i → facet rows m i ≡ Some (facets i)
  facet_in_star i l = elim (cases_lt i 4) [
    | inl less ↦ facet_from i l less
    | inr more ↦ (let e : i ≡ 4 = (let h = l.1 in omega arith) in ap (facet rows m) e ∙ ap (λ (f : Facet). Some f) (sym s.own) ∙ ap (λ k. Some (facets k)) (sym e))
  ]

  is_at : (i : ℕ) (f : Facet) → IsOldLabel m i → facet rows m i ≡ Some f → facets i ≡ f
  is_at i f l e = same_some (facet rows m i) (facets i) f (facet_in_star i l) e

  star_facets : AreFacets rows m
  star_facets = record {
    in_range = own_stands.in_range;
    there = λ i low high. (facets i, facet_in_star i (low, high), (s.represented i (low, high)).missing);
    separate = λ i k f g li hi lk hk ef eg t. elim (cases_eq i k) [
      | inl e ↦ e
      | inr other ↦ absurd (s.separate i k (li, hi) (lk, hk) other (ap (λ (x : Facet). x.tet) (is_at i f (li, hi) ef) ∙ t ∙ ap (λ (x : Facet). x.tet) (sym (is_at k g (lk, hk) eg))))
    ];
    glued = λ i k f g li hi lk hk other ef eg. subst (λ (y : Facet). AreGlued rows i k f y) (is_at k g (lk, hk) eg) (subst (λ (x : Facet). AreGlued rows i k x (facets k)) (is_at i f (li, hi) ef)
        (glued rows i k (facets i) (facets k) table (s.represented i (li, hi)) (s.represented k (lk, hk)) hi hk other (s.meet i k (li, hi) (lk, hk) other)));
  }

pub legal_by_stars : LegalExactlyByStars
legal_by_stars rows m table c = (
  λ e. (star rows m table c (no_fault rows m e), legal_star rows m table c (no_fault rows m e)),
  λ s. legal_from rows m c (star_facets rows m s.0 table c s.1),
)

pub stars_are_taken_out : StarsAreTakenOut
stars_are_taken_out rows m facets table c s i l = facet_in_star rows m facets table c s i l
