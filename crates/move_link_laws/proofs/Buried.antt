-- Places of the old table without an image in the new one: their vertices have all labels of the core.
use Rattle.std.proofs.Common.{◌≡◌, ℕ, ◌+◌, ◌-◌, ◌<◌, ◌≤◌, Bool, true, false, List, [], ◌∷◌, length, map, ◌⊎◌, inl, inr, zero, suc, sym, ap, ◌∙◌, subst, arith}
use Rattle.std.specs.Prelude.{◌==◌, ◌||◌}
use Rattle.std.proofs.lemmas.Bool.{cases_lt, false≢true, or_cases, eqb-true}
use Rattle.basic_lemmas.proofs.Truths.{by_bool}
use Rattle.table_definitions.specs.Lists.{has}
use Rattle.table_definitions.specs.Permutation.{IsPermutationOfFour, image, inverse}
use Rattle.table_definitions.specs.Table.{Row, IsTable}
use Rattle.table_definitions.specs.Places.{Place, IsPlace}
use Rattle.table_definitions.proofs.ChainLaws.{images_below, has-images}
use Rattle.table_definitions.proofs.Faces.{face_at}
use Rattle.table_definitions.proofs.PermutationLaws.{image-of_inverse}
use Rattle.table_definitions.proofs.Permutations.{inverse_permutes}
use Rattle.move_definitions.specs.Moves.{Move, Facet, IsMoved, old_tets}
use Rattle.move_laws.proofs.Labels.{ascending, new_labels}
use Rattle.move_laws.proofs.Legal.{OldFacet, old_tet_facet}
use Rattle.move_laws.proofs.Covered.{StandsForOld, IsInner, covered}
use Rattle.move_laws.proofs.Shapes.{stand_permutes}
use Rattle.move_link_laws.proofs.Labelled.{in_facet, Below5, labels_below, labels_off, vertices_again}
use Rattle.move_link_laws.proofs.Ties.{fine, limited, new_at, small_label, IsOld, is_old, old_at, Ties}
use Rattle.move_link_laws.proofs.TieShapes.{kept_tie, facet_tie}
use Rattle.move_link_laws.proofs.JoinedBack.{there_again}

-- a test that fails for some number below n, or passes for all of them
pub fails_or_all : (p : ℕ → Bool) (n : ℕ) → ((j : ℕ) × (j < n) × (p j ≡ false)) ⊎ ((j : ℕ) → j < n → p j ≡ true)
fails_or_all p zero = inr (λ j l. absurd (omega arith))
fails_or_all p (suc n) = elim (fails_or_all p n) [
  | inl w ↦ (let l = w.1 in inl (w.0, omega arith, w.2))
  | inr all ↦ by_bool (p n) (λ t. inr (λ j l. elim (cases_lt j n) [ inl m ↦ all j m | inr m ↦ (let e : n ≡ j = omega arith in subst (λ k. p k ≡ true) e t) ])) (λ f. inl (n, omega arith, f))
]

-- a face that contains all of these vertices
abbrev pub IsFree : List ℕ → Type 0
IsFree vs = (f : ℕ) × (f < 4) × (has vs f ≡ false)

pub one_of_two : (a b k : ℕ) → has (a ∷ b ∷ []) k ≡ true → (a ≡ k) ⊎ (b ≡ k)
one_of_two a b k h = elim (or_cases (a == k) ((b == k) || false) h) [
  | inl e ↦ inl (eqb-true a k e)
  | inr t ↦ elim (or_cases (b == k) false t) [ inl e ↦ inr (eqb-true b k e) | inr z ↦ absurd (false≢true z) ]
]

pub no_three : (a b : ℕ) → (a ≡ 0) ⊎ (b ≡ 0) → (a ≡ 1) ⊎ (b ≡ 1) → (a ≡ 2) ⊎ (b ≡ 2) → ⊥
no_three a b x y z = omega arith

pub free_of_two : (a b : ℕ) → IsFree (a ∷ b ∷ [])
free_of_two a b = elim (fails_or_all (has (a ∷ b ∷ [])) 4) [
  | inl w ↦ w
  | inr all ↦ absurd (no_three a b (one_of_two a b 0 (all 0 (omega arith))) (one_of_two a b 1 (all 1 (omega arith))) (one_of_two a b 2 (all 2 (omega arith))))
]

module _ (old : List Row) (m : Move) (new : List Row) (table : IsTable old) (h : IsMoved old m new) where
  abbrev Tie : Place → Place → Type 0
  Tie p q = Ties old m new table h p q

  abbrev Old : ℕ → Facet → Type 0
  Old i f = IsOld old m new table h i f

  abbrev at : ℕ → Facet
  at j = new_at old m new table h j

  -- a place in an old facet whose labels include those of the core
  pub record Buried (ls : List ℕ) (p : Place) : Type 0 where
    pub i : ℕ
    pub f : Facet
    pub old_is : Old i f
    pub small : Below5 ls
    pub off : has ls i ≡ false
    pub all : (j : ℕ) → j < length m.core → has ls j ≡ true
    pub from : p ≡ in_facet f ls

  -- a place in a new facet whose labels include all labels but the core's
  pub record NewBuried (ls : List ℕ) (q : Place) : Type 0 where
    pub j : ℕ
    pub less : j < length m.core
    pub small : Below5 ls
    pub off : has ls j ≡ false
    pub all : (i : ℕ) → length m.core ≤ i → i < 5 → has ls i ≡ true
    pub to : q ≡ in_facet (at j) ls

  pub tied_or_buried : (p : Place) → p.tet < length old → IsPlace p → IsFree p.vertices → ((q : Place) × Tie p q) ⊎ ((ls : List ℕ) × Buried ls p)
  tied_or_buried p lt place (f, lf, off) = by_bool (has (old_tets old m) p.tet) (λ e. in_star (old_tet_facet old m p.tet h.core e)) (λ e. inl (_, kept_tie old m new table h p e lt place f lf off))
    where
      in_star : OldFacet old m p.tet → ((q : Place) × Tie p q) ⊎ ((ls : List ℕ) × Buried ls p)
      in_star o = elim (fails_or_all (has ls) (length m.core)) [
        | inl w ↦ inl (in_facet (at w.0) ls, subst (λ (r : Place). Tie r (in_facet (at w.0) ls)) (sym from) (facet_tie old m new table h o.label w.0 o.facet_of ls a w.1 small off_i w.2))
        | inr all ↦ inr (ls, record { i = o.label; f = o.facet_of; old_is = a; small = small; off = off_i; all = all; from = from })
      ]
        where
          a : Old o.label o.facet_of
          a = is_old old m new table h o.label o.facet_of o.low o.high o.is

          ls : List ℕ
          ls = map (image o.facet_of.labels) p.vertices

          small : Below5 ls
          small = labels_below o.label o.facet_of.labels a.is.labels p.vertices place

          off_i : has ls o.label ≡ false
          off_i = labels_off o.label o.facet_of.labels a.is.labels p.vertices place

          from : p ≡ in_facet o.facet_of ls
          from = λ k. record { tet = sym o.tet k; vertices = sym (vertices_again o.label o.facet_of.labels a.is.labels p.vertices place) k }

  -- a place of the new table in a face that replaces an old one is the image of a place
  pull_back : (q : Place) (f : ℕ) → IsPlace q → f < 4 → has q.vertices f ≡ false → StandsForOld old m (face_at q.tet f) → (p : Place) × Tie p q
  pull_back q f place lf off o = (
    record { tet = o.old.tet; vertices = vs },
    record {
      face = o.old.face;
      by = o.by;
      tet = o.tet;
      place = images_below (inverse o.by.perm) q.vertices hi place;
      low = o.face;
      off = ap (has vs) face_is ∙ has-images (inverse o.by.perm) q.vertices f hi place lf ∙ off;
      occurs = o.occurs;
      is = λ i. record { tet = (sym o.is i).tet; vertices = sym (there_again o.by.perm q.vertices hs place) i };
    },
  )
    where
      hs : IsPermutationOfFour o.by.perm
      hs = stand_permutes old m table (fine old m new table h) h.core o.old o.by o.tet o.face o.occurs

      hi : IsPermutationOfFour (inverse o.by.perm)
      hi = inverse_permutes o.by.perm hs

      vs : List ℕ
      vs = map (image (inverse o.by.perm)) q.vertices

      face_is : o.old.face ≡ image (inverse o.by.perm) f
      face_is = sym (image-of_inverse o.by.perm o.old.face hs o.face) ∙ ap (image (inverse o.by.perm)) (λ i. (o.is i).face)

  pub new_tied_or_buried : (q : Place) → q.tet < length new → IsPlace q → IsFree q.vertices → ((p : Place) × Tie p q) ⊎ ((ls : List ℕ) × NewBuried ls q)
  new_tied_or_buried q lt place (f, lf, off) = elim (covered old m (face_at q.tet f) table (fine old m new table h) h.core (let n = h.length_is in omega arith) lf) [
    | inl o ↦ inl (pull_back q f place lf off o)
    | inr n ↦ in_star n
  ]
    where
      in_star : IsInner old m (face_at q.tet f) → ((p : Place) × Tie p q) ⊎ ((ls : List ℕ) × NewBuried ls q)
      in_star n = elim (fails_or_all (λ k. has ls (length m.core + k)) (5 - length m.core)) [
        | inl w ↦ inl (lacking (length m.core + w.0) (omega arith) (let l = w.1 in let s = limited old m new table h in omega arith) w.2)
        | inr all ↦ inr (
          ls,
          record {
            j = n.j;
            less = n.j_small;
            small = small;
            off = off_j;
            to = to;
            all = λ i low high. (let e : length m.core + (i - length m.core) ≡ i = omega arith in subst (λ k. has ls k ≡ true) e (all (i - length m.core) (omega arith)));
          },
        )
      ]
        where
          lj : n.j < 5
          lj = small_label old m new table h n.j n.j_small

          ls : List ℕ
          ls = map (image (ascending n.j)) q.vertices

          small : Below5 ls
          small = labels_below n.j (ascending n.j) (new_labels n.j lj) q.vertices place

          off_j : has ls n.j ≡ false
          off_j = labels_off n.j (ascending n.j) (new_labels n.j lj) q.vertices place

          to : q ≡ in_facet (at n.j) ls
          to = λ k. record { tet = (sym n.is k).tet; vertices = sym (vertices_again n.j (ascending n.j) (new_labels n.j lj) q.vertices place) k }

          lacking : (i : ℕ) → length m.core ≤ i → i < 5 → has ls i ≡ false → (p : Place) × Tie p q
          lacking i low high off_i =
              let g = old_at old m new table h i low high in
              (in_facet g.0 ls, subst (λ (r : Place). Tie (in_facet g.0 ls) r) (sym to) (facet_tie old m new table h i n.j g.0 ls g.1 n.j_small small off_i off_j))
