-- Corners by numbers, and their steps.
use Rattle.std.proofs.Common.{◌≡◌, ℕ, zero, suc, ◌+◌, ◌*◌, ◌/◌, ◌%◌, ◌<◌, ◌≤◌, List, [], ◌∷◌, length, Option, Some, None, refl, sym, ap, ◌∙◌, arith, subst}
use Rattle.std.specs.Prelude.{option_map}
use Rattle.std.specs.List.{slice_index_or}
use Rattle.table_definitions.specs.Lists.{same_list}
use Rattle.table_definitions.specs.Permutation.{image, compose, inverse, index, is_permutation, words, preimage, IsPermutationOfFour}
use Rattle.table_definitions.specs.Table.{Gluing, Face, Row, glue, inverse_gluing, IsTable}
use Rattle.skeleton_definitions.specs.Corners.{step, corner_across, Corner}
use Rattle.table_definitions.proofs.Permutations.{by_pairs, compose_permutes, index_below, words_at, image-compose, index-words, words_permute}
use Rattle.table_definitions.proofs.TableLaws.{glued_tet}
use Rattle.table_definitions.proofs.ListFacts.{same_list-true}
use Rattle.table_walk_laws.specs.Walks.{IsInjectiveBelow, IsUndoneBy, step_of}
use Rattle.table_walk_laws.proofs.Steps.{undone_is_injective}
use Rattle.skeleton_class_laws.specs.Rounds.{word_at, corner_by, corner_at, swap, word_across, next_corner, corner_word}

-- the corner with a number, and the next corner, as the code computes them
pub corner_at-is : (k : ℕ) (p : List ℕ) → p ≡ word_at k → corner_by (k / 24) p ≡ corner_at k
unfolding corner_at
corner_at-is k p e = ap (corner_by (k / 24)) e

pub next_corner-free : (rows : List Row) (k : ℕ) → glue rows (record { tet = k / 24; face = image (word_at k) 2 }) ≡ None → next_corner rows k ≡ None
unfolding next_corner
next_corner-free rows k h = ap (λ (o : Option Gluing). option_map (λ (g : Gluing). 24 * g.tet + index (word_across g.perm (word_at k))) o) h

pub next_corner-is : (rows : List Row) (k : ℕ) (g : Gluing) → glue rows (record { tet = k / 24; face = image (word_at k) 2 }) ≡ Some g
    → next_corner rows k ≡ Some (24 * g.tet + index (word_across g.perm (word_at k)))
unfolding next_corner
next_corner-is rows k g h = ap (λ (o : Option Gluing). option_map (λ (g : Gluing). 24 * g.tet + index (word_across g.perm (word_at k))) o) h

pub next_corner-by : (rows : List Row) (k : ℕ) (g : Gluing) (p q : List ℕ) (x y : ℕ) → p ≡ word_at k → glue rows (record { tet = k / 24; face = image p 2 }) ≡ Some g → x ≡ g.tet
    → q ≡ compose (compose g.perm p) swap → y ≡ index q → Some (24 * x + y) ≡ next_corner rows k
unfolding word_across
next_corner-by rows k g p q x y ep h ex eq ey =
    (λ i. Some (24 * ex i + ey i)) ∙ ap (λ (w : List ℕ). Some (24 * g.tet + index w)) (eq ∙ ap (λ (w : List ℕ). compose (compose g.perm w) swap) ep)
    ∙ sym (next_corner-is rows k g (subst (λ (w : List ℕ). glue rows (record { tet = k / 24; face = image w 2 }) ≡ Some g) ep h))

-- the words of corners across gluings
pub swap_permutes : IsPermutationOfFour swap
unfolding is_permutation
swap_permutes = refl

pub word_permutes : (k : ℕ) → IsPermutationOfFour (word_at k)
word_permutes k = words_permute (k % 24) (omega arith)

pub behind_permutes : (g p : List ℕ) → IsPermutationOfFour g → IsPermutationOfFour p → IsPermutationOfFour (word_across g p)
unfolding word_across
behind_permutes g p hg hp = compose_permutes (compose g p) swap (compose_permutes g p hg hp) swap_permutes

-- the word of the corner across a gluing is the word across the gluing of the corner's word
corner_word-behind : (k : Corner) (g : Gluing) → corner_word (corner_across k g) ≡ word_across g.perm (corner_word k)
unfolding word_across compose
corner_word-behind k g = refl

pub corner_behind_permutes : (k : Corner) (g : Gluing) → IsPermutationOfFour g.perm → IsPermutationOfFour (corner_word k) → IsPermutationOfFour (corner_word (corner_across k g))
corner_behind_permutes k g hg hk = subst IsPermutationOfFour (sym (corner_word-behind k g)) (behind_permutes g.perm (corner_word k) hg hk)

pub behind_images : (g p : List ℕ) → IsPermutationOfFour g → IsPermutationOfFour p
    → (image (word_across g p) 0 ≡ image g (image p 0)) × (image (word_across g p) 1 ≡ image g (image p 1)) × (image (word_across g p) 2 ≡ image g (image p 3)) × (image (word_across g p) 3 ≡ image g (image p 2))
unfolding word_across compose
behind_images g p hg hp = (part 0 (omega arith), part 1 (omega arith), part 3 (omega arith), part 2 (omega arith))
  where
    part : (v : ℕ) → v < 4 → image (compose g p) v ≡ image g (image p v)
    part v l = image-compose g p hp v l

behind_back : (g p : List ℕ) → IsPermutationOfFour g → IsPermutationOfFour p → compose (inverse g) (compose (word_across g p) swap) ≡ p
unfolding word_across compose inverse preimage
behind_back g p hg hp = same_list-true (compose (inverse g) (compose (word_across g p) swap)) p
    (by_pairs (λ x y. same_list (compose (inverse x) (compose (word_across x y) swap)) y) refl g p hg hp)

-- the parts of a number
parts : (t i : ℕ) → i < 24 → ((24 * t + i) / 24 ≡ t) × ((24 * t + i) % 24 ≡ i)
parts t i l = let d : (24 * t + i) / 24 ≡ t = omega arith in let r : (24 * t + i) % 24 ≡ i = omega arith in (d, r)

pub word_of : (t : ℕ) (q : List ℕ) → IsPermutationOfFour q → ((24 * t + index q) / 24 ≡ t) × (word_at (24 * t + index q) ≡ q)
word_of t q h = let p = parts t (index q) (index_below q h) in (p.0, ap (λ i. slice_index_or words i []) p.1 ∙ words_at q h)

pub index_of_word : (k : ℕ) → index (word_at k) ≡ k % 24
index_of_word k = index-words (k % 24) (omega arith)

-- what a step does
pub record Turns (rows : List Row) (k m : ℕ) : Type 0 where
  pub gluing : Gluing
  pub glued : glue rows (record { tet = k / 24; face = image (word_at k) 2 }) ≡ Some gluing
  pub lands : m ≡ 24 * gluing.tet + index (word_across gluing.perm (word_at k))

pub turns : (rows : List Row) (k m : ℕ) → next_corner rows k ≡ Some m → Turns rows k m
turns rows k m e = by_glue (glue rows (record { tet = k / 24; face = image (word_at k) 2 })) refl
  where
    by_glue : (o : Option Gluing) → glue rows (record { tet = k / 24; face = image (word_at k) 2 }) ≡ o → Turns rows k m
    by_glue None h = absurd (let z : None ≡ Some m = sym (next_corner-free rows k h) ∙ e in cc)
    by_glue (Some g) h = record { gluing = g; glued = h; lands = let z : Some (24 * g.tet + index (word_across g.perm (word_at k))) ≡ Some m = sym (next_corner-is rows k g h) ∙ e in cc }

module _ (rows : List Row) (table : IsTable rows) where
  -- the step back
  unfoldable back : ℕ → Option ℕ
  back m = option_map (λ (g : Gluing). 24 * g.tet + index (compose g.perm (compose (word_at m) swap))) (glue rows (record { tet = m / 24; face = image (word_at m) 3 }))

  undone : IsUndoneBy (next_corner rows) back
  unfolding back
  undone k m e =
      let s = turns rows k m e in
      let g = s.gluing in
      let p = word_at k in
      let q = word_across g.perm p in
      let x : Face = record { tet = k / 24; face = image p 2 } in
      let hg = table.permutes x g s.glued in
      let hp = word_permutes k in
      let w = word_of g.tet q (behind_permutes g.perm p hg hp) in
      let tet : m / 24 ≡ g.tet = ap (λ n. n / 24) s.lands ∙ w.0 in
      let word : word_at m ≡ q = ap word_at s.lands ∙ w.1 in
      let face : image (word_at m) 3 ≡ image g.perm (image p 2) = ap (λ (u : List ℕ). image u 3) word ∙ (behind_images g.perm p hg hp).3 in
      let glued : glue rows (record { tet = m / 24; face = image (word_at m) 3 }) ≡ Some (inverse_gluing x g) =
      (λ i. glue rows (record { tet = tet i; face = face i })) ∙ table.leads_back x g s.glued in
      let home : compose (inverse g.perm) (compose (word_at m) swap) ≡ p = ap (λ (u : List ℕ). compose (inverse g.perm) (compose u swap)) word ∙ behind_back g.perm p hg hp in
      let number : index (compose (inverse g.perm) (compose (word_at m) swap)) ≡ k % 24 = ap index home ∙ index_of_word k in
      let same : 24 * (k / 24) + index (compose (inverse g.perm) (compose (word_at m) swap)) ≡ k = omega (arith, number) in
      ap (λ (o : Option Gluing). option_map (λ (h : Gluing). 24 * h.tet + index (compose h.perm (compose (word_at m) swap))) o) glued ∙ ap Some same

  pub within : (k m : ℕ) → k < 24 * length rows → next_corner rows k ≡ Some m → m < 24 * length rows
  within k m l e =
      let s = turns rows k m e in
      let hg = table.permutes _ s.gluing s.glued in
      let t : s.gluing.tet < length rows = table.in_range _ s.gluing s.glued in
      let i : index (word_across s.gluing.perm (word_at k)) < 24 = index_below (word_across s.gluing.perm (word_at k)) (behind_permutes s.gluing.perm (word_at k) hg (word_permutes k)) in
      omega (arith, s.lands)

  pub next_injective : IsInjectiveBelow (24 * length rows) (next_corner rows)
  next_injective = undone_is_injective (24 * length rows) (next_corner rows) back undone within

  -- a step by numbers is a step
  pub step_corner : (k : ℕ) → step rows (corner_at k) ≡ option_map corner_at (next_corner rows k)
  unfolding corner_at next_corner
  step_corner k = by_glue (glue rows (record { tet = k / 24; face = image (word_at k) 2 })) refl
    where
      by_glue : (o : Option Gluing) → glue rows (record { tet = k / 24; face = image (word_at k) 2 }) ≡ o
          → option_map (corner_across (corner_at k)) o ≡ option_map corner_at (option_map (λ (g : Gluing). 24 * g.tet + index (word_across g.perm (word_at k))) o)
      by_glue None h = refl
      by_glue (Some g) h = ap Some landed
        where
          hg : IsPermutationOfFour g.perm
          hg = table.permutes _ g h

          landed : corner_across (corner_at k) g ≡ corner_at (24 * g.tet + index (word_across g.perm (word_at k)))
          landed =
              let w = word_of g.tet (word_across g.perm (word_at k)) (behind_permutes g.perm (word_at k) hg (word_permutes k)) in
              let b = behind_images g.perm (word_at k) hg (word_permutes k) in
              sym ((λ i. corner_by (w.0 i) (w.1 i)) ∙ (λ i. record { tet = g.tet; a = b.0 i; b = b.1 i; c = b.2 i; d = b.3 i }))

-- there is no entry after the last corner
pub none_past : (xs : List (Option ℕ)) (k : ℕ) → length xs ≤ k → slice_index_or xs k None ≡ None
none_past [] k l = refl
none_past (x ∷ xs) zero l = absurd (omega arith)
none_past (x ∷ xs) (suc k) l = none_past xs k (omega arith)

pub no_next : (rows : List Row) (k : ℕ) → 24 * length rows ≤ k → next_corner rows k ≡ None
no_next rows k l = by_glue (glue rows (record { tet = k / 24; face = image (word_at k) 2 })) refl
  where
    by_glue : (o : Option Gluing) → glue rows (record { tet = k / 24; face = image (word_at k) 2 }) ≡ o → next_corner rows k ≡ None
    by_glue None h = next_corner-free rows k h
    by_glue (Some g) h = let t : k / 24 < length rows = glued_tet rows (record { tet = k / 24; face = image (word_at k) 2 }) g h in absurd (omega arith)

-- the table of steps is injective if the steps are
pub table_injective : (rows : List Row) (next : List (Option ℕ)) → IsTable rows → length next ≡ 24 * length rows → ((k : ℕ) → step_of next k ≡ next_corner rows k) → IsInjectiveBelow (length next) (step_of next)
table_injective rows next table size same = record {
  within = λ x y l e. omega (arith, (next_injective rows table).within x y (omega arith) (sym (same x) ∙ e));
  injective = λ x y z lx ly ex ey. (next_injective rows table).injective x y z (omega arith) (omega arith) (sym (same x) ∙ ex) (sym (same y) ∙ ey);
}
