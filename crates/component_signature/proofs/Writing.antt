-- The relabelling of the tetrahedra of a component, written one after another.
use Rattle.std.proofs.Common.{◌≡◌, ◌≢◌, ℕ, ◌<◌, ◌+◌, inl, inr, List, [], length, All, Contains, slice_index, slice_index_or, slice_set, sym, ap, subst, refl, ◌∙◌, arith}
use Rattle.std.proofs.lemmas.Bool.{cases_order}
use Rattle.std.proofs.lemmas.List.{get_or-set_same, get_or-set_other, length-set}
use Rattle.basic_lemmas.proofs.Members.{contains_at, Ascends}
use Rattle.table_definitions.specs.Relabelling.{Relabelling, relabelled_place}
use Rattle.component_definitions.specs.Parts.{Part}
use Rattle.component_laws.proofs.Numbers.{stands_once}

-- the entries of the first i tetrahedra of the component are written, and no others
pub record IsWritten (old now : Relabelling) (part other : Part) (by : Relabelling) (i : ℕ) : Type 0 where
  pub goes : (k : ℕ) → k < i → relabelled_place now (slice_index part.numbers k) ≡ record { tet = slice_index other.numbers (slice_index by.images k); perm = slice_index_or by.perms k [] }
  pub others : (t : ℕ) → ((k : ℕ) → k < i → slice_index part.numbers k ≡ t → ⊥) → relabelled_place now t ≡ relabelled_place old t
  pub images : length now.images ≡ length old.images
  pub perms : length now.perms ≡ length old.perms

pub none_written : (old : Relabelling) (part other : Part) (by : Relabelling) → IsWritten old old part other by 0
none_written old part other by = record { goes = λ k l. absurd (omega arith); others = λ t h. refl; images = refl; perms = refl }

abbrev set_at : Relabelling → ℕ → ℕ → List ℕ → Relabelling
set_at by t image perm = record { images = slice_set by.images t image; perms = slice_set by.perms t perm }

set_here : (by : Relabelling) (t image : ℕ) (perm : List ℕ) → t < length by.images → t < length by.perms → relabelled_place (set_at by t image perm) t ≡ record { tet = image; perm = perm }
set_here by t image perm li lp = let a = get_or-set_same by.images t image 0 li in let b = get_or-set_same by.perms t perm [] lp in λ i. record { tet = a i; perm = b i }

set_elsewhere : (by : Relabelling) (t u image : ℕ) (perm : List ℕ) → u ≢ t → relabelled_place (set_at by t image perm) u ≡ relabelled_place by u
set_elsewhere by t u image perm n = let a = get_or-set_other by.images t u image 0 n in let b = get_or-set_other by.perms t u perm [] n in λ i. record { tet = a i; perm = b i }

pub one_written : (old now next : Relabelling) (part other : Part) (by : Relabelling) (i t image : ℕ) (perm : List ℕ) → Ascends part.numbers → i < length part.numbers → t ≡ slice_index part.numbers i → t < length now.images → t < length now.perms
    → image ≡ slice_index other.numbers (slice_index by.images i) → perm ≡ slice_index_or by.perms i [] → next ≡ record { images = slice_set now.images t image; perms = slice_set now.perms t perm }
    → IsWritten old now part other by i → IsWritten old next part other by (i + 1)
one_written old now next part other by i t image perm up l here li lp to by_perm set w = subst (λ (r : Relabelling). IsWritten old r part other by (i + 1)) (sym set) (record {
  goes = λ k m. elim (cases_order k i) [
    | inl same ↦ ap (λ n. relabelled_place (set_at now t image perm) (slice_index part.numbers n)) same ∙ ap (relabelled_place (set_at now t image perm)) (sym here) ∙ set_here now t image perm li lp
        ∙ (λ j. record { tet = to j; perm = by_perm j }) ∙ ap (λ n. record { tet = slice_index other.numbers (slice_index by.images n); perm = slice_index_or by.perms n [] }) (sym same)
    | inr (inl less) ↦ set_elsewhere now t (slice_index part.numbers k) image perm (λ e. separate k less (e ∙ here)) ∙ w.goes k less
    | inr (inr exceeded) ↦ absurd (omega arith)
  ];
  others = λ u h. set_elsewhere now t u image perm (λ e. h i (omega arith) (sym here ∙ sym e)) ∙ w.others u (λ k m. h k (omega arith));
  images = length-set now.images t image ∙ w.images;
  perms = length-set now.perms t perm ∙ w.perms;
})
  where
    separate : (k : ℕ) → k < i → slice_index part.numbers k ≡ slice_index part.numbers i → ⊥
    separate k less e = let same : k ≡ i = stands_once part.numbers up k i (omega arith) l e in omega arith

-- if all are written, no entry of another component has changed
pub others_kept : (old now : Relabelling) (part other : Part) (by : Relabelling) (i : ℕ) → i ≡ length part.numbers → IsWritten old now part other by i → (t : ℕ) → (Contains part.numbers t → ⊥) → relabelled_place now t ≡ relabelled_place old t
others_kept old now part other by i whole w t h = w.others t (λ k l e. h (contains_at part.numbers k t (omega (arith, whole)) e))

pub entry_below : (items numbers : List ℕ) (m i : ℕ) → items ≡ numbers → All (λ t. t < m) numbers → i < length items → slice_index_or items i 0 < m
entry_below items numbers m i e all l = subst (λ (ns : List ℕ). slice_index_or ns i 0 < m) (sym e) (all i 0 (omega (arith, ap length e)))
