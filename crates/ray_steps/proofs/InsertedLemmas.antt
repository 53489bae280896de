-- The support of a vector in which an entry is set, and of a unit vector.
use Rattle.std.proofs.Common.{◌≡◌, ℕ, ◌<◌, ◌≤◌, true, false, List, length, replicate, ltb, get_or, set, length-set, get_or-set_same, get_or-set_other, ⊎_elim, ap, sym, ◌∙◌, arith}
use Rattle.std.proofs.lemmas.Bool.{cases_eq, lt-ltb}
use Rattle.std.proofs.lemmas.List.{ext_get_or, get_or-replicate, length-replicate}
use Rattle.cone_definitions.specs.Vectors.{unit}
use Rattle.cone_definitions.proofs.Units.{length-unit, entry-unit_same, entry-unit_other}
use Rattle.support_bits.specs.Columns.{support_of}
use Rattle.support_bits.proofs.WordLemmas.{get_or-support_of, length-support_of}

-- setting an entry to a nonzero number inserts its column into the support
pub inserted : (x : List ℕ) (column left : ℕ) → column < length x → 1 ≤ left → set (support_of x) column true ≡ support_of (set x column left)
inserted x column left within some = ext_get_or false (set (support_of x) column true) (support_of (set x column left))
    (length-set (support_of x) column true ∙ length-support_of x ∙ sym (length-set x column left) ∙ sym (length-support_of (set x column left)))
    (λ j less. ⊎_elim
    (λ same. ap (λ i. get_or (set (support_of x) column true) i false) same ∙ get_or-set_same (support_of x) column true false (let n = length-support_of x in omega (arith, n, within))
    ∙ sym (get_or-support_of (set x column left) j ∙ ap (λ i. ltb 0 (get_or (set x column left) i 0)) same ∙ ap (ltb 0) (get_or-set_same x column left 0 within) ∙ lt-ltb 0 left (omega (arith, some))))
    (λ other. get_or-set_other (support_of x) column j true false other ∙ get_or-support_of x j
    ∙ sym (get_or-support_of (set x column left) j ∙ ap (ltb 0) (get_or-set_other x column j left 0 other)))
    (cases_eq j column))

-- the support of a unit vector is its column
pub unit_support : (columns place : ℕ) → place < columns → set (replicate columns false) place true ≡ support_of (unit columns place)
unit_support columns place within = ext_get_or false (set (replicate columns false) place true) (support_of (unit columns place))
    (length-set (replicate columns false) place true ∙ length-replicate columns false ∙ sym (length-support_of (unit columns place) ∙ length-unit columns place))
    (λ j less. ⊎_elim
    (λ same. ap (λ i. get_or (set (replicate columns false) place true) i false) same
    ∙ get_or-set_same (replicate columns false) place true false (let n = length-replicate columns false in omega (arith, n, within))
    ∙ sym (get_or-support_of (unit columns place) j ∙ ap (λ i. ltb 0 (get_or (unit columns place) i 0)) same ∙ ap (ltb 0) (entry-unit_same columns place within)))
    (λ other. get_or-set_other (replicate columns false) place j true false other
    ∙ get_or-replicate columns j false false (let n = length-set (replicate columns false) place true in let m = length-replicate columns false in omega (arith, less, n, m))
    ∙ sym (get_or-support_of (unit columns place) j ∙ ap (ltb 0) (entry-unit_other columns place j other)))
    (cases_eq j place))
