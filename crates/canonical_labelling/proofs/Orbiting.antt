-- Marks of the starts to which automorphisms carry marked starts.
use Rattle.std.proofs.Common.{◌≡◌, ℕ, ◌*◌, ◌<◌, ◌≤◌, Bool, true, false, List, length, get_or, sym, ap, ◌∙◌, subst, arith, ⊎_elim}
use Rattle.std.specs.Prelude.{All, slice_set}
use Rattle.std.specs.List.{slice_index_or}
use Rattle.std.proofs.lemmas.Bool.{cases_lt}
use Rattle.std.proofs.lemmas.List.{get_or_past}
use Rattle.std.proofs.lemmas.List.Elements.{All-get_or}
use Rattle.table_definitions.specs.Relabelling.{Relabelling}
use Rattle.signature_automorphism_laws.specs.Automorphisms.{IsAutomorphism, carried_number, MarkedHaveNoSmallerText}
use Rattle.signature_automorphism_laws.proofs.Marks.{carried_has_no_lesser, marked_more}
use Rattle.canonical_labelling.specs.Marks.{MarksFollow}

-- a mark that is set has an index in the list
pub marked_below : (marks : List Bool) (i : ℕ) → slice_index_or marks i false ≡ true → i < length marks
marked_below marks i e = ⊎_elim
    (λ (l : i < length marks). l)
    (λ (l : length marks ≤ i). absurd (let z = sym (get_or_past marks i false l) ∙ e in cc))
    (cases_lt i (length marks))

-- a relabelling of the list has as many starts as there are marks
pub size_of : (automorphisms : List Relabelling) (m j : ℕ) (by : Relabelling) → j < length automorphisms → by ≡ get_or automorphisms j by
    → All (λ (by : Relabelling). 24 * length by.images ≡ m) automorphisms → 24 * length by.images ≡ m
size_of automorphisms m j by l is h = subst (λ (b : Relabelling). 24 * length b.images ≡ m) (sym is) (All-get_or (λ (b : Relabelling). 24 * length b.images ≡ m) automorphisms j by l h)

-- the image of a marked start is marked
pub image_follows : (automorphisms : List Relabelling) (marks new : List Bool) (by : Relabelling) (j number image : ℕ) → j < length automorphisms → by ≡ get_or automorphisms j by
    → slice_index_or marks number false ≡ true → image ≡ carried_number by number → new ≡ slice_set marks image true → MarksFollow automorphisms marks new
image_follows automorphisms marks new by j number image l is m carried e = λ rows text table autos size h.
    let auto : IsAutomorphism rows by = subst (IsAutomorphism rows) (sym is) (All-get_or (IsAutomorphism rows) automorphisms j by l autos) in
    let below = marked_below marks number m in
    let low : number < 24 * length rows = omega (arith, below, size) in
    subst (MarkedHaveNoSmallerText rows text) (sym (e ∙ ap (λ i. slice_set marks i true) carried))
    (marked_more rows text marks (carried_number by number) (carried_has_no_lesser rows by auto number low text table (h number m)) h)

pub follows_refl : (automorphisms : List Relabelling) (marks : List Bool) → MarksFollow automorphisms marks marks
follows_refl automorphisms marks = λ rows text table autos size h. h

pub follows_on : (automorphisms others : List Relabelling) (marks next last : List Bool) → others ≡ automorphisms → length next ≡ length marks
    → MarksFollow automorphisms marks next → MarksFollow others next last → MarksFollow automorphisms marks last
follows_on automorphisms others marks next last same long first second = λ rows text table autos size h.
    second rows text table (subst (All (IsAutomorphism rows)) (sym same) autos) (size ∙ sym long) (first rows text table autos size h)

pub follows_from : (automorphisms others : List Relabelling) (marks next last : List Bool) → others ≡ automorphisms → next ≡ marks → MarksFollow others next last → MarksFollow automorphisms marks last
follows_from automorphisms others marks next last same e h =
    follows_on automorphisms others marks next last same (ap length e) (subst (MarksFollow automorphisms marks) (sym e) (follows_refl automorphisms marks)) h
