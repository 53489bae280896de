use Rattle.std.proofs.Common.{◌≡◌, ◌≢◌, ◌+◌, ◌*◌, ◌<◌, ℕ, List, length, slice_index, subst₂}
use Rattle.skeleton_class_laws.specs.Signs.{AreSignsBy}
use Rattle.skeleton_class_laws.proofs.SignLemmas.{oriented, not_orientable}
use Rattle.skeleton.proofs.signs.orientation_of.Goals as goal

abbrev AreApart : List ℕ → ℕ → Type 0
AreApart classes n = (t : ℕ) → t < n → slice_index classes (2 * t) ≢ slice_index classes (2 * t + 1)

abbrev HasJoined : List ℕ → ℕ → Type 0
HasJoined classes n = (t : ℕ) × (t < n) × (slice_index classes (2 * t) ≡ slice_index classes (2 * t + 1))

pub returns-then-is_consistent : goal.returns-then-is_consistent
returns-then-is_consistent c =
    oriented c.args.table.now c.len.ensures.is_table _ _ c.in_ok-classes.ensures.numbering
    (subst₂ AreApart c.deref.ensures.value c.len.ensures.value (c.is_consistent.ensures.separate c.if-is_consistent.true))
    _ (subst₂ (λ (classes : List ℕ) (n : ℕ). AreSignsBy classes n c.in_ok-signs.signs.items) c.deref-then-is_consistent.ensures.value c.len-then-is_consistent.ensures.value c.in_ok-signs.ensures)

pub returns : goal.returns
returns c =
    let j : HasJoined c.in_ok-classes.field-0.classes.items (length c.args.table.now) =
    subst₂ HasJoined c.deref.ensures.value c.len.ensures.value (c.is_consistent.ensures.joined c.if-is_consistent.false) in
    not_orientable c.args.table.now c.len.ensures.is_table _ _ c.in_ok-classes.ensures.numbering j.0 j.1 j.2
