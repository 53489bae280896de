-- Positions of a list of numbers, read one after another.
use Rattle.std.proofs.Common.{◌≡◌, ℕ, ◌+◌, ◌<◌, ◌≤◌, Bool, true, false, List, length, get_or, set, replicate, take, refl, ap, ◌∙◌, arith, length-take-le, get_or-take}
use Rattle.std.proofs.lemmas.Grind.{common_steps}
use Rattle.std.proofs.lemmas.List.{length-replicate, length-set}
use Rattle.std.specs.Prelude.{◌≢◌, IsPermutation}
use Rattle.table_definitions.specs.Lists.{below, has}
use Rattle.table_definitions.proofs.Bijections.{not_there, onto, IsDistinct-from_before}
use Rattle.gluing_table.specs.Positions.{IsFirstBad, AreMarked, is_bad_at}

good_small : (images : List ℕ) (k : ℕ) → is_bad_at images k ≡ false → get_or images k 0 < length images
good_small images k h = grind arith

good_new : (images : List ℕ) (k : ℕ) → is_bad_at images k ≡ false → has (take k images) (get_or images k 0) ≡ false
good_new images k h = grind arith

-- if no position is bad, the images are a bijection
pub no_bad : (images : List ℕ) → ((k : ℕ) → k < length images → is_bad_at images k ≡ false) → IsPermutation images (below (length images))
no_bad images good = onto (length images) images refl (λ k l. good_small images k (good k l)) (IsDistinct-from_before images separate)
  where
    separate : (i j : ℕ) → i < j → j < length images → get_or images i 0 ≢ get_or images j 0
    separate i j l m e =
        let fresh = good_new images j (good j m) in
        let in_take : i < length (take j images) = rw (length-take-le j images (omega arith)) l in
        let same : get_or (take j images) i 0 ≡ get_or images i 0 = get_or-take j images i 0 l in
        not_there (take j images) (get_or images j 0) i fresh in_take (same ∙ e)

-- nothing is marked at first
pub none_marked : (images : List ℕ) (marks : List Bool) → marks ≡ replicate (length images) false → AreMarked images 0 marks
none_marked images marks e = record {
  one_each = ap (λ (xs : List Bool). length xs) e ∙ length-replicate (length images) false;
  was_marked = λ v l. rw e (grind (arith, common_steps));
  good = λ k l. absurd (omega (arith, l));
}

-- a number that is in range and not marked
pub marked_more : (images : List ℕ) (marks : List Bool) (i : ℕ) → i < length images → get_or images i 0 < length images
    → get_or marks (get_or images i 0) false ≡ false → AreMarked images i marks → AreMarked images (i + 1) (set marks (get_or images i 0) true)
marked_more images marks i l small fresh m = record {
  one_each = length-set _ _ _ ∙ m.one_each;
  was_marked = λ v w. grind (arith, common_steps, m.was_marked v w);
  good = λ k w. grind (arith, common_steps, m.good k, m.was_marked (get_or images i 0) small);
}

-- a number that is marked
pub marked_bad : (images : List ℕ) (marks : List Bool) (i : ℕ) → i < length images → get_or images i 0 < length images
    → get_or marks (get_or images i 0) false ≡ true → AreMarked images i marks → IsFirstBad images i
marked_bad images marks i l small was_marked m = record {
  in_range = l;
  bad = grind (arith, m.was_marked (get_or images i 0) small);
  before = m.good;
}

-- a number out of range
pub large_bad : (images : List ℕ) (marks : List Bool) (i : ℕ) → i < length images → length images ≤ get_or images i 0 → AreMarked images i marks → IsFirstBad images i
large_bad images marks i l large m = record { in_range = l; bad = grind arith; before = m.good }
