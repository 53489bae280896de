-- The Euler characteristic of a closed table without invalid edges is at least 0, and 0 if and only if each link has 2.
use Rattle.std.proofs.Common.{◌≡◌, List, [], ◌∷◌, map, refl, arith}
use Rattle.std.specs.Prelude.{ℤ, pos, ◌-ℤ◌, ◌+ℤ◌, ◌≤ℤ◌}
use Rattle.std.specs.List.{AllByRecursion, slice_index_or}
use Rattle.std.proofs.lemmas.Int.{ints}
use Rattle.std.proofs.lemmas.List.{get_or_default}
use Rattle.std.proofs.lemmas.List.Elements.{All-from_recursion, recursion_from_All}
use Rattle.skeleton_definitions.specs.declared.Link.{Link}
use Rattle.outcome_definitions.specs.Information.{characteristic}
use Rattle.surface_quad_laws.specs.EulerLaws.{integer_sum}
use Rattle.surface_euler_laws.proofs.AtMostTwo.{no_first_invalid}
use Rattle.surface_euler_laws.proofs.Links.{link_at_most_two}
use Rattle.move_link_laws.specs.ClosedEuler.{ClosedManifoldsHaveCharacteristicZero}
use Rattle.move_link_laws.proofs.ClosedEuler.{closed_characteristics}

abbrev AtMostTwo : Link → Type 0
AtMostTwo l = l.euler ≤ℤ pos 2

abbrev IsTwo : Link → Type 0
IsTwo l = l.euler ≡ pos 2

-- the sum of 2 - euler over the links
abbrev lacking : List Link → ℤ
lacking links = integer_sum (map (λ (l : Link). pos 2 -ℤ l.euler) links)

more : (x y : ℤ) → x ≤ℤ pos 2 → pos 0 ≤ℤ y → pos 0 ≤ℤ ((pos 2 -ℤ x) +ℤ y)
more x y a b = omega (arith, ints)

first_none : (x y : ℤ) → x ≤ℤ pos 2 → pos 0 ≤ℤ y → (pos 2 -ℤ x) +ℤ y ≡ pos 0 → x ≡ pos 2
first_none x y a b e = omega (arith, ints)

others_none : (x y : ℤ) → x ≤ℤ pos 2 → pos 0 ≤ℤ y → (pos 2 -ℤ x) +ℤ y ≡ pos 0 → y ≡ pos 0
others_none x y a b e = omega (arith, ints)

none_more : (x y : ℤ) → x ≡ pos 2 → y ≡ pos 0 → (pos 2 -ℤ x) +ℤ y ≡ pos 0
none_more x y a b = omega (arith, ints)

never_less : (links : List Link) → AllByRecursion AtMostTwo links → pos 0 ≤ℤ lacking links
never_less [] h = omega (arith, ints)
never_less (l ∷ ls) h = more l.euler (lacking ls) h.0 (never_less ls h.1)

all_two : (links : List Link) → AllByRecursion AtMostTwo links → lacking links ≡ pos 0 → AllByRecursion IsTwo links
all_two [] h e = tt
all_two (l ∷ ls) h e = (first_none l.euler (lacking ls) h.0 (never_less ls h.1) e, all_two ls h.1 (others_none l.euler (lacking ls) h.0 (never_less ls h.1) e))

none_lacking : (links : List Link) → AllByRecursion IsTwo links → lacking links ≡ pos 0
none_lacking [] h = refl
none_lacking (l ∷ ls) h = none_more l.euler (lacking ls) h.0 (none_lacking ls h.1)

half : (x y : ℤ) → x +ℤ x ≡ y → pos 0 ≤ℤ y → pos 0 ≤ℤ x
half x y e h = omega (arith, ints)

half_none : (x y : ℤ) → x +ℤ x ≡ y → y ≡ pos 0 → x ≡ pos 0
half_none x y e z = omega (arith, ints)

twice_none : (x y : ℤ) → x +ℤ x ≡ y → x ≡ pos 0 → y ≡ pos 0
twice_none x y e z = omega (arith, ints)

pub closed_manifolds : ClosedManifoldsHaveCharacteristicZero
closed_manifolds s links k (directions, count, arrows, reported) closed valid =
    let sum : characteristic s +ℤ characteristic s ≡ lacking links = closed_characteristics s links k (directions, count, arrows, reported) closed valid in
    let most : AllByRecursion AtMostTwo links = recursion_from_All AtMostTwo links (λ c d l. (let n = reported.one_each in
    link_at_most_two s c (slice_index_or links c d) k (no_first_invalid s k valid) (omega arith)
    (record { directions = directions; count = count; numbered = arrows; is_link = reported.reported c (slice_index_or links c d) (omega arith) (get_or_default links c d (slice_index_or links c d) l) }))) in (
      half (characteristic s) (lacking links) sum (never_less links most),
      (
        (λ e. All-from_recursion IsTwo links (all_two links most (twice_none (characteristic s) (lacking links) sum e))),
        (λ a. half_none (characteristic s) (lacking links) sum (none_lacking links (recursion_from_All IsTwo links a))),
      ),
    )
