-- A table has signs, or it is not orientable.
use Rattle.std.proofs.Common.{◌≡◌, ◌≢◌, ℕ, ◌+◌, ◌*◌, ◌⊎◌, inl, inr, Bool, false, List, length, map, Option, Some, None, slice_index, arith}
use Rattle.std.specs.Prelude.{nat_lt}
use Rattle.std.proofs.lemmas.Bool.{cases_eq}
use Rattle.std.proofs.lemmas.List.FromFn.{length-map-range_with_len, get_or-map-range_with_len}
use Rattle.cone_definitions.proofs.Below.{all_or_one}
use Rattle.table_definitions.specs.Lists.{below}
use Rattle.table_definitions.specs.Table.{Row, IsTable}
use Rattle.skeleton_definitions.specs.Orientation.{IsOrientable}
use Rattle.skeleton_definitions.specs.Skeleton.{IsOrientation}
use Rattle.skeleton_class_laws.specs.declared.Kind.TheVariants.{Signs}
use Rattle.skeleton_class_laws.specs.Signs.{AreSignsBy}
use Rattle.skeleton_class_laws.proofs.SignLemmas.{not_orientable, oriented}
use Rattle.skeleton_class_laws.specs.Laws.{HasClasses}
use Rattle.skeleton_class_laws.proofs.Numbered.{classes_exist}

module _ (rows : List Row) (table : IsTable rows) (c : HasClasses Signs rows) where
  abbrev Apart : ℕ → Type 0
  Apart t = slice_index c.classes (2 * t) ≢ slice_index c.classes (2 * t + 1)

  abbrev Joined : ℕ → Type 0
  Joined t = slice_index c.classes (2 * t) ≡ slice_index c.classes (2 * t + 1)

  apart_or_joined : (t : ℕ) → Apart t ⊎ Joined t
  apart_or_joined t = elim (cases_eq (slice_index c.classes (2 * t)) (slice_index c.classes (2 * t + 1))) [ inl e ↦ inr e | inr n ↦ inl n ]

  abbrev sign : ℕ → Bool
  sign t = nat_lt (slice_index c.classes (2 * t)) (slice_index c.classes (2 * t + 1))

  signs_by : AreSignsBy c.classes (length rows) (map sign (below (length rows)))
  signs_by = record {
    one_each = length-map-range_with_len sign 0 (length rows);
    reported = λ t l. get_or-map-range_with_len sign 0 (length rows) t t false l (omega arith);
  }

  reported : (signs : Option (List Bool)) × IsOrientation rows signs
  reported = elim (all_or_one Apart Joined apart_or_joined (length rows)) [
    | inl separate ↦ (Some (map sign (below (length rows))), oriented rows table c.classes c.count c.numbered separate (map sign (below (length rows))) signs_by)
    | inr w ↦ (None, not_orientable rows table c.classes c.count c.numbered w.0 w.1 w.2)
  ]

pub some_orientation : (rows : List Row) → IsTable rows → (signs : Option (List Bool)) × IsOrientation rows signs
some_orientation rows table = reported rows table (classes_exist Signs rows table)

orientable_by : (rows : List Row) (signs : Option (List Bool)) → IsOrientation rows signs → IsOrientable rows ⊎ (IsOrientable rows → ⊥)
orientable_by rows None never = inr never
orientable_by rows (Some signs) o = inl (signs, o.0)

pub orientable_or_not : (rows : List Row) → IsTable rows → IsOrientable rows ⊎ (IsOrientable rows → ⊥)
orientable_or_not rows table = let o = some_orientation rows table in orientable_by rows o.0 o.1
