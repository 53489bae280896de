-- Rows that are removed, without new ones.
use Rattle.std.proofs.Common.{◌≡◌, ℕ, zero, suc, ◌<◌, ◌≤◌, List, [], ◌∷◌, length, Some, None, arith}
use Rattle.std.specs.Prelude.{All}
use Rattle.std.specs.List.Sorted.{IsStrictlyIncreasing}
use Rattle.table_definitions.specs.Table.{Gluing, Row, Face}
use Rattle.table_definitions.specs.Replacing.{Replacement}
use Rattle.table_definitions.specs.Replaceable.{fresh_glue, CanReplace}
use Rattle.table_definitions.proofs.FreshRows.{nothing_in}

abbrev taking : List ℕ → Replacement
taking removed = record { removed = removed; fresh = [] }

never : (removed : List ℕ) (x : Face) (g : Gluing) → fresh_glue (taking removed) x ≡ Some g → ⊥
never removed x g e = let n : fresh_glue (taking removed) x ≡ None = nothing_in x.face in cc

pub can_remove : (rows : List Row) (removed : List ℕ) → length rows ≤ 1000 → IsStrictlyIncreasing removed → All (λ t. t < length rows) removed → CanReplace rows (record { removed = removed; fresh = [] })
can_remove rows removed limited up within = record {
  removed_ascend = up;
  removed_in_range = within;
  fresh_ascend = λ k l. absurd (omega arith);
  fresh_in_range = λ k d l. absurd (omega arith);
  limited = omega arith;
  four_faces = λ k d l. absurd (omega arith);
  permutes = λ x g e. absurd (never removed x g e);
  in_range = λ x g e. absurd (never removed x g e);
  separate = λ x g e. absurd (never removed x g e);
  leads_back = λ x g e h. absurd (never removed x g e);
  freed = λ x g e h. absurd (never removed x g e);
  one_each = λ x z g h e f k s. absurd (never removed x g e);
}

pub can_remove_second : (rows : List Row) → length rows ≡ 3 → CanReplace rows (record { removed = 1 ∷ []; fresh = [] })
can_remove_second rows three = can_remove rows (1 ∷ []) (omega arith) (λ k l. absurd (omega arith)) within
  where
    within : All (λ t. t < length rows) (1 ∷ [])
    within zero d l = omega arith
    within (suc k) d l = absurd (omega arith)
