-- After the words of a command are read, there is no further error: its options have no defaults, and none is required.
use Rattle.std.proofs.Common.{◌≡◌, ◌∙◌, ◌&&◌, ◌||◌, not, Bool, true, false, refl, ap, List, [], ◌∷◌, None, cond}
use Rattle.std.specs.Prelude.{fold}
use Rattle.std.specs.List.{list_any}
use Rattle.clap.specs.Walk.{Row, Text, Walk, has_row, idle, nothing_held, rows_after, settled, with_default}
use Rattle.clap.specs.Kinds.{Kinds, or_else}
use Rattle.clap.specs.Takes.{is_given}
use Rattle.clap.specs.Faults.{check_fault, defaults_fault, level_fault, settle_fault, walk_fault}
use Rattle.command_words.proofs.OptionRules.{option_rule, rules_for}
use Rattle.command_words.proofs.WordSteps.{leaf, walk_of, fault_from, end_of}
use Rattle.command_words.proofs.OptionSteps.{hold}

or_true : (b : Bool) → (b || true) ≡ true
or_true true = refl
or_true false = refl

same_choice : (b : Bool) (found : List Row) → cond b found found ≡ found
same_choice true found = refl
same_choice false found = refl

stays : (found : List Row) (n : Text) → with_default found (option_rule n) ≡ found
stays found n = same_choice (has_row n found) found

no_defaults : (found : List Row) (names : List Text) → defaults_fault found (rules_for names) ≡ []
unfolding defaults_fault
no_defaults found [] = refl
no_defaults found (n ∷ ns) =
    rw (or_true (has_row n found)) (ap (λ rs. defaults_fault rs (rules_for ns)) (stays found n) ∙ no_defaults found ns)

nothing_added : (found : List Row) (names : List Text) → fold with_default found (rules_for names) ≡ found
nothing_added found [] = refl
nothing_added found (n ∷ ns) = ap (λ rs. fold with_default rs (rules_for ns)) (stays found n) ∙ nothing_added found ns

none_required : (found : List Row) (names : List Text) → list_any (λ a. a.required && not (is_given a.id found)) (rules_for names) ≡ false
none_required found [] = refl
none_required found (n ∷ ns) = none_required found ns

nothing_after : (ks ls : Kinds) → ls ≡ [] → or_else ks ls ≡ ks
nothing_after [] ls e = e
nothing_after (k ∷ ks) ls e = refl

module _ (name : Text) (names : List Text) (ws : List Text) where
  abbrev start : Walk
  start = walk_of (hold [] None) idle

  checked : (found : List Row) → check_fault (leaf name names) found false ≡ []
  checked found = rw (none_required found names) refl

  pub level_faults : level_fault (leaf name names) [] nothing_held ws false [] ≡ fault_from name names start ws
  level_faults = ap (or_else (walk_fault (leaf name names) [] start ws))
      (nothing_after (settle_fault (rules_for names) false (end_of name names start ws)) _
      (rw (no_defaults (settled (rules_for names) (end_of name names start ws)).rows names) (checked _)))

  pub rows_found : rows_after (rules_for names) [] ws ≡ (settled (rules_for names) (end_of name names start ws)).rows
  rows_found = nothing_added _ names
