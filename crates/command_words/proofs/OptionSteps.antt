-- The options that a parse finds are those of the definitions.
use Rattle.std.proofs.Common.{◌≡◌, ◌∙◌, ℕ, true, false, refl, sym, ap, List, [], ◌∷◌, ◌++◌, length, Option, Some, None}
use Rattle.std.specs.Prelude.{slice_get}
use Rattle.std.specs.Str.{chars}
use Rattle.std.proofs.lemmas.Str.{chars-nil}
use Rattle.clap.specs.Lexer.{long_of, short_of}
use Rattle.clap.specs.Walk.{Held, Row, Text, Waiting, idle, option, settled}
use Rattle.clap.specs.Faults.{flags_fault, settle_fault}
use Rattle.clap.specs.declared.error.kind.ErrorKind.{ErrorKind}
use Rattle.clap.specs.declared.error.kind.ErrorKind.TheVariants.{UnknownArgument, ArgumentConflict, InvalidValue}
use Rattle.command_definitions.specs.Options.{Given, is_known, is_named}
use Rattle.basic_lemmas.proofs.Options.{some≢none}
use Rattle.command_words.proofs.OptionRules.{rules_for, rows, by_id, by_long, by_short, by_index, same_text, used-new, use-new, use-twice}
use Rattle.command_words.proofs.WordSteps.{walk_of, IsSpelled, fault_at, walk_after}

abbrev pub hold : List Row → Option (Text × List Text) → Held
hold found pending = record { rows = found; pending = pending; skip = 0 }

module _ (name : Text) (names : List Text) where
  -- the words up to here give these options
  abbrev pub IsSettled : Held → List Given → Type 0
  IsSettled h seen = (settle_fault (rules_for names) false h ≡ []) × ((settled (rules_for names) h).rows ≡ rows seen)

  pub nothing_waits : (seen : List Given) → IsSettled (hold (rows seen) None) seen
  nothing_waits seen = (refl, refl)

  pub value_settles : (seen : List Given) (id v : Text) → is_known names id ≡ true → is_named seen id ≡ false
      → IsSettled (hold (rows seen) (Some (id, v ∷ []))) (seen ++ (id, v) ∷ [])
  value_settles seen id v k e = (rw (by_id names id, k) (use-new id v seen e), rw (by_id names id, k) (used-new id v seen e))

  pub value_twice : (seen : List Given) (id v : Text) → is_known names id ≡ true → is_named seen id ≡ true
      → settle_fault (rules_for names) false (hold (rows seen) (Some (id, v ∷ []))) ≡ ArgumentConflict ∷ []
  value_twice seen id v k e = rw (by_id names id, k) (use-twice id v seen e)

  pub value_missing : (found : List Row) (id : Text) → is_known names id ≡ true
      → settle_fault (rules_for names) false (hold found (Some (id, []))) ≡ InvalidValue ∷ []
  value_missing found id k = rw (by_id names id, k) refl

  -- short options are unknown
  bundle_unknown : (flags : Text) (x : ℕ) (h : Held) → slice_get (chars flags) 0 ≡ Some x
      → flags_fault (rules_for names) false (length flags) flags 0 h ≡ UnknownArgument ∷ []
  unfolding flags_fault
  bundle_unknown [] x h e = absurd (some≢none x (sym e ∙ ap (λ cs. slice_get cs 0) chars-nil))
  bundle_unknown (f ∷ fs) x h e = rw (e, by_short names x) refl

  pub short_unknown : (waiting : Waiting) (x flags : Text) (found : List Row) (p : Option (Text × List Text)) → long_of x ≡ None → short_of x ≡ Some flags → IsSpelled x
      → fault_at name names waiting x (hold found p) ≡ UnknownArgument ∷ []
  short_unknown waiting x flags found p l e spelled =
      let c = spelled flags e in
      rw (l, e, bundle_unknown flags c.0 (hold found p) c.1) refl

  pub stray : (x : Text) (h : Held) → long_of x ≡ None → short_of x ≡ None → fault_at name names idle x h ≡ UnknownArgument ∷ []
  stray x h l e = rw (l, e, by_index names 1) refl

  pub long_unknown : (waiting : Waiting) (x id : Text) (v : Option Text) (h : Held) → long_of x ≡ Some (id, v) → is_known names id ≡ false
      → fault_at name names waiting x h ≡ UnknownArgument ∷ []
  long_unknown waiting x id v h l k = rw (l, by_long names id, k) refl

  -- an error in the option before is found at this one
  pub long_late : (waiting : Waiting) (x id : Text) (v : Option Text) (h : Held) (kind : ErrorKind) → long_of x ≡ Some (id, v) → is_known names id ≡ true
      → settle_fault (rules_for names) false h ≡ kind ∷ [] → fault_at name names waiting x h ≡ kind ∷ []
  long_late waiting x id (Some v) h kind l k e = rw (l, by_long names id, k, e) refl
  long_late waiting x id None h kind l k e = rw (l, by_long names id, k, e) refl

  pub long_twice : (x id v : Text) (h : Held) (seen : List Given) → long_of x ≡ Some (id, Some v) → is_known names id ≡ true → IsSettled h seen → is_named seen id ≡ true
      → fault_at name names idle x h ≡ ArgumentConflict ∷ []
  long_twice x id v h seen l k settles twice = rw (l, by_long names id, k, settles.0, settles.1, use-twice id v seen twice) refl

  pub long_new : (x id v : Text) (h : Held) (seen : List Given) → long_of x ≡ Some (id, Some v) → is_known names id ≡ true → IsSettled h seen → is_named seen id ≡ false
      → fault_at name names idle x h ≡ []
  long_new x id v h seen l k settles new = rw (l, by_long names id, k, settles.0, settles.1, use-new id v seen new) refl

  pub long_new-walk : (x id v : Text) (found : List Row) (p : Option (Text × List Text)) (seen : List Given) → long_of x ≡ Some (id, Some v) → is_known names id ≡ true
      → IsSettled (hold found p) seen → is_named seen id ≡ false
      → walk_after name names idle x (hold found p) ≡ walk_of (hold (rows (seen ++ (id, v) ∷ [])) None) idle
  long_new-walk x id v found p seen l k settles new = rw (l, by_long names id, k, settles.1, used-new id v seen new) refl

  pub long_waits : (x id : Text) (h : Held) (seen : List Given) → long_of x ≡ Some (id, None) → is_known names id ≡ true → IsSettled h seen → fault_at name names idle x h ≡ []
  long_waits x id h seen l k settles = rw (l, by_long names id, k, settles.0) refl

  pub long_waits-walk : (x id : Text) (found : List Row) (p : Option (Text × List Text)) (seen : List Given) → long_of x ≡ Some (id, None) → is_known names id ≡ true
      → IsSettled (hold found p) seen → walk_after name names idle x (hold found p) ≡ walk_of (hold (rows seen) (Some (id, []))) (option id)
  long_waits-walk x id found p seen l k settles = rw (l, by_long names id, k, settles.1) refl

  pub plain_passes : (x id : Text) (h : Held) → long_of x ≡ None → short_of x ≡ None → fault_at name names (option id) x h ≡ []
  plain_passes x id h l e = rw (l, e) refl

  pub plain-walk : (x id : Text) (found : List Row) → long_of x ≡ None → short_of x ≡ None → is_known names id ≡ true
      → walk_after name names (option id) x (hold found (Some (id, []))) ≡ walk_of (hold found (Some (id, x ∷ []))) idle
  plain-walk x id found l e k = rw (l, e, by_id names id, k, same_text id) refl
