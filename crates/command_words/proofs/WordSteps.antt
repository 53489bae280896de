-- What a parse does with the words after a command, word by word.
use Rattle.std.proofs.Common.{◌≡◌, ◌∙◌, ℕ, true, false, refl, ap, List, [], ◌∷◌, Option, Some, None}
use Rattle.std.specs.Prelude.{slice_get, fold}
use Rattle.std.specs.Str.{bytes_eq, chars}
use Rattle.clap.specs.Lexer.{long_of, short_of}
use Rattle.clap.specs.Walk.{Held, Row, Step, Text, Waiting, Walk, idle, option, settled, walked, long_or_other, after_step}
use Rattle.clap.specs.Simple.{Shape, new_shape}
use Rattle.clap.specs.Kinds.{Kinds, or_else}
use Rattle.clap.specs.Faults.{flag_word_fault, settle_fault, step_fault, turn_fault, walk_fault}
use Rattle.clap.specs.declared.error.kind.ErrorKind.{ErrorKind}
use Rattle.command_words.proofs.OptionRules.{rules_for}
use Rattle.command_words.specs.Texts.{dashes}

-- the parser of a command with its options
abbrev pub leaf : Text → List Text → Shape
leaf name names = record (new_shape name) {
  rules = rules_for names;
  no_binary_name = true;
  disable_help_flag = true;
  disable_help_subcommand = true;
  disable_version_flag = true;
  is_built = true;
}

-- the rows that are found, if there is no error
abbrev pub answer : Kinds → List Row → Option (List Row)
answer [] found = Some found
answer (k ∷ ks) found = None

abbrev pub walk_of : Held → Waiting → Walk
walk_of h waiting = record { held = h; waiting = waiting; position = 1; is_trailing = false; stopped = None }

-- what comes after a hyphen begins with a character
abbrev pub IsSpelled : Text → Type 0
IsSpelled w = (flags : Text) → short_of w ≡ Some flags → (x : ℕ) × (slice_get (chars flags) 0 ≡ Some x)

module _ (name : Text) (names : List Text) where
  abbrev pub s : Shape
  s = leaf name names

  abbrev pub end_of : Walk → List Text → Held
  end_of w words = (fold (walked (rules_for names) []) w words).held

  abbrev pub fault_from : Walk → List Text → Kinds
  fault_from w words = or_else (walk_fault s [] w words) (settle_fault (rules_for names) false (end_of w words))

  -- the result at the end of the words
  abbrev pub out : Walk → List Text → Option (List Row)
  out w words = answer (fault_from w words) (settled (rules_for names) (end_of w words)).rows

  -- the word fails
  out-fails : (w : Walk) (x : Text) (ws : List Text) (k : ErrorKind) → turn_fault s [] w x ≡ k ∷ [] → out w (x ∷ ws) ≡ None
  unfolding walk_fault
  out-fails w x ws k e = ap (λ t. answer (or_else (or_else t (walk_fault s [] (walked (rules_for names) [] w x) ws)) (settle_fault (rules_for names) false (end_of w (x ∷ ws)))) (settled (rules_for names) (end_of w (x ∷ ws))).rows) e

  -- the word passes
  out-next : (w v : Walk) (x : Text) (ws : List Text) → turn_fault s [] w x ≡ [] → walked (rules_for names) [] w x ≡ v → out w (x ∷ ws) ≡ out v ws
  unfolding walk_fault
  out-next w v x ws e f = ap (λ t. answer (or_else (or_else t (walk_fault s [] (walked (rules_for names) [] w x) ws)) (settle_fault (rules_for names) false (end_of w (x ∷ ws)))) (settled (rules_for names) (end_of w (x ∷ ws))).rows) e
      ∙ ap (λ u. out u ws) f

  -- the step for a word other than `--`
  abbrev met : Waiting → Text → Held → Held × Step
  met waiting x h = long_or_other (rules_for names) waiting x (long_of x) h

  abbrev pub fault_at : Waiting → Text → Held → Kinds
  fault_at waiting x h = or_else (flag_word_fault (rules_for names) false (long_of x) x h) (step_fault s 1 (met waiting x h).0 (met waiting x h).1)

  turn_idle : (x : Text) (h : Held) → bytes_eq x dashes ≡ false → turn_fault s [] (walk_of h idle) x ≡ fault_at idle x h
  turn_idle x h e = rw e refl

  turn_option : (id x : Text) (h : Held) → bytes_eq x dashes ≡ false → turn_fault s [] (walk_of h (option id)) x ≡ fault_at (option id) x h
  turn_option id x h e = rw e refl

  abbrev pub walk_after : Waiting → Text → Held → Walk
  walk_after waiting x h = after_step (rules_for names) x (walk_of h waiting) (met waiting x h).0 (met waiting x h).1

  walked_idle : (x : Text) (h : Held) → bytes_eq x dashes ≡ false → walked (rules_for names) [] (walk_of h idle) x ≡ walk_after idle x h
  unfolding walked
  walked_idle x h e = rw e refl

  walked_option : (id x : Text) (h : Held) → bytes_eq x dashes ≡ false → walked (rules_for names) [] (walk_of h (option id)) x ≡ walk_after (option id) x h
  unfolding walked
  walked_option id x h e = rw e refl

  -- a word that fails, or passes, if no option waits or if one does
  pub fails_idle : (x : Text) (h : Held) (ws : List Text) (k : ErrorKind) → bytes_eq x dashes ≡ false → fault_at idle x h ≡ k ∷ [] → out (walk_of h idle) (x ∷ ws) ≡ None
  fails_idle x h ws k e f = out-fails (walk_of h idle) x ws k (turn_idle x h e ∙ f)

  pub fails_option : (id x : Text) (h : Held) (ws : List Text) (k : ErrorKind) → bytes_eq x dashes ≡ false → fault_at (option id) x h ≡ k ∷ [] → out (walk_of h (option id)) (x ∷ ws) ≡ None
  fails_option id x h ws k e f = out-fails (walk_of h (option id)) x ws k (turn_option id x h e ∙ f)

  pub next_idle : (x : Text) (h : Held) (v : Walk) (ws : List Text) → bytes_eq x dashes ≡ false → fault_at idle x h ≡ [] → walk_after idle x h ≡ v
      → out (walk_of h idle) (x ∷ ws) ≡ out v ws
  next_idle x h v ws e f g = out-next (walk_of h idle) v x ws (turn_idle x h e ∙ f) (walked_idle x h e ∙ g)

  pub next_option : (id x : Text) (h : Held) (v : Walk) (ws : List Text) → bytes_eq x dashes ≡ false → fault_at (option id) x h ≡ [] → walk_after (option id) x h ≡ v
      → out (walk_of h (option id)) (x ∷ ws) ≡ out v ws
  next_option id x h v ws e f g = out-next (walk_of h (option id)) v x ws (turn_option id x h e ∙ f) (walked_option id x h e ∙ g)
