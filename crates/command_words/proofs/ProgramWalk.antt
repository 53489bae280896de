-- What a parse of the words of the command line finds: a command, and its options.
use Rattle.std.proofs.Common.{◌≡◌, ◌∙◌, ◌&&◌, ◌||◌, ℕ, Bool, true, false, refl, sym, ap, List, [], ◌∷◌, ◌++◌, map, length, Option, Some, None, cond, true≢false, append-nil, append_assoc}
use Rattle.std.specs.Prelude.{codes, fold, slice_get}
use Rattle.std.specs.List.{find}
use Rattle.std.specs.Option.{option_map, option_and_then}
use Rattle.std.specs.Str.{bytes_eq, chars}
use Rattle.std.proofs.lemmas.Str.{chars-nil}
use Rattle.std.proofs.lemmas.Slice.Eq.{bytes_eq-Decides}
use Rattle.clap.specs.Lexer.{long_of, short_of}
use Rattle.clap.specs.Walk.{Held, Names, Row, Text, Walk, answers_to, idle, nothing_held, rows_after, walk, walk_from, walked}
use Rattle.clap.specs.Simple.{App, Shape, entered, label_of, names_of, new_shape, rows_at}
use Rattle.clap.specs.Kinds.{Kinds, or_else}
use Rattle.clap.specs.Faults.{built_fault, entered_fault, defaults_fault, flags_fault, level_fault, turn_fault, walk_fault}
use Rattle.clap.specs.declared.error.kind.ErrorKind.{ErrorKind}
use Rattle.clap.specs.declared.error.kind.ErrorKind.TheVariants.{InvalidSubcommand, UnknownArgument}
use Rattle.command_definitions.specs.Options.{Given, options_of}
use Rattle.command_definitions.specs.Commands.{Command, option_names}
use Rattle.basic_lemmas.proofs.Options.{some≢none}
use Rattle.command_words.proofs.OptionRules.{rules_for, rows}
use Rattle.command_words.specs.Texts.{dashes}
use Rattle.command_words.proofs.WordSteps.{leaf, walk_of, IsSpelled, answer, fault_from}
use Rattle.command_words.proofs.OptionWalk.{AreWords, found_for, leaf_gives}
use Rattle.command_words.proofs.LeafFaults.{level_faults, rows_found}

abbrev leaf_of : Command → Shape
leaf_of c = leaf c.0 (option_names c.1)

abbrev pub top : Shape
top = record (new_shape (codes "trinorm")) {
  is_leaf = false;
  no_binary_name = true;
  disable_help_flag = true;
  disable_help_subcommand = true;
  disable_version_flag = true;
  is_built = true;
}

abbrev pub command_in : List Command → Text → Option Command
command_in cs w = find (λ c. bytes_eq c.0 w) cs

is_nil : Kinds → Bool
is_nil [] = true
is_nil (k ∷ ks) = false

and_false : (b : Bool) → (b && false) ≡ false
and_false true = refl
and_false false = refl

nothing_after : (ks : Kinds) → or_else ks [] ≡ ks
nothing_after [] = refl
nothing_after (k ∷ ks) = refl

-- the command that is found has the word as its name
pub found_name : (cs : List Command) (w : Text) (c : Command) → command_in cs w ≡ Some c → c.0 ≡ w
found_name [] w c e = absurd (some≢none c (sym e))
found_name (d ∷ ds) w c e = go (bytes_eq d.0 w) refl e (found_name ds w c)
  where
    go : (b : Bool) → bytes_eq d.0 w ≡ b → cond b (Some d) (command_in ds w) ≡ Some c → (command_in ds w ≡ Some c → c.0 ≡ w) → c.0 ≡ w
    go true t e h = (let same : d ≡ c = (let x : Some d ≡ Some c = e in cc) in sym (ap (λ (k : Command). k.0) same) ∙ (bytes_eq-Decides d.0 w).0 t)
    go false t e h = h e

module _ (cs : List Command) where
  abbrev pub app : App
  app = record { top = top; subs = map leaf_of cs }

  abbrev names : Names
  names = names_of app

  -- the subcommand of a word is the command of its name
  name_met : (ds : List Command) (w : Text) → find (answers_to w) (map label_of (map leaf_of ds)) ≡ option_map (λ (c : Command). (c.0, [])) (command_in ds w)
  name_met [] w = refl
  name_met (d ∷ ds) w = go (bytes_eq d.0 w) (name_met ds w)
    where
      go : (b : Bool) → find (answers_to w) (map label_of (map leaf_of ds)) ≡ option_map (λ (c : Command). (c.0, [])) (command_in ds w)
          → cond (b || false) (Some (d.0, [])) (find (answers_to w) (map label_of (map leaf_of ds)))
          ≡ option_map (λ (c : Command). (c.0, [])) (cond b (Some d) (command_in ds w))
      go true h = refl
      go false h = h

  leaf_met : (ds : List Command) (w : Text) → find (λ s. answers_to w (label_of s)) (map leaf_of ds) ≡ option_map leaf_of (command_in ds w)
  leaf_met [] w = refl
  leaf_met (d ∷ ds) w = go (bytes_eq d.0 w) (leaf_met ds w)
    where
      go : (b : Bool) → find (λ s. answers_to w (label_of s)) (map leaf_of ds) ≡ option_map leaf_of (command_in ds w)
          → cond (b || false) (Some (leaf_of d)) (find (λ s. answers_to w (label_of s)) (map leaf_of ds))
          ≡ option_map leaf_of (cond b (Some d) (command_in ds w))
      go true h = refl
      go false h = h

  -- ---- after the command its words are only stored

  abbrev stopped_at : Text → List Text → Walk
  stopped_at name before = record { held = nothing_held; waiting = idle; position = 1; is_trailing = false; stopped = Some (name, before) }

  words_kept : (name : Text) (before ws : List Text) → fold (walked [] names) (stopped_at name before) ws ≡ stopped_at name (before ++ ws)
  unfolding walked
  words_kept name before [] = ap (stopped_at name) (sym (append-nil before))
  words_kept name before (w ∷ ws) = words_kept name (before ++ w ∷ []) ws ∙ ap (stopped_at name) (append_assoc before (w ∷ []) ws)

  no_faults : (name : Text) (before ws : List Text) → walk_fault top names (stopped_at name before) ws ≡ []
  unfolding walk_fault walked
  no_faults name before [] = refl
  no_faults name before (w ∷ ws) = no_faults name (before ++ w ∷ []) ws

  -- short options are unknown
  bundle_unknown : (flags : Text) (x : ℕ) (h : Held) → slice_get (chars flags) 0 ≡ Some x → flags_fault [] false (length flags) flags 0 h ≡ UnknownArgument ∷ []
  unfolding flags_fault
  bundle_unknown [] x h e = absurd (some≢none x (sym e ∙ ap (λ cs. slice_get cs 0) chars-nil))
  bundle_unknown (f ∷ fs) x h e = rw e refl

  module _ (w : Text) (ws : List Text) where
    -- ---- a command

    module _ (c : Command) (is : command_in cs w ≡ Some c) where
      met : find (answers_to w) names ≡ Some (c.0, [])
      met = name_met cs w ∙ ap (option_map (λ (d : Command). (d.0, []))) is

      walk_is : walk [] names nothing_held (w ∷ ws) ≡ stopped_at c.0 ws
      unfolding walked
      walk_is = rw met (words_kept c.0 [] ws)

      turn_passes : turn_fault top names (walk_from nothing_held) w ≡ []
      turn_passes = rw (met, and_false (bytes_eq c.0 (codes "help"))) refl

      walk_passes : walk_fault top names (walk_from nothing_held) (w ∷ ws) ≡ []
      unfolding walk_fault walked
      walk_passes = rw (met, and_false (bytes_eq c.0 (codes "help"))) (no_faults c.0 [] ws)

      leaf_is : find (λ s. answers_to c.0 (label_of s)) (map leaf_of cs) ≡ Some (leaf_of c)
      leaf_is = leaf_met cs c.0 ∙ ap (λ t. option_map leaf_of (command_in cs t)) (found_name cs w c is) ∙ ap (option_map leaf_of) is

      entered_is : entered app (Some (c.0, ws)) ≡ Some (c.0, rows_after (rules_for (option_names c.1)) [] ws)
      entered_is = ap (option_map (λ s. rows_at s ws)) leaf_is

      entered_faults : entered_fault app (Some (c.0, ws)) ≡ level_fault (leaf_of c) [] nothing_held ws false []
      entered_faults = rw leaf_is refl

      pub command_rows : option_and_then (λ (p : Text × List Text). entered app (Some p)) (walk [] names nothing_held (w ∷ ws)).stopped
          ≡ Some (c.0, rows_after (rules_for (option_names c.1)) [] ws)
      command_rows = ap (λ (v : Walk). option_and_then (λ (p : Text × List Text). entered app (Some p)) v.stopped) walk_is ∙ entered_is

      pub command_entered : entered app (walk [] names nothing_held (w ∷ ws)).stopped ≡ Some (c.0, rows_after (rules_for (option_names c.1)) [] ws)
      command_entered = ap (λ (v : Walk). entered app v.stopped) walk_is ∙ entered_is

      pub command_faults : built_fault app nothing_held (w ∷ ws) ≡ fault_from c.0 (option_names c.1) (walk_of nothing_held idle) ws
      unfolding defaults_fault
      command_faults = rw (walk_passes, walk_is, entered_is)
          (nothing_after (entered_fault app (Some (c.0, ws))) ∙ entered_faults ∙ level_faults c.0 (option_names c.1) ws)

    -- ---- no command

    unknown_word : find (answers_to w) names ≡ None → bytes_eq w dashes ≡ false → IsSpelled w → (l : Option (Text × Option Text)) → long_of w ≡ l → (f : Option Text) → short_of w ≡ f
        → (k : ErrorKind) × (ks : Kinds) × (turn_fault top names (walk_from nothing_held) w ≡ k ∷ ks)
    unknown_word none word spelled (Some p) l f e = (UnknownArgument, [], rw (none, word, l) refl)
    unknown_word none word spelled None l (Some flags) e =
        let c = spelled flags e in
        (UnknownArgument, [], rw (none, word, l, e, bundle_unknown flags c.0 nothing_held c.1) refl)
    unknown_word none word spelled None l None e = (UnknownArgument, InvalidSubcommand ∷ [], rw (none, word, l, e) refl)

    fails_at_once : (k : ErrorKind) (ks : Kinds) → turn_fault top names (walk_from nothing_held) w ≡ k ∷ ks → built_fault app nothing_held (w ∷ ws) ≡ [] → ⊥
    unfolding walk_fault is_nil
    fails_at_once k ks e none =
        let fails : is_nil (built_fault app nothing_held (w ∷ ws)) ≡ false = rw e refl in
        true≢false (sym (ap is_nil none) ∙ fails)

    unknown_command : bytes_eq w dashes ≡ false → IsSpelled w → command_in cs w ≡ None → built_fault app nothing_held (w ∷ ws) ≡ [] → ⊥
    unknown_command word spelled none =
        let f = unknown_word (name_met cs w ∙ ap (option_map (λ (d : Command). (d.0, []))) none) word spelled (long_of w) refl (short_of w) refl in
        fails_at_once f.0 f.1 f.2

  -- the command that words name, and the rows of its options
  abbrev pub asked : List Text → Option (Text × List Row)
  asked [] = None
  asked (w ∷ ws) = option_and_then (λ (c : Command). option_map (λ os. (c.0, rows os)) (options_of (option_names c.1) ws)) (command_in cs w)

  pub asks : (w : Text) (ws : List Text) (c : Command) → command_in cs w ≡ Some c → asked (w ∷ ws) ≡ option_map (λ os. (c.0, rows os)) (options_of (option_names c.1) ws)
  asks w ws c is = ap (option_and_then (λ (d : Command). option_map (λ os. (d.0, rows os)) (options_of (option_names d.1) ws))) is

  asks_none : (w : Text) (ws : List Text) → command_in cs w ≡ None → asked (w ∷ ws) ≡ None
  asks_none w ws is = ap (option_and_then (λ (d : Command). option_map (λ os. (d.0, rows os)) (options_of (option_names d.1) ws))) is

  rows_asked : (name : Text) (faults : Kinds) (found : List Row) (os : Option (List Given)) → answer faults found ≡ found_for os → faults ≡ []
      → ◌≡◌ {A = Option (Text × List Row)} (Some (name, found)) (option_map (λ given. (name, rows given)) os)
  unfolding is_nil
  rows_asked name [] found None e none = absurd (some≢none found e)
  rows_asked name [] found (Some given) e none = (let same : found ≡ rows given = (let x : Some found ≡ Some (rows given) = e in cc) in ap (λ rs. Some (name, rs)) same)
  rows_asked name (k ∷ ks) found os e none = absurd (true≢false (ap is_nil (sym none)))

  no_faults_asked : (name : Text) (faults : Kinds) (found : List Row) (os : Option (List Given)) (p : Text × List Row) → answer faults found ≡ found_for os
      → option_map (λ given. (name, rows given)) os ≡ Some p → faults ≡ []
  no_faults_asked name [] found os p e some = refl
  no_faults_asked name (k ∷ ks) found None p e some = absurd (some≢none p (sym some))
  no_faults_asked name (k ∷ ks) found (Some given) p e some = absurd (some≢none (rows given) (sym e))

  -- if there is no error, the parse enters the command that is named
  pub enters_asked : (words : List Text) → AreWords words → built_fault app nothing_held words ≡ [] → entered app (walk [] names nothing_held words).stopped ≡ asked words
  enters_asked [] a none = refl
  enters_asked (w ∷ ws) a none = go (command_in cs w) refl
    where
      go : (o : Option Command) → command_in cs w ≡ o → entered app (walk [] names nothing_held (w ∷ ws)).stopped ≡ asked (w ∷ ws)
      go None is = absurd (unknown_command w ws a.0 a.1 is none)
      go (Some c) is = command_entered w ws c is ∙ ap (λ rs. Some (c.0, rs)) (rows_found c.0 (option_names c.1) ws)
          ∙ rows_asked c.0 (fault_from c.0 (option_names c.1) (walk_of nothing_held idle) ws) _ (options_of (option_names c.1) ws) (leaf_gives c.0 (option_names c.1) ws a.2) (sym (command_faults w ws c is) ∙ none)
          ∙ sym (asks w ws c is)

  -- if words name a command and options, there is no error
  pub asked_passes : (words : List Text) (p : Text × List Row) → AreWords words → asked words ≡ Some p → built_fault app nothing_held words ≡ []
  asked_passes [] p a some = absurd (some≢none p (sym some))
  asked_passes (w ∷ ws) p a some = go (command_in cs w) refl
    where
      go : (o : Option Command) → command_in cs w ≡ o → built_fault app nothing_held (w ∷ ws) ≡ []
      go None is = absurd (some≢none p (sym some ∙ asks_none w ws is))
      go (Some c) is = command_faults w ws c is
          ∙ no_faults_asked c.0 (fault_from c.0 (option_names c.1) (walk_of nothing_held idle) ws) _ (options_of (option_names c.1) ws) p (leaf_gives c.0 (option_names c.1) ws a.2) (sym (asks w ws c is) ∙ some)
