-- A parse of the words after a command finds the options of the definitions, and fails if there are none.
use Rattle.std.proofs.Common.{◌≡◌, ◌∙◌, Bool, true, false, refl, sym, ap, List, [], ◌∷◌, ◌++◌, Option, Some, None, cond}
use Rattle.std.specs.Option.{option_map}
use Rattle.std.specs.Str.{bytes_eq}
use Rattle.clap.specs.Lexer.{long_of, short_of}
use Rattle.clap.specs.Walk.{Row, Text, idle, option}
use Rattle.clap.specs.Faults.{settle_fault, walk_fault}
use Rattle.clap.specs.declared.error.kind.ErrorKind.{ErrorKind}
use Rattle.clap.specs.declared.error.kind.ErrorKind.TheVariants.{UnknownArgument, ArgumentConflict, InvalidValue}
use Rattle.command_definitions.specs.Options.{Given, is_hyphened, is_known, is_named, option_read, options_from, options_of, with_value}
use Rattle.command_words.specs.Texts.{dashes}
use Rattle.command_words.proofs.OptionRules.{rules_for, rows}
use Rattle.command_words.proofs.Hyphens.{option_word-long, hyphened-long, hyphened-short, hyphened-plain}
use Rattle.command_words.proofs.WordSteps.{walk_of, IsSpelled, out, fails_idle, fails_option, next_idle, next_option}
use Rattle.command_words.proofs.OptionSteps.{hold, IsSettled, nothing_waits, value_settles, value_twice, value_missing, short_unknown, stray, long_unknown, long_late, long_twice, long_new, long_new-walk, long_waits, long_waits-walk, plain_passes, plain-walk}

abbrev pub found_for : Option (List Given) → Option (List Row)
found_for = option_map rows

-- no word is `--`, and each is spelled in characters
abbrev pub AreWords : List Text → Type 0
AreWords [] = Unit {0}
AreWords (x ∷ xs) = (bytes_eq x dashes ≡ false) × IsSpelled x × AreWords xs

module _ (name : Text) (names : List Text) where
  abbrev IdleGives : List Text → Type 0
  IdleGives ws = (found : List Row) (p : Option (Text × List Text)) (seen : List Given) → IsSettled name names (hold found p) seen
      → out name names (walk_of (hold found p) idle) ws ≡ found_for (options_from names ws seen None)

  abbrev StuckGives : List Text → Type 0
  StuckGives ws = (found : List Row) (p : Option (Text × List Text)) (k : ErrorKind) → settle_fault (rules_for names) false (hold found p) ≡ k ∷ []
      → out name names (walk_of (hold found p) idle) ws ≡ None

  abbrev WaitGives : List Text → Type 0
  WaitGives ws = (seen : List Given) (id : Text) → is_known names id ≡ true
      → out name names (walk_of (hold (rows seen) (Some (id, []))) (option id)) ws ≡ found_for (options_from names ws seen (Some id))

  -- ---- the end of the words

  idle_end : IdleGives []
  unfolding walk_fault options_from
  idle_end found p seen settles = rw (settles.0) (ap (λ rs. Some rs) settles.1)

  stuck_end : StuckGives []
  unfolding walk_fault
  stuck_end found p k e = rw e refl

  wait_end : WaitGives []
  unfolding walk_fault options_from
  wait_end seen id k = rw (value_missing name names (rows seen) id k) refl

  -- ---- a word if no option waits for its value

  module _ (x : Text) (xs : List Text) (word : bytes_eq x dashes ≡ false) (spelled : IsSpelled x) where
    idle_reads : (seen : List Given) (l : Option (Text × Option Text)) → long_of x ≡ l
        → options_from names (x ∷ xs) seen None ≡ option_read names l seen (options_from names xs)
    unfolding options_from
    idle_reads seen l e = ap (λ o. option_read names o seen (options_from names xs)) (option_word-long x word ∙ e)

    no_long : (found : List Row) (p : Option (Text × List Text)) (f : Option Text) → long_of x ≡ None → short_of x ≡ f
        → out name names (walk_of (hold found p) idle) (x ∷ xs) ≡ None
    no_long found p None l e = fails_idle name names x (hold found p) xs UnknownArgument word (stray name names x (hold found p) l e)
    no_long found p (Some flags) l e = fails_idle name names x (hold found p) xs UnknownArgument word (short_unknown name names idle x flags found p l e spelled)

    stuck_long : (found : List Row) (p : Option (Text × List Text)) (k : ErrorKind) (id : Text) (v : Option Text) (b : Bool)
        → settle_fault (rules_for names) false (hold found p) ≡ k ∷ [] → long_of x ≡ Some (id, v) → is_known names id ≡ b
        → out name names (walk_of (hold found p) idle) (x ∷ xs) ≡ None
    stuck_long found p k id v false e l known = fails_idle name names x (hold found p) xs UnknownArgument word (long_unknown name names idle x id v (hold found p) l known)
    stuck_long found p k id v true e l known = fails_idle name names x (hold found p) xs k word (long_late name names idle x id v (hold found p) k l known e)

    stuck_step : StuckGives (x ∷ xs)
    stuck_step found p k e = go (long_of x) refl
      where
        go : (l : Option (Text × Option Text)) → long_of x ≡ l → out name names (walk_of (hold found p) idle) (x ∷ xs) ≡ None
        go None l = no_long found p (short_of x) l refl
        go (Some q) l = stuck_long found p k q.0 q.1 (is_known names q.0) e l refl

    -- an option of the command with its value
    value_step : IdleGives xs → (found : List Row) (p : Option (Text × List Text)) (seen : List Given) (id v : Text) (b : Bool) → IsSettled name names (hold found p) seen
        → long_of x ≡ Some (id, Some v) → is_known names id ≡ true → is_named seen id ≡ b
        → out name names (walk_of (hold found p) idle) (x ∷ xs) ≡ found_for (with_value id v seen (options_from names xs))
    value_step next found p seen id v true settles l known named =
        fails_idle name names x (hold found p) xs ArgumentConflict word (long_twice name names x id v (hold found p) seen l known settles named)
        ∙ rw named refl
    value_step next found p seen id v false settles l known named =
        next_idle name names x (hold found p) _ xs word (long_new name names x id v (hold found p) seen l known settles named)
        (long_new-walk name names x id v found p seen l known settles named)
        ∙ next (rows (seen ++ (id, v) ∷ [])) None (seen ++ (id, v) ∷ []) (nothing_waits name names (seen ++ (id, v) ∷ []))
        ∙ rw named refl

    long_step : IdleGives xs → WaitGives xs → (found : List Row) (p : Option (Text × List Text)) (seen : List Given) (id : Text) (v : Option Text) (b : Bool)
        → IsSettled name names (hold found p) seen → long_of x ≡ Some (id, v) → is_known names id ≡ b
        → out name names (walk_of (hold found p) idle) (x ∷ xs) ≡ found_for (option_read names (Some (id, v)) seen (options_from names xs))
    long_step next wait found p seen id v false settles l known =
        fails_idle name names x (hold found p) xs UnknownArgument word (long_unknown name names idle x id v (hold found p) l known)
        ∙ rw known refl
    long_step next wait found p seen id (Some v) true settles l known =
        value_step next found p seen id v (is_named seen id) settles l known refl ∙ rw known refl
    long_step next wait found p seen id None true settles l known =
        next_idle name names x (hold found p) _ xs word (long_waits name names x id (hold found p) seen l known settles)
        (long_waits-walk name names x id found p seen l known settles)
        ∙ wait seen id known ∙ rw known refl

    idle_step : IdleGives xs → WaitGives xs → IdleGives (x ∷ xs)
    idle_step next wait found p seen settles = go (long_of x) refl
      where
        go : (l : Option (Text × Option Text)) → long_of x ≡ l → out name names (walk_of (hold found p) idle) (x ∷ xs) ≡ found_for (options_from names (x ∷ xs) seen None)
        go None l = no_long found p (short_of x) l refl ∙ sym (ap found_for (idle_reads seen None l))
        go (Some q) l = long_step next wait found p seen q.0 q.1 (is_known names q.0) settles l refl ∙ sym (ap found_for (idle_reads seen (Some q) l))

    -- ---- a word if an option waits for its value

    wait_reads : (seen : List Given) (id : Text) (b : Bool) → is_hyphened x ≡ b
        → options_from names (x ∷ xs) seen (Some id) ≡ (cond b None (with_value id x seen (options_from names xs)))
    unfolding options_from
    wait_reads seen id b e = ap (λ h. cond h None (with_value id x seen (options_from names xs))) e

    wait_long : (seen : List Given) (id other : Text) (v : Option Text) (b : Bool) → is_known names id ≡ true → long_of x ≡ Some (other, v) → is_known names other ≡ b
        → out name names (walk_of (hold (rows seen) (Some (id, []))) (option id)) (x ∷ xs) ≡ None
    wait_long seen id other v false k l known = fails_option name names id x (hold (rows seen) (Some (id, []))) xs UnknownArgument word
        (long_unknown name names (option id) x other v (hold (rows seen) (Some (id, []))) l known)
    wait_long seen id other v true k l known = fails_option name names id x (hold (rows seen) (Some (id, []))) xs InvalidValue word
        (long_late name names (option id) x other v (hold (rows seen) (Some (id, []))) InvalidValue l known (value_missing name names (rows seen) id k))

    -- the word is the value of the option, which may have been named before
    put_down : IdleGives xs → StuckGives xs → (seen : List Given) (id : Text) (b : Bool) → is_known names id ≡ true → is_named seen id ≡ b
        → out name names (walk_of (hold (rows seen) (Some (id, x ∷ []))) idle) xs ≡ found_for (with_value id x seen (options_from names xs))
    put_down next stuck seen id true k named =
        stuck (rows seen) (Some (id, x ∷ [])) ArgumentConflict (value_twice name names seen id x k named) ∙ rw named refl
    put_down next stuck seen id false k named =
        next (rows seen) (Some (id, x ∷ [])) (seen ++ (id, x) ∷ []) (value_settles name names seen id x k named) ∙ rw named refl

    wait_plain : IdleGives xs → StuckGives xs → (seen : List Given) (id : Text) (f : Option Text) → is_known names id ≡ true → long_of x ≡ None → short_of x ≡ f
        → out name names (walk_of (hold (rows seen) (Some (id, []))) (option id)) (x ∷ xs) ≡ found_for (options_from names (x ∷ xs) seen (Some id))
    wait_plain next stuck seen id (Some flags) k l e =
        fails_option name names id x (hold (rows seen) (Some (id, []))) xs UnknownArgument word
        (short_unknown name names (option id) x flags (rows seen) (Some (id, [])) l e spelled)
        ∙ sym (ap found_for (wait_reads seen id true (hyphened-short x flags e)))
    wait_plain next stuck seen id None k l e =
        next_option name names id x (hold (rows seen) (Some (id, []))) _ xs word (plain_passes name names x id (hold (rows seen) (Some (id, []))) l e)
        (plain-walk name names x id (rows seen) l e k)
        ∙ put_down next stuck seen id (is_named seen id) k refl
        ∙ sym (ap found_for (wait_reads seen id false (hyphened-plain x word l e)))

    wait_step : IdleGives xs → StuckGives xs → WaitGives (x ∷ xs)
    wait_step next stuck seen id k = go (long_of x) refl
      where
        go : (l : Option (Text × Option Text)) → long_of x ≡ l
            → out name names (walk_of (hold (rows seen) (Some (id, []))) (option id)) (x ∷ xs) ≡ found_for (options_from names (x ∷ xs) seen (Some id))
        go None l = wait_plain next stuck seen id (short_of x) k l refl
        go (Some q) l = wait_long seen id q.0 q.1 (is_known names q.0) k l refl ∙ sym (ap found_for (wait_reads seen id true (hyphened-long x q l)))

  walk_gives : (ws : List Text) → AreWords ws → IdleGives ws × StuckGives ws × WaitGives ws
  walk_gives [] a = (idle_end, stuck_end, wait_end)
  walk_gives (x ∷ xs) a =
      let rest = walk_gives xs a.2 in
      (idle_step x xs a.0 a.1 rest.0 rest.2, stuck_step x xs a.0 a.1, wait_step x xs a.0 a.1 rest.0 rest.1)

  -- the words after the command
  pub leaf_gives : (ws : List Text) → AreWords ws → out name names (walk_of (hold [] None) idle) ws ≡ found_for (options_of names ws)
  leaf_gives ws a = (walk_gives ws a).0 [] None [] (nothing_waits name names [])
