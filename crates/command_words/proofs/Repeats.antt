-- If two of the words name the same option, the words are not in the grammar.
use Rattle.std.proofs.Common.{◌≡◌, ◌∙◌, ◌+◌, ◌||◌, ◌<◌, ℕ, Bool, true, false, zero, suc, refl, sym, ap, subst, List, [], ◌∷◌, ◌++◌, Option, Some, None, cond, codes, true≢false, take, drop, length, arith}
use Rattle.std.specs.Prelude.{count_by, ⊤, ◌==◌}
use Rattle.std.proofs.lemmas.List.Sums.{sum_by-cons}
use Rattle.std.specs.List.{list_any, before_first, AllByRecursion}
use Rattle.std.specs.Str.{bytes_eq}
use Rattle.std.proofs.lemmas.Bool.{and_parts, ltb-true, or_left, or_right, or_parts, eqb-true, eqb-false}
use Rattle.std.proofs.lemmas.Slice.Eq.{bytes_eq-Decides}
use Rattle.std.proofs.lemmas.List.{take-append-drop, append-nil}
use Rattle.clap.proofs.CutLemmas.{Lacks, before_first-Lacks, before_first-at}
use Rattle.clap.specs.Walk.{Text}
use Rattle.command_definitions.specs.Options.{Given, is_equals_sign, is_hyphened, is_known, is_named, option_found, name_and_value, option_read, option_word, options_from, options_of, with_value, word_read}
use Rattle.command_definitions.specs.Commands.{Command, option_names}
use Rattle.command_definitions.specs.Words.{command_named, request_given, accepted_request}
use Rattle.command_definitions.specs.Values.{◌>>=◌}
use Rattle.command_words.proofs.NeverRead.{word_never}
use Rattle.command_words.specs.Texts.{options, ends_option, is_naming, is_repeated, has_repeats}

-- the number of words that name the option
abbrev times : Text → List Text → ℕ
times o ws = count_by (λ w. is_naming o w) ws

times_cons : (o w : Text) (ws : List Text) → times o (w ∷ ws) ≡ cond (is_naming o w) 1 0 + times o ws
times_cons o w ws = sum_by-cons (λ (v : Text). cond (is_naming o v) 1 0) w ws

-- a word that is read as an option of this name, and as no value
record Names (name w : Text) : Type 0 where
  value : Option Text
  read : option_word w ≡ Some (name, value)
  hyphened : is_hyphened w ≡ true

named_again : (seen : List Given) (g : Given) (name : Text) → is_named seen name ≡ true → is_named (seen ++ g ∷ []) name ≡ true
named_again [] g name e = absurd (true≢false (sym e))
named_again (s ∷ seen) g name e = go (bytes_eq s.0 name) e (named_again seen g name)
  where
    go : (b : Bool) → (b || is_named seen name) ≡ true → (is_named seen name ≡ true → is_named (seen ++ g ∷ []) name ≡ true) → (b || is_named (seen ++ g ∷ []) name) ≡ true
    go true e h = refl
    go false e h = h e

named_now : (seen : List Given) (name v : Text) → is_named (seen ++ (name, v) ∷ []) name ≡ true
named_now [] name v = or_left (bytes_eq name name) false ((bytes_eq-Decides name name).1 refl)
named_now (s ∷ seen) name v = or_right (bytes_eq s.0 name) (is_named (seen ++ (name, v) ∷ []) name) (named_now seen name v)

module _ (names : List Text) (o name : Text) (reads : (w : Text) → is_naming o w ≡ true → Names name w) where
  abbrev Seen : List Given → Type 0
  Seen seen = is_named seen name ≡ true

  -- the option that waits for its value was already given
  waits_no_more : (ws : List Text) (seen : List Given) → Seen seen → options_from names ws seen (Some name) ≡ None
  unfolding options_from
  waits_no_more [] seen p = refl
  waits_no_more (w ∷ ws) seen p = go (is_hyphened w)
    where
      go : (b : Bool) → cond b None (with_value name w seen (options_from names ws)) ≡ None
      go true = refl
      go false = rw p refl

  -- a word that names it again is refused
  met_again : (l : Option (Text × Option Text)) (v : Option Text) (seen : List Given) (ws : List Text) → l ≡ Some (name, v) → Seen seen → option_read names l seen (options_from names ws) ≡ None
  met_again l v seen ws e p = rw e (go (is_known names name) v)
    where
      go : (b : Bool) (v : Option Text) → cond b (option_found name v seen (options_from names ws)) None ≡ None
      go false v = refl
      go true None = waits_no_more ws seen p
      go true (Some v) = rw p refl

  word_again : (w : Text) (ws : List Text) (seen : List Given) (waiting : Option Text) → Names name w → Seen seen → word_read names w seen waiting (options_from names ws) ≡ None
  word_again w ws seen None n p = met_again (option_word w) n.value seen ws n.read p
  word_again w ws seen (Some other) n p = rw n.hyphened refl

  once : (ws : List Text) → 0 < times o ws → (seen : List Given) (waiting : Option Text) → Seen seen → options_from names ws seen waiting ≡ None
  unfolding options_from
  once [] limited seen waiting p = absurd (omega arith)
  once (w ∷ ws) limited seen waiting p = go (is_naming o w) refl (subst (λ k. 0 < k) (times_cons o w ws) limited) (once ws)
    where
      go : (b : Bool) → is_naming o w ≡ b → 0 < cond b 1 0 + times o ws → (0 < times o ws → (seen : List Given) (waiting : Option Text) → Seen seen → options_from names ws seen waiting ≡ None)
          → word_read names w seen waiting (options_from names ws) ≡ None
      go true t limited h = word_again w ws seen waiting (reads w t) p
      go false t limited h = word_never names (options_from names ws) Seen (λ s g q. named_again s g name q) (h (let f : 0 < times o ws = omega arith in f)) w seen waiting p

  -- the option is named, and its value follows
  waits_once : (ws : List Text) → 0 < times o ws → (seen : List Given) → options_from names ws seen (Some name) ≡ None
  unfolding options_from
  waits_once [] limited seen = refl
  waits_once (w ∷ ws) limited seen = go (is_naming o w) refl (subst (λ k. 0 < k) (times_cons o w ws) limited)
    where
      value : (b c : Bool) → is_hyphened w ≡ b → is_named seen name ≡ c → 0 < times o ws → cond b None (cond c None (options_from names ws (seen ++ (name, w) ∷ []) None)) ≡ None
      value true c t u limited = refl
      value false true t u limited = refl
      value false false t u limited = once ws limited (seen ++ (name, w) ∷ []) None (named_now seen name w)

      go : (b : Bool) → is_naming o w ≡ b → 0 < cond b 1 0 + times o ws → word_read names w seen (Some name) (options_from names ws) ≡ None
      go true t limited = rw ((reads w t).hyphened) refl
      go false t limited = value (is_hyphened w) (is_named seen name) refl refl (omega arith)

  met_first : (l : Option (Text × Option Text)) (v : Option Text) (seen : List Given) (ws : List Text) → l ≡ Some (name, v) → 0 < times o ws → option_read names l seen (options_from names ws) ≡ None
  met_first l v seen ws e limited = rw e (go (is_known names name) v)
    where
      value : (v : Text) (c : Bool) → cond c None (options_from names ws (seen ++ (name, v) ∷ []) None) ≡ None
      value v true = refl
      value v false = once ws limited (seen ++ (name, v) ∷ []) None (named_now seen name v)

      go : (b : Bool) (v : Option Text) → cond b (option_found name v seen (options_from names ws)) None ≡ None
      go false v = refl
      go true None = waits_once ws limited seen
      go true (Some v) = value v (is_named seen name)

  word_first : (w : Text) (ws : List Text) (seen : List Given) (waiting : Option Text) → Names name w → 0 < times o ws → word_read names w seen waiting (options_from names ws) ≡ None
  word_first w ws seen None n limited = met_first (option_word w) n.value seen ws n.read limited
  word_first w ws seen (Some other) n limited = rw n.hyphened refl

  twice : (ws : List Text) → 1 < times o ws → (seen : List Given) (waiting : Option Text) → options_from names ws seen waiting ≡ None
  unfolding options_from
  twice [] limited seen waiting = absurd (omega arith)
  twice (w ∷ ws) limited seen waiting = go (is_naming o w) refl (subst (λ k. 1 < k) (times_cons o w ws) limited) (twice ws)
    where
      go : (b : Bool) → is_naming o w ≡ b → 1 < cond b 1 0 + times o ws → (1 < times o ws → (seen : List Given) (waiting : Option Text) → options_from names ws seen waiting ≡ None)
          → word_read names w seen waiting (options_from names ws) ≡ None
      go true t limited h = word_first w ws seen waiting (reads w t) (omega arith)
      go false t limited h = word_never names (options_from names ws) (λ s. ⊤) (λ s g q. tt) (λ s v q. h (omega arith) s v) w seen waiting tt

lacks_by_test : (xs : Text) → list_any is_equals_sign xs ≡ false → Lacks 61 xs
lacks_by_test [] e i limited = absurd (omega arith)
lacks_by_test (x ∷ xs) e zero limited = eqb-false x 61 (or_parts (x == 61) (list_any is_equals_sign xs) e).0
lacks_by_test (x ∷ xs) e (suc i) limited = lacks_by_test xs (or_parts (x == 61) (list_any is_equals_sign xs) e).1 i (omega arith)

-- an option's word is read as that option
lacking : (name rest : Text) → Lacks 61 name → ends_option rest ≡ true → before_first is_equals_sign (name ++ rest) ≡ name
lacking name [] l e = before_first-Lacks 61 (name ++ []) (subst (λ (xs : Text). Lacks 61 xs) (sym (append-nil name)) l) ∙ append-nil name
lacking name (b ∷ rest) l e = ap (λ x. before_first is_equals_sign (name ++ x ∷ rest)) (eqb-true b 61 e) ∙ before_first-at 61 name rest l

spelled_so : (o w : Text) → is_naming o w ≡ true → (rest : Text) × (w ≡ o ++ rest) × (ends_option rest ≡ true)
spelled_so o w e =
    let parts : (bytes_eq (take (length o) w) o ≡ true) × (ends_option (drop (length o) w) ≡ true) = and_parts (bytes_eq (take (length o) w) o) (ends_option (drop (length o) w)) e in
    (drop (length o) w, sym (take-append-drop (length o) w) ∙ ap (λ (xs : Text). xs ++ drop (length o) w) ((bytes_eq-Decides (take (length o) w) o).0 parts.0), parts.1)

reads_of : (c : ℕ) (cs : Text) → Lacks 61 (c ∷ cs) → (w : Text) → is_naming (45 ∷ 45 ∷ c ∷ cs) w ≡ true → Names (c ∷ cs) w
reads_of c cs l w e =
    let s : (rest : Text) × (w ≡ 45 ∷ 45 ∷ c ∷ (cs ++ rest)) × (ends_option rest ≡ true) = spelled_so (45 ∷ 45 ∷ c ∷ cs) w e in
    record {
      value = (name_and_value (c ∷ (cs ++ s.0))).1;
      read = ap option_word s.1 ∙ ap (λ (n : Text). Some (n, (name_and_value (c ∷ (cs ++ s.0))).1)) (lacking (c ∷ cs) s.0 l s.2);
      hyphened = ap is_hyphened s.1;
    }

-- words that name one option twice request nothing
after_command : (o name : Text) (w : Text) (ws : List Text) (b : Bool) → ((v : Text) → is_naming o v ≡ true → Names name v) → (is_naming o w ≡ true → command_named w ≡ None) → is_naming o w ≡ b → 1 < cond b 1 0 + times o ws
    → accepted_request (w ∷ ws) ≡ None
after_command o name w ws true reads none t limited = rw (none t) refl
after_command o name w ws false reads none t limited = named (command_named w)
  where
    named : (c : Option Command) → (c >>= λ c. options_of (option_names c.1) ws >>= λ os. request_given c os) ≡ None
    named None = refl
    named (Some c) = rw (twice (option_names c.1) o name reads ws (omega arith) [] None) refl

no_command : (c : ℕ) (cs w : Text) → is_naming (45 ∷ 45 ∷ c ∷ cs) w ≡ true → command_named w ≡ None
no_command c cs w e = ap command_named (spelled_so (45 ∷ 45 ∷ c ∷ cs) w e).1

repeat_asks_nothing : (c : ℕ) (cs : Text) → Lacks 61 (c ∷ cs) → (ws : List Text) → is_repeated ws (45 ∷ 45 ∷ c ∷ cs) ≡ true → accepted_request ws ≡ None
repeat_asks_nothing c cs l [] e = refl
repeat_asks_nothing c cs l (w ∷ ws) e =
    let o : Text = 45 ∷ 45 ∷ c ∷ cs in
    after_command o (c ∷ cs) w ws (is_naming o w) (reads_of c cs l) (no_command c cs w) refl (subst (λ k. 1 < k) (times_cons o w ws) (ltb-true 1 (times o (w ∷ ws)) e))

any_of : (A : Type 0) (p : Text → Bool) (xs : List Text) → AllByRecursion (λ x. p x ≡ true → A) xs → list_any p xs ≡ true → A
any_of A p [] all e = absurd (true≢false (sym e))
any_of A p (x ∷ xs) all e = go (p x) refl e (any_of A p xs all.1)
  where
    go : (b : Bool) → p x ≡ b → (b || list_any p xs) ≡ true → (list_any p xs ≡ true → A) → A
    go true t e h = all.0 t
    go false t e h = h e

pub repeats_ask_nothing : (ws : List Text) → has_repeats ws ≡ true → accepted_request ws ≡ None
repeats_ask_nothing ws e =
    let asks_nothing : (c : ℕ) (cs : Text) → list_any is_equals_sign (c ∷ cs) ≡ false → is_repeated ws (45 ∷ 45 ∷ c ∷ cs) ≡ true → accepted_request ws ≡ None =
    λ c cs l. repeat_asks_nothing c cs (lacks_by_test (c ∷ cs) l) ws in
    any_of (accepted_request ws ≡ None) (λ o. is_repeated ws o) options
    (asks_nothing 99 (codes "oords") refl, (asks_nothing 111 (codes "rder") refl, (asks_nothing 109 (codes "ax-entry") refl, (asks_nothing 115 (codes "eed") refl, (asks_nothing 109 (codes "oves") refl, tt))))) e
