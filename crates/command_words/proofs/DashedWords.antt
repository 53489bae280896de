-- Words that include `--` are not in the grammar.
use Rattle.std.proofs.Common.{◌≡◌, ◌∙◌, ◌||◌, Bool, true, false, refl, sym, ap, List, [], ◌∷◌, Option, Some, None, true≢false}
use Rattle.std.specs.Prelude.{⊤}
use Rattle.std.specs.Str.{bytes_eq}
use Rattle.std.proofs.lemmas.Slice.Eq.{bytes_eq-Decides}
use Rattle.clap.specs.Walk.{Text}
use Rattle.command_definitions.specs.Options.{Given, Next, options_from, options_of, word_read}
use Rattle.command_definitions.specs.Commands.{Command, option_names}
use Rattle.command_definitions.specs.Words.{command_named, request_given, accepted_request}
use Rattle.command_definitions.specs.Values.{◌>>=◌}
use Rattle.command_words.proofs.NeverRead.{word_never}
use Rattle.command_words.specs.Texts.{dashes, has_dashes}

dashes_read : (names : List Text) (next : Next) (seen : List Given) (waiting : Option Text) → word_read names dashes seen waiting next ≡ None
dashes_read names next seen None = refl
dashes_read names next seen (Some name) = refl

never_read : (names ws : List Text) → has_dashes ws ≡ true → (seen : List Given) (waiting : Option Text) → options_from names ws seen waiting ≡ None
unfolding options_from
never_read names [] e seen waiting = absurd (true≢false (sym e))
never_read names (w ∷ ws) e seen waiting = go (bytes_eq w dashes) refl e (never_read names ws)
  where
    go : (b : Bool) → bytes_eq w dashes ≡ b → (b || has_dashes ws) ≡ true → (has_dashes ws ≡ true → (s : List Given) (p : Option Text) → options_from names ws s p ≡ None)
        → word_read names w seen waiting (options_from names ws) ≡ None
    go true t e h = ap (λ x. word_read names x seen waiting (options_from names ws)) ((bytes_eq-Decides w dashes).0 t) ∙ dashes_read names (options_from names ws) seen waiting
    go false t e h = word_never names (options_from names ws) (λ s. ⊤) (λ s g p. tt) (λ s v p. h e s v) w seen waiting tt

pub dashes_ask_nothing : (ws : List Text) → has_dashes ws ≡ true → accepted_request ws ≡ None
dashes_ask_nothing [] e = refl
dashes_ask_nothing (w ∷ ws) e = go (bytes_eq w dashes) refl e
  where
    go : (b : Bool) → bytes_eq w dashes ≡ b → (b || has_dashes ws) ≡ true → accepted_request (w ∷ ws) ≡ None
    go true t e = ap (λ x. accepted_request (x ∷ ws)) ((bytes_eq-Decides w dashes).0 t)
    go false t e = named (command_named w)
      where
        named : (o : Option Command) → (o >>= λ c. options_of (option_names c.1) ws >>= λ os. request_given c os) ≡ None
        named None = refl
        named (Some c) = rw (never_read (option_names c.1) ws e [] None) refl
