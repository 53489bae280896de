-- Words are accepted if and only if they are in the grammar.
use Rattle.std.proofs.Common.{◌≡◌, Bool, true, inl, inr, refl, sym, ap, ◌∙◌, subst, List, [], ◌∷◌, Option, Some, None, arith}
use Rattle.std.specs.List.{Contains, list_all}
use Rattle.std.proofs.lemmas.Bool.{and_parts}
use Rattle.std.proofs.lemmas.List.Elements.{All-from_recursion, recursion_from_All}
use Rattle.basic_lemmas.proofs.Options.{some≢none}
use Rattle.command_definitions.specs.declared.Request.{Request}
use Rattle.command_definitions.specs.Options.{Given, options_of}
use Rattle.command_definitions.specs.Values.{◌>>=◌}
use Rattle.command_definitions.specs.Commands.{Command, commands, option_names}
use Rattle.command_definitions.specs.Words.{command_named, request_given, accepted_request}
use Rattle.command_definitions.specs.Grammar.{IsRequest}
use Rattle.command_laws.proofs.Lookups.{Text, Apart, Member, apart_of, apart_by_test, row_found, found_row, member_of, contains_of}
use Rattle.command_laws.proofs.Spellings.{is_plain}
use Rattle.command_laws.proofs.OptionLists.{AreApart, Reads, joined, read_right, spelled_right}
use Rattle.command_laws.proofs.RequestValues.{request_right, values_right}

-- ---- the commands

commands_apart : Apart commands
commands_apart = apart_by_test commands refl

passes : {A : Type 0} (test : A → Bool) (xs : List A) (x : A) → list_all test xs ≡ true → Member x xs → test x ≡ true
passes test [] x e m = absurd m
passes test (y ∷ ys) x e (inl same) = subst (λ z. test z ≡ true) same (and_parts (test y) (list_all test ys) e).0
passes test (y ∷ ys) x e (inr m) = passes test ys x (and_parts (test y) (list_all test ys) e).1 m

plain_names : (command : Command) → Contains commands command → (name : Text) → Contains (option_names command.1) name → is_plain name ≡ true
plain_names command listed name has =
    passes is_plain (option_names command.1) name (passes (λ (c : Command). list_all is_plain (option_names c.1)) commands command refl (member_of commands command listed))
    (member_of (option_names command.1) name has)

-- ---- accepted words are in the grammar

module _ (r : Request) where
  in_grammar : (w : Text) (ws : List Text) (c : Command) (given : List Given) → command_named w ≡ Some c → options_of (option_names c.1) ws ≡ Some given → request_given c given ≡ Some r
      → IsRequest (w ∷ ws) r
  in_grammar w ws c given found read asked =
      let row = row_found w commands c found in
      let reads : Reads (option_names c.1) ws [] given = read_right (option_names c.1) ws [] None (λ i j d less limited. absurd (omega arith)) given read in
      record {
        name = c.0;
        kinds = c.1.0;
        request = c.1.1;
        command = contains_of commands c row.0;
        options = reads.given;
        known = All-from_recursion (λ (option : Given). Contains (option_names c.1) option.0) reads.given reads.known;
        separate = subst AreApart reads.whole reads.separate;
        spellings = reads.spellings;
        spelled = reads.spelled;
        whole = λ i. sym row.1 i ∷ reads.words_are i;
        values = request_right reads.given c.1.0 c.1.1 r (subst (λ (options : List Given). request_given c options ≡ Some r) reads.whole asked);
      }

  by_options : (w : Text) (ws : List Text) (c : Command) (o : Option (List Given)) → command_named w ≡ Some c → options_of (option_names c.1) ws ≡ o → (o >>= λ given. request_given c given) ≡ Some r
      → IsRequest (w ∷ ws) r
  by_options w ws c None found read e = absurd (some≢none r (sym e))
  by_options w ws c (Some given) found read e = in_grammar w ws c given found read e

  by_command : (w : Text) (ws : List Text) (o : Option Command) → command_named w ≡ o → (o >>= λ c. options_of (option_names c.1) ws >>= λ given. request_given c given) ≡ Some r → IsRequest (w ∷ ws) r
  by_command w ws None found e = absurd (some≢none r (sym e))
  by_command w ws (Some c) found e = by_options w ws c (options_of (option_names c.1) ws) found refl e

  pub accepted_spell : (words : List Text) → accepted_request words ≡ Some r → IsRequest words r
  accepted_spell [] e = absurd (some≢none r (sym e))
  accepted_spell (w ∷ ws) e = by_command w ws (command_named w) refl e

  -- ---- words of the grammar are accepted

  pub spelled_accept : (words : List Text) → IsRequest words r → accepted_request words ≡ Some r
  spelled_accept words is =
      let command : Command = (is.name, (is.kinds, is.request)) in
      let names : List Text = option_names command.1 in
      let ws : List Text = joined is.spellings in
      let found : command_named is.name ≡ Some command = found_row commands command commands_apart (member_of commands command is.command) in
      let read : options_of names ws ≡ Some is.options =
      spelled_right names (plain_names command is.command) is.options is.spellings [] is.spelled (recursion_from_All (λ (option : Given). Contains names option.0) is.options is.known) is.separate in
      ap accepted_request is.whole
      ∙ ap (λ (o : Option Command). o >>= λ c. options_of (option_names c.1) ws >>= λ given. request_given c given) found
      ∙ ap (λ (o : Option (List Given)). o >>= λ given. request_given command given) read
      ∙ values_right is.options is.kinds is.request r (apart_of is.options is.separate) is.values

-- ---- refused words spell no request, and words spell at most one request

pub refused_spell_none : (words : List Text) → accepted_request words ≡ None → (r : Request) → IsRequest words r → ⊥
refused_spell_none words e r is = some≢none r (sym (spelled_accept r words is) ∙ e)

pub none_spelled_refused : (words : List Text) → ((r : Request) → IsRequest words r → ⊥) → accepted_request words ≡ None
none_spelled_refused words never = go (accepted_request words) refl
  where
    go : (o : Option Request) → accepted_request words ≡ o → o ≡ None
    go None e = refl
    go (Some r) e = absurd (never r (accepted_spell r words e))

pub spelled_once : (words : List Text) (r s : Request) → IsRequest words r → IsRequest words s → r ≡ s
spelled_once words r s one other = let same : Some r ≡ Some s = sym (spelled_accept r words one) ∙ spelled_accept s words other in cc
