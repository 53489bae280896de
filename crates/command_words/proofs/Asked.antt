-- A parse of the program's words returns what the definitions request.
use Rattle.std.proofs.Common.{◌≡◌, ◌∙◌, ℕ, inl, inr, Bool, true, false, refl, sym, ap, List, [], ◌∷◌, map, Option, Some, None, cond, subst, true≢false}
use Rattle.std.proofs.lemmas.Bool.{and_parts}
use Rattle.std.proofs.lemmas.Slice.Eq.{bytes_eq-Decides}
use Rattle.std.specs.Prelude.{codes, slice_get}
use Rattle.std.specs.List.{find, list_all}
use Rattle.std.specs.Option.{option_map, option_and_then}
use Rattle.std.specs.Str.{bytes_eq}
use Rattle.clap.specs.Values.{kind_of}
use Rattle.clap.specs.Walk.{Row, Rule, Text, first_of, nothing_held, stop_after}
use Rattle.clap.specs.Simple.{App, HasMatchesOf, built, entered, filled_from, is_simple, names_of, subcommand_of, subcommand_rows_of}
use Rattle.clap.specs.Kinds.{HasKind}
use Rattle.clap.specs.Faults.{built_fault, fault_of, is_free_app, is_simple_and_free}
use Rattle.clap.specs.declared.error.Error.{Error}
use Rattle.clap.specs.declared.error.kind.ErrorKind.{ErrorKind}
use Rattle.clap.specs.declared.error.kind.ErrorKind.TheVariants.{OutOfMemory}
use Rattle.clap.specs.declared.parser.matches.ArgMatches.{ArgMatches}
use Rattle.command_definitions.specs.declared.Request.{Request}
use Rattle.command_definitions.specs.Options.{Given, options_of, value_of}
use Rattle.command_definitions.specs.Values.{request_with, values_of, ◌>>=◌}
use Rattle.command_definitions.specs.Commands.{Command, commands, option_names}
use Rattle.command_definitions.specs.Words.{request_given, accepted_request}
use Rattle.basic_lemmas.proofs.Options.{some≢none}
use Rattle.command_words.specs.Apps.{command_before, option_argument, program_with, request_in, values_in}
use Rattle.command_words.specs.Requests.{FailsWords, parse_fault}
use Rattle.command_words.proofs.OptionRules.{option_rule, row, rows, rules_for}
use Rattle.command_words.proofs.WordSteps.{leaf}
use Rattle.command_words.proofs.OptionWalk.{AreWords}
use Rattle.command_words.proofs.ProgramWalk.{app, asked, asked_passes, asks, command_in, enters_asked, found_name, top}

-- ---- the program with one of the commands

-- an option has no place among arguments without a name
filled_options : (i : ℕ) (names : List Text) → filled_from i (map option_argument names) ≡ rules_for names
filled_options i [] = refl
filled_options i (n ∷ ns) = ap (λ rs. option_rule n ∷ rs) (filled_options i ns)

program_built : (c : Command) → built (program_with c) ≡ app (c ∷ [])
program_built c = ap (λ (rs : List Rule). let a : App = record { top = top; subs = record (leaf c.0 (option_names c.1)) { rules = rs } ∷ [] } in a) (filled_options 1 (option_names c.1))

all_free : list_all (λ c. is_simple_and_free (program_with c)) commands ≡ true
all_free = refl

-- a test that all commands pass is passed by the one that is found
found_passes : (q : Command → Bool) (cs : List Command) (w : Text) (c : Command) → command_in cs w ≡ Some c → list_all q cs ≡ true → q c ≡ true
found_passes q [] w c e h = absurd (some≢none c (sym e))
found_passes q (d ∷ ds) w c e h = go (bytes_eq d.0 w) e (found_passes q ds w c)
  where
    parts : (q d ≡ true) × (list_all q ds ≡ true)
    parts = and_parts (q d) (list_all q ds) h

    go : (b : Bool) → cond b (Some d) (command_in ds w) ≡ Some c → (command_in ds w ≡ Some c → list_all q ds ≡ true → q c ≡ true) → q c ≡ true
    go true e next = (let same : d ≡ c = (let x : Some d ≡ Some c = e in cc) in ap q (sym same) ∙ parts.0)
    go false e next = next e parts.1

pub program_free : (words : List Text) (c : Command) → command_before words ≡ Some c → is_simple_and_free (program_with c) ≡ true
program_free [] c e = absurd (some≢none c (sym e))
program_free (w ∷ ws) c e = found_passes (λ d. is_simple_and_free (program_with d)) commands w c e all_free

program_simple : (words : List Text) (c : Command) → command_before words ≡ Some c → is_simple (program_with c) ≡ true
program_simple words c e = (and_parts (is_simple (program_with c)) (is_free_app (built (program_with c))) (program_free words c e)).0

program_faults : (c : Command) (words : List Text) → fault_of (program_with c) words ≡ built_fault (app (c ∷ [])) nothing_held words
program_faults c words = ap (λ (b : App). built_fault b nothing_held words) (program_built c)

program_enters : (c : Command) (words : List Text)
    → subcommand_of (program_with c) words ≡ entered (app (c ∷ [])) (stop_after (app (c ∷ [])).top.rules (names_of (app (c ∷ []))) words)
program_enters c words = ap (λ (b : App). entered b (stop_after b.top.rules (names_of b) words)) (program_built c)

-- the request of the command that the words begin with is the same if it is the only command
asked_alone : (words : List Text) (c : Command) → command_before words ≡ Some c → asked (c ∷ []) words ≡ asked commands words
asked_alone [] c e = absurd (some≢none c (sym e))
asked_alone (w ∷ ws) c e =
    let alone : command_in (c ∷ []) w ≡ Some c = rw ((bytes_eq-Decides c.0 w).1 (found_name commands w c e)) refl in
    asks (c ∷ []) w ws c alone ∙ sym (asks commands w ws c e)

-- ---- the values of options

first_value : (name : Text) (given : List Given) → first_of name (rows given) ≡ value_of name given
first_value name [] = refl
first_value name (g ∷ gs) = go (bytes_eq g.0 name) (first_value name gs)
  where
    go : (b : Bool) → first_of name (rows gs) ≡ value_of name gs
        → option_and_then (λ (r : Row). slice_get r.values 0) (cond b (Some (row g)) (find (λ r. bytes_eq r.id name) (rows gs)))
        ≡ option_map (λ (x : Given). x.1) (cond b (Some g) (find (λ x. bytes_eq x.0 name) gs))
    go true h = refl
    go false h = h

values_same : (given : List Given) → values_in (rows given) ≡ values_of given
values_same given = λ i. record {
  coords = first_value (codes "coords") given i;
  order = first_value (codes "order") given i;
  max_entry = first_value (codes "max-entry") given i;
  seed = first_value (codes "seed") given i;
  moves = first_value (codes "moves") given i;
}

given_same : (c : Command) (os : Option (List Given)) → request_in c.1 (option_map (λ given. (c.0, rows given)) os) ≡ (os >>= λ given. request_given c given)
given_same c None = refl
given_same c (Some given) = ap (λ v. request_with c.1 v) (values_same given)

asked_is : (words : List Text) (c : Command) → command_before words ≡ Some c → request_in c.1 (asked commands words) ≡ accepted_request words
asked_is [] c named = absurd (some≢none c (sym named))
asked_is (w ∷ ws) c named = ap (request_in c.1) (asks commands w ws c named) ∙ given_same c (options_of (option_names c.1) ws)
    ∙ sym (ap (λ (o : Option Command). o >>= λ d. options_of (option_names d.1) ws >>= λ given. request_given d given) named)

-- ---- answers

pub ok_answers : (words : List Text) (c : Command) (m : ArgMatches) (a : App) → command_before words ≡ Some c → a ≡ program_with c → AreWords words → HasMatchesOf a words m → fault_of a words ≡ []
    → request_in c.1 (subcommand_rows_of m) ≡ accepted_request words
ok_answers words c m a named is are has none =
    let matches = has (ap is_simple is ∙ program_simple words c named) in
    let faults : built_fault (app (c ∷ [])) nothing_held words ≡ [] = sym (program_faults c words) ∙ sym (ap (λ (x : App). fault_of x words) is) ∙ none in
    let enters = program_enters c words ∙ enters_asked (c ∷ []) words are faults ∙ asked_alone words c named in
    ap (request_in c.1) (matches.1 ∙ ap (λ (x : App). subcommand_of x words) is ∙ enters) ∙ asked_is words c named

asks_something : (words : List Text) (c : Command) (r : Request) → command_before words ≡ Some c → accepted_request words ≡ Some r → (o : Option (Text × List Row)) → asked commands words ≡ o
    → (p : Text × List Row) × (asked commands words ≡ Some p)
asks_something words c r named some None e = absurd (some≢none r (sym some ∙ sym (asked_is words c named) ∙ ap (request_in c.1) e))
asks_something words c r named some (Some p) e = (p, e)

pub err_answers : (words : List Text) (c : Command) (e : Error) (a : App) → command_before words ≡ Some c → a ≡ program_with c → AreWords words → HasKind (fault_of a words) e → (kind_of e ≡ OutOfMemory → ⊥) → accepted_request words ≡ None
err_answers words c e a named is are kinds no_memory = go (accepted_request words) refl
  where
    none : (p : Text × List Row) → asked commands words ≡ Some p → fault_of a words ≡ []
    none p some = ap (λ (x : App). fault_of x words) is ∙ program_faults c words ∙ asked_passes (c ∷ []) words p are (asked_alone words c named ∙ some)

    go : (o : Option Request) → accepted_request words ≡ o → o ≡ None
    go None same = refl
    go (Some r) same =
        let p = asks_something words c r named same (asked commands words) refl in
        let empty : HasKind [] e = subst (λ ks. HasKind ks e) (none p.0 p.1) kinds in
        elim empty [ inl m ↦ absurd (no_memory m) | inr never ↦ absurd never ]

is_memory : ErrorKind → Bool
is_memory OutOfMemory = true
is_memory _ = false

-- an error other than out of memory is for words that request nothing
pub fault_answers : (k : ErrorKind) (asks : Option Request) → ((k ≡ OutOfMemory → ⊥) → asks ≡ None) → FailsWords (parse_fault k) asks
unfolding is_memory
fault_answers OutOfMemory asks h = tt
fault_answers _ asks h = h (λ e. true≢false (sym (ap is_memory e)))
