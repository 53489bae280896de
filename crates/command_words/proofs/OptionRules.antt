-- The arguments for the options of a command, and the effect of a use of one.
use Rattle.std.proofs.Common.{◌≡◌, ◌∙◌, ◌||◌, ℕ, Bool, true, false, refl, ap, List, [], ◌∷◌, ◌++◌, map, Option, Some, None, cond, true≢false}
use Rattle.std.specs.Str.{bytes_eq}
use Rattle.std.proofs.lemmas.Slice.Eq.{bytes_eq-Decides}
use Rattle.clap.specs.Walk.{Row, Rule, Text, arg_by_id, arg_by_index, arg_by_long, arg_by_short, at_row, has_row, more_values, reading_by, used}
use Rattle.clap.specs.Simple.{new_rule}
use Rattle.clap.specs.Faults.{use_fault}
use Rattle.clap.specs.declared.builder.action.ArgAction.TheVariants.{Set}
use Rattle.clap.specs.declared.builder.value_parser.ValueParser.TheVariants as vp
use Rattle.clap.specs.declared.error.kind.ErrorKind.TheVariants as kind
use Rattle.clap.specs.declared.parser.matches.ValueSource.TheVariants.{CommandLine}
use Rattle.command_definitions.specs.Options.{Given, is_known, is_named}

-- the argument of an option
abbrev pub option_rule : Text → Rule
option_rule name = record (new_rule name) {
  long = Some name;
  action = Some Set;
  parser = Some vp.String;
  range = Some (record { start_inclusive = 1; end_inclusive = 1 });
}

abbrev pub rules_for : List Text → List Rule
rules_for names = map option_rule names

-- the row that is found for an option that is given
abbrev pub row : Given → Row
row g = record { id = g.0; values = g.1 ∷ []; count = None; source = Some CommandLine; reading = reading_by (option_rule g.0) }

abbrev pub rows : List Given → List Row
rows given = map row given

pub same_text : (a : Text) → bytes_eq a a ≡ true
same_text a = (bytes_eq-Decides a a).1 refl

-- the option of a name
abbrev known_rule : Bool → Text → Option Rule
known_rule b name = cond b (Some (option_rule name)) None

pub by_id : (names : List Text) (id : Text) → arg_by_id (rules_for names) id ≡ known_rule (is_known names id) id
by_id [] id = refl
by_id (n ∷ ns) id = go (bytes_eq n id) refl (by_id ns id)
  where
    go : (b : Bool) → bytes_eq n id ≡ b → arg_by_id (rules_for ns) id ≡ known_rule (is_known ns id) id
        → cond b (Some (option_rule n)) (arg_by_id (rules_for ns) id) ≡ known_rule (b || is_known ns id) id
    go true e h = ap (λ x. Some (option_rule x)) ((bytes_eq-Decides n id).0 e)
    go false e h = h

pub by_long : (names : List Text) (id : Text) → arg_by_long (rules_for names) id ≡ known_rule (is_known names id) id
by_long [] id = refl
by_long (n ∷ ns) id = go (bytes_eq n id) refl (by_long ns id)
  where
    go : (b : Bool) → bytes_eq n id ≡ b → arg_by_long (rules_for ns) id ≡ known_rule (is_known ns id) id
        → cond (b || false) (Some (option_rule n)) (arg_by_long (rules_for ns) id) ≡ known_rule (b || is_known ns id) id
    go true e h = ap (λ x. Some (option_rule x)) ((bytes_eq-Decides n id).0 e)
    go false e h = h

pub by_short : (names : List Text) (x : ℕ) → arg_by_short (rules_for names) x ≡ None
by_short [] x = refl
by_short (n ∷ ns) x = by_short ns x

pub by_index : (names : List Text) (i : ℕ) → arg_by_index (rules_for names) i ≡ None
by_index [] i = refl
by_index (n ∷ ns) i = by_index ns i

pub has_row-rows : (id : Text) (given : List Given) → has_row id (rows given) ≡ is_named given id
has_row-rows id [] = refl
has_row-rows id (g ∷ gs) = ap (λ b. bytes_eq g.0 id || b) (has_row-rows id gs)

-- an option that is not given yet is appended
at_row-new : (id : Text) (change : Row → List Row) (missing : List Row) (given : List Given) → is_named given id ≡ false
    → at_row id change missing (rows given) ≡ rows given ++ missing
at_row-new id change missing [] e = refl
at_row-new id change missing (g ∷ gs) e = go (bytes_eq g.0 id) (at_row-new id change missing gs) e
  where
    go : (b : Bool) → (is_named gs id ≡ false → at_row id change missing (rows gs) ≡ rows gs ++ missing) → (b || is_named gs id) ≡ false
        → cond b (change (row g) ++ rows gs) (row g ∷ at_row id change missing (rows gs)) ≡ row g ∷ (rows gs ++ missing)
    go true h e = absurd (true≢false e)
    go false h e = ap (λ rs. row g ∷ rs) (h e)

append_none : (rs : List Row) → rs ++ [] ≡ rs
append_none [] = refl
append_none (r ∷ rs) = ap (λ xs. r ∷ xs) (append_none rs)

rows-append : (given : List Given) (g : Given) → rows given ++ row g ∷ [] ≡ rows (given ++ g ∷ [])
rows-append [] g = refl
rows-append (x ∷ xs) g = ap (λ rs. row x ∷ rs) (rows-append xs g)

pub used-new : (id v : Text) (given : List Given) → is_named given id ≡ false
    → used (option_rule id) (v ∷ []) (rows given) ≡ rows (given ++ (id, v) ∷ [])
used-new id v given e =
    let gone : at_row id (λ _. []) [] (rows given) ≡ rows given = at_row-new id (λ _. []) [] given e ∙ append_none (rows given) in
    ap (at_row id (more_values CommandLine (v ∷ [])) (row (id, v) ∷ [])) gone
    ∙ at_row-new id (more_values CommandLine (v ∷ [])) (row (id, v) ∷ []) given e ∙ rows-append given (id, v)

pub use-new : (id v : Text) (given : List Given) → is_named given id ≡ false → use_fault false (option_rule id) (v ∷ []) (rows given) ≡ []
use-new id v given e = rw (has_row-rows id given, e) refl

pub use-twice : (id v : Text) (given : List Given) → is_named given id ≡ true → use_fault false (option_rule id) (v ∷ []) (rows given) ≡ kind.ArgumentConflict ∷ []
use-twice id v given e = rw (has_row-rows id given, e) refl
