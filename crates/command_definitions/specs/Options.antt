-- How the words after a command name options and their values.
use Rattle.std.specs.Prelude.{ℕ, Bool, ◌==◌, ◌&&◌, false, List, [], ◌∷◌, ◌++◌, Option, Some, None, if◌then◌else◌}
use Rattle.std.specs.List.{list_any, before_first, after_first, find}
use Rattle.std.specs.Option.{option_map}
use Rattle.text_definitions.specs.Reading.{same_word}

-- an option's name and its value
abbrev pub Given : Type 0
Given = List ℕ × List ℕ

abbrev pub is_equals_sign : ℕ → Bool
is_equals_sign b = b == 61

-- the text after the two hyphens: a name, or a name and a value separated by the first `=`
abbrev pub name_and_value : List ℕ → List ℕ × Option (List ℕ)
name_and_value rest = (before_first is_equals_sign rest, if list_any is_equals_sign rest then Some (after_first is_equals_sign rest) else None)

-- a word `--name` or `--name=value`, as the name and the value
abbrev pub option_word : List ℕ → Option (List ℕ × Option (List ℕ))
option_word (a ∷ b ∷ c ∷ rest) = if a == 45 && b == 45 then Some (name_and_value (c ∷ rest)) else None
option_word _ = None

-- A word that begins with a hyphen and has more characters. It is never read as the value of an option.
abbrev pub is_hyphened : List ℕ → Bool
is_hyphened (a ∷ b ∷ rest) = a == 45
is_hyphened _ = false

-- whether a command has an option of this name
abbrev pub is_known : List (List ℕ) → List ℕ → Bool
is_known names name = list_any (λ n. same_word n name) names

-- whether an option is named among those
abbrev pub is_named : List Given → List ℕ → Bool
is_named seen name = list_any (λ g. same_word g.0 name) seen

-- what is read on, from the options seen so far and an option whose value is still to come
abbrev pub Next : Type 0
Next = List Given → Option (List ℕ) → Option (List Given)

-- one more option, which is not named twice
abbrev pub with_value : List ℕ → List ℕ → List Given → Next → Option (List Given)
with_value name value seen next = if is_named seen name then None else next (seen ++ (name, value) ∷ []) None

-- an option of the command, with its value in the same word or in the next one
abbrev pub option_found : List ℕ → Option (List ℕ) → List Given → Next → Option (List Given)
option_found name (Some value) seen next = with_value name value seen next
option_found name None seen next = next seen (Some name)

abbrev pub option_read : List (List ℕ) → Option (List ℕ × Option (List ℕ)) → List Given → Next → Option (List Given)
option_read names None seen next = None
option_read names (Some p) seen next = if is_known names p.0 then option_found p.0 p.1 seen next else None

-- one word: the value of the option that waits for it, or an option
abbrev pub word_read : List (List ℕ) → List ℕ → List Given → Option (List ℕ) → Next → Option (List Given)
word_read names w seen (Some name) next = if is_hyphened w then None else with_value name w seen next
word_read names w seen None next = option_read names (option_word w) seen next

-- the end of the words
abbrev pub ended : List Given → Option (List ℕ) → Option (List Given)
ended seen (Some name) = None
ended seen None = Some seen

-- The options so far and those of the words, where a command has options of these names and the words name each at
-- most once.
unfoldable pub options_from : List (List ℕ) → List (List ℕ) → List Given → Option (List ℕ) → Option (List Given)
options_from names [] seen waiting = ended seen waiting
options_from names (w ∷ ws) seen waiting = word_read names w seen waiting (options_from names ws)

-- the options that the words after a command name, each with its value
abbrev pub options_of : List (List ℕ) → List (List ℕ) → Option (List Given)
options_of names words = options_from names words [] None

-- the value of an option, if the option is given
abbrev pub value_of : List ℕ → List Given → Option (List ℕ)
value_of name given = option_map (λ g. g.1) (find (λ g. same_word g.0 name) given)
