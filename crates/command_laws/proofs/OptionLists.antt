-- The options that are read from words are those that the words spell.
use Rattle.std.proofs.Common.{◌≡◌, ◌≢◌, ◌<◌, Bool, true, false, inl, inr, refl, sym, ap, ◌∙◌, subst, List, [], ◌∷◌, ◌++◌, length, get_or, Option, Some, None, cond, codes, arith, append_assoc, append-nil}
use Rattle.std.specs.List.{AllByRecursion, AllPairs, AllZip, Contains, flat_map}
use Rattle.std.proofs.lemmas.List.{get_or_append_left, get_or_at, length-append}
use Rattle.std.proofs.lemmas.List.Elements.{All-from_recursion, recursion_from_All}
use Rattle.std.proofs.lemmas.List.Quantifiers.{all_pairs_push}
use Rattle.basic_lemmas.proofs.Options.{some≢none}
use Rattle.command_definitions.specs.Options.{Given, is_hyphened, is_known, is_named, option_found, option_read, option_word, options_from, with_value}
use Rattle.command_definitions.specs.Grammar.{IsSpelled}
use Rattle.command_laws.proofs.Lookups.{Text, absent_named, named_absent, known_member, member_known, member_of, contains_of}
use Rattle.command_laws.proofs.Spellings.{IsWordOf, is_plain, name_read, value_read, word_spelled}

abbrev pub joined : List (List Text) → List Text
joined spellings = flat_map (λ spelling. spelling) spellings

-- the options have different names
abbrev pub AreApart : List Given → Type 0
AreApart options = AllPairs (λ one other. one.0 ≢ other.0) options

module _ (names : List Text) where
  -- the words spell options, which come after those seen before
  pub record Reads (words : List Text) (seen all : List Given) : Type 0 where
    pub given : List Given
    pub spellings : List (List Text)
    pub spelled : AllZip IsSpelled given spellings
    pub known : AllByRecursion (λ option. Contains names option.0) given
    pub separate : AreApart all
    pub whole : all ≡ seen ++ given
    pub words_are : words ≡ joined spellings

  -- as `Reads`, if the value of a known option is the next word
  abbrev pub ReadsOn : List Text → List Given → Option Text → List Given → Type 0
  ReadsOn words seen None all = Reads words seen all
  ReadsOn words seen (Some name) all = (value : Text) × (rest : List Text) × (words ≡ value ∷ rest) × (is_hyphened value ≡ false) × Reads rest (seen ++ (name, value) ∷ []) all

  -- the options that are read from the words are those that the words spell
  abbrev IsRight : List Text → Type 0
  IsRight words = (seen : List Given) (waiting : Option Text) → AreApart seen → (all : List Given) → options_from names words seen waiting ≡ Some all → ReadsOn words seen waiting all

  more : (option : Given) (spelling rest : List Text) (seen all : List Given) → IsSpelled option spelling → Contains names option.0 → Reads rest (seen ++ option ∷ []) all → Reads (spelling ++ rest) seen all
  more option spelling rest seen all is known reads = record {
    given = option ∷ reads.given;
    spellings = spelling ∷ reads.spellings;
    spelled = (is, reads.spelled);
    known = (known, reads.known);
    separate = reads.separate;
    whole = reads.whole ∙ append_assoc seen (option ∷ []) reads.given;
    words_are = ap (λ (ws : List Text). spelling ++ ws) reads.words_are;
  }

  apart_push : (seen : List Given) (name value : Text) → AreApart seen → is_named seen name ≡ false → AreApart (seen ++ (name, value) ∷ [])
  apart_push seen name value separate fresh =
      all_pairs_push (λ (one other : Given). one.0 ≢ other.0) seen (name, value) separate (λ k d less. All-from_recursion (λ (g : Given). g.0 ≢ name) seen (named_absent name seen fresh) k d less)

  -- a value is accepted, unless its option was seen before
  value_taken : (name value : Text) (ws : List Text) (seen all : List Given) (b : Bool) → is_named seen name ≡ b → AreApart seen → IsRight ws
      → cond b None (options_from names ws (seen ++ (name, value) ∷ []) None) ≡ Some all → Reads ws (seen ++ (name, value) ∷ []) all
  value_taken name value ws seen all true fresh separate right e = absurd (some≢none all (sym e))
  value_taken name value ws seen all false fresh separate right e = right (seen ++ (name, value) ∷ []) None (apart_push seen name value separate fresh) all e

  waited : (name w : Text) (ws : List Text) (seen all : List Given) (b : Bool) → is_hyphened w ≡ b → AreApart seen → IsRight ws
      → cond b None (with_value name w seen (options_from names ws)) ≡ Some all → ReadsOn (w ∷ ws) seen (Some name) all
  waited name w ws seen all true hyphened separate right e = absurd (some≢none all (sym e))
  waited name w ws seen all false hyphened separate right e = (w, ws, refl, hyphened, value_taken name w ws seen all (is_named seen name) refl separate right e)

  known_name : (name : Text) → is_known names name ≡ true → Contains names name
  known_name name e = contains_of names name (known_member names name e)

  met : (name : Text) (v : Option Text) (w : Text) (ws : List Text) (seen all : List Given) → IsWordOf name v w → Contains names name → AreApart seen → IsRight ws
      → option_found name v seen (options_from names ws) ≡ Some all → Reads (w ∷ ws) seen all
  met name (Some value) w ws seen all is known separate right e =
      more (name, value) (w ∷ []) ws seen all (inl (ap (λ (x : Text). x ∷ []) is)) known (value_taken name value ws seen all (is_named seen name) refl separate right e)
  met name None w ws seen all is known separate right e =
      let r : ReadsOn ws seen (Some name) all = right seen (Some name) separate all e in
      subst (λ (xs : List Text). Reads (w ∷ xs) seen all) (sym r.2)
      (more (name, r.0) (w ∷ r.0 ∷ []) r.1 seen all (inr (ap (λ (x : Text). x ∷ r.0 ∷ []) is, r.3)) known r.4)

  option_taken : (w : Text) (ws : List Text) (seen all : List Given) (l : Option (Text × Option Text)) → option_word w ≡ l → AreApart seen → IsRight ws
      → option_read names l seen (options_from names ws) ≡ Some all → Reads (w ∷ ws) seen all
  option_taken w ws seen all None is separate right e = absurd (some≢none all (sym e))
  option_taken w ws seen all (Some (name, v)) is separate right e = go (is_known names name) refl e
    where
      go : (b : Bool) → is_known names name ≡ b → cond b (option_found name v seen (options_from names ws)) None ≡ Some all → Reads (w ∷ ws) seen all
      go true known e = met name v w ws seen all (word_spelled w name v is) (known_name name known) separate right e
      go false known e = absurd (some≢none all (sym e))

  ended_right : (seen all : List Given) → AreApart seen → Some seen ≡ Some all → Reads [] seen all
  ended_right seen all separate e =
      let same : seen ≡ all = cc in
      record { given = []; spellings = []; spelled = tt; known = tt; separate = subst AreApart same separate; whole = sym same ∙ sym (append-nil seen); words_are = refl }

  pub read_right : (words : List Text) → IsRight words
  unfolding options_from
  read_right [] seen None separate all e = ended_right seen all separate e
  read_right [] seen (Some name) separate all e = absurd (some≢none all (sym e))
  read_right (w ∷ ws) seen None separate all e = option_taken w ws seen all (option_word w) refl separate (read_right ws) e
  read_right (w ∷ ws) seen (Some name) separate all e = waited name w ws seen all (is_hyphened w) refl separate (read_right ws) e

  -- ---- words that spell options are read as these

  one_word : (name value : Text) (ws : List Text) (seen : List Given) → is_plain name ≡ true → is_known names name ≡ true → is_named seen name ≡ false
      → options_from names ((codes "--" ++ name ++ codes "=" ++ value) ∷ ws) seen None ≡ options_from names ws (seen ++ (name, value) ∷ []) None
  unfolding options_from
  one_word name value ws seen plain known fresh =
      ap (λ (l : Option (Text × Option Text)). option_read names l seen (options_from names ws)) (value_read name value plain)
      ∙ ap (λ b. cond b (with_value name value seen (options_from names ws)) None) known
      ∙ ap (λ b. cond b None (options_from names ws (seen ++ (name, value) ∷ []) None)) fresh

  two_words : (name value : Text) (ws : List Text) (seen : List Given) → is_plain name ≡ true → is_known names name ≡ true → is_hyphened value ≡ false → is_named seen name ≡ false
      → options_from names ((codes "--" ++ name) ∷ value ∷ ws) seen None ≡ options_from names ws (seen ++ (name, value) ∷ []) None
  unfolding options_from
  two_words name value ws seen plain known hyphened fresh =
      ap (λ (l : Option (Text × Option Text)). option_read names l seen (options_from names (value ∷ ws))) (name_read name plain)
      ∙ ap (λ b. cond b (options_from names (value ∷ ws) seen (Some name)) None) known
      ∙ ap (λ b. cond b None (with_value name value seen (options_from names ws))) hyphened
      ∙ ap (λ b. cond b None (options_from names ws (seen ++ (name, value) ∷ []) None)) fresh

  option_step : (option : Given) (spelling ws : List Text) (seen : List Given) → IsSpelled option spelling → is_plain option.0 ≡ true → is_known names option.0 ≡ true → is_named seen option.0 ≡ false
      → options_from names (spelling ++ ws) seen None ≡ options_from names ws (seen ++ option ∷ []) None
  option_step option spelling ws seen (inl e) plain known fresh =
      ap (λ (s : List Text). options_from names (s ++ ws) seen None) e ∙ one_word option.0 option.1 ws seen plain known fresh
  option_step option spelling ws seen (inr e) plain known fresh =
      ap (λ (s : List Text). options_from names (s ++ ws) seen None) e.0 ∙ two_words option.0 option.1 ws seen plain known e.1 fresh

  -- an option is not among those before it
  others : (seen : List Given) (option : Given) (rest : List Given) → AreApart (seen ++ option ∷ rest) → is_named seen option.0 ≡ false
  others seen option rest separate = absent_named option.0 seen (recursion_from_All (λ (g : Given). g.0 ≢ option.0) seen (λ k d less.
      let differ = separate k (length seen) d less (let more : length seen < length (seen ++ option ∷ rest) = omega (arith, length-append seen (option ∷ rest)) in more) in
      subst (λ (g : Given). g.0 ≢ option.0) (get_or_append_left seen (option ∷ rest) d k less)
      (subst (λ (g : Given). (get_or (seen ++ option ∷ rest) k d).0 ≢ g.0) (get_or_at seen option rest d (length seen) refl) differ)))

  pub spelled_right : (plain : (name : Text) → Contains names name → is_plain name ≡ true) (given : List Given) (spellings : List (List Text)) (seen : List Given)
      → AllZip IsSpelled given spellings → AllByRecursion (λ option. Contains names option.0) given → AreApart (seen ++ given)
      → options_from names (joined spellings) seen None ≡ Some (seen ++ given)
  unfolding options_from
  spelled_right plain [] [] seen spelled known separate = ap (λ (x : List Given). Some x) (sym (append-nil seen))
  spelled_right plain [] (s ∷ ss) seen spelled known separate = absurd spelled
  spelled_right plain (g ∷ gs) [] seen spelled known separate = absurd spelled
  spelled_right plain (g ∷ gs) (s ∷ ss) seen spelled known separate =
      option_step g s (joined ss) seen spelled.0 (plain g.0 known.0) (member_known names g.0 (member_of names g.0 known.0)) (others seen g gs separate)
      ∙ spelled_right plain gs ss (seen ++ g ∷ []) spelled.1 known.1 (subst AreApart (sym (append_assoc seen (g ∷ []) gs)) separate)
      ∙ ap (λ (x : List Given). Some x) (append_assoc seen (g ∷ []) gs)
