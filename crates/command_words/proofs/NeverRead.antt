-- Words are not in the grammar if a reader returns nothing from some word on.
use Rattle.std.proofs.Common.{◌≡◌, Bool, true, false, refl, sym, ap, List, [], ◌∷◌, ◌++◌, Option, Some, None, cond}
use Rattle.clap.specs.Walk.{Text}
use Rattle.command_definitions.specs.Options.{Given, Next, is_hyphened, is_known, is_named, option_read, option_word, with_value, word_read}

-- A reader that returns nothing if P holds of the options seen, where P is kept as more options are seen.
module _ (names : List Text) (next : Next) (P : List Given → Type 0) (grows : (seen : List Given) (g : Given) → P seen → P (seen ++ g ∷ []))
    (never : (seen : List Given) (waiting : Option Text) → P seen → next seen waiting ≡ None) where
  value_never : (name v : Text) (seen : List Given) (b : Bool) → is_named seen name ≡ b → P seen → with_value name v seen next ≡ None
  value_never name v seen true e p = rw e refl
  value_never name v seen false e p = rw e (never (seen ++ (name, v) ∷ []) None (grows seen (name, v) p))

  read_never : (l : Option (Text × Option Text)) (seen : List Given) (b : Bool) → ((p : Text × Option Text) → l ≡ Some p → is_known names p.0 ≡ b) → P seen → option_read names l seen next ≡ None
  read_never None seen b k p = refl
  read_never (Some (id, v)) seen false k p = rw (k (id, v) refl) refl
  read_never (Some (id, None)) seen true k p = rw (k (id, None) refl) (never seen (Some id) p)
  read_never (Some (id, Some v)) seen true k p = rw (k (id, Some v) refl) (value_never id v seen (is_named seen id) refl p)

  read_never_at : (l : Option (Text × Option Text)) (seen : List Given) → P seen → option_read names l seen next ≡ None
  read_never_at None seen p = refl
  read_never_at (Some l) seen p = read_never (Some l) seen (is_known names l.0) (λ q e. (let same : l ≡ q = (let x : Some l ≡ Some q = e in cc) in sym (ap (λ (r : Text × Option Text). is_known names r.0) same))) p

  pub word_never : (x : Text) (seen : List Given) (waiting : Option Text) → P seen → word_read names x seen waiting next ≡ None
  word_never x seen None p = read_never_at (option_word x) seen p
  word_never x seen (Some name) p = go (is_hyphened x)
    where
      go : (b : Bool) → cond b None (with_value name x seen next) ≡ None
      go true = refl
      go false = value_never name x seen (is_named seen name) refl p
