-- Words that are none of the known ones.
use Rattle.std.proofs.Common.{◌≡◌, ℕ, ◌≤◌, false, List, None, Ok, refl, sym, ◌∙◌, subst, eqb}
use Rattle.std.specs.Cmp.Lexicographic.{pointwise}
use Rattle.std.specs.Prelude.{codes}
use Rattle.table_definitions.proofs.ListFacts.{pointwise-same_list}
use Rattle.table_definitions.specs.Lists.{same_list}
use Rattle.text_definitions.specs.Reading.{Reading, number_at}
use Rattle.table_definitions.proofs.ReadingLaws.{number_read}
use Rattle.move_definitions.specs.MoveText.{move_kind, step_word}

-- a word that differs from the slice of a literal differs from the literal
pub differs : (w v x : List ℕ) → v ≡ x → false ≡ pointwise eqb w v → same_list w x ≡ false
differs w v x e h = subst (λ (u : List ℕ). same_list w u ≡ false) e (sym (pointwise-same_list w v) ∙ sym h)

pub no_kind : (w : List ℕ) → same_list w (codes "14") ≡ false → same_list w (codes "23") ≡ false → same_list w (codes "32") ≡ false → same_list w (codes "41") ≡ false → move_kind w ≡ None
no_kind w a b c d = rw (a, b, c, d) refl

pub no_step : (w : List ℕ) → same_list w (codes "undo") ≡ false → same_list w (codes "redo") ≡ false → step_word w ≡ None
no_step w a b = rw (a, b) refl

-- a number that was read is in range
pub number_within : (max : ℕ) (c : Reading) (n : ℕ) (d : Reading) → number_at max c ≡ Ok (n, d) → n ≤ max
number_within max c n d e = (number_read max c.current.tokens c n d e).number.up_to
