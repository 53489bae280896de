-- One more index.
use Rattle.std.proofs.Common.{◌≡◌, ℕ, suc, ◌+◌, ◌<◌, List, [], ◌∷◌, ◌++◌, length, get_or, drop, sym, ap, ◌∙◌, append_assoc, add-one, drop-cons, arith}
use Rattle.table_definitions.specs.Table.{Gluing}
use Rattle.table_definitions.specs.Permutation.{index}
use Rattle.signature_definitions.specs.Spelling.{character}
use Rattle.signature_text_laws.specs.Texts.{indices_text}
use Rattle.signature_codec.proofs.spelling.append_indices.Goals as goal

one_index : (gs : List Gluing) (i : ℕ) (g : Gluing) (k : ℕ) → i < length gs → g ≡ get_or gs i g → k ≡ character (index g.perm) → indices_text (drop i gs) ≡ k ∷ indices_text (drop (i + 1) gs)
one_index gs i g k inside is e = rw add-one
    (ap indices_text (drop-cons gs i g inside ∙ ap (λ h. h ∷ drop (suc i) gs) (sym is)) ∙ ap (λ h. h ∷ indices_text (drop (suc i) gs)) (sym e))

-- a character that is appended is no longer one of those that remain
moved : (t longer whole before left : List ℕ) (k : ℕ) → longer ≡ t ++ k ∷ [] → before ≡ k ∷ left → t ++ before ≡ whole → longer ++ left ≡ whole
moved t longer whole before left k e split so_far = ap (λ l. l ++ left) e ∙ append_assoc t (k ∷ []) left ∙ ap (λ p. t ++ p) (sym split) ∙ so_far

pub loop-glue-preserved : goal.loop-glue-preserved
loop-glue-preserved c = moved c.loop-glue.text.items c.push.new.self.items _ (indices_text (drop c.loop-glue.glue-index c.args.gluings.now)) (indices_text (drop (c.loop-glue.glue-index + 1) c.args.gluings.now))
    c.character.result c.in_ok-push.ensures.items
    (one_index c.args.gluings.now c.loop-glue.glue-index c.glue-item.result c.character.result c.loop-glue-test.true c.glue-item.is read) c.loop-glue.invariant
  where
    read : c.character.result ≡ character (index (c.glue-item.result).perm)
    read = c.character.ensures ∙ ap character (c.index.ensures.value ∙ ap (λ (g : Gluing). index g.perm) c.glue.view_is)

pub character-requires : goal.character-requires
character-requires c = omega (arith, c.index.ensures.in_range)
