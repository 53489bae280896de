use Rattle.std.proofs.Common.{◌≡◌, ◌∙◌, ◌+◌, ◌<◌, ◌≤◌, ◌++◌, ◌∷◌, ◌||◌, ℕ, List, [], zero, suc, refl, sym, ap, ap₂, map, take, length, get_or, Bor, arith}
use Rattle.clap.specs.Walk.{Rule, Text, texts}
use Rattle.clap.specs.Simple.{App, new_shape, with_rule}
use Rattle.command_words.specs.Apps.{option_argument}
use Rattle.command_words.proofs.program.command.Goals as goal

-- the arguments of the options, with one more
taken : (options : List (Bor Text)) (i : ℕ) (d : Bor Text) → i < length options
    → map option_argument (take i (texts options)) ++ option_argument (get_or options i d).now ∷ [] ≡ map option_argument (take (i + 1) (texts options))
taken [] i d lt = absurd (omega (arith, lt))
taken (o ∷ os) zero d lt = (let next : 0 + 1 ≡ suc 0 = omega arith in ap (λ k. map option_argument (take k (texts (o ∷ os)))) (sym next))
taken (o ∷ os) (suc i) d lt =
    let next : suc (i + 1) ≡ suc i + 1 = omega arith in
    ap (λ rs. option_argument o.now ∷ rs) (taken os i d (omega (arith, lt))) ∙ ap (λ k. map option_argument (take k (texts (o ∷ os)))) next

all_taken : (options : List (Bor Text)) (i : ℕ) → length options ≤ i → take i (texts options) ≡ texts options
all_taken [] zero le = refl
all_taken [] (suc i) le = refl
all_taken (o ∷ os) zero le = absurd (omega (arith, le))
all_taken (o ∷ os) (suc i) le = ap (λ ws. o.now ∷ ws) (all_taken os i (omega (arith, le)))

abbrev app_with : Text → List Rule → App
app_with name rs = record { top = record (new_shape name) { rules = rs }; subs = [] }

pub loop-option-init : goal.loop-option-init
loop-option-init c = (c.new-command.ensures.app, c.new-command.ensures.local)

pub loop-option-preserved : goal.loop-option-preserved
loop-option-preserved c =
    let adds = c.in_ok-command.ensures in (
      adds.shape c.option_argument.ensures.local ∙ ap₂ with_rule c.loop-option.invariant.0 c.option_argument.ensures.rule
          ∙ ap (app_with c.args.name.now) (taken c.args.options.now c.loop-option.option-index _ c.loop-option-test.true),
      adds.globals ∙ ap₂ ◌||◌ c.loop-option.invariant.1 c.option_argument.ensures.local,
    )

pub returns : goal.returns
returns c = record {
  shape = ap (λ (a : App). a.top) c.loop-option.invariant.0
      ∙ ap (λ ws. (app_with c.args.name.now (map option_argument ws)).top) (all_taken c.args.options.now c.loop-option.option-index c.loop-option-test.false);
  local = c.loop-option.invariant.1;
}
