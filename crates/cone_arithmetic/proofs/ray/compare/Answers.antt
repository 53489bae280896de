use Rattle.std.specs.Cmp.Lexicographic.{slice_cmp}
use Rattle.cone_arithmetic.proofs.EntryLemmas.{less_than_longer}
use Rattle.std.proofs.Common.{ap, nat_cmp, sym, ◌∙◌}
use Rattle.cone_definitions.proofs.Lexicographic.{before_from_less, less_from_before}
use Rattle.cone_arithmetic.proofs.ray.compare.Goals as goal

pub returns-clause-before : goal.returns-clause-before
returns-clause-before c same =
    (λ less. before_from_less _ _ same (sym c.cmp.ensures ∙ less), λ before. c.cmp.ensures ∙ less_from_before _ _ same before)

pub returns-clause-prefix : goal.returns-clause-prefix
returns-clause-prefix c rest some e = c.cmp.ensures ∙ ap (slice_cmp nat_cmp c.args.a.now) e ∙ less_than_longer c.args.a.now rest some
