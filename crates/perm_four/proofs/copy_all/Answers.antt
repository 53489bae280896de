-- One more permutation, and all of them.
use Rattle.std.proofs.Common.{◌≡◌, ℕ, ◌<◌, List, [], ◌∷◌, ◌++◌, length, get_or, sym, ◌∙◌, subst, below_more, take_all, arith}
use Rattle.std.proofs.lemmas.List.{take_more, get_or_read}
use Rattle.std.proofs.lemmas.List.Elements.{All-from_get_or}
use Rattle.table_definitions.specs.Permutation.{IsPermutationOfFour}
use Rattle.perm_four.proofs.copy_all.Goals as goal

pub loop-perm-preserved : goal.loop-perm-preserved
loop-perm-preserved c =
    let read = get_or_read c.args.perms.now c.loop-perm.perm-index c.perm-item.result c.loop-perm-test.true c.perm-item.is [] in
    let same = c.copied.ensures.same ∙ read in
    record {
      copied = c.in_ok-push.ensures.items ∙ (λ j. c.loop-perm.invariant.copied j ++ same j ∷ []) ∙ sym (take_more c.args.perms.now c.loop-perm.perm-index [] c.loop-perm-test.true);
      permute = below_more (λ k. IsPermutationOfFour (get_or c.args.perms.now k [])) c.loop-perm.perm-index c.loop-perm.invariant.permute (subst IsPermutationOfFour read c.copied.ensures.permutes);
    }

pub returns-clause-same : goal.returns-clause-same
returns-clause-same c = c.loop-perm.invariant.copied ∙ take_all c.loop-perm.perm-index c.args.perms.now c.loop-perm-test.false

pub returns-clause-permute : goal.returns-clause-permute
returns-clause-permute c = All-from_get_or IsPermutationOfFour c.args.perms.now [] (λ k l. c.loop-perm.invariant.permute k (omega (arith, l, c.loop-perm-test.false)))
