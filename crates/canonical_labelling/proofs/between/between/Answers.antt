use Rattle.std.proofs.Common.{ℕ, length, List, ap, subst, ◌∙◌, arith}
use Rattle.table_definitions.specs.Relabelling.{IsRelabelling}
use Rattle.signature_laws.specs.Between.{perms_between}
use Rattle.signature_laws.proofs.Matching.{olds_by, listed_range, listed_between}
use Rattle.canonical_labelling.proofs.between.between.Goals as goal

pub old_numbers-requires : goal.old_numbers-requires
old_numbers-requires c =
    let equal = c.args.pair.equal in
    let limited = c.args.pair.limited in
    omega (arith, equal, limited)

pub perms_of-requires-clause-equal : goal.perms_of-requires-clause-equal
perms_of-requires-clause-equal c =
    let olds = olds_by (length c.args.pair.first.now.images) c.args.pair.second.now c.in_ok-olds.olds.items c.deref.result.now (subst (λ n. IsRelabelling n c.args.pair.second.now) c.args.pair.equal c.in_ok-olds.ensures.bijection) c.deref.ensures.value c.in_ok-olds.ensures.length c.in_ok-olds.ensures.back in
    (listed_range c.args.pair.first.now c.args.pair.second.now c.deref.result.now c.deref-2.result.now c.requires (subst (λ n. IsRelabelling n c.args.pair.second.now) c.args.pair.equal c.in_ok-olds.ensures.bijection) olds (c.deref-2.ensures.value ∙ c.in_ok-images.ensures)).0

pub perms_of-requires-clause-in_range : goal.perms_of-requires-clause-in_range
perms_of-requires-clause-in_range c =
    let olds = olds_by (length c.args.pair.first.now.images) c.args.pair.second.now c.in_ok-olds.olds.items c.deref.result.now (subst (λ n. IsRelabelling n c.args.pair.second.now) c.args.pair.equal c.in_ok-olds.ensures.bijection) c.deref.ensures.value c.in_ok-olds.ensures.length c.in_ok-olds.ensures.back in
    (listed_range c.args.pair.first.now c.args.pair.second.now c.deref.result.now c.deref-2.result.now c.requires (subst (λ n. IsRelabelling n c.args.pair.second.now) c.args.pair.equal c.in_ok-olds.ensures.bijection) olds (c.deref-2.ensures.value ∙ c.in_ok-images.ensures)).1

pub from_sound-requires : goal.from_sound-requires
from_sound-requires c =
    let olds = olds_by (length c.args.pair.first.now.images) c.args.pair.second.now c.in_ok-olds.olds.items c.deref.result.now (subst (λ n. IsRelabelling n c.args.pair.second.now) c.args.pair.equal c.in_ok-olds.ensures.bijection) c.deref.ensures.value c.in_ok-olds.ensures.length c.in_ok-olds.ensures.back in
    (listed_between c.args.pair.first.now c.args.pair.second.now c.deref.result.now c.in_ok-images.images.items c.in_ok-perms.perms.items c.requires (subst (λ n. IsRelabelling n c.args.pair.second.now) c.args.pair.equal c.in_ok-olds.ensures.bijection) olds c.in_ok-images.ensures
    (c.in_ok-perms.ensures ∙ ap (λ (xs : List ℕ). perms_between c.args.pair.first.now c.args.pair.second.now xs) c.deref-2.ensures.value)).0

pub returns : goal.returns
returns c =
    let olds = olds_by (length c.args.pair.first.now.images) c.args.pair.second.now c.in_ok-olds.olds.items c.deref.result.now (subst (λ n. IsRelabelling n c.args.pair.second.now) c.args.pair.equal c.in_ok-olds.ensures.bijection) c.deref.ensures.value c.in_ok-olds.ensures.length c.in_ok-olds.ensures.back in
    c.from_sound.ensures
    ∙ (listed_between c.args.pair.first.now c.args.pair.second.now c.deref.result.now c.in_ok-images.images.items c.in_ok-perms.perms.items c.requires (subst (λ n. IsRelabelling n c.args.pair.second.now) c.args.pair.equal c.in_ok-olds.ensures.bijection) olds c.in_ok-images.ensures
    (c.in_ok-perms.ensures ∙ ap (λ (xs : List ℕ). perms_between c.args.pair.first.now c.args.pair.second.now xs) c.deref-2.ensures.value)).1
