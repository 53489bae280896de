use Rattle.std.proofs.Common.{◌+◌, ◌<◌, [], length, subst, sym, ap, ◌∙◌, arith}
use Rattle.std.proofs.lemmas.Bool.{false≢true}
use Rattle.std.proofs.lemmas.List.{get_or_default}
use Rattle.support_bits.specs.Columns.{IsUnion}
use Rattle.support_table.specs.Joins.{AreClashingColumns}
use Rattle.ray_steps.specs.Partners.{IsJoinedBelow}
use Rattle.ray_steps.proofs.PartnerLemmas.{joined_all, joined_skip, joined_more}
use Rattle.ray_steps.proofs.compatible.Clashes.joined.Goals as goal
use Rattle.ray_steps.proofs.compatible.Clashes.joined.Goals.{then-contains, else-contains}

pub loop-column-preserved : goal.loop-column-preserved
loop-column-preserved g c =
    let n = c.loop-column.column in
    let partners = c.self.inside.partners.items in
    let support = c.args.support.now in
    let joined = c.loop-column.joined in
    let count = c.self.invariant.0.count ∙ ap (λ d. d.columns) c.self.view_is ∙ sym c.requires in
    let within : n < length partners = subst (λ m. n < m) (c.columns-column-end.ensures ∙ sym count) c.loop-column-test.true in
    elim c.if-contains.branch [
      | then-contains w ↦
          subst (IsJoinedBelow (n + 1) partners support) (sym w.joined-is)
          (joined_more n partners support joined w.add.new.self c.loop-column.invariant (c.contains.ensures.0 w.if-contains.true)
          (subst (λ p. IsUnion joined p w.add.new.self) (w.index.ensures ∙ get_or_default partners n w.index.result.now [] within) w.add.ensures))
      | else-contains w ↦
          subst (IsJoinedBelow (n + 1) partners support) (sym w.joined-is)
          (joined_skip n partners support joined c.loop-column.invariant (λ has. false≢true (sym w.if-contains.false ∙ c.contains.ensures.1 has)))
    ]

pub contains-requires : goal.contains-requires
contains-requires g c = subst (λ m. c.loop-column.column < m) c.columns-column-end.ensures c.loop-column-test.true

pub returns : goal.returns
returns g c =
    let support = c.args.support.now in
    let columns = ap (λ d. d.columns) c.self.view_is in
    let all = subst (λ n. IsJoinedBelow n c.self.inside.partners.items support c.loop-column.joined) (omega (arith, c.columns-column-end.ensures)) c.loop-column.invariant in
    subst (λ pairs. AreClashingColumns pairs support c.loop-column.joined) (ap (λ d. d.pairs) c.self.view_is)
    (joined_all _ _ c.self.inside.partners.items support c.loop-column.joined c.self.invariant.0 (c.requires ∙ sym columns) all)
