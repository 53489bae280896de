use Rattle.std.proofs.Common.{◌≡◌, ℕ, ◌≤◌, Bool, true, false, List, None, refl, sym, ◌∙◌}
use Rattle.std.specs.Prelude.{not, nat_lt}
use Rattle.std.proofs.lemmas.Bool.{ltb-false}
use Rattle.table_definitions.specs.Table.{max_tets, Row, IsTable}
use Rattle.move_definitions.specs.Moves.{Move, IsCore, move_fault, new_length}
use Rattle.move_laws.specs.Facets.{CanPlay}
use Rattle.move_laws.proofs.MovedLaws.{can_play, are_old_by, can_replace_by, plays_by}
use Rattle.pachner_moves.proofs.moving.apply_legal.Goals as goal

not_true : (b : Bool) → not b ≡ true → b ≡ false
not_true true e = absurd cc
not_true false e = refl

-- a table whose length passes the test is within the limit
within : (n : ℕ) (passes : Bool) → passes ≡ not (nat_lt max_tets n) → passes ≡ true → n ≤ max_tets
within n passes e kept = ltb-false max_tets n (not_true (nat_lt max_tets n) (sym e ∙ kept))

can_be_played : (rows : List Row) (m : Move) (passes : Bool) → IsTable rows → IsCore m.core → move_fault rows m ≡ None → passes ≡ not (nat_lt max_tets (new_length rows m)) → passes ≡ true → CanPlay rows m
can_be_played rows m passes table core none e kept = can_play rows m table core none (within (new_length rows m) passes e kept)

pub invariant_of-exchange_of : goal.invariant_of-exchange_of
invariant_of-exchange_of c = record {
  old = are_old_by c.args.table.now c.args.m c.deref.result.now c.args.pattern.now.facets.items c.keeps_limit.ensures.is_table c.keeps_limit.ensures.core c.requires.1 c.deref.ensures.0 c.requires.0;
}

pub replace-requires : goal.replace-requires
replace-requires c =
    can_replace_by c.args.table.now c.args.m c.deref-2.result.now c.deref-3.result.now
    (can_be_played c.args.table.now c.args.m c.keeps_limit.result c.keeps_limit.ensures.is_table c.keeps_limit.ensures.core c.requires.1 c.keeps_limit.ensures.value c.if-not-keeps_limit.false)
    (c.deref-2.ensures.0 ∙ c.exchange_of-removed.ensures.removed) (c.deref-3.ensures.0 ∙ c.exchange_of-removed.ensures.fresh)

pub returns-clause-moved : goal.returns-clause-moved
returns-clause-moved c =
    plays_by c.args.table.now c.args.m c.deref-2.result.now c.deref-3.result.now c.replace.new.self
    (can_be_played c.args.table.now c.args.m c.keeps_limit.result c.keeps_limit.ensures.is_table c.keeps_limit.ensures.core c.requires.1 c.keeps_limit.ensures.value c.if-not-keeps_limit.false)
    (c.deref-2.ensures.0 ∙ c.exchange_of-removed.ensures.removed) (c.deref-3.ensures.0 ∙ c.exchange_of-removed.ensures.fresh) c.replace.ensures.replaced
