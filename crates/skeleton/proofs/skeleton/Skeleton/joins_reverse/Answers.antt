use Rattle.std.proofs.Common.{◌≡◌, ◌↔◌, ◌<◌, ◌*◌, true, ℕ, List, length, arith, sym, ap, subst, ◌∙◌}
use Rattle.std.specs.Prelude.{IsTrue}
use Rattle.skeleton_definitions.specs.Skeleton.{Skeleton}
use Rattle.table_definitions.specs.Places.{RunsAgainst}
use Rattle.skeleton_class_laws.specs.Directions.{forward, backward, runs_against}
use Rattle.skeleton_class_laws.proofs.DirectionLemmas.{forward_below, backward_below, runs_against-is}
use Rattle.skeleton.proofs.skeleton.Skeleton.joins_reverse.Goals as goal

pub runs_against-requires-clause-one_in_range : goal.runs_against-requires-clause-one_in_range
runs_against-requires-clause-one_in_range c =
    let l : c.args.one < 6 * length c.self.inside.table = rw (ap (λ (s : Skeleton). s.rows) c.self.view_is) c.requires.one_in_range in
    let f : forward c.args.one < 12 * length c.self.inside.table = forward_below c.args.one (length c.self.inside.table) l in
    omega (arith, ap (λ (xs : List ℕ). length xs) c.deref.ensures.value, c.self.invariant.directions.numbering.one_each)

pub runs_against-requires-clause-other_in_range : goal.runs_against-requires-clause-other_in_range
runs_against-requires-clause-other_in_range c =
    let l : c.args.other < 6 * length c.self.inside.table = rw (ap (λ (s : Skeleton). s.rows) c.self.view_is) c.requires.other_in_range in
    let f : backward c.args.other < 12 * length c.self.inside.table = backward_below c.args.other (length c.self.inside.table) l in
    omega (arith, ap (λ (xs : List ℕ). length xs) c.deref.ensures.value, c.self.invariant.directions.numbering.one_each)

pub returns : goal.returns
returns c = subst (λ (s : Skeleton). IsTrue c.runs_against.result ↔ RunsAgainst s.rows c.args.one c.args.other) c.self.view_is
    (λ h. reported.0 (sym asked ∙ h), λ j. asked ∙ reported.1 j)
  where
    asked : c.runs_against.result ≡ runs_against c.self.inside.directions.classes.items c.args.one c.args.other
    asked = c.runs_against.ensures ∙ ap (λ (xs : List ℕ). runs_against xs c.args.one c.args.other) c.deref.ensures.value

    reported : (runs_against c.self.inside.directions.classes.items c.args.one c.args.other ≡ true) ↔ RunsAgainst c.self.inside.table c.args.one c.args.other
    reported = runs_against-is c.self.inside.table c.self.inside.directions.classes.items _ c.self.invariant.directions.numbering c.args.one c.args.other
        (rw (ap (λ (s : Skeleton). s.rows) c.self.view_is) c.requires.one_in_range) (rw (ap (λ (s : Skeleton). s.rows) c.self.view_is) c.requires.other_in_range)
