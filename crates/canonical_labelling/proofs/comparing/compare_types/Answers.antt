use Rattle.std.proofs.Common.{◌≡◌, refl, ℕ, List, [], ◌++◌, None, map, take, append-nil, subst, ◌<◌, ◌+◌, ◌-◌, ◌*◌, length, arith, ap, sym, ◌∙◌}
use Rattle.table_definitions.specs.Table.{Row}
use Rattle.signature_definitions.specs.Spelling.{character, packed}
use Rattle.canonical_labelling.specs.Comparisons as comparisons
use Rattle.canonical_labelling.specs.Comparisons.{head_text, compare_full_character, compare_last_character, comparison_view}
use Rattle.canonical_labelling.proofs.ComparedTypes.{told_by_three_is, told_by_rest_is}
use Rattle.canonical_labelling.proofs.FollowedEnds.{follows_begun}
use Rattle.canonical_labelling.proofs.TypesFound.{follows_all, begins_whole, begins_all, agrees_on, short_on, untold}
use Rattle.canonical_labelling.proofs.comparing.compare_types.Goals as goal

pub returns-then-is_some-clause-reported : goal.returns-then-is_some-clause-reported
returns-then-is_some-clause-reported c =
    let rows : List Row = c.args.probe.now.rows in
    let inv = c.loop-place.invariant in
    let inside : c.loop-place.place < 4 * length rows = omega (arith, c.len-place-end.ensures, c.loop-place-test.true) in
    let follows = follows_all rows c.loop-place.probe.rows c.args.start c.loop-place.place (comparison_view c.loop-place.space.comparison) (comparison_view c.take.new.comparison) c.requires.table inside inv.comparison inv.size inv.rows inv.follows c.in_ok-take.ensures.takes in
    let short = short_on rows c.loop-place.probe.rows c.loop-place.place (comparison_view c.loop-place.space.comparison) (comparison_view c.take.new.comparison) c.args.bound.now inv.agreed c.in_ok-take.ensures.takes in
    let first = inv.reads in
    let second = c.in_ok-take.ensures.reads in
    told_by_three_is rows c.args.start c.len-head.result (c.take.new.probe.taken - c.args.probe.now.taken) c.take.new.comparison.types.items c.args.bound.now c.compare_full_character-reported.result (omega (arith, c.len-head.ensures, c.args.space.now.head.ok, ap (λ (t : List ℕ). length t) c.requires.space.head)) short
    (c.compare_full_character-reported.ensures ∙ ap (λ ts. compare_full_character ts c.args.bound.now c.len-head.result) c.deref.ensures.value)
    (omega (arith, first, second))
    (λ m e. begins_whole rows c.args.start (c.loop-place.place + 1) m (comparison_view c.take.new.comparison) (omega (arith, inside)) follows e)

pub loop-place-init : goal.loop-place-init
loop-place-init c = record {
  comparison = c.in_ok-begin.ensures.comparison;
  size = c.in_ok-begin.ensures.size ∙ c.requires.space.size;
  follows = λ by new w. follows_begun c.args.probe.now.rows c.args.start by new (comparison_view c.begin.new.comparison) w c.in_ok-begin.ensures.order c.in_ok-begin.ensures.types c.in_ok-begin.ensures.gluings c.in_ok-begin.ensures.crossed;
  agreed = λ m l.
      let zero : 3 * m ≡ 0 = omega (arith, l, ap (λ (t : List ℕ). length t) c.in_ok-begin.ensures.types) in
      let none : take (3 * m) c.begin.new.comparison.types.items ≡ [] = ap (λ n. take n c.begin.new.comparison.types.items) zero in
      let head : List ℕ = head_text (length c.args.probe.now.rows) in
      subst (λ (ts : List ℕ). comparisons.reported (head ++ map character (packed ts)) c.args.bound.now ≡ None) (sym none)
      (subst (λ (text : List ℕ). comparisons.reported text c.args.bound.now ≡ None) (sym (append-nil head)) c.requires.agreed);
  rows = refl;
  head = refl;
  reads = omega arith;
}

pub loop-place-preserved : goal.loop-place-preserved
loop-place-preserved c =
    let rows : List Row = c.args.probe.now.rows in
    let inv = c.loop-place.invariant in
    let inside : c.loop-place.place < 4 * length rows = omega (arith, c.len-place-end.ensures, c.loop-place-test.true) in
    let first = inv.reads in
    let second = c.in_ok-take.ensures.reads in
    record {
      comparison = c.in_ok-take.ensures.comparison;
      size = c.in_ok-take.ensures.size ∙ inv.size;
      follows = follows_all rows c.loop-place.probe.rows c.args.start c.loop-place.place (comparison_view c.loop-place.space.comparison) (comparison_view c.take.new.comparison) c.requires.table inside inv.comparison inv.size inv.rows inv.follows c.in_ok-take.ensures.takes;
      agreed = agrees_on rows c.loop-place.probe.rows c.loop-place.place (comparison_view c.loop-place.space.comparison) (comparison_view c.take.new.comparison) c.args.bound.now c.len-head.result c.compare_full_character-reported.result (omega (arith, c.len-head.ensures, c.args.space.now.head.ok, ap (λ (t : List ℕ). length t) c.requires.space.head)) inv.agreed c.in_ok-take.ensures.takes
          (c.compare_full_character-reported.ensures ∙ ap (λ ts. compare_full_character ts c.args.bound.now c.len-head.result) c.deref.ensures.value) (sym c.is_some.ensures ∙ c.if-is_some.false);
      rows = c.in_ok-take.ensures.rows ∙ inv.rows;
      head = inv.head;
      reads = omega (arith, first, second);
    }

pub returns-clause-reported : goal.returns-clause-reported
returns-clause-reported c =
    let rows : List Row = c.args.probe.now.rows in
    let inv = c.loop-place.invariant in
    let end : c.loop-place.place ≡ 4 * length rows = omega (arith, c.len-place-end.ensures, c.loop-place-test.false, c.loop-place.auto) in
    let reads = inv.reads in
    told_by_rest_is rows c.args.start c.len-head.result (c.loop-place.probe.taken - c.args.probe.now.taken) c.loop-place.space.comparison.types.items c.args.bound.now c.compare_last_character.result (omega (arith, c.len-head.ensures, c.args.space.now.head.ok, ap (λ (t : List ℕ). length t) c.requires.space.head)) inv.agreed
    (c.compare_last_character.ensures ∙ ap (λ ts. compare_last_character ts c.args.bound.now c.len-head.result) c.deref-2.ensures.value)
    (omega (arith, reads))
    (begins_all rows c.args.start c.loop-place.place (comparison_view c.loop-place.space.comparison) end inv.follows)

pub returns-clause-untold : goal.returns-clause-untold
returns-clause-untold c =
    let rows : List Row = c.args.probe.now.rows in
    let inv = c.loop-place.invariant in
    let end : c.loop-place.place ≡ 4 * length rows = omega (arith, c.len-place-end.ensures, c.loop-place-test.false, c.loop-place.auto) in
    untold rows c.args.start c.loop-place.place c.len-head.result (comparison_view c.loop-place.space.comparison) c.args.bound.now c.compare_last_character.result end (omega (arith, c.len-head.ensures, c.args.space.now.head.ok, ap (λ (t : List ℕ). length t) c.requires.space.head)) inv.follows inv.agreed
    (c.compare_last_character.ensures ∙ ap (λ ts. compare_last_character ts c.args.bound.now c.len-head.result) c.deref-2.ensures.value)
