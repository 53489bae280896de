-- The search from tetrahedron 0, level by level, to its end.
use Rattle.std.proofs.Common.{◌≡◌, ◌+◌, ◌<◌, ◌≤◌, ℕ, zero, suc, true, false, List, [], ◌∷◌, length, replicate, set, Option, None, Some, All, refl, sym, ap, subst, subst₂, ◌∙◌, arith}
use Rattle.std.specs.Prelude.{◌==◌}
use Rattle.std.specs.Vec.{with_items}
use Rattle.std.proofs.lemmas.List.{nil_from_length, with_items_is}
use Rattle.edge_group.specs.Searches.{unmarked, IsGrown, IsFaceOfSome, IsSearched}
use Rattle.edge_group.proofs.Searched.{searched_start, start_count, searched_on, searched_end, level_inside, bounded_steps}
use Rattle.edge_group.proofs.distances.breadth_first.Goals as goal

more_than_none : (n : ℕ) → false ≡ (n == 0) → 0 < n
more_than_none zero e = absurd (let z : true ≡ false = sym e in cc)
more_than_none (suc n) e = omega arith

none : (n : ℕ) → true ≡ (n == 0) → n ≡ 0
none zero e = refl
none (suc n) e = absurd (let z : true ≡ (suc n == 0) = e in grind arith)

pub levels-init : goal.levels-init
levels-init c = record {
  searched = searched_start c.args.table.now c.len.ensures.is_table c.in_ok-marks.marks.items c.in_ok-level.level.items c.requires first start;
  limited = let a : unmarked c.in_ok-marks.marks.items + 1 ≡ length c.args.table.now = start_count c.args.table.now c.len.ensures.is_table c.in_ok-marks.marks.items c.requires first in
      let b : length c.in_ok-level.level.items ≡ 1 = ap length start in omega arith;
}
  where
    first : c.in_ok-marks.marks.items ≡ set (replicate (length c.args.table.now) None) 0 (Some 0)
    first = c.in_ok-marks.ensures ∙ ap (λ n. set (replicate {A = Option ℕ} n None) 0 (Some 0)) c.len.ensures.value

    start : c.in_ok-level.level.items ≡ 0 ∷ []
    start = c.in_ok-level.ensures.items_if_clones_equal (λ y e. e)

pub invariant_of-here : goal.invariant_of-here
invariant_of-here c = record {
  in_range = subst (All (λ t. t < length c.args.table.now)) (sym c.deref.ensures.value) (level_inside c.args.table.now c.len.ensures.is_table c.levels.distance c.levels.marks.items c.levels.level.items c.levels.invariant.searched);
}

pub levels-preserved : goal.levels-preserved
levels-preserved c = record {
  searched = subst (λ (ms : List (Option ℕ)). IsSearched c.args.table.now (c.levels.distance + 1) ms c.in_ok-level-2.level.items) (sym written)
      (searched_on c.args.table.now c.len.ensures.is_table c.levels.distance c.levels.marks.items c.next_level.new.marks c.levels.level.items c.in_ok-level-2.level.items c.levels.invariant.searched grown);
  limited = subst (λ (ms : List (Option ℕ)). c.levels.distance + 1 + (unmarked ms + length c.in_ok-level-2.level.items) ≤ length c.args.table.now) (sym written)
      (bounded_steps c.args.table.now c.len.ensures.is_table c.levels.distance c.levels.marks.items c.next_level.new.marks c.levels.level.items c.in_ok-level-2.level.items (IsFaceOfSome c.levels.level.items) grown some c.levels.invariant.limited).0;
}
  where
    grown : IsGrown c.args.table.now (IsFaceOfSome c.levels.level.items) (c.levels.distance + 1) c.levels.marks.items c.next_level.new.marks c.in_ok-level-2.level.items
    grown = subst₂ (λ (ls : List ℕ) (ms : List (Option ℕ)). IsGrown c.args.table.now (IsFaceOfSome ls) (c.levels.distance + 1) ms c.next_level.new.marks c.in_ok-level-2.level.items)
        c.deref.ensures.value c.deref_mut.ensures.value c.in_ok-level-2.ensures

    written : (with_items c.levels.marks c.next_level.new.marks).items ≡ c.next_level.new.marks
    written = with_items_is c.levels.marks c.next_level.new.marks (grown.one_each ∙ sym c.levels.marks.ok.0)

    some : 0 < length c.levels.level.items
    some = more_than_none (length c.levels.level.items) (c.levels-test.ensures ∙ ap (λ n. n == 0) c.levels.level.ok.0)

pub returns : goal.returns
returns c = searched_end c.args.table.now c.len.ensures.is_table c.levels.distance c.levels.marks.items
    (subst (IsSearched c.args.table.now c.levels.distance c.levels.marks.items) (nil_from_length c.levels.level.items (none (length c.levels.level.items) (c.levels-test.ensures ∙ ap (λ n. n == 0) c.levels.level.ok.0)))
    c.levels.invariant.searched)
