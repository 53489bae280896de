use Rattle.std.proofs.Common.{◌≡◌, ◌+◌, ◌<◌, ◌≤◌, [], length, length-append, get_or, subst, sym, ap, ◌∙◌, arith}
use Rattle.std.proofs.lemmas.List.{get_or_default}
use Rattle.support_table.specs.Parts.{AreCopied, AreLeft, IsWithout, HasOneOf}
use Rattle.support_table.specs.Tables.{Table}
use Rattle.support_table.proofs.BitLemmas.{common_marks}
use Rattle.support_table.proofs.PartLemmas.{copied_none, copied_push, left_none, left_push, left_skip}
use Rattle.support_table.proofs.part.Part.without.Goals.{then-not-have_common+in_ok-push, else-not-have_common}
use Rattle.support_table.proofs.part.Part.without.Goals as goal

pub loop-k-init : goal.loop-k-init
loop-k-init c =
    let none = c.none-left.ensures in record {
      columns = ap (λ (t : Table). t.columns) none.table ∙ c.columns.ensures;
      limited = (let empty : length c.none-left.result.table.supports ≡ 0 = ap (λ (t : Table). length t.supports) none.table in omega (arith, empty));
      all = λ rays copied. record {
        left = left_none _ _ _ _ none.places;
        copied = copied_none rays _ _ none.places (none.table ∙ ap (λ n. record { columns = n; supports = [] }) (c.columns.ensures ∙ copied.columns));
      };
    }

pub loop-k-preserved : goal.loop-k-preserved
loop-k-preserved c =
    let self = c.args.self.now in
    let places = self.places.items in
    let words = c.args.words.now in
    let n = c.loop-k.k in
    let left = c.loop-k.left in
    let h = c.loop-k.invariant in
    let within : n < length places = omega (arith, c.loop-k-test.true, c.len-k-end.ensures) in
    elim c.if-not-have_common.branch [
      | then-not-have_common+in_ok-push w ↦
          let pushed = w.in_ok-push.ensures in
          let read = w.index.ensures ∙ get_or_default places n _ 0 within in
          subst (λ part. record {
            columns : part.table.columns ≡ self.table.columns;
            limited : length part.table.supports ≤ n + 1;
            all : (rays : Table) → AreCopied rays places self.table → IsWithout rays words places (n + 1) part;
          }) (sym w.left-is) record {
            columns = ap (λ (t : Table). t.columns) pushed.table ∙ h.columns;
            limited = (let one = ap (λ (t : Table). length t.supports) pushed.table ∙ length-append left.table.supports _ in let limited = h.limited in omega (arith, one));
            all = λ rays copied. let was = h.all rays copied in record {
              left = subst (AreLeft rays.supports words places (n + 1)) (sym pushed.places)
                  (left_push rays.supports words places n left.places.items was.left within _ (λ d. get_or_default places n d 0 within ∙ sym read));
              copied = copied_push rays left.places.items _ left.table _ _ _ was.copied pushed.places pushed.table (copied.each n 0 within ∙ ap (λ p. get_or rays.supports p []) (sym read));
            };
          }
      | else-not-have_common w ↦
          subst (λ part. record {
            columns : part.table.columns ≡ self.table.columns;
            limited : length part.table.supports ≤ n + 1;
            all : (rays : Table) → AreCopied rays places self.table → IsWithout rays words places (n + 1) part;
          }) (sym w.left-is) record {
            columns = h.columns;
            limited = (let limited = h.limited in omega arith);
            all = λ rays copied. let was = h.all rays copied in record {
              left = left_skip rays.supports words places n left.places.items was.left (get_or places n 0) (λ d. get_or_default places n d 0 within)
                  (subst (λ s. HasOneOf s words) (copied.each n 0 within)
                  ((common_marks _ c.words_at.result.now words c.words_at.ensures.words).0 (c.have_common.ensures.0 w.if-not-have_common.false)));
              copied = was.copied;
            };
          }
    ]

pub returns : goal.returns
returns c rays copied =
    let places = c.args.self.now.places.items in
    let h = c.loop-k.invariant.all rays copied in
    let e : c.loop-k.k ≡ length places = (let low = c.loop-k.auto.k-end in omega (arith, low, c.loop-k-test.false, c.len-k-end.ensures)) in
    subst (λ n. IsWithout rays c.args.words.now places n c.loop-k.left) e h
