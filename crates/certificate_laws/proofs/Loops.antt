-- How the moves made so far are extended by one, and how they end.
use Rattle.std.proofs.Common.{◌≡◌, ℕ, zero, suc, ◌+◌, ◌<◌, List, [], ◌∷◌, ◌++◌, length, take, drop, get_or, None, refl, sym, ap, ◌∙◌, subst, arith, inl, inr}
use Rattle.std.specs.Prelude.{◌⊎◌}
use Rattle.std.proofs.lemmas.Fn.{FoldsTo-push}
use Rattle.table_definitions.specs.Table.{Row}
use Rattle.move_definitions.specs.Moves.{Move, Plays, PlaysAll}
use Rattle.move_definitions.specs.Certificates.{IsStandard, descent_move, candidates, IsMaking}
use Rattle.certificate_definitions.specs.CarriedBack.{move_back, AreCarriedBack}
use Rattle.certificate_definitions.specs.SoFar.{Descends, Stage, Makes}
use Rattle.certificate_laws.specs.LoopLaws.{ChecksGoOn, ChecksRefuse, DescentsGoOn, DescentsAreDone, MakingsGoOn, MakingsAreDone, InversesExtend}
use Rattle.basic_lemmas.proofs.Numbers.{one_on}

-- lists, before and after an index
take_next : (ms : List Move) (k : ℕ) (m : Move) → k < length ms → m ≡ get_or ms k m → take (suc k) ms ≡ take k ms ++ m ∷ []
take_next [] k m l e = absurd (omega arith)
take_next (x ∷ ms) zero m l e = ap (λ (y : Move). y ∷ []) (sym e)
take_next (x ∷ ms) (suc k) m l e = ap (λ (ys : List Move). x ∷ ys) (take_next ms k m (omega arith) e)

drop_next : (ms : List Move) (k : ℕ) (m : Move) → k < length ms → m ≡ get_or ms k m → drop k ms ≡ m ∷ drop (suc k) ms
drop_next [] k m l e = absurd (omega arith)
drop_next (x ∷ ms) zero m l e = ap (λ (y : Move). y ∷ ms) (sym e)
drop_next (x ∷ ms) (suc k) m l e = drop_next ms k m (omega arith) e

cut_next : (ms : List Move) (k : ℕ) (m : Move) → k < length ms → m ≡ get_or ms k m → ms ≡ take k ms ++ m ∷ drop (suc k) ms
cut_next [] k m l e = absurd (omega arith)
cut_next (x ∷ ms) zero m l e = ap (λ (y : Move). y ∷ ms) (sym e)
cut_next (x ∷ ms) (suc k) m l e = ap (λ (ys : List Move). x ∷ ys) (cut_next ms k m (omega arith) e)

take_more : (ms : List Move) (k : ℕ) (m : Move) → k < length ms → m ≡ get_or ms k m → take (k + 1) ms ≡ take k ms ++ m ∷ []
take_more ms k m l e = ap (λ i. take i ms) (sym (one_on k)) ∙ take_next ms k m l e

drop_at : (ms : List Move) (k : ℕ) (m : Move) → k < length ms → m ≡ get_or ms k m → drop k ms ≡ m ∷ drop (k + 1) ms
drop_at ms k m l e = drop_next ms k m l e ∙ ap (λ i. m ∷ drop i ms) (one_on k)

cut : (ms : List Move) (k : ℕ) (m : Move) → k < length ms → m ≡ get_or ms k m → ms ≡ take k ms ++ m ∷ drop (k + 1) ms
cut ms k m l e = cut_next ms k m l e ∙ ap (λ i. take k ms ++ m ∷ drop i ms) (one_on k)

length-cut : (ms : List Move) (k : ℕ) → k < length ms → length (take k ms) ≡ k
length-cut [] k l = absurd (omega arith)
length-cut (x ∷ ms) zero l = refl
length-cut (x ∷ ms) (suc k) l = ap suc (length-cut ms k (omega arith))

pub checks_go_on_lem : ChecksGoOn
checks_go_on_lem rows moves k m table next l e led first =
    subst (λ (ms : List Move). PlaysAll rows ms next) (sym (take_more moves k m l e)) (FoldsTo-push Plays rows (take k moves) table m next led first)

pub checks_refuse_lem : ChecksRefuse
checks_refuse_lem rows moves k m table fault l e led refused = record {
  before = take k moves;
  refused = m;
  after = drop (k + 1) moves;
  all = cut moves k m l e;
  place = ap (λ n. n + 1) (sym (length-cut moves k l));
  table = table;
  led = led;
  refuses = refused;
}

pub descents_go_on_lem : DescentsGoOn
descents_go_on_lem rows moves table m next so_far d = FoldsTo-push Descends rows moves table m next so_far d

pub descents_are_done_lem : DescentsAreDone
descents_are_done_lem rows [] table e ends = (e, subst (λ (t : List Row). IsStandard t ⊎ (descent_move t ≡ None)) (sym e) ends)
descents_are_done_lem rows (m ∷ ms) table (next, d, rest) ends = (d.goes, d.first, (next, d.plays, descents_are_done_lem next ms table rest ends))

pub makings_go_on_lem : MakingsGoOn
makings_go_on_lem first moves now m next so_far d = FoldsTo-push Makes first moves now m next so_far d

pub makings_are_done_lem : MakingsAreDone
makings_are_done_lem most first [] now e limited ends = (ap (λ (s : Stage). s.table) e, done ends)
  where
    done : (0 ≡ most) ⊎ (candidates now.table ≡ []) → (most ≡ 0) ⊎ (candidates first.table ≡ [])
    done (inl z) = inl (sym z)
    done (inr n) = inr (ap (λ (s : Stage). candidates s.table) e ∙ n)
makings_are_done_lem zero first (m ∷ ms) now so_far limited ends = absurd (omega arith)
makings_are_done_lem (suc most) first (m ∷ ms) now (next, d, rest) limited ends =
    let later : IsMaking most next.state next.table ms now.table = makings_are_done_lem most next ms now rest (omega arith) (fewer ends) in
    (most, omega arith, d.draws, (next.table, d.plays, subst (λ x. IsMaking most x next.table ms now.table) d.state later))
  where
    fewer : (suc (length ms) ≡ suc most) ⊎ (candidates now.table ≡ []) → (length ms ≡ most) ⊎ (candidates now.table ≡ [])
    fewer (inl e) = inl (omega arith)
    fewer (inr n) = inr n

pub ways_back_go_on_lem : InversesExtend
ways_back_go_on_lem rows next moves k m last back now on end by l e first are leads carried =
    subst (λ (ms : List Move). AreCarriedBack rows ms last (back ++ move_back rows m on ∷ []) end by) (sym (drop_at moves k m l e)) (next, first, (back, now, on, are, refl, leads, carried))
