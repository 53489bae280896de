-- The results for the vectors are the blocks of their sums, one after another.
use Rattle.std.proofs.Common.{◌≡◌, ℕ, ◌<◌, ◌+◌, List, [], ◌∷◌, ◌++◌, length, take, get_or, Vec, Ok, Err, sym, ap, ◌∙◌, subst, append_assoc, append-nil}
use Rattle.std.specs.declared.alloc.Global.{Global}
use Rattle.std.proofs.lemmas.Grind.{flat_map-append}
use Rattle.table_definitions.specs.Table.{Row}
use Rattle.table_definitions.specs.TableText.{table_text}
use Rattle.sum_definitions.specs.Sums.{IsLargeStep}
use Rattle.sum_definitions.specs.declared.LargeTurn.{LargeTurn}
use Rattle.text_document_definitions.specs.Blocks.{Block, block_text, blocks_text}
use Rattle.command_answers.specs.Reads.{all_entries}
use Rattle.outcome_definitions.specs.Sums.{IsFirstRefused, IsSummed}
use Rattle.sum_commands.specs.Telling.{AreSummedIn, AppendsBlock}
use Rattle.sum_commands.proofs.Walks.{seen_more, first_refused, told_more, have_answers}

abbrev pub entries : Vec ℕ Global → List ℕ
entries v = v.items

module _ (most : ℕ) (list : List (List ℕ)) (rows : List Row) where
  more_summed : (vectors : List (List ℕ)) (x before now : List ℕ) → AreSummedIn most list rows vectors before → (block : Block) × IsSummed most list x (Ok block) × (now ≡ before ++ block_text block)
      → AreSummedIn most list rows (vectors ++ x ∷ []) now
  more_summed vectors x before now h k = record {
    reported = h.reported ++ k.0 ∷ [];
    sums = told_more (IsSummed most list) vectors h.reported x k.0 h.sums k.1;
    lines = k.2 ∙ ap (λ (t : List ℕ). t ++ block_text k.0) h.lines ∙ append_assoc (table_text rows) (blocks_text h.reported) (block_text k.0)
        ∙ ap (λ (t : List ℕ). table_text rows ++ (blocks_text h.reported ++ t)) (sym (append-nil (block_text k.0)))
        ∙ ap (λ (t : List ℕ). table_text rows ++ t) (sym (flat_map-append block_text h.reported (k.0 ∷ [])));
  }

  module _ (vs : List (Vec ℕ Global)) (v : ℕ) (x : Vec ℕ Global) (xs before now : List ℕ) (l : v < length vs) (e : x ≡ get_or vs v x) (same : xs ≡ x.items)
      (reported : AreSummedIn most list rows (all_entries (take v vs)) before) where
    -- the block of one more vector
    pub next_summed : (u : Unit {0}) → AppendsBlock most list xs before now (Ok u) → AreSummedIn most list rows (all_entries (take (v + 1) vs)) now
    next_summed u h =
        subst (λ (ys : List (List ℕ)). AreSummedIn most list rows ys now) (sym (seen_more entries vs v x l e))
        (more_summed (all_entries (take v vs)) x.items before now reported (subst (λ (ys : List ℕ). AppendsBlock most list ys before now (Ok u)) same h))

    -- the sum of the next vector exceeds the limit
    pub large_told : (large : LargeTurn) → IsLargeStep most list xs large.turn large.column → IsFirstRefused (IsSummed most list) (all_entries vs) v large
    large_told large h =
        first_refused entries (IsSummed most list) vs v x large l e (have_answers (IsSummed most list) (all_entries (take v vs)) reported.reported reported.sums)
        (subst (λ (ys : List ℕ). IsSummed most list ys (Err large)) same h)
