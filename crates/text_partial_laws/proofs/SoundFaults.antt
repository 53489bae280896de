-- If what comes before the error of an input is sound, the error is at the first symbol after which no continuation is
-- an input of the kind.
use Rattle.std.proofs.Common.{◌≡◌, List, [], ◌∷◌, ◌++◌, inl, inr, refl, sym, ap, ◌∙◌, subst}
use Rattle.std.specs.Prelude.{codes}
use Rattle.std.proofs.lemmas.List.{append-nil, append_assoc}
use Rattle.text_definitions.specs.declared.Place.{Place}
use Rattle.text_definitions.specs.Text.{Line}
use Rattle.table_definitions.specs.Table.{Row}
use Rattle.signature_definitions.specs.Grammar.{AreTableLines}
use Rattle.surface_definitions.specs.Grammar.{IsVectorLine}
use Rattle.move_definitions.specs.Grammar.{IsMoveLine, IsStepLine}
use Rattle.text_document_definitions.specs.Grammar.{AreTables}
use Rattle.text_document_definitions.specs.Symbols.{Symbol, input_end, symbols_of, plain, LeavesAt, FirstLeavesAt}
use Rattle.text_document_laws.specs.FaultLaws.{SomeTable, SomeTableAndLines, SomeTableAndVector, SomeTableAndBlocks, SomeTwoTables}
use Rattle.text_document_laws.proofs.Local.{plain-append}
use Rattle.text_document_laws.proofs.Lawful.{table_laws, two_tables_laws, tables_laws, vectors_laws, vector_laws, steps_laws, moves_laws, blocks_laws}
use Rattle.text_document_laws.proofs.BehindTables.{cancelled, lines_front, lines_split}
use Rattle.text_partial_laws.specs.Sound.{IsSound, nothing, IsSoundAfter, IsSoundOfTwo}
use Rattle.text_partial_laws.specs.Laws.{SomeTables, SoundFaultsLeaveFirst}
use Rattle.text_partial_laws.proofs.Shown.{line_with, are_words}
use Rattle.text_partial_laws.proofs.SoundSymbols.{AlwaysSteps, sound_goes_on, front_shown}

-- lines that leave a grammar leave each smaller one
leaves_too : (Larger InGrammar : List Line → Type 0) → ((lines : List Line) → InGrammar lines → Larger lines) → (end : Place) (lines : List Line) (p : Place) → LeavesAt Larger end lines p → LeavesAt InGrammar end lines p
leaves_too Larger InGrammar within end lines p h =
    record { before = h.before; symbol = h.symbol; after = h.after; occurs = h.occurs; no_way_on = λ others more e g. h.no_way_on others more e (within others g) }

-- a grammar that contains each table with certain lines before or after it
module _ (InGrammar : List Line → Type 0) (end : Place) (lines : List Line) (p : Place) (h : LeavesAt InGrammar end lines p) where
  pub sound_first : (rest : List Line) → ((table : List Line) → SomeTable table → InGrammar (table ++ rest)) → IsSound (plain h.before) → FirstLeavesAt InGrammar end lines p
  sound_first rest put sound =
      let g : AlwaysSteps (plain h.before) = sound_goes_on (plain h.before) sound in
      record { leaves = h; others = g.0 ++ rest; more = g.1 ++ plain (symbols_of end rest); shown_before = front_shown end (plain h.before) g.0 rest g.1 g.2; way_on = put g.0 g.3 }

  shown_front : (last : Place) (front : List Line) (xs : List Symbol) → plain (symbols_of last front) ≡ xs ++ input_end ∷ [] → plain (lines_front front) ≡ xs
  unfolding symbols_of
  shown_front last front xs e =
      cancelled (plain (lines_front front)) xs (input_end ∷ [])
      (sym (plain-append (lines_front front) (symbols_of last [])) ∙ ap plain (sym (lines_split last front []) ∙ ap (λ (ls : List Line). symbols_of last ls) (append-nil front)) ∙ e)

  pub behind_first : (tables : List (List Row)) → ((front table : List Line) → AreTables front tables → SomeTable table → InGrammar (front ++ table)) → IsSoundAfter tables (plain h.before) → FirstLeavesAt InGrammar end lines p
  behind_first tables put s =
      let g : AlwaysSteps s.rest = sound_goes_on s.rest s.sound in
      let ends : List Symbol = plain (symbols_of end []) in
      let table : plain (symbols_of end g.0) ≡ s.rest ++ (g.1 ++ ends) = ap (λ (ls : List Line). plain (symbols_of end ls)) (sym (append-nil g.0)) ∙ front_shown end s.rest g.0 [] g.1 g.2 in
      record {
        leaves = h;
        others = s.lines ++ g.0;
        more = g.1 ++ ends;
        shown_before =
            ap plain (lines_split end s.lines g.0) ∙ plain-append (lines_front s.lines) (symbols_of end g.0)
            ∙ ap (λ (xs : List Symbol). xs ++ plain (symbols_of end g.0)) (shown_front s.end s.lines s.front s.front_shown) ∙ ap (λ (xs : List Symbol). s.front ++ xs) table
            ∙ sym (append_assoc s.front s.rest (g.1 ++ ends)) ∙ ap (λ (xs : List Symbol). xs ++ (g.1 ++ ends)) (sym s.split);
        way_on = put s.lines g.0 s.are_tables g.3;
      }

-- a table alone, with no further line
alone : (lines : List Line) → SomeTable lines → SomeTable (lines ++ [])
alone lines h = subst SomeTable (sym (append-nil lines)) h

no_lines : {A : Type 0} (form : Line → A → Type 0) (lines : List Line) → SomeTable lines → SomeTableAndLines form (lines ++ [])
no_lines form lines h = (h.0, [], (lines, [], refl, h.1, tt))

no_blocks : (lines : List Line) → SomeTable lines → SomeTableAndBlocks (lines ++ [])
no_blocks lines h = (h.0, [], (lines, [], refl, h.1, refl))

-- with a vector
vector_line : Line
vector_line = line_with (codes "vec" ∷ [])

is_vector : IsVectorLine vector_line []
unfolding vector_line
is_vector = record { ws = []; are_words = are_words (codes "vec" ∷ []); entries = tt }

one_vector : (lines : List Line) → SomeTable lines → SomeTableAndVector (lines ++ vector_line ∷ [])
one_vector lines h = (h.0, [], (lines, vector_line ∷ [], refl, h.1, (is_vector, tt)))

-- a table with another table
some_table : AlwaysSteps []
some_table = sound_goes_on [] nothing

then_some : (lines : List Line) → SomeTable lines → SomeTwoTables (lines ++ some_table.0)
then_some lines h = (let other : SomeTable some_table.0 = some_table.3 in (h.0, other.0, (lines, some_table.0, refl, h.1, other.1)))

then_last : (rows : List Row) (front table : List Line) → AreTables front (rows ∷ []) → SomeTable table → SomeTwoTables (front ++ table)
then_last rows front table t h =
    let whole : front ≡ t.0 = t.2 ∙ ap (λ (ls : List Line). t.0 ++ ls) t.4 ∙ append-nil t.0 in
    (rows, h.0, (front, table, refl, subst (λ (ls : List Line). AreTableLines ls rows) (sym whole) t.3, h.1))

-- tables and one more table
then_more : (tables : List (List Row)) (front table : List Line) → AreTables front tables → SomeTable table → SomeTables (front ++ table)
then_more [] front table t h = subst SomeTables (ap (λ (ls : List Line). ls ++ table) (sym t)) (h.0 ∷ [], (table, [], sym (append-nil table), h.1, refl))
then_more (rows ∷ tables) front table t h =
    let others : SomeTables (t.1 ++ table) = then_more tables t.1 table t.4 h in
    (rows ∷ others.0, (t.0, t.1 ++ table, ap (λ (ls : List Line). ls ++ table) t.2 ∙ append_assoc t.0 t.1 table, t.3, others.1))

pub sound_faults_leave_first : SoundFaultsLeaveFirst
sound_faults_leave_first = record {
  table = λ bytes f e. (let h = table_laws.leaves bytes f e in (h, sound_first SomeTable _ _ f.place h [] alone));
  vectors = λ bytes f e. (let h = leaves_too _ (SomeTableAndLines IsVectorLine) (λ lines g. ((g.0, g.1), g.2)) _ _ f.place (vectors_laws.leaves bytes f e) in (h, sound_first (SomeTableAndLines IsVectorLine) _ _ f.place h [] (no_lines IsVectorLine)));
  vector = λ bytes f e. (let h = leaves_too _ SomeTableAndVector (λ lines g. ((g.0, g.1), g.2)) _ _ f.place (vector_laws.leaves bytes f e) in (h, sound_first SomeTableAndVector _ _ f.place h (vector_line ∷ []) one_vector));
  steps = λ bytes f e. (let h = leaves_too _ (SomeTableAndLines IsStepLine) (λ lines g. ((g.0, g.1), g.2)) _ _ f.place (steps_laws.leaves bytes f e) in (h, sound_first (SomeTableAndLines IsStepLine) _ _ f.place h [] (no_lines IsStepLine)));
  moves = λ bytes f e. (let h = leaves_too _ (SomeTableAndLines IsMoveLine) (λ lines g. ((g.0, g.1), g.2)) _ _ f.place (moves_laws.leaves bytes f e) in (h, sound_first (SomeTableAndLines IsMoveLine) _ _ f.place h [] (no_lines IsMoveLine)));
  blocks = λ bytes f e. (let h = leaves_too _ SomeTableAndBlocks (λ lines g. ((g.0, g.1), g.2)) _ _ f.place (blocks_laws.leaves bytes f e) in (h, sound_first SomeTableAndBlocks _ _ f.place h [] no_blocks));
  two_tables = λ bytes f e. (let h = leaves_too _ SomeTwoTables (λ lines g. ((g.0, g.1), g.2)) _ _ f.place (two_tables_laws.leaves bytes f e) in (h, of_two _ _ f.place h));
  tables = λ bytes f e. (let h = tables_laws.leaves bytes f e in (h, λ s. behind_first SomeTables _ _ f.place h s.0 (then_more s.0) s.1));
}
  where
    of_two : (end : Place) (lines : List Line) (p : Place) (h : LeavesAt SomeTwoTables end lines p) → IsSoundOfTwo (plain h.before) → FirstLeavesAt SomeTwoTables end lines p
    of_two end lines p h (inl s) = sound_first SomeTwoTables end lines p h some_table.0 then_some s
    of_two end lines p h (inr s) = behind_first SomeTwoTables end lines p h (s.0 ∷ []) (then_last s.0) s.1
