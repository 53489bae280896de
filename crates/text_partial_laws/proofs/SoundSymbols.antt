-- Symbols that are sound so far can be continued to a table.
use Rattle.std.proofs.Common.{◌≡◌, ℕ, ◌≤◌, List, [], ◌∷◌, ◌++◌, Some, inl, inr, refl, sym, ap, ◌∙◌, arith}
use Rattle.std.specs.Prelude.{codes}
use Rattle.std.proofs.lemmas.List.{append_assoc, append-nil}
use Rattle.text_definitions.specs.declared.Place.{Place}
use Rattle.text_definitions.specs.Text.{Line}
use Rattle.table_definitions.specs.Table.{Row, max_tets}
use Rattle.table_definitions.specs.Grammar.{IsDecimalUpTo}
use Rattle.table_definitions.proofs.Tables.{sphere}
use Rattle.signature_definitions.specs.Spelling.{Spells}
use Rattle.signature_definitions.proofs.RelationExamples.{sphere_spelled}
use Rattle.text_document_definitions.specs.Symbols.{Symbol, shown, line_end, input_end, symbols_of, plain}
use Rattle.text_document_laws.specs.FaultLaws.{SomeTable}
use Rattle.text_document_laws.proofs.Local.{plain-append}
use Rattle.text_document_laws.proofs.BehindTables.{lines_front, lines_split}
use Rattle.text_partial_laws.specs.Partial.{IsPartialTable}
use Rattle.text_partial_laws.specs.Sound.{ShowRows, IsSound, nothing, tri_word, tri_number, tri_rows, sig_word, sig_text, sig_line}
use Rattle.text_partial_laws.specs.Laws.{SoundSymbolsGoOn}
use Rattle.text_partial_laws.proofs.Completed.{completed, completes}
use Rattle.text_partial_laws.proofs.SymbolsGiven.{shown_is_sound}
use Rattle.text_partial_laws.proofs.Shown.{line_with, are_words, line_shown, ShowsFirst, rows_first, begins, written_table}

-- lines of a table whose symbols begin with ss
abbrev pub AlwaysSteps : List Symbol → Type 0
AlwaysSteps ss = (lines : List Line) × (more : List Symbol) × (plain (lines_front lines) ≡ ss ++ more) × SomeTable lines

-- rows after a line `tri N`
with_rows : (w : List ℕ) (n : ℕ) (rows : List Row) (ss : List Symbol) → IsDecimalUpTo max_tets w n → IsPartialTable n rows → ShowRows rows ss → AlwaysSteps (shown (codes "tri") ∷ shown w ∷ line_end ∷ ss)
with_rows w n rows ss number p shows =
    let c = completes rows n p in
    let s : ShowsFirst (completed rows n) ss = rows_first rows (completed rows n) ss (begins n rows p) (written_table n rows p) shows in
    let head : Line = line_with (codes "tri" ∷ w ∷ []) in (
      head ∷ s.lines,
      s.more,
      line_shown (codes "tri" ∷ w ∷ []) s.lines ∙ ap (λ (xs : List Symbol). shown (codes "tri") ∷ shown w ∷ line_end ∷ xs) s.there,
      (completed rows n, inl (w, are_words (codes "tri" ∷ w ∷ []), number.value ∙ ap (λ (m : ℕ). Some m) (sym c.count), s.forms, c.is_table)),
    )

-- no entry is given yet
none_given : (n : ℕ) → n ≤ max_tets → IsPartialTable n []
none_given n limited = record {
  limited = limited;
  many = omega arith;
  four_faces = λ k d l. absurd (omega (arith, l));
  permutes = λ x g e. absurd cc;
  in_range = λ x g e. absurd cc;
  separate = λ x g e. absurd cc;
  leads_back = λ x g e h. absurd cc;
  one_each = λ x z g h e f same. absurd cc;
}

naught : IsDecimalUpTo max_tets (codes "0") 0
naught = record { value = refl; up_to = omega arith }

-- a line `sig TEXT`
with_text : (text : List ℕ) (rows : List Row) → Spells text rows → AlwaysSteps (shown (codes "sig") ∷ shown text ∷ line_end ∷ [])
with_text text rows h = (
  line_with (codes "sig" ∷ text ∷ []) ∷ [],
  plain (lines_front []),
  line_shown (codes "sig" ∷ text ∷ []) [],
  (rows, inr (text, are_words (codes "sig" ∷ text ∷ []), h)),
)

-- a beginning of the symbols
shorter : (xs ys : List Symbol) → AlwaysSteps (xs ++ ys) → AlwaysSteps xs
shorter xs ys (lines, more, there, table) = (lines, ys ++ more, there ∙ append_assoc xs ys more, table)

pub sound_goes_on : (ss : List Symbol) → IsSound ss → AlwaysSteps ss
sound_goes_on ss nothing = shorter [] (shown (codes "tri") ∷ shown (codes "0") ∷ line_end ∷ []) (with_rows (codes "0") 0 [] [] naught (none_given 0 (omega arith)) refl)
sound_goes_on ss tri_word = shorter (shown (codes "tri") ∷ []) (shown (codes "0") ∷ line_end ∷ []) (with_rows (codes "0") 0 [] [] naught (none_given 0 (omega arith)) refl)
sound_goes_on ss (tri_number w n number) = shorter (shown (codes "tri") ∷ shown w ∷ []) (line_end ∷ []) (with_rows w n [] [] number (none_given n number.up_to) refl)
sound_goes_on ss (tri_rows w n rows more number p shows) = with_rows w n rows more number p shows
sound_goes_on ss sig_word = shorter (shown (codes "sig") ∷ []) (shown (codes "bkaagj") ∷ line_end ∷ []) (with_text (codes "bkaagj") sphere sphere_spelled)
sound_goes_on ss (sig_text text rows h) = shorter (shown (codes "sig") ∷ shown text ∷ []) (line_end ∷ []) (with_text text rows h)
sound_goes_on ss (sig_line text rows h) = with_text text rows h

-- the symbols of lines with others after them
pub front_shown : (end : Place) (ss : List Symbol) (lines rest : List Line) (more : List Symbol) → plain (lines_front lines) ≡ ss ++ more → plain (symbols_of end (lines ++ rest)) ≡ ss ++ (more ++ plain (symbols_of end rest))
front_shown end ss lines rest more e =
    ap plain (lines_split end lines rest) ∙ plain-append (lines_front lines) (symbols_of end rest) ∙ ap (λ (xs : List Symbol). xs ++ plain (symbols_of end rest)) e
    ∙ append_assoc ss more (plain (symbols_of end rest))

-- after the symbols there is a further one
some_symbol : (xs : List Symbol) (last : Symbol) → (symbol : Symbol) × (more : List Symbol) × (xs ++ last ∷ [] ≡ symbol ∷ more)
some_symbol [] last = (last, [], refl)
some_symbol (x ∷ xs) last = (x, xs ++ last ∷ [], refl)

pub sound_symbols_go_on : SoundSymbolsGoOn
unfolding symbols_of
sound_symbols_go_on end ss = (
  λ sound. (let g : AlwaysSteps ss = sound_goes_on ss sound in
      let behind : (symbol : Symbol) × (more : List Symbol) × (g.1 ++ input_end ∷ [] ≡ symbol ∷ more) = some_symbol g.1 input_end in
      let there : plain (symbols_of end g.0) ≡ ss ++ (g.1 ++ input_end ∷ []) = ap (λ (ls : List Line). plain (symbols_of end ls)) (sym (append-nil g.0)) ∙ front_shown end ss g.0 [] g.1 g.2 in
      (g.0, behind.0, behind.1, there ∙ ap (λ (xs : List Symbol). ss ++ xs) behind.2, g.3)),
  λ h. shown_is_sound end ss h.0 h.1 h.2 h.3 h.4,
)
