-- A line that is a move or a step is read as one.
use Rattle.std.proofs.Common.{◌≡◌, ℕ, ◌-◌, ◌^◌, List, [], ◌∷◌, Option, Some, None, Result, Ok, refl, sym, ap, ◌∙◌, subst}
use Rattle.std.specs.Prelude.{slice_index, codes}
use Rattle.table_definitions.specs.Permutation.{four, digits_of, others}
use Rattle.table_definitions.specs.Places.{edge_ends}
use Rattle.text_definitions.specs.Text.{Token, word, stray}
use Rattle.text_definitions.specs.declared.LexFault.{LexFault}
use Rattle.text_definitions.specs.Reading.{Reading, ◌>>=◌, word_at, number_at, end_from, end_line_at}
use Rattle.table_definitions.specs.Grammar.{AreWords, IsDecimalUpTo}
use Rattle.table_definitions.proofs.ReadingLaws.{with_tokens, behind, one_number}
use Rattle.move_definitions.specs.Moves.{Move}
use Rattle.move_definitions.specs.MoveText.{MoveKind, one_four, two_three, three_two, four_one, move_kind, spelled, spelled_at, single, vertices_at, core_at, kind_at, move_at, Step, play, undo, redo, step_word, named_step_at, step_at, played}
use Rattle.move_definitions.specs.Grammar as grammar
use Rattle.move_definitions.specs.Grammar.{IsCoreText, IsMoveLine, IsStepLine}
use Rattle.move_definitions.specs.TextLaws.{ReadsMove, ReadsStep}
use Rattle.move_definitions.proofs.CoreTexts.{spelled-vertex, spelled-edge}

-- a line that ends
end_found : (c : Reading) → c.current.tokens ≡ [] → end_line_at c ≡ Ok c
unfolding end_line_at
end_found c e = ap (λ (ts : List Token). end_from ts c) e

-- the core that these words spell is read, up to the end of the line
pub record FindsCore (k : MoveKind) (ts : List Token) (c : Reading) (core : List ℕ) : Type 0 where
  pub left : Reading
  pub read : core_at k (with_tokens ts c) ≡ Ok (core, left)
  pub later : left.later ≡ c.later
  pub at_end : left.current.tokens ≡ []

-- one word that spells one of these lists of vertices
vertices_found : (lists : List (List ℕ)) (column : ℕ) (v w vs : List ℕ) (ts : List Token) (c : Reading) → v ≡ w → spelled lists w ≡ Some vs
    → vertices_at lists (with_tokens (word column v ∷ ts) c) ≡ Ok (vs, with_tokens ts (behind column c))
unfolding vertices_at word_at
vertices_found lists column v w vs ts c e s = ap (λ (o : Option (List ℕ)). spelled_at o (with_tokens ts (behind column c))) (ap (spelled lists) e ∙ s)

-- the first word of a move line with this core: it names a kind of moves and no other step, and the core is read after
-- it
pub record CoreFound (word : List ℕ) (ws : List (List ℕ)) (core : List ℕ) : Type 0 where
  pub k : MoveKind
  pub kind : move_kind word ≡ Some k
  pub no_step : step_word word ≡ None
  pub finds : (ts : List Token) (c : Reading) → AreWords ts ws → FindsCore k ts c core

no_words : (core : List ℕ) (k : MoveKind) (ts : List Token) (c : Reading) → core_at k (with_tokens ts c) ≡ Ok (core, with_tokens ts c) → AreWords ts [] → FindsCore k ts c core
no_words core k [] c e a = record { left = with_tokens [] c; read = e; later = refl; at_end = refl }
no_words core k (t ∷ ts) c e a = absurd a

-- one word, and then the end of the line
one_word : (k : MoveKind) (w : List ℕ) (core : List ℕ) (ts : List Token) (c : Reading) → ((column : ℕ) (v : List ℕ) → v ≡ w → core_at k (with_tokens (word column v ∷ []) c) ≡ Ok (core, with_tokens [] (behind column c)))
    → AreWords ts (w ∷ []) → FindsCore k ts c core
one_word k w core [] c e a = absurd a
one_word k w core (stray column ∷ ts) c e a = absurd a.0
one_word k w core (word column v ∷ []) c e a = record { left = with_tokens [] (behind column c); read = e column v a.0; later = refl; at_end = refl }
one_word k w core (word column v ∷ t ∷ ts) c e a = absurd a.1

pub core_found : (word : List ℕ) (ws : List (List ℕ)) (core : List ℕ) → IsCoreText word ws core → CoreFound word ws core
unfolding core_at
core_found _ _ _ grammar.one_four = record { k = one_four; kind = refl; no_step = refl; finds = λ ts c a. no_words four one_four ts c refl a }
core_found _ _ _ (grammar.two_three f l) = record {
  k = two_three;
  kind = refl;
  no_step = refl;
  finds = λ ts c a. one_word two_three (digits_of (f ∷ [])) (others f) ts c
      (λ column v e. ap (λ (r : Result (List ℕ × Reading) LexFault). r >>= λ (x : List ℕ × Reading). Ok (others (slice_index x.0 0), x.1)) (vertices_found single column v (digits_of (f ∷ [])) (f ∷ []) [] c e (spelled-vertex f l))) a;
}
core_found _ _ _ (grammar.three_two a b l m) = record {
  k = three_two;
  kind = refl;
  no_step = refl;
  finds = λ ts c h. one_word three_two (digits_of (a ∷ b ∷ [])) (a ∷ b ∷ []) ts c
      (λ column v e. vertices_found edge_ends column v (digits_of (a ∷ b ∷ [])) (a ∷ b ∷ []) [] c e (spelled-edge a b l m)) h;
}
core_found _ _ _ (grammar.four_one v l) = record {
  k = four_one;
  kind = refl;
  no_step = refl;
  finds = λ ts c a. one_word four_one (digits_of (v ∷ [])) (v ∷ []) ts c
      (λ column w e. vertices_found single column w (digits_of (v ∷ [])) (v ∷ []) [] c e (spelled-vertex v l)) a;
}

-- what follows the word of a kind is read
pub record FindsKind (k : MoveKind) (ts : List Token) (c : Reading) (m : Move) : Type 0 where
  pub left : Reading
  pub read : kind_at (Some k) (with_tokens ts c) ≡ Ok (m, left)
  pub later : left.later ≡ c.later
  pub at_end : left.current.tokens ≡ []

kind_found : (k : MoveKind) (tet : List ℕ) (ws : List (List ℕ)) (ts : List Token) (c : Reading) (m : Move) → AreWords ts (tet ∷ ws) → IsDecimalUpTo (2 ^ 32 - 1) tet m.tet
    → ((us : List Token) (d : Reading) → AreWords us ws → FindsCore k us d m.core) → FindsKind k ts c m
unfolding kind_at
kind_found k tet ws [] c m a n f = absurd a
kind_found k tet ws (stray column ∷ ts) c m a n f = absurd a.0
kind_found k tet ws (word column v ∷ ts) c m a n f =
    let core : FindsCore k ts (behind column c) m.core = f ts (behind column c) a.1 in
    let number : number_at (2 ^ 32 - 1) (with_tokens (word column v ∷ ts) c) ≡ Ok (m.tet, with_tokens ts (behind column c)) =
    one_number (2 ^ 32 - 1) column v m.tet ts c (subst (λ (u : List ℕ). IsDecimalUpTo (2 ^ 32 - 1) u m.tet) (sym a.0) n) in
    record {
      left = core.left;
      read =
          ap (λ (r : Result (ℕ × Reading) LexFault). r >>= λ (t : ℕ × Reading). core_at k t.1 >>= λ (q : List ℕ × Reading). end_line_at q.1 >>= λ (end : Reading). Ok (record { tet = t.0; core = q.0 }, end)) number
          ∙ ap (λ (r : Result (List ℕ × Reading) LexFault). r >>= λ (q : List ℕ × Reading). end_line_at q.1 >>= λ (end : Reading). Ok (record { tet = m.tet; core = q.0 }, end)) core.read
          ∙ ap (λ (r : Result Reading LexFault). r >>= λ (end : Reading). Ok (m, end)) (end_found core.left core.at_end);
      later = core.later;
      at_end = core.at_end;
    }

-- a move line after its first word
pub record FindsNamed (ts : List Token) (c : Reading) (m : Move) : Type 0 where
  pub w : List ℕ
  pub behind_word : Reading
  pub taken : word_at (with_tokens ts c) ≡ Ok (w, behind_word)
  pub no_step : step_word w ≡ None
  pub left : Reading
  pub read : kind_at (move_kind w) behind_word ≡ Ok (m, left)
  pub later : left.later ≡ c.later
  pub at_end : left.current.tokens ≡ []

named_found : (ts : List Token) (c : Reading) (m : Move) (kind tet : List ℕ) (ws : List (List ℕ)) → AreWords ts (kind ∷ tet ∷ ws) → IsDecimalUpTo (2 ^ 32 - 1) tet m.tet → IsCoreText kind ws m.core → FindsNamed ts c m
unfolding word_at
named_found [] c m kind tet ws a n t = absurd a
named_found (stray column ∷ ts) c m kind tet ws a n t = absurd a.0
named_found (word column v ∷ ts) c m kind tet ws a n t =
    let core : CoreFound v ws m.core = core_found v ws m.core (subst (λ (u : List ℕ). IsCoreText u ws m.core) (sym a.0) t) in
    let found : FindsKind core.k ts (behind column c) m = kind_found core.k tet ws ts (behind column c) m a.1 n core.finds in
    record {
      w = v;
      behind_word = with_tokens ts (behind column c);
      taken = refl;
      no_step = core.no_step;
      left = found.left;
      read = ap (λ (o : Option MoveKind). kind_at o (with_tokens ts (behind column c))) core.kind ∙ found.read;
      later = found.later;
      at_end = found.at_end;
    }

line_named : (c : Reading) (m : Move) → IsMoveLine c.current m → FindsNamed c.current.tokens c m
line_named c m line = named_found c.current.tokens c m line.kind line.tet line.core line.are_words line.number line.core_text

pub move_found : (c : Reading) (m : Move) → IsMoveLine c.current m → ReadsMove c m
unfolding move_at
move_found c m line =
    let f : FindsNamed c.current.tokens c m = line_named c m line in
    record {
      left = f.left;
      read = ap (λ (r : Result (List ℕ × Reading) LexFault). r >>= λ (x : List ℕ × Reading). kind_at (move_kind x.0) x.1) f.taken ∙ f.read;
      later = f.later;
      at_end = f.at_end;
    }

-- a line of one word that names a step
word_found : (ts : List Token) (c : Reading) (w : List ℕ) (s : Step) → AreWords ts (w ∷ []) → step_word w ≡ Some s
    → (left : Reading) × ((word_at (with_tokens ts c) >>= λ (x : List ℕ × Reading). named_step_at (step_word x.0) x.0 x.1) ≡ Ok (s, left)) × (left.later ≡ c.later) × (left.current.tokens ≡ [])
unfolding word_at named_step_at end_line_at
word_found [] c w s a e = absurd a
word_found (stray column ∷ ts) c w s a e = absurd a.0
word_found (word column v ∷ []) c w s a e =
    (with_tokens [] (behind column c), ap (λ (o : Option Step). named_step_at o v (with_tokens [] (behind column c))) (ap step_word a.0 ∙ e), refl, refl)
word_found (word column v ∷ t ∷ ts) c w s a e = absurd a.1

one_step : (c : Reading) (w : List ℕ) (s : Step) → AreWords c.current.tokens (w ∷ []) → step_word w ≡ Some s → ReadsStep c s
unfolding step_at
one_step c w s a e = let f = word_found c.current.tokens c w s a e in record { left = f.0; read = f.1; later = f.2; at_end = f.3 }

played_step : (c : Reading) (m : Move) → FindsNamed c.current.tokens c m → ReadsStep c (play m)
unfolding step_at named_step_at
played_step c m f = record {
  left = f.left;
  read =
      ap (λ (r : Result (List ℕ × Reading) LexFault). r >>= λ (x : List ℕ × Reading). named_step_at (step_word x.0) x.0 x.1) f.taken
      ∙ ap (λ (o : Option Step). named_step_at o f.w f.behind_word) f.no_step
      ∙ ap (λ (r : Result (Move × Reading) LexFault). r >>= λ (x : Move × Reading). Ok (played x)) f.read;
  later = f.later;
  at_end = f.at_end;
}

pub step_found : (c : Reading) (s : Step) → IsStepLine c.current s → ReadsStep c s
step_found c (play m) line = played_step c m (line_named c m line)
step_found c undo line = one_step c (codes "undo") undo line refl
step_found c redo line = one_step c (codes "redo") redo line refl
