-- A line that is read as a move or a step is one.
use Rattle.std.proofs.Common.{◌≡◌, ℕ, ◌-◌, ◌^◌, List, [], ◌∷◌, ◌++◌, Option, Some, None, Result, Ok, refl, sym, ap, ◌∙◌, subst}
use Rattle.std.specs.Prelude.{slice_index, codes}
use Rattle.table_definitions.specs.Permutation.{four, digits_of, others}
use Rattle.table_definitions.specs.Places.{edge_ends}
use Rattle.text_definitions.specs.Text.{Token}
use Rattle.text_definitions.specs.declared.LexFault.{LexFault}
use Rattle.text_definitions.specs.Reading.{Reading, ◌>>=◌, word_at, number_at, end_line_at}
use Rattle.text_definitions.proofs.Readers.{bind_ok}
use Rattle.table_definitions.specs.Grammar.{AreWords, IsDecimalUpTo}
use Rattle.table_definitions.proofs.ReadingLaws.{ok_parts, with_tokens, behind, TakesWord, word_taken, TakesNumber, number_read}
use Rattle.table_definitions.proofs.LineLaws.{line_ended}
use Rattle.move_definitions.specs.Moves.{Move}
use Rattle.move_definitions.specs.MoveText.{MoveKind, one_four, two_three, three_two, four_one, move_kind, spelled, spelled_at, single, vertices_at, core_at, kind_at, move_at, Step, play, undo, redo, step_word, named_step_at, step_at, played}
use Rattle.move_definitions.specs.Grammar as grammar
use Rattle.move_definitions.specs.Grammar.{IsCoreText, IsMoveLine, IsStepLine}
use Rattle.move_definitions.proofs.CoreTexts.{kind_word, kind_named, names_step, step_named, vertex_spelled, edge_spelled}

-- a word is the first of the words of a line
first_word : (ts : List Token) (c : Reading) (w : List ℕ) (d : Reading) (t : TakesWord ts c w d) (ws : List (List ℕ)) → AreWords t.rest ws → AreWords ts (w ∷ ws)
first_word ts c w d t ws a = subst (λ (us : List Token). AreWords us (w ∷ ws)) (sym t.tokens) (refl, a)

-- vertices that were read
pub record TakesVertices (lists : List (List ℕ)) (ts : List Token) (c : Reading) (vs : List ℕ) (d : Reading) : Type 0 where
  pub w : List ℕ
  pub taken : TakesWord ts c w d
  pub spells : spelled lists w ≡ Some vs

spelled_read : (o : Option (List ℕ)) (c : Reading) (vs : List ℕ) (d : Reading) → spelled_at o c ≡ Ok (vs, d) → (o ≡ Some vs) × (c ≡ d)
spelled_read None c vs d e = absurd cc
spelled_read (Some us) c vs d e = let parts : (us ≡ vs) × (c ≡ d) = ok_parts (us, c) (vs, d) e in (ap (λ xs. Some xs) parts.0, parts.1)

vertices_read : (lists : List (List ℕ)) (ts : List Token) (c : Reading) (vs : List ℕ) (d : Reading) → vertices_at lists (with_tokens ts c) ≡ Ok (vs, d) → TakesVertices lists ts c vs d
unfolding vertices_at
vertices_read lists ts c vs d e =
    let first : (x : List ℕ × Reading) × (word_at (with_tokens ts c) ≡ Ok x) × (spelled_at (spelled lists x.0) x.1 ≡ Ok (vs, d)) =
    bind_ok (word_at (with_tokens ts c)) (λ (x : List ℕ × Reading). spelled_at (spelled lists x.0) x.1) (vs, d) e in
    let spelt : (spelled lists (first.0).0 ≡ Some vs) × ((first.0).1 ≡ d) = spelled_read (spelled lists (first.0).0) (first.0).1 vs d first.2 in
    record {
      w = (first.0).0;
      taken = subst (λ (r : Reading). TakesWord ts c (first.0).0 r) spelt.1 (word_taken ts c (first.0).0 (first.0).1 first.1);
      spells = spelt.0;
    }

-- a core that was read: its words, and what remains after them
pub record TakesCore (k : MoveKind) (ts : List Token) (c : Reading) (core : List ℕ) (d : Reading) : Type 0 where
  pub ws : List (List ℕ)
  pub rest : List Token
  pub before : Reading
  pub left : d ≡ with_tokens rest before
  pub later : before.later ≡ c.later
  pub words : (more : List (List ℕ)) → AreWords rest more → AreWords ts (ws ++ more)
  pub text : IsCoreText (kind_word k) ws core

-- the core of one word
one_word : (k : MoveKind) (lists : List (List ℕ)) (ts : List Token) (c : Reading) (vs core : List ℕ) (d : Reading) (t : TakesVertices lists ts c vs d) → IsCoreText (kind_word k) (t.w ∷ []) core
    → TakesCore k ts c core d
one_word k lists ts c vs core d t text = record {
  ws = t.w ∷ [];
  rest = t.taken.rest;
  before = behind t.taken.column c;
  left = t.taken.left;
  later = refl;
  words = λ more a. first_word ts c t.w d t.taken more a;
  text = text;
}

core_read : (k : MoveKind) (ts : List Token) (c : Reading) (core : List ℕ) (d : Reading) → core_at k (with_tokens ts c) ≡ Ok (core, d) → TakesCore k ts c core d
unfolding core_at
core_read one_four ts c core d e =
    let parts : (four ≡ core) × (with_tokens ts c ≡ d) = ok_parts (four, with_tokens ts c) (core, d) e in
    record {
      ws = [];
      rest = ts;
      before = c;
      left = sym parts.1;
      later = refl;
      words = λ more a. a;
      text = subst (λ (vs : List ℕ). IsCoreText (codes "14") [] vs) parts.0 grammar.one_four;
    }
core_read two_three ts c core d e =
    let first : (f : List ℕ × Reading) × (vertices_at single (with_tokens ts c) ≡ Ok f) × (◌≡◌ {A = Result (List ℕ × Reading) LexFault} (Ok (others (slice_index f.0 0), f.1)) (Ok (core, d))) =
    bind_ok (vertices_at single (with_tokens ts c)) (λ (f : List ℕ × Reading). Ok (others (slice_index f.0 0), f.1)) (core, d) e in
    let parts : (others (slice_index (first.0).0 0) ≡ core) × ((first.0).1 ≡ d) = ok_parts (others (slice_index (first.0).0 0), (first.0).1) (core, d) first.2 in
    let t : TakesVertices single ts c (first.0).0 d = vertices_read single ts c (first.0).0 d (subst (λ (r : Reading). vertices_at single (with_tokens ts c) ≡ Ok ((first.0).0, r)) parts.1 first.1) in
    let v = vertex_spelled t.w (first.0).0 t.spells in
    let spelt : others v.0 ≡ core = ap (λ (us : List ℕ). others (slice_index us 0)) (sym v.2) ∙ parts.0 in
    one_word two_three single ts c (first.0).0 core d t
    (subst (λ (u : List ℕ). IsCoreText (codes "23") (u ∷ []) core) (sym v.3) (subst (λ (vs : List ℕ). IsCoreText (codes "23") (digits_of (v.0 ∷ []) ∷ []) vs) spelt (grammar.two_three v.0 v.1)))
core_read three_two ts c core d e =
    let t : TakesVertices edge_ends ts c core d = vertices_read edge_ends ts c core d e in
    let v = edge_spelled t.w core t.spells in
    one_word three_two edge_ends ts c core core d t
    (subst (λ (u : List ℕ). IsCoreText (codes "32") (u ∷ []) core) (sym v.5)
    (subst (λ (vs : List ℕ). IsCoreText (codes "32") (digits_of (v.0 ∷ v.1 ∷ []) ∷ []) vs) (sym v.4) (grammar.three_two v.0 v.1 v.2 v.3)))
core_read four_one ts c core d e =
    let t : TakesVertices single ts c core d = vertices_read single ts c core d e in
    let v = vertex_spelled t.w core t.spells in
    one_word four_one single ts c core core d t
    (subst (λ (u : List ℕ). IsCoreText (codes "41") (u ∷ []) core) (sym v.3) (subst (λ (vs : List ℕ). IsCoreText (codes "41") (digits_of (v.0 ∷ []) ∷ []) vs) (sym v.2) (grammar.four_one v.0 v.1)))

-- what follows the word of a kind
pub record KindRead (k : MoveKind) (ts : List Token) (c : Reading) (m : Move) (d : Reading) : Type 0 where
  pub tet : List ℕ
  pub core : List (List ℕ)
  pub are_words : AreWords ts (tet ∷ core)
  pub number : IsDecimalUpTo (2 ^ 32 - 1) tet m.tet
  pub core_text : IsCoreText (kind_word k) core m.core
  pub later : d.later ≡ c.later
  pub at_end : d.current.tokens ≡ []

-- nothing follows the words of a list
no_more : (ts : List Token) (ws : List (List ℕ)) → AreWords ts (ws ++ []) → AreWords ts ws
no_more ts [] a = a
no_more [] (w ∷ ws) a = absurd a
no_more (t ∷ ts) (w ∷ ws) a = (a.0, no_more ts ws a.1)

kind_made : (k : MoveKind) (ts : List Token) (c : Reading) (n : ℕ) (r : Reading) (core : List ℕ) (s end : Reading) (t : TakesNumber (2 ^ 32 - 1) ts c n r)
    → core_at k r ≡ Ok (core, s) → end_line_at s ≡ Ok end → KindRead k ts c (record { tet = n; core = core }) end
kind_made k ts c n r core s end t h e =
    let q : TakesCore k t.word.rest (behind t.word.column c) core s = core_read k t.word.rest (behind t.word.column c) core s (subst (λ (x : Reading). core_at k x ≡ Ok (core, s)) t.word.left h) in
    let ended : (q.rest ≡ []) × (end ≡ with_tokens [] q.before) = line_ended q.rest q.before end (subst (λ (x : Reading). end_line_at x ≡ Ok end) q.left e) in
    let words : AreWords t.word.rest q.ws = no_more t.word.rest q.ws (q.words [] (subst (λ (us : List Token). AreWords us []) (sym ended.0) tt)) in
    record {
      tet = t.w;
      core = q.ws;
      are_words = first_word ts c t.w r t.word q.ws words;
      number = t.number;
      core_text = q.text;
      later = ap (λ (x : Reading). x.later) ended.1 ∙ q.later;
      at_end = ap (λ (x : Reading). x.current.tokens) ended.1;
    }

kind_read : (k : MoveKind) (ts : List Token) (c : Reading) (m : Move) (d : Reading) → kind_at (Some k) (with_tokens ts c) ≡ Ok (m, d) → KindRead k ts c m d
unfolding kind_at
kind_read k ts c m d e =
    let first : (t : ℕ × Reading) × (number_at (2 ^ 32 - 1) (with_tokens ts c) ≡ Ok t) × ((core_at k t.1 >>= λ (q : List ℕ × Reading). end_line_at q.1 >>= λ (end : Reading). Ok (record { tet = t.0; core = q.0 }, end)) ≡ Ok (m, d)) =
    bind_ok (number_at (2 ^ 32 - 1) (with_tokens ts c)) (λ (t : ℕ × Reading). core_at k t.1 >>= λ (q : List ℕ × Reading). end_line_at q.1 >>= λ (end : Reading). Ok (record { tet = t.0; core = q.0 }, end)) (m, d) e in
    let second : (q : List ℕ × Reading) × (core_at k (first.0).1 ≡ Ok q) × ((end_line_at q.1 >>= λ (end : Reading). Ok (record { tet = (first.0).0; core = q.0 }, end)) ≡ Ok (m, d)) =
    bind_ok (core_at k (first.0).1) (λ (q : List ℕ × Reading). end_line_at q.1 >>= λ (end : Reading). Ok (record { tet = (first.0).0; core = q.0 }, end)) (m, d) first.2 in
    let third : (end : Reading) × (end_line_at (second.0).1 ≡ Ok end) × (◌≡◌ {A = Result (Move × Reading) LexFault} (Ok (record { tet = (first.0).0; core = (second.0).0 }, end)) (Ok (m, d))) =
    bind_ok (end_line_at (second.0).1) (λ (end : Reading). Ok (record { tet = (first.0).0; core = (second.0).0 }, end)) (m, d) second.2 in
    let made : Move = record { tet = (first.0).0; core = (second.0).0 } in
    let parts : (made ≡ m) × (third.0 ≡ d) = ok_parts (made, third.0) (m, d) third.2 in
    let t : TakesNumber (2 ^ 32 - 1) ts c (first.0).0 (first.0).1 = number_read (2 ^ 32 - 1) ts c (first.0).0 (first.0).1 first.1 in
    let read : KindRead k ts c made third.0 = kind_made k ts c (first.0).0 (first.0).1 (second.0).0 (second.0).1 third.0 t second.1 third.1 in
    subst (λ (n : Move). KindRead k ts c n d) parts.0 (subst (λ (r : Reading). KindRead k ts c made r) parts.1 read)

-- a move line that was read
pub record MoveRead (c : Reading) (m : Move) (d : Reading) : Type 0 where
  pub line : IsMoveLine c.current m
  pub later : d.later ≡ c.later
  pub at_end : d.current.tokens ≡ []

-- the move whose kind this word names
named_read : (w : List ℕ) (o : Option MoveKind) (c : Reading) (m : Move) (r d : Reading) (t : TakesWord c.current.tokens c w r) → move_kind w ≡ o → kind_at o r ≡ Ok (m, d) → MoveRead c m d
unfolding kind_at
named_read w None c m r d t n e = absurd cc
named_read w (Some k) c m r d t n e =
    let read : KindRead k t.rest (behind t.column c) m d = kind_read k t.rest (behind t.column c) m d (subst (λ (x : Reading). kind_at (Some k) x ≡ Ok (m, d)) t.left e) in
    record {
      line = record {
        kind = w;
        tet = read.tet;
        core = read.core;
        are_words = first_word c.current.tokens c w r t (read.tet ∷ read.core) read.are_words;
        number = read.number;
        core_text = subst (λ (u : List ℕ). IsCoreText u read.core m.core) (sym (kind_named w k n)) read.core_text;
      };
      later = read.later;
      at_end = read.at_end;
    }

pub move_read : (c : Reading) (m : Move) (d : Reading) → move_at c ≡ Ok (m, d) → MoveRead c m d
unfolding move_at
move_read c m d e =
    let first : (x : List ℕ × Reading) × (word_at c ≡ Ok x) × (kind_at (move_kind x.0) x.1 ≡ Ok (m, d)) = bind_ok (word_at c) (λ (x : List ℕ × Reading). kind_at (move_kind x.0) x.1) (m, d) e in
    named_read (first.0).0 (move_kind (first.0).0) c m (first.0).1 d (word_taken c.current.tokens c (first.0).0 (first.0).1 first.1) refl first.2

-- a step line that was read
pub record StepRead (c : Reading) (s : Step) (d : Reading) : Type 0 where
  pub line : IsStepLine c.current s
  pub later : d.later ≡ c.later
  pub at_end : d.current.tokens ≡ []

-- the word of a step other than a move
step_line : (c : Reading) (w : List ℕ) (s : Step) → AreWords c.current.tokens (w ∷ []) → names_step s w → IsStepLine c.current s
step_line c w undo a n = subst (λ (u : List ℕ). AreWords c.current.tokens (u ∷ [])) n a
step_line c w redo a n = subst (λ (u : List ℕ). AreWords c.current.tokens (u ∷ [])) n a
step_line c w (play m) a n = absurd n

named_step_read : (w : List ℕ) (o : Option Step) (c : Reading) (s : Step) (r d : Reading) (t : TakesWord c.current.tokens c w r) → step_word w ≡ o → named_step_at o w r ≡ Ok (s, d) → StepRead c s d
unfolding named_step_at
named_step_read w None c s r d t n e =
    let first : (x : Move × Reading) × (kind_at (move_kind w) r ≡ Ok x) × (◌≡◌ {A = Result (Step × Reading) LexFault} (Ok (played x)) (Ok (s, d))) =
    bind_ok (kind_at (move_kind w) r) (λ (x : Move × Reading). Ok (played x)) (s, d) e in
    let parts : (play (first.0).0 ≡ s) × ((first.0).1 ≡ d) = ok_parts (played first.0) (s, d) first.2 in
    let read : MoveRead c (first.0).0 (first.0).1 = named_read w (move_kind w) c (first.0).0 r (first.0).1 t refl first.1 in
    record {
      line = subst (λ (u : Step). IsStepLine c.current u) parts.0 read.line;
      later = ap (λ (x : Reading). x.later) (sym parts.1) ∙ read.later;
      at_end = ap (λ (x : Reading). x.current.tokens) (sym parts.1) ∙ read.at_end;
    }
named_step_read w (Some step) c s r d t n e =
    let first : (end : Reading) × (end_line_at r ≡ Ok end) × (◌≡◌ {A = Result (Step × Reading) LexFault} (Ok (step, end)) (Ok (s, d))) =
    bind_ok (end_line_at r) (λ (end : Reading). Ok (step, end)) (s, d) e in
    let parts : (step ≡ s) × (first.0 ≡ d) = ok_parts (step, first.0) (s, d) first.2 in
    let ended : (t.rest ≡ []) × (first.0 ≡ with_tokens [] (behind t.column c)) = line_ended t.rest (behind t.column c) first.0 (subst (λ (x : Reading). end_line_at x ≡ Ok first.0) t.left first.1) in
    let words : AreWords c.current.tokens (w ∷ []) = first_word c.current.tokens c w r t [] (subst (λ (us : List Token). AreWords us []) (sym ended.0) tt) in
    let is : d ≡ with_tokens [] (behind t.column c) = sym parts.1 ∙ ended.1 in
    record {
      line = step_line c w s words (subst (λ (u : Step). names_step u w) parts.0 (step_named w step n));
      later = ap (λ (x : Reading). x.later) is;
      at_end = ap (λ (x : Reading). x.current.tokens) is;
    }

pub step_read : (c : Reading) (s : Step) (d : Reading) → step_at c ≡ Ok (s, d) → StepRead c s d
unfolding step_at
step_read c s d e =
    let first : (x : List ℕ × Reading) × (word_at c ≡ Ok x) × (named_step_at (step_word x.0) x.0 x.1 ≡ Ok (s, d)) = bind_ok (word_at c) (λ (x : List ℕ × Reading). named_step_at (step_word x.0) x.0 x.1) (s, d) e in
    named_step_read (first.0).0 (step_word (first.0).0) c s (first.0).1 d (word_taken c.current.tokens c (first.0).0 (first.0).1 first.1) refl first.2
