-- Moves and steps in text: `14 t`, `23 t f`, `32 t ab`, `41 t v`, `undo` and `redo`.
use Rattle.std.specs.Prelude.{ℕ, ◌-◌, ◌^◌, List, [], ◌∷◌, length, map, Option, Some, None, Result, Ok, Err, find, ◌==◌, if◌then◌else◌, codes, decimal, slice_index, filter, not}
use Rattle.table_definitions.specs.Lists.{same_list, has}
use Rattle.table_definitions.specs.Permutation.{four, digits_of, others}
use Rattle.table_definitions.specs.Places.{edge_ends}
use Rattle.text_definitions.specs.declared.LexKind.TheVariants.{BadWord}
use Rattle.text_definitions.specs.declared.LexFault.{LexFault}
use Rattle.text_definitions.specs.Reading.{Reading, ◌>>=◌, word_fault, word_at, end_line_at, number_at}
use Rattle.text_definitions.specs.Written.{spaced}
use Rattle.move_definitions.specs.Moves.{Move}

-- the kinds of move, by their core's size
pub data MoveKind : Type 0 where
  one_four : MoveKind
  two_three : MoveKind
  three_two : MoveKind
  four_one : MoveKind

abbrev pub move_kind : List ℕ → Option MoveKind
move_kind w =
    if same_list w (codes "14") then Some one_four
    else (if same_list w (codes "23") then Some two_three
    else (if same_list w (codes "32") then Some three_two
    else (if same_list w (codes "41") then Some four_one else None)))

-- the one of these lists of vertices that a word spells
abbrev pub spelled : List (List ℕ) → List ℕ → Option (List ℕ)
spelled lists w = find (λ vertices. same_list (digits_of vertices) w) lists

abbrev pub spelled_at : Option (List ℕ) → Reading → Result (List ℕ × Reading) LexFault
spelled_at None c = Err (word_fault c BadWord)
spelled_at (Some vertices) c = Ok (vertices, c)

-- one of these lists of vertices
unfoldable pub vertices_at : List (List ℕ) → Reading → Result (List ℕ × Reading) LexFault
vertices_at lists c = do
  w ← word_at c
  spelled_at (spelled lists w.0) w.1

abbrev pub single : List (List ℕ)
single = map (λ v. v ∷ []) four

-- the core that follows the number of the tetrahedron
unfoldable pub core_at : MoveKind → Reading → Result (List ℕ × Reading) LexFault
core_at one_four c = Ok (four, c)
core_at two_three c = do
  f ← vertices_at single c
  Ok (others (slice_index f.0 0), f.1)
core_at three_two c = vertices_at edge_ends c
core_at four_one c = vertices_at single c

-- what follows the kind of a move, to the end of the line
unfoldable pub kind_at : Option MoveKind → Reading → Result (Move × Reading) LexFault
kind_at None c = Err (word_fault c BadWord)
kind_at (Some kind) c = do
  t ← number_at (2 ^ 32 - 1) c
  core ← core_at kind t.1
  end ← end_line_at core.1
  Ok (record { tet = t.0; core = core.0 }, end)

-- a line that is a move, of which no word was taken yet
unfoldable pub move_at : Reading → Result (Move × Reading) LexFault
move_at c = do
  w ← word_at c
  kind_at (move_kind w.0) w.1

-- a step of a script
pub data Step : Type 0 where
  play : Move → Step
  undo : Step
  redo : Step

abbrev pub step_word : List ℕ → Option Step
step_word w = if same_list w (codes "undo") then Some undo else (if same_list w (codes "redo") then Some redo else None)

abbrev pub played : Move × Reading → Step × Reading
played x = (play x.0, x.1)

unfoldable pub named_step_at : Option Step → List ℕ → Reading → Result (Step × Reading) LexFault
named_step_at (Some step) w c = do
  end ← end_line_at c
  Ok (step, end)
named_step_at None w c = do
  m ← kind_at (move_kind w) c
  Ok (played m)

-- a line that is a step, of which no word was taken yet
unfoldable pub step_at : Reading → Result (Step × Reading) LexFault
step_at c = do
  w ← word_at c
  named_step_at (step_word w.0) w.0 w.1

-- the kind and the last word of a written move, by its core's size
abbrev pub core_words : ℕ → List ℕ → List ℕ × List (List ℕ)
core_words size core =
    if size == 4 then (codes "14", [])
    else (if size == 3 then (codes "23", digits_of (filter (λ v. not (has core v)) four) ∷ [])
    else (if size == 2 then (codes "32", digits_of core ∷ []) else (codes "41", digits_of core ∷ [])))

-- what is written for a move
unfoldable pub move_text : Move → List ℕ
move_text m = spaced ((core_words (length m.core) m.core).0 ∷ decimal m.tet ∷ (core_words (length m.core) m.core).1)
