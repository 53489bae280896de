-- Move and step lines: their readers see no more than they read and the next symbol, and what comes before an error can
-- be continued.
use Rattle.std.proofs.Common.{◌≡◌, ℕ, ◌-◌, ◌^◌, List, [], ◌∷◌, Option, Some, None, Result, Ok, Err, refl, sym, subst}
use Rattle.std.specs.Prelude.{codes, slice_index}
use Rattle.text_definitions.specs.declared.LexKind.{LexKind}
use Rattle.text_definitions.specs.declared.LexKind.TheVariants.{BadWord}
use Rattle.text_definitions.specs.declared.LexFault.{LexFault}
use Rattle.text_definitions.specs.Reading.{Reading, ◌>>=◌, word_at, end_line_at}
use Rattle.table_definitions.specs.Permutation.{four, others}
use Rattle.table_definitions.specs.Places.{edge_ends}
use Rattle.move_definitions.specs.Moves.{Move}
use Rattle.move_definitions.specs.MoveText.{MoveKind, one_four, two_three, three_two, four_one, move_kind, spelled, spelled_at, vertices_at, single, core_at, kind_at, move_at, Step, play, played, step_word, named_step_at, step_at}
use Rattle.text_document_laws.proofs.LocalWords.{tested, word_with}
use Rattle.text_document_laws.proofs.Chains.{Reader, Ends, ends_word, ends_tested, ends_number, ends_line, ends_made, opens_pure, bind_bind}
use Rattle.text_document_laws.proofs.Given.{Numbers}

-- vertices
spelled_test : Option (List ℕ) → Result (List ℕ) LexKind
spelled_test None = Err BadWord
spelled_test (Some vertices) = Ok vertices

abbrev vertices_test : List (List ℕ) → List ℕ → Result (List ℕ) LexKind
vertices_test lists w = spelled_test (spelled lists w)

vertices_tested : (o : Option (List ℕ)) (c : Reading) → tested (spelled_test o) c ≡ spelled_at o c
unfolding spelled_test
vertices_tested None c = refl
vertices_tested (Some vertices) c = refl

vertices_word : (lists : List (List ℕ)) (c : Reading) → word_with (vertices_test lists) c ≡ vertices_at lists c
unfolding vertices_at
vertices_word lists c = by_word (word_at c)
  where
    by_word : (r : Result (List ℕ × Reading) LexFault) → (r >>= λ (w : List ℕ × Reading). tested (vertices_test lists w.0) w.1) ≡ r >>= λ (w : List ℕ × Reading). spelled_at (spelled lists w.0) w.1
    by_word (Ok w) = vertices_tested (spelled lists w.0) w.1
    by_word (Err f) = refl

single_passes : vertices_test single (codes "0") ≡ Ok (0 ∷ [])
unfolding spelled_test
single_passes = refl

edge_passes : vertices_test edge_ends (codes "01") ≡ Ok (0 ∷ 1 ∷ [])
unfolding spelled_test
edge_passes = refl

-- cores
abbrev face_core : List ℕ → List ℕ
face_core f = others (slice_index f 0)

-- a value at the end of a line
abbrev closed : {A : Type 0} → A → Reader A
closed x c = end_line_at c >>= λ (end : Reading). Ok (x, end)

ends_closed : {A : Type 0} (x : A) → Ends (closed x)
ends_closed x = ends_line (λ end. Ok (x, end)) (opens_pure x)

-- what follows the kind of a move
abbrev Moved : Type 0
Moved = Result (Move × Reading) LexFault

abbrev move_of : ℕ → List ℕ → Move
move_of t core = record { tet = t; core = core }

abbrev core_on : MoveKind → ℕ → Reading → Moved
core_on kind t c = core_at kind c >>= λ (core : Numbers). closed (move_of t core.0) core.1

abbrev kind_on : MoveKind → Reading → Moved
kind_on kind c = kind_at (Some kind) c

abbrev tetrahedron : ℕ
tetrahedron = 2 ^ 32 - 1

abbrev on_vertices : List (List ℕ) → (List ℕ → List ℕ) → ℕ → Reading → Moved
on_vertices lists core t c = vertices_at lists c >>= λ (v : Numbers). closed (move_of t (core v.0)) v.1

ends_vertices : (lists : List (List ℕ)) (w vertices : List ℕ) → vertices_test lists w ≡ Ok vertices → (core : List ℕ → List ℕ) (t : ℕ) → Ends (on_vertices lists core t)
ends_vertices lists w vertices passes core t = ends_tested (vertices_test lists) (vertices_at lists) (vertices_word lists) w vertices passes (λ v. closed (move_of t (core v))) (λ v. ends_closed (move_of t (core v)))

ends_core : (kind : MoveKind) (t : ℕ) → Ends (core_on kind t)
unfolding core_at
ends_core one_four t = ends_closed (move_of t four)
ends_core two_three t =
    subst (λ (r : Reader Move). Ends r) (λ i c. sym (bind_bind (vertices_at single c) (λ (f : Numbers). Ok (face_core f.0, f.1)) (λ (core : Numbers). closed (move_of t core.0) core.1)) i)
    (ends_vertices single (codes "0") (0 ∷ []) single_passes face_core t)
ends_core three_two t = ends_vertices edge_ends (codes "01") (0 ∷ 1 ∷ []) edge_passes (λ v. v) t
ends_core four_one t = ends_vertices single (codes "0") (0 ∷ []) single_passes (λ v. v) t

ends_kind : (kind : MoveKind) → Ends (kind_on kind)
unfolding kind_at
ends_kind kind = ends_number tetrahedron (core_on kind) (ends_core kind)

-- a move line
kind_of : Option MoveKind → Result MoveKind LexKind
kind_of None = Err BadWord
kind_of (Some kind) = Ok kind

abbrev kind_test : List ℕ → Result MoveKind LexKind
kind_test w = kind_of (move_kind w)

kind_tested : (o : Option MoveKind) (c : Reading) → (tested (kind_of o) c >>= λ (x : MoveKind × Reading). kind_on x.0 x.1) ≡ kind_at o c
unfolding kind_of kind_at
kind_tested None c = refl
kind_tested (Some kind) c = refl

move_by_kind : (c : Reading) → (word_with kind_test c >>= λ (x : MoveKind × Reading). kind_on x.0 x.1) ≡ move_at c
unfolding move_at
move_by_kind c = by_word (word_at c)
  where
    by_word : (r : Result (List ℕ × Reading) LexFault) → (r >>= (λ (w : List ℕ × Reading). tested (kind_test w.0) w.1) >>= λ (x : MoveKind × Reading). kind_on x.0 x.1) ≡ r >>= λ (w : List ℕ × Reading). kind_at (move_kind w.0) w.1
    by_word (Ok w) = kind_tested (move_kind w.0) w.1
    by_word (Err f) = refl

kind_passes : kind_test (codes "14") ≡ Ok one_four
unfolding kind_of
kind_passes = refl

pub ends_move : Ends move_at
ends_move = subst (λ (r : Reader Move). Ends r) (λ i c. move_by_kind c i) (ends_word kind_test (codes "14") one_four kind_passes kind_on ends_kind)

-- a step line, by its first word
data StepName : Type 0 where
  a_step : Step → StepName
  a_kind : MoveKind → StepName

move_name : Option MoveKind → Result StepName LexKind
move_name None = Err BadWord
move_name (Some kind) = Ok (a_kind kind)

step_name : Option Step → Option MoveKind → Result StepName LexKind
step_name (Some step) o = Ok (a_step step)
step_name None o = move_name o

abbrev step_test : List ℕ → Result StepName LexKind
step_test w = step_name (step_word w) (move_kind w)

step_on : StepName → Reading → Result (Step × Reading) LexFault
step_on (a_step step) c = closed step c
step_on (a_kind kind) c = kind_on kind c >>= λ (m : Move × Reading). Ok (played m)

abbrev named_on : StepName × Reading → Result (Step × Reading) LexFault
named_on x = step_on x.0 x.1

move_tested : (o : Option MoveKind) (c : Reading) → (tested (move_name o) c >>= named_on) ≡ kind_at o c >>= λ (m : Move × Reading). Ok (played m)
unfolding move_name step_on kind_at
move_tested None c = refl
move_tested (Some kind) c = refl

step_tested : (o : Option Step) (w : List ℕ) (c : Reading) → (tested (step_name o (move_kind w)) c >>= named_on) ≡ named_step_at o w c
unfolding step_name step_on named_step_at
step_tested (Some step) w c = refl
step_tested None w c = move_tested (move_kind w) c

step_by_name : (c : Reading) → (word_with step_test c >>= named_on) ≡ step_at c
unfolding step_at
step_by_name c = by_word (word_at c)
  where
    by_word : (r : Result (List ℕ × Reading) LexFault) → (r >>= (λ (w : List ℕ × Reading). tested (step_test w.0) w.1) >>= named_on) ≡ r >>= λ (w : List ℕ × Reading). named_step_at (step_word w.0) w.0 w.1
    by_word (Ok w) = step_tested (step_word w.0) w.0 w.1
    by_word (Err f) = refl

kind_step_passes : step_test (codes "14") ≡ Ok (a_kind one_four)
unfolding step_name move_name
kind_step_passes = refl

ends_step_on : (name : StepName) → Ends (step_on name)
unfolding step_on
ends_step_on (a_step step) = ends_closed step
ends_step_on (a_kind kind) = ends_made (λ m. play m) (kind_on kind) (ends_kind kind)

pub ends_step : Ends step_at
ends_step = subst (λ (r : Reader Step). Ends r) (λ i c. step_by_name c i) (ends_word step_test (codes "14") (a_kind one_four) kind_step_passes step_on ends_step_on)
