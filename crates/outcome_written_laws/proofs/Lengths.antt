-- The length of the text of a table and moves: 37 bytes at most for a tetrahedron, and 28 for a move.
use Rattle.std.proofs.Common.{◌≡◌, ℕ, suc, ◌+◌, ◌*◌, ◌^◌, ◌<◌, ◌≤◌, Bool, true, List, [], ◌∷◌, ◌++◌, length, map, Option, Some, None, refl, arith}
use Rattle.std.specs.Prelude.{◌&&◌, nat_lt, codes, decimal}
use Rattle.std.specs.List.{AllByRecursion, flat_map, list_all, slice_index_or}
use Rattle.std.proofs.lemmas.Bool.{and_parts, ltb-true}
use Rattle.std.proofs.lemmas.Fmt.{length-decimal-le}
use Rattle.std.proofs.lemmas.List.{length-append, length-map}
use Rattle.text_definitions.specs.Written.{spaced}
use Rattle.table_definitions.specs.Permutation.{digits_of}
use Rattle.table_definitions.specs.Table.{max_tets, Gluing, Row, Face, glue, IsTable}
use Rattle.table_definitions.specs.TableText.{entry_text, table_text}
use Rattle.table_definitions.proofs.Permutations.{length-permutation}
use Rattle.move_definitions.specs.Moves.{Move, IsCore, PlaysAll}
use Rattle.move_definitions.specs.MoveText.{core_words, move_text}
use Rattle.move_definitions.proofs.CoreTests.{cores, on_cores}
use Rattle.move_laws.proofs.Legal.{HasNoFault, no_fault}
use Rattle.outcome_definitions.specs.Certificates.{moves_text, table_then_moves}
use Rattle.outcome_written_laws.proofs.WrittenTables.{each_from_places}
use Rattle.outcome_written_laws.specs.Certificates.{WrittenMovesAreShort}

-- texts of at most k bytes each have at most k bytes for each item in all
each_short : {A : Type 0} (k : ℕ) (f : A → List ℕ) (xs : List A) → AllByRecursion (λ x. length (f x) ≤ k) xs → length (flat_map f xs) ≤ k * length xs
each_short k f [] h = omega arith
each_short k f (x ∷ xs) h =
    let one : length (f x) ≤ k = h.0 in
    let more : length (flat_map f xs) ≤ k * length xs = each_short k f xs h.1 in
    let both : length (flat_map f (x ∷ xs)) ≡ length (f x) + length (flat_map f xs) = length-append (f x) (flat_map f xs) in
    let size : k * length (x ∷ xs) ≡ k + k * length xs = omega arith in
    omega arith

-- a line whose words have at most 8 bytes
abbrev IsShort : List ℕ → Type 0
IsShort w = length w ≤ 8

spaced_short : (ws : List (List ℕ)) → AllByRecursion IsShort ws → length (spaced ws) ≤ 1 + 9 * length ws
spaced_short [] h = omega arith
spaced_short (w ∷ []) h =
    let one : length w ≤ 8 = h.0 in
    let both : length (spaced (w ∷ [])) ≡ length w + 1 = length-append w (10 ∷ []) in
    omega arith
spaced_short (w ∷ x ∷ ws) h =
    let one : length w ≤ 8 = h.0 in
    let more : length (spaced (x ∷ ws)) ≤ 1 + 9 * length (x ∷ ws) = spaced_short (x ∷ ws) h.1 in
    let both : length (spaced (w ∷ x ∷ ws)) ≡ length w + suc (length (spaced (x ∷ ws))) = length-append w (32 ∷ spaced (x ∷ ws)) in
    omega arith

three_digits : (t : ℕ) → t < 10 ^ 3 → length (decimal t) ≤ 3
three_digits t l = length-decimal-le 3 t (omega arith) l (omega arith)

module _ (rows : List Row) (table : IsTable rows) where
  entry_short : (x : Face) (e : Option Gluing) → glue rows x ≡ e → IsShort (entry_text e)
  entry_short x None is = omega arith
  entry_short x (Some g) is =
      let limited : length rows ≤ max_tets = table.limited in
      let low : g.tet < length rows = table.in_range x g is in
      let tet : length (decimal g.tet) ≤ 3 = three_digits g.tet (omega arith) in
      let four : length (digits_of g.perm) ≡ length g.perm = length-map g.perm (λ v. 48 + v) in
      let perm : length g.perm ≡ 4 = length-permutation g.perm (table.permutes x g is) in
      let head : length (decimal g.tet ++ codes ":") ≡ length (decimal g.tet) + length (codes ":") = length-append (decimal g.tet) (codes ":") in
      let one : length (codes ":") ≡ 1 = refl in
      let both : length (entry_text (Some g)) ≡ length (decimal g.tet ++ codes ":") + length (digits_of g.perm) = length-append (decimal g.tet ++ codes ":") (digits_of g.perm) in
      omega arith

  words_short : (es : List (Option Gluing)) → AllByRecursion (λ e. IsShort (entry_text e)) es → AllByRecursion IsShort (map entry_text es)
  words_short [] h = tt
  words_short (e ∷ es) h = (h.0, words_short es h.1)

  row_short : (t : ℕ) → t < length rows → length (spaced (map entry_text (slice_index_or rows t []))) ≤ 37
  row_short t l =
      let row : Row = slice_index_or rows t [] in
      let four : length (slice_index_or rows t []) ≡ 4 = table.four_faces t [] l in
      let words : AllByRecursion (λ e. IsShort (entry_text e)) (slice_index_or rows t []) =
      each_from_places (λ e. IsShort (entry_text e)) None (slice_index_or rows t []) (λ f m. entry_short (record { tet = t; face = f }) (slice_index_or row f None) refl) in
      let s : length (spaced (map entry_text (slice_index_or rows t []))) ≤ 1 + 9 * length (map entry_text (slice_index_or rows t [])) = spaced_short (map entry_text row) (words_short row words) in
      let same : length (map entry_text (slice_index_or rows t [])) ≡ length (slice_index_or rows t []) = length-map row entry_text in
      omega arith

  pub table_short : length (table_text rows) ≤ 9 + 37 * length rows
  unfolding table_text
  table_short =
      let limited : length rows ≤ max_tets = table.limited in
      let number : length (decimal (length rows)) ≤ 4 = length-decimal-le 4 (length rows) (omega arith) (omega arith) (omega arith) in
      let lines : length (flat_map (λ (row : Row). spaced (map entry_text row)) rows) ≤ 37 * length rows =
      each_short 37 (λ (row : Row). spaced (map entry_text row)) rows (each_from_places (λ (row : Row). length (spaced (map entry_text row)) ≤ 37) [] rows row_short) in
      let head : length (codes "tri " ++ decimal (length rows)) ≡ length (codes "tri ") + length (decimal (length rows)) = length-append (codes "tri ") (decimal (length rows)) in
      let word : length (codes "tri ") ≡ 4 = refl in
      let both : length (table_text rows) ≡ length (codes "tri " ++ decimal (length rows)) + suc (length (flat_map (λ (row : Row). spaced (map entry_text row)) rows)) =
      length-append (codes "tri " ++ decimal (length rows)) (10 ∷ flat_map (λ (row : Row). spaced (map entry_text row)) rows) in
      omega arith

-- the words of a core
word_test : List ℕ → Bool
word_test core = nat_lt (length (core_words (length core) core).0) 9
    && (list_all (λ w. nat_lt (length w) 9) (core_words (length core) core).1 && nat_lt (length (core_words (length core) core).1) 2)

word_tests : list_all word_test cores ≡ true
unfolding word_test
word_tests = refl

tested_short : (ws : List (List ℕ)) → list_all (λ w. nat_lt (length w) 9) ws ≡ true → AllByRecursion IsShort ws
tested_short [] t = tt
tested_short (w ∷ ws) t =
    let p = and_parts (nat_lt (length w) 9) (list_all (λ w. nat_lt (length w) 9) ws) t in
    let l : length w < 9 = ltb-true (length w) 9 p.0 in
    (omega arith, tested_short ws p.1)

move_short : (m : Move) → m.tet < 10 ^ 3 → IsCore m.core → length (move_text m) ≤ 28
unfolding move_text word_test
move_short m low core =
    let words = core_words (length m.core) m.core in
    let t = and_parts (nat_lt (length (core_words (length m.core) m.core).0) 9) (list_all (λ w. nat_lt (length w) 9) (core_words (length m.core) m.core).1 && nat_lt (length (core_words (length m.core) m.core).1) 2) (on_cores word_test word_tests m.core core) in
    let u = and_parts (list_all (λ w. nat_lt (length w) 9) (core_words (length m.core) m.core).1) (nat_lt (length (core_words (length m.core) m.core).1) 2) t.1 in
    let kind : length (core_words (length m.core) m.core).0 < 9 = ltb-true (length (core_words (length m.core) m.core).0) 9 t.0 in
    let limited : length (core_words (length m.core) m.core).1 < 2 = ltb-true (length (core_words (length m.core) m.core).1) 2 u.1 in
    let tet : length (decimal m.tet) ≤ 3 = three_digits m.tet low in
    let s : length (spaced ((core_words (length m.core) m.core).0 ∷ decimal m.tet ∷ (core_words (length m.core) m.core).1)) ≤ 1 + 9 * length ((core_words (length m.core) m.core).0 ∷ decimal m.tet ∷ (core_words (length m.core) m.core).1) =
    spaced_short (words.0 ∷ decimal m.tet ∷ words.1) ((let k : length (core_words (length m.core) m.core).0 ≤ 8 = omega arith in k), ((let k : length (decimal m.tet) ≤ 8 = omega arith in k), tested_short words.1 u.0)) in
    omega arith

played_short : (rows : List Row) (moves : List Move) (last : List Row) → PlaysAll rows moves last → AllByRecursion (λ m. length (move_text m) ≤ 28) moves
played_short rows [] last led = tt
played_short rows (m ∷ ms) last (next, plays, rest) =
    let fine : HasNoFault rows m = no_fault rows m plays.moved.legal in
    let low : m.tet < length rows = fine.in_range in
    let limited : length rows ≤ max_tets = plays.table.limited in
    (move_short m (omega arith) plays.moved.core, played_short next ms last rest)

pub written_moves_short : WrittenMovesAreShort
unfolding moves_text
written_moves_short rows moves last table led =
    let head : length (table_text rows) ≤ 9 + 37 * length rows = table_short rows table in
    let tail : length (flat_map move_text moves) ≤ 28 * length moves = each_short 28 move_text moves (played_short rows moves last led) in
    let both : length (table_then_moves rows moves) ≡ length (table_text rows) + length (moves_text moves) = length-append (table_text rows) (moves_text moves) in
    omega arith
