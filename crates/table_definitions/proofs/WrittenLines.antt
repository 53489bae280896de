-- The lines of bytes that begin with a written line, or with a comment.
use Rattle.std.proofs.Common.{◌≡◌, ℕ, ◌+◌, true, false, List, [], ◌∷◌, ◌++◌, length, refl, ap, ◌∙◌, arith, append_assoc}
use Rattle.std.specs.Prelude.{not, if◌then◌else◌}
use Rattle.std.specs.List.{AllZip, AllByRecursion, list_all, flat_map}
use Rattle.std.proofs.lemmas.List.Splits.{slice_split_at}
use Rattle.std.proofs.lemmas.List.Elements.{All-from_recursion}
use Rattle.std.proofs.lemmas.Bool.{cond-true, cond-false, and_parts, not-true}
use Rattle.text_definitions.specs.Text.{Line, is_line_feed, is_skipped, without_cr, pieces, line_of, lines_from}
use Rattle.text_definitions.specs.Written.{spaced}
use Rattle.table_definitions.specs.Grammar.{AreWords}
use Rattle.text_definitions.proofs.Decimals.{has_no_feed}
use Rattle.table_definitions.proofs.WrittenWords.{IsText, behind_spaces, spaced-joined, joined_words, is_inner, inner_words, inner_byte, inner_kept, skipped_by_word}

no_feeds : (bytes : List ℕ) → has_no_feed bytes ≡ true → AllByRecursion (λ b. is_line_feed b ≡ false) bytes
no_feeds [] h = tt
no_feeds (b ∷ bs) h =
    let parts : (not (is_line_feed b) ≡ true) × (has_no_feed bs ≡ true) = and_parts (not (is_line_feed b)) (has_no_feed bs) h in
    (not-true (is_line_feed b) parts.0, no_feeds bs parts.1)

-- the bytes before a line feed are the first piece
pub first_piece : (bytes rest : List ℕ) → AllByRecursion (λ b. is_line_feed b ≡ false) bytes → pieces (bytes ++ 10 ∷ rest) ≡ bytes ∷ pieces rest
first_piece bytes rest h = slice_split_at is_line_feed bytes 10 rest (All-from_recursion (λ b. is_line_feed b ≡ false) bytes h) refl

inner_feeds : (bytes : List ℕ) → list_all is_inner bytes ≡ true → AllByRecursion (λ b. is_line_feed b ≡ false) bytes
inner_feeds [] h = tt
inner_feeds (b ∷ bs) h =
    let parts : (is_inner b ≡ true) × (list_all is_inner bs ≡ true) = and_parts (is_inner b) (list_all is_inner bs) h in
    ((inner_byte b parts.0).0, inner_feeds bs parts.1)

-- words with a space between each two, the first one no comment, are one line, and the numbers of the following lines
-- continue
pub written_line : (n : ℕ) (w : List ℕ) (ws : List (List ℕ)) (rest : List ℕ) → IsText w → AllByRecursion IsText ws → is_skipped w ≡ false
    → lines_from n (pieces (spaced (w ∷ ws) ++ rest)) ≡ line_of n (w ++ behind_spaces ws) ∷ lines_from (n + 1) (pieces rest)
unfolding lines_from
written_line n w ws rest t ts kept =
    let xs : List ℕ = w ++ behind_spaces ws in
    let inner : list_all is_inner xs ≡ true = inner_words w ws t ts in
    let others : List Line = lines_from (n + 1) (pieces rest) in
    ap (λ (bytes : List ℕ). lines_from n (pieces (bytes ++ rest))) (spaced-joined w ws)
    ∙ ap (λ (bytes : List ℕ). lines_from n (pieces bytes)) (append_assoc xs (10 ∷ []) rest)
    ∙ ap (λ (ps : List (List ℕ)). lines_from n ps) (first_piece xs rest (inner_feeds xs inner))
    ∙ ap (λ (ys : List ℕ). if is_skipped ys then others else line_of n ys ∷ others) (inner_kept xs inner)
    ∙ cond-false (is_skipped xs) others (line_of n xs ∷ others) (skipped_by_word w (behind_spaces ws) t ∙ kept)

-- the words of such a line
pub line_words : (n : ℕ) (w : List ℕ) (ws : List (List ℕ)) → IsText w → AllByRecursion IsText ws → AreWords (line_of n (w ++ behind_spaces ws)).tokens (w ∷ ws)
line_words n w ws t ts = joined_words 1 w ws t ts

comment_skipped : (bytes : List ℕ) → is_skipped (without_cr (35 ∷ bytes)) ≡ true
comment_skipped [] = refl
comment_skipped (b ∷ bs) = refl

-- a comment is skipped, and the numbers of the following lines continue
pub comment_line : (n : ℕ) (comment rest : List ℕ) → has_no_feed comment ≡ true → lines_from n (pieces ((35 ∷ comment) ++ 10 ∷ rest)) ≡ lines_from (n + 1) (pieces rest)
unfolding lines_from
comment_line n comment rest h =
    let others : List Line = lines_from (n + 1) (pieces rest) in
    ap (λ (ps : List (List ℕ)). lines_from n ps) (first_piece (35 ∷ comment) rest (refl, no_feeds comment h))
    ∙ cond-true (is_skipped (without_cr (35 ∷ comment))) others (line_of n (without_cr (35 ∷ comment)) ∷ others) (comment_skipped comment)

-- lines that a text begins with, each with its value; the numbers of the following lines continue
pub record BeginsWith {A : Type 0} (form : Line → A → Type 0) (n : ℕ) (bytes : List ℕ) (values : List A) (rest : List ℕ) : Type 0 where
  pub lines : List Line
  pub split : lines_from n (pieces bytes) ≡ lines ++ lines_from (n + length values) (pieces rest)
  pub are : AllZip form lines values

-- one line for each value
module _ {A : Type 0} (form : Line → A → Type 0) (text : A → List ℕ) (fits : A → Type 0)
    (one : (n : ℕ) (x : A) (rest : List ℕ) → fits x → (line : Line) × (lines_from n (pieces (text x ++ rest)) ≡ line ∷ lines_from (n + 1) (pieces rest)) × form line x) where
  pub each_line : (n : ℕ) (xs : List A) (rest : List ℕ) → AllByRecursion fits xs → BeginsWith form n (flat_map text xs ++ rest) xs rest
  each_line n [] rest h = record { lines = []; split = ap (λ k. lines_from k (pieces rest)) (omega arith); are = tt }
  each_line n (x ∷ xs) rest h =
      let first : (line : Line) × (lines_from n (pieces (text x ++ (flat_map text xs ++ rest))) ≡ line ∷ lines_from (n + 1) (pieces (flat_map text xs ++ rest))) × form line x =
      one n x (flat_map text xs ++ rest) h.0 in
      let more : BeginsWith form (n + 1) (flat_map text xs ++ rest) xs rest = each_line (n + 1) xs rest h.1 in
      let same : n + 1 + length xs ≡ n + length (x ∷ xs) = omega arith in
      record {
        lines = first.0 ∷ more.lines;
        split = ap (λ (bytes : List ℕ). lines_from n (pieces bytes)) (append_assoc (text x) (flat_map text xs) rest)
            ∙ first.1
            ∙ ap (λ (ls : List Line). first.0 ∷ ls) (more.split ∙ ap (λ k. more.lines ++ lines_from k (pieces rest)) same);
        are = (first.2, more.are);
      }
