-- A vector line that is read is in the grammar, and one that is in the grammar is read.
use Rattle.std.proofs.Common.{◌≡◌, ℕ, List, [], ◌∷◌, Result, Ok, refl, sym, ap, ◌∙◌, subst}
use Rattle.std.specs.Prelude.{codes}
use Rattle.std.specs.List.{AllZip}
use Rattle.text_definitions.specs.Text.{Token, word, stray}
use Rattle.text_definitions.specs.declared.LexFault.{LexFault}
use Rattle.text_definitions.specs.Reading.{Reading, ◌>>=◌, exactly_at, numbers_at}
use Rattle.text_definitions.specs.Written.{limit}
use Rattle.text_definitions.proofs.Readers.{bind_ok}
use Rattle.cone_text_definitions.specs.VectorText.{vector_at}
use Rattle.table_definitions.specs.Grammar.{AreWords, IsDecimalUpTo}
use Rattle.surface_definitions.specs.Grammar.{IsVectorLine}
use Rattle.surface_definitions.specs.Laws.{ReadsVector}
use Rattle.table_definitions.proofs.ReadingLaws.{with_tokens, behind, TakesWord, TakesNumbers, numbers_read, exactly_read, FindsNumbers, numbers_found, exactly_found}

-- a vector line that was read
pub record VectorRead (c : Reading) (xs : List ℕ) (d : Reading) : Type 0 where
  pub line : IsVectorLine c.current xs
  pub later : d.later ≡ c.later
  pub at_end : d.current.tokens ≡ []

pub vector_read : (c : Reading) (xs : List ℕ) (d : Reading) → vector_at c ≡ Ok (xs, d) → VectorRead c xs d
unfolding vector_at
vector_read c xs d e =
    let first : (x : Reading) × (exactly_at (codes "vec") c ≡ Ok x) × (numbers_at limit x ≡ Ok (xs, d)) =
    bind_ok (exactly_at (codes "vec") c) (λ (x : Reading). numbers_at limit x) (xs, d) e in
    let w : TakesWord c.current.tokens c (codes "vec") first.0 = exactly_read (codes "vec") c.current.tokens c first.0 first.1 in
    let entries : TakesNumbers limit w.rest (behind w.column c) xs d =
    numbers_read limit w.rest (behind w.column c) xs d (subst (λ (r : Reading). numbers_at limit r ≡ Ok (xs, d)) w.left first.2) in
    let all : AreWords (word w.column (codes "vec") ∷ w.rest) (codes "vec" ∷ entries.ws) = (refl, entries.are_words) in
    record {
      line = record {
        ws = entries.ws;
        are_words = subst (λ (ts : List Token). AreWords ts (codes "vec" ∷ entries.ws)) (sym w.tokens) all;
        entries = entries.numbers;
      };
      later = entries.later;
      at_end = entries.at_end;
    }

vector_with : (ts : List Token) (ws : List (List ℕ)) (xs : List ℕ) (c : Reading) → AreWords ts (codes "vec" ∷ ws) → AllZip (IsDecimalUpTo limit) ws xs → ReadsVector (with_tokens ts c) xs
unfolding vector_at
vector_with [] ws xs c a z = absurd a
vector_with (stray column ∷ ts) ws xs c a z = absurd a.0
vector_with (word column v ∷ ts) ws xs c a z =
    let more : FindsNumbers limit ts (behind column c) xs = numbers_found limit ts ws xs (behind column c) a.1 z in
    record {
      left = more.left;
      read = ap (λ (r : Result Reading LexFault). r >>= λ (x : Reading). numbers_at limit x) (exactly_found column v (codes "vec") ts c a.0) ∙ more.read;
      later = more.later;
      at_end = more.at_end;
    }

-- a vector line is read, and it is used up
pub vector_found : (c : Reading) (xs : List ℕ) → IsVectorLine c.current xs → ReadsVector c xs
vector_found c xs line = vector_with c.current.tokens line.ws xs c line.are_words line.entries
