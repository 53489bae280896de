-- Reading `count` terms, line by line.
use Rattle.std.proofs.Common.{◌≡◌, ℕ, zero, suc, ◌+◌, ◌-◌, ◌<◌, ◌≤◌, List, [], ◌∷◌, ◌++◌, Result, Ok, Err, refl, sym, ap, ◌∙◌, arith, append_assoc, append-nil}
use Rattle.text_definitions.specs.declared.LexFault.{LexFault}
use Rattle.text_definitions.specs.Reading.{Reading, ◌>>=◌, Fails}
use Rattle.table_definitions.specs.declared.TextFault.{TextFault}
use Rattle.table_definitions.specs.declared.TextFault.TheVariants.{NoMemory, Lex}
use Rattle.table_definitions.specs.TableText.{lexed}
use Rattle.sum_definitions.specs.Sums.{Term}
use Rattle.text_document_definitions.specs.Blocks.{term_at, terms_at}
use Rattle.text_document_definitions.proofs.EachLine.{with_fronts, fault_lexed}

abbrev Terms : Type 0
Terms = Result (List Term × Reading) LexFault

-- a term before the others
abbrev first_and : Term → Terms → Terms
first_and term read = read >>= λ (others : List Term × Reading). Ok (term ∷ others.0, others.1)

fronts_first : (front : List Term) (term : Term) (r : Terms) → with_fronts (front ++ term ∷ []) r ≡ with_fronts front (first_and term r)
fronts_first front term (Ok y) = ap (λ (ts : List Term). Ok (ts, y.1)) (append_assoc front (term ∷ []) y.0)
fronts_first front term (Err e) = refl

-- a term, followed by n terms
abbrev term_then : ℕ → Result (Term × Reading) LexFault → Terms
term_then n read = read >>= λ (first : Term × Reading). first_and first.0 (terms_at n first.1)

-- if k of count terms are read, the others begin with one term
one_of_more : (k count : ℕ) (c : Reading) → k < count → terms_at (count - k) c ≡ term_then (count - (k + 1)) (term_at c)
unfolding terms_at
one_of_more k count c h = (let some : count - k ≡ suc (count - (k + 1)) = omega arith in ap (λ (n : ℕ). terms_at n c) some)

pub terms_end : (front : List Term) (k count : ℕ) (c : Reading) → count ≤ k → with_fronts front (terms_at (count - k) c) ≡ Ok (front, c)
unfolding terms_at
terms_end front k count c h =
    let none : count - k ≡ zero = omega arith in
    ap (λ (n : ℕ). with_fronts front (terms_at n c)) none ∙ ap (λ (ts : List Term). Ok (ts, c)) (append-nil front)

pub terms_more : (front : List Term) (k count : ℕ) (c : Reading) (x : Term × Reading) → k < count → term_at c ≡ Ok x
    → with_fronts (front ++ x.0 ∷ []) (terms_at (count - (k + 1)) x.1) ≡ with_fronts front (terms_at (count - k) c)
terms_more front k count c x h e =
    fronts_first front x.0 (terms_at (count - (k + 1)) x.1)
    ∙ ap (λ (r : Result (Term × Reading) LexFault). with_fronts front (term_then (count - (k + 1)) r)) (sym e)
    ∙ ap (with_fronts front) (sym (one_of_more k count c h))

term_faulty : (front : List Term) (k count : ℕ) (c : Reading) (fault : LexFault) → k < count → term_at c ≡ Err fault → with_fronts front (terms_at (count - k) c) ≡ Err fault
term_faulty front k count c fault h e =
    ap (with_fronts front) (one_of_more k count c h) ∙ ap (λ (r : Result (Term × Reading) LexFault). with_fronts front (term_then (count - (k + 1)) r)) e

-- an error of a term is an error of all terms
pub term_fails : (front : List Term) (k count : ℕ) (c : Reading) (fault : TextFault) (whole : Terms) → k < count → Fails NoMemory fault (lexed (term_at c))
    → with_fronts front (terms_at (count - k) c) ≡ whole → Fails NoMemory fault (lexed whole)
term_fails front k count c fault whole h fails same = λ other. moved (term_at c) refl (fails other)
  where
    moved : (read : Result (Term × Reading) LexFault) → term_at c ≡ read → lexed read ≡ Err fault → lexed whole ≡ Err fault
    moved (Ok x) is e = absurd cc
    moved (Err found) is e =
        let wrapped : Lex found ≡ fault = cc in
        fault_lexed whole found (sym same ∙ term_faulty front k count c found h is) ∙ ap (λ (f : TextFault). Err f) wrapped
