-- A block of a sum is read if and only if it is in the grammar.
use Rattle.std.proofs.Common.{◌≡◌, ℕ, zero, suc, List, [], ◌∷◌, ◌++◌, length, Ok, refl, sym, ap, ◌∙◌, subst}
use Rattle.std.specs.Prelude.{codes}
use Rattle.std.specs.List.{AllZip}
use Rattle.text_definitions.specs.Text.{Line}
use Rattle.text_definitions.specs.Written.{limit}
use Rattle.text_definitions.specs.Reading.{Reading, numbers_at}
use Rattle.table_definitions.specs.Grammar.{AreWords, IsDecimalUpTo}
use Rattle.surface_definitions.specs.Grammar.{IsVectorLine}
use Rattle.cone_text_definitions.specs.VectorText.{vector_at}
use Rattle.sum_definitions.specs.Sums.{Term}
use Rattle.text_document_definitions.specs.Blocks.{Block, most_terms, term_at, terms_at, times_at, block_at, IsTermLine, IsTimesLine, AreBlockLines}
use Rattle.text_document_laws.proofs.Chains.{made}
use Rattle.text_document_laws.proofs.Links.{AreLines, below_none, below_more, OnLine, Below, ReadsOn, ReadsBelow, below_as, on_named, on_number, on_numbers, on_end, on_join, on_made, below_line, below_made}

abbrev IsTerm : Below Term
IsTerm term ls rest = (l : Line) × (ls ≡ l ∷ rest) × IsTermLine l term

below_term : ReadsBelow term_at IsTerm
unfolding term_at
below_term =
    below_as term_at _ IsTerm
    (λ term ls rest (l, more, ws, split, a, (others, s, (n, v, ends, t, count, (xs, same, (entries, last))))). (
      l,
      split ∙ ap (λ (ks : List Line). l ∷ ks) last,
      subst (IsTermLine l) same (record { k = v; ws = ends; are_words = subst (AreWords l.tokens) (s ∙ ap (λ (vs : List (List ℕ)). codes "term" ∷ vs) t) a; count = count; entries = entries }),
    ))
    (λ term ls rest (l, split, h). (l, rest, codes "term" ∷ h.k ∷ h.ws, split, h.are_words, (h.k ∷ h.ws, refl, (term.count, h.k, h.ws, refl, h.count, (term.vector, refl, (h.entries, refl))))))
    (below_line _ _ (on_named (codes "term") _ _ (on_number limit _ _ (λ n. on_made (λ xs. record { count = n; vector = xs }) (numbers_at limit) _ on_numbers))))

-- n lines of terms
abbrev AreTerms : ℕ → Below (List Term)
AreTerms n terms ls rest = AreLines IsTermLine n terms ls rest

below_terms : (n : ℕ) → ReadsBelow (terms_at n) (AreTerms n)
unfolding terms_at
below_terms zero = below_none IsTermLine
below_terms (suc n) = below_more IsTermLine n term_at (terms_at n) below_term (below_terms n)

-- a line `times S T` and its terms
abbrev AreTimes : Below (ℕ × List Term)
AreTimes y ls rest = (l : Line) × (lines : List Line) × (ls ≡ l ∷ (lines ++ rest)) × IsTimesLine l y.0 (length y.1) × AllZip IsTermLine lines y.1

below_times : ReadsBelow times_at AreTimes
unfolding times_at
below_times =
    below_as times_at _ AreTimes
    (λ y ls rest (l, more, ws, split, a, (o1, p1, (s, v, o2, p2, number, (n, u, o3, p3, counted, (none, (terms, same, (lines, t, z, many))))))).
    (let are : AreWords l.tokens (codes "times" ∷ v ∷ u ∷ []) =
    subst (AreWords l.tokens) (p1 ∙ ap (λ (vs : List (List ℕ)). codes "times" ∷ vs) (p2 ∙ ap (λ (vs : List (List ℕ)). v ∷ vs) (p3 ∙ ap (λ (vs : List (List ℕ)). u ∷ vs) none))) a in
    let line : IsTimesLine l s (length terms) = record { s = v; t = u; are_words = are; number = number; counted = subst (IsDecimalUpTo most_terms u) (sym many) counted } in
    subst (λ (q : ℕ × List Term). AreTimes q ls rest) same (l, lines, split ∙ ap (λ (ks : List Line). l ∷ ks) t, line, z)))
    (λ y ls rest (l, lines, split, h, z). (
      l,
      lines ++ rest,
      codes "times" ∷ h.s ∷ h.t ∷ [],
      split,
      h.are_words,
      (h.s ∷ h.t ∷ [], refl, (y.0, h.s, h.t ∷ [], refl, h.number, (length y.1, h.t, [], refl, h.counted, (refl, (y.1, refl, (lines, refl, z, refl)))))),
    ))
    (below_line _ _ (on_named (codes "times") _ _ (on_number limit _ _ (λ s. on_number most_terms _ _ (λ n. on_end (made (λ ts. (s, ts)) (terms_at n)) _ (below_made (λ ts. (s, ts)) (terms_at n) (AreTerms n) (below_terms n)))))))

-- a block, its first line the current one
pub record BlockRead (c : Reading) (block : Block) (d : Reading) : Type 0 where
  pub lines : List Line
  pub split : c.later ≡ lines ++ d.later
  pub is_block : AreBlockLines (c.current ∷ lines) block

pub record BlockFound (c : Reading) (block : Block) (rest : List Line) : Type 0 where
  pub left : Reading
  pub read : block_at c ≡ Ok (block, left)
  pub later : left.later ≡ rest

abbrev IsVector : OnLine (List ℕ)
IsVector xs ws ls rest = (others : List (List ℕ)) × (ws ≡ codes "vec" ∷ others) × (AllZip (IsDecimalUpTo limit) others xs × (ls ≡ rest))

on_vector : ReadsOn vector_at IsVector
unfolding vector_at
on_vector = on_named (codes "vec") (numbers_at limit) _ on_numbers

abbrev put : List ℕ → ℕ × List Term → Block
put v s = record { vector = v; times = s.0; terms = s.1 }

abbrev IsBlock : OnLine Block
IsBlock block ws ls rest = (xs : List ℕ) × (y : ℕ × List Term) × (middle : List Line) × (put xs y ≡ block) × IsVector xs ws ls middle × AreTimes y middle rest

on_block : ReadsOn block_at IsBlock
unfolding block_at
on_block = on_join put vector_at times_at IsVector AreTimes on_vector below_times

pub block_read : (c : Reading) (block : Block) (d : Reading) → block_at c ≡ Ok (block, d) → BlockRead c block d
block_read c block d e = by_words (on_block.sound c block d e)
  where
    by_words : ((ws : List (List ℕ)) × AreWords c.current.tokens ws × IsBlock block ws c.later d.later) → BlockRead c block d
    by_words (ws, a, (xs, y, middle, same, (others, s, (entries, last)), (l, lines, split, h, z))) =
        subst (λ (b : Block). BlockRead c b d) same
        (record { lines = l ∷ lines; split = last ∙ split; is_block = (record { ws = others; are_words = subst (AreWords c.current.tokens) s a; entries = entries }, h, z) })

pub block_found : (c : Reading) (lines rest : List Line) (block : Block) → c.later ≡ lines ++ rest → AreBlockLines (c.current ∷ lines) block → BlockFound c block rest
block_found c [] rest block split h = absurd h
block_found c (l ∷ lines) rest block split h =
    let v : IsVectorLine c.current block.vector = h.0 in
    let f = on_block.complete c block (codes "vec" ∷ v.ws) rest v.are_words (block.vector, (block.times, block.terms), c.later, refl, (v.ws, refl, (v.entries, refl)), (l, lines, split, h.1, h.2)) in
    record { left = f.0; read = f.1; later = f.2 }
