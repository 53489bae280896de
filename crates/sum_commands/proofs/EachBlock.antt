-- Reading blocks to the end of the input, block by block.
use Rattle.std.proofs.Common.{◌≡◌, ◌+◌, ◌≤◌, List, [], ◌∷◌, ◌++◌, Result, Ok, Err, length, refl, sym, ap, ◌∙◌, arith, append_assoc, append-nil}
use Rattle.std.proofs.lemmas.List.{length-append}
use Rattle.text_definitions.specs.Text.{Line}
use Rattle.text_definitions.specs.declared.LexFault.{LexFault}
use Rattle.text_definitions.specs.Reading.{Reading, ◌>>=◌, begun, need_line_at, Fails}
use Rattle.table_definitions.specs.declared.TextFault.{TextFault}
use Rattle.table_definitions.specs.declared.TextFault.TheVariants.{NoMemory, Lex}
use Rattle.table_definitions.specs.TableText.{lexed}
use Rattle.table_definitions.proofs.LineLaws.{BeginsLine, line_begun}
use Rattle.text_document_definitions.specs.Blocks.{Block, block_at, blocks_on, blocks_from}
use Rattle.text_document_laws.proofs.BlockReading.{BlockRead, block_read}
use Rattle.text_document_laws.proofs.SumDocuments.{any_most}
use Rattle.text_document_definitions.proofs.EachLine.{with_fronts, fault_lexed}

abbrev One : Type 0
One = Result (Block × Reading) LexFault

abbrev Many : Type 0
Many = Result (List Block × Reading) LexFault

-- a block before the others
abbrev first_and : Block → Many → Many
first_and block read = read >>= λ (others : List Block × Reading). Ok (block ∷ others.0, others.1)

fronts_first : (front : List Block) (block : Block) (r : Many) → with_fronts (front ++ block ∷ []) r ≡ with_fronts front (first_and block r)
fronts_first front block (Ok y) = ap (λ (bs : List Block). Ok (bs, y.1)) (append_assoc front (block ∷ []) y.0)
fronts_first front block (Err e) = refl

-- a block, followed by those that this reader finds
abbrev block_then : (Reading → Many) → One → Many
block_then more read = read >>= λ (first : Block × Reading). first_and first.0 (more first.1)

-- after a block at most as many lines are left as before it
no_more : (c : Reading) (x : Block × Reading) → block_at c ≡ Ok x → length x.1.later ≤ length c.later
no_more c x e =
    let r : BlockRead c x.0 x.1 = block_read c x.0 x.1 e in
    omega (arith, ap (λ (ls : List Line). length ls) r.split, length-append r.lines x.1.later)

fewer_left : (l : Line) (ls most : List Line) (c : Reading) (x : Block × Reading) → block_at (begun l ls c) ≡ Ok x → length (l ∷ ls) ≤ length most + 1 → length x.1.later ≤ length most
fewer_left l ls most c x e h = let f = no_more (begun l ls c) x e in omega arith

-- the block of the first line that is left, followed by those of the other lines
first_line : (c : Reading) (l : Line) (ls : List Line) → c.later ≡ l ∷ ls → blocks_from c.later c ≡ block_then (λ d. blocks_from ls d) (block_at (begun l ls c))
unfolding blocks_from
first_line c l ls same = ap (λ (us : List Line). blocks_from us c) same ∙ ap (λ (us : List Line). blocks_on us c (λ d. blocks_from ls d)) same

pub block_taken : (front : List Block) (c d : Reading) (x : Block × Reading) → need_line_at c ≡ Ok d → block_at d ≡ Ok x
    → with_fronts (front ++ x.0 ∷ []) (blocks_from x.1.later x.1) ≡ with_fronts front (blocks_from c.later c)
block_taken front c d x e f =
    let n : BeginsLine c d = line_begun c d e in
    let read : block_at (begun n.line n.rest c) ≡ Ok x = rw (sym n.left) f in
    let fewer = fewer_left n.line n.rest n.rest c x read (omega arith) in
    fronts_first front x.0 (blocks_from x.1.later x.1)
    ∙ ap (λ (r : Many). with_fronts front (first_and x.0 r)) (any_most x.1.later n.rest x.1 (omega arith) fewer)
    ∙ ap (λ (r : One). with_fronts front (block_then (λ d. blocks_from n.rest d) r)) (sym read)
    ∙ ap (with_fronts front) (sym (first_line c n.line n.rest n.lines))

pub blocks_fewer : (c d : Reading) (x : Block × Reading) → need_line_at c ≡ Ok d → block_at d ≡ Ok x → length x.1.later + 1 ≤ length c.later
blocks_fewer c d x e f =
    let n : BeginsLine c d = line_begun c d e in
    let less = no_more d x f in
    let there : n.rest ≡ d.later = ap (λ (r : Reading). r.later) (sym n.left) in
    omega (arith, ap length there, ap length n.lines)

block_faulty : (front : List Block) (c d : Reading) (fault : LexFault) → need_line_at c ≡ Ok d → block_at d ≡ Err fault → with_fronts front (blocks_from c.later c) ≡ Err fault
block_faulty front c d fault e f =
    let n : BeginsLine c d = line_begun c d e in
    let read : block_at (begun n.line n.rest c) ≡ Err fault = rw (sym n.left) f in
    ap (with_fronts front) (first_line c n.line n.rest n.lines) ∙ ap (λ (r : One). with_fronts front (block_then (λ d. blocks_from n.rest d) r)) read

pub blocks_ended : (front : List Block) (c : Reading) → c.later ≡ [] → with_fronts front (blocks_from c.later c) ≡ Ok (front, c)
unfolding blocks_from
blocks_ended front c same = ap (λ (us : List Line). with_fronts front (blocks_from us c)) same ∙ ap (λ (bs : List Block). Ok (bs, c)) (append-nil front)

-- an error of a block is an error of all blocks
pub block_fails : (front : List Block) (c d : Reading) (fault : TextFault) (whole : Many) → need_line_at c ≡ Ok d → Fails NoMemory fault (lexed (block_at d))
    → with_fronts front (blocks_from c.later c) ≡ whole → Fails NoMemory fault (lexed whole)
block_fails front c d fault whole e fails same = λ other. moved (block_at d) refl (fails other)
  where
    moved : (read : One) → block_at d ≡ read → lexed read ≡ Err fault → lexed whole ≡ Err fault
    moved (Ok x) is h = absurd cc
    moved (Err found) is h =
        let wrapped : Lex found ≡ fault = cc in
        fault_lexed whole found (sym same ∙ block_faulty front c d found e is) ∙ ap (λ (f : TextFault). Err f) wrapped
