-- A table and blocks of sums are read if and only if their lines are those of the table and the blocks.
use Rattle.std.proofs.Common.{◌≡◌, ◌≤◌, ◌+◌, ℕ, List, [], ◌∷◌, ◌++◌, length, Result, Ok, Err, refl, sym, ap, ◌∙◌, subst, arith}
use Rattle.std.specs.Prelude.{◌↔◌}
use Rattle.std.proofs.lemmas.List.{length-append}
use Rattle.text_definitions.specs.Text.{Line, lines_of}
use Rattle.text_definitions.specs.declared.LexFault.{LexFault}
use Rattle.text_definitions.specs.Reading.{Reading, ◌>>=◌, begun, start_of}
use Rattle.text_definitions.proofs.Readers.{bind_ok}
use Rattle.table_definitions.specs.Table.{Row}
use Rattle.signature_definitions.specs.declared.InputFault.{InputFault}
use Rattle.signature_definitions.specs.Grammar.{AreTableLines}
use Rattle.text_document_definitions.specs.Documents.{worded, next_table_at}
use Rattle.text_document_definitions.specs.Blocks.{Block, block_at, blocks_on, blocks_from, blocks_document, AreBlockLines, AreBlocks, AreTableAndBlocks}
use Rattle.table_definitions.proofs.ReadingLaws.{ok_parts}
use Rattle.text_document_laws.proofs.Tables.{worded_ok, worded_with, table_blocks}
use Rattle.text_document_laws.proofs.BlockReading.{BlockRead, block_read, BlockFound, block_found}
use Rattle.text_document_laws.proofs.Given.{Whole, Blocks, Table}
use Rattle.basic_lemmas.proofs.Lists.{no_items}

-- the blocks are those of all remaining lines, if at least that many lines are counted
abbrev AreTo : Reading → List Block → Type 0
AreTo c blocks = AreBlocks c.later blocks

abbrev others_of : List Line → Whole → Result Blocks LexFault
others_of most x = blocks_from most x.1 >>= λ (bs : Blocks). Ok (x.0 ∷ bs.0, bs.1)

fewer : (l : Line) (ls : List Line) (c : Reading) (block : Block) (next : Reading) → BlockRead (begun l ls c) block next → length next.later ≤ length ls
fewer l ls c block next r = (let e : length (r.lines ++ next.later) ≡ length r.lines + length next.later = length-append r.lines next.later in omega (arith, e, ap (λ (ms : List Line). length ms) r.split))

first_joined : (c : Reading) (l : Line) (ls : List Line) (block : Block) (next : Reading) (blocks : List Block) → c.later ≡ l ∷ ls → BlockRead (begun l ls c) block next → AreTo next blocks → AreTo c (block ∷ blocks)
first_joined c l ls block next blocks split r h = (l ∷ r.lines, next.later, split ∙ ap (λ (ms : List Line). l ∷ ms) r.split, r.is_block, h)

read_on : (most ls : List Line) (l : Line) (c : Reading) (blocks : List Block) (d : Reading) → c.later ≡ l ∷ ls
    → ((next : Reading) (bs : List Block) (last : Reading) → length next.later + 1 ≤ length c.later → blocks_from most next ≡ Ok (bs, last) → AreTo next bs)
    → (block_at (begun l ls c) >>= others_of most) ≡ Ok (blocks, d) → AreTo c blocks
read_on most ls l c blocks d split again e =
    let first : (x : Whole) × (block_at (begun l ls c) ≡ Ok x) × (others_of most x ≡ Ok (blocks, d)) = bind_ok (block_at (begun l ls c)) (others_of most) (blocks, d) e in
    let others : (bs : Blocks) × (blocks_from most (first.0).1 ≡ Ok bs) × (◌≡◌ {A = Result Blocks LexFault} (Ok ((first.0).0 ∷ bs.0, bs.1)) (Ok (blocks, d))) =
    bind_ok (blocks_from most (first.0).1) (λ (bs : Blocks). Ok ((first.0).0 ∷ bs.0, bs.1)) (blocks, d) first.2 in
    let parts : ((first.0).0 ∷ (others.0).0 ≡ blocks) × ((others.0).1 ≡ d) = ok_parts ((first.0).0 ∷ (others.0).0, (others.0).1) (blocks, d) others.2 in
    let r : BlockRead (begun l ls c) (first.0).0 (first.0).1 = block_read (begun l ls c) (first.0).0 (first.0).1 first.1 in
    let less : length (first.0).1.later ≤ length ls = fewer l ls c (first.0).0 (first.0).1 r in
    let same : length c.later ≡ length (l ∷ ls) = ap (λ (ms : List Line). length ms) split in
    subst (λ (bs : List Block). AreTo c bs) parts.0
    (first_joined c l ls (first.0).0 (first.0).1 (others.0).0 split r (again (first.0).1 (others.0).0 (others.0).1 (omega (arith, less, same)) others.1))

none_read : (c : Reading) (blocks : List Block) (d : Reading) → c.later ≡ [] → ◌≡◌ {A = Result Blocks LexFault} (Ok ([], c)) (Ok (blocks, d)) → AreTo c blocks
none_read c blocks d none e = let parts : ([] ≡ blocks) × (c ≡ d) = ok_parts {A = List Block} ([], c) (blocks, d) e in subst (λ (bs : List Block). AreTo c bs) parts.0 none

blocks_from_read : (most : List Line) (c : Reading) (blocks : List Block) (d : Reading) → length c.later ≤ length most → blocks_from most c ≡ Ok (blocks, d) → AreTo c blocks
unfolding blocks_from
blocks_from_read [] c blocks d limited e = none_read c blocks d (no_items c.later limited) e
blocks_from_read (m ∷ most) c blocks d limited e = by_lines c.later refl (λ next bs last less f. blocks_from_read most next bs last (omega arith) f) e
  where
    by_lines : (ls : List Line) → c.later ≡ ls → ((next : Reading) (bs : List Block) (last : Reading) → length next.later + 1 ≤ length c.later → blocks_from most next ≡ Ok (bs, last) → AreTo next bs)
        → blocks_on ls c (λ x. blocks_from most x) ≡ Ok (blocks, d) → AreTo c blocks
    by_lines [] split again e = none_read c blocks d split e
    by_lines (l ∷ ls) split again e = read_on most ls l c blocks d split again e

-- blocks to the end of the input are read
abbrev AreBlocksRead : List Line → Reading → List Block → Type 0
AreBlocksRead most c blocks = (d : Reading) × (blocks_from most c ≡ Ok (blocks, d))

found_none : (most : List Line) (c : Reading) → c.later ≡ [] → AreBlocksRead most c []
unfolding blocks_from
found_none [] c none = (c, refl)
found_none (m ∷ most) c none = (c, ap (λ (ls : List Line). blocks_on ls c (λ x. blocks_from most x)) none)

found_on : (m : Line) (most ls : List Line) (l : Line) (c next : Reading) (block : Block) (bs : List Block) → c.later ≡ l ∷ ls → block_at (begun l ls c) ≡ Ok (block, next) → AreBlocksRead most next bs → AreBlocksRead (m ∷ most) c (block ∷ bs)
unfolding blocks_from
found_on m most ls l c next block bs split e more = (
  more.0,
  ap (λ (ms : List Line). blocks_on ms c (λ x. blocks_from most x)) split
      ∙ ap (λ (r : Result Whole LexFault). r >>= others_of most) e
      ∙ ap (λ (r : Result Blocks LexFault). r >>= λ (us : Blocks). Ok (block ∷ us.0, us.1)) more.1,
)

-- a block has a line
begins : (front : List Line) (block : Block) → AreBlockLines front block → (l : Line) × (ls : List Line) × (front ≡ l ∷ ls)
begins [] block h = absurd h
begins (l ∷ ls) block h = (l, ls, refl)

blocks_from_found : (most : List Line) (c : Reading) (blocks : List Block) → length c.later ≤ length most → AreTo c blocks → AreBlocksRead most c blocks
blocks_from_found most c [] limited h = found_none most c h
blocks_from_found [] c (block ∷ bs) limited h =
    let b : (l : Line) × (ls : List Line) × (h.0 ≡ l ∷ ls) = begins h.0 block h.3 in
    let same : c.later ≡ b.0 ∷ (b.1 ++ h.1) = h.2 ∙ ap (λ (ls : List Line). ls ++ h.1) b.2 in
    let count : length c.later ≡ length (b.0 ∷ (b.1 ++ h.1)) = ap (λ (ls : List Line). length ls) same in
    absurd (omega (arith, count))
blocks_from_found (m ∷ most) c (block ∷ bs) limited h =
    let b : (l : Line) × (ls : List Line) × (h.0 ≡ l ∷ ls) = begins h.0 block h.3 in
    let same : c.later ≡ b.0 ∷ (b.1 ++ h.1) = h.2 ∙ ap (λ (ls : List Line). ls ++ h.1) b.2 in
    let f : BlockFound (begun b.0 (b.1 ++ h.1) c) block h.1 = block_found (begun b.0 (b.1 ++ h.1) c) b.1 h.1 block refl (subst (λ (ls : List Line). AreBlockLines ls block) b.2 h.3) in
    let count : length c.later ≡ length (b.0 ∷ (b.1 ++ h.1)) = ap (λ (ls : List Line). length ls) same in
    let sum : length (b.1 ++ h.1) ≡ length b.1 + length h.1 = length-append b.1 h.1 in
    let left : length f.left.later ≡ length h.1 = ap (λ (ls : List Line). length ls) f.later in
    found_on m most (b.1 ++ h.1) b.0 c f.left block bs same f.read (blocks_from_found most f.left bs (omega (arith, count, sum, left, limited)) (subst (λ (ls : List Line). AreBlocks ls bs) (sym f.later) h.4))

-- a table and blocks
abbrev pub after_table : Table → Result (List Row × List Block) InputFault
after_table t = worded (blocks_from t.1.later t.1) >>= λ (bs : Blocks). Ok (t.0, bs.0)

abbrev pub blocks_document_at : Reading → Result (List Row × List Block) InputFault
blocks_document_at c = next_table_at c >>= after_table

pub blocks_document_found : (c : Reading) (rows : List Row) (blocks : List Block) → AreTableAndBlocks c.later rows blocks → blocks_document_at c ≡ Ok (rows, blocks)
blocks_document_found c rows blocks h =
    let table : (d : Reading) × (next_table_at c ≡ Ok (rows, d)) × (d.later ≡ h.1) = table_blocks.complete c rows h.0 h.1 h.2 h.3 in
    let found : AreBlocksRead table.0.later table.0 blocks = blocks_from_found table.0.later table.0 blocks (omega arith) (subst (λ (ls : List Line). AreBlocks ls blocks) (sym table.2) h.4) in
    ap (λ (r : Result Table InputFault). r >>= after_table) table.1
    ∙ ap (λ (r : Result Blocks InputFault). r >>= λ (bs : Blocks). Ok (rows, bs.0)) (worded_with (blocks_from table.0.later table.0) (blocks, found.0) found.1)

document_read : (bytes : List ℕ) (rows : List Row) (blocks : List Block) → blocks_document bytes ≡ Ok (rows, blocks) → AreTableAndBlocks (lines_of bytes) rows blocks
unfolding blocks_document
document_read bytes rows blocks e =
    let first : (t : Table) × (next_table_at (start_of bytes) ≡ Ok t) × (after_table t ≡ Ok (rows, blocks)) = bind_ok (next_table_at (start_of bytes)) after_table (rows, blocks) e in
    let second : (bs : Blocks) × (worded (blocks_from (first.0).1.later (first.0).1) ≡ Ok bs) × (◌≡◌ {A = Result (List Row × List Block) InputFault} (Ok ((first.0).0, bs.0)) (Ok (rows, blocks))) =
    bind_ok (worded (blocks_from (first.0).1.later (first.0).1)) (λ (bs : Blocks). Ok ((first.0).0, bs.0)) (rows, blocks) first.2 in
    let parts : ((first.0).0 ≡ rows) × ((second.0).0 ≡ blocks) = ok_parts ((first.0).0, (second.0).0) (rows, blocks) second.2 in
    let table : (lines : List Line) × (lines_of bytes ≡ lines ++ (first.0).1.later) × AreTableLines lines (first.0).0 = table_blocks.sound (start_of bytes) (first.0).0 (first.0).1 first.1 in
    let others : AreBlocks (first.0).1.later (second.0).0 =
    blocks_from_read (first.0).1.later (first.0).1 (second.0).0 (second.0).1 (omega arith) (worded_ok (blocks_from (first.0).1.later (first.0).1) second.0 second.1) in
    (table.0, (first.0).1.later, table.1, subst (λ (q : List Row). AreTableLines table.0 q) parts.0 table.2, subst (λ (bs : List Block). AreBlocks (first.0).1.later bs) parts.1 others)

pub blocks_document_read : (bytes : List ℕ) (rows : List Row) (blocks : List Block) → (blocks_document bytes ≡ Ok (rows, blocks)) ↔ AreTableAndBlocks (lines_of bytes) rows blocks
unfolding blocks_document
blocks_document_read bytes rows blocks = (document_read bytes rows blocks, λ h. blocks_document_found (start_of bytes) rows blocks h)

-- the result does not depend on the number of blocks that are counted, if it is at least the number of lines
abbrev first_and : Block → Result Blocks LexFault → Result Blocks LexFault
first_and block read = read >>= λ (bs : Blocks). Ok (block ∷ bs.0, bs.1)

abbrev block_then : (Reading → Result Blocks LexFault) → Result Whole LexFault → Result Blocks LexFault
block_then more read = read >>= λ (x : Whole). first_and x.0 (more x.1)

same_then : (more other : Reading → Result Blocks LexFault) (read : Result Whole LexFault) → ((x : Whole) → read ≡ Ok x → more x.1 ≡ other x.1) → block_then more read ≡ block_then other read
same_then more other (Ok x) h = ap (first_and x.0) (h x refl)
same_then more other (Err e) h = refl

fewer_left : (l : Line) (ls most : List Line) (c : Reading) (x : Whole) → block_at (begun l ls c) ≡ Ok x → length (l ∷ ls) ≤ length most + 1 → length x.1.later ≤ length most
fewer_left l ls most c x e h = let f = fewer l ls c x.0 x.1 (block_read (begun l ls c) x.0 x.1 e) in omega arith

pub any_most : (most many : List Line) (c : Reading) → length c.later ≤ length most → length c.later ≤ length many → blocks_from most c ≡ blocks_from many c
unfolding blocks_from
any_most [] [] c h k = refl
any_most [] (m ∷ many) c h k = from_none c.later refl
  where
    from_none : (ls : List Line) → c.later ≡ ls → Ok ([], c) ≡ blocks_on ls c (λ d. blocks_from many d)
    from_none [] same = refl
    from_none (l ∷ ls) same = absurd (omega (arith, ap length same))
any_most (m ∷ most) [] c h k = from_none c.later refl
  where
    from_none : (ls : List Line) → c.later ≡ ls → blocks_on ls c (λ d. blocks_from most d) ≡ Ok ([], c)
    from_none [] same = refl
    from_none (l ∷ ls) same = absurd (omega (arith, ap length same))
any_most (m ∷ most) (n ∷ many) c h k = from_lines c.later refl (λ x f g. any_most most many x.1 f g)
  where
    from_lines : (ls : List Line) → c.later ≡ ls → ((x : Whole) → length x.1.later ≤ length most → length x.1.later ≤ length many → blocks_from most x.1 ≡ blocks_from many x.1)
        → blocks_on ls c (λ d. blocks_from most d) ≡ blocks_on ls c (λ d. blocks_from many d)
    from_lines [] same next = refl
    from_lines (l ∷ ls) same next = same_then (blocks_from most) (blocks_from many) (block_at (begun l ls c))
        (λ x e. next x (fewer_left l ls most c x e (omega (arith, ap length same))) (fewer_left l ls many c x e (omega (arith, ap length same))))
