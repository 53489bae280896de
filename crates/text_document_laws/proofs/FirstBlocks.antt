-- A table and blocks of sums: the first error of their text, and of blocks after a table that was read.
use Rattle.std.proofs.Common.{◌≡◌, ℕ, List, [], ◌∷◌, ◌++◌, Result, Ok, Err, refl, sym, ap, ◌∙◌, subst, arith}
use Rattle.std.specs.Prelude.{⊤}
use Rattle.text_definitions.specs.declared.LexFault.{LexFault}
use Rattle.text_definitions.specs.Text.{Line, lines_of}
use Rattle.text_definitions.specs.Reading.{Reading, ◌>>=◌, begun, start_of}
use Rattle.text_definitions.proofs.Readers.{bind_ok}
use Rattle.table_definitions.specs.Table.{Row}
use Rattle.signature_definitions.specs.declared.InputFault.{InputFault}
use Rattle.signature_definitions.specs.Grammar.{AreTableLines}
use Rattle.text_document_definitions.specs.Documents.{worded, next_table_at}
use Rattle.text_document_definitions.specs.Symbols.{FirstLeavesAt}
use Rattle.text_document_definitions.specs.TextForms.{AreTableText}
use Rattle.text_document_definitions.specs.Blocks.{Block, block_at, blocks_on, blocks_from, blocks_document, AreBlockLines, AreBlocks, AreTableAndBlocks, AreTableAndBlocksText}
use Rattle.text_document_laws.specs.FormLaws.{FaultsComeFirst}
use Rattle.text_document_laws.specs.FaultLaws.{SomeTableAndBlocks, BlocksFaultsLeaveFirst}
use Rattle.text_document_laws.proofs.Tables.{table_read}
use Rattle.text_document_laws.proofs.BlockReading.{BlockRead, block_read, BlockFound, block_found}
use Rattle.text_document_laws.proofs.SumDocuments.{any_most}
use Rattle.text_document_laws.proofs.BlockWays.{ends_block}
use Rattle.text_document_laws.proofs.Local.{shows}
use Rattle.text_document_laws.proofs.LocalWords.{as_is}
use Rattle.text_document_laws.proofs.LocalLines.{none_stop, by_lines}
use Rattle.text_document_laws.proofs.LocalTables.{in_text}
use Rattle.text_document_laws.proofs.Ways.{Then, WellOpen, well_open}
use Rattle.text_document_laws.proofs.TextReaders.{Read, next_text, left_only, Copies, copy_bind, copy_then, copy_same, copy_worded, FaultsAs, faults_bind, copy_next_table}
use Rattle.text_document_laws.proofs.TextWays.{opens_next_text}
use Rattle.text_document_laws.proofs.TextGrammar.{text_blocks}
use Rattle.text_document_laws.proofs.TextEnds.{AtEnd, nothing, each_from, alike_each_from, from_nothing, well_each, each_sound, each_complete}
use Rattle.text_document_laws.proofs.FirstFaults.{left_first, comes_first}
use Rattle.text_document_laws.proofs.BehindTables.{first_behind}
use Rattle.text_document_laws.proofs.FirstLines.{faults_ok, left_of}
use Rattle.text_document_laws.proofs.Given.{Blocks, Whole}

-- blocks in the grammar
abbrev Many : List Line → Type 0
Many lines = (blocks : List Block) × AreBlocks lines blocks

one_block : (b : Reading) (x : Block) (d : Reading) → block_at b ≡ Ok (x, d) → Many d.later → Many (b.current ∷ b.later)
one_block b x d e h =
    let r : BlockRead b x d = block_read b x d e in
    (x ∷ h.0, (b.current ∷ r.lines, d.later, ap (λ (ls : List Line). b.current ∷ ls) r.split, r.is_block, h.1))

abbrev NextBlock : Reading → Type 0
NextBlock b = (x : Block) × (d : Reading) × (block_at b ≡ Ok (x, d)) × Many d.later

first_block : (b : Reading) (x : Block) (blocks : List Block) (front back : List Line) → b.current ∷ b.later ≡ front ++ back → AreBlockLines front x → AreBlocks back blocks → NextBlock b
first_block b x blocks [] back split h more = absurd h
first_block b x blocks (l ∷ front) back split h more =
    let head : b.current ≡ l = cc in
    let tail : b.later ≡ front ++ back = cc in
    let f : BlockFound b x back = block_found b front back x tail (subst (λ (k : Line). AreBlockLines (k ∷ front) x) (sym head) h) in
    (x, f.left, f.read, (blocks, subst (λ (ls : List Line). AreBlocks ls blocks) (sym f.later) more))

next_block : (b : Reading) → Many (b.current ∷ b.later) → NextBlock b
next_block b ([], h) = absurd cc
next_block b (x ∷ blocks, h) = first_block b x blocks h.0 h.1 h.2 h.3 h.4

-- the text of a table and of blocks, at most one block for each counted line
abbrev read : List Line → Reading → Read
read most c = next_text c >>= λ (u : ⊤ × Reading). each_from block_at most u.1

complete : (most : List Line) (c : Reading) → AreTableAndBlocksText c.later → (y : ⊤ × Reading) × (read most c ≡ Ok y)
complete most c h =
    let t : (d : Reading) × (next_text c ≡ Ok (tt, d)) × (d.later ≡ h.1) = text_blocks.complete c tt h.0 h.1 h.2 h.3 in
    let o : (y : ⊤ × Reading) × (each_from block_at most t.0 ≡ Ok y) = each_complete block_at Many next_block most t.0 (subst Many (sym t.2) h.4) in
    (o.0, ap (λ (r : Read). r >>= λ (u : ⊤ × Reading). each_from block_at most u.1) t.1 ∙ o.1)

sound : (most : List Line) (o : Reading) (u : ⊤) (next : Reading) → read most o ≡ Ok (u, next) → AtEnd u (shows next) → AreTableAndBlocksText o.later
sound most o u next e a =
    let b : (x : ⊤ × Reading) × (next_text o ≡ Ok x) × (each_from block_at most x.1 ≡ Ok (u, next)) = bind_ok (next_text o) (λ (x : ⊤ × Reading). each_from block_at most x.1) (u, next) e in
    let t : (lines : List Line) × (o.later ≡ lines ++ (b.0).1.later) × AreTableText lines = text_blocks.sound o (b.0).0 (b.0).1 b.1 in
    (t.0, (b.0).1.later, t.1, t.2, each_sound block_at Many ([], refl) one_block most (b.0).1 u next b.2 (a next refl))

well_read : (most : List Line) (c : Reading) → WellOpen as_is (read most) AtEnd c
well_read most c =
    well_open as_is next_text (λ u. each_from block_at most) AtEnd (λ u. alike_each_from block_at ends_block.goes most) c (opens_next_text.goes c)
    (opens_next_text.well (Then (λ u. each_from block_at most) AtEnd) nothing refl (λ u. from_nothing block_at ends_block.goes most) c) (λ u d e. well_each block_at ends_block.goes ends_block.well most d)

copy_blocks : (most : List Line) (c : Reading) → Copies as_is left_only (blocks_from most c) (each_from block_at most c)
unfolding blocks_from each_from
copy_blocks [] c = refl
copy_blocks (m ∷ most) c = by_lines_left c.later (copy_blocks most)
  where
    by_lines_left : (ls : List Line) → ((d : Reading) → Copies as_is left_only (blocks_from most d) (each_from block_at most d))
        → Copies as_is left_only (blocks_on ls c (λ d. blocks_from most d)) (by_lines none_stop (λ b. block_at b >>= λ (x : Block × Reading). each_from block_at most x.1) ls c)
    by_lines_left [] others = refl
    by_lines_left (l ∷ ls) others =
        copy_bind as_is (λ (x : Whole). x) left_only (block_at (begun l ls c)) (block_at (begun l ls c)) (λ (x : Block × Reading). blocks_from most x.1 >>= λ (bs : Blocks). Ok (x.0 ∷ bs.0, bs.1)) (λ (x : Whole). each_from block_at most x.1)
        (copy_same (block_at (begun l ls c))) (λ x. copy_then as_is left_only left_only (blocks_from most x.1) (each_from block_at most x.1) (λ (bs : Blocks). Ok (x.0 ∷ bs.0, bs.1)) (others x.1) (λ bs. refl))

copy_left : (bytes : List ℕ) (rows : List Row) (d : Reading) → next_table_at (start_of bytes) ≡ Ok (rows, d) → Copies as_is left_only (blocks_from d.later d) (each_from block_at (lines_of bytes) d)
copy_left bytes rows d e =
    subst (λ (r : Result Blocks LexFault). Copies as_is left_only r (each_from block_at (lines_of bytes) d)) (any_most (lines_of bytes) d.later d (left_of bytes rows d e) (omega arith)) (copy_blocks (lines_of bytes) d)

behind_faults : (bytes : List ℕ) (rows : List Row) (d : Reading) → next_table_at (start_of bytes) ≡ Ok (rows, d)
    → FaultsAs {X = List Row × List Block} in_text (worded (blocks_from d.later d) >>= λ (bs : Blocks). Ok (rows, bs.0)) (each_from block_at (lines_of bytes) d)
behind_faults bytes rows d table =
    faults_ok in_text left_only (worded (blocks_from d.later d)) (each_from block_at (lines_of bytes) d) (λ (bs : Blocks). (rows, bs.0))
    (copy_worded left_only (blocks_from d.later d) (each_from block_at (lines_of bytes) d) (copy_left bytes rows d table))

document_faults : (bytes : List ℕ) → FaultsAs in_text (blocks_document bytes) (read (lines_of bytes) (start_of bytes))
unfolding blocks_document
document_faults bytes =
    faults_bind in_text left_only (next_table_at (start_of bytes)) (next_text (start_of bytes)) (λ (t : List Row × Reading). worded (blocks_from t.1.later t.1) >>= λ (bs : Blocks). Ok (t.0, bs.0))
    (λ (u : ⊤ × Reading). each_from block_at (lines_of bytes) u.1) (copy_next_table (start_of bytes))
    (λ t p. behind_faults bytes t.0 t.1 p)

pub blocks_faults_stand_first : FaultsComeFirst blocks_document AreTableAndBlocksText
blocks_faults_stand_first bytes f e =
    comes_first (read (lines_of bytes)) AtEnd AreTableAndBlocksText (complete (lines_of bytes)) (sound (lines_of bytes)) bytes f.place
    (well_read (lines_of bytes) (start_of bytes) f (document_faults bytes f e))

-- after a table that was read
put : (table rest : List Line) (rows : List Row) → AreTableLines table rows → Many rest → SomeTableAndBlocks (table ++ rest)
put table rest rows t h = (rows, h.0, (table, rest, refl, t, h.1))

taken : (lines : List Line) → SomeTableAndBlocks lines → (rows : List Row) × (table : List Line) × (rest : List Line) × (lines ≡ table ++ rest) × AreTableLines table rows × Many rest
taken lines h = (let t : AreTableAndBlocks lines h.0 h.1 = h.2 in (h.0, t.0, t.1, t.2, t.3, (h.1, t.4)))

rest_first : (most : List Line) (d : Reading) → d.current.tokens ≡ [] → (f : LexFault) → each_from block_at most d ≡ Err f → FirstLeavesAt Many d.input_end d.later f.place
rest_first most d none f e =
    left_first (each_from block_at most) AtEnd Many (λ c h. each_complete block_at Many next_block most c h) (λ o u next r a. each_sound block_at Many ([], refl) one_block most o u next r (a next refl)) d none f.place
    (well_each block_at ends_block.goes ends_block.well most d f e)

pub blocks_faults_leave_first : BlocksFaultsLeaveFirst
unfolding blocks_document
blocks_faults_leave_first bytes rows d f table e =
    first_behind Many SomeTableAndBlocks put taken (start_of bytes) rows d f.place table
    (rest_first (lines_of bytes) d (table_read (start_of bytes) rows d table).at_end f
    (behind_faults bytes rows d table f (sym (ap (λ (r : Result (List Row × Reading) InputFault). r >>= λ (t : List Row × Reading). worded (blocks_from t.1.later t.1) >>= λ (bs : Blocks). Ok (t.0, bs.0)) table) ∙ e)))
