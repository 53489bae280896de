-- Readers that read lines of one form and leave the others, one reader after another up to the end of the input.
use Rattle.std.proofs.Common.{◌≡◌, ℕ, List, [], ◌∷◌, ◌++◌, Result, Ok, refl, sym, ap, ◌∙◌, subst}
use Rattle.std.specs.List.{AllZip}
use Rattle.std.proofs.lemmas.List.{append-nil, append_assoc}
use Rattle.text_definitions.specs.Text.{Line, lines_of}
use Rattle.text_definitions.specs.declared.LexFault.{LexFault}
use Rattle.text_definitions.specs.Reading.{Reading, ◌>>=◌, begun, start_of}
use Rattle.text_definitions.proofs.Readers.{bind_ok}
use Rattle.text_document_definitions.specs.Documents.{no_line_at, each_line_from}
use Rattle.table_definitions.proofs.ReadingLaws.{ok_parts}
use Rattle.text_document_laws.proofs.LineLaws.{HaveTokens, lines_have_tokens, rest_has_tokens, no_line_left, no_line_found}

-- `read` succeeds if and only if the next lines have the form
pub record ReadsBlocks {A E : Type 0} (read : Reading → Result (A × Reading) E) (Form : List Line → A → Type 0) : Type 0 where
  pub sound : (c : Reading) (x : A) (d : Reading) → read c ≡ Ok (x, d) → (lines : List Line) × (c.later ≡ lines ++ d.later) × Form lines x
  pub complete : (c : Reading) (x : A) (lines rest : List Line) → c.later ≡ lines ++ rest → Form lines x → (d : Reading) × (read c ≡ Ok (x, d)) × (d.later ≡ rest)

-- `read` succeeds if and only if the current line has the form
pub record ReadsLine {A E : Type 0} (read : Reading → Result (A × Reading) E) (Form : Line → A → Type 0) : Type 0 where
  pub sound : (c : Reading) (x : A) (d : Reading) → read c ≡ Ok (x, d) → Form c.current x × (d.later ≡ c.later)
  pub complete : (c : Reading) (x : A) → Form c.current x → (d : Reading) × (read c ≡ Ok (x, d)) × (d.later ≡ c.later)

-- `end` succeeds if and only if no line remains
pub record ReadsEnd {E : Type 0} (end : Reading → Result Reading E) : Type 0 where
  pub sound : (c d : Reading) → end c ≡ Ok d → no_line_at c ≡ Ok d
  pub complete : (c d : Reading) → no_line_at c ≡ Ok d → end c ≡ Ok d

-- all lines of an input are one block
module _ {A E : Type 0} (end : Reading → Result Reading E) (ends : ReadsEnd end) (read : Reading → Result (A × Reading) E) (Form : List Line → A → Type 0) (blocks : ReadsBlocks read Form) where
  abbrev pub closed : A × Reading → Result A E
  closed x = end x.1 >>= λ (d : Reading). Ok x.0

  pub document_sound : (bytes : List ℕ) (x : A) → (read (start_of bytes) >>= closed) ≡ Ok x → Form (lines_of bytes) x
  document_sound bytes x e =
      let first : (y : A × Reading) × (read (start_of bytes) ≡ Ok y) × (closed y ≡ Ok x) = bind_ok (read (start_of bytes)) closed x e in
      let second : (d : Reading) × (end (first.0).1 ≡ Ok d) × (◌≡◌ {A = Result A E} (Ok (first.0).0) (Ok x)) = bind_ok (end (first.0).1) (λ (d : Reading). Ok (first.0).0) x first.2 in
      let same : (first.0).0 ≡ x = cc in
      let block : (lines : List Line) × (lines_of bytes ≡ lines ++ (first.0).1.later) × Form lines (first.0).0 = blocks.sound (start_of bytes) (first.0).0 (first.0).1 first.1 in
      let none : (first.0).1.later ≡ [] =
      no_line_left (first.0).1 second.0 (ends.sound (first.0).1 second.0 second.1) (rest_has_tokens block.0 (first.0).1.later (subst HaveTokens block.1 (lines_have_tokens bytes))) in
      let whole : lines_of bytes ≡ block.0 = block.1 ∙ ap (λ (ls : List Line). block.0 ++ ls) none ∙ append-nil block.0 in
      subst (λ (y : A). Form (lines_of bytes) y) same (subst (λ (ls : List Line). Form ls (first.0).0) (sym whole) block.2)

  pub closed_complete : (c : Reading) (x : A) → Form c.later x → (read c >>= closed) ≡ Ok x
  closed_complete c x h =
      let found : (d : Reading) × (read c ≡ Ok (x, d)) × (d.later ≡ []) = blocks.complete c x c.later [] (sym (append-nil c.later)) h in
      ap (λ (r : Result (A × Reading) E). r >>= closed) found.1
      ∙ ap (λ (r : Result Reading E). r >>= λ (d : Reading). Ok x) (ends.complete found.0 found.0 (no_line_found found.0 found.2))

  pub document_complete : (bytes : List ℕ) (x : A) → Form (lines_of bytes) x → (read (start_of bytes) >>= closed) ≡ Ok x
  document_complete bytes x h = closed_complete (start_of bytes) x h

-- two blocks, one after the other
module _ {A B E : Type 0} (first : Reading → Result (A × Reading) E) (second : Reading → Result (B × Reading) E) (Front : List Line → A → Type 0) (Back : List Line → B → Type 0)
    (fronts : ReadsBlocks first Front) (backs : ReadsBlocks second Back) where
  abbrev pub both : Reading → Result ((A × B) × Reading) E
  both c = first c >>= λ (x : A × Reading). second x.1 >>= λ (y : B × Reading). Ok ((x.0, y.0), y.1)

  abbrev pub Both : List Line → A × B → Type 0
  Both lines x = (front : List Line) × (back : List Line) × (lines ≡ front ++ back) × Front front x.0 × Back back x.1

  joined : (c : Reading) (x : A) (y : B) (next d : Reading) → first c ≡ Ok (x, next) → second next ≡ Ok (y, d) → (lines : List Line) × (c.later ≡ lines ++ d.later) × Both lines (x, y)
  joined c x y next d e f =
      let front : (lines : List Line) × (c.later ≡ lines ++ next.later) × Front lines x = fronts.sound c x next e in
      let back : (lines : List Line) × (next.later ≡ lines ++ d.later) × Back lines y = backs.sound next y d f in
      (front.0 ++ back.0, front.1 ∙ ap (λ (ls : List Line). front.0 ++ ls) back.1 ∙ sym (append_assoc front.0 back.0 d.later), (front.0, back.0, refl, front.2, back.2))

  both_sound : (c : Reading) (x : A × B) (d : Reading) → both c ≡ Ok (x, d) → (lines : List Line) × (c.later ≡ lines ++ d.later) × Both lines x
  both_sound c x d e =
      let b1 : (y : A × Reading) × (first c ≡ Ok y) × ((second y.1 >>= λ (z : B × Reading). Ok ((y.0, z.0), z.1)) ≡ Ok (x, d)) = bind_ok (first c) (λ (y : A × Reading). second y.1 >>= λ (z : B × Reading). Ok ((y.0, z.0), z.1)) (x, d) e in
      let b2 : (z : B × Reading) × (second (b1.0).1 ≡ Ok z) × (◌≡◌ {A = Result ((A × B) × Reading) E} (Ok (((b1.0).0, z.0), z.1)) (Ok (x, d))) =
      bind_ok (second (b1.0).1) (λ (z : B × Reading). Ok (((b1.0).0, z.0), z.1)) (x, d) b1.2 in
      let parts : (((b1.0).0, (b2.0).0) ≡ x) × ((b2.0).1 ≡ d) = ok_parts (((b1.0).0, (b2.0).0), (b2.0).1) (x, d) b2.2 in
      let made : (lines : List Line) × (c.later ≡ lines ++ (b2.0).1.later) × Both lines ((b1.0).0, (b2.0).0) = joined c (b1.0).0 (b2.0).0 (b1.0).1 (b2.0).1 b1.1 b2.1 in
      (made.0, made.1 ∙ ap (λ (r : Reading). made.0 ++ r.later) parts.1, subst (λ (y : A × B). Both made.0 y) parts.0 made.2)

  both_complete : (c : Reading) (x : A × B) (lines rest : List Line) → c.later ≡ lines ++ rest → Both lines x → (d : Reading) × (both c ≡ Ok (x, d)) × (d.later ≡ rest)
  both_complete c x lines rest split h =
      let f : (d : Reading) × (first c ≡ Ok (x.0, d)) × (d.later ≡ h.1 ++ rest) =
      fronts.complete c x.0 h.0 (h.1 ++ rest) (split ∙ ap (λ (ls : List Line). ls ++ rest) h.2 ∙ append_assoc h.0 h.1 rest) h.3 in
      let b : (d : Reading) × (second f.0 ≡ Ok (x.1, d)) × (d.later ≡ rest) = backs.complete f.0 x.1 h.1 rest f.2 h.4 in (
        b.0,
        ap (λ (r : Result (A × Reading) E). r >>= λ (y : A × Reading). second y.1 >>= λ (z : B × Reading). Ok ((y.0, z.0), z.1)) f.1
            ∙ ap (λ (r : Result (B × Reading) E). r >>= λ (z : B × Reading). Ok ((x.0, z.0), z.1)) b.1,
        b.2,
      )

  pub both_blocks : ReadsBlocks both Both
  both_blocks = record { sound = both_sound; complete = both_complete }

-- lines of one form to the end of the input
module _ {A : Type 0} (form : Reading → Result (A × Reading) LexFault) (Form : Line → A → Type 0) (reads : ReadsLine form Form) where
  abbrev more : List Line → A × Reading → Result (List A × Reading) LexFault
  more ls x = each_line_from form ls x.1 >>= λ (xs : List A × Reading). Ok (x.0 ∷ xs.0, xs.1)

  pub lines_read : (ls : List Line) (c : Reading) (xs : List A) (d : Reading) → each_line_from form ls c ≡ Ok (xs, d) → AllZip Form ls xs
  unfolding each_line_from
  lines_read [] c xs d e = let parts : ([] ≡ xs) × (c ≡ d) = ok_parts {A = List A} ([], c) (xs, d) e in subst (λ (ys : List A). AllZip Form [] ys) parts.0 tt
  lines_read (l ∷ ls) c xs d e =
      let first : (x : A × Reading) × (form (begun l ls c) ≡ Ok x) × (more ls x ≡ Ok (xs, d)) = bind_ok (form (begun l ls c)) (more ls) (xs, d) e in
      let others : (ys : List A × Reading) × (each_line_from form ls (first.0).1 ≡ Ok ys) × (◌≡◌ {A = Result (List A × Reading) LexFault} (Ok ((first.0).0 ∷ ys.0, ys.1)) (Ok (xs, d))) =
      bind_ok (each_line_from form ls (first.0).1) (λ (ys : List A × Reading). Ok ((first.0).0 ∷ ys.0, ys.1)) (xs, d) first.2 in
      let parts : ((first.0).0 ∷ (others.0).0 ≡ xs) × ((others.0).1 ≡ d) = ok_parts ((first.0).0 ∷ (others.0).0, (others.0).1) (xs, d) others.2 in
      subst (λ (ys : List A). AllZip Form (l ∷ ls) ys) parts.0 ((reads.sound (begun l ls c) (first.0).0 (first.0).1 first.1).0, lines_read ls (first.0).1 (others.0).0 (others.0).1 others.1)

  pub lines_found : (ls : List Line) (c : Reading) (xs : List A) → AllZip Form ls xs → (d : Reading) × (each_line_from form ls c ≡ Ok (xs, d))
  unfolding each_line_from
  lines_found [] c [] z = (c, refl)
  lines_found [] c (x ∷ xs) z = absurd z
  lines_found (l ∷ ls) c [] z = absurd z
  lines_found (l ∷ ls) c (x ∷ xs) z =
      let one : (d : Reading) × (form (begun l ls c) ≡ Ok (x, d)) × (d.later ≡ ls) = reads.complete (begun l ls c) x z.0 in
      let others : (d : Reading) × (each_line_from form ls one.0 ≡ Ok (xs, d)) = lines_found ls one.0 xs z.1 in (
        others.0,
        ap (λ (r : Result (A × Reading) LexFault). r >>= more ls) one.1 ∙ ap (λ (r : Result (List A × Reading) LexFault). r >>= λ (ys : List A × Reading). Ok (x ∷ ys.0, ys.1)) others.1,
      )
