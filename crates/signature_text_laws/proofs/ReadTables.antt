-- If a table is read from a text, the text spells it.
use Rattle.std.proofs.Common.{◌≡◌, ℕ, zero, suc, ◌+◌, ◌*◌, ◌<◌, ◌≤◌, Bool, List, [], ◌∷◌, ◌++◌, length, drop, map, refl, sym, ap, ◌∙◌, subst, arith, append-nil}
use Rattle.std.specs.Prelude.{Result, Ok, Err, nat_lt, sum_by, IfOk}
use Rattle.std.proofs.lemmas.List.{length-append}
use Rattle.std.proofs.lemmas.List.FromFn.{length-map-range_with_len}
use borrow.Author.Tests.{ltb-false}
use Rattle.text_definitions.specs.Reading.{◌>>=◌}
use Rattle.text_definitions.proofs.Readers.{bind_ok}
use Rattle.table_definitions.specs.Lists.{times_in}
use Rattle.table_definitions.specs.Table.{Gluing, Row, IsTable}
use Rattle.signature_definitions.specs.declared.SigFault.TheVariants as sig_faults
use Rattle.signature_definitions.specs.Spelling.{character, in_values, head_values, width, packed, joined, face_types, seen_gluings, spelling, spelling_values, Spells}
use Rattle.signature_definitions.specs.SignatureText as signatures
use Rattle.signature_definitions.specs.SignatureText.{Types, Head, Parts, numbers_in, types_from, head_of, signature_table, faces_of_type}
use Rattle.signature_definitions.specs.declared.SigFault.{SigFault}
use Rattle.signature_text_laws.specs.Faults.{Reads}
use Rattle.signature_text_laws.specs.Parts.{parts_of, types_begun}
use Rattle.signature_text_laws.specs.Slots.{Slots, slot_faces, slots_begun, slot_row, slot_rows, IsSlots}
use Rattle.signature_text_laws.proofs.SlotLaws.{unless_ok, ok_same}
use Rattle.signature_text_laws.proofs.TypeLaws.{parts_fit, behind_head, signature_table-head, after_types-parts}
use Rattle.signature_text_laws.proofs.Simulation.{slots_join}
use Rattle.signature_text_laws.proofs.JoinedTables.{joined_table}
use Rattle.signature_text_laws.proofs.Segments.{Holds, holds_nothing, holds_more, HeadHolds, head_holds, numbers_read}
use Rattle.signature_text_laws.proofs.TypeSegments.{TypesHold, types_hold, single_values}
use Rattle.signature_text_laws.proofs.Walked.{IsPartedBy, joined_parts, no_types, no_pairs}

-- the sections of a text that was read, and the end of the text
pub record PartsHold (text : List ℕ) (h : Head) (s : Types) (at : ℕ) (p : Parts) : Type 0 where
  pub types : p.types ≡ s.read
  pub twos_d : length p.destinations ≡ times_in s.read 2
  pub twos_g : length p.gluings ≡ times_in s.read 2
  pub destinations : Holds text at (joined (map (λ (d : ℕ × ℕ). in_values h.width d.0) p.destinations))
  pub wide : length (joined (map (λ (d : ℕ × ℕ). in_values h.width d.0) p.destinations)) ≡ h.width * times_in s.read 2
  pub gluings : Holds text (at + h.width * times_in s.read 2) (map (λ (d : ℕ × ℕ). d.0) p.gluings)
  pub long : length (map (λ (d : ℕ × ℕ). d.0) p.gluings) ≡ times_in s.read 2
  pub end : length text ≤ at + h.width * times_in s.read 2 + times_in s.read 2

parts_hold : (text : List ℕ) (h : Head) (s : Types) (at : ℕ) (p : Parts) → parts_of text h s at ≡ Ok p → PartsHold text h s at p
parts_hold text h s at p parts =
    let twos : ℕ = times_in s.read 2 in
    let gluings_at : ℕ = at + h.width * twos in
    let ds : Result (List (ℕ × ℕ)) SigFault = numbers_in twos text h.width h.count sig_faults.Destination at in
    let gs : Result (List (ℕ × ℕ)) SigFault = numbers_in twos text 1 24 sig_faults.Gluing gluings_at in
    let late : Bool = nat_lt (s.ones + 1) h.count in
    let more : Bool = nat_lt (gluings_at + twos) (length text) in
    let made : List (ℕ × ℕ) → List (ℕ × ℕ) → Parts = λ d g. record { types = s.read; destinations = d; gluings = g } in
    let a = bind_ok (signatures.unless late sig_faults.Unreached ds) (λ d. gs >>= (λ g. signatures.unless more (sig_faults.Trailing (gluings_at + twos)) (Ok (made d g)))) p parts in
    let b = bind_ok gs (λ g. signatures.unless more (sig_faults.Trailing (gluings_at + twos)) (Ok (made a.0 g))) p a.2 in
    let c = unless_ok more (sig_faults.Trailing (gluings_at + twos)) (Ok (made a.0 b.0)) p b.2 in
    let d = numbers_read twos text h.width h.count sig_faults.Destination at a.0 (unless_ok late sig_faults.Unreached ds a.0 a.1).1 in
    let g = numbers_read twos text 1 24 sig_faults.Gluing gluings_at b.0 b.1 in
    let single = single_values b.0 g.small in
    let e : length (map (λ (d : ℕ × ℕ). d.0) b.0) ≡ twos = (let f = ap (λ (xs : List ℕ). length xs) single in let k = g.wide in omega (arith, f, k)) in
    subst (PartsHold text h s at) (ok_same (made a.0 b.0) p c.1) (record {
      types = refl;
      twos_d = d.count;
      twos_g = g.count;
      destinations = d.holds;
      wide = d.wide;
      gluings = subst (λ (xs : List ℕ). Holds text gluings_at xs) single g.holds;
      long = e;
      end = ltb-false (gluings_at + twos) (length text) c.0;
    })

-- the whole text
pub drop-exceeded : (i : ℕ) (xs : List ℕ) → length xs ≤ i → drop i xs ≡ []
drop-exceeded zero [] l = refl
drop-exceeded zero (x ∷ xs) l = absurd (omega arith)
drop-exceeded (suc i) [] l = refl
drop-exceeded (suc i) (x ∷ xs) l = drop-exceeded i xs (omega arith)

whole_text : (text : List ℕ) (h : Head) (s : Types) (at : ℕ) (p : Parts) → HeadHolds text h → TypesHold text h.next (4 * h.count) at s → PartsHold text h s at p
    → text ≡ map character (head_values h.count ++ packed p.types ++ joined (map (λ (d : ℕ × ℕ). in_values h.width d.0) p.destinations) ++ map (λ (d : ℕ × ℕ). d.0) p.gluings)
whole_text text h s at p head types parts =
    let head' : List ℕ = head_values h.count in
    let types' : List ℕ = packed s.read in
    let ds : List ℕ = joined (map (λ (d : ℕ × ℕ). in_values h.width d.0) p.destinations) in
    let gs : List ℕ = map (λ (d : ℕ × ℕ). d.0) p.gluings in
    let e1 = head.next in
    let e2 = types.next in
    let e3 = parts.wide in
    let e4 = parts.long in
    let l1 = length-append head' types' in
    let l2 = length-append (head' ++ types') ds in
    let l3 = length-append (head' ++ types' ++ ds) gs in
    let first : Holds text 0 (head' ++ types') = holds_more text 0 h.next head' types' head.holds (omega (arith, e1)) types.holds in
    let second : Holds text 0 (head' ++ types' ++ ds) = holds_more text 0 at (head' ++ types') ds first (omega (arith, e1, e2, l1)) parts.destinations in
    let third : Holds text 0 (head' ++ types' ++ ds ++ gs) = holds_more text 0 (at + h.width * times_in s.read 2) (head' ++ types' ++ ds) gs second (omega (arith, e1, e2, e3, l1, l2)) parts.gluings in
    let e5 = parts.end in
    let exceeded : drop (0 + length (head' ++ types' ++ ds ++ gs)) text ≡ [] = drop-exceeded (0 + length (head' ++ types' ++ ds ++ gs)) text (omega (arith, e1, e2, e3, e4, e5, l1, l2, l3)) in
    third ∙ ap (λ rest. map character (head' ++ types' ++ ds ++ gs) ++ rest) exceeded ∙ append-nil (map character (head' ++ types' ++ ds ++ gs))
    ∙ ap (λ ts. map character (head' ++ packed ts ++ ds ++ gs)) (sym parts.types)

-- the types of a text
begun_holds : (text : List ℕ) (n at : ℕ) → TypesHold text at (4 * n) at (types_begun n)
begun_holds text n at = record { holds = holds_nothing text at; next = omega arith; whole = λ some. (0, refl); counted = omega arith }

-- numbers read and numbers spelled
pub map_twice : {A B C : Type 0} (f : B → C) (g : A → B) (xs : List A) → map (λ x. f (g x)) xs ≡ map f (map g xs)
map_twice f g [] = refl
map_twice f g (x ∷ xs) = ap (λ ys. f (g x) ∷ ys) (map_twice f g xs)

spelled : (text : List ℕ) (h : Head) (p : Parts) (rows : List Row) → h.width ≡ width h.count → h.count ≡ length rows → IsPartedBy p rows
    → text ≡ map character (head_values h.count ++ packed p.types ++ joined (map (λ (d : ℕ × ℕ). in_values h.width d.0) p.destinations) ++ map (λ (d : ℕ × ℕ). d.0) p.gluings) → text ≡ spelling rows
unfolding spelling_values
spelled text h p rows w n parted e =
    let tets : List ℕ = map (λ (g : Gluing). g.tet) (seen_gluings rows) in
    let ds : joined (map (λ (d : ℕ × ℕ). in_values h.width d.0) p.destinations) ≡ joined (map (λ (g : Gluing). in_values (width (length rows)) g.tet) (seen_gluings rows)) =
    ap joined (map_twice (in_values h.width) (λ (d : ℕ × ℕ). d.0) p.destinations ∙ ap (map (in_values h.width)) parted.destinations
    ∙ ap (λ m. map (in_values m) tets) (w ∙ ap width n) ∙ sym (map_twice (in_values (width (length rows))) (λ (g : Gluing). g.tet) (seen_gluings rows))) in
    e ∙ ap (λ m. map character (head_values m ++ packed p.types ++ joined (map (λ (d : ℕ × ℕ). in_values h.width d.0) p.destinations) ++ map (λ (d : ℕ × ℕ). d.0) p.gluings)) n
    ∙ ap (λ ts. map character (head_values (length rows) ++ packed ts ++ joined (map (λ (d : ℕ × ℕ). in_values h.width d.0) p.destinations) ++ map (λ (d : ℕ × ℕ). d.0) p.gluings)) parted.types
    ∙ ap (λ xs. map character (head_values (length rows) ++ packed (face_types rows) ++ xs ++ map (λ (d : ℕ × ℕ). d.0) p.gluings)) ds
    ∙ ap (λ xs. map character (head_values (length rows) ++ packed (face_types rows) ++ joined (map (λ (g : Gluing). in_values (width (length rows)) g.tet) (seen_gluings rows)) ++ xs)) parted.gluings

-- no tetrahedra
empty_parted : (p : Parts) → p.types ≡ [] → p.destinations ≡ [] → p.gluings ≡ [] → IsPartedBy p []
empty_parted p a b c = record { ordered = refl; types = a; destinations = ap (map (λ (d : ℕ × ℕ). d.0)) b; gluings = ap (map (λ (d : ℕ × ℕ). d.0)) c }

parted_by : (n : ℕ) (p : Parts) (s : Types) (rows : List Row) (t : Slots) → (0 < n → IsSlots n (slots_begun n p)) → p.types ≡ s.read → length p.destinations ≡ times_in s.read 2 → length p.gluings ≡ times_in s.read 2
    → 4 * n ≡ sum_by faces_of_type s.read → IsTable rows → slot_rows n t.read_faces ≡ rows → slot_faces (4 * n) 0 (slots_begun n p) ≡ Ok t → IsPartedBy p rows
parted_by zero p s rows t fit types d g sum table same h =
    let none : s.read ≡ [] = no_types s.read (sym sum) in
    let twos : times_in s.read 2 ≡ 0 = ap (λ xs. times_in xs 2) none in
    subst (IsPartedBy p) same (empty_parted p (types ∙ none) (no_pairs p.destinations (d ∙ twos)) (no_pairs p.gluings (g ∙ twos)))
parted_by (suc n) p s rows t fit types d g sum table same h =
    subst (IsPartedBy p) same (joined_parts (suc n) p t (fit (omega arith)) (sum ∙ ap (sum_by faces_of_type) (sym types)) (subst IsTable (sym same) table) h)

pub read_spelled : (text : List ℕ) (rows : List Row) → signature_table text ≡ Ok rows → Spells text rows
read_spelled text rows e =
    let a = bind_ok (head_of text) (behind_head text) rows (sym (signature_table-head text) ∙ e) in
    let h : Head = a.0 in
    let b = bind_ok (types_from (4 * h.count) text h.count h.next (types_begun h.count)) (λ s. signatures.after_types text h s.0 s.1) rows a.2 in
    let s : Types = b.0.0 in
    let at : ℕ = b.0.1 in
    let c = bind_ok (parts_of text h s at) (signatures.table_of h.count) rows (after_types-parts text h s at ∙ b.2) in
    let p : Parts = c.0 in
    let head = head_holds text h a.1 in
    let fit = parts_fit text h s at p head.limited b.1 c.1 in
    let table = joined_table h.count p rows head.limited fit c.2 in
    let types = types_hold (4 * h.count) text h.count h.next (types_begun h.count) s at h.next (4 * h.count) (begun_holds text h.count h.next) (omega arith) b.1 in
    let parts = parts_hold text h s at p c.1 in
    let joins = bind_ok (slot_faces (4 * h.count) 0 (slots_begun h.count p)) (λ t. Ok (slot_rows h.count t.read_faces)) rows (slots_join h.count p fit ∙ c.2) in
    let same : slot_rows h.count joins.0.read_faces ≡ rows = ok_same (slot_rows h.count joins.0.read_faces) rows joins.2 in
    let counted = types.0.counted in
    let none = types.1 in
    let sum : 4 * h.count ≡ sum_by faces_of_type s.read = omega (arith, counted, none) in
    let parted = parted_by h.count p s rows joins.0 fit parts.types parts.twos_d parts.twos_g sum table same joins.1 in
    let long : h.count ≡ length rows = sym (length-map-range_with_len (slot_row joins.0.read_faces) 0 h.count) ∙ ap (λ (xs : List Row). length xs) same in
    record { table = table; ordered = parted.ordered; spelled = spelled text h p rows head.width long parted (whole_text text h s at p head types.0 parts) }

-- if what a function returns is what is read, the text spells it
pub spelled_on_ok : (r : Result (List Row) SigFault) (text : List ℕ) → Reads (λ t. t) r (signature_table text) → IfOk r (Spells text)
spelled_on_ok (Ok rows) text h = read_spelled text rows h
spelled_on_ok (Err e) text h = tt
