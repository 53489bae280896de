-- If a text spells a table, the table is read from it.
use Rattle.std.proofs.Common.{◌≡◌, ◌≢◌, ℕ, zero, suc, ◌+◌, ◌*◌, ◌/◌, ◌%◌, ◌<◌, Bool, true, false, List, [], ◌∷◌, ◌++◌, length, drop, get_or, map, Option, Some, None, refl, sym, ap, ◌∙◌, subst, arith, ◌⊎◌, inl, inr, append-nil}
use Rattle.std.specs.Prelude.{Result, Ok, Err, All, nat_lt, filter_map, sum_by, ◌==◌, if◌then◌else◌, cond, unwrap_or, IfErr}
use Rattle.std.proofs.lemmas.Bool.{le-ltb, and_parts}
use borrow.Author.Tests.{ltb-true}
use Rattle.std.proofs.lemmas.List.{get_or-replicate, length-replicate, length-map, length-append, ext_get_or}
use Rattle.std.proofs.lemmas.List.FromFn.{get_or-map-range_with_len, length-map-range_with_len}
use Rattle.std.proofs.lemmas.List.Sums.{sum_by-cons}
use Rattle.text_definitions.specs.Reading.{◌>>=◌}
use Rattle.table_definitions.specs.Lists.{times_in}
use Rattle.table_definitions.specs.Permutation.{index}
use Rattle.table_definitions.specs.Table.{Gluing, Row, Face, IsTable, glue, other_side, is_face_before, faces}
use Rattle.signature_definitions.specs.declared.SigFault.TheVariants as sig_faults
use Rattle.signature_definitions.specs.WalkOrder.{is_seen, is_ordered_gluing, IsWalkOrdered}
use Rattle.signature_definitions.specs.Spelling.{character, in_values, head_values, width, packed, joined, type_of, seen_gluing, face_types, seen_gluings, spelling, spelling_values, Spells}
use Rattle.signature_definitions.specs.SignatureText as signatures
use Rattle.signature_definitions.specs.SignatureText.{Head, Parts, numbers_in, types_from, signature_table, faces_of_type}
use Rattle.table_definitions.proofs.Permutations.{index_below}
use Rattle.table_definitions.specs.Places.{face_of}
use Rattle.signature_definitions.specs.declared.SigFault.{SigFault}
use Rattle.signature_definitions.specs.declared.SigFault.TheVariants.{NoMemory}
use Rattle.signature_text_laws.specs.Faults.{Fails, Reads, SpellsNothing}
use Rattle.signature_text_laws.specs.Parts.{parts_of, types_begun}
use Rattle.signature_text_laws.specs.Slots.{Slots, slot, slot_faces, slots_begun, slot_row, slot_rows, IsSlots}
use Rattle.signature_text_laws.specs.Walks.{Walking, walk_begun, IsWalkTo}
use Rattle.signature_text_laws.proofs.ReadLaws.{next_ok}
use Rattle.signature_text_laws.proofs.TypeLaws.{signature_table-joined}
use Rattle.signature_text_laws.proofs.Simulation.{slots_join, faces-places}
use Rattle.signature_text_laws.proofs.SeenLaws.{is_seen-later}
use Rattle.signature_text_laws.proofs.WalkLaws.{walk_begins, walk_types}
use Rattle.signature_text_laws.proofs.TextLaws.{types_small}
use Rattle.signature_text_laws.proofs.Segments.{Holds, length-in_values}
use Rattle.signature_text_laws.proofs.Stepping.{free}
use Rattle.signature_text_laws.proofs.Joined.{free_count}
use Rattle.signature_text_laws.proofs.Walked.{all_met}
use Rattle.signature_text_laws.proofs.SpelledReads.{holds_split, reads_head, width_fits, types_reads, behind_types, placed, placed_values, length-placed, placed_below, numbers_reads, single_spelled, unless_of}
use Rattle.signature_text_laws.proofs.Followed.{type_at, gluing_at, Rest, Follows, Followed, follow, ordered_at}
use Rattle.signature_text_laws.proofs.ReadTables.{drop-exceeded, map_twice}

-- the destinations and the indices of permutations in a table's text
abbrev pub tets_of : List Row → List ℕ
tets_of rows = map (λ (g : Gluing). g.tet) (seen_gluings rows)

abbrev pub indices_of : List Row → List ℕ
indices_of rows = map (λ (g : Gluing). index g.perm) (seen_gluings rows)

-- the sections of a table's text
abbrev pub parts_at : List Row → ℕ → ℕ → ℕ → Parts
parts_at rows w at next = record { types = face_types rows; destinations = placed w at (tets_of rows); gluings = placed 1 next (indices_of rows) }

-- the gluings in a table's text are those of the table
glued_at : (rows : List Row) (x : Face) (g : Gluing) → gluing_at rows x ≡ Some g → glue rows x ≡ Some g
glued_at rows x g e = cases (glue rows x) refl e
  where
    inner : (h : Gluing) (a b : Bool) → (if a then None else (if b then Some h else None)) ≡ Some g → h ≡ g
    inner h true b e = absurd cc
    inner h false true e = cc
    inner h false false e = absurd cc

    cases : (o : Option Gluing) → glue rows x ≡ o → seen_gluing rows x o ≡ Some g → glue rows x ≡ Some g
    cases None f e = absurd cc
    cases (Some h) f e = f ∙ ap Some (inner h (is_face_before (other_side x h) x) (is_seen rows x h.tet) e)

all_front : {A : Type 0} (P : A → Type 0) (x : A) (xs : List A) → P x → All P xs → All P (x ∷ xs)
all_front P x xs h k zero d l = h
all_front P x xs h k (suc i) d l = k i d (omega arith)

all_mapped : {A : Type 0} (P : ℕ → Type 0) (f : A → ℕ) (xs : List A) → All (λ x. P (f x)) xs → All P (map f xs)
all_mapped P f [] h = λ k d l. absurd (omega arith)
all_mapped P f (x ∷ xs) h = all_front P (f x) (map f xs) (h 0 x (omega arith)) (all_mapped P f xs (λ k d l. h (suc k) d (omega arith)))

all_gluings : (rows : List Row) (P : Gluing → Type 0) → ((x : Face) (g : Gluing) → glue rows x ≡ Some g → P g) → (xs : List Face) → All P (filter_map (gluing_at rows) xs)
all_gluings rows P each [] = λ k d l. absurd (omega arith)
all_gluings rows P each (x ∷ xs) = cases (gluing_at rows x) refl (all_gluings rows P each xs)
  where
    cases : (o : Option Gluing) → gluing_at rows x ≡ o → All P (filter_map (gluing_at rows) xs) → All P (filter_map (gluing_at rows) (x ∷ xs))
    cases None e h = rw e h
    cases (Some g) e h = rw e (all_front P g (filter_map (gluing_at rows) xs) (each x g (glued_at rows x g e)) h)

-- there is a gluing for each type 2
abbrev type_if : Bool → Bool → Option ℕ
type_if a b = if a then None else Some (if b then 2 else 1)

abbrev gluing_if : Bool → Bool → Gluing → Option Gluing
gluing_if a b g = if a then None else (if b then Some g else None)

abbrev BothTwo : Option ℕ → Option Gluing → Type 0
BothTwo type gluing = ((type ≡ Some 2) × ((g : Gluing) × (gluing ≡ Some g))) ⊎ ((gluing ≡ None) × ((type ≡ None) ⊎ ((t : ℕ) × (type ≡ Some t) × ((t == 2) ≡ false))))

both_two : (rows : List Row) (x : Face) (o : Option Gluing) → BothTwo (type_of rows x o) (seen_gluing rows x o)
both_two rows x None = inr (refl, inr (0, refl, refl))
both_two rows x (Some g) = cases (is_face_before (other_side x g) x) (is_seen rows x g.tet)
  where
    cases : (a b : Bool) → BothTwo (type_if a b) (gluing_if a b g)
    cases true b = inr (refl, inl refl)
    cases false true = inl (refl, (g, refl))
    cases false false = inr (refl, inr (1, refl, refl))

twos_of : (rows : List Row) (xs : List Face) → length (filter_map (gluing_at rows) xs) ≡ times_in (filter_map (type_at rows) xs) 2
twos_of rows [] = refl
twos_of rows (x ∷ xs) = cases (both_two rows x (glue rows x)) (twos_of rows xs)
  where
    count : ℕ → ℕ
    count t = cond (t == 2) 1 0

    cases : BothTwo (type_at rows x) (gluing_at rows x)
        → length (filter_map (gluing_at rows) xs) ≡ times_in (filter_map (type_at rows) xs) 2 → length (filter_map (gluing_at rows) (x ∷ xs)) ≡ times_in (filter_map (type_at rows) (x ∷ xs)) 2
    cases (inl (a, b)) h = rw (a, b.1) (let c = sum_by-cons (λ t. cond (t == 2) 1 0) 2 (filter_map (type_at rows) xs) in omega (arith, c, h))
    cases (inr (a, inl b)) h = rw (a, b) h
    cases (inr (a, inr b)) h = rw (a, b.1) (h ∙ sym (sum_by-cons (λ t. cond (t == 2) 1 0) b.0 (filter_map (type_at rows) xs) ∙ ap (λ q. cond q 1 0 + times_in (filter_map (type_at rows) xs) 2) b.2 ∙ omega arith))

-- before the first face
begun_follows : (rows : List Row) (parts : Parts) → Follows rows 0 walk_begun (slots_begun (length rows) parts)
begun_follows rows parts = record {
  read_faces = record {
    size = length-replicate (4 * length rows) None;
    before = λ p l. absurd (omega arith);
    partner = λ p g low high e l. absurd (omega arith);
    unmet = λ p low high far. get_or-replicate (4 * length rows) p None None high;
  };
  seen = refl;
  count = (let c = free_count (4 * length rows) in omega (arith, c));
  ones = refl;
}

begun_rest : (rows : List Row) (w at next : ℕ) → Rest rows 0 (4 * length rows) (slots_begun (length rows) (parts_at rows w at next))
begun_rest rows w at next = record {
  types = ap (filter_map (type_at rows)) (faces-places (length rows));
  destinations = placed_values w at (tets_of rows) ∙ ap (λ xs. map (λ (g : Gluing). g.tet) (filter_map (gluing_at rows) xs)) (faces-places (length rows));
  gluings = placed_values 1 next (indices_of rows) ∙ ap (λ xs. map (λ (g : Gluing). index g.perm) (filter_map (gluing_at rows) xs)) (faces-places (length rows));
}

pub run_of : (rows : List Row) (w at next : ℕ) → IsTable rows → IsWalkOrdered rows → Followed rows (4 * length rows) 0 (slots_begun (length rows) (parts_at rows w at next))
run_of rows w at next table ordered =
    follow rows (4 * length rows) 0 walk_begun (slots_begun (length rows) (parts_at rows w at next)) table ordered (omega arith) (walk_begins rows) (begun_follows rows (parts_at rows w at next)) (begun_rest rows w at next)

-- the types count all faces, and all tetrahedra but the first
pub record CountsAll (rows : List Row) : Type 0 where
  pub faces : 4 * length rows ≡ sum_by faces_of_type (face_types rows)
  pub ones : 0 < length rows → times_in (face_types rows) 1 + 1 ≡ length rows

last_seen : (rows : List Row) (q : ℕ) (w : Walking) → length rows ≡ suc q → IsWalkOrdered rows → IsWalkTo rows (4 * length rows) w → q < w.seen
last_seen rows q w long ordered walk =
    let l : 4 * q < 4 * length rows = omega (arith, long) in
    let parts = and_parts (is_seen rows (record { tet = 4 * q / 4; face = 0 }) (4 * q / 4)) (is_ordered_gluing rows (face_of (4 * q)) (glue rows (face_of (4 * q)))) (ordered_at rows (4 * q) ordered l) in
    let zeroth : 0 ≡ 4 * q % 4 = omega arith in
    let here : is_seen rows (face_of (4 * q)) (4 * q / 4) ≡ true = ap (λ f. is_seen rows (record { tet = 4 * q / 4; face = f }) (4 * q / 4)) (sym zeroth) ∙ parts.0 in
    let end : 4 * q + 4 ≡ 4 * length rows = omega (arith, long) in
    let later = is_seen-later rows (4 * q) 4 (4 * q / 4) (omega (arith, long)) here in
    let at_end : is_seen rows (face_of (4 * length rows)) (4 * q / 4) ≡ true = subst (λ (k : ℕ). is_seen rows (face_of k) (4 * q / 4) ≡ true) end later in
    let seen = ltb-true (4 * q / 4) w.seen (sym (walk.seen (4 * q / 4)) ∙ at_end) in
    omega (arith, seen)

pub counts_all : (rows : List Row) → IsTable rows → IsWalkOrdered rows → CountsAll rows
counts_all rows table ordered =
    let r = run_of rows 1 0 0 table ordered in
    let f = r.follows in
    let read_faces = f.read_faces in
    let size = read_faces.size in
    let none : sum_by free r.to.read_faces ≡ 0 = all_met r.to.read_faces (λ p l. (glue rows (face_of p), read_faces.before p (omega (arith, size)))) in
    let types = walk_types rows (4 * length rows) r.walk refl r.walked in
    let count = f.count in
    let total = ap (sum_by faces_of_type) types in
    let ones = f.ones in
    let times = ap (λ ts. times_in ts 1) types in
    record { faces = omega (arith, none, count, total); ones = λ some. all_ones (length rows) refl some r.walk r.walked ones times }
  where
    all_ones : (n : ℕ) → length rows ≡ n → 0 < n → (w : Walking) → IsWalkTo rows (4 * length rows) w → w.seen ≡ 1 + times_in w.types 1 → times_in w.types 1 ≡ times_in (face_types rows) 1 → times_in (face_types rows) 1 + 1 ≡ n
    all_ones zero long some w walk ones times = absurd (omega arith)
    all_ones (suc q) long some w walk ones times =
        let last = last_seen rows q w long ordered walk in
        let most = walk.most (omega (arith, long)) in
        omega (arith, last, most, long, ones, times)

-- the rows of the joined faces are those of the table
pub joined_rows : (rows : List Row) (t : Slots) → IsTable rows → ((p : ℕ) → p < 4 * length rows → get_or t.read_faces p None ≡ Some (glue rows (face_of p))) → slot_rows (length rows) t.read_faces ≡ rows
joined_rows rows t table read_faces = ext_get_or [] (slot_rows (length rows) t.read_faces) rows long (λ i l. get_or-map-range_with_len (slot_row t.read_faces) 0 (length rows) i i [] (omega (arith, long, l)) (omega arith) ∙ row_same i (omega (arith, long, l)))
  where
    long : length (slot_rows (length rows) t.read_faces) ≡ length rows
    long = length-map-range_with_len (slot_row t.read_faces) 0 (length rows)

    row_same : (i : ℕ) → i < length rows → slot_row t.read_faces i ≡ get_or rows i []
    row_same i l =
        let four_long : length (get_or rows i []) ≡ 4 = table.four_faces i [] l in
        ext_get_or None (slot_row t.read_faces i) (get_or rows i []) (sym four_long)
        (λ f m. get_or-map-range_with_len (λ f. unwrap_or (slot t.read_faces (record { tet = i; face = f })) None) 0 4 f f None m (omega arith) ∙ face_same i f l m)
      where
        face_same : (i f : ℕ) → i < length rows → f < 4 → unwrap_or (slot t.read_faces (record { tet = i; face = f })) None ≡ get_or (get_or rows i []) f None
        face_same i f l m =
            let a : (4 * i + f) / 4 ≡ i = omega arith in
            let b : (4 * i + f) % 4 ≡ f = omega arith in
            ap (λ o. unwrap_or o None) (read_faces (4 * i + f) (omega arith)) ∙ (λ j. get_or (get_or rows (a j) []) (b j) None)

indices_small : (rows : List Row) → IsTable rows → All (λ v. v < 24) (indices_of rows)
indices_small rows table = all_mapped (λ v. v < 24) (λ (g : Gluing). index g.perm) (seen_gluings rows) (all_gluings rows (λ g. index g.perm < 24) (λ x g e. index_below g.perm (table.permutes x g e)) (faces (length rows)))

tets_small : (rows : List Row) → IsTable rows → All (λ v. v < length rows) (tets_of rows)
tets_small rows table = all_mapped (λ v. v < length rows) (λ (g : Gluing). g.tet) (seen_gluings rows) (all_gluings rows (λ g. g.tet < length rows) (λ x g e. table.in_range x g e) (faces (length rows)))

-- the last phase
pub spelled_slots : (rows : List Row) (w at next : ℕ) → IsTable rows → IsWalkOrdered rows → 0 < length rows → IsSlots (length rows) (slots_begun (length rows) (parts_at rows w at next))
spelled_slots rows w at next table ordered some =
    let twos = twos_of rows (faces (length rows)) in
    let d = length-placed w at (tets_of rows) in
    let d' = length-map (seen_gluings rows) (λ (g : Gluing). g.tet) in
    let g = length-placed 1 next (indices_of rows) in
    let g' = length-map (seen_gluings rows) (λ (g : Gluing). index g.perm) in
    let c = counts_all rows table ordered in
    record {
      size = length-replicate (4 * length rows) None;
      limited = table.limited;
      small = types_small rows;
      destinations = omega (arith, twos, d, d');
      gluings = omega (arith, twos, g, g');
      indices = placed_below 1 next 24 (indices_of rows) (indices_small rows table);
      room = (let o = c.ones some in omega (arith, o));
    }

pub spelled_joins : (rows : List Row) (w at next : ℕ) → IsTable rows → IsWalkOrdered rows → signatures.table_of (length rows) (parts_at rows w at next) ≡ Ok rows
spelled_joins rows w at next table ordered =
    let n : ℕ = length rows in
    let r = run_of rows w at next table ordered in
    let read_faces = r.follows.read_faces in
    sym (slots_join n (parts_at rows w at next) (spelled_slots rows w at next table ordered))
    ∙ next_ok (slot_faces (4 * n) 0 (slots_begun n (parts_at rows w at next))) r.to (λ s. Ok (slot_rows n s.read_faces)) r.goes
    ∙ ap (λ xs. Ok xs) (joined_rows rows r.to table (λ p l. read_faces.before p l))

-- the whole text

holds_whole : (text vs : List ℕ) → text ≡ map character vs → Holds text 0 vs
holds_whole text vs e =
    let long : length text ≡ length vs = ap (λ (xs : List ℕ). length xs) e ∙ length-map vs character in
    let exceeded : drop (0 + length vs) text ≡ [] = drop-exceeded (0 + length vs) text (omega (arith, long)) in
    e ∙ sym (append-nil (map character vs)) ∙ ap (λ rest. map character vs ++ rest) (sym exceeded)

length-numbers : (w : ℕ) (vs : List ℕ) → length (joined (map (in_values w) vs)) ≡ w * length vs
length-numbers w [] = omega arith
length-numbers w (v ∷ vs) = let a = length-append (in_values w v) (joined (map (in_values w) vs)) in let b = length-in_values w v in let c = length-numbers w vs in omega (arith, a, b, c)

spelled_values : (rows : List Row) → spelling rows ≡ map character (head_values (length rows) ++ packed (face_types rows) ++ joined (map (in_values (width (length rows))) (tets_of rows)) ++ indices_of rows)
unfolding spelling_values
spelled_values rows =
    ap (λ xs. map character (head_values (length rows) ++ packed (face_types rows) ++ joined xs ++ indices_of rows)) (map_twice (in_values (width (length rows))) (λ (g : Gluing). g.tet) (seen_gluings rows))

-- the sections of a table's text, at their places
pub record Stands (text : List ℕ) (rows : List Row) : Type 0 where
  pub head : Holds text 0 (head_values (length rows))
  pub types : Holds text (length (head_values (length rows))) (packed (face_types rows))
  pub destinations : Holds text (length (head_values (length rows)) + length (packed (face_types rows))) (joined (map (in_values (width (length rows))) (tets_of rows)))
  pub gluings : Holds text (length (head_values (length rows)) + length (packed (face_types rows)) + width (length rows) * length (tets_of rows)) (indices_of rows)
  pub end : length text ≡ length (head_values (length rows)) + length (packed (face_types rows)) + width (length rows) * length (tets_of rows) + length (indices_of rows)

occurs : (text : List ℕ) (rows : List Row) → text ≡ spelling rows → Stands text rows
occurs text rows e =
    let a : List ℕ = head_values (length rows) in
    let b : List ℕ = packed (face_types rows) in
    let c : List ℕ = joined (map (in_values (width (length rows))) (tets_of rows)) in
    let d : List ℕ = indices_of rows in
    let same : text ≡ map character (a ++ b ++ c ++ d) = e ∙ spelled_values rows in
    let first = holds_split text 0 (a ++ b ++ c) d (holds_whole text (a ++ b ++ c ++ d) same) in
    let second = holds_split text 0 (a ++ b) c first.0 in
    let third = holds_split text 0 a b second.0 in
    let l1 = length-append a b in
    let l2 = length-append (a ++ b) c in
    let l3 = length-append (a ++ b ++ c) d in
    let wide = length-numbers (width (length rows)) (tets_of rows) in
    let long : length text ≡ length (a ++ b ++ c ++ d) = ap (λ (xs : List ℕ). length xs) same ∙ length-map (a ++ b ++ c ++ d) character in
    let at_b : 0 + length a ≡ length a = omega arith in
    let at_c : 0 + length (a ++ b) ≡ length a + length b = omega (arith, l1) in
    let at_d : 0 + length (a ++ b ++ c) ≡ length a + length b + width (length rows) * length (tets_of rows) = omega (arith, l1, l2, wide) in
    record {
      head = third.0;
      types = subst (λ (k : ℕ). Holds text k b) at_b third.1;
      destinations = subst (λ (k : ℕ). Holds text k c) at_c second.1;
      gluings = subst (λ (k : ℕ). Holds text k d) at_d first.1;
      end = omega (arith, long, l1, l2, l3, wide);
    }

-- the phases before the last one
spelled_types : (text : List ℕ) (rows : List Row) → IsTable rows → IsWalkOrdered rows → Stands text rows
    → types_from (4 * length rows) text (length rows) (length (head_values (length rows))) (types_begun (length rows))
    ≡ Ok (behind_types (types_begun (length rows)) (face_types rows), length (head_values (length rows)) + length (packed (face_types rows)))
spelled_types text rows table ordered s =
    let c = counts_all rows table ordered in
    types_reads (4 * length rows) text (length rows) (length (head_values (length rows))) (types_begun (length rows)) (face_types rows) s.types (types_small rows) c.faces (omega arith)
    (λ some. let o = c.ones (omega (arith, some)) in omega (arith, o))

spelled_parts : (text : List ℕ) (rows : List Row) → IsTable rows → IsWalkOrdered rows → Stands text rows
    → (let at : ℕ = length (head_values (length rows)) + length (packed (face_types rows)) in
    parts_of text (record { count = length rows; width = width (length rows); next = length (head_values (length rows)) }) (behind_types (types_begun (length rows)) (face_types rows)) at
    ≡ Ok (parts_at rows (width (length rows)) at (at + width (length rows) * length (tets_of rows))))
spelled_parts text rows table ordered s =
    let n : ℕ = length rows in
    let w : ℕ = width n in
    let at : ℕ = length (head_values n) + length (packed (face_types rows)) in
    let tets : List ℕ = tets_of rows in
    let fits = width_fits n table.limited in
    let c = counts_all rows table ordered in
    let d' = length-map (seen_gluings rows) (λ (g : Gluing). g.tet) in
    let g' = length-map (seen_gluings rows) (λ (g : Gluing). index g.perm) in
    let twos : times_in (face_types rows) 2 ≡ length tets = (let e = twos_of rows (faces n) in omega (arith, e, d')) in
    let same : length (indices_of rows) ≡ length tets = omega (arith, d', g') in
    let late : nat_lt (0 + times_in (face_types rows) 1 + 1) n ≡ false = late_not n (times_in (face_types rows) 1) c.ones in
    let ds : numbers_in (times_in (face_types rows) 2) text w n sig_faults.Destination at ≡ Ok (placed w at tets) =
    ap (λ k. numbers_in k text w n sig_faults.Destination at) twos ∙ numbers_reads text w n sig_faults.Destination at tets s.destinations (tets_small rows table) (omega (arith, fits.2)) in
    let gluings_at : at + w * times_in (face_types rows) 2 ≡ at + w * length tets = ap (λ k. at + w * k) twos in
    let single : Holds text (at + w * length tets) (joined (map (in_values 1) (indices_of rows))) = subst (λ (xs : List ℕ). Holds text (at + w * length tets) xs) (sym (single_spelled (indices_of rows) (indices_small rows table))) s.gluings in
    let gs : numbers_in (times_in (face_types rows) 2) text 1 24 sig_faults.Gluing (at + w * times_in (face_types rows) 2) ≡ Ok (placed 1 (at + w * length tets) (indices_of rows)) =
    ap (λ k. numbers_in k text 1 24 sig_faults.Gluing (at + w * times_in (face_types rows) 2)) (twos ∙ sym same) ∙ ap (λ k. numbers_in (length (indices_of rows)) text 1 24 sig_faults.Gluing k) gluings_at
    ∙ numbers_reads text 1 24 sig_faults.Gluing (at + w * length tets) (indices_of rows) single (indices_small rows table) (omega arith) in
    let end = s.end in
    let more : nat_lt (at + w * times_in (face_types rows) 2 + times_in (face_types rows) 2) (length text) ≡ false = le-ltb (at + w * times_in (face_types rows) 2 + times_in (face_types rows) 2) (length text) (omega (arith, end, gluings_at, twos, same)) in
    let made : List (ℕ × ℕ) → List (ℕ × ℕ) → Parts = λ d g. record { types = face_types rows; destinations = d; gluings = g } in
    let trailing : SigFault = sig_faults.Trailing (at + w * times_in (face_types rows) 2 + times_in (face_types rows) 2) in
    let behind_d : List (ℕ × ℕ) → Result Parts SigFault = λ d. numbers_in (times_in (face_types rows) 2) text 1 24 sig_faults.Gluing (at + w * times_in (face_types rows) 2)
    >>= (λ g. signatures.unless (nat_lt (at + w * times_in (face_types rows) 2 + times_in (face_types rows) 2) (length text)) trailing (Ok (made d g))) in
    let first : signatures.unless (nat_lt (0 + times_in (face_types rows) 1 + 1) n) sig_faults.Unreached (numbers_in (times_in (face_types rows) 2) text w n sig_faults.Destination at) ≡ Ok (placed w at tets) =
    unless_of (nat_lt (0 + times_in (face_types rows) 1 + 1) n) sig_faults.Unreached (numbers_in (times_in (face_types rows) 2) text w n sig_faults.Destination at) late ∙ ds in
    next_ok (signatures.unless (nat_lt (0 + times_in (face_types rows) 1 + 1) n) sig_faults.Unreached (numbers_in (times_in (face_types rows) 2) text w n sig_faults.Destination at)) (placed w at tets) behind_d first
    ∙ next_ok (numbers_in (times_in (face_types rows) 2) text 1 24 sig_faults.Gluing (at + w * times_in (face_types rows) 2)) (placed 1 (at + w * length tets) (indices_of rows))
    (λ g. signatures.unless (nat_lt (at + w * times_in (face_types rows) 2 + times_in (face_types rows) 2) (length text)) trailing (Ok (made (placed w at tets) g))) gs
    ∙ unless_of (nat_lt (at + w * times_in (face_types rows) 2 + times_in (face_types rows) 2) (length text)) trailing (Ok (made (placed w at tets) (placed 1 (at + w * length tets) (indices_of rows)))) more
  where
    late_not : (n ones : ℕ) → (0 < n → ones + 1 ≡ n) → nat_lt (0 + ones + 1) n ≡ false
    late_not zero ones h = le-ltb (0 + ones + 1) 0 (omega arith)
    late_not (suc n) ones h = let e = h (omega arith) in le-ltb (0 + ones + 1) (suc n) (omega (arith, e))

pub spelled_read : (text : List ℕ) (rows : List Row) → Spells text rows → signature_table text ≡ Ok rows
spelled_read text rows h =
    let n : ℕ = length rows in
    let s = occurs text rows h.spelled in
    let head : Head = record { count = n; width = width n; next = length (head_values n) } in
    let at : ℕ = length (head_values n) + length (packed (face_types rows)) in
    let gluings_at : ℕ = at + width n * length (tets_of rows) in
    sym (signature_table-joined text head (behind_types (types_begun n) (face_types rows)) at (parts_at rows (width n) at gluings_at) n (reads_head text n h.table.limited s.head)
    (spelled_types text rows h.table h.ordered s) (spelled_parts text rows h.table h.ordered s) refl)
    ∙ spelled_joins rows (width n) at gluings_at h.table h.ordered

-- a text that is refused spells no table
fails_not : (e : SigFault) (rows : List Row) (r : Result (List Row) SigFault) → r ≡ Ok rows → Fails e r → e ≢ NoMemory → ⊥
fails_not e rows r h f ne = let fault : r ≡ Err e = f ne in cc

pub refused_on_err : (r : Result (List Row) SigFault) (text : List ℕ) → Reads (λ t. t) r (signature_table text) → IfErr r (SpellsNothing text)
refused_on_err (Ok rows) text h = tt
refused_on_err (Err e) text h = λ ne rows s. fails_not e rows (signature_table text) (spelled_read text rows s) h ne
