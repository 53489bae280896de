-- The traversal of a joined table gives the sections that it was joined from.
use Rattle.std.proofs.Common.{◌≡◌, ℕ, zero, suc, ◌+◌, ◌*◌, ◌/◌, ◌%◌, ◌<◌, ◌≤◌, Bool, true, false, List, [], ◌∷◌, ◌++◌, length, get_or, map, Option, Some, None, refl, sym, ap, ◌∙◌, subst, arith, ⊎_elim, append_assoc, append-nil}
use Rattle.std.specs.Prelude.{Ok, nat_lt, sum_by, ◌&&◌, ◌==◌, if◌then◌else◌, unwrap_or}
use Rattle.std.specs.List.{slice_index_or}
use Rattle.std.proofs.lemmas.Bool.{lt-ltb, le-ltb, eq-eqb, cases_lt, and_from}
use Rattle.std.proofs.lemmas.List.{map-append}
use Rattle.std.proofs.lemmas.List.FromFn.{get_or-map-range_with_len, length-map-range_with_len}
use Rattle.std.proofs.lemmas.List.Sums.{sum_by-cons}
use Rattle.basic_lemmas.proofs.Truths.{if_true, if_false}
use Rattle.table_definitions.specs.Lists.{same_list, times_in}
use Rattle.table_definitions.specs.Permutation.{identity, words, image, index}
use Rattle.table_definitions.specs.Table.{Gluing, Row, IsTable, glue, other_side, is_face_before, face_number}
use Rattle.signature_definitions.specs.WalkOrder.{IsWalkOrdered}
use Rattle.signature_definitions.specs.Spelling.{face_types, seen_gluings}
use Rattle.signature_definitions.specs.SignatureText as signatures
use Rattle.signature_definitions.specs.SignatureText.{faces_of_type}
use Rattle.table_definitions.proofs.Permutations.{image_below, words_permute, index-words}
use Rattle.table_definitions.specs.Places.{face_of}
use Rattle.table_definitions.proofs.Faces.{number-face_of, face_of-number}
use Rattle.signature_text_laws.specs.Slots.{Slots, slot, slot_face, slot_faces, slots_begun, slot_row, slot_rows, IsSlots}
use Rattle.signature_text_laws.specs.Walks.{Walking, with_type, take_entry, take_face, walk_begun, IsWalkTo}
use Rattle.signature_text_laws.proofs.SlotLaws.{ok_same, face_kept}
use Rattle.signature_text_laws.proofs.SeenLaws.{before_places}
use Rattle.signature_text_laws.proofs.WalkLaws.{takes_on, walk_begins, walk_ordered, walk_types, walk_gluings}
use Rattle.text_definitions.proofs.Readers.{bind_ok}
use Rattle.signature_text_laws.proofs.Stepping.{free, IsJoined, Stepped, stays, bounds, reaches, glues, stepped}
use Rattle.signature_text_laws.proofs.Joined.{met_here, new_met, glues_met, bound_here, joined_on, kept_on, joined_begun}

-- the gluing at index p of the rows
pub glue-slot_rows : (n : ℕ) (read_faces : List (Option (Option Gluing))) (p : ℕ) → p < 4 * n → glue (slot_rows n read_faces) (face_of p) ≡ unwrap_or (get_or read_faces p None) None
glue-slot_rows n read_faces p l =
    ap (λ (row : Row). get_or row (p % 4) None) (get_or-map-range_with_len (slot_row read_faces) 0 n (p / 4) (p / 4) [] (omega arith) (omega arith))
    ∙ get_or-map-range_with_len (λ f. unwrap_or (slot read_faces (record { tet = p / 4; face = f })) None) 0 4 (p % 4) (p % 4) None (omega arith) (omega arith)
    ∙ ap (λ q. unwrap_or (get_or read_faces q None) None) (number-face_of p)

-- the sections are what the traversal w has read and what remains of them
pub record Parted (parts : signatures.Parts) (w : Walking) (s : Slots) : Type 0 where
  pub seen : w.seen ≡ s.seen
  pub types : parts.types ≡ w.types ++ s.parts.types
  pub destinations : map (λ (d : ℕ × ℕ). d.0) parts.destinations ≡ map (λ (g : Gluing). g.tet) w.gluings ++ map (λ (d : ℕ × ℕ). d.0) s.parts.destinations
  pub gluings : map (λ (d : ℕ × ℕ). d.0) parts.gluings ≡ map (λ (g : Gluing). index g.perm) w.gluings ++ map (λ (d : ℕ × ℕ). d.0) s.parts.gluings

pub before_at : (k : ℕ) (g : Gluing) → image g.perm (k % 4) < 4 → is_face_before (other_side (face_of k) g) (face_of k) ≡ nat_lt (face_number (other_side (face_of k) g)) k
before_at k g h = ap (λ y. is_face_before y (face_of k)) (sym (face_of-number (other_side (face_of k) g) h)) ∙ before_places (face_number (other_side (face_of k) g)) k

taken : (rows : List Row) (k : ℕ) (w v : Walking) (o : Option Gluing) → k / 4 < w.seen → glue rows (face_of k) ≡ o → take_entry (face_of k) o w ≡ Some v → take_face rows (face_of k) w ≡ Some v
taken rows k w v o l e f = if_true (nat_lt (k / 4) w.seen) (take_entry (face_of k) (glue rows (face_of k)) w) None (lt-ltb (k / 4) w.seen l) ∙ ap (λ q. take_entry (face_of k) q w) e ∙ f

more_types : (parts : signatures.Parts) (w : Walking) (type : ℕ) (ts xs : List ℕ) → parts.types ≡ w.types ++ xs → xs ≡ type ∷ ts → parts.types ≡ (w.types ++ type ∷ []) ++ ts
more_types parts w type ts xs e f = e ∙ ap (λ ys. w.types ++ ys) f ∙ sym (append_assoc w.types (type ∷ []) ts)

-- a further face
walk_step : (n k : ℕ) (rows : List Row) (parts : signatures.Parts) (s t : Slots) (w : Walking) → IsTable rows → k < 4 * n → IsJoined n k s → k / 4 < s.seen → Stepped k s t → Parted parts w s
    → ((p : ℕ) (o : Option Gluing) → p < 4 * n → get_or t.read_faces p None ≡ Some o → glue rows (face_of p) ≡ o) → (v : Walking) × (take_face rows (face_of k) w ≡ Some v) × Parted parts v t
walk_step n k rows parts s t w table l j hx (stays o e same) h fin =
    ⊎_elim
    (λ (never : k < k). absurd (omega arith))
    (λ (m : (g : Gluing) × (o ≡ Some g) × (face_number (other_side (face_of k) g) < k)).
    let seen = h.seen in
    let here : glue rows (face_of k) ≡ Some m.0 = fin k o l (ap (λ (u : Slots). get_or u.read_faces k None) (sym same) ∙ e) ∙ m.1 in
    let face = image_below m.0.perm (table.permutes (face_of k) m.0 here) (k % 4) (omega arith) in
    let before = before_at k m.0 face ∙ lt-ltb (face_number (other_side (face_of k) m.0)) k m.2 in
    (w, taken rows k w w (Some m.0) (omega (arith, seen, hx)) here (if_true (is_face_before (other_side (face_of k) m.0) (face_of k)) _ _ before), subst (Parted parts w) same h))
    (j.origin k o e)
walk_step n k rows parts s t w table l j hx (bounds ts none types same) h fin =
    let seen = h.seen in
    let inside : k < length s.read_faces = (let f = j.fit in let size = f.size in omega (arith, size)) in
    let here : glue rows (face_of k) ≡ None = fin k None l (ap (λ (u : Slots). get_or u.read_faces k None) (sym same) ∙ bound_here s.read_faces k inside) in (
      with_type 0 w,
      taken rows k w (with_type 0 w) None (omega (arith, seen, hx)) here refl,
      subst (Parted parts (with_type 0 w)) same (record { seen = h.seen; types = more_types parts w 0 ts s.parts.types h.types types; destinations = h.destinations; gluings = h.gluings }),
    )
walk_step n k rows parts s t w table l j hx (reaches ts none types same) h fin =
    let seen = h.seen in
    let g : Gluing = record { tet = s.seen; perm = identity } in
    let v : Walking = record w { seen = w.seen + 1; types = w.types ++ 1 ∷ [] } in
    let b = new_met n k s ts l j hx none types in
    let here : glue rows (face_of k) ≡ Some g = fin k (Some g) l (ap (λ (u : Slots). get_or u.read_faces k None) (sym same) ∙ met_here s.read_faces k g b) in
    let face = image_below identity (words_permute 0 (omega arith)) (k % 4) (omega arith) in
    let late : k ≤ face_number (other_side (face_of k) g) = omega arith in
    let before = before_at k g face ∙ le-ltb (face_number (other_side (face_of k) g)) k late in
    let new : nat_lt s.seen w.seen ≡ false = le-ltb s.seen w.seen (omega (arith, seen)) in
    let next : ((s.seen == w.seen) && same_list identity identity) ≡ true = and_from (s.seen == w.seen) (same_list identity identity) (eq-eqb s.seen w.seen (sym seen)) refl in (
      v,
      taken rows k w v (Some g) (omega (arith, seen, hx)) here
          (if_false (is_face_before (other_side (face_of k) g) (face_of k)) _ _ before ∙ if_false (nat_lt s.seen w.seen) _ _ new ∙ if_true ((s.seen == w.seen) && same_list identity identity) _ _ next),
      subst (Parted parts v) same (record { seen = ap (λ m. m + 1) h.seen; types = more_types parts w 1 ts s.parts.types h.types types; destinations = h.destinations; gluings = h.gluings }),
    )
walk_step n k rows parts s t w table l j hx (glues ts d i ds gs none types dests gls small late separate free' same) h fin =
    let seen = h.seen in
    let g : Gluing = record { tet = d.0; perm = slice_index_or words i.0 [] } in
    let v : Walking = record w { types = w.types ++ 2 ∷ []; gluings = w.gluings ++ g ∷ [] } in
    let old : IsSlots n s = j.fit in
    let room = old.room in
    let permutes = words_permute i.0 small in
    let b = glues_met n k s g l old (omega (arith, late, room)) permutes none free' separate in
    let here : glue rows (face_of k) ≡ Some g = fin k (Some g) l (ap (λ (u : Slots). get_or u.read_faces k None) (sym same) ∙ met_here s.read_faces k g b) in
    let face = image_below g.perm permutes (k % 4) (omega arith) in
    let unmet : k ≤ face_number (other_side (face_of k) g) = not_before (face_number (other_side (face_of k) g)) free' in
    let before = before_at k g face ∙ le-ltb (face_number (other_side (face_of k) g)) k unmet in
    let lt : d.0 < w.seen = omega (arith, seen, late) in (
      v,
      taken rows k w v (Some g) (omega (arith, seen, hx)) here
          (if_false (is_face_before (other_side (face_of k) g) (face_of k)) _ _ before ∙ if_true (nat_lt d.0 w.seen) _ _ (lt-ltb d.0 w.seen lt)),
      subst (Parted parts v) same (record {
        seen = h.seen;
        types = more_types parts w 2 ts s.parts.types h.types types;
        destinations = h.destinations ∙ ap (λ xs. map (λ (g : Gluing). g.tet) w.gluings ++ map (λ (d : ℕ × ℕ). d.0) xs) dests
            ∙ sym (append_assoc (map (λ (g : Gluing). g.tet) w.gluings) (d.0 ∷ []) (map (λ (d : ℕ × ℕ). d.0) ds))
            ∙ ap (λ xs. xs ++ map (λ (d : ℕ × ℕ). d.0) ds) (sym (map-append (λ (g : Gluing). g.tet) w.gluings (g ∷ [])));
        gluings = h.gluings ∙ ap (λ xs. map (λ (g : Gluing). index g.perm) w.gluings ++ map (λ (d : ℕ × ℕ). d.0) xs) gls
            ∙ sym (append_assoc (map (λ (g : Gluing). index g.perm) w.gluings) (i.0 ∷ []) (map (λ (d : ℕ × ℕ). d.0) gs))
            ∙ ap (λ m. (map (λ (g : Gluing). index g.perm) w.gluings ++ m ∷ []) ++ map (λ (d : ℕ × ℕ). d.0) gs) (sym (index-words i.0 small))
            ∙ ap (λ xs. xs ++ map (λ (d : ℕ × ℕ). d.0) gs) (sym (map-append (λ (g : Gluing). index g.perm) w.gluings (g ∷ [])));
      }),
    )
  where
    not_before : (q : ℕ) → get_or s.read_faces q None ≡ None → k ≤ q
    not_before q e = ⊎_elim (λ (m : q < k). absurd (let b = j.before q m in let f = sym e ∙ b.1 in cc)) (λ (m : k ≤ q). m) (cases_lt q k)

-- all faces
walk_on : (n m k : ℕ) (rows : List Row) (parts : signatures.Parts) (s t : Slots) (w : Walking) → IsTable rows → length rows ≡ n → k + m ≡ 4 * n → IsJoined n k s → slot_faces m k s ≡ Ok t
    → IsWalkTo rows k w → Parted parts w s → ((p : ℕ) (o : Option Gluing) → p < 4 * n → get_or t.read_faces p None ≡ Some o → glue rows (face_of p) ≡ o)
    → (v : Walking) × IsWalkTo rows (4 * n) v × Parted parts v t × IsJoined n (4 * n) t
unfolding slot_faces
walk_on n zero k rows parts s t w table long e j h walk part fin =
    let same : s ≡ t = ok_same s t h in
    let end : k ≡ 4 * n = omega arith in
    (w, subst (λ (q : ℕ). IsWalkTo rows q w) end walk, subst (Parted parts w) same part, subst (λ (q : ℕ). IsJoined n q t) end (subst (IsJoined n k) same j))
walk_on n (suc m) k rows parts s t w table long e j h walk part fin =
    let a = bind_ok (slot_face (face_of k) s) (λ u. slot_faces m (k + 1) u) t h in
    let l : k < 4 * n = omega arith in
    let step = stepped n k s a.0 l j a.1 in
    let on = joined_on n k s a.0 l j step.0 (face_kept n (face_of k) s a.0 j.fit a.1) step.1 in
    let kept = kept_on n m (k + 1) a.0 t (omega arith) on.0 a.2 in
    let v = walk_step n k rows parts s a.0 w table l j step.0 step.1 part (λ p o q f. fin p o q (kept p o f)) in
    let inside : k < 4 * length rows = omega (arith, long) in
    walk_on n m (k + 1) rows parts a.0 t v.0 table long (omega arith) on.0 a.2 (takes_on rows k w v.0 table inside walk v.1) v.2 fin

-- nothing remains at the end
pub all_met : (read_faces : List (Option (Option Gluing))) → ((p : ℕ) → p < length read_faces → (o : Option Gluing) × (get_or read_faces p None ≡ Some o)) → sum_by free read_faces ≡ 0
all_met [] h = refl
all_met (None ∷ read_faces) h = absurd (let a = h 0 (omega arith) in let e = a.1 in cc)
all_met (Some o ∷ read_faces) h = let c = sum_by-cons free (Some o) read_faces in let r = all_met read_faces (λ p l. h (suc p) (omega arith)) in omega (arith, c, r)

pub no_types : (ts : List ℕ) → sum_by faces_of_type ts ≡ 0 → ts ≡ []
no_types [] e = refl
no_types (t ∷ ts) e = absurd (let c = sum_by-cons faces_of_type t ts in let f = faces_some (t == 0) in omega (arith, c, e, f))
  where
    faces_some : (b : Bool) → 1 ≤ (if b then 1 else 2)
    faces_some true = omega arith
    faces_some false = omega arith

pub no_pairs : (ps : List (ℕ × ℕ)) → length ps ≡ 0 → ps ≡ []
no_pairs [] e = refl
no_pairs (p ∷ ps) e = absurd (omega arith)

-- the sections are those of the text of the table
pub record IsPartedBy (parts : signatures.Parts) (rows : List Row) : Type 0 where
  pub ordered : IsWalkOrdered rows
  pub types : parts.types ≡ face_types rows
  pub destinations : map (λ (d : ℕ × ℕ). d.0) parts.destinations ≡ map (λ (g : Gluing). g.tet) (seen_gluings rows)
  pub gluings : map (λ (d : ℕ × ℕ). d.0) parts.gluings ≡ map (λ (g : Gluing). index g.perm) (seen_gluings rows)

pub joined_parts : (n : ℕ) (parts : signatures.Parts) (t : Slots) → IsSlots n (slots_begun n parts) → 4 * n ≡ sum_by faces_of_type parts.types → IsTable (slot_rows n t.read_faces)
    → slot_faces (4 * n) 0 (slots_begun n parts) ≡ Ok t → IsPartedBy parts (slot_rows n t.read_faces)
joined_parts n parts t fit sum table h =
    let rows : List Row = slot_rows n t.read_faces in
    let long : length rows ≡ n = length-map-range_with_len (slot_row t.read_faces) 0 n in
    let fin : (p : ℕ) (o : Option Gluing) → p < 4 * n → get_or t.read_faces p None ≡ Some o → glue rows (face_of p) ≡ o = λ p o l e. glue-slot_rows n t.read_faces p l ∙ ap (λ q. unwrap_or q None) e in
    let begun : Parted parts walk_begun (slots_begun n parts) = record { seen = refl; types = refl; destinations = refl; gluings = refl } in
    let w = walk_on n (4 * n) 0 rows parts (slots_begun n parts) t walk_begun table long (omega arith) (joined_begun n parts fit sum) h (walk_begins rows) begun fin in
    let end : 4 * n ≡ 4 * length rows = omega (arith, long) in
    finished n parts t rows w.0 end w.1 w.2 w.3
  where
    finished : (n : ℕ) (parts : signatures.Parts) (t : Slots) (rows : List Row) (v : Walking) → 4 * n ≡ 4 * length rows → IsWalkTo rows (4 * n) v → Parted parts v t → IsJoined n (4 * n) t → IsPartedBy parts rows
    finished n parts t rows v end walk part j =
        let fit = j.fit in
        let size = fit.size in
        let read_faces : sum_by free t.read_faces ≡ 0 = all_met t.read_faces (λ p l. j.before p (omega (arith, size))) in
        let none : t.parts.types ≡ [] = no_types t.parts.types (sym j.count ∙ read_faces) in
        let twos : times_in t.parts.types 2 ≡ 0 = ap (λ xs. times_in xs 2) none in
        let no_d : t.parts.destinations ≡ [] = no_pairs t.parts.destinations (fit.destinations ∙ twos) in
        let no_g : t.parts.gluings ≡ [] = no_pairs t.parts.gluings (fit.gluings ∙ twos) in
        record {
          ordered = walk_ordered rows (4 * n) v end walk;
          types = part.types ∙ ap (λ xs. v.types ++ xs) none ∙ append-nil v.types ∙ walk_types rows (4 * n) v end walk;
          destinations = part.destinations ∙ ap (λ xs. map (λ (g : Gluing). g.tet) v.gluings ++ map (λ (d : ℕ × ℕ). d.0) xs) no_d ∙ append-nil (map (λ (g : Gluing). g.tet) v.gluings)
              ∙ ap (map (λ (g : Gluing). g.tet)) (walk_gluings rows (4 * n) v end walk);
          gluings = part.gluings ∙ ap (λ xs. map (λ (g : Gluing). index g.perm) v.gluings ++ map (λ (d : ℕ × ℕ). d.0) xs) no_g ∙ append-nil (map (λ (g : Gluing). index g.perm) v.gluings)
              ∙ ap (map (λ (g : Gluing). index g.perm)) (walk_gluings rows (4 * n) v end walk);
        }
