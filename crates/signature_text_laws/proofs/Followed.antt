-- Joining the sections of the text of a walk-ordered table, face after face, gives the table.
use Rattle.std.proofs.Common.{◌≡◌, ℕ, zero, suc, ◌+◌, ◌*◌, ◌/◌, ◌%◌, ◌<◌, true, false, List, [], ◌∷◌, ◌++◌, length, drop, get_or, map, Option, Some, None, refl, sym, ap, ◌∙◌, subst, arith}
use Rattle.std.specs.Prelude.{Ok, nat_le, is_some, filter_map, sum_by, ◌||◌, ◌==◌, if◌then◌else◌, cond}
use Rattle.std.specs.List.{slice_index_or, list_all, range_with_len}
use Rattle.std.proofs.lemmas.Bool.{lt-ltb, le-ltb, or_from}
use Rattle.std.proofs.lemmas.List.Sums.{sum_by-cons, sum_by-append}
use Rattle.basic_lemmas.proofs.Truths.{if_false}
use Rattle.table_definitions.specs.Lists.{below, times_in}
use Rattle.table_definitions.specs.Permutation.{identity, words, index, IsPermutationOfFour}
use Rattle.table_definitions.specs.Table.{Gluing, Row, Face, IsTable, glue, other_side, same_face, is_face_before, face_number}
use Rattle.signature_definitions.specs.declared.SigFault.TheVariants as sig_faults
use Rattle.signature_definitions.specs.WalkOrder.{is_seen, is_ordered_at, IsWalkOrdered}
use Rattle.signature_definitions.specs.Spelling.{type_of, seen_gluing}
use Rattle.signature_definitions.specs.SignatureText as signatures
use Rattle.signature_definitions.specs.SignatureText.{faces_of_type}
use Rattle.table_definitions.proofs.ListFacts.{list_all-below}
use Rattle.table_definitions.proofs.Permutations.{image_below, words_at}
use Rattle.table_definitions.specs.Places.{face_of}
use Rattle.table_definitions.proofs.Faces.{number-face_of}
use Rattle.signature_text_laws.specs.Slots.{Slots, slot, meet_at, slot_boundary, slot_glued, slot_type, with_types, slot_next, slot_face, slot_faces}
use Rattle.signature_text_laws.specs.Walks.{Walking, take_face, IsWalkTo}
use Rattle.signature_text_laws.proofs.ReadLaws.{next_ok}
use Rattle.signature_text_laws.proofs.Simulation.{faces-places}
use Rattle.signature_text_laws.proofs.WalkLaws.{takes_on, takes_off, list_all-map}
use Rattle.signature_text_laws.proofs.Stepping.{free}
use Rattle.signature_text_laws.proofs.Joined.{met_count, bound_count}
use Rattle.signature_text_laws.proofs.Walked.{before_at}
use Rattle.signature_text_laws.proofs.SpelledReads.{unless_of}
use Rattle.signature_text_laws.proofs.Following.{Took, took_none, took_met, took_old, took_new, took, FollowsMet, met_follows, bound_follows, both_unmet, both_follows}

-- the type of a face in the text of a table
abbrev pub type_at : List Row → Face → Option ℕ
type_at rows x = type_of rows x (glue rows x)

abbrev pub gluing_at : List Row → Face → Option Gluing
gluing_at rows x = seen_gluing rows x (glue rows x)

-- m faces from index k on
abbrev pub faces_from : ℕ → ℕ → List Face
faces_from k m = map face_of (range_with_len k m)

abbrev pub values_of : List (ℕ × ℕ) → List ℕ
values_of ps = map (λ (p : ℕ × ℕ). p.0) ps

-- the unused sections are those of m faces from index k on
pub record Rest (rows : List Row) (k m : ℕ) (s : Slots) : Type 0 where
  pub types : s.parts.types ≡ filter_map (type_at rows) (faces_from k m)
  pub destinations : values_of s.parts.destinations ≡ map (λ (g : Gluing). g.tet) (filter_map (gluing_at rows) (faces_from k m))
  pub gluings : values_of s.parts.gluings ≡ map (λ (g : Gluing). index g.perm) (filter_map (gluing_at rows) (faces_from k m))

-- before the face at index k, the state s agrees with the traversal w
pub record Follows (rows : List Row) (k : ℕ) (w : Walking) (s : Slots) : Type 0 where
  pub read_faces : FollowsMet rows k s.read_faces
  pub seen : s.seen ≡ w.seen
  pub count : sum_by free s.read_faces + sum_by faces_of_type w.types ≡ 4 * length rows
  pub ones : w.seen ≡ 1 + times_in w.types 1

filter_none : {A : Type 0} (F : Face → Option A) (x : Face) (xs : List Face) → F x ≡ None → filter_map F (x ∷ xs) ≡ filter_map F xs
filter_none F x xs e = rw e refl

filter_some : {A : Type 0} (F : Face → Option A) (x : Face) (xs : List Face) (y : A) → F x ≡ Some y → filter_map F (x ∷ xs) ≡ y ∷ filter_map F xs
filter_some F x xs y e = rw e refl

-- the first of a list of numbers with their places
pairs_front : (ps : List (ℕ × ℕ)) (v : ℕ) (vs : List ℕ) → values_of ps ≡ v ∷ vs → ((signatures.first_pair ps).0 ≡ v) × (values_of (drop 1 ps) ≡ vs)
pairs_front [] v vs e = cc
pairs_front (p ∷ ps) v vs e = (first p.0 v (values_of ps) vs e, rest p.0 v (values_of ps) vs e)
  where
    first : (a b : ℕ) (xs ys : List ℕ) → a ∷ xs ≡ b ∷ ys → a ≡ b
    first a b xs ys e = cc

    rest : (a b : ℕ) (xs ys : List ℕ) → a ∷ xs ≡ b ∷ ys → xs ≡ ys
    rest a b xs ys e = cc

-- a face that was read leaves the state unchanged
next_stays : (x : Face) (ts : List ℕ) (s : Slots) → is_some (slot s.read_faces x) ≡ true → slot_next x ts s ≡ Ok s
next_stays x [] s e = refl
next_stays x (t ∷ ts) s e = rw e refl

face_goes : (k : ℕ) (s : Slots) → k / 4 < s.seen → slot_face (face_of k) s ≡ slot_next (face_of k) s.parts.types s
face_goes k s l = unless_of (nat_le s.seen (k / 4)) sig_faults.Unreached (slot_next (face_of k) s.parts.types s) (not_le s.seen (k / 4) l)
  where
    not_le : (a b : ℕ) → b < a → nat_le a b ≡ false
    not_le a b h = grind arith

slot_here : (k : ℕ) (s : Slots) (o : Option (Option Gluing)) → get_or s.read_faces k None ≡ o → slot s.read_faces (face_of k) ≡ o
slot_here k s o e = ap (λ p. get_or s.read_faces p None) (number-face_of k) ∙ e

type_goes : (k type : ℕ) (ts : List ℕ) (s : Slots) → k / 4 < s.seen → get_or s.read_faces k None ≡ None → s.parts.types ≡ type ∷ ts → slot_face (face_of k) s ≡ slot_type (face_of k) type (with_types ts s)
type_goes k type ts s l e types =
    face_goes k s l ∙ ap (λ us. slot_next (face_of k) us s) types
    ∙ if_false (is_some (slot s.read_faces (face_of k))) (Ok s) (slot_type (face_of k) type (with_types ts s)) (ap is_some (slot_here k s None e))

times-behind : (type : ℕ) (ts : List ℕ) → times_in (ts ++ type ∷ []) 1 ≡ times_in ts 1 + (if type == 1 then 1 else 0)
times-behind type ts = let a = sum_by-append (λ m. cond (m == 1) 1 0) ts (type ∷ []) in let b = sum_by-cons (λ m. cond (m == 1) 1 0) type [] in omega (arith, a, b)

faces-behind : (type : ℕ) (ts : List ℕ) → sum_by faces_of_type (ts ++ type ∷ []) ≡ sum_by faces_of_type ts + faces_of_type type
faces-behind type ts = let a = sum_by-append faces_of_type ts (type ∷ []) in let b = sum_by-cons faces_of_type type [] in omega (arith, a, b)

-- joining the face at index k gives a state that agrees with the traversal
pub record Step (rows : List Row) (k m : ℕ) (v : Walking) (s : Slots) : Type 0 where
  pub to : Slots
  pub goes : slot_face (face_of k) s ≡ Ok to
  pub follows : Follows rows (k + 1) v to
  pub rest : Rest rows (k + 1) m to

follow_step : (rows : List Row) (k m : ℕ) (w v : Walking) (s : Slots) → IsTable rows → k < 4 * length rows → IsWalkTo rows k w → Follows rows k w s → Rest rows k (suc m) s → k / 4 < w.seen → Took rows k w v → Step rows k m v s
follow_step rows k m w v s table l walk f r hx (took_none e same) =
    let xs : List Face = faces_from (k + 1) m in
    let ts : List ℕ = filter_map (type_at rows) xs in
    let read_faces = f.read_faces in
    let size = read_faces.size in
    let seen = f.seen in
    let type : type_at rows (face_of k) ≡ Some 0 = ap (type_of rows (face_of k)) e in
    let none : gluing_at rows (face_of k) ≡ None = ap (seen_gluing rows (face_of k)) e in
    let types : s.parts.types ≡ 0 ∷ ts = r.types ∙ filter_some (type_at rows) (face_of k) xs 0 type in
    let unmet : get_or s.read_faces k None ≡ None = read_faces.unmet k (omega arith) l (λ h glued. absurd (let c = sym e ∙ glued in cc)) in
    let count = bound_count s.read_faces k (omega (arith, size, l)) unmet in
    let old = f.count in
    let more = faces-behind 0 w.types in
    let ones = f.ones in
    let times = times-behind 0 w.types in
    record {
      to = slot_boundary (face_of k) (with_types ts s);
      goes = type_goes k 0 ts s (omega (arith, seen, hx)) unmet types;
      follows = subst (λ (u : Walking). Follows rows (k + 1) u (slot_boundary (face_of k) (with_types ts s))) same (record {
        read_faces = bound_follows rows k s.read_faces table l read_faces e;
        seen = f.seen;
        count = omega (arith, count, old, more);
        ones = omega (arith, ones, times);
      });
      rest = record {
        types = refl;
        destinations = r.destinations ∙ ap (map (λ (g : Gluing). g.tet)) (filter_none (gluing_at rows) (face_of k) xs none);
        gluings = r.gluings ∙ ap (map (λ (g : Gluing). index g.perm)) (filter_none (gluing_at rows) (face_of k) xs none);
      };
    }
follow_step rows k m w v s table l walk f r hx (took_met g e early same) =
    let xs : List Face = faces_from (k + 1) m in
    let read_faces = f.read_faces in
    let seen = f.seen in
    let face = image_below g.perm (table.permutes (face_of k) g e) (k % 4) (omega arith) in
    let before : is_face_before (other_side (face_of k) g) (face_of k) ≡ true = before_at k g face ∙ lt-ltb (face_number (other_side (face_of k) g)) k early in
    let type : type_at rows (face_of k) ≡ None = ap (type_of rows (face_of k)) e ∙ rw before refl in
    let none : gluing_at rows (face_of k) ≡ None = ap (seen_gluing rows (face_of k)) e ∙ rw before refl in
    let here : get_or s.read_faces k None ≡ Some (Some g) = read_faces.partner k g (omega arith) l e early in
    record {
      to = s;
      goes = face_goes k s (omega (arith, seen, hx)) ∙ next_stays (face_of k) s.parts.types s (ap is_some (slot_here k s (Some (Some g)) here));
      follows = subst (λ (u : Walking). Follows rows (k + 1) u s) same (record { read_faces = met_follows rows k g s.read_faces table l read_faces e early; seen = f.seen; count = f.count; ones = f.ones });
      rest = record {
        types = r.types ∙ filter_none (type_at rows) (face_of k) xs type;
        destinations = r.destinations ∙ ap (map (λ (g : Gluing). g.tet)) (filter_none (gluing_at rows) (face_of k) xs none);
        gluings = r.gluings ∙ ap (map (λ (g : Gluing). index g.perm)) (filter_none (gluing_at rows) (face_of k) xs none);
      };
    }
follow_step rows k m w v s table l walk f r hx (took_old g e late old same) =
    let xs : List Face = faces_from (k + 1) m in
    let ts : List ℕ = filter_map (type_at rows) xs in
    let read_faces = f.read_faces in
    let seen = f.seen in
    let face = image_below g.perm (table.permutes (face_of k) g e) (k % 4) (omega arith) in
    let before : is_face_before (other_side (face_of k) g) (face_of k) ≡ false = before_at k g face ∙ le-ltb (face_number (other_side (face_of k) g)) k late in
    let is_old : is_seen rows (face_of k) g.tet ≡ true = walk.seen g.tet ∙ lt-ltb g.tet w.seen old in
    let type : type_at rows (face_of k) ≡ Some 2 = ap (type_of rows (face_of k)) e ∙ rw (before, is_old) refl in
    let some : gluing_at rows (face_of k) ≡ Some g = ap (seen_gluing rows (face_of k)) e ∙ rw (before, is_old) refl in
    let types : s.parts.types ≡ 2 ∷ ts = r.types ∙ filter_some (type_at rows) (face_of k) xs 2 type in
    let b = both_unmet rows k g s.read_faces table l read_faces e late in
    let ds = pairs_front s.parts.destinations g.tet (map (λ (g : Gluing). g.tet) (filter_map (gluing_at rows) xs)) (r.destinations ∙ ap (map (λ (g : Gluing). g.tet)) (filter_some (gluing_at rows) (face_of k) xs g some)) in
    let gs = pairs_front s.parts.gluings (index g.perm) (map (λ (g : Gluing). index g.perm) (filter_map (gluing_at rows) xs)) (r.gluings ∙ ap (map (λ (g : Gluing). index g.perm)) (filter_some (gluing_at rows) (face_of k) xs g some)) in
    let rest : signatures.Parts = record { types = ts; destinations = drop 1 s.parts.destinations; gluings = drop 1 s.parts.gluings } in
    let t : Slots = record { read_faces = meet_at s.read_faces (face_of k) g; seen = s.seen; parts = rest } in
    let count = met_count s.read_faces k g b in
    let total = f.count in
    let more = faces-behind 2 w.types in
    let ones = f.ones in
    let times = times-behind 2 w.types in
    record {
      to = t;
      goes = type_goes k 2 ts s (omega (arith, seen, hx)) b.free_here types
          ∙ glued_goes k (signatures.first_pair s.parts.destinations) (signatures.first_pair s.parts.gluings) g s.read_faces s.seen rest ds.0 (gs.0) (table.permutes (face_of k) g e) (omega (arith, seen, old)) b.separate b.free_other;
      follows = subst (λ (u : Walking). Follows rows (k + 1) u t) same (record { read_faces = both_follows rows k g s.read_faces table read_faces e b; seen = f.seen; count = omega (arith, count, total, more); ones = omega (arith, ones, times) });
      rest = record { types = refl; destinations = ds.1; gluings = gs.1 };
    }
  where
    glued_goes : (k : ℕ) (d i : ℕ × ℕ) (g : Gluing) (read_faces : List (Option (Option Gluing))) (seen : ℕ) (parts : signatures.Parts) → d.0 ≡ g.tet → i.0 ≡ index g.perm → IsPermutationOfFour g.perm → g.tet < seen
        → same_face (other_side (face_of k) g) (face_of k) ≡ false → get_or read_faces (face_number (other_side (face_of k) g)) None ≡ None
        → slot_glued (face_of k) d i (record { read_faces = read_faces; seen = seen; parts = parts }) ≡ Ok (record { read_faces = meet_at read_faces (face_of k) g; seen = seen; parts = parts })
    glued_goes k d i g read_faces seen parts hd hi permutes lt separate free_other =
        let h : Gluing = record { tet = d.0; perm = slice_index_or words i.0 [] } in
        let perm : slice_index_or words i.0 [] ≡ g.perm = ap (λ m. slice_index_or words m []) hi ∙ words_at g.perm permutes in
        let same : g ≡ h = λ j. record { tet = sym hd j; perm = sym perm j } in
        let P : Gluing → Type 0 = λ x. signatures.unless {A = Slots} (nat_le seen x.tet) (sig_faults.Destination d.1) (signatures.unless {A = Slots} (same_face (other_side (face_of k) x) (face_of k) || is_some (slot read_faces (other_side (face_of k) x))) (sig_faults.FaceTaken i.1)
        (Ok (record { read_faces = meet_at read_faces (face_of k) x; seen = seen; parts = parts }))) ≡ Ok (record { read_faces = meet_at read_faces (face_of k) g; seen = seen; parts = parts }) in
        subst P same
        (unless_of (nat_le seen g.tet) (sig_faults.Destination d.1) _ (not_le seen g.tet lt)
        ∙ unless_of (same_face (other_side (face_of k) g) (face_of k) || is_some (slot read_faces (other_side (face_of k) g))) (sig_faults.FaceTaken i.1) _ (or_from _ _ separate (ap is_some free_other)))
      where
        not_le : (a b : ℕ) → b < a → nat_le a b ≡ false
        not_le a b h = grind arith
follow_step rows k m w v s table l walk f r hx (took_new g e late same_tet id same) =
    let xs : List Face = faces_from (k + 1) m in
    let ts : List ℕ = filter_map (type_at rows) xs in
    let read_faces = f.read_faces in
    let seen = f.seen in
    let face = image_below g.perm (table.permutes (face_of k) g e) (k % 4) (omega arith) in
    let before : is_face_before (other_side (face_of k) g) (face_of k) ≡ false = before_at k g face ∙ le-ltb (face_number (other_side (face_of k) g)) k late in
    let is_new : is_seen rows (face_of k) g.tet ≡ false = walk.seen g.tet ∙ le-ltb g.tet w.seen (omega (arith, same_tet)) in
    let type : type_at rows (face_of k) ≡ Some 1 = ap (type_of rows (face_of k)) e ∙ rw (before, is_new) refl in
    let none : gluing_at rows (face_of k) ≡ None = ap (seen_gluing rows (face_of k)) e ∙ rw (before, is_new) refl in
    let types : s.parts.types ≡ 1 ∷ ts = r.types ∙ filter_some (type_at rows) (face_of k) xs 1 type in
    let b = both_unmet rows k g s.read_faces table l read_faces e late in
    let t : Slots = record { read_faces = meet_at s.read_faces (face_of k) g; seen = s.seen + 1; parts = record s.parts { types = ts } } in
    let h : Gluing = record { tet = s.seen; perm = identity } in
    let made : h ≡ g = (let tet : s.seen ≡ g.tet = seen ∙ sym same_tet in λ i. record { tet = tet i; perm = sym id i }) in
    let count = met_count s.read_faces k g b in
    let total = f.count in
    let more = faces-behind 1 w.types in
    let ones = f.ones in
    let times = times-behind 1 w.types in
    record {
      to = t;
      goes = type_goes k 1 ts s (omega (arith, seen, hx)) b.free_here types ∙ ap (λ (x : Gluing). Ok (record { read_faces = meet_at s.read_faces (face_of k) x; seen = s.seen + 1; parts = record s.parts { types = ts } })) made;
      follows = subst (λ (u : Walking). Follows rows (k + 1) u t) same (record { read_faces = both_follows rows k g s.read_faces table read_faces e b; seen = ap (λ q. q + 1) f.seen; count = omega (arith, count, total, more); ones = omega (arith, ones, times) });
      rest = record {
        types = refl;
        destinations = r.destinations ∙ ap (map (λ (g : Gluing). g.tet)) (filter_none (gluing_at rows) (face_of k) xs none);
        gluings = r.gluings ∙ ap (map (λ (g : Gluing). index g.perm)) (filter_none (gluing_at rows) (face_of k) xs none);
      };
    }

-- each face of a walk-ordered table is in order
pub ordered_at : (rows : List Row) (k : ℕ) → IsWalkOrdered rows → k < 4 * length rows → is_ordered_at rows (face_of k) ≡ true
ordered_at rows k ordered l =
    list_all-below (λ m. is_ordered_at rows (face_of m)) (4 * length rows)
    (sym (list_all-map (is_ordered_at rows) face_of (below (4 * length rows))) ∙ ap (list_all (is_ordered_at rows)) (sym (faces-places (length rows))) ∙ ordered) k l

taken_at : (rows : List Row) (k : ℕ) (w : Walking) → IsWalkOrdered rows → k < 4 * length rows → IsWalkTo rows k w → (v : Walking) × (take_face rows (face_of k) w ≡ Some v)
taken_at rows k w ordered l walk = cases (take_face rows (face_of k) w) refl
  where
    cases : (o : Option Walking) → take_face rows (face_of k) w ≡ o → (v : Walking) × (take_face rows (face_of k) w ≡ Some v)
    cases None e = absurd (let a = takes_off rows k w l walk e in let b = ordered_at rows k ordered l in let c = sym a ∙ b in cc)
    cases (Some v) e = (v, e)

-- all faces
pub record Followed (rows : List Row) (m k : ℕ) (s : Slots) : Type 0 where
  pub to : Slots
  pub walk : Walking
  pub goes : slot_faces m k s ≡ Ok to
  pub walked : IsWalkTo rows (4 * length rows) walk
  pub follows : Follows rows (4 * length rows) walk to

pub follow : (rows : List Row) (m k : ℕ) (w : Walking) (s : Slots) → IsTable rows → IsWalkOrdered rows → k + m ≡ 4 * length rows → IsWalkTo rows k w → Follows rows k w s → Rest rows k m s → Followed rows m k s
unfolding slot_faces
follow rows zero k w s table ordered e walk f r =
    let end : k ≡ 4 * length rows = omega arith in
    record { to = s; walk = w; goes = refl; walked = subst (λ (q : ℕ). IsWalkTo rows q w) end walk; follows = subst (λ (q : ℕ). Follows rows q w s) end f }
follow rows (suc m) k w s table ordered e walk f r =
    let l : k < 4 * length rows = omega arith in
    let v = taken_at rows k w ordered l walk in
    let t = took rows k w v.0 table v.1 in
    let step = follow_step rows k m w v.0 s table l walk f r t.0 t.1 in
    let rest = follow rows m (k + 1) v.0 step.to table ordered (omega arith) (takes_on rows k w v.0 table l walk v.1) step.follows step.rest in
    record { to = rest.to; walk = rest.walk; goes = next_ok (slot_face (face_of k) s) step.to (λ u. slot_faces m (k + 1) u) step.goes ∙ rest.goes; walked = rest.walked; follows = rest.follows }
