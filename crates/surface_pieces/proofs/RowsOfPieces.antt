-- For each piece, a row of what it is joined to, and the rows of numbers that are read from these.
use Rattle.std.proofs.Common.{◌≡◌, ℕ, suc, ◌+◌, ◌*◌, ◌%◌, ◌<◌, ◌≤◌, inl, inr, List, [], ◌∷◌, length, Option, Some, None, IfSome, IfNone, set, ◌++◌, refl, sym, ap, ◌∙◌, subst, arith}
use Rattle.std.specs.List.{slice_index_or}
use Rattle.std.proofs.lemmas.Bool.{cases_eq}
use Rattle.std.proofs.lemmas.List.{length-set, get_or-set_same, get_or-set_other, get_or_append_left, get_or_push, get_or_default}
use Rattle.table_definitions.specs.Table.{Gluing, Row}
use Rattle.table_definitions.proofs.TableLaws.{Among}
use Rattle.table_definitions.proofs.Listed.{among_contains}
use Rattle.table_walk_laws.specs.Joined.{present}
use Rattle.table_walk_laws.proofs.Rows.{present_contains}
use Rattle.surface_definitions.specs.declared.Coords.{Coords}
use Rattle.surface_definitions.specs.Pieces.{NormalDisc, Arc, arc_across, disc_of, discs_of, disc_number}
use Rattle.surface_laws.specs.PieceLaws.{IsSurface, IsPieceOf, reversed_if}
use Rattle.surface_laws.proofs.PieceNumbers.{no_piece, listed_piece}
use Rattle.surface_pieces.specs.Across.{Across}
use Rattle.surface_pieces.specs.declared.joined.SearchKind.{SearchKind}
use Rattle.surface_pieces.specs.declared.joined.SearchKind.TheVariants.{Pieces, Signed}
use Rattle.surface_pieces.specs.declared.joined.SignKind.TheVariants.{Sides, Orientation}
use Rattle.surface_pieces.specs.Meetings.{HasNoMeeting}
use Rattle.surface_pieces.specs.Joinings.{IsJoinedAt, IsJoinedUpTo, IsJoinedRow, AreJoined}
use Rattle.surface_pieces.specs.Searches.{numbers, piece_in, number_across, IsArcTo, IsRow, AreRows}
use Rattle.surface_pieces.specs.Readings.{read_across, read_at, IsReadRow, AreReadRows}
use Rattle.surface_pieces.specs.Slots.{slots_each, vertex_of_slot}
use Rattle.surface_pieces.proofs.SlotsOfArcs.{HasSlot, slot_of_arc}

-- a number that is present is in a slot
present_place : (row : List (Option ℕ)) (l : ℕ) → Among l (present row) → (s : ℕ) × (s < length row) × (slice_index_or row s None ≡ Some l)
present_place [] l h = absurd h
present_place (None ∷ row) l h = let p = present_place row l h in (suc p.0, (let k = p.1 in omega arith), p.2)
present_place (Some m ∷ row) l (inl e) = (0, omega arith, ap Some (sym e))
present_place (Some m ∷ row) l (inr h) = let p = present_place row l h in (suc p.0, (let k = p.1 in omega arith), p.2)

module _ (rows : List Row) (coords : Coords) (xs : List ℕ) (p : NormalDisc) where
  -- what one slot contains
  abbrev pub IsSlot : ℕ → Option Across → Type 0
  IsSlot slot o = IfSome o (IsJoinedAt rows coords xs p (slot % 4) (vertex_of_slot coords p slot)) × IfNone o (HasNoMeeting rows coords xs p (slot % 4) (vertex_of_slot coords p slot))

  slot_some : (slot : ℕ) (j : Across) (o : Option Across) → IsSlot slot o → o ≡ Some j → IsJoinedAt rows coords xs p (slot % 4) (vertex_of_slot coords p slot) j
  slot_some slot j None h e = absurd (let q : None ≡ Some j = e in cc)
  slot_some slot j (Some k) h e = subst (IsJoinedAt rows coords xs p (slot % 4) (vertex_of_slot coords p slot)) (let q : Some k ≡ Some j = e in cc) h.0

  slot_none : (slot : ℕ) (o : Option Across) → IsSlot slot o → o ≡ None → HasNoMeeting rows coords xs p (slot % 4) (vertex_of_slot coords p slot)
  slot_none slot None h e = h.1
  slot_none slot (Some k) h e = absurd (let q : Some k ≡ None = e in cc)

  pub slot_next : (slot : ℕ) (row : List (Option Across)) (o : Option Across) → slot < slots_each coords → IsJoinedUpTo rows coords xs p slot row → IsSlot slot o → IsJoinedUpTo rows coords xs p (slot + 1) (set row slot o)
  slot_next slot row o l u h = record {
    size = length-set row slot o ∙ u.size;
    some = λ s j ls e. elim (cases_eq s slot) [
      | inl same ↦ subst (λ t. IsJoinedAt rows coords xs p (t % 4) (vertex_of_slot coords p t) j) (sym same) (slot_some slot j o h (here s same ∙ e))
      | inr separate ↦ u.some s j (omega arith) (sym (get_or-set_other row slot s o None separate) ∙ e)
    ];
    none = λ s ls e. elim (cases_eq s slot) [
      | inl same ↦ subst (λ t. HasNoMeeting rows coords xs p (t % 4) (vertex_of_slot coords p t)) (sym same) (slot_none slot o h (here s same ∙ e))
      | inr separate ↦ u.none s (omega arith) (sym (get_or-set_other row slot s o None separate) ∙ e)
    ];
  }
    where
      here : (s : ℕ) → s ≡ slot → o ≡ slice_index_or (set row slot o) s None
      here s same = sym (get_or-set_same row slot o None (omega (arith, u.size))) ∙ ap (λ t. slice_index_or (set row slot o) t None) (sym same)

  module _ (kind : SearchKind) (k : ℕ) where
    -- the number for what is across an arc
    abbrev number_by : Arc → Gluing → ℕ
    number_by a g = number_across kind coords xs a g k (disc_number xs (disc_of coords xs (arc_across g a)))

    across_is : (f v : ℕ) (j : Across) (i : IsJoinedAt rows coords xs p f v j) → number_by i.arc i.gluing ≡ read_across kind k j
    across_is f v j i = by_kind kind i
      where
        by_kind : (kind : SearchKind) (i : IsJoinedAt rows coords xs p f v j) → number_across kind coords xs i.arc i.gluing k (disc_number xs (disc_of coords xs (arc_across i.gluing i.arc))) ≡ read_across kind k j
        by_kind Pieces i = sym i.piece
        by_kind (Signed Sides) i = λ t. 2 * sym i.piece t + reversed_if (sym i.sides t) (k % 2)
        by_kind (Signed Orientation) i = λ t. 2 * sym i.piece t + reversed_if (sym i.orientation t) (k % 2)

    leads_from : (slot m : ℕ) (row : List (Option Across)) (o : Option Across) → IsJoinedRow rows coords xs p row → slot < slots_each coords → slice_index_or row slot None ≡ o → read_at kind k o ≡ Some m → IsArcTo kind rows coords xs p k m
    leads_from slot m row None u l e n = absurd (let q : None ≡ Some m = n in cc)
    leads_from slot m row (Some j) u l e n =
        let i : IsJoinedAt rows coords xs p (slot % 4) (vertex_of_slot coords p slot) j = u.some slot j l e in
        record { arc = i.arc; gluing = i.gluing; meets = i.meets; one = i.one; other = across_is (slot % 4) (vertex_of_slot coords p slot) j i ∙ (let q : Some (read_across kind k j) ≡ Some m = n in cc) }

    inverse_if_reached : (slot m : ℕ) (row : List (Option Across)) (o : Option Across) → IsJoinedRow rows coords xs p row → slot < slots_each coords → slice_index_or row slot None ≡ o
        → (d : IsArcTo kind rows coords xs p k m) → (d.arc).face ≡ slot % 4 → (d.arc).vertex ≡ vertex_of_slot coords p slot → read_at kind k o ≡ Some m
    inverse_if_reached slot m row None u l e d ef ev = absurd (u.none slot l e d.arc d.gluing d.meets ef ev d.one)
    inverse_if_reached slot m row (Some j) u l e d ef ev =
        let i : IsJoinedAt rows coords xs p (slot % 4) (vertex_of_slot coords p slot) j = u.some slot j l e in
        let o : (d.arc ≡ i.arc) × (d.gluing ≡ i.gluing) = i.only d.arc d.gluing d.meets ef ev d.one in
        ap Some (sym (across_is (slot % 4) (vertex_of_slot coords p slot) j i) ∙ (λ t. number_by (sym o.0 t) (sym o.1 t)) ∙ d.other)

    row_read : IsSurface rows coords xs → (joined : List (Option Across)) (row : List (Option ℕ)) → IsJoinedRow rows coords xs p joined → IsReadRow kind k joined row → IsRow kind rows coords xs p k row
    row_read s joined row u r m = (
      (λ c. (let q : (t : ℕ) × (t < length row) × (slice_index_or row t None ≡ Some m) = present_place row m (among_contains m (present row) c) in
          let l : q.0 < slots_each coords = (let b = q.1 in omega (arith, r.size, u.size)) in
          leads_from q.0 m joined (slice_index_or joined q.0 None) u l refl (sym (r.each q.0 (omega (arith, u.size))) ∙ q.2))),
      (λ d. (let h : HasSlot coords (d.arc).face (d.arc).vertex p = slot_of_arc rows coords xs s p d.arc d.gluing d.meets d.one in
          present_contains row h.slot m (r.each h.slot (let l = h.in_range in omega (arith, u.size)) ∙ inverse_if_reached h.slot m joined (slice_index_or joined h.slot None) u h.in_range refl d (sym h.face) (sym h.vertex)))),
    )

pub piece_low : (kind : SearchKind) (i n : ℕ) → i < numbers kind n → piece_in kind i < n
piece_low Pieces i n l = l
piece_low (Signed signs) i n l = omega arith

pub numbers_low : (kind : SearchKind) (n : ℕ) → numbers kind n ≤ 2 * n
numbers_low Pieces n = omega arith
numbers_low (Signed signs) n = omega arith

-- the rows that are read list what the pieces are joined to
pub rows_read : (rows : List Row) (coords : Coords) (xs : List ℕ) → IsSurface rows coords xs → (kind : SearchKind) (joined : List (List (Option Across))) (listed : List (List (Option ℕ)))
    → AreJoined rows coords xs joined → AreReadRows kind joined listed → AreRows kind rows coords xs listed
rows_read rows coords xs s kind joined listed j r = record {
  size = r.size ∙ ap (numbers kind) j.size;
  each = λ i l. row_read rows coords xs (slice_index_or (discs_of xs) (piece_in kind i) no_piece) kind i s (slice_index_or joined (piece_in kind i) []) (slice_index_or listed i [])
      (j.each (piece_in kind i) (piece_low kind i (length (discs_of xs)) l)) (r.each i (subst (λ n. i < numbers kind n) (sym j.size) l));
}

-- one row more
pub rows_push : {A : Type 0} (P : ℕ → List A → Type 0) (listed more : List (List A)) (r : List A) (n : ℕ) → length listed ≡ n → ((i : ℕ) → i < n → P i (slice_index_or listed i [])) → P n r → more ≡ listed ++ r ∷ []
    → (i : ℕ) → i < n + 1 → P i (slice_index_or more i [])
rows_push {A} P listed more r n size each last e i l = subst (λ (ls : List (List A)). P i (slice_index_or ls i [])) (sym e) (elim (cases_eq i n) [
  | inl same ↦ subst (λ k. P k (slice_index_or (listed ++ r ∷ []) k [])) (sym same) (subst (P n) (sym (get_or_push listed r [] n size)) last)
  | inr separate ↦ (let before : i < n = omega arith in subst (P i) (sym (get_or_append_left listed (r ∷ []) [] i (omega arith))) (each i before))
])

-- an item of the list of all pieces
pub item_is : (xs : List ℕ) (listed : List NormalDisc) (i : ℕ) (p : NormalDisc) → listed ≡ discs_of xs → i < length listed → p ≡ slice_index_or listed i p → p ≡ slice_index_or (discs_of xs) i no_piece
item_is xs listed i p e l is = is ∙ get_or_default listed i p no_piece l ∙ ap (λ (ps : List NormalDisc). slice_index_or ps i no_piece) e

pub item_piece : (xs : List ℕ) (listed : List NormalDisc) (i : ℕ) (p : NormalDisc) → listed ≡ discs_of xs → i < length listed → p ≡ slice_index_or listed i p → IsPieceOf xs p
item_piece xs listed i p e l is = subst (IsPieceOf xs) (sym (item_is xs listed i p e l is)) (listed_piece xs i no_piece (subst (λ (ps : List NormalDisc). i < length ps) e l))
