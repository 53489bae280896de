-- A census of tables extends to one of these tables and a further one.
use Rattle.std.proofs.Common.{◌≡◌, ℕ, ◌+◌, ◌<◌, ◌≤◌, ◌↔◌, inl, inr, ⊎_elim, ◌⊎◌, List, [], ◌∷◌, ◌++◌, length, length-append, refl, sym, ap, ◌∙◌, subst, arith}
use Rattle.std.specs.Prelude.{slice_index}
use Rattle.std.proofs.Math.ListN.{get_or-append}
use Rattle.std.proofs.Math.Seq.{get_or-append_seam}
use Rattle.basic_lemmas.proofs.Numbers.{last_or_before}
use Rattle.table_definitions.specs.Table.{Row, IsTable}
use Rattle.table_definitions.specs.Classes.{IsNumbering}
use Rattle.table_definitions.specs.Relabelling.{AreIsomorphic}
use Rattle.signature_definitions.specs.Spelling.{IsSignature}
use Rattle.signature_definitions.specs.Census.{table_in, signature_in, AreRelabelled, IsCensus, IsOldClass, IsNewClass, IsClassed}

-- a census of no tables
pub empty_census : IsCensus [] [] []
empty_census = record {
  numbering = record {
    one_each = refl;
    in_range = λ i h. absurd (omega arith);
    together = λ i j h k. absurd (omega arith);
    ascending = λ i c h l. absurd (omega arith);
    none_empty = λ c h. absurd (omega arith);
  };
  signed = λ k h. absurd (omega arith);
}

-- what is known of the tables of a list, of one more table, and of the index of its signature
pub record Step (tables : List (List Row)) (a : List Row) (classes : List ℕ) (before : List (List ℕ)) (text : List ℕ) (class : ℕ) (now : List (List ℕ)) : Type 0 where
  pub are_tables : (k : ℕ) → k < length tables → IsTable (table_in tables k)
  pub table : IsTable a
  pub census : IsCensus tables classes before
  pub signature : IsSignature a text
  pub placed : IsClassed before text class now

module _ (tell : (a b : List Row) (s t : List ℕ) → IsTable a → IsTable b → IsSignature a s → IsSignature b t → (s ≡ t) ↔ AreIsomorphic a b) where
  module _ (tables : List (List Row)) (a : List Row) (classes : List ℕ) (before : List (List ℕ)) (text : List ℕ) (class : ℕ) (now : List (List ℕ))
      (s : Step tables a classes before text class now) where
    abbrev numbers : IsNumbering (length tables) (AreRelabelled tables) classes (length before)
    numbers = s.census.numbering

    abbrev more : List (List Row)
    more = tables ++ a ∷ []

    abbrev numbered : List ℕ
    numbered = classes ++ class ∷ []

    -- the signature of an earlier table
    abbrev text_of : ℕ → List ℕ
    text_of i = signature_in before (slice_index classes i)

    earlier_table : (i : ℕ) → i < length tables → table_in more i ≡ table_in tables i
    earlier_table i h = get_or-append tables (a ∷ []) [] i h

    last_table : table_in more (length tables) ≡ a
    last_table = get_or-append_seam tables a [] []

    earlier_class : (i : ℕ) → i < length tables → slice_index numbered i ≡ slice_index classes i
    earlier_class i h = let n = numbers.one_each in get_or-append classes (class ∷ []) 0 i (omega arith)

    last_class : slice_index numbered (length tables) ≡ class
    last_class = subst (λ (n : ℕ). slice_index numbered n ≡ class) numbers.one_each (get_or-append_seam classes class [] 0)

    -- equal signatures of two classes make one class
    one_class : (c d : ℕ) → c < length before → d < length before → signature_in before c ≡ signature_in before d → c ≡ d
    one_class c d hc hd e =
        let m = numbers.none_empty c hc in
        let n = numbers.none_empty d hd in
        let same : text_of m.0 ≡ text_of n.0 = ap (signature_in before) m.2 ∙ e ∙ sym (ap (signature_in before) n.2) in
        sym m.2 ∙ (numbers.together m.0 n.0 m.1 n.1).1
        ((tell (table_in tables m.0) (table_in tables n.0) (text_of m.0) (text_of n.0) (s.are_tables m.0 m.1) (s.are_tables n.0 n.1) (s.census.signed m.0 m.1) (s.census.signed n.0 n.1)).0 same) ∙ n.2

    -- an earlier table is in the class of the new one if and only if their signatures are equal
    by_signature : (i : ℕ) → i < length tables → (slice_index classes i ≡ class) ↔ (text_of i ≡ text)
    by_signature i h = ⊎_elim (λ (k : IsOldClass before text class now). known k) (λ (f : IsNewClass before text class now). fresh f) s.placed
      where
        known : IsOldClass before text class now → (slice_index classes i ≡ class) ↔ (text_of i ≡ text)
        known k = ((λ e. ap (signature_in before) e ∙ k.found), (λ e. one_class (slice_index classes i) class (numbers.in_range i h) k.in_range (e ∙ sym k.found)))

        fresh : IsNewClass before text class now → (slice_index classes i ≡ class) ↔ (text_of i ≡ text)
        fresh f = (
          (λ e. absurd (let below = numbers.in_range i h in let last = f.last in omega arith)),
          (λ e. absurd (f.nowhere (slice_index classes i) (numbers.in_range i h) e)),
        )

    with_earlier : (i : ℕ) → i < length tables → (slice_index classes i ≡ class) ↔ AreIsomorphic (table_in tables i) a
    with_earlier i h =
        let one = by_signature i h in
        let two = tell (table_in tables i) a (text_of i) text (s.are_tables i h) s.table (s.census.signed i h) s.signature in
        ((λ e. two.0 (one.0 e)), (λ r. one.1 (two.1 r)))

    from_new : (i : ℕ) → i < length tables → (class ≡ slice_index classes i) ↔ AreIsomorphic a (table_in tables i)
    from_new i h =
        let one = by_signature i h in
        let two = tell a (table_in tables i) text (text_of i) s.table (s.are_tables i h) s.signature (s.census.signed i h) in
        ((λ e. two.0 (sym (one.0 (sym e)))), (λ r. sym (one.1 (sym (two.1 r)))))

    to_itself : (class ≡ class) ↔ AreIsomorphic a a
    to_itself = ((λ e. (tell a a text text s.table s.table s.signature s.signature).0 refl), (λ r. refl))

    -- classes and tables, at their indices in the longer lists
    at_places : (i j c d : ℕ) (one other : List Row) → slice_index numbered i ≡ c → slice_index numbered j ≡ d → table_in more i ≡ one → table_in more j ≡ other
        → (c ≡ d) ↔ AreIsomorphic one other → (slice_index numbered i ≡ slice_index numbered j) ↔ AreRelabelled more i j
    at_places i j c d one other ec ed e f h = ((λ same. back (h.0 (sym ec ∙ same ∙ ed))), (λ r. ec ∙ h.1 (forth r) ∙ sym ed))
      where
        back : AreIsomorphic one other → AreRelabelled more i j
        back r = subst (λ (x : List Row). AreIsomorphic x (table_in more j)) (sym e) (subst (λ (y : List Row). AreIsomorphic one y) (sym f) r)

        forth : AreRelabelled more i j → AreIsomorphic one other
        forth r = subst (λ (y : List Row). AreIsomorphic one y) f (subst (λ (x : List Row). AreIsomorphic x (table_in more j)) e r)

    joined_at : (i j : ℕ) → (i < length tables) ⊎ (i ≡ length tables) → (j < length tables) ⊎ (j ≡ length tables)
        → (slice_index numbered i ≡ slice_index numbered j) ↔ AreRelabelled more i j
    joined_at i j (inl h) (inl k) =
        at_places i j (slice_index classes i) (slice_index classes j) (table_in tables i) (table_in tables j) (earlier_class i h) (earlier_class j k)
        (earlier_table i h) (earlier_table j k) (numbers.together i j h k)
    joined_at i j (inl h) (inr k) = subst (λ (y : ℕ). (slice_index numbered i ≡ slice_index numbered y) ↔ AreRelabelled more i y) (sym k)
        (at_places i (length tables) (slice_index classes i) class (table_in tables i) a (earlier_class i h) last_class (earlier_table i h) last_table (with_earlier i h))
    joined_at i j (inr h) (inl k) = subst (λ (x : ℕ). (slice_index numbered x ≡ slice_index numbered j) ↔ AreRelabelled more x j) (sym h)
        (at_places (length tables) j class (slice_index classes j) a (table_in tables j) last_class (earlier_class j k) last_table (earlier_table j k) (from_new j k))
    joined_at i j (inr h) (inr k) =
        subst (λ (x : ℕ). (slice_index numbered x ≡ slice_index numbered j) ↔ AreRelabelled more x j) (sym h)
        (subst (λ (y : ℕ). (slice_index numbered (length tables) ≡ slice_index numbered y) ↔ AreRelabelled more (length tables) y) (sym k)
        (at_places (length tables) (length tables) class class a a last_class last_class last_table last_table to_itself))

    one_more : length more ≡ length tables + 1
    one_more = length-append tables (a ∷ [])

    -- the index of the new signature is in range
    class_in_range : class < length now
    class_in_range = ⊎_elim (λ (k : IsOldClass before text class now). rw k.kept k.in_range)
        (λ (f : IsNewClass before text class now). rw f.appended (let last = f.last in omega (arith, length-append before (text ∷ [])))) s.placed

    -- the earlier signatures remain
    at_least : length before ≤ length now
    at_least = ⊎_elim (λ (k : IsOldClass before text class now). rw k.kept (omega arith))
        (λ (f : IsNewClass before text class now). rw f.appended (omega (arith, length-append before (text ∷ [])))) s.placed

    kept_signature : (c : ℕ) → c < length before → signature_in now c ≡ signature_in before c
    kept_signature c h = ⊎_elim (λ (k : IsOldClass before text class now). ap (λ (ts : List (List ℕ)). signature_in ts c) k.kept)
        (λ (f : IsNewClass before text class now). ap (λ (ts : List (List ℕ)). signature_in ts c) f.appended ∙ get_or-append before (text ∷ []) [] c h) s.placed

    new_signature : signature_in now class ≡ text
    new_signature = ⊎_elim (λ (k : IsOldClass before text class now). ap (λ (ts : List (List ℕ)). signature_in ts class) k.kept ∙ k.found)
        (λ (f : IsNewClass before text class now). ap (λ (ts : List (List ℕ)). signature_in ts class) f.appended
        ∙ ap (signature_in (before ++ text ∷ [])) f.last ∙ get_or-append_seam before text [] []) s.placed

    in_range_at : (i : ℕ) → (i < length tables) ⊎ (i ≡ length tables) → slice_index numbered i < length now
    in_range_at i (inl h) = rw (earlier_class i h) (let below = numbers.in_range i h in let more = at_least in omega arith)
    in_range_at i (inr h) = rw h (rw last_class class_in_range)

    signed_at : (i : ℕ) → (i < length tables) ⊎ (i ≡ length tables) → IsSignature (table_in more i) (signature_in now (slice_index numbered i))
    signed_at i (inl h) = rw (earlier_table i h) (rw (earlier_class i h) (rw (kept_signature (slice_index classes i) (numbers.in_range i h)) (s.census.signed i h)))
    signed_at i (inr h) = rw h (rw last_table (rw last_class (rw new_signature s.signature)))

    -- a class of an earlier table, in the longer lists
    met_before : (c : ℕ) → (i : ℕ) × (i < length tables) × (slice_index classes i ≡ c) → (i : ℕ) × (i < length tables) × (slice_index numbered i ≡ c)
    met_before c m = (m.0, m.1, earlier_class m.0 m.1 ∙ m.2)

    ascending_at : (i c : ℕ) → (i < length tables) ⊎ (i ≡ length tables) → c < slice_index numbered i → (j : ℕ) × (j < i) × (slice_index numbered j ≡ c)
    ascending_at i c (inl h) l =
        let below : c < slice_index classes i = rw (earlier_class i h) at l in
        let m = numbers.ascending i c h below in
        (m.0, m.1, earlier_class m.0 (let less : m.0 < i = m.1 in omega arith) ∙ m.2)
    ascending_at i c (inr h) l =
        let below : c < class = rw last_class at (subst (λ (x : ℕ). c < slice_index numbered x) h l) in
        let m = met_before c (numbers.none_empty c (lesser below)) in
        (m.0, subst (λ (x : ℕ). m.0 < x) (sym h) m.1, m.2)
      where
        lesser : c < class → c < length before
        lesser less = ⊎_elim (λ (k : IsOldClass before text class now). let r = k.in_range in omega arith)
            (λ (f : IsNewClass before text class now). let r = f.last in omega arith) s.placed

    met_at : (c : ℕ) → (c < length before) ⊎ (c ≡ class) → (i : ℕ) × (i < length more) × (slice_index numbered i ≡ c)
    met_at c (inl h) = let m = met_before c (numbers.none_empty c h) in (m.0, (let less : m.0 < length tables = m.1 in omega (arith, one_more)), m.2)
    met_at c (inr e) = (length tables, omega (arith, one_more), last_class ∙ sym e)

    old_or_new : (c : ℕ) → c < length now → (c < length before) ⊎ (c ≡ class)
    old_or_new c h = ⊎_elim (λ (k : IsOldClass before text class now). inl (subst (λ (ts : List (List ℕ)). c < length ts) k.kept h))
        (λ (f : IsNewClass before text class now). last_of f (last_or_before (length before) c
        (let less : c < length (before ++ text ∷ []) = subst (λ (ts : List (List ℕ)). c < length ts) f.appended h in omega (arith, length-append before (text ∷ []))))) s.placed
      where
        last_of : IsNewClass before text class now → (c < length before) ⊎ (c ≡ length before) → (c < length before) ⊎ (c ≡ class)
        last_of f (inl l) = inl l
        last_of f (inr e) = inr (e ∙ sym f.last)

    within : (i : ℕ) → i < length more → (i < length tables) ⊎ (i ≡ length tables)
    within i h = last_or_before (length tables) i (omega (arith, one_more))

    pub census_extends : IsCensus more numbered now
    census_extends = record {
      numbering = record {
        one_each = let n = numbers.one_each in omega (arith, length-append classes (class ∷ []), one_more);
        in_range = λ i h. in_range_at i (within i h);
        together = λ i j h k. joined_at i j (within i h) (within j k);
        ascending = λ i c h l. ascending_at i c (within i h) l;
        none_empty = λ c h. met_at c (old_or_new c h);
      };
      signed = λ i h. signed_at i (within i h);
    }
