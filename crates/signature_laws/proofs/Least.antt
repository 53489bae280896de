-- The least text of the traversals from all starts is the signature.
use Rattle.std.proofs.Common.{◌≡◌, ℕ, ◌+◌, ◌*◌, ◌/◌, ◌%◌, ◌<◌, ◌≤◌, Bool, true, false, List, [], ◌∷◌, length, Some, None, refl, sym, ap, ◌∙◌, subst, arith, inl, inr, ⊎_elim}
use Rattle.std.specs.Prelude.{not, find}
use Rattle.std.specs.List.{list_all, slice_index_or}
use Rattle.std.proofs.lemmas.Bool.{and_parts, cases_lt}
use Rattle.basic_lemmas.proofs.Truths.{by_bool}
use Rattle.table_definitions.specs.Lists.{is_list_before}
use Rattle.table_definitions.specs.Permutation.{IsPermutationOfFour, words, index}
use Rattle.table_definitions.specs.Table.{Gluing, Row, Face, IsTable, faces}
use Rattle.table_definitions.specs.Relabelling.{IsRelabelling, AreIsomorphic, relabelled_place}
use Rattle.table_definitions.proofs.ListLaws.{not_before_itself}
use Rattle.signature_definitions.specs.WalkOrder.{is_ordered_at, first_unordered, IsWalkOrdered}
use Rattle.signature_definitions.specs.Spelling.{Spells, IsSignature, spelling}
use Rattle.table_definitions.proofs.Permutations.{words_at, index_below}
use Rattle.table_definitions.proofs.Carried.{comes_from, perm_permutes}
use Rattle.signature_definitions.specs.Labellings.{Start, IsWalked}
use Rattle.signature_laws.specs.Starts.{numbered_start, IsTextFrom, IsSmallerFrom, IsLeastText}
use Rattle.signature_laws.specs.Between.{made}
use Rattle.signature_laws.proofs.Standing.{made_relabelling}
use Rattle.signature_laws.proofs.Agreeing.{one_walk}
use Rattle.signature_laws.proofs.Uniqueness.{before_before}

-- a walk-ordered table has no first face at which it is not walk-ordered
none_found : (p : Face → Bool) (xs : List Face) → list_all p xs ≡ true → find (λ x. not (p x)) xs ≡ None
none_found p [] e = refl
none_found p (x ∷ xs) e = let b = and_parts (p x) (list_all p xs) e in rw b.0 (none_found p xs b.1)

pub never_unordered : (rows : List Row) (x : Face) → IsWalkOrdered rows → first_unordered rows ≡ Some x → ⊥
unfolding first_unordered
never_unordered rows x ordered e = let n = none_found (is_ordered_at rows) (faces (length rows)) ordered in let z : None ≡ Some x = sym n ∙ e in cc

-- the start whose number is given by a tetrahedron and a permutation
pub number_of : (t : ℕ) (p : List ℕ) → IsPermutationOfFour p → numbered_start (24 * t + index p) ≡ record { tet = t; perm = p }
number_of t p h =
    let low = index_below p h in
    let a : (24 * t + index p) / 24 ≡ t = omega (arith, low) in
    let b : (24 * t + index p) % 24 ≡ index p = omega (arith, low) in
    let c : slice_index_or words ((24 * t + index p) % 24) [] ≡ p = ap (λ i. slice_index_or words i []) b ∙ words_at p h in
    λ i. record { tet = a i; perm = c i }

-- the traversals from a start have one text
pub one_text : (rows : List Row) (start : Start) (text other : List ℕ) → IsTable rows → start.tet < length rows → IsTextFrom rows start text → IsTextFrom rows start other → text ≡ other
one_text rows start text other table l a b =
    let w = one_walk rows a.1 b.1 a.0 b.0 table start l a.2 b.2 in
    a.3.spelled ∙ ap spelling w.1 ∙ sym b.3.spelled

-- a list is not before itself
not_before_same : (xs ys : List ℕ) → xs ≡ ys → is_list_before xs ys ≡ false
not_before_same xs ys e = ap (is_list_before xs) (sym e) ∙ not_before_itself xs

in_range : (n i : ℕ) → i < 24 * n → i / 24 < n
in_range n i l = omega arith

pub least_begun : (rows : List Row) (text : List ℕ) → IsTable rows → 0 < length rows → IsTextFrom rows (numbered_start 0) text → IsLeastText rows 1 text
least_begun rows text table some h = record {
  found = (0, omega arith, h);
  least = λ i other l k. let z : i ≡ 0 = omega arith in not_before_same other text (one_text rows (numbered_start 0) other text table some (subst (λ j. IsTextFrom rows (numbered_start j) other) z k) h);
}

-- one more traversal
least_of : (rows : List Row) (i : ℕ) (w : List ℕ) → ((j : ℕ) (other : List ℕ) → j < i → IsTextFrom rows (numbered_start j) other → is_list_before other w ≡ false) → ((other : List ℕ) → IsTextFrom rows (numbered_start i) other → is_list_before other w ≡ false)
    → (j : ℕ) (other : List ℕ) → j < i + 1 → IsTextFrom rows (numbered_start j) other → is_list_before other w ≡ false
least_of rows i w before here j other m f = ⊎_elim
    (λ (b : j < i). before j other b f)
    (λ (b : i ≤ j). let z : j ≡ i = omega arith in here other (subst (λ q. IsTextFrom rows (numbered_start q) other) z f))
    (cases_lt j i)

pub least_better : (rows : List Row) (i : ℕ) (best new : List ℕ) → IsTable rows → i < 24 * length rows → IsLeastText rows i best → IsSmallerFrom rows (numbered_start i) best new → IsLeastText rows (i + 1) new
least_better rows i best new table l h (inl (k, b)) = record {
  found = (i, l, k);
  least = least_of rows i new
      (λ j other m f. by_bool (is_list_before other new) (λ q. absurd (let x = before_before other new best q b in let y = h.least j other m f in cc)) (λ q. q))
      (λ other f. not_before_same other new (one_text rows (numbered_start i) other new table (in_range (length rows) i l) f k));
}
least_better rows i best new table l h (inr (e, none)) =
    subst (IsLeastText rows (i + 1)) (sym e) (record { found = h.found; least = least_of rows i best h.least none })

pub least_is_signature : (rows : List Row) (text : List ℕ) → IsLeastText rows (24 * length rows) text → IsSignature rows text
least_is_signature rows text h = record {
  found = (let t = h.found.2 in (t.1, (t.0, t.2.relabels.0, t.2.relabels.1), t.3));
  least = λ new other r s. none_before new other r s;
}
  where
    none_before : (new : List Row) (other : List ℕ) → AreIsomorphic rows new → Spells other new → is_list_before other text ≡ false
    none_before new other r s =
        let i : ℕ = h.found.0 in
        let low : i < 24 * length rows = h.found.1 in
        let a = comes_from (length rows) r.0 r.1 0 (omega (arith, low)) in
        let p : List ℕ = slice_index_or r.0.perms a.0 [] in
        let hp = perm_permutes (length rows) r.0 r.1 a.0 a.1 in
        let tet = a.2 in
        let begins : relabelled_place r.0 a.0 ≡ record { tet = 0; perm = p } = λ i. record { tet = tet i; perm = p } in
        let w : IsWalked rows (record { tet = a.0; perm = p }) r.0 new = record { relabels = (r.1, r.2); begins = begins; ordered = s.ordered } in
        let walked : IsWalked rows (numbered_start (24 * a.0 + index p)) r.0 new = subst (λ (start : Start). IsWalked rows start r.0 new) (sym (number_of a.0 p hp)) w in
        let under = index_below p hp in
        let m = a.1 in
        h.least (24 * a.0 + index p) other (omega (arith, under, m)) (r.0, new, walked, s)

-- the empty table
empty : (rows : List Row) → length rows ≡ 0 → rows ≡ []
empty [] e = refl
empty (row ∷ rows) e = absurd (omega arith)

pub empty_ordered : (rows : List Row) → length rows ≡ 0 → IsWalkOrdered rows
empty_ordered rows e = subst IsWalkOrdered (sym (empty rows e)) refl

pub empty_relabelling : IsRelabelling 0 (record { images = []; perms = [] })
empty_relabelling = subst (IsRelabelling 0) same (made_relabelling 0 occurs (record { in_range = λ t l. absurd (omega arith); separate = λ t u l m e. absurd (omega arith); permutes = λ t l. absurd (omega arith) }))
  where
    occurs : ℕ → Gluing
    occurs t = record { tet = t; perm = [] }

    same : made 0 occurs ≡ record { images = []; perms = [] }
    same = unfold made in refl

pub empty_signature : (rows : List Row) (text : List ℕ) → length rows ≡ 0 → Spells text rows → IsSignature rows text
empty_signature rows text e h = record {
  found = (rows, (record { images = []; perms = [] }, subst (λ n. IsRelabelling n (record { images = []; perms = [] })) (sym e) empty_relabelling, record { same_length = refl; four_faces = h.table.four_faces; glued = λ x l f. absurd (omega arith) }), h);
  least = λ new other r s.
      let long = r.2.same_length in
      let same : new ≡ rows = empty new (omega (arith, long)) ∙ sym (empty rows e) in
      not_before_same other text (s.spelled ∙ ap spelling same ∙ sym h.spelled);
}
