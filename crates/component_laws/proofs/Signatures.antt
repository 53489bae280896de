-- Two tables have the same component signature if and only if they are isomorphic.
use Rattle.std.proofs.Common.{◌≡◌, ℕ, zero, suc, ◌<◌, ◌↔◌, List, [], ◌∷◌, length, All, IsPermutation, subst, sym, ap, ◌∙◌, arith}
use Rattle.std.specs.List.{AllZip}
use Rattle.std.proofs.lemmas.List.Elements.{All-from_get_or, All-head, All-tail}
use Rattle.std.proofs.lemmas.List.Sorted.{IsPermutation-sym, IsPermutation-trans, All-permutation}
use Rattle.std.proofs.lemmas.Slice.Zip.{AllZip-long}
use Rattle.table_definitions.specs.Table.{Row, IsTable}
use Rattle.table_definitions.specs.Relabelling.{AreIsomorphic}
use Rattle.signature_definitions.specs.Spelling.{IsSignature}
use Rattle.signature_laws.proofs.Uniqueness.{tells_tables}
use Rattle.signature_laws.proofs.Invariance.{relabels_back, relabels_on}
use Rattle.component_definitions.specs.Parts.{Part}
use Rattle.component_definitions.specs.ComponentSignature.{component_text, IsComponentSignature}
use Rattle.component_laws.proofs.Numbers.{fits}
use Rattle.component_laws.proofs.Members.{part_at, part_is, part_is_table, length-part}
use Rattle.component_laws.proofs.Matching.{IsMatching, matched_tables}
use Rattle.component_laws.proofs.Carrying.{carried_parts}
use Rattle.component_laws.proofs.Permuted.{Texts, text_at, TakenFrom, taken_from, permuted_from, one_order}
use Rattle.component_laws.proofs.Texts.{IsPlain, ArePlain, signature_plain, texts_apart}

pub zip_at : (R : Part → List ℕ → Type 0) (xs : List Part) (ys : Texts) → AllZip R xs ys → (i : ℕ) → i < length xs → R (part_at xs i) (text_at ys i)
zip_at R [] ys z i l = absurd (omega arith)
zip_at R (x ∷ xs) [] z i l = absurd z
zip_at R (x ∷ xs) (y ∷ ys) z zero l = z.0
zip_at R (x ∷ xs) (y ∷ ys) z (suc i) l = zip_at R xs ys z.1 i (omega arith)

plain_from : (texts : Texts) → All IsPlain texts → ArePlain texts
plain_from [] all = tt
plain_from (text ∷ texts) all = (All-head IsPlain text texts all, plain_from texts (All-tail IsPlain text texts all))

module _ (rows : List Row) (text : List ℕ) (table : IsTable rows) (a : IsComponentSignature rows text) where
  long : length a.signatures ≡ length a.parts
  long = AllZip-long (λ (part : Part) signature. IsSignature part.rows signature) a.parts a.signatures a.of_parts

  pub signature_at : (i : ℕ) → i < length a.parts → IsSignature (part_at a.parts i).rows (text_at a.signatures i)
  signature_at i l = zip_at (λ (part : Part) signature. IsSignature part.rows signature) a.parts a.signatures a.of_parts i l

  pub rows_table : (i : ℕ) → i < length a.parts → IsTable (part_at a.parts i).rows
  rows_table i l = part_is_table rows table (part_at a.parts i) (part_is rows table a.parts a.are_parts i l)

  some_rows : (i : ℕ) → i < length a.parts → 0 < length (part_at a.parts i).rows
  some_rows i l = subst (λ n. 0 < n) (sym (length-part rows table (part_at a.parts i) (part_is rows table a.parts a.are_parts i l))) (part_is rows table a.parts a.are_parts i l).some

  pub ordered_plain : ArePlain a.ordered
  ordered_plain = plain_from a.ordered (All-permutation IsPlain a.signatures a.ordered a.same (All-from_get_or IsPlain a.signatures [] (λ i l.
      let m : i < length a.parts = subst (λ n. i < n) long l in signature_plain (text_at a.signatures i) (part_at a.parts i).rows (some_rows i m) (signature_at i m))))

module _ (first second : List Row) (text other : List ℕ) (tf : IsTable first) (ts : IsTable second) (a : IsComponentSignature first text) (b : IsComponentSignature second other) where
  -- components with the same signature are matched
  pub matching_from : TakenFrom b.signatures a.signatures → IsMatching a.parts b.parts
  matching_from t = record {
    to = t.to;
    in_range = in_range;
    separate = λ i j li lj e. t.separate i j (at i li) (at j lj) e;
    relabelled = λ i l. (tells_tables (part_at a.parts i).rows (part_at b.parts (t.to i)).rows (text_at a.signatures i) (text_at b.signatures (t.to i)) (rows_table first text tf a i l) (rows_table second other ts b (t.to i) (in_range i l))
        (signature_at first text tf a i l) (signature_at second other ts b (t.to i) (in_range i l))).0 (t.same i (at i l));
  }
    where
      at : (i : ℕ) → i < length a.parts → i < length a.signatures
      at i l = subst (λ n. i < n) (sym (long first text tf a)) l

      in_range : (i : ℕ) → i < length a.parts → t.to i < length b.parts
      in_range i l = subst (λ n. t.to i < n) (long second other ts b) (t.in_range i (at i l))

  -- matched components have the same signature
  pub taken_by : IsMatching a.parts b.parts → TakenFrom b.signatures a.signatures
  taken_by m = record {
    to = m.to;
    in_range = λ i l. subst (λ n. m.to i < n) (sym (long second other ts b)) (m.in_range i (at i l));
    separate = λ i j li lj e. m.separate i j (at i li) (at j lj) e;
    same = λ i l. (tells_tables (part_at a.parts i).rows (part_at b.parts (m.to i)).rows (text_at a.signatures i) (text_at b.signatures (m.to i)) (rows_table first text tf a i (at i l)) (rows_table second other ts b (m.to i) (m.in_range i (at i l)))
        (signature_at first text tf a i (at i l)) (signature_at second other ts b (m.to i) (m.in_range i (at i l)))).1 (m.relabelled i (at i l));
  }
    where
      at : (i : ℕ) → i < length a.signatures → i < length a.parts
      at i l = subst (λ n. i < n) (long first text tf a) l

same_signatures : (first second : List Row) (text other : List ℕ) → IsTable first → IsTable second → (a : IsComponentSignature first text) (b : IsComponentSignature second other) → text ≡ other → IsPermutation a.signatures b.signatures
same_signatures first second text other tf ts a b e = IsPermutation-trans a.signatures b.ordered b.signatures (subst (IsPermutation a.signatures) ordered a.same) (IsPermutation-sym b.signatures b.ordered b.same)
  where
    ordered : a.ordered ≡ b.ordered
    ordered = texts_apart a.ordered b.ordered (ordered_plain first text tf a) (ordered_plain second other ts b) (sym a.joined ∙ e ∙ b.joined)

pub same_text_relabels : (first second : List Row) (text other : List ℕ) → IsTable first → IsTable second → IsComponentSignature first text → IsComponentSignature second other → text ≡ other → AreIsomorphic first second
same_text_relabels first second text other tf ts a b e = matched_tables first second a.parts b.parts tf ts a.are_parts b.are_parts
    (matching_from first second text other tf ts a b (taken_from b.signatures a.signatures (IsPermutation-sym a.signatures b.signatures p)))
    (matching_from second first other text ts tf b a (taken_from a.signatures b.signatures p))
  where
    p : IsPermutation a.signatures b.signatures
    p = same_signatures first second text other tf ts a b e

pub relabelled_same_text : (first second : List Row) (text other : List ℕ) → IsTable first → IsTable second → IsComponentSignature first text → IsComponentSignature second other → AreIsomorphic first second → text ≡ other
relabelled_same_text first second text other tf ts a b r = a.joined ∙ ap component_text (one_order a.ordered b.ordered a.in_order b.in_order
    (IsPermutation-trans a.ordered a.signatures b.ordered (IsPermutation-sym a.signatures a.ordered a.same) (IsPermutation-trans a.signatures b.signatures b.ordered p b.same))) ∙ sym b.joined
  where
    back : AreIsomorphic second first
    back = relabels_back first second tf r

    there_taken : TakenFrom b.signatures a.signatures
    there_taken = taken_by first second text other tf ts a b (carried_parts first second r.0 tf ts r.1 r.2 a.parts b.parts a.are_parts b.are_parts)

    back_taken : TakenFrom a.signatures b.signatures
    back_taken = taken_by second first other text ts tf b a (carried_parts second first back.0 ts tf back.1 back.2 b.parts a.parts b.are_parts a.are_parts)

    p : IsPermutation a.signatures b.signatures
    p = permuted_from a.signatures b.signatures back_taken (fits (length a.signatures) (length b.signatures) there_taken.to there_taken.in_range there_taken.separate)

pub component_signatures_tell : (first second : List Row) (text other : List ℕ) → IsTable first → IsTable second → IsComponentSignature first text → IsComponentSignature second other → (text ≡ other) ↔ AreIsomorphic first second
component_signatures_tell first second text other tf ts a b = (same_text_relabels first second text other tf ts a b, relabelled_same_text first second text other tf ts a b)

-- ---- one component signature

-- a table with a signature is isomorphic to itself
itself : (rows : List Row) (text : List ℕ) → IsTable rows → IsSignature rows text → AreIsomorphic rows rows
itself rows text table s = relabels_on rows s.found.0 rows table s.found.1 (relabels_back rows s.found.0 table s.found.1)

pub one_component_signature : (rows : List Row) (text other : List ℕ) → IsTable rows → IsComponentSignature rows text → IsComponentSignature rows other → text ≡ other
one_component_signature rows text other table a b = relabelled_same_text rows rows text other table table a b (matched_tables rows rows a.parts a.parts table table a.are_parts a.are_parts alone alone)
  where
    alone : IsMatching a.parts a.parts
    alone = record { to = λ i. i; in_range = λ i l. l; separate = λ i j li lj e. e; relabelled = λ i l. itself (part_at a.parts i).rows (text_at a.signatures i) (rows_table rows text table a i l) (signature_at rows text table a i l) }
