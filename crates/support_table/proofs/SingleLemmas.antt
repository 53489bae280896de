-- Columns that alone are the residual of a candidate.
use Rattle.std.proofs.Common.{◌≡◌, ◌≢◌, ℕ, ◌+◌, ◌^◌, ◌<◌, ◌≤◌, inl, inr, Bool, true, false, List, [], length, get_or, set, length-set, get_or-set_same, get_or-set_other, replicate, w64, bit_or, subst, sym, ap, ◌∙◌, arith}
use Rattle.std.specs.Int.{bit_at, bit_not}
use Rattle.std.specs.List.{All}
use Rattle.std.proofs.lemmas.Bool.{cases_eq, cases_lt, false≢true}
use Rattle.std.proofs.lemmas.List.{get_or-replicate, length-replicate}
use Rattle.std.proofs.lemmas.Nat.Bits.{bit_at-lt, bit_at-zero, bit_at_above, bit_at_not}
use Rattle.support_bits.specs.Columns.{HasColumn, Meets}
use Rattle.support_table.specs.declared.outer.Outer.{Outer}
use Rattle.support_table.specs.Counts.{columns_in_either}
use Rattle.support_table.specs.Near.{chosen_at}
use Rattle.support_table.specs.Residuals.{support_at}
use Rattle.support_table.specs.Singles.{IsSingle, AreSingles, AreAllSingles}
use Rattle.support_table.specs.Tables.{Table}
use Rattle.support_table.proofs.BitLemmas.{left_set}
use Rattle.support_table.proofs.SizeLemmas.{column_within}

-- ---- bits that are left

-- a bit of the complement of a union is not set in the first of the two
pub none_in_first : (m n b : ℕ) → bit_at (bit_not w64 (bit_or m n)) b ≡ 1 → bit_at m b ≡ 0
none_in_first m n b one = elim (cases_lt b 64) [
  | inr exceeded ↦ absurd (let z = bit_at_above (bit_not w64 (bit_or m n)) 64 b (omega arith) exceeded in omega (arith, z, one))
  | inl less ↦ elim (cases_lt (bit_or m n) (2 ^ 64)) [
    | inr large ↦ let none : bit_not w64 (bit_or m n) ≡ 0 = omega (arith, large) in absurd (let z = ap (λ k. bit_at k b) none ∙ bit_at-zero b in omega (arith, z, one))
    | inl fits ↦ elim (cases_eq (bit_at m b) 1) [
      | inl set_is ↦ absurd (let e = bit_at_not w64 (bit_or m n) b fits less in let both = left_set m n b set_is in omega (arith, e, both, one))
      | inr other ↦ let l = bit_at-lt m b in omega (arith, l, other)
    ]
  ]
]

-- ---- the columns of one outer ray

module _ (supports : List (List Bool)) (outer joined : List Bool) (own most : ℕ) where
  pub singles_none : (single : List Bool) (columns : ℕ) → single ≡ replicate columns false → AreSingles supports outer joined own most single
  singles_none single columns is column has = absurd (elim (cases_lt column columns) [
    | inl less ↦ false≢true (sym (ap (λ s. get_or s column false) is ∙ get_or-replicate columns column false false less) ∙ has)
    | inr exceeded ↦ let l = column_within single column has in let e = ap length is ∙ length-replicate columns false in omega (arith, l, e, exceeded)
  ])

  pub singles_set : (single : List Bool) (column : ℕ) → AreSingles supports outer joined own most single → IsSingle supports outer joined own most column → AreSingles supports outer joined own most (set single column true)
  singles_set single column h is k has = elim (cases_eq k column) [
    | inl e ↦ subst (IsSingle supports outer joined own most) (sym e) is
    | inr other ↦ h k (sym (get_or-set_other single column k true false other) ∙ has)
  ]

  -- the residual of a ray that is read in a copy
  pub single_in_copy : (copy : List Bool) (place column size limit : ℕ) → copy ≡ support_at supports place → place < length supports → place ≢ own → ¬ Meets copy joined → length copy ≡ length outer → size ≡ columns_in_either outer copy →
      size ≤ most → size ≤ limit → limit ≡ columns_in_either outer outer + 1 → HasColumn copy column × (¬ HasColumn outer column) → IsSingle supports outer joined own most column
  single_in_copy copy place column size limit is in_range other separate wide size_is near small limit_is column_is = record {
    place = place;
    candidate = record {
      in_range = in_range;
      other = other;
      separate = subst (λ s. ¬ Meets s joined) is separate;
      near = subst (λ s. columns_in_either outer s ≤ most) is (omega (arith, size_is, near));
    };
    wide = sym (ap length is) ∙ wide;
    single = subst (λ s. columns_in_either outer s ≤ columns_in_either outer outer + 1) is (omega (arith, size_is, small, limit_is));
    has = subst (λ s. HasColumn s column) is column_is.0;
    outside = column_is.1;
  }

-- ---- outer ray by outer ray

module _ (rays : Table) (outers : List Outer) (chosen : List ℕ) (most : ℕ) where
  -- each column of the set is one for the b-th outer ray
  abbrev pub AreSinglesAt : ℕ → List Bool → Type 0
  AreSinglesAt b single = AreSingles rays.supports (chosen_at outers chosen b).support (chosen_at outers chosen b).joined (chosen_at outers chosen b).place most single

  pub singles_at : (b : ℕ) (table : Table) (support joined single : List Bool) (own limit : ℕ) → table ≡ rays → support ≡ (chosen_at outers chosen b).support → joined ≡ (chosen_at outers chosen b).joined →
      own ≡ (chosen_at outers chosen b).place → limit ≡ most → AreSingles table.supports support joined own limit single → AreSinglesAt b single
  singles_at b table support joined single own limit table_is support_is joined_is own_is limit_is h column has =
      subst (λ (t : Table). IsSingle t.supports (chosen_at outers chosen b).support (chosen_at outers chosen b).joined (chosen_at outers chosen b).place most column) table_is
      (subst (λ s. IsSingle table.supports s (chosen_at outers chosen b).joined (chosen_at outers chosen b).place most column) support_is
      (subst (λ j. IsSingle table.supports support j (chosen_at outers chosen b).place most column) joined_is
      (subst (λ k. IsSingle table.supports support joined k most column) own_is
      (subst (λ n. IsSingle table.supports support joined own n column) limit_is (h column has)))))

  pub all_singles_none : (singles : List (List Bool)) → length singles ≡ length chosen → All (λ single. single ≡ replicate rays.columns false) singles → AreAllSingles rays outers chosen most singles
  all_singles_none singles count none = record {
    count = count;
    columns = λ b less. ap length (none b [] (omega (arith, count, less))) ∙ length-replicate rays.columns false;
    each = λ b less. singles_none rays.supports (chosen_at outers chosen b).support (chosen_at outers chosen b).joined (chosen_at outers chosen b).place most (get_or singles b []) rays.columns (none b [] (omega (arith, count, less)));
  }

  pub all_singles_set : (singles new : List (List Bool)) (b : ℕ) (single : List Bool) → AreAllSingles rays outers chosen most singles → new ≡ set singles b single → b < length chosen → length single ≡ rays.columns → AreSinglesAt b single →
      AreAllSingles rays outers chosen most new
  all_singles_set singles new b single h is less wide each = record {
    count = ap length is ∙ length-set singles b single ∙ h.count;
    columns = λ k within. elim (cases_eq k b) [
      | inl e ↦ ap length (at k e) ∙ wide
      | inr other ↦ ap length (others k other) ∙ h.columns k within
    ];
    each = λ k within. elim (cases_eq k b) [
      | inl e ↦ subst (AreSinglesAt k) (sym (at k e)) (subst (λ j. AreSinglesAt j single) (sym e) each)
      | inr other ↦ subst (AreSinglesAt k) (sym (others k other)) (h.each k within)
    ];
  }
    where
      at : (k : ℕ) → k ≡ b → get_or new k [] ≡ single
      at k e = ap (λ ss. get_or ss k []) is ∙ ap (λ j. get_or (set singles b single) j []) e ∙ get_or-set_same singles b single [] (let n = h.count in omega (arith, n, less))

      others : (k : ℕ) → k ≢ b → get_or new k [] ≡ get_or singles k []
      others k other = ap (λ ss. get_or ss k []) is ∙ get_or-set_other singles b k single [] other
