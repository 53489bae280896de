-- Two isomorphic connected tables have a least relabelling as their answer.
use Rattle.std.proofs.Common.{◌≡◌, ℕ, zero, suc, ◌*◌, ◌%◌, ◌<◌, ◌≤◌, ◌⊎◌, inl, inr, Bool, true, false, List, [], ◌∷◌, length, sym, ap, ap₂, subst, refl, ◌∙◌, arith}
use Rattle.std.specs.Prelude.{slice_index}
use Rattle.std.specs.List.{slice_index_or}
use Rattle.std.proofs.lemmas.Bool.{cases_eq, cases_order}
use Rattle.table_definitions.specs.Lists.{is_list_before}
use Rattle.table_definitions.specs.Permutation.{index, words}
use Rattle.table_definitions.specs.Table.{Row, IsTable}
use Rattle.table_definitions.specs.Places.{IsConnected}
use Rattle.table_definitions.specs.Relabelling.{Relabelling, IsRelabelling, AreIsomorphic, relabelled_place}
use Rattle.table_definitions.proofs.Carried.{length-images, carried_is_table}
use Rattle.table_definitions.proofs.Permutations.{words_permute, inverse_permutes}
use Rattle.table_definitions.proofs.ListLaws.{not_before_itself}
use Rattle.signature_definitions.specs.Spelling.{spelling, Spells}
use Rattle.signature_text_laws.proofs.SlotLaws.{ok_same}
use Rattle.signature_text_laws.proofs.SpelledTables.{spelled_read}
use Rattle.signature_definitions.specs.Labellings.{Start, IsWalked, Relabels, is_image_before, IsLeastRelabelling}
use Rattle.signature_laws.specs.Between.{between}
use Rattle.signature_laws.specs.Starts.{numbered_start, numbered_start_back, IsNoMatch}
use Rattle.signature_laws.proofs.Agreeing.{one_walk}
use Rattle.signature_laws.proofs.Matching.{no_relabelling, first_match_is_least}
use Rattle.signature_laws.proofs.Uniqueness.{neither_before}
use Rattle.signature_laws.proofs.Walks.{walks_exist_lem}

-- two texts are equal or not
pub same_or_not : (xs ys : List ℕ) → (xs ≡ ys) ⊎ (xs ≡ ys → ⊥)
same_or_not xs ys = go (is_list_before xs ys) (is_list_before ys xs) refl refl
  where
    differ : (us vs : List ℕ) → is_list_before us vs ≡ true → us ≡ vs → ⊥
    differ us vs e same = let f : is_list_before vs vs ≡ true = subst (λ (ws : List ℕ). is_list_before ws vs ≡ true) same e in let g = not_before_itself vs in let h : false ≡ true = sym g ∙ f in cc

    go : (a b : Bool) → is_list_before xs ys ≡ a → is_list_before ys xs ≡ b → (xs ≡ ys) ⊎ (xs ≡ ys → ⊥)
    go true b e f = inr (differ xs ys e)
    go false true e f = inr (λ same. differ ys xs f (sym same))
    go false false e f = inl (neither_before xs ys e f)

walked_spells : (rows new : List Row) (start : Start) (by : Relabelling) → IsTable rows → IsWalked rows start by new → Spells (spelling new) new
walked_spells rows new start by table w = record { table = carried_is_table rows new by table w.relabels.0 w.relabels.1; ordered = w.ordered; spelled = refl }

module _ (second target : List Row) (ts : IsTable second) (cs : IsConnected second) (spelled : Spells (spelling target) target) where
  abbrev Found : ℕ → Type 0
  Found i = (by : Relabelling) × IsWalked second (numbered_start_back i) by target

  -- the traversal from a start results in the target or not
  decide : (i : ℕ) → i < 24 * length second → IsNoMatch second target i ⊎ Found i
  decide i l =
      let w = walks_exist_lem second (numbered_start_back i) ts cs (omega arith) (inverse_permutes (slice_index_or words (i % 24) []) (words_permute (i % 24) (omega arith))) in
      let s = walked_spells second w.1 (numbered_start_back i) w.0 ts w.2 in
      elim (same_or_not (spelling w.1) (spelling target)) [
        | inl same ↦
            let one : w.1 ≡ target = ok_same w.1 target (sym (spelled_read (spelling w.1) w.1 s) ∙ spelled_read (spelling w.1) target (subst (λ (t : List ℕ). Spells t target) (sym same) spelled)) in
            inr (w.0, subst (IsWalked second (numbered_start_back i) w.0) one w.2)
        | inr other ↦ inl (λ by v. other (ap spelling (one_walk second w.1 target w.0 by ts (numbered_start_back i) (omega arith) w.2 v).1))
      ]

  abbrev First : ℕ → Type 0
  First k = (i : ℕ) × (i < k) × Found i × ((j : ℕ) → j < i → IsNoMatch second target j)

  search : (k : ℕ) → k ≤ 24 * length second → ((i : ℕ) → i < k → IsNoMatch second target i) ⊎ First k
  search zero l = inl (λ i m. absurd (omega arith))
  search (suc k) l = elim (search k (omega arith)) [
    | inr f ↦ inr (f.0, let m = f.1 in omega arith, f.2, f.3)
    | inl none ↦ elim (decide k (omega arith)) [
      | inr found ↦ inr (k, omega arith, found, none)
      | inl never ↦ inl (λ i m. elim (cases_order i k) [
        | inl same ↦ subst (IsNoMatch second target) (sym same) never
        | inr (inl less) ↦ none i less
        | inr (inr exceeded) ↦ absurd (omega arith)
      ])
    ]
  ]

-- a relabelling of no tetrahedra has the default values for tetrahedron 0
no_stand : (by : Relabelling) → IsRelabelling 0 by → relabelled_place by 0 ≡ record { tet = 0; perm = [] }
no_stand by h = (λ j. record { tet = image by.images (length-images 0 by h) j; perm = perm by.perms h.perms j })
  where
    image : (xs : List ℕ) → length xs ≡ 0 → slice_index xs 0 ≡ 0
    image [] e = refl
    image (x ∷ xs) e = absurd (omega (arith, e))

    perm : (xs : List (List ℕ)) → length xs ≡ 0 → slice_index_or xs 0 [] ≡ []
    perm [] e = refl
    perm (x ∷ xs) e = absurd (omega (arith, e))

module _ (first second : List Row) (tf : IsTable first) (ts : IsTable second) (cf : IsConnected first) (cs : IsConnected second) (r : AreIsomorphic first second) where
  equal : length first ≡ length second
  equal = sym r.2.same_length

  told_some : 0 < length first → (by : Relabelling) × IsLeastRelabelling first second by
  told_some some =
      let w = walks_exist_lem first (numbered_start 0) tf cf some (words_permute 0 (omega arith)) in
      elim (search second w.1 ts cs (walked_spells first w.1 (numbered_start 0) w.0 tf w.2) (24 * length second) (omega arith)) [
        | inl none ↦ absurd (no_relabelling first second w.1 w.0 tf ts some equal w.2 none r)
        | inr f ↦ (between (length first) w.0 f.2.0, first_match_is_least first second w.1 w.0 tf ts some equal w.2 f.2.0 (record { found = (f.0, f.1, f.2.1, f.3) }))
      ]

  none_before : (other : Relabelling) → Relabels first second other → length first ≡ 0 → is_image_before (relabelled_place other 0) (relabelled_place r.0 0) ≡ false
  unfolding index
  none_before other o none = ap₂ is_image_before (no_stand other (subst (λ n. IsRelabelling n other) none o.0)) (no_stand r.0 (subst (λ n. IsRelabelling n r.0) none r.1))

  pub least_exists : (by : Relabelling) × IsLeastRelabelling first second by
  least_exists = elim (cases_eq (length first) 0) [
    | inl none ↦ (r.0, record { relabels = (r.1, r.2); least = λ other o. none_before other o none })
    | inr some ↦ told_some (omega arith)
  ]
