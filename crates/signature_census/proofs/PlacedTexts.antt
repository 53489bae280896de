-- A text that is put into a set of texts has an index there.
use Rattle.std.proofs.Common.{◌≡◌, ℕ, ◌<◌, ◌≤◌, Bool, true, false, List, [], ◌∷◌, ◌++◌, length, get_or, refl, sym, ap, ◌∙◌, arith, inl, inr, ⊎_elim, Vec, nat_eq}
use Rattle.std.specs.Prelude.{if◌then◌else◌}
use Rattle.std.specs.List.{list_any, position_or_len}
use Rattle.std.specs.declared.alloc.Global.{Global}
use Rattle.std.specs.Cmp.Lexicographic.{pointwise, bytes_decides}
use Rattle.std.proofs.lemmas.Bool.{cases_lt, false≢true, cond-true, cond-false}
use Rattle.std.proofs.lemmas.List.{get_or_default, get_or-map, length-map, map-append}
use Rattle.std.proofs.lemmas.List.Folds.{list_any_at, Any-from_list_any}
use Rattle.std.proofs.lemmas.List.Sums.{position_or_len_is, fails_before_first, passes_at_first}
use Rattle.signature_definitions.specs.Census.{signature_in, IsOldClass, IsNewClass, IsClassed}
use Rattle.signature_census.specs.Texts.{texts_of}

-- whether two texts have the same bytes
abbrev pub is_same : Vec ℕ Global → Vec ℕ Global → Bool
is_same x y = pointwise nat_eq x.items y.items

module _ (text : Vec ℕ Global) (before : List (Vec ℕ Global)) where
  abbrev at : ℕ → Vec ℕ Global
  at k = get_or before k text

  -- the text at an index of the set
  text_at : (k : ℕ) → k < length before → signature_in (texts_of before) k ≡ (at k).items
  text_at k h = get_or-map (λ (v : Vec ℕ Global). v.items) before k text [] h

  -- if no text was found, each differs from this one
  differs : list_any (is_same text) before ≡ false → (k : ℕ) → k < length before → is_same text (at k) ≡ false
  differs none k h = by (is_same text (at k)) refl
    where
      by : (b : Bool) → is_same text (at k) ≡ b → is_same text (at k) ≡ false
      by true e = absurd (false≢true (sym none ∙ list_any_at (is_same text) before k text h e))
      by false e = e

  -- a text that is found is at the first such index
  found_place : list_any (is_same text) before ≡ true → position_or_len (is_same text) before < length before
  found_place any =
      let some = Any-from_list_any (is_same text) before any in
      ⊎_elim (λ (less : position_or_len (is_same text) before < length before). less)
      (λ (all : length before ≤ position_or_len (is_same text) before).
      let h : some.0 < length before = some.2 in
      let there : at some.0 ≡ some.1 = default_any some.0 some.1 h some.3 in
      absurd (false≢true (sym (fails_before_first (is_same text) before some.0 text (omega arith)) ∙ ap (is_same text) there ∙ some.4)))
      (cases_lt (position_or_len (is_same text) before) (length before))
    where
      default_any : (k : ℕ) (x : Vec ℕ Global) → k < length before → get_or before k x ≡ x → at k ≡ x
      default_any k x h e = get_or_default before k text x h ∙ e

  known : (class : ℕ) (now : List (Vec ℕ Global)) → list_any (is_same text) before ≡ true → class ≡ position_or_len (is_same text) before → now ≡ before
      → IsOldClass (texts_of before) text.items class (texts_of now)
  known class now any place kept = record {
    in_range = let less = found_place any in omega (arith, length-map before (λ (v : Vec ℕ Global). v.items));
    found = rw place (text_at (position_or_len (is_same text) before) (found_place any)
        ∙ sym ((bytes_decides text.items (at (position_or_len (is_same text) before)).items).0 (passes_at_first (is_same text) before text (found_place any))));
    kept = ap texts_of kept;
  }

  fresh : (class : ℕ) (now : List (Vec ℕ Global)) → list_any (is_same text) before ≡ false → class ≡ position_or_len (is_same text) before → now ≡ before ++ text ∷ []
      → IsNewClass (texts_of before) text.items class (texts_of now)
  fresh class now none place pushed = record {
    last = place ∙ position_or_len_is (is_same text) before (length before) text (omega arith) (differs none) (λ h. absurd (omega arith)) ∙ sym (length-map before (λ (v : Vec ℕ Global). v.items));
    nowhere = λ c h e.
        let inside : c < length before = (let n = length-map before (λ (v : Vec ℕ Global). v.items) in omega arith) in
        false≢true (sym (differs none c inside) ∙ (bytes_decides text.items (at c).items).1 (sym (sym (text_at c inside) ∙ e)));
    appended = ap texts_of pushed ∙ map-append (λ (v : Vec ℕ Global). v.items) before (text ∷ []);
  }

  pub placed : (class : ℕ) (now : List (Vec ℕ Global)) → class ≡ position_or_len (is_same text) before
      → now ≡ (if list_any (is_same text) before then before else before ++ text ∷ []) → IsClassed (texts_of before) text.items class (texts_of now)
  placed class now place keys = by (list_any (is_same text) before) refl
    where
      by : (b : Bool) → list_any (is_same text) before ≡ b → IsClassed (texts_of before) text.items class (texts_of now)
      by true e = inl (known class now e place (keys ∙ cond-true (list_any (is_same text) before) before (before ++ text ∷ []) e))
      by false e = inr (fresh class now e place (keys ∙ cond-false (list_any (is_same text) before) before (before ++ text ∷ []) e))
