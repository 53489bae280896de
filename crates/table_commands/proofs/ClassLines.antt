-- The lines of classes, one more at a time.
use Rattle.std.proofs.Common.{◌≡◌, ℕ, ◌+◌, ◌<◌, List, [], ◌∷◌, ◌++◌, length, Bool, false, sym, ap, ◌∙◌, subst, append_assoc, length-append, arith, ◌⊎◌, inl, inr, Option, Some, None, true}
use Rattle.std.specs.Prelude.{IsTrue, is_some, codes, ◌↔◌}
use Rattle.std.specs.List.{slice_index_or}
use Rattle.skeleton_definitions.specs.declared.Link.{Link}
use Rattle.outcome_definitions.specs.Information.{reported, edge_line, vertex_line, AreValid, Information, IsInformation, information_text, IsInformationAnswer}
use Rattle.outcome_definitions.specs.Lines.{number_line}
use Rattle.outcome_definitions.specs.Outcomes.{Outcome}
use Rattle.outcome_definitions.specs.declared.Status.TheVariants.{Done}
use Rattle.table_definitions.specs.Table.{Row}
use Rattle.skeleton_definitions.specs.Orientation.{IsOrientable}
use Rattle.skeleton_definitions.specs.Skeleton.{Skeleton, IsValidClass, IsOrientation}
use Rattle.std.specs.Option.{option_copied}
use Rattle.std.proofs.lemmas.Bool.{cases_lt}
use Rattle.std.proofs.Math.ListN.{get_or-append}
use Rattle.std.proofs.Math.Seq.{get_or-append_seam}
use denote.Ref.{Bor}

last_or_earlier : (c n : ℕ) → c < n + 1 → (c ≡ n) ⊎ (c < n)
last_or_earlier c n h = elim (cases_lt c n) [ inl less ↦ inr less | inr more ↦ inl (omega arith) ]

pub edge_same : (c m n : ℕ) (p q v : Bool) → m ≡ n → p ≡ q → edge_line c m p v ≡ edge_line c n q v
edge_same c m n p q v e f = ap (λ (d : ℕ). edge_line c d p v) e ∙ ap (λ (b : Bool). edge_line c n b v) f

pub vertex_same : (c m n : ℕ) (l : Link) → m ≡ n → vertex_line c m l ≡ vertex_line c n l
vertex_same c m n l e = ap (λ (d : ℕ). vertex_line c d l) e

-- the value says whether the class is valid
abbrev Told : Skeleton → ℕ → Bool → Type 0
Told s c v = IsTrue v ↔ IsValidClass s c

told_at : (s : Skeleton) (n : ℕ) (before now : List Bool) (b : Bool) → now ≡ before ++ b ∷ [] → Told s n b → (length before ≡ n) × AreValid s n before
    → (c : ℕ) → (c ≡ n) ⊎ (c < n) → Told s c (slice_index_or now c false)
told_at s n before now b grown same reported c (inl e) =
    let last : slice_index_or now c false ≡ b = ap (λ (xs : List Bool). slice_index_or xs c false) grown ∙ ap (λ (k : ℕ). slice_index_or (before ++ b ∷ []) k false) (e ∙ sym reported.0) ∙ get_or-append_seam before b [] false in
    subst (Told s c) (sym last) (subst (λ (k : ℕ). Told s k b) (sym e) same)
told_at s n before now b grown same reported c (inr less) =
    let inside : c < length before = subst (λ (k : ℕ). c < k) (sym reported.0) less in
    let kept : slice_index_or now c false ≡ slice_index_or before c false = ap (λ (xs : List Bool). slice_index_or xs c false) grown ∙ get_or-append before (b ∷ []) false c inside in
    subst (Told s c) (sym kept) (reported.1 c less)

pub valid_more : (s : Skeleton) (n : ℕ) (before now : List Bool) (b : Bool) → now ≡ before ++ b ∷ [] → Told s n b → (length before ≡ n) × AreValid s n before
    → (length now ≡ n + 1) × AreValid s (n + 1) now
valid_more s n before now b grown same reported =
    let size : length (before ++ b ∷ []) ≡ length before + 1 = length-append before (b ∷ []) in
    (ap length grown ∙ size ∙ ap (λ (k : ℕ). k + 1) reported.0, λ c less. told_at s n before now b grown same reported c (last_or_earlier c n less))

-- there are signs if and only if the table is orientable
pub signs_tell : (rows : List Row) (r : Option (Bor (List Bool))) (b : Bool) → b ≡ is_some r → IsOrientation rows (option_copied r) → IsTrue b ↔ IsOrientable rows
signs_tell rows None b e h = (λ t. absurd (let f : false ≡ true = sym e ∙ t in cc), λ p. absurd (h p))
signs_tell rows (Some signs) b e h = (λ t. (signs.now, h.0), λ p. e)

pub informed : (rows : List Row) (i : Information) (o : Outcome) (text : List ℕ) → IsInformation rows i → o ≡ record { status = Done; text = text } → text ≡ information_text i → IsInformationAnswer rows o
informed rows i o text h same line = (i, h, same ∙ ap (λ (t : List ℕ). record { status = Done; text = t }) line)

four_pieces : (t t₁ t₂ t₃ t₄ a b c d : List ℕ) → t₁ ≡ t ++ a → t₂ ≡ t₁ ++ b → t₃ ≡ t₂ ++ c → t₄ ≡ t₃ ++ d → t₄ ≡ t ++ (((a ++ b) ++ c) ++ d)
four_pieces t t₁ t₂ t₃ t₄ a b c d e f g h =
    let two : t₂ ≡ t ++ (a ++ b) = f ∙ ap (λ (u : List ℕ). u ++ b) e ∙ append_assoc t a b in
    let three : t₃ ≡ t ++ ((a ++ b) ++ c) = g ∙ ap (λ (u : List ℕ). u ++ c) two ∙ append_assoc t (a ++ b) c in
    h ∙ ap (λ (u : List ℕ). u ++ d) three ∙ append_assoc t ((a ++ b) ++ c) d

-- the lines of the whole table, one after another
pub flags_written : (t t₁ t₂ t₃ t₄ : List ℕ) (n m : ℕ) (x y z w : Bool) → t₁ ≡ t ++ number_line (codes "tetrahedra ") n → t₂ ≡ t₁ ++ reported (codes "connected ") x
    → t₃ ≡ t₂ ++ reported (codes "orientable ") y → t₄ ≡ t₃ ++ reported (codes "closed ") z → n ≡ m → z ≡ w
    → t₄ ≡ t ++ (number_line (codes "tetrahedra ") m ++ reported (codes "connected ") x ++ reported (codes "orientable ") y ++ reported (codes "closed ") w)
flags_written t t₁ t₂ t₃ t₄ n m x y z w e f g h size same =
    four_pieces t t₁ t₂ t₃ t₄ _ _ _ _ (e ∙ ap (λ (k : ℕ). t ++ number_line (codes "tetrahedra ") k) size) f g (h ∙ ap (λ (b : Bool). t₃ ++ reported (codes "closed ") b) same)
