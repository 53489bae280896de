-- The verdict on a vertex surface: a solution, or the first equation of which a part exceeds the limit.
use Rattle.std.proofs.Common.{◌≡◌, ◌⊎◌, ℕ, suc, ◌+◌, ◌<◌, inl, inr, List, [], ◌∷◌, ◌++◌, length, refl, sym, ap, ◌∙◌, subst, arith, slice_index_or}
use Rattle.std.specs.List.{All}
use Rattle.std.proofs.Math.Seq.{get_or-append_seam}
use Rattle.std.proofs.lemmas.List.{get_or_append_left, length-append}
use Rattle.std.proofs.lemmas.List.Elements.{All-cons, All-get_or, All-nil}
use Rattle.text_definitions.specs.Written.{limit}
use Rattle.cone_definitions.specs.Rows.{Row as EquationRow, IsZeroAt, IsSolution}
use Rattle.cone_definitions.specs.Elimination.{HasLargePart, HasPartsWithin}
use Rattle.cone_definitions.specs.HoldingRows.{HoldsWithin}
use Rattle.cone_definitions.specs.Surfaces.{IsAdmissible}
use Rattle.cone_definitions.proofs.Decided.{parts_or_large}
use Rattle.table_definitions.specs.Table.{Row}
use Rattle.surface_definitions.specs.Coordinates.{columns, clash_list}
use Rattle.surface_definitions.specs.declared.Coords.{Coords}
use Rattle.surface_definitions.specs.declared.VectorFault.TheVariants.{Large}
use Rattle.surface_definitions.proofs.VerdictLaws.{accepted-verdict}
use Rattle.surface_definitions.proofs.FirstFaults.{large_told}
use Rattle.surface_vector_definitions.specs.Answers.{IsFit, IsUnfit}
use Rattle.outcome_definitions.specs.Sums.{IsFirst}
use Rattle.outcome_written_laws.specs.Surfaces.{IsFirstLarge, IsSolutionUnlessLarge, SurfacesAreSolutions}

-- all items pass, or there is a first item that fails, with a witness of its failure
module _ {A W : Type 0} (Passes : A → Type 0) (Fails : W → A → Type 0) (decide : (x : A) → Passes x ⊎ ((w : W) × Fails w x)) where
  abbrev FirstOf : List A → Type 0
  FirstOf list = (number : ℕ) × (w : W) × IsFirst Passes (Fails w) list number

  pub all_or_first : (list : List A) → All Passes list ⊎ FirstOf list
  all_or_first [] = inl (All-nil Passes)
  all_or_first (x ∷ xs) = elim (decide x) [
    | inr f ↦ inr (0, f.0, record { before = []; value = x; after = xs; occurs = refl; number_is = refl; passed = All-nil Passes; fails = f.1 })
    | inl p ↦ elim (all_or_first xs) [
      | inl all ↦ inl (All-cons Passes x xs p all)
      | inr f ↦ let first = f.2 in
          inr (
            suc f.0,
            f.1,
            record {
              before = x ∷ first.before;
              value = first.value;
              after = first.after;
              occurs = ap (λ (ys : List A). x ∷ ys) first.occurs;
              number_is = ap suc first.number_is;
              passed = All-cons Passes x first.before p first.passed;
              fails = first.fails;
            },
          )
    ]
  ]

-- no part exceeds the limit, or there is a first equation of which one does
pub small_or_large : (equations : List EquationRow) (x : List ℕ) → All (λ (equation : EquationRow). HasPartsWithin limit equation x) equations ⊎ ((row : ℕ) × IsFirstLarge equations x row)
small_or_large equations x = elim (all_or_first (λ (equation : EquationRow). HasPartsWithin limit equation x) (λ (w : Unit {0}) (equation : EquationRow). HasLargePart limit equation x) decide equations) [
  | inl all ↦ inl all
  | inr f ↦ inr (f.0, f.2)
]
  where
    decide : (equation : EquationRow) → HasPartsWithin limit equation x ⊎ ((w : Unit {0}) × HasLargePart limit equation x)
    decide equation = elim (parts_or_large limit equation x) [
      | inl parts ↦ inl parts
      | inr large ↦ inr (tt, large)
    ]

-- an admissible solution, with parts of any size
pub record IsAdmissibleSolution (coords : Coords) (rows : List Row) (equations : List EquationRow) (x : List ℕ) : Type 0 where
  pub solves : IsSolution (columns coords (length rows)) equations x
  pub admissible : IsAdmissible (clash_list coords (length rows)) x

module _ (coords : Coords) (rows : List Row) (equations : List EquationRow) (x : List ℕ) (s : IsAdmissibleSolution coords rows equations x) where
  pub small_is_fit : All (λ (equation : EquationRow). HasPartsWithin limit equation x) equations → IsFit coords rows equations x
  small_is_fit within = accepted-verdict limit (columns coords (length rows)) equations (clash_list coords (length rows)) x (record { solves = s.solves; admissible = s.admissible; within = within })

  pub large_is_unfit : (row : ℕ) → IsFirstLarge equations x row → IsUnfit coords rows equations x (Large row)
  large_is_unfit row f = large_told limit (columns coords (length rows)) equations (clash_list coords (length rows)) x row s.solves.width in_range
      (λ j l. met j (let e = f.number_is in omega arith)) exceeded
    where
      in_range : row < length equations
      in_range =
          let e : length equations ≡ length (f.before ++ f.value ∷ f.after) = ap (λ (es : List EquationRow). length es) f.occurs in
          let l : length (f.before ++ f.value ∷ f.after) ≡ length f.before + length (f.value ∷ f.after) = length-append f.before (f.value ∷ f.after) in
          let n = f.number_is in omega arith

      exceeded : HasLargePart limit (slice_index_or equations row []) x
      exceeded = subst (λ (equation : EquationRow). HasLargePart limit equation x) (sym (ap (λ (es : List EquationRow). slice_index_or es row []) f.occurs
          ∙ ap (λ n. slice_index_or (f.before ++ f.value ∷ f.after) n []) f.number_is ∙ get_or-append_seam f.before f.value f.after [])) f.fails

      met : (j : ℕ) → j < length f.before → HoldsWithin limit x (slice_index_or equations j [])
      met j l =
          let same : slice_index_or equations j [] ≡ slice_index_or f.before j [] =
          ap (λ (es : List EquationRow). slice_index_or es j []) f.occurs ∙ get_or_append_left f.before (f.value ∷ f.after) [] j l in
          let parts : HasPartsWithin limit (slice_index_or f.before j []) x = All-get_or (λ (equation : EquationRow). HasPartsWithin limit equation x) f.before j [] l f.passed in
          let here : j < length equations = (let n = f.number_is in let r = in_range in omega arith) in
          let zero : IsZeroAt (slice_index_or equations j []) x = All-get_or (λ (equation : EquationRow). IsZeroAt equation x) equations j [] here s.solves.zero in
          record { within = subst (λ (equation : EquationRow). HasPartsWithin limit equation x) (sym same) parts; zero = zero }

-- the verdict on an admissible solution is that it is one, or the first equation of which a part exceeds the limit
pub solutions_are_told : (coords : Coords) (rows : List Row) (equations : List EquationRow) (x : List ℕ) → IsSolution (columns coords (length rows)) equations x
    → IsAdmissible (clash_list coords (length rows)) x → IsSolutionUnlessLarge coords rows equations x
solutions_are_told coords rows equations x solves admissible = elim (small_or_large equations x) [
  | inl small ↦ inl (small, small_is_fit coords rows equations x surface small)
  | inr f ↦ inr (f.0, f.1, large_is_unfit coords rows equations x surface f.0 f.1)
]
  where
    surface : IsAdmissibleSolution coords rows equations x
    surface = record { solves = solves; admissible = admissible }

pub surfaces_are_solutions : SurfacesAreSolutions
surfaces_are_solutions coords rows equations x h = solutions_are_told coords rows equations x h.extreme.solution h.admissible
