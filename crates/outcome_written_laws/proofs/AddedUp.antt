-- Sums of surfaces are accepted, unless a part of an equation exceeds the limit at a term.
use Rattle.std.proofs.Common.{◌≡◌, ℕ, ◌*◌, ◌≤◌, inl, inr, ◌↔◌, None, ℤ, List, [], ◌∷◌, ◌++◌, length, map, slice_index, Ok, Err, refl, sym, ap, ◌∙◌, subst, arith}
use Rattle.std.specs.List.{All, AllZip, AllByRecursion, Contains, slice_index_or}
use Rattle.std.proofs.lemmas.List.Elements.{recursion_from_All, All-from_recursion, All-weaker, All-contains}
use Rattle.std.proofs.lemmas.List.Sums.{sum_by-le-sum_by}
use Rattle.std.proofs.Math.Nat.{mul-le-mul_left}
use Rattle.text_definitions.specs.Written.{limit}
use Rattle.cone_definitions.specs.Rows.{Row as EquationRow, plus_part, minus_part, positive_coefficient, negative_coefficient}
use Rattle.cone_definitions.specs.Surfaces.{IsVertexSurface, IsSurfaceList}
use Rattle.cone_definitions.specs.Elimination.{HasPartsWithin}
use Rattle.table_definitions.specs.Table.{Row}
use Rattle.surface_definitions.specs.declared.Coords.{Coords}
use Rattle.surface_definitions.specs.declared.VectorFault.TheVariants.{Large}
use Rattle.surface_definitions.specs.QuadEquations.{AreEquations}
use Rattle.surface_definitions.specs.Coordinates.{columns, clash_list}
use Rattle.surface_definitions.specs.Laws.{IsAcceptedVector}
use Rattle.surface_definitions.proofs.VerdictLaws.{accepted_by}
use Rattle.surface_vector_definitions.specs.Answers.{IsFit}
use Rattle.sum_definitions.specs.Sums.{Term, IsSum, HasRays}
use Rattle.sum_definitions.specs.Adding.{add_fault}
use Rattle.sum_laws.specs.Laws.{IsSumOfRays}
use Rattle.sum_laws.proofs.Turns.{listed_ray}
use Rattle.sum_laws.proofs.Runs.{sum_is_right}
use Rattle.sum_laws.proofs.Added.{no_fault_adds_up}
use Rattle.sum_laws.proofs.Surfaces.{surfaces_are_rays_lem}
use Rattle.text_document_definitions.specs.Blocks.{Block}
use Rattle.outcome_definitions.specs.declared.SumRefusal.TheVariants.{UnfitTerm}
use Rattle.outcome_definitions.specs.Outcomes.{Outcome}
use Rattle.outcome_definitions.specs.Sums.{IsFirstRefused, AreAnswered, IsTermVerdict, IsAddedUp, IsSummed, IsAddupAnswer, sum_refusal_outcome, accepted_outcome}
use Rattle.outcome_laws.proofs.Summed.{one_addup}
use Rattle.outcome_written_laws.specs.Sums.{AreSumsOf, IsSmallTerm, IsSmallBlock, IsLargeBlock, AreLarge, IsAcceptedUnlessLarge, SumsAreAcceptedUnlessLarge, WholeSumsAreAccepted}
use Rattle.outcome_written_laws.proofs.SmallNumbers.{second_factor, each_term}
use Rattle.outcome_written_laws.proofs.Verdicts.{IsAdmissibleSolution, small_is_fit, large_is_unfit}
use Rattle.outcome_written_laws.proofs.TermVerdicts.{blocks_or_large}

-- a block whose vector is an admissible solution within the limit, and whose terms are surfaces that add up to it
pub record IsSumBlock (coords : Coords) (rows : List Row) (equations : List EquationRow) (block : Block) : Type 0 where
  pub vector : IsFit coords rows equations block.vector
  pub terms : AllByRecursion (λ (term : Term). IsAdmissibleSolution coords rows equations term.vector) block.terms
  pub adds_up : add_fault limit block.vector block.times block.terms ≡ None

-- what holds of all items holds of those before an item, and of the item
parted : {A : Type 0} (P : A → Type 0) (before : List A) (value : A) (after : List A) → AllByRecursion P (before ++ value ∷ after) → AllByRecursion P before × P value
parted P [] value after h = (tt, h.0)
parted P (x ∷ before) value after h = (let more = parted P before value after h.1 in ((h.0, more.0), more.1))

module _ (coords : Coords) (rows : List Row) (equations : List EquationRow) where
  abbrev IsTermSurface : Term → Type 0
  IsTermSurface term = IsAdmissibleSolution coords rows equations term.vector

  abbrev IsTermFit : Term → Type 0
  IsTermFit term = IsFit coords rows equations term.vector

  -- a term that is a surface, with no part of an equation above the limit, is accepted
  terms_are_fit : (terms : List Term) → AllByRecursion IsTermSurface terms → AllByRecursion (IsSmallTerm equations) terms → AllByRecursion IsTermFit terms
  terms_are_fit [] s h = tt
  terms_are_fit (term ∷ terms) s h = (small_is_fit coords rows equations term.vector s.0 h.0, terms_are_fit terms s.1 h.1)

  block_is_accepted : (block : Block) → IsSumBlock coords rows equations block → IsSmallBlock equations block → IsAddedUp coords rows equations block (Ok tt)
  block_is_accepted block b h = (
    record { vector = b.vector; terms = All-from_recursion IsTermFit block.terms (terms_are_fit block.terms b.terms (recursion_from_All (IsSmallTerm equations) block.terms h)) },
    b.adds_up,
  )

  abbrev Passes : Block → Type 0
  Passes block = (answer : Unit {0}) × IsAddedUp coords rows equations block (Ok answer)

  all_accepted : (blocks : List Block) → AllByRecursion (IsSumBlock coords rows equations) blocks → AllByRecursion (IsSmallBlock equations) blocks
      → AllByRecursion Passes blocks × AllZip (λ block answer. IsAddedUp coords rows equations block (Ok answer)) blocks (map (λ (block : Block). tt) blocks)
  all_accepted [] b h = (tt, tt)
  all_accepted (block ∷ blocks) b h =
      let first : IsAddedUp coords rows equations block (Ok tt) = block_is_accepted block b.0 h.0 in
      let more = all_accepted blocks b.1 h.1 in
      (((tt, first), more.0), (first, more.1))

  block_is_refused : (block : Block) (i row : ℕ) → IsSumBlock coords rows equations block → IsLargeBlock equations (i, row) block → IsAddedUp coords rows equations block (Err (UnfitTerm i (Large row)))
  block_is_refused block i row b f =
      let surfaces = parted IsTermSurface f.before f.value f.after (subst (λ (ts : List Term). AllByRecursion IsTermSurface ts) f.occurs b.terms) in (
        b.vector,
        record {
          before = f.before;
          value = f.value;
          after = f.after;
          occurs = f.occurs;
          number_is = f.number_is;
          passed = All-weaker IsTermFit (λ (term : Term). (answer : Unit {0}) × IsTermVerdict coords rows equations term (Ok answer)) (λ term fit. (tt, fit)) f.before
              (All-from_recursion IsTermFit f.before (terms_are_fit f.before surfaces.0 (recursion_from_All (IsSmallTerm equations) f.before f.passed)));
          fails = large_is_unfit coords rows equations f.value.vector surfaces.1 row f.fails;
        },
      )

  module _ (blocks : List Block) (b : AllByRecursion (IsSumBlock coords rows equations) blocks) where
    accepted_told : All (IsSmallBlock equations) blocks → AreAnswered (IsAddedUp coords rows equations) blocks (Ok (map (λ (block : Block). tt) blocks))
    accepted_told h = (all_accepted blocks b (recursion_from_All (IsSmallBlock equations) blocks h)).1

    refused_told : (v : ℕ) (at : ℕ × ℕ) → AreLarge equations blocks v at → IsFirstRefused (IsAddedUp coords rows equations) blocks v (UnfitTerm at.0 (Large at.1))
    refused_told v at f =
        let parts = parted (IsSumBlock coords rows equations) f.before f.value f.after (subst (λ (bs : List Block). AllByRecursion (IsSumBlock coords rows equations) bs) f.occurs b) in
        record {
          before = f.before;
          value = f.value;
          after = f.after;
          occurs = f.occurs;
          number_is = f.number_is;
          passed = All-from_recursion Passes f.before (all_accepted f.before parts.0 (recursion_from_All (IsSmallBlock equations) f.before f.passed)).0;
          fails = block_is_refused f.value at.0 at.1 parts.1 f.fails;
        }

    accepted_there : AreEquations coords rows equations → All (IsSmallBlock equations) blocks → IsAddupAnswer coords (rows, blocks) accepted_outcome
    accepted_there e h = record { equations = equations; of_table = e; reported = Ok (map (λ (block : Block). tt) blocks); added = accepted_told h; outcome = refl }

    refused_there : AreEquations coords rows equations → (v : ℕ) (at : ℕ × ℕ) → AreLarge equations blocks v at → IsAddupAnswer coords (rows, blocks) (sum_refusal_outcome v (UnfitTerm at.0 (Large at.1)))
    refused_there e v at f = record { equations = equations; of_table = e; reported = Err (v, UnfitTerm at.0 (Large at.1)); added = refused_told v at f; outcome = refl }

    answer_found : AreEquations coords rows equations → (o : Outcome) → IsAddupAnswer coords (rows, blocks) o → IsAcceptedUnlessLarge equations blocks o
    answer_found e o h = elim (blocks_or_large equations blocks) [
      | inl small ↦ inl (small, one_addup coords (rows, blocks) o accepted_outcome h (accepted_there e small))
      | inr f ↦ inr (f.0, f.1, f.2, one_addup coords (rows, blocks) o (sum_refusal_outcome f.0 (UnfitTerm (f.1).0 (Large (f.1).1))) h (refused_there e f.0 f.1 f.2))
    ]

    is_answer : AreEquations coords rows equations → (o : Outcome) → IsAcceptedUnlessLarge equations blocks o → IsAddupAnswer coords (rows, blocks) o
    is_answer e o (inl h) = subst (IsAddupAnswer coords (rows, blocks)) (sym h.1) (accepted_there e h.0)
    is_answer e o (inr h) = subst (IsAddupAnswer coords (rows, blocks)) (sym h.3) (refused_there e h.0 h.1 h.2)

-- ---- the blocks of sums

-- a vector that is at most another at each column has smaller parts
parts_below : (equation : EquationRow) (v x : List ℕ) → ((j : ℕ) → slice_index v j ≤ slice_index x j) → HasPartsWithin limit equation x → HasPartsWithin limit equation v
parts_below equation v x below parts =
    let plus : plus_part equation v ≤ plus_part equation x =
    sum_by-le-sum_by (λ (t : ℕ × ℤ). positive_coefficient t.1 * slice_index v t.0) (λ (t : ℕ × ℤ). positive_coefficient t.1 * slice_index x t.0) equation (λ t. mul-le-mul_left (positive_coefficient t.1) (below t.0)) in
    let minus : minus_part equation v ≤ minus_part equation x =
    sum_by-le-sum_by (λ (t : ℕ × ℤ). negative_coefficient t.1 * slice_index v t.0) (λ (t : ℕ × ℤ). negative_coefficient t.1 * slice_index x t.0) equation (λ t. mul-le-mul_left (negative_coefficient t.1) (below t.0)) in
    (omega (arith, parts.0), omega (arith, parts.1))

-- an admissible solution within the limit has the rays of the list, whose vectors are surfaces
module _ (coords : Coords) (most : ℕ) (rows : List Row) (equations : List EquationRow) (list : List (List ℕ))
    (surfaces : IsSurfaceList (columns coords (length rows)) equations (clash_list coords (length rows)) list) where
  pub fit_has_rays : (x : List ℕ) → IsFit coords rows equations x → HasRays (columns coords (length rows)) equations list x
  fit_has_rays x fit =
      let a : IsAcceptedVector limit (columns coords (length rows)) equations (clash_list coords (length rows)) x = accepted_by limit (columns coords (length rows)) equations (clash_list coords (length rows)) x fit in
      surfaces_are_rays_lem (columns coords (length rows)) equations (clash_list coords (length rows)) list x surfaces a.solves a.admissible

  listed_surface : (v : List ℕ) → Contains list v → IsAdmissibleSolution coords rows equations v
  listed_surface v c =
      let s : IsVertexSurface (columns coords (length rows)) equations (clash_list coords (length rows)) v =
      All-contains (IsVertexSurface (columns coords (length rows)) equations (clash_list coords (length rows))) list v surfaces.vertex_surfaces c in
      record { solves = s.extreme.solution; admissible = s.admissible }

  listed_surfaces : (terms : List Term) → AllByRecursion (λ (term : Term). Contains list term.vector) terms → AllByRecursion (λ (term : Term). IsAdmissibleSolution coords rows equations term.vector) terms
  listed_surfaces [] h = tt
  listed_surfaces (term ∷ terms) h = (listed_surface term.vector h.0, listed_surfaces terms h.1)

  module _ (block : Block) (fit : IsFit coords rows equations block.vector) (s : IsSum most list block.vector block.times block.terms) where
    rays : HasRays (columns coords (length rows)) equations list block.vector
    rays = fit_has_rays block.vector fit

    right : IsSumOfRays list most block.vector block.times block.terms
    right = sum_is_right (columns coords (length rows)) equations list block.vector rays most block.times block.terms s

    widths : All (λ (term : Term). length term.vector ≡ length block.vector) block.terms
    widths k d l = (listed_ray (columns coords (length rows)) equations list block.vector rays (slice_index_or block.terms k d).vector (right.listed k d l)).extreme.solution.width ∙ sym rays.solution.width

    pub sum_block : most ≤ limit → IsSumBlock coords rows equations block
    sum_block low = record {
      vector = fit;
      terms = listed_surfaces block.terms (recursion_from_All (λ (term : Term). Contains list term.vector) block.terms right.listed);
      adds_up = (no_fault_adds_up limit block.vector block.times block.terms widths).1 (record {
        some = right.adds_up.some;
        within = λ j. (let l : block.times * slice_index block.vector j ≤ most = right.adds_up.within j in omega arith);
        equal = right.adds_up.equal;
      });
    }

    -- if the block takes its vector once, each term has no entry above that of the vector
    below_vector : (terms : List Term) → block.times ≡ 1 → AllByRecursion (λ (term : Term). 1 ≤ term.count) terms
        → AllByRecursion (λ (term : Term). (j : ℕ) → term.count * slice_index term.vector j ≤ block.times * slice_index block.vector j) terms → AllByRecursion (IsSmallTerm equations) terms
    below_vector [] once some within = tt
    below_vector (term ∷ terms) once some within = (small_below, below_vector terms once some.1 within.1)
      where
        entry : (j : ℕ) → slice_index term.vector j ≤ slice_index block.vector j
        entry j =
            let l : term.count * slice_index term.vector j ≤ block.times * slice_index block.vector j = within.0 j in
            let m : slice_index term.vector j ≤ term.count * slice_index term.vector j = second_factor term.count (slice_index term.vector j) some.0 in
            let e : block.times * slice_index block.vector j ≡ 1 * slice_index block.vector j = ap (λ n. n * slice_index block.vector j) once in omega arith

        parts : IsAcceptedVector limit (columns coords (length rows)) equations (clash_list coords (length rows)) block.vector
        parts = accepted_by limit (columns coords (length rows)) equations (clash_list coords (length rows)) block.vector fit

        small_below : IsSmallTerm equations term
        small_below k d l = parts_below (slice_index_or equations k d) term.vector block.vector entry (parts.within k d l)

    pub whole_is_small : block.times ≡ 1 → IsSmallBlock equations block
    whole_is_small once = All-from_recursion (IsSmallTerm equations) block.terms (below_vector block.terms once (recursion_from_All (λ (term : Term). 1 ≤ term.count) block.terms right.counts)
        (each_term block.terms (λ j. block.times * slice_index block.vector j) (λ j. let e = right.adds_up.equal j in omega arith)))

-- what holds of each sum holds of each block
each_block : (coords : Coords) (most : ℕ) (rows : List Row) (equations : List EquationRow) (list : List (List ℕ)) (P : Block → Type 0)
    → ((block : Block) → IsFit coords rows equations block.vector → IsSum most list block.vector block.times block.terms → P block)
    → (vectors : List (List ℕ)) (blocks : List Block) → AllByRecursion (IsFit coords rows equations) vectors → AllZip (λ x block. IsSummed most list x (Ok block)) vectors blocks → AllByRecursion P blocks
each_block coords most rows equations list P one [] [] fit sums = tt
each_block coords most rows equations list P one [] (block ∷ blocks) fit sums = absurd sums
each_block coords most rows equations list P one (x ∷ vectors) [] fit sums = absurd sums
each_block coords most rows equations list P one (x ∷ vectors) (block ∷ blocks) fit sums = (
  one block (subst (IsFit coords rows equations) (sym sums.0.0) fit.0) (subst (λ (y : List ℕ). IsSum most list y block.times block.terms) (sym sums.0.0) sums.0.1),
  each_block coords most rows equations list P one vectors blocks fit.1 sums.1,
)

module _ (coords : Coords) (most : ℕ) (rows : List Row) (equations : List EquationRow) (vectors : List (List ℕ)) (blocks : List Block) (h : AreSumsOf coords most rows equations vectors blocks) where
  pub of_each : (P : Block → Type 0) → ((block : Block) → IsFit coords rows equations block.vector → IsSum most h.list block.vector block.times block.terms → P block) → AllByRecursion P blocks
  of_each P one = each_block coords most rows equations h.list P one vectors blocks (recursion_from_All (IsFit coords rows equations) vectors h.fit) h.sums

  sum_blocks : most ≤ limit → AllByRecursion (IsSumBlock coords rows equations) blocks
  sum_blocks low = of_each (IsSumBlock coords rows equations) (λ block fit s. sum_block coords most rows equations h.list h.listed.surfaces block fit s low)

  unless_large : most ≤ limit → (o : Outcome) → IsAddupAnswer coords (rows, blocks) o ↔ IsAcceptedUnlessLarge equations blocks o
  unless_large low o = (answer_found coords rows equations blocks (sum_blocks low) h.of_table o, is_answer coords rows equations blocks (sum_blocks low) h.of_table o)

  whole_small : All (λ (block : Block). block.times ≡ 1) blocks → All (IsSmallBlock equations) blocks
  whole_small once = All-from_recursion (IsSmallBlock equations) blocks (once_small blocks (recursion_from_All (λ (block : Block). block.times ≡ 1) blocks once)
      (of_each (λ (block : Block). block.times ≡ 1 → IsSmallBlock equations block) (λ block fit s e. whole_is_small coords most rows equations h.list h.listed.surfaces block fit s e)))
    where
      once_small : (bs : List Block) → AllByRecursion (λ (block : Block). block.times ≡ 1) bs → AllByRecursion (λ (block : Block). block.times ≡ 1 → IsSmallBlock equations block) bs → AllByRecursion (IsSmallBlock equations) bs
      once_small [] e f = tt
      once_small (block ∷ bs) e f = (f.0 e.0, once_small bs e.1 f.1)

  whole_accepted : most ≤ limit → All (λ (block : Block). block.times ≡ 1) blocks → (o : Outcome) → IsAddupAnswer coords (rows, blocks) o ↔ (o ≡ accepted_outcome)
  whole_accepted low once o = (
    λ a. one_addup coords (rows, blocks) o accepted_outcome a (is_answer coords rows equations blocks (sum_blocks low) h.of_table accepted_outcome (inl (whole_small once, refl))),
    λ e. is_answer coords rows equations blocks (sum_blocks low) h.of_table o (inl (whole_small once, e)),
  )

pub sums_accepted : SumsAreAcceptedUnlessLarge
sums_accepted coords most rows equations vectors blocks low h o = unless_large coords most rows equations vectors blocks h low o

pub whole_sums_accepted : WholeSumsAreAccepted
whole_sums_accepted coords most rows equations vectors blocks low h once o = whole_accepted coords most rows equations vectors blocks h low once o
