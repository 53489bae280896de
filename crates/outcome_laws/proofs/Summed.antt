-- The answers about sums of surfaces are unique.
use Rattle.std.proofs.Common.{◌≡◌, ◌≢◌, ℕ, suc, List, [], ◌∷◌, ◌++◌, length, inl, inr, Option, Some, None, Result, Ok, Err, refl, sym, ap, ap₂, ◌∙◌, subst, subst₂, arith}
use Rattle.std.specs.List.{All, AllZip, AllByRecursion}
use Rattle.std.proofs.lemmas.List.Sorted.{IsPermutation-refl}
use Rattle.text_definitions.specs.Written.{limit}
use Rattle.cone_definitions.specs.Rows.{Row as EquationRow}
use Rattle.cone_definitions.specs.Listings.{Enumeration}
use Rattle.cone_definitions.specs.declared.Order.TheVariants.{Given, Free}
use Rattle.cone_definitions.proofs.Next.{one_surface_list_lem}
use Rattle.cone_definitions.proofs.PastLimit.{none_past}
use Rattle.table_definitions.specs.Table.{Row}
use Rattle.surface_definitions.specs.declared.Coords.{Coords}
use Rattle.surface_definitions.specs.declared.VectorFault.{VectorFault}
use Rattle.surface_definitions.specs.Verdict.{Verdict, solution}
use Rattle.surface_definitions.specs.TableSurfaces.{table_enumeration}
use Rattle.surface_vector_definitions.specs.Answers.{verdict_in, IsFit}
use Rattle.sum_definitions.specs.Sums.{Term}
use Rattle.sum_definitions.specs.Adding.{add_fault}
use Rattle.sum_definitions.specs.declared.AddFault.{AddFault}
use Rattle.sum_definitions.specs.declared.LargeTurn.{LargeTurn}
use Rattle.sum_laws.specs.Laws.{Answer, sum, large}
use Rattle.sum_laws.proofs.Runs.{one_answer}
use Rattle.text_document_definitions.specs.Blocks.{Block}
use Rattle.outcome_definitions.specs.declared.SumRefusal.{SumRefusal}
use Rattle.outcome_definitions.specs.declared.SumRefusal.TheVariants.{Unfit, UnfitTerm, LargeTimes, NoSum}
use Rattle.outcome_definitions.specs.Outcomes.{Outcome}
use Rattle.outcome_definitions.specs.Sums.{IsFirstRefused, AreAnswered, IsVerdict, IsTermVerdict, IsAddedUp, IsSummed, AreSums, IsDecomposed, IsDecomposeAnswer, IsAddupAnswer, sums_outcome, addup_outcome}
use Rattle.surface_definitions.proofs.OneSystem.{one_equations}
use Rattle.outcome_laws.proofs.Enumerated.{one_past_told}

-- vectors that all pass the check are admissible solutions within the limit
pub verdicts_fit : (coords : Coords) (rows : List Row) (equations : List EquationRow) (vectors : List (List ℕ)) (passed : List (Unit {0}))
    → AllZip (λ x answer. IsVerdict coords rows equations x (Ok answer)) vectors passed → AllByRecursion (IsFit coords rows equations) vectors
verdicts_fit coords rows equations [] passed h = tt
verdicts_fit coords rows equations (x ∷ vectors) [] h = absurd h
verdicts_fit coords rows equations (x ∷ vectors) (u ∷ passed) h = (h.0, verdicts_fit coords rows equations vectors passed h.1)

-- if the result for each item is unique, so is that for the list
module _ {A B E : Type 0} (IsResult : A → Result B E → Type 0) (one : (x : A) (r s : Result B E) → IsResult x r → IsResult x s → r ≡ s) where
  ok_same : (a b : B) → (let r : Result B E = Ok a in r ≡ Ok b) → a ≡ b
  ok_same a b e = cc

  err_same : (f g : E) → (let r : Result B E = Err f in r ≡ Err g) → f ≡ g
  err_same f g e = cc

  not_both : (x : A) (a : B) (f : E) → IsResult x (Ok a) → IsResult x (Err f) → ⊥
  not_both x a f h k = (let e : (let r : Result B E = Ok a in r ≡ Err f) = one x (Ok a) (Err f) h k in absurd cc)

  told_list : (list : List A) (cs ds : List B) → AllZip (λ x a. IsResult x (Ok a)) list cs → AllZip (λ x a. IsResult x (Ok a)) list ds → cs ≡ ds
  told_list [] [] [] f g = refl
  told_list [] [] (d ∷ ds) f g = absurd g
  told_list [] (c ∷ cs) ds f g = absurd f
  told_list (x ∷ list) [] ds f g = absurd f
  told_list (x ∷ list) (c ∷ cs) [] f g = absurd g
  told_list (x ∷ list) (c ∷ cs) (d ∷ ds) f g = ap₂ (λ (y : B) (ys : List B). y ∷ ys) (ok_same c d (one x (Ok c) (Ok d) f.0 g.0)) (told_list list cs ds f.1 g.1)

  abbrev Passes : A → Type 0
  Passes x = (answer : B) × IsResult x (Ok answer)

  -- no item of a list with answers is refused
  none_refused : (before : List A) (value : A) (after : List A) (cs : List B) (f : E) → AllZip (λ x a. IsResult x (Ok a)) (before ++ value ∷ after) cs → IsResult value (Err f) → ⊥
  none_refused [] value after [] f z h = absurd z
  none_refused [] value after (c ∷ cs) f z h = not_both value c f z.0 h
  none_refused (x ∷ before) value after [] f z h = absurd z
  none_refused (x ∷ before) value after (c ∷ cs) f z h = none_refused before value after cs f z.1 h

  -- both indices are equal, and so are both refusals
  abbrev SamePlace : (first second : ℕ) (f g : E) → Type 0
  SamePlace first second f g = (first ≡ second) × (f ≡ g)

  heads : (x y : A) (xs ys : List A) → x ∷ xs ≡ y ∷ ys → (x ≡ y) × (xs ≡ ys)
  heads x y xs ys e = (cc, cc)

  one_place : (before : List A) (value : A) (after other_before : List A) (other : A) (other_after : List A) (f g : E) → before ++ value ∷ after ≡ other_before ++ other ∷ other_after
      → All Passes before → IsResult value (Err f) → All Passes other_before → IsResult other (Err g) → SamePlace (length before) (length other_before) f g
  one_place [] value after [] other other_after f g e p h q k =
      let same = heads value other after other_after e in
      (refl, err_same f g (one value (Err f) (Err g) h (subst (λ (y : A). IsResult y (Err g)) (sym same.0) k)))
  one_place [] value after (y ∷ ys) other other_after f g e p h q k =
      let same = heads value y after (ys ++ other ∷ other_after) e in
      let passed : Passes y = q 0 y (omega arith) in
      absurd (not_both y passed.0 f passed.1 (subst (λ (z : A). IsResult z (Err f)) same.0 h))
  one_place (x ∷ xs) value after [] other other_after f g e p h q k =
      let same = heads x other (xs ++ value ∷ after) other_after e in
      let passed : Passes x = p 0 x (omega arith) in
      absurd (not_both x passed.0 g passed.1 (subst (λ (z : A). IsResult z (Err g)) (sym same.0) k))
  one_place (x ∷ xs) value after (y ∷ ys) other other_after f g e p h q k =
      let same = heads x y (xs ++ value ∷ after) (ys ++ other ∷ other_after) e in
      let more : SamePlace (length xs) (length ys) f g = one_place xs value after ys other other_after f g same.1 (λ i d l. p (suc i) d (omega arith)) h (λ i d l. q (suc i) d (omega arith)) k in
      (ap suc more.0, more.1)

  one_refused : (list : List A) (v w : ℕ) (f g : E) → IsFirstRefused IsResult list v f → IsFirstRefused IsResult list w g → (v ≡ w) × (f ≡ g)
  one_refused list v w f g h k =
      let p : SamePlace (length h.before) (length k.before) f g = one_place h.before h.value h.after k.before k.value k.after f g (sym h.occurs ∙ k.occurs) h.passed h.fails k.passed k.fails in
      (h.number_is ∙ p.0 ∙ sym k.number_is, p.1)

  pub told_once : (list : List A) (t u : Result (List B) (ℕ × E)) → AreAnswered IsResult list t → AreAnswered IsResult list u → t ≡ u
  told_once list (Ok cs) (Ok ds) h k = ap Ok (told_list list cs ds h k)
  told_once list (Ok cs) (Err r) h k = absurd (none_refused k.before k.value k.after cs r.1 (subst (λ (xs : List A). AllZip (λ x a. IsResult x (Ok a)) xs cs) k.occurs h) k.fails)
  told_once list (Err r) (Ok ds) h k = absurd (none_refused h.before h.value h.after ds r.1 (subst (λ (xs : List A). AllZip (λ x a. IsResult x (Ok a)) xs ds) h.occurs k) h.fails)
  told_once list (Err r) (Err s) h k = (let p = one_refused list r.0 s.0 r.1 s.1 h k in ap₂ (λ (n : ℕ) (f : E). Err (n, f)) p.0 p.1)

one_verdict : (coords : Coords) (rows : List Row) (equations : List EquationRow) (x : List ℕ) (r s : Verdict) → IsVerdict coords rows equations x r → IsVerdict coords rows equations x s → r ≡ s
one_verdict coords rows equations x r s h k = sym h ∙ k

one_term_verdict : (coords : Coords) (rows : List Row) (equations : List EquationRow) (term : Term) (r s : Verdict) → IsTermVerdict coords rows equations term r → IsTermVerdict coords rows equations term s → r ≡ s
one_term_verdict coords rows equations term r s h k = sym h ∙ k

-- sums
blocks_same : (x : List ℕ) (b c : Block) → b.vector ≡ x → c.vector ≡ x → (let a : Answer = sum b.times b.terms in a ≡ sum c.times c.terms) → b ≡ c
blocks_same x b c p q e =
    let times : b.times ≡ c.times = cc in
    let terms : b.terms ≡ c.terms = cc in
    let vectors : b.vector ≡ c.vector = p ∙ sym q in
    λ i. record { vector = vectors i; times = times i; terms = terms i }

turns_same : (p q : LargeTurn) → (let a : Answer = large p.turn p.column in a ≡ large q.turn q.column) → p ≡ q
turns_same p q e =
    let turns : p.turn ≡ q.turn = cc in
    let columns : p.column ≡ q.column = cc in
    λ i. record { turn = turns i; column = columns i }

one_sum : (most : ℕ) (list : List (List ℕ)) (x : List ℕ) (r s : Result Block LargeTurn) → IsSummed most list x r → IsSummed most list x s → r ≡ s
one_sum most list x (Ok b) (Ok c) h k = ap Ok (blocks_same x b c h.0 k.0 (one_answer most list x (sum b.times b.terms) (sum c.times c.terms) h.1 k.1))
one_sum most list x (Ok b) (Err q) h k = (let e : (let a : Answer = sum b.times b.terms in a ≡ large q.turn q.column) = one_answer most list x (sum b.times b.terms) (large q.turn q.column) h.1 k in absurd cc)
one_sum most list x (Err p) (Ok c) h k = (let e : (let a : Answer = large p.turn p.column in a ≡ sum c.times c.terms) = one_answer most list x (large p.turn p.column) (sum c.times c.terms) h k.1 in absurd cc)
one_sum most list x (Err p) (Err q) h k = ap Err (turns_same p q (one_answer most list x (large p.turn p.column) (large q.turn q.column) h k))

one_list_of_sums : (most : ℕ) (e : Enumeration) (rows : List Row) (vectors : List (List ℕ)) (o p : Outcome) → AreSums most e rows vectors o → AreSums most e rows vectors p → o ≡ p
one_list_of_sums most e rows vectors o p h k =
    let lists : h.list ≡ k.list = one_surface_list_lem e.system.columns e.system.rows e.system.rows e.pairs h.list k.list (IsPermutation-refl e.system.rows) h.listed.surfaces k.listed.surfaces in
    let there : AreAnswered (IsSummed most h.list) vectors k.reported = subst (λ (list : List (List ℕ)). AreAnswered (IsSummed most list) vectors k.reported) (sym lists) k.sums in
    h.outcome ∙ ap (sums_outcome rows) (told_once (IsSummed most h.list) (one_sum most h.list) vectors h.reported k.reported h.sums there) ∙ sym k.outcome

one_decomposed : (most : ℕ) (e : Enumeration) (rows : List Row) (vectors : List (List ℕ)) (checked : Result (List (Unit {0})) (ℕ × VectorFault)) (o p : Outcome) → e.order ≢ Free
    → IsDecomposed most e rows vectors checked o → IsDecomposed most e rows vectors checked p → o ≡ p
one_decomposed most e rows vectors (Ok passed) o p some (inl h) (inl k) = one_list_of_sums most e rows vectors o p h k
one_decomposed most e rows vectors (Ok passed) o p some (inl h) (inr k) = absurd (none_past e h.taken k.0 h.list k.1 some h.listed k.2)
one_decomposed most e rows vectors (Ok passed) o p some (inr h) (inl k) = absurd (none_past e k.taken h.0 k.list h.1 some k.listed h.2)
one_decomposed most e rows vectors (Ok passed) o p some (inr h) (inr k) = one_past_told e o p some h k
one_decomposed most e rows vectors (Err unfit) o p some h k = h ∙ sym k

given_not_free : Given ≢ Free
given_not_free e = absurd cc

pub one_decompose : (coords : Coords) (most : ℕ) (d : List Row × List (List ℕ)) (o p : Outcome) → IsDecomposeAnswer coords most d o → IsDecomposeAnswer coords most d p → o ≡ p
one_decompose coords most d o p h k =
    let e : h.equations ≡ k.equations = one_equations coords d.0 h.equations k.equations h.of_table k.of_table in
    let verdicts : AreAnswered (IsVerdict coords d.0 h.equations) d.1 k.checked = subst (λ (q : List EquationRow). AreAnswered (IsVerdict coords d.0 q) d.1 k.checked) (sym e) k.verdicts in
    let checks : h.checked ≡ k.checked = told_once (IsVerdict coords d.0 h.equations) (one_verdict coords d.0 h.equations) d.1 h.checked k.checked h.verdicts verdicts in
    let there : IsDecomposed most (table_enumeration coords Given most d.0 h.equations) d.0 d.1 h.checked p =
    subst₂ (λ (q : List EquationRow) (c : Result (List (Unit {0})) (ℕ × VectorFault)). IsDecomposed most (table_enumeration coords Given most d.0 q) d.0 d.1 c p) (sym e) (sym checks) k.reported in
    one_decomposed most (table_enumeration coords Given most d.0 h.equations) d.0 d.1 h.checked o p given_not_free h.reported there

-- given sums
module _ (coords : Coords) (rows : List Row) (equations : List EquationRow) where
  fit_or_not : (x : List ℕ) (fault : VectorFault) → verdict_in coords rows equations x ≡ solution → verdict_in coords rows equations x ≡ Err fault → ⊥
  fit_or_not x fault f g = (let z : solution ≡ Err fault = sym f ∙ g in absurd cc)

  faults_same : (x : List ℕ) (f g : VectorFault) → verdict_in coords rows equations x ≡ Err f → verdict_in coords rows equations x ≡ Err g → f ≡ g
  faults_same x f g h k = (let z : (let r : Verdict = Err f in r ≡ Err g) = sym h ∙ k in cc)

  none_or_some : (o : Option AddFault) (f : AddFault) → o ≡ None → o ≡ Some f → ⊥
  none_or_some o f h k = (let z : None ≡ Some f = sym h ∙ k in absurd cc)

  some_same : (o : Option AddFault) (f g : AddFault) → o ≡ Some f → o ≡ Some g → f ≡ g
  some_same o f g h k = (let z : Some f ≡ Some g = sym h ∙ k in cc)

  -- if all terms are solutions, there is no first term that is refused
  no_unfit_term : (terms : List Term) (i : ℕ) (fault : VectorFault) → All (λ (term : Term). verdict_in coords rows equations term.vector ≡ solution) terms → IsFirstRefused (IsTermVerdict coords rows equations) terms i fault → ⊥
  no_unfit_term terms i fault all h = at_value h.before (subst (λ (ts : List Term). All (λ (term : Term). verdict_in coords rows equations term.vector ≡ solution) ts) h.occurs all)
    where
      at_value : (before : List Term) → All (λ (term : Term). verdict_in coords rows equations term.vector ≡ solution) (before ++ h.value ∷ h.after) → ⊥
      at_value [] fit = fit_or_not h.value.vector fault (fit 0 h.value (omega arith)) h.fails
      at_value (t ∷ before) fit = at_value before (λ k d l. fit (suc k) d (omega arith))

  one_added : (block : Block) (r s : Result (Unit {0}) SumRefusal) → IsAddedUp coords rows equations block r → IsAddedUp coords rows equations block s → r ≡ s
  one_added block (Ok u) (Ok w) h k = refl
  one_added block (Ok u) (Err (Unfit g)) h k = absurd (fit_or_not block.vector g h.0.vector k)
  one_added block (Ok u) (Err (UnfitTerm j g)) h k = absurd (no_unfit_term block.terms j g h.0.terms k.1)
  one_added block (Ok u) (Err (NoSum g)) h k = absurd (none_or_some (add_fault limit block.vector block.times block.terms) g h.1 k.1)
  one_added block (Ok u) (Err (LargeTimes turn column)) h k = absurd k
  one_added block (Err (Unfit f)) (Ok w) h k = absurd (fit_or_not block.vector f k.0.vector h)
  one_added block (Err (Unfit f)) (Err (Unfit g)) h k = ap (λ (v : VectorFault). Err (Unfit v)) (faults_same block.vector f g h k)
  one_added block (Err (Unfit f)) (Err (UnfitTerm j g)) h k = absurd (fit_or_not block.vector f k.0 h)
  one_added block (Err (Unfit f)) (Err (NoSum g)) h k = absurd (fit_or_not block.vector f k.0.vector h)
  one_added block (Err (Unfit f)) (Err (LargeTimes turn column)) h k = absurd k
  one_added block (Err (UnfitTerm i f)) (Ok w) h k = absurd (no_unfit_term block.terms i f k.0.terms h.1)
  one_added block (Err (UnfitTerm i f)) (Err (Unfit g)) h k = absurd (fit_or_not block.vector g h.0 k)
  one_added block (Err (UnfitTerm i f)) (Err (UnfitTerm j g)) h k =
      let p = one_refused (IsTermVerdict coords rows equations) (one_term_verdict coords rows equations) block.terms i j f g h.1 k.1 in ap₂ (λ (n : ℕ) (v : VectorFault). Err (UnfitTerm n v)) p.0 p.1
  one_added block (Err (UnfitTerm i f)) (Err (NoSum g)) h k = absurd (no_unfit_term block.terms i f k.0.terms h.1)
  one_added block (Err (UnfitTerm i f)) (Err (LargeTimes turn column)) h k = absurd k
  one_added block (Err (NoSum f)) (Ok w) h k = absurd (none_or_some (add_fault limit block.vector block.times block.terms) f k.1 h.1)
  one_added block (Err (NoSum f)) (Err (Unfit g)) h k = absurd (fit_or_not block.vector g h.0.vector k)
  one_added block (Err (NoSum f)) (Err (UnfitTerm j g)) h k = absurd (no_unfit_term block.terms j g h.0.terms k.1)
  one_added block (Err (NoSum f)) (Err (NoSum g)) h k = ap (λ (v : AddFault). Err (NoSum v)) (some_same (add_fault limit block.vector block.times block.terms) f g h.1 k.1)
  one_added block (Err (NoSum f)) (Err (LargeTimes turn column)) h k = absurd k
  one_added block (Err (LargeTimes turn column)) s h k = absurd h

pub one_addup : (coords : Coords) (d : List Row × List Block) (o p : Outcome) → IsAddupAnswer coords d o → IsAddupAnswer coords d p → o ≡ p
one_addup coords d o p h k =
    let e : h.equations ≡ k.equations = one_equations coords d.0 h.equations k.equations h.of_table k.of_table in
    let there : AreAnswered (IsAddedUp coords d.0 h.equations) d.1 k.reported = subst (λ (q : List EquationRow). AreAnswered (IsAddedUp coords d.0 q) d.1 k.reported) (sym e) k.added in
    h.outcome ∙ ap addup_outcome (told_once (IsAddedUp coords d.0 h.equations) (one_added coords d.0 h.equations) d.1 h.reported k.reported h.added there) ∙ sym k.outcome
