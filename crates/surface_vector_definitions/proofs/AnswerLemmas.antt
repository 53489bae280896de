-- The answer for the vectors of a document is unique if the answer for each vector is.
use Rattle.std.proofs.Common.{◌≡◌, ℕ, zero, suc, ◌<◌, ◌≤◌, List, [], ◌∷◌, length, inl, inr, Some, None, Result, Ok, Err, refl, sym, ap, ◌∙◌, subst, arith}
use Rattle.std.specs.Prelude.{sum}
use Rattle.std.specs.List.{AllZip, slice_index_or}
use Rattle.std.proofs.lemmas.Bool.{cases_order}
use Rattle.cone_definitions.specs.Rows.{Row as EquationRow}
use Rattle.text_definitions.specs.Written.{limit}
use Rattle.skeleton_definitions.specs.Skeleton.{Skeleton}
use Rattle.surface_definitions.specs.declared.Coords.{Coords}
use Rattle.surface_definitions.specs.Verdict.{Verdict, solution}
use Rattle.skeleton_definitions.specs.Links.{euler_of}
use Rattle.surface_vector_definitions.specs.Properties.{AreProperties, IsPropertyAnswer}
use Rattle.surface_vector_definitions.specs.declared.Properties.{Properties}
use Rattle.surface_vector_definitions.specs.declared.PropertyFault.{PropertyFault}
use Rattle.surface_vector_definitions.specs.declared.PropertyFault.TheVariants.{Large}
use Rattle.surface_vector_definitions.specs.declared.ManyPieces.{ManyPieces}
use Rattle.surface_vector_definitions.specs.Components.{most_pieces, Component}
use Rattle.surface_vector_definitions.specs.Answers.{Description, verdict_in, IsDescription, IsFirstRefused, AreAnswered}
use Rattle.surface_vector_definitions.specs.declared.Refusal.{Refusal}
use Rattle.surface_vector_definitions.specs.declared.Refusal.TheVariants.{Unfit, LargeSum, TooManyPieces, LargeLift, NoLift}
use Rattle.surface_definitions.specs.declared.VectorFault.{VectorFault}
use Rattle.surface_vector_definitions.proofs.Determined.{one_answer}

module _ {A : Type 0} (IsResult : List ℕ → Result A Refusal → Type 0) (one : (xs : List ℕ) (a b : Result A Refusal) → IsResult xs a → IsResult xs b → a ≡ b) where
  ok_same : (a b : A) → (let r : Result A Refusal = Ok a in r ≡ Ok b) → a ≡ b
  ok_same a b e = cc

  err_same : (f g : Refusal) → (let r : Result A Refusal = Err f in r ≡ Err g) → f ≡ g
  err_same f g e = cc

  not_both : (a : A) (f : Refusal) → (let r : Result A Refusal = Ok a in r ≡ Err f) → ⊥
  not_both a f e = absurd cc

  told_list : (vectors : List (List ℕ)) (cs ds : List A) → AllZip (λ xs a. IsResult xs (Ok a)) vectors cs → AllZip (λ xs a. IsResult xs (Ok a)) vectors ds → cs ≡ ds
  told_list [] [] [] f g = refl
  told_list [] [] (d ∷ ds) f g = absurd g
  told_list [] (c ∷ cs) ds f g = absurd f
  told_list (xs ∷ vectors) [] ds f g = absurd f
  told_list (xs ∷ vectors) (c ∷ cs) [] f g = absurd g
  told_list (xs ∷ vectors) (c ∷ cs) (d ∷ ds) f g = ap (λ x. x ∷ cs) (ok_same c d (one xs (Ok c) (Ok d) f.0 g.0)) ∙ ap (λ ys. d ∷ ys) (told_list vectors cs ds f.1 g.1)

  -- if a list of vectors has answers, each of its vectors has one
  told_at : (vectors : List (List ℕ)) (cs : List A) (v : ℕ) → v < length vectors → AllZip (λ xs a. IsResult xs (Ok a)) vectors cs → (a : A) × IsResult (slice_index_or vectors v []) (Ok a)
  told_at [] cs v l f = absurd (omega arith)
  told_at (xs ∷ vectors) [] v l f = absurd f
  told_at (xs ∷ vectors) (c ∷ cs) zero l f = (c, f.0)
  told_at (xs ∷ vectors) (c ∷ cs) (suc v) l f = told_at vectors cs v (omega arith) f.1

  told_not_refused : (vectors : List (List ℕ)) (v : ℕ) (fault : Refusal) → (a : A) × IsResult (slice_index_or vectors v []) (Ok a) → IsResult (slice_index_or vectors v []) (Err fault) → ⊥
  told_not_refused vectors v fault f g = not_both f.0 fault (one (slice_index_or vectors v []) (Ok f.0) (Err fault) f.1 g)

  one_refusal : (vectors : List (List ℕ)) (v w : ℕ) (f g : Refusal) → IsFirstRefused IsResult vectors v f → IsFirstRefused IsResult vectors w g → (let p : ℕ × Refusal = (v, f) in p ≡ (w, g))
  one_refusal vectors v w f g h k = elim (cases_order v w) [
    | inl e ↦ (let there : IsResult (slice_index_or vectors v []) (Err g) = subst (λ u. IsResult (slice_index_or vectors u []) (Err g)) (sym e) k.refused in
        let faults : f ≡ g = err_same f g (one (slice_index_or vectors v []) (Err f) (Err g) h.refused there) in
        λ i. (e i, faults i))
    | inr (inl less) ↦ absurd (told_not_refused vectors v f (k.before v less) h.refused)
    | inr (inr more) ↦ absurd (told_not_refused vectors w g (h.before w more) k.refused)
  ]

  pub told_once : (vectors : List (List ℕ)) (a b : Result (List A) (ℕ × Refusal)) → AreAnswered IsResult vectors a → AreAnswered IsResult vectors b → a ≡ b
  told_once vectors (Ok cs) (Ok ds) f g = ap Ok (told_list vectors cs ds f g)
  told_once vectors (Ok cs) (Err q) f g = absurd (told_not_refused vectors q.0 q.1 (told_at vectors cs q.0 g.in_range f) g.refused)
  told_once vectors (Err p) (Ok ds) f g = absurd (told_not_refused vectors p.0 p.1 (told_at vectors ds p.0 f.in_range g) f.refused)
  told_once vectors (Err p) (Err q) f g = ap Err (one_refusal vectors p.0 q.0 p.1 q.1 f g)

one_record : (s : Skeleton) (coords : Coords) (xs : List ℕ) (p q : Properties) → AreProperties s coords xs p → AreProperties s coords xs q → p ≡ q
one_record s coords xs p q f g =
    let points : p.points ≡ q.points = f.points ∙ sym g.points in
    let arcs : p.arcs ≡ q.arcs = f.arcs ∙ sym g.arcs in
    let pieces : p.pieces ≡ q.pieces = f.pieces ∙ sym g.pieces in
    let linking : p.linking ≡ q.linking = f.linking ∙ sym g.linking in
    let boundary : p.boundary ≡ q.boundary = f.boundary ∙ sym g.boundary in
    let euler : p.euler ≡ q.euler = f.euler ∙ (λ i. euler_of (points i) (arcs i) (pieces i)) ∙ sym g.euler in
    λ i. record { points = points i; arcs = arcs i; pieces = pieces i; euler = euler i; linking = linking i; boundary = boundary i }

pub one_property_answer : (max : ℕ) (s : Skeleton) (coords : Coords) (xs : List ℕ) (a b : Result Properties PropertyFault) → IsPropertyAnswer max s coords xs a → IsPropertyAnswer max s coords xs b → a ≡ b
one_property_answer max s coords xs (Ok p) (Ok q) f g = ap Ok (one_record s coords xs p q f.1 g.1)
one_property_answer max s coords xs (Ok p) (Err (Large t)) f g = absurd (let z : None ≡ Some t = sym f.0 ∙ g in cc)
one_property_answer max s coords xs (Err (Large t)) (Ok q) f g = absurd (let z : None ≡ Some t = sym g.0 ∙ f in cc)
one_property_answer max s coords xs (Err (Large t)) (Err (Large u)) f g = (let z : Some t ≡ Some u = sym f ∙ g in let same : t ≡ u = cc in ap (λ k. Err (Large k)) same)

same_lists : (cs ds : List Component) → (let r : Result (List Component) ManyPieces = Ok cs in r ≡ Ok ds) → cs ≡ ds
same_lists cs ds e = cc

same_properties : (p q : Properties) → (let r : Result Properties PropertyFault = Ok p in r ≡ Ok q) → p ≡ q
same_properties p q e = cc

module _ (s : Skeleton) (coords : Coords) (equations : List EquationRow) (xs : List ℕ) where
  fit_or_not : (fault : VectorFault) → verdict_in coords s.rows equations xs ≡ solution → verdict_in coords s.rows equations xs ≡ Err fault → ⊥
  fit_or_not fault f g = (let z : solution ≡ Err fault = sym f ∙ g in absurd cc)

  one_fault : (f g : VectorFault) → verdict_in coords s.rows equations xs ≡ Err f → verdict_in coords s.rows equations xs ≡ Err g → f ≡ g
  one_fault f g h k = (let z : (let r : Verdict = Err f in r ≡ Err g) = sym h ∙ k in cc)

  one_description : (a b : Result Description Refusal) → IsDescription s coords equations xs a → IsDescription s coords equations xs b → a ≡ b
  one_description (Ok c) (Ok d) f g =
      let vectors : c.vector ≡ d.vector = f.1 ∙ sym g.1 in
      let properties : c.properties ≡ d.properties = same_properties c.properties d.properties (one_property_answer limit s coords xs (Ok c.properties) (Ok d.properties) f.2 g.2) in
      let components : c.components ≡ d.components = same_lists c.components d.components (one_answer s.rows coords xs (Ok c.components) (Ok d.components) f.3 g.3) in
      λ i. Ok (record { vector = vectors i; properties = properties i; components = components i })
  one_description (Ok c) (Err (Unfit v)) f g = absurd (fit_or_not v f.0 g)
  one_description (Ok c) (Err (LargeSum t)) f g = absurd (let z : None ≡ Some t = sym f.2.0 ∙ g.1 in cc)
  one_description (Ok c) (Err (TooManyPieces n)) f g = absurd (let l : sum xs ≤ most_pieces = f.3.0 in let m : most_pieces < sum xs = g.2.0 in omega arith)
  one_description (Ok c) (Err LargeLift) f g = absurd g
  one_description (Ok c) (Err (NoLift e)) f g = absurd g
  one_description (Err (Unfit v)) (Ok d) f g = absurd (fit_or_not v g.0 f)
  one_description (Err (Unfit v)) (Err (Unfit w)) f g = ap (λ u. Err (Unfit u)) (one_fault v w f g)
  one_description (Err (Unfit v)) (Err (LargeSum t)) f g = absurd (fit_or_not v g.0 f)
  one_description (Err (Unfit v)) (Err (TooManyPieces n)) f g = absurd (fit_or_not v g.0 f)
  one_description (Err (Unfit v)) (Err LargeLift) f g = absurd g
  one_description (Err (Unfit v)) (Err (NoLift c)) f g = absurd g
  one_description (Err (LargeSum t)) (Ok d) f g = absurd (let z : None ≡ Some t = sym g.2.0 ∙ f.1 in cc)
  one_description (Err (LargeSum t)) (Err (Unfit w)) f g = absurd (fit_or_not w f.0 g)
  one_description (Err (LargeSum t)) (Err (LargeSum u)) f g = (let z : Some t ≡ Some u = sym f.1 ∙ g.1 in let same : t ≡ u = cc in ap (λ k. Err (LargeSum k)) same)
  one_description (Err (LargeSum t)) (Err (TooManyPieces n)) f g = absurd (let z : None ≡ Some t = sym g.1 ∙ f.1 in cc)
  one_description (Err (LargeSum t)) (Err LargeLift) f g = absurd g
  one_description (Err (LargeSum t)) (Err (NoLift c)) f g = absurd g
  one_description (Err (TooManyPieces m)) (Ok d) f g = absurd (let l : sum xs ≤ most_pieces = g.3.0 in let k : most_pieces < sum xs = f.2.0 in omega arith)
  one_description (Err (TooManyPieces m)) (Err (Unfit w)) f g = absurd (fit_or_not w f.0 g)
  one_description (Err (TooManyPieces m)) (Err (LargeSum u)) f g = absurd (let z : None ≡ Some u = sym f.1 ∙ g.1 in cc)
  one_description (Err (TooManyPieces m)) (Err (TooManyPieces n)) f g = ap (λ k. Err (TooManyPieces k)) (f.2.1 ∙ sym g.2.1)
  one_description (Err (TooManyPieces m)) (Err LargeLift) f g = absurd g
  one_description (Err (TooManyPieces m)) (Err (NoLift c)) f g = absurd g
  one_description (Err LargeLift) b f g = absurd f
  one_description (Err (NoLift c)) b f g = absurd f

pub one_description_each : (s : Skeleton) (coords : Coords) (equations : List EquationRow) (vectors : List (List ℕ)) (a b : Result (List Description) (ℕ × Refusal))
    → AreAnswered (IsDescription s coords equations) vectors a → AreAnswered (IsDescription s coords equations) vectors b → a ≡ b
one_description_each s coords equations vectors a b f g = told_once (IsDescription s coords equations) (one_description s coords equations) vectors a b f g
