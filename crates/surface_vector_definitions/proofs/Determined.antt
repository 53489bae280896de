-- The components of a vector are unique.
use Rattle.std.proofs.Common.{◌≡◌, ℕ, ◌<◌, ◌↔◌, Bool, true, false, List, [], ◌∷◌, length, inl, inr, Result, Ok, Err, IsTrue, refl, sym, ap, ◌∙◌, subst, arith, ext_get_or}
use Rattle.std.specs.Prelude.{slice_index}
use Rattle.std.specs.List.{AllZip}
use Rattle.std.proofs.lemmas.Bool.{cases_order, false≢true}
use Rattle.table_definitions.specs.Classes.{IsNumbering}
use Rattle.table_definitions.specs.Lists.{below}
use Rattle.table_definitions.specs.Table.{Row}
use Rattle.table_definitions.proofs.ClassLaws.{numberings_agree}
use Rattle.surface_definitions.specs.declared.Coords.{Coords}
use Rattle.surface_definitions.specs.Pieces.{discs_of, SamePiece}
use Rattle.surface_vector_definitions.specs.Components.{Component, IsComponent, AreListedComponents, IsPiecesAnswer}
use Rattle.surface_vector_definitions.specs.declared.ManyPieces.{ManyPieces}

module _ (n : ℕ) (Same : ℕ → ℕ → Type 0) where
  no_more : (one other : List ℕ) (k m : ℕ) → IsNumbering n Same one k → IsNumbering n Same other m → k < m → ⊥
  no_more one other k m a b less =
      let i : (i : ℕ) × (i < n) × (slice_index other i ≡ k) = b.none_empty k less in
      let same : slice_index one i.0 ≡ slice_index other i.0 = numberings_agree n Same one other k m a b i.0 i.1 in
      let inside : slice_index one i.0 < k = a.in_range i.0 i.1 in
      omega (arith, same, i.2)

  -- two numberings of the same classes have equally many
  pub counts_agree : (one other : List ℕ) (k m : ℕ) → IsNumbering n Same one k → IsNumbering n Same other m → k ≡ m
  counts_agree one other k m a b = elim (cases_order k m) [
    | inl e ↦ e
    | inr (inl less) ↦ absurd (no_more one other k m a b less)
    | inr (inr more) ↦ absurd (no_more other one m k b a more)
  ]

  -- two numberings of the same classes are equal
  pub numberings_same : (one other : List ℕ) (k m : ℕ) → IsNumbering n Same one k → IsNumbering n Same other m → one ≡ other
  numberings_same one other k m a b =
      ext_get_or 0 one other (a.one_each ∙ sym b.one_each) (λ i l. let h : i < n = omega (arith, a.one_each) in numberings_agree n Same one other k m a b i h)

-- a truth value that is true if and only if P holds is unique
one_truth : (a b : Bool) (P : Type 0) → IsTrue a ↔ P → IsTrue b ↔ P → a ≡ b
one_truth true true P f g = refl
one_truth true false P f g = absurd (false≢true (g.1 (f.0 refl)))
one_truth false true P f g = absurd (false≢true (f.1 (g.0 refl)))
one_truth false false P f g = refl

one_component : (rows : List Row) (coords : Coords) (xs classes : List ℕ) (i : ℕ) (c d : Component) → IsComponent rows coords xs classes i c → IsComponent rows coords xs classes i d → c ≡ d
one_component rows coords xs classes i c d f g =
    let v : c.vector ≡ d.vector = f.vector ∙ sym g.vector in
    let t : c.two_sided ≡ d.two_sided = one_truth c.two_sided d.two_sided _ f.two_sided g.two_sided in
    let o : c.orientable ≡ d.orientable = one_truth c.orientable d.orientable _ f.orientable g.orientable in
    λ k. record { vector = v k; two_sided = t k; orientable = o k }

one_list : (R : ℕ → Component → Type 0) → ((i : ℕ) (c d : Component) → R i c → R i d → c ≡ d) → (is : List ℕ) (cs ds : List Component) → AllZip R is cs → AllZip R is ds → cs ≡ ds
one_list R one [] [] [] a b = refl
one_list R one [] [] (d ∷ ds) a b = absurd b
one_list R one [] (c ∷ cs) ds a b = absurd a
one_list R one (i ∷ is) [] ds a b = absurd a
one_list R one (i ∷ is) (c ∷ cs) [] a b = absurd b
one_list R one (i ∷ is) (c ∷ cs) (d ∷ ds) a b = ap (λ x. x ∷ cs) (one i c d a.0 b.0) ∙ ap (λ xs. d ∷ xs) (one_list R one is cs ds a.1 b.1)

one_listing : (rows : List Row) (coords : Coords) (xs : List ℕ) (cs ds : List Component) → AreListedComponents rows coords xs cs → AreListedComponents rows coords xs ds → cs ≡ ds
one_listing rows coords xs cs ds f g =
    let n : ℕ = length (discs_of xs) in
    let counts : f.count ≡ g.count = counts_agree n (SamePiece rows coords xs) f.classes g.classes f.count g.count f.numbered g.numbered in
    let classes : f.classes ≡ g.classes = numberings_same n (SamePiece rows coords xs) f.classes g.classes f.count g.count f.numbered g.numbered in
    let again : AllZip (IsComponent rows coords xs f.classes) (below f.count) ds =
    subst (λ (k : ℕ). AllZip (IsComponent rows coords xs f.classes) (below k) ds) (sym counts) (subst (λ (l : List ℕ). AllZip (IsComponent rows coords xs l) (below g.count) ds) (sym classes) g.each) in
    one_list (IsComponent rows coords xs f.classes) (one_component rows coords xs f.classes) (below f.count) cs ds f.each again

pub one_answer : (rows : List Row) (coords : Coords) (xs : List ℕ) (a b : Result (List Component) ManyPieces) → IsPiecesAnswer rows coords xs a → IsPiecesAnswer rows coords xs b → a ≡ b
one_answer rows coords xs (Ok cs) (Ok ds) f g = ap Ok (one_listing rows coords xs cs ds f.1 g.1)
one_answer rows coords xs (Ok cs) (Err m) f g = absurd (omega (arith, f.0, g.0))
one_answer rows coords xs (Err n) (Ok ds) f g = absurd (omega (arith, f.0, g.0))
one_answer rows coords xs (Err n) (Err m) f g = ap (λ (k : ℕ). Err (let many : ManyPieces = record { count = k } in many)) (f.1 ∙ sym g.1)
