-- A table has one presentation.
use Rattle.std.proofs.Common.{◌≡◌, ℕ, ◌+◌, Bool, true, false, List, [], ◌∷◌, Some, filter_map, MatchBool, subst, sym, ap, ap₂, refl, ◌∙◌}
use Rattle.std.specs.List.{AllZip}
use Rattle.basic_lemmas.proofs.Members.{same_numbers}
use Rattle.table_definitions.specs.Table.{Gluing, Row, face_number}
use Rattle.table_definitions.specs.Classes.{least}
use Rattle.table_definitions.specs.Places.{face_of, is_boundary_edge}
use Rattle.skeleton_definitions.specs.Corners.{Corner, first_corner, GoesAround, IsTourFrom, left_through}
use Rattle.skeleton_definitions.specs.Skeleton.{Skeleton}
use Rattle.presentation_definitions.specs.Trees.{IsTreePath, evens, is_odd_number}
use Rattle.presentation_definitions.specs.declared.Letter.{Letter}
use Rattle.presentation_definitions.specs.Presentations.{letter_of, IsRelator, IsTurning, Presentation, IsPresentation}
use Rattle.presentation_laws.proofs.TreeLaws.{one_path}

-- ---- one walk

one_round : (rows : List Row) (first k : Corner) (xs ys : List Corner) → GoesAround rows first k xs → GoesAround rows first k ys → xs ≡ ys
one_round rows first k [] [] a b = refl
one_round rows first k [] (l ∷ ls) a b = let z : Some first ≡ Some l = sym a ∙ b.0 in let same : first ≡ l = cc in absurd (b.1 (sym same))
one_round rows first k (l ∷ ls) [] a b = let z : Some first ≡ Some l = sym b ∙ a.0 in let same : first ≡ l = cc in absurd (a.1 (sym same))
one_round rows first k (l ∷ ls) (m ∷ ms) a b = let z : Some l ≡ Some m = sym a.0 ∙ b.0 in let same : l ≡ m = cc in
    ap₂ (λ c cs. c ∷ cs) same (one_round rows first m ls ms (subst (λ c. GoesAround rows first c ls) same a.2) b.2)

one_walk : (rows : List Row) (first : Corner) (xs ys : List Corner) → IsTourFrom rows first xs → IsTourFrom rows first ys → xs ≡ ys
one_walk rows first [] ys a b = absurd a
one_walk rows first (k ∷ ks) [] a b = absurd b
one_walk rows first (k ∷ ks) (l ∷ ls) a b = let same : k ≡ l = a.0 ∙ sym b.0 in ap₂ (λ c cs. c ∷ cs) same (one_round rows first l ks ls (subst (λ c. GoesAround rows first c ks) same a.1) b.1)

one_around : (boundary : Bool) (rows : List Row) (first : Corner) (xs ys : List Corner) → MatchBool boundary (xs ≡ []) (IsTourFrom rows first xs) → MatchBool boundary (ys ≡ []) (IsTourFrom rows first ys) → xs ≡ ys
one_around true rows first xs ys a b = a ∙ sym b
one_around false rows first xs ys a b = one_walk rows first xs ys a b

-- ---- one presentation

module _ (s : Skeleton) where
  one_turning : (c : ℕ) (a b : Bool) → IsTurning s c a → IsTurning s c b → a ≡ b
  one_turning c a b h k = h.odd ∙ ap₂ (λ xs ys. is_odd_number (evens s.rows xs + evens s.rows (face_of (least s.faces.classes c) ∷ []) + evens s.rows ys))
      (one_path s.rows (face_of (least s.faces.classes c)).tet h.forth k.forth h.forth_path k.forth_path)
      (one_path s.rows k.gluing.tet h.back k.back (subst (λ (g : Gluing). IsTreePath s.rows g.tet h.back) same h.back_path) k.back_path) ∙ sym k.odd
    where
      same : h.gluing ≡ k.gluing
      same = let z : Some h.gluing ≡ Some k.gluing = sym h.glued ∙ k.glued in cc

  one_relator : (generators : List ℕ) (c : ℕ) (a b : List Letter) → IsRelator s generators c a → IsRelator s generators c b → a ≡ b
  one_relator generators c a b h k = h.read ∙ ap (filter_map (λ k. letter_of s generators (face_number (left_through k))))
      (one_around (is_boundary_edge s.rows s.edges.classes c) s.rows (first_corner (least s.edges.classes c)) h.corners k.corners h.around k.around) ∙ sym k.read

  one_zip : {B : Type 0} (R : ℕ → B → Type 0) → ((c : ℕ) (a b : B) → R c a → R c b → a ≡ b) → (cs : List ℕ) (xs ys : List B) → AllZip R cs xs → AllZip R cs ys → xs ≡ ys
  one_zip R one [] [] [] a b = refl
  one_zip R one [] [] (y ∷ ys) a b = absurd b
  one_zip R one [] (x ∷ xs) ys a b = absurd a
  one_zip R one (c ∷ cs) [] ys a b = absurd a
  one_zip R one (c ∷ cs) (x ∷ xs) [] a b = absurd b
  one_zip R one (c ∷ cs) (x ∷ xs) (y ∷ ys) a b = ap₂ (λ z zs. z ∷ zs) (one c x y a.0 b.0) (one_zip R one cs xs ys a.1 b.1)

  pub one_presentation : (p q : Presentation) → IsPresentation s p → IsPresentation s q → p ≡ q
  one_presentation p q a b = λ i. record { generators = generators i; turning = turning i; edges = edges i; relators = relators i }
    where
      generators : p.generators ≡ q.generators
      generators = same_numbers p.generators q.generators a.generators.ascending b.generators.ascending
          (λ c m. (b.generators.members c).1 ((a.generators.members c).0 m)) (λ c m. (a.generators.members c).1 ((b.generators.members c).0 m))

      turning : p.turning ≡ q.turning
      turning = one_zip (IsTurning s) one_turning q.generators p.turning q.turning (subst (λ gs. AllZip (IsTurning s) gs p.turning) generators a.turning) b.turning

      edges : p.edges ≡ q.edges
      edges = a.edges ∙ sym b.edges

      moved : AllZip (IsRelator s q.generators) q.edges p.relators
      moved = subst (λ es. AllZip (IsRelator s q.generators) es p.relators) edges (subst (λ gs. AllZip (IsRelator s gs) p.edges p.relators) generators a.relators)

      relators : p.relators ≡ q.relators
      relators = one_zip (IsRelator s q.generators) (one_relator q.generators) q.edges p.relators q.relators moved b.relators
