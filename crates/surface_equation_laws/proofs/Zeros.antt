-- The parts of a row at a vector, by its entries.
use Rattle.std.proofs.Common.{◌≡◌, ℕ, ◌+◌, ◌*◌, ◌<◌, Bool, true, false, ℤ, pos, negsuc, ◌+ℤ◌, List, [], ◌∷◌, length, Contains, Option, Some, None, refl, sym, ap, ◌∙◌, subst, arith}
use Rattle.std.specs.Prelude.{◌==◌, if◌then◌else◌, sum_by, slice_index}
use Rattle.std.specs.List.{AllByRecursion}
use Rattle.std.proofs.lemmas.Int.{ints}
use Rattle.std.proofs.lemmas.Bool.{eq-eqb, ne_eqb}
use Rattle.std.proofs.lemmas.List.Sums.{sum_by-cons}
use Rattle.std.proofs.lemmas.List.Elements.{recursion_from_All, All-from_recursion}
use Rattle.std.proofs.Math.Nat.{add-mul}
use Rattle.table_definitions.specs.Lists.{below, times_in}
use Rattle.table_definitions.specs.Table.{Row}
use Rattle.table_definitions.proofs.TableLaws.{Among}
use Rattle.table_definitions.proofs.Listed.{all_from, filter_map-among, below-among}
use Rattle.cone_definitions.specs.Rows.{Row as EquationRow, positive_coefficient, negative_coefficient, plus_part, minus_part}
use Rattle.surface_definitions.specs.Coordinates.{columns}
use Rattle.surface_definitions.specs.declared.Coords.{Coords}
use Rattle.surface_definitions.specs.Equations.{Equation, coefficient, term_of, row_of}
use Rattle.surface_definitions.specs.QuadEquations.{AreEquations}
use Rattle.surface_laws.proofs.Counting.{sum_by_same, one_term}
use Rattle.surface_laws.proofs.Sums.{sum_by_plus}
use Rattle.surface_equation_laws.specs.Entries.{entry}
use Rattle.surface_equation_laws.specs.Zeros.{plus_entries, minus_entries, AreBelow}
use Rattle.surface_equation_laws.proofs.Terms.{row_made}

-- the parts of a sum of two numbers
parts_of : (s z y : ℤ) → s ≡ z +ℤ y → positive_coefficient s + (negative_coefficient z + negative_coefficient y) ≡ negative_coefficient s + (positive_coefficient z + positive_coefficient y)
parts_of (pos n) (pos k) (pos m) e = omega (arith, ints)
parts_of (pos n) (pos k) (negsuc m) e = omega (arith, ints)
parts_of (pos n) (negsuc k) (pos m) e = omega (arith, ints)
parts_of (pos n) (negsuc k) (negsuc m) e = omega (arith, ints)
parts_of (negsuc n) (pos k) (pos m) e = omega (arith, ints)
parts_of (negsuc n) (pos k) (negsuc m) e = omega (arith, ints)
parts_of (negsuc n) (negsuc k) (pos m) e = omega (arith, ints)
parts_of (negsuc n) (negsuc k) (negsuc m) e = omega (arith, ints)

-- and times an entry of a vector
spread : (a b c x : ℕ) → (a + (b + c)) * x ≡ a * x + (b * x + c * x)
spread a b c x = add-mul a (b + c) x ∙ ap (λ k. a * x + k) (add-mul b c x)

times_parts : (s z y : ℤ) (x : ℕ) → s ≡ z +ℤ y
    → positive_coefficient s * x + (negative_coefficient z * x + negative_coefficient y * x) ≡ negative_coefficient s * x + (positive_coefficient z * x + positive_coefficient y * x)
times_parts s z y x e =
    sym (spread (positive_coefficient s) (negative_coefficient z) (negative_coefficient y) x) ∙ ap (λ k. k * x) (parts_of s z y e)
    ∙ spread (negative_coefficient s) (positive_coefficient z) (positive_coefficient y) x

-- sums of three
three_sums : (f g h : ℕ → ℕ) (xs : List ℕ) → sum_by (λ c. f c + (g c + h c)) xs ≡ sum_by f xs + (sum_by g xs + sum_by h xs)
three_sums f g h xs =
    sum_by_plus f (λ c. g c + h c) (λ c. f c + (g c + h c)) (λ c. refl) xs ∙ ap (λ k. sum_by f xs + k) (sum_by_plus g h (λ c. g c + h c) (λ c. refl) xs)

module _ (n : ℕ) (x : List ℕ) where
  -- a term counts in its column alone
  term_part : (f : ℤ → ℕ) → f (pos 0) ≡ 0 → (t : ℕ × ℤ) → t.0 < n → sum_by (λ c. f (if t.0 == c then t.1 else pos 0) * slice_index x c) (below n) ≡ f t.1 * slice_index x t.0
  term_part f z t l =
      one_term (λ c. f (if t.0 == c then t.1 else pos 0) * slice_index x c) t.0 n
      (λ c off. ap (λ (b : Bool). f (if b then t.1 else pos 0) * slice_index x c) (ne_eqb t.0 c (λ e. off (sym e))) ∙ ap (λ k. k * slice_index x c) z ∙ omega arith) l
      ∙ ap (λ (b : Bool). f (if b then t.1 else pos 0) * slice_index x t.0) (eq-eqb t.0 t.0 refl)

  by_terms : (row : EquationRow) → AllByRecursion (λ (t : ℕ × ℤ). t.0 < n) row → plus_part row x + minus_entries n row x ≡ minus_part row x + plus_entries n row x
  unfolding entry
  by_terms [] h = refl
  by_terms (t ∷ ts) h =
      let z : ℕ → ℤ = λ c. if t.0 == c then t.1 else pos 0 in
      let pz : ℕ = positive_coefficient t.1 * slice_index x t.0 in
      let nz : ℕ = negative_coefficient t.1 * slice_index x t.0 in
      let more : plus_part ts x + minus_entries n ts x ≡ minus_part ts x + plus_entries n ts x = by_terms ts h.1 in
      let a : sum_by (λ c. positive_coefficient (entry (t ∷ ts) c) * slice_index x c + (negative_coefficient (z c) * slice_index x c + negative_coefficient (entry ts c) * slice_index x c)) (below n)
      ≡ sum_by (λ c. negative_coefficient (entry (t ∷ ts) c) * slice_index x c + (positive_coefficient (z c) * slice_index x c + positive_coefficient (entry ts c) * slice_index x c)) (below n) =
      sum_by_same (λ c. positive_coefficient (entry (t ∷ ts) c) * slice_index x c + (negative_coefficient (z c) * slice_index x c + negative_coefficient (entry ts c) * slice_index x c))
      (λ c. negative_coefficient (entry (t ∷ ts) c) * slice_index x c + (positive_coefficient (z c) * slice_index x c + positive_coefficient (entry ts c) * slice_index x c)) (below n)
      (λ c m. times_parts (entry (t ∷ ts) c) (z c) (entry ts c) (slice_index x c) refl) in
      let b : sum_by (λ c. positive_coefficient (entry (t ∷ ts) c) * slice_index x c + (negative_coefficient (z c) * slice_index x c + negative_coefficient (entry ts c) * slice_index x c)) (below n)
      ≡ plus_entries n (t ∷ ts) x + (sum_by (λ c. negative_coefficient (z c) * slice_index x c) (below n) + minus_entries n ts x) =
      three_sums (λ c. positive_coefficient (entry (t ∷ ts) c) * slice_index x c) (λ c. negative_coefficient (z c) * slice_index x c) (λ c. negative_coefficient (entry ts c) * slice_index x c) (below n) in
      let d : sum_by (λ c. negative_coefficient (entry (t ∷ ts) c) * slice_index x c + (positive_coefficient (z c) * slice_index x c + positive_coefficient (entry ts c) * slice_index x c)) (below n)
      ≡ minus_entries n (t ∷ ts) x + (sum_by (λ c. positive_coefficient (z c) * slice_index x c) (below n) + plus_entries n ts x) =
      three_sums (λ c. negative_coefficient (entry (t ∷ ts) c) * slice_index x c) (λ c. positive_coefficient (z c) * slice_index x c) (λ c. positive_coefficient (entry ts c) * slice_index x c) (below n) in
      let p : sum_by (λ c. positive_coefficient (z c) * slice_index x c) (below n) ≡ pz = term_part positive_coefficient refl t h.0 in
      let m : sum_by (λ c. negative_coefficient (z c) * slice_index x c) (below n) ≡ nz = term_part negative_coefficient refl t h.0 in
      let whole : plus_entries n (t ∷ ts) x + (nz + minus_entries n ts x) ≡ minus_entries n (t ∷ ts) x + (pz + plus_entries n ts x) =
      ap (λ k. plus_entries n (t ∷ ts) x + (k + minus_entries n ts x)) (sym m) ∙ sym b ∙ a ∙ d ∙ ap (λ k. minus_entries n (t ∷ ts) x + (k + plus_entries n ts x)) p in
      let plus : plus_part (t ∷ ts) x ≡ pz + plus_part ts x = sum_by-cons (λ (u : ℕ × ℤ). positive_coefficient u.1 * slice_index x u.0) t ts in
      let minus : minus_part (t ∷ ts) x ≡ nz + minus_part ts x = sum_by-cons (λ (u : ℕ × ℤ). negative_coefficient u.1 * slice_index x u.0) t ts in
      joined (plus_part (t ∷ ts) x) (minus_part (t ∷ ts) x) (plus_part ts x) (minus_part ts x) (plus_entries n (t ∷ ts) x) (minus_entries n (t ∷ ts) x) (plus_entries n ts x) (minus_entries n ts x) pz nz plus minus more whole
    where
      joined : (p m p' m' e d e' d' pz nz : ℕ) → p ≡ pz + p' → m ≡ nz + m' → p' + d' ≡ m' + e' → e + (nz + d') ≡ d + (pz + e') → p + d ≡ m + e
      joined p m p' m' e d e' d' pz nz a b c f = omega arith

pub parts_by_entries : (n : ℕ) (row : EquationRow) (x : List ℕ) → AreBelow n row → plus_part row x + minus_entries n row x ≡ minus_part row x + plus_entries n row x
parts_by_entries n row x h = by_terms n x row (recursion_from_All (λ (t : ℕ × ℤ). t.0 < n) row h)

-- the terms of an equation's row are in range
term_in : (e : Equation) (c : ℕ) (t : ℕ × ℤ) → term_of e c ≡ Some t → c ≡ t.0
term_in e c t h = go (times_in e.left c == times_in e.right c) h
  where
    one : ℕ × ℤ
    one = (c, coefficient e c)

    go : (b : Bool) → (let p : Option (ℕ × ℤ) = if b then None else Some (c, coefficient e c) in p) ≡ Some t → c ≡ t.0
    go true f = absurd cc
    go false f = let s : one ≡ t = cc in ap (λ (u : ℕ × ℤ). u.0) s

row_in : (n : ℕ) (e : Equation) → AreBelow n (row_of n e)
row_in n e = All-from_recursion (λ (t : ℕ × ℤ). t.0 < n) (row_of n e) (all_from (λ (t : ℕ × ℤ). t.0 < n) (row_of n e) (λ t a.
    let m : (c : ℕ) × Among c (below n) × (term_of e c ≡ Some t) = filter_map-among (term_of e) t (below n) a in
    subst (λ k. k < n) (term_in e m.0 t m.2) (below-among m.0 n m.1)))

pub terms_in_columns : (coords : Coords) (rows : List Row) (equations : List EquationRow) (row : EquationRow) → AreEquations coords rows equations → Contains equations row → AreBelow (columns coords (length rows)) row
terms_in_columns coords rows equations row e h =
    let n : ℕ = columns coords (length rows) in
    let m : (d : Equation) × (row ≡ row_of n d) = row_made coords rows equations row e h in
    subst (AreBelow n) (sym m.1) (row_in n m.0)
