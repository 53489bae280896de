-- The rays raised by a row with a column that has not entered are the vertex surfaces of one more row.
use Rattle.std.proofs.Common.{◌≡◌, ℕ, ◌-◌, ◌≤◌, ◌⊎◌, inl, inr, List, [], ◌∷◌, ◌++◌, Bool, true, set, Contains, length, slice_index, slice_index_or, slice_set, subst, sym, ap, refl, ◌∙◌, arith}
use Rattle.cone_definitions.specs.Vectors.{ray_at, unit}
use Rattle.cone_definitions.specs.Rows.{Row, plus_part, minus_part}
use Rattle.cone_definitions.specs.Surfaces.{Clash, IsVertexSurface}
use Rattle.cone_definitions.specs.Elimination.{IsPair}
use Rattle.cone_definitions.specs.Enumeration.{ComesFromPair}
use Rattle.ray_steps.specs.declared.signs.Sign.{Sign}
use Rattle.ray_steps.specs.declared.signs.Sign.TheVariants.{Zero, Positive, Negative}
use Rattle.ray_steps.specs.Next.{step_of}
use Rattle.cone_definitions.specs.Unordered.{HasSurfaces}
use Rattle.ray_steps.specs.Signs.{IsSignAt, AreSigns, ComesFromPlaces}
use Rattle.cone_definitions.proofs.Unordered.{place_of}
use Rattle.ray_steps.proofs.CombinationLemmas.{comes_read}
use Rattle.ray_steps.proofs.SurfaceSteps.{the_step, sign_at_place, pair_stands}
use Rattle.cone_row_laws.specs.Fresh.{IsUntouched, IsFresh, IsRaised, ComesFromOthers}
use Rattle.cone_row_laws.proofs.Fresh.{fresh_next}
use Rattle.lazy_columns.specs.Late.{IsUnseen, held_rows}
use Rattle.ray_steps.specs.Clashes.{IsFree}
use Rattle.lazy_columns.specs.Raised.{IsLeft, ComesFromRaised, IsFreshStepAt, IsRaisedFrom}
use Rattle.lazy_columns.proofs.Held.{held_solution, unseen_after, untouched_held}
use Rattle.lazy_columns.proofs.Faces.{surface_of_face, surface_in_face, gone_in_face, column_face}

-- the entry that a row with coefficient 1 in the column leaves for it, by its sign
left_of : (row : Row) (x : List ℕ) (sign : Sign) (left : ℕ) → IsSignAt row x sign → IsLeft sign left → (plus_part row x ≤ minus_part row x) × (left ≡ minus_part row x - plus_part row x)
left_of row x Zero left at is = (omega (arith, at), omega (arith, at, is))
left_of row x (Positive value) left at is = absurd is
left_of row x (Negative value) left at is = let less = at.0 in let e = at.1 in (omega (arith, less), is ∙ e)

left_from : (row : Row) (x : List ℕ) (sign : Sign) → IsSignAt row x sign → plus_part row x ≤ minus_part row x → IsLeft sign (minus_part row x - plus_part row x)
left_from row x Zero at limited = omega (arith, at)
left_from row x (Positive value) at limited = absurd (let less = at.0 in omega (arith, less, limited))
left_from row x (Negative value) at limited = sym at.1

module _ (limit columns : ℕ) (rows : List Row) (pairs : List Clash) (row : Row) (seen : List Bool) (rays next : List (List ℕ)) (signs : List Sign) (column : ℕ) (unseen : IsUnseen seen column)
    (untouched : IsUntouched columns rows column) (plus : plus_part row (unit columns column) ≡ 1) (minus : minus_part row (unit columns column) ≡ 0) (free : IsFree pairs column)
    (surfaces : HasSurfaces columns (rows ++ held_rows 0 seen) pairs rays) (signed : AreSigns limit row rays signs) (raised : IsRaisedFrom limit pairs rays signs column 0 next) where
  -- the column was held at 0 before, and is not now
  abbrev before : List Row
  before = rows ++ held_rows 0 seen

  abbrev now : List Row
  now = rows ++ held_rows 0 (set seen column true)

  outer : (x : List ℕ) → IsVertexSurface columns before pairs x → IsVertexSurface columns now pairs x
  outer = surface_of_face columns now before (λ j. j ≡ column) (column_face columns rows seen column unseen) pairs

  inner : (x : List ℕ) → IsVertexSurface columns now pairs x → slice_index x column ≡ 0 → IsVertexSurface columns before pairs x
  inner x s gone = surface_in_face columns now before (λ j. j ≡ column) (column_face columns rows seen column unseen) pairs x s (λ j e. subst (λ i. slice_index x i ≡ 0) (sym e) gone)

  without : (x : List ℕ) → IsVertexSurface columns before pairs x → slice_index x column ≡ 0
  without x s = gone_in_face columns now before (λ j. j ≡ column) (column_face columns rows seen column unseen) pairs x s column refl

  is_fresh : IsFresh (step_of pairs columns now row) column
  is_fresh = record {
    untouched = untouched_held columns rows (set seen column true) column untouched (λ j still. (unseen_after seen column j unseen still).1);
    plus = plus;
    minus = minus;
    separate = free;
  }

  fresh_step : IsFreshStepAt limit pairs rays signs column
  fresh_step = record {
    step = the_step limit columns pairs before row rays signs surfaces signed;
    in_range = untouched.in_range;
    gone = λ x s. ((held_solution columns rows seen x).0 s).1 column unseen;
  }

  -- rays that are 0 in the column are a pair of the step if and only if they are one of the step with the column held
  -- at 0
  wider_pair : (u w : List ℕ) → IsPair (step_of pairs columns before row) u w → IsPair (step_of pairs columns now row) u w
  wider_pair u w p = record {
    u_ray = outer u p.u_ray;
    w_ray = outer w p.w_ray;
    positive = p.positive;
    negative = p.negative;
    no_clash = p.no_clash;
    no_third = λ v ray inside. p.no_third v (inner v ray (inside column (without u p.u_ray) (without w p.w_ray))) inside;
  }

  narrower_pair : (u w : List ℕ) → IsPair (step_of pairs columns now row) u w → slice_index u column ≡ 0 → slice_index w column ≡ 0 → IsPair (step_of pairs columns before row) u w
  narrower_pair u w p u_gone w_gone = record {
    u_ray = inner u p.u_ray u_gone;
    w_ray = inner w p.w_ray w_gone;
    positive = p.positive;
    negative = p.negative;
    no_clash = p.no_clash;
    no_third = λ v ray inside. p.no_third v (outer v ray) inside;
  }

  from_others : (x : List ℕ) → ComesFromPair (step_of pairs columns before row) x → ComesFromOthers (step_of pairs columns now row) column x
  from_others x c = record {
    comes = record { u = c.u; w = c.w; pair = wider_pair c.u c.w c.pair; reduced = c.reduced };
    u_without = without c.u c.pair.u_ray;
    w_without = without c.w c.pair.w_ray;
  }

  to_pair : (x : List ℕ) → ComesFromOthers (step_of pairs columns now row) column x → ComesFromPair (step_of pairs columns before row) x
  to_pair x c = record { u = c.comes.u; w = c.comes.w; pair = narrower_pair c.comes.u c.comes.w c.comes.pair c.u_without c.w_without; reduced = c.comes.reduced }

  from_raised : (x : List ℕ) → ComesFromRaised rays signs column 0 x → IsRaised (step_of pairs columns now row) column x
  from_raised x c =
      let ray = surfaces.vertex_surfaces c.place [] c.in_range in
      let left = left_of row (ray_at rays c.place) (slice_index_or signs c.place Zero) c.left (sign_at_place limit columns pairs before row rays signs surfaces signed c.place c.in_range) c.leaves in
      record {
        ray = ray_at rays c.place;
        is_ray = outer (ray_at rays c.place) ray;
        without = without (ray_at rays c.place) ray;
        left = left.0;
        is = c.is ∙ ap (slice_set (ray_at rays c.place) column) left.1;
      }

  next_surface : (x : List ℕ) → ComesFromRaised rays signs column 0 x ⊎ ComesFromPlaces limit pairs rays signs (length rays) 0 x → IsVertexSurface columns (now ++ row ∷ []) pairs x
  next_surface x (inl c) = (fresh_next (step_of pairs columns now row) column is_fresh x).1 (inl (from_raised x c))
  next_surface x (inr c) = (fresh_next (step_of pairs columns now row) column is_fresh x).1
      (inr (from_others x (comes_read limit pairs rays signs (the_step limit columns pairs before row rays signs surfaces signed) c.u c.w x c.pair c.reduced)))

  raised_stands : (x : List ℕ) → IsRaised (step_of pairs columns now row) column x → Contains next x
  raised_stands x r =
      let k = place_of (step_of pairs columns before row) rays surfaces r.ray (inner r.ray r.is_ray r.without) in
      let at = subst (λ y. IsSignAt row y (slice_index_or signs k.0 Zero)) k.2 (sign_at_place limit columns pairs before row rays signs surfaces signed k.0 k.1) in
      subst (Contains next) (ap (λ y. slice_set y column (minus_part row r.ray - plus_part row r.ray)) k.2 ∙ sym r.is)
      (raised.keeps k.0 (minus_part row r.ray - plus_part row r.ray) (omega arith) k.1 (left_from row r.ray (slice_index_or signs k.0 Zero) at r.left))

  occurs : (x : List ℕ) → IsRaised (step_of pairs columns now row) column x ⊎ ComesFromOthers (step_of pairs columns now row) column x → Contains next x
  occurs x (inl r) = raised_stands x r
  occurs x (inr c) = pair_stands limit columns pairs before row rays signs surfaces signed next raised.gives x (to_pair x c)

  pub raised_surfaces : HasSurfaces columns ((rows ++ held_rows 0 (set seen column true)) ++ row ∷ []) pairs next
  raised_surfaces = record {
    separate = raised.separate fresh_step;
    vertex_surfaces = λ k d within. next_surface (slice_index_or next k d) (raised.comes k d within);
    complete = λ x s. occurs x ((fresh_next (step_of pairs columns now row) column is_fresh x).0 s);
  }
