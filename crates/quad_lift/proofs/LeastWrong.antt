-- The least class at which heights and quads do not agree, vertex by vertex.
use Rattle.std.proofs.Common.{◌≡◌, ℕ, ◌+◌, ◌*◌, ◌<◌, ◌≤◌, length, List, sym, ap, subst, arith, inl, inr}
use Rattle.std.specs.Prelude.{slice_index}
use Rattle.std.proofs.lemmas.Bool.{cases_lt}
use Rattle.skeleton_definitions.specs.Skeleton.{Skeleton}
use Rattle.quad_lift.specs.Agreements.{AgreesAround, IsLeastWrong}

-- the least class with a vertex before n at which heights and quads do not agree
pub record IsLeastWrongBefore (s : Skeleton) (xs heights : List ℕ) (n least : ℕ) : Type 0 where
  pub within : least ≤ s.vertices.count
  pub before : (i : ℕ) → i < n → slice_index s.vertices.classes i < least → AgreesAround s xs heights i
  pub wrong : least < s.vertices.count → (i : ℕ) × (i < n) × (slice_index s.vertices.classes i ≡ least) × (AgreesAround s xs heights i → ⊥)

module _ (s : Skeleton) (xs heights : List ℕ) (n : ℕ) where
  abbrev class_of : ℕ → ℕ
  class_of i = slice_index s.vertices.classes i

  pub wrong_all : (least : ℕ) → n ≡ 4 * length s.rows → IsLeastWrongBefore s xs heights n least → IsLeastWrong s xs heights least
  wrong_all least e b = record {
    within = b.within;
    before = λ i l. b.before i (omega (arith, e));
    wrong = λ l. (let r : (i : ℕ) × (i < n) × (class_of i ≡ least) × (AgreesAround s xs heights i → ⊥) = b.wrong l in (r.0, (let m : r.0 < n = r.1 in omega (arith, e)), r.2, r.3));
  }

  earlier : (least : ℕ) → IsLeastWrongBefore s xs heights n least → least < s.vertices.count → (i : ℕ) × (i < n + 1) × (class_of i ≡ least) × (AgreesAround s xs heights i → ⊥)
  earlier least b l = (let r : (i : ℕ) × (i < n) × (class_of i ≡ least) × (AgreesAround s xs heights i → ⊥) = b.wrong l in (r.0, (let m : r.0 < n = r.1 in omega arith), r.2, r.3))

  -- vertex n is of a class that is not smaller, or heights and quads agree there
  pub wrong_stays : (least : ℕ) → IsLeastWrongBefore s xs heights n least → (class_of n < least → AgreesAround s xs heights n) → IsLeastWrongBefore s xs heights (n + 1) least
  wrong_stays least b here = record {
    within = b.within;
    before = λ i l c. elim (cases_lt i n) [
      | inl less ↦ b.before i less c
      | inr same ↦ (let e : n ≡ i = omega arith in subst (AgreesAround s xs heights) e (here (subst (λ j. class_of j < least) (sym e) c)))
    ];
    wrong = earlier least b;
  }

  -- vertex n is of a smaller class, and heights and quads do not agree there
  pub wrong_falls : (least class : ℕ) → IsLeastWrongBefore s xs heights n least → class ≡ class_of n → class < least → (AgreesAround s xs heights n → ⊥) → IsLeastWrongBefore s xs heights (n + 1) class
  wrong_falls least class b e l out = record {
    within = omega (arith, b.within);
    before = λ i m c. elim (cases_lt i n) [
      | inl less ↦ b.before i less (omega arith)
      | inr same ↦ absurd (let k : class_of n ≡ class_of i = ap class_of (omega arith) in omega arith)
    ];
    wrong = λ m. (n, omega arith, sym e, out);
  }
