-- Corners around an edge of a table, the next corner and the one before.
use Rattle.std.proofs.Common.{◌≡◌, ◌≢◌, ℕ, zero, suc, ◌*◌, ◌/◌, ◌%◌, ◌<◌, List, length, filter, Some, sym, ap, ◌∙◌, subst, arith}
use Rattle.std.specs.Prelude.{not, option_map}
use Rattle.table_definitions.specs.Lists.{has}
use Rattle.table_definitions.specs.Permutation.{four, IsPermutationOfFour}
use Rattle.table_definitions.specs.Table.{Gluing, Row, glue, IsTable}
use Rattle.table_definitions.specs.Places.{ends}
use Rattle.table_definitions.proofs.PermutationLaws.{image_below, image-of_inverse, images_apart}
use Rattle.surface_laws.proofs.CornerSteps.{LeadsOn}
use Rattle.skeleton_class_laws.proofs.Rounds.{next, before, first_step, steps_more, where_led}
use Rattle.skeleton_definitions.specs.Corners.{Corner, corner_across, corner_of, first_corner, step, steps, Reaches, left_through}

-- a corner of one of n tetrahedra: the edge ab, and the faces c and d that meet in it
pub record HasFourVertices (n : ℕ) (k : Corner) : Type 0 where
  pub tet : k.tet < n
  pub a : k.a < 4
  pub b : k.b < 4
  pub c : k.c < 4
  pub d : k.d < 4
  pub ab : k.a ≢ k.b
  pub ac : k.a ≢ k.c
  pub ad : k.a ≢ k.d
  pub bc : k.b ≢ k.c
  pub bd : k.b ≢ k.d
  pub cd : k.c ≢ k.d

has_four_in_tet : (n t e : ℕ) → t < n → e < 6 → HasFourVertices n (corner_of t (ends e) (filter (λ v. not (has (ends e) v)) four))
has_four_in_tet n t zero l m = record { tet = l; a = omega arith; b = omega arith; c = omega arith; d = omega arith; ab = omega arith; ac = omega arith; ad = omega arith; bc = omega arith; bd = omega arith; cd = omega arith }
has_four_in_tet n t (suc zero) l m = record { tet = l; a = omega arith; b = omega arith; c = omega arith; d = omega arith; ab = omega arith; ac = omega arith; ad = omega arith; bc = omega arith; bd = omega arith; cd = omega arith }
has_four_in_tet n t (suc (suc zero)) l m = record { tet = l; a = omega arith; b = omega arith; c = omega arith; d = omega arith; ab = omega arith; ac = omega arith; ad = omega arith; bc = omega arith; bd = omega arith; cd = omega arith }
has_four_in_tet n t (suc (suc (suc zero))) l m = record { tet = l; a = omega arith; b = omega arith; c = omega arith; d = omega arith; ab = omega arith; ac = omega arith; ad = omega arith; bc = omega arith; bd = omega arith; cd = omega arith }
has_four_in_tet n t (suc (suc (suc (suc zero)))) l m = record { tet = l; a = omega arith; b = omega arith; c = omega arith; d = omega arith; ab = omega arith; ac = omega arith; ad = omega arith; bc = omega arith; bd = omega arith; cd = omega arith }
has_four_in_tet n t (suc (suc (suc (suc (suc zero))))) l m = record { tet = l; a = omega arith; b = omega arith; c = omega arith; d = omega arith; ab = omega arith; ac = omega arith; ad = omega arith; bc = omega arith; bd = omega arith; cd = omega arith }
has_four_in_tet n t (suc (suc (suc (suc (suc (suc e)))))) l m = absurd (omega arith)

pub first_has_four : (n i : ℕ) → i < 6 * n → HasFourVertices n (first_corner i)
first_has_four n i l = has_four_in_tet n (i / 6) (i % 6) (omega arith) (omega arith)

pub next_is : (rows : List Row) (k : Corner) (w : LeadsOn rows k) → next rows k ≡ corner_across k w.g
next_is rows k w = ap (where_led corner_across k) w.glued

pub next_steps : (rows : List Row) (k : Corner) → LeadsOn rows k → step rows k ≡ Some (next rows k)
next_steps rows k w = ap (option_map (corner_across k)) w.glued ∙ ap Some (sym (next_is rows k w))

module _ (rows : List Row) (table : IsTable rows) where
  pub behind_in : (k : Corner) (g : Gluing) → HasFourVertices (length rows) k → glue rows (left_through k) ≡ Some g → HasFourVertices (length rows) (corner_across k g)
  behind_in k g four e =
      let p : IsPermutationOfFour g.perm = table.permutes (left_through k) g e in
      record {
        tet = table.in_range (left_through k) g e;
        a = image_below g.perm k.a p four.a;
        b = image_below g.perm k.b p four.b;
        c = image_below g.perm k.d p four.d;
        d = image_below g.perm k.c p four.c;
        ab = images_apart g.perm k.a k.b p four.a four.b four.ab;
        ac = images_apart g.perm k.a k.d p four.a four.d four.ad;
        ad = images_apart g.perm k.a k.c p four.a four.c four.ac;
        bc = images_apart g.perm k.b k.d p four.b four.d four.bd;
        bd = images_apart g.perm k.b k.c p four.b four.c four.bc;
        cd = images_apart g.perm k.d k.c p four.d four.c (λ e. four.cd (sym e));
      }

  -- the corner before the next corner is the corner itself
  pub before_next : (k : Corner) → HasFourVertices (length rows) k → LeadsOn rows k → before rows (next rows k) ≡ k
  before_next k four w =
      let g : Gluing = w.g in
      let p : IsPermutationOfFour g.perm = table.permutes (left_through k) g w.glued in
      ap (before rows) (next_is rows k w) ∙ ap (where_led corner_across (corner_across k g)) (table.leads_back (left_through k) g w.glued)
      ∙ (λ i. record {
        tet = k.tet;
        a = image-of_inverse g.perm k.a p four.a i;
        b = image-of_inverse g.perm k.b p four.b i;
        c = image-of_inverse g.perm k.c p four.c i;
        d = image-of_inverse g.perm k.d p four.d i;
      })

  pub next_once : (k l : Corner) → HasFourVertices (length rows) k → LeadsOn rows k → HasFourVertices (length rows) l → LeadsOn rows l → next rows k ≡ next rows l → k ≡ l
  next_once k l a v b w e = sym (before_next k a v) ∙ ap (before rows) e ∙ before_next l b w

-- what each step preserves holds of all corners that steps reach
pub kept_by_steps : (rows : List Row) (P : Corner → Type 0) → ((k l : Corner) → P k → step rows k ≡ Some l → P l) → (n : ℕ) (k l : Corner) → P k → steps rows n k ≡ Some l → P l
kept_by_steps rows P keeps zero k l h e = let s : k ≡ l = cc in subst P s h
kept_by_steps rows P keeps (suc n) k l h e = let m = first_step rows n l (step rows k) e in kept_by_steps rows P keeps n m.0 l (keeps k m.0 h m.1) m.2

-- one more step
pub reaches_next : (rows : List Row) (k l : Corner) → Reaches rows k l → LeadsOn rows l → Reaches rows k (next rows l)
reaches_next rows k l r w = (suc r.0, steps_more rows r.0 k l (next rows l) r.1 (next_steps rows l w))
