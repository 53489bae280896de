-- Each table has a skeleton, and a least invalid edge class or none.
use Rattle.std.proofs.Common.{◌≡◌, ℕ, ◌*◌, ◌<◌, ◌⊎◌, inl, inr, List, length, Option, Some, None, refl, sym, ◌∙◌, arith}
use Rattle.std.proofs.lemmas.Bool.{cases_Bool, cases_lt, false≢true}
use Rattle.cone_definitions.proofs.Below.{all_or_first}
use Rattle.table_definitions.specs.Table.{Row, IsTable}
use Rattle.table_definitions.specs.Classes.{least}
use Rattle.table_definitions.specs.Places.{SameEdge, IsInvalidEdge}
use Rattle.skeleton_definitions.specs.Skeleton.{Skeleton, IsSkeleton, IsValidClass, IsFirstInvalid}
use Rattle.skeleton_class_laws.specs.declared.Kind.TheVariants.{Vertices, Edges, Directions, Faces}
use Rattle.skeleton_class_laws.specs.Directions.{runs_against}
use Rattle.skeleton_class_laws.proofs.DirectionLemmas.{runs_against-is}
use Rattle.skeleton_class_laws.proofs.EdgeCorners.{least_in_range}
use Rattle.skeleton_class_laws.proofs.Numbered.{classes_exist}

pub some_skeleton : (rows : List Row) → IsTable rows → (s : Skeleton) × (s.rows ≡ rows) × IsSkeleton s
some_skeleton rows table =
    let v = classes_exist Vertices rows table in
    let e = classes_exist Edges rows table in
    let f = classes_exist Faces rows table in (
      record {
        rows = rows;
        vertices = record { classes = v.classes; count = v.count };
        edges = record { classes = e.classes; count = e.count };
        faces = record { classes = f.classes; count = f.count };
      },
      refl,
      record { table = table; vertices = v.numbered; edges = e.numbered; faces = f.numbered },
    )

pub invalid_or_not : (rows : List Row) (i : ℕ) → IsTable rows → i < 6 * length rows → IsInvalidEdge rows i ⊎ (IsInvalidEdge rows i → ⊥)
invalid_or_not rows i table l =
    let d = classes_exist Directions rows table in
    let is = runs_against-is rows d.classes d.count d.numbered i i l l in
    elim (cases_Bool (runs_against d.classes i i)) [
      | inl joined ↦ inl (is.0 joined)
      | inr separate ↦ inr (λ j. false≢true (sym separate ∙ is.1 j))
    ]

module _ (s : Skeleton) (k : IsSkeleton s) where
  abbrev pub Valid : ℕ → Type 0
  Valid c = c < s.edges.count → IsValidClass s c

  abbrev pub Invalid : ℕ → Type 0
  Invalid c = (c < s.edges.count) × IsInvalidEdge s.rows (least s.edges.classes c)

  pub valid_or_not : (c : ℕ) → Valid c ⊎ Invalid c
  valid_or_not c = elim (cases_lt c s.edges.count) [
    | inr exceeded ↦ inl (λ l. absurd (omega arith))
    | inl l ↦ elim (invalid_or_not s.rows (least s.edges.classes c) k.table (least_in_range (6 * length s.rows) (SameEdge s.rows) s.edges.classes s.edges.count c k.edges l)) [
      | inl invalid ↦ inr (l, invalid)
      | inr valid ↦ inl (λ _. valid)
    ]
  ]

  pub some_first_invalid : (first : Option ℕ) × IsFirstInvalid s first
  some_first_invalid = elim (all_or_first Valid Invalid valid_or_not s.edges.count) [
    | inl all ↦ (None, λ c l. all c l l)
    | inr w ↦ (Some w.0, (w.1, w.3.1, λ d m. w.2 d m (let l : w.0 < s.edges.count = w.1 in omega arith)))
  ]
