-- Each table has an answer to `info` and to `pi1`.
use Rattle.std.proofs.Common.{◌↔◌, ℕ, ◌<◌, ◌⊎◌, inl, inr, Bool, true, false, List, map, Option, Some, None, refl, sym, subst, arith}
use Rattle.std.specs.Prelude.{IsTrue}
use Rattle.std.proofs.lemmas.Bool.{false≢true}
use Rattle.std.proofs.lemmas.List.FromFn.{get_or-map-range_with_len}
use Rattle.table_definitions.specs.Lists.{below}
use Rattle.table_definitions.specs.Table.{Row, IsTable}
use Rattle.table_definitions.specs.Places.{IsConnected}
use Rattle.skeleton_definitions.specs.Skeleton.{Skeleton, IsSkeleton, IsValidClass, IsFirstInvalid}
use Rattle.signature_laws.proofs.Connected.{connected_or_unreached_lem}
use Rattle.presentation_laws.proofs.Existing.{some_presentation}
use Rattle.surface_vector_definitions.specs.Texts.{invalid_edge_line}
use Rattle.skeleton_laws.proofs.Skeletons.{some_skeleton, some_first_invalid, valid_or_not}
use Rattle.skeleton_laws.proofs.Oriented.{orientable_or_not}
use Rattle.skeleton_laws.proofs.Linked.{some_links}
use Rattle.outcome_laws.proofs.Covered.{connected_or_not}
use Rattle.outcome_laws.proofs.Presented.{Told}
use Rattle.outcome_definitions.specs.declared.Status.TheVariants.{Done, Refused}
use Rattle.outcome_definitions.specs.Outcomes.{Outcome}
use Rattle.outcome_definitions.specs.Canonical.{done, not_connected_outcome}
use Rattle.outcome_definitions.specs.Information.{Information, AreValid, information_text, IsInformationAnswer}
use Rattle.outcome_definitions.specs.Presented.{presentation_text, IsPresentationAnswer}

-- a proposition that is decided has a truth value
truth_of : {P : Type 0} → P ⊎ (P → ⊥) → (b : Bool) × (IsTrue b ↔ P)
truth_of (inl p) = (true, (λ e. p, λ q. refl))
truth_of (inr never) = (false, (λ e. absurd (false≢true e), λ p. absurd (never p)))

module _ (s : Skeleton) (k : IsSkeleton s) where
  valid_told : (c : ℕ) → (b : Bool) × (c < s.edges.count → IsTrue b ↔ IsValidClass s c)
  valid_told c = elim (valid_or_not s k c) [
    | inl valid ↦ (true, λ l. (λ e. valid l, λ v. refl))
    | inr invalid ↦ (false, λ l. (λ e. absurd (false≢true e), λ v. absurd (v invalid.1)))
  ]

  abbrev valid_list : List Bool
  valid_list = map (λ c. (valid_told c).0) (below s.edges.count)

  are_valid : AreValid s s.edges.count valid_list
  are_valid c l = subst (λ b. IsTrue b ↔ IsValidClass s c) (sym (get_or-map-range_with_len (λ d. (valid_told d).0) 0 s.edges.count c c false l (omega arith))) ((valid_told c).1 l)

pub some_information : (rows : List Row) → IsTable rows → (o : Outcome) × IsInformationAnswer rows o
some_information rows table =
    let s = some_skeleton rows table in
    let links = some_links s.0 s.2 in
    let c = truth_of (connected_or_not rows table) in
    let o = truth_of (orientable_or_not rows table) in
    let i : Information = record { skeleton = s.0; links = links.0; valid = valid_list s.0 s.2; connected = c.0; orientable = o.0 } in (
      record { status = Done; text = information_text i },
      (
        i,
        record { of_table = s.1; skeleton = s.2; one_each = links.1; links = links.2; valid = are_valid s.0 s.2; connected = c.1; orientable = o.1 },
        refl,
      ),
    )

-- the answer to `pi1` for a skeleton
by_first : (s : Skeleton) → IsSkeleton s → IsConnected s.rows → (first : Option ℕ) → IsFirstInvalid s first → (o : Outcome) × Told s o
by_first s k connected (Some c) h = (record { status = Refused; text = invalid_edge_line c }, inr (inl (connected, (c, h, refl))))
by_first s k connected None h =
    let p = some_presentation s k connected in
    (done (presentation_text p.0), inr (inr (record { connected = connected; valid = h }, (p.0, p.1, refl))))

group_told : (s : Skeleton) → IsSkeleton s → (o : Outcome) × Told s o
group_told s k = elim (connected_or_unreached_lem s.rows k.table) [
  | inr u ↦ (not_connected_outcome 0 u.0, inl (u.0, u.1, refl))
  | inl c ↦ (let f = some_first_invalid s k in by_first s k c f.0 f.1)
]

pub some_group_presentation : (rows : List Row) → IsTable rows → (o : Outcome) × IsPresentationAnswer rows o
some_group_presentation rows table =
    let s = some_skeleton rows table in
    let t = group_told s.0 s.2 in
    (t.0, record { skeleton = s.0; of_rows = s.1; is_skeleton = s.2; reported = t.1 })
