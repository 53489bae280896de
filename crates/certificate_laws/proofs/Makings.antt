-- Makings, and the limit of tetrahedra.
use Rattle.std.proofs.Common.{◌≡◌, ℕ, ◌+◌, ◌*◌, ◌-◌, ◌<◌, ◌≤◌, List, [], ◌∷◌, ◌++◌, length, refl, sym, ap, ◌∙◌, subst, arith, inl, inr}
use Rattle.std.specs.Prelude.{is_none, filter}
use Rattle.std.proofs.lemmas.Bool.{cases_lt, lt-ltb, le-ltb}
use Rattle.table_definitions.specs.Lists.{below, pairs_of}
use Rattle.table_definitions.specs.Permutation.{four}
use Rattle.table_definitions.specs.Table.{max_tets, Row}
use Rattle.table_definitions.proofs.TableLaws.{Among, Among-map, Among-pairs, Among-below}
use Rattle.table_definitions.proofs.Listed.{Among-filter}
use Rattle.move_definitions.specs.Moves.{Move, move_fault, Plays, PlaysAll}
use Rattle.move_definitions.specs.Certificates.{standard_sphere, is_accepted, or_these, candidates, one_four_moves, two_three_moves, three_two_moves, IsMaking, next_state}
use Rattle.move_definitions.proofs.CoreTests.{core_size}
use Rattle.certificate_laws.proofs.OneWay.{carried_long}
use Rattle.certificate_laws.proofs.Made.{tables_are_made_lem}
use Rattle.certificate_laws.specs.Makings.{OneFoursAreAccepted, CandidatesAreThere, PlaysAddAtMostThree, MakingsEndAtLimit, MakingsHaveMost, CertificatesHaveMost, TablesAreMadeWithMost}

abbrev one_four_at : ℕ → Move
one_four_at t = record { tet = t; core = four }

pub one_four_accepted : OneFoursAreAccepted
unfolding move_fault
one_four_accepted rows t l limited = rw (lt-ltb t (length rows) l, le-ltb max_tets (length rows - 1 + 4) (omega arith)) refl

none_of_these : (ms rest : List Move) → or_these ms rest ≡ [] → rest ≡ []
none_of_these [] rest e = e
none_of_these (m ∷ ms) rest e = absurd (omega (arith, ap length e))

among_none : (m : Move) (ms : List Move) → Among m ms → ms ≡ [] → ⊥
among_none m ms a e = subst (λ (ks : List Move). Among m ks) e a

pub candidates_there : CandidatesAreThere
unfolding candidates
candidates_there rows some limited e = among_none (one_four_at 0) (filter (is_accepted rows) (one_four_moves (length rows)))
    (Among-filter (is_accepted rows) (one_four_at 0) (one_four_moves (length rows))
    (Among-map (λ (p : ℕ × List ℕ). record { tet = p.0; core = p.1 }) (0, four) (pairs_of (below (length rows)) (four ∷ []))
    (Among-pairs 0 four (below (length rows)) (four ∷ []) (Among-below 0 (length rows) some) (inl refl)))
    (ap (λ o. is_none o) (one_four_accepted rows 0 some limited)))
    (none_of_these (filter (is_accepted rows) (two_three_moves (length rows) ++ three_two_moves (length rows))) (filter (is_accepted rows) (one_four_moves (length rows))) e)

play_adds : (old : List Row) (m : Move) (new : List Row) → 0 < length old → Plays old m new → (0 < length new) × (length new ≤ length old + 3)
play_adds old m new some p =
    let size : (0 < length m.core) × (length m.core < 5) = core_size m.core p.moved.core in
    let n : length new ≡ length old - (5 - length m.core) + length m.core = p.moved.length_is in
    let low = size.0 in let high = size.1 in (omega arith, omega arith)

pub plays_add_few : PlaysAddAtMostThree
plays_add_few rows [] last some p = (subst (λ (t : List Row). 0 < length t) p some, (let e : length rows ≡ length last = ap length p in omega arith))
plays_add_few rows (m ∷ ms) last some (next, p, rest) =
    let a = play_adds rows m next some p in let b = plays_add_few next ms last a.0 rest in
    (b.0, (let s : length next ≤ length rows + 3 = a.1 in let t : length last ≤ length next + 3 * length ms = b.1 in omega arith))

-- the moves of a making are played
making_plays : (most x : ℕ) (rows : List Row) (moves : List Move) (last : List Row) → IsMaking most x rows moves last → PlaysAll rows moves last
making_plays most x rows [] last h = h.0
making_plays most x rows (m ∷ ms) last (fewer, e, first, (next, p, rest)) = (next, p, making_plays fewer (next_state x) next ms last rest)

pub makings_end_at_limit : MakingsEndAtLimit
makings_end_at_limit most x rows [] last some (e, inl z) = inl (sym z)
makings_end_at_limit most x rows [] last some (e, inr none) = elim (cases_lt max_tets (length rows + 3)) [
  | inl exceeded ↦ inr (subst (λ (t : List Row). max_tets < length t + 3) e exceeded)
  | inr limited ↦ absurd (candidates_there rows some limited none)
]
makings_end_at_limit most x rows (m ∷ ms) last some (fewer, e, first, (next, p, rest)) =
    elim (makings_end_at_limit fewer (next_state x) next ms last (play_adds rows m next some p).0 rest) [
      | inl same ↦ inl (omega arith)
      | inr exceeded ↦ inr exceeded
    ]

pub making_short : (most x : ℕ) (rows : List Row) (moves : List Move) (last : List Row) → IsMaking most x rows moves last → length moves ≤ most
making_short most x rows [] last h = omega arith
making_short most x rows (m ∷ ms) last (fewer, e, first, (next, p, rest)) = let s : length ms ≤ fewer = making_short fewer (next_state x) next ms last rest in omega arith

pub makings_go_on_lem : MakingsHaveMost
makings_go_on_lem most x rows moves last some limited h = elim (makings_end_at_limit most x rows moves last some h) [
  | inl same ↦ same
  | inr exceeded ↦ (let s : length moves ≤ most = making_short most x rows moves last h in
      let a = (plays_add_few rows moves last some (making_plays most x rows moves last h)).1 in omega arith)
]

pub certificates_have_most : CertificatesHaveMost
certificates_have_most seed most table certificate limited (moves, making, (end, by, back)) =
    carried_long standard_sphere moves table certificate end by back ∙ makings_go_on_lem most seed standard_sphere moves table (omega arith) (omega arith) making

pub made_with_most : TablesAreMadeWithMost
made_with_most seed most limited = let t = tables_are_made_lem seed most in (t.0, t.1, t.2, certificates_have_most seed most t.0 t.1 limited t.2)
