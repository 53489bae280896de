-- Each table, each two tables and each list of tables have an answer to `sig`, `same` and `group`.
use Rattle.std.proofs.Common.{◌≡◌, ◌≢◌, ℕ, zero, suc, ◌<◌, ◌≤◌, ◌⊎◌, inl, inr, List, [], ◌∷◌, ◌++◌, length, take, add-one, refl, sym, subst, arith}
use Rattle.std.specs.List.{AllByRecursion}
use Rattle.std.proofs.lemmas.Bool.{cases_lt}
use Rattle.std.proofs.lemmas.List.{take_all, take_more, get_or-take, length-take-le}
use Rattle.std.proofs.lemmas.List.Elements.{All-from_recursion}
use Rattle.cone_definitions.proofs.Below.{all_or_one, all_or_first}
use Rattle.table_definitions.specs.Table.{Row, IsTable}
use Rattle.table_definitions.specs.Places.{IsConnected, IsLeastUnreached}
use Rattle.signature_definitions.specs.Census.{table_in, signature_in, IsCensus, IsClassed}
use Rattle.signature_definitions.proofs.CensusLaws.{census_extends, empty_census}
use Rattle.signature_laws.proofs.Uniqueness.{tells_tables}
use Rattle.signature_laws.proofs.Connected.{connected_or_unreached_lem}
use Rattle.signature_laws.proofs.Walks.{signatures_exist_lem}
use Rattle.outcome_existence_laws.proofs.LeastExists.{same_or_not, least_exists}
use Rattle.outcome_existence_laws.proofs.Answers.{relabelled_or_not}
use Rattle.text_definitions.specs.Written.{line}
use Rattle.outcome_definitions.specs.Outcomes.{Outcome}
use Rattle.outcome_definitions.specs.Canonical.{done, not_connected_outcome, IsSignatureAnswer, relabelling_text, different_outcome, IsSameAnswer, census_text, IsGroupAnswer}

pub some_signature : (rows : List Row) → IsTable rows → (o : Outcome) × IsSignatureAnswer rows o
some_signature rows table = elim (connected_or_unreached_lem rows table) [
  | inl c ↦ (let s = signatures_exist_lem rows table c in (done (line s.0), inl (record { connected = c; text = s.0; signature = s.1; reported = refl })))
  | inr u ↦ (not_connected_outcome 0 u.0, inr (u.0, u.1, refl))
]

pub some_same : (pair : List Row × List Row) → IsTable pair.0 → IsTable pair.1 → (o : Outcome) × IsSameAnswer pair o
some_same pair tf ts = elim (connected_or_unreached_lem pair.0 tf) [
  | inr u ↦ (not_connected_outcome 0 u.0, inl (u.0, u.1, refl))
  | inl cf ↦ elim (connected_or_unreached_lem pair.1 ts) [
    | inr u ↦ (not_connected_outcome 1 u.0, inr (inl (cf, (u.0, u.1, refl))))
    | inl cs ↦ elim (relabelled_or_not pair.0 pair.1 tf ts) [
      | inl r ↦ (let l = least_exists pair.0 pair.1 tf ts cf cs r in (done (relabelling_text l.0), inr (inr (cf, cs, inl (l.0, l.1, refl)))))
      | inr never ↦ (different_outcome, inr (inr (cf, cs, inr (never, refl))))
    ]
  ]
]

-- a text is one of the signatures, or is appended to them
placed : (before : List (List ℕ)) (text : List ℕ) → (class : ℕ) × (now : List (List ℕ)) × IsClassed before text class now
placed before text = elim (all_or_one (λ c. signature_in before c ≢ text) (λ c. signature_in before c ≡ text) decide (length before)) [
  | inl nowhere ↦ (length before, before ++ text ∷ [], inr (record { last = refl; nowhere = nowhere; appended = refl }))
  | inr found ↦ (found.0, before, inl (record { in_range = found.1; found = found.2; kept = refl }))
]
  where
    decide : (c : ℕ) → (signature_in before c ≢ text) ⊎ (signature_in before c ≡ text)
    decide c = elim (same_or_not (signature_in before c) text) [ inl same ↦ inr same | inr other ↦ inl other ]

module _ (tables : List (List Row)) (are : (k : ℕ) → k < length tables → IsTable (table_in tables k)) where
  abbrev HasCensus : List (List Row) → Type 0
  HasCensus ts = (classes : List ℕ) × (signatures : List (List ℕ)) × IsCensus ts classes signatures

  front_tables : (n k : ℕ) → n ≤ length tables → k < length (take n tables) → IsTable (table_in (take n tables) k)
  front_tables n k l m =
      let size : length (take n tables) ≡ n = length-take-le n tables l in
      subst IsTable (sym (get_or-take n tables k [] (omega arith))) (are k (omega arith))

  census_up_to : ((k : ℕ) → k < length tables → IsConnected (table_in tables k)) → (n : ℕ) → n ≤ length tables → HasCensus (take n tables)
  census_up_to connected zero l = subst HasCensus (none tables) ([], [], empty_census)
    where
      none : (ts : List (List Row)) → [] ≡ take zero ts
      none [] = refl
      none (t ∷ ts) = refl
  census_up_to connected (suc n) l =
      let before = census_up_to connected n (omega arith) in
      let table : IsTable (table_in tables n) = are n (omega arith) in
      let s = signatures_exist_lem (table_in tables n) table (connected n (omega arith)) in
      let p = placed before.1 s.0 in
      subst (λ m. HasCensus (take m tables)) (add-one n) (subst HasCensus (sym (take_more tables n [] (omega arith))) (
        before.0 ++ p.0 ∷ [],
        p.1,
        census_extends tells_tables (take n tables) (table_in tables n) before.0 before.1 s.0 p.0 p.1
            (record { are_tables = λ k m. front_tables n k (omega arith) m; table = table; census = before.2; signature = s.1; placed = p.2 }),
      ))

  census_exists : ((k : ℕ) → k < length tables → IsConnected (table_in tables k)) → HasCensus tables
  census_exists connected = subst HasCensus (take_all (length tables) tables (omega arith)) (census_up_to connected (length tables) (omega arith))

  -- a table of the list is connected, or it has a least tetrahedron that is not reached
  abbrev Connected : ℕ → Type 0
  Connected k = k < length tables → IsConnected (table_in tables k)

  abbrev Loose : ℕ → Type 0
  Loose k = (t : ℕ) × IsLeastUnreached (table_in tables k) t

  connected_or_loose : (k : ℕ) → Connected k ⊎ Loose k
  connected_or_loose k = elim (cases_lt k (length tables)) [
    | inr exceeded ↦ inl (λ l. absurd (omega arith))
    | inl l ↦ elim (connected_or_unreached_lem (table_in tables k) (are k l)) [ inl c ↦ inl (λ _. c) | inr u ↦ inr u ]
  ]

  grouped : (o : Outcome) × IsGroupAnswer tables o
  grouped = elim (all_or_first Connected Loose connected_or_loose (length tables)) [
    | inl all ↦ (let c = census_exists (λ k l. all k l l) in
        (done (census_text c.0 c.1), inl (record { connected = λ k l. all k l l; classes = c.0; signatures = c.1; census = c.2; reported = refl })))
    | inr w ↦ (
      not_connected_outcome w.0 w.3.0,
      inr (record {
        table = w.0;
        in_range = w.1;
        before = λ k l. w.2 k l (let m : w.0 < length tables = w.1 in omega arith);
        reported = (w.3.0, w.3.1, refl);
      }),
    )
  ]

pub some_group : (tables : List (List Row)) → AllByRecursion IsTable tables → (o : Outcome) × IsGroupAnswer tables o
some_group tables h = grouped tables (λ k l. All-from_recursion IsTable tables h k [] l)
