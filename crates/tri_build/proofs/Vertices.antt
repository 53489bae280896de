-- The vertices of the new facet that lacks a label, by their labels.
use Rattle.std.proofs.Common.{◌≡◌, ◌≢◌, ℕ, ◌-◌, ◌<◌, ◌≤◌, Bool, true, false, refl, sym, ap, ◌∙◌, arith}
use Rattle.std.specs.Prelude.{◌==◌, nat_lt, filter, not, if◌then◌else◌}
use Rattle.std.specs.List.{list_all}
use Rattle.std.proofs.lemmas.Bool.{eqb-true, eq-eqb, lt-ltb, le-ltb, ne_eqb}
use Rattle.table_definitions.specs.Lists.{below}
use Rattle.table_definitions.specs.Permutation.{preimage}
use Rattle.table_definitions.proofs.ListFacts.{list_all-below}

abbrev vertex : ℕ → ℕ → ℕ
vertex missing label = preimage (filter (λ l. not (l == missing)) (below 5)) label

reported : ℕ → ℕ → Bool
reported missing label = vertex missing label == (if label == missing then 4 else (if nat_lt label missing then label else label - 1))

vertex_told : (missing label : ℕ) → missing < 5 → label < 5 → vertex missing label ≡ (if label == missing then 4 else (if nat_lt label missing then label else label - 1))
vertex_told missing label m l = unfold reported in eqb-true (vertex missing label) _ (list_all-below (reported missing) 5 (list_all-below (λ k. list_all (reported k) (below 5)) 5 all missing m) label l)
  where
    all : list_all (λ k. list_all (reported k) (below 5)) (below 5) ≡ true
    all = unfold reported preimage in refl

pub none_there : (missing label : ℕ) → missing < 5 → label < 5 → label ≡ missing → 4 ≡ vertex missing label
none_there missing label m l e = let t : (label == missing) ≡ true = eq-eqb label missing e in sym (vertex_told missing label m l ∙ ap (λ (b : Bool). if b then 4 else (if nat_lt label missing then label else label - 1)) t)

pub before_it : (missing label : ℕ) → missing < 5 → label < 5 → label < missing → label ≡ vertex missing label
before_it missing label m l less =
    let f : (label == missing) ≡ false = ne_eqb label missing (λ e. omega arith) in
    let t : nat_lt label missing ≡ true = lt-ltb label missing less in
    sym (vertex_told missing label m l ∙ ap (λ (b : Bool). if b then 4 else (if nat_lt label missing then label else label - 1)) f ∙ ap (λ (b : Bool). if b then label else label - 1) t)

pub behind_it : (missing label : ℕ) → missing < 5 → label < 5 → label ≢ missing → missing ≤ label → label - 1 ≡ vertex missing label
behind_it missing label m l n more =
    let f : (label == missing) ≡ false = ne_eqb label missing n in
    let t : nat_lt label missing ≡ false = le-ltb label missing more in
    sym (vertex_told missing label m l ∙ ap (λ (b : Bool). if b then 4 else (if nat_lt label missing then label else label - 1)) f ∙ ap (λ (b : Bool). if b then label else label - 1) t)
