-- The first move that is accepted, core by core, and tetrahedron by tetrahedron.
use Rattle.std.proofs.Common.{◌≡◌, ℕ, zero, suc, ◌+◌, ◌-◌, ◌<◌, Bool, true, false, cond, List, [], ◌∷◌, length, get_or, take, drop, Option, Some, None, refl, sym, ap, ◌∙◌, arith}
use Rattle.std.specs.Prelude.{find}
use Rattle.std.specs.Option.{option_or}
use Rattle.std.proofs.lemmas.List.{map-append, take_more, take-append-drop}
use Rattle.std.proofs.lemmas.List.Folds.{find-append}
use Rattle.move_definitions.specs.Moves.{Move}
use Rattle.move_definitions.specs.Certificates.{moves_at, moves_with}
use Rattle.move_definitions.proofs.MoveLists.{moves_more}

abbrev move_with : ℕ → List ℕ → Move
move_with t core = record { tet = t; core = core }

-- if none of the cores so far is accepted, the next one is or is not
one_core : (p : Move → Bool) (t : ℕ) (cores : List (List ℕ)) (i : ℕ) (core : List ℕ) → i < length cores → core ≡ get_or cores i core → find p (moves_at t (take i cores)) ≡ None
    → find p (moves_at t (take (i + 1) cores)) ≡ find p (moves_at t (core ∷ []))
one_core p t cores i core l is none =
    ap (λ (cs : List (List ℕ)). find p (moves_at t cs)) (take_more cores i core l)
    ∙ ap (find p) (map-append (move_with t) (take i cores) (get_or cores i core ∷ []))
    ∙ find-append p (moves_at t (take i cores)) (moves_at t (get_or cores i core ∷ []))
    ∙ ap (λ (o : Option Move). option_or o (find p (moves_at t (get_or cores i core ∷ [])))) none
    ∙ ap (λ (c : List ℕ). find p (moves_at t (c ∷ []))) (sym is)

pub core_passed : (p : Move → Bool) (t : ℕ) (cores : List (List ℕ)) (i : ℕ) (core : List ℕ) → i < length cores → core ≡ get_or cores i core → find p (moves_at t (take i cores)) ≡ None
    → p (record { tet = t; core = core }) ≡ false → find p (moves_at t (take (i + 1) cores)) ≡ None
core_passed p t cores i core l is none e = one_core p t cores i core l is none ∙ ap (λ b. cond b (Some (move_with t core)) None) e

pub core_found : (p : Move → Bool) (t : ℕ) (cores : List (List ℕ)) (i : ℕ) (core : List ℕ) → i < length cores → core ≡ get_or cores i core → find p (moves_at t (take i cores)) ≡ None
    → p (record { tet = t; core = core }) ≡ true → find p (moves_at t cores) ≡ Some (record { tet = t; core = core })
core_found p t cores i core l is none e =
    ap (λ (cs : List (List ℕ)). find p (moves_at t cs)) (sym (take-append-drop (i + 1) cores))
    ∙ ap (find p) (map-append (move_with t) (take (i + 1) cores) (drop (i + 1) cores))
    ∙ find-append p (moves_at t (take (i + 1) cores)) (moves_at t (drop (i + 1) cores))
    ∙ ap (λ (o : Option Move). option_or o (find p (moves_at t (drop (i + 1) cores)))) (one_core p t cores i core l is none ∙ ap (λ b. cond b (Some (move_with t core)) None) e)

found_next : (p : Move → Bool) (cores : List (List ℕ)) (t : ℕ) → find p (moves_with cores t) ≡ None → find p (moves_with cores (suc t)) ≡ find p (moves_at t cores)
found_next p cores t e = ap (find p) (moves_more cores t) ∙ find-append p (moves_with cores t) (moves_at t cores) ∙ ap (λ (o : Option Move). option_or o (find p (moves_at t cores))) e

found_stays : (p : Move → Bool) (cores : List (List ℕ)) (t k n : ℕ) (m : Move) → n ≡ k + t → find p (moves_with cores t) ≡ Some m → find p (moves_with cores n) ≡ Some m
found_stays p cores t zero n m is e =
    let same : n ≡ t = omega arith in ap (λ i. find p (moves_with cores i)) same ∙ e
found_stays p cores t (suc k) n m is e =
    let same : n ≡ suc (k + t) = omega arith in
    ap (λ i. find p (moves_with cores i)) same
    ∙ ap (find p) (moves_more cores (k + t)) ∙ find-append p (moves_with cores (k + t)) (moves_at (k + t) cores)
    ∙ ap (λ (o : Option Move). option_or o (find p (moves_at (k + t) cores))) (found_stays p cores t k (k + t) m refl e)

-- what is found first is found in all, and if nothing is found, the search continues
pub found_first : (p : Move → Bool) (cores : List (List ℕ)) (t n : ℕ) (m : Move) → t < n → find p (moves_with cores t) ≡ None → find p (moves_at t cores) ≡ Some m → find p (moves_with cores n) ≡ Some m
found_first p cores t n m l none e =
    found_stays p cores (suc t) (n - suc t) n m (omega arith) (found_next p cores t none ∙ e)

pub found_none : (p : Move → Bool) (cores : List (List ℕ)) (t : ℕ) → find p (moves_with cores t) ≡ None → find p (moves_at t cores) ≡ None → find p (moves_with cores (t + 1)) ≡ None
found_none p cores t none e =
    let next : t + 1 ≡ suc t = omega arith in
    ap (λ k. find p (moves_with cores k)) next ∙ found_next p cores t none ∙ e
