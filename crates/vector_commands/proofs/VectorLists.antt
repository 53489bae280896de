-- The entries of vectors, one after another.
use Rattle.std.proofs.Common.{◌≡◌, ℕ, zero, suc, ◌<◌, ◌+◌, List, [], ◌∷◌, ◌++◌, length, take, get_or, Vec, refl, sym, ap, ◌∙◌, arith}
use Rattle.std.specs.declared.alloc.Global.{Global}
use Rattle.std.specs.List.{slice_index_or}
use Rattle.command_answers.specs.Reads.{all_entries}

more : (vs : List (Vec ℕ Global)) (v : ℕ) (x : Vec ℕ Global) → v < length vs → x ≡ get_or vs v x → all_entries (take (suc v) vs) ≡ all_entries (take v vs) ++ x.items ∷ []
more [] v x l e = absurd (omega arith)
more (w ∷ vs) zero x l e = ap (λ (q : Vec ℕ Global). q.items ∷ []) (sym e)
more (w ∷ vs) (suc v) x l e = ap (λ (t : List (List ℕ)). w.items ∷ t) (more vs v x (omega arith) e)

pub entries_more : (vs : List (Vec ℕ Global)) (v : ℕ) (x : Vec ℕ Global) → v < length vs → x ≡ get_or vs v x → all_entries (take (v + 1) vs) ≡ all_entries (take v vs) ++ x.items ∷ []
entries_more vs v x l e = (let n : v + 1 ≡ suc v = omega arith in ap (λ (k : ℕ). all_entries (take k vs)) n) ∙ more vs v x l e

pub entries_at : (vs : List (Vec ℕ Global)) (v : ℕ) (x : Vec ℕ Global) → v < length vs → x ≡ get_or vs v x → slice_index_or (all_entries vs) v [] ≡ x.items
entries_at [] v x l e = absurd (omega arith)
entries_at (w ∷ vs) zero x l e = ap (λ (q : Vec ℕ Global). q.items) (sym e)
entries_at (w ∷ vs) (suc v) x l e = entries_at vs v x (omega arith) e

pub entries_front : (vs : List (Vec ℕ Global)) (v : ℕ) → all_entries (take v vs) ≡ take v (all_entries vs)
entries_front [] zero = refl
entries_front [] (suc v) = refl
entries_front (w ∷ vs) zero = refl
entries_front (w ∷ vs) (suc v) = ap (λ (t : List (List ℕ)). w.items ∷ t) (entries_front vs v)

pub as_many : (vs : List (Vec ℕ Global)) → length (all_entries vs) ≡ length vs
as_many [] = refl
as_many (w ∷ vs) = ap suc (as_many vs)
