-- The greatest entry, vector by vector and entry by entry.
use Rattle.std.proofs.Common.{◌≡◌, ℕ, ◌+◌, ◌<◌, ◌≤◌, List, length, take, get_or, Some, sym, subst, arith}
use Rattle.std.specs.Prelude.{All}
use Rattle.std.proofs.lemmas.List.{take_more}
use Rattle.std.proofs.lemmas.List.Elements.{All-more, All-pop, All-weaker}
use Rattle.outcome_definitions.specs.Makings.{IsGreatestEntry}
use Rattle.certificate_commands.specs.Entries.{IsGreatestOf}

abbrev UpTo : ℕ → List ℕ → Type 0
UpTo most xs = All (λ entry. entry ≤ most) xs

higher : (low high : ℕ) → low ≤ high → (xs : List ℕ) → UpTo low xs → UpTo high xs
higher low high l xs h = All-weaker (λ entry. entry ≤ low) (λ entry. entry ≤ high) (λ entry m. omega arith) xs h

-- entries

pub one_entry : (least : ℕ) (xs : List ℕ) (i g g' : ℕ) → i < length xs → IsGreatestOf least (take i xs) g → g ≤ g' → get_or xs i 0 ≤ g' → ((most : ℕ) → g ≤ most → get_or xs i 0 ≤ most → g' ≤ most)
    → IsGreatestOf least (take (i + 1) xs) g'
one_entry least xs i g g' l h more there such = record {
  from = (let f = h.from in omega arith);
  up_to = All-more (λ entry. entry ≤ g') xs i 0 l (higher g g' more (take i xs) h.up_to) there;
  least_such = λ most m all. (let p = All-pop (λ entry. entry ≤ most) (take (i + 1) xs) (take i xs) (Some (get_or xs i 0)) (take_more xs i 0 l) all in such most (h.least_such most m p.0) p.1);
}

-- vectors

pub one_vector : (list : List (List ℕ)) (i : ℕ) (x : List ℕ) (g g' : ℕ) → i < length list → x ≡ get_or list i x → IsGreatestEntry (take i list) g → IsGreatestOf g x g' → IsGreatestEntry (take (i + 1) list) g'
one_vector list i x g g' l is h k = record {
  up_to = All-more (UpTo g') list i x l (All-weaker (UpTo g) (UpTo g') (λ ys a. higher g g' k.from ys a) (take i list) h.up_to) (subst (UpTo g') is k.up_to);
  least = λ most all. (let p = All-pop (UpTo most) (take (i + 1) list) (take i list) (Some (get_or list i x)) (take_more list i x l) all in k.least_such most (h.least most p.0) (subst (UpTo most) (sym is) p.1));
}
