-- Paths, joined and reversed.
use Rattle.std.proofs.Common.{◌≡◌, ◌<◌, ◌↔◌, ℕ, zero, suc, inl, inr, List, [], ◌∷◌, ◌++◌, length, slice_index, Contains, Option, None, Some, refl, sym, ap, subst, ◌∙◌, arith}
use Rattle.std.specs.Prelude.{option_to_list}
use Rattle.basic_lemmas.proofs.Members.{contains_at}
use Rattle.table_walk_laws.specs.Walks.{after, Reaches}
use Rattle.table_walk_laws.specs.Joined.{LeadsBy, IsJoined, IsLink, IsSymmetric}
use Rattle.table_walk_laws.proofs.Places.{place_of}
use Rattle.table_walk_laws.proofs.Steps.{after_before, after_first}
use Rattle.table_walk_laws.specs.Laws.{JoinsLikeEquals, LinksLikeEquals}

abbrev JoinedBy : (ℕ → ℕ → Type 0) → ℕ → ℕ → Type 0
JoinedBy R x y = (path : List ℕ) × LeadsBy R x path y

module _ (R : ℕ → ℕ → Type 0) where
  leads_on : (x y z : ℕ) (path more : List ℕ) → LeadsBy R x path y → LeadsBy R y more z → LeadsBy R x (path ++ more) z
  leads_on x y z [] more e q = subst (λ a. LeadsBy R a more z) (sym e) q
  leads_on x y z (a ∷ path) more p q = (p.0, leads_on a y z path more p.1 q)

  onward_by : (x y z : ℕ) → JoinedBy R x y → JoinedBy R y z → JoinedBy R x z
  onward_by x y z p q = (p.0 ++ q.0, leads_on x y z p.0 q.0 p.1 q.1)

  one_more_by : (x y z : ℕ) → JoinedBy R x y → R y z → JoinedBy R x z
  one_more_by x y z p r = onward_by x y z p (z ∷ [], (r, refl))

  leads_back : ((x y : ℕ) → R x y → R y x) → (x y : ℕ) (path : List ℕ) → LeadsBy R x path y → JoinedBy R y x
  leads_back turn x y [] e = ([], sym e)
  leads_back turn x y (a ∷ path) p = one_more_by y a x (leads_back turn a y path p.1) (turn x a p.0)

leads_too : (R S : ℕ → ℕ → Type 0) → ((x y : ℕ) → R x y → S x y) → (x y : ℕ) (path : List ℕ) → LeadsBy R x path y → LeadsBy S x path y
leads_too R S into x y [] e = e
leads_too R S into x y (a ∷ path) p = (into x a p.0, leads_too R S into a y path p.1)

module _ (neighbours : ℕ → List ℕ) where
  pub joined_more : (x y z : ℕ) → IsJoined neighbours x y → Contains (neighbours y) z → IsJoined neighbours x z
  joined_more = one_more_by (λ a b. Contains (neighbours a) b)

  pub joins_like_equals : JoinsLikeEquals neighbours
  joins_like_equals = record {
    itself = λ x. ([], refl);
    onward = onward_by (λ a b. Contains (neighbours a) b);
    back = λ turn x y p. leads_back (λ a b. Contains (neighbours a) b) turn x y p.0 p.1;
  }

  backwards : (x y : ℕ) → IsLink neighbours x y → IsLink neighbours y x
  backwards x y (inl h) = inr h
  backwards x y (inr h) = inl h

  straight : IsSymmetric neighbours → (x y : ℕ) → IsLink neighbours x y → Contains (neighbours x) y
  straight turn x y (inl h) = h
  straight turn x y (inr h) = turn y x h

  pub links_like_equals : LinksLikeEquals neighbours
  links_like_equals = record {
    itself = λ x. ([], refl);
    onward = onward_by (IsLink neighbours);
    back = λ x y p. leads_back (IsLink neighbours) backwards x y p.0 p.1;
    from_joined = λ x y p. (p.0, leads_too (λ a b. Contains (neighbours a) b) (IsLink neighbours) (λ a b h. inl h) x y p.0 p.1);
    joined = λ turn x y p. (p.0, leads_too (IsLink neighbours) (λ a b. Contains (neighbours a) b) (straight turn) x y p.0 p.1);
  }

-- the list of an optional number contains its number alone
at_option : (o : Option ℕ) (x : ℕ) → o ≡ Some x → Contains (option_to_list o) x
at_option o x e = subst (λ a. Contains (option_to_list a) x) (sym e) (contains_at (x ∷ []) 0 x (omega arith) refl)

from_option : (o : Option ℕ) (x : ℕ) → Contains (option_to_list o) x → o ≡ Some x
from_option None x c = absurd (let l : c.0 < 0 = c.1 in omega arith)
from_option (Some y) x c = let p = place_of (y ∷ []) x c in go p.0 p.1 p.2
  where
    go : (k : ℕ) → k < length (y ∷ []) → slice_index (y ∷ []) k ≡ x → Some y ≡ Some x
    go zero l e = ap Some e
    go (suc k) l e = absurd (omega arith)

joined_after : (step : ℕ → Option ℕ) (start k x : ℕ) → after step start k ≡ Some x → IsJoined (λ y. option_to_list (step y)) start x
joined_after step start zero x e = ([], let s : start ≡ x = cc in s)
joined_after step start (suc k) x e = let b = after_before step start k x e in
    joined_more (λ y. option_to_list (step y)) start b.0 x (joined_after step start k b.0 b.1) (at_option (step b.0) x b.2)

reached_by : (step : ℕ → Option ℕ) (x y : ℕ) (path : List ℕ) → LeadsBy (λ a b. Contains (option_to_list (step a)) b) x path y → Reaches step x y
reached_by step x y [] e = (0, ap Some e)
reached_by step x y (z ∷ path) p = let r = reached_by step z y path p.1 in (suc r.0, after_first step x z r.0 (from_option (step x) z p.0) ∙ r.1)

pub reached_is_joined : (step : ℕ → Option ℕ) (start x : ℕ) → Reaches step start x ↔ IsJoined (λ y. option_to_list (step y)) start x
reached_is_joined step start x = (λ r. joined_after step start r.0 x r.1, λ p. reached_by step start x p.0 p.1)
