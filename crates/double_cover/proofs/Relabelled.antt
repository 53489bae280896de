-- Relabellings by a list of images that keep the numbers of all vertices: the deck transformation and the split.
use Rattle.std.proofs.Common.{◌≡◌, ℕ, ◌*◌, Bool, List, length, map, replicate, sym, ap, ◌∙◌, subst}
use Rattle.std.proofs.lemmas.List.FromFn.{length-map-range_with_len}
use Rattle.table_definitions.specs.Lists.{below}
use Rattle.table_definitions.specs.Permutation.{identity}
use Rattle.table_definitions.specs.Table.{Row, IsTable}
use Rattle.table_definitions.specs.Relabelling.{Relabelling, IsRelabelling, Carries}
use Rattle.skeleton_definitions.specs.Orientation.{AreSigns}
use Rattle.cover_definitions.specs.Cover.{above, over, sheet, other_sheet, copy_of, cover, exchange, split, two_copies}
use Rattle.cover_laws.proofs.Plain.{by_numbers}
use Rattle.cover_laws.proofs.Moved.{exchange_carries, split_carries}

-- the relabelling by these images
abbrev pub by_list : List ℕ → Relabelling
by_list images = record { images = images; perms = replicate (length images) identity }

pub length-images : (m : ℕ) (f : ℕ → ℕ) (images : List ℕ) → images ≡ map f (below m) → length images ≡ m
length-images m f images e = ap length e ∙ length-map-range_with_len f 0 m

same_relabelling : (m : ℕ) (f : ℕ → ℕ) (images : List ℕ) → images ≡ map f (below m) → by_list images ≡ by_numbers m f
same_relabelling m f images e = λ i. record { images = e i; perms = replicate (length-images m f images e i) identity }

relabels : (m : ℕ) (f : ℕ → ℕ) (images : List ℕ) → images ≡ map f (below m) → IsRelabelling m (by_numbers m f) → IsRelabelling (length images) (by_list images)
relabels m f images e h =
    subst (λ k. IsRelabelling k (by_list images)) (sym (length-images m f images e)) (subst (IsRelabelling m) (sym (same_relabelling m f images e)) h)

-- ---- the deck transformation

abbrev pub exchanged : ℕ → ℕ → ℕ
exchanged n u = above n (over n u) (other_sheet (sheet n u))

module _ (rows : List Row) (images : List ℕ) (e : images ≡ map (exchanged (length rows)) (below (2 * length rows))) where
  pub exchange_is : by_list images ≡ exchange (length rows)
  unfolding exchange
  exchange_is = same_relabelling (2 * length rows) (exchanged (length rows)) images e

  pub exchange_relabels : IsTable rows → IsRelabelling (length images) (by_list images)
  unfolding exchange
  exchange_relabels table = relabels (2 * length rows) (exchanged (length rows)) images e (exchange_carries rows table).0

  pub exchange_moves : IsTable rows → Carries (by_list images) (cover rows) (cover rows)
  exchange_moves table = subst (λ (by : Relabelling). Carries by (cover rows) (cover rows)) (sym exchange_is) (exchange_carries rows table).1

-- ---- the split

abbrev pub parted : List Bool → ℕ → ℕ → ℕ
parted signs n u = above n (over n u) (copy_of n signs u)

module _ (rows : List Row) (signs : List Bool) (images : List ℕ) (e : images ≡ map (parted signs (length rows)) (below (2 * length rows))) where
  pub split_is : by_list images ≡ split (length rows) signs
  unfolding split
  split_is = same_relabelling (2 * length rows) (parted signs (length rows)) images e

  pub split_relabels : IsTable rows → AreSigns rows signs → IsRelabelling (length images) (by_list images)
  unfolding split
  split_relabels table agree = relabels (2 * length rows) (parted signs (length rows)) images e (split_carries rows table signs agree).0

  pub split_moves : IsTable rows → AreSigns rows signs → Carries (by_list images) (cover rows) (two_copies rows)
  split_moves table agree = subst (λ (by : Relabelling). Carries by (cover rows) (two_copies rows)) (sym split_is) (split_carries rows table signs agree).1
