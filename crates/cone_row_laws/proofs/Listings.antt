-- Surface lists if all numbers are bounded.
use Rattle.std.proofs.Common.{◌≢◌, ℕ, Bool, List, length}
use Rattle.std.specs.List.{range_with_len}
use Rattle.std.specs.List.Sorted.{IsPermutation}
use Rattle.cone_definitions.specs.Surfaces.{IsSurfaceList}
use Rattle.cone_definitions.specs.Elimination.{Named}
use Rattle.cone_definitions.specs.Orders.{AreNamed}
use Rattle.cone_definitions.specs.Listings.{Enumeration, IsListed, ExceedsLimit}
use Rattle.cone_definitions.specs.declared.Order.TheVariants.{Free}
use Rattle.cone_definitions.proofs.PastLimit.{none_past}
use Rattle.cone_bound_laws.proofs.Numbers.{are_within}
use Rattle.cone_row_laws.specs.Listings.{IsBounded}

pub listed : (e : Enumeration) (free : ℕ → Bool) (group cap : ℕ → ℕ) (groups size : ℕ) → IsBounded e free group cap groups size →
    (taken : List ℕ) (list : List (List ℕ)) → IsPermutation (range_with_len 0 (length e.system.rows)) taken → AreNamed e.order e.system taken →
    IsSurfaceList e.system.columns e.system.rows e.pairs list → IsListed e taken list
listed e free group cap groups size h taken list perm named surfaces = record {
  surfaces = surfaces;
  all = perm;
  named = named;
  within = are_within e.limit e.system e.pairs free group cap groups size h.caps h.most taken perm;
}

pub not_past : (e : Enumeration) (free : ℕ → Bool) (group cap : ℕ → ℕ) (groups size : ℕ) → IsBounded e free group cap groups size → e.order ≢ Free →
    (all taken : List ℕ) (list : List (List ℕ)) (kind : Named) → IsPermutation (range_with_len 0 (length e.system.rows)) all → AreNamed e.order e.system all →
    IsSurfaceList e.system.columns e.system.rows e.pairs list → ¬ ExceedsLimit e taken kind
not_past e free group cap groups size h ne all taken list kind perm named surfaces = none_past e all taken list kind ne (listed e free group cap groups size h all list perm named surfaces)
