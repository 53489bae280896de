-- What holds of the tables so far holds with one more table.
use Rattle.std.proofs.Common.{◌≡◌, ℕ, ◌+◌, ◌<◌, ◌≤◌, inl, inr, ⊎_elim, List, [], ◌∷◌, ◌++◌, length, length-append, Option, Some, None, Vec, vec_len, sym, ap, subst, arith}
use Rattle.std.specs.declared.alloc.Global.{Global}
use Rattle.std.proofs.Math.ListN.{get_or-append}
use Rattle.std.proofs.Math.Seq.{get_or-append_seam}
use Rattle.basic_lemmas.proofs.Numbers.{last_or_before}
use Rattle.table_definitions.specs.Table.{Row, IsTable}
use Rattle.table_definitions.specs.Places.{IsConnected, IsLeastUnreached}
use Rattle.signature_definitions.specs.Spelling.{IsSignature}
use Rattle.signature_definitions.specs.Census.{table_in, IsCensus, IsClassed}
use Rattle.signature_definitions.proofs.CensusLaws.{census_extends}
use Rattle.signature_laws.proofs.Uniqueness.{tells_tables}
use Rattle.table_commands.specs.declared.groups.DisconnectedTable.{DisconnectedTable}
use Rattle.table_commands.specs.declared.groups.Groups.{Groups}
use Rattle.table_commands.specs.Groups.{AreConnected, AreClassed, IsFirstFound, AreGroupedBy, AreGrouped}

classed_where : (tables : List (List Row)) (classes : List ℕ) (signatures : List (List ℕ)) (found : Option DisconnectedTable) → found ≡ None
    → AreGroupedBy tables classes signatures found → AreClassed tables classes signatures
classed_where tables classes signatures None e h = h
classed_where tables classes signatures (Some f) e h = absurd cc

where_classed : (tables : List (List Row)) (classes : List ℕ) (signatures : List (List ℕ)) (found : Option DisconnectedTable) → found ≡ None
    → AreClassed tables classes signatures → AreGroupedBy tables classes signatures found
where_classed tables classes signatures None e h = h
where_classed tables classes signatures (Some f) e h = absurd cc

module _ (tables : List (List Row)) (a : List Row) where
  abbrev more : List (List Row)
  more = tables ++ a ∷ []

  one_more : length more ≡ length tables + 1
  one_more = length-append tables (a ∷ [])

  earlier : (k : ℕ) → k < length tables → table_in more k ≡ table_in tables k
  earlier k h = get_or-append tables (a ∷ []) [] k h

  last : table_in more (length tables) ≡ a
  last = get_or-append_seam tables a [] []

  -- what holds of each table and of one more
  each_more : (P : List Row → Type 0) → ((k : ℕ) → k < length tables → P (table_in tables k)) → P a → (k : ℕ) → k < length more → P (table_in more k)
  each_more P h one k less = ⊎_elim (λ (l : k < length tables). subst P (sym (earlier k l)) (h k l))
      (λ (e : k ≡ length tables). subst (λ (j : ℕ). P (table_in more j)) (sym e) (subst P (sym last) one))
      (last_or_before (length tables) k (omega (arith, one_more)))

  still_connected : (n : ℕ) → n ≤ length tables → AreConnected tables n → AreConnected more n
  still_connected n within h k less = subst IsConnected (sym (earlier k (omega arith))) (h k less)

  few_placed : (before : List (List ℕ)) (text : List ℕ) (class : ℕ) (now : List (List ℕ)) → IsClassed before text class now → length now ≤ length before + 1
  few_placed before text class now (inl k) = omega (arith, ap length k.kept)
  few_placed before text class now (inr f) = omega (arith, ap length f.appended, length-append before (text ∷ []))

  -- a connected table
  pub class_added : (before : Groups) (class : ℕ) (census : List (List ℕ)) (classes : Vec ℕ Global) → before.found ≡ None → classes.items ≡ before.classes.items ++ class ∷ []
      → (text : List ℕ) × IsSignature a text × IsClassed before.census text class census → IsConnected a → IsTable a → AreGrouped tables before
      → AreGrouped more (record { census = census; classes = classes; found = before.found })
  class_added before class census classes none pushed added connected table g = record {
    are_tables = each_more IsTable g.are_tables table;
    bounded_classes = let limited = g.bounded_classes in omega (arith, one_more, ap length pushed, length-append before.classes.items (class ∷ []));
    bounded_signatures = let limited = g.bounded_signatures in omega (arith, one_more, few_placed before.census added.0 class census added.2);
    grouped = where_classed more classes.items census before.found none (record {
      connected = each_more IsConnected so_far.connected connected;
      census = subst (λ (cs : List ℕ). IsCensus more cs census) (sym pushed)
          (census_extends tells_tables tables a before.classes.items before.census added.0 class census
          (record { are_tables = g.are_tables; table = table; census = so_far.census; signature = added.1; placed = added.2 }));
    });
  }
    where
      so_far : AreClassed tables before.classes.items before.census
      so_far = classed_where tables before.classes.items before.census before.found none g.grouped

  -- the first table that is not connected
  pub found_first : (before : Groups) (census : List (List ℕ)) (table tet : ℕ) → before.found ≡ None → census ≡ before.census → table ≡ vec_len before.classes
      → IsLeastUnreached a tet → IsTable a → AreGrouped tables before
      → AreGrouped more (record { census = census; classes = before.classes; found = Some (record { table = table; tet = tet }) })
  found_first before census table tet none kept counted least is_table g = record {
    are_tables = each_more IsTable g.are_tables is_table;
    bounded_classes = let limited = g.bounded_classes in omega (arith, one_more);
    bounded_signatures = let limited = g.bounded_signatures in omega (arith, one_more, ap length kept);
    grouped = record {
      in_range = omega (arith, one_more, place);
      before = still_connected table (omega (arith, place)) (λ k h. so_far.connected k (omega (arith, place)));
      unreached = subst (λ (k : ℕ). IsLeastUnreached (table_in more k) tet) (sym place) (subst (λ (rows : List Row). IsLeastUnreached rows tet) (sym last) least);
    };
  }
    where
      so_far : AreClassed tables before.classes.items before.census
      so_far = classed_where tables before.classes.items before.census before.found none g.grouped

      place : table ≡ length tables
      place = let n = so_far.census.numbering.one_each in omega (arith, before.classes.ok.0)

  -- after the first table that is not connected nothing changes
  pub still_found : (before : Groups) (found : DisconnectedTable) → before.found ≡ Some found → IsTable a → AreGrouped tables before → AreGrouped more before
  still_found before found e table g = record {
    are_tables = each_more IsTable g.are_tables table;
    bounded_classes = let limited = g.bounded_classes in omega (arith, one_more);
    bounded_signatures = let limited = g.bounded_signatures in omega (arith, one_more);
    grouped = subst (AreGroupedBy more before.classes.items before.census) (sym e) (record {
      in_range = let less = first.in_range in omega (arith, one_more);
      before = still_connected found.table (let less = first.in_range in omega arith) first.before;
      unreached = subst (λ (rows : List Row). IsLeastUnreached rows found.tet) (sym (earlier found.table first.in_range)) first.unreached;
    });
  }
    where
      first : IsFirstFound tables found
      first = subst (AreGroupedBy tables before.classes.items before.census) e g.grouped
