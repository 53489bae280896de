-- From a side in a boundary face the walk around its end reaches another such side.
use Rattle.std.proofs.Common.{◌≡◌, ◌≢◌, ℕ, zero, suc, ◌+◌, ◌*◌, ◌<◌, ◌≤◌, Bool, true, false, not, List, [], ◌∷◌, length, map, Option, Some, None, ◌⊎◌, inl, inr, refl, sym, ap, ◌∙◌, subst, arith}
use Rattle.std.specs.Prelude.{◌||◌, is_none}
use Rattle.std.proofs.lemmas.Bool.{or_parts, or_cases, not-true}
use Rattle.std.proofs.lemmas.List.{length-map}
use Rattle.std.proofs.lemmas.List.FromFn.{length-range_with_len}
use Rattle.table_definitions.specs.Classes.{IsNumbering}
use Rattle.table_definitions.specs.Lists.{below, has}
use Rattle.table_definitions.specs.Table.{Gluing, glue, other_side}
use Rattle.table_definitions.proofs.Listed.{map-among, has_among}
use Rattle.table_definitions.proofs.TableLaws.{Among, Among-below, Among-map}
use Rattle.skeleton_definitions.specs.Corners.{Corner, Reaches, left_through, came_through}
use Rattle.skeleton_definitions.specs.Links.{SameDirected}
use Rattle.skeleton_definitions.specs.Skeleton.{Skeleton}
use Rattle.table_definitions.proofs.DistinctLists.{AreApart, map_apart, apart_short}
use Rattle.surface_laws.proofs.CornerSteps.{LeadsOn}
use Rattle.surface_quad_laws.proofs.Rounds.{next_is, next_once, reaches_next}
use Rattle.surface_quad_lift_laws.proofs.Ends.{end_of, end_mate}
use Rattle.surface_quad_lift_laws.proofs.Flags.{IsVertexClass, IsFlag, mate, mate-next, mate_in, flip_in, side, flip}
use Rattle.surface_quad_lift_laws.proofs.FreeSides.{none_is}
use Rattle.surface_quad_lift_laws.proofs.Growing.{apart_covers}
use Rattle.surface_quad_lift_laws.proofs.OneSides.{same_side}
use Rattle.surface_quad_lift_laws.proofs.OneWay.{no_flip}
use Rattle.surface_quad_lift_laws.proofs.Searches.{search_list, has_not}
use Rattle.skeleton_class_laws.proofs.Rounds.{next}

-- the number of a flag
abbrev pub code : Corner → ℕ
code k = 4 * side k + k.b

module _ (s : Skeleton) (c : ℕ) (z : IsVertexClass s c) where
  abbrev n : ℕ
  n = length s.rows

  pub code_tells : (k l : Corner) → IsFlag s c z k → IsFlag s c z l → code k ≡ code l → k ≡ l
  code_tells k l h m e =
      let lb : k.b < 4 = (h.four).b in
      let lb' : l.b < 4 = (m.four).b in
      let sides : side k ≡ side l = omega arith in
      let ends : k.b ≡ l.b = omega arith in
      elim (same_side s c z k l h m sides) [
        | inl q ↦ q
        | inr q ↦ absurd ((m.four).bd (sym ends ∙ ap (λ (u : Corner). u.b) q))
      ]

  code_below : (k : Corner) → IsFlag s c z k → code k < 64 * n
  code_below k h = let a = (h.four).a in let b = (h.four).b in let cc_ = (h.four).c in let t = (h.four).tet in omega arith

  module _ (directions : List ℕ) (count : ℕ) (numbered : IsNumbering (12 * length s.rows) (SameDirected s.rows) directions count) where
    abbrev end : Corner → ℕ
    end k = end_of s c z directions count numbered k

    module _ (start : Corner) (start_free : glue s.rows (came_through start) ≡ None) where
      -- what the walk reaches is a flag with the same end
      pub record IsReached (w : Corner) : Type 0 where
        pub flag : IsFlag s c z w
        pub same_end : end w ≡ end start
        pub reached : Reaches s.rows start w

      reached_next : (w : Corner) → IsReached w → LeadsOn s.rows w → IsReached (next s.rows w)
      reached_next w h on =
          let over : IsFlag s c z (mate s.rows w) = mate_in s c z w h.flag in
          let flipped : flip (mate s.rows w) ≡ next s.rows w = ap flip (mate-next s.rows w on) in
          record {
            flag = subst (IsFlag s c z) flipped (flip_in s c z (mate s.rows w) over);
            same_end = ap end (sym flipped) ∙ end_mate s c z directions count numbered w h.flag over ∙ h.same_end;
            reached = reaches_next s.rows start w h.reached on;
          }

      leads : (w : Corner) → is_none (glue s.rows (left_through w)) ≡ false → LeadsOn s.rows w
      leads w e = go (glue s.rows (left_through w)) refl
        where
          go : (o : Option Gluing) → glue s.rows (left_through w) ≡ o → LeadsOn s.rows w
          go None q = absurd (let b : true ≡ false = ap (λ (o : Option Gluing). is_none o) (sym q) ∙ e in cc)
          go (Some g) q = record { g = g; glued = q }

      -- no step reaches the start
      never_start : (w : Corner) → LeadsOn s.rows w → next s.rows w ≡ start → ⊥
      never_start w on e =
          let back = (z.skeleton).table.leads_back (left_through w) on.g on.glued in
          let at : came_through start ≡ other_side (left_through w) on.g = ap came_through (sym e) ∙ ap came_through (next_is s.rows w on) in
          absurd (let b = sym start_free ∙ ap (glue s.rows) at ∙ back in cc)

      -- the other boundary side
      pub record HasFree : Type 0 where
        pub w : Corner
        pub is : IsReached w
        pub free : glue s.rows (left_through w) ≡ None

      walk : (fuel : ℕ) (vs : List Corner) → AreApart (map code vs) → AreApart vs → ((w : Corner) → Among w vs → IsReached w) → Among start vs → 64 * n < length vs + fuel → HasFree
      walk zero vs separate apart_vs all there l =
          absurd (let short : length (map code vs) ≤ length (below (64 * n)) = apart_short (map code vs) (below (64 * n)) separate (λ x a. let m = map-among code x vs a in subst (λ u. Among u (below (64 * n))) (sym m.2) (Among-below (code m.0) (64 * n) (code_below m.0 (all m.0 m.1).flag))) in
          let size : length (map code vs) ≡ length vs = length-map vs code in
          let bound : length (below (64 * n)) ≡ 64 * n = length-range_with_len 0 (64 * n) in
          omega arith)
      walk (suc fuel) vs separate apart_vs all there l = by_search (search_list test vs) (λ w a on new. walk fuel (next s.rows w ∷ vs) (has_not (map code vs) (code (next s.rows w)) new, separate)
          ((λ b. has_not (map code vs) (code (next s.rows w)) new (Among-map code (next s.rows w) vs b)), apart_vs)
          (λ v b. elim b [ inl q ↦ subst IsReached (sym q) (reached_next w (all w a) on) | inr d ↦ all v d ]) (inr there) (omega arith))
        where
          test : Corner → Bool
          test w = is_none (glue s.rows (left_through w)) || not (has (map code vs) (code (next s.rows w)))

          by_search : ((w : Corner) × Among w vs × (test w ≡ true)) ⊎ ((w : Corner) → Among w vs → test w ≡ false)
              → ((w : Corner) → Among w vs → LeadsOn s.rows w → has (map code vs) (code (next s.rows w)) ≡ false → HasFree) → HasFree
          by_search (inl f) again = go (is_none (glue s.rows (left_through f.0))) refl
            where
              go : (b : Bool) → is_none (glue s.rows (left_through f.0)) ≡ b → HasFree
              go true e = record { w = f.0; is = all f.0 f.1; free = none_is (glue s.rows (left_through f.0)) e }
              go false e = again f.0 f.1 (leads f.0 e) (not-true (has (map code vs) (code (next s.rows f.0)))
                  (elim (or_cases (is_none (glue s.rows (left_through f.0))) (not (has (map code vs) (code (next s.rows f.0)))) f.2) [ inl q ↦ absurd (let b : false ≡ true = sym e ∙ q in cc) | inr q ↦ q ]))
          by_search (inr none) again = absurd (closed none)
            where
              unnot : (b : Bool) → not b ≡ false → b ≡ true
              unnot true e = refl
              unnot false e = absurd cc

              closed : ((w : Corner) → Among w vs → test w ≡ false) → ⊥
              closed none =
                  let on : (w : Corner) → Among w vs → LeadsOn s.rows w = λ w a. leads w (or_parts (is_none (glue s.rows (left_through w))) (not (has (map code vs) (code (next s.rows w)))) (none w a)).0 in
                  let inside : (w : Corner) → Among w vs → Among (next s.rows w) vs = λ w a.
                  let listed : has (map code vs) (code (next s.rows w)) ≡ true = unnot (has (map code vs) (code (next s.rows w))) (or_parts (is_none (glue s.rows (left_through w))) (not (has (map code vs) (code (next s.rows w)))) (none w a)).1 in
                  let m = map-among code (code (next s.rows w)) vs (has_among (map code vs) (code (next s.rows w)) listed) in
                  subst (λ (u : Corner). Among u vs) (sym (code_tells (next s.rows w) m.0 (reached_next w (all w a) (on w a)).flag (all m.0 m.1).flag m.2)) m.1 in
                  let size : length (map (next s.rows) vs) ≡ length vs = length-map vs (next s.rows) in
                  let onto = apart_covers (map (next s.rows) vs) vs
                  (map_apart (next s.rows) vs apart_vs (λ v w a b e. next_once s.rows (z.skeleton).table v w ((all v a).flag).four (on v a) ((all w b).flag).four (on w b) e))
                  (λ x a. let m = map-among (next s.rows) x vs a in subst (λ (u : Corner). Among u vs) (sym m.2) (inside m.0 m.1)) (omega arith) start there in
                  let m = map-among (next s.rows) start vs onto in
                  never_start m.0 (on m.0 m.1) (sym m.2)

    -- another boundary side with the same end
    pub record HasPartner (k : Corner) : Type 0 where
      pub w : Corner
      pub flag : IsFlag s c z w
      pub free : glue s.rows (left_through w) ≡ None
      pub same_end : end w ≡ end k
      pub other : code w ≢ code k

    pub partner_of : (k : Corner) → IsFlag s c z k → glue s.rows (left_through k) ≡ None → HasPartner k
    partner_of k h free =
        let flag : IsFlag s c z (flip k) = flip_in s c z k h in
        let begin : IsReached (flip k) free (flip k) = record { flag = flag; same_end = refl; reached = (0, refl) } in
        let f : HasFree (flip k) free = walk (flip k) free (64 * n) (flip k ∷ []) ((λ a. a), tt) ((λ a. a), tt) (λ w a. elim a [ inl q ↦ subst (IsReached (flip k) free) (sym q) begin | inr b ↦ absurd b ]) (inl refl) (omega arith) in
        let r = (f.is).reached in
        record {
          w = f.w;
          flag = (f.is).flag;
          free = f.free;
          same_end = (f.is).same_end;
          other = λ e. no_flip s.rows (z.skeleton).table r.0 (flip k) flag.four (r.1 ∙ ap Some (code_tells f.w k (f.is).flag h e));
        }
