-- Equal entries are those of equal rows.
use Rattle.std.proofs.Common.{◌≡◌, ℕ, ℤ, int_eq, ◌&&◌, ◌==◌, inl, sym, ap, ◌∙◌}
use Rattle.std.specs.Bool.{Decides}
use Rattle.std.proofs.lemmas.Bool.Decides.{Decides-and, Decides-like, Decides-eqb, Decides-int_eq}
use Rattle.std.proofs.lemmas.Slice.Eq.{slice_eq-Decides}
use Rattle.row_reduction.proofs.known.is_same_up_to_sign.Goals as goal

terms_decide : (a b : ℕ × ℤ) → Decides ((a.0 == b.0) && int_eq a.1 b.1) (a ≡ b)
terms_decide a b = Decides-like ((a.0 == b.0) && int_eq a.1 b.1)
    (λ h. ap (λ n. (n, a.1)) h.0 ∙ ap (λ z. (b.0, z)) h.1)
    (λ e. (ap (λ (t : ℕ × ℤ). t.0) e, ap (λ (t : ℕ × ℤ). t.1) e))
    (Decides-and (a.0 == b.0) (int_eq a.1 b.1) (Decides-eqb a.0 b.0) (Decides-int_eq a.1 b.1))

pub returns-then-eq : goal.returns-then-eq
returns-then-eq c _ =
    let e : c.entries.result.now ≡ c.entries-2.result.now = (slice_eq-Decides terms_decide _ _ _ c.eq.ensures).0 c.if-eq.true in
    inl (sym c.entries.ensures.entries ∙ e ∙ c.entries-2.ensures.entries)
