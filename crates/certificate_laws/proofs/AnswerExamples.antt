-- The answers to tables whose signature is known, and to one that is disconnected.
use Rattle.std.proofs.Common.{◌≡◌, ℕ, zero, suc, ◌<◌, false, List, [], ◌∷◌, Some, None, Err, refl, ap, ◌∙◌, arith, inr}
use Rattle.std.specs.Prelude.{codes}
use Rattle.std.proofs.lemmas.Bool.{false≢true}
use Rattle.table_definitions.specs.Lists.{same_list}
use Rattle.table_definitions.specs.Table.{Row, IsTable}
use Rattle.table_definitions.specs.Places.{Place, whole, across, along, SameComponent, IsConnected}
use Rattle.table_definitions.proofs.ChainLaws.{joined_refl}
use Rattle.table_definitions.proofs.Tables.{table_gb, row, free}
use Rattle.table_definitions.proofs.Tests.{table_from}
use Rattle.signature_definitions.specs.Spelling.{IsSignature}
use Rattle.certificate_definitions.specs.Answers.{IsChecked, sphere_text, IsDescended}
use Rattle.certificate_definitions.specs.declared.CheckFault.TheVariants.{NotConnected, NotStandard}
use Rattle.certificate_definitions.proofs.Computed.{computed}
use Rattle.table_definitions.proofs.ListFacts.{same_list-refl}
use Rattle.certificate_laws.proofs.OneTetrahedron.{backwards, carried_test, least_test, one_tet_signature}
use Rattle.certificate_laws.proofs.Checked.{standard_text}

gb_table : IsTable table_gb
unfolding computed
gb_table = table_from table_gb refl refl refl

gb_signature : IsSignature table_gb (codes "bkaagb")
unfolding computed carried_test least_test backwards
gb_signature = one_tet_signature table_gb (codes "bkaagb") gb_table refl refl refl (record { table = gb_table; ordered = refl; spelled = refl })

other_text : codes "bkaagb" ≡ sphere_text → ⊥
other_text e = false≢true (ap (λ t. same_list t sphere_text) e ∙ same_list-refl sphere_text)

one_connected : IsConnected table_gb
one_connected zero zero lt lu = joined_refl table_gb (whole 0)
one_connected (suc t) u lt lu = absurd (omega arith)
one_connected t (suc u) lt lu = absurd (omega arith)

gb_refused : IsChecked table_gb [] (Err (NotStandard (codes "bkaagb")))
gb_refused = (table_gb, refl, one_connected, gb_signature, other_text)

-- a descent that ends at a table other than the standard sphere
gb_stuck : IsDescended table_gb (record { reached = false; moves = []; table = table_gb })
unfolding computed
gb_stuck = record { descent = (refl, inr refl); reached = (λ e. absurd (false≢true e), λ s. absurd (other_text (standard_text table_gb (codes "bkaagb") gb_table s gb_signature))) }

-- two tetrahedra without gluings
abbrev two_free : List Row
two_free = row free free free free ∷ row free free free free ∷ []

none_across : (f : ℕ) → across two_free (whole 0) f ≡ None
none_across zero = refl
none_across (suc zero) = refl
none_across (suc (suc zero)) = refl
none_across (suc (suc (suc zero))) = refl
none_across (suc (suc (suc (suc f)))) = refl

two_apart : SameComponent two_free 0 1 → ⊥
two_apart ([], e) = tets (whole 0) (whole 1) refl refl e
  where
    tets : (p q : Place) → p.tet ≡ 0 → q.tet ≡ 1 → Some p ≡ Some q → ⊥
    tets p q a b e = (let same : p ≡ q = cc in let t : p.tet ≡ q.tet = ap (λ (r : Place). r.tet) same in omega arith)
two_apart (f ∷ fs, e) = (let none : along two_free (whole 0) (f ∷ fs) ≡ None = rw (none_across f) refl in cc)

two_refused : IsChecked two_free [] (Err (NotConnected 1))
two_refused = (two_free, refl, record { in_range = omega arith; unreached = two_apart; reached_before = λ u l. before u l })
  where
    before : (u : ℕ) → u < 1 → SameComponent two_free 0 u
    before zero l = joined_refl two_free (whole 0)
    before (suc u) l = absurd (omega arith)
