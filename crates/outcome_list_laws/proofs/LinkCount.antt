-- The described surfaces that are printed as linking are the listed vertex links.
use Rattle.std.proofs.Common.{◌≡◌, ℕ, Bool, true, false, List, [], ◌∷◌, ◌++◌, filter, length, suc, Result, Ok, Err, refl, sym, ap, ◌∙◌}
use Rattle.std.specs.Prelude.{if◌then◌else◌}
use Rattle.std.specs.List.{AllZip}
use Rattle.cone_definitions.specs.Rows.{Row as EquationRow}
use Rattle.table_definitions.specs.Table.{Row}
use Rattle.table_definitions.specs.TableText.{table_text}
use Rattle.skeleton_definitions.specs.Skeleton.{Skeleton, IsSkeleton}
use Rattle.surface_definitions.specs.Characteristic.{is_linking}
use Rattle.surface_definitions.specs.declared.Coords.{Coords}
use Rattle.surface_vector_definitions.specs.Answers.{Description, IsDescription, AreAnswered}
use Rattle.surface_vector_definitions.specs.Properties.{AreProperties}
use Rattle.surface_vector_definitions.specs.declared.Refusal.{Refusal}
use Rattle.outcome_definitions.specs.declared.Status.TheVariants.{Done}
use Rattle.outcome_definitions.specs.Outcomes.{Outcome}
use Rattle.outcome_definitions.specs.Vectors.{describe_outcome, AreDescribed}
use Rattle.surface_laws.specs.MatchingLaws.{HasTriangles}
use Rattle.surface_agreement_laws.specs.VertexSurfaces.{IsSurfaceListOf}
use Rattle.surface_agreement_laws.proofs.CountedLinks.{counted}
use Rattle.outcome_written_laws.specs.Surfaces.{IsReadAsSurfaces}
use Rattle.outcome_written_laws.proofs.Surfaces.{surfaces_are_read_lem}
use Rattle.outcome_written_laws.proofs.Lifts.{never_done}
use Rattle.outcome_list_laws.specs.Runs.{ListRun}
use Rattle.outcome_list_laws.specs.LinkCount.{CountsLinks, InputsCountLinks, DescribedLinksAreCounted}
use Rattle.outcome_list_laws.proofs.Runs.{listed_skeleton, listed_of, answered}

-- items of two lists that pass the same tests, counted
same_count : {A B : Type 0} (R : A → B → Type 0) (p : A → Bool) (q : B → Bool) → ((a : A) (b : B) → R a b → q b ≡ p a) → (xs : List A) (ys : List B) → AllZip R xs ys
    → length (filter q ys) ≡ length (filter p xs)
same_count R p q same [] [] z = refl
same_count R p q same [] (y ∷ ys) z = absurd z
same_count R p q same (x ∷ xs) [] z = absurd z
same_count {A} {B} R p q same (x ∷ xs) (y ∷ ys) z = by_test (p x) (q y) (same x y z.0) (same_count R p q same xs ys z.1)
  where
    by_test : (b c : Bool) → c ≡ b → length (filter q ys) ≡ length (filter p xs) → length (if c then y ∷ filter q ys else filter q ys) ≡ length (if b then x ∷ filter p xs else filter p xs)
    by_test true true e more = ap suc more
    by_test true false e more = absurd cc
    by_test false true e more = absurd cc
    by_test false false e more = more

module _ (s : Skeleton) (k : IsSkeleton s) (coords : Coords) (triangles : HasTriangles coords) (equations : List EquationRow) where
  abbrev IsResult : List ℕ → Description → Type 0
  IsResult v d = IsDescription s coords equations v (Ok d)

  linking_is : (v : List ℕ) (d : Description) → IsResult v d → d.properties.linking ≡ is_linking coords v
  linking_is v d t = let p : AreProperties s coords v d.properties = t.2.1 in p.linking

  -- an answer with the status of success describes all vectors
  counts_by : (rows : List Row) → s.rows ≡ rows → (list : List (List ℕ)) → IsSurfaceListOf s coords list → (o : Outcome) → o.status ≡ Done → (reported : Result (List Description) (ℕ × Refusal))
      → AreAnswered (IsDescription s coords equations) list reported → o ≡ describe_outcome s coords reported → CountsLinks coords rows o
  counts_by rows of_rows list surfaces o done (Err refusal) t e = absurd (never_done refusal.1 (sym (ap (λ (q : Outcome). q.status) e) ∙ done))
  counts_by rows of_rows list surfaces o done (Ok reported) t e = record {
    skeleton = s;
    of_rows = of_rows;
    is_skeleton = k;
    reported = reported;
    outcome = e;
    links = same_count IsResult (is_linking coords) (λ (d : Description). d.properties.linking) linking_is list reported t
        ∙ counted s k coords triangles list surfaces;
  }

pub inputs_count_links_lem : InputsCountLinks
inputs_count_links_lem coords rows list asked input p triangles listed read described done =
    let k = listed_skeleton coords rows list listed in
    let run : ListRun = record { words = asked; input = input; vectors = list; outcome = p } in
    let d : AreDescribed k.0 coords list p = (answered k.0 coords k.2 triangles rows k.1 run (record { read = read; asked = described; done = done })).1 in
    counts_by k.0 k.2 coords triangles d.equations rows k.1 list (listed_of coords rows list listed k.0 k.1 triangles) p done d.reported d.described d.outcome

-- the table as it is written, and what was printed, are such an input
pub described_links_are_counted_lem : DescribedLinksAreCounted
described_links_are_counted_lem words asked bytes o p coords order most rows triangles listed spelled done described finished =
    let read : IsReadAsSurfaces coords rows o.text = surfaces_are_read_lem words bytes o coords order most rows listed spelled done in
    inputs_count_links_lem coords rows read.list asked (table_text rows ++ o.text) p triangles
    (record { words = words; input = bytes; order = order; most = most; outcome = o; asked = listed; read = spelled; done = done; printed = read.read }) read.read described finished
