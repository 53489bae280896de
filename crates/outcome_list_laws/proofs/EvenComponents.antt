-- Each description has even Euler characteristics where it says that the components are orientable.
use Rattle.std.proofs.Common.{◌≡◌, ◌≢◌, ℕ, true, false, List, [], ◌∷◌, None, Result, Ok, Err, inl, inr, All, sym, ap, ◌∙◌, subst}
use Rattle.std.specs.List.{AllZip, slice_index_or}
use Rattle.std.proofs.lemmas.List.Elements.{All-nil, All-cons, All-contains, Contains-get_or}
use Rattle.cone_definitions.specs.Rows.{Row as EquationRow}
use Rattle.table_definitions.specs.Lists.{below}
use Rattle.table_definitions.specs.Places.{is_closed}
use Rattle.table_definitions.specs.Table.{Row}
use Rattle.table_definitions.proofs.Listed.{among_contains, contains_among}
use Rattle.table_definitions.proofs.TableLaws.{Among-below}
use Rattle.skeleton_definitions.specs.Orientation.{IsOrientable}
use Rattle.skeleton_definitions.specs.Skeleton.{Skeleton, IsSkeleton, IsFirstInvalid}
use Rattle.surface_definitions.specs.declared.Coords.{Coords}
use Rattle.surface_definitions.specs.declared.Coords.TheVariants.{Quad}
use Rattle.surface_definitions.specs.Characteristic.{meets_boundary}
use Rattle.surface_definitions.specs.Pieces.{AreComponents}
use Rattle.surface_definitions.specs.QuadEquations.{AreEquations}
use Rattle.surface_vector_definitions.specs.Answers.{Description, IsDescription, AreAnswered}
use Rattle.surface_vector_definitions.specs.Components.{Component, IsComponent, AreListedComponents}
use Rattle.surface_vector_definitions.specs.Properties.{characteristic, AreProperties}
use Rattle.surface_vector_definitions.specs.declared.Refusal.{Refusal}
use Rattle.text_document_definitions.specs.Documents.{vectors_document}
use Rattle.command_definitions.specs.declared.Request.TheVariants.{Describe}
use Rattle.outcome_definitions.specs.declared.Status.TheVariants.{Done}
use Rattle.outcome_definitions.specs.Outcomes.{Outcome}
use Rattle.outcome_definitions.specs.Vectors.{describe_outcome, AreDescribed, IsDescribeAnswer}
use Rattle.surface_laws.specs.MatchingLaws.{HasTriangles}
use Rattle.surface_laws.specs.PieceLaws.{IsSurface}
use Rattle.surface_laws.proofs.FitSurfaces.{surface_is}
use Rattle.surface_double_laws.specs.Laws.{IsEven}
use Rattle.surface_link_laws.proofs.DescribedSides.{described_alike}
use Rattle.surface_double_laws.proofs.EvenComponents.{part_even, parts_even}
use Rattle.surface_double_laws.proofs.Spheres.{none_meets}
use Rattle.outcome_answer_laws.proofs.Asked.{answer_to, answer_to_value}
use Rattle.outcome_answer_laws.specs.Requests.{IsOutcomeTo}
use Rattle.outcome_written_laws.proofs.Lifts.{never_done}
use Rattle.outcome_list_laws.specs.EvenComponents.{IsEvenWhereOrientable, IsEvenWhereTwoSided, PrintsEach, OrientablePrintedAreEven, TwoSidedPrintedAreEven}
use Rattle.outcome_list_laws.proofs.Runs.{refused_not_done}
use Rattle.outcome_list_laws.proofs.Parts.{euler_printed}
use Rattle.outcome_list_laws.proofs.Zipped.{zip_back, zip_on}

not_quad : (coords : Coords) → HasTriangles coords → coords ≢ Quad
not_quad coords h e = absurd (subst HasTriangles e h)

module _ (s : Skeleton) (k : IsSkeleton s) (valid : IsFirstInvalid s None) (coords : Coords) (triangles : HasTriangles coords) (equations : List EquationRow) (of_table : AreEquations coords s.rows equations) where
  abbrev IsResult : List ℕ → Description → Type 0
  IsResult v d = IsDescription s coords equations v (Ok d)

  told_even : (v : List ℕ) (d : Description) → IsResult v d → IsEvenWhereOrientable s coords d
  told_even v d t boundary =
      let surface : IsSurface s.rows coords v = surface_is coords s.rows equations v (not_quad coords triangles) k.table of_table t.0 in
      let reported : AreProperties s coords v d.properties = t.2.1 in
      let listed : AreListedComponents s.rows coords v d.components = t.3.1 in
      let none : meets_boundary s.rows coords v ≡ false = sym reported.boundary ∙ boundary in (
        each surface listed.classes listed.count listed.numbered none (below listed.count) d.components listed.each,
        λ all. subst IsEven (sym (euler_printed s coords v d reported))
            (parts_even s coords v listed.classes listed.count k valid surface listed.numbered (λ i l.
            let c = zip_on (IsComponent s.rows coords v listed.classes) (below listed.count) d.components listed.each i (Among-below i listed.count l) in
            (c.2).orientable.0 (All-contains (λ (c : Component). c.orientable ≡ true) d.components c.0 all (contains_among c.0 d.components c.1))) none),
      )
    where
      each : IsSurface s.rows coords v → (classes : List ℕ) (count : ℕ) → AreComponents s.rows coords v classes count → meets_boundary s.rows coords v ≡ false → (is : List ℕ) (cs : List Component)
          → AllZip (IsComponent s.rows coords v classes) is cs → All (λ (c : Component). c.orientable ≡ true → IsEven (characteristic s coords c.vector)) cs
      each w classes count numbered none [] [] h = All-nil (λ (c : Component). c.orientable ≡ true → IsEven (characteristic s coords c.vector))
      each w classes count numbered none [] (c ∷ cs) h = absurd h
      each w classes count numbered none (i ∷ is) [] h = absurd h
      each w classes count numbered none (i ∷ is) (c ∷ cs) h =
          All-cons (λ (c : Component). c.orientable ≡ true → IsEven (characteristic s coords c.vector)) c cs
          (λ yes. subst (λ (ys : List ℕ). IsEven (characteristic s coords ys)) (sym (h.0).vector) (part_even s coords v classes count k valid w numbered i ((h.0).orientable.0 yes) none))
          (each w classes count numbered none is cs h.1)

  told_two_sided : is_closed s.rows ≡ true → IsOrientable s.rows → (v : List ℕ) (d : Description) → IsResult v d → IsEvenWhereTwoSided s coords d
  told_two_sided closed orientable v d t =
      let reported : AreProperties s coords v d.properties = t.2.1 in
      let even = told_even v d t (reported.boundary ∙ none_meets s coords v closed) in
      let alike : All (λ (c : Component). c.two_sided ≡ c.orientable) d.components = described_alike s coords equations v d (not_quad coords triangles) k orientable of_table t in (
        λ i c l two. even.0 i c l (sym (alike i c l) ∙ two),
        λ all. even.1 (λ i c l. sym (alike i c l) ∙ all i c l),
      )

  prints_each : (IsPrinted : Skeleton → Coords → Description → Type 0) → ((v : List ℕ) (d : Description) → IsResult v d → IsPrinted s coords d)
      → (rows : List Row) → s.rows ≡ rows → (vectors : List (List ℕ)) (o : Outcome) → o.status ≡ Done → (reported : Result (List Description) (ℕ × Refusal)) → AreAnswered (IsDescription s coords equations) vectors reported
      → o ≡ describe_outcome s coords reported → PrintsEach IsPrinted coords rows o
  prints_each IsPrinted is rows of_rows vectors o done (Err refusal) t e = absurd (never_done refusal.1 (sym (ap (λ (q : Outcome). q.status) e) ∙ done))
  prints_each IsPrinted is rows of_rows vectors o done (Ok reported) t e = record {
    skeleton = s;
    of_rows = of_rows;
    is_skeleton = k;
    printed = reported;
    outcome = e;
    each = λ i d l. let m = zip_back IsResult vectors reported t (slice_index_or reported i d) (among_contains (slice_index_or reported i d) reported (Contains-get_or reported i d l)) in is m.0 (slice_index_or reported i d) m.2;
  }

-- what holds of each description of a table without invalid edges holds of each vector of an outcome that is done
printed_lem : (IsPrinted : Skeleton → Coords → Description → Type 0) (coords : Coords) (rows : List Row)
    → ((s : Skeleton) → s.rows ≡ rows → (k : IsSkeleton s) (valid : IsFirstInvalid s None) (equations : List EquationRow) (of_table : AreEquations coords s.rows equations) (v : List ℕ) (d : Description)
    → IsDescription s coords equations v (Ok d) → IsPrinted s coords d)
    → (words : List (List ℕ)) (bytes : List ℕ) (o : Outcome) (vectors : List (List ℕ)) → HasTriangles coords → IsOutcomeTo (Describe coords) words bytes o → vectors_document bytes ≡ Ok (rows, vectors) → o.status ≡ Done
    → PrintsEach IsPrinted coords rows o
printed_lem IsPrinted coords rows is words bytes o vectors triangles asked read done =
    let answer : IsDescribeAnswer coords (rows, vectors) o = answer_to_value (vectors_document bytes) (rows, vectors) (IsDescribeAnswer coords) o read (answer_to (Describe coords) words bytes o asked) in
    elim answer.reported [
      | inl invalid ↦ absurd (refused_not_done o _ invalid.2 done)
      | inr reported ↦ (let d : AreDescribed answer.skeleton coords vectors o = reported.1 in
          prints_each answer.skeleton answer.is_skeleton reported.0 coords triangles d.equations d.of_table IsPrinted (is answer.skeleton answer.of_rows answer.is_skeleton reported.0 d.equations d.of_table)
          rows answer.of_rows vectors o done d.reported d.described d.outcome)
    ]

pub orientable_printed_lem : OrientablePrintedAreEven
orientable_printed_lem words bytes o coords rows vectors triangles asked read done =
    printed_lem IsEvenWhereOrientable coords rows (λ s of_rows k valid equations of_table. told_even s k valid coords triangles equations of_table) words bytes o vectors triangles asked read done

pub two_sided_printed_lem : TwoSidedPrintedAreEven
two_sided_printed_lem words bytes o coords rows vectors triangles closed orientable asked read done =
    printed_lem IsEvenWhereTwoSided coords rows
    (λ s of_rows k valid equations of_table. told_two_sided s k valid coords triangles equations of_table (subst (λ rs. is_closed rs ≡ true) (sym of_rows) closed) (subst IsOrientable (sym of_rows) orientable))
    words bytes o vectors triangles asked read done
