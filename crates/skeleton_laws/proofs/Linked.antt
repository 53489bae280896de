-- Each vertex class has a link.
use Rattle.std.proofs.Common.{◌≡◌, ◌≢◌, ◌↔◌, ℕ, zero, suc, ◌+◌, ◌*◌, ◌<◌, ◌⊎◌, inl, inr, Bool, true, false, List, [], ◌∷◌, ◌++◌, length, slice_index, add-one, refl, sym, subst, ◌∙◌, arith}
use Rattle.std.specs.Prelude.{IsTrue}
use Rattle.std.proofs.lemmas.Bool.{cases_lt, cases_eq, false≢true}
use Rattle.std.proofs.lemmas.List.{length_push}
use Rattle.cone_definitions.proofs.Below.{all_or_one}
use Rattle.table_definitions.specs.Lists.{times_in}
use Rattle.skeleton_definitions.specs.declared.Link.{Link}
use Rattle.skeleton_definitions.specs.Links.{link_edges, link_vertices, euler_of, is_closed_link, kind_of, IsOrientableLink, IsLink}
use Rattle.skeleton_definitions.specs.Skeleton.{Skeleton, IsSkeleton, AreLinksUpTo, AreLinks}
use Rattle.skeleton_class_laws.specs.declared.Kind.TheVariants.{Directions, VertexSigns}
use Rattle.skeleton_class_laws.proofs.LinkSigns.{is_consistent, orientable_by}
use Rattle.skeleton_class_laws.proofs.TallyLemmas.{each_more}
use Rattle.skeleton_class_laws.specs.Laws.{HasClasses}
use Rattle.skeleton_class_laws.proofs.Numbered.{classes_exist}

module _ (s : Skeleton) (k : IsSkeleton s) (d : HasClasses Directions s.rows) (v : HasClasses VertexSigns s.rows) where
  -- a member of class c is not joined to itself with the other sign, or it is
  abbrev Apart : ℕ → ℕ → Type 0
  Apart c i = i < 4 * length s.rows → slice_index s.vertices.classes i ≡ c → slice_index v.classes (2 * i) ≢ slice_index v.classes (2 * i + 1)

  abbrev Joined : ℕ → ℕ → Type 0
  Joined c i = (i < 4 * length s.rows) × (slice_index s.vertices.classes i ≡ c) × (slice_index v.classes (2 * i) ≡ slice_index v.classes (2 * i + 1))

  apart_or_joined : (c i : ℕ) → Apart c i ⊎ Joined c i
  apart_or_joined c i = elim (cases_lt i (4 * length s.rows)) [
    | inr exceeded ↦ inl (λ l. absurd (omega arith))
    | inl l ↦ elim (cases_eq (slice_index s.vertices.classes i) c) [
      | inr other ↦ inl (λ _ own. absurd (other own))
      | inl own ↦ elim (cases_eq (slice_index v.classes (2 * i)) (slice_index v.classes (2 * i + 1))) [
        | inl same ↦ inr (l, own, same)
        | inr differ ↦ inl (λ _ _. differ)
      ]
    ]
  ]

  link_orientable_or_not : (c : ℕ) → IsOrientableLink s.rows s.vertices.classes c ⊎ (IsOrientableLink s.rows s.vertices.classes c → ⊥)
  link_orientable_or_not c = elim (all_or_one (Apart c) (Joined c) (apart_or_joined c) (4 * length s.rows)) [
    | inl separate ↦ inl (orientable_by s.rows k.table s.vertices.classes s.vertices.count k.vertices v.classes v.count v.numbered c (λ i l. separate i l l))
    | inr w ↦ inr (λ o. is_consistent s.rows k.table s.vertices.classes s.vertices.count k.vertices v.classes v.count v.numbered c o w.0 w.2.0 w.2.1 w.2.2)
  ]

  reported : (c : ℕ) → (b : Bool) × (IsTrue b ↔ IsOrientableLink s.rows s.vertices.classes c)
  reported c = elim (link_orientable_or_not c) [
    | inl o ↦ (true, (λ _. o, λ _. refl))
    | inr never ↦ (false, (λ t. absurd (false≢true t), λ o. absurd (never o)))
  ]

  abbrev vertices_of : ℕ → ℕ
  vertices_of c = link_vertices s.vertices.classes d.classes c

  abbrev edges_of : ℕ → ℕ
  edges_of c = link_edges s.rows s.vertices.classes c

  abbrev triangles_of : ℕ → ℕ
  triangles_of c = times_in s.vertices.classes c

  abbrev link_with : ℕ → Bool → Link
  link_with c orientable = record {
    triangles = triangles_of c;
    edges = edges_of c;
    vertices = vertices_of c;
    euler = euler_of (vertices_of c) (edges_of c) (triangles_of c);
    closed = is_closed_link s.rows s.vertices.classes c;
    orientable = orientable;
    kind = kind_of (is_closed_link s.rows s.vertices.classes c) (euler_of (vertices_of c) (edges_of c) (triangles_of c)) orientable;
  }

  some_link : (c : ℕ) → (link : Link) × IsLink s.rows s.vertices.classes d.classes c link
  some_link c = let o = reported c in
      (link_with c o.0, record { triangles = refl; edges = refl; vertices = refl; euler = refl; closed = refl; orientable = o.1; kind = refl })

  links_up_to : (n : ℕ) → (links : List Link) × AreLinksUpTo s d.classes n links
  links_up_to zero = ([], record { one_each = refl; reported = λ c l m e. absurd (omega arith) })
  links_up_to (suc n) =
      let before = links_up_to n in
      let here = some_link n in (
        before.0 ++ here.0 ∷ [],
        subst (λ m. AreLinksUpTo s d.classes m (before.0 ++ here.0 ∷ [])) (add-one n) (record {
          one_each = length_push before.0 here.0 ∙ (let e = before.1.one_each in omega arith);
          reported = each_more (λ (m : ℕ) (l : Link). IsLink s.rows s.vertices.classes d.classes m l) before.0 here.0 n before.1.one_each before.1.reported here.1;
        }),
      )

  links_told : (links : List Link) × (length links ≡ s.vertices.count) × AreLinks s (length links) links
  links_told = let l = links_up_to s.vertices.count in
      (l.0, l.1.one_each, (d.classes, d.count, d.numbered, subst (λ n. AreLinksUpTo s d.classes n l.0) (sym l.1.one_each) l.1))

pub some_links : (s : Skeleton) → IsSkeleton s → (links : List Link) × (length links ≡ s.vertices.count) × AreLinks s (length links) links
some_links s k = links_told s k (classes_exist Directions s.rows k.table) (classes_exist VertexSigns s.rows k.table)
