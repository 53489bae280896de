-- A cone is read if and only if it is in the grammar.
use Rattle.std.proofs.Common.{◌≡◌, ℕ, zero, suc, ℤ, List, [], ◌∷◌, ◌++◌, length, Ok, refl, sym, ap, ◌∙◌, subst, append-nil}
use Rattle.std.specs.Prelude.{codes, replicate}
use Rattle.std.specs.List.{AllZip}
use Rattle.std.proofs.lemmas.List.{length-replicate}
use Rattle.text_definitions.specs.Text.{Line}
use Rattle.text_definitions.specs.Reading.{Reading, ◌>>=◌, need_line_at, signed_at}
use Rattle.text_definitions.proofs.Readers.{bind_ok}
use Rattle.table_definitions.specs.Grammar.{AreWords, IsDecimalUpTo, IsSigned}
use Rattle.cone_text_definitions.specs.ConeText.{Cone, cone_row_at, cone_rows_at, rows_of_cone_at, cone_at, coefficients_at}
use Rattle.text_document_definitions.specs.ConeGrammar.{IsCoefficientLine, AreConeRows, AreConeLines}
use Rattle.text_document_laws.proofs.Chains.{Reader, made}
use Rattle.text_document_laws.proofs.ConeSteps.{closed_row, row_on}
use Rattle.text_document_laws.proofs.ConeWays.{behind, behind_first, one_first, cone_of}
use Rattle.text_document_laws.proofs.Links.{OnLine, Below, ReadsOn, ReadsBelow, on_as, below_as, on_named, on_word, on_number, reads_signed, on_end, below_line, below_made, below_pure, IsLine, AreLines, below_none, below_more}

-- n coefficients, and what is read after them
module _ {B : Type 0} where
  abbrev Across : ℕ → (List ℤ → OnLine B) → OnLine B
  Across n R x ws ls rest = (row : List ℤ) × (front : List (List ℕ)) × (others : List (List ℕ)) × (ws ≡ front ++ others) × AllZip (IsSigned 1000000) front row × (length row ≡ n) × R row x others ls rest

  from_none : (R : List ℤ → OnLine B) (x : B) (ws : List (List ℕ)) (ls rest : List Line) → Across 0 R x ws ls rest → R [] x ws ls rest
  from_none R x ws ls rest ([], [], others, s, z, many, h) = subst (λ (vs : List (List ℕ)). R [] x vs ls rest) (sym s) h
  from_none R x ws ls rest ([], v ∷ front, others, s, z, many, h) = absurd z
  from_none R x ws ls rest (y ∷ row, front, others, s, z, many, h) = absurd cc

  abbrev First : ℕ → (List ℤ → OnLine B) → OnLine B
  First n R x ws ls rest = (z : ℤ) × (v : List ℕ) × (others : List (List ℕ)) × (ws ≡ v ∷ others) × IsSigned 1000000 v z × Across n (λ r. R (z ∷ r)) x others ls rest

  from_more : (n : ℕ) (R : List ℤ → OnLine B) (x : B) (ws : List (List ℕ)) (ls rest : List Line) → Across (suc n) R x ws ls rest → First n R x ws ls rest
  from_more n R x ws ls rest ([], front, others, s, z, many, h) = absurd cc
  from_more n R x ws ls rest (y ∷ row, [], others, s, z, many, h) = absurd z
  from_more n R x ws ls rest (y ∷ row, v ∷ front, others, s, z, many, h) = (y, v, front ++ others, s, z.0, (row, front, others, refl, z.1, cc, h))

  on_coefficients : (n : ℕ) (more : List ℤ → Reader B) (R : List ℤ → OnLine B) → ((r : List ℤ) → ReadsOn (more r) (R r)) → ReadsOn (behind n more) (Across n R)
  unfolding coefficients_at
  on_coefficients zero more R one = on_as (more []) (R []) (Across 0 R) (λ x ws ls rest h. ([], [], ws, refl, tt, refl, h)) (from_none R) (one [])
  on_coefficients (suc n) more R one =
      subst (λ (r : Reader B). ReadsOn r (Across (suc n) R)) (λ i c. one_first n more c i)
      (on_as _ (First n R) (Across (suc n) R)
      (λ x ws ls rest (z, v, others, s, h, (row, front, last, t, zs, many, k)). (z ∷ row, v ∷ front, last, s ∙ ap (λ (vs : List (List ℕ)). v ∷ vs) t, (h, zs), ap suc many, k)) (from_more n R)
      (on_word (signed_at 1000000) (IsSigned 1000000) (reads_signed 1000000) (behind_first n more) (λ z. Across n (λ r. R (z ∷ r))) (λ z. on_coefficients n (λ r. more (z ∷ r)) (λ r. R (z ∷ r)) (λ r. one (z ∷ r)))))

-- rows
abbrev Closed : List ℤ → OnLine (List ℤ)
Closed r x ws ls rest = (ws ≡ []) × ((r ≡ x) × (ls ≡ rest))

below_row : (columns : ℕ) → ReadsBelow (cone_row_at columns) (IsLine (IsCoefficientLine columns))
unfolding cone_row_at
below_row columns =
    below_as (cone_row_at columns) _ (IsLine (IsCoefficientLine columns))
    (λ row ls rest (l, more, ws, split, a, (r, front, others, s, zs, many, (none, (same, last)))). (
      l,
      split ∙ ap (λ (ks : List Line). l ∷ ks) last,
      subst (IsCoefficientLine columns l) same
          (record { ws = front; are_words = subst (AreWords l.tokens) (s ∙ ap (λ (vs : List (List ℕ)). front ++ vs) none ∙ append-nil front) a; coefficients = zs; many = many }),
    ))
    (λ row ls rest (l, split, h). (l, rest, h.ws, split, h.are_words, (row, h.ws, [], sym (append-nil h.ws), h.coefficients, h.many, (refl, (refl, refl)))))
    (below_line (row_on columns) (Across columns Closed) (on_coefficients columns closed_row Closed (λ r. on_end (λ end. Ok (r, end)) (λ x ls rest. (r ≡ x) × (ls ≡ rest)) (below_pure r))))

below_rows : (n columns : ℕ) → ReadsBelow (cone_rows_at n columns) (AreLines (IsCoefficientLine columns) n)
unfolding cone_rows_at
below_rows zero columns = below_none (IsCoefficientLine columns)
below_rows (suc n) columns = below_more (IsCoefficientLine columns) n (cone_row_at columns) (cone_rows_at n columns) (below_row columns) (below_rows n columns)

abbrev AreRows : ℕ → ℕ → Below (List (List ℤ))
AreRows columns n rows ls rest = (lines : List Line) × (ls ≡ lines ++ rest) × AreConeRows columns lines rows × (length rows ≡ n)

below_cone_rows : (columns n : ℕ) → ReadsBelow (rows_of_cone_at columns n) (AreRows columns n)
below_cone_rows zero n =
    below_as (rows_of_cone_at 0 n) _ (AreRows 0 n)
    (λ rows ls rest (same, last). (let many : length rows ≡ n = ap (λ (rs : List (List ℤ)). length rs) (sym same) ∙ length-replicate n [] in
    ([], last, (refl, sym same ∙ ap (λ (k : ℕ). replicate k []) (sym many)), many)))
    (λ rows ls rest (lines, split, (none, same), many). (sym (same ∙ ap (λ (k : ℕ). replicate k []) many), split ∙ ap (λ (ks : List Line). ks ++ rest) none))
    (below_pure (replicate n []))
below_cone_rows (suc columns) n = below_rows n (suc columns)

-- a cone, its first line the current one
abbrev IsCone : OnLine Cone
IsCone cone ws ls rest = (v : List ℕ) × (w : List ℕ) × (lines : List Line) × (ws ≡ codes "cone" ∷ v ∷ w ∷ []) × IsDecimalUpTo 10000 v cone.columns × IsDecimalUpTo 10000 w (length cone.rows) × (ls ≡ lines ++ rest) × AreConeRows cone.columns lines cone.rows

on_cone : ReadsOn cone_at IsCone
unfolding cone_at
on_cone =
    on_as cone_at _ IsCone
    (λ cone ws ls rest (o1, p1, (columns, v, o2, p2, number, (n, w, o3, p3, counted, (none, (rows, same, (lines, split, are, many)))))).
    subst (λ (k : Cone). IsCone k ws ls rest) same
    (v, w, lines, p1 ∙ ap (λ (vs : List (List ℕ)). codes "cone" ∷ vs) (p2 ∙ ap (λ (vs : List (List ℕ)). v ∷ vs) (p3 ∙ ap (λ (vs : List (List ℕ)). w ∷ vs) none)), number, subst (IsDecimalUpTo 10000 w) (sym many) counted, split, are))
    (λ cone ws ls rest (v, w, lines, p, number, counted, split, are). (v ∷ w ∷ [], p, (cone.columns, v, w ∷ [], refl, number, (length cone.rows, w, [], refl, counted, (refl, (cone.rows, refl, (lines, split, are, refl)))))))
    (on_named (codes "cone") _ _ (on_number 10000 _ _ (λ columns. on_number 10000 _ _ (λ n. on_end (made (cone_of columns) (rows_of_cone_at columns n)) _ (below_made (cone_of columns) (rows_of_cone_at columns n) (AreRows columns n) (below_cone_rows columns n))))))

pub record ConeRead (c : Reading) (cone : Cone) (d : Reading) : Type 0 where
  pub lines : List Line
  pub split : c.later ≡ lines ++ d.later
  pub cone_lines : AreConeLines (c.current ∷ lines) cone
  pub at_end : d.current.tokens ≡ []

pub cone_read : (c : Reading) (cone : Cone) (d : Reading) → cone_at c ≡ Ok (cone, d) → ConeRead c cone d
cone_read c cone d e = by_words (on_cone.sound c cone d e)
  where
    by_words : ((ws : List (List ℕ)) × AreWords c.current.tokens ws × IsCone cone ws c.later d.later) → ConeRead c cone d
    by_words (ws, a, (v, w, lines, p, number, counted, split, are)) =
        record { lines = lines; split = split; cone_lines = (v, w, subst (AreWords c.current.tokens) p a, number, counted, are); at_end = on_cone.at_end c cone d e }

-- `cone` is read from the next lines, and `rest` remains
pub record ReadsLines (c : Reading) (cone : Cone) (rest : List Line) : Type 0 where
  pub left : Reading
  pub read : need_line_at c >>= cone_at ≡ Ok (cone, left)
  pub later : left.later ≡ rest
  pub at_end : left.current.tokens ≡ []

pub cone_found : (c : Reading) (cone : Cone) (lines rest : List Line) → c.later ≡ lines ++ rest → AreConeLines lines cone → ReadsLines c cone rest
cone_found c cone [] rest split h = absurd h
cone_found c cone (l ∷ lines) rest split h =
    let all = below_line cone_at IsCone on_cone in
    let f = all.complete c cone rest (l, lines ++ rest, codes "cone" ∷ h.0 ∷ h.1 ∷ [], split, h.2, (h.0, h.1, lines, refl, h.3, h.4, refl, h.5)) in
    record { left = f.0; read = f.1; later = f.2; at_end = by_line f.0 f.1 }
  where
    by_line : (d : Reading) → need_line_at c >>= cone_at ≡ Ok (cone, d) → d.current.tokens ≡ []
    by_line d e = (let f = bind_ok (need_line_at c) cone_at (cone, d) e in on_cone.at_end f.0 cone d f.2)
